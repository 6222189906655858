-- Nodes as they are sent, by their bodies.
use Rattle.std.proofs.Common.{◌≡◌, ℕ, List, length, map, Option, Some, None, option_map, refl, sym, ap, ◌∙◌, subst, codes}
use Rattle.serde_json.specs.Data.{Data, array, object, Items, Members, no_members, put}
use Rattle.text_core.specs.declared.by_key.KeyValue.{KeyValue}
use Rattle.diff_tree.specs.Tree.{list, Rows, Change, write}
use Rattle.diff_tree.specs.Client.{and_then}
use Rattle.diff_tree.specs.Parts.{part_data, place_data, row_data, rows_items, part_step, place_step, body_step, row_step, body_members, with_statics, with_stream, node_data, list_data, statics_of, body_of}
use Rattle.diff_tree.specs.declared.stream.StreamPart.{StreamPart}
use Rattle.diff_tree.specs.declared.part.Part.{Part}
use Rattle.diff_tree.specs.declared.part.PartBody.{PartBody, out-PartBody}
use Rattle.diff_tree.specs.declared.part.PartBody.TheVariants as body
use Rattle.diff_tree.specs.declared.part.PartBody.TheVariants.{rolls-Places, rolls-List}
use Rattle.diff_tree.specs.declared.part.PlaceValue.{PlaceValue}
use Rattle.diff_tree.specs.declared.part.Row.{Row}
use Rattle.diff_tree.specs.declared.part.PartBody.TheOpen.{PartBody-F}
use Rattle.diff_tree.specs.declared.part.PartBody.TheFolds.{fold_out-PartBody, fold-roll-PartBody, map-PartBody}
use Rattle.client_merge.specs.Reading.{change_of, tree_of, written}
use Rattle.client_merge.specs.Held.{sent_node, rows_sent}
use Rattle.client_merge.proofs.Members.{part_is, inner_only, unwritten_change}
use Rattle.client_merge.proofs.Rows.{list_whole, list_tree, bare_only, streamed}

-- the members of a list, whether its statics are put first or last
turned : (st : Option (List (List ℕ))) (d : Data) (s : Option StreamPart)
    → object (with_statics st (put (codes "d") d (with_stream s no_members))) ≡ object (put (codes "d") d (with_statics st (with_stream s no_members)))
turned None d s = refl
turned (Some st) d None = refl
turned (Some st) d (Some s) = refl

pub sent_places : (st : Option (List (List ℕ))) (es : List (KeyValue PlaceValue)) → sent_node st (body.Places es) ≡ node_data st es
sent_places st es =
    ap (λ ms. object (with_statics st ms)) (ap body_members (sym (rolls-Places es)) ∙ fold-roll-PartBody Members Data Data Items body_step place_step part_step row_step (PartBody-F.Places es))

pub sent_list : (st : Option (List (List ℕ))) (rs : List Row) (s : Option StreamPart) → sent_node st (body.List rs s) ≡ list_data st rs s
sent_list st rs s =
    ap (λ ms. object (with_statics st ms)) (ap body_members (sym (rolls-List rs s)) ∙ fold-roll-PartBody Members Data Data Items body_step place_step part_step row_step (PartBody-F.List rs s))
    ∙ turned st (array (rows_items (map row_data rs))) s

-- a fact of nodes of places and of lists is one of all nodes
pub of_bodies : (st : Option (List (List ℕ))) (P : Data → Type 0) → ((es : List (KeyValue PlaceValue)) → P (node_data st es)) → ((rs : List Row) (s : Option StreamPart) → P (list_data st rs s)) → (b : PartBody) → P (sent_node st b)
of_bodies st P places lists b = subst (λ ms. P (object (with_statics st ms))) (sym (fold_out-PartBody Members Data Data Items body_step place_step part_step row_step b)) (by (out-PartBody b))
  where
    by : (y : PartBody-F PartBody PlaceValue Part Row) → P (object (with_statics st (body_step (map-PartBody PartBody PlaceValue Part Row Members Data Data Items body_members place_data part_data row_data y))))
    by (PartBody-F.Places es) = places es
    by (PartBody-F.List rs s) = subst P (sym (turned st (array (rows_items (map row_data rs))) s)) (lists rs s)

-- what is sent with statics and is no tree is no change
unwritten_list : (st : List (List ℕ)) (rs : List Row) (s : Option StreamPart) → tree_of (list_data (Some st) rs s) ≡ None → change_of (list_data (Some st) rs s) ≡ None
unwritten_list st rs (Some s) h = streamed (Some st) rs (Some s) refl
unwritten_list st rs None h = by (rows_sent (length st) rs) (list_whole st rs) (sym (list_tree st rs) ∙ h)
  where
    by : (o : Option Rows) → change_of (list_data (Some st) rs None) ≡ option_map (λ q. write (list st q)) o → option_map (list st) o ≡ None → change_of (list_data (Some st) rs None) ≡ None
    by None is none = is
    by (Some q) is none = cc

pub unwritten_sent : (st : List (List ℕ)) (b : PartBody) → tree_of (sent_node (Some st) b) ≡ None → change_of (sent_node (Some st) b) ≡ None
unwritten_sent st = of_bodies (Some st) (λ d. tree_of d ≡ None → change_of d ≡ None) (unwritten_change st) (unwritten_list st)

-- what is sent without statics is no tree
bare_list : (rs : List Row) (s : Option StreamPart) → tree_of (list_data None rs s) ≡ None
bare_list rs None = bare_only rs written (λ q. refl)
bare_list rs (Some s) = ap (λ (o : Option Change). and_then o written) (streamed None rs (Some s) refl)

pub inner_unwritten : (p : Part) → None ≡ statics_of p → tree_of (part_data p) ≡ None
inner_unwritten p is =
    ap tree_of (part_is p ∙ ap (λ st. sent_node st (body_of p)) (sym is))
    ∙ of_bodies None (λ d. tree_of d ≡ None) (λ es. inner_only es written (λ cs. refl)) bare_list (body_of p)
