-- A root without what stands under `e`.
use Rattle.std.proofs.Common.{◌≡◌, ℕ, List, [], ◌∷◌, Option, Some, None, Bool, true, false, if◌then◌else◌, refl, sym, ap, ◌∙◌, subst, Ordering, Less, Equal, Greater}
use Rattle.std.specs.Ordering.{is_lt, is_eq, match_ordering}
use Rattle.std.specs.Str.{bytes_eq}
use Rattle.std.proofs.lemmas.Map.Text.{is_eq-slice_cmp}
use Rattle.std.proofs.lemmas.Map.Lookups.{exact_bytes}
use Rattle.serde_json.specs.Data.{Data, array, object, Members, no_members, member, put}
use Rattle.text_core.specs.declared.by_key.KeyValue.{KeyValue}
use Rattle.text_core.specs.Keyed.{is_before, ascend, keys, Ascending, without_key}
use Rattle.text_core.proofs.Keyed.{order, both_of, without_ascends}
use Rattle.diff_tree.specs.Plain.{names}
use Rattle.diff_tree.specs.Spelling.{texts_json}
use Rattle.diff_tree.specs.Grammar.{without}
use Rattle.diff_tree.specs.Parts.{part_data, place_data, with_statics, node_data, list_data, statics_of, body_of}
use Rattle.diff_tree.specs.declared.part.Part.{Part}
use Rattle.diff_tree.specs.declared.part.PartBody.TheVariants as body
use Rattle.diff_tree.specs.declared.part.PlaceValue.{PlaceValue}
use Rattle.diff_tree.specs.declared.part.Row.{Row}
use Rattle.diff_tree.specs.declared.stream.StreamPart.{StreamPart}
use Rattle.diff_tree.proofs.Order.{put_first, before_rest}
use Rattle.diff_tree.proofs.Members.{keeps_if}
use Rattle.client_merge.specs.Frames.{without_events}
use Rattle.client_merge.proofs.Members.{chain, places_chain, part_of, s_key}
use Rattle.client_merge.proofs.Sent.{sent_places, sent_list}
use Rattle.client_merge.proofs.JsonBack.{Absent}
use Rattle.client_merge.proofs.Events.{e_key, is_e, plain_same}

-- ---- places

names_chain : (es : List (KeyValue PlaceValue)) → names (chain es) ≡ keys es
names_chain [] = refl
names_chain (e ∷ es) = ap (λ l. e.key ∷ l) (names_chain es)

above : (es : List (KeyValue PlaceValue)) → is_before e_key (keys es) ≡ true → ascend (keys es) ≡ true → Absent e_key (chain es)
above [] h g = tt
above (x ∷ es) h g =
    let p = both_of (is_before x.key (keys es)) (ascend (keys es)) g in
    (not_equal (order e_key x.key) h, above es (before_rest e_key x.key (keys es) h p.0) p.1)
  where
    not_equal : (o : Ordering) → is_lt o ≡ true → o ≡ Equal → ⊥
    not_equal Less h is = cc
    not_equal Equal h is = cc
    not_equal Greater h is = cc

-- the place is left out
chain_without : (es : List (KeyValue PlaceValue)) → ascend (keys es) ≡ true → without e_key (chain es) ≡ chain (without_key e_key es)
chain_without [] h = refl
chain_without (x ∷ es) h = by (order e_key x.key) refl (chain_without es p.1)
  where
    p : (is_before x.key (keys es) ≡ true) × (ascend (keys es) ≡ true)
    p = both_of (is_before x.key (keys es)) (ascend (keys es)) h

    other : (o : Ordering) → order e_key x.key ≡ o → is_eq o ≡ false → without e_key (chain es) ≡ chain (without_key e_key es) → without e_key (chain (x ∷ es)) ≡ chain (without_key e_key (x ∷ es))
    other o is differs rest =
        keeps_if (bytes_eq x.key e_key) e_key x.key (place_data x.value) (chain es) (chain (without_key e_key es)) (is_e x.key o is ∙ differs) rest
        ∙ sym (ap (λ (b : Bool). chain (if b then es else x ∷ without_key e_key es)) (sym (is_eq-slice_cmp e_key x.key) ∙ ap is_eq is ∙ differs))

    by : (o : Ordering) → order e_key x.key ≡ o → without e_key (chain es) ≡ chain (without_key e_key es) → without e_key (chain (x ∷ es)) ≡ chain (without_key e_key (x ∷ es))
    by Less is rest = other Less is refl rest
    by Equal is rest =
        ap (λ (b : Bool). if b then without e_key (chain es) else member x.key (place_data x.value) (without e_key (chain es))) (is_e x.key Equal is)
        ∙ plain_same e_key (chain es) (above es (subst (λ k. is_before k (keys es) ≡ true) (sym (exact_bytes e_key x.key is)) p.0) p.1)
        ∙ sym (ap (λ (b : Bool). chain (if b then es else x ∷ without_key e_key es)) (sym (is_eq-slice_cmp e_key x.key) ∙ ap is_eq is))
    by Greater is rest = other Greater is refl rest

-- ---- statics

before_without : (k : List ℕ) (ms : Members) → is_before k (names ms) ≡ true → ascend (names ms) ≡ true → is_before k (names (without e_key ms)) ≡ true
before_without k no_members h g = refl
before_without k (member l x ms) h g = by (bytes_eq l e_key) (before_without k ms (before_rest k l (names ms) h p.0) p.1)
  where
    p : (is_before l (names ms) ≡ true) × (ascend (names ms) ≡ true)
    p = both_of (is_before l (names ms)) (ascend (names ms)) g

    by : (b : Bool) → is_before k (names (without e_key ms)) ≡ true → is_before k (names (if b then without e_key ms else member l x (without e_key ms))) ≡ true
    by true r = r
    by false r = h

put_without : (d : Data) (ms : Members) → ascend (names ms) ≡ true → without e_key (put s_key d ms) ≡ put s_key d (without e_key ms)
put_without d no_members g = refl
put_without d (member l x ms) g = by (order s_key l) refl (put_without d ms p.1)
  where
    p : (is_before l (names ms) ≡ true) × (ascend (names ms) ≡ true)
    p = both_of (is_before l (names ms)) (ascend (names ms)) g

    behind : (b : Bool) → order s_key l ≡ Greater → without e_key (put s_key d ms) ≡ put s_key d (without e_key ms)
        → (if b then without e_key (put s_key d ms) else member l x (without e_key (put s_key d ms))) ≡ put s_key d (if b then without e_key ms else member l x (without e_key ms))
    behind true is rest = rest
    behind false is rest =
        ap (member l x) rest
        ∙ sym (ap (λ o. match_ordering o (member s_key d (member l x (without e_key ms))) (member l d (without e_key ms)) (member l x (put s_key d (without e_key ms)))) is)

    by : (o : Ordering) → order s_key l ≡ o → without e_key (put s_key d ms) ≡ put s_key d (without e_key ms)
        → without e_key (match_ordering o (member s_key d (member l x ms)) (member l d ms) (member l x (put s_key d ms))) ≡ put s_key d (without e_key (member l x ms))
    by Less is rest = sym (put_first s_key d (without e_key (member l x ms)) (before_without s_key (member l x ms) (ap is_lt is) g))
    by Equal is rest = subst (λ k. without e_key (member k d ms) ≡ put s_key d (without e_key (member k x ms))) (exact_bytes s_key l is) refl
    by Greater is rest = behind (bytes_eq l e_key) is rest

-- ---- roots

node_without : (st : Option (List (List ℕ))) (es : List (KeyValue PlaceValue)) → Ascending es → without_events (node_data st es) ≡ node_data st (without_key e_key es)
node_without st es up =
    ap (λ ms. object (without e_key (with_statics st ms))) (places_chain es up)
    ∙ ap object (by st)
    ∙ ap (λ ms. object (with_statics st ms)) (chain_without es up ∙ sym (places_chain (without_key e_key es) (without_ascends e_key es up)))
  where
    by : (st : Option (List (List ℕ))) → without e_key (with_statics st (chain es)) ≡ with_statics st (without e_key (chain es))
    by None = refl
    by (Some ts) = put_without (array (texts_json ts)) (chain es) (subst (λ l. ascend l ≡ true) (sym (names_chain es)) up)

pub places_without : (p : Part) (st : Option (List (List ℕ))) (es fs : List (KeyValue PlaceValue)) → st ≡ statics_of p → body.Places es ≡ body_of p → Ascending es → fs ≡ without_key e_key es
    → node_data st fs ≡ without_events (part_data p)
places_without p st es fs s b up is =
    ap (node_data st) is ∙ sym (node_without st es up)
    ∙ ap without_events (sym (part_of p st (body.Places es) s b ∙ sent_places st es))

list_without : (st : Option (List (List ℕ))) (rs : List Row) (s : Option StreamPart) → without_events (list_data st rs s) ≡ list_data st rs s
list_without None rs None = refl
list_without None rs (Some s) = refl
list_without (Some st) rs None = refl
list_without (Some st) rs (Some s) = refl

pub rows_without : (p : Part) (st : Option (List (List ℕ))) (rs : List Row) (s : Option StreamPart) → st ≡ statics_of p → body.List rs s ≡ body_of p → list_data st rs s ≡ without_events (part_data p)
rows_without p st rs s e b =
    sym (list_without st rs s) ∙ ap without_events (sym (part_of p st (body.List rs s) e b ∙ sent_list st rs s))
