use Rattle.std.proofs.Common.{rules, ◌≡◌, ◌≤◌, ◌++◌, ◌∷◌, ◌&&◌, ◌||◌, ◌∙◌, sym, ap, subst, arith, inl, codes, length, map, string_bytes, is_some, true, false}
use Rattle.std.specs.Str.{bytes_eq}
use Rattle.std.proofs.Math.ListN.{drop_of_length-le}
use Rattle.std.proofs.lemmas.List.{take_all}
use Rattle.std.proofs.lemmas.Result.{IfOk-weaker}
use Rattle.serde_json.specs.Data.{object}
use Rattle.serde_json.specs.Find.{get, get_member}
use Rattle.serde_json.specs.View.{view, items_of, items_view, members_view}
use Rattle.serde_json.proofs.Views.{view-Object}
use Rattle.text_core.specs.Keyed.{is_before, keys, ascend}
use Rattle.text_core.proofs.Keyed.{both_of}
use Rattle.diff_tree.specs.Plain.{names}
use Rattle.diff_tree.specs.Grammar.{are_places, are_listed, are_rows, is_rows, is_place, is_value, without}
use Rattle.diff_tree.specs.Parts.{part_data, places_json, rows_data, seen}
use Rattle.diff_tree.proofs.Keys.{member_keys, sorted_ascends, names_ascend}
use Rattle.diff_tree.proofs.Order.{join, chain, goes_last, goes_on, ascend_without}
use Rattle.diff_tree.proofs.Taken.{is_some-map, passes_on, passes_fit, places_on, places_fit, places_all}
use Rattle.diff_tree.proofs.Written.{rows-map}
use Rattle.diff_tree.proofs.Listed.{Came, comes, list_read, places_read, places_refused}
use Rattle.diff_tree.proofs.node_reading.+read.Goals as goal

pub read_node-returns-then-is_some-clause-ok : goal.read_node-returns-then-is_some-clause-ok
read_node-returns-then-is_some-clause-ok t c =
    let v = view c.args.value.now in
    let ms = members_view c.in-Object.members.entries in
    let is : v ≡ object ms = ap view c.in-Object.is ∙ view-Object c.in-Object.members in
    let some : is_some (get (codes "d") v) ≡ true = ap is_some (sym c.get.ensures) ∙ is_some-map _ c.get.result ∙ sym c.is_some.ensures ∙ c.if-is_some.true in
    let read = c.in_ok-read_listed-in-Object.ensures in
    let rows = rows_data c.in_ok-read_listed-in-Object.field-0 in
    IfOk-weaker c.list_of.result _ _ (λ p made. list_read v ms rows (part_data p) is some read.in_order read.ok.0 read.ok.1 made) c.list_of.ensures.ok

pub read_node-returns-in_err-read_places-in-Object-clause-bad : goal.read_node-returns-in_err-read_places-in-Object-clause-bad
read_node-returns-in_err-read_places-in-Object-clause-bad t c bad =
    let v = view c.args.value.now in
    let ms = members_view c.in-Object.members.entries in
    let is : v ≡ object ms = ap view c.in-Object.is ∙ view-Object c.in-Object.members in
    let none : is_some (get (codes "d") v) ≡ false = ap is_some (sym c.get.ensures) ∙ is_some-map _ c.get.result ∙ sym c.is_some.ensures ∙ c.if-is_some.false in
    places_refused v ms is none (c.in_err-read_places-in-Object.ensures.bad (search rules))

pub read_node-returns-in_ok-read_places-in-Object-clause-ok : goal.read_node-returns-in_ok-read_places-in-Object-clause-ok
read_node-returns-in_ok-read_places-in-Object-clause-ok t c =
    let v = view c.args.value.now in
    let ms = members_view c.in-Object.members.entries in
    let is : v ≡ object ms = ap view c.in-Object.is ∙ view-Object c.in-Object.members in
    let none : is_some (get (codes "d") v) ≡ false = ap is_some (sym c.get.ensures) ∙ is_some-map _ c.get.result ∙ sym c.is_some.ensures ∙ c.if-is_some.false in
    let read = c.in_ok-read_places-in-Object.ensures in
    let places = places_json (seen c.in_ok-read_places-in-Object.field-0) in
    IfOk-weaker c.node_of.result _ _ (λ p made. places_read v ms places (part_data p) is none read.in_order read.ok.0 read.ok.1 made) c.node_of.ensures.ok

pub read_places-members-init : goal.read_places-members-init
read_places-members-init t c =
    let whole : c.into_iter-key-iterator.result ≡ c.args.members.now.entries = c.into_iter-key-iterator.ensures.into_iter_gives ∙ c.iter-key-items.ensures.rest in
    record {
      so_far = ap (λ l. join (chain (seen l)) (without (codes "s") (members_view c.into_iter-key-iterator.result))) c.new-places.ensures
          ∙ ap (λ ms. without (codes "s") (members_view ms)) whole;
      are = ap (λ ms. are_places (members_view ms)) whole;
      in_order = ap (λ l. ascend (keys l ++ member_keys c.into_iter-key-iterator.result)) c.new-places.ensures
          ∙ ap (λ ms. ascend (member_keys ms)) whole ∙ sorted_ascends c.args.members.now.entries c.iter-key-items.ensures.ordered;
    }

pub read_places-members-preserved-then-eq : goal.read_places-members-preserved-then-eq
read_places-members-preserved-then-eq t c =
    let front = chain (seen c.members.places) in
    let steps = sym c.in-Some.ensures.steps in
    let is_s = ap (λ k. bytes_eq k (codes "s")) (sym c.as_str.ensures.value) ∙ sym c.if-eq.ensures in
    record {
      so_far = passes_on c.in-Some.key.now c.in-Some.member.now c.next.new.self front _ is_s (ap (λ ms. join front (without (codes "s") (members_view ms))) steps ∙ c.members.invariant.so_far);
      are = passes_fit c.in-Some.key.now c.in-Some.member.now c.next.new.self _ is_s (ap (λ ms. are_places (members_view ms)) steps ∙ c.members.invariant.are);
      in_order = ascend_without (keys c.members.places) (string_bytes c.in-Some.key.now) (member_keys c.next.new.self)
          (ap (λ ms. ascend (keys c.members.places ++ member_keys ms)) steps ∙ c.members.invariant.in_order);
    }

pub read_places-push_last-requires : goal.read_places-push_last-requires
read_places-push_last-requires t c =
    let steps = sym c.in-Some.ensures.steps in
    goes_last c.members.places c.in_ok-copy_of.field-0 c.in_ok-place.place (member_keys c.next.new.self)
    (ap (λ k. ascend (keys c.members.places ++ k ∷ member_keys c.next.new.self)) (c.in_ok-copy_of.ensures ∙ c.as_str-in-members-2.ensures.value)
    ∙ ap (λ ms. ascend (keys c.members.places ++ member_keys ms)) steps ∙ c.members.invariant.in_order)

pub read_places-members-preserved : goal.read_places-members-preserved
read_places-members-preserved t c =
    let front = chain (seen c.members.places) in
    let rest = c.next.new.self in
    let steps = sym c.in-Some.ensures.steps in
    let named = c.in_ok-copy_of.ensures ∙ c.as_str-in-members-2.ensures.value in
    let other = ap (λ k. bytes_eq k (codes "s")) (sym c.as_str.ensures.value) ∙ sym c.if-eq.ensures in
    let fits = ap (λ k. is_place k && is_value (view c.in-Some.member.now)) (sym c.as_str-in-members.ensures.value) ∙ c.in_ok-place.ensures.ok.0 in
    record {
      so_far = ap (λ l. join (chain (seen l)) (without (codes "s") (members_view rest))) c.in_ok-push_last.ensures.ok
          ∙ places_on c.in-Some.key.now c.in-Some.member.now rest c.members.places c.in_ok-copy_of.field-0 c.in_ok-place.place _ other named c.in_ok-place.ensures.ok.1
          (ap (λ ms. join front (without (codes "s") (members_view ms))) steps ∙ c.members.invariant.so_far);
      are = places_fit c.in-Some.key.now c.in-Some.member.now rest _ fits (ap (λ ms. are_places (members_view ms)) steps ∙ c.members.invariant.are);
      in_order = ap (λ l. ascend (keys l ++ member_keys rest)) c.in_ok-push_last.ensures.ok
          ∙ goes_on c.members.places c.in_ok-copy_of.field-0 c.in_ok-place.place (member_keys rest)
          (ap (λ k. ascend (keys c.members.places ++ k ∷ member_keys rest)) named ∙ ap (λ ms. ascend (keys c.members.places ++ member_keys ms)) steps ∙ c.members.invariant.in_order);
    }

pub read_places-returns-clause-ok : goal.read_places-returns-clause-ok
read_places-returns-clause-ok t c =
    let none = c.in-None.ensures.steps.0 in (
      sym c.members.invariant.are ∙ ap (λ ms. are_places (members_view ms)) none,
      places_all c.members.places (without (codes "s") (members_view c.args.members.now.entries))
          (ap (λ ms. ascend (keys c.members.places ++ member_keys ms)) (sym none) ∙ c.members.invariant.in_order)
          (ap (λ ms. join (chain (seen c.members.places)) (without (codes "s") (members_view ms))) (sym none) ∙ c.members.invariant.so_far),
    )

pub read_places-returns-clause-in_order : goal.read_places-returns-clause-in_order
read_places-returns-clause-in_order t c = names_ascend c.args.members.now.entries c.iter-key-items.ensures.ordered

pub read_listed-members-init : goal.read_listed-members-init
read_listed-members-init t c =
    let whole : c.into_iter-key-iterator.result ≡ c.args.members.now.entries = c.into_iter-key-iterator.ensures.into_iter_gives ∙ c.iter-key-items.ensures.rest in
    record {
      came = inl (ap (λ ms. get_member (codes "d") (members_view ms)) (sym whole));
      are = ap (λ ms. are_listed (members_view ms)) whole;
      in_order = ap (λ ms. ascend (names (members_view ms))) whole ∙ names_ascend c.args.members.now.entries c.iter-key-items.ensures.ordered;
    }

pub read_listed-members-preserved : goal.read_listed-members-preserved
read_listed-members-preserved t c =
    let k = string_bytes c.in-Some.key.now in
    let e = view c.in-Some.member.now in
    let rest = members_view c.next.new.self in
    let whole = members_view c.args.members.now.entries in
    let steps = sym c.in-Some.ensures.steps in
    let named = c.as_str.ensures.value in
    let in_order : ascend (k ∷ names rest) ≡ true = ap (λ ms. ascend (names (members_view ms))) steps ∙ c.members.invariant.in_order in
    let fits : (bytes_eq k (codes "s") || bytes_eq k (codes "stream") || (bytes_eq k (codes "d") && is_rows e)) ≡ true
    = ap (λ x. bytes_eq x (codes "s") || bytes_eq x (codes "stream") || (bytes_eq x (codes "d") && is_rows e)) (sym named) ∙ c.in_ok-rows.ensures.ok.0 in
    record {
      came = comes k e rest whole (rows_data c.members.rows) (rows_data c.in_ok-rows.rows) in_order
          (λ is. c.in_ok-rows.ensures.ok.1 (ap (λ x. bytes_eq x (codes "d")) named ∙ is))
          (λ is. ap rows_data (c.in_ok-rows.ensures.ok.2 (ap (λ x. bytes_eq x (codes "d")) named ∙ is)))
          (subst (λ ms. Came (rows_data c.members.rows) (members_view ms) whole) (sym steps) c.members.invariant.came);
      are = sym (ap (λ b. b && are_listed rest) fits) ∙ ap (λ ms. are_listed (members_view ms)) steps ∙ c.members.invariant.are;
      in_order = (both_of (is_before k (names rest)) (ascend (names rest)) in_order).1;
    }

pub read_listed-returns-clause-in_order : goal.read_listed-returns-clause-in_order
read_listed-returns-clause-in_order t c = names_ascend c.args.members.now.entries c.iter-key-items.ensures.ordered

pub rows_of_items-returns-clause-ok : goal.rows_of_items-returns-clause-ok
rows_of_items-returns-clause-ok t c =
    let js = c.deref-item-items.result.now in
    let past : length js ≤ c.items.item-index = omega (arith, c.items-test.false) in (
      ap (λ l. are_rows (items_view l)) (sym c.deref-item-items.ensures.value) ∙ sym c.items.invariant.are ∙ ap (λ l. are_rows (items_view l)) (drop_of_length-le js past),
      sym (rows-map c.items.rows) ∙ ap items_of (c.items.invariant.taken ∙ ap (map view) (take_all c.items.item-index js past ∙ c.deref-item-items.ensures.value)),
    )
