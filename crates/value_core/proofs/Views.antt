-- Lists of values, seen item by item.
use Rattle.std.proofs.Common.{◌≡◌, ℕ, suc, ◌+◌, ◌<◌, List, [], ◌∷◌, ◌++◌, length, get_or, take, drop, map, Bool, true, false, ◌&&◌, refl, sym, ap, ◌∙◌, arith}
use Rattle.std.specs.Str.{bytes_eq}
use Rattle.value_core.specs.Value as model
use Rattle.value_core.specs.Value.{same, same_values, same_assigns}
use Rattle.text_core.specs.declared.by_key.KeyValue.{KeyValue}
use Rattle.text_core.specs.Keyed.{on_value, entry}
use Rattle.std.proofs.lemmas.List.{take_more, map-append}
use Rattle.value_core.specs.View.{view, view_step, slot_step, values_view, assigns_view, assigns_of}
use Rattle.value_core.specs.declared.value.Value.{Value}
use Rattle.value_core.specs.declared.value.Value.TheViews.{roll-SlotValue, Slot}
use Rattle.value_core.specs.declared.value.Value.TheVariants.{rolls-Slot}
use Rattle.value_core.specs.declared.value.Value.TheOpen.{Value-F}
use Rattle.value_core.specs.declared.value.Value.TheFolds.{fold-roll-Value, fold-roll-SlotValue}
use Rattle.value_core.proofs.Order.{cons_at}

and_false : (b : Bool) → (b && false) ≡ false
and_false true = refl
and_false false = refl

pub lengths_differ : (xs ys : List Value) → (length xs ≡ length ys → ⊥) → false ≡ same_values (values_view xs) (values_view ys)
lengths_differ [] [] h = absurd (h refl)
lengths_differ [] (y ∷ ys) h = refl
lengths_differ (x ∷ xs) [] h = refl
lengths_differ (x ∷ xs) (y ∷ ys) h =
    sym (ap (λ b. same (view x) (view y) && b) (sym (lengths_differ xs ys (λ e. h (ap suc e)))) ∙ and_false (same (view x) (view y)))

pub counts_differ : (xs ys : List (KeyValue Value)) → (length xs ≡ length ys → ⊥) → false ≡ same_assigns (assigns_view xs) (assigns_view ys)
counts_differ [] [] h = absurd (h refl)
counts_differ [] (y ∷ ys) h = refl
counts_differ (x ∷ xs) [] h = refl
counts_differ (x ∷ xs) (y ∷ ys) h =
    let b = bytes_eq x.key y.key && same (view x.value) (view y.value) in
    sym (ap (λ c. b && c) (sym (counts_differ xs ys (λ e. h (ap suc e)))) ∙ and_false b)

-- a slot value, seen
pub view-Slot : (b : ℕ) (n v : List (KeyValue Value)) → view (Slot (roll-SlotValue (record { body = b; names = n; variables = v }))) ≡ model.slot b (assigns_view n) (assigns_view v)
view-Slot b n v =
    let x = roll-SlotValue (record { body = b; names = n; variables = v }) in
    ap view (sym (rolls-Slot x)) ∙ fold-roll-Value model.Value model.Value view_step slot_step (Value-F.Slot x)
    ∙ fold-roll-SlotValue model.Value model.Value view_step slot_step (record { body = b; names = n; variables = v })

-- one more entry was copied
pub copies_on : (copies es : List (KeyValue Value)) (i : ℕ) (e : KeyValue Value) (k : List ℕ) (v : Value) → i < length es → e ≡ get_or es i e → k ≡ e.key → view v ≡ view e.value
    → map (on_value view) copies ≡ map (on_value view) (take i es) → map (on_value view) (copies ++ entry k v ∷ []) ≡ map (on_value view) (take (i + 1) es)
copies_on copies es i e k v h is same_key same_view so_far =
    map-append (on_value view) copies (entry k v ∷ [])
    ∙ ap (λ l. l ++ entry k (view v) ∷ []) so_far
    ∙ ap (λ m. map (on_value view) (take i es) ++ entry m (view v) ∷ []) same_key
    ∙ ap (λ w. map (on_value view) (take i es) ++ entry e.key w ∷ []) same_view
    ∙ sym (map-append (on_value view) (take i es) (e ∷ []))
    ∙ ap (λ x. map (on_value view) (take i es ++ x ∷ [])) is
    ∙ ap (map (on_value view)) (sym (take_more es i e h))
