-- Where nothing changed, the lean diff holds nothing.
use Rattle.std.proofs.Common.{◌≡◌, ℕ, List, [], ◌∷◌, Option, Some, None, true, ◌&&◌, ◌==◌, if◌then◌else◌, refl, ap, ◌∙◌}
use Rattle.std.proofs.lemmas.Bool.Decides.{Decides-eqb}
use Rattle.value_core.specs.Value.{Value}
use Rattle.diff_tree.specs.Tree.{text, number, node, Change, write, inner, batch, Changes}
use Rattle.doc_model.specs.Environment.{same_option, same_reading}
use Rattle.doc_model.specs.Trace.{Items, no_items, item, Item, met_text, met_nothing, met_branch, met_rows, met_call, met_slots, met_component, met_stream, Slots, no_slots, slot_of}
use Rattle.doc_model.specs.Whole.{slots_tree, whole_places, whole_rows, whole_slots}
use Rattle.doc_model.specs.Lean.{is_empty, unless_empty, option_change, rows_change, slot_count, lean_places, lean_place, lean_slots}
use Rattle.doc_model.specs.Components.{Part, parts, part_at, AllOf, lean_part, lean_parts, numbered}
use Rattle.doc_model.specs.Laws.{Idle, IdleItem, IdleSlots, UnchangedSendsNothing}
use Rattle.doc_model.proofs.Sames.{same_refl}
use Rattle.doc_model.proofs.Pages.{all_found}

option_refl : (v : Option Value) → same_option v v ≡ true
option_refl None = refl
option_refl (Some v) = same_refl v

reading_refl : (vs : List (Option Value)) → same_reading vs vs ≡ true
reading_refl [] = refl
reading_refl (v ∷ vs) = ap (λ b. b && same_reading vs vs) (option_refl v) ∙ reading_refl vs

one_number : (n : ℕ) → (n == n) ≡ true
one_number n = (Decides-eqb n n).1 refl

none_inner : (cs : Changes) → is_empty cs ≡ true → unless_empty cs ≡ None
none_inner cs h = ap (λ b. if b then None else Some (inner cs)) h

none_first : (o : Option Change) (cs : Changes) → o ≡ None → is_empty (option_change o cs) ≡ is_empty cs
none_first o cs h = ap (λ x. is_empty (option_change x cs)) h

mutual
  idle_places : (is : Items) → Idle is → is_empty (lean_places is is) ≡ true
  idle_places no_items h = refl
  idle_places (item i is) h = none_first (lean_place i i) (lean_places is is) (idle_item i h.0) ∙ idle_places is h.1

  idle_item : (i : Item) → IdleItem i → lean_place i i ≡ None
  idle_item (met_text r t) h = ap (λ b. if b then None else Some (write (text t))) (reading_refl r)
  idle_item met_nothing h = refl
  idle_item (met_branch i st is) h =
      ap (λ b. if b then unless_empty (lean_places is is) else Some (write (node st (whole_places is)))) (one_number i) ∙ none_inner (lean_places is is) (idle_places is h)
  idle_item (met_rows r st rs) h = ap (λ b. if b then None else rows_change st (whole_rows rs) (whole_rows rs)) (reading_refl r)
  idle_item (met_call st is) h = none_inner (lean_places is is) (idle_places is h)
  idle_item (met_slots ss) h =
      ap (λ b. if b then unless_empty (lean_slots ss ss) else Some (write (slots_tree (whole_slots ss)))) (one_number (slot_count ss)) ∙ none_inner (lean_slots ss ss) (idle_slots ss h)
  idle_item (met_component n st is) h = ap (λ b. if b then None else Some (write (number n))) (one_number n)
  idle_item (met_stream name rs b st new) h = ap (λ c. if c then None else Some (batch name b (whole_rows new))) h

  idle_slots : (ss : Slots) → IdleSlots ss → is_empty (lean_slots ss ss) ≡ true
  idle_slots no_slots h = refl
  idle_slots (slot_of b st is ss) h =
      none_first (if b == b then unless_empty (lean_places is is) else Some (write (node st (whole_places is)))) (lean_slots ss ss)
      (ap (λ c. if c then unless_empty (lean_places is is) else Some (write (node st (whole_places is)))) (one_number b) ∙ none_inner (lean_places is is) (idle_places is h.0))
      ∙ idle_slots ss h.1

idle_parts : (old ps : List Part) → AllOf (λ p. part_at p.number old ≡ Some p) ps → AllOf (λ p. Idle p.items) ps → lean_parts old ps ≡ []
idle_parts old [] f h = refl
idle_parts old (p ∷ ps) f h =
    ap (λ o. numbered p.number (lean_part o p) (lean_parts old ps)) f.0
    ∙ ap (λ c. numbered p.number c (lean_parts old ps)) (none_inner (lean_places p.items p.items) (idle_places p.items h.0)) ∙ idle_parts old ps f.1 h.1

pub unchanged_sends_nothing : UnchangedSendsNothing
unchanged_sends_nothing is d h k = (idle_places is h, idle_parts (parts is) (parts is) (all_found (parts is) d) k)
