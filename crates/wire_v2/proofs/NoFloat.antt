-- What is written as JSON has no float.
use Rattle.std.proofs.Common.{◌≡◌, ℕ, pos, negsuc, List, Bool, true, false, ◌||◌, refl, subst, Option, Some, None, option_map, option_and_then}
use Rattle.std.specs.Prelude.{⊤}
use Rattle.serde_json.specs.Data.{Data, array, object, Items, item, Members, member}
use Rattle.serde_json.specs.Written.{has_float, items_have_float, members_have_float}
use Rattle.value_core.specs.Value.{Value, nil, boolean as value_boolean, whole_number, text, atom, list, tuple, map_of, slot, Values, no_values, value, Assigns, no_assigns, assign}
use Rattle.value_core.specs.Json.{json_of_value, json_of_values, json_of_assigns}
use Rattle.diff_tree.specs.Frame.{reference_json}
use Rattle.diff_tree.proofs.Whole.{diff_whole}
use Rattle.wire_v2.specs.declared.frame.Frame.{Frame}
use Rattle.wire_v2.specs.declared.frame.FrameBody.{FrameBody}
use Rattle.wire_v2.specs.declared.frame.FrameBody.TheVariants as body
use Rattle.wire_v2.specs.FrameData.{payload_data, frame_data}

or_false : (a b : Bool) → a ≡ false → b ≡ false → (a || b) ≡ false
or_false true b h k = cc
or_false false b h k = k

-- ---- what values are written as

abbrev IsWhole : Option Data → Type 0
IsWhole None = ⊤
IsWhole (Some d) = has_float d ≡ false

abbrev ItemsAreWhole : Option Items → Type 0
ItemsAreWhole None = ⊤
ItemsAreWhole (Some ds) = items_have_float ds ≡ false

abbrev MembersAreWhole : Option Members → Type 0
MembersAreWhole None = ⊤
MembersAreWhole (Some ms) = members_have_float ms ≡ false

array_whole : (o : Option Items) → ItemsAreWhole o → IsWhole (option_map array o)
array_whole None h = tt
array_whole (Some ds) h = h

object_whole : (o : Option Members) → MembersAreWhole o → IsWhole (option_map object o)
object_whole None h = tt
object_whole (Some ms) h = h

item_whole : (o : Option Data) (os : Option Items) → IsWhole o → ItemsAreWhole os → ItemsAreWhole (option_and_then (λ d. option_map (item d) os) o)
item_whole None os h g = tt
item_whole (Some d) None h g = tt
item_whole (Some d) (Some ds) h g = or_false _ _ h g

member_whole : (k : List ℕ) (o : Option Data) (os : Option Members) → IsWhole o → MembersAreWhole os → MembersAreWhole (option_and_then (λ d. option_map (member k d) os) o)
member_whole k None os h g = tt
member_whole k (Some d) None h g = tt
member_whole k (Some d) (Some ms) h g = or_false _ _ h g

mutual
  value_whole : (v : Value) → IsWhole (json_of_value v)
  value_whole nil = refl
  value_whole (value_boolean b) = refl
  value_whole (whole_number (pos n)) = refl
  value_whole (whole_number (negsuc n)) = refl
  value_whole (text t) = refl
  value_whole (atom t) = tt
  value_whole (list vs) = array_whole (json_of_values vs) (values_whole vs)
  value_whole (tuple vs) = tt
  value_whole (map_of as') = object_whole (json_of_assigns as') (assigns_whole as')
  value_whole (slot b as' vs) = tt

  values_whole : (vs : Values) → ItemsAreWhole (json_of_values vs)
  values_whole no_values = refl
  values_whole (value v vs) = item_whole (json_of_value v) (json_of_values vs) (value_whole v) (values_whole vs)

  assigns_whole : (as' : Assigns) → MembersAreWhole (json_of_assigns as')
  assigns_whole no_assigns = refl
  assigns_whole (assign k v as') = member_whole k (json_of_value v) (json_of_assigns as') (value_whole v) (assigns_whole as')

pub written_whole : (v : Value) (d : Data) → json_of_value v ≡ Some d → has_float d ≡ false
written_whole v d h = subst IsWhole h (value_whole v)

-- ---- frames

payload_whole : (b : FrameBody) → has_float (payload_data b) ≡ false
payload_whole body.Empty = refl
payload_whole (body.Rendered t) = let h = diff_whole t in rw h refl
payload_whole (body.Changed d) = let h = diff_whole d in rw h refl
payload_whole (body.Refusal reason) = refl
payload_whole body.NoCids = refl
payload_whole (body.Pushed d) = diff_whole d
payload_whole body.Closed = refl
payload_whole (body.Faulted None) = refl
payload_whole (body.Faulted (Some reason)) = refl

reference_whole : (r : Option (List ℕ)) → has_float (reference_json r) ≡ false
reference_whole None = refl
reference_whole (Some t) = refl

pub frame_whole : (f : Frame) → has_float (frame_data f) ≡ false
frame_whole f = let a = reference_whole f.join_ref in let b = reference_whole f.reference in let c = payload_whole f.body in rw (a, b, c) refl
