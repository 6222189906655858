-- What frames are made of, as they are read.
use Rattle.std.proofs.Common.{◌≡◌, ◌≢◌, ℕ, suc, ◌==◌, ◌&&◌, if◌then◌else◌, codes, List, [], ◌∷◌, length, String, Global, Bool, true, false, true≢false, Some, Result, Ok, Err, IfOk, refl, sym, ap, ◌∙◌, arith, inl, inr}
use Rattle.std.specs.Prelude.{◌↔◌, IsTrue}
use Rattle.std.specs.Str.{bytes_eq, IsUtf8}
use Rattle.std.proofs.lemmas.Bool.Decides.{eqb_tells}
use Rattle.std.proofs.lemmas.Str.{is_utf8-from_IsUtf8}
use Rattle.serde_json.specs.Data.{Data, null, boolean, number, string, array, object, Items, no_items, item, Members, no_members, member}
use Rattle.serde_json.specs.Find.{as_array, as_object}
use Rattle.serde_json.specs.Read.{read}
use Rattle.serde_json.specs.View.{view, items_view, members_view}
use Rattle.serde_json.specs.declared.value.Value.{Value}
use Rattle.wire_v2.specs.declared.frame.Frame.{Frame}
use Rattle.wire_v2.specs.declared.message.MessageFault.{MessageFault}
use Rattle.wire_v2.specs.FrameData.{frame_data}
use Rattle.wire_v2.specs.FrameGrammar.{two_members, is_null, is_empty_list, is_empty_object, is_reply, is_fault, is_body, is_frame, SpellsFrame}
use Rattle.diff_tree.specs.Grammar.{is_diff}

-- ---- empty lists and objects

not_zero : (n : ℕ) → (suc n == 0) ≡ false
not_zero n = elim (eqb_tells (suc n) 0) [ inl same ↦ absurd (omega (arith, same.1)) | inr other ↦ other.0 ]

pub list_is_empty : (d : Data) (js : List Value) → Some (items_view js) ≡ as_array d → (length js == 0) ≡ is_empty_list d
list_is_empty null js h = cc
list_is_empty (boolean b) js h = cc
list_is_empty (number n) js h = cc
list_is_empty (string s) js h = cc
list_is_empty (array ds) js h = by js ds (let same : Some (items_view js) ≡ Some ds = h in cc)
  where
    by : (js : List Value) (ds : Items) → items_view js ≡ ds → (length js == 0) ≡ is_empty_list (array ds)
    by [] no_items h = refl
    by [] (item d ds) h = cc
    by (j ∷ js) no_items h = cc
    by (j ∷ js) (item d ds) h = not_zero (length js)
list_is_empty (object ms) js h = cc

pub object_is_empty : (d : Data) (ms : List (String Global × Value)) (b : Bool) → Some (members_view ms) ≡ as_object d → IsTrue b ↔ (length ms ≡ 0) → b ≡ is_empty_object d
object_is_empty null ms b h e = cc
object_is_empty (boolean c) ms b h e = cc
object_is_empty (number n) ms b h e = cc
object_is_empty (string s) ms b h e = cc
object_is_empty (array ds) ms b h e = cc
object_is_empty (object ns) ms b h e = by ms ns b (let same : Some (members_view ms) ≡ Some ns = h in cc) e
  where
    by : (ms : List (String Global × Value)) (ns : Members) (b : Bool) → members_view ms ≡ ns → IsTrue b ↔ (length ms ≡ 0) → b ≡ is_empty_object (object ns)
    by [] no_members true h e = refl
    by [] no_members false h e = absurd (true≢false (sym (e.1 refl)))
    by [] (member k d ns) b h e = cc
    by (m ∷ ms) no_members b h e = cc
    by (m ∷ ms) (member k d ns) true h e = absurd (omega (arith, e.0 refl))
    by (m ∷ ms) (member k d ns) false h e = refl

-- ---- frames

-- a frame has five items
pub not_five : (js : List Value) → length js ≢ 5 → is_frame (array (items_view js)) ≡ false
not_five [] h = refl
not_five (a ∷ []) h = refl
not_five (a ∷ b ∷ []) h = refl
not_five (a ∷ b ∷ c ∷ []) h = refl
not_five (a ∷ b ∷ c ∷ d ∷ []) h = by_event (view d)
  where
    by_event : (x : Data) → is_frame (array (item (view a) (item (view b) (item (view c) (item x no_items))))) ≡ false
    by_event null = refl
    by_event (boolean b) = refl
    by_event (number n) = refl
    by_event (string s) = refl
    by_event (array ds) = refl
    by_event (object ms) = refl
not_five (a ∷ b ∷ c ∷ d ∷ e ∷ []) h = absurd (h refl)
not_five (a ∷ b ∷ c ∷ d ∷ e ∷ f ∷ js) h = by_event (view d)
  where
    by_event : (x : Data) → is_frame (array (item (view a) (item (view b) (item (view c) (item x (item (view e) (item (view f) (items_view js)))))))) ≡ false
    by_event null = refl
    by_event (boolean b) = refl
    by_event (number n) = refl
    by_event (string s) = refl
    by_event (array ds) = refl
    by_event (object ms) = refl

-- what is read of JSON is spelled by the bytes
pub spelled : (bytes : List ℕ) (d : Data) (r : Result Frame MessageFault) → IsUtf8 bytes → read bytes ≡ Some d → IfOk r (λ f. (is_frame d ≡ true) × (frame_data f ≡ d)) → IfOk r (λ f. SpellsFrame bytes (frame_data f))
spelled bytes d (Ok f) utf8 reads is = (is_utf8-from_IsUtf8 bytes utf8, reads ∙ ap Some (sym is.1), ap is_frame is.1 ∙ is.0)
spelled bytes d (Err e) utf8 reads is = tt

-- ---- bodies

else_of : (b x y : Bool) → b ≡ false → (if b then x else y) ≡ y
else_of b x y h = rw h refl

-- an event of another name has no body
pub no_body : (event : List ℕ) (r p : Data) → bytes_eq event (codes "phx_reply") ≡ false → bytes_eq event (codes "diff") ≡ false → bytes_eq event (codes "phx_close") ≡ false → bytes_eq event (codes "phx_error") ≡ false
    → is_body event r p ≡ false
no_body event r p reply diff close error =
    let third : Bool = bytes_eq event (codes "phx_error") && is_fault p in
    let second : Bool = if bytes_eq event (codes "phx_close") then is_empty_object p else third in
    let first : Bool = if bytes_eq event (codes "diff") then is_null r && is_diff p else second in
    else_of (bytes_eq event (codes "phx_reply")) (is_reply (two_members p)) first reply ∙ else_of (bytes_eq event (codes "diff")) (is_null r && is_diff p) second diff
    ∙ else_of (bytes_eq event (codes "phx_close")) (is_empty_object p) third close ∙ ap (λ b. b && is_fault p) error
