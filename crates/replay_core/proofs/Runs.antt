-- What a run has written, line by line.
use Rattle.std.proofs.Common.{◌≡◌, ◌≤◌, ◌<◌, ◌+◌, ◌⊎◌, ◌^◌, ◌-◌, ℕ, zero, suc, List, [], ◌∷◌, ◌++◌, length, take, drop, get_or, Option, Some, None, Bool, true, false, cond, refl, sym, ap, ◌∙◌, subst, arith, append_assoc, inl, inr}
use Rattle.std.specs.Option.{IfSome}
use Rattle.std.specs.Str.{bytes_eq}
use Rattle.std.proofs.Math.Seq.{take-append-add}
use Rattle.std.proofs.lemmas.List.{drop_more, drop_all, append-nil, take-append-le}
use Rattle.text_core.specs.declared.by_key.KeyValue.{KeyValue}
use Rattle.text_core.specs.declared.outside.Wrote.{Wrote}
use Rattle.text_core.specs.declared.outside.Wrote.TheVariants as wrote
use Rattle.text_core.specs.Outside.{Writes, Rises, Rose}
use Rattle.text_core.specs.Keyed.{lookup, without_key, with_key}
use Rattle.view_api.specs.Meaning.{HandlerMeaning}
use Rattle.live_page.specs.declared.app.App.{App}
use Rattle.replay_core.specs.declared.player.Player.{Player}
use Rattle.script_core.specs.declared.script.Line.{Line}
use Rattle.replay_core.specs.Output.{Board, changed, after_line, line_output, output_from, replay_output}
use Rattle.replay_core.specs.Ends.{AddsAll, AddsFront}

no_entry : {T : Type 0} (b : Bool) (v : T) (o : Option T) → None ≡ cond b (Some v) o → (b ≡ false) × (None ≡ o)
no_entry true v o h = cc
no_entry false v o h = (refl, h)

-- without a key that is not there, the entries are as before
without-absent : {T : Type 0} (k : List ℕ) (es : List (KeyValue T)) → None ≡ lookup k es → without_key k es ≡ es
without-absent k [] h = refl
without-absent k (e ∷ es) h =
    let parts = no_entry (bytes_eq k e.key) e.value (lookup k es) h in
    ap (λ b. cond b es (e ∷ without_key k es)) parts.0 ∙ ap (λ r. e ∷ r) (without-absent k es parts.1)

-- what becomes of the browsers by what stands under a name
abbrev changed_by : {V : Type 0} → List ℕ → (Player V → Player V) → Board V → Option (Player V) → Board V
changed_by name f board None = board
changed_by name f board (Some p) = with_key name (f p) (without_key name board)

is_changed : {V : Type 0} (name : List ℕ) (f : Player V → Player V) (board : Board V) (o : Option (Player V)) → changed_by name f board o ≡ elim o [ None ↦ board | Some p ↦ with_key name (f p) (without_key name board) ]
is_changed name f board None = refl
is_changed name f board (Some p) = refl

-- a line of a browser that is not there changes nothing
pub absent : {V : Type 0} (name key : List ℕ) (f : Player V → Player V) (board after : Board V) → key ≡ name → None ≡ lookup key board → after ≡ without_key key board → after ≡ changed name f board
absent name key f board after same none rest =
    rest ∙ without-absent key board none
    ∙ ap (changed_by name f board) (none ∙ ap (λ k. lookup k board) same) ∙ is_changed name f board (lookup name board)

-- what was written, where the sink tells, and what the lines that are left write are the whole output
pub record Written {V : Type 0} (meaning : V → HandlerMeaning) (app : App V) (script : List Line) (before now : Option (List ℕ)) (board : Board V) (left : List Line) : Type 0 where
  pub so_far : List ℕ
  pub whole : replay_output meaning app script ≡ so_far ++ output_from meaning app board left
  pub told : IfSome before (λ bytes. now ≡ Some (bytes ++ so_far))

joins : (before now after : Option (List ℕ)) (so_far text : List ℕ) → IfSome before (λ bytes. now ≡ Some (bytes ++ so_far)) → Writes now after text wrote.Whole → IfSome before (λ bytes. after ≡ Some (bytes ++ (so_far ++ text)))
joins None now after so_far text h w = tt
joins (Some bytes) now after so_far text h w =
    subst (λ (o : Option (List ℕ)). IfSome o (λ b. after ≡ Some (b ++ text))) h w ∙ ap Some (append_assoc bytes so_far text)

pub more : {V : Type 0} (meaning : V → HandlerMeaning) (app : App V) (script : List Line) (before now after : Option (List ℕ)) (board next : Board V) (lines : List Line) (i : ℕ) (l : Line) (text : List ℕ) → i < length lines → l ≡ get_or lines i l
    → next ≡ after_line meaning app board l → text ≡ line_output meaning board l → Writes now after text wrote.Whole → Written meaning app script before now board (drop i lines) → Written meaning app script before after next (drop (i + 1) lines)
more meaning app script before now after board next lines i l text h is step said w so = record {
  so_far = so.so_far ++ text;
  whole = so.whole ∙ ap (λ d. so.so_far ++ output_from meaning app board d) (drop_more lines i l h ∙ ap (λ x. x ∷ drop (i + 1) lines) (sym is))
      ∙ ap (λ t. so.so_far ++ (t ++ output_from meaning app (after_line meaning app board l) (drop (i + 1) lines))) (sym said)
      ∙ ap (λ b. so.so_far ++ (text ++ output_from meaning app b (drop (i + 1) lines))) (sym step)
      ∙ sym (append_assoc so.so_far text (output_from meaning app next (drop (i + 1) lines)));
  told = joins before now after so.so_far text so.told w;
}

front_of : (before now : Option (List ℕ)) (so_far all rest : List ℕ) → IfSome before (λ bytes. now ≡ Some (bytes ++ so_far)) → all ≡ so_far ++ rest → AddsFront before now all
front_of None now so_far all rest h e = tt
front_of (Some bytes) now so_far all rest h e =
    (length so_far + 0, h ∙ ap (λ t. Some (bytes ++ t)) (sym (ap (take (length so_far + 0)) e ∙ take-append-add so_far rest 0 ∙ append-nil so_far)))

-- a front of the output was written
pub front_so_far : {V : Type 0} (meaning : V → HandlerMeaning) (app : App V) (script : List Line) (before now : Option (List ℕ)) (board : Board V) (left : List Line) → Written meaning app script before now board left → AddsFront before now (replay_output meaning app script)
front_so_far meaning app script before now board left so = front_of before now so.so_far (replay_output meaning app script) (output_from meaning app board left) so.told so.whole

part_of : (before now after : Option (List ℕ)) (so_far text all rest : List ℕ) (n : ℕ) → IfSome before (λ bytes. now ≡ Some (bytes ++ so_far)) → Writes now after text (wrote.Failed n) → all ≡ so_far ++ (text ++ rest) → AddsFront before after all
part_of None now after so_far text all rest n h w e = tt
part_of (Some bytes) now after so_far text all rest n h w e = (
  length so_far + n,
  subst (λ (o : Option (List ℕ)). IfSome o (λ b. after ≡ Some (b ++ take n text))) h w.1 ∙ ap Some (append_assoc bytes so_far (take n text))
      ∙ ap (λ t. Some (bytes ++ t)) (sym (ap (take (length so_far + n)) e ∙ take-append-add so_far (text ++ rest) n ∙ ap (λ t. so_far ++ t) (take-append-le n text rest w.0))),
)

pub front_failed : {V : Type 0} (meaning : V → HandlerMeaning) (app : App V) (script : List Line) (before now after : Option (List ℕ)) (board : Board V) (lines : List Line) (i : ℕ) (l : Line) (text : List ℕ) (n : ℕ) → i < length lines → l ≡ get_or lines i l
    → text ≡ line_output meaning board l → Writes now after text (wrote.Failed n) → Written meaning app script before now board (drop i lines) → AddsFront before after (replay_output meaning app script)
front_failed meaning app script before now after board lines i l text n h is said w so =
    part_of before now after so.so_far text (replay_output meaning app script) (output_from meaning app (after_line meaning app board l) (drop (i + 1) lines)) n so.told w
    (so.whole ∙ ap (λ d. so.so_far ++ output_from meaning app board d) (drop_more lines i l h ∙ ap (λ x. x ∷ drop (i + 1) lines) (sym is))
    ∙ ap (λ t. so.so_far ++ (t ++ output_from meaning app (after_line meaning app board l) (drop (i + 1) lines))) (sym said))

-- a count that rose later rose
pub rose_later : (a b c : ℕ) → a ≤ b → Rose b c → Rose a c
rose_later a b c h (inl r) = inl (omega arith)
rose_later a b c h (inr r) = inr r

nothing_yet : (before : Option (List ℕ)) → IfSome before (λ bytes. before ≡ Some (bytes ++ []))
nothing_yet None = tt
nothing_yet (Some bytes) = ap Some (sym (append-nil bytes))

pub begins : {V : Type 0} (meaning : V → HandlerMeaning) (app : App V) (script : List Line) (before : Option (List ℕ)) (board : Board V) (lines : List Line) → board ≡ [] → lines ≡ script → Written meaning app script before before board lines
begins meaning app script before board lines none all = record {
  so_far = [];
  whole = ap (output_from meaning app []) (sym all) ∙ ap (λ b. output_from meaning app b lines) (sym none);
  told = nothing_yet before;
}

written_all : (before now : Option (List ℕ)) (so_far all : List ℕ) → IfSome before (λ bytes. now ≡ Some (bytes ++ so_far)) → all ≡ so_far → AddsAll before now all
written_all None now so_far all h e = tt
written_all (Some bytes) now so_far all h e = h ∙ ap (λ t. Some (bytes ++ t)) (sym e)

pub all_written : {V : Type 0} (meaning : V → HandlerMeaning) (app : App V) (script : List Line) (before now : Option (List ℕ)) (board : Board V) (lines : List Line) (i : ℕ) → length lines ≤ i → Written meaning app script before now board (drop i lines) → AddsAll before now (replay_output meaning app script)
all_written meaning app script before now board lines i h so =
    written_all before now so.so_far (replay_output meaning app script) so.told (so.whole ∙ ap (λ d. so.so_far ++ output_from meaning app board d) (drop_all i lines h) ∙ append-nil so.so_far)
