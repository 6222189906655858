-- The tokens of a file stand in it as the reader wants them.
use Rattle.std.proofs.Common.{◌≡◌, ℕ, ◌+◌, ◌<◌, ◌≤◌, List, [], ◌∷◌, length, take, drop, sym, ap, subst, arith, length-take, length-drop}
use Rattle.std.specs.List.{AllByRecursion}
use Rattle.heex_token.specs.declared.token.Token.{Token}
use Rattle.heex_token.specs.declared.token.TokenForm.{TokenForm}
use Rattle.heex_token.specs.declared.token.TokenForm.TheVariants as form
use Rattle.heex_token.specs.declared.token.RawAttribute.{RawAttribute}
use Rattle.heex_token.specs.declared.token.RawValue.{RawValue}
use Rattle.heex_token.specs.declared.token.RawValue.TheVariants as raw
use Rattle.heex_token.specs.Answers.{StandsAt, value_text, AttributeStands, FormStands, FormCuts, InnerCuts, Slices, Spans}
use Rattle.heex_reader.specs.Fits.{ValueFits, AttributesFit, FormFits, Fits}
use Rattle.heex_reader.specs.SeenSigns.{HasRoom}

-- what stands in a file has room
room : (text : List ℕ) (at : ℕ) (s : List ℕ) → length text < 4294967295 → at ≤ length text → StandsAt text at s → HasRoom at s
room text at s small within h =
    let e : length s ≡ length (take (length s) (drop at text)) = ap length (sym h) in
    omega (arith, small, within, e, length-take (length s) (drop at text), length-drop at text)

value_fits : (text : List ℕ) (at : ℕ) (v : RawValue) → length text < 4294967295 → at ≤ length text → StandsAt text at (value_text v) → ValueFits at v
value_fits text at (raw.Double s) small within h = tt
value_fits text at (raw.Single s) small within h = tt
value_fits text at raw.Bare small within h = tt
value_fits text at (raw.Braces s) small within h = room text at s small within h
value_fits text at (raw.Spread s) small within h = room text at s small within h

attributes_fit : (text : List ℕ) (as' : List RawAttribute) → length text < 4294967295 → AllByRecursion (AttributeStands text) as' → AttributesFit as'
attributes_fit text [] small h = tt
attributes_fit text (a ∷ as') small h = (value_fits text a.value_start a.value small h.0.within h.0.value, attributes_fit text as' small h.1)

form_fits : (text : List ℕ) (start end : ℕ) (f : TokenForm) → length text < 4294967295 → FormCuts text start end f → FormStands text start f → FormFits text start end f
form_fits text start end form.Dropped small i s = tt
form_fits text start end form.Text small i s = i
form_fits text start end form.Put small i s = i
form_fits text start end form.Block small i s = i
form_fits text start end form.Curly small i s = i
form_fits text start end (form.StartTag name as' e) small i s = attributes_fit text as' small s.1
form_fits text start end (form.EndTag name) small i s = tt

-- all of them do
pub fits_all : (text : List ℕ) (ts : List Token) → length text < 4294967295 → InnerCuts text ts → Slices text ts → AllByRecursion (Fits text) ts
fits_all text [] small i s = tt
fits_all text (t ∷ ts) small i s = (form_fits text t.start t.end t.form small i.0 s.0, fits_all text ts small i.1 s.1)
