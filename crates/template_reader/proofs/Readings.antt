-- Exactly what spells a template that the program takes is read as it.
use Rattle.std.proofs.Common.{◌≡◌, ℕ, List, Some, None, Result, Ok, Err, Bool, true, false, cond, refl, ap, ◌∙◌, subst}
use Rattle.ast_core.specs.Syntax.{Nodes}
use Rattle.heex_reader.specs.Reading as heex
use Rattle.heex_reader.specs.Reading.{Refusal}
use Rattle.heex_reader.proofs.Readings as reader
use Rattle.template_reader.specs.Reading.{fits, all_taken, SpellsTemplate, taken, taken_from, template_of, TemplatesAreSpelled}

kept : (ns ms : Nodes) → taken ns ≡ Some ms → (ns ≡ ms) × (all_taken ns ≡ true)
kept ns ms h = by (all_taken ns) refl h
  where
    by : (t : Bool) → all_taken ns ≡ t → cond t (Some ns) None ≡ Some ms → (ns ≡ ms) × (all_taken ns ≡ true)
    by true e k = (cc, e)
    by false e k = absurd cc

spelled_from : (text : List ℕ) (ns : Nodes) (r : Result Nodes Refusal) → heex.template_of text ≡ r → taken_from r ≡ Some ns → heex.SpellsTemplate text ns × (all_taken ns ≡ true)
spelled_from text ns (Ok ms) e h =
    let k = kept ms ns h in
    ((reader.templates_are_spelled text ns).0 (e ∙ ap Ok k.0), subst (λ (m : Nodes). all_taken m ≡ true) k.0 k.1)
spelled_from text ns (Err r) e h = absurd cc

template_spells : (text : List ℕ) (ns : Nodes) → template_of text ≡ Some ns → SpellsTemplate text ns
template_spells text ns h = by (fits text) refl h
  where
    by : (b : Bool) → fits text ≡ b → cond b (taken_from (heex.template_of text)) None ≡ Some ns → SpellsTemplate text ns
    by true e k = let s = spelled_from text ns (heex.template_of text) refl k in (e, s.0, s.1)
    by false e k = absurd cc

template_is : (text : List ℕ) (ns : Nodes) → SpellsTemplate text ns → template_of text ≡ Some ns
template_is text ns (short, spelled, all) =
    ap (λ b. cond b (taken_from (heex.template_of text)) None) short
    ∙ ap taken_from ((reader.templates_are_spelled text ns).1 spelled)
    ∙ ap (λ b. cond b (Some ns) None) all

pub templates_are_spelled : TemplatesAreSpelled
templates_are_spelled text ns = (template_spells text ns, template_is text ns)
