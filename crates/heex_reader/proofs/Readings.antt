-- What a text is read as, and why it is refused.
use Rattle.std.proofs.Common.{◌≡◌, ℕ, List, ◌⊎◌, inl, inr, Result, Ok, Err, refl, sym, ap, subst, ◌∙◌}
use Rattle.ast_core.specs.Syntax.{Nodes}
use Rattle.heex_token.specs.declared.token.Token.{Token}
use Rattle.heex_token.specs.Tokens as tokens
use Rattle.heex_token.specs.Tokens.{tokens_of}
use Rattle.heex_reader.specs.declared.fault.TemplateFault.{TemplateFault}
use Rattle.heex_reader.specs.declared.fault.TemplateFault.TheVariants as fault
use Rattle.heex_reader.specs.declared.fault.TemplateKind.TheVariants as kind
use Rattle.heex_reader.specs.declared.refusal.ReadFault.{ReadFault}
use Rattle.heex_reader.specs.declared.refusal.ReadFault.TheVariants as read_fault
use Rattle.heex_reader.specs.Answers.{Answers}
use Rattle.heex_reader.specs.Gives.{Told, RefusedRightly}
use Rattle.heex_reader.specs.Leads.{Faults}
use Rattle.heex_reader.specs.Located.{Fault, location_at}
use Rattle.heex_reader.specs.Machine.{outcome}
use Rattle.heex_reader.specs.Reading.{signs_of, Refusal, refusal_of, SpellsTemplate, RefusesTokens, RefusesSigns, read_tokens, refused_at, template_of, TemplatesAreSpelled, RefusalsAreRight}
use Rattle.heex_reader.proofs.Exact.{exact, is_read}
use Rattle.heex_reader.proofs.OneAnswer.{is_refused}
use Rattle.heex_reader.proofs.Sanity.{sane}

fault_is_no_template : (f : Fault) (ns : Nodes) → Err f ≡ Ok ns → ⊥
fault_is_no_template f ns e = cc

one_fault : (r : Result Nodes Fault) (f g : Fault) → r ≡ Err f → r ≡ Err g → g ≡ f
one_fault r f g e h = cc

-- What the tokens of a text are.
right : (text : List ℕ) (ts : List Token) → Answers (location_at text) (signs_of text ts) (outcome (location_at text) (signs_of text ts))
right text ts = exact (location_at text) (signs_of text ts) (sane text ts)

spelled_by : (text : List ℕ) (r : Result (List Token) tokens.Refusal) (ns : Nodes) → tokens_of text ≡ r → read_tokens text r ≡ Ok ns → SpellsTemplate text ns
spelled_by text (Ok ts) ns is e = (ts, is, subst (Answers (location_at text) (signs_of text ts)) e (right text ts))
spelled_by text (Err r) ns is e = absurd (fault_is_no_template (record { at = r.place; kind = kind.Token r.kind }) ns e)

refused_by : (text : List ℕ) (r : Result (List Token) tokens.Refusal) (f : Fault) → tokens_of text ≡ r → read_tokens text r ≡ Err f → RefusesTokens text f ⊎ RefusesSigns text f
refused_by text (Ok ts) f is e = inr (ts, is, subst (Answers (location_at text) (signs_of text ts)) e (right text ts))
refused_by text (Err r) f is e = inl (r, is, one_fault (read_tokens text (Err r)) (record { at = r.place; kind = kind.Token r.kind }) f refl e)

-- what is read is spelled
pub spelled : (text : List ℕ) (ns : Nodes) → read_tokens text (tokens_of text) ≡ Ok ns → SpellsTemplate text ns
spelled text ns e = spelled_by text (tokens_of text) ns refl e

-- what is refused is wrong
pub refused : (text : List ℕ) (f : Fault) → read_tokens text (tokens_of text) ≡ Err f → RefusesTokens text f ⊎ RefusesSigns text f
refused text f e = refused_by text (tokens_of text) f refl e

-- what is spelled is read
read : (text : List ℕ) (ns : Nodes) → SpellsTemplate text ns → read_tokens text (tokens_of text) ≡ Ok ns
read text ns s = ap (read_tokens text) s.1 ∙ is_read (location_at text) (signs_of text s.0) ns s.2

-- what is wrong is refused
is_wrong : (text : List ℕ) (f : Fault) → RefusesTokens text f ⊎ RefusesSigns text f → read_tokens text (tokens_of text) ≡ Err f
is_wrong text f (inl k) = ap (read_tokens text) k.1 ∙ ap (λ x. Err x) (sym k.2)
is_wrong text f (inr k) = ap (read_tokens text) k.1 ∙ is_refused (location_at text) (signs_of text k.0) f (sane text k.0) k.2

same_nodes : (r : Result Nodes Refusal) (ms ns : Nodes) → r ≡ Ok ms → r ≡ Ok ns → ms ≡ ns
same_nodes r ms ns e h = cc

refusal_is_no_template : (r : Refusal) (ns : Nodes) → Err r ≡ Ok ns → ⊥
refusal_is_no_template r ns e = cc

unplaced : (text : List ℕ) (r : Result Nodes Fault) (ns : Nodes) → refused_at text r ≡ Ok ns → r ≡ Ok ns
unplaced text (Ok ms) ns e = ap (λ x. Ok x) (same_nodes (refused_at text (Ok ms)) ms ns refl e)
unplaced text (Err f) ns e = absurd (refusal_is_no_template (refusal_of text f) ns e)

-- The laws.
pub templates_are_spelled : TemplatesAreSpelled
templates_are_spelled text ns = (λ e. spelled text ns (unplaced text (read_tokens text (tokens_of text)) ns e), λ s. ap (refused_at text) (read text ns s))

pub refusals_are_right : RefusalsAreRight
refusals_are_right text f = (λ e. refused text f e, λ k. is_wrong text f k)

-- what the reader says of a refusal
pub refused_fault : (text : List ℕ) (f : ReadFault) (t : TemplateFault) → Faults f (read_tokens text (tokens_of text)) → Told text f t → RefusedRightly text t
refused_fault text (read_fault.Faulty b k) (fault.Refused place told) e s = (record { at = b; kind = k }, s, refused text (record { at = b; kind = k }) e)
refused_fault text (read_fault.Faulty b k) fault.OutOfMemory e s = absurd s
refused_fault text read_fault.OutOfMemory t e s = subst (RefusedRightly text) (sym s) tt
