-- What is taken of the templates that are compiled.
use Rattle.std.proofs.Common.{◌≡◌, Some, None, Option, option_map, Result, Ok, Err, IfOk, Bool, true, false, cond, not, ◌&&◌, refl, sym, ap, ◌∙◌}
use Rattle.text_core.specs.declared.memory.OutOfMemory.{OutOfMemory}
use Rattle.ast_core.specs.Syntax.{Nodes}
use Rattle.slot_compile.specs.Template.{Source, all_plain, compiled_of, syntax_of}
use Rattle.template_reader.specs.Reading.{reads_streams, taken}

taken_if : (ns : Nodes) (reads : Bool) → reads_streams ns ≡ reads → cond (not reads && all_plain ns) (Some ns) None ≡ taken ns
taken_if ns reads h = ap (λ b. cond (not b && all_plain ns) (Some ns) None) (sym h)

pub streams_refused : (ns : Nodes) → reads_streams ns ≡ true → None ≡ taken ns
streams_refused ns h = taken_if ns true h

compiled_is : (source : Source) (plain : Bool) → option_map syntax_of (cond plain (Some source) None) ≡ cond plain (Some (syntax_of source)) None
compiled_is source true = refl
compiled_is source false = refl

-- without the streams what is compiled is taken
pub compiled_taken : (source : Source) (r : Result (Option Source) OutOfMemory) → reads_streams (syntax_of source) ≡ false
    → IfOk r (λ c. c ≡ compiled_of source) → IfOk r (λ c. option_map syntax_of c ≡ taken (syntax_of source))
compiled_taken source (Ok c) h is = ap (option_map syntax_of) is ∙ compiled_is source (all_plain (syntax_of source)) ∙ taken_if (syntax_of source) false h
compiled_taken source (Err f) h is = tt
