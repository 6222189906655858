use Rattle.std.proofs.Common.{◌&&◌, refl, ◌∙◌, rules, tests}
use Rattle.std.specs.List.{list_all}
use Rattle.std.proofs.lemmas.Iterator.{YieldsList-from_slice}
use Rattle.std.proofs.lemmas.Iterator.Search.{all_from_yields_List}
use Rattle.std.proofs.lemmas.List.Recursion.{same_from_clauses}
use Rattle.doc_model.specs.Printing.{is_name_byte, all_name_bytes}
use Rattle.attribute_text.proofs.spread.are_name_bytes.Goals as goal

pub returns : goal.returns
returns c =
    let bytes = c.args.bytes.now in
    all_from_yields_List is_name_byte _ _ _ c.all.ensures.ran (YieldsList-from_slice bytes cc) (λ x b q k. search (rules, tests))
    ∙ same_from_clauses (list_all is_name_byte) all_name_bytes (λ b rest. is_name_byte b && rest) refl (λ _ _. refl) (λ _ _. refl) bytes
