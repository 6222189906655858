use Rattle.std.proofs.Common.{ℕ, List, Option, Some, None, IfSome, option_map, sym, ap, subst, ◌∙◌}
use Rattle.bundle_files.specs.Held.{AllHold}
use Rattle.bundle_files.specs.Bundle.{bundle_view, bundle_of}
use Rattle.bundle_files.proofs.Held.{told}
use Rattle.bundle_files.proofs.loading.load.Goals as goal

pub returns-in-Some-clause-bundle : goal.returns-in-Some-clause-bundle
returns-in-Some-clause-bundle g c =
    told (g.F.Folder.files c.args.folder.now) c.in_ok-names.names c.in_ok-files.files (Some (bundle_view c.in-Some.bundle))
    c.in_ok-names.ensures.all
    (c.in_ok-files.ensures.names ∙ c.as_slice.ensures)
    (subst (λ (o : Option (List (List ℕ × List ℕ))). IfSome o (λ fs. AllHold fs c.in_ok-files.files)) c.in_ok-names.ensures.kept c.in_ok-files.ensures.content)
    (sym (ap (option_map bundle_view) c.in-Some.is) ∙ (c.in_ok-bundle.ensures ∙ ap bundle_of c.as_slice-2.ensures))

pub returns-clause-refused : goal.returns-clause-refused
returns-clause-refused g c = λ _.
    told (g.F.Folder.files c.args.folder.now) c.in_ok-names.names c.in_ok-files.files None
    c.in_ok-names.ensures.all
    (c.in_ok-files.ensures.names ∙ c.as_slice.ensures)
    (subst (λ (o : Option (List (List ℕ × List ℕ))). IfSome o (λ fs. AllHold fs c.in_ok-files.files)) c.in_ok-names.ensures.kept c.in_ok-files.ensures.content)
    (sym (ap (option_map bundle_view) c.in-None.is) ∙ (c.in_ok-bundle.ensures ∙ ap bundle_of c.as_slice-2.ensures))
