-- One more pair of a form.
use Rattle.std.proofs.Common.{◌≡◌, ℕ, List, Some, sym, ap, ◌∙◌}
use Rattle.form_urlencoded.specs.Form.{DecodesTo}
use Rattle.value_core.specs.Value.{Value}
use Rattle.params_core.specs.declared.path.Step.{Step}
use Rattle.params_core.specs.Path.{path_of}
use Rattle.params_core.specs.Form.{put_at, put_pair, decoded, text_of}

pub placed : (name value key text k t : List ℕ) (path p : List Step) (old new : Value) → DecodesTo name key → DecodesTo value text → k ≡ key → t ≡ text → path ≡ path_of k → p ≡ path
    → new ≡ put_at p t (Some old) → new ≡ put_pair old (decoded (name, value))
placed name value key text k t path p old new d e same_key same_text is_path same_path is =
    is
    ∙ ap (λ q. put_at q t (Some old)) (same_path ∙ is_path ∙ ap path_of (same_key ∙ d.2))
    ∙ ap (λ u. put_at (path_of (text_of name)) u (Some old)) (same_text ∙ e.2)
