-- The page that a process shows.
use Rattle.std.specs.Prelude.{◌≡◌, ℕ, List, Option, Some, None, Ok}
use Rattle.doc_model.specs.Process.{World, Page, page_text}

-- the page of what is up, or none where nothing is
abbrev pub ShowsUp : World → Option Page → Option (List ℕ) → Type 0
ShowsUp w None text = text ≡ None
ShowsUp w (Some p) None = ⊥
ShowsUp w (Some p) (Some text) = page_text w p ≡ Ok text
