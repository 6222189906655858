-- What a journal carries.
use Rattle.std.specs.Prelude.{ℕ, ◌+◌, List, length, sum_by}
use Rattle.std.specs.List.{flat_map}

module _ {E : Type 0} (texts frames : E → List (List ℕ)) where
  -- 64, and the lengths of the entry's texts and frames
  abbrev pub entry_size : E → ℕ
  entry_size e = 64 + sum_by length (texts e) + sum_by length (frames e)

  -- the sizes of its entries
  abbrev pub journal_size : List (ℕ × E) → ℕ
  journal_size journal = sum_by (λ x. entry_size x.1) journal

module _ {E : Type 0} (frames : E → List (List ℕ)) where
  -- the frames of its entries, in order
  abbrev pub frames_in : List (ℕ × E) → List (List ℕ)
  frames_in journal = flat_map (λ x. frames x.1) journal
