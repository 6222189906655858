-- The path and the query of a URL.
use Rattle.std.specs.Prelude.{ℕ, List, [], ◌∷◌, Bool, ◌==◌, ◌&&◌, Option, Some, None, drop, if◌then◌else◌}
use Rattle.std.specs.List.{before_first, after_first, position_or_len}
use Rattle.route_table.specs.Route.{is_slash}

abbrev pub is_hash : ℕ → Bool
is_hash b = b == 35

abbrev pub is_question : ℕ → Bool
is_question b = b == 63

-- a URL without its fragment
abbrev pub without_fragment : List ℕ → List ℕ
without_fragment url = before_first is_hash url

-- the parts of a text round its first `?`; the second is empty where there is none
abbrev pub before_query : List ℕ → List ℕ
before_query t = before_first is_question t

abbrev pub behind_query : List ℕ → List ℕ
behind_query t = after_first is_question t

-- the text of a URL's query
abbrev pub query_of : List ℕ → List ℕ
query_of url = behind_query (without_fragment url)

-- what stands behind a `://` at the beginning
abbrev pub at_scheme_end : List ℕ → Option (List ℕ)
at_scheme_end (a ∷ b ∷ c ∷ rest) = if a == 58 && b == 47 && c == 47 then Some rest else None
at_scheme_end _ = None

abbrev pub first_of : Option (List ℕ) → Option (List ℕ) → Option (List ℕ)
first_of (Some rest) other = Some rest
first_of None other = other

-- what stands behind the first `://`
abbrev pub behind_scheme : List ℕ → Option (List ℕ)
behind_scheme [] = None
behind_scheme (b ∷ bs) = first_of (at_scheme_end (b ∷ bs)) (behind_scheme bs)

-- what stands from the first slash on
abbrev pub from_slash : List ℕ → List ℕ
from_slash bs = drop (position_or_len is_slash bs) bs

abbrev pub from_authority : List ℕ → Option (List ℕ) → List ℕ
from_authority whole None = whole
from_authority whole (Some rest) = from_slash rest

-- a text that begins with a slash has no scheme and authority
abbrev pub without_authority : List ℕ → List ℕ
without_authority [] = []
without_authority (b ∷ bs) = if is_slash b then b ∷ bs else from_authority (b ∷ bs) (behind_scheme (b ∷ bs))

-- an empty path is `/`
abbrev pub rooted : List ℕ → List ℕ
rooted [] = 47 ∷ []
rooted (b ∷ bs) = b ∷ bs

abbrev pub path_of : List ℕ → List ℕ
path_of url = rooted (without_authority (before_query (without_fragment url)))
