-- The values of the template language, and when two are the same.
use Rattle.std.specs.Prelude.{ℕ, ℤ, List, Bool, true, false, ◌&&◌, ◌==◌}
use Rattle.std.specs.Ordering.{int_eq}
use Rattle.std.specs.Str.{bytes_eq}

mutual
  pub data Value : Type 0 where
    nil : Value
    boolean : Bool → Value
    whole_number : ℤ → Value
    text : List ℕ → Value
    atom : List ℕ → Value
    list : Values → Value
    tuple : Values → Value
    map_of : Assigns → Value
    -- a body, with the assigns and the variables that it reads
    slot : ℕ → Assigns → Assigns → Value

  pub data Values : Type 0 where
    no_values : Values
    value : Value → Values → Values

  pub data Assigns : Type 0 where
    no_assigns : Assigns
    assign : List ℕ → Value → Assigns → Assigns

-- whether two values are the same
abbrev mutual
  pub same : Value → Value → Bool
  same nil nil = true
  same (boolean true) (boolean true) = true
  same (boolean false) (boolean false) = true
  same (whole_number x) (whole_number y) = int_eq x y
  same (text x) (text y) = bytes_eq x y
  same (atom x) (atom y) = bytes_eq x y
  same (list xs) (list ys) = same_values xs ys
  same (tuple xs) (tuple ys) = same_values xs ys
  same (map_of xs) (map_of ys) = same_assigns xs ys
  same (slot a xs us) (slot b ys vs) = a == b && same_assigns xs ys && same_assigns us vs
  same _ _ = false

  pub same_values : Values → Values → Bool
  same_values no_values no_values = true
  same_values (value x xs) (value y ys) = same x y && same_values xs ys
  same_values _ _ = false

  pub same_assigns : Assigns → Assigns → Bool
  same_assigns no_assigns no_assigns = true
  same_assigns (assign k x xs) (assign l y ys) = bytes_eq k l && same x y && same_assigns xs ys
  same_assigns _ _ = false
