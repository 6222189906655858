-- The compact text of a value reads as that value: a law of the definitions alone.
use Rattle.std.proofs.Common.{◌≡◌, ℕ, ◌≤◌, pos, negsuc, List, [], Some, option_map, option_and_then, Greater, nat_cmp, true, refl, sym, ap, ◌∙◌, arith, append-nil}
use Rattle.std.specs.Prelude.{⊤}
use Rattle.std.specs.Cmp.Lexicographic.{slice_cmp}
use Rattle.json.specs.Lex.{tokens}
use Rattle.json.specs.Print.{IsNumber}
use Rattle.json.specs.Json as json
use Rattle.json.specs.Tree as tree
use Rattle.json.proofs.Printed.Decimals.{IsNumber-decimal, IsNumber-signed_decimal}
use Rattle.json.proofs.Printed.Tokens.{tokens-print}
use Rattle.json.proofs.Printed.Trees.{value-json_tokens, ArePrintable-json_tokens}
use Rattle.serde_json.specs.Data.{Num, unsigned, negative, float, Data, null, boolean, number, string, array, object, Items, no_items, item, Members, no_members, member, put, depth, items_depth, members_depth}
use Rattle.serde_json.specs.Read.{read, number_of, of_json, of_items, of_members, max_depth}
use Rattle.serde_json.specs.Written.{number_text, outline, items_outline, members_outline, compact_text}
use Rattle.serde_json.proofs.Numbers.{number_of-decimal, number_of-negative}
use Rattle.serde_json.proofs.Texts.{print-outline}
use Rattle.diff_tree.specs.Plain.{is_plain}
use Rattle.diff_tree.proofs.Stored.{IsStored, ItemsAreStored, MembersAreStored, IsWhole, IsAfter, plain_stored}

number-IsWhole : (n : Num) → IsWhole n → IsNumber (number_text n)
number-IsWhole (unsigned n) h = IsNumber-decimal n h
number-IsWhole (negative (pos n)) h = absurd h
number-IsWhole (negative (negsuc n)) h = IsNumber-signed_decimal (negsuc n) (omega (arith, h))
number-IsWhole (float x) h = absurd h

reads-IsWhole : (n : Num) → IsWhole n → number_of (number_text n) ≡ Some n
reads-IsWhole (unsigned n) h = number_of-decimal n h
reads-IsWhole (negative (pos n)) h = absurd h
reads-IsWhole (negative (negsuc n)) h = number_of-negative n (omega (arith, h))
reads-IsWhole (float x) h = absurd h

mutual
  numbers : (d : Data) → IsStored d → tree.HasNumbers (outline d)
  numbers null h = tt
  numbers (boolean b) h = tt
  numbers (number n) h = number-IsWhole n h
  numbers (string s) h = tt
  numbers (array ds) h = items_numbers ds h
  numbers (object ms) h = members_numbers ms h

  items_numbers : (ds : Items) → ItemsAreStored ds → tree.ItemsHaveNumbers (items_outline ds)
  items_numbers no_items h = tt
  items_numbers (item d ds) h = (numbers d h.0, items_numbers ds h.1)

  members_numbers : (ms : Members) → MembersAreStored ms → tree.MembersHaveNumbers (members_outline ms)
  members_numbers no_members h = tt
  members_numbers (member k d ms) h = (numbers d h.1, members_numbers ms h.2)

-- the members found so far, and then more
abbrev join : Members → Members → Members
join no_members more = more
join (member k d ms) more = member k d (join ms more)

-- each key of these is below the key
abbrev AllBelow : List ℕ → Members → Type 0
AllBelow k no_members = ⊤
AllBelow k (member l d ms) = (slice_cmp nat_cmp k l ≡ Greater) × AllBelow k ms

put_last : (k : List ℕ) (d : Data) (ms : Members) → AllBelow k ms → put k d ms ≡ join ms (member k d no_members)
put_last k d no_members h = refl
put_last k d (member l e ms) h = rw (h.0, put_last k d ms h.1) refl

join-join : (a b c : Members) → join (join a b) c ≡ join a (join b c)
join-join no_members b c = refl
join-join (member k d a) b c = ap (member k d) (join-join a b c)

join-nil : (a : Members) → join a no_members ≡ a
join-nil no_members = refl
join-nil (member k d a) = ap (member k d) (join-nil a)

-- every key that follows comes after every key found
abbrev Follows : Members → Members → Type 0
Follows found no_members = ⊤
Follows found (member k d ms) = AllBelow k found × Follows found ms

below_join : (k : List ℕ) (a b : Members) → AllBelow k a → AllBelow k b → AllBelow k (join a b)
below_join k no_members b h i = i
below_join k (member l d a) b h i = (h.0, below_join k a b h.1 i)

follows_push : (found : Members) (k : List ℕ) (d : Data) (ms : Members) → Follows found ms → IsAfter k ms → Follows (join found (member k d no_members)) ms
follows_push found k d no_members h i = tt
follows_push found k d (member l e ms) h i = (below_join l found (member k d no_members) h.0 (i.0, tt), follows_push found k d ms h.1 i.1)

mutual
  reads : (d : Data) → IsStored d → of_json (outline d) ≡ Some d
  reads null h = refl
  reads (boolean b) h = refl
  reads (number n) h = ap (option_map number) (reads-IsWhole n h)
  reads (string s) h = refl
  reads (array ds) h = ap (option_map array) (items_read ds h)
  reads (object ms) h = ap (option_map object) (members_read ms no_members h (follows_none ms))

  items_read : (ds : Items) → ItemsAreStored ds → of_items (items_outline ds) ≡ Some ds
  items_read no_items h = refl
  items_read (item d ds) h = rw (reads d h.0, items_read ds h.1) refl

  members_read : (ms found : Members) → MembersAreStored ms → Follows found ms → of_members (members_outline ms) found ≡ Some (join found ms)
  members_read no_members found h f = ap Some (sym (join-nil found))
  members_read (member k d ms) found h f =
      rw (reads d h.1, put_last k d found f.0) (members_read ms (join found (member k d no_members)) h.2 (follows_push found k d ms f.1 h.0) ∙ ap Some (join-join found (member k d no_members) ms))

  follows_none : (ms : Members) → Follows no_members ms
  follows_none no_members = tt
  follows_none (member k d ms) = (tt, follows_none ms)

mutual
  depth-outline : (d : Data) → tree.depth (outline d) ≡ depth d
  depth-outline null = refl
  depth-outline (boolean b) = refl
  depth-outline (number n) = refl
  depth-outline (string s) = refl
  depth-outline (array ds) = rw (items_depth-outline ds) refl
  depth-outline (object ms) = rw (members_depth-outline ms) refl

  items_depth-outline : (ds : Items) → tree.items_depth (items_outline ds) ≡ items_depth ds
  items_depth-outline no_items = refl
  items_depth-outline (item d ds) = rw (depth-outline d, items_depth-outline ds) refl

  members_depth-outline : (ms : Members) → tree.members_depth (members_outline ms) ≡ members_depth ms
  members_depth-outline no_members = refl
  members_depth-outline (member k d ms) = rw (depth-outline d, members_depth-outline ms) refl

-- the law
pub read-compact_text : (d : Data) → is_plain d ≡ true → depth d ≤ max_depth → read (compact_text d) ≡ Some d
read-compact_text d plain shallow =
    let h : IsStored d = plain_stored d plain in
    let j = outline d in
    let same : tokens (compact_text d) ≡ tree.json_tokens j = ap tokens (sym (print-outline d)) ∙ tokens-print (tree.json_tokens j) (ArePrintable-json_tokens j (numbers d h)) in
    let fits : tree.depth j ≤ max_depth = rw (depth-outline d) shallow in
    ap (λ ts. option_and_then of_json (option_and_then (λ p. json.if_last p.0 p.1) (json.value max_depth ts))) (same ∙ sym (append-nil (tree.json_tokens j)))
    ∙ ap (λ r. option_and_then of_json (option_and_then (λ p. json.if_last p.0 p.1) r)) (value-json_tokens j max_depth [] fits) ∙ reads d h
