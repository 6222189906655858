-- Roots with their components and their events.
use Rattle.std.proofs.Common.{◌≡◌, List, [], ◌∷◌, ◌++◌, String, string_bytes, Global, Bool, true, false, ◌&&◌, Some, refl, sym, ap, ◌∙◌, codes, decimal}
use Rattle.serde_json.specs.Data.{Data, null, boolean, number, string, array, object, Members, no_members, member, put}
use Rattle.serde_json.specs.Find.{get_member, as_object}
use Rattle.serde_json.specs.View.{view, members_view}
use Rattle.text_core.specs.Keyed.{is_before, ascend}
use Rattle.text_core.proofs.Keyed.{both_of}
use Rattle.diff_tree.specs.Plain.{names, is_plain, members_are_plain}
use Rattle.diff_tree.specs.Spelling.{with_components, members_of}
use Rattle.diff_tree.specs.Parts.{part_data, components_data}
use Rattle.diff_tree.specs.Grammar.{is_node, are_components, components_fit, events_fit, without, with_member, is_diff}
use Rattle.diff_tree.specs.declared.diff.ComponentPart.{ComponentPart}
use Rattle.diff_tree.proofs.Keys.{Json}
use Rattle.diff_tree.proofs.Order.{join, join-none, join-join, put_first, both_to}
use Rattle.diff_tree.proofs.Shapes.{and_false}
use Rattle.diff_tree.proofs.Members.{with_back, without_ascends, get_without}

-- the members of components, in their order
abbrev pub members_in : List ComponentPart → Members
members_in [] = no_members
members_in (c ∷ cs) = member (decimal c.number) (part_data c.part) (members_in cs)

members_in-snoc : (cs : List ComponentPart) (c : ComponentPart) → members_in (cs ++ c ∷ []) ≡ join (members_in cs) (member (decimal c.number) (part_data c.part) no_members)
members_in-snoc [] c = refl
members_in-snoc (x ∷ cs) c = ap (member (decimal x.number) (part_data x.part)) (members_in-snoc cs c)

-- in order they are put as they stand
pub put_in_order : (cs : List ComponentPart) → ascend (names (members_in cs)) ≡ true → components_data cs ≡ members_in cs
put_in_order [] g = refl
put_in_order (c ∷ cs) g =
    let p = both_of (is_before (decimal c.number) (names (members_in cs))) (ascend (names (members_in cs))) g in
    ap (put (decimal c.number) (part_data c.part)) (put_in_order cs p.1) ∙ put_first (decimal c.number) (part_data c.part) (members_in cs) p.0

-- one more was read
pub components_on : (k : String Global) (j : Json) (js : List (String Global × Json)) (cs : List ComponentPart) (c : ComponentPart) (whole : Members) → decimal c.number ≡ string_bytes k → part_data c.part ≡ view j
    → join (members_in cs) (members_view ((k, j) ∷ js)) ≡ whole → join (members_in (cs ++ c ∷ [])) (members_view js) ≡ whole
components_on k j js cs c whole named read so_far =
    ap (λ l. join l (members_view js)) (members_in-snoc cs c) ∙ join-join (members_in cs) (member (decimal c.number) (part_data c.part) no_members) (members_view js)
    ∙ ap (λ n. join (members_in cs) (member n (part_data c.part) (members_view js))) named ∙ ap (λ d. join (members_in cs) (member (string_bytes k) d (members_view js))) read ∙ so_far

-- all were read
pub components_all : (cs : List ComponentPart) (ms : Members) → ascend (names ms) ≡ true → join (members_in cs) no_members ≡ ms → components_data cs ≡ ms
components_all cs ms g so_far =
    let same : members_in cs ≡ ms = sym (join-none (members_in cs)) ∙ so_far in
    put_in_order cs (ap (λ l. ascend (names l)) same ∙ g) ∙ same

is_object : (d : Data) (ms : Members) → Some ms ≡ as_object d → d ≡ object ms
is_object null ms h = cc
is_object (boolean b) ms h = cc
is_object (number n) ms h = cc
is_object (string s) ms h = cc
is_object (array ds) ms h = cc
is_object (object ns) ms h = cc

with_some : (cs ms : Members) → (cs ≡ no_members → ⊥) → with_components cs ms ≡ put (codes "c") (object cs) ms
with_some no_members ms some = absurd (some refl)
with_some (member k d cs) ms some = refl

fit_some : (ms : Members) → (ms ≡ no_members → ⊥) → components_fit (Some (object ms)) ≡ are_components ms
fit_some no_members some = absurd (some refl)
fit_some (member k d ms) some = refl

some_members : (ms : List (String Global × Json)) → (ms ≡ [] → ⊥) → members_view ms ≡ no_members → ⊥
some_members [] some h = some refl
some_members (m ∷ ms) some h = cc

-- components that are listed stand under `c`
pub fit_listed : (d : Data) (ms : List (String Global × Json)) → Some (members_view ms) ≡ as_object d → (ms ≡ [] → ⊥) → components_fit (Some d) ≡ are_components (members_view ms)
fit_listed d ms h some = ap (λ x. components_fit (Some x)) (is_object d (members_view ms) h) ∙ fit_some (members_view ms) (some_members ms some)

pub listed_under : (d : Data) (ms : List (String Global × Json)) (cs : List ComponentPart) → Some (members_view ms) ≡ as_object d → (ms ≡ [] → ⊥) → components_data cs ≡ members_view ms
    → (ns : Members) → with_components (components_data cs) ns ≡ put (codes "c") d ns
listed_under d ms cs h some same ns =
    ap (λ l. with_components l ns) same ∙ with_some (members_view ms) ns (some_members ms some) ∙ ap (λ x. put (codes "c") x ns) (sym (is_object d (members_view ms) h))

-- ---- a page

third_false : (a b c d : Bool) → c ≡ false → (a && b && c && d) ≡ false
third_false a b c d h = ap (λ x. a && b && x && d) h ∙ ap (λ x. x && d) (and_false (a && b))

fourth_false : (a b c d : Bool) → d ≡ false → (a && b && c && d) ≡ false
fourth_false a b c d h = ap (λ x. a && b && c && x) h ∙ and_false (a && b && c)

all_true : (a b c d : Bool) → a ≡ true → b ≡ true → c ≡ true → d ≡ true → (a && b && c && d) ≡ true
all_true a b c d h i j k = both_to (a && b && c) d (both_to (a && b) c (both_to a b h i) j) k

-- the object without its components and its events
abbrev pub root_of_members : Members → Data
root_of_members ms = object (without (codes "c") (without (codes "e") ms))

pub components_refused : (ms : Members) → components_fit (get_member (codes "c") ms) ≡ false → is_diff (object ms) ≡ false
components_refused ms h = third_false (is_plain (object ms)) (events_fit (get_member (codes "e") ms)) (components_fit (get_member (codes "c") ms)) (is_node (root_of_members ms)) h

pub root_refused : (ms : Members) → is_node (root_of_members ms) ≡ false → is_diff (object ms) ≡ false
root_refused ms h = fourth_false (is_plain (object ms)) (events_fit (get_member (codes "e") ms)) (components_fit (get_member (codes "c") ms)) (is_node (root_of_members ms)) h

pub page_is : (ms : Members) → is_plain (object ms) ≡ true → events_fit (get_member (codes "e") ms) ≡ true → components_fit (get_member (codes "c") ms) ≡ true → is_node (root_of_members ms) ≡ true → is_diff (object ms) ≡ true
page_is ms h i j k = all_true (is_plain (object ms)) (events_fit (get_member (codes "e") ms)) (components_fit (get_member (codes "c") ms)) (is_node (root_of_members ms)) h i j k

pub ascends : (ms : Members) → is_plain (object ms) ≡ true → ascend (names ms) ≡ true
ascends ms h = (both_of (ascend (names ms)) (members_are_plain ms) h).0

-- what was taken out goes back
pub page_back : (ms : Members) (root : Data) → ascend (names ms) ≡ true → root ≡ root_of_members ms
    → object (with_member (codes "e") (get_member (codes "e") ms) (with_member (codes "c") (get_member (codes "c") ms) (members_of root))) ≡ object ms
page_back ms root g is =
    let left : Members = without (codes "e") ms in
    let same : get_member (codes "c") left ≡ get_member (codes "c") ms = get_without (codes "c") (codes "e") ms refl in
    let back : with_member (codes "c") (get_member (codes "c") ms) (members_of root) ≡ left
    = ap (λ d. with_member (codes "c") (get_member (codes "c") ms) (members_of d)) is ∙ ap (λ o. with_member (codes "c") o (without (codes "c") left)) (sym same) ∙ with_back (codes "c") left (without_ascends (codes "e") ms g) in
    ap object (ap (with_member (codes "e") (get_member (codes "e") ms)) back ∙ with_back (codes "e") ms g)
