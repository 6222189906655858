-- The files that were read are a bundle where those of the folder are.
use Rattle.std.proofs.Common.{◌≡◌, ◌≤◌, ◌<◌, ◌+◌, ◌==◌, ◌++◌, ℕ, List, [], ◌∷◌, map, take, length, codes, Bool, true, false, cond, get_or, Option, Some, None, option_map, refl, arith, ap, sym, subst, ◌∙◌, nat_le}
use Rattle.std.specs.Option.{option_and_then, IfSome, is_some}
use Rattle.std.specs.Str.{bytes_eq}
use Rattle.std.proofs.lemmas.Slice.Eq.{bytes_eq-Decides}
use Rattle.std.proofs.lemmas.Bool.{lt-leb, leb-true, leb-false}
use Rattle.std.proofs.lemmas.List.{length-take, take_all, take_more, length-map}
use Rattle.text_core.specs.Outside.{content_of, Holds}
use Rattle.bundle_files.specs.Held.{AllHold}
use Rattle.bundle_files.specs.Bundle.{Bundle, small_file, template_in, bundle_of, bundle_with}
use Rattle.ast_core.specs.Syntax.{Nodes}
use Rattle.bundle_files.specs.Manifest.{Manifest, manifest_in}

pub held_snoc : (fs files : List (List ℕ × List ℕ)) (f : List ℕ × List ℕ) → AllHold fs files → Holds f.0 1048576 f.1 fs → AllHold fs (files ++ f ∷ [])
held_snoc fs [] f a h = (h, tt)
held_snoc fs (g ∷ files) f a h = (a.0, held_snoc fs files f a.1 h)

some_is : {X : Type 0} (x y : X) → Some x ≡ Some y → x ≡ y
some_is x y h = cc

found_if : (b : Bool) (name : List ℕ) (f : List ℕ × List ℕ) (fs : List (List ℕ × List ℕ)) (o : Option (List ℕ)) (x : List ℕ) → bytes_eq name f.0 ≡ b → Holds f.0 1048576 f.1 fs → (o ≡ Some x → Holds name 1048576 x fs) → cond b (Some f.1) o ≡ Some x → Holds name 1048576 x fs
found_if true name f fs o x e h more s = ap (λ n. option_map (take (1048576 + 1)) (content_of n fs)) ((bytes_eq-Decides name f.0).0 e) ∙ (h ∙ s)
found_if false name f fs o x e h more s = more s

-- what is found in the files that were read is what the folder has, as far as is read
found : (name : List ℕ) (fs files : List (List ℕ × List ℕ)) (x : List ℕ) → AllHold fs files → content_of name files ≡ Some x → Holds name 1048576 x fs
found name fs [] x a s = cc
found name fs (f ∷ files) x a s = found_if (bytes_eq name f.0) name f fs (content_of name files) x refl a.0 (λ e. found name fs files x a.1 e) s

abbrev has : List ℕ → List (List ℕ) → Bool
has name [] = false
has name (n ∷ ns) = cond (bytes_eq name n) true (has name ns)

there_if : (b : Bool) (x : List ℕ) (o : Option (List ℕ)) (h : Bool) → is_some o ≡ h → is_some (cond b (Some x) o) ≡ cond b true h
there_if true x o h e = refl
there_if false x o h e = e

-- a file is there where its name is
is_there : (name : List ℕ) (fs : List (List ℕ × List ℕ)) → is_some (content_of name fs) ≡ has name (map (λ f. f.0) fs)
is_there name [] = refl
is_there name (f ∷ fs) = there_if (bytes_eq name f.0) f.1 (content_of name fs) (has name (map (λ f. f.0) fs)) (is_there name fs)

same_if : (most : ℕ) (o p : Option (List ℕ)) → ((x : List ℕ) → o ≡ Some x → option_map (take most) p ≡ Some x) → is_some o ≡ is_some p → o ≡ option_map (take most) p
same_if most (Some x) p f e = sym (f x refl)
same_if most None None f e = refl
same_if most None (Some y) f e = cc

contents : (name : List ℕ) (fs files : List (List ℕ × List ℕ)) → AllHold fs files → map (λ f. f.0) files ≡ map (λ f. f.0) fs → content_of name files ≡ option_map (take (1048576 + 1)) (content_of name fs)
contents name fs files a e = same_if (1048576 + 1) (content_of name files) (content_of name fs) (λ x s. found name fs files x a s) (is_there name files ∙ (ap (has name) e ∙ sym (is_there name fs)))

abbrev small : ℕ → Option (List ℕ) → Option (List ℕ)
small most o = option_and_then (λ bytes. cond (nat_le (length bytes) most) (Some bytes) None) o

cut_if : (b : Bool) (most : ℕ) (c : List ℕ) → nat_le (length c) most ≡ b → cond (nat_le (length (take (most + 1) c)) most) (Some (take (most + 1) c)) None ≡ cond b (Some c) None
cut_if true most c e =
    let n : length c ≤ most = leb-true (length c) most e in
    let t : take (most + 1) c ≡ c = take_all (most + 1) c (omega (arith, n)) in
    rw (t, e)
cut_if false most c e =
    let n : most < length c = leb-false (length c) most e in
    let t : nat_le (length (take (most + 1) c)) most ≡ false = lt-leb _ most (omega (arith, length-take (most + 1) c, n)) in
    rw t

-- a file that was cut behind the limit is too large, as the whole file is
cut_small : (most : ℕ) (o : Option (List ℕ)) → small most (option_map (take (most + 1)) o) ≡ small most o
cut_small most None = refl
cut_small most (Some c) = cut_if (nat_le (length c) most) most c refl

smalls : (name : List ℕ) (fs files : List (List ℕ × List ℕ)) → AllHold fs files → map (λ f. f.0) files ≡ map (λ f. f.0) fs → small_file name files ≡ small_file name fs
smalls name fs files a e = ap (small 1048576) (contents name fs files a e) ∙ cut_small 1048576 (content_of name fs)

and_then_same : {X Y : Type 0} (f g : X → Option Y) (o p : Option X) → ((x : X) → f x ≡ g x) → o ≡ p → option_and_then f o ≡ option_and_then g p
and_then_same f g None p h e = rw (sym e)
and_then_same f g (Some x) p h e = rw (sym e) (h x)

lengths : (fs files : List (List ℕ × List ℕ)) → map (λ f. f.0) files ≡ map (λ f. f.0) fs → length files ≡ length fs
lengths fs files e = sym (length-map files (λ f. f.0)) ∙ (ap length e ∙ length-map fs (λ f. f.0))

cond_same : {X : Type 0} (b c : Bool) (x y z : X) → b ≡ c → x ≡ y → cond b x z ≡ cond c y z
cond_same b c x y z e h = rw (e, h)

abbrev with_template : Manifest → Nodes → Bundle
with_template m t = record { template = t; mount = m.mount; events = m.events }

same : (fs files : List (List ℕ × List ℕ)) → AllHold fs files → map (λ f. f.0) files ≡ map (λ f. f.0) fs → bundle_of files ≡ bundle_of fs
same fs files a e = cond_same (length files == 2) (length fs == 2) _ _ None (ap (λ n. n == 2) (lengths fs files e))
    (and_then_same (bundle_with files) (bundle_with fs) _ _
    (λ m. ap (λ (o : Option (List ℕ)). option_map (with_template m) (option_and_then template_in o)) (smalls (m.template ++ codes ".html.heex") fs files a e))
    (ap (option_and_then manifest_in) (smalls (codes "bundle.json") fs files a e)))

-- what was judged of the files that were read holds of the folder's
pub told : (o : Option (List (List ℕ × List ℕ))) (names : List (List ℕ)) (files : List (List ℕ × List ℕ)) (r : Option Bundle) → IfSome o (λ fs. names ≡ map (λ f. f.0) fs) → map (λ f. f.0) files ≡ names → IfSome o (λ fs. AllHold fs files) → r ≡ bundle_of files → IfSome o (λ fs. bundle_of fs ≡ r)
told None names files r n e a h = tt
told (Some fs) names files r n e a h = sym (h ∙ same fs files a (e ∙ n))

if_held : (o p : Option (List (List ℕ × List ℕ))) (files : List (List ℕ × List ℕ)) (f : List ℕ × List ℕ) → p ≡ o → IfSome o (λ fs. AllHold fs files) → IfSome p (λ fs. Holds f.0 1048576 f.1 fs) → IfSome o (λ fs. AllHold fs (files ++ f ∷ []))
if_held None p files f e a h = tt
if_held (Some fs) None files f e a h = cc
if_held (Some fs) (Some gs) files f e a h = let same : gs ≡ fs = some_is gs fs e in held_snoc fs files f a (subst (λ (x : List (List ℕ × List ℕ)). Holds f.0 1048576 f.1 x) same h)

map_snoc : (files : List (List ℕ × List ℕ)) (f : List ℕ × List ℕ) → map (λ g. g.0) (files ++ f ∷ []) ≡ map (λ g. g.0) files ++ f.0 ∷ []
map_snoc [] f = refl
map_snoc (g ∷ files) f = ap (λ ns. g.0 ∷ ns) (map_snoc files f)

-- the names of the files when one more was read
pub named : (names : List (List ℕ)) (files more : List (List ℕ × List ℕ)) (i : ℕ) (name copy content : List ℕ) → map (λ f. f.0) files ≡ take i names → i < length names → get_or names i name ≡ name → copy ≡ name → more ≡ files ++ (copy, content) ∷ [] → map (λ f. f.0) more ≡ take (i + 1) names
named names files more i name copy content e l g c m =
    ap (map (λ f. f.0)) m ∙ map_snoc files (copy, content) ∙ ap (λ ns. ns ++ copy ∷ []) e ∙ ap (λ n. take i names ++ n ∷ []) (c ∙ sym g) ∙ sym (take_more names i name l)

-- what the files hold when one more was read
pub holding : (o p : Option (List (List ℕ × List ℕ))) (files more : List (List ℕ × List ℕ)) (name copy content : List ℕ) → p ≡ o → IfSome o (λ fs. AllHold fs files) → IfSome p (λ fs. Holds name 1048576 content fs) → copy ≡ name → more ≡ files ++ (copy, content) ∷ [] → IfSome o (λ fs. AllHold fs more)
holding o p files more name copy content e a h c m =
    subst (λ (ms : List (List ℕ × List ℕ)). IfSome o (λ fs. AllHold fs ms)) (sym m)
    (if_held o p files (copy, content) e a (subst (λ (n : List ℕ). IfSome p (λ fs. Holds n 1048576 content fs)) (sym c) h))
