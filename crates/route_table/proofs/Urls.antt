-- Where a URL is cut.
use Rattle.std.proofs.Common.{◌≡◌, ◌≤◌, ◌<◌, ℕ, zero, suc, ◌+◌, List, [], ◌∷◌, ◌++◌, length, get_or, drop, Option, Some, None, Bool, true, false, if◌then◌else◌, ◌==◌, ◌&&◌, refl, sym, ap, ◌∙◌, arith}
use Rattle.std.proofs.lemmas.Bool.{eqb-true, ne_eqb}
use Rattle.std.proofs.lemmas.List.Sums.{position_or_len_is}
use Rattle.text_core.proofs.Keyed.{both_of}
use Rattle.route_table.specs.Route.{is_slash}
use Rattle.route_table.specs.Url.{at_scheme_end, first_of, behind_scheme, from_slash, from_authority, without_authority}

abbrev pub scheme_end : List ℕ
scheme_end = 58 ∷ 47 ∷ 47 ∷ []

marks_lack : (s : List ℕ) → ((rest : List ℕ) → s ≡ scheme_end ++ rest → ⊥) → at_scheme_end s ≡ None
marks_lack [] h = refl
marks_lack (a ∷ []) h = refl
marks_lack (a ∷ b ∷ []) h = refl
marks_lack (a ∷ b ∷ c ∷ rest) h = by (a == 58 && b == 47 && c == 47) refl
  where
    by : (t : Bool) → (a == 58 && b == 47 && c == 47) ≡ t → (if t then Some rest else None) ≡ None
    by true is =
        let p = both_of (a == 58 && b == 47) (c == 47) is in
        let q = both_of (a == 58) (b == 47) p.0 in
        let x : a ≡ 58 = eqb-true a 58 q.0 in
        let y : b ≡ 47 = eqb-true b 47 q.1 in
        let z : c ≡ 47 = eqb-true c 47 p.1 in
        absurd (h rest (λ i. x i ∷ y i ∷ z i ∷ rest))
    by false is = refl

pub scheme_found : (s : List ℕ) (i : ℕ) → ((k : ℕ) → k < i → (rest : List ℕ) → drop k s ≡ scheme_end ++ rest → ⊥) → (after : List ℕ) → drop i s ≡ scheme_end ++ after → behind_scheme s ≡ Some after
scheme_found [] zero h after e = cc
scheme_found [] (suc i) h after e = cc
scheme_found (b ∷ bs) zero h after e = ap (λ l. first_of (at_scheme_end l) (behind_scheme bs)) e
scheme_found (b ∷ bs) (suc i) h after e =
    ap (λ o. first_of o (behind_scheme bs)) (marks_lack (b ∷ bs) (h 0 (omega arith)))
    ∙ scheme_found bs i (λ k below. h (suc k) (omega (arith, below))) after e

pub scheme_none : (s : List ℕ) → ((k : ℕ) → k ≤ length s → (rest : List ℕ) → drop k s ≡ scheme_end ++ rest → ⊥) → behind_scheme s ≡ None
scheme_none [] h = refl
scheme_none (b ∷ bs) h =
    ap (λ o. first_of o (behind_scheme bs)) (marks_lack (b ∷ bs) (h 0 (omega arith)))
    ∙ scheme_none bs (λ k below. h (suc k) (omega (arith, below)))

pub slash_at : (s : List ℕ) (i : ℕ) → i < length s → get_or s i 0 ≡ 47 → ((k : ℕ) → k < i → get_or s k 0 ≡ 47 → ⊥) → drop i s ≡ from_slash s
slash_at s i h at before =
    ap (λ n. drop n s) (sym (position_or_len_is is_slash s i 0 (omega arith) (λ k below. ne_eqb _ _ (before k below)) (λ _. ap is_slash at)))

pub slash_none : (s : List ℕ) → ((k : ℕ) → k < length s → get_or s k 0 ≡ 47 → ⊥) → drop (length s) s ≡ from_slash s
slash_none s none =
    ap (λ n. drop n s) (sym (position_or_len_is is_slash s (length s) 0 (omega arith) (λ k below. ne_eqb _ _ (none k below)) (λ h. absurd (omega (arith, h)))))

-- a text that does not begin with a slash, by what stands behind its first `://`
pub authority_cut : (s : List ℕ) (o : Option (List ℕ)) → (get_or s 0 0 == 47) ≡ false → behind_scheme s ≡ o → from_authority s o ≡ without_authority s
authority_cut [] o h e = ap (from_authority []) (sym e)
authority_cut (b ∷ bs) o h e =
    ap (from_authority (b ∷ bs)) (sym e)
    ∙ ap (λ t. if t then b ∷ bs else from_authority (b ∷ bs) (behind_scheme (b ∷ bs))) (sym h)
