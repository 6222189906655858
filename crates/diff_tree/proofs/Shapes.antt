-- Lists of few items.
use Rattle.std.proofs.Common.{◌≡◌, ◌≢◌, List, [], ◌∷◌, length, take, map, suc, ◌≤◌, ◌-◌, ◌<◌, ◌==◌, ◌&&◌, ℕ, Bool, true, false, true≢false, Some, None, Option, refl, sym, ap, ◌∙◌, arith, codes, get_or, drop}
use Rattle.serde_json.specs.Data.{Data, array, Items, Members, put}
use Rattle.serde_json.specs.Events.{items_len}
use Rattle.serde_json.specs.Find.{as_array}
use Rattle.serde_json.specs.View.{items_view}
use Rattle.diff_tree.specs.Grammar.{is_event, is_insert, is_reset, is_stream, inserts_fit, are_inserts, stream_fits, events_fit, are_events, are_texts, have_length, row_statics, have_one_length}
use Rattle.diff_tree.specs.Spelling.{with_events, events_json}
use Rattle.diff_tree.specs.Parts.{pushed_of, rows_data, row_data}
use Rattle.diff_tree.specs.declared.push.Push.{Push}
use Rattle.diff_tree.specs.declared.part.Row.{Row, out-Row}
use Rattle.diff_tree.proofs.Taken.{is_array, items_len-view}
use Rattle.diff_tree.proofs.Listed.{row_len, rows_len}
use Rattle.std.proofs.lemmas.List.{take_all}
use Rattle.diff_tree.proofs.Keys.{Json}

-- an event has two items
pub not_two : (js : List Json) → length js ≢ 2 → is_event (array (items_view js)) ≡ false
not_two [] h = refl
not_two (a ∷ []) h = refl
not_two (a ∷ b ∷ []) h = absurd (h refl)
not_two (a ∷ b ∷ c ∷ js) h = refl

-- an insert has three
pub not_three : (js : List Json) → length js ≢ 3 → is_insert (array (items_view js)) ≡ false
not_three [] h = refl
not_three (a ∷ []) h = refl
not_three (a ∷ b ∷ []) h = refl
not_three (a ∷ b ∷ c ∷ []) h = absurd (h refl)
not_three (a ∷ b ∷ c ∷ d ∷ js) h = refl

pub long_reset : (js : List Json) → 2 ≤ length js → is_reset (items_view js) ≡ false
long_reset [] h = absurd (omega (arith, h))
long_reset (a ∷ []) h = absurd (omega (arith, h))
long_reset (a ∷ b ∷ js) h = refl

-- events that are listed stand under `e`
pub listed : (d : Data) (js : List Json) (ps : List Push) → Some (items_view js) ≡ as_array d → (length js == 0) ≡ false → are_events (items_view js) ≡ true → events_json (map pushed_of ps) ≡ items_view js
    → (events_fit (Some d) ≡ true) × ((ms : Members) → with_events (map pushed_of ps) ms ≡ put (codes "e") d ms)
listed d [] ps h some are same = absurd (true≢false some)
listed d (j ∷ js) [] h some are same = cc
listed d (j ∷ js) (p ∷ ps) h some are same =
    let is : d ≡ array (items_view (j ∷ js)) = is_array d (items_view (j ∷ js)) h in
    (ap (λ x. events_fit (Some x)) is ∙ are, λ ms. ap (λ es. put (codes "e") (array es) ms) same ∙ ap (λ x. put (codes "e") x ms) (sym is))

-- texts are the statics of rows where each row has one value less
pub around_rows : (d : Data) (js : List Json) (rs : Items) (n : ℕ) → Some (items_view js) ≡ as_array d → are_texts (items_view js) ≡ true → length js ≡ suc n → row_statics (Some d) rs ≡ have_length n rs
around_rows d [] rs n h texts len = absurd (omega (arith, len))
around_rows d (j ∷ js) rs n h texts len =
    let m : items_len (items_view js) ≡ n = omega (arith, items_len-view js, len) in
    ap (λ x. row_statics (Some x) rs) (is_array d (items_view (j ∷ js)) h) ∙ ap (λ b. b && have_length (items_len (items_view js)) rs) texts ∙ ap (λ k. have_length k rs) m

pub one_length : (rs : List Row) (r : Row) (n : ℕ) → 0 < length rs → r ≡ get_or rs 0 r → n ≡ length (out-Row r).values → have_length n (rows_data (take (length rs - 1) (drop 1 rs))) ≡ have_one_length (rows_data rs)
one_length [] r n h is len = absurd (omega (arith, h))
one_length (x ∷ rs) r n h is len =
    let all : length rs ≤ suc (length rs) - 1 = omega arith in
    ap (λ l. have_length n (rows_data l)) (take_all (suc (length rs) - 1) rs all) ∙ ap (λ m. have_length m (rows_data rs)) (len ∙ sym (row_len r) ∙ ap (λ q. items_len (row_data q)) is)

-- ---- streams

pub few_items : (n : ℕ) (js : List Json) → length js < 3 → is_stream n (array (items_view js)) ≡ false
few_items n [] h = refl
few_items n (a ∷ []) h = refl
few_items n (a ∷ b ∷ []) h = refl
few_items n (a ∷ b ∷ c ∷ js) h = absurd (omega (arith, h))

pub inserts_here : (d : Data) (js : List Json) (n : ℕ) → Some (items_view js) ≡ as_array d → inserts_fit n d ≡ (are_inserts (items_view js) && length js == n)
inserts_here d js n h = ap (inserts_fit n) (is_array d (items_view js) h) ∙ ap (λ m. are_inserts (items_view js) && m == n) (items_len-view js)

pub and_false : (b : Bool) → (b && false) ≡ false
and_false true = refl
and_false false = refl

pub stream_here : (o : Option Data) (d : Data) (rows : List Row) → Some d ≡ o → stream_fits o (rows_data rows) ≡ is_stream (length rows) d
stream_here o d rows h = ap (λ x. stream_fits x (rows_data rows)) (sym h) ∙ ap (λ n. is_stream n d) (rows_len rows)

pub no_stream : (o : Option Data) (rows : List Row) → None ≡ o → (length rows == 0) ≡ false → stream_fits o (rows_data rows) ≡ true
no_stream o [] h some = absurd (true≢false some)
no_stream o (r ∷ rows) h some = ap (λ x. stream_fits x (rows_data (r ∷ rows))) (sym h)
