-- Frames of texts, nodes and lists alone, read as they are taken.
use Rattle.std.proofs.Common.{◌≡◌, ℕ, ◌<◌, ◌^◌, List, [], ◌∷◌, map, Option, Some, None, is_some, Bool, true, false, ◌&&◌, if◌then◌else◌, refl, sym, ap, ◌∙◌, subst, arith, codes}
use Rattle.std.specs.Str.{bytes_eq}
use Rattle.serde_json.specs.Data.{Data, string, array, object, Members, no_members, put}
use Rattle.diff_tree.specs.Tree.{Tree, text, number, node, list, stream, held, Change, write, inner, rows, batch, Changes, no_changes, skip, change, merge_change, opened}
use Rattle.diff_tree.specs.Client.{PageTree, PageDiff, and_then, judged, dropped, opened_tree, merge_components, with_numbers}
use Rattle.diff_tree.specs.Frame.{Frame, FrameBody, empty, rendered, changed, refusal, no_cids, push, closed, faulted, reference_json, event_of, payload_of, frame_json, held_diff, client_takes, client_takes_all}
use Rattle.diff_tree.specs.Spelling.{Pushed, with_events, with_components, components_json, members_of, tree_json, trees_json, rows_json, texts_json, changes_json, page_tree_json, page_diff_json}
use Rattle.wire_v2.specs.Message.{head_of}
use Rattle.wire_v2.specs.FrameGrammar.{is_whole, is_body, is_frame}
use Rattle.diff_tree.specs.Grammar.{is_diff}
use Rattle.client_merge.specs.Laws.{IsSmall, ChangesAreSmall, reach}
use Rattle.client_merge.specs.Reading.{change_of, tree_of, written}
use Rattle.client_merge.specs.Frames.{without_events, page_with, page_taken, page_changed, after_event, client_reads, client_reads_all}
use Rattle.client_merge.specs.Alike.{root_held, IsSmallPage, HoldsSmall, IsSmallDiff, IsSmallBody, frame_bytes, IsSmallFrame, AreSmallFrames, HoldsAlike, EndInChange, EndsInChange, BodyEndsInChange}
use Rattle.client_merge.proofs.Changes.{Holds}
use Rattle.client_merge.proofs.JsonBack.{absent_put, tree_reads, change_reads, trimmed, trimmed_change, trim_merge, shifted}
use Rattle.client_merge.proofs.Events.{e_key, events_out, trees_absent, changes_absent, statics_absent}
use Rattle.client_merge.proofs.Bytewise.{reads_spelled}
use Rattle.client_merge.proofs.Smalls.{opened_small, no_numbers, judged_small, dropped_small, merge_small}

both_of : (a b : Bool) → (a && b) ≡ true → (a ≡ true) × (b ≡ true)
both_of true b h = (refl, h)
both_of false b h = cc

-- ---- what is sent, without its events

-- a tree that is sent is a node or a list: `s` is there
tree_sent : (t : Tree) (es : List Pushed) → IsSmall t → is_whole (object (with_events es (members_of (tree_json t)))) ≡ true
    → tree_of (without_events (object (with_events es (members_of (tree_json t))))) ≡ Some t
tree_sent (text t) [] h whole = cc
tree_sent (text t) (e ∷ es) h whole = cc
tree_sent (number n) es h whole = absurd h
tree_sent (node st ts) es h whole =
    let ms : Members = put (codes "s") (array (texts_json st)) (trees_json 0 ts) in
    ap (λ m. tree_of (object m)) (events_out es ms (statics_absent (array (texts_json st)) (trees_json 0 ts) (trees_absent 0 ts (omega (arith, h.0)))))
    ∙ ap (λ (o : Option Change). and_then o written) (tree_reads (node st ts) h)
tree_sent (list st rs) es h whole =
    let d : Data = array (rows_json rs) in
    let s : Data = array (texts_json st) in
    let ms : Members = put (codes "d") d (put (codes "s") s no_members) in
    ap (λ m. tree_of (object m)) (events_out es ms (absent_put e_key (codes "d") d (put (codes "s") s no_members) (λ is. cc) (statics_absent s no_members tt)))
    ∙ ap (λ (o : Option Change). and_then o written) (tree_reads (list st rs) h)
tree_sent (stream name b st rs) es h whole = absurd h
tree_sent (held name st hs) es h whole = absurd h

-- changes that are sent are read without the skips at their end
changes_sent : (cs : Changes) (es : List Pushed) → reach cs < 2 ^ 64 → ChangesAreSmall cs
    → change_of (without_events (object (with_events es (changes_json 0 cs)))) ≡ Some (inner (trimmed cs))
changes_sent cs es fits small =
    ap (λ m. change_of (object m)) (events_out es (changes_json 0 cs) (changes_absent 0 cs (omega (arith, fits))))
    ∙ change_reads (inner cs) (fits, small)

-- ---- a whole tree

abbrev taken : Option PageTree → Option (Option PageTree)
taken o = elim o [ None ↦ None | Some q ↦ Some (Some q) ]

small_judged : (k : ℕ) (p : PageTree) (read : Option (Option Tree)) → IsSmallPage p → read ≡ Some (Some p.root) → HoldsAlike (taken (judged k p)) read
small_judged k p read h is =
    subst (λ o. HoldsAlike (taken o) read) (sym (judged_small k p (no_numbers p.root h.0) h.1)) (is, dropped_small k p h)

none_opened : (o : Option Tree) → o ≡ None → elim o as (λ _. Option Tree) [ None ↦ None | Some t ↦ Some (opened t) ] ≡ None
none_opened None h = refl
none_opened (Some t) h = cc

opened_page : (p : PageTree) → IsSmallPage p → IsSmallPage (opened_tree p)
opened_page p h = (subst IsSmall (sym (opened_small p.root h.0)) h.0, h.1, λ n. none_opened (p.component n) (h.2 n))

page_sent : (p : PageTree) (es : List Pushed) → IsSmallPage p → is_whole (page_tree_json p es) ≡ true → page_taken (page_tree_json p es) ≡ Some (Some p.root)
page_sent p es h whole =
    let sent : page_tree_json p es ≡ object (with_events es (members_of (tree_json p.root)))
    = ap (λ ns. object (with_events es (with_components (components_json p.component ns) (members_of (tree_json p.root))))) h.1 in
    ap page_taken sent ∙ ap page_with (tree_sent p.root es h.0 (sym (ap is_whole sent) ∙ whole))

rendered_alike : (k : ℕ) (p : PageTree) (es : List Pushed) → IsSmallPage p → is_whole (page_tree_json p es) ≡ true → HoldsAlike (taken (judged k (opened_tree p))) (page_taken (page_tree_json p es))
rendered_alike k p es h whole =
    small_judged k (opened_tree p) (page_taken (page_tree_json p es)) (opened_page p h)
    (page_sent p es h whole ∙ ap (λ t. Some (Some t)) (sym (opened_small p.root h.0)))

-- ---- a diff

abbrev bare_diff : Changes → PageDiff
bare_diff cs = record { root = cs; components = [] }

diff_alike : (k : ℕ) (p : PageTree) (cs : Changes) (es : List Pushed) → IsSmallPage p → reach cs < 2 ^ 64 → ChangesAreSmall cs
    → HoldsAlike (held_diff k (Some p) (bare_diff cs)) (page_changed (Some p.root) (page_diff_json (bare_diff cs) es))
diff_alike k p cs es h fits small =
    by (merge_change p.root (inner cs)) (trim_merge (inner cs) p.root) (merge_small (inner cs) p.root h.0 (fits, small))
  where
    sent : Data
    sent = page_diff_json (bare_diff cs) es

    reads : page_changed (Some p.root) sent ≡ page_with (merge_change p.root (inner (trimmed cs)))
    reads = ap (λ (o : Option Change). page_with (and_then o (merge_change p.root))) (changes_sent cs es fits small)

    by : (o : Option Tree) → Holds o (λ u. merge_change p.root (inner (trimmed cs)) ≡ Some u) → Holds o IsSmall
        → HoldsAlike (taken (and_then (and_then o (λ t. and_then (merge_components p.component []) (λ f. Some (record { root = t; numbers = with_numbers [] p.numbers; component = f })))) (judged k)))
        (page_changed (Some p.root) sent)
    by None is s = tt
    by (Some u) is s = small_judged k (record { root = u; numbers = p.numbers; component = p.component }) (page_changed (Some p.root) sent) (s, h.1, h.2) (reads ∙ ap page_with is)

changed_alike : (k : ℕ) (kept : Option PageTree) (d : PageDiff) (es : List Pushed) → HoldsSmall kept → IsSmallDiff d → HoldsAlike (held_diff k kept d) (page_changed (root_held kept) (page_diff_json d es))
changed_alike k None d es h small = tt
changed_alike k (Some p) d es h small =
    let bare : d ≡ bare_diff d.root = ap (λ (cs : List (ℕ × Change)). record { root = d.root; components = cs }) small.2 in
    subst (λ x. HoldsAlike (held_diff k (Some p) x) (page_changed (Some p.root) (page_diff_json x es))) (sym bare) (diff_alike k p d.root es h small.0 small.1)

-- ---- a frame

refused_alike : (kept : Option PageTree) (b : Bool) → HoldsSmall kept → HoldsAlike (if b then Some None else Some kept) (if b then Some None else Some (root_held kept))
refused_alike kept true h = (refl, tt)
refused_alike kept false h = (refl, h)

body_alike : (k : ℕ) (kept : Option PageTree) (b : FrameBody) (r : Data) → HoldsSmall kept → IsSmallBody b → is_body (event_of b) r (payload_of b) ≡ true
    → HoldsAlike (client_takes k kept b) (after_event (root_held kept) (event_of b) (payload_of b))
body_alike k kept empty r h s is = (refl, h)
body_alike k kept (rendered p es) r h s is = rendered_alike k p es s (both_of (is_whole (page_tree_json p es)) (is_diff (page_tree_json p es)) is).0
body_alike k kept (changed d es) r h s is = changed_alike k kept d es h s
body_alike k kept (refusal reason) r h s is = refused_alike kept (bytes_eq reason (codes "join crashed")) h
body_alike k kept no_cids r h s is = (refl, h)
body_alike k kept (push d es) r h s is = changed_alike k kept d es h s
body_alike k kept closed r h s is = (refl, tt)
body_alike k kept (faulted reason) r h s is = (refl, tt)

body_of : (f : Frame) → is_frame (frame_json f) ≡ true → is_body (event_of f.body) (reference_json f.reference) (payload_of f.body) ≡ true
body_of f is = (both_of (is_some (head_of (reference_json f.join_reference) (reference_json f.reference) (string f.topic))) (is_body (event_of f.body) (reference_json f.reference) (payload_of f.body)) is).1

pub frame_alike : (k : ℕ) (kept : Option PageTree) (f : Frame) → HoldsSmall kept → IsSmallFrame f → HoldsAlike (client_takes k kept f.body) (client_reads (root_held kept) (frame_bytes f))
frame_alike k kept f h s =
    subst (HoldsAlike (client_takes k kept f.body)) (sym (reads_spelled (frame_bytes f) (frame_json f) s.1 (root_held kept)))
    (body_alike k kept f.body (reference_json f.reference) h s.0 (body_of f s.1.2))

-- ---- frames

pub all_alike : (k : ℕ) (kept : Option PageTree) (fs : List Frame) → HoldsSmall kept → AreSmallFrames fs → HoldsAlike (client_takes_all k kept fs) (client_reads_all (root_held kept) (map frame_bytes fs))
all_alike k kept [] h s = (refl, h)
all_alike k kept (f ∷ fs) h s = by (client_takes k kept f.body) (client_reads (root_held kept) (frame_bytes f)) (frame_alike k kept f h s.0) (λ next small. all_alike k next fs small s.1)
  where
    by : (o : Option (Option PageTree)) (read : Option (Option Tree)) → HoldsAlike o read
        → ((next : Option PageTree) → HoldsSmall next → HoldsAlike (client_takes_all k next fs) (client_reads_all (root_held next) (map frame_bytes fs)))
        → HoldsAlike (elim o as (λ _. Option (Option PageTree)) [ None ↦ None | Some x ↦ client_takes_all k x fs ]) (and_then read (λ x. client_reads_all x (map frame_bytes fs)))
    by None read a rest = tt
    by (Some next) read a rest =
        subst (λ r. HoldsAlike (client_takes_all k next fs) (and_then r (λ x. client_reads_all x (map frame_bytes fs)))) (sym a.0) (rest next a.1)

-- ---- frames that are bad

same_shifted : (cs : Changes) → (cs ≡ no_changes → ⊥) → shifted 1 cs ≡ skip cs
same_shifted no_changes h = absurd (h refl)
same_shifted (skip cs) h = refl
same_shifted (change c cs) h = refl

mutual
  trimmed_same : (cs : Changes) → EndInChange cs → trimmed cs ≡ cs
  trimmed_same no_changes h = refl
  trimmed_same (skip cs) h = ap (shifted 1) (trimmed_same cs h.1) ∙ same_shifted cs h.0
  trimmed_same (change c cs) h = ap (λ d. change d (trimmed cs)) (trimmed_change_same c h.0) ∙ ap (change c) (trimmed_same cs h.1)

  trimmed_change_same : (c : Change) → EndsInChange c → trimmed_change c ≡ c
  trimmed_change_same (write t) h = refl
  trimmed_change_same (inner cs) h = ap inner (trimmed_same cs h)
  trimmed_change_same (rows rs) h = refl
  trimmed_change_same (batch name b rs) h = refl

never_none : (k : ℕ) (p : PageTree) → IsSmallPage p → taken (judged k p) ≡ None → ⊥
never_none k p h is = let some : taken (judged k p) ≡ Some (Some (dropped k p)) = ap taken (judged_small k p (no_numbers p.root h.0) h.1) in cc

diff_refused : (k : ℕ) (p : PageTree) (cs : Changes) (es : List Pushed) → IsSmallPage p → reach cs < 2 ^ 64 → ChangesAreSmall cs → EndInChange cs
    → held_diff k (Some p) (bare_diff cs) ≡ None → page_changed (Some p.root) (page_diff_json (bare_diff cs) es) ≡ None
diff_refused k p cs es h fits small ends none =
    ap (λ (o : Option Change). page_with (and_then o (merge_change p.root))) (changes_sent cs es fits small ∙ ap (λ x. Some (inner x)) (trimmed_same cs ends))
    ∙ by (merge_change p.root (inner cs)) (merge_small (inner cs) p.root h.0 (fits, small)) none
  where
    by : (o : Option Tree) → Holds o IsSmall
        → taken (and_then (and_then o (λ t. and_then (merge_components p.component []) (λ f. Some (record { root = t; numbers = with_numbers [] p.numbers; component = f })))) (judged k)) ≡ None
        → page_with o ≡ None
    by None s is = refl
    by (Some u) s is = absurd (never_none k (record { root = u; numbers = p.numbers; component = p.component }) (s, h.1, h.2) is)

changed_refused : (k : ℕ) (kept : Option PageTree) (d : PageDiff) (es : List Pushed) → HoldsSmall kept → IsSmallDiff d → EndInChange d.root → held_diff k kept d ≡ None
    → page_changed (root_held kept) (page_diff_json d es) ≡ None
changed_refused k None d es h small ends none = refl
changed_refused k (Some p) d es h small ends none =
    let bare : d ≡ bare_diff d.root = ap (λ (cs : List (ℕ × Change)). record { root = d.root; components = cs }) small.2 in
    ap (λ x. page_changed (Some p.root) (page_diff_json x es)) bare
    ∙ diff_refused k p d.root es h small.0 small.1 ends (ap (held_diff k (Some p)) (sym bare) ∙ none)

not_refused : (kept : Option PageTree) (read : Option (Option Tree)) (b : Bool) → (if b then Some None else Some kept) ≡ None → read ≡ None
not_refused kept read true h = cc
not_refused kept read false h = cc

body_refused : (k : ℕ) (kept : Option PageTree) (b : FrameBody) → HoldsSmall kept → IsSmallBody b → BodyEndsInChange b → client_takes k kept b ≡ None
    → after_event (root_held kept) (event_of b) (payload_of b) ≡ None
body_refused k kept empty h s ends none = cc
body_refused k kept (rendered p es) h s ends none = absurd (never_none k (opened_tree p) (opened_page p s) none)
body_refused k kept (changed d es) h s ends none = changed_refused k kept d es h s ends none
body_refused k kept (refusal reason) h s ends none = not_refused kept _ (bytes_eq reason (codes "join crashed")) none
body_refused k kept no_cids h s ends none = cc
body_refused k kept (push d es) h s ends none = changed_refused k kept d es h s ends none
body_refused k kept closed h s ends none = cc
body_refused k kept (faulted reason) h s ends none = cc

pub frame_refused : (k : ℕ) (kept : Option PageTree) (f : Frame) → HoldsSmall kept → IsSmallFrame f → BodyEndsInChange f.body → client_takes k kept f.body ≡ None
    → client_reads (root_held kept) (frame_bytes f) ≡ None
frame_refused k kept f h s ends none = reads_spelled (frame_bytes f) (frame_json f) s.1 (root_held kept) ∙ body_refused k kept f.body h s.0 ends none
