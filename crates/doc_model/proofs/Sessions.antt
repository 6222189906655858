-- The frames since a join show the page.
use Rattle.std.proofs.Common.{◌≡◌, ℕ, ◌≤◌, arith, List, [], ◌∷◌, Ok, Option, Some, None, subst, ◌+◌}
use Rattle.ast_core.specs.Syntax.{Nodes}
use Rattle.doc_model.specs.Scopes.{Site}
use Rattle.doc_model.specs.FullRendering.{full_render}
use Rattle.ast_core.specs.Places.{cut}
use Rattle.doc_model.specs.Components.{HeldTree, depth, whole_tree, lean_diff}
use Rattle.diff_tree.specs.Client.{PageTree, show_tree, merge_diff, judged, opened_tree, and_then}
use Rattle.doc_model.specs.Laws.{Gives}
use Rattle.doc_model.specs.Session.{Rendering, IsRendering, GoesOn, AtMost, latest, merged, FramesShow}
use Rattle.doc_model.proofs.Pages.{page_shows}
use Rattle.doc_model.proofs.Results.{On}
use Rattle.doc_model.proofs.Depths.{trace_depth}
use Rattle.doc_model.proofs.Judged.{merge_lean_whole, taken_whole}

abbrev Shown : Site → Nodes → Rendering → PageTree → Type 0
Shown site ns r p = HeldTree site.mark (cut ns) r.items p × ((n : ℕ) → depth r.items ≤ n → full_render site r.level r.env ns ≡ Ok (show_tree site.mark n p))

-- what a rendering met has no more levels of components than it has levels
shallow : (site : Site) (ns : Nodes) (r : Rendering) → IsRendering site ns r → depth r.items ≤ r.level
shallow site ns r i = subst (On (λ is. depth is ≤ r.level)) i.0 (trace_depth site r.level r.env ns)

first_level : (m : ℕ) (r : Rendering) (qs : List Rendering) → AtMost m r qs → r.level ≤ m
first_level m r [] l = l
first_level m r (q ∷ qs) l = l.0

goes_on : (site : Site) (ns : Nodes) (m : ℕ) (r : Rendering) (qs : List Rendering) (p : PageTree) → IsRendering site ns r → GoesOn site ns r qs → AtMost m r qs → HeldTree site.mark (cut ns) r.items p → Gives (Shown site ns (latest r qs)) (merged (m + m) p r qs)
goes_on site ns m r [] p i g l h = (h, λ n d. page_shows site r.level r.env ns r.items p i.0 h n d)
goes_on site ns m r (q ∷ qs) p i g l h =
    let a = shallow site ns r i in
    let b = shallow site ns q g.0 in
    let c = first_level m q qs l.1 in
    let d : depth r.items + depth q.items ≤ m + m = omega (arith, l.0) in
    by_page (merge_diff (m + m) p (lean_diff r.items q.items)) (merge_lean_whole site r.level q.level r.env q.env ns r.items q.items p i.0 g.0.0 g.1 g.0.1 h (m + m) d) (λ p' x. goes_on site ns m q qs p' g.0 g.2 l.1 x)
  where
    by_page : (o : Option PageTree) → Gives (HeldTree site.mark (cut ns) q.items) o → ((p' : PageTree) → HeldTree site.mark (cut ns) q.items p' → Gives (Shown site ns (latest q qs)) (merged (m + m) p' q qs)) → Gives (Shown site ns (latest q qs)) (and_then o (λ p'. merged (m + m) p' q qs))
    by_page (Some p') x k = k p' x
    by_page None x k = absurd x

pub frames_show : FramesShow
frames_show site ns m r qs b g l =
    let c = shallow site ns r b.0 in
    let f = first_level m r qs l in
    let d : depth r.items ≤ m + m = omega arith in
    by_first (judged (m + m) (opened_tree (whole_tree (cut ns) r.items))) (taken_whole site r.level r.env ns r.items b.0.0 b.0.1 b.1 b.2 (m + m) d)
  where
    by_first : (o : Option PageTree) → Gives (HeldTree site.mark (cut ns) r.items) o → Gives (Shown site ns (latest r qs)) (and_then o (λ p. merged (m + m) p r qs))
    by_first (Some p) x = goes_on site ns m r qs p b.0 g l x
    by_first None x = absurd x
