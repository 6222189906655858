-- One rendering of a page whose places are plain.
use Rattle.std.proofs.Common.{◌≡◌, ℕ, List, [], Option, Some, Ok, Err, refl, sym, ap, ◌∙◌}
use Rattle.value_core.specs.Value.{Assigns, no_assigns}
use Rattle.view_api.specs.Effect.{Effect}
use Rattle.view_api.specs.Meaning.{HandlerMeaning}
use Rattle.slot_compile.specs.Template.{Source, syntax_of}
use Rattle.diff_render.specs.Renders.{Meets}
use Rattle.diff_render.specs.Scope.{alone, scope_of}
use Rattle.diff_render.proofs.Plains.{plain_pass, plain_trace}
use Rattle.doc_model.specs.Environment.{Env, Stream}
use Rattle.doc_model.specs.Evaluation.{Res, then_do, on_res}
use Rattle.doc_model.specs.Trace.{Items}
use Rattle.doc_model.specs.Tracing.{trace}
use Rattle.doc_model.specs.Effects.{Rest, apply_effects, views_of}
use Rattle.doc_model.specs.Once.{left, left_to}
use Rattle.doc_model.specs.Run.{settled_stream, settled_components}
use Rattle.doc_model.specs.Walk.{Walk, pass, at_end_of_walk, plainly}
use Rattle.doc_model.specs.Process.{Outcome, levels, scope_of_view, rendered_page, turning_view, view_turn}
use Rattle.live_page.specs.declared.app.App.{App}
use Rattle.live_page.specs.World.{world_of, site}
use Rattle.live_page.specs.Page.{page_of}

module _ {V : Type 0} (meaning : V → HandlerMeaning) (app : App V) where
  abbrev pub template : Source
  template = app.compiled

  abbrev pub walk_of : Rest → Walk Rest
  walk_of r = record { components = []; met = []; next = 1; rest = r }

  abbrev pub outcome_of : ℕ → Option (List ℕ) → List ℕ → Assigns → Rest → Items → Outcome
  outcome_of v j t as' r is = record { page = page_of v as' j t is; rest = r }

  -- what the template meets under some assigns
  abbrev pub met_of : Assigns → Res Items
  met_of as' = trace site levels (scope_of as' no_assigns) (syntax_of template)

  pub met_is : (as' : Assigns) (r : Res Items) → Meets template as' r → met_of as' ≡ r
  met_is as' r h = h.is site (scope_of as' no_assigns) refl refl

  anywhere : (env : Env) → env.variables ≡ no_assigns → trace site levels env (syntax_of template) ≡ met_of env.assigns
  anywhere env none =
      plain_trace site levels env (syntax_of template) app.plain
      ∙ ap (λ vs. trace alone levels (scope_of env.assigns vs) (syntax_of template)) none
      ∙ sym (plain_trace site levels (scope_of env.assigns no_assigns) (syntax_of template) app.plain)

  passed : (env : Env) (r : Rest) → env.variables ≡ no_assigns → pass (views_of (world_of meaning app).views) site levels env (syntax_of template) (walk_of r) ≡ plainly (met_of env.assigns) (walk_of r)
  passed env r none =
      plain_pass (views_of (world_of meaning app).views) site levels env (syntax_of template) (walk_of r) app.plain
      ∙ ap (λ (q : Res Items). plainly q (walk_of r)) (anywhere env none)

  -- the page after handlers of the view
  pub rendered_is : (v : ℕ) (j : Option (List ℕ)) (t : List ℕ) (as' : Assigns) (streams : List ℕ → Stream) (r : Rest)
      → rendered_page (world_of meaning app) v j t (turning_view [] 1 (record { assigns = as'; streams = streams }, r))
      ≡ on_res (outcome_of v j t as' r) (met_of as')
  rendered_is v j t as' streams r = ap after (passed (scope_of_view as' streams []) r refl) ∙ by (met_of as')
    where
      rendered : Items × Walk Rest → Items × Walk Rest
      rendered p = (p.0, at_end_of_walk p.1)

      left_page : Items × Walk Rest → Outcome
      left_page p = record { page = record { view = v; assigns = as'; streams = settled_stream (left site.mark p.0); components = settled_components (left_to site.mark p.0) p.1.components; next = p.1.next; met = p.0; join_reference = j; topic = t }; rest = p.1.rest }

      after : Res (Items × Walk Rest) → Res Outcome
      after q = on_res left_page (on_res rendered q)

      by : (q : Res Items) → after (plainly q (walk_of r)) ≡ on_res (outcome_of v j t as' r) q
      by (Ok is) = refl
      by (Err e) = refl

  -- a turn of a page
  pub turn_is : (v : ℕ) (as0 : Assigns) (j : Option (List ℕ)) (t : List ℕ) (old : Items) (es : List Effect) (r0 : Rest) (as' : Assigns) (streams : List ℕ → Stream) (r : Rest)
      → apply_effects es (record { assigns = as0; streams = (page_of v as0 j t old).streams }, r0) ≡ Ok (record { assigns = as'; streams = streams }, r)
      → view_turn (world_of meaning app) (page_of v as0 j t old) (Some es) r0 ≡ on_res (outcome_of v j t as' r) (met_of as')
  turn_is v as0 j t old es r0 as' streams r h =
      ap (λ q. then_do q (λ p. rendered_page (world_of meaning app) v j t (turning_view [] 1 p))) h ∙ rendered_is v j t as' streams r
