use Rattle.std.proofs.Common.{ap, sym}
use Rattle.value_core.specs.Value.{no_assigns}
use Rattle.value_core.specs.View.{assigns_view}
use Rattle.slot_compile.specs.Template.{syntax_of}
use Rattle.doc_model.specs.FullRendering.{full_render}
use Rattle.doc_model.specs.Process.{levels}
use Rattle.diff_render.specs.Scope.{alone, scope_in, scope_of}
use Rattle.diff_render.proofs.Texts.{no_scope, renders_plain, shows_as}
use Rattle.diff_render.proofs.plain.render_plain.Goals as goal

pub returns : goal.returns
returns c =
    let as' = assigns_view c.args.assigns.now in
    let ns = syntax_of c.args.source.now in
    renders_plain c.args.source.now as' c.body_text.result c.requires
    (shows_as c.body_text.result (full_render alone levels (scope_in c.args.assigns.now c.new-variables.result) ns) (full_render alone levels (scope_of as' no_assigns) ns)
    (ap (λ env. full_render alone levels env ns) (sym (no_scope c.args.assigns.now c.new-variables.result c.new-variables.ensures))) (c.body_text.ensures.shown c.requires))
