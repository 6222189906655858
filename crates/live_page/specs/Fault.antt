-- Which fault of a page a fault of its parts is.
use Rattle.view_api.specs.declared.views.ViewFault.{ViewFault}
use Rattle.view_api.specs.declared.views.ViewFault.TheVariants as view
use Rattle.effects_apply.specs.declared.fault.EffectFault.{EffectFault}
use Rattle.effects_apply.specs.declared.fault.EffectFault.TheVariants as effect
use Rattle.diff_render.specs.declared.fault.RenderFault.{RenderFault}
use Rattle.diff_render.specs.declared.fault.RenderFault.TheVariants as render
use Rattle.live_page.specs.declared.fault.PageFault.{PageFault}
use Rattle.live_page.specs.declared.fault.PageFault.TheVariants.{Raised, OutOfMemory}

abbrev pub of_view : ViewFault → PageFault
of_view view.Raised = Raised
of_view view.OutOfMemory = OutOfMemory

abbrev pub of_effect : EffectFault → PageFault
of_effect effect.Raised = Raised
of_effect effect.OutOfMemory = OutOfMemory

abbrev pub of_render : RenderFault → PageFault
of_render render.Raised = Raised
of_render render.OutOfMemory = OutOfMemory
