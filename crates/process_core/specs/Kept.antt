-- What is kept of a process, and the state that it stands for.
use Rattle.std.specs.Prelude.{◌≡◌, List, Option, Some, None, codes}
use Rattle.slot_compile.specs.Template.{Source}
use Rattle.live_page.specs.Page.{StandsFor}
use Rattle.doc_model.specs.Process.{Page, ProcessState}
use Rattle.doc_model.specs.Journal.{fault_frames, spelled}
use Rattle.process_core.specs.declared.process.Process.{Process}
use Rattle.process_core.specs.declared.process.Up.{Up}

-- the page stands for this one, and the last frames for want of memory are ready
pub record UpFor (template : Source) (u : Up) (p : Page) : Type 0 where
  pub stands : StandsFor template u.page p
  pub ready : u.last_words ≡ spelled (fault_frames (Some p) (Some (codes "out of memory")))

abbrev pub UpStands : Source → Option Up → Option Page → Type 0
UpStands template None None = Unit {0}
UpStands template (Some u) (Some p) = UpFor template u p
UpStands template None (Some p) = ⊥
UpStands template (Some u) None = ⊥

-- what is kept stands for this state
pub record Keeps (template : Source) (kept : Process) (s : ProcessState) : Type 0 where
  pub generation : s.generation ≡ kept.generation
  pub up : UpStands template kept.up s.page
