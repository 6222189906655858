-- The laws of walks and of renderings, for the rest of a process.
use Rattle.doc_model.specs.Walk.{OnePass, PassIsWalkAndTrace}
use Rattle.doc_model.specs.Run.{SessionShows}
use Rattle.doc_model.specs.Effects.{Rest}
use Rattle.doc_model.proofs.Passes.{one_pass}
use Rattle.doc_model.proofs.Visits.{pass_is_walk_and_trace}
use Rattle.doc_model.proofs.Runs.{session_shows}

pub pass_of_process : OnePass Rest
pass_of_process = one_pass Rest

pub walk_of_process : PassIsWalkAndTrace Rest
walk_of_process = pass_is_walk_and_trace Rest

pub session_of_process : SessionShows Rest
session_of_process = session_shows Rest
