-- Worked examples: heartbeat and leave.
use Rattle.std.proofs.Common.{◌≡◌, [], ◌∷◌, ◌++◌, Some, None, codes, refl}
use Rattle.std.specs.Fmt.{digits}
use Rattle.json.specs.Print.{escape_byte}
use Rattle.wire_v2.specs.Message.{beat, leave}
use Rattle.doc_model.specs.Process.{Stepped, step_message}
use Rattle.doc_model.proofs.ExamplesPages.{counting, start}
use Rattle.doc_model.proofs.ExampleWorlds.{frames_text, client_page}

abbrev beaten : Stepped
beaten = step_message counting start.state [] (beat (record { join_reference = Some (codes "1"); reference = Some (codes "2"); topic = codes "phoenix" }))

abbrev left : Stepped
left = step_message counting beaten.state [] (leave (record { join_reference = Some (codes "1"); reference = Some (codes "3"); topic = codes "lv:A" }))

-- a heartbeat is answered under no join reference, and changes nothing
example_heartbeat_and_leave_beat_frames : frames_text beaten ≡ codes "[null,\"2\",\"phoenix\",\"phx_reply\",{\"response\":{},\"status\":\"ok\"}]" ∷ []
unfolding digits escape_byte
example_heartbeat_and_leave_beat_frames = refl

example_heartbeat_and_leave_beat_shown : client_page counting (start.frames ++ beaten.frames) ≡ Some (Some (codes "<p>0</p>"))
unfolding digits
example_heartbeat_and_leave_beat_shown = refl

-- leave: the reply, then the end of the page
example_heartbeat_and_leave_frames : frames_text left
    ≡ codes "[\"1\",\"3\",\"lv:A\",\"phx_reply\",{\"response\":{},\"status\":\"ok\"}]" ∷ codes "[\"1\",\"1\",\"lv:A\",\"phx_close\",{}]" ∷ []
unfolding digits escape_byte
example_heartbeat_and_leave_frames = refl

example_heartbeat_and_leave_state : left.state ≡ record { generation = 1; page = None }
unfolding digits
example_heartbeat_and_leave_state = refl

example_heartbeat_and_leave_shown : client_page counting (start.frames ++ (beaten.frames ++ left.frames)) ≡ Some None
unfolding digits
example_heartbeat_and_leave_shown = refl
