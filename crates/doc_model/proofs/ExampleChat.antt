-- The chat of the examples: browsers over one topic and a stream.
use Rattle.std.proofs.Common.{ℕ, negsuc, List, [], ◌∷◌, ◌++◌, Option, Some, None, option_map, codes, if◌then◌else◌}
use Rattle.std.specs.Str.{bytes_eq}
use Rattle.value_core.specs.Value.{Value, text, map_of, Assigns, no_assigns, assign}
use Rattle.value_core.specs.Print.{text_of_value}
use Rattle.ast_core.specs.declared.operators.BinaryOp.TheVariants.{Plus}
use Rattle.ast_core.specs.Syntax.{Expr, binary, field, named, no_attributes, written, double_quoted, valued, put, stream_place, Nodes, no_nodes}
use Rattle.doc_model.specs.Environment.{Env}
use Rattle.doc_model.specs.Evaluation.{eval_expr}
use Rattle.view_api.specs.Effect.{Effect, assign_to, stream_insert, subscribe, publish}
use Rattle.view_api.specs.Meaning.{ViewMeaning}
use Rattle.doc_model.specs.Effects.{mailed}
use Rattle.wire_v2.specs.Message.{form_text, join, event}
use Rattle.doc_model.specs.Process.{World, Stepped, begin_state, step_message, step_waiting}
use Rattle.doc_model.proofs.ExampleParts.{tag, place, words, one, all_nodes, put_assign, int, assigned, variable, map_expr, scope}
use Rattle.doc_model.proofs.ExampleWorlds.{where_ok, scripted, world_of, home_alone, head_with}

-- `<li :for={{d, m} <- @streams.msgs} id={d}><b>{m.name}</b>: {m.body}</li>`
abbrev rows : Nodes
rows = one (tag (codes "li") (valued (codes "id") (variable (codes "d")) no_attributes)
    (all_nodes (tag (codes "b") no_attributes (one (place (put (field (variable (codes "m")) (codes "name"))))) ∷ words (codes ": ") ∷ place (put (field (variable (codes "m")) (codes "body"))) ∷ [])))

-- `<h1>{@room}</h1><ul id="msgs" phx-update="stream">..</ul><form phx-submit="save"><input name="msg" value={@draft}></form>`
abbrev chat : Nodes
chat = all_nodes
    (tag (codes "h1") no_attributes (one (put_assign (codes "room")))
    ∷ tag (codes "ul") (written (codes "id") (double_quoted (codes "msgs")) (written (codes "phx-update") (double_quoted (codes "stream")) no_attributes))
    (one (place (stream_place (codes "msgs") (codes "d") (named (codes "m")) rows)))
    ∷ tag (codes "form") (written (codes "phx-submit") (double_quoted (codes "save")) no_attributes)
    (one (tag (codes "input") (written (codes "name") (double_quoted (codes "msg")) (valued (codes "value") (assigned (codes "draft")) no_attributes)) no_nodes))
    ∷ [])

-- the assigns, and one variable
abbrev with_variable : List ℕ → Value → Assigns → Env
with_variable k v as' = record (scope as') { variables = assign k v no_assigns }

-- `k.l`
abbrev of : List ℕ → List ℕ → Expr
of k l = field (variable k) l

-- `["assign","room","params.room"]`, `["assign","draft","\"\""]`, `["assign","k","0"]` and `["subscribe","\"room:\" <> @room"]`
abbrev mounts : Value → Option (List Effect)
mounts params =
    where_ok (eval_expr (with_variable (codes "params") params no_assigns) (of (codes "params") (codes "room")))
    (λ room. where_ok (eval_expr (scope no_assigns) (int 0))
    (λ zero. Some (assign_to (codes "room") room ∷ assign_to (codes "draft") (text []) ∷ assign_to (codes "k") zero ∷ subscribe (codes "room:lobby") ∷ [])))

-- `["publish","\"room:\" <> @room","%{name: value.user.name, body: value.msg}"]`
abbrev saves : Value → Assigns → Option (List Effect)
saves v as' =
    where_ok (eval_expr (with_variable (codes "value") v as') (map_expr ((codes "name", field (of (codes "value") (codes "user")) (codes "name")) ∷ (codes "body", of (codes "value") (codes "msg")) ∷ [])))
    (λ said. Some (publish (codes "room:lobby") said ∷ []))

-- `["assign","k","@k + 1"]`, and an insert at the end under the dom id of `k`
abbrev hears : Value → Assigns → Option (List Effect)
hears m as' =
    where_ok (eval_expr (scope as') (binary Plus (assigned (codes "k")) (int 1)))
    (λ k. where_ok (eval_expr (with_variable (codes "message") m as') (map_expr ((codes "name", of (codes "message") (codes "name")) ∷ (codes "body", of (codes "message") (codes "body")) ∷ [])))
    (λ item. option_map (λ t. assign_to (codes "k") k ∷ stream_insert (codes "msgs") (codes "msgs-" ++ t) item (negsuc 0) None ∷ []) (text_of_value k)))

abbrev views : ViewMeaning
views = record (scripted [] [] [] []) {
  mount = λ v p. mounts p;
  handle_event = λ o name w as'. saves w as';
  handle_info = λ v m as'. hears m as';
}

-- what a form reads as
abbrev form : List ℕ → List ℕ → Value
form name msg = map_of (assign (codes "msg") (text msg) (assign (codes "user") (map_of (assign (codes "name") (text name) no_assigns)) no_assigns))

-- `/chat/:room` with `lobby`, and the two forms that are sent
abbrev pub chatting : World
chatting = record (world_of home_alone chat views) {
  route = λ url. Some (record { view = 0; params = map_of (assign (codes "room") (text (codes "lobby")) no_assigns) });
  read_form = λ t. if bytes_eq t (codes "user[name]=Ann&msg=hi") then form (codes "Ann") (codes "hi") else form (codes "Bob") (codes "yo");
}

-- a browser of this topic joins, and then sends this form
abbrev pub comes : List ℕ → Stepped
comes topic = step_message chatting begin_state [] (join (head_with (Some (codes "1")) (Some (codes "1")) topic) (codes "/chat/lobby"))

abbrev pub submits : List ℕ → List ℕ → Stepped
submits topic t = step_message chatting (comes topic).state [] (event (head_with (Some (codes "1")) (Some (codes "2")) topic) (codes "save") (form_text t) None)

-- a mail of the topic
abbrev pub receives : Stepped → List ℕ → Stepped
receives s bytes = step_waiting chatting s.state [] (mailed (codes "room:lobby") 1 bytes)
