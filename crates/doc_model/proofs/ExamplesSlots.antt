-- Worked examples: a table with slots.
use Rattle.std.proofs.Common.{◌≡◌, ℕ, List, [], ◌∷◌, ◌++◌, Some, None, Ok, codes, refl}
use Rattle.std.specs.Fmt.{digits}
use Rattle.json.specs.Print.{escape_byte}
use Rattle.ast_core.specs.Syntax.{Expr, field, named, no_attributes, written, double_quoted, valued, put, for_place, call, render_slot, Nodes, Body, slot_body, Entries, no_entries, entry, Linked}
use Rattle.doc_model.specs.Process.{World, Stepped}
use Rattle.doc_model.proofs.ExampleParts.{here, tag, place, words, one, all_nodes, no_body, quote, int, assigned, variable, list_expr, map_expr}
use Rattle.doc_model.proofs.ExampleWorlds.{Step, assign_step, scripted, world_of, joined, event_after, carried_text, client_page, full_page}

-- `<table><tr :for={r <- @rows}><td :for={c <- @col}>{c.label}:{render_slot(c, r)}</td></tr></table>`
abbrev cells : Nodes
cells = all_nodes (place (put (field (variable (codes "c")) (codes "label"))) ∷ words (codes ":") ∷ place (render_slot (variable (codes "c")) (variable (codes "r"))) ∷ [])

abbrev table : Nodes
table =
    one (tag (codes "table") no_attributes (one (place (for_place (named (codes "r")) (assigned (codes "rows")) (one (tag (codes "tr") no_attributes
    (one (place (for_place (named (codes "c")) (assigned (codes "col")) (one (tag (codes "td") no_attributes cells)))))))))))

-- `<:col :let={u} label=..>{u.k}</:col>`
abbrev column : ℕ → List ℕ → Body
column n k = slot_body n (named (codes "u")) (one (place (put (field (variable (codes "u")) k))))

abbrev col : List ℕ → Body → Entries → Entries
col label b es = entry here (codes "col") (written (codes "label") (double_quoted label) no_attributes) None None b es

-- `<.table rows={@rows}><:col :let={u} label="N">{u.n}</:col><:col :let={u} label="A">{u.a}</:col></.table>`
abbrev home : Nodes
home = one (place (call (codes "table") (valued (codes "rows") (assigned (codes "rows")) no_attributes) no_body
    (col (codes "N") (column 0 (codes "n")) (col (codes "A") (column 1 (codes "a")) no_entries))))

abbrev linked : Linked
linked = record {
  templates = record { name = codes "home"; nodes = home } ∷ record { name = codes "table"; nodes = table } ∷ [];
  bodies = column 0 (codes "n") ∷ column 1 (codes "a") ∷ [];
  modules = [];
}

abbrev user : List ℕ → ℕ → Expr
user n a = map_expr ((codes "n", quote n) ∷ (codes "a", int a) ∷ [])

abbrev to_rows : List Expr → List Step
to_rows es = assign_step (codes "rows") (list_expr es) ∷ []

abbrev users : World
users = world_of linked home
    (scripted (to_rows (user (codes "x") 1 ∷ user (codes "y") 2 ∷ user (codes "z") 3 ∷ [])) ((codes "one", to_rows (user (codes "w") 4 ∷ [])) ∷ []) [] [])

abbrev three : Stepped
three = joined users

abbrev single : Stepped
single = event_after users three (codes "2") (codes "one")

-- table with slots: each entry is given the row, and has its own attributes
example_slot_table_shown : client_page users three.frames
    ≡ Some (Some (codes "<table><tr><td>N:x</td><td>A:1</td></tr><tr><td>N:y</td><td>A:2</td></tr><tr><td>N:z</td><td>A:3</td></tr></table>"))
unfolding digits
example_slot_table_shown = refl

example_slot_table_rendered : full_page users three
    ≡ Some (Ok (codes "<table><tr><td>N:x</td><td>A:1</td></tr><tr><td>N:y</td><td>A:2</td></tr><tr><td>N:z</td><td>A:3</td></tr></table>"))
unfolding digits
example_slot_table_rendered = refl

-- the text of one row of the table's tree
abbrev row_text : List ℕ → List ℕ → List ℕ
row_text n a =
    codes "[{\"d\":[[\"N\",{\"0\":{\"0\":\"" ++ (n ++ (codes "\",\"s\":[\"\",\"\"]},\"s\":[\"\",\"\"]}],[\"A\",{\"0\":{\"0\":\""
    ++ (a ++ codes "\",\"s\":[\"\",\"\"]},\"s\":[\"\",\"\"]}]],\"s\":[\"<td>\",\":\",\"</td>\"]}]")))

example_slot_table_tree : carried_text three
    ≡ (codes "{\"0\":{\"0\":{\"d\":[" ++ (row_text (codes "x") (codes "1") ++ (codes "," ++ (row_text (codes "y") (codes "2") ++ (codes "," ++ (row_text (codes "z") (codes "3")
    ++ codes "],\"s\":[\"<tr>\",\"</tr>\"]},\"s\":[\"<table>\",\"</table>\"]},\"s\":[\"\",\"\"]}")))))) ∷ []
unfolding digits escape_byte
example_slot_table_tree = refl

-- other rows: all of them are sent, and inside a row everything is whole
example_slot_table_diff : carried_text single ≡ (codes "{\"0\":{\"0\":{\"d\":[" ++ (row_text (codes "w") (codes "4") ++ codes "]}}}")) ∷ []
unfolding digits escape_byte
example_slot_table_diff = refl

example_slot_table_changed : client_page users (three.frames ++ single.frames) ≡ Some (Some (codes "<table><tr><td>N:w</td><td>A:4</td></tr></table>"))
unfolding digits
example_slot_table_changed = refl
