use Rattle.std.proofs.Common.{◌≡◌, drop}
use Rattle.ast_core.specs.NamesIn.{all_names, node_reads, clause_reads, entry_reads}
use Rattle.ast_core.specs.Walk.{met}
use Rattle.ast_core.proofs.walk.Walk.+node.Given as goal

abbrev pub invariant-read_nodes-nodes : goal.invariant-read_nodes-nodes
invariant-read_nodes-nodes l = met (all_names node_reads (drop l.node-index l.node-items)) l.self ≡ met (all_names node_reads l.node-items) l.initial.self

abbrev pub invariant-read_clauses-clauses : goal.invariant-read_clauses-clauses
invariant-read_clauses-clauses l = met (all_names clause_reads (drop l.clause-index l.clause-items)) l.self ≡ met (all_names clause_reads l.clause-items) l.initial.self

abbrev pub invariant-read_entries-entries : goal.invariant-read_entries-entries
invariant-read_entries-entries l = met (all_names entry_reads (drop l.entry-index l.entry-items)) l.self ≡ met (all_names entry_reads l.entry-items) l.initial.self
