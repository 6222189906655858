-- The page of a client.
use Rattle.std.specs.Prelude.{ℕ, List, [], Option, Some, None, option_map}
use Rattle.serde_json.specs.Data.{Data}
use Rattle.diff_tree.specs.Tree.{Tree}
use Rattle.client_merge.specs.Reading.{merge_data}
use Rattle.client_merge.specs.Held.{held_tree, page_of}
use Rattle.client_merge.specs.declared.client.Client.{Client}

-- the tree of its page, where it has one
abbrev pub tree_held : Client → Option Tree
tree_held c = option_map held_tree c.held

-- a page after a diff, where there is one and the diff fits it
abbrev pub merged_page : Option Tree → Data → Option Tree
merged_page None d = None
merged_page (Some t) d = merge_data t d

-- what a page shows, and nothing where there is none
abbrev pub text_shown : Option Tree → List ℕ
text_shown None = []
text_shown (Some t) = page_of t
