-- The files of a folder in memory.
use Rattle.std.specs.Prelude.{ℕ, List, map}
use Rattle.text_core.specs.declared.by_key.KeyValue.{KeyValue}
use Rattle.text_core.specs.declared.held.HeldFolder.{HeldFolder}

-- a file as its name and its bytes
abbrev pub file_of : KeyValue (List ℕ) → List ℕ × List ℕ
file_of e = (e.key, e.value)

abbrev pub files_of : List (KeyValue (List ℕ)) → List (List ℕ × List ℕ)
files_of es = map file_of es

abbrev pub folder_files : HeldFolder → List (List ℕ × List ℕ)
folder_files d = files_of d.files
