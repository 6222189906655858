-- Which folders are a bundle: two files of at most 1,048,576 bytes, a manifest `bundle.json` and the template that it
-- names.
use Rattle.std.specs.Prelude.{ℕ, List, ◌++◌, length, codes, ◌==◌, nat_le, if◌then◌else◌, Option, Some, None, option_map, option_and_then}
use Rattle.std.specs.Str.{is_utf8}
use Rattle.text_core.specs.Outside.{content_of}
use Rattle.text_core.specs.declared.by_key.KeyValue.{KeyValue}
use Rattle.ast_core.specs.Syntax.{Nodes}
use Rattle.slot_compile.specs.Template.{syntax_of}
use Rattle.template_reader.specs.Reading.{template_of}
use Rattle.bundle_files.specs.Steps.{Steps}
use Rattle.bundle_files.specs.StepsView.{steps_view, events_view}
use Rattle.bundle_files.specs.declared.bundle.Bundle as program
use Rattle.bundle_files.specs.Manifest.{Manifest, manifest_in}

-- a bundle: the template of its view, what the view does when it is mounted, and what it does at its events
pub record Bundle : Type 0 where
  pub template : Nodes
  pub mount : Steps
  pub events : List (KeyValue Steps)

-- what the program's bundle stands for
abbrev pub bundle_view : program.Bundle → Bundle
bundle_view b = record { template = syntax_of b.compiled; mount = steps_view b.mount; events = events_view b.events }

-- the bytes of the file of that name, where it is there and not too large
abbrev pub small_file : List ℕ → List (List ℕ × List ℕ) → Option (List ℕ)
small_file name fs = option_and_then (λ bytes. if nat_le (length bytes) 1048576 then Some bytes else None) (content_of name fs)

-- the template of bytes in UTF-8
abbrev pub template_in : List ℕ → Option Nodes
template_in bytes = if is_utf8 bytes then template_of bytes else None

-- the bundle of a manifest and the template that it names
abbrev pub bundle_with : List (List ℕ × List ℕ) → Manifest → Option Bundle
bundle_with fs m = option_map (λ t. record { template = t; mount = m.mount; events = m.events }) (option_and_then template_in (small_file (m.template ++ codes ".html.heex") fs))

-- the bundle that the files are
abbrev pub bundle_of : List (List ℕ × List ℕ) → Option Bundle
bundle_of fs = if length fs == 2 then option_and_then (bundle_with fs) (option_and_then manifest_in (small_file (codes "bundle.json") fs)) else None
