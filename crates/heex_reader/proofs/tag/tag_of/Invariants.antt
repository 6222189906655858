use Rattle.std.proofs.Common.{◌≡◌, length}
use Rattle.std.specs.Vec.Iter.{into_iter_items, into_iter_len}
use Rattle.heex_reader.specs.Contents.{kind_of_tag}
use Rattle.heex_reader.specs.Fits.{AttributesFit, Follows}
use Rattle.heex_reader.specs.Onto.{tag_onto, bare_tag}
use Rattle.heex_reader.specs.SeenSigns.{tag_view}
use Rattle.heex_reader.proofs.tag.tag_of.Given as goal

-- the tag so far with what is left is the tag of all
abbrev pub invariant-attributes : goal.invariant-attributes
invariant-attributes l = record {
  same : tag_onto (kind_of_tag l.fn.name) (tag_view l.tag) (into_iter_items l.raw-iterator) ≡ tag_onto (kind_of_tag l.fn.name) (bare_tag l.fn.name) l.fn.attributes;
  counted : into_iter_len l.raw-iterator ≡ length (into_iter_items l.raw-iterator);
  named : l.tag.name ≡ l.fn.name;
  fits : AttributesFit (into_iter_items l.raw-iterator);
  follows : Follows l.text l.cursor;
}
