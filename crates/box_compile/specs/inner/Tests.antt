-- The tests of patterns, by what they want.
use Rattle.box_code.specs.Paths.{Spot, Test, WordIs, TagIs}
use Rattle.box_compile.specs.declared.spots.Wanted.{Wanted}
use Rattle.box_compile.specs.declared.spots.Wanted.TheVariants.{Word, Tag}

abbrev pub test_of : Spot → Wanted → Test
test_of spot (Word word) = WordIs spot word
test_of spot (Tag tag) = TagIs spot tag
