-- Items as lines of the readers, and what is expected as a place of theirs.
use Rattle.std.specs.Prelude.{Bool, true, false}
use Rattle.parse_items.specs.declared.items.Item.{Item}
use Rattle.parse_items.specs.declared.items.Item.TheVariants as item
use Rattle.parse_items.specs.declared.items.Expecting.{Expecting}
use Rattle.parse_items.specs.declared.items.Expecting.TheVariants as expecting
use Rattle.parse_readers.specs.inner.Items.{Item as Line, Whole, Signature, Equation, Expecting as Place, Outside, Wanting, Within}

abbrev pub seen_item : Item → Line
seen_item (item.Declared decl) = Whole decl
seen_item (item.Signature name types) = Signature name types
seen_item (item.Equation name patterns exp) = Equation (name, patterns, exp)

abbrev pub seen_expecting : Expecting → Place
seen_expecting expecting.Declaration = Outside
seen_expecting expecting.Equation = Wanting
seen_expecting expecting.Either = Within

-- whether an equation must come
abbrev pub wants : Place → Bool
wants Outside = false
wants Wanting = true
wants Within = false
