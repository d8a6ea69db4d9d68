-- Reading programs: the items of a program, with the equations behind a signature gathered.
use Rattle.std.specs.Prelude.{ℕ, List, [], ◌∷◌}
use Rattle.hume_ast.specs.declared.tree.Pat.{Pat}
use Rattle.hume_ast.specs.declared.tree.Exp.{Exp}
use Rattle.hume_ast.specs.declared.tree.Decl.{Decl}
use Rattle.hume_ast.specs.declared.tree.Decl.TheVariants.{Fun}
use Rattle.parse_readers.specs.inner.Readers.{Reader, made}
use Rattle.parse_readers.specs.inner.Items.{Item, Whole, Signature, Equation, Outside, items}

-- equations whose signature stands further in front, and the declarations behind them
abbrev pub Gathered : Type 0
Gathered = List (List ℕ × List Pat × Exp) × List Decl

-- one more item in front
abbrev pub with_line : Item → Gathered → Gathered
with_line (Whole decl) behind = ([], decl ∷ behind.1)
with_line (Signature name types) behind = ([], Fun name types behind.0 ∷ behind.1)
with_line (Equation parts) behind = (parts ∷ behind.0, behind.1)

abbrev pub gathered : List Item → Gathered
gathered [] = ([], [])
gathered (item ∷ items) = with_line item (gathered items)

-- the declarations that the items make
abbrev pub grouped : List Item → List Decl
grouped items = (gathered items).1

-- a program, until the tokens are over
abbrev pub program : ℕ → Reader (List Decl)
program bound = made grouped (items bound Outside)
