-- Reading items, of which each ends with a semicolon: declarations of anything but a function, signatures and
-- equations. So one token of look-ahead is enough.
use Rattle.std.specs.Prelude.{ℕ, zero, suc, List, [], ◌∷◌, length, Ok}
use Rattle.hume_base.specs.declared.symbol.Symbol.TheVariants as symbol
use Rattle.hume_ast.specs.declared.tree.TyExp.{TyExp}
use Rattle.hume_ast.specs.declared.tree.Pat.{Pat}
use Rattle.hume_ast.specs.declared.tree.Exp.{Exp}
use Rattle.hume_ast.specs.declared.tree.Decl.{Decl}
use Rattle.parse_readers.specs.inner.Readers.{Reader, ◌>>=◌, stop, is_sign, made, choice, pick, lower_name}
use Rattle.parse_readers.specs.inner.Expressions.{is_lower}
use Rattle.parse_readers.specs.inner.Declarations.{whole_decl, signature, equation}

-- a declaration of anything but a function, the name and types of a function, or an equation
pub data Item : Type 0 where
  Whole : Decl → Item
  Signature : List ℕ → List TyExp → Item
  Equation : List ℕ × List Pat × Exp → Item

-- What may come next: outside of functions anything but an equation; behind a signature, which wants an equation, one
-- alone; within a function's equations anything.
pub data Expecting : Type 0 where
  Outside : Expecting
  Wanting : Expecting
  Within : Expecting

-- what may come behind the item
abbrev pub expecting_after : Item → Expecting
expecting_after (Whole decl) = Outside
expecting_after (Signature name types) = Wanting
expecting_after (Equation parts) = Within

abbrev pub signature_item : ℕ → List ℕ → Reader Item
signature_item bound name = made (Signature name) (signature bound)

abbrev pub equation_of : List ℕ → List Pat × Exp → Item
equation_of name parts = Equation (name, parts.0, parts.1)

abbrev pub equation_item : ℕ → List ℕ → Reader Item
equation_item bound name = made (equation_of name) (equation bound)

-- an item behind the small name that it begins with
abbrev pub behind_name : ℕ → Expecting → List ℕ → Reader Item
behind_name bound Outside name = signature_item bound name
behind_name bound Wanting name = equation_item bound name
behind_name bound Within name = choice (is_sign symbol.DoubleColon) (signature_item bound name) (equation_item bound name)

-- an item that begins with a small name
abbrev pub named_item : ℕ → Expecting → Reader Item
named_item bound expecting ks = pick lower_name ks >>= λ name. behind_name bound expecting name.0 name.1

abbrev pub any_item : ℕ → Expecting → Reader Item
any_item bound expecting = choice is_lower (named_item bound expecting) (made Whole (whole_decl bound))

-- the item that stands here
abbrev pub item : ℕ → Expecting → Reader Item
item bound Outside = any_item bound Outside
item bound Wanting = named_item bound Wanting
item bound Within = any_item bound Within

-- items may end here, but not behind a signature
abbrev pub no_items : Expecting → Reader (List Item)
no_items Outside ks = Ok ([], ks)
no_items Wanting ks = stop ks
no_items Within ks = Ok ([], ks)

-- item by item, until the tokens are over; a bound on how many first
abbrev pub items_by : ℕ → ℕ → Expecting → Reader (List Item)
items_by n bound expecting [] = no_items expecting []
items_by zero bound expecting (k ∷ ks) = stop (k ∷ ks)
items_by (suc n) bound expecting (k ∷ ks) =
    item bound expecting (k ∷ ks) >>= λ first.
    items_by n bound (expecting_after first.0) first.1 >>= λ others. Ok (first.0 ∷ others.0, others.1)

-- item by item, until the tokens are over
unfoldable pub items : ℕ → Expecting → Reader (List Item)
items bound expecting ks = items_by (length ks) bound expecting ks
