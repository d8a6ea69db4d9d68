-- Reading types.
use Rattle.std.specs.Prelude.{ℕ, zero, suc, List, [], ◌∷◌, Bool}
use Rattle.hume_base.specs.declared.keyword.Keyword.TheVariants as word
use Rattle.hume_base.specs.declared.symbol.Symbol.TheVariants as symbol
use Rattle.hume_base.specs.declared.token.Kind.{Kind}
use Rattle.hume_base.specs.declared.token.Kind.TheVariants.{Word, Sign}
use Rattle.hume_ast.specs.declared.tree.TyExp.{TyExp, roll-TyExp}
use Rattle.hume_ast.specs.declared.tree.TyExp.TheOpen.{TyExp-F}
use Rattle.parse_readers.specs.inner.Readers.{Reader, stop, is_word, is_sign, led, closed, give, both, made, alternatives, any_token, pick, opens, several, number_of, upper_name}

abbrev pub vector_of : ℕ × TyExp → TyExp-F TyExp
vector_of parts = TyExp-F.Vector parts.0 parts.1

abbrev pub vector_type : Reader TyExp → Reader (TyExp-F TyExp)
vector_type child = made vector_of (led (Word word.Vector) (both (closed (pick number_of) (Word word.Of)) child))

abbrev pub tuple_type : Reader TyExp → Reader (TyExp-F TyExp)
tuple_type child = made TyExp-F.Tuple (led (Sign symbol.OpenParen) (closed (several symbol.Comma child) (Sign symbol.CloseParen)))

-- one level of a type, whose types are read by the child, where there is room for them
abbrev pub type_ways : ℕ → Reader TyExp → List ((Kind → Bool) × Reader (TyExp-F TyExp))
type_ways room child =
    (is_word word.Bool, led (Word word.Bool) (give TyExp-F.Bool))
    ∷ (is_word word.Char, led (Word word.Char) (give TyExp-F.Char))
    ∷ (is_word word.Int, made TyExp-F.Int (led (Word word.Int) (pick number_of)))
    ∷ (is_word word.Nat, made TyExp-F.Nat (led (Word word.Nat) (pick number_of)))
    ∷ (is_word word.Vector, opens room (vector_type child))
    ∷ (is_sign symbol.OpenParen, opens room (tuple_type child))
    ∷ (any_token, made TyExp-F.Named (pick upper_name))
    ∷ []

-- types at most so deep
unfoldable pub types : ℕ → Reader TyExp
types zero = stop
types (suc room) = made roll-TyExp (alternatives (type_ways room (types room)))
