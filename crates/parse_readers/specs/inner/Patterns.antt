-- Reading patterns.
use Rattle.std.specs.Prelude.{ℕ, zero, suc, List, [], ◌∷◌, Bool, true, false, Option, Some, None}
use Rattle.hume_base.specs.declared.keyword.Keyword.TheVariants as word
use Rattle.hume_base.specs.declared.symbol.Symbol.TheVariants as symbol
use Rattle.hume_base.specs.declared.token.Kind.{Kind}
use Rattle.hume_base.specs.declared.token.Kind.TheVariants.{Lower, Upper, Number, Letter, Word, Sign}
use Rattle.hume_ast.specs.declared.tree.Pat.{Pat, roll-Pat}
use Rattle.hume_ast.specs.declared.tree.Pat.TheOpen.{Pat-F}
use Rattle.parse_readers.specs.inner.Readers.{Reader, stop, too_deep, choice, is_word, is_sign, led, closed, give, both, made, alternatives, any_token, pick, opens, many, number_of, upper_name}

-- a pattern of one token, if the token says all of it
abbrev pub pat_leaf : Kind → Option (Pat-F Pat)
pat_leaf (Lower name) = Some (Pat-F.Name name)
pat_leaf (Upper name) = Some (Pat-F.Con name [])
pat_leaf (Number amount) = Some (Pat-F.Num false amount)
pat_leaf (Letter byte) = Some (Pat-F.Letter byte)
pat_leaf _ = None

-- whether a pattern that stands beside others begins so
abbrev pub starts_pat : Kind → Bool
starts_pat (Lower name) = true
starts_pat (Upper name) = true
starts_pat (Number amount) = true
starts_pat (Letter byte) = true
starts_pat (Word word.True) = true
starts_pat (Word word.False) = true
starts_pat (Sign symbol.Underscore) = true
starts_pat (Sign symbol.Minus) = true
starts_pat (Sign symbol.OpenParen) = true
starts_pat _ = false

abbrev pub is_upper : Kind → Bool
is_upper (Upper name) = true
is_upper _ = false

-- in parentheses, one pattern or a tuple
abbrev pub pat_in_parens : Pat × List Pat → Pat-F Pat
pat_in_parens (first, []) = Pat-F.Paren first
pat_in_parens (first, second ∷ others) = Pat-F.Tuple (first ∷ second ∷ others)

abbrev pub parens_pat : Reader Pat → Reader (Pat-F Pat)
parens_pat child = made pat_in_parens (led (Sign symbol.OpenParen) (both
    child
    (closed (many (is_sign symbol.Comma) (led (Sign symbol.Comma) child)) (Sign symbol.CloseParen))))

-- one level of a pattern that stands beside others
abbrev pub pat_ways : ℕ → Reader Pat → List ((Kind → Bool) × Reader (Pat-F Pat))
pat_ways room child =
    (is_sign symbol.Underscore, led (Sign symbol.Underscore) (give Pat-F.Any))
    ∷ (is_sign symbol.Minus, made (Pat-F.Num true) (led (Sign symbol.Minus) (pick number_of)))
    ∷ (is_word word.True, led (Word word.True) (give (Pat-F.Truth true)))
    ∷ (is_word word.False, led (Word word.False) (give (Pat-F.Truth false)))
    ∷ (is_sign symbol.OpenParen, opens room (parens_pat child))
    ∷ (any_token, pick pat_leaf)
    ∷ []

abbrev pub con_of : List ℕ × List Pat → Pat-F Pat
con_of parts = Pat-F.Con parts.0 parts.1

-- a constructor with the patterns beside it
abbrev pub con_pat : Reader Pat → Reader (Pat-F Pat)
con_pat atom = made con_of (both (pick upper_name) (many starts_pat atom))

pub record PatReaders : Type 0 where
  pub whole : Reader Pat
  pub atom : Reader Pat

abbrev pub whole_ways : ℕ → PatReaders → List ((Kind → Bool) × Reader (Pat-F Pat))
whole_ways room below = (is_upper, con_pat below.atom) ∷ pat_ways room below.whole

-- patterns at most so deep, whole ones and those that stand beside others
unfoldable pub patterns : ℕ → PatReaders
patterns zero = record { whole = stop; atom = choice starts_pat too_deep stop }
patterns (suc room) = record {
  whole = made roll-Pat (alternatives (whole_ways room (patterns room)));
  atom = made roll-Pat (alternatives (pat_ways room (patterns room).whole));
}

-- what stands at an input of a box
abbrev pub input_ways : PatReaders → List ((Kind → Bool) × Reader Pat)
input_ways below =
    (is_sign symbol.Star, led (Sign symbol.Star) (give (roll-Pat Pat-F.Star)))
    ∷ (is_sign symbol.UnderscoreStar, led (Sign symbol.UnderscoreStar) (give (roll-Pat Pat-F.AnyStar)))
    ∷ (any_token, below.whole)
    ∷ []

abbrev pub input_pattern : ℕ → Reader Pat
input_pattern room = opens room (alternatives (input_ways (patterns room)))
