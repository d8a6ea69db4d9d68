-- The symbols and their texts.
use Rattle.std.specs.Prelude.{ℕ, List, [], ◌∷◌, Option, codes, bytes_eq}
use Rattle.std.specs.List.{find}
use Rattle.hume_base.specs.declared.symbol.Symbol.{Symbol}
use Rattle.hume_base.specs.declared.symbol.Symbol.TheVariants as symbol

-- how a symbol is written
abbrev pub symbol_text : Symbol → List ℕ
symbol_text symbol.OpenParen = codes "("
symbol_text symbol.CloseParen = codes ")"
symbol_text symbol.OpenAngles = codes "<<"
symbol_text symbol.CloseAngles = codes ">>"
symbol_text symbol.Less = codes "<"
symbol_text symbol.LessEquals = codes "<="
symbol_text symbol.Greater = codes ">"
symbol_text symbol.GreaterEquals = codes ">="
symbol_text symbol.DoubleEquals = codes "=="
symbol_text symbol.SlashEquals = codes "/="
symbol_text symbol.Equals = codes "="
symbol_text symbol.Arrow = codes "->"
symbol_text symbol.Bar = codes "|"
symbol_text symbol.Comma = codes ","
symbol_text symbol.Semicolon = codes ";"
symbol_text symbol.DoubleColon = codes "::"
symbol_text symbol.Dot = codes "."
symbol_text symbol.Underscore = codes "_"
symbol_text symbol.UnderscoreStar = codes "_*"
symbol_text symbol.Star = codes "*"
symbol_text symbol.Plus = codes "+"
symbol_text symbol.Minus = codes "-"
symbol_text symbol.At = codes "@"

-- all of them
abbrev pub symbols : List Symbol
symbols =
    symbol.OpenParen ∷ symbol.CloseParen ∷ symbol.OpenAngles ∷ symbol.CloseAngles ∷ symbol.Less ∷
    symbol.LessEquals ∷ symbol.Greater ∷ symbol.GreaterEquals ∷ symbol.DoubleEquals ∷ symbol.SlashEquals ∷
    symbol.Equals ∷ symbol.Arrow ∷ symbol.Bar ∷ symbol.Comma ∷ symbol.Semicolon ∷ symbol.DoubleColon ∷
    symbol.Dot ∷ symbol.Underscore ∷ symbol.UnderscoreStar ∷ symbol.Star ∷ symbol.Plus ∷ symbol.Minus ∷
    symbol.At ∷ []

-- the symbol that is spelled so, if there is one
abbrev pub symbol_of : List ℕ → Option Symbol
symbol_of text = find (λ symbol. bytes_eq (symbol_text symbol) text) symbols
