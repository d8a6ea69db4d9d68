-- The keywords and symbols by the bytes with which they begin.
use Rattle.std.specs.Prelude.{ℕ, ◌==◌, Bool, false, List, [], ◌∷◌}
use Rattle.std.specs.List.{filter}
use Rattle.hume_base.specs.declared.keyword.Keyword.{Keyword}
use Rattle.hume_base.specs.declared.symbol.Symbol.{Symbol}
use Rattle.hume_base.specs.Keywords.{keyword_text, keywords}
use Rattle.hume_base.specs.Symbols.{symbol_text, symbols}

abbrev pub begins_with : ℕ → List ℕ → Bool
begins_with byte [] = false
begins_with byte (first ∷ others) = first == byte

abbrev pub keywords_with : ℕ → List Keyword
keywords_with letter = filter (λ keyword. begins_with letter (keyword_text keyword)) keywords

abbrev pub symbols_with : ℕ → List Symbol
symbols_with byte = filter (λ symbol. begins_with byte (symbol_text symbol)) symbols
