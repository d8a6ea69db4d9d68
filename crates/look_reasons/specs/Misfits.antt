-- Tokens with which no program goes on.
use Rattle.std.specs.Prelude.{Bool, true, false, Option, Some, None}
use Rattle.hume_base.specs.declared.keyword.Keyword.{Keyword}
use Rattle.hume_base.specs.declared.symbol.Symbol.{Symbol}
use Rattle.hume_base.specs.declared.symbol.Symbol.TheVariants.{CloseParen}
use Rattle.hume_base.specs.declared.token.Kind.{Kind}
use Rattle.hume_base.specs.declared.token.Kind.TheVariants.{Word, Sign}
use Rattle.hume_base.specs.declared.token.Token.{Token}

abbrev pub keyword_of_kind : Kind → Option Keyword
keyword_of_kind (Word keyword) = Some keyword
keyword_of_kind _ = None

-- the keyword that a token is
abbrev pub keyword_in : Option Token → Option Keyword
keyword_in None = None
keyword_in (Some token) = keyword_of_kind token.kind

abbrev pub is_closing : Symbol → Bool
is_closing CloseParen = true
is_closing _ = false

abbrev pub closes_by_kind : Kind → Bool
closes_by_kind (Sign symbol) = is_closing symbol
closes_by_kind _ = false

-- a token that is a closing parenthesis
abbrev pub closes_in : Option Token → Bool
closes_in None = false
closes_in (Some token) = closes_by_kind token.kind
