-- What the lexer and the parser report, as a rule and a place.
use Rattle.std.proofs.Common.{◌≡◌, ℕ, List, refl}
use Rattle.hume_base.specs.declared.rule.Rule.{Rule}
use Rattle.hume_base.specs.declared.rule.Rule.TheVariants.{C10, C11, C12, C20, C71, C77}
use Rattle.hume_base.specs.declared.token.Token.{Token}
use Rattle.hume_lex.specs.declared.lexer.LexError.{LexError}
use Rattle.hume_lex.specs.declared.lexer.LexError.TheVariants as lexical
use Rattle.hume_lex.specs.BadPlaces.{BreaksTokens, IsBadPlace, bad_place}
use Rattle.parse_errors.specs.declared.parse_error.ParseError.{ParseError}
use Rattle.parse_errors.specs.declared.parse_error.ParseError.TheVariants as syntactic
use Rattle.parse_errors.specs.WrongTokens.{BreaksGrammar, IsWrongPlace}

abbrev pub rule_of_lexer : LexError → Rule
rule_of_lexer (lexical.BadChar place) = C10
rule_of_lexer (lexical.BadNumber place) = C11
rule_of_lexer (lexical.LongName place) = C12
rule_of_lexer (lexical.TooManyTokens place) = C71
rule_of_lexer lexical.NoMemory = C10

abbrev pub rule_of_parser : ParseError → Rule
rule_of_parser (syntactic.Syntax place) = C20
rule_of_parser (syntactic.Deep place) = C77
rule_of_parser syntactic.NoMemory = C20

abbrev pub wrong_place : ParseError → ℕ
wrong_place (syntactic.Syntax place) = place
wrong_place (syntactic.Deep place) = place
wrong_place syntactic.NoMemory = 0

module _ (text : List ℕ) where
  pub lexer_breaks : (error : LexError) → IsBadPlace text error → BreaksTokens text (rule_of_lexer error) (bad_place error)
  lexer_breaks (lexical.BadChar place) bad = bad
  lexer_breaks (lexical.BadNumber place) bad = bad
  lexer_breaks (lexical.LongName place) bad = bad
  lexer_breaks (lexical.TooManyTokens place) bad = bad
  lexer_breaks lexical.NoMemory bad = absurd bad

  -- a rule on tokens that is broken is one that the lexer reports
  pub reported_by_lexer : (rule : Rule) (place : ℕ) → BreaksTokens text rule place
      → (error : LexError) × IsBadPlace text error × (rule_of_lexer error ≡ rule) × (bad_place error ≡ place)
  reported_by_lexer C10 place breaks = (lexical.BadChar place, breaks, refl, refl)
  reported_by_lexer C11 place breaks = (lexical.BadNumber place, breaks, refl, refl)
  reported_by_lexer C12 place breaks = (lexical.LongName place, breaks, refl, refl)
  reported_by_lexer C71 place breaks = (lexical.TooManyTokens place, breaks, refl, refl)
  reported_by_lexer _ place breaks = absurd breaks

module _ (tokens : List Token) (end : ℕ) where
  pub parser_breaks : (error : ParseError) → IsWrongPlace tokens end error → BreaksGrammar tokens end (rule_of_parser error) (wrong_place error)
  parser_breaks (syntactic.Syntax place) wrong = wrong
  parser_breaks (syntactic.Deep place) wrong = wrong
  parser_breaks syntactic.NoMemory wrong = absurd wrong

  -- a rule on the grammar that is broken is one that the parser reports
  pub reported_by_parser : (rule : Rule) (place : ℕ) → BreaksGrammar tokens end rule place
      → (error : ParseError) × IsWrongPlace tokens end error × (rule_of_parser error ≡ rule) × (wrong_place error ≡ place)
  reported_by_parser C20 place breaks = (syntactic.Syntax place, breaks, refl, refl)
  reported_by_parser C77 place breaks = (syntactic.Deep place, breaks, refl, refl)
  reported_by_parser _ place breaks = absurd breaks
