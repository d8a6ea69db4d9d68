-- What is reported of a stop.
use Rattle.std.specs.Prelude.{ℕ, ◌-◌, List, [], ◌∷◌, length, drop, Option, Some, None}
use Rattle.hume_base.specs.declared.token.Token.{Token}
use Rattle.parse_errors.specs.declared.stop.Stop.{Stop}
use Rattle.parse_errors.specs.declared.stop.Stop.TheVariants as stop
use Rattle.parse_errors.specs.declared.parse_error.ParseError.{ParseError}
use Rattle.parse_errors.specs.declared.parse_error.ParseError.TheVariants.{Syntax, Deep, NoMemory}

abbrev pub place_of : List Token → Option ℕ
place_of [] = None
place_of (token ∷ tokens) = Some token.place

-- where the token stands from which on so many are left
abbrev pub place_left : List Token → ℕ → Option ℕ
place_left tokens left = place_of (drop (length tokens - left) tokens)

abbrev pub reported_syntax : ℕ → Option ℕ → ParseError
reported_syntax end None = Syntax end
reported_syntax end (Some place) = Syntax place

-- where no token is left it is no stop of depth
abbrev pub reported_deep : ℕ → Option ℕ → ParseError
reported_deep end None = Syntax end
reported_deep end (Some place) = Deep place

abbrev pub reported : Stop → List Token → ℕ → ParseError
reported stop.Memory tokens end = NoMemory
reported (stop.Syntax left) tokens end = reported_syntax end (place_left tokens left)
reported (stop.Deep left) tokens end = reported_deep end (place_left tokens left)
