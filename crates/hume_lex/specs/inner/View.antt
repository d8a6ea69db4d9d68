-- What the private values of the scanner stand for.
use Rattle.std.specs.Prelude.{◌≡◌, ◌≢◌, ℕ, ◌<◌, ◌≤◌, List, [], ◌∷◌, ◌++◌, length, drop, Option, Some, None}
use Rattle.std.specs.Borrow.{Bor}
use Rattle.hume_base.specs.declared.limits.TheConstants.{MAX_TOKENS}
use Rattle.hume_base.specs.declared.token.Token.{Token}
use Rattle.hume_lex.specs.BadPlaces.{IsTaken, IsTooWide, IsTooLong}
use Rattle.hume_lex.specs.Reading.{Piece, gap, token, bytes_of}
use Rattle.hume_lex.specs.inner.Scan.{first_piece}
use Rattle.hume_lex.specs.declared.lexer.LexError.{LexError}
use Rattle.hume_lex.specs.declared.lexer.LexError.TheVariants as error
use Rattle.hume_lex.specs.declared.scan.Front.{Front}
use Rattle.hume_lex.specs.declared.scan.Front.TheVariants as front

-- the scanner tells this piece so
abbrev pub Shows : Front → Piece → Type 0
Shows front.Gap (gap bytes) = Unit {0}
Shows (front.Token told) (token kind bytes) = (kind ≡ told) × IsTaken kind
Shows front.WideNumber (token kind bytes) = IsTooWide kind
Shows front.LongName (token kind bytes) = IsTooLong kind
Shows _ _ = ⊥

-- it tells the piece that stands there, and its length; or that none does
abbrev pub IsScan : Option (Front × ℕ) → Option Piece → Type 0
IsScan None None = Unit {0}
IsScan (Some told) (Some piece) = Shows told.0 piece × (told.1 ≡ length (bytes_of piece))
IsScan None (Some piece) = ⊥
IsScan (Some told) None = ⊥

-- the piece at the front of the bytes, and what is left after it
abbrev pub IsNext : Option (Front × Bor (List ℕ)) → List ℕ → Type 0
IsNext None bytes = first_piece bytes ≡ None
IsNext (Some told) bytes =
    (piece : Piece) × (first_piece bytes ≡ Some piece) × Shows told.0 piece
    × (told.1.now ≡ drop (length (bytes_of piece)) bytes)

-- the tokens take the piece, which stands at this place
abbrev pub Takes : Front → ℕ → List Token → List Token → Type 0
Takes front.Gap place old new = new ≡ old
Takes (front.Token kind) place old new =
    (new ≡ old ++ record { kind = kind; place = place } ∷ []) × (length old < MAX_TOKENS)
Takes _ place old new = ⊥

-- why the piece is refused after these tokens
abbrev pub IsRefused : Front → List Token → ℕ → LexError → Type 0
IsRefused told tokens place (error.BadChar at) = ⊥
IsRefused told tokens place (error.BadNumber at) =
    (at ≡ place) × (length tokens < MAX_TOKENS) × (told ≡ front.WideNumber)
IsRefused told tokens place (error.LongName at) =
    (at ≡ place) × (length tokens < MAX_TOKENS) × (told ≡ front.LongName)
IsRefused told tokens place (error.TooManyTokens at) =
    (at ≡ place) × (MAX_TOKENS ≤ length tokens) × (told ≢ front.Gap)
IsRefused told tokens place error.NoMemory = Unit {0}
