-- What the reading of a source is: the source is cut into spaces, comments and tokens, each the longest that fits.
use Rattle.std.specs.Prelude.{◌≡◌, ℕ, ◌+◌, List, [], ◌∷◌, ◌++◌, length, true, ◌⊎◌}
use Rattle.hume_base.specs.declared.token.Kind.{Kind}
use Rattle.hume_base.specs.declared.token.Token.{Token}
use Rattle.hume_lex.specs.Spelling.{dash, is_space, is_no_newline, Each, Spells}

-- a piece of a source, with its bytes: a gap, which is a space or a comment, or a token
pub data Piece : Type 0 where
  gap : List ℕ → Piece
  token : Kind → List ℕ → Piece

-- the bytes of a piece
abbrev pub bytes_of : Piece → List ℕ
bytes_of (gap bytes) = bytes
bytes_of (token kind bytes) = bytes

-- one byte of space
abbrev pub IsSpace : List ℕ → Type 0
IsSpace bytes = (byte : ℕ) × (bytes ≡ byte ∷ []) × (is_space byte ≡ true)

-- two dashes, and no newline after them
abbrev pub IsComment : List ℕ → Type 0
IsComment bytes = (text : List ℕ) × (bytes ≡ dash ∷ (dash ∷ text)) × Each is_no_newline text

-- a gap is a space or a comment, and a token has a spelling of its kind
abbrev pub IsPiece : Piece → Type 0
IsPiece (gap bytes) = IsSpace bytes ⊎ IsComment bytes
IsPiece (token kind bytes) = Spells kind bytes

-- no piece takes the bytes and more of what follows them
abbrev pub IsLongest : List ℕ → List ℕ → Type 0
IsLongest bytes rest = (piece : Piece) (byte : ℕ) (more left : List ℕ) → IsPiece piece
    → bytes_of piece ≡ bytes ++ (byte ∷ more) → rest ≡ (byte ∷ more) ++ left → ⊥

-- no piece stands at the front of the bytes
abbrev pub NoPiece : List ℕ → Type 0
NoPiece bytes = (piece : Piece) (left : List ℕ) → IsPiece piece → bytes ≡ bytes_of piece ++ left → ⊥

-- the bytes of the pieces, one after another
abbrev pub source_of : List Piece → List ℕ
source_of [] = []
source_of (piece ∷ pieces) = bytes_of piece ++ source_of pieces

-- each piece is one, and the longest that fits before what follows it; rest follows all of them
abbrev pub AreLongest : List Piece → List ℕ → Type 0
AreLongest [] rest = Unit {0}
AreLongest (piece ∷ pieces) rest =
    IsPiece piece × IsLongest (bytes_of piece) (source_of pieces ++ rest) × AreLongest pieces rest

-- the tokens among the pieces, the first piece at this place
abbrev pub tokens_at : ℕ → List Piece → List Token
tokens_at place [] = []
tokens_at place (gap bytes ∷ pieces) = tokens_at (place + length bytes) pieces
tokens_at place (token kind bytes ∷ pieces) =
    record { kind = kind; place = place } ∷ tokens_at (place + length bytes) pieces

-- these are the tokens of the source up to where the rest begins
pub record ReadsTo (source rest : List ℕ) (tokens : List Token) : Type 0 where
  pub pieces : List Piece
  pub cover : source ≡ source_of pieces ++ rest
  pub longest : AreLongest pieces rest
  pub same : tokens_at 0 pieces ≡ tokens

-- these are the tokens of the whole source
abbrev pub IsReading : List ℕ → List Token → Type 0
IsReading source tokens = ReadsTo source [] tokens
