-- When a source is taken, and when it is refused: at its first bad place.
use Rattle.std.specs.Prelude.{◌≡◌, ℕ, ◌+◌, ◌<◌, ◌≤◌, ◌^◌, List, ◌++◌, length, All}
use Rattle.hume_base.specs.declared.limits.TheConstants.{MAX_TOKENS, MAX_NAME_BYTES}
use Rattle.hume_base.specs.declared.rule.Rule.{Rule}
use Rattle.hume_base.specs.declared.rule.Rule.TheVariants.{C10, C11, C12, C71}
use Rattle.hume_base.specs.declared.token.Kind.{Kind}
use Rattle.hume_base.specs.declared.token.Kind.TheVariants as kind
use Rattle.hume_base.specs.declared.token.Token.{Token}
use Rattle.hume_lex.specs.declared.lexer.LexError.{LexError}
use Rattle.hume_lex.specs.declared.lexer.LexError.TheVariants as error
use Rattle.hume_lex.specs.Spelling.{Spells}
use Rattle.hume_lex.specs.Reading.{IsLongest, NoPiece, ReadsTo, IsReading}

-- a number past 64 bits
abbrev pub IsTooWide : Kind → Type 0
IsTooWide (kind.Number n) = 2 ^ 64 ≤ n
IsTooWide _ = ⊥

-- a name past its limit
abbrev pub IsTooLong : Kind → Type 0
IsTooLong (kind.Lower name) = MAX_NAME_BYTES < length name
IsTooLong (kind.Upper name) = MAX_NAME_BYTES < length name
IsTooLong _ = ⊥

-- a kind that is neither
abbrev pub IsTaken : Kind → Type 0
IsTaken (kind.Lower name) = length name ≤ MAX_NAME_BYTES
IsTaken (kind.Upper name) = length name ≤ MAX_NAME_BYTES
IsTaken (kind.Number n) = n < 2 ^ 64
IsTaken _ = Unit {0}

-- no more tokens than are allowed, none too wide or too long
abbrev pub AreWithinLimits : List Token → Type 0
AreWithinLimits tokens = (length tokens ≤ MAX_TOKENS) × All (λ token. IsTaken token.kind) tokens

-- the source is read, within the limits, as these tokens
abbrev pub IsRead : List ℕ → List Token → Type 0
IsRead source tokens = IsReading source tokens × AreWithinLimits tokens

-- up to the place the source is read, within the limits, as these tokens; the rest follows
pub record Reaches (source : List ℕ) (place : ℕ) (tokens : List Token) (rest : List ℕ) : Type 0 where
  pub reads : ReadsTo source rest tokens
  pub limits : AreWithinLimits tokens
  pub here : place + length rest ≡ length source

-- at the place something stands, and no token, space or comment starts
pub record IsBadChar (source : List ℕ) (place : ℕ) : Type 0 where
  pub tokens : List Token
  pub rest : List ℕ
  pub before : Reaches source place tokens rest
  pub some : 0 < length rest
  pub none : NoPiece rest

-- at the place a token stands that is wrong in this way after the tokens before it
pub record IsBadToken (IsWrong : List Token → Kind → Type 0) (source : List ℕ) (place : ℕ) : Type 0 where
  pub tokens : List Token
  pub rest : List ℕ
  pub before : Reaches source place tokens rest
  pub kind : Kind
  pub bytes : List ℕ
  pub left : List ℕ
  pub is : rest ≡ bytes ++ left
  pub spells : Spells kind bytes
  pub longest : IsLongest bytes left
  pub wrong : IsWrong tokens kind

-- a number past 64 bits, where one more token is allowed
abbrev pub IsBadNumber : List Token → Kind → Type 0
IsBadNumber tokens kind = (length tokens < MAX_TOKENS) × IsTooWide kind

-- a name past its limit, where one more token is allowed
abbrev pub IsLongName : List Token → Kind → Type 0
IsLongName tokens kind = (length tokens < MAX_TOKENS) × IsTooLong kind

-- one token more than the limit, of whatever kind
abbrev pub IsOneTooMany : List Token → Kind → Type 0
IsOneTooMany tokens kind = length tokens ≡ MAX_TOKENS

-- the first bad place of the source, and the rule on tokens that is broken there
abbrev pub BreaksTokens : List ℕ → Rule → ℕ → Type 0
BreaksTokens source C10 place = IsBadChar source place
BreaksTokens source C11 place = IsBadToken IsBadNumber source place
BreaksTokens source C12 place = IsBadToken IsLongName source place
BreaksTokens source C71 place = IsBadToken IsOneTooMany source place
BreaksTokens source _ place = ⊥

-- the first bad place of the source, and why it is one
abbrev pub IsBadPlace : List ℕ → LexError → Type 0
IsBadPlace source (error.BadChar place) = BreaksTokens source C10 place
IsBadPlace source (error.BadNumber place) = BreaksTokens source C11 place
IsBadPlace source (error.LongName place) = BreaksTokens source C12 place
IsBadPlace source (error.TooManyTokens place) = BreaksTokens source C71 place
IsBadPlace source error.NoMemory = ⊥

-- where it is told; 0 for want of memory
abbrev pub bad_place : LexError → ℕ
bad_place (error.BadChar place) = place
bad_place (error.BadNumber place) = place
bad_place (error.LongName place) = place
bad_place (error.TooManyTokens place) = place
bad_place error.NoMemory = 0
