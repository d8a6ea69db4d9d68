-- What the parser answers where tokens stand for no program: exactly which token is wrong, and why.
use Rattle.std.specs.Prelude.{◌≡◌, ◌⊎◌, ℕ, List, [], ◌∷◌, ◌++◌}
use Rattle.hume_base.specs.declared.rule.Rule.{Rule}
use Rattle.hume_base.specs.declared.rule.Rule.TheVariants.{C20, C77}
use Rattle.hume_base.specs.declared.token.Kind.{Kind}
use Rattle.hume_base.specs.declared.token.Token.{Token}
use Rattle.hume_ast.specs.declared.tree.Program.{Program}
use Rattle.hume_ast.specs.Spelling.{spelled}
use Rattle.hume_ast.specs.Fits.{IsProper, IsFit}
use Rattle.hume_ast.specs.Places.{kinds}
use Rattle.parse_errors.specs.declared.parse_error.ParseError.{ParseError}
use Rattle.parse_errors.specs.declared.parse_error.ParseError.TheVariants.{Syntax, Deep, NoMemory}

-- the spelling of one of these programs begins so
abbrev pub BeginsSome : (Program → Type 0) → List Kind → Type 0
BeginsSome Fits front = (program : Program) × (more : List Kind) × Fits program × (spelled program ≡ front ++ more)

-- that of none of them does
abbrev pub BeginsNone : (Program → Type 0) → List Kind → Type 0
BeginsNone Fits front = (program : Program) (more : List Kind) → Fits program → spelled program ≡ front ++ more → ⊥

-- At the place stands the first token with which no fit program goes on. What is asked of the tokens through it tells why.
pub record IsWrongToken (Why : List Kind → Type 0) (tokens : List Token) (place : ℕ) : Type 0 where
  pub front : List Token
  pub token : Token
  pub rest : List Token
  pub cut : tokens ≡ front ++ token ∷ rest
  pub here : token.place ≡ place
  pub begun : BeginsSome IsFit (kinds front)
  pub wrong : BeginsNone IsFit (kinds (front ++ token ∷ []))
  pub why : Why (kinds (front ++ token ∷ []))

-- all tokens begin a fit program, and none is spelled by them alone
pub record IsCutShort (tokens : List Token) : Type 0 where
  pub begun : BeginsSome IsFit (kinds tokens)
  pub none : (program : Program) → IsFit program → spelled program ≡ kinds tokens → ⊥

-- The rule on the grammar that tokens break which stand for no program, and where: at the first wrong token, or at the end. It
-- is the one on depth exactly where a program that is only too deep goes on with the token.
abbrev pub BreaksGrammar : List Token → ℕ → Rule → ℕ → Type 0
BreaksGrammar tokens end C20 place = IsWrongToken (BeginsNone IsProper) tokens place ⊎ (IsCutShort tokens × (place ≡ end))
BreaksGrammar tokens end C77 place = IsWrongToken (BeginsSome IsProper) tokens place
BreaksGrammar tokens end _ place = ⊥

-- which place is reported of tokens that stand for no program
abbrev pub IsWrongPlace : List Token → ℕ → ParseError → Type 0
IsWrongPlace tokens end (Syntax place) = BreaksGrammar tokens end C20 place
IsWrongPlace tokens end (Deep place) = BreaksGrammar tokens end C77 place
IsWrongPlace tokens end NoMemory = ⊥
