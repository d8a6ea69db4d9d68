-- What each kind of token of a source is.
use Rattle.std.proofs.Common.{ℕ, ◌+◌, ◌≤◌, List, [], ◌∷◌, length, Bool, sym, subst, arith}
use Rattle.std.specs.List.{AllByRecursion}
use Rattle.std.proofs.lemmas.List.Elements.{recursion_from_All}
use Rattle.hume_base.specs.declared.token.Kind.{Kind}
use Rattle.hume_base.specs.declared.token.Kind.TheVariants.{Lower, Upper, Number, Letter, Quoted, Word, Sign}
use Rattle.hume_base.specs.declared.token.Token.{Token}
use Rattle.hume_ast.specs.Fits.{Each}
use Rattle.hume_ast.specs.Places.{kinds}
use Rattle.hume_lex.specs.Spelling.{IsName as IsNameFrom, Spells, is_small, is_capital}
use Rattle.hume_lex.specs.Reading.{Piece, gap, token, AreLongest, tokens_at}
use Rattle.hume_lex.specs.BadPlaces.{IsTaken, IsRead}
use Rattle.hume_model.specs.Limits.{IsName, IsPortName}

-- a name or a text within its limits
abbrev pub IsSmall : Kind → Type 0
IsSmall (Lower name) = IsName name
IsSmall (Upper name) = IsName name
IsSmall (Quoted text) = IsPortName text
IsSmall _ = Unit {0}

some_bytes : (first : ℕ → Bool) (name : List ℕ) → IsNameFrom first name → 1 ≤ length name
some_bytes first [] h = absurd h
some_bytes first (byte ∷ bytes) h = omega arith

small : (kind : Kind) (bytes : List ℕ) → Spells kind bytes → IsTaken kind → IsSmall kind
small (Lower name) bytes s t = record { some = some_bytes is_small name (subst (IsNameFrom is_small) s.0 s.1); bytes = t }
small (Upper name) bytes s t = record { some = some_bytes is_capital name (subst (IsNameFrom is_capital) s.0 s.1); bytes = t }
small (Quoted text) bytes s t = record { some = s.1; bytes = s.2 }
small (Number n) bytes s t = tt
small (Letter byte) bytes s t = tt
small (Word word) bytes s t = tt
small (Sign sign) bytes s t = tt

each_small : (place : ℕ) (pieces : List Piece) (rest : List ℕ) → AreLongest pieces rest → AllByRecursion (λ (t : Token). IsTaken t.kind) (tokens_at place pieces)
    → Each IsSmall (kinds (tokens_at place pieces))
each_small place [] rest h t = tt
each_small place (gap bytes ∷ pieces) rest h t = each_small (place + length bytes) pieces rest h.2 t
each_small place (token kind bytes ∷ pieces) rest h t = (small kind bytes h.0 t.0, each_small (place + length bytes) pieces rest h.2 t.1)

-- all names and texts of a source are within their limits
pub kinds_small : (text : List ℕ) (tokens : List Token) → IsRead text tokens → Each IsSmall (kinds tokens)
kinds_small text tokens h =
    let taken = recursion_from_All (λ (t : Token). IsTaken t.kind) tokens h.1.1 in
    subst (λ ts. Each IsSmall (kinds ts)) h.0.same
    (each_small 0 h.0.pieces [] h.0.longest (subst (AllByRecursion (λ (t : Token). IsTaken t.kind)) (sym h.0.same) taken))
