-- Places lie within the source.
use Rattle.std.proofs.Common.{ℕ, ◌+◌, ◌<◌, ◌≤◌, List, [], ◌∷◌, length, ap, subst, arith, length-append}
use Rattle.std.specs.Prelude.{All}
use Rattle.std.specs.List.{AllByRecursion}
use Rattle.std.proofs.lemmas.List.Elements.{All-from_recursion}
use Rattle.hume_base.specs.declared.token.Kind.{Kind}
use Rattle.hume_base.specs.declared.token.Token.{Token}
use Rattle.hume_lex.specs.declared.lexer.LexError.{LexError}
use Rattle.hume_lex.specs.declared.lexer.LexError.TheVariants as error
use Rattle.hume_lex.specs.Reading.{Piece, gap, token, source_of, AreLongest, tokens_at, IsReading}
use Rattle.hume_lex.specs.BadPlaces.{IsBadToken, IsBadPlace, bad_place}
use Rattle.hume_lex.proofs.Unique.{piece_some}

below : (i n : ℕ) (ps : List Piece) → AreLongest ps [] → i + length (source_of ps) ≤ n → AllByRecursion (λ token. token.place < n) (tokens_at i ps)
below i n [] h le = tt
below i n (gap bs ∷ ps) h le = below (i + length bs) n ps h.2 (omega (arith, le, length-append bs (source_of ps)))
below i n (token k bs ∷ ps) h le = (
  omega (arith, le, length-append bs (source_of ps), piece_some (token k bs) h.0),
  below (i + length bs) n ps h.2 (omega (arith, le, length-append bs (source_of ps))),
)

pub token_within : (source : List ℕ) (ts : List Token) → IsReading source ts → All (λ token. token.place < length source) ts
token_within source ts h =
    subst (All (λ token. token.place < length source)) h.same
    (All-from_recursion (λ token. token.place < length source) (tokens_at 0 h.pieces)
    (below 0 (length source) h.pieces h.longest (omega (arith, ap length h.cover, length-append (source_of h.pieces) []))))

bad_within : (IsWrong : List Token → Kind → Type 0) (source : List ℕ) (p : ℕ) → IsBadToken IsWrong source p → p < length source
bad_within IsWrong source p h = omega (arith, h.before.here, piece_some (token h.kind h.bytes) h.spells, ap length h.is, length-append h.bytes h.left)

pub error_within : (source : List ℕ) (e : LexError) → IsBadPlace source e → bad_place e < length source
error_within source (error.BadChar p) h = omega (arith, h.before.here, h.some)
error_within source (error.BadNumber p) h = bad_within _ source p h
error_within source (error.LongName p) h = bad_within _ source p h
error_within source (error.TooManyTokens p) h = bad_within _ source p h
error_within source error.NoMemory h = absurd h
