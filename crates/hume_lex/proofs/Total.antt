-- Each source has a reading within the limits, or a bad place.
use Rattle.std.proofs.Common.{◌≡◌, ℕ, zero, suc, ◌+◌, ◌-◌, ◌<◌, ◌≤◌, ◌^◌, List, [], ◌∷◌, length, drop, Option, Some, None, refl, ap, ◌∙◌, ◌⊎◌, inl, inr, arith, length-append}
use Rattle.std.proofs.lemmas.Bool.{cases_lt}
use Rattle.hume_base.specs.declared.limits.TheConstants.{MAX_TOKENS, MAX_NAME_BYTES}
use Rattle.hume_base.specs.declared.token.Kind.{Kind}
use Rattle.hume_base.specs.declared.token.Kind.TheVariants as kind
use Rattle.hume_base.specs.declared.token.Token.{Token}
use Rattle.hume_lex.specs.declared.lexer.LexError.{LexError}
use Rattle.hume_lex.specs.declared.lexer.LexError.TheVariants as error
use Rattle.hume_lex.specs.Reading.{Piece, gap, token, bytes_of}
use Rattle.hume_lex.specs.BadPlaces.{IsTaken, IsTooWide, IsTooLong, IsRead, IsBadNumber, IsLongName, IsOneTooMany, IsBadPlace}
use Rattle.hume_lex.specs.inner.Scan.{first_piece}
use Rattle.hume_lex.proofs.Found.{first_found, drop_front}
use Rattle.hume_lex.proofs.Readings.{SoFar, begins, nothing_there, bad_token, after_gap, after_token}

abbrev HasAnswer : List ℕ → Type 0
HasAnswer source = ((tokens : List Token) × IsRead source tokens) ⊎ ((error : LexError) × IsBadPlace source error)

data Taking (k : Kind) : Type 0 where
  taken : IsTaken k → Taking k
  wide : IsTooWide k → Taking k
  long : IsTooLong k → Taking k

taking : (k : Kind) → Taking k
taking (kind.Lower name) = elim (cases_lt MAX_NAME_BYTES (length name)) [ inl h ↦ long h | inr h ↦ taken h ]
taking (kind.Upper name) = elim (cases_lt MAX_NAME_BYTES (length name)) [ inl h ↦ long h | inr h ↦ taken h ]
taking (kind.Number n) = elim (cases_lt n (2 ^ 64)) [ inl h ↦ taken h | inr h ↦ wide h ]
taking (kind.Letter byte) = taken tt
taking (kind.Quoted inside) = taken tt
taking (kind.Word word) = taken tt
taking (kind.Sign symbol) = taken tt

shorter : (rest : List ℕ) (p : Piece) (n : ℕ) → first_piece rest ≡ Some p → length rest ≤ n + 1 → length (drop (length (bytes_of p)) rest) ≤ n
shorter rest p n e le =
    let f = first_found rest p e in
    omega (arith, f.some, ap length (ap (drop (length (bytes_of p))) f.is ∙ drop_front (bytes_of p) f.rest), ap length f.is, length-append (bytes_of p) f.rest)

-- one piece more, where the answer from each later place is at hand
module _ (source : List ℕ) (b : ℕ) (bs : List ℕ) (ts : List Token) (so_far : SoFar source (b ∷ bs) ts) (n : ℕ) (le : length bs ≤ n) (later : (rest : List ℕ) (us : List Token) → SoFar source rest us → length rest ≤ n → HasAnswer source) where
  by_taking : (k : Kind) (text : List ℕ) → first_piece (b ∷ bs) ≡ Some (token k text) → length ts < MAX_TOKENS → Taking k → HasAnswer source
  by_taking k text e room (taken t) = later (drop (length text) (b ∷ bs)) _ (after_token source (b ∷ bs) ts so_far k text e room t) (shorter (b ∷ bs) (token k text) n e (omega (arith, le)))
  by_taking k text e room (wide w) = inr (error.BadNumber (length source - length (b ∷ bs)), bad_token source (b ∷ bs) ts so_far IsBadNumber k text e (room, w))
  by_taking k text e room (long l) = inr (error.LongName (length source - length (b ∷ bs)), bad_token source (b ∷ bs) ts so_far IsLongName k text e (room, l))

  by_room : (k : Kind) (text : List ℕ) → first_piece (b ∷ bs) ≡ Some (token k text) → (length ts < MAX_TOKENS) ⊎ (MAX_TOKENS ≤ length ts) → HasAnswer source
  by_room k text e (inl room) = by_taking k text e room (taking k)
  by_room k text e (inr full) = inr (error.TooManyTokens (length source - length (b ∷ bs)), bad_token source (b ∷ bs) ts so_far IsOneTooMany k text e (let most = so_far.limits.0 in omega (arith, full, most)))

  by_first : (o : Option Piece) → first_piece (b ∷ bs) ≡ o → HasAnswer source
  by_first None e = inr (error.BadChar (length source - length (b ∷ bs)), nothing_there source (b ∷ bs) ts so_far (omega arith) e)
  by_first (Some (gap text)) e = later (drop (length text) (b ∷ bs)) ts (after_gap source (b ∷ bs) ts so_far text e) (shorter (b ∷ bs) (gap text) n e (omega (arith, le)))
  by_first (Some (token k text)) e = by_room k text e (cases_lt (length ts) MAX_TOKENS)

-- the answer from where the source is read so far, whose rest has at most n bytes
answer_from : (n : ℕ) (source rest : List ℕ) (ts : List Token) → SoFar source rest ts → length rest ≤ n → HasAnswer source
answer_from n source [] ts so_far le = inl (ts, (so_far.reads, so_far.limits))
answer_from zero source (b ∷ bs) ts so_far le = absurd (omega (arith, le))
answer_from (suc n) source (b ∷ bs) ts so_far le =
    by_first source b bs ts so_far n (omega (arith, le)) (λ rest us h m. answer_from n source rest us h m) (first_piece (b ∷ bs)) refl

pub some_answer : (source : List ℕ) → ((tokens : List Token) × IsRead source tokens) ⊎ ((error : LexError) × IsBadPlace source error)
some_answer source = answer_from (length source) source source [] (begins source) (omega arith)
