-- A reading grows by the piece that the scan finds.
use Rattle.std.proofs.Common.{◌≡◌, ◌≢◌, ℕ, ◌+◌, ◌-◌, ◌<◌, ◌≤◌, List, [], ◌∷◌, ◌++◌, length, drop, Option, Some, None, refl, sym, ap, ◌∙◌, subst, ◌⊎◌, inl, inr, arith, length-append, append_assoc, append-nil}
use Rattle.std.proofs.lemmas.List.Elements.{All-append, All-nil, All-from_recursion}
use Rattle.std.specs.Borrow.{Bor}
use Rattle.hume_base.specs.declared.limits.TheConstants.{MAX_TOKENS}
use Rattle.hume_base.specs.declared.token.Kind.{Kind}
use Rattle.hume_base.specs.declared.token.Token.{Token}
use Rattle.hume_lex.specs.declared.lexer.LexError.{LexError}
use Rattle.hume_lex.specs.declared.lexer.LexError.TheVariants as error
use Rattle.hume_lex.specs.declared.scan.Front.{Front}
use Rattle.hume_lex.specs.declared.scan.Front.TheVariants as front
use Rattle.hume_lex.specs.Reading.{Piece, gap, token, bytes_of, IsPiece, IsLongest, source_of, AreLongest, tokens_at, ReadsTo}
use Rattle.hume_lex.specs.BadPlaces.{IsTaken, AreWithinLimits, Reaches, IsBadChar, IsBadToken, IsBadNumber, IsLongName, IsOneTooMany, IsBadPlace}
use Rattle.hume_lex.specs.inner.Scan.{first_piece}
use Rattle.hume_lex.specs.inner.View.{Shows, IsScan, IsNext, Takes, IsRefused}
use Rattle.hume_lex.proofs.Found.{first_found, drop_front}
use Rattle.hume_lex.proofs.Fronts.{none_found}

source_of-append : (ps : List Piece) (p : Piece) (rest : List ℕ) → source_of (ps ++ p ∷ []) ++ rest ≡ source_of ps ++ (bytes_of p ++ rest)
source_of-append [] p rest = ap (λ l. l ++ rest) (append-nil (bytes_of p))
source_of-append (q ∷ ps) p rest = append_assoc (bytes_of q) _ rest ∙ ap (λ l. bytes_of q ++ l) (source_of-append ps p rest) ∙ sym (append_assoc (bytes_of q) (source_of ps) (bytes_of p ++ rest))

longest-append : (ps : List Piece) (p : Piece) (rest : List ℕ) → AreLongest ps (bytes_of p ++ rest) → IsPiece p → IsLongest (bytes_of p) rest → AreLongest (ps ++ p ∷ []) rest
longest-append [] p rest h i l = (i, l, tt)
longest-append (q ∷ ps) p rest h i l = (h.0, subst (IsLongest (bytes_of q)) (sym (source_of-append ps p rest)) h.1, longest-append ps p rest h.2 i l)

-- one token more, of the kind, at the place
abbrev pub put : ℕ → Kind → Token
put place kind = record { kind = kind; place = place }

pub tokens_at-append : (i : ℕ) (ps qs : List Piece) → tokens_at i (ps ++ qs) ≡ tokens_at i ps ++ tokens_at (i + length (source_of ps)) qs
tokens_at-append i [] qs = let e : i + 0 ≡ i = omega arith in rw e
tokens_at-append i (gap bs ∷ ps) qs =
    let e : i + length bs + length (source_of ps) ≡ i + length (bs ++ source_of ps) = omega (arith, length-append bs (source_of ps)) in
    tokens_at-append (i + length bs) ps qs ∙ rw e
tokens_at-append i (token k bs ∷ ps) qs =
    let e : i + length bs + length (source_of ps) ≡ i + length (bs ++ source_of ps) = omega (arith, length-append bs (source_of ps)) in
    ap (λ l. put i k ∷ l) (tokens_at-append (i + length bs) ps qs ∙ rw e)

pub nothing_read : (source : List ℕ) → ReadsTo source source []
nothing_read source = record { pieces = []; cover = refl; longest = tt; same = refl }

one_more : (source rest : List ℕ) (ts : List Token) (p : Piece) → ReadsTo source rest ts → first_piece rest ≡ Some p → ReadsTo source (drop (length (bytes_of p)) rest) (ts ++ tokens_at (length source - length rest) (p ∷ []))
one_more source rest ts p r e =
    let f = first_found rest p e in
    let cut : drop (length (bytes_of p)) rest ≡ f.rest = ap (drop (length (bytes_of p))) f.is ∙ drop_front (bytes_of p) f.rest in
    let place : 0 + length (source_of r.pieces) ≡ length source - length rest = omega (arith, ap length r.cover, length-append (source_of r.pieces) rest) in
    rw cut (record {
      pieces = r.pieces ++ p ∷ [];
      cover = r.cover ∙ ap (λ l. source_of r.pieces ++ l) f.is ∙ sym (source_of-append r.pieces p f.rest);
      longest = longest-append r.pieces p f.rest (subst (AreLongest r.pieces) f.is r.longest) f.right f.longest;
      same = tokens_at-append 0 r.pieces (p ∷ []) ∙ rw (r.same, place);
    })

-- what a scan says of the piece
pub scanned_piece : (o : Option (Front × ℕ)) (rest : List ℕ) (told : Front × ℕ) → o ≡ Some told → IsScan o (first_piece rest) → (p : Piece) × (first_piece rest ≡ Some p) × Shows told.0 p × (told.1 ≡ length (bytes_of p))
scanned_piece o rest told e h = at (first_piece rest) refl (subst (λ q. IsScan q (first_piece rest)) e h)
  where
    at : (q : Option Piece) → first_piece rest ≡ q → IsScan (Some told) q → (p : Piece) × (first_piece rest ≡ Some p) × Shows told.0 p × (told.1 ≡ length (bytes_of p))
    at None is g = absurd g
    at (Some p) is g = (p, is, g.0, g.1)

pub scan_fits : (told : Front) (n : ℕ) (rest : List ℕ) → IsScan (Some (told, n)) (first_piece rest) → (0 < n) × (n ≤ length rest)
scan_fits told n rest h =
    let p = scanned_piece (Some (told, n)) rest (told, n) refl h in
    let f = first_found rest p.0 p.1 in
    (omega (arith, f.some, p.3), omega (arith, ap length f.is, length-append (bytes_of p.0) f.rest, p.3))

pub limits_push : (ts : List Token) (place : ℕ) (k : Kind) → AreWithinLimits ts → length ts < MAX_TOKENS → IsTaken k → AreWithinLimits (ts ++ put place k ∷ [])
limits_push ts place k h room t = (
  omega (arith, length-append ts (put place k ∷ [])),
  All-append (λ token. IsTaken token.kind) ts (put place k ∷ []) h.1 (All-from_recursion (λ token. IsTaken token.kind) (put place k ∷ []) (t, tt)),
)

-- the state of the loop: the source is read so far, within the limits
pub record SoFar (source rest : List ℕ) (ts : List Token) : Type 0 where
  pub reads : ReadsTo source rest ts
  pub within : length rest ≤ length source
  pub limits : AreWithinLimits ts

pub begins : (source : List ℕ) → SoFar source source []
begins source = record { reads = nothing_read source; within = omega arith; limits = (omega arith, All-nil (λ token. IsTaken token.kind)) }

module _ (source rest : List ℕ) (ts : List Token) (so_far : SoFar source rest ts) where
  reached : Reaches source (length source - length rest) ts rest
  reached = let w = so_far.within in record { reads = so_far.reads; limits = so_far.limits; here = omega arith }

  pub nothing_there : 0 < length rest → first_piece rest ≡ None → IsBadChar source (length source - length rest)
  nothing_there some e = record { tokens = ts; rest = rest; before = reached; some = some; none = none_found rest e }

  pub bad_token : (IsWrong : List Token → Kind → Type 0) (k : Kind) (bs : List ℕ) → first_piece rest ≡ Some (token k bs) → IsWrong ts k → IsBadToken IsWrong source (length source - length rest)
  bad_token IsWrong k bs e wrong =
      let f = first_found rest (token k bs) e in
      record { tokens = ts; rest = rest; before = reached; kind = k; bytes = bs; left = f.rest; is = f.is; spells = f.right; longest = f.longest; wrong = wrong }

  left_within : (p : Piece) → first_piece rest ≡ Some p → length (drop (length (bytes_of p)) rest) ≤ length source
  left_within p e =
      let w = so_far.within in
      let f = first_found rest p e in
      omega (arith, ap length (ap (drop (length (bytes_of p))) f.is ∙ drop_front (bytes_of p) f.rest), ap length f.is, length-append (bytes_of p) f.rest)

  pub after_gap : (bs : List ℕ) → first_piece rest ≡ Some (gap bs) → SoFar source (drop (length bs) rest) ts
  after_gap bs e = record {
    reads = subst (ReadsTo source (drop (length bs) rest)) (append-nil ts) (one_more source rest ts (gap bs) so_far.reads e);
    within = left_within (gap bs) e;
    limits = so_far.limits;
  }

  pub after_token : (k : Kind) (bs : List ℕ) → first_piece rest ≡ Some (token k bs) → length ts < MAX_TOKENS → IsTaken k → SoFar source (drop (length bs) rest) (ts ++ put (length source - length rest) k ∷ [])
  after_token k bs e room t = record {
    reads = one_more source rest ts (token k bs) so_far.reads e;
    within = left_within (token k bs) e;
    limits = limits_push ts (length source - length rest) k so_far.limits room t;
  }

  module _ (left : Bor (List ℕ)) where
    pub takes_on : (told : Front) (place : ℕ) (us : List Token) → place ≡ length source - length rest → IsNext (Some (told, left)) rest → Takes told place ts us → SoFar source left.now us
    takes_on front.Gap place us here next t = by_piece next.0 next.1 next.2 next.3
      where
        by_piece : (p : Piece) → first_piece rest ≡ Some p → Shows front.Gap p → left.now ≡ drop (length (bytes_of p)) rest → SoFar source left.now us
        by_piece (token k bs) e s l = absurd s
        by_piece (gap bs) e s l = rw (l, t) (after_gap bs e)
    takes_on (front.Token k) place us here next t = by_piece next.0 next.1 next.2 next.3
      where
        by_piece : (p : Piece) → first_piece rest ≡ Some p → Shows (front.Token k) p → left.now ≡ drop (length (bytes_of p)) rest → SoFar source left.now us
        by_piece (gap bs) e s l = absurd s
        by_piece (token m bs) e s l = rw (l, t.0, here, ← s.0) (after_token m bs e t.1 s.1)
    takes_on front.WideNumber place us here next t = absurd t
    takes_on front.LongName place us here next t = absurd t

    pub refused_there : (told : Front) (place : ℕ) (e : LexError) → place ≡ length source - length rest → IsNext (Some (told, left)) rest → IsRefused told ts place e → (e ≡ error.NoMemory) ⊎ IsBadPlace source e
    refused_there told place (error.BadChar at) here next r = absurd r
    refused_there told place error.NoMemory here next r = inl refl
    refused_there told place (error.BadNumber at) here next r = inr (by_piece next.0 next.1 (subst (λ t. Shows t next.0) r.2 next.2))
      where
        by_piece : (p : Piece) → first_piece rest ≡ Some p → Shows front.WideNumber p → IsBadToken IsBadNumber source at
        by_piece (gap bs) e s = absurd s
        by_piece (token k bs) e s = rw (r.0, here) (bad_token IsBadNumber k bs e (r.1, s))
    refused_there told place (error.LongName at) here next r = inr (by_piece next.0 next.1 (subst (λ t. Shows t next.0) r.2 next.2))
      where
        by_piece : (p : Piece) → first_piece rest ≡ Some p → Shows front.LongName p → IsBadToken IsLongName source at
        by_piece (gap bs) e s = absurd s
        by_piece (token k bs) e s = rw (r.0, here) (bad_token IsLongName k bs e (r.1, s))
    refused_there told place (error.TooManyTokens at) here next r = inr (by_piece next.0 next.1 told next.2 r.2)
      where
        by_piece : (p : Piece) → first_piece rest ≡ Some p → (t : Front) → Shows t p → t ≢ front.Gap → IsBadToken IsOneTooMany source at
        by_piece (gap bs) e front.Gap s n = absurd (n refl)
        by_piece (gap bs) e (front.Token k) s n = absurd s
        by_piece (gap bs) e front.WideNumber s n = absurd s
        by_piece (gap bs) e front.LongName s n = absurd s
        by_piece (token k bs) e t s n = let most = so_far.limits.0 in rw (r.0, here) (bad_token IsOneTooMany k bs e (omega (arith, r.1, most)))
