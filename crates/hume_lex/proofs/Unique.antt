-- A source has one cut into pieces, and so one answer.
use Rattle.std.proofs.Common.{◌≡◌, ℕ, ◌+◌, ◌<◌, List, [], ◌∷◌, ◌++◌, length, Some, Result, Err, refl, sym, ap, ◌∙◌, subst, ◌⊎◌, inl, inr, arith, length-append, append_assoc}
use Rattle.std.specs.List.{AllByRecursion}
use Rattle.std.proofs.lemmas.List.Elements.{recursion_from_All}
use Rattle.hume_base.specs.declared.limits.TheConstants.{MAX_TOKENS}
use Rattle.hume_base.specs.declared.token.Kind.{Kind}
use Rattle.hume_base.specs.declared.token.Kind.TheVariants as kind
use Rattle.hume_base.specs.declared.token.Token.{Token}
use Rattle.hume_lex.specs.declared.lexer.LexError.{LexError}
use Rattle.hume_lex.specs.declared.lexer.LexError.TheVariants as error
use Rattle.hume_lex.specs.Reading.{Piece, gap, token, bytes_of, IsPiece, IsLongest, source_of, AreLongest, tokens_at, ReadsTo, IsReading}
use Rattle.hume_lex.specs.BadPlaces.{IsTaken, IsTooWide, IsTooLong, AreWithinLimits, IsRead, IsBadChar, IsBadToken, IsBadNumber, IsLongName, IsOneTooMany, IsBadPlace}
use Rattle.hume_lex.specs.inner.Scan.{first_piece}
use Rattle.hume_lex.proofs.Found.{first_found}
use Rattle.hume_lex.proofs.Fronts.{piece_alone}
use Rattle.hume_lex.proofs.Readings.{put, tokens_at-append}

-- of two fronts of one list, one is the front of the other
split_front : (xs ys as_ bs : List ℕ) → xs ++ as_ ≡ ys ++ bs → ((xs ≡ ys) × (as_ ≡ bs)) ⊎ (((c : ℕ) × (cs : List ℕ) × (xs ≡ ys ++ (c ∷ cs)) × (bs ≡ (c ∷ cs) ++ as_)) ⊎ ((c : ℕ) × (cs : List ℕ) × (ys ≡ xs ++ (c ∷ cs)) × (as_ ≡ (c ∷ cs) ++ bs)))
split_front [] [] as_ bs e = inl (refl, e)
split_front [] (y ∷ ys) as_ bs e = inr (inr (y, ys, refl, e))
split_front (x ∷ xs) [] as_ bs e = inr (inl (x, xs, refl, sym e))
split_front (x ∷ xs) (y ∷ ys) as_ bs e =
    let h : x ≡ y = cc in
    let t : xs ++ as_ ≡ ys ++ bs = cc in
    elim (split_front xs ys as_ bs t) [
      | inl a ↦ inl ((let f = a.0 in cc), a.1)
      | inr o ↦ elim o [
        | inl b ↦ inr (inl (b.0, b.1, (let f = b.2 in cc), b.3))
        | inr d ↦ inr (inr (d.0, d.1, (let f = d.2 in cc), d.3))
      ]
    ]

some_same : {A : Type 0} (x y : A) → Some x ≡ Some y → x ≡ y
some_same x y e = cc

-- two pieces at one front, both the longest, are the same
same_piece : (p q : Piece) (as_ bs : List ℕ) → IsPiece p → IsPiece q → IsLongest (bytes_of p) as_ → IsLongest (bytes_of q) bs → bytes_of p ++ as_ ≡ bytes_of q ++ bs → (p ≡ q) × (as_ ≡ bs)
same_piece p q as_ bs hp hq lp lq e = elim (split_front (bytes_of p) (bytes_of q) as_ bs e) [
  | inl a ↦ (some_same p q (sym (piece_alone p hp) ∙ ap first_piece a.0 ∙ piece_alone q hq), a.1)
  | inr o ↦ elim o [
    | inl b ↦ absurd (lq p b.0 b.1 as_ hp b.2 b.3)
    | inr d ↦ absurd (lp q d.0 d.1 bs hq d.2 d.3)
  ]
]

pub piece_some : (p : Piece) → IsPiece p → 0 < length (bytes_of p)
piece_some p h = (first_found (bytes_of p) p (piece_alone p h)).some

-- of two cuts the second goes on where the first ends
record Further (ps qs : List Piece) (r s : List ℕ) : Type 0 where
  next : Piece
  more : List Piece
  is : qs ≡ ps ++ (next ∷ more)
  rest : r ≡ bytes_of next ++ (source_of more ++ s)
  right : IsPiece next
  longest : IsLongest (bytes_of next) (source_of more ++ s)

further : (p q : Piece) (ps qs : List Piece) (r s : List ℕ) → p ≡ q → Further ps qs r s → Further (p ∷ ps) (q ∷ qs) r s
further p q ps qs r s e f = record { next = f.next; more = f.more; is = (let g = f.is in cc); rest = f.rest; right = f.right; longest = f.longest }

two_cuts : (ps qs : List Piece) (r s : List ℕ) → source_of ps ++ r ≡ source_of qs ++ s → AreLongest ps r → AreLongest qs s → ((ps ≡ qs) × (r ≡ s)) ⊎ (Further ps qs r s ⊎ Further qs ps s r)
two_cuts [] [] r s e h i = inl (refl, e)
two_cuts [] (q ∷ qs) r s e h i = inr (inl (record { next = q; more = qs; is = refl; rest = e ∙ append_assoc (bytes_of q) (source_of qs) s; right = i.0; longest = i.1 }))
two_cuts (p ∷ ps) [] r s e h i = inr (inr (record { next = p; more = ps; is = refl; rest = sym e ∙ append_assoc (bytes_of p) (source_of ps) r; right = h.0; longest = h.1 }))
two_cuts (p ∷ ps) (q ∷ qs) r s e h i =
    let first = same_piece p q (source_of ps ++ r) (source_of qs ++ s) h.0 i.0 h.1 i.1 (sym (append_assoc (bytes_of p) (source_of ps) r) ∙ e ∙ append_assoc (bytes_of q) (source_of qs) s) in
    elim (two_cuts ps qs r s first.1 h.2 i.2) [
      | inl a ↦ inl ((let f = a.0 in let g = first.0 in cc), a.1)
      | inr o ↦ elim o [
        | inl b ↦ inr (inl (further p q ps qs r s first.0 b))
        | inr d ↦ inr (inr (further q p qs ps s r (sym first.0) d))
      ]
    ]

-- the limits let the piece come after the tokens
IsAllowed : List Token → Piece → Type 0
IsAllowed ts (gap bs) = Unit {0}
IsAllowed ts (token k bs) = IsTaken k × (length ts < MAX_TOKENS)

-- no piece that is the longest there may come after the tokens
Blocks : List Token → List ℕ → Type 0
Blocks ts rest = (p : Piece) (left : List ℕ) → rest ≡ bytes_of p ++ left → IsPiece p → IsLongest (bytes_of p) left → IsAllowed ts p → ⊥

in_middle : (ts : List Token) (t : Token) (us : List Token) → AllByRecursion (λ token. IsTaken token.kind) (ts ++ t ∷ us) → IsTaken t.kind
in_middle [] t us h = h.0
in_middle (x ∷ ts) t us h = in_middle ts t us h.1

next_allowed : (ps : List Piece) (p : Piece) (more : List Piece) → AreWithinLimits (tokens_at 0 (ps ++ p ∷ more)) → IsAllowed (tokens_at 0 ps) p
unfolding IsAllowed
next_allowed ps (gap bs) more h = tt
next_allowed ps (token k bs) more h =
    let whole = subst AreWithinLimits (tokens_at-append 0 ps (token k bs ∷ more)) h in (
      in_middle (tokens_at 0 ps) (put (0 + length (source_of ps)) k) (tokens_at (0 + length (source_of ps) + length bs) more)
          (recursion_from_All (λ token. IsTaken token.kind) _ whole.1),
      omega (arith, whole.0, length-append (tokens_at 0 ps) (put (0 + length (source_of ps)) k ∷ tokens_at (0 + length (source_of ps) + length bs) more)),
    )

no_further : (ps qs : List Piece) (r s : List ℕ) → Further ps qs r s → AreWithinLimits (tokens_at 0 qs) → Blocks (tokens_at 0 ps) r → ⊥
unfolding Blocks
no_further ps qs r s f limits blocks =
    blocks f.next (source_of f.more ++ s) f.rest f.right f.longest (next_allowed ps f.next f.more (subst (λ l. AreWithinLimits (tokens_at 0 l)) f.is limits))

-- the source is read up to where it is blocked
record Stops (source rest : List ℕ) (ts : List Token) : Type 0 where
  reads : ReadsTo source rest ts
  limits : AreWithinLimits ts
  blocked : Blocks ts rest

one_stop : (source r s : List ℕ) (ts us : List Token) → Stops source r ts → Stops source s us → (ts ≡ us) × (r ≡ s)
one_stop source r s ts us a b =
    elim (two_cuts a.reads.pieces b.reads.pieces r s (sym a.reads.cover ∙ b.reads.cover) a.reads.longest b.reads.longest) [
      | inl same ↦ (sym a.reads.same ∙ ap (tokens_at 0) same.0 ∙ b.reads.same, same.1)
      | inr o ↦ elim o [
        | inl f ↦ absurd (no_further a.reads.pieces b.reads.pieces r s f (subst AreWithinLimits (sym b.reads.same) b.limits) (subst (λ l. Blocks l r) (sym a.reads.same) a.blocked))
        | inr g ↦ absurd (no_further b.reads.pieces a.reads.pieces s r g (subst AreWithinLimits (sym a.reads.same) a.limits) (subst (λ l. Blocks l s) (sym b.reads.same) b.blocked))
      ]
    ]

read_stops : (source : List ℕ) (ts : List Token) → IsRead source ts → Stops source [] ts
unfolding Blocks
read_stops source ts h = record {
  reads = h.0;
  limits = h.1;
  blocked = λ p left e right longest allowed. absurd (omega (arith, piece_some p right, ap length e, length-append (bytes_of p) left));
}

char_stops : (source : List ℕ) (place : ℕ) (h : IsBadChar source place) → Stops source h.rest h.tokens
unfolding Blocks
char_stops source place h = record {
  reads = h.before.reads;
  limits = h.before.limits;
  blocked = λ p left e right longest allowed. h.none p left right e;
}

-- what is wrong with a token is not allowed
IsForbidden : (List Token → Kind → Type 0) → Type 0
IsForbidden IsWrong = (ts : List Token) (k : Kind) → IsWrong ts k → IsTaken k → length ts < MAX_TOKENS → ⊥

token_stops : (IsWrong : List Token → Kind → Type 0) → IsForbidden IsWrong → (source : List ℕ) (place : ℕ) (h : IsBadToken IsWrong source place) → Stops source h.rest h.tokens
unfolding Blocks IsAllowed IsForbidden
token_stops IsWrong forbidden source place h = record {
  reads = h.before.reads;
  limits = h.before.limits;
  blocked = λ p left e right longest allowed.
      let same = (same_piece p (token h.kind h.bytes) left h.left right h.spells longest h.longest (sym e ∙ h.is)).0 in
      let both = subst (IsAllowed h.tokens) same allowed in
      forbidden h.tokens h.kind h.wrong both.0 both.1;
}

wide_forbidden : IsForbidden IsBadNumber
unfolding IsForbidden
wide_forbidden ts (kind.Number n) w t room = absurd (omega (arith, w.1))
wide_forbidden ts (kind.Lower x) w t room = w.1
wide_forbidden ts (kind.Upper x) w t room = w.1
wide_forbidden ts (kind.Letter x) w t room = w.1
wide_forbidden ts (kind.Quoted x) w t room = w.1
wide_forbidden ts (kind.Word x) w t room = w.1
wide_forbidden ts (kind.Sign x) w t room = w.1

long_forbidden : IsForbidden IsLongName
unfolding IsForbidden
long_forbidden ts (kind.Lower x) w t room = absurd (omega (arith, w.1))
long_forbidden ts (kind.Upper x) w t room = absurd (omega (arith, w.1))
long_forbidden ts (kind.Number x) w t room = w.1
long_forbidden ts (kind.Letter x) w t room = w.1
long_forbidden ts (kind.Quoted x) w t room = w.1
long_forbidden ts (kind.Word x) w t room = w.1
long_forbidden ts (kind.Sign x) w t room = w.1

many_forbidden : IsForbidden IsOneTooMany
unfolding IsForbidden
many_forbidden ts k w t room = omega (arith, w)

-- a number is no name
wide_not_long : (k : Kind) → IsTooWide k → IsTooLong k → ⊥
wide_not_long (kind.Number n) w l = l
wide_not_long (kind.Lower x) w l = w
wide_not_long (kind.Upper x) w l = w
wide_not_long (kind.Letter x) w l = w
wide_not_long (kind.Quoted x) w l = w
wide_not_long (kind.Word x) w l = w
wide_not_long (kind.Sign x) w l = w

same_place : (source r s : List ℕ) (p q : ℕ) → p + length r ≡ length source → q + length s ≡ length source → r ≡ s → p ≡ q
same_place source r s p q a b e = omega (arith, ap length e)

-- two wrong tokens stand at one place, and are one token after the same tokens
record Both (IsWrong IsOther : List Token → Kind → Type 0) (p q : ℕ) : Type 0 where
  tokens : List Token
  kind : Kind
  wrong : IsWrong tokens kind
  other : IsOther tokens kind
  place : p ≡ q

same_bad : (IsWrong IsOther : List Token → Kind → Type 0) → IsForbidden IsWrong → IsForbidden IsOther → (source : List ℕ) (p q : ℕ) → IsBadToken IsWrong source p → IsBadToken IsOther source q → Both IsWrong IsOther p q
same_bad IsWrong IsOther f g source p q a b =
    let stop = one_stop source a.rest b.rest a.tokens b.tokens (token_stops IsWrong f source p a) (token_stops IsOther g source q b) in
    let one = (same_piece (token a.kind a.bytes) (token b.kind b.bytes) a.left b.left a.spells b.spells a.longest b.longest (sym a.is ∙ stop.1 ∙ b.is)).0 in
    let kinds : a.kind ≡ b.kind = cc in
    record {
      tokens = a.tokens;
      kind = a.kind;
      wrong = a.wrong;
      other = subst (λ k. IsOther a.tokens k) (sym kinds) (subst (λ l. IsOther l b.kind) (sym stop.0) b.wrong);
      place = same_place source a.rest b.rest p q a.before.here b.before.here stop.1;
    }

char_or_token : (IsWrong : List Token → Kind → Type 0) → IsForbidden IsWrong → (source : List ℕ) (p q : ℕ) → IsBadChar source p → IsBadToken IsWrong source q → ⊥
char_or_token IsWrong f source p q a b =
    let stop = one_stop source a.rest b.rest a.tokens b.tokens (char_stops source p a) (token_stops IsWrong f source q b) in
    a.none (token b.kind b.bytes) b.left b.spells (stop.1 ∙ b.is)

char_and_char : (source : List ℕ) (p q : ℕ) → IsBadChar source p → IsBadChar source q → p ≡ q
char_and_char source p q a b =
    let stop = one_stop source a.rest b.rest a.tokens b.tokens (char_stops source p a) (char_stops source q b) in
    same_place source a.rest b.rest p q a.before.here b.before.here stop.1

pub one_bad_place : (source : List ℕ) (e f : LexError) → IsBadPlace source e → IsBadPlace source f → e ≡ f
one_bad_place source error.NoMemory f a b = absurd a
one_bad_place source (error.BadChar p) error.NoMemory a b = absurd b
one_bad_place source (error.BadNumber p) error.NoMemory a b = absurd b
one_bad_place source (error.LongName p) error.NoMemory a b = absurd b
one_bad_place source (error.TooManyTokens p) error.NoMemory a b = absurd b
one_bad_place source (error.BadChar p) (error.BadChar q) a b = ap error.BadChar (char_and_char source p q a b)
one_bad_place source (error.BadChar p) (error.BadNumber q) a b = absurd (char_or_token IsBadNumber wide_forbidden source p q a b)
one_bad_place source (error.BadChar p) (error.LongName q) a b = absurd (char_or_token IsLongName long_forbidden source p q a b)
one_bad_place source (error.BadChar p) (error.TooManyTokens q) a b = absurd (char_or_token IsOneTooMany many_forbidden source p q a b)
one_bad_place source (error.BadNumber p) (error.BadChar q) a b = absurd (char_or_token IsBadNumber wide_forbidden source q p b a)
one_bad_place source (error.LongName p) (error.BadChar q) a b = absurd (char_or_token IsLongName long_forbidden source q p b a)
one_bad_place source (error.TooManyTokens p) (error.BadChar q) a b = absurd (char_or_token IsOneTooMany many_forbidden source q p b a)
one_bad_place source (error.BadNumber p) (error.BadNumber q) a b = ap error.BadNumber (same_bad IsBadNumber IsBadNumber wide_forbidden wide_forbidden source p q a b).place
one_bad_place source (error.LongName p) (error.LongName q) a b = ap error.LongName (same_bad IsLongName IsLongName long_forbidden long_forbidden source p q a b).place
one_bad_place source (error.TooManyTokens p) (error.TooManyTokens q) a b = ap error.TooManyTokens (same_bad IsOneTooMany IsOneTooMany many_forbidden many_forbidden source p q a b).place
one_bad_place source (error.BadNumber p) (error.LongName q) a b = let x = same_bad IsBadNumber IsLongName wide_forbidden long_forbidden source p q a b in absurd (wide_not_long x.kind x.wrong.1 x.other.1)
one_bad_place source (error.LongName p) (error.BadNumber q) a b = let x = same_bad IsBadNumber IsLongName wide_forbidden long_forbidden source q p b a in absurd (wide_not_long x.kind x.wrong.1 x.other.1)
one_bad_place source (error.BadNumber p) (error.TooManyTokens q) a b = let x = same_bad IsBadNumber IsOneTooMany wide_forbidden many_forbidden source p q a b in absurd (omega (arith, x.wrong.0, x.other))
one_bad_place source (error.LongName p) (error.TooManyTokens q) a b = let x = same_bad IsLongName IsOneTooMany long_forbidden many_forbidden source p q a b in absurd (omega (arith, x.wrong.0, x.other))
one_bad_place source (error.TooManyTokens p) (error.BadNumber q) a b = let x = same_bad IsBadNumber IsOneTooMany wide_forbidden many_forbidden source q p b a in absurd (omega (arith, x.wrong.0, x.other))
one_bad_place source (error.TooManyTokens p) (error.LongName q) a b = let x = same_bad IsLongName IsOneTooMany long_forbidden many_forbidden source q p b a in absurd (omega (arith, x.wrong.0, x.other))

read_no_token : (IsWrong : List Token → Kind → Type 0) → IsForbidden IsWrong → (source : List ℕ) (ts : List Token) (p : ℕ) → IsRead source ts → IsBadToken IsWrong source p → ⊥
read_no_token IsWrong f source ts p a b =
    let stop = one_stop source [] b.rest ts b.tokens (read_stops source ts a) (token_stops IsWrong f source p b) in
    omega (arith, piece_some (token b.kind b.bytes) b.spells, ap length (stop.1 ∙ b.is), length-append b.bytes b.left)

pub read_no_bad_place : (source : List ℕ) (ts : List Token) (e : LexError) → IsRead source ts → IsBadPlace source e → ⊥
read_no_bad_place source ts error.NoMemory a b = b
read_no_bad_place source ts (error.BadChar p) a b =
    let stop = one_stop source [] b.rest ts b.tokens (read_stops source ts a) (char_stops source p b) in
    omega (arith, b.some, ap length stop.1)
read_no_bad_place source ts (error.BadNumber p) a b = read_no_token IsBadNumber wide_forbidden source ts p a b
read_no_bad_place source ts (error.LongName p) a b = read_no_token IsLongName long_forbidden source ts p a b
read_no_bad_place source ts (error.TooManyTokens p) a b = read_no_token IsOneTooMany many_forbidden source ts p a b

no_further_end : (ps qs : List Piece) → Further ps qs [] [] → ⊥
no_further_end ps qs f = omega (arith, piece_some f.next f.right, ap length f.rest, length-append (bytes_of f.next) (source_of f.more ++ []))

pub one_reading : (source : List ℕ) (ts us : List Token) → IsReading source ts → IsReading source us → ts ≡ us
one_reading source ts us a b = elim (two_cuts a.pieces b.pieces [] [] (sym a.cover ∙ b.cover) a.longest b.longest) [
  | inl same ↦ sym a.same ∙ ap (tokens_at 0) same.0 ∙ b.same
  | inr o ↦ elim o [
    | inl f ↦ absurd (no_further_end a.pieces b.pieces f)
    | inr g ↦ absurd (no_further_end b.pieces a.pieces g)
  ]
]

-- an answer that is right is the only one, but for want of memory
pub no_error : (source : List ℕ) (e : LexError) → (e ≡ error.NoMemory) ⊎ IsBadPlace source e → (ts : List Token) → IsRead source ts → e ≡ error.NoMemory
no_error source e (inl memory) ts h = memory
no_error source e (inr bad) ts h = absurd (read_no_bad_place source ts e h bad)

pub same_error : (source : List ℕ) (e f : LexError) → (e ≡ error.NoMemory) ⊎ IsBadPlace source e → IsBadPlace source f → (e ≡ f) ⊎ (e ≡ error.NoMemory)
same_error source e f (inl memory) h = inr memory
same_error source e f (inr bad) h = inl (one_bad_place source e f bad h)

pub as_result : {A : Type 0} (r : Result A LexError) (e f : LexError) → r ≡ Err e → (e ≡ f) ⊎ (e ≡ error.NoMemory) → (r ≡ Err f) ⊎ (r ≡ Err error.NoMemory)
as_result r e f is (inl same) = inl (is ∙ ap Err same)
as_result r e f is (inr memory) = inr (is ∙ ap Err memory)
