-- A printed text is a text of the value that was printed.
use Rattle.std.proofs.Common.{◌≡◌, ℕ, zero, suc, ◌^◌, ◌<◌, ◌≤◌, nat_lt, nat_le, ◌==◌, ◌&&◌, ◌||◌, not, Bool, true, false, if◌then◌else◌, ℤ, pos, negsuc, neg_ℤ, List, [], ◌∷◌, ◌++◌, codes, map, length, Option, Some, None, slice_get, w64, SFits, Fits, refl, ap, sym, ◌∙◌, subst, append_assoc, append-nil, arith, inl, inr, ◌⊎◌}
use mir.ValLaws.{to_z-Fits}
use Rattle.std.proofs.Math.Pow.{pow_mono}
use Rattle.std.proofs.lemmas.Bool.{and_parts, eqb-true, ltb-true, leb-true, le-leb, lt-leb, cases_eq, eq-eqb, ne_eqb}
use Rattle.std.proofs.lemmas.Fmt.{decimal_is_IsNumeral}
use Rattle.std.proofs.lemmas.Str.Parse.{digit_from_value}
use Rattle.std.specs.Fmt.{decimal}
use Rattle.std.specs.List.{list_all, flat_map, AllByRecursion}
use Rattle.std.specs.Str.Parse.{AllDigits, digits_value}
use Rattle.std.proofs.Math.Bool.{or-true}
use Rattle.hume_base.specs.declared.types.Ty.{Ty, roll-Ty, map-Ty, fold-roll-Ty, ind-Ty}
use Rattle.hume_base.specs.declared.types.Ty.TheOpen.{Ty-F}
use Rattle.hume_base.specs.declared.types.Value.{Value, out-Value}
use Rattle.hume_base.specs.declared.types.Value.TheOpen.{Value-F}
use Rattle.hume_base.specs.declared.types.Types.{Types}
use Rattle.hume_base.specs.declared.types.SumDef.{SumDef}
use Rattle.hume_base.specs.declared.types.ConDef.{ConDef}
use Rattle.hume_base.specs.Flat.{word_in, parts_in}
use Rattle.hume_base.specs.Words.{int_of}
use Rattle.hume_base.specs.Values.{is_value, is_word_of, is_char_word, is_int_word, all_pass, is_tuple_of, is_vector_of, value_step, is_value_with, is_con_of, is_sum_value, is_named_value, fields_of, fields_at}
use Rattle.hume_text.specs.Spelling.{Piece, Space, Open, Close, OpenVector, CloseVector, Comma, Name, Number, Letter, bool_name, each_spelled, with_commas, has_fields, as_field, name_of, con_spelled, sum_spelled, spelling_step, spelling_with, named_spelling, spelling}
use Rattle.hume_text.specs.Printed.{letter_bytes, written, texts}
use Rattle.hume_text.specs.Bounds.{limits_step, keeps_limits, IsWritable, IsWritableCon, AreWritable}
use Rattle.hume_text.specs.Names.{is_con_name, HasNames, HaveNames}
use Rattle.hume_text.specs.Read.{is_blank, is_digit, is_letter, is_name_byte, front, behind, digits_at, letter_at, next, Cuts, IsTextOf}

abbrev pub is_name : List ℕ → Bool
is_name [] = false
is_name (byte ∷ bytes) = is_letter byte && list_all is_name_byte bytes

-- a piece that is read as it is written
abbrev pub IsReadBack : Piece → Type 0
IsReadBack (Name name) = is_name name ≡ true
IsReadBack (Number (pos n)) = n < 2 ^ 64
IsReadBack (Number (negsuc n)) = suc n < 2 ^ 64
IsReadBack (Letter byte) = is_char_word byte ≡ true
IsReadBack _ = Unit {0}

-- no name and no number goes on with these pieces
abbrev pub Stops : List Piece → Type 0
Stops [] = Unit {0}
Stops (Name name ∷ pieces) = ⊥
Stops (Number number ∷ pieces) = ⊥
Stops (piece ∷ pieces) = Unit {0}

abbrev pub Begins : List Piece → Type 0
Begins [] = ⊥
Begins (Space ∷ pieces) = ⊥
Begins (piece ∷ pieces) = Unit {0}

-- what may stand behind a piece
abbrev pub Follows : Piece → List Piece → Type 0
Follows (Name name) pieces = Stops pieces
Follows (Number number) pieces = Stops pieces
Follows Space pieces = Begins pieces
Follows _ pieces = Unit {0}

abbrev pub AreLaid : List Piece → Type 0
AreLaid [] = Unit {0}
AreLaid (piece ∷ pieces) = IsReadBack piece × Follows piece pieces × AreLaid pieces

-- bytes

stops_at : (ℕ → Bool) → List ℕ → Bool
stops_at test [] = true
stops_at test (byte ∷ bytes) = not (test byte)

not_true : (b : Bool) → not b ≡ true → b ≡ false
not_true true p = cc
not_true false p = refl

front_is : (test : ℕ → Bool) (xs rest : List ℕ) → list_all test xs ≡ true → stops_at test rest ≡ true → front test (xs ++ rest) ≡ xs
unfolding stops_at
front_is test [] [] p q = refl
front_is test [] (b ∷ bs) p q = rw (not_true (test b) q) refl
front_is test (x ∷ xs) rest p q = let ps = and_parts (test x) (list_all test xs) p in rw ps.0 (ap (λ ys. x ∷ ys) (front_is test xs rest ps.1 q))

behind_is : (test : ℕ → Bool) (xs rest : List ℕ) → list_all test xs ≡ true → stops_at test rest ≡ true → behind test (xs ++ rest) ≡ rest
unfolding stops_at
behind_is test [] [] p q = refl
behind_is test [] (b ∷ bs) p q = rw (not_true (test b) q) refl
behind_is test (x ∷ xs) rest p q = let ps = and_parts (test x) (list_all test xs) p in rw ps.0 (behind_is test xs rest ps.1 q)

or_cases : (b c : Bool) → (b || c) ≡ true → (b ≡ true) ⊎ (c ≡ true)
or_cases true c p = inl refl
or_cases false c p = inr p

range : (low high b : ℕ) → (nat_le low b && nat_le b high) ≡ true → (low ≤ b) × (b ≤ high)
range low high b p = let ps = and_parts _ _ p in (leb-true low b ps.0, leb-true b high ps.1)

letter_from : (b : ℕ) → is_letter b ≡ true → 65 ≤ b
letter_from b p = elim (or_cases (nat_le 97 b && nat_le b 122) (nat_le 65 b && nat_le b 90) p) [
  | inl small ↦ omega (arith, range 97 122 b small)
  | inr large ↦ omega (arith, range 65 90 b large)
]

not_blank : (b : ℕ) → 33 ≤ b → is_blank b ≡ false
not_blank b h = let one : b ≡ 32 → ⊥ = λ e. omega arith in let two : b ≡ 9 → ⊥ = λ e. omega arith in rw (ne_eqb b 32 one, ne_eqb b 9 two) refl

pub digit_no_letter : (b : ℕ) → 48 ≤ b → b ≤ 57 → is_letter b ≡ false
digit_no_letter b low high = let one : nat_le 97 b ≡ false = lt-leb 97 b (omega arith) in let two : nat_le 65 b ≡ false = lt-leb 65 b (omega arith) in rw (one, two) refl

digit_is : (b : ℕ) → 48 ≤ b → b ≤ 57 → is_digit b ≡ true
digit_is b low high = let one : nat_le 48 b ≡ true = le-leb 48 b low in let two : nat_le b 57 ≡ true = le-leb b 57 high in rw (one, two) refl

all_digits : (ds : List ℕ) → AllDigits 10 ds → list_all is_digit ds ≡ true
all_digits [] d = refl
all_digits (c ∷ cs) d = let r = digit_from_value c d.0 in rw (digit_is c r.0 r.1) (all_digits cs d.1)

-- tokens

name_next : (name rest : List ℕ) → is_name name ≡ true → stops_at is_name_byte rest ≡ true → next (name ++ rest) ≡ Some (Name name, rest)
name_next [] rest p q = cc
name_next (b ∷ bs) rest p q =
    let ps = and_parts (is_letter b) (list_all is_name_byte bs) p in
    rw (not_blank b (omega (arith, letter_from b ps.0)), ps.0, front_is is_name_byte bs rest ps.1 q, behind_is is_name_byte bs rest ps.1 q) refl

digits_taken : (signed : ℕ → ℤ) (ds rest : List ℕ) → 0 < length ds → AllDigits 10 ds → stops_at is_digit rest ≡ true
    → digits_at signed (ds ++ rest) ≡ Some (Number (signed (digits_value 10 ds)), rest)
digits_taken signed [] rest some d q = absurd (omega arith)
digits_taken signed (c ∷ cs) rest some d q =
    let r = digit_from_value c d.0 in
    rw (digit_is c r.0 r.1, front_is is_digit cs rest (all_digits cs d.1) q, behind_is is_digit cs rest (all_digits cs d.1) q) refl

digits_next : (ds rest : List ℕ) → 0 < length ds → AllDigits 10 ds → next (ds ++ rest) ≡ digits_at pos (ds ++ rest)
digits_next [] rest some d = absurd (omega arith)
digits_next (c ∷ cs) rest some d =
    let r = digit_from_value c d.0 in
    rw (not_blank c (omega (arith, r)), digit_no_letter c r.0 r.1, digit_is c r.0 r.1) refl

number_next : (n : ℕ) (rest : List ℕ) → n < 2 ^ 64 → stops_at is_digit rest ≡ true → next (decimal n ++ rest) ≡ Some (Number (pos n), rest)
number_next n rest small q =
    let is = decimal_is_IsNumeral n small in
    digits_next (decimal n) rest is.0.0 is.0.1 ∙ digits_taken pos (decimal n) rest is.0.0 is.0.1 q ∙ ap (λ m. Some (Number (pos m), rest)) is.1

minus_next : (n : ℕ) (rest : List ℕ) → suc n < 2 ^ 64 → stops_at is_digit rest ≡ true
    → next (45 ∷ (decimal (suc n) ++ rest)) ≡ Some (Number (negsuc n), rest)
minus_next n rest small q =
    let is = decimal_is_IsNumeral (suc n) small in
    digits_taken (λ m. neg_ℤ (pos m)) (decimal (suc n)) rest is.0.0 is.0.1 q ∙ ap (λ m. Some (Number (neg_ℤ (pos m)), rest)) is.1

letter_plain : (a : ℕ) (rest : List ℕ) → (a == 92) ≡ false → (a == 39) ≡ false → (nat_le 32 a && nat_le a 126) ≡ true
    → letter_at (a ∷ (39 ∷ rest)) ≡ Some (Letter a, rest)
letter_plain a rest e f p = let ps = and_parts (nat_le 32 a) (nat_le a 126) p in rw (e, ps.0, ps.1, f) refl

letter_next : (a : ℕ) (rest : List ℕ) → is_char_word a ≡ true → letter_at (letter_bytes a ++ (39 ∷ rest)) ≡ Some (Letter a, rest)
letter_next a rest p = go (a == 10) (a == 9) (a == 92) (a == 39) refl refl refl refl
  where
    go : (b c d e : Bool) → (a == 10) ≡ b → (a == 9) ≡ c → (a == 92) ≡ d → (a == 39) ≡ e
        → letter_at (letter_bytes a ++ (39 ∷ rest)) ≡ Some (Letter a, rest)
    go true c d e eb ec ed ee = rw eb (ap (λ x. Some (Letter x, rest)) (sym (eqb-true a 10 eb)))
    go false true d e eb ec ed ee = rw (eb, ec) (ap (λ x. Some (Letter x, rest)) (sym (eqb-true a 9 ec)))
    go false false true e eb ec ed ee = rw (eb, ec, ed) (ap (λ x. Some (Letter x, rest)) (sym (eqb-true a 92 ed)))
    go false false false true eb ec ed ee = rw (eb, ec, ed, ee) (ap (λ x. Some (Letter x, rest)) (sym (eqb-true a 39 ee)))
    go false false false false eb ec ed ee =
        let plain : (nat_le 32 a && nat_le a 126) ≡ true = rest_of in rw (eb, ec, ed, ee) (letter_plain a rest ed ee plain)
      where
        rest_of : (nat_le 32 a && nat_le a 126) ≡ true
        rest_of = printed (nat_le 32 a && nat_le a 126) (rw (ec, eb) at p)
          where
            printed : (b : Bool) → ((b || false) || false) ≡ true → b ≡ true
            printed true q = refl
            printed false q = cc

-- lists of pieces

stops_written : (ps : List Piece) → Stops ps → (stops_at is_name_byte (written ps) ≡ true) × (stops_at is_digit (written ps) ≡ true)
unfolding stops_at
stops_written [] h = (refl, refl)
stops_written (Space ∷ ps) h = (refl, refl)
stops_written (Open ∷ ps) h = (refl, refl)
stops_written (Close ∷ ps) h = (refl, refl)
stops_written (OpenVector ∷ ps) h = (refl, refl)
stops_written (CloseVector ∷ ps) h = (refl, refl)
stops_written (Comma ∷ ps) h = (refl, refl)
stops_written (Name name ∷ ps) h = absurd h
stops_written (Number number ∷ ps) h = absurd h
stops_written (Letter byte ∷ ps) h = (refl, refl)

blank_before : (ps : List Piece) (line rest : List ℕ) → Begins ps → Cuts line ps rest → Cuts (32 ∷ line) ps rest
blank_before [] line rest b h = absurd b
blank_before (Space ∷ ps) line rest b h = absurd b
blank_before (Open ∷ ps) line rest b h = h
blank_before (Close ∷ ps) line rest b h = h
blank_before (OpenVector ∷ ps) line rest b h = h
blank_before (CloseVector ∷ ps) line rest b h = h
blank_before (Comma ∷ ps) line rest b h = h
blank_before (Name name ∷ ps) line rest b h = h
blank_before (Number number ∷ ps) line rest b h = h
blank_before (Letter byte ∷ ps) line rest b h = h

cuts_written : (ps : List Piece) → AreLaid ps → Cuts (written ps) ps []
cuts_written [] h = refl
cuts_written (Space ∷ ps) h = blank_before ps (written ps) [] h.1 (cuts_written ps h.2)
cuts_written (Open ∷ ps) h = (written ps, refl, cuts_written ps h.2)
cuts_written (Close ∷ ps) h = (written ps, refl, cuts_written ps h.2)
cuts_written (OpenVector ∷ ps) h = (written ps, refl, cuts_written ps h.2)
cuts_written (CloseVector ∷ ps) h = (written ps, refl, cuts_written ps h.2)
cuts_written (Comma ∷ ps) h = (written ps, refl, cuts_written ps h.2)
cuts_written (Name name ∷ ps) h = (written ps, name_next name (written ps) h.0 (stops_written ps h.1).0, cuts_written ps h.2)
cuts_written (Number (pos n) ∷ ps) h = (written ps, number_next n (written ps) h.0 (stops_written ps h.1).1, cuts_written ps h.2)
cuts_written (Number (negsuc n) ∷ ps) h = (written ps, minus_next n (written ps) h.0 (stops_written ps h.1).1, cuts_written ps h.2)
cuts_written (Letter byte ∷ ps) h = (
  written ps,
  ap (λ bytes. letter_at bytes) (append_assoc (letter_bytes byte) (39 ∷ []) (written ps))
      ∙ letter_next byte (written ps) h.0,
  cuts_written ps h.2,
)

-- pieces that may stand before any that stop a name
abbrev Goes : List Piece → Type 0
Goes ps = (qs : List Piece) → Stops qs → AreLaid qs → AreLaid (ps ++ qs) × Begins (ps ++ qs)

abbrev FieldGoes : List Piece → Type 0
FieldGoes ps = (qs : List Piece) → Stops qs → AreLaid qs → AreLaid (ps ++ qs) × Stops (ps ++ qs)

later_laid : (parts : List (List Piece)) → AllByRecursion Goes parts → FieldGoes (flat_map (λ later. Comma ∷ (Space ∷ later)) parts)
later_laid [] all qs stops laid = (laid, stops)
later_laid (part ∷ parts) all qs stops laid =
    let more = later_laid parts all.1 qs stops laid in
    let own = all.0 (flat_map (λ later. Comma ∷ (Space ∷ later)) parts ++ qs) more.1 more.0 in
    rw (append_assoc part (flat_map (λ later. Comma ∷ (Space ∷ later)) parts) qs) ((tt, tt, (tt, own.1, own.0)), tt)

commas_laid : (parts : List (List Piece)) → AllByRecursion Goes parts → (qs : List Piece) → Stops qs → AreLaid qs → AreLaid (with_commas parts ++ qs)
commas_laid [] all qs stops laid = laid
commas_laid (part ∷ parts) all qs stops laid =
    let more = later_laid parts all.1 qs stops laid in
    rw (append_assoc part (flat_map (λ later. Comma ∷ (Space ∷ later)) parts) qs) ((all.0 (flat_map (λ later. Comma ∷ (Space ∷ later)) parts ++ qs) more.1 more.0).0)

tuple_goes : (parts : List (List Piece)) → AllByRecursion Goes parts → Goes (Open ∷ (with_commas parts ++ Close ∷ []))
tuple_goes parts all qs stops laid = rw (append_assoc (with_commas parts) (Close ∷ []) qs) ((tt, tt, commas_laid parts all (Close ∷ qs) tt (tt, tt, laid)), tt)

vector_goes : (parts : List (List Piece)) → AllByRecursion Goes parts → Goes (OpenVector ∷ (with_commas parts ++ CloseVector ∷ []))
vector_goes parts all qs stops laid = rw (append_assoc (with_commas parts) (CloseVector ∷ []) qs) ((tt, tt, commas_laid parts all (CloseVector ∷ qs) tt (tt, tt, laid)), tt)

field_goes : (b : Bool) (pieces : List Piece) → Goes pieces → FieldGoes (if b then Space ∷ (Open ∷ (pieces ++ Close ∷ [])) else Space ∷ pieces)
field_goes true pieces goes qs stops laid = rw (append_assoc pieces (Close ∷ []) qs) ((tt, tt, (tt, tt, (goes (Close ∷ qs) tt (tt, tt, laid)).0)), tt)
field_goes false pieces goes qs stops laid = let own = goes qs stops laid in ((tt, own.1, own.0), tt)

fields_go : (fields : List (List Piece)) → AllByRecursion FieldGoes fields → FieldGoes (flat_map (λ part. part) fields)
fields_go [] all qs stops laid = (laid, stops)
fields_go (field ∷ fields) all qs stops laid =
    let more = fields_go fields all.1 qs stops laid in
    rw (append_assoc field (flat_map (λ part. part) fields) qs) (all.0 (flat_map (λ part. part) fields ++ qs) more.1 more.0)

word_goes : (test : ℕ → Bool) (piece : ℕ → Piece) → ((a : ℕ) → test a ≡ true → Goes (piece a ∷ [])) → (l : Value-F Value) → is_word_of test l ≡ true
    → Goes (piece (word_in l) ∷ [])
word_goes test piece goes (Value-F.Word a) p = goes a p
word_goes test piece goes (Value-F.Tuple vs) p = cc
word_goes test piece goes (Value-F.Vector vs) p = cc
word_goes test piece goes (Value-F.Con c vs) p = cc

bool_goes : (a : ℕ) → Goes (Name (bool_name a) ∷ [])
bool_goes a qs stops laid = ((by (a == 0), stops, laid), tt)
  where
    by : (b : Bool) → is_name (if b then codes "false" else codes "true") ≡ true
    by true = refl
    by false = refl

nat_goes : (bits a : ℕ) → bits ≤ 64 → a < 2 ^ bits → Goes (Number (pos a) ∷ [])
nat_goes bits a few below qs stops laid = let most : 2 ^ bits ≤ 2 ^ 64 = pow_mono few in ((omega arith, stops, laid), tt)

int_readable : (z : ℤ) → SFits w64 z → IsReadBack (Number z)
int_readable (pos n) h = let below : n < 2 ^ 63 = h.sfits in omega arith
int_readable (negsuc n) h = let below : n < 2 ^ 63 = h.sfits in omega arith

int_goes : (bits a : ℕ) → is_int_word bits a ≡ true → Goes (Number (int_of a) ∷ [])
int_goes bits a p qs stops laid =
    let fits : Fits w64 a = record { fits = ltb-true _ _ (and_parts _ _ p).0 } in ((int_readable (int_of a) (to_z-Fits w64 a fits), stops, laid), tt)

module _ (nt : ℕ → Value → Bool) (ns : ℕ → Value → List Piece) (named : (k : ℕ) (v : Value) → nt k v ≡ true → Goes (ns k v)) where
  abbrev TyGoes : Ty → Type 0
  TyGoes ty = keeps_limits ty ≡ true → (v : Value) → is_value_with nt ty v ≡ true → Goes (spelling_with ns ty v)

  abbrev Part : Type 0
  Part = (ty : Ty) × TyGoes ty

  abbrev of_part : Part → Ty
  of_part p = p.0

  parts_go : (ps : List Part) (vs : List Value) → list_all (λ keep. keep) (map keeps_limits (map of_part ps)) ≡ true
      → all_pass (map (is_value_with nt) (map of_part ps)) vs ≡ true
      → AllByRecursion Goes (each_spelled (map (spelling_with ns) (map of_part ps)) vs)
  parts_go [] [] k p = tt
  parts_go [] (v ∷ vs) k p = cc
  parts_go (part ∷ ps) [] k p = cc
  parts_go (part ∷ ps) (v ∷ vs) k p =
      let ks = and_parts _ _ k in
      let qs = and_parts _ _ p in
      (part.1 ks.0 v qs.0, parts_go ps vs ks.1 qs.1)

  items_go : (ty : Ty) → TyGoes ty → keeps_limits ty ≡ true → (vs : List Value) → list_all (is_value_with nt ty) vs ≡ true
      → AllByRecursion Goes (map (spelling_with ns ty) vs)
  items_go ty goes k [] p = tt
  items_go ty goes k (v ∷ vs) p = let ps = and_parts _ _ p in (goes k v ps.0, items_go ty goes k vs ps.1)

  tuple_layer : (ps : List Part)
      → (nat_le 1 (length (map keeps_limits (map of_part ps))) && list_all (λ part. part) (map keeps_limits (map of_part ps))) ≡ true
      → (l : Value-F Value) → is_tuple_of (map (is_value_with nt) (map of_part ps)) l ≡ true
      → Goes (Open ∷ (with_commas (each_spelled (map (spelling_with ns) (map of_part ps)) (parts_in l)) ++ Close ∷ []))
  tuple_layer ps k (Value-F.Tuple vs) p = tuple_goes (each_spelled (map (spelling_with ns) (map of_part ps)) vs) (parts_go ps vs (and_parts _ _ k).1 p)
  tuple_layer ps k (Value-F.Word a) p = cc
  tuple_layer ps k (Value-F.Vector vs) p = cc
  tuple_layer ps k (Value-F.Con c vs) p = cc

  vector_layer : (n : ℕ) (ty : Ty) → TyGoes ty → (nat_le 1 n && keeps_limits ty) ≡ true → (l : Value-F Value)
      → is_vector_of n (is_value_with nt ty) l ≡ true
      → Goes (OpenVector ∷ (with_commas (map (spelling_with ns ty) (parts_in l)) ++ CloseVector ∷ []))
  vector_layer n ty goes k (Value-F.Vector vs) p = vector_goes (map (spelling_with ns ty) vs) (items_go ty goes (and_parts _ _ k).1 vs (and_parts _ _ p).1)
  vector_layer n ty goes k (Value-F.Word a) p = cc
  vector_layer n ty goes k (Value-F.Tuple vs) p = cc
  vector_layer n ty goes k (Value-F.Con c vs) p = cc

  abbrev StepGoes : Ty-F Ty → Type 0
  StepGoes y = limits_step (map-Ty Ty Bool keeps_limits y) ≡ true → (v : Value)
      → value_step nt (map-Ty Ty (Value → Bool) (is_value_with nt) y) v ≡ true
      → Goes (spelling_step ns (map-Ty Ty (Value → List Piece) (spelling_with ns) y) v)

  step_goes : (y : Ty-F Part) → StepGoes (map-Ty Part Ty of_part y)
  step_goes Ty-F.Bool = λ k v p. word_goes (λ word. nat_lt word 2) (λ a. Name (bool_name a)) (λ a t. bool_goes a) (out-Value v) p
  step_goes Ty-F.Char = λ k v p. word_goes is_char_word (λ a. Letter a) (λ a t qs stops laid. ((t, tt, laid), tt)) (out-Value v) p
  step_goes (Ty-F.Int n) = λ k v p. word_goes (is_int_word n) (λ a. Number (int_of a)) (int_goes n) (out-Value v) p
  step_goes (Ty-F.Nat n) = λ k v p. word_goes (λ word. nat_lt word (2 ^ n)) (λ a. Number (pos a)) (λ a t. nat_goes n a (leb-true _ _ k) (ltb-true _ _ t)) (out-Value v) p
  step_goes (Ty-F.Tuple ps) = λ k v p. tuple_layer ps k (out-Value v) p
  step_goes (Ty-F.Vector n part) = λ k v p. vector_layer n part.0 part.1 k (out-Value v) p
  step_goes (Ty-F.Named m) = λ k v p. named m v p

  layer_goes : (y : Ty-F Part) → TyGoes (roll-Ty (map-Ty Part Ty of_part y))
  layer_goes y = rw (
    fold-roll-Ty (Value → Bool) (value_step nt),
    fold-roll-Ty (Value
        → List Piece) (spelling_step ns),
    fold-roll-Ty Bool limits_step,
  ) (step_goes y)

  ty_goes : (ty : Ty) → TyGoes ty
  ty_goes = ind-Ty TyGoes (λ x y is. subst (λ z. TyGoes (roll-Ty z)) is (layer_goes y))

  con_fields_go : (tys : List Ty) (vs : List Value) → AllByRecursion IsWritable tys → all_pass (map (is_value_with nt) tys) vs ≡ true
      → AllByRecursion FieldGoes (each_spelled (map (λ ty. as_field (spelling_with ns ty)) tys) vs)
  con_fields_go [] [] w p = tt
  con_fields_go [] (v ∷ vs) w p = cc
  con_fields_go (ty ∷ tys) [] w p = cc
  con_fields_go (ty ∷ tys) (v ∷ vs) w p =
      let ps = and_parts _ _ p in
      (field_goes (has_fields (out-Value v)) (spelling_with ns ty v) (ty_goes ty w.0.limits v ps.0), con_fields_go tys vs w.1 ps.1)

con_name : (name : List ℕ) → is_con_name name ≡ true → is_name name ≡ true
con_name [] p = cc
con_name (b ∷ bs) p =
    let ps = and_parts (nat_le 65 b && nat_le b 90) (list_all is_name_byte bs) p in
    rw (ps.0, or-true (nat_le 97 b && nat_le b 122)) ps.1

some_con : (cons : List ConDef) (c : ℕ) → c < length cons → slice_get cons c ≡ None → ⊥
some_con [] c h e = omega arith
some_con (con ∷ cons) zero h e = cc
some_con (con ∷ cons) (suc c) h e = some_con cons c (omega arith) e

pub fields_writable : (cons : List ConDef) → AllByRecursion IsWritableCon cons → (c : ℕ) → AllByRecursion IsWritable (fields_of (slice_get cons c))
fields_writable [] w c = tt
fields_writable (con ∷ cons) w zero = w.0.fields
fields_writable (con ∷ cons) w (suc c) = fields_writable cons w.1 c

name_readable : (sum : SumDef) → HasNames sum → (c : ℕ) → c < length sum.cons → (o : Option ConDef) → slice_get sum.cons c ≡ o
    → is_name (name_of o) ≡ true
name_readable sum names c h None e = absurd (some_con sum.cons c h e)
name_readable sum names c h (Some con) e = con_name con.name (names.names c con e).form

module _ (types : Types) (names : HaveNames types) (writable : AreWritable types) where
  con_goes : (bound : ℕ) → ((k : ℕ) (v : Value) → is_named_value types bound k v ≡ true → Goes (named_spelling types bound k v)) → (sum : SumDef)
      → slice_get types.sums bound ≡ Some sum
      → (l : Value-F Value) → is_con_of (is_value_with (is_named_value types bound)) sum l ≡ true
      → Goes (con_spelled (spelling_with (named_spelling types bound)) sum l)
  con_goes bound named sum found (Value-F.Con c vs) p =
      let ps = and_parts _ _ p in
      let fields = con_fields_go (is_named_value types bound) (named_spelling types bound) named (fields_at sum c) vs (fields_writable sum.cons (writable bound sum found) c) ps.1 in
      let name = name_readable sum (names bound sum found) c (ltb-true _ _ ps.0) (slice_get sum.cons c) refl in
      λ qs stops laid. let more = fields_go _ fields qs stops laid in ((name, more.1, more.0), tt)
  con_goes bound named sum found (Value-F.Word a) p = cc
  con_goes bound named sum found (Value-F.Tuple vs) p = cc
  con_goes bound named sum found (Value-F.Vector vs) p = cc

  sum_goes : (bound : ℕ) → ((k : ℕ) (v : Value) → is_named_value types bound k v ≡ true → Goes (named_spelling types bound k v)) → (o : Option SumDef)
      → slice_get types.sums bound ≡ o
      → (v : Value) → is_sum_value (is_value_with (is_named_value types bound)) o v ≡ true
      → Goes (sum_spelled (spelling_with (named_spelling types bound)) o v)
  sum_goes bound named None found v p = cc
  sum_goes bound named (Some sum) found v p = con_goes bound named sum found (out-Value v) p

  named_goes : (bound k : ℕ) (v : Value) → is_named_value types bound k v ≡ true → Goes (named_spelling types bound k v)
  unfolding is_named_value named_spelling
  named_goes zero k v p = cc
  named_goes (suc bound) k v p = elim (cases_eq k bound) [
    | inl same ↦ rw (eq-eqb k bound same) (sum_goes bound (named_goes bound) (slice_get types.sums bound) refl v (rw (eq-eqb k bound same) at p))
    | inr other ↦ rw (ne_eqb k bound other) (named_goes bound k v (rw (ne_eqb k bound other) at p))
  ]

  -- a printed text is a text of the value
  pub text_read : (ty : Ty) → keeps_limits ty ≡ true → (v : Value) → is_value types ty v ≡ true → IsTextOf types ty (texts types ty v) v
  text_read ty k v p =
      let all = length types.sums in
      let pieces : List Piece = spelling types ty v in
      let laid : AreLaid (pieces ++ []) = (ty_goes (is_named_value types all) (named_spelling types all) (named_goes all) ty k v p [] tt tt).0 in
      record {
        rest = [];
        tokens = cuts_written pieces (subst AreLaid (append-nil pieces) laid);
        blank = refl;
      }
