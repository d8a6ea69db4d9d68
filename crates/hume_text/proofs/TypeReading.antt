-- The values of a type are read from their texts and from no other lines.
use Rattle.std.proofs.Common.{◌≡◌, ℕ, zero, suc, ◌-◌, ◌^◌, ◌<◌, ◌≤◌, nat_lt, nat_le, nat_eq, ◌&&◌, min, Bool, true, false, if◌then◌else◌, ℤ, pos, negsuc, neg_ℤ, List, [], ◌∷◌, ◌++◌, codes, map, length, replicate, Some, None, w64, SFits, Fits, refl, ap, sym, ◌∙◌, subst, arith}
use Rattle.std.proofs.Math.Pow.{pow_mono}
use Rattle.std.proofs.lemmas.Bool.{and_parts, ltb-true, leb-true, lt-ltb}
use Rattle.std.proofs.lemmas.Int.{to_z-of_z, of_z-to_z}
use Rattle.std.proofs.Math.Facts.{Fits-of_z}
use Rattle.std.specs.Cmp.Lexicographic.{pointwise}
use Rattle.std.specs.Int.RustNames.{int_le, int_lt}
use Rattle.std.specs.List.{list_all, flat_map}
use Rattle.hume_base.specs.declared.types.Ty.{Ty, roll-Ty, map-Ty, fold-roll-Ty, ind-Ty}
use Rattle.hume_base.specs.declared.types.Ty.TheOpen.{Ty-F}
use Rattle.hume_base.specs.declared.types.Value.{Value}
use Rattle.hume_base.specs.Words.{int_of, word_of}
use Rattle.hume_base.specs.Values.{is_char_word, is_int_of, is_int_word, is_word_of, is_tuple_of, is_vector_of, value_step, is_value_with}
use Rattle.hume_base.specs.Flat.{word_in, parts_in, joined, flat_step, flat_with}
use Rattle.hume_text.specs.Spelling.{Piece, Space, Open, Close, OpenVector, CloseVector, Comma, Name, Number, Letter, bool_name, each_spelled, with_commas, spelling_step, spelling_with}
use Rattle.hume_text.specs.Bounds.{limits_step, keeps_limits}
use Rattle.hume_text.specs.inner.Readers.{Reader, bool_in, char_in, int_in, nat_in, is_open, is_close, is_open_vector, is_close_vector, read_word, read_in, read_step, read_with}
use Rattle.hume_text.proofs.Inversions.{none_some, same_some}
use Rattle.hume_text.proofs.LineReading.{Exact, AllExact, none, one, by_layer, both_true, word_exact, tuple_exact, vector_exact}
use Rattle.hume_text.proofs.ConReading.{names_true}

-- the tokens of scalars

bool_back : (p : Piece) (a : ℕ) → bool_in p ≡ Some a → (nat_lt a 2 ≡ true) × (p ≡ Name (bool_name a))
bool_back (Name name) a e = go (pointwise nat_eq name (codes "false")) (pointwise nat_eq name (codes "true")) refl refl e
  where
    go : (b c : Bool) → pointwise nat_eq name (codes "false") ≡ b → pointwise nat_eq name (codes "true") ≡ c → (if b then Some 0 else (if c then Some 1 else None)) ≡ Some a
        → (nat_lt a 2 ≡ true) × (Name name ≡ Name (bool_name a))
    go true c q r e' = subst (λ n. (nat_lt n 2 ≡ true) × (Name name ≡ Name (bool_name n))) (same_some 0 a e') (refl, ap (λ n. Name n) (names_true name (codes "false") q))
    go false true q r e' = subst (λ n. (nat_lt n 2 ≡ true) × (Name name ≡ Name (bool_name n))) (same_some 1 a e') (refl, ap (λ n. Name n) (names_true name (codes "true") r))
    go false false q r e' = absurd (none_some a e')
bool_back Space a e = absurd (none_some a e)
bool_back Open a e = absurd (none_some a e)
bool_back Close a e = absurd (none_some a e)
bool_back OpenVector a e = absurd (none_some a e)
bool_back CloseVector a e = absurd (none_some a e)
bool_back Comma a e = absurd (none_some a e)
bool_back (Number z) a e = absurd (none_some a e)
bool_back (Letter b) a e = absurd (none_some a e)

bool_there : (a : ℕ) → nat_lt a 2 ≡ true → bool_in (Name (bool_name a)) ≡ Some a
bool_there zero p = refl
bool_there (suc zero) p = refl
bool_there (suc (suc a)) p = absurd (omega (arith, ltb-true (suc (suc a)) 2 p))

char_back : (p : Piece) (a : ℕ) → char_in p ≡ Some a → (is_char_word a ≡ true) × (p ≡ Letter a)
char_back (Letter b) a e = go (is_char_word b) refl e
  where
    go : (c : Bool) → is_char_word b ≡ c → (if c then Some b else None) ≡ Some a → (is_char_word a ≡ true) × (Letter b ≡ Letter a)
    go true q e' = let same : b ≡ a = same_some b a e' in (subst (λ n. is_char_word n ≡ true) same q, ap (λ n. Letter n) same)
    go false q e' = absurd (none_some a e')
char_back Space a e = absurd (none_some a e)
char_back Open a e = absurd (none_some a e)
char_back Close a e = absurd (none_some a e)
char_back OpenVector a e = absurd (none_some a e)
char_back CloseVector a e = absurd (none_some a e)
char_back Comma a e = absurd (none_some a e)
char_back (Number z) a e = absurd (none_some a e)
char_back (Name name) a e = absurd (none_some a e)

char_there : (a : ℕ) → is_char_word a ≡ true → char_in (Letter a) ≡ Some a
char_there a p = ap (λ (b : Bool). if b then Some a else None) p

int_fits : (half : ℕ) (z : ℤ) → half ≤ 2 ^ 63 → (int_le (neg_ℤ (pos half)) z && int_lt z (pos half)) ≡ true → SFits w64 z
int_fits half (pos n) small p =
    let below : n < half = ltb-true n half (and_parts (int_le (neg_ℤ (pos half)) (pos n)) (nat_lt n half) p).1 in
    record { sfits = let low : n < 2 ^ 63 = omega arith in low }
int_fits zero (negsuc n) small p = cc
int_fits (suc h) (negsuc n) small p =
    let below : n ≤ h = leb-true n h (and_parts (nat_le n h) true p).0 in
    record { sfits = let low : n < 2 ^ 63 = omega arith in low }

module _ (bits : ℕ) (few : bits ≤ 64) where
  same_bits : min bits 64 ≡ bits
  same_bits = omega (arith, few)

  int_back : (p : Piece) (a : ℕ) → int_in bits p ≡ Some a → (is_int_word bits a ≡ true) × (p ≡ Number (int_of a))
  int_back (Number z) a e = go (is_int_of (min bits 64) z) refl e
    where
      go : (b : Bool) → is_int_of (min bits 64) z ≡ b → (if b then Some (word_of z) else None) ≡ Some a → (is_int_word bits a ≡ true) × (Number z ≡ Number (int_of a))
      go true q e' =
          let half_few : bits - 1 ≤ 63 = omega (arith, few) in
          let within : is_int_of bits z ≡ true = ap (λ n. is_int_of n z) (sym same_bits) ∙ q in
          let fits : SFits w64 z = int_fits (2 ^ (bits - 1)) z (pow_mono half_few) within in
          let back : int_of (word_of z) ≡ z = to_z-of_z w64 z fits in
          let word : Fits w64 (word_of z) = Fits-of_z fits in
          subst (λ n. (is_int_word bits n ≡ true) × (Number z ≡ Number (int_of n))) (same_some (word_of z) a e')
          (both_true (nat_lt (word_of z) (2 ^ 64)) (is_int_of bits (int_of (word_of z))) (lt-ltb (word_of z) (2 ^ 64) word.fits) (ap (is_int_of bits) back ∙ within), ap (λ y. Number y) (sym back))
      go false q e' = absurd (none_some a e')
  int_back Space a e = absurd (none_some a e)
  int_back Open a e = absurd (none_some a e)
  int_back Close a e = absurd (none_some a e)
  int_back OpenVector a e = absurd (none_some a e)
  int_back CloseVector a e = absurd (none_some a e)
  int_back Comma a e = absurd (none_some a e)
  int_back (Letter b) a e = absurd (none_some a e)
  int_back (Name name) a e = absurd (none_some a e)

  int_there : (a : ℕ) → is_int_word bits a ≡ true → int_in bits (Number (int_of a)) ≡ Some a
  int_there a p =
      let ps = and_parts (nat_lt a (2 ^ 64)) (is_int_of bits (int_of a)) p in
      ap (λ (b : Bool). if b then Some (word_of (int_of a)) else None) (ap (λ n. is_int_of n (int_of a)) same_bits ∙ ps.1)
      ∙ ap (λ n. Some n) (of_z-to_z w64 a (ltb-true a (2 ^ 64) ps.0))

  nat_back : (p : Piece) (a : ℕ) → nat_in bits p ≡ Some a → (nat_lt a (2 ^ bits) ≡ true) × (p ≡ Number (pos a))
  nat_back (Number (pos n)) a e = go (nat_lt n (2 ^ min bits 64)) refl e
    where
      go : (b : Bool) → nat_lt n (2 ^ min bits 64) ≡ b → (if b then Some n else None) ≡ Some a → (nat_lt a (2 ^ bits) ≡ true) × (Number (pos n) ≡ Number (pos a))
      go true q e' = subst (λ m. (nat_lt m (2 ^ bits) ≡ true) × (Number (pos n) ≡ Number (pos m))) (same_some n a e') (ap (λ k. nat_lt n (2 ^ k)) (sym same_bits) ∙ q, refl)
      go false q e' = absurd (none_some a e')
  nat_back (Number (negsuc n)) a e = absurd (none_some a e)
  nat_back Space a e = absurd (none_some a e)
  nat_back Open a e = absurd (none_some a e)
  nat_back Close a e = absurd (none_some a e)
  nat_back OpenVector a e = absurd (none_some a e)
  nat_back CloseVector a e = absurd (none_some a e)
  nat_back Comma a e = absurd (none_some a e)
  nat_back (Letter b) a e = absurd (none_some a e)
  nat_back (Name name) a e = absurd (none_some a e)

  nat_there : (a : ℕ) → nat_lt a (2 ^ bits) ≡ true → nat_in bits (Number (pos a)) ≡ Some a
  nat_there a p = ap (λ (b : Bool). if b then Some a else None) (ap (λ k. nat_lt a (2 ^ k)) same_bits ∙ p)

-- types

module _ (room : ℕ) (nt : ℕ → Value → Bool) (nf : ℕ → Value → List ℕ) (ns : ℕ → Value → List Piece) (nr : ℕ → Reader)
    (named : (k : ℕ) → Exact room (nt k) (nf k) (ns k) (nr k)) where
  abbrev pub TyReads : Ty → Type 0
  TyReads ty = keeps_limits ty ≡ true → Exact room (is_value_with nt ty) (flat_with nf ty) (spelling_with ns ty) (read_with room nr ty)

  abbrev Part : Type 0
  Part = (ty : Ty) × TyReads ty

  abbrev of_part : Part → Ty
  of_part p = p.0

  parts_all : (ps : List Part) → list_all (λ keep. keep) (map keeps_limits (map of_part ps)) ≡ true
      → AllExact room (map (is_value_with nt) (map of_part ps)) (map (flat_with nf) (map of_part ps)) (map (spelling_with ns) (map of_part ps)) (map (read_with room nr) (map of_part ps))
  parts_all [] k = none
  parts_all (p ∷ ps) k =
      let ks = and_parts (keeps_limits p.0) (list_all (λ keep. keep) (map keeps_limits (map of_part ps))) k in
      one (p.1 ks.0) (parts_all ps ks.1)

  abbrev StepReads : Ty-F Ty → Type 0
  StepReads y = limits_step (map-Ty Ty Bool keeps_limits y) ≡ true → Exact room (value_step nt (map-Ty Ty (Value → Bool) (is_value_with nt) y))
      (flat_step nf (map-Ty Ty (Value → List ℕ) (flat_with nf) y))
      (spelling_step ns (map-Ty Ty (Value → List Piece) (spelling_with ns) y))
      (read_step room nr (map-Ty Ty Reader (read_with room nr) y))

  step_reads : (y : Ty-F Part) → StepReads (map-Ty Part Ty of_part y)
  step_reads Ty-F.Bool = λ k. by_layer room (is_word_of (λ word. nat_lt word 2)) (λ l. word_in l ∷ []) (λ l. Name (bool_name (word_in l)) ∷ []) (read_word room bool_in)
      (word_exact room (λ word. nat_lt word 2) (λ a. Name (bool_name a)) bool_in bool_back bool_there (λ a line rest e. (rest, e, refl)) (λ a line rest h. h.1 ∙ ap (λ r. Some (Name (bool_name a), r)) h.2))
  step_reads Ty-F.Char = λ k. by_layer room (is_word_of is_char_word) (λ l. word_in l ∷ []) (λ l. Letter (word_in l) ∷ []) (read_word room char_in)
      (word_exact room is_char_word (λ a. Letter a) char_in char_back char_there (λ a line rest e. (rest, e, refl)) (λ a line rest h. h.1 ∙ ap (λ r. Some (Letter a, r)) h.2))
  step_reads (Ty-F.Int n) = λ k. by_layer room (is_word_of (is_int_word n)) (λ l. word_in l ∷ []) (λ l. Number (int_of (word_in l)) ∷ []) (read_word room (int_in n))
      (word_exact room (is_int_word n) (λ a. Number (int_of a)) (int_in n) (int_back n (leb-true n 64 k)) (int_there n (leb-true n 64 k)) (λ a line rest e. (rest, e, refl)) (λ a line rest h. h.1 ∙ ap (λ r. Some (Number (int_of a), r)) h.2))
  step_reads (Ty-F.Nat n) = λ k. by_layer room (is_word_of (λ word. nat_lt word (2 ^ n))) (λ l. word_in l ∷ []) (λ l. Number (pos (word_in l)) ∷ []) (read_word room (nat_in n))
      (word_exact room (λ word. nat_lt word (2 ^ n)) (λ a. Number (pos a)) (nat_in n) (nat_back n (leb-true n 64 k)) (nat_there n (leb-true n 64 k)) (λ a line rest e. (rest, e, refl)) (λ a line rest h. h.1 ∙ ap (λ r. Some (Number (pos a), r)) h.2))
  step_reads (Ty-F.Tuple ps) = λ k. by_layer room (is_tuple_of (map (is_value_with nt) (map of_part ps))) (λ l. joined (map (flat_with nf) (map of_part ps)) (parts_in l))
      (λ l. Open ∷ (with_commas (each_spelled (map (spelling_with ns) (map of_part ps)) (parts_in l)) ++ Close ∷ []))
      (λ words line. read_in is_open is_close (map (read_with room nr) (map of_part ps)) words line)
      (tuple_exact (parts_all ps (and_parts (nat_le 1 (length (map keeps_limits (map of_part ps)))) (list_all (λ keep. keep) (map keeps_limits (map of_part ps))) k).1))
  step_reads (Ty-F.Vector n p) = λ k. by_layer room (is_vector_of n (is_value_with nt p.0)) (λ l. flat_map (flat_with nf p.0) (parts_in l))
      (λ l. OpenVector ∷ (with_commas (map (spelling_with ns p.0) (parts_in l)) ++ CloseVector ∷ []))
      (λ words line. read_in is_open_vector is_close_vector (replicate {A = Reader} n (read_with room nr p.0)) words line)
      (vector_exact room n (is_value_with nt p.0) (flat_with nf p.0) (spelling_with ns p.0) (read_with room nr p.0) (p.1 (and_parts (nat_le 1 n) (keeps_limits p.0) k).1))
  step_reads (Ty-F.Named m) = λ k. named m

  layer_reads : (y : Ty-F Part) → TyReads (roll-Ty (map-Ty Part Ty of_part y))
  layer_reads y = rw (
    fold-roll-Ty (Value → Bool) (value_step nt),
    fold-roll-Ty (Value → List ℕ) (flat_step nf),
    fold-roll-Ty (Value
        → List Piece) (spelling_step ns),
    fold-roll-Ty Bool limits_step,
    fold-roll-Ty Reader (read_step room nr),
  ) (step_reads y)

  pub ty_reads : (ty : Ty) → TyReads ty
  ty_reads = ind-Ty TyReads (λ x y is. subst (λ z. TyReads (roll-Ty z)) is (layer_reads y))
