-- No printed text is longer than 512 bytes for each word of its type.
use Rattle.std.proofs.Common.{◌≡◌, ℕ, zero, suc, ◌+◌, ◌*◌, ◌^◌, ◌<◌, ◌≤◌, nat_lt, nat_le, ◌==◌, ◌&&◌, Bool, true, false, if◌then◌else◌, List, [], ◌∷◌, ◌++◌, codes, map, length, sum, Option, Some, None, slice_get, pos, w64, SFits, Fits, refl, subst, length-append, arith, inl, inr}
use mir.ValLaws.{to_z-Fits}
use Rattle.std.specs.Int.Signed.{mag}
use Rattle.std.proofs.Math.Pow.{pow_mono}
use Rattle.std.proofs.lemmas.List.{length-map}
use Rattle.std.proofs.Math.Nat.{suc-mul}
use Rattle.std.proofs.lemmas.Bool.{and_parts, eqb-true, ltb-true, leb-true, cases_eq, eq-eqb, ne_eqb}
use Rattle.std.proofs.lemmas.Fmt.{length_signed_le, length-decimal-le}
use Rattle.std.specs.Fmt.{decimal, signed_decimal}
use Rattle.std.specs.List.{list_all, flat_map, AllByRecursion}
use Rattle.hume_base.proofs.FlatLengths.{sum_more, sizes_at}
use Rattle.hume_base.specs.declared.types.Ty.{Ty, roll-Ty, map-Ty, fold-roll-Ty, ind-Ty}
use Rattle.hume_base.specs.declared.types.Ty.TheOpen.{Ty-F}
use Rattle.hume_base.specs.declared.types.Value.{Value, out-Value}
use Rattle.hume_base.specs.declared.types.Value.TheOpen.{Value-F}
use Rattle.hume_base.specs.declared.types.Types.{Types}
use Rattle.hume_base.specs.declared.types.SumDef.{SumDef}
use Rattle.hume_base.specs.declared.types.ConDef.{ConDef}
use Rattle.hume_base.specs.Words.{int_of}
use Rattle.hume_base.specs.Sizes.{greatest, size_step, size_with, sizes_with, size_of, size_of_sum, named_size}
use Rattle.hume_base.specs.Values.{is_value, is_word_of, is_char_word, is_int_word, all_pass, is_tuple_of, is_vector_of, value_step, is_value_with, is_con_of, is_sum_value, is_named_value, fields_of, fields_at}
use Rattle.hume_base.specs.Flat.{word_in, parts_in}
use Rattle.hume_text.specs.Spelling.{Piece, Space, Open, Close, OpenVector, CloseVector, Name, Number, Letter, bool_name, each_spelled, with_commas, has_fields, as_field, name_of, name_at, con_spelled, sum_spelled, spelling_step, spelling_with, named_spelling, spelling}
use Rattle.hume_text.specs.Printed.{piece_bytes, written, texts}
use Rattle.hume_text.specs.Bounds.{depth_step, depth_of, limits_step, keeps_limits, IsWritable, IsWritableCon, AreWritable}
use Rattle.hume_text.proofs.ValuePrinting.{written-append, several, enclosed, append_nothing}

abbrev long : List Piece → ℕ
long pieces = length (written pieces)

module _ (test : Ty → Value → Bool) (spelled : Ty → Value → List Piece) (size : Ty → ℕ) where
  -- no text of a value of the type is too long for the type's words; a type that is less deep leaves room for brackets around it
  abbrev Short : Ty → Type 0
  Short ty = depth_of ty ≤ 64 → keeps_limits ty ≡ true → (v : Value) → test ty v ≡ true → long (spelled ty v) + 259 ≤ 512 * size ty + 4 * depth_of ty

  later_tuple : (tys : List Ty) → AllByRecursion Short tys → (vs : List Value) → greatest (map depth_of tys) ≤ 63
      → list_all (λ keep. keep) (map keeps_limits tys) ≡ true → all_pass (map test tys) vs ≡ true
      → length (several (codes ", ") (each_spelled (map spelled tys) vs)) ≤ 512 * sum (map size tys)
  later_tuple [] short [] d k p = omega arith
  later_tuple [] short (v ∷ vs) d k p = cc
  later_tuple (ty ∷ tys) short [] d k p = cc
  later_tuple (ty ∷ tys) short (v ∷ vs) d k p =
      let ps = and_parts _ _ p in
      let ks = and_parts _ _ k in
      let own : long (spelled ty v) + 259 ≤ 512 * size ty + 4 * depth_of ty = short.0 (omega arith) ks.0 v ps.0 in
      let more : length (several (codes ", ") (each_spelled (map spelled tys) vs)) ≤ 512 * sum (map size tys) =
      later_tuple tys short.1 vs (omega arith) ks.1 ps.1 in
      omega (arith, sum_more (size ty) (map size tys), length-append (written (spelled ty v)) (several (codes ", ") (each_spelled (map spelled tys) vs)))

  tuple_long : (tys : List Ty) → AllByRecursion Short tys → (vs : List Value) → 1 ≤ length tys → 1 + greatest (map depth_of tys) ≤ 64
      → list_all (λ keep. keep) (map keeps_limits tys) ≡ true → all_pass (map test tys) vs ≡ true
      → length (several [] (each_spelled (map spelled tys) vs)) + 261 ≤ 512 * sum (map size tys) + 4 * (1 + greatest (map depth_of tys))
  tuple_long [] short vs some d k p = absurd (omega arith)
  tuple_long (ty ∷ tys) short [] some d k p = cc
  tuple_long (ty ∷ tys) short (v ∷ vs) some d k p =
      let ps = and_parts _ _ p in
      let ks = and_parts _ _ k in
      let own : long (spelled ty v) + 259 ≤ 512 * size ty + 4 * depth_of ty = short.0 (omega arith) ks.0 v ps.0 in
      let more : length (several (codes ", ") (each_spelled (map spelled tys) vs)) ≤ 512 * sum (map size tys) =
      later_tuple tys short.1 vs (omega arith) ks.1 ps.1 in
      omega (arith, sum_more (size ty) (map size tys), length-append (written (spelled ty v)) (several (codes ", ") (each_spelled (map spelled tys) vs)))

  field_long : (b : Bool) (pieces : List Piece) → long (if b then Space ∷ (Open ∷ (pieces ++ Close ∷ [])) else Space ∷ pieces) ≤ long pieces + 3
  field_long true pieces = rw (written-append pieces (Close ∷ []), length-append (written pieces) (codes ")")) (omega arith)
  field_long false pieces = omega arith

  fields_long : ((ty : Ty) → Short ty) → (tys : List Ty) (vs : List Value) → AllByRecursion IsWritable tys → all_pass (map test tys) vs ≡ true
      → long (flat_map (λ part. part) (each_spelled (map (λ ty. as_field (spelled ty)) tys) vs)) ≤ 512 * sum (map size tys)
  fields_long short [] [] w p = omega arith
  fields_long short [] (v ∷ vs) w p = cc
  fields_long short (ty ∷ tys) [] w p = cc
  fields_long short (ty ∷ tys) (v ∷ vs) w p =
      let ps = and_parts _ _ p in
      let shallow : depth_of ty ≤ 64 = w.0.depth in
      let own : long (spelled ty v) + 259 ≤ 512 * size ty + 4 * depth_of ty = short ty shallow w.0.limits v ps.0 in
      let field : long (as_field (spelled ty) v) ≤ long (spelled ty v) + 3 = field_long (has_fields (out-Value v)) (spelled ty v) in
      let others : List Piece = flat_map (λ part. part) (each_spelled (map (λ ty. as_field (spelled ty)) tys) vs) in
      let more : long others ≤ 512 * sum (map size tys) = fields_long short tys vs w.1 ps.1 in
      rw (written-append (as_field (spelled ty) v) others, length-append (written (as_field (spelled ty) v)) (written others)) (omega (arith, sum_more (size ty) (map size tys), own, field, more, shallow))

module _ (test : Value → Bool) (spelled : Value → List Piece) (size depth : ℕ) (shallow : depth ≤ 63) (short : (v : Value) → test v ≡ true
    → long (spelled v) + 259 ≤ 512 * size + 4 * depth) where
  later_items : (vs : List Value) → list_all test vs ≡ true → length (several (codes ", ") (map spelled vs)) ≤ 512 * (length vs * size)
  later_items [] p = omega arith
  later_items (v ∷ vs) p =
      let ps = and_parts _ _ p in
      let own : long (spelled v) + 259 ≤ 512 * size + 4 * depth = short v ps.0 in
      let more : length (several (codes ", ") (map spelled vs)) ≤ 512 * (length vs * size) = later_items vs ps.1 in
      omega (arith, shallow, suc-mul (length vs) size, length-append (written (spelled v)) (several (codes ", ") (map spelled vs)))

  vector_long : (vs : List Value) → 1 ≤ length vs → list_all test vs ≡ true
      → length (several [] (map spelled vs)) + 259 ≤ 512 * (length vs * size) + 4 * depth
  vector_long [] some p = absurd (omega arith)
  vector_long (v ∷ vs) some p =
      let ps = and_parts _ _ p in
      let own : long (spelled v) + 259 ≤ 512 * size + 4 * depth = short v ps.0 in
      let more : length (several (codes ", ") (map spelled vs)) ≤ 512 * (length vs * size) = later_items vs ps.1 in
      omega (arith, suc-mul (length vs) size, length-append (written (spelled v)) (several (codes ", ") (map spelled vs)))

enclosed_long : (opening closing : Piece) (parts : List (List Piece))
    → long (opening ∷ (with_commas parts ++ closing ∷ [])) ≡ length (piece_bytes opening) + length (several [] parts) + length (piece_bytes closing)
enclosed_long opening closing parts =
    rw (← enclosed opening closing parts, length-append (piece_bytes opening) (several [] parts ++ piece_bytes closing), length-append (several [] parts) (piece_bytes closing)) (omega arith)

word_short : (test : ℕ → Bool) (pieces : ℕ → List Piece) → ((a : ℕ) → test a ≡ true → long (pieces a) ≤ 257) → (l : Value-F Value)
    → is_word_of test l ≡ true → long (pieces (word_in l)) + 259 ≤ 512 * 1 + 4 * 1
word_short test pieces short (Value-F.Word a) p = omega (arith, short a p)
word_short test pieces short (Value-F.Tuple vs) p = cc
word_short test pieces short (Value-F.Vector vs) p = cc
word_short test pieces short (Value-F.Con c vs) p = cc

alone : (bytes : List ℕ) (n : ℕ) → length bytes ≤ n → length (bytes ++ []) ≤ n
alone bytes n h = subst (λ bs. length bs ≤ n) (append_nothing bytes) h

bool_short : (a : ℕ) → long (Name (bool_name a) ∷ []) ≤ 257
bool_short a = by (a == 0)
  where
    by : (b : Bool) → long (Name (if b then codes "false" else codes "true") ∷ []) ≤ 257
    by true = omega arith
    by false = omega arith

letter_short : (a : ℕ) → long (Letter a ∷ []) ≤ 257
letter_short a = by (a == 10) (a == 9) (a == 92) (a == 39)
  where
    by : (b c d e : Bool) → length ((codes "'" ++ (if b then codes "\\n" else (if c then codes "\\t" else (if d then codes "\\\\" else (if e then codes "\\'" else a ∷ [])))) ++ codes "'") ++ []) ≤ 257
    by true c d e = omega arith
    by false true d e = omega arith
    by false false true e = omega arith
    by false false false true = omega arith
    by false false false false = omega arith

nat_short : (bits a : ℕ) → bits ≤ 64 → a < 2 ^ bits → long (Number (pos a) ∷ []) ≤ 257
nat_short bits a few below =
    let most : 2 ^ bits ≤ 2 ^ 64 = pow_mono few in
    alone (decimal a) 257 (omega (arith, length-decimal-le 20 a (omega arith) (omega arith) (omega arith)))

int_short : (bits a : ℕ) → is_int_word bits a ≡ true → long (Number (int_of a) ∷ []) ≤ 257
int_short bits a p =
    let fits : Fits w64 a = record { fits = ltb-true _ _ (and_parts _ _ p).0 } in
    let small : SFits w64 (int_of a) = to_z-Fits w64 a fits in
    let below : mag (int_of a) < 2 ^ 63 = small.sfits in
    alone (signed_decimal (int_of a)) 257 (omega (arith, length_signed_le 19 (int_of a) (omega arith) below))

module _ (nt : ℕ → Value → Bool) (ns : ℕ → Value → List Piece) (nz : ℕ → ℕ) (named : (k : ℕ) (v : Value) → nt k v ≡ true
    → long (ns k v) + 259 ≤ 512 * nz k + 4 * 1) where
  abbrev TyShort : Ty → Type 0
  TyShort = Short (is_value_with nt) (spelling_with ns) (size_with nz)

  abbrev Part : Type 0
  Part = (ty : Ty) × TyShort ty

  abbrev of_part : Part → Ty
  of_part p = p.0

  parts_short : (ps : List Part) → AllByRecursion TyShort (map of_part ps)
  parts_short [] = tt
  parts_short (p ∷ ps) = (p.1, parts_short ps)

  tuple_short : (ps : List Part) → 1 + greatest (map depth_of (map of_part ps)) ≤ 64
      → (nat_le 1 (length (map keeps_limits (map of_part ps))) && list_all (λ part. part) (map keeps_limits (map of_part ps))) ≡ true
      → (l : Value-F Value) → is_tuple_of (map (is_value_with nt) (map of_part ps)) l ≡ true
      → long (Open ∷ (with_commas (each_spelled (map (spelling_with ns) (map of_part ps)) (parts_in l)) ++ Close ∷ [])) + 259
      ≤ 512 * sum (map (size_with nz) (map of_part ps)) + 4 * (1 + greatest (map depth_of (map of_part ps)))
  tuple_short ps d k (Value-F.Tuple vs) p =
      let ks = and_parts _ _ k in
      let some : 1 ≤ length (map of_part ps) = subst (λ n. 1 ≤ n) (length-map (map of_part ps) keeps_limits) (leb-true _ _ ks.0) in
      omega (arith, enclosed_long Open Close (each_spelled (map (spelling_with ns) (map of_part ps)) vs), tuple_long (is_value_with nt) (spelling_with ns) (size_with nz) (map of_part ps) (parts_short ps) vs some d ks.1 p)
  tuple_short ps d k (Value-F.Word a) p = cc
  tuple_short ps d k (Value-F.Vector vs) p = cc
  tuple_short ps d k (Value-F.Con c vs) p = cc

  vector_short : (n : ℕ) (ty : Ty) → TyShort ty → 1 + depth_of ty ≤ 64 → (nat_le 1 n && keeps_limits ty) ≡ true → (l : Value-F Value)
      → is_vector_of n (is_value_with nt ty) l ≡ true
      → long (OpenVector ∷ (with_commas (map (spelling_with ns ty) (parts_in l)) ++ CloseVector ∷ [])) + 259 ≤ 512 * (n * size_with nz ty) + 4 * (1 + depth_of ty)
  vector_short n ty short d k (Value-F.Vector vs) p =
      let ks = and_parts _ _ k in
      let ps = and_parts _ _ p in
      let count : length vs ≡ n = eqb-true _ _ ps.0 in
      let shallow : depth_of ty ≤ 63 = omega arith in
      let some : 1 ≤ length vs = omega (arith, count, leb-true 1 n ks.0) in
      let items : length (several [] (map (spelling_with ns ty) vs)) + 259 ≤ 512 * (n * size_with nz ty) + 4 * depth_of ty =
      subst (λ m. length (several [] (map (spelling_with ns ty) vs)) + 259 ≤ 512 * (m * size_with nz ty) + 4 * depth_of ty) count
      (vector_long (is_value_with nt ty) (spelling_with ns ty) (size_with nz ty) (depth_of ty) shallow (λ v. short (omega arith) ks.1 v) vs some ps.1) in
      omega (arith, enclosed_long OpenVector CloseVector (map (spelling_with ns ty) vs), items)
  vector_short n ty short d k (Value-F.Word a) p = cc
  vector_short n ty short d k (Value-F.Tuple vs) p = cc
  vector_short n ty short d k (Value-F.Con c vs) p = cc

  abbrev StepShort : Ty-F Ty → Type 0
  StepShort y = depth_step (map-Ty Ty ℕ depth_of y) ≤ 64 → limits_step (map-Ty Ty Bool keeps_limits y) ≡ true → (v : Value)
      → value_step nt (map-Ty Ty (Value → Bool) (is_value_with nt) y) v ≡ true
      → long (spelling_step ns (map-Ty Ty (Value
      → List Piece) (spelling_with ns) y) v) + 259 ≤ 512 * size_step nz (map-Ty Ty ℕ (size_with nz) y) + 4 * depth_step (map-Ty Ty ℕ depth_of y)

  step_short : (y : Ty-F Part) → StepShort (map-Ty Part Ty of_part y)
  step_short Ty-F.Bool = λ d k v p. word_short (λ word. nat_lt word 2) (λ a. Name (bool_name a) ∷ []) (λ a t. bool_short a) (out-Value v) p
  step_short Ty-F.Char = λ d k v p. word_short is_char_word (λ a. Letter a ∷ []) (λ a t. letter_short a) (out-Value v) p
  step_short (Ty-F.Int n) = λ d k v p. word_short (is_int_word n) (λ a. Number (int_of a) ∷ []) (int_short n) (out-Value v) p
  step_short (Ty-F.Nat n) = λ d k v p. word_short (λ word. nat_lt word (2 ^ n)) (λ a. Number (pos a) ∷ []) (λ a t. nat_short n a (leb-true _ _ k) (ltb-true _ _ t)) (out-Value v) p
  step_short (Ty-F.Tuple ps) = λ d k v p. tuple_short ps d k (out-Value v) p
  step_short (Ty-F.Vector n part) = λ d k v p. vector_short n part.0 part.1 d k (out-Value v) p
  step_short (Ty-F.Named m) = λ d k v p. named m v p

  layer_short : (y : Ty-F Part) → TyShort (roll-Ty (map-Ty Part Ty of_part y))
  layer_short y = rw (
    fold-roll-Ty (Value → Bool) (value_step nt),
    fold-roll-Ty (Value
        → List Piece) (spelling_step ns),
    fold-roll-Ty ℕ (size_step nz),
    fold-roll-Ty ℕ depth_step,
    fold-roll-Ty Bool limits_step,
  ) (step_short y)

  ty_short : (ty : Ty) → TyShort ty
  ty_short = ind-Ty TyShort (λ x y is. subst (λ z. TyShort (roll-Ty z)) is (layer_short y))

cons_at : (cons : List ConDef) → AllByRecursion IsWritableCon cons → (c : ℕ)
    → (length (name_of (slice_get cons c)) ≤ 32) × AllByRecursion IsWritable (fields_of (slice_get cons c))
cons_at [] w c = (omega arith, tt)
cons_at (con ∷ cons) w zero = (w.0.name, w.0.fields)
cons_at (con ∷ cons) w (suc c) = cons_at cons w.1 c

module _ (nt : ℕ → Value → Bool) (ns : ℕ → Value → List Piece) (nz : ℕ → ℕ) (named : (k : ℕ) (v : Value) → nt k v ≡ true
    → long (ns k v) + 259 ≤ 512 * nz k + 4 * 1)
    (sum : SumDef) (writable : AllByRecursion IsWritableCon sum.cons) where
  con_short : (l : Value-F Value) → is_con_of (is_value_with nt) sum l ≡ true
      → long (con_spelled (spelling_with ns) sum l) + 259 ≤ 512 * size_of_sum nz (Some sum) + 4 * 1
  con_short (Value-F.Con c vs) p =
      let ps = and_parts _ _ p in
      let at = cons_at sum.cons writable c in
      let name : length (name_at sum c) ≤ 32 = at.0 in
      let others : List Piece = flat_map (λ part. part) (each_spelled (map (λ ty. as_field (spelling_with ns ty)) (fields_at sum c)) vs) in
      let fields : long others ≤ 512 * sizes_with nz (fields_at sum c) =
      fields_long (is_value_with nt) (spelling_with ns) (size_with nz) (ty_short nt ns nz named) (fields_at sum c) vs at.1 ps.1 in
      let largest : sizes_with nz (fields_at sum c) ≤ greatest (map (λ (con : ConDef). sizes_with nz con.fields) sum.cons) = sizes_at nz sum.cons c in
      let whole : long (Name (name_at sum c) ∷ others) ≡ length (name_at sum c) + long others = length-append (name_at sum c) (written others) in
      omega (arith, whole, fields, largest, name)
  con_short (Value-F.Word a) p = cc
  con_short (Value-F.Tuple vs) p = cc
  con_short (Value-F.Vector vs) p = cc

module _ (types : Types) (writable : AreWritable types) where
  sum_short : (bound : ℕ) → ((k : ℕ) (v : Value) → is_named_value types bound k v ≡ true
      → long (named_spelling types bound k v) + 259 ≤ 512 * named_size types bound k + 4 * 1)
      → (o : Option SumDef) → slice_get types.sums bound ≡ o → (v : Value) → is_sum_value (is_value_with (is_named_value types bound)) o v ≡ true
      → long (sum_spelled (spelling_with (named_spelling types bound)) o v) + 259 ≤ 512 * size_of_sum (named_size types bound) o + 4 * 1
  sum_short bound named None found v p = cc
  sum_short bound named (Some sum) found v p =
      con_short (is_named_value types bound) (named_spelling types bound) (named_size types bound) named sum (writable bound sum found) (out-Value v) p

  named_short : (bound k : ℕ) (v : Value) → is_named_value types bound k v ≡ true
      → long (named_spelling types bound k v) + 259 ≤ 512 * named_size types bound k + 4 * 1
  unfolding is_named_value named_spelling named_size
  named_short zero k v p = cc
  named_short (suc bound) k v p = elim (cases_eq k bound) [
    | inl same ↦ rw (eq-eqb k bound same) (sum_short bound (named_short bound) (slice_get types.sums bound) refl v (rw (eq-eqb k bound same) at p))
    | inr other ↦ rw (ne_eqb k bound other) (named_short bound k v (rw (ne_eqb k bound other) at p))
  ]

  -- no text is longer than the bound of its type
  pub text_short : (ty : Ty) → IsWritable ty → (v : Value) → is_value types ty v ≡ true → length (texts types ty v) ≤ 512 * size_of types ty
  text_short ty w v p =
      let all = length types.sums in
      let shallow : depth_of ty ≤ 64 = w.depth in
      let short : long (spelling types ty v) + 259 ≤ 512 * size_of types ty + 4 * depth_of ty =
      ty_short (is_named_value types all) (named_spelling types all) (named_size types all) (named_short all) ty shallow w.limits v p in
      omega arith
