-- The values of data types are read from their texts and from no other lines.
use Rattle.std.proofs.Common.{◌≡◌, ℕ, zero, suc, ◌<◌, ◌≤◌, ◌==◌, Bool, true, false, if◌then◌else◌, List, length, Option, Some, None, slice_get, refl, ap, ◌∙◌, subst, arith}
use Rattle.hume_base.specs.declared.types.Ty.{Ty, out-Ty, roll-Ty, out-roll-Ty, roll-out-Ty, map-Ty, fold-roll-Ty}
use Rattle.hume_base.specs.declared.types.Ty.TheOpen.{Ty-F}
use Rattle.hume_base.specs.declared.types.Value.{Value, out-Value}
use Rattle.hume_base.specs.declared.types.Types.{Types}
use Rattle.hume_base.specs.declared.types.SumDef.{SumDef}
use Rattle.hume_base.specs.Sizes.{HaveTheirSizes, size_of_sum, named_size, written_size}
use Rattle.hume_base.specs.Values.{is_value, value_step, is_value_with, is_con_of, is_sum_value, is_named_value}
use Rattle.hume_base.specs.Flat.{flat, flat_with, padded, con_words, flat_sum, named_words}
use Rattle.hume_text.specs.Spelling.{Piece, has_fields, con_spelled, sum_spelled, spelling_step, spelling_with, named_spelling, spelling}
use Rattle.hume_text.specs.Bounds.{HaveWrittenSizes, keeps_limits, IsWritable, AreWritable}
use Rattle.hume_text.specs.Names.{HaveNames}
use Rattle.hume_text.specs.Read.{next, Cuts}
use Rattle.hume_text.specs.inner.Printers.{print_named}
use Rattle.hume_text.specs.inner.Readers.{Reader, is_open, behind_sign, opens, read_sum, read_with, read_named}
use Rattle.hume_text.proofs.OneValue.{no_fields_word, no_fields_tuple, no_fields_vector}
use Rattle.hume_text.proofs.Rereading.{fields_writable}
use Rattle.hume_text.proofs.ValuePrinting.{size-at, named_stands, named_prints, ty_compound}
use Rattle.hume_text.proofs.Inversions.{none_some}
use Rattle.hume_text.proofs.LineReading.{Exact, by_layer}
use Rattle.hume_text.proofs.FieldReading.{ShowsFields}
use Rattle.hume_text.proofs.ConReading.{con_exact}
use Rattle.hume_text.proofs.TypeReading.{ty_reads}

-- no text of the values that pass a test begins with an opening parenthesis
abbrev Unopened : (Value → Bool) → (Value → List Piece) → Type 0
Unopened t s = (v : Value) (line rest : List ℕ) → t v ≡ true → Cuts line (s v) rest → behind_sign is_open (next line) ≡ None

module _ (nt : ℕ → Value → Bool) (ns : ℕ → Value → List Piece) (unopened : (k : ℕ) → Unopened (nt k) (ns k)) where
  abbrev TyBegins : Ty → Type 0
  TyBegins ty = (v : Value) (line rest : List ℕ) → is_value_with nt ty v ≡ true → Cuts line (spelling_with ns ty v) rest → opens (out-Ty ty) line ≡ None

  step_begins : (y : Ty-F Ty) (v : Value) (line rest : List ℕ) → value_step nt (map-Ty Ty (Value → Bool) (is_value_with nt) y) v ≡ true
      → Cuts line (spelling_step ns (map-Ty Ty (Value → List Piece) (spelling_with ns) y) v) rest → opens y line ≡ None
  step_begins Ty-F.Bool v line rest p h = refl
  step_begins Ty-F.Char v line rest p h = refl
  step_begins (Ty-F.Int n) v line rest p h = refl
  step_begins (Ty-F.Nat n) v line rest p h = refl
  step_begins (Ty-F.Tuple tys) v line rest p h = refl
  step_begins (Ty-F.Vector n ty) v line rest p h = refl
  step_begins (Ty-F.Named k) v line rest p h = unopened k v line rest p h

  rolled_begins : (y : Ty-F Ty) → TyBegins (roll-Ty y)
  rolled_begins y = rw (fold-roll-Ty (Value → Bool) (value_step nt), fold-roll-Ty (Value → List Piece) (spelling_step ns), out-roll-Ty y) (step_begins y)

  ty_begins : (ty : Ty) → TyBegins ty
  ty_begins ty = subst TyBegins (roll-out-Ty ty) (rolled_begins (out-Ty ty))

  abbrev TyOpening : Ty → Type 0
  TyOpening ty = (v : Value) (line : List ℕ) → is_value_with nt ty v ≡ true → has_fields (out-Value v) ≡ true → opens (out-Ty ty) line ≡ behind_sign is_open (next line)

  step_opening : (y : Ty-F Ty) (v : Value) (line : List ℕ) → value_step nt (map-Ty Ty (Value → Bool) (is_value_with nt) y) v ≡ true
      → has_fields (out-Value v) ≡ true → opens y line ≡ behind_sign is_open (next line)
  step_opening Ty-F.Bool v line p h = absurd (no_fields_word _ (out-Value v) p h)
  step_opening Ty-F.Char v line p h = absurd (no_fields_word _ (out-Value v) p h)
  step_opening (Ty-F.Int n) v line p h = absurd (no_fields_word _ (out-Value v) p h)
  step_opening (Ty-F.Nat n) v line p h = absurd (no_fields_word _ (out-Value v) p h)
  step_opening (Ty-F.Tuple tys) v line p h = absurd (no_fields_tuple _ (out-Value v) p h)
  step_opening (Ty-F.Vector n ty) v line p h = absurd (no_fields_vector n _ (out-Value v) p h)
  step_opening (Ty-F.Named k) v line p h = refl

  rolled_opening : (y : Ty-F Ty) → TyOpening (roll-Ty y)
  rolled_opening y = rw (fold-roll-Ty (Value → Bool) (value_step nt), out-roll-Ty y) (step_opening y)

  ty_opening : (ty : Ty) → TyOpening ty
  ty_opening ty = subst TyOpening (roll-out-Ty ty) (rolled_opening (out-Ty ty))

sum_unopened : (t : Ty → Value → Bool) (s : Ty → Value → List Piece) (o : Option SumDef) → Unopened (is_sum_value t o) (sum_spelled s o)
sum_unopened t s None v line rest p h = cc
sum_unopened t s (Some sum) v line rest p h = ap (behind_sign is_open) h.1

either_unopened : (b : Bool) (t u : Value → Bool) (s z : Value → List Piece) → Unopened t s → Unopened u z
    → Unopened (λ v. if b then t v else u v) (λ v. if b then s v else z v)
either_unopened true t u s z first second = first
either_unopened false t u s z first second = second

named_unopened : (types : Types) (bound k : ℕ) → Unopened (is_named_value types bound k) (named_spelling types bound k)
unfolding is_named_value named_spelling
named_unopened types zero k = λ v line rest p h. cc
named_unopened types (suc bound) k = either_unopened (k == bound) _ _ _ _
    (sum_unopened (is_value_with (is_named_value types bound)) (spelling_with (named_spelling types bound)) (slice_get types.sums bound)) (named_unopened types bound k)

either_exact : (room : ℕ) (b : Bool) (t u : Value → Bool) (f g : Value → List ℕ) (s z : Value → List Piece) (first second : Reader)
    → Exact room t f s first → Exact room u g z second
    → Exact room (λ v. if b then t v else u v) (λ v. if b then f v else g v) (λ v. if b then s v else z v) (λ words line. if b then first words line else second words line)
either_exact room true t u f g s z first second p q = p
either_exact room false t u f g s z first second p q = q

module _ (types : Types) (sizes : HaveTheirSizes types) (small : HaveWrittenSizes types) (names : HaveNames types) (writable : AreWritable types) (room : ℕ) where
  shown : (bound : ℕ) → bound ≤ length types.sums → (ty : Ty)
      → ShowsFields types ty (is_value_with (is_named_value types bound) ty) (flat_with (named_words types bound) ty) (spelling_with (named_spelling types bound) ty)
  shown bound within ty = record {
    compound = ty_compound types (is_named_value types bound) (named_words types bound) (named_spelling types bound) (print_named types bound)
        (named_prints types sizes small bound within) (named_stands types bound) ty;
    begins = ty_begins (is_named_value types bound) (named_spelling types bound) (named_unopened types bound) ty;
    opening = ty_opening (is_named_value types bound) (named_spelling types bound) (named_unopened types bound) ty;
  }

  sum_reads : (bound : ℕ) → bound < length types.sums
      → ((k : ℕ) → Exact room (is_named_value types bound k) (named_words types bound k) (named_spelling types bound k) (read_named types room bound k))
      → (o : Option SumDef) → slice_get types.sums bound ≡ o
      → Exact room (is_sum_value (is_value_with (is_named_value types bound)) o) (flat_sum (flat_with (named_words types bound)) (size_of_sum (named_size types bound) o) o)
      (sum_spelled (spelling_with (named_spelling types bound)) o) (λ words line. read_sum types room (read_with room (read_named types room bound)) o words line)
  sum_reads bound within named None found = (λ filled line more rest e. absurd (none_some (more, rest) e), λ v filled line rest p fit h. cc)
  sum_reads bound within named (Some sum) found =
      let own : named_size types (length types.sums) bound ≡ size_of_sum (named_size types bound) (Some sum) =
      size-at types (length types.sums) bound within ∙ ap (size_of_sum (named_size types bound)) found in
      let least : written_size (named_size types (length types.sums) bound) ≡ named_size types (length types.sums) bound =
      omega (arith, small bound sum found) in
      let size = size_of_sum (named_size types bound) (Some sum) in
      let whole : sum.words ≡ size = sizes bound sum found ∙ least ∙ own in
      let test : Ty → Value → Bool = is_value_with (is_named_value types bound) in
      let words_of : Ty → Value → List ℕ = flat_with (named_words types bound) in
      let spelled : Ty → Value → List Piece = spelling_with (named_spelling types bound) in
      let reader : Ty → Reader = read_with room (read_named types room bound) in
      by_layer room (is_con_of test sum) (λ l. padded size (con_words words_of sum l)) (con_spelled spelled sum) (λ words line. read_sum types room reader (Some sum) words line)
      (con_exact types room test words_of spelled reader IsWritable
      (λ ty good. ty_reads room (is_named_value types bound) (named_words types bound) (named_spelling types bound) (read_named types room bound) named ty good.limits)
      (shown bound (omega (arith, within))) size sum whole (names bound sum found) (fields_writable sum.cons (writable bound sum found)))

  named_reads : (bound : ℕ) → bound ≤ length types.sums → (k : ℕ)
      → Exact room (is_named_value types bound k) (named_words types bound k) (named_spelling types bound k) (read_named types room bound k)
  unfolding is_named_value named_words named_spelling read_named
  named_reads zero within k = (λ filled line more rest e. absurd (none_some (more, rest) e), λ v filled line rest p fit h. cc)
  named_reads (suc bound) within k =
      either_exact room (k == bound) _ _ _ _ _ _
      (λ words line. read_sum types room (read_with room (read_named types room bound)) (slice_get types.sums bound) words line) (λ words line. read_named types room bound k words line)
      (sum_reads bound (omega arith) (named_reads bound (omega arith)) (slice_get types.sums bound) refl) (named_reads bound (omega arith) k)

  -- the values of a type are read from their texts and from no other lines
  pub values_read : (ty : Ty) → keeps_limits ty ≡ true
      → Exact room (is_value types ty) (flat types ty) (spelling types ty) (read_with room (read_named types room (length types.sums)) ty)
  values_read ty k =
      let all = length types.sums in
      ty_reads room (is_named_value types all) (named_words types all) (named_spelling types all) (read_named types room all) (named_reads all (omega arith)) ty k
