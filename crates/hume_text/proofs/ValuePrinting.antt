-- Words that begin with those of a value are printed as its text, and those after it are left.
use Rattle.std.proofs.Common.{◌≡◌, ℕ, zero, suc, ◌+◌, ◌-◌, ◌%◌, ◌<◌, ◌≤◌, nat_lt, nat_le, ◌==◌, ◌&&◌, ◌||◌, Bool, true, false, if◌then◌else◌, List, [], ◌∷◌, ◌++◌, codes, map, length, drop, replicate, Option, Some, None, slice_get, refl, ap, sym, ◌∙◌, subst, append_assoc, length-append, arith, inl, inr, ◌⊎◌, ◌^◌, pos}
use Rattle.std.proofs.Math.Seq.{drop-append_seam}
use Rattle.std.proofs.lemmas.Bool.{and_parts, eqb-true, leb-true, cases_eq, eq-eqb, ne_eqb}
use Rattle.std.proofs.lemmas.Grind.{flat_map-append}
use Rattle.std.proofs.lemmas.List.{length-replicate}
use Rattle.std.specs.Fmt.{decimal}
use Rattle.std.specs.List.{list_all, flat_map}
use Rattle.hume_base.specs.declared.types.Ty.{Ty, out-Ty, roll-Ty, out-roll-Ty, roll-out-Ty, map-Ty, fold-roll-Ty, ind-Ty}
use Rattle.hume_base.specs.declared.types.Ty.TheOpen.{Ty-F}
use Rattle.hume_base.specs.declared.types.Value.{Value, out-Value}
use Rattle.hume_base.specs.declared.types.Value.TheOpen.{Value-F}
use Rattle.hume_base.specs.declared.types.Types.{Types}
use Rattle.hume_base.specs.declared.types.SumDef.{SumDef}
use Rattle.hume_base.specs.Sizes.{HaveTheirSizes, size_of_sum, named_size, written_size}
use Rattle.hume_base.specs.Words.{int_of}
use Rattle.hume_base.specs.Values.{is_value, is_word_of, is_char_word, is_int_word, all_pass, is_tuple_of, is_vector_of, value_step, is_value_with, is_con_of, is_sum_value, is_named_value, fields_at}
use Rattle.hume_base.specs.Flat.{flat, joined, word_in, parts_in, flat_step, flat_with, padded, con_words, flat_sum, named_words}
use Rattle.hume_text.specs.Spelling.{Piece, Space, Open, Close, OpenVector, CloseVector, Comma, Name, Number, Letter, bool_name, each_spelled, with_commas, has_fields, as_field, name_at, con_spelled, sum_spelled, spelling_step, spelling_with, named_spelling}
use Rattle.hume_text.specs.Printed.{piece_bytes, letter_bytes, written, texts}
use Rattle.hume_text.specs.Bounds.{HaveWrittenSizes}
use Rattle.hume_text.specs.inner.Printers.{Printer, then_print, closed_by, print_word, letter_text, int_text, print_several, print_in, are_some, fields_stand, is_compound, print_field, print_fields, print_con, past_zeros, print_sum, print_step, print_with, print_named}

-- the values that pass a test are printed from their words
abbrev Prints : (Value → Bool) → (Value → List ℕ) → (Value → List Piece) → Printer → Type 0
Prints test words spelled printer = (v : Value) (r : List ℕ) → test v ≡ true → printer (words v ++ r) ≡ (written (spelled v), r)

abbrev LayerPrints : (Value-F Value → Bool) → (Value-F Value → List ℕ) → (Value-F Value → List Piece) → Printer → Type 0
LayerPrints test words spelled printer = (l : Value-F Value) (r : List ℕ) → test l ≡ true → printer (words l ++ r) ≡ (written (spelled l), r)

-- it is enough to print one level
by_layer : (test : Value-F Value → Bool) (words : Value-F Value → List ℕ) (spelled : Value-F Value → List Piece) (printer : Printer)
    → LayerPrints test words spelled printer
    → Prints (λ v. test (out-Value v)) (λ v. words (out-Value v)) (λ v. spelled (out-Value v)) printer
by_layer test words spelled printer prints v r p = prints (out-Value v) r p

word_prints : (test : ℕ → Bool) (text : ℕ → List ℕ) (pieces : ℕ → List Piece) → ((a : ℕ) → test a ≡ true → text a ≡ written (pieces a))
    → LayerPrints (is_word_of test) (λ l. word_in l ∷ []) (λ l. pieces (word_in l)) (print_word text)
word_prints test text pieces same (Value-F.Word a) r p = ap (λ bytes. (bytes, r)) (same a p)
word_prints test text pieces same (Value-F.Tuple vs) r p = cc
word_prints test text pieces same (Value-F.Vector vs) r p = cc
word_prints test text pieces same (Value-F.Con c vs) r p = cc

pub append_nothing : (bytes : List ℕ) → bytes ≡ bytes ++ []
append_nothing [] = refl
append_nothing (byte ∷ bytes) = ap (λ more. byte ∷ more) (append_nothing bytes)

pub written-append : (ps qs : List Piece) → written (ps ++ qs) ≡ written ps ++ written qs
written-append ps qs = flat_map-append piece_bytes ps qs

-- several texts with commas
abbrev pub several : List ℕ → List (List Piece) → List ℕ
several before [] = []
several before (part ∷ parts) = (before ++ written part) ++ several (codes ", ") parts

later_written : (parts : List (List Piece)) → several (codes ", ") parts ≡ written (flat_map (λ later. Comma ∷ (Space ∷ later)) parts)
later_written [] = refl
later_written (part ∷ parts) =
    ap (λ bytes. 44 ∷ (32 ∷ bytes)) (ap (λ bytes. written part ++ bytes) (later_written parts)
    ∙ sym (written-append part (flat_map (λ later. Comma ∷ (Space ∷ later)) parts)))

pub several_written : (parts : List (List Piece)) → several [] parts ≡ written (with_commas parts)
several_written [] = refl
several_written (part ∷ parts) =
    ap (λ bytes. written part ++ bytes) (later_written parts) ∙ sym (written-append part (flat_map (λ later. Comma ∷ (Space ∷ later)) parts))

pub enclosed : (opening closing : Piece) (parts : List (List Piece))
    → piece_bytes opening ++ (several [] parts ++ piece_bytes closing) ≡ written (opening ∷ (with_commas parts ++ closing ∷ []))
enclosed opening closing parts =
    ap (λ bytes. piece_bytes opening ++ bytes) (ap (λ bytes. bytes ++ piece_bytes closing) (several_written parts)
    ∙ ap (λ bytes. written (with_commas parts) ++ bytes) (append_nothing (piece_bytes closing))
    ∙ sym (written-append (with_commas parts) (closing ∷ [])))

-- several parts, each by its own test
data AllPrint : List (Value → Bool) → List (Value → List ℕ) → List (Value → List Piece) → List Printer → Type 0 where
  none : AllPrint [] [] [] []
  one : {t : Value → Bool} {f : Value → List ℕ} {s : Value
      → List Piece} {printer : Printer} {ts : List (Value → Bool)} {fs : List (Value → List ℕ)} {ss : List (Value
      → List Piece)} {printers : List Printer}
      → Prints t f s printer → AllPrint ts fs ss printers → AllPrint (t ∷ ts) (f ∷ fs) (s ∷ ss) (printer ∷ printers)

parts_print : {ts : List (Value → Bool)} {fs : List (Value → List ℕ)} {ss : List (Value → List Piece)} {printers : List Printer}
    → AllPrint ts fs ss printers
    → (before : List ℕ) (vs : List Value) (r : List ℕ) → all_pass ts vs ≡ true
    → print_several before printers (joined fs vs ++ r) ≡ (several before (each_spelled ss vs), r)
parts_print none before [] r p = refl
parts_print none before (v ∷ vs) r p = cc
parts_print (one prints more) before [] r p = cc
parts_print (one {f = f} {fs = fs} prints more) before (v ∷ vs) r p =
    let ps = and_parts _ _ p in
    rw (append_assoc (f v) (joined fs vs) r, prints v (joined fs vs ++ r) ps.0, parts_print more (codes ", ") vs r ps.1) refl

tuple_prints : {ts : List (Value → Bool)} {fs : List (Value → List ℕ)} {ss : List (Value → List Piece)} {printers : List Printer}
    → AllPrint ts fs ss printers
    → LayerPrints (is_tuple_of ts) (λ l. joined fs (parts_in l)) (λ l. Open ∷ (with_commas (each_spelled ss (parts_in l)) ++ Close ∷ [])) (λ words. print_in (codes "(") (codes ")") printers words)
tuple_prints {ss = ss} all (Value-F.Tuple vs) r p =
    ap (λ printed. then_print (codes "(") (closed_by (codes ")") printed)) (parts_print all [] vs r p)
    ∙ ap (λ bytes. (bytes, r)) (enclosed Open Close (each_spelled ss vs))
tuple_prints all (Value-F.Word a) r p = cc
tuple_prints all (Value-F.Vector vs) r p = cc
tuple_prints all (Value-F.Con c vs) r p = cc

items_print : (t : Value → Bool) (f : Value → List ℕ) (s : Value → List Piece) (printer : Printer) → Prints t f s printer
    → (before : List ℕ) (n : ℕ) (vs : List Value) (r : List ℕ) → length vs ≡ n
    → list_all t vs ≡ true → print_several before (replicate {A = Printer} n printer) (flat_map f vs ++ r) ≡ (several before (map s vs), r)
items_print t f s printer prints before zero [] r long p = refl
items_print t f s printer prints before (suc n) [] r long p = absurd (omega arith)
items_print t f s printer prints before zero (v ∷ vs) r long p = absurd (omega arith)
items_print t f s printer prints before (suc n) (v ∷ vs) r long p =
    let ps = and_parts _ _ p in
    rw (append_assoc (f v) (flat_map f vs) r, prints v (flat_map f vs ++ r) ps.0, items_print t f s printer prints (codes ", ") n vs r (omega arith) ps.1) refl

vector_prints : (n : ℕ) (t : Value → Bool) (f : Value → List ℕ) (s : Value → List Piece) (printer : Printer) → Prints t f s printer
    → LayerPrints (is_vector_of n t) (λ l. flat_map f (parts_in l)) (λ l. OpenVector ∷ (with_commas (map s (parts_in l)) ++ CloseVector ∷ []))
    (λ words. print_in (codes "<<") (codes ">>") (replicate {A = Printer} n printer) words)
vector_prints n t f s printer prints (Value-F.Vector vs) r p =
    let ps = and_parts _ _ p in
    ap (λ printed. then_print (codes "<<") (closed_by (codes ">>") printed)) (items_print t f s printer prints [] n vs r (eqb-true _ _ ps.0) ps.1)
    ∙ ap (λ bytes. (bytes, r)) (enclosed OpenVector CloseVector (map s vs))
vector_prints n t f s printer prints (Value-F.Word a) r p = cc
vector_prints n t f s printer prints (Value-F.Tuple vs) r p = cc
vector_prints n t f s printer prints (Value-F.Con c vs) r p = cc

-- a field, with or without parentheses
field_printed : (b : Bool) (printer : Printer) (words : List ℕ) (pieces : List Piece) (rest : List ℕ) → printer words ≡ (written pieces, rest)
    → print_field b printer words ≡ (written (if b then Space ∷ (Open ∷ (pieces ++ Close ∷ [])) else Space ∷ pieces), rest)
field_printed true printer words pieces rest e =
    ap (λ printed. then_print (codes " (") (closed_by (codes ")") printed)) e
    ∙ ap (λ bytes. (32 ∷ (40 ∷ bytes), rest)) (sym (written-append pieces (Close ∷ [])))
field_printed false printer words pieces rest e = ap (λ printed. then_print (codes " ") printed) e

all_print : (t : Ty → Value → Bool) (f : Ty → Value → List ℕ) (s : Ty → Value → List Piece) (printer : Ty → Printer)
    → ((ty : Ty) → Prints (t ty) (f ty) (s ty) (printer ty)) → (tys : List Ty)
    → AllPrint (map t tys) (map f tys) (map s tys) (map printer tys)
all_print t f s printer prints [] = none
all_print t f s printer prints (ty ∷ tys) = one (prints ty) (all_print t f s printer prints tys)

zeros_past : (xs zs r : List ℕ) (size : ℕ) → length zs ≡ size - length xs → drop (size - (length ((xs ++ zs) ++ r) - length (zs ++ r))) (zs ++ r) ≡ r
zeros_past xs zs r size long =
    let whole : length ((xs ++ zs) ++ r) ≡ length xs + length zs + length r = rw (length-append (xs ++ zs) r, length-append xs zs) refl in
    let tail : length (zs ++ r) ≡ length zs + length r = length-append zs r in
    let step : size - (length ((xs ++ zs) ++ r) - length (zs ++ r)) ≡ length zs = omega (arith, whole, tail, long) in
    rw step (drop-append_seam zs r)

module _ (types : Types) (t : Ty → Value → Bool) (f : Ty → Value → List ℕ) (s : Ty → Value → List Piece) (printer : Ty → Printer)
    (prints : (ty : Ty) → Prints (t ty) (f ty) (s ty) (printer ty))
    (compound : (ty : Ty) (v : Value) (r : List ℕ) → t ty v ≡ true → is_compound types (out-Ty ty) (f ty v ++ r) ≡ has_fields (out-Value v)) where
  fields_printed : (tys : List Ty) (vs : List Value) (r : List ℕ) → all_pass (map t tys) vs ≡ true
      → print_fields types printer tys (joined (map f tys) vs ++ r) ≡ (written (flat_map (λ part. part) (each_spelled (map (λ ty. as_field (s ty)) tys) vs)), r)
  fields_printed [] [] r p = refl
  fields_printed [] (v ∷ vs) r p = cc
  fields_printed (ty ∷ tys) [] r p = cc
  fields_printed (ty ∷ tys) (v ∷ vs) r p =
      let ps = and_parts _ _ p in
      let rest : List ℕ = joined (map f tys) vs ++ r in
      let field : print_field (is_compound types (out-Ty ty) (f ty v ++ rest)) (printer ty) (f ty v ++ rest) ≡ (written (as_field (s ty) v), rest) =
      ap (λ b. print_field b (printer ty) (f ty v ++ rest)) (compound ty v rest ps.0)
      ∙ field_printed (has_fields (out-Value v)) (printer ty) (f ty v ++ rest) (s ty v) rest (prints ty v rest ps.0) in
      let others : List Piece = flat_map (λ part. part) (each_spelled (map (λ ty. as_field (s ty)) tys) vs) in
      ap (λ words. print_fields types printer (ty ∷ tys) words) (append_assoc (f ty v) (joined (map f tys) vs) r)
      ∙ ap (λ (printed : List ℕ × List ℕ). then_print printed.0 (print_fields types printer tys printed.1)) field
      ∙ ap (then_print (written (as_field (s ty) v))) (fields_printed tys vs r ps.1)
      ∙ ap (λ bytes. (bytes, r)) (sym (written-append (as_field (s ty) v) others))

  module _ (size : ℕ) (sum : SumDef) (whole : sum.words ≡ size) where
    abbrev words : ℕ → List Value → List ℕ
    words c vs = joined (map f (fields_at sum c)) vs

    abbrev zeros : ℕ → List Value → List ℕ
    zeros c vs = replicate {A = ℕ} (size - length (c ∷ words c vs)) 0

    one_con : (c : ℕ) (vs : List Value) (r : List ℕ) → all_pass (map t (fields_at sum c)) vs ≡ true
        → print_con types printer sum (((c ∷ words c vs) ++ zeros c vs) ++ r) ≡ (written (con_spelled s sum (Value-F.Con c vs)), zeros c vs ++ r)
    one_con c vs r p =
        ap (λ words. then_print (name_at sum c) (print_fields types printer (fields_at sum c) words)) (append_assoc (words c vs) (zeros c vs) r)
        ∙ ap (then_print (name_at sum c)) (fields_printed (fields_at sum c) vs (zeros c vs ++ r) p)

    con_prints : LayerPrints (is_con_of t sum) (λ l. padded size (con_words f sum l)) (con_spelled s sum) (print_sum types printer (Some sum))
    con_prints (Value-F.Con c vs) r p =
        let ps = and_parts _ _ p in
        let text : List ℕ = written (con_spelled s sum (Value-F.Con c vs)) in
        let all : List ℕ = ((c ∷ words c vs) ++ zeros c vs) ++ r in
        ap (past_zeros sum.words all) (one_con c vs r ps.1)
        ∙ ap (λ n. past_zeros n all (text, zeros c vs ++ r)) whole
        ∙ ap (λ rest. (text, rest)) (zeros_past (c ∷ words c vs) (zeros c vs) r size (length-replicate _ _))
    con_prints (Value-F.Word a) r p = cc
    con_prints (Value-F.Tuple vs) r p = cc
    con_prints (Value-F.Vector vs) r p = cc

or_cases : (b c : Bool) → (b || c) ≡ true → (b ≡ true) ⊎ (c ≡ true)
or_cases true c p = inl refl
or_cases false c p = inr p

printed_small : (a : ℕ) → (nat_le 32 a && nat_le a 126) ≡ true → a < 256
printed_small a p = omega (arith, leb-true a 126 (and_parts _ _ p).1)

char_small : (a : ℕ) → is_char_word a ≡ true → a < 256
char_small a p = elim (or_cases ((nat_le 32 a && nat_le a 126) || (a == 9)) (a == 10) p) [
  | inl other ↦ elim (or_cases (nat_le 32 a && nat_le a 126) (a == 9) other) [
    | inl low ↦ printed_small a low
    | inr tab ↦ omega (arith, eqb-true a 9 tab)
  ]
  | inr line ↦ omega (arith, eqb-true a 10 line)
]

letter_same : (a : ℕ) → is_char_word a ≡ true → letter_text a ≡ written (Letter a ∷ [])
letter_same a p =
    let small : a < 256 = char_small a p in
    let low : a % 256 ≡ a = omega arith in
    rw low (append_nothing (codes "'" ++ letter_bytes a ++ codes "'"))

module _ (types : Types) (nt : ℕ → Value → Bool) (nf : ℕ → Value → List ℕ) (ns : ℕ → Value → List Piece) (np : ℕ → Printer) (named : (k : ℕ)
    → Prints (nt k) (nf k) (ns k) (np k))
    (stands : (k : ℕ) (v : Value) (r : List ℕ) → nt k v ≡ true → fields_stand (slice_get types.sums k) (nf k v ++ r) ≡ has_fields (out-Value v)) where
  abbrev TyPrints : Ty → Type 0
  TyPrints ty = Prints (is_value_with nt ty) (flat_with nf ty) (spelling_with ns ty) (print_with np ty)

  abbrev Part : Type 0
  Part = (ty : Ty) × TyPrints ty

  abbrev of_part : Part → Ty
  of_part p = p.0

  parts_all : (ps : List Part) → AllPrint (map (is_value_with nt) (map of_part ps)) (map (flat_with nf) (map of_part ps)) (map (spelling_with ns) (map of_part ps)) (map (print_with np) (map of_part ps))
  parts_all [] = none
  parts_all (p ∷ ps) = one p.1 (parts_all ps)

  step_prints : (y : Ty-F Part) → Prints (value_step nt (map-Ty Ty (Value → Bool) (is_value_with nt) (map-Ty Part Ty of_part y)))
      (flat_step nf (map-Ty Ty (Value → List ℕ) (flat_with nf) (map-Ty Part Ty of_part y)))
      (spelling_step ns (map-Ty Ty (Value → List Piece) (spelling_with ns) (map-Ty Part Ty of_part y)))
      (print_step np (map-Ty Ty Printer (print_with np) (map-Ty Part Ty of_part y)))
  step_prints Ty-F.Bool = by_layer (is_word_of (λ word. nat_lt word 2)) (λ l. word_in l ∷ []) (λ l. Name (bool_name (word_in l)) ∷ []) (print_word bool_name)
      (word_prints (λ word. nat_lt word 2) bool_name (λ a. Name (bool_name a) ∷ []) (λ a p. append_nothing (bool_name a)))
  step_prints Ty-F.Char = by_layer (is_word_of is_char_word) (λ l. word_in l ∷ []) (λ l. Letter (word_in l) ∷ []) (print_word letter_text)
      (word_prints is_char_word letter_text (λ a. Letter a ∷ []) letter_same)
  step_prints (Ty-F.Int n) = by_layer (is_word_of (is_int_word n)) (λ l. word_in l ∷ []) (λ l. Number (int_of (word_in l)) ∷ []) (print_word int_text)
      (word_prints (is_int_word n) int_text (λ a. Number (int_of a) ∷ []) (λ a p. append_nothing (int_text a)))
  step_prints (Ty-F.Nat n) = by_layer (is_word_of (λ word. nat_lt word (2 ^ n))) (λ l. word_in l ∷ []) (λ l. Number (pos (word_in l)) ∷ []) (print_word decimal)
      (word_prints (λ word. nat_lt word (2 ^ n)) decimal (λ a. Number (pos a) ∷ []) (λ a p. append_nothing (decimal a)))
  step_prints (Ty-F.Tuple ps) = by_layer (is_tuple_of (map (is_value_with nt) (map of_part ps))) (λ l. joined (map (flat_with nf) (map of_part ps)) (parts_in l))
      (λ l. Open ∷ (with_commas (each_spelled (map (spelling_with ns) (map of_part ps)) (parts_in l)) ++ Close ∷ []))
      (λ words. print_in (codes "(") (codes ")") (map (print_with np) (map of_part ps)) words) (tuple_prints (parts_all ps))
  step_prints (Ty-F.Vector n p) = by_layer (is_vector_of n (is_value_with nt p.0)) (λ l. flat_map (flat_with nf p.0) (parts_in l))
      (λ l. OpenVector ∷ (with_commas (map (spelling_with ns p.0) (parts_in l)) ++ CloseVector ∷ []))
      (λ words. print_in (codes "<<") (codes ">>") (replicate {A = Printer} n (print_with np p.0)) words)
      (vector_prints n (is_value_with nt p.0) (flat_with nf p.0) (spelling_with ns p.0) (print_with np p.0) p.1)
  step_prints (Ty-F.Named k) = named k

  layer_prints : (y : Ty-F Part) → TyPrints (roll-Ty (map-Ty Part Ty of_part y))
  layer_prints y = rw (
    fold-roll-Ty (Value → Bool) (value_step nt),
    fold-roll-Ty (Value → List ℕ) (flat_step nf),
    fold-roll-Ty (Value
        → List Piece) (spelling_step ns),
    fold-roll-Ty Printer (print_step np),
  ) (step_prints y)

  ty_prints : (ty : Ty) → TyPrints ty
  ty_prints = ind-Ty TyPrints (λ x y is. subst (λ z. TyPrints (roll-Ty z)) is (layer_prints y))

  word_flat : (test : ℕ → Bool) (l : Value-F Value) → is_word_of test l ≡ true → false ≡ has_fields l
  word_flat test (Value-F.Word a) p = refl
  word_flat test (Value-F.Tuple vs) p = refl
  word_flat test (Value-F.Vector vs) p = refl
  word_flat test (Value-F.Con c vs) p = cc

  tuple_flat : (tests : List (Value → Bool)) (l : Value-F Value) → is_tuple_of tests l ≡ true → false ≡ has_fields l
  tuple_flat tests (Value-F.Word a) p = refl
  tuple_flat tests (Value-F.Tuple vs) p = refl
  tuple_flat tests (Value-F.Vector vs) p = refl
  tuple_flat tests (Value-F.Con c vs) p = cc

  vector_flat : (n : ℕ) (test : Value → Bool) (l : Value-F Value) → is_vector_of n test l ≡ true → false ≡ has_fields l
  vector_flat n test (Value-F.Word a) p = refl
  vector_flat n test (Value-F.Tuple vs) p = refl
  vector_flat n test (Value-F.Vector vs) p = refl
  vector_flat n test (Value-F.Con c vs) p = cc

  layer_compound : (y : Ty-F Ty) (v : Value) (r : List ℕ) → value_step nt (map-Ty Ty (Value → Bool) (is_value_with nt) y) v ≡ true
      → is_compound types y (flat_step nf (map-Ty Ty (Value → List ℕ) (flat_with nf) y) v ++ r) ≡ has_fields (out-Value v)
  layer_compound Ty-F.Bool v r p = word_flat _ (out-Value v) p
  layer_compound Ty-F.Char v r p = word_flat _ (out-Value v) p
  layer_compound (Ty-F.Int n) v r p = word_flat _ (out-Value v) p
  layer_compound (Ty-F.Nat n) v r p = word_flat _ (out-Value v) p
  layer_compound (Ty-F.Tuple tys) v r p = tuple_flat _ (out-Value v) p
  layer_compound (Ty-F.Vector n ty) v r p = vector_flat n _ (out-Value v) p
  layer_compound (Ty-F.Named k) v r p = stands k v r p

  abbrev Compound : Ty → Type 0
  Compound ty = (v : Value) (r : List ℕ) → is_value_with nt ty v ≡ true
      → is_compound types (out-Ty ty) (flat_with nf ty v ++ r) ≡ has_fields (out-Value v)

  rolled_compound : (y : Ty-F Ty) → Compound (roll-Ty y)
  rolled_compound y = rw (fold-roll-Ty (Value → Bool) (value_step nt), fold-roll-Ty (Value → List ℕ) (flat_step nf), out-roll-Ty y) (layer_compound y)

  pub ty_compound : (ty : Ty) → Compound ty
  ty_compound ty = subst Compound (roll-out-Ty ty) (rolled_compound (out-Ty ty))

-- whichever of the two a test chooses, its values are printed
either_prints : (b : Bool) (t u : Value → Bool) (f g : Value → List ℕ) (s z : Value → List Piece) (first second : Printer) → Prints t f s first
    → Prints u g z second
    → Prints (λ v. if b then t v else u v) (λ v. if b then f v else g v) (λ v. if b then s v else z v) (λ words. if b then first words else second words)
either_prints true t u f g s z first second p q = p
either_prints false t u f g s z first second p q = q

pub size-at : (types : Types) (bound number : ℕ) → number < bound
    → named_size types bound number ≡ size_of_sum (named_size types number) (slice_get types.sums number)
unfolding named_size
size-at types zero number below = absurd (omega arith)
size-at types (suc bound) number below = elim (cases_eq number bound) [
  | inl same ↦ rw (eq-eqb number bound same) (ap (λ k. size_of_sum (named_size types k) (slice_get types.sums k)) (sym same))
  | inr other ↦ rw (ne_eqb number bound other) (size-at types bound number (omega arith))
]

-- a constructor stands with fields as its words tell
con_stands : (t : Ty → Value → Bool) (f : Ty → Value → List ℕ) (size : ℕ) (sum : SumDef) (l : Value-F Value) (r : List ℕ) → is_con_of t sum l ≡ true
    → fields_stand (Some sum) (padded size (con_words f sum l) ++ r) ≡ has_fields l
con_stands t f size sum (Value-F.Con c vs) r p = some_fields (fields_at sum c) vs (and_parts _ _ p).1
  where
    some_fields : (tys : List Ty) (vs : List Value) → all_pass (map t tys) vs ≡ true → are_some tys ≡ has_fields (Value-F.Con c vs)
    some_fields [] [] p = refl
    some_fields [] (v ∷ vs) p = cc
    some_fields (ty ∷ tys) [] p = cc
    some_fields (ty ∷ tys) (v ∷ vs) p = refl
con_stands t f size sum (Value-F.Word a) r p = cc
con_stands t f size sum (Value-F.Tuple vs) r p = cc
con_stands t f size sum (Value-F.Vector vs) r p = cc

sum_stands : (t : Ty → Value → Bool) (f : Ty → Value → List ℕ) (size : ℕ) (o : Option SumDef) (v : Value) (r : List ℕ) → is_sum_value t o v ≡ true
    → fields_stand o (flat_sum f size o v ++ r) ≡ has_fields (out-Value v)
sum_stands t f size None v r p = cc
sum_stands t f size (Some sum) v r p = con_stands t f size sum (out-Value v) r p

pub named_stands : (types : Types) (bound k : ℕ) (v : Value) (r : List ℕ) → is_named_value types bound k v ≡ true
    → fields_stand (slice_get types.sums k) (named_words types bound k v ++ r) ≡ has_fields (out-Value v)
unfolding is_named_value named_words
named_stands types zero k v r p = cc
named_stands types (suc bound) k v r p = elim (cases_eq k bound) [
  | inl same ↦ rw (eq-eqb k bound same) (rw same (sum_stands (is_value_with (is_named_value types bound)) (flat_with (named_words types bound)) _ (slice_get types.sums bound) v r (rw (eq-eqb k bound same) at p)))
  | inr other ↦ rw (ne_eqb k bound other) (named_stands types bound k v r (rw (ne_eqb k bound other) at p))
]

module _ (types : Types) (sizes : HaveTheirSizes types) (small : HaveWrittenSizes types) where
  sum_prints : (bound : ℕ) → bound < length types.sums
      → ((k : ℕ) → Prints (is_named_value types bound k) (named_words types bound k) (named_spelling types bound k) (print_named types bound k))
      → (o : Option SumDef) → slice_get types.sums bound ≡ o
      → Prints (is_sum_value (is_value_with (is_named_value types bound)) o) (flat_sum (flat_with (named_words types bound)) (size_of_sum (named_size types bound) o) o)
      (sum_spelled (spelling_with (named_spelling types bound)) o) (print_sum types (print_with (print_named types bound)) o)
  sum_prints bound within named None found = λ v r p. cc
  sum_prints bound within named (Some sum) found =
      let own : named_size types (length types.sums) bound ≡ size_of_sum (named_size types bound) (Some sum) =
      size-at types (length types.sums) bound within ∙ ap (size_of_sum (named_size types bound)) found in
      let least : written_size (named_size types (length types.sums) bound) ≡ named_size types (length types.sums) bound =
      omega (arith, small bound sum found) in
      let size = size_of_sum (named_size types bound) (Some sum) in
      let whole : sum.words ≡ size = sizes bound sum found ∙ least ∙ own in
      let test : Ty → Value → Bool = is_value_with (is_named_value types bound) in
      let words_of : Ty → Value → List ℕ = flat_with (named_words types bound) in
      let spelled : Ty → Value → List Piece = spelling_with (named_spelling types bound) in
      let printer : Ty → Printer = print_with (print_named types bound) in
      let stands = named_stands types bound in
      by_layer (is_con_of test sum) (λ l. padded size (con_words words_of sum l)) (con_spelled spelled sum) (print_sum types printer (Some sum))
      (con_prints types test words_of spelled printer
      (ty_prints types (is_named_value types bound) (named_words types bound) (named_spelling types bound) (print_named types bound) named stands)
      (ty_compound types (is_named_value types bound) (named_words types bound) (named_spelling types bound) (print_named types bound) named stands)
      size sum whole)

  pub named_prints : (bound : ℕ) → bound ≤ length types.sums → (k : ℕ)
      → Prints (is_named_value types bound k) (named_words types bound k) (named_spelling types bound k) (print_named types bound k)
  unfolding is_named_value named_words named_spelling print_named
  named_prints zero within k = λ v r p. cc
  named_prints (suc bound) within k =
      either_prints (k == bound) _ _ _ _ _ _
      (λ words. print_sum types (print_with (print_named types bound)) (slice_get types.sums bound) words) (λ words. print_named types bound k words)
      (sum_prints bound (omega arith) (named_prints bound (omega arith)) (slice_get types.sums bound) refl) (named_prints bound (omega arith) k)

  -- the words of a value are printed as its text
  pub value_printed : (ty : Ty) (v : Value) → is_value types ty v ≡ true
      → (print_with (print_named types (length types.sums)) ty (flat types ty v)).0 ≡ texts types ty v
  value_printed ty v p =
      let all = length types.sums in
      let printed : print_with (print_named types all) ty (flat types ty v ++ []) ≡ (texts types ty v, []) =
      ty_prints types (is_named_value types all) (named_words types all) (named_spelling types all) (print_named types all) (named_prints all (omega arith)) (named_stands types all) ty v [] p in
      ap (λ words. (print_with (print_named types all) ty words).0) (append_nothing (flat types ty v))
      ∙ ap (λ (printed : List ℕ × List ℕ). printed.0) printed
