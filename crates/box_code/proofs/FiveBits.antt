-- The kind of an instruction fits five bits.
use Rattle.std.proofs.Common.{◌≡◌, ℕ, ◌+◌, ◌%◌, ◌<◌, ◌≤◌, ◌==◌, nat_le, Bool, true, false, Option, List, length, get_or, slice_get, None, Some, IsTrue, refl, ap, sym, ◌∙◌, subst, arith}
use Rattle.std.proofs.lemmas.Option.{get_or_from_slice_get, slice_get_within}
use Rattle.std.proofs.lemmas.Bool.{leb-true, leb-false, ne_eqb}
use Rattle.std.specs.Option.{is_some}
use Rattle.box_code.specs.Reading.{instr_at, instr_of, low_operand, high_operand, at_head}

none_read : IsTrue false → ⊥
none_read read = (let wrong : false ≡ true = read in cc)

-- there is no kind from 24 on
none_from_24 : (kind low high : ℕ) (second third : Option ℕ) (room at : ℕ) → 24 ≤ kind → instr_of kind low high second third room at ≡ None
none_from_24 kind low high second third room at more = rw (no 0 (omega arith), no 1 (omega arith), no 2 (omega arith), no 3 (omega arith), no 4 (omega arith), no 5 (omega arith), no 6 (omega arith), no 7 (omega arith), no 8 (omega arith), no 9 (omega arith), no 10 (omega arith), no 11 (omega arith), no 12 (omega arith), no 13 (omega arith), no 14 (omega arith), no 15 (omega arith), no 16 (omega arith), no 17 (omega arith), no 18 (omega arith), no 19 (omega arith), no 20 (omega arith), no 21 (omega arith), no 22 (omega arith), no 23 (omega arith)) refl where
  no : (number : ℕ) → number < 24 → (kind == number) ≡ false
  no number less = ne_eqb kind number (λ same. omega (arith, more, less, same))

small_by : (big : Bool) (kind low high : ℕ) (second third : Option ℕ) (room at : ℕ) → nat_le 24 kind ≡ big
    → IsTrue (is_some (instr_of kind low high second third room at)) → kind < 24
small_by false kind low high second third room at is read = leb-false 24 kind is
small_by true kind low high second third room at is read =
    absurd (none_read (subst (λ read. IsTrue (is_some read)) (none_from_24 kind low high second third room at (leb-true 24 kind is)) read))

-- where a head is read, its last eight bits are its last five
pub in_five_bits : (head low high : ℕ) (second third : Option ℕ) (room at : ℕ) → IsTrue (is_some (instr_of (head % 256) low high second third room at))
    → head % 256 ≡ head % 32
in_five_bits head low high second third room at read =
    let small = small_by (nat_le 24 (head % 256)) (head % 256) low high second third room at refl read in
    omega (arith, small)

read_head : (words : List ℕ) (at : ℕ) (found second third : Option ℕ) → slice_get words at ≡ found → IsTrue (is_some (at_head found second third (length words) at))
    → (at < length words) × (at_head found second third (length words) at
    ≡ instr_of (get_or words at 0 % 32) (low_operand (get_or words at 0)) (high_operand (get_or words at 0)) second third (length words) at)
read_head words at None second third is read = absurd (none_read read)
read_head words at (Some word) second third is read =
    let same : get_or words at 0 ≡ word = get_or_from_slice_get words at word 0 is in
    let bits = in_five_bits word (low_operand word) (high_operand word) second third (length words) at read in (
      slice_get_within words at word is,
      ap (λ kind. instr_of kind (low_operand word) (high_operand word) second third (length words) at) bits
          ∙ (λ i. instr_of (sym same i % 32) (low_operand (sym same i)) (high_operand (sym same i)) second third (length words) at),
    )

-- where an instruction is read, it is read by the last five bits of its head
pub read_by_five_bits : (words : List ℕ) (at : ℕ) → IsTrue (is_some (instr_at words at)) → (at < length words) × (instr_at words at
    ≡ instr_of (get_or words at 0 % 32) (low_operand (get_or words at 0)) (high_operand (get_or words at 0)) (slice_get words (at + 1)) (slice_get words (at + 2))
    (length words) at)
read_by_five_bits words at read = read_head words at (slice_get words at) (slice_get words (at + 1)) (slice_get words (at + 2)) refl read
