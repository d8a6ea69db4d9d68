-- The marks are those of the data types that are needed.
use Rattle.std.proofs.Common.{◌≡◌, ℕ, zero, suc, ◌+◌, ◌<◌, ◌≤◌, ◌==◌, Bool, true, false, ◌&&◌, ◌||◌, List, [], ◌∷◌, length, replicate, refl, ap, sym, ◌∙◌, arith, if◌then◌else◌}
use Rattle.std.specs.Prelude.{slice_set}
use Rattle.std.specs.List.{flat_map}
use Rattle.std.proofs.Common.{eq-eqb}
use Rattle.std.proofs.Math.Dec.{eqb-suc-suc, eqb-suc-zero, eqb-zero-suc}
use Rattle.std.proofs.Math.ListN.{length-set, length-replicate}
use Rattle.std.proofs.lemmas.Grind.{common_steps}
use Rattle.hume_base.specs.declared.types.Ty.{Ty}
use Rattle.hume_base.specs.declared.types.SumDef.{SumDef}
use Rattle.c_main.specs.Found.{data_in, fields_data, is_among, need, with_data, with_one}
use Rattle.c_main.specs.inner.Places.{is_marked}
use Rattle.c_main.specs.inner.Marks.{marked_by, marks_of, reached, with_marks}

or_none : (b : Bool) → b ≡ (b || false)
or_none true = refl
or_none false = refl

or_assoc : (a b c : Bool) → ((a || b) || c) ≡ (a || (b || c))
or_assoc true b c = refl
or_assoc false b c = refl

or_true : (b : Bool) → true ≡ (b || true)
or_true true = refl
or_true false = refl

set_marked : (marks : List Bool) (number k : ℕ) → k < length marks → is_marked (slice_set marks number true) k ≡ (is_marked marks k || (number == k))
set_marked [] number k h = absurd (omega arith)
set_marked (mark ∷ marks) zero zero h = or_true mark ∙ ap (λ b. mark || b) (sym (eq-eqb 0 0 refl))
set_marked (mark ∷ marks) zero (suc k) h = or_none (is_marked marks k) ∙ ap (λ b. is_marked marks k || b) (sym (eqb-zero-suc k))
set_marked (mark ∷ marks) (suc number) zero h = or_none mark ∙ ap (λ b. mark || b) (sym (eqb-suc-zero number))
set_marked (mark ∷ marks) (suc number) (suc k) h =
    let less : k < length marks = omega arith in
    set_marked marks number k less ∙ ap (λ b. is_marked marks k || b) (sym (eqb-suc-suc number k))

marks_length : (numbers : List ℕ) (marks : List Bool) → length (with_marks marks numbers) ≡ length marks
marks_length [] marks = refl
marks_length (number ∷ numbers) marks = marks_length numbers (slice_set marks number true) ∙ length-set marks number true

marks_tell : (numbers : List ℕ) (marks : List Bool) (k : ℕ) → k < length marks → is_marked (with_marks marks numbers) k ≡ (is_marked marks k || is_among k numbers)
marks_tell [] marks k h = or_none (is_marked marks k)
marks_tell (number ∷ numbers) marks k h =
    let same : length (slice_set marks number true) ≡ length marks = length-set marks number true in
    let within : k < length (slice_set marks number true) = omega arith in
    marks_tell numbers (slice_set marks number true) k within
    ∙ ap (λ b. b || is_among k numbers) (set_marked marks number k h)
    ∙ or_assoc (is_marked marks k) (number == k) (is_among k numbers)

none_marked : (count k : ℕ) → is_marked (replicate count false) k ≡ false
none_marked zero k = refl
none_marked (suc count) zero = refl
none_marked (suc count) (suc k) = none_marked count k

choice_length : (b : Bool) (marks : List Bool) (numbers : List ℕ) → length (if b then with_marks marks numbers else marks) ≡ length marks
choice_length true marks numbers = marks_length numbers marks
choice_length false marks numbers = refl

choice_tells : (b : Bool) (marks : List Bool) (numbers : List ℕ) (k : ℕ) → k < length marks
    → is_marked (if b then with_marks marks numbers else marks) k ≡ (is_marked marks k || (b && is_among k numbers))
choice_tells true marks numbers k h = marks_tell numbers marks k h
choice_tells false marks numbers k h = or_none (is_marked marks k)

reached_length : (sums : List SumDef) (marks : List Bool) (place : ℕ) → length (reached marks place sums) ≡ length marks
reached_length [] marks place = refl
reached_length (sum ∷ sums) marks place =
    choice_length (is_marked (reached marks (place + 1) sums) place) (reached marks (place + 1) sums) (fields_data sum.cons)
    ∙ reached_length sums marks (place + 1)

abbrev AreNamed : List Ty → List Bool → Type 0
AreNamed tys marks = (k : ℕ) → k < length marks → is_marked marks k ≡ is_among k (flat_map data_in tys)

reached_needed : (tys : List Ty) (marks : List Bool) → AreNamed tys marks → (sums : List SumDef) (place : ℕ) → place + length sums ≤ length marks
    → (k : ℕ) → k < length marks → is_marked (reached marks place sums) k ≡ need tys place sums k
reached_needed tys marks named [] place room k h = named k h
reached_needed tys marks named (sum ∷ sums) place room k h =
    let inner : List Bool = reached marks (place + 1) sums in
    let same : length (reached marks (place + 1) sums) ≡ length marks = reached_length sums marks (place + 1) in
    let within : k < length (reached marks (place + 1) sums) = omega arith in
    let later : place + 1 + length sums ≤ length marks = omega arith in
    let here : place < length marks = omega arith in
    let one = reached_needed tys marks named sums (place + 1) later k h in
    let own = reached_needed tys marks named sums (place + 1) later place here in
    choice_tells (is_marked (reached marks (place + 1) sums) place) (reached marks (place + 1) sums) (fields_data sum.cons) k within
    ∙ ap (λ b. b || (is_marked (reached marks (place + 1) sums) place && is_among k (fields_data sum.cons))) one
    ∙ ap (λ b. need tys (place + 1) sums k || (b && is_among k (fields_data sum.cons))) own

abbrev first_marks : List Ty → List SumDef → List Bool
first_marks tys sums = with_marks (replicate (length sums) false) (flat_map data_in tys)

first_named : (tys : List Ty) (sums : List SumDef) → AreNamed tys (first_marks tys sums)
first_named tys sums k h =
    let same : length (first_marks tys sums) ≡ length (replicate (length sums) false) = marks_length (flat_map data_in tys) (replicate (length sums) false) in
    let within : k < length (replicate (length sums) false) = omega arith in
    marks_tell (flat_map data_in tys) (replicate (length sums) false) k within
    ∙ ap (λ b. b || is_among k (flat_map data_in tys)) (none_marked (length sums) k)

marks_needed : (tys : List Ty) (sums : List SumDef) (k : ℕ) → k < length sums → is_marked (marks_of tys sums) k ≡ need tys 0 sums k
marks_needed tys sums k h =
    let same : length (first_marks tys sums) ≡ length (replicate (length sums) false) = marks_length (flat_map data_in tys) (replicate (length sums) false) in
    let count : length (replicate (length sums) false) ≡ length sums = length-replicate (length sums) false in
    reached_needed tys (first_marks tys sums) (first_named tys sums) sums 0 (omega arith) k (omega arith)

data_alike : (f g : ℕ → Bool) (count : ℕ) → ((k : ℕ) → k < count → f k ≡ g k) → (sums : List SumDef) (found : List Ty) (number : ℕ)
    → number + length sums ≤ count → with_data f found number sums ≡ with_data g found number sums
data_alike f g count same [] found number room = refl
data_alike f g count same (sum ∷ sums) found number room =
    let here : number < count = omega arith in
    let later : number + 1 + length sums ≤ count = omega arith in
    ap (λ b. with_data f (with_one b found number sum) (number + 1) sums) (same number here)
    ∙ data_alike f g count same sums (with_one (g number) found number sum) (number + 1) later

-- those of the data types that are marked are those that are needed
pub marked_data : (tys : List Ty) (sums : List SumDef)
    → with_data (is_marked (marks_of tys sums)) [] 0 sums ≡ with_data (need tys 0 sums) [] 0 sums
marked_data tys sums = data_alike (is_marked (marks_of tys sums)) (need tys 0 sums) (length sums) (marks_needed tys sums) sums [] 0 (omega arith)
