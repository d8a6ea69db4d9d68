-- How types mark the data types that they need, and that these are the ones.
use Rattle.std.proofs.Common.{◌≡◌, ℕ, suc, ◌+◌, ◌<◌, Bool, true, List, [], ◌∷◌, ◌++◌, length, map, get_or, drop, drop-cons, refl, ap, sym, ◌∙◌, arith}
use Rattle.std.specs.Prelude.{slice_set}
use Rattle.std.specs.List.{flat_map}
use Rattle.std.proofs.lemmas.Grind.{common_steps}
use Rattle.hume_base.specs.declared.types.Ty.{Ty, fold-roll-Ty, map-Ty, roll-Ty}
use Rattle.hume_base.specs.declared.types.Ty.TheOpen.{Ty-F}
use Rattle.hume_base.specs.declared.types.Ty.TheVariants as ty
use Rattle.hume_base.specs.declared.types.SumDef.{SumDef}
use Rattle.c_main.specs.Found.{data_in, data_step}
use Rattle.c_main.specs.inner.Marks.{marked_by, reached, with_marks}

form : (it : Ty) (x : Ty-F Ty) → roll-Ty x ≡ it → data_in it ≡ data_step (map-Ty Ty (List ℕ) data_in x)
form it x is = ap data_in (sym is) ∙ fold-roll-Ty (List ℕ) data_step x

joined_data : (parts : List Ty) → flat_map (λ (part : List ℕ). part) (map data_in parts) ≡ flat_map data_in parts
joined_data [] = refl
joined_data (part ∷ parts) = ap (λ numbers. data_in part ++ numbers) (joined_data parts)

pub data_bool : data_in ty.Bool ≡ []
data_bool = form _ Ty-F.Bool ty.rolls-Bool

pub data_char : data_in ty.Char ≡ []
data_char = form _ Ty-F.Char ty.rolls-Char

pub data_int : (bits : ℕ) → data_in (ty.Int bits) ≡ []
data_int bits = form _ (Ty-F.Int bits) (ty.rolls-Int bits)

pub data_nat : (bits : ℕ) → data_in (ty.Nat bits) ≡ []
data_nat bits = form _ (Ty-F.Nat bits) (ty.rolls-Nat bits)

pub data_tuple : (parts : List Ty) → data_in (ty.Tuple parts) ≡ flat_map data_in parts
data_tuple parts = form _ (Ty-F.Tuple parts) (ty.rolls-Tuple parts) ∙ joined_data parts

pub data_vector : (count : ℕ) (item : Ty) → data_in (ty.Vector count item) ≡ data_in item
data_vector count item = form _ (Ty-F.Vector count item) (ty.rolls-Vector count item)

pub data_named : (number : ℕ) → data_in (ty.Named number) ≡ number ∷ []
data_named number = form _ (Ty-F.Named number) (ty.rolls-Named number)

pub marks_both : (marks : List Bool) (first later : List ℕ) → with_marks marks (first ++ later) ≡ with_marks (with_marks marks first) later
marks_both marks [] later = refl
marks_both marks (number ∷ first) later = marks_both (slice_set marks number true) first later

pub ruleset mark_steps = (common_steps, marks_both, data_bool, data_char, data_int, data_nat, data_tuple, data_vector, data_named)

-- a data type before those that were looked at
pub next_reached : (start marks after : List Bool) (sums : List SumDef) (left : ℕ) (sum : SumDef) → left < length sums → sum ≡ get_or sums left sum
    → marks ≡ reached start (left + 1) (drop (left + 1) sums) → after ≡ marked_by marks left sum → after ≡ reached start left (drop left sums)
next_reached start marks after sums left sum h is before now =
    let one : left + 1 ≡ suc left = omega arith in
    let parts : drop left sums ≡ sum ∷ drop (left + 1) sums =
    drop-cons sums left sum h ∙ ap (λ x. x ∷ drop (suc left) sums) (sym is) ∙ ap (λ n. sum ∷ drop n sums) (sym one) in
    now ∙ ap (λ m. marked_by m left sum) before ∙ ap (reached start left) (sym parts)
