-- What a change at a place of memory does.
use Rattle.std.proofs.Common.{◌≡◌, ℕ, ◌==◌, nat_le, ◌≤◌, Bool, true, false, ◌&&◌, List, ◌∷◌, Option, Some, None, if◌then◌else◌, refl, ap, sym, ◌∙◌}
use Rattle.std.proofs.lemmas.Bool.{le-ltb}
use Rattle.c_meaning.specs.Numbers.{and_then}
use Rattle.c_meaning.specs.Objects.{Object, Array, Step, Element, at_path, changed}
use Rattle.c_meaning.specs.Memories.{Place, Memory, Rights, changed_at, may_write, with_object}
use Rattle.c_meaning.proofs.Options.{some_same, comes, if_first, if_holds, if_other}

-- what is changed, in which way
pub record ChangedAt (rights : Rights) (memory : Memory) (place : Place) (change : Object → Option Object) (after : Memory) : Type 0 where
  pub new : Object
  pub makes : changed place.path change (memory.objects place.block) ≡ Some new
  pub may : may_write rights place ≡ true
  pub is : with_object memory place.block new ≡ after

pub changed_at_is : (rights : Rights) (memory : Memory) (place : Place) (change : Object → Option Object) (after : Memory)
    → changed_at rights memory place change ≡ Some after → ChangedAt rights memory place change after
changed_at_is rights memory place change after e =
    let there = if_other (nat_le memory.count place.block) _ after e in
    let it = comes (changed place.path change (memory.objects place.block)) (λ new. Some (with_object memory place.block new)) after
    (if_first (may_write rights place) _ after there) in
    record { new = it.value; makes = it.is; may = if_holds (may_write rights place) _ after there; is = some_same it.gives }

pub other_blocks_stay : (rights : Rights) (memory : Memory) (place : Place) (change : Object → Option Object) (after : Memory) (n : ℕ)
    → changed_at rights memory place change ≡ Some after → (n == place.block) ≡ false → after.objects n ≡ memory.objects n
other_blocks_stay rights memory place change after n e other =
    let it = changed_at_is rights memory place change after e in
    let kept : (with_object memory place.block it.new).objects n ≡ memory.objects n = rest it.new in
    sym (ap (λ (m : Memory). m.objects n) it.is) ∙ kept
  where
    rest : (new : Object) → (if n == place.block then new else memory.objects n) ≡ memory.objects n
    rest new = rw other refl

pub nothing_else_changes : (rights : Rights) (memory : Memory) (place : Place) (change : Object → Option Object) (after : Memory)
    → changed_at rights memory place change ≡ Some after → (after.count ≡ memory.count) × (after.world ≡ memory.world)
nothing_else_changes rights memory place change after e =
    let it = changed_at_is rights memory place change after e in
    (sym (ap (λ (m : Memory). m.count) it.is), sym (ap (λ (m : Memory). m.world) it.is))

pub constants_stay : (rights : Rights) (memory : Memory) (place : Place) (change : Object → Option Object) → place.constant ≡ true
    → changed_at rights memory place change ≡ None
constants_stay None memory place change e = rw e (by (nat_le memory.count place.block))
  where
    by : (b : Bool) → ◌≡◌ {A = Option Memory} (if b then None else None) None
    by true = refl
    by false = refl
constants_stay (Some since) memory place change e = rw e (by (nat_le since place.block) (nat_le memory.count place.block))
  where
    by : (t b : Bool) → ◌≡◌ {A = Option Memory} (if b then None else (if t && false then
        and_then (changed place.path change (memory.objects place.block)) (λ new. Some (with_object memory place.block new)) else None)) None
    by true true = refl
    by true false = refl
    by false true = refl
    by false false = refl

pub out_of_bounds : (count i : ℕ) (element : ℕ → Object) (path : List Step) (change : Object → Option Object) → count ≤ i
    → (at_path (Element i ∷ path) (Array count element) ≡ None) × (changed (Element i ∷ path) change (Array count element) ≡ None)
out_of_bounds count i element path change far = (rw (le-ltb i count far) refl, rw (le-ltb i count far) refl)
