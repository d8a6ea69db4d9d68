-- Numbers of objects stay numbers of their types.
use Rattle.std.proofs.Common.{◌≡◌, ◌≤◌, ◌<◌, ℕ, ◌==◌, ◌+◌, ◌-◌, ◌≢◌, nat_lt, nat_le, Bool, true, false, not, pos, List, [], ◌∷◌, Option}
use Rattle.std.proofs.Common.{Some, None, if◌then◌else◌}
use Rattle.std.proofs.Common.{refl, ◌∙◌, subst, arith}
use Rattle.std.specs.Str.{bytes_eq}
use Rattle.std.proofs.lemmas.Int.{ints}
use Rattle.std.proofs.lemmas.Nat.{pow_pos}
use Rattle.std.proofs.lemmas.Bool.{and_parts, leb-true, ne_eqb}
use Rattle.c_meaning.specs.Numbers.{NumberType, Truth, Signed, Unsigned, CNumber, holds, converted}
use Rattle.c_meaning.specs.Objects.{Object, Scalar, Struct, Array, Union, Step, Member, Element, is_among, unset, first_zeroed, zeroed}
use Rattle.c_meaning.specs.Objects.{declared_step, is_read, at_step}
use Rattle.c_meaning.specs.Objects.{at_path, in_force, with_member, with_element, changed, with_number, in_place_of, of_one_type}
use Rattle.c_meaning.specs.Memories.{Place, Value, Numeric, Whole, Pointer, Memory, Rights, read_at, value_of, changed_at, may_write, with_object}
use Rattle.c_meaning.specs.Memories.{made, left_with}
use Rattle.c_meaning.specs.Statements.{with_value}
use Rattle.c_meaning.specs.Sound.{IsSound, IsSoundValue, IsSoundMemory, Stays, IsFrom}
use Rattle.c_meaning.proofs.Options.{some_same, comes, if_first, if_other}
use Rattle.c_meaning.proofs.Ranges.{converted_is, held_number, is_held}
use Rattle.c_meaning.proofs.Blocks.{changed_at_is}

-- ---- objects

pub unset_sound : (object : Object) → IsSound (unset object)
unset_sound (Scalar ty number) = tt
unset_sound (Struct type names part) = λ name. unset_sound (part name)
unset_sound (Array count element) = λ i. unset_sound (element i)
unset_sound (Union names force part) = λ name. unset_sound (part name)

chosen_sound : (test : Bool) (x y : Object) → IsSound x → IsSound y → IsSound (if test then x else y)
chosen_sound true x y p q = p
chosen_sound false x y p q = q

zero_held : (ty : NumberType) → holds ty (pos 0) ≡ true
zero_held Truth = refl
zero_held (Unsigned size) = is_held (Unsigned size) (pos 0) (let p = pow_pos size in record { above = omega (arith, ints); below = omega (arith, ints, p) })
zero_held (Signed size) = is_held (Signed size) (pos 0) (let p = pow_pos (size - 1) in record { above = omega (arith, ints); below = omega (arith, ints, p) })

first_sound : (names : List (List ℕ)) (zeros unsets : List ℕ → Object) → ((name : List ℕ) → IsSound (zeros name)) → ((name : List ℕ) → IsSound (unsets name))
    → IsSound (first_zeroed names zeros unsets)
first_sound [] zeros unsets p q = q
first_sound (first ∷ others) zeros unsets p q = λ name. chosen_sound (bytes_eq name first) (zeros name) (unsets name) (p name) (q name)

pub zeroed_sound : (object : Object) → IsSound (zeroed object)
zeroed_sound (Scalar ty number) = zero_held ty
zeroed_sound (Struct type names part) = λ name. zeroed_sound (part name)
zeroed_sound (Array count element) = λ i. zeroed_sound (element i)
zeroed_sound (Union names force part) =
    first_sound names (λ name. zeroed (part name)) (λ name. unset (part name)) (λ name. zeroed_sound (part name)) (λ name. unset_sound (part name))

pub step_sound : (step : Step) (object inner : Object) → IsSound object → declared_step step object ≡ Some inner → IsSound inner
step_sound (Member name) (Struct type names part) inner p e = subst IsSound (some_same (if_first (is_among name names) (Some (part name)) inner e)) (p name)
step_sound (Member name) (Union names force part) inner p e = subst IsSound (some_same (if_first (is_among name names) (Some (part name)) inner e)) (p name)
step_sound (Element i) (Array count element) inner p e = subst IsSound (some_same (if_first (nat_lt i count) (Some (element i)) inner e)) (p i)
step_sound (Member name) (Scalar ty number) inner p e = cc
step_sound (Member name) (Array count element) inner p e = cc
step_sound (Element i) (Scalar ty number) inner p e = cc
step_sound (Element i) (Struct type names part) inner p e = cc
step_sound (Element i) (Union names force part) inner p e = cc

pub path_sound : (path : List Step) (object inner : Object) → IsSound object → at_path path object ≡ Some inner → IsSound inner
path_sound [] object inner p e = subst IsSound (some_same e) p
path_sound (step ∷ path) object inner p e =
    let it = comes (at_step step object) (at_path path) inner e in
    path_sound path it.value inner (step_sound step object it.value p (if_first (is_read step object) (declared_step step object) it.value it.is)) it.gives

-- a change that keeps numbers sound
abbrev pub KeepsSound : (Object → Option Object) → Type 0
KeepsSound change = (old new : Object) → IsSound old → change old ≡ Some new → IsSound new

force_sound : (name : List ℕ) (force : Option (List ℕ)) (part : Object) → IsSound part → IsSound (in_force name force part)
force_sound name None part p = unset_sound part
force_sound name (Some force) part p = chosen_sound (bytes_eq name force) part (unset part) p (unset_sound part)

pub changed_sound : (path : List Step) (change : Object → Option Object) → KeepsSound change → KeepsSound (changed path change)
changed_sound [] change keeps object after p e = keeps object after p e
changed_sound (Member name ∷ path) change keeps (Struct type names part) after p e =
    let it = comes (changed path change (part name)) (λ new. Some (Struct type names (with_member part name new))) after
    (if_first (is_among name names) _ after e) in
    let inner = changed_sound path change keeps (part name) it.value (p name) it.is in
    subst IsSound (some_same it.gives) (λ other. chosen_sound (bytes_eq other name) it.value (part other) inner (p other))
changed_sound (Member name ∷ path) change keeps (Union names force part) after p e =
    let it = comes (changed path change (in_force name force (part name))) (λ new. Some (Union names (Some name) (with_member part name new))) after
    (if_first (is_among name names) _ after e) in
    let inner = changed_sound path change keeps (in_force name force (part name)) it.value (force_sound name force (part name) (p name)) it.is in
    subst IsSound (some_same it.gives) (λ other. chosen_sound (bytes_eq other name) it.value (part other) inner (p other))
changed_sound (Element i ∷ path) change keeps (Array count element) after p e =
    let it = comes (changed path change (element i)) (λ new. Some (Array count (with_element element i new))) after
    (if_first (nat_lt i count) _ after e) in
    let inner = changed_sound path change keeps (element i) it.value (p i) it.is in
    subst IsSound (some_same it.gives) (λ j. chosen_sound (j == i) it.value (element j) inner (p j))
changed_sound (Member name ∷ path) change keeps (Scalar ty number) after p e = cc
changed_sound (Member name ∷ path) change keeps (Array count element) after p e = cc
changed_sound (Element i ∷ path) change keeps (Scalar ty number) after p e = cc
changed_sound (Element i ∷ path) change keeps (Struct type names part) after p e = cc
changed_sound (Element i ∷ path) change keeps (Union names force part) after p e = cc

-- ---- values

pub number_sound : (x : CNumber) → KeepsSound (with_number x)
number_sound x (Scalar ty old) new p e =
    let it = comes (converted ty x.number) (λ (n : CNumber). Some (Scalar ty (Some n.number))) new e in
    let held = converted_is ty x.number it.value it.is in
    subst IsSound (some_same it.gives) (subst (λ t. holds t it.value.number ≡ true) held.is (held_number held))
number_sound x (Struct type names part) new p e = cc
number_sound x (Array count element) new p e = cc
number_sound x (Union names force part) new p e = cc

pub placed_sound : (new : Object) → IsSound new → KeepsSound (in_place_of new)
placed_sound new sound old after p e = subst IsSound (some_same (if_first (of_one_type new old) (Some new) after e)) sound

pub assigned_sound : (value : Value) → IsSoundValue value → KeepsSound (with_value value)
assigned_sound (Numeric x) sound old new p e = number_sound x old new p e
assigned_sound (Whole it) sound old new p e = placed_sound it sound old new p e
assigned_sound (Pointer place) sound old new p e = cc

pub value_sound : (object : Object) (value : Value) → IsSound object → value_of object ≡ Some value → IsSoundValue value
value_sound (Scalar ty (Some number)) value p e = subst IsSoundValue (some_same e) p
value_sound (Scalar ty None) value p e = cc
value_sound (Struct type names part) value p e = subst IsSoundValue (some_same e) p
value_sound (Array count element) value p e = cc
value_sound (Union names force part) value p e = cc

-- ---- memory

pub read_sound : (memory : Memory) (place : Place) (object : Object) → IsSoundMemory memory → read_at memory place ≡ Some object → IsSound object
read_sound memory place object sound e =
    path_sound place.path (memory.objects place.block) object (sound.objects place.block) (if_other (nat_le memory.count place.block) _ object e)

-- what comes of memory, by what may be written
pub record Follows (rights : Rights) (before after : Memory) : Type 0 where
  pub sound : IsSoundMemory after
  pub grows : before.count ≤ after.count
  pub stays : Stays rights before after

pub follows_same : (rights : Rights) (memory : Memory) → IsSoundMemory memory → Follows rights memory memory
follows_same rights memory sound = record {
  sound = sound;
  grows = omega arith;
  stays = record { objects = λ since n r less. refl; world = λ since r. refl };
}

pub follows_then : (rights : Rights) (a b c : Memory) → Follows rights a b → Follows rights b c → Follows rights a c
follows_then rights a b c p q = record {
  sound = q.sound;
  grows = omega (arith, p.grows, q.grows);
  stays = record {
    objects = λ since n r less. q.stays.objects since n r less ∙ p.stays.objects since n r less;
    world = λ since r. q.stays.world since r ∙ p.stays.world since r;
  };
}

-- the object of a number that is made or changed
pub object_follows : (rights : Rights) (memory : Memory) (number count : ℕ) (new : Object) → IsSoundMemory memory → IsSound new → memory.count ≤ count
    → IsFrom rights number → Follows rights memory (record (with_object memory number new) { count = count })
object_follows rights memory number count new sound fine grows from = record {
  sound = record { objects = λ n. chosen_sound (n == number) new (memory.objects n) fine (sound.objects n); world = sound.world };
  grows = grows;
  stays = record {
    objects = λ since n r less. other n (ne_eqb n number (below since n r less));
    world = λ since r. refl;
  };
} where
  below : (since n : ℕ) → rights ≡ Some since → n < since → n ≢ number
  below since n r less same = let h : since ≤ number = from since r in absurd (omega (arith, h, less, same))

  other : (n : ℕ) → (n == number) ≡ false → (if n == number then new else memory.objects n) ≡ memory.objects n
  other n e = rw e refl

pub changed_follows : (rights : Rights) (memory : Memory) (place : Place) (change : Object → Option Object) (after : Memory) → IsSoundMemory memory
    → KeepsSound change → changed_at rights memory place change ≡ Some after → Follows rights memory after
changed_follows rights memory place change after sound keeps e =
    let it = changed_at_is rights memory place change after e in
    subst (Follows rights memory) it.is (object_follows rights memory place.block memory.count it.new sound
    (changed_sound place.path change keeps (memory.objects place.block) it.new (sound.objects place.block) it.makes) (omega arith) (from rights it.may))
  where
    from : (rights : Rights) → may_write rights place ≡ true → IsFrom rights place.block
    from None may since r = cc
    from (Some first) may since r =
        let le : first ≤ place.block = leb-true first place.block (and_parts (nat_le first place.block) (not place.constant) may).0 in
        subst (λ (n : ℕ). n ≤ place.block) (some_same r) le

pub made_follows : (rights : Rights) (memory : Memory) (object : Object) → IsSoundMemory memory → IsSound object → IsFrom rights memory.count
    → Follows rights memory (made memory object)
made_follows rights memory object sound fine from =
    object_follows rights memory memory.count (memory.count + 1) object sound fine (omega arith) from

-- objects that are gone
pub left_follows : (rights : Rights) (before after : Memory) → Follows rights before after → Follows rights before (left_with before.count after)
left_follows rights before after f = record {
  sound = record { objects = f.sound.objects; world = f.sound.world };
  grows = omega arith;
  stays = record { objects = f.stays.objects; world = f.stays.world };
}
