-- Objects stay where they are while the heap grows.
use Rattle.std.proofs.Common.{◌≡◌, ℕ, zero, suc, ◌+◌, ◌-◌, ◌==◌, nat_lt, Bool, true, false, if◌then◌else◌, List, [], ◌∷◌, ◌++◌, length, Option, Some, None, slice_get, refl, ap, sym, ◌∙◌, subst, arith}
use Rattle.std.proofs.lemmas.Bool.{ne_eqb, le-ltb}
use Rattle.std.proofs.lemmas.List.{length-append}
use Rattle.std.specs.List.{flat_map}
use Rattle.hume_base.specs.declared.types.Value.{Value, out-Value}
use Rattle.hume_base.specs.declared.types.Value.TheOpen.{Value-F}
use Rattle.hume_model.proofs.Layers as layer
use Rattle.box_heap.specs.Heaps.{Object, object_at, words_of_object}
use Rattle.box_heap.specs.Standing.{Stands, AllStand}
use Rattle.box_code.specs.Machine.{used}
use Rattle.code_laws.specs.Variables.{Hold}

pub used_more : (object : Object) (objects : List Object) → used (object ∷ objects) ≡ 1 + length object.1 + used objects
used_more object objects = let a = length-append (words_of_object object) (flat_map words_of_object objects) in omega (arith, a)

pub used-append : (objects more : List Object) → used (objects ++ more) ≡ used objects + used more
used-append [] more = omega arith
used-append (object ∷ objects) more =
    let a = used_more object (objects ++ more) in
    let b = used_more object objects in
    let c = used-append objects more in
    omega (arith, a, b, c)

pub used_one : (object : Object) → used (object ∷ []) ≡ 1 + length object.1
used_one object = let a = used_more object [] in omega (arith, a)

object_past : (b c : Bool) (object : Object) (x y : Option Object) → b ≡ false → c ≡ false → (if b then Some object else (if c then x else y)) ≡ y
object_past b c object x y p q = rw (p, q) refl

pub object_new : (objects : List Object) (object : Object) → object_at (objects ++ object ∷ []) (used objects) ≡ Some object
object_new [] object = refl
object_new (first ∷ objects) object =
    let size = 1 + length first.1 in
    let more = used_more first objects in
    let b : (used (first ∷ objects) == 0) ≡ false = ne_eqb (used (first ∷ objects)) 0 (λ e. omega (arith, more, e)) in
    let c : nat_lt (used (first ∷ objects)) size ≡ false = le-ltb (used (first ∷ objects)) size (omega (arith, more)) in
    let e : used (first ∷ objects) - size ≡ used objects = omega (arith, more) in
    object_past _ _ first None _ b c ∙ ap (object_at (objects ++ object ∷ [])) e ∙ object_new objects object

same_place : (b c : Bool) (object found : Object) (x y : Option Object) → (if b then Some object else (if c then None else x)) ≡ Some found → (x ≡ Some found → y ≡ Some found)
    → (if b then Some object else (if c then None else y)) ≡ Some found
same_place true c object found x y h go = h
same_place false true object found x y h go = cc
same_place false false object found x y h go = go h

pub object_stays : (objects more : List Object) (place : ℕ) (object : Object) → object_at objects place ≡ Some object → object_at (objects ++ more) place ≡ Some object
object_stays [] more place object h = cc
object_stays (first ∷ objects) more place object h =
    same_place (place == 0) (nat_lt place (1 + length first.1)) first object _ _ h (object_stays objects more (place - (1 + length first.1)) object)

mutual
  pub still_stands : {objects : List Object} {v : Value} {w : ℕ} → Stands objects v w → (more : List Object) → Stands (objects ++ more) v w
  still_stands (Stands.word w) more = Stands.word w
  still_stands {objects = objects} (Stands.tuple place found parts) more = Stands.tuple place (object_stays objects more place _ found) (all_still_stand parts more)
  still_stands {objects = objects} (Stands.vector place found parts) more = Stands.vector place (object_stays objects more place _ found) (all_still_stand parts more)
  still_stands {objects = objects} (Stands.con c place found parts) more = Stands.con c place (object_stays objects more place _ found) (all_still_stand parts more)

  pub all_still_stand : {objects : List Object} {vs : List Value} {ws : List ℕ} → AllStand objects vs ws → (more : List Object) → AllStand (objects ++ more) vs ws
  all_still_stand AllStand.none more = AllStand.none
  all_still_stand (AllStand.more first rest) more = AllStand.more (still_stands first more) (all_still_stand rest more)

pub as_many : {objects : List Object} {vs : List Value} {ws : List ℕ} → AllStand objects vs ws → length vs ≡ length ws
as_many AllStand.none = refl
as_many (AllStand.more first rest) = ap suc (as_many rest)

-- a word that stands for a value of one word is that word
pub word_stands : {objects : List Object} {v : Value} {w : ℕ} → Stands objects v w → (u : ℕ) → out-Value v ≡ Value-F.Word u → w ≡ u
word_stands (Stands.word w) u e = let x = sym (layer.out-word w) ∙ e in cc
word_stands (Stands.tuple {values = vs} place found parts) u e = let x = sym (layer.out-tuple vs) ∙ e in cc
word_stands (Stands.vector {values = vs} place found parts) u e = let x = sym (layer.out-vector vs) ∙ e in cc
word_stands (Stands.con {values = vs} c place found parts) u e = let x = sym (layer.out-con c vs) ∙ e in cc

pub get_front : (xs ys : List ℕ) (i w : ℕ) → slice_get xs i ≡ Some w → slice_get (xs ++ ys) i ≡ Some w
get_front [] ys i w h = cc
get_front (x ∷ xs) ys zero w h = h
get_front (x ∷ xs) ys (suc i) w h = get_front xs ys i w h

pub get_new : (xs : List ℕ) (w : ℕ) (ys : List ℕ) → slice_get (xs ++ w ∷ ys) (length xs) ≡ Some w
get_new [] w ys = refl
get_new (x ∷ xs) w ys = get_new xs w ys

pub get_at : (xs ys : List ℕ) (i w : ℕ) → slice_get ys i ≡ Some w → slice_get (xs ++ ys) (length xs + i) ≡ Some w
get_at [] ys i w h = let e : 0 + i ≡ i = omega arith in ap (slice_get ys) e ∙ h
get_at (x ∷ xs) ys i w h = let e : length (x ∷ xs) + i ≡ suc (length xs + i) = omega arith in ap (slice_get (x ∷ (xs ++ ys))) e ∙ get_at xs ys i w h

-- variables stand while stack and heap grow
pub still_hold : {below : ℕ} {stack : List ℕ} {objects : List Object} {ps : List ℕ} {vs : List Value} → Hold below stack objects ps vs → (more : List ℕ) (again : List Object)
    → Hold below (stack ++ more) (objects ++ again) ps vs
still_hold Hold.none more again = Hold.none
still_hold {below = below} {stack = stack} (Hold.more place word there stands rest) more again =
    Hold.more place word (get_front stack more (below + place) word there) (still_stands stands again) (still_hold rest more again)

pub hold_both : {below : ℕ} {stack : List ℕ} {objects : List Object} {ps qs : List ℕ} {vs us : List Value} → Hold below stack objects ps vs → Hold below stack objects qs us
    → Hold below stack objects (ps ++ qs) (vs ++ us)
hold_both Hold.none k = k
hold_both (Hold.more place word there stands rest) k = Hold.more place word there stands (hold_both rest k)

pub hold_at : {below : ℕ} {stack : List ℕ} {objects : List Object} {ps : List ℕ} {vs : List Value} → Hold below stack objects ps vs → (i p : ℕ) → slice_get ps i ≡ Some p
    → (v : Value) × (w : ℕ) × (slice_get vs i ≡ Some v) × (slice_get stack (below + p) ≡ Some w) × Stands objects v w
hold_at Hold.none i p found = cc
hold_at {below = below} {stack = stack} (Hold.more place word {value = v} there stands rest) zero p found =
    let same : place ≡ p = cc in (v, word, refl, subst (λ r. slice_get stack (below + r) ≡ Some word) same there, stands)
hold_at (Hold.more place word there stands rest) (suc i) p found = hold_at rest i p found
