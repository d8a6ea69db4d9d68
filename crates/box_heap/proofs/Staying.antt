-- What is put into a heap stays.
use Rattle.std.proofs.Common.{◌≡◌, ℕ, zero, suc, ◌+◌, ◌-◌, ◌<◌, ◌≤◌, ◌==◌, nat_lt, Bool, true, false, cond, List, [], ◌∷◌, ◌++◌, length, get_or, Some, None, refl, ap, sym, ◌∙◌, arith, length-append, append-nil}
use Rattle.std.specs.List.{All, flat_map}
use Rattle.std.proofs.lemmas.Bool.{eqb-true, ltb-true}
use Rattle.std.proofs.lemmas.List.Elements.{All-append}
use Rattle.std.proofs.lemmas.Grind.{flat_map-append}
use Rattle.box_heap.specs.Heaps.{HeapView, HasObjects, Object, object_at, words_of_object}

pub found_still : (objects more : List Object) (at : ℕ) (object : Object) → object_at objects at ≡ Some object → object_at (objects ++ more) at ≡ Some object
found_still [] more at object found = cc
found_still (o ∷ os) more at object found = by_first (at == 0) (nat_lt at (1 + length o.1)) found (λ place later. found_still os more place object later)
  where
    by_first : (first before : Bool) → cond first (Some o) (cond before None (object_at os (at - (1 + length o.1)))) ≡ Some object
        → ((place : ℕ) → object_at os place ≡ Some object → object_at (os ++ more) place ≡ Some object)
        → cond first (Some o) (cond before None (object_at (os ++ more) (at - (1 + length o.1)))) ≡ Some object
    by_first true before is later = is
    by_first false true is later = is
    by_first false false is later = later (at - (1 + length o.1)) is

all_one : (P : Object → Type 0) (object : Object) → P object → All P (object ∷ [])
all_one P object holds = λ k d less. one k d less
  where
    one : (k : ℕ) (d : Object) → k < length (object ∷ []) → P (get_or (object ∷ []) k d)
    one zero d less = holds
    one (suc k) d less = absurd (omega (arith, less))

pub objects_kept : (old new : HeapView) (objects : List Object) (object : Object) → HasObjects old objects → object.0 < 4294967296
    → new.words ≡ old.words ++ words_of_object object → HasObjects new (objects ++ object ∷ [])
objects_kept old new objects object has small more = record {
  words = more ∙ ap (λ ws. ws ++ words_of_object object) has.words
      ∙ ap (λ ws. flat_map words_of_object objects ++ ws) (sym (append-nil (words_of_object object)))
      ∙ sym (flat_map-append words_of_object objects (object ∷ []));
  tags = All-append (λ (o : Object). o.0 < 4294967296) objects (object ∷ []) has.tags (all_one (λ (o : Object). o.0 < 4294967296) object small);
}

-- behind all objects
pub behind_all : (objects : List Object) (object : Object) (at : ℕ) → at ≡ length (flat_map words_of_object objects)
    → object_at (objects ++ object ∷ []) at ≡ Some object
behind_all [] object at is = rw is refl
behind_all (o ∷ os) object at is =
    let long : length (words_of_object o ++ flat_map words_of_object os) ≡ length (words_of_object o) + length (flat_map words_of_object os) =
    length-append (words_of_object o) (flat_map words_of_object os) in
    let own : length (words_of_object o) ≡ 1 + length o.1 = omega arith in
    by_first (at == 0) (nat_lt at (1 + length o.1)) refl refl (omega (arith, is, long, own))
    (behind_all os object (at - (1 + length o.1)) (omega (arith, is, long, own)))
  where
    by_first : (first before : Bool) → (at == 0) ≡ first → nat_lt at (1 + length o.1) ≡ before → 1 + length o.1 ≤ at
        → object_at (os ++ object ∷ []) (at - (1 + length o.1)) ≡ Some object
        → cond first (Some o) (cond before None (object_at (os ++ object ∷ []) (at - (1 + length o.1)))) ≡ Some object
    by_first true before at_it front past later = absurd (let front_is = eqb-true at 0 at_it in omega (arith, front_is, past))
    by_first false true at_it front past later = absurd (let less = ltb-true at (1 + length o.1) front in omega (arith, less, past))
    by_first false false at_it front past later = later

pub object_put : (old : HeapView) (objects : List Object) (object : Object) → HasObjects old objects
    → object_at (objects ++ object ∷ []) (length old.words) ≡ Some object
object_put old objects object has = behind_all objects object (length old.words) (ap length has.words)
