-- What comes of something, and of tests.
use Rattle.std.proofs.Common.{◌≡◌, Bool, true, false, Option, Some, None, if◌then◌else◌, refl}
use Rattle.c_meaning.specs.Numbers.{and_then}

pub some_same : {A : Type 0} {x y : A} → ◌≡◌ {A = Option A} (Some x) (Some y) → x ≡ y
some_same e = cc

-- what comes of something comes of a value of it
pub record Comes {A B : Type 0} (o : Option A) (next : A → Option B) (b : B) : Type 0 where
  pub value : A
  pub is : o ≡ Some value
  pub gives : next value ≡ Some b

pub comes : {A B : Type 0} (o : Option A) (next : A → Option B) (b : B) → and_then o next ≡ Some b → Comes o next b
comes None next b e = cc
comes (Some a) next b e = record { value = a; is = refl; gives = e }

pub if_other : {A : Type 0} (test : Bool) (x : Option A) (a : A) → (if test then None else x) ≡ Some a → x ≡ Some a
if_other true x a e = cc
if_other false x a e = e

pub if_first : {A : Type 0} (test : Bool) (x : Option A) (a : A) → (if test then x else None) ≡ Some a → x ≡ Some a
if_first true x a e = e
if_first false x a e = cc

pub if_holds : {A : Type 0} (test : Bool) (x : Option A) (a : A) → (if test then x else None) ≡ Some a → test ≡ true
if_holds true x a e = refl
if_holds false x a e = cc
