-- Where objects are: memory, places in it, and what names stand for.
use Rattle.std.specs.Prelude.{ℕ, ◌+◌, ◌==◌, nat_le, ◌&&◌, Bool, not, ℤ, List, [], ◌∷◌, ◌++◌, Option, Some, None, if◌then◌else◌}
use Rattle.std.specs.Str.{bytes_eq}
use Rattle.std.specs.Option.{is_some}
use Rattle.c_meaning.specs.Numbers.{CNumber, and_then, of_type}
use Rattle.c_meaning.specs.Objects.{Object, Scalar, Struct, Step, at_path, changed, declared_at}

-- A place in memory: the number of an object, and the path to one within it. 6.7.3: what is `const`, or is reached by a pointer to `const`,
-- isn't written.
pub record Place : Type 0 where
  pub block : ℕ
  pub path : List Step
  pub constant : Bool

-- what an expression gives: a number, a whole struct, or a pointer
pub data Value : Type 0 where
  Numeric : CNumber → Value
  Whole : Object → Value
  Pointer : Place → Value

-- The world behind the hooks: for each hook that reads, what is still to come, and for each that writes, what it was given.
pub record World : Type 0 where
  pub coming : List ℕ → List Object
  pub given : List ℕ → List Value

-- All objects by number, how many there are, and the world. 6.2.4: objects of a block are gone at its end, so later ones take their numbers.
pub record Memory : Type 0 where
  pub objects : ℕ → Object
  pub count : ℕ
  pub world : World

-- what a name stands for: an object, what a pointer points to, or a constant of an enumeration
pub data Named : Type 0 where
  Variable : Place → Named
  Pointing : Place → Named
  Constant : ℤ → Named

-- 6.2.1: the names that are in scope, the last one first
abbrev pub Scope : Type 0
Scope = List (List ℕ × Named)

abbrev pub named : List ℕ → Scope → Option Named
named name [] = None
named name ((other, what) ∷ others) = if bytes_eq name other then Some what else named name others

-- What may be written: all, or only objects made since so many were there, and then no hook may be called.
abbrev pub Rights : Type 0
Rights = Option ℕ

abbrev pub may_write : Rights → Place → Bool
may_write None place = not place.constant
may_write (Some since) place = nat_le since place.block && not place.constant

-- the object that is read at the place
abbrev pub read_at : Memory → Place → Option Object
read_at memory place = if nat_le memory.count place.block then None else at_path place.path (memory.objects place.block)

-- 6.3.2.1: what is read of an object. An unset number has no value, a union none as a whole, and of an array elements alone are read.
-- 6.2.6.1: a struct has a value, whether or not its members have.
abbrev pub value_of : Object → Option Value
value_of (Scalar ty (Some number)) = Some (Numeric (of_type ty number))
value_of (Struct type names part) = Some (Whole (Struct type names part))
value_of _ = None

-- the object at the place as it is declared, also where it is of a member of a union that isn't in force
abbrev pub read_declared : Memory → Place → Option Object
read_declared memory place = if nat_le memory.count place.block then None else declared_at place.path (memory.objects place.block)

abbrev pub declares : Memory → Place → Bool
declares memory place = is_some (read_declared memory place)

abbrev pub with_object : Memory → ℕ → Object → Memory
with_object memory number new = record memory { objects = λ other. if other == number then new else memory.objects other }

-- the memory in which the object at the place is changed
abbrev pub changed_at : Rights → Memory → Place → (Object → Option Object) → Option Memory
changed_at rights memory place change =
    if nat_le memory.count place.block then None
    else (if may_write rights place
    then and_then (changed place.path change (memory.objects place.block)) (λ new. Some (with_object memory place.block new))
    else None)

-- the memory with one more object
abbrev pub made : Memory → Object → Memory
made memory object = record (with_object memory memory.count object) { count = memory.count + 1 }

-- the place of the object that is made next
abbrev pub next_place : Memory → Bool → Place
next_place memory constant = record { block = memory.count; path = []; constant = constant }

-- the place at a step from another one
abbrev pub inner_place : Place → Step → Place
inner_place place step = record place { path = place.path ++ (step ∷ []) }

-- the memory in which objects that were made since so many were there are gone
abbrev pub left_with : ℕ → Memory → Memory
left_with count memory = record memory { count = count }
