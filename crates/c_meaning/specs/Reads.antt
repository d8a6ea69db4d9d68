-- What is read after a write.
use Rattle.std.specs.Prelude.{◌≡◌, List, Option, Some}
use Rattle.c_meaning.specs.Numbers.{NumberType, CNumber, converted}
use Rattle.c_meaning.specs.Objects.{Object, Scalar, Step, at_path}

-- At the end of the path a number is read: the one that was assigned, converted to the type that is declared there.
pub record IsAssigned (x : CNumber) (path : List Step) (after : Object) : Type 0 where
  pub ty : NumberType
  pub number : CNumber
  pub converts : converted ty x.number ≡ Some number
  pub reads : at_path path after ≡ Some (Scalar ty (Some number.number))

-- At the end of the path the object is read that a change made of another one.
pub record IsChanged (path : List Step) (change : Object → Option Object) (after : Object) : Type 0 where
  pub old : Object
  pub new : Object
  pub makes : change old ≡ Some new
  pub reads : at_path path after ≡ Some new
