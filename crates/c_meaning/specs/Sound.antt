-- Where all numbers are numbers of their types, and what a call keeps.
use Rattle.std.specs.Prelude.{◌≡◌, ◌≤◌, ◌<◌, ℕ, ⊤, true, ℤ, List, [], ◌∷◌, Option, Some, None}
use Rattle.c_meaning.specs.Numbers.{NumberType, holds}
use Rattle.c_meaning.specs.Objects.{Object, Scalar, Struct, Array, Union}
use Rattle.c_meaning.specs.Memories.{Value, Numeric, Whole, Pointer, World, Memory, Rights}
use Rattle.c_meaning.specs.Expressions.{Ended, Function, Context}

-- a number, if one is set
abbrev pub IsHeld : NumberType → Option ℤ → Type 0
IsHeld ty None = ⊤
IsHeld ty (Some number) = holds ty number ≡ true

-- each number that is set is one of its type
abbrev pub IsSound : Object → Type 0
IsSound (Scalar ty number) = IsHeld ty number
IsSound (Struct type names part) = (name : List ℕ) → IsSound (part name)
IsSound (Array count element) = (i : ℕ) → IsSound (element i)
IsSound (Union names force part) = (name : List ℕ) → IsSound (part name)

abbrev pub AreSound : List Object → Type 0
AreSound [] = ⊤
AreSound (first ∷ others) = IsSound first × AreSound others

abbrev pub IsSoundValue : Value → Type 0
IsSoundValue (Numeric x) = holds x.ty x.number ≡ true
IsSoundValue (Whole object) = IsSound object
IsSoundValue (Pointer place) = ⊤

abbrev pub AreSoundValues : List Value → Type 0
AreSoundValues [] = ⊤
AreSoundValues (first ∷ others) = IsSoundValue first × AreSoundValues others

-- what hooks deliver
pub record IsSoundWorld (world : World) : Type 0 where
  pub coming : (name : List ℕ) → AreSound (world.coming name)

pub record IsSoundMemory (memory : Memory) : Type 0 where
  pub objects : (number : ℕ) → IsSound (memory.objects number)
  pub world : IsSoundWorld memory.world

-- What stays as it was, by what may be written: objects that were there before, and the world.
pub record Stays (rights : Rights) (before after : Memory) : Type 0 where
  pub objects : (since number : ℕ) → rights ≡ Some since → number < since → after.objects number ≡ before.objects number
  pub world : (since : ℕ) → rights ≡ Some since → after.world ≡ before.world

-- what may be written are objects that are made from now on, or all
abbrev pub IsFrom : Rights → ℕ → Type 0
IsFrom rights count = (since : ℕ) → rights ≡ Some since → since ≤ count

-- how a call ends that keeps all numbers sound, and leaves alone what it may not write
pub record EndsSound (rights : Rights) (before : Memory) (end : Ended) : Type 0 where
  pub value : (value : Value) → end.value ≡ Some value → IsSoundValue value
  pub memory : IsSoundMemory end.memory
  pub stays : Stays rights before end.memory
  pub count : end.memory.count ≡ before.count

-- each call of the function, with sound arguments, keeps numbers sound
abbrev pub IsSoundFunction : Function → Type 0
IsSoundFunction function = (rights : Rights) (values : List Value) (before : Memory) (end : Ended) → IsSoundMemory before → AreSoundValues values
    → IsFrom rights before.count → function rights values before ≡ Some end → EndsSound rights before end

-- all that an expression is evaluated with is sound, for an `int` of 16 bits or more
pub record IsSoundContext (context : Context) : Type 0 where
  pub int : 16 ≤ context.int
  pub types : (name : List ℕ) (object : Object) → context.types name ≡ Some object → IsSound object
  pub functions : (name : List ℕ) (function : Function) → context.functions name ≡ Some function → IsSoundFunction function
  pub rights : IsFrom context.rights context.memory.count
  pub memory : IsSoundMemory context.memory

-- what a call gives that only computes: objects that were there stay as they were, and the world
pub record OnlyComputes (context : Context) (name : List ℕ) (arguments : Option (List Value)) (given : Value) : Type 0 where
  pub function : Function
  pub declared : context.functions name ≡ Some function
  pub values : List Value
  pub passed : arguments ≡ Some values
  pub rights : Rights
  pub end : Ended
  pub ends : function rights values context.memory ≡ Some end
  pub value : end.value ≡ Some given
  pub objects : (number : ℕ) → number < context.memory.count → end.memory.objects number ≡ context.memory.objects number
  pub world : end.memory.world ≡ context.memory.world
