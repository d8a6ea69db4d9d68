-- Objects of C, and what is read and written within them.
use Rattle.std.specs.Prelude.{ℕ, ◌==◌, nat_lt, Bool, true, false, ℤ, pos, List, [], ◌∷◌, Option, Some, None, if◌then◌else◌}
use Rattle.std.specs.Str.{bytes_eq}
use Rattle.c_meaning.specs.Numbers.{NumberType, CNumber, and_then, same_type, converted}

-- 6.2.5: a number of a declared type, which may be unset; a struct, of a type of that name, whose members have names; an array of so many
-- elements; or a union, of whose members at most one is in force: the one that was written last. What is declared never changes.
pub data Object : Type 0 where
  Scalar : NumberType → Option ℤ → Object
  Struct : List ℕ → List (List ℕ) → (List ℕ → Object) → Object
  Array : ℕ → (ℕ → Object) → Object
  Union : List (List ℕ) → Option (List ℕ) → (List ℕ → Object) → Object

abbrev pub is_among : List ℕ → List (List ℕ) → Bool
is_among name [] = false
is_among name (first ∷ others) = if bytes_eq name first then true else is_among name others

-- ---- first values

-- 6.7.8, 6.2.4: an object of a function begins with no value: each number is unset, and no member of a union is in force
abbrev pub unset : Object → Object
unset (Scalar ty number) = Scalar ty None
unset (Struct type names part) = Struct type names (λ name. unset (part name))
unset (Array count element) = Array count (λ i. unset (element i))
unset (Union names force part) = Union names None (λ name. unset (part name))

-- of a union only the first member has its zeros
abbrev pub first_zeroed : List (List ℕ) → (List ℕ → Object) → (List ℕ → Object) → Object
first_zeroed [] zeros unsets = Union [] None unsets
first_zeroed (first ∷ others) zeros unsets = Union (first ∷ others) (Some first) (λ name. if bytes_eq name first then zeros name else unsets name)

-- 6.7.8: a static object begins with zeros, and of a union the first member is in force
abbrev pub zeroed : Object → Object
zeroed (Scalar ty number) = Scalar ty (Some (pos 0))
zeroed (Struct type names part) = Struct type names (λ name. zeroed (part name))
zeroed (Array count element) = Array count (λ i. zeroed (element i))
zeroed (Union names force part) = first_zeroed names (λ name. zeroed (part name)) (λ name. unset (part name))

-- ---- paths

-- a step from an object to one within it
pub data Step : Type 0 where
  Member : List ℕ → Step
  Element : ℕ → Step

-- 6.5.2.3: a member that the type has. 6.5.2.1, 6.5.6: an element within the bounds.
abbrev pub declared_step : Step → Object → Option Object
declared_step (Member name) (Struct type names part) = if is_among name names then Some (part name) else None
declared_step (Member name) (Union names force part) = if is_among name names then Some (part name) else None
declared_step (Element i) (Array count element) = if nat_lt i count then Some (element i) else None
declared_step _ _ = None

-- the object that a path leads to, as it is declared
abbrev pub declared_at : List Step → Object → Option Object
declared_at [] object = Some object
declared_at (step ∷ path) object = and_then (declared_step step object) (declared_at path)

-- 6.2.6.1: other members of a union than the one that was written last have no values that C tells: they aren't read
abbrev pub is_read : Step → Object → Bool
is_read (Member name) (Union names (Some force) part) = bytes_eq name force
is_read (Member name) (Union names None part) = false
is_read _ _ = true

abbrev pub at_step : Step → Object → Option Object
at_step step object = if is_read step object then declared_step step object else None

-- the object that is read along a path
abbrev pub at_path : List Step → Object → Option Object
at_path [] object = Some object
at_path (step ∷ path) object = and_then (at_step step object) (at_path path)

-- ---- writing

-- a union's member as it is when it is written: what it had if it was in force, and nothing otherwise
abbrev pub in_force : List ℕ → Option (List ℕ) → Object → Object
in_force name (Some force) part = if bytes_eq name force then part else unset part
in_force name None part = unset part

-- one part among others
abbrev pub with_member : (List ℕ → Object) → List ℕ → Object → List ℕ → Object
with_member part name new other = if bytes_eq other name then new else part other

abbrev pub with_element : (ℕ → Object) → ℕ → Object → ℕ → Object
with_element element i new j = if j == i then new else element j

-- The object with a change at the step. 6.2.6.1: a union's member is in force when it, or a part of it, has been written.
abbrev pub changed_step : Step → (Object → Option Object) → Object → Option Object
changed_step (Member name) change (Struct type names part) =
    if is_among name names then and_then (change (part name)) (λ new. Some (Struct type names (with_member part name new))) else None
changed_step (Member name) change (Union names force part) =
    if is_among name names
    then and_then (change (in_force name force (part name))) (λ new. Some (Union names (Some name) (with_member part name new)))
    else None
changed_step (Element i) change (Array count element) =
    if nat_lt i count then and_then (change (element i)) (λ new. Some (Array count (with_element element i new))) else None
changed_step _ _ _ = None

-- the object with a change at the end of a path
abbrev pub changed : List Step → (Object → Option Object) → Object → Option Object
changed [] change object = change object
changed (step ∷ path) change object = changed_step step (changed path change) object

-- 6.5.16.1: an assigned number is converted to the declared type of its object
abbrev pub with_number : CNumber → Object → Option Object
with_number x (Scalar ty old) = and_then (converted ty x.number) (λ new. Some (Scalar ty (Some new.number)))
with_number x _ = None

-- ---- types

-- whether it is a struct of a type with a name; each other struct has a type of its own
abbrev pub is_named : List ℕ → Bool
is_named [] = false
is_named (byte ∷ bytes) = true

-- 6.2.7, 6.7.2.3: whether both are declared as one type: of numbers, or a struct of a type with a name
abbrev pub of_one_type : Object → Object → Bool
of_one_type (Scalar left old) (Scalar right new) = same_type left right
of_one_type (Struct left names part) (Struct right others other) = if is_named left then bytes_eq left right else false
of_one_type _ _ = false

-- 6.5.16.1: the object, where one of its type stood
abbrev pub in_place_of : Object → Object → Option Object
in_place_of new old = if of_one_type new old then Some new else None

-- ---- where objects lie

abbrev pub same_step : Step → Step → Bool
same_step (Member left) (Member right) = bytes_eq left right
same_step (Element left) (Element right) = left == right
same_step _ _ = false

-- members of a union share their bytes
abbrev pub parts_at : Object → Bool
parts_at (Union names force part) = false
parts_at _ = true

abbrev pub holds_of : Option Object → (Object → Bool) → Bool
holds_of None property = false
holds_of (Some object) property = property object

-- whether what two paths lead to lies apart: they part at a struct or an array
abbrev pub lie_apart : List Step → List Step → Object → Bool
lie_apart (left ∷ lefts) (right ∷ rights) object =
    if same_step left right then holds_of (declared_step left object) (lie_apart lefts rights) else parts_at object
lie_apart _ _ object = false
