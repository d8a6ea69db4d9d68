-- What declarations of types declare: for each type an unset object of it.
use Rattle.std.specs.Prelude.{ℕ, pos, List, [], ◌∷◌, ◌++◌, Option, Some, None, if◌then◌else◌, map}
use Rattle.std.specs.Str.{bytes_eq}
use Rattle.c_tree.specs.declared.tree.CMember.{CMember, fold-CMember}
use Rattle.c_tree.specs.declared.tree.CMember.TheOpen.{CMember-F}
use Rattle.c_tree.specs.declared.tree.CConstant.{CConstant}
use Rattle.c_meaning.specs.Numbers.{Truth, and_then}
use Rattle.c_meaning.specs.Objects.{Object, Scalar, Struct, Array, Union}
use Rattle.c_meaning.specs.Memories.{Scope, Constant}
use Rattle.c_meaning.specs.Expressions.{Types, blank}

-- with another answer for one name
abbrev pub with_answer : {A : Type 0} → List ℕ → A → (List ℕ → A) → List ℕ → A
with_answer name answer old other = if bytes_eq other name then answer else old other

-- the members of a struct or a union that have names, each with an unset object
abbrev pub Members : Type 0
Members = List (List ℕ × Object)

abbrev pub member_names : Members → List (List ℕ)
member_names members = map (λ (member : List ℕ × Object). member.0) members

abbrev pub member_object : Members → List ℕ → Object
member_object [] name = Scalar Truth None
member_object ((other, object) ∷ others) name = if bytes_eq other name then object else member_object others name

abbrev pub all_members : List (Types → Option Members) → Types → Option Members
all_members [] types = Some []
all_members (first ∷ others) types =
    and_then (first types) (λ members. and_then (all_members others types) (λ more. Some (members ++ more)))

-- 6.7.2.1
abbrev pub struct_of : List ℕ → Members → Object
struct_of type members = Struct type (member_names members) (member_object members)

abbrev pub union_of : Members → Object
union_of members = Union (member_names members) None (member_object members)

abbrev pub one_member : List ℕ → Object → Members
one_member name object = (name, object) ∷ []

-- one level of a member, with what its parts declare
abbrev pub declare_member : CMember-F (Types → Option Members) → Types → Option Members
-- 6.4.9
declare_member (CMember-F.Comment text) types = Some []
-- 6.7.2.1
declare_member (CMember-F.Plain type name) types = and_then (blank types type) (λ object. Some (one_member name object))
-- 6.7.5.2
declare_member (CMember-F.Array type name count) types =
    and_then (blank types type) (λ object. Some (one_member name (Array count (λ i. object))))
-- 6.7.2.1: a struct or a union within another type has no name of its own
declare_member (CMember-F.Struct parts name) types = and_then (all_members parts types) (λ members. Some (one_member name (struct_of [] members)))
declare_member (CMember-F.Union parts name) types = and_then (all_members parts types) (λ members. Some (one_member name (union_of members)))

-- what members declare, by the types that are declared
abbrev pub declared_members : List CMember → Types → Option Members
declared_members members = all_members (map (fold-CMember (Types → Option Members) declare_member) members)

-- 6.7.2.2: the constants of an enumeration, in front of what is in scope
abbrev pub with_constants : List CConstant → Scope → Scope
with_constants [] scope = scope
with_constants (first ∷ others) scope = with_constants others ((first.name, Constant (pos first.value)) ∷ scope)
