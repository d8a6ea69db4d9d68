-- When a declaration is one too many, or has too many parts.
use Rattle.std.specs.Prelude.{ℕ, ◌+◌, ◌||◌, nat_le, Bool, true, false, IsTrue, List, take}
use Rattle.std.specs.List.{count_by, list_any}
use Rattle.hume_base.specs.declared.limits.TheConstants.{MAX_FUNCTIONS, MAX_DECLARED_EXCEPTIONS, MAX_NODES, MAX_WIRES, MAX_INPUTS, MAX_OUTPUTS, MAX_RULES, MAX_PARAMETERS, MAX_FIELDS}
use Rattle.hume_ast.specs.declared.tree.TyExp.{TyExp}
use Rattle.hume_ast.specs.declared.tree.Decl.{Decl}
use Rattle.hume_ast.specs.declared.tree.Decl.TheVariants.{Sum, Exn, Fun, BoxD, Stream, Wire}
use Rattle.check_names.specs.Names.{OfDecl}
use Rattle.check_counts.specs.declared.tally.Tally.{Tally}
use Rattle.check_counts.specs.Counted.{Decls, parameters}
use Rattle.check_counts.specs.Miscounts.{has_many}

-- the declaration is that of a function
abbrev pub is_function : Decl → Bool
is_function (Fun name tys equations) = true
is_function _ = false

-- the declaration is that of an exception
abbrev pub is_exception : Decl → Bool
is_exception (Exn name ty) = true
is_exception _ = false

-- a box or a stream
abbrev pub is_node : Decl → Bool
is_node (BoxD name ins outs fair rules handlers) = true
is_node (Stream name from port) = true
is_node _ = false

-- the declaration is that of a wire
abbrev pub is_wire : Decl → Bool
is_wire (Wire from to depth initial) = true
is_wire _ = false

-- how many declarations pass the test
abbrev pub how_many : (Decl → Bool) → Decls → ℕ
how_many test decls = count_by (λ (d : ℕ × Decl). test d.1) decls

-- how many functions, exceptions, nodes and wires are declared
abbrev pub tally_of : Decls → Tally
tally_of decls = record {
  functions = how_many is_function decls;
  exceptions = how_many is_exception decls;
  nodes = how_many is_node decls;
  wires = how_many is_wire decls;
}

-- there are as many already as there may be of what the declaration declares
abbrev pub is_full_for : Tally → Decl → Bool
is_full_for before (Sum name cons) = false
is_full_for before (Exn name ty) = nat_le MAX_DECLARED_EXCEPTIONS before.exceptions
is_full_for before (Fun name tys equations) = nat_le MAX_FUNCTIONS before.functions
is_full_for before (BoxD name ins outs fair rules handlers) = nat_le MAX_NODES before.nodes
is_full_for before (Stream name from port) = nat_le MAX_NODES before.nodes
is_full_for before (Wire from to depth initial) = nat_le MAX_WIRES before.wires

-- a box has too many inputs, outputs or rules, a function parameters, or a constructor fields
abbrev pub has_many_parts : Decl → Bool
has_many_parts (Sum name cons) = list_any (λ (con : List ℕ × List TyExp). has_many MAX_FIELDS con.1) cons
has_many_parts (Exn name ty) = false
has_many_parts (Fun name tys equations) = nat_le (MAX_PARAMETERS + 1) (parameters tys)
has_many_parts (BoxD name ins outs fair rules handlers) = has_many MAX_INPUTS ins || (has_many MAX_OUTPUTS outs || has_many MAX_RULES rules)
has_many_parts (Stream name from port) = false
has_many_parts (Wire from to depth initial) = false

-- the declaration of the number is one too many of its kind, or has too many parts
abbrev pub PassesLimits : Decls → ℕ → Type 0
PassesLimits decls number = OfDecl decls number (λ decl. IsTrue (is_full_for (tally_of (take number decls)) decl || has_many_parts decl))
