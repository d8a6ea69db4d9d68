-- One more declaration.
use Rattle.std.specs.Prelude.{ℕ, ◌+◌, ◌<◌, ◌^◌, ◌||◌, Bool, if◌then◌else◌}
use Rattle.hume_ast.specs.declared.tree.Decl.{Decl}
use Rattle.check_counts.specs.declared.tally.Tally.{Tally}
use Rattle.check_counts.specs.Limits.{is_function, is_exception, is_node, is_wire, is_full_for, has_many_parts}

abbrev pub one_if : Bool → ℕ
one_if test = if test then 1 else 0

abbrev pub with_one : Tally → Decl → Tally
with_one tally decl = record {
  functions = tally.functions + one_if (is_function decl);
  exceptions = tally.exceptions + one_if (is_exception decl);
  nodes = tally.nodes + one_if (is_node decl);
  wires = tally.wires + one_if (is_wire decl);
}

-- one more of each can be counted
pub record IsSmall (tally : Tally) : Type 0 where
  pub functions : tally.functions < 2 ^ 32
  pub exceptions : tally.exceptions < 2 ^ 32
  pub nodes : tally.nodes < 2 ^ 32
  pub wires : tally.wires < 2 ^ 32

-- the declaration is one too many, by those before it, or has too many parts
abbrev pub passes : Tally → Decl → Bool
passes before decl = is_full_for before decl || has_many_parts decl
