-- The form of each expression and of each statement.
use Rattle.std.proofs.lemmas.Grind.{common_steps}
use Rattle.c_tree.specs.declared.tree.CExp.TheVariants.{outs-Truth, outs-Unsigned, outs-Signed, outs-Name, outs-Pointed, outs-Member, outs-Element, outs-Call}
use Rattle.c_tree.specs.declared.tree.CExp.TheVariants.{outs-Cast, outs-Negate, outs-Not, outs-Address, outs-Binary, outs-All, outs-Any, outs-Choice}
use Rattle.c_tree.specs.declared.tree.CStm.TheVariants.{outs-Comment, outs-Declare, outs-Define, outs-Assign, outs-Increment, outs-Decrement}
use Rattle.c_tree.specs.declared.tree.CStm.TheVariants.{outs-Call as outs-Call-statement, outs-If, outs-Switch, outs-For, outs-Break, outs-Return}

pub ruleset opened_forms = (
  common_steps,
  outs-Truth,
  outs-Unsigned,
  outs-Signed,
  outs-Name,
  outs-Pointed,
  outs-Member,
  outs-Element,
  outs-Call,
  outs-Cast,
  outs-Negate,
  outs-Not,
  outs-Address,
  outs-Binary,
  outs-All,
  outs-Any,
  outs-Choice,
)

pub ruleset opened_statements = (
  common_steps,
  outs-Comment,
  outs-Declare,
  outs-Define,
  outs-Assign,
  outs-Increment,
  outs-Decrement,
  outs-Call-statement,
  outs-If,
  outs-Switch,
  outs-For,
  outs-Break,
  outs-Return,
)
