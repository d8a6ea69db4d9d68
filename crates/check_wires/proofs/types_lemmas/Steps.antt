-- One level of a type, one name more, and all declarations.
use Rattle.std.proofs.Common.{◌≡◌, ℕ, Option, Some, None, refl, option_map}
use Rattle.std.proofs.lemmas.Grind.{common_steps}
use Rattle.hume_base.specs.declared.types.Ty.{Named, the_lemmas as ty_lemmas}
use Rattle.hume_base.specs.declared.types.SumDef.{SumDef}
use Rattle.hume_ast.specs.declared.tree.TyExp.{the_lemmas as written_lemmas}
use Rattle.check_typing.specs.Partial.{given}
use Rattle.check_tables.proofs.names_lemmas.Lookup.{with_names-append}
use Rattle.check_wires.proofs.types_lemmas.Found.{all_added}

pub number_named : (o : Option (ℕ × SumDef)) → given (option_map (λ (found : ℕ × SumDef). found.0) o) (λ n. Some (Named n)) ≡ given o (λ found. Some (Named found.0))
number_named None = refl
number_named (Some found) = refl

pub ruleset type_steps = (common_steps, ty_lemmas, written_lemmas, number_named)

pub ruleset table_steps = (common_steps, with_names-append)

pub ruleset node_steps = (common_steps, all_added)
