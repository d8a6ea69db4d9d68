-- Whether a wire has a first value that is none of its type.
use Rattle.std.specs.Prelude.{not, ◌||◌, Bool, true, false, Option, Some, None}
use Rattle.hume_base.specs.declared.types.Ty.{Ty}
use Rattle.hume_base.specs.declared.types.Value.{Value}
use Rattle.hume_ast.specs.declared.tree.Exp.{Exp}
use Rattle.hume_ast.specs.declared.tree.Decl.{Decl}
use Rattle.hume_ast.specs.declared.tree.Decl.TheVariants.{Wire}
use Rattle.check_typing.specs.declared.signatures.Signatures.{Signatures}
use Rattle.check_rules.specs.Constants.{is_built, constant}
use Rattle.check_wires.specs.declared.types.wires.WireTypes.{WireTypes}
use Rattle.check_wires.specs.types.NodeTypes.{type_between}

abbrev pub is_missing : Option Value → Bool
is_missing None = true
is_missing (Some value) = false

-- not built as values are, or no value of the type; where there is no type any value will do
abbrev pub is_no_value : Signatures → Option Ty → Exp → Bool
is_no_value signatures None e = not (is_built e)
is_no_value signatures (Some ty) e = not (is_built e) || is_missing (constant signatures e ty)

abbrev pub unfit_if_there : Signatures → Option Ty → Option Exp → Bool
unfit_if_there signatures type None = false
unfit_if_there signatures type (Some e) = is_no_value signatures type e

abbrev pub has_unfit_value : Signatures → WireTypes → Decl → Bool
has_unfit_value signatures types (Wire source target depth initial) = unfit_if_there signatures (type_between types source target) initial
has_unfit_value signatures types _ = false
