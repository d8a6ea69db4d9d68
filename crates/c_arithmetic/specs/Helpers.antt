-- The functions of arithmetic, by width.
use Rattle.std.specs.Prelude.{ℕ, ◌++◌, true, false, List, [], ◌∷◌, codes, Some, None, map, if◌then◌else◌}
use Rattle.std.specs.List.{flat_map, range_with_len}
use Rattle.c_tree.specs.declared.tree.CType.{CType}
use Rattle.c_tree.specs.declared.tree.CType.TheVariants as type
use Rattle.c_tree.specs.declared.tree.Passing.TheVariants as passing
use Rattle.c_tree.specs.declared.tree.Linkage.TheVariants.{StaticInline}
use Rattle.c_tree.specs.declared.tree.CParameter.{CParameter}
use Rattle.c_tree.specs.declared.tree.CHead.{CHead}
use Rattle.c_tree.specs.declared.tree.CFunction.{CFunction}
use Rattle.c_tree.specs.declared.tree.CItem.{CItem}
use Rattle.c_tree.specs.declared.tree.CItem.TheVariants as item
use Rattle.c_names.specs.declared.names.Names.{Names}
use Rattle.c_arithmetic.specs.declared.functions.Helper.{Helper}
use Rattle.c_arithmetic.specs.declared.functions.Helper.TheVariants as helper
use Rattle.c_arithmetic.specs.declared.functions.Numbers.{Numbers}
use Rattle.c_arithmetic.specs.Widths.{c_type, work, numbers_with}
use Rattle.c_arithmetic.specs.Bodies.{body, helper_name}

abbrev pub parameter : List ℕ → CType → CParameter
parameter name ty = record { ty = ty; passing = passing.Value; name = name }

abbrev pub two_parameters : Numbers → List CParameter
two_parameters numbers = parameter (codes "a") (c_type numbers) ∷ parameter (codes "b") (c_type numbers) ∷ []

abbrev pub parameters : Helper → Numbers → List CParameter
parameters helper.To numbers = parameter (codes "u") (type.Unsigned (work numbers)) ∷ []
parameters helper.Neg numbers = parameter (codes "a") (c_type numbers) ∷ []
parameters _ numbers = two_parameters numbers

abbrev pub result : Helper → Numbers → CType
result helper.Less numbers = type.Bool
result helper.LessEqual numbers = type.Bool
result helper.Equal numbers = type.Bool
result _ numbers = c_type numbers

abbrev pub head : Names → Helper → Numbers → CHead
head names which numbers = record {
  linkage = StaticInline;
  result = Some (result which numbers);
  name = helper_name names which numbers;
  parameters = parameters which numbers;
}

-- the function of an operation for the numbers
abbrev pub helper_function : Names → Helper → Numbers → CFunction
helper_function names which numbers = record { comment = None; head = head names which numbers; body = body names which numbers }

-- the functions that numbers with a sign have, each behind those that it calls
abbrev pub signed_helpers : List Helper
signed_helpers = helper.To ∷ helper.Neg ∷ helper.Add ∷ helper.Sub ∷ helper.Mul ∷ helper.Div ∷ helper.Mod ∷ helper.Less ∷ helper.LessEqual
    ∷ helper.Equal ∷ []

-- those of numbers without a sign, which C's own operators divide
abbrev pub unsigned_helpers : List Helper
unsigned_helpers = helper.To ∷ helper.Neg ∷ helper.Add ∷ helper.Sub ∷ helper.Mul ∷ helper.Less ∷ helper.LessEqual ∷ helper.Equal ∷ []

abbrev pub helpers_of : Numbers → List Helper
helpers_of numbers = if numbers.signed then signed_helpers else unsigned_helpers

abbrev pub function_item : Names → Numbers → Helper → CItem
function_item names numbers which = item.Function (helper_function names which numbers)

-- the functions for the numbers
unfoldable pub helpers_for : Names → Numbers → List CItem
helpers_for names numbers = map (function_item names numbers) (helpers_of numbers)

-- the functions of a width
unfoldable pub helpers_at : Names → ℕ → List CItem
helpers_at names bits = helpers_for names (numbers_with false bits) ++ helpers_for names (numbers_with true bits)

-- the functions of all widths
unfoldable pub helpers : Names → List CItem
helpers names = flat_map (helpers_at names) (range_with_len 1 64)
