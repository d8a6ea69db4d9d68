-- The parts of the object of a box.
use Rattle.std.specs.Prelude.{ℕ, ◌^◌, nat_le, nat_lt, List, [], ◌++◌, Option, Some, None, codes, length, slice_get, if◌then◌else◌, zero, suc}
use Rattle.hume_model.specs.declared.core_tree.BoxC.{BoxC}
use Rattle.hume_model.specs.declared.core_tree.PortC.{PortC}
use Rattle.c_tree.specs.declared.tree.Width.{Width}
use Rattle.c_tree.specs.declared.tree.Width.TheVariants.{W8, W16}
use Rattle.c_tree.specs.declared.tree.CExp.{CExp}
use Rattle.c_tree.specs.declared.tree.CExp.TheVariants as exp
use Rattle.c_names.specs.declared.names.Names.{Names}
use Rattle.c_nets.specs.Nets.{box_object}

abbrev pub part_of : Names → BoxC → List ℕ → CExp
part_of names b name = exp.Member (box_object names b) name

-- which outputs are pending
abbrev pub pending : Names → BoxC → CExp
pending names b = part_of names b (codes "has")

abbrev pub output_name : Option PortC → List ℕ
output_name None = codes "has"
output_name (Some port) = codes "o_" ++ port.name

-- the object of an output
abbrev pub output_of : Names → BoxC → ℕ → CExp
output_of names b place = part_of names b (output_name (slice_get b.outs place))

-- how many bits say which outputs are pending
abbrev pub mask_width : BoxC → Width
mask_width b = if nat_le (length b.outs) 8 then W8 else W16

-- the bit of an output
abbrev pub bit_of : ℕ → ℕ
bit_of place = if nat_lt place 64 then 2 ^ place else 0

-- what each place below a number gives, in their order
abbrev pub each_below : {A : Type 0} → (ℕ → List A) → ℕ → List A
each_below gives zero = []
each_below gives (suc place) = each_below gives place ++ gives place
