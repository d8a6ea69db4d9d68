-- The call that makes a superstep: the execute step of each box; then the oldest value of each output stream goes to its hook; then the super
-- step of each box; and then the next value of each input stream goes onto its wire, if that has room.
use Rattle.std.specs.Prelude.{ℕ, ◌+◌, List, [], ◌∷◌, ◌++◌, Option, Some, None, codes, if◌then◌else◌}
use Rattle.std.specs.List.{flat_map}
use Rattle.hume_base.specs.declared.types.Ty.{Ty}
use Rattle.hume_base.specs.declared.types.Types.{Types}
use Rattle.hume_model.specs.declared.core_tree.StreamC.{StreamC}
use Rattle.hume_model.specs.declared.core_tree.WireC.{WireC}
use Rattle.hume_model.specs.declared.core_tree.NodeC.{NodeC}
use Rattle.hume_model.specs.declared.core_tree.NodeC.TheVariants as node
use Rattle.hume_model.specs.declared.core_tree.Core.{Core}
use Rattle.c_tree.specs.declared.tree.CExp.{CExp}
use Rattle.c_tree.specs.declared.tree.CExp.TheVariants as exp
use Rattle.c_tree.specs.declared.tree.CStm.{CStm}
use Rattle.c_tree.specs.declared.tree.CStm.TheVariants as stm
use Rattle.c_tree.specs.declared.tree.CHead.{CHead}
use Rattle.c_tree.specs.declared.tree.Linkage.TheVariants.{External}
use Rattle.c_tree.specs.declared.tree.CItem.{CItem}
use Rattle.c_tree.specs.declared.tree.CItem.TheVariants as item
use Rattle.c_names.specs.declared.names.Names.{Names}
use Rattle.c_names.specs.Names.{inner, outer}
use Rattle.c_forms.specs.Expressions.{read_of as by_pointer}
use Rattle.c_forms.specs.Statements.{one_if}
use Rattle.c_types.specs.Shapes.{is_scalar}
use Rattle.c_nets.specs.declared.inlets.Inlet.{Inlet}
use Rattle.c_nets.specs.Inlets.{holds_one, is_there, next_value, no_room, noted, oldest, take_out}
use Rattle.c_nets.specs.Nets.{stream_inlet, target_of, wire_to}

-- the head of a call that other files see
abbrev pub call_head : Names → List ℕ → CHead
call_head names word = record { linkage = External; result = None; name = outer names word []; parameters = [] }

abbrev pub call_function : Names → List ℕ → List CStm → CItem
call_function names word body = item.Function (record { comment = None; head = call_head names word; body = body })

abbrev pub execute_of : Names → NodeC → List CStm
execute_of names (node.Rules b) = stm.Call (inner names (codes "execute_") b.name) [] ∷ []
execute_of names _ = []

abbrev pub super_of : Names → NodeC → List CStm
super_of names (node.Rules b) = stm.Call (inner names (codes "super_") b.name) [] ∷ []
super_of names _ = []

-- how an object is passed to a hook: a number by its value, another value by a pointer
abbrev pub passed : Types → Ty → CExp → CExp
passed types ty object = if is_scalar types ty then object else by_pointer object

-- the oldest value of a wire goes to the hook of an output stream
abbrev pub given : Types → Names → StreamC → Ty → Inlet → CStm
given types names stream ty inlet = stm.Call (outer names (codes "_write_") stream.name) (passed types ty (oldest inlet) ∷ [])

-- the same, if there is one, which leaves the wire
abbrev pub written_from : Types → Names → StreamC → Ty → Inlet → CStm
written_from types names stream ty inlet = one_if (is_there inlet) (given types names stream ty inlet ∷ take_out inlet)

abbrev pub written : Types → Names → StreamC → WireC → CStm
written types names stream wire = written_from types names stream wire.ty (stream_inlet names stream wire)

abbrev pub written_on : Types → Names → StreamC → Option WireC → List CStm
written_on types names stream None = []
written_on types names stream (Some wire) = written types names stream wire ∷ []

abbrev pub write_of : Core → Names → ℕ → NodeC → List CStm
write_of core names number (node.To stream) = written_on core.types names stream (wire_to core number 0)
write_of core names number _ = []

-- of the nodes from a number on
abbrev pub writes_from : Core → Names → ℕ → List NodeC → List CStm
writes_from core names number [] = []
writes_from core names number (one ∷ nodes) = write_of core names number one ++ writes_from core names (number + 1) nodes

-- the call of the hook of an input stream, which writes its next value to a wire, if it has one, and says whether it has
abbrev pub hook_call : Names → StreamC → Inlet → CExp
hook_call names stream inlet = exp.Call (outer names (codes "_read_") stream.name) (by_pointer (next_value inlet) ∷ [])

-- the next value of an input stream goes onto its wire, if that has room
abbrev pub read_onto : Names → StreamC → ℕ → Inlet → CStm
read_onto names stream next inlet = one_if (exp.Not (no_room inlet)) (noted inlet (hook_call names stream inlet) next)

abbrev pub read_on : Names → StreamC → ℕ → Option Inlet → List CStm
read_on names stream next None = []
read_on names stream next (Some inlet) = read_onto names stream next inlet ∷ []

-- the first number that no variable has behind what is noted
abbrev pub number_behind : ℕ → Option Inlet → ℕ
number_behind next None = next
number_behind next (Some inlet) = if holds_one inlet.depth then next else next + 1

-- the next value of a node that is an input stream goes onto its wire; `next` is the first number that no variable has
abbrev pub read_of : Core → Names → ℕ → ℕ → NodeC → List CStm
read_of core names next number (node.From stream) = read_on names stream next (target_of core names number 0)
read_of core names next number _ = []

-- the first number that no variable has behind that
abbrev pub next_behind : Core → Names → ℕ → ℕ → NodeC → ℕ
next_behind core names next number (node.From stream) = number_behind next (target_of core names number 0)
next_behind core names next number _ = next

-- of the nodes from a number on
abbrev pub reads_from : Core → Names → ℕ → ℕ → List NodeC → List CStm
reads_from core names next number [] = []
reads_from core names next number (one ∷ nodes) =
    read_of core names next number one ++ reads_from core names (next_behind core names next number one) (number + 1) nodes

abbrev pub step_body : Core → Names → List CStm
step_body core names = flat_map (execute_of names) core.nodes
    ++ (writes_from core names 0 core.nodes ++ (flat_map (super_of names) core.nodes ++ reads_from core names 1 0 core.nodes))

abbrev pub step_function : Core → Names → CItem
step_function core names = call_function names (codes "_step") (step_body core names)
