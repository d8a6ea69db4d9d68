-- What a worker's closure captures may go to another thread.
use denote.RattleType.{RattleType}
use denote.Plain.{UInt}
use mir.Syntax.{w32}
use mathlib.Core.List.{List, [], ◌∷◌}
use mir.Syntax.{Sym}
use denote.Struct.Struct.{Struct}
use denote.Struct.Declared.{fields, shape}
use denote.Struct.Field.{u32-field, u64-field}
use denote.Struct.Tuple.{TupleAt, type_at}
use denote.Param.Send.{IsSend, IsSync, AllSend, AllSync, recorded_send, recorded_sync, struct_send, struct_sync, sendable}
use Rattle.std.specs.contracts.alloc.Global as global
use Rattle.std.proofs.Crossing.{crosses}
use Rattle.hume_base.specs.contracts.list.List as a_list
use Rattle.hume_base.proofs.list.List.TheSendSync as list
use Rattle.wire_cells.proofs.cell.WireCell.TheSendSync as wires
use Rattle.step_turns.specs.contracts.sides.Sides as sides
use Rattle.turn_locker.specs.contracts.locker.Locker as locker
use Rattle.turn_locker.proofs.locker.Locker.TheSendSync as lockers
use Rattle.turn_locker.specs.contracts.view.View as view
use Rattle.turn_locker.specs.declared.timed.Timed as timed
use Rattle.atomic_table.specs.contracts.shared.Seat as seat
use Rattle.atomic_table.proofs.shared.Seat.TheSendSync as seats
use Rattle.std.specs.contracts.option.Option as option
use Rattle.turn_workers.specs.contracts.cells.NetCell as net_cell
use Rattle.turn_workers.specs.contracts.cells.Group as group
use Rattle.turn_workers.specs.contracts.ways.Ways as ways
use Rattle.turn_workers.specs.contracts.division.Division as division
use Rattle.hume_net.specs.contracts.plan.Plan as plan
use Rattle.superstep_core.specs.contracts.grouping.Grouping as grouping
use Rattle.turn_workers.specs.contracts.items.Item as item
use Rattle.turn_workers.proofs.CellsCross.{cell_field_send, cell_field_sync}

pub sides_sync : IsSync sides.the_row
sides_sync = let n : IsSync (a_list.the_row (UInt w32)) = list.the_sync (UInt w32) (search sendable) in
    let l : IsSync (a_list.the_row (a_list.the_row (UInt w32))) = list.the_sync (a_list.the_row (UInt w32)) n in search sendable depth 20

plan_sync : IsSync (plan.the_field).row
plan_sync = let n : IsSync (a_list.the_row (UInt w32)) = list.the_sync (UInt w32) (search sendable) in search sendable depth 20

grouping_sync : IsSync (grouping.the_field).row
grouping_sync = let n : IsSync (a_list.the_row (UInt w32)) = list.the_sync (UInt w32) (search sendable) in search sendable depth 20

ways_sync : IsSync (ways.the_field).row
ways_sync = let n : IsSync (a_list.the_row (UInt w32)) = list.the_sync (UInt w32) (search sendable) in
    let l : IsSync (a_list.the_row (a_list.the_row (UInt w32))) = list.the_sync (a_list.the_row (UInt w32)) n in search sendable depth 20

pub division_sync : IsSync division.the_row
division_sync =
    let n : IsSync (a_list.the_row (UInt w32)) = list.the_sync (UInt w32) (search sendable) in
    let all : AllSync ((plan.the_field).row ∷ (grouping.the_field).row ∷ (ways.the_field).row ∷ a_list.the_row (UInt w32) ∷ []) =
    (plan_sync, (grouping_sync, (ways_sync, (n, tt)))) in
    let T = division.the_type in
    recorded_sync (Struct (shape T)) T.D T.to T.to_one (struct_sync (shape T) all)

pub group_send : IsSend (group.the_field).row
group_send = let c = cell_field_send in let w = wires.the_send in search (sendable, crosses) depth 20

pub group_sync : IsSync (group.the_field).row
group_sync = let c = cell_field_sync in let w = wires.the_sync in search (sendable, crosses) depth 20

pub net_cell_send : IsSend (net_cell.the_field).row
net_cell_send = let c = group_send in let w = wires.the_send in search sendable depth 20

pub net_cell_sync : IsSync (net_cell.the_field).row
net_cell_sync = let c = group_sync in let w = wires.the_sync in search sendable depth 20

pub item_send : (O : RattleType) → IsSend O → IsSend (item.the_row O)
item_send O s = let c = net_cell_send in search sendable depth 20

pub item_sync : (O : RattleType) → IsSync O → IsSync (item.the_row O)
item_sync O s = let c = net_cell_sync in search sendable depth 20

pub locker_sync : (T : RattleType) (g : timed.Ghosts T.Denot) → IsSend T → IsSync T → IsSync (locker.the_row T g)
locker_sync T g s y = lockers.the_sync T g s y

pub seat_send : (T : RattleType) → IsSend T → IsSend (seat.the_row (option.the_row T) view.the_row)
seat_send T s = seats.the_send (option.the_row T) view.the_row (search sendable depth 20)

pub global_send : IsSend global.the_row
global_send = search (sendable, crosses) depth 20

pub u32_send : IsSend (u32-field).row
u32_send = search sendable

pub u64_send : IsSend (u64-field).row
u64_send = search sendable

all_fields : (types : List RattleType) → AllSend types → AllSend (fields (type_at [] types))
all_fields [] all = tt
all_fields (T ∷ Ts) all = (all.0, all_fields Ts all.1)

-- values of all these types may go to another thread
pub record MayCross (types : List RattleType) : Type 0 where
  pub all : AllSend types

pub none_left : MayCross []
none_left = record { all = tt }

pub one_more : (T : RattleType) (Ts : List RattleType) → IsSend T → MayCross Ts → MayCross (T ∷ Ts)
one_more T Ts one rest = record { all = (one, rest.all) }

pub captures_send : (name : Sym) (types : List RattleType) → MayCross types → IsSend (TupleAt name types)
captures_send name types cross = let T = type_at name types in recorded_send (Struct (shape T)) T.D T.to T.to_one
    (struct_send (shape T) (all_fields types cross.all))
