use Rattle.std.proofs.Common.{rules}
use denote.Exit.{no}
use denote.Param.{param}
use denote.Param.Send.{IsSend, IsSync, param_send, arg_send, shr_send, sendable}
use Rattle.turn_workers.specs.contracts.items.Item as item
use Rattle.turn_workers.specs.contracts.items.ItemTimed.TheImpl.{ghosts, no_dict}
use Rattle.turn_workers.proofs.CoresCross.{core_sync}
use Rattle.turn_workers.proofs.Captured.{net_cell_send, division_sync, sides_sync, item_send, item_sync, locker_sync, seat_send, u32_send, one_more, none_left, captures_send}
use Rattle.turn_workers.proofs.rounds.+fn-run_all-join+arg3+run_all.Goals as goal

pub join-a-requires-send-F : goal.join-a-requires-send-F
join-a-requires-send-F g t c κs within =
    let p : IsSync (param 2 g.row.G) = search rules in
    let i = item_send (param 0 g.row.O) search in
    let j = item_sync (param 0 g.row.O) search in
    let l = locker_sync (item.the_row (param 0 g.row.O)) (ghosts (param 0 g.row.O) g.O.Opens no_dict) i j in
    let numbers = one_more _ _ u32_send (one_more _ _ u32_send none_left) in
    param_send 1 _ (arg_send _ no _ (captures_send _ _ (one_more _ _ (shr_send _ _ _ core_sync)
    (one_more _ _ (shr_send _ _ _ sides_sync) (one_more _ _ (shr_send _ _ _ p)
    (one_more _ _ (shr_send _ _ _ division_sync) (one_more _ _ (shr_send _ _ _ l)
    (one_more _ _ (seat_send _ i) numbers))))))))

pub split-rest-requires-send-T : goal.split-rest-requires-send-T
split-rest-requires-send-T g t c κs within = let n = net_cell_send in let o : IsSend (param 0 g.row.O) = search in search sendable depth 20

pub join-requires-send-T : goal.join-requires-send-T
join-requires-send-T g t c κs within = let n = net_cell_send in let o : IsSend (param 0 g.row.O) = search in search sendable depth 20
