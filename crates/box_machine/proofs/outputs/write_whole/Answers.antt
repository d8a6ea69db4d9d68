use Rattle.std.proofs.Common.{◌≡◌, List, length, ℕ, ap, sym, ◌∙◌}
use Rattle.std.proofs.lemmas.List.{length-replicate}
use Rattle.std.proofs.lemmas.Option.{slice_get_within}
use Rattle.box_machine.proofs.outputs.write_whole.Goals as goal

pub open-requires : goal.open-requires
open-requires c = slice_get_within c.args.out.now c.args.number c.requires.room.2.output c.requires.room.2.there

pub flatten_standing-requires-clause-fill : goal.flatten_standing-requires-clause-fill
flatten_standing-requires-clause-fill c =
    let room = c.requires.room in
    let output = room.2.output in
    let zeros : length c.open.result.now ≡ output.size = ap (λ (ws : List ℕ). length ws) (c.open.ensures.zeros output room.2.there)
    ∙ length-replicate output.size 0 in
    (room.0, room.1, room.2.size ∙ sym zeros)
