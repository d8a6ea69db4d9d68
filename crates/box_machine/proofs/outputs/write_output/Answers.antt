use Rattle.std.proofs.Common.{◌≡◌, List, length, ℕ, ap, sym, ◌∙◌, arith}
use Rattle.box_code.specs.FlatObjects.{flat_at}
use Rattle.box_machine.specs.inner.Stepping.{objects_in}
use Rattle.box_machine.proofs.Finishing.{filled, one_word}
use Rattle.box_machine.proofs.outputs.write_output.Goals as goal

pub fill-requires : goal.fill-requires
fill-requires c =
    let objects = objects_in c.args.heap.now in
    let room = c.requires.room in
    let is = c.is_scalar.ensures c.if-is_scalar.true c.args.types.now objects c.args.word in
    let one = ap (λ (ws : List ℕ). length ws) (one_word (flat_at c.args.types.now objects c.args.ty.now c.args.word) c.args.word room.0 is room.1) in
    let size = room.2.size in
    (room.2.output, room.2.there, omega (arith, one, size))

pub returns-then-is_scalar : goal.returns-then-is_scalar
returns-then-is_scalar c = λ words gives.
    let objects = objects_in c.args.heap.now in
    let room = c.requires.room in
    let flat = flat_at c.args.types.now objects c.args.ty.now c.args.word in
    let is = c.is_scalar.ensures c.if-is_scalar.true c.args.types.now objects c.args.word in
    let same = one_word flat c.args.word words is gives in
    let first = one_word flat c.args.word room.0 is room.1 in
    let long : length words ≡ length room.0 = ap (λ (ws : List ℕ). length ws) (same ∙ sym first) in
    c.fill.ensures room.2.output room.2.there
    ∙ filled c.args.out.now c.args.number room.2.output c.args.word words same (long ∙ room.2.size)
