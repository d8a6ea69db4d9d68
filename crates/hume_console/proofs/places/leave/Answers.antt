use Rattle.std.proofs.Common.{◌<◌, ◌≤◌, length, arith, refl}
use Rattle.hume_console.specs.Hands.{place_without}
use Rattle.hume_console.proofs.Placing.{one_moved, every_moved}
use Rattle.hume_console.proofs.places.leave.Goals as goal

pub loop-i-init : goal.loop-i-init
loop-i-init c = refl

pub loop-i-preserved : goal.loop-i-preserved
loop-i-preserved c =
    let less : c.loop-i.i < length c.loop-i.places = omega arith in
    one_moved (place_without c.args.gone) c.loop-i.i c.args.places.now c.loop-i.places _ c.place_without.result c.loop-i.invariant less c.place_without.ensures

pub returns : goal.returns
returns c =
    let past : length c.loop-i.places ≤ c.loop-i.i = omega arith in
    every_moved (place_without c.args.gone) c.loop-i.i c.args.places.now c.loop-i.places c.loop-i.invariant past
