use Rattle.std.proofs.Common.{◌≤◌, ◌*◌, ◌+◌, arith}
use Rattle.std.proofs.Math.Nat.{mul-le-mul}
use Rattle.trace_print.proofs.wire_lines.wire_bound.Goals as goal

pub returns-clause-few : goal.returns-clause-few
returns-clause-few c =
    let row : 512 * c.size.result + 3 ≤ 512 * 1024 + 3 = omega (arith, c.size.ensures, c.requires.size) in
    let all : c.args.wire.now.depth * (512 * c.size.result + 3) ≤ 16 * (512 * 1024 + 3) = mul-le-mul c.requires.depth row in
    omega (arith, all)
