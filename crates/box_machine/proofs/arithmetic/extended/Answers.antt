use Rattle.std.proofs.Common.{◌≡◌, ◌+◌, ◌-◌, ◌*◌, ◌%◌, ◌^◌, ◌<◌, ◌≤◌, ap, ◌∙◌, arith}
use Rattle.std.proofs.lemmas.Nat.{one_shl, pow_pos}
use Rattle.std.proofs.Math.Nat.{mod-lt}
use Rattle.box_machine.proofs.Wrapping.{high_extended}
use Rattle.box_machine.proofs.arithmetic.extended.Goals as goal

pub returns-else-low-half : goal.returns-else-low-half
returns-else-low-half c =
    let bits = c.args.bits in
    let low = c.args.word % 2 ^ bits in
    let s = c.saturating_sub.result in
    let shift : s ≡ bits - 1 = c.saturating_sub.ensures in
    let half : 1 * 2 ^ s % 2 ^ 64 ≡ 2 ^ (bits - 1) = one_shl s 64 (omega (arith, shift, c.requires)) ∙ ap (λ n. 2 ^ n) shift in
    let below : low < 2 ^ bits = mod-lt c.args.word (pow_pos bits) in
    let high : 1 * 2 ^ s % 2 ^ 64 ≤ low = omega (arith, c.if-low-half.false, c.low-low.ensures) in
    ap (λ n. (n - 1 * 2 ^ s % 2 ^ 64 + (2 ^ 64 - 1 * 2 ^ s % 2 ^ 64)) % 2 ^ 64) c.low-low.ensures
    ∙ high_extended bits low (1 * 2 ^ s % 2 ^ 64) c.requires half below high
