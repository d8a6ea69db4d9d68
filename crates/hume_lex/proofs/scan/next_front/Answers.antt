use Rattle.std.proofs.Common.{Some, arith, refl, ap, ◌∙◌, drop, length, length-drop}
use Rattle.hume_lex.specs.inner.Scan.{first_piece}
use Rattle.hume_lex.specs.inner.View.{IsScan}
use Rattle.hume_lex.proofs.Readings.{scan_fits, scanned_piece}
use Rattle.hume_lex.proofs.scan.next_front.Goals as goal
use Rattle.hume_lex.proofs.scan.next_front.Goals.{In-Some}

scan_is : (c : In-Some) → IsScan (Some (c.in-Some.front, c.in-Some.len)) (first_piece c.args.rest.now)
scan_is c = rw c.in-Some.is at c.in_ok-found.ensures

pub split_at-requires : goal.split_at-requires
split_at-requires c = (scan_fits _ _ _ (scan_is (goal.at.split_at-requires c).In-Some)).1

pub returns-in-Some-clause-next : goal.returns-in-Some-clause-next
returns-in-Some-clause-next c =
    let p = scanned_piece _ _ _ refl (scan_is (goal.at.returns-in-Some-clause-next c).In-Some) in
    (p.0, p.1, p.2, c.split_at.ensures.back ∙ ap (λ n. drop n c.args.rest.now) p.3)

pub returns-in-Some-clause-shorter : goal.returns-in-Some-clause-shorter
returns-in-Some-clause-shorter c =
    let fits = scan_fits _ _ _ (scan_is (goal.at.returns-in-Some-clause-shorter c).In-Some) in
    omega (arith, fits.0, fits.1, ap length c.split_at.ensures.back, length-drop c.in-Some.len c.args.rest.now)
