use Rattle.hume_base.proofs.Least.{IsLeast-either}
use Rattle.wiring_check.proofs.findings.least_broken.Goals as goal

pub returns : goal.returns
returns c =
    rw (c.earlier-4.ensures, c.earlier-3.ensures, c.earlier-2.ensures, c.earlier.ensures)
    (IsLeast-either _ _ _ _ c.least_lack-no_input.ensures (IsLeast-either _ _ _ _ c.least_repeat-input_again.ensures
    (IsLeast-either _ _ _ _ c.least_lack-no_output.ensures (IsLeast-either _ _ _ _ c.least_repeat-output_again.ensures c.least_join-others.ensures))))
