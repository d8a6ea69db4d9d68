use Rattle.std.proofs.Common.{◌≡◌, ◌≤◌, ◌+◌, length}
use Rattle.std.specs.Prelude.{IfSome}
use Rattle.hume_base.specs.declared.limits.TheConstants.{MAX_NODES}
use Rattle.box_calculus.specs.declared.scripts.TheConstants.{MAX_SCRIPT_LINES}
use Rattle.box_calculus.specs.Scripts.{lines_scripted, script_lines, scripted}
use Rattle.box_calculus.specs.inner.Known.{IsKnown}
use Rattle.box_calculus.proofs.scripts.run_script.Given as goal

-- the lines that are left make of the core what the script makes of the first one
abbrev pub invariant-lines : goal.invariant-lines
invariant-lines l =
    (lines_scripted l.number l.core (script_lines l.rest) ≡ scripted l.fn.core l.script)
    × (length l.core.nodes ≤ MAX_NODES) × (l.number ≤ MAX_SCRIPT_LINES + 1) × IfSome l.known (IsKnown l.core)

abbrev pub decreases-lines : goal.decreases-lines
decreases-lines l = length l.rest
