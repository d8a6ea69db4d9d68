use Rattle.std.proofs.Common.{◌≡◌, length, drop}
use Rattle.check_declarations.specs.boxes.inner.Rules.{HasParts, with_others, with_positions}
use Rattle.check_declarations.proofs.boxes.positions.positions.Given as goal

-- the cores so far and those of what is left are those of all
abbrev pub invariant-loop-place : goal.invariant-loop-place
invariant-loop-place l = record {
  parts : HasParts (length l.pats) l.at;
  so_far : with_others (l.cores, l.some_too_wide) l.place (drop l.place l.pats) l.at ≡ with_positions l.pats l.fn.at;
}
