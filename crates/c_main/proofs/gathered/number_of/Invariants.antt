use Rattle.std.proofs.Common.{◌≡◌, drop}
use Rattle.c_main.specs.Found.{place_from}
use Rattle.c_main.proofs.gathered.number_of.Given as goal

abbrev pub invariant-loop-place : goal.invariant-loop-place
invariant-loop-place l = place_from l.place l.ty (drop l.place l.found) ≡ place_from 0 l.ty l.found
