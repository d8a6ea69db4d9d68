use Rattle.std.proofs.Common.{◌≡◌, ℕ, Option, map, take}
use Rattle.std.specs.Option.{unwrap_or}
use Rattle.box_compile.proofs.boxes.all_places.Given as goal

abbrev pub invariant-loop-place : goal.invariant-loop-place
invariant-loop-place l = l.places ≡ map (λ (place : Option ℕ). unwrap_or place l.end) (take l.place-index l.found)
