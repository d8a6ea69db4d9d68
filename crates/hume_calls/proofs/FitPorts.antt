-- Which ports may be streams'.
use Rattle.std.proofs.Common.{◌≡◌, ℕ, zero, suc, ◌<◌, List, [], ◌∷◌, length, Some, sym, subst, arith}
use Rattle.std.specs.Str.{bytes_eq}
use Rattle.hume_ports.specs.Ports.{place_of}
use Rattle.hume_ports.proofs.Names.{same_name, place-zero, place-suc}
use Rattle.port_acts.specs.Places.{IsPlaceOf, name_at}

found_within : (name : List ℕ) (names : List (List ℕ)) (at : ℕ) → place_of name names ≡ Some at → at < length names
found_within name [] at found = cc
found_within name (first ∷ others) zero found = omega arith
found_within name (first ∷ others) (suc at) found =
    let later = found_within name others at (place-suc (bytes_eq first name) (place_of name others) at found).1 in omega (arith, later)

pub found_named : (name : List ℕ) (names : List (List ℕ)) (at : ℕ) → place_of name names ≡ Some at → name_at names at ≡ name
found_named name [] at found = cc
found_named name (first ∷ others) zero found = same_name first name (place-zero (bytes_eq first name) (place_of name others) found)
found_named name (first ∷ others) (suc at) found = found_named name others at (place-suc (bytes_eq first name) (place_of name others) at found).1

-- what is found by a name is the place that the name means
pub found_place : (name : List ℕ) (names : List (List ℕ)) (at : ℕ) → place_of name names ≡ Some at → IsPlaceOf name names at
found_place name names at found =
    let named = found_named name names at found in
    let P : List ℕ → Type 0 = λ n. place_of n names ≡ Some at in
    record {
      place = record { within = found_within name names at found; first = subst P (sym named) found };
      named = named;
    }

-- by another copy of the name
pub found_by : (copy name : List ℕ) (names : List (List ℕ)) (at : ℕ) → copy ≡ name → place_of copy names ≡ Some at → IsPlaceOf name names at
found_by copy name names at same found = found_place name names at (subst (λ (n : List ℕ). place_of n names ≡ Some at) same found)
