-- Positions and parts past the end of the others are apart from nothing.
use Rattle.std.proofs.Common.{◌≡◌, ℕ, ◌<◌, ◌≤◌, List, drop, length, false, map, refl, drop-cons}
use Rattle.std.proofs.lemmas.Grind.{common_steps}
use Rattle.std.proofs.lemmas.List.{drop_all}
use Rattle.hume_model.specs.declared.core_tree.PatC.{PatC}
use Rattle.hume_model.specs.declared.core_tree.PatC.TheVariants as pat
use Rattle.hume_model.specs.declared.core_tree.InPat.{InPat}
use Rattle.hume_model.specs.declared.core_tree.InPat.TheVariants.{Star}
use Rattle.calculus_laws.specs.Apart.{apart, some_apart, some_apart_at}

pub some_apart-short : (parts others : List PatC) (i : ℕ) → i < length parts → length others ≤ i
    → some_apart (map apart (drop i parts)) (drop i others) ≡ false
some_apart-short parts others i within short = rw (drop-cons parts i pat.Any, drop_all i others short) refl

pub some_apart_at-short : (pats others : List InPat) (i : ℕ) → i < length pats → length others ≤ i
    → some_apart_at (drop i pats) (drop i others) ≡ false
some_apart_at-short pats others i within short = rw (drop-cons pats i Star, drop_all i others short) refl

pub ruleset apart_steps = (common_steps, some_apart-short, some_apart_at-short)
