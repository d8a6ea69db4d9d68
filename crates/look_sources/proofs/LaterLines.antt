-- Refusals in rising lines, and one more.
use Rattle.std.proofs.Common.{◌≡◌, ℕ, ◌<◌, List, [], ◌∷◌, ◌++◌, refl}
use Rattle.std.proofs.lemmas.Grind.{common_steps}
use Rattle.hume_base.specs.declared.rule.Refusal.{Refusal}
use Rattle.look_sources.specs.Lines.{AreInLaterLines}
use Rattle.look_sources.specs.inner.Lines.{last_line}

pub later_more : (line : ℕ) (refusals : List Refusal) (last : Refusal) → AreInLaterLines line refusals → last_line line refusals < last.line
    → AreInLaterLines line (refusals ++ last ∷ [])
later_more line [] last later h = (h, tt)
later_more line (refusal ∷ others) last later h = (later.0, later_more refusal.line others last later.1 h)

pub last_more : (line : ℕ) (refusals : List Refusal) (last : Refusal) → last_line line (refusals ++ last ∷ []) ≡ last.line
last_more line [] last = refl
last_more line (refusal ∷ others) last = last_more refusal.line others last

pub ruleset later_steps = (common_steps, later_more, last_more)
