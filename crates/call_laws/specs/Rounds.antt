-- How many rounds a run makes.
use Rattle.std.specs.Prelude.{ℕ, ◌-◌, Bool, Option, None, Some}
use Rattle.hume_model.specs.declared.core_tree.Core.{Core}
use Rattle.hume_net.specs.rounds.Rounds.{rounds_of}
use Rattle.run_rounds.specs.Inputs.{Inputs}
use Rattle.run_rounds.specs.Writes.{blocked_round, span_of}

-- all rounds, or those before the first blocked one
abbrev pub rounds_until : ℕ → ℕ → Option ℕ → ℕ
rounds_until span steps None = rounds_of span steps
rounds_until span steps (Some round) = round - 1

-- how many rounds a run makes to which these inputs come
abbrev pub rounds_made : Core → Inputs → Bool → ℕ → ℕ
rounds_made core coming traced steps = rounds_until (span_of traced) steps (blocked_round core coming (span_of traced) steps)
