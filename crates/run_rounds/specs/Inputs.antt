-- What comes to the nodes of a core from the texts of its input streams.
use Rattle.std.specs.Prelude.{◌≡◌, ℕ, Bool, List, [], length, Option, None, Some, slice_get}
use Rattle.std.specs.Option.{is_some}
use Rattle.hume_base.specs.declared.types.Value.{Value}
use Rattle.hume_model.specs.declared.core_tree.NodeC.{NodeC}
use Rattle.hume_model.specs.declared.core_tree.NodeC.TheVariants.{From}
use Rattle.hume_model.specs.declared.core_tree.Core.{Core}
use Rattle.hume_streams.specs.Good.{IsGoodUntil}
use Rattle.phase_workers.specs.StreamTypes.{type_at}
use Rattle.hume_net.specs.rounds.Pieces.{listed}

-- for each node the values that come to it, and the number of the line behind them, if that is bad
pub record Inputs : Type 0 where
  pub good : List (List Value)
  pub bad : ℕ → Option ℕ

-- whether a bad line comes to a node
abbrev pub is_bad : Inputs → ℕ → Bool
is_bad inputs node = is_some (inputs.bad node)

-- To an input stream come the values of its text's lines before the first bad one, and to anything else none.
abbrev pub ComesTo : Core → (List ℕ → List ℕ) → ℕ → Option NodeC → List Value → Option ℕ → Type 0
ComesTo core texts n (Some (From stream)) good bad = IsGoodUntil core.types (type_at core n) (texts stream.port) good bad
ComesTo core texts n _ good bad = (good ≡ []) × (bad ≡ None)

-- where each port has this text to read
pub record AreInputs (core : Core) (texts : List ℕ → List ℕ) (inputs : Inputs) : Type 0 where
  pub count : length inputs.good ≡ length core.nodes
  pub each : (n : ℕ) → ComesTo core texts n (slice_get core.nodes n) (listed inputs.good n) (inputs.bad n)
