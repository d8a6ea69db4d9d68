-- What the demo of a core tells: of each output stream the total of all values that it takes.
use Rattle.std.specs.Prelude.{ℕ, Bool, true, false, List, [], ◌∷◌, take, length, Option, None, Some, slice_get}
use Rattle.std.specs.List.{count_by, flat_map, range_with_len}
use Rattle.hume_model.specs.declared.core_tree.NodeC.{NodeC}
use Rattle.hume_model.specs.declared.core_tree.NodeC.TheVariants.{Rules, From, To}
use Rattle.hume_model.specs.declared.core_tree.Core.{Core}
use Rattle.hume_net.specs.Lockstep.{lockstep}
use Rattle.hume_net.specs.Start.{start, no_values}
use Rattle.hume_net.specs.rounds.Pieces.{taken_in}
use Rattle.stream_totals.specs.declared.total.Total.{Total}
use Rattle.stream_totals.specs.Totals.{total_of}
use Rattle.stream_totals.specs.ChainLines.{chain_line}
use Rattle.phase_workers.specs.StreamTypes.{type_at}

-- the node is an output stream, so a chain ends there
abbrev pub ends_chain : NodeC → Bool
ends_chain (Rules b) = false
ends_chain (From stream) = false
ends_chain (To stream) = true

-- the number of the chain that ends at a node: how many end before it
abbrev pub chain_of : Core → ℕ → ℕ
chain_of core n = count_by ends_chain (take n core.nodes)

-- the line of an output stream; another node has none
abbrev pub chain_there : ℕ → Total → Option NodeC → List (List ℕ)
chain_there chain total None = []
chain_there chain total (Some (Rules b)) = []
chain_there chain total (Some (From stream)) = []
chain_there chain total (Some (To stream)) = chain_line chain total ∷ []

-- a line for each output stream, in source order, by the total of each
abbrev pub chain_lines : Core → (ℕ → Total) → List (List ℕ)
chain_lines core totals = flat_map (λ n. chain_there (chain_of core n) (totals n) (slice_get core.nodes n)) (range_with_len 0 (length core.nodes))

-- the total of all values that a node takes in so many supersteps from the start, where nothing comes to input streams
abbrev pub total_after : Core → ℕ → ℕ → Total
total_after core steps n = total_of core.types (type_at core n) (taken_in (lockstep core (start core (no_values core)) steps) n)

-- the lines of a demo of so many supersteps
abbrev pub demo_lines : Core → ℕ → List (List ℕ)
demo_lines core steps = chain_lines core (total_after core steps)
