-- Which round of a run is the first that an input stream blocks.
use Rattle.std.specs.Prelude.{ℕ, ◌+◌, nat_lt, Bool, ◌&&◌, List, length, Option}
use Rattle.std.specs.List.{find, range_with_len}
use Rattle.std.specs.Option.{is_some}
use Rattle.hume_base.specs.declared.types.Value.{Value}
use Rattle.hume_model.specs.declared.core_tree.Core.{Core}
use Rattle.hume_net.specs.Lockstep.{lockstep}
use Rattle.hume_net.specs.Sides.{part_of}
use Rattle.hume_net.specs.Start.{start}
use Rattle.hume_net.specs.rounds.Rounds.{begins, length_of, rounds_of}
use Rattle.hume_net.specs.rounds.Streams.{asserted_between}

-- An input stream blocks a round if its text has a bad line and fewer good values than it has asserted before the round and
-- may need in the round. `good` has the good values of each node, and `is_bad` says which nodes are input streams with a bad
-- line.
abbrev pub blocks : Core → List (List Value) → (ℕ → Bool) → ℕ → ℕ → ℕ → ℕ → Bool
blocks core good is_bad span steps round node =
    let first = start core good in
    is_bad node
    && nat_lt (length (part_of first node).coming)
    (length (asserted_between first (lockstep core first (begins span round)) node) + length_of span steps round)

-- the first input stream, in the order of the source, that blocks a round
abbrev pub blocking : Core → List (List Value) → (ℕ → Bool) → ℕ → ℕ → ℕ → Option ℕ
blocking core good is_bad span steps round = find (blocks core good is_bad span steps round) (range_with_len 0 (length core.nodes))

-- the first round that is blocked
abbrev pub first_blocked : Core → List (List Value) → (ℕ → Bool) → ℕ → ℕ → Option ℕ
first_blocked core good is_bad span steps = find (λ round. is_some (blocking core good is_bad span steps round)) (range_with_len 1 (rounds_of span steps))
