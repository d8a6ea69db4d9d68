-- The first wrong line of a log, and the node that is blamed for it.
use Rattle.std.specs.Prelude.{◌≡◌, ℕ, zero, suc, ◌+◌, ◌-◌, ◌*◌, List, ◌++◌, length, take, Option, None, Some, slice_get}
use Rattle.std.specs.List.{concat}
use Rattle.hume_model.specs.declared.core_tree.WireC.{WireC}
use Rattle.hume_model.specs.declared.core_tree.Core.{Core}
use Rattle.run_log.specs.declared.fault.LogFault.{LogFault}
use Rattle.run_log.specs.declared.half.Half.{Half}
use Rattle.run_log.specs.declared.half.Half.TheVariants.{Mid, End}
use Rattle.run_log.specs.Moments.{Moment, block_at}

-- The bytes go on with the lines before the place, but not with the one there.
pub record IsFirstWrong (lines : List (List ℕ)) (bytes : List ℕ) (place : ℕ) : Type 0 where
  pub line : List ℕ
  pub there : slice_get lines place ≡ Some line
  pub rest : List ℕ
  pub before : bytes ≡ concat (take place lines) ++ rest
  pub wrong : (later : List ℕ) → rest ≡ line ++ later → ⊥

-- The bytes end before the line does, and agree with it as far as they go.
abbrev pub EndsWithin : List ℕ → List ℕ → Type 0
EndsWithin line rest = (missing : List ℕ) × (line ≡ rest ++ missing)

-- how many blocks stand before that of a half of a superstep
abbrev pub blocks_before : Half → ℕ → ℕ
blocks_before Mid superstep = 2 * superstep - 1
blocks_before End superstep = 2 * superstep

-- how many lines
abbrev pub lines_before : Core → Half → ℕ → ℕ
lines_before core half superstep = blocks_before half superstep * (length core.wires + 1)

-- The node that made a wire so: in the midst of a superstep the one that takes from it, at an end the one that asserts on it. At
-- the start it is none.
abbrev pub blamed_for : Half → ℕ → WireC → Option ℕ
blamed_for Mid superstep wire = Some wire.to
blamed_for End zero wire = None
blamed_for End (suc superstep) wire = Some wire.from

-- that of a wire that may be missing
abbrev pub blamed_there : Half → ℕ → Option WireC → Option ℕ
blamed_there half superstep None = None
blamed_there half superstep (Some wire) = blamed_for half superstep wire

-- the node that is blamed for the line at a place of a block: none for the heading
abbrev pub blamed : Core → Half → ℕ → ℕ → Option ℕ
blamed core half superstep zero = None
blamed core half superstep (suc wire) = blamed_there half superstep (slice_get core.wires wire)

-- Where the bytes differ from the block of a moment: at this line of the log, for which this node is blamed. If they only end too
-- early, none is.
pub record IsFault (core : Core) (moment : Moment) (bytes : List ℕ) (fault : LogFault) : Type 0 where
  pub place : ℕ
  pub first : IsFirstWrong (block_at core moment) bytes place
  pub line : fault.line ≡ lines_before core moment.half moment.superstep + place + 1
  pub cut : EndsWithin first.line first.rest → fault.node ≡ None
  pub node : (EndsWithin first.line first.rest → ⊥) → fault.node ≡ blamed core moment.half moment.superstep place
