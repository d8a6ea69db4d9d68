-- What the phases of a check tell, as the whole front tells it.
use Rattle.hume_check.specs.declared.checking.CheckError.{CheckError}
use Rattle.hume_check.specs.declared.checking.CheckError.TheVariants as checking
use Rattle.wiring_check.specs.declared.check.WireError.{WireError}
use Rattle.wiring_check.specs.declared.check.WireError.TheVariants as wiring
use Rattle.space_costs.specs.declared.check.CostError.{CostError}
use Rattle.space_costs.specs.declared.check.CostError.TheVariants as costing
use Rattle.hume_front.specs.declared.error.FrontError.{FrontError}
use Rattle.hume_front.specs.declared.error.FrontError.TheVariants.{Refused, NoMemory}

-- the rules on names, counts, types and limits
abbrev pub of_check : CheckError → FrontError
of_check (checking.Refused refusal) = Refused refusal
of_check checking.NoMemory = NoMemory

-- the rules on wires
abbrev pub of_wires : WireError → FrontError
of_wires (wiring.Refused refusal) = Refused refusal
of_wires wiring.NoMemory = NoMemory

-- the rules on heap, stack and work
abbrev pub of_costs : CostError → FrontError
of_costs (costing.Refused refusal) = Refused refusal
of_costs costing.NoMemory = NoMemory
