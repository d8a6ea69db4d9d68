-- What is answered and told, by why a log was verified no further.
use Rattle.std.specs.Prelude.{List, ℕ, Option, None, Some, slice_get}
use Rattle.hume_model.specs.declared.core_tree.Core.{Core}
use Rattle.run_rounds.specs.Writes.{bad_value_line, name_of}
use Rattle.log_rounds.specs.VerifyActs.{fault_line, holds_line}
use Rattle.log_rounds.specs.declared.verdict.Verdict.{Verdict}
use Rattle.log_rounds.specs.declared.verdict.Verdict.TheVariants.{Holds, Fails, Blocked}
use Rattle.log_rounds.specs.declared.verifying.Stop.{Stop}
use Rattle.log_rounds.specs.declared.verifying.Stop.TheVariants.{Wrong, Bad}

-- the answer
abbrev pub answer_of : Option Stop → Verdict
answer_of None = Holds
answer_of (Some (Wrong fault)) = Fails
answer_of (Some (Bad bad)) = Blocked

-- the line that is told
abbrev pub stop_line : Core → Option Stop → List ℕ
stop_line core None = holds_line
stop_line core (Some (Wrong fault)) = fault_line core fault
stop_line core (Some (Bad bad)) = bad_value_line (name_of (slice_get core.nodes bad.node)) bad.line
