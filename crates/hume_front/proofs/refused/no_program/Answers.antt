use Rattle.std.proofs.Common.{arith}
use Rattle.hume_front.proofs.Accepting.{told_within, no_program_told}
use Rattle.hume_front.proofs.refused.no_program.Goals as goal

pub line_of-requires-clause-within : goal.line_of-requires-clause-within
line_of-requires-clause-within c = told_within _ _ _ _ c.requires.read c.requires.error c.in-Syntax.is

pub line_of-requires-clause-small : goal.line_of-requires-clause-small
line_of-requires-clause-small c = omega (arith, told_within _ _ _ _ c.requires.read c.requires.error c.in-Syntax.is, c.requires.short)

pub line_of-requires-in-Deep-clause-within : goal.line_of-requires-in-Deep-clause-within
line_of-requires-in-Deep-clause-within c = told_within _ _ _ _ c.requires.read c.requires.error c.in-Deep.is

pub line_of-requires-in-Deep-clause-small : goal.line_of-requires-in-Deep-clause-small
line_of-requires-in-Deep-clause-small c = omega (arith, told_within _ _ _ _ c.requires.read c.requires.error c.in-Deep.is, c.requires.short)

pub returns-in-Syntax : goal.returns-in-Syntax
returns-in-Syntax c = no_program_told _ _ _ _ _ _ c.requires.short c.requires.read c.requires.error c.in-Syntax.is (λ e. cc) c.line_of.ensures c.refused.ensures

pub returns-in-Deep : goal.returns-in-Deep
returns-in-Deep c = no_program_told _ _ _ _ _ _ c.requires.short c.requires.read c.requires.error c.in-Deep.is (λ e. cc) c.line_of-in-Deep.ensures c.refused-in-Deep.ensures
