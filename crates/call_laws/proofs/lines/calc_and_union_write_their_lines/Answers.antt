use Rattle.std.proofs.Common.{false}
use Rattle.call_laws.proofs.OtherLines.{refused_written, union_written}
use Rattle.call_laws.proofs.lines.calc_and_union_write_their_lines.Goals as goal

pub returns-clause-calc : goal.returns-clause-calc
returns-clause-calc c new coming steps script = c.calls_write_their_lines.ensures.run new coming false steps

pub returns-clause-union : goal.returns-clause-union
returns-clause-union c = union_written

pub returns-clause-union_refused : goal.returns-clause-union_refused
returns-clause-union_refused c refusal further = refused_written further refusal
