use Rattle.std.proofs.Common.{arith}
use Rattle.hume_front.proofs.programs_lemmas.Lengths.{short, tokens_bound}
use Rattle.hume_front.proofs.programs.laws.read_programs_are_short.Goals as goal

pub returns : goal.returns
returns c = λ text tokens program r s. omega (arith, short program.decls, tokens_bound text tokens program r s)
