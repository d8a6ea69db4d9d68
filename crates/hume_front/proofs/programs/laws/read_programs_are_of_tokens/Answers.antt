use Rattle.std.proofs.Common.{subst, sym, arith}
use Rattle.hume_ast.specs.Fits.{Each}
use Rattle.hume_front.proofs.programs_lemmas.SmallKinds.{IsSmall, kinds_small}
use Rattle.hume_front.proofs.programs_lemmas.Names.{all_names}
use Rattle.hume_front.proofs.programs_lemmas.Lengths.{all_few, tokens_bound}
use Rattle.hume_front.proofs.programs.laws.read_programs_are_of_tokens.Goals as goal

pub returns : goal.returns
returns c = λ text tokens program r s. record {
  names = all_names program.decls (subst (Each IsSmall) (sym s.1) (kinds_small text tokens r));
  constructors = all_few _ program.decls (tokens_bound text tokens program r s) (omega arith);
}
