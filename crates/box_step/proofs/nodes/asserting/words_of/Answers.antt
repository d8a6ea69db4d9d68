use Rattle.std.proofs.Common.{◌≡◌, MatchOption, None, Some, subst}
use Rattle.box_step.proofs.PendingWords.{words_there}
use Rattle.box_step.proofs.nodes.asserting.words_of.Goals as goal

pub returns : goal.returns
returns c =
    let output = words_there c.args.outputs.now c.args.i c.requires in
    subst (λ all. MatchOption c.get.result (all ≡ None) (λ words. all ≡ Some words.now)) output.2 (c.get.ensures output.0 output.1)
