use Rattle.hume_c.proofs.Made.{main_made}
use Rattle.hume_c.proofs.texts.main_text.Goals as goal

pub returns : goal.returns
returns c = main_made c.args.core.now c.args.trees.now c.args.name.now _ _ _ c.in_ok-names.ensures c.in_ok-types.ensures c.main_of.ensures
