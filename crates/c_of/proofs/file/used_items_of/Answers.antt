use Rattle.c_of.proofs.FileForms.{used_made}
use Rattle.c_of.proofs.file.used_items_of.Goals as goal

pub returns : goal.returns
returns c = used_made c.args.core.now c.args.trees.now c.args.program.now _ _ _ _ c.in_ok-names.ensures c.in_ok-types.ensures c.in_ok-items_of.ensures
    c.used_items.ensures
