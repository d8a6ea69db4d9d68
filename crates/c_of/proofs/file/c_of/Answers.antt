use Rattle.c_of.proofs.FileForms.{file_made}
use Rattle.c_of.proofs.file.c_of.Goals as goal

pub returns : goal.returns
returns c = file_made c.args.core.now c.args.trees.now c.args.program.now _ _ _ _ c.in_ok-file.ensures c.in_ok-head_comment.ensures c.in_ok-headers.ensures
    c.in_ok-used_items_of.ensures
