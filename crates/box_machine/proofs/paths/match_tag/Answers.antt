use Rattle.box_machine.proofs.Following.{tag_found}
use Rattle.box_machine.proofs.paths.match_tag.Goals as goal

pub found_at-found-requires-clause-there : goal.found_at-found-requires-clause-there
found_at-found-requires-clause-there c =
    let can = c.requires.can in
    let there = tag_found can.0 c.args.code.now can.1 c.args.depth c.args.path c.args.registers c.args.words.now c.args.heap.now c.args.tag c.args.to can.2 in
    (there.0, there.1)
