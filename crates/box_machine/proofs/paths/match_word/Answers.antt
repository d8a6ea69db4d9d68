use Rattle.box_machine.proofs.Following.{word_found}
use Rattle.box_machine.proofs.paths.match_word.Goals as goal

pub found_at-found-requires-clause-there : goal.found_at-found-requires-clause-there
found_at-found-requires-clause-there c =
    let can = c.requires.can in
    word_found can.0 c.args.code.now can.1 c.args.depth c.args.path c.args.registers c.args.words.now c.args.heap.now c.args.word c.args.to can.2
