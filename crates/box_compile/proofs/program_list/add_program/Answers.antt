use Rattle.box_compile.proofs.Appending.{on_ok}
use Rattle.box_compile.proofs.BoxCode.{node_program}
use Rattle.box_compile.proofs.program_list.add_program.Goals as goal

pub returns-in_ok-program-in-Rules : goal.returns-in_ok-program-in-Rules
returns-in_ok-program-in-Rules c =
    let program = c.in_ok-program-in-Rules.program in
    on_ok c.push.result (λ is boxes old. node_program c.args.core.now boxes c.args.programs.now c.push.new.self c.args.node.now c.in-Rules.b program
    c.in-Rules.is is c.in_ok-program-in-Rules.ensures old)
    c.push.ensures.ok
