use Rattle.hume_look.proofs.Cores.{few_nodes, rewritten_frame}
use Rattle.hume_look.proofs.failures.refusals.put_of_lines.Goals as goal

pub run_script-requires : goal.run_script-requires
run_script-requires c = few_nodes _ _ c.requires.sound.1

pub put_of_costs-requires : goal.put_of_costs-requires
put_of_costs-requires c = rewritten_frame _ c.args.sound c.requires.sound.1 c.args.lines.now _ c.in-Ok.ensures.new
