use Rattle.hume_look.proofs.failures.refusals.put_of_script.Goals as goal

pub put_of_lines-requires : goal.put_of_lines-requires
put_of_lines-requires g c = record { sound = (_, c.in-Ok.ensures.sound) }
