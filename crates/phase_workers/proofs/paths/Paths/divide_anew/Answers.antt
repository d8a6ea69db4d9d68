use Rattle.phase_workers.proofs.paths.Paths.divide_anew.Goals as goal

pub returns : goal.returns
returns c = record { sides_are = c.requires.paths.sides_are; divided = c.find_division.ensures }
