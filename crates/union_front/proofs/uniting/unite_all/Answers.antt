use Rattle.std.proofs.Common.{subst}
use Rattle.std.specs.List.{All}
use Rattle.std.proofs.lemmas.List.Elements.{All-head, All-tail}
use Rattle.union_front.specs.Unions.{IsSoundProgram}
use Rattle.union_front.proofs.uniting.unite_all.Goals as goal

pub unite_behind-requires-clause-core : goal.unite_behind-requires-clause-core
unite_behind-requires-clause-core c =
    All-head IsSoundProgram c.in-Some.first.now c.in-Some.later.now (subst (All IsSoundProgram) c.in-Some.ensures.cases.0 c.requires.sound)

pub unite_behind-requires-clause-sound : goal.unite_behind-requires-clause-sound
unite_behind-requires-clause-sound c =
    All-tail IsSoundProgram c.in-Some.first.now c.in-Some.later.now (subst (All IsSoundProgram) c.in-Some.ensures.cases.0 c.requires.sound)
