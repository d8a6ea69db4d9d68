-- What an evaluation comes to where the numbers of exceptions moved up.
use Rattle.hume_model.specs.declared.outcome.Outcome.{Outcome}
use Rattle.hume_model.specs.declared.outcome.Outcome.TheVariants.{Gives, Raises}
use Rattle.hume_model.specs.declared.outcome.Several.{Several}
use Rattle.hume_model.specs.declared.outcome.Several.TheVariants.{All, Raised}
use Rattle.hume_model.specs.declared.outcome.Outputs.{Outputs}
use Rattle.hume_model.specs.declared.outcome.Outputs.TheVariants.{Asserts, Throws}
use Rattle.union_laws.specs.declared.moves.Moves.{Moves}
use Rattle.union_laws.specs.Moving.{moved_exn}

-- what an expression comes to
abbrev pub moved_outcome : Moves → Outcome → Outcome
moved_outcome moves (Gives value) = Gives value
moved_outcome moves (Raises exn carried) = Raises (moved_exn moves exn) carried

-- what several expressions come to
abbrev pub moved_several : Moves → Several → Several
moved_several moves (All values) = All values
moved_several moves (Raised exn carried) = Raised (moved_exn moves exn) carried

-- what a result comes to
abbrev pub moved_outputs : Moves → Outputs → Outputs
moved_outputs moves (Asserts outs) = Asserts outs
moved_outputs moves (Throws exn carried) = Throws (moved_exn moves exn) carried
