use Rattle.check_typing.proofs.WalkAgrees.{walk_agrees}
use Rattle.check_typing.proofs.laws.own_type_is_accepted.Goals as goal

pub returns : goal.returns
returns c s scope e t d h = let x = walk_agrees s e in x.against_checked scope t d (x.own_against scope t d (x.has_own scope t d h))
