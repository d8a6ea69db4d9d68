use Rattle.c_meaning.specs.Numbers.{promoted}
use Rattle.c_meaning.proofs.Ranges.{in_range, is_held, promoted_holds}
use Rattle.c_meaning.proofs.laws.promotions_keep_numbers.Goals as goal

pub returns : goal.returns
returns c = λ int ty number big h. is_held (promoted int ty) number (promoted_holds int ty number big (in_range ty number h))
