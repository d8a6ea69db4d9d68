use Rattle.std.proofs.Common.{[], ◌++◌, ap}
use Rattle.hume_base.proofs.WordsTell.{words_tell}
use Rattle.hume_base.proofs.laws.words_tell_values_apart.Goals as goal

pub returns : goal.returns
returns c = λ types ty v w p q e. (words_tell types ty v w [] [] p q (ap (λ words. words ++ []) e)).0
