use Rattle.hume_text.proofs.OneValue.{one_value}
use Rattle.hume_text.proofs.laws.one_value_a_line.Goals as goal

pub returns : goal.returns
returns c types ty line v w names p q x y = one_value types names ty line v w p q x y
