use Rattle.hume_streams.proofs.FewLines.{small_number}
use Rattle.hume_streams.proofs.laws.bad_lines_have_small_numbers.Goals as goal

pub returns : goal.returns
returns c types ty text good number is = small_number types ty text good number is
