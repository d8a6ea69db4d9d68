use Rattle.c_meaning.proofs.Squares.{short_at_16, short_at_32, small_at_32, wide_at_16, wide_at_32}
use Rattle.c_meaning.proofs.laws.a_small_file_means_what_it_says.Goals as goal

pub returns-clause-wide_at_16 : goal.returns-clause-wide_at_16
returns-clause-wide_at_16 c = wide_at_16

pub returns-clause-wide_at_32 : goal.returns-clause-wide_at_32
returns-clause-wide_at_32 c = wide_at_32

pub returns-clause-short_at_16 : goal.returns-clause-short_at_16
returns-clause-short_at_16 c = short_at_16

pub returns-clause-short_at_32 : goal.returns-clause-short_at_32
returns-clause-short_at_32 c = short_at_32

pub returns-clause-small : goal.returns-clause-small
returns-clause-small c = small_at_32
