-- What code knows of the types of a file.
use Rattle.c_types.specs.Gathered.{gathered}
use Rattle.c_valid.specs.Tests.{Known}
use Rattle.c_valid.specs.declared.tested.Tested.{Tested}

abbrev pub known : Tested → Known
known tested = record { all = gathered tested.types.now; with_function = tested.with_function }
