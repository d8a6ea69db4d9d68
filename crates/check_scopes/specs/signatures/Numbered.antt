-- Constructors by their numbers among those of all data types.
use Rattle.std.specs.Prelude.{ℕ, ◌+◌, List, take, length, sum_by}
use Rattle.hume_base.specs.declared.types.SumDef.{SumDef}
use Rattle.check_typing.specs.Signatures.{Constructor}
use Rattle.check_scopes.specs.declared.signatures.constructors.Found.{Found}

-- how many constructors the data types before one of a number have
abbrev pub constructors_before : List SumDef → ℕ → ℕ
constructors_before sums number = sum_by (λ (one : SumDef). length one.cons) (take number sums)

-- a constructor with its number among those of all data types, in their order
abbrev pub numbered_in : List SumDef → Constructor → Constructor × ℕ
numbered_in sums con = (con, constructors_before sums con.sum + con.place)

-- what is found, without where it lies
abbrev pub seen : Found → Constructor × ℕ
seen found = (record { sum = found.data_type; place = found.place; fields = found.fields.now }, found.number)
