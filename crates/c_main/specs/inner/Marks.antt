-- How code marks the data types that types need.
use Rattle.std.specs.Prelude.{ℕ, ◌+◌, Bool, true, false, List, [], ◌∷◌, length, replicate, slice_set, if◌then◌else◌}
use Rattle.std.specs.List.{flat_map}
use Rattle.hume_base.specs.declared.types.Ty.{Ty}
use Rattle.hume_base.specs.declared.types.SumDef.{SumDef}
use Rattle.c_main.specs.Found.{data_in, fields_data}
use Rattle.c_main.specs.inner.Places.{is_marked}

-- with the marks of numbers
abbrev pub with_marks : List Bool → List ℕ → List Bool
with_marks marks [] = marks
with_marks marks (number ∷ numbers) = with_marks (slice_set marks number true) numbers

-- with the marks of what a data type holds, if it is marked
abbrev pub marked_by : List Bool → ℕ → SumDef → List Bool
marked_by marks place sum = if is_marked marks place then with_marks marks (fields_data sum.cons) else marks

-- with those of the data types from a place on, the last one first
abbrev pub reached : List Bool → ℕ → List SumDef → List Bool
reached marks place [] = marks
reached marks place (sum ∷ sums) = marked_by (reached marks (place + 1) sums) place sum

-- the marks of the data types that types need
abbrev pub marks_of : List Ty → List SumDef → List Bool
marks_of tys sums = reached (with_marks (replicate (length sums) false) (flat_map data_in tys)) 0 sums
