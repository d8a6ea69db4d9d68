-- The outputs of a compiled box, by the buffer that they are in.
use Rattle.std.specs.Prelude.{ℕ, Bool, List, map, Option, Some, None, if◌then◌else◌, slice_get}
use Rattle.std.specs.Option.{option_and_then}
use Rattle.box_heap.specs.Outputs.{OutputView}

-- how many words each of them has
abbrev pub sizes_in : List OutputView → List ℕ
sizes_in outputs = map (λ (output : OutputView). output.size) outputs

-- the words of each that is present
abbrev pub words_in : List OutputView → List (Option (List ℕ))
words_in outputs = map (λ (output : OutputView). output.words) outputs

-- what is left in the buffer doesn't count where nothing is pending
abbrev pub pending_in : Bool → List OutputView → Option (List (Option (List ℕ)))
pending_in waits outputs = if waits then Some (words_in outputs) else None

-- the words of the output at a place; none where it is absent
abbrev pub words_at : List OutputView → ℕ → Option (List ℕ)
words_at outputs place = option_and_then (λ words. words) (slice_get (words_in outputs) place)
