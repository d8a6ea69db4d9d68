use Rattle.std.proofs.Common.{◌≡◌, ◌∙◌, ℕ, List, [], ap, sym, length, append-nil}
use Rattle.hume_base.specs.declared.types.Value.{Value}
use Rattle.hume_base.specs.Flat.{flat}
use Rattle.hume_model.specs.Readers.{read_with, read_named}
use Rattle.hume_model.proofs.FrontReading.{value_read}
use Rattle.hume_model.proofs.laws.flat_words_are_read_back.Goals as goal

pub returns : goal.returns
returns c = λ types sizes readable ty v is.
    let front : read_with (read_named types (length types.sums)) ty (flat types ty v) ≡ (v, []) =
    ap (read_with (read_named types (length types.sums)) ty) (sym (append-nil (flat types ty v))) ∙ value_read types sizes readable ty v is in
    ap (λ (p : Value × List ℕ). p.0) front
