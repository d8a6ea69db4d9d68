-- The words of an output that is pending.
use Rattle.std.proofs.Common.{◌≡◌, ◌<◌, ℕ, length, List, Some, get_or, slice_get, ap, sym, ◌∙◌, subst}
use Rattle.std.specs.Option.{option_and_then, option_map}
use Rattle.std.proofs.lemmas.List.{length-map}
use Rattle.std.proofs.lemmas.Option.{slice_get-get_or, slice_get-map}
use Rattle.box_heap.specs.Outputs.{OutputView, absent}
use Rattle.box_step.specs.Views.{CompiledView, pending_words}
use Rattle.box_step.specs.inner.Buffers.{sizes_in, words_at, words_in}

-- they are those that the output has in the buffer
pub its_words : (box : CompiledView) (outputs : List OutputView) (i : ℕ) → i < length box.sizes → sizes_in outputs ≡ box.sizes
    → box.pending ≡ Some (words_in outputs) → (output : OutputView) × (slice_get outputs i ≡ Some output) × (output.words ≡ pending_words box i)
its_words box outputs i inside sized pending =
    let many = sym (ap (λ sizes. length sizes) sized) ∙ length-map outputs (λ (output : OutputView). output.size) in
    let there = slice_get-get_or outputs i (absent 0) (subst (λ n. i < n) many inside) in
    let words = slice_get-map (λ (output : OutputView). output.words) outputs i ∙ ap (option_map (λ (output : OutputView). output.words)) there in (
      get_or outputs i (absent 0),
      there,
      sym (ap (option_and_then (λ all. option_and_then (λ words. words) (slice_get all i))) pending ∙ ap (option_and_then (λ words. words)) words),
    )

-- so the words that are pending are those in the buffer, at each place
pub same_words : (box : CompiledView) (outputs : List OutputView) → box.pending ≡ Some (words_in outputs) → pending_words box ≡ words_at outputs
same_words box outputs pending = λ k i. option_and_then (λ all. option_and_then (λ words. words) (slice_get all i)) (pending k)

pub words_there : (outputs : List OutputView) (i : ℕ) → i < length outputs
    → (output : OutputView) × (slice_get outputs i ≡ Some output) × (output.words ≡ words_at outputs i)
words_there outputs i inside =
    let there = slice_get-get_or outputs i (absent 0) inside in
    let words = slice_get-map (λ (output : OutputView). output.words) outputs i ∙ ap (option_map (λ (output : OutputView). output.words)) there in
    (get_or outputs i (absent 0), there, sym (ap (option_and_then (λ words. words)) words))
