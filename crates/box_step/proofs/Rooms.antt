-- Stacks on which words are pushed, and outputs that are given.
use Rattle.std.proofs.Common.{◌≡◌, ◌≤◌, ◌+◌, ℕ, max, List, [], ◌∷◌, ◌++◌, length, map, Option}
use Rattle.std.proofs.Common.{length-append, append-nil, append_assoc, refl, ap, sym, ◌∙◌, arith}
use Rattle.std.specs.Option.{option_map}
use Rattle.hume_base.specs.declared.types.Ty.{Ty}
use Rattle.hume_base.specs.declared.types.Types.{Types}
use Rattle.hume_base.specs.declared.types.Value.{Value}
use Rattle.hume_base.specs.Sizes.{size_of}
use Rattle.hume_base.specs.Flat.{flat}
use Rattle.box_heap.specs.Stacks.{StackView, with_word, with_words}
use Rattle.box_heap.specs.Outputs.{OutputView}
use Rattle.box_machine.specs.Running.{with_outputs}
use Rattle.code_laws.specs.Ending.{flat_outputs}
use Rattle.box_step.specs.inner.Buffers.{sizes_in, words_in}

pub pushed_words : (stack : StackView) (words : List ℕ) → (with_words stack words).words ≡ stack.words ++ words
pushed_words stack [] = sym (append-nil stack.words)
pushed_words stack (word ∷ words) = pushed_words (with_word stack word) words ∙ append_assoc stack.words (word ∷ []) words

pub pushed_peak : (stack : StackView) (words : List ℕ) → length stack.words ≤ stack.peak
    → (with_words stack words).peak ≡ max stack.peak (length stack.words + length words)
pushed_peak stack [] low = omega (arith, low)
pushed_peak stack (word ∷ words) low =
    let next = with_word stack word in
    let joined = length-append stack.words (word ∷ []) in
    let long : length next.words ≡ length stack.words + 1 = omega (arith, joined) in
    let rest = pushed_peak next words (omega (arith, long)) in
    omega (arith, rest, long)

-- outputs of the sizes of types keep these once they are given, and have the flat words of what is given

pub given_sizes : (types : Types) (tys : List Ty) (outputs : List OutputView) (outs : List (Option Value)) → sizes_in outputs ≡ map (size_of types) tys
    → length outs ≡ length tys → sizes_in (with_outputs outputs (flat_outputs types tys outs)) ≡ map (size_of types) tys
given_sizes types [] [] outs sized long = refl
given_sizes types [] (output ∷ outputs) outs sized long = cc
given_sizes types (ty ∷ tys) [] outs sized long = cc
given_sizes types (ty ∷ tys) (output ∷ outputs) [] sized long = absurd (omega (arith, long))
given_sizes types (ty ∷ tys) (output ∷ outputs) (out ∷ outs) sized long =
    let first : output.size ≡ size_of types ty = cc in
    let others : sizes_in outputs ≡ map (size_of types) tys = cc in
    λ i. first i ∷ given_sizes types tys outputs outs others (omega (arith, long)) i

pub given_words : (types : Types) (tys : List Ty) (outputs : List OutputView) (outs : List (Option Value)) → sizes_in outputs ≡ map (size_of types) tys
    → length outs ≡ length tys → words_in (with_outputs outputs (flat_outputs types tys outs)) ≡ flat_outputs types tys outs
given_words types [] [] outs sized long = refl
given_words types [] (output ∷ outputs) outs sized long = cc
given_words types (ty ∷ tys) [] outs sized long = cc
given_words types (ty ∷ tys) (output ∷ outputs) [] sized long = absurd (omega (arith, long))
given_words types (ty ∷ tys) (output ∷ outputs) (out ∷ outs) sized long =
    let others : sizes_in outputs ≡ map (size_of types) tys = cc in
    ap (λ words. option_map (flat types ty) out ∷ words) (given_words types tys outputs outs others (omega (arith, long)))
