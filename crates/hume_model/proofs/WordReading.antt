-- How the reading of words goes on, and why it ends.
use Rattle.std.proofs.Common.{◌≡◌, ℕ, zero, suc, ◌+◌, ◌-◌, ◌*◌, ◌<◌, ◌≤◌, List, [], ◌∷◌, ◌++◌, append_assoc, replicate, Some, slice_get, refl, ap, sym, ◌∙◌, arith, inl, inr}
use Rattle.std.proofs.Math.Nat.{mul-le-mul_right}
use Rattle.std.proofs.lemmas.Bool.{cases_eq, eq-eqb, ne_eqb}
use Rattle.std.proofs.lemmas.Grind.{common_steps}
use Rattle.std.proofs.lemmas.List.{drop_min}
use denote.Param.Weighed.{most}
use Rattle.hume_base.specs.declared.boxed.Box.{Box}
use Rattle.hume_base.specs.declared.types.Ty.{Ty, size-Ty, size_is-Ty, fold-roll-Ty, the_lemmas}
use Rattle.hume_base.specs.declared.types.Ty.TheOpen.{Ty-F}
use Rattle.hume_base.specs.declared.types.Ty.TheVariants as shape
use Rattle.hume_base.specs.declared.types.Value.{Value, Word, Vector}
use Rattle.hume_base.specs.declared.types.Types.{Types}
use Rattle.hume_base.specs.declared.types.SumDef.{SumDef}
use Rattle.hume_base.specs.declared.types.ConDef.{ConDef}
use Rattle.hume_model.specs.Readers.{Reader, read_several, after_read, read_step, read_with, read_named, read_sum, made_of}
use Rattle.hume_model.proofs.Ranks.{slice_get-most}

abbrev pub con_size : ConDef → ℕ
con_size con = most size-Ty con.fields

abbrev pub sum_size : SumDef → ℕ
sum_size sum = most con_size sum.cons

unfoldable pub rank : Types → ℕ → ℕ
rank types bound = bound * (2 + most sum_size types.sums)

pub rank-falls : (types : Types) (bound number : ℕ) (sum : SumDef) → slice_get types.sums number ≡ Some sum → number < bound
    → rank types number + sum_size sum + 1 < rank types bound
unfolding rank
rank-falls types bound number sum found below =
    let small : sum_size sum ≤ most sum_size types.sums = slice_get-most sum_size types.sums number sum found in
    let steps : suc number * (2 + most sum_size types.sums) ≤ bound * (2 + most sum_size types.sums) = mul-le-mul_right (2 + most sum_size types.sums) (omega arith) in
    omega arith

pub some_size : (ty : Ty) → 0 < size-Ty ty
some_size ty = rw (size_is-Ty ty) (omega arith)

pub read-past : (types : Types) (bound number : ℕ) (words : List ℕ) → bound ≤ number → read_named types bound number words ≡ (Word 0, words)
unfolding read_named
read-past types zero number words past = refl
read-past types (suc bound) number words past =
    let other : number ≡ bound → ⊥ = λ e. omega arith in
    rw (ne_eqb number bound other) (read-past types bound number words (omega arith))

pub read-at : (types : Types) (bound number : ℕ) (words : List ℕ) → number < bound
    → read_named types bound number words ≡ read_sum (read_with (read_named types number)) (slice_get types.sums number) words
unfolding read_named
read-at types zero number words below = absurd (omega arith)
read-at types (suc bound) number words below = elim (cases_eq number bound) [
  | inl same ↦ rw (eq-eqb number bound same) (ap (λ k. read_sum (read_with (read_named types k)) (slice_get types.sums k) words) (sym same))
  | inr other ↦ rw (ne_eqb number bound other) (read-at types bound number words (omega arith))
]

pub read-vector : (named : ℕ → Reader) (count : ℕ) (item : Box Ty) (words : List ℕ)
    → read_with named (shape.Vector count item) words ≡ made_of Vector (read_several (replicate {A = Reader} count (read_with named item)) words)
read-vector named count item words =
    ap (λ ty. read_with named ty words) (sym (shape.rolls-Vector count item)) ∙ ap (λ (reader : Reader). reader words) (fold-roll-Ty Reader (read_step named) (Ty-F.Vector count item))

one_more : {X : Type 0} (count place : ℕ) (x : X) → place < count → replicate {A = X} (count - place) x ≡ x ∷ replicate {A = X} (count - (place + 1)) x
one_more {X} count place x below = let step : count - place ≡ suc (count - (place + 1)) = omega arith in rw step refl

pub next_item : (reader : Reader) (count place : ℕ) (values : List Value) (rest : List ℕ) (value : Value) (others : List ℕ) → place < count → (value, others) ≡ reader rest
    → after_read (values ++ value ∷ []) (read_several (replicate {A = Reader} (count - (place + 1)) reader) others)
    ≡ after_read values (read_several (replicate {A = Reader} (count - place) reader) rest)
next_item reader count place values rest value others below is =
    rw (one_more count place reader below, ← is) (ap (λ vs. (vs, (read_several (replicate {A = Reader} (count - (place + 1)) reader) others).1)) (append_assoc values (value ∷ []) _))

pub ruleset reading_steps = (common_steps, the_lemmas, read-past, read-at, rank-falls, some_size, drop_min)
