-- The first output of a mask and the others, and how one output is written.
use Rattle.std.proofs.Common.{◌≡◌, ℕ, ◌-◌, ◌/◌, ◌%◌, ◌==◌, Bool, true, false, if◌then◌else◌, List, [], ◌∷◌, length, take, drop, get_or, Option, Some, None, slice_set, refl, sym, ◌∙◌, subst, arith}
use Rattle.std.specs.Option.{option_map}
use Rattle.std.proofs.lemmas.Bool.{eq-eqb, ne_eqb}
use Rattle.std.proofs.lemmas.List.{take_all}
use Rattle.hume_base.specs.declared.types.Ty.{Ty}
use Rattle.hume_base.specs.declared.types.Types.{Types}
use Rattle.box_heap.specs.Heaps.{Object}
use Rattle.box_heap.specs.Outputs.{OutputView, with_words}
use Rattle.box_code.specs.FlatObjects.{flat_at}
use Rattle.box_code.specs.Machine.{flat_outs, with_out}
use Rattle.box_machine.specs.inner.PutOutputs.{put_out}

-- the first output and the others

abbrev Outs : Type 0
Outs = List (Option (List ℕ))

left_out : (b : Bool) (o other : Option Outs) (flat : Outs) → b ≡ true → (if b then option_map (λ outs. None ∷ outs) o else other) ≡ Some flat
    → (rest : Outs) × (o ≡ Some rest) × (flat ≡ None ∷ rest)
left_out true None other flat yes_it is = cc
left_out true (Some rest) other flat yes_it is = (
  rest,
  refl,
  let e : ◌≡◌ {A = Option Outs} (Some (None ∷ rest))
      (Some flat) = is in let same : ◌≡◌ {A = Outs} (None ∷ rest) flat = cc in sym same,
)
left_out false o other flat yes_it is = cc

pub none_step : (types : Types) (objects : List Object) (ty : Ty) (tys : List Ty) (mask : ℕ) (words : List ℕ) (flat : Outs)
    → flat_outs types objects (ty ∷ tys) mask words ≡ Some flat
    → mask % 2 ≡ 0 → (rest : Outs) × (flat_outs types objects tys (mask / 2) words ≡ Some rest) × (flat ≡ None ∷ rest)
none_step types objects ty tys mask [] flat is even = left_out (mask % 2 == 0) (flat_outs types objects tys (mask / 2) []) None flat (eq-eqb
    (mask % 2) 0 even) is
none_step types objects ty tys mask (word ∷ words) flat is even =
    left_out (mask % 2 == 0) (flat_outs types objects tys (mask / 2) (word ∷ words)) (with_out (flat_at types objects ty word) (flat_outs types objects tys
    (mask / 2) words)) flat
    (eq-eqb (mask % 2) 0 even) is

-- the words of the first output, and those of the others
pub record Given (own : Option (List ℕ)) (others : Option Outs) (flat : Outs) : Type 0 where
  pub words : List ℕ
  pub rest : Outs
  pub own_is : own ≡ Some words
  pub others_are : others ≡ Some rest
  pub both : flat ≡ Some words ∷ rest

with_both : (own : Option (List ℕ)) (others : Option Outs) (flat : Outs) → with_out own others ≡ Some flat → Given own others flat
with_both None others flat is = cc
with_both (Some words) None flat is = cc
with_both (Some words) (Some rest) flat is = record {
  words = words;
  rest = rest;
  own_is = refl;
  others_are = refl;
  both = let e : ◌≡◌ {A = Option Outs} (Some (Some words ∷ rest)) (Some flat) = is in let same : ◌≡◌ {A = Outs} (Some words ∷ rest) flat = cc in sym same;
}

other_one : (b : Bool) (one other : Option Outs) (flat : Outs) → b ≡ false → (if b then one else other) ≡ Some flat → other ≡ Some flat
other_one true one other flat not_it is = cc
other_one false one other flat not_it is = is

pub some_step : (types : Types) (objects : List Object) (ty : Ty) (tys : List Ty) (mask : ℕ) (words : List ℕ) (flat : Outs)
    → flat_outs types objects (ty ∷ tys) mask words ≡ Some flat
    → (mask % 2 ≡ 0 → ⊥) → Given (flat_at types objects ty (get_or words 0 0)) (flat_outs types objects tys (mask / 2) (take (length words - 1)
    (drop 1 words))) flat
some_step types objects ty tys mask [] flat is odd =
    let e = other_one (mask % 2 == 0) (option_map (λ outs. None ∷ outs) (flat_outs types objects tys (mask / 2) [])) None flat (ne_eqb (mask % 2) 0 odd) is in
    let never : ⊥ = cc in absurd never
some_step types objects ty tys mask (word ∷ words) flat is odd =
    let whole : take (length (word ∷ words) - 1) words ≡ words = take_all (length (word ∷ words) - 1) words (omega arith) in
    subst (λ ws. Given (flat_at types objects ty word) (flat_outs types objects tys (mask / 2) ws) flat) (sym whole)
    (with_both (flat_at types objects ty word) (flat_outs types objects tys (mask / 2) words) flat
    (other_one (mask % 2 == 0) (option_map (λ outs. None ∷ outs) (flat_outs types objects tys (mask / 2) (word ∷ words)))
    (with_out (flat_at types objects ty word) (flat_outs types objects tys (mask / 2) words)) flat (ne_eqb (mask % 2) 0 odd) is))

-- an output of one word

pub one_word : (flat : Option (List ℕ)) (word : ℕ) (words : List ℕ) → flat ≡ Some (word ∷ []) → flat ≡ Some words → words ≡ word ∷ []
one_word flat word words is gives = let e : ◌≡◌ {A = Option (List ℕ)} (Some words) (Some (word ∷ [])) = sym gives ∙ is in cc

pub filled : (outputs : List OutputView) (i : ℕ) (output : OutputView) (word : ℕ) (words : List ℕ) → words ≡ word ∷ [] → length words ≡ output.size
    → slice_set outputs i (with_words output (word ∷ [])) ≡ put_out outputs i words
filled outputs i output word words same size = (λ k. slice_set outputs i (record { size = sym size k; words = Some (sym same k) }))
