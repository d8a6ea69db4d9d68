-- One line more behind lines that are not bad.
use Rattle.std.proofs.Common.{◌≡◌, ℕ, zero, suc, ◌+◌, ◌<◌, ◌≤◌, Bool, true, false, not, cond, List, [], ◌∷◌, ◌++◌, length, take, Option, Some, None, refl, ap, sym, ◌∙◌, subst, arith, append-nil, append_assoc}
use Rattle.std.specs.Prelude.{slice_get, filter}
use Rattle.std.specs.List.{AllZip, prefix_len}
use Rattle.std.proofs.lemmas.List.{reverse-append}
use Rattle.std.proofs.lemmas.List.Elements.{filter-append}
use Rattle.hume_base.specs.declared.types.Ty.{Ty}
use Rattle.hume_base.specs.declared.types.Types.{Types}
use Rattle.hume_base.specs.declared.types.Value.{Value}
use Rattle.hume_streams.specs.Lines.{is_empty}
use Rattle.hume_streams.specs.Good.{empty_at_end, IsBad, TooLong, NoText, TooManyEmpty, NoneBad, HoldsValue, HoldValues}

true_false : {X : Type 0} (b : Bool) → b ≡ true → b ≡ false → X
true_false b e f = absurd (let d : true ≡ false = sym e ∙ f in cc)

pub empty_at_end-push : (lines : List (List ℕ)) (line : List ℕ) → empty_at_end (lines ++ line ∷ []) ≡ cond (is_empty line) (1 + empty_at_end lines) 0
empty_at_end-push lines line = ap (prefix_len is_empty) (reverse-append lines (line ∷ []))

none_some : {X : Type 0} (x : X) → ◌≡◌ {A = Option X} None (Some x) → ⊥
none_some x e = cc

same_some : {X : Type 0} (x y : X) → ◌≡◌ {A = Option X} (Some x) (Some y) → y ≡ x
same_some x y e = cc

-- one more place

get-pushed : (P : List (List ℕ) → List ℕ → Type 0) (before lines : List (List ℕ)) (line : List ℕ)
    → ((place : ℕ) (other : List ℕ) → slice_get lines place ≡ Some other → P (before ++ take place lines) other → ⊥)
    → (P (before ++ lines) line → ⊥)
    → (place : ℕ) (other : List ℕ) → slice_get (lines ++ line ∷ []) place ≡ Some other → P (before ++ take place (lines ++ line ∷ [])) other → ⊥
get-pushed P before [] line all behind zero other e p = behind (subst (P (before ++ [])) (same_some line other e) p)
get-pushed P before [] line all behind (suc place) other e p = absurd (none_some other e)
get-pushed P before (first ∷ lines) line all behind zero other e p = all zero other e p
get-pushed P before (first ∷ lines) line all behind (suc place) other e p =
    let shift : (rest : List (List ℕ)) → (before ++ first ∷ []) ++ rest ≡ before ++ first ∷ rest = λ rest. rw append_assoc refl in
    get-pushed P (before ++ first ∷ []) lines line
    (λ at one f q. all (suc at) one f (subst (λ ls. P ls one) (shift (take at lines)) q))
    (λ q. behind (subst (λ ls. P ls line) (shift lines) q))
    place other e (subst (λ ls. P ls other) (sym (shift (take place (lines ++ line ∷ [])))) p)

pub none_bad-push : (types : Types) (ty : Ty) (lines : List (List ℕ)) (line : List ℕ) → NoneBad types ty lines → (IsBad types ty lines line → ⊥) → NoneBad types ty (lines ++ line ∷ [])
none_bad-push types ty lines line all behind = get-pushed (IsBad types ty) [] lines line all behind

-- an empty line more
pub hold-empty : (types : Types) (ty : Ty) (lines : List (List ℕ)) (values : List Value) (line : List ℕ) → HoldValues types ty lines values
    → length line ≤ 65536 → is_empty line ≡ true → empty_at_end lines < 65536 → HoldValues types ty (lines ++ line ∷ []) values
hold-empty types ty lines values line h short empty few = record {
  none_bad = none_bad-push types ty lines line h.none_bad fine;
  texts = subst (λ ls. AllZip (HoldsValue types ty) ls values) (sym (filter-append (λ l. not (is_empty l)) lines (line ∷ [])
      ∙ ap (λ b. filter (λ l. not (is_empty l)) lines ++ cond (not b) (line ∷ []) []) empty ∙ append-nil _)) h.texts;
}
  where
    fine : IsBad types ty lines line → ⊥
    fine (TooLong long) = omega (arith, long, short)
    fine (NoText full none) = true_false (is_empty line) empty full
    fine (TooManyEmpty blank many) = omega (arith, many, few)

-- a value more
pub hold-value : (types : Types) (ty : Ty) (lines : List (List ℕ)) (values : List Value) (line : List ℕ) (value : Value) → HoldValues types ty lines values
    → length line ≤ 65536 → is_empty line ≡ false → HoldsValue types ty line value → HoldValues types ty (lines ++ line ∷ []) (values ++ value ∷ [])
hold-value types ty lines values line value h short not_empty holds = record {
  none_bad = none_bad-push types ty lines line h.none_bad fine;
  texts = subst (λ ls. AllZip (HoldsValue types ty) ls (values ++ value ∷ [])) (sym (filter-append (λ l. not (is_empty l)) lines (line ∷ [])
      ∙ ap (λ b. filter (λ l. not (is_empty l)) lines ++ cond (not b) (line ∷ []) []) not_empty))
      (push (filter (λ l. not (is_empty l)) lines) values h.texts);
}
  where
    fine : IsBad types ty lines line → ⊥
    fine (TooLong long) = omega (arith, long, short)
    fine (NoText full none) = none (record { value = value; typed = holds.typed; text = holds.text })
    fine (TooManyEmpty blank many) = true_false (is_empty line) blank not_empty

    push : (ls : List (List ℕ)) (vs : List Value) → AllZip (HoldsValue types ty) ls vs → AllZip (HoldsValue types ty) (ls ++ line ∷ []) (vs ++ value ∷ [])
    push [] [] z = (holds, tt)
    push [] (v ∷ vs) z = absurd z
    push (l ∷ ls) [] z = absurd z
    push (l ∷ ls) (v ∷ vs) z = (z.0, push ls vs z.1)
