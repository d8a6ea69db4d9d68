-- A list in which the first element that can be changed is.
use Rattle.std.proofs.Common.{◌≡◌, ℕ, zero, suc, ◌+◌, ◌<◌, Bool, true, false, List, [], ◌∷◌, map, length, take, get_or, set, Option, Some, None, refl, ap, sym, ◌∙◌, arith, add-one}
use Rattle.std.specs.Option.{option_and_then, option_map, option_or}
use Rattle.std.proofs.lemmas.Grind.{common_steps}
use Rattle.std.proofs.lemmas.List.{take_all}
use Rattle.hume_model.specs.declared.core_tree.PatC.{PatC}
use Rattle.hume_model.specs.declared.core_tree.Expr.{Expr}
use Rattle.hume_model.specs.declared.core_tree.Core.{Core}
use Rattle.calculus_laws.specs.Unfolding.{Looked, arms_unfolded, looked, outs_unfolded, parts_unfolded, variables_in}
use Rattle.calculus_laws.proofs.Unfolds.{looked_tree}
use Rattle.calculus_unfolding.specs.inner.Changes.{arm_changed, expression_changed, first_changed, if_found, part_changed, two_changed}

pub map_if_found : {X Y : Type 0} (f : X → Y) (found : Bool) (new : X) → option_map f (if_found found new) ≡ if_found found (f new)
map_if_found f true new = refl
map_if_found f false new = refl

pub map_twice : {X Y Z : Type 0} (f : X → Y) (g : Y → Z) (o : Option X) → option_map g (option_map f o) ≡ option_map (λ x. g (f x)) o
map_twice f g None = refl
map_twice f g (Some x) = refl

module _ {X Y : Type 0} (first : X → Option X) (second : Y → Option Y) where
  -- the first part is changed
  pub first_found : (x new : X) (y : Y) (found : Bool) → first x ≡ if_found found new → found ≡ true → two_changed first second (x, y) ≡ Some (new, y)
  first_found x new y found is some =
      ap (λ o. option_or (option_map (λ d. (d, y)) o) (option_map (λ d. (x, d)) (second y))) (is ∙ ap (λ k. if_found k new) some)

  -- the first part stays, and the second one is what it becomes, if it becomes anything
  pub second_found : (x last : X) (y new : Y) (found later : Bool) → first x ≡ if_found found last → found ≡ false → last ≡ x
      → second y ≡ if_found later new → two_changed first second (x, y) ≡ if_found later (last, new)
  second_found x last y new found later is none same then =
      ap (λ o. option_or (option_map (λ d. (d, y)) o) (option_map (λ d. (x, d)) (second y))) (is ∙ ap (λ k. if_found k last) none)
      ∙ ap (option_map (λ d. (x, d))) then ∙ map_if_found (λ d. (x, d)) later new ∙ ap (λ d. if_found later (d, new)) (sym same)

  pub two_mapped : {Z : Type 0} (f : X × Y → Z) (x : X) (y : Y)
      → option_map f (two_changed first second (x, y)) ≡ option_or (option_map (λ d. f (d, y)) (first x)) (option_map (λ d. f (x, d)) (second y))
  two_mapped f x y = by_first (first x)
    where
      by_first : (o : Option X)
          → option_map f (option_or (option_map (λ d. (d, y)) o) (option_map (λ d. (x, d)) (second y)))
          ≡ option_or (option_map (λ d. f (d, y)) o) (option_map (λ d. f (x, d)) (second y))
      by_first (Some new) = refl
      by_first None = map_twice (λ d. (x, d)) f (second y)

pub three_mapped : {X Y V Z : Type 0} (first : X → Option X) (second : Y → Option Y) (third : V → Option V) (f : X × (Y × V) → Z) (x : X) (y : Y) (v : V)
    → option_map f (two_changed first (two_changed second third) (x, (y, v)))
    ≡ option_or (option_map (λ d. f (d, (y, v))) (first x))
    (option_or (option_map (λ d. f (x, (d, v))) (second y)) (option_map (λ d. f (x, (y, d))) (third v)))
three_mapped first second third f x y v =
    two_mapped first (two_changed second third) f x (y, v)
    ∙ ap (option_or (option_map (λ d. f (d, (y, v))) (first x))) (two_mapped second third (λ d. f (x, d)) y v)

module _ {X : Type 0} (change : X → Option X) where
  later : (x : X) (xs : List X) → change x ≡ None → first_changed change (x ∷ xs) ≡ option_map (λ news. x ∷ news) (first_changed change xs)
  later x xs none = ap (λ o. option_or (option_map (λ new. new ∷ xs) o) (option_map (λ news. x ∷ news) (first_changed change xs))) none

  first : (x : X) (xs : List X) (o : Option X) → change x ≡ o → first_changed change (x ∷ xs) ≡ None → o ≡ None
  first x xs None is none = refl
  first x xs (Some new) is none =
      let some = ap (λ o. option_or (option_map (λ new. new ∷ xs) o) (option_map (λ news. x ∷ news) (first_changed change xs))) is in
      cc

  others : (x : X) (xs : List X) (o : Option (List X)) → first_changed change xs ≡ o → change x ≡ None → first_changed change (x ∷ xs) ≡ None → o ≡ None
  others x xs None is none all = refl
  others x xs (Some news) is none all =
      let one = later x xs none in
      let some = ap (option_map (λ news. x ∷ news)) is in
      cc

  pub changed_here : (xs : List X) (i : ℕ) (x new : X) → i < length xs → first_changed change (take i xs) ≡ None → change (get_or xs i x) ≡ Some new
      → first_changed change xs ≡ Some (set xs i new)
  changed_here [] i x new within none is = absurd (omega arith)
  changed_here (y ∷ xs) zero x new within none is =
      ap (λ o. option_or (option_map (λ new. new ∷ xs) o) (option_map (λ news. y ∷ news) (first_changed change xs))) is
  changed_here (y ∷ xs) (suc i) x new within none is =
      let here : change y ≡ None = first y (take i xs) (change y) refl none in
      let rest : first_changed change (take i xs) ≡ None = others y (take i xs) (first_changed change (take i xs)) refl here none in
      later y xs here ∙ ap (option_map (λ news. y ∷ news)) (changed_here xs i x new (omega arith) rest is)

  further : (xs : List X) (i : ℕ) (x : X) → i < length xs → first_changed change (take i xs) ≡ None → change (get_or xs i x) ≡ None
      → first_changed change (take (suc i) xs) ≡ None
  further [] i x within none is = absurd (omega arith)
  further (y ∷ xs) zero x within none is = later y [] is
  further (y ∷ xs) (suc i) x within none is =
      let here : change y ≡ None = first y (take i xs) (change y) refl none in
      let rest : first_changed change (take i xs) ≡ None = others y (take i xs) (first_changed change (take i xs)) refl here none in
      later y (take (suc i) xs) here ∙ ap (option_map (λ news. y ∷ news)) (further xs i x (omega arith) rest is)

  pub none_further : (xs : List X) (i : ℕ) (x : X) → i < length xs → first_changed change (take i xs) ≡ None → change (get_or xs i x) ≡ None
      → first_changed change (take (i + 1) xs) ≡ None
  none_further xs i x within none is = rw add-one (further xs i x within none is)

module _ (core : Core) where
  pub trees : (es : List Expr) → map (λ (part : Looked Expr). part.tree) (map (looked core) es) ≡ es
  trees [] = refl
  trees (e ∷ es) = λ i. looked_tree core e i ∷ trees es i

  pub parts_are : (es : List Expr) (scope : ℕ) → parts_unfolded (map (looked core) es) scope ≡ first_changed (expression_changed core scope) es
  parts_are [] scope = refl
  parts_are (e ∷ es) scope = λ i. option_or (option_map (λ d. d ∷ trees es i) (expression_changed core scope e)) (option_map (λ ds. looked_tree core e i ∷ ds) (parts_are es scope i))

  pub outs_are : (outs : List (Option Expr)) (scope : ℕ) → outs_unfolded (looked core) outs scope ≡ first_changed (part_changed core scope) outs
  outs_are [] scope = refl
  outs_are (None ∷ outs) scope = ap (option_map (λ others. None ∷ others)) (outs_are outs scope)
  outs_are (Some e ∷ outs) scope =
      λ i. option_or (sym (map_twice Some (λ new. new ∷ outs) (expression_changed core scope e)) i) (option_map (λ others. Some e ∷ others) (outs_are outs scope i))

module _ {X : Type 0} (look : X → Looked X) (tree_is : (x : X) → (look x).tree ≡ x) where
  abbrev look_arm : PatC × X → PatC × Looked X
  look_arm arm = (arm.0, look arm.1)

  abbrev arm_tree : PatC × Looked X → PatC × X
  arm_tree arm = (arm.0, arm.1.tree)

  pub arm_trees : (arms : List (PatC × X)) → map arm_tree (map look_arm arms) ≡ arms
  arm_trees [] = refl
  arm_trees (arm ∷ arms) = λ i. (arm.0, tree_is arm.1 i) ∷ arm_trees arms i

  abbrev changed : ℕ → X → Option X
  changed scope x = (look x).unfolded scope

  pub arms_are : (arms : List (PatC × X)) (scope : ℕ) → arms_unfolded (map look_arm arms) scope ≡ first_changed (arm_changed changed scope) arms
  arms_are [] scope = refl
  arms_are (arm ∷ arms) scope =
      (λ i. option_or (option_map (λ x. (arm.0, x) ∷ arm_trees arms i) (changed (scope + variables_in arm.0) arm.1))
      (option_map (λ others. (arm.0, tree_is arm.1 i) ∷ others) (arms_are arms scope i)))
      ∙ (λ i. option_or (sym (map_twice (λ x. (arm.0, x)) (λ new. new ∷ arms) (changed (scope + variables_in arm.0) arm.1)) i)
      (option_map (λ others. arm ∷ others) (first_changed (arm_changed changed scope) arms)))

pub ruleset two_steps = (common_steps, first_found, second_found)

pub ruleset loop_steps = (common_steps, changed_here, none_further, take_all)
