-- What the walks find of each form of expression.
use Rattle.std.proofs.Common.{◌≡◌, ℕ, List, map, Some, None, ap, sym, ◌∙◌, Bool}
use Rattle.hume_ast.specs.declared.tree.BinOp.{BinOp}
use Rattle.hume_ast.specs.declared.tree.TyExp.{TyExp}
use Rattle.hume_ast.specs.declared.tree.Pat.{Pat}
use Rattle.hume_ast.specs.declared.tree.Exp.{Exp, Let, If, Case, Raise, Binary, Neg, Not, App, Con, Update, Num, Letter, Truth, Paren, Tuple, Cast, Vect, Star, roll-Exp, map-Exp, fold-roll-Exp}
use Rattle.hume_ast.specs.declared.tree.Exp.TheVariants as form
use Rattle.hume_ast.specs.declared.tree.Exp.TheOpen.{Exp-F}
use Rattle.check_typing.specs.inner.Walk.{Walk, let_walk, if_walk, case_walk, raise_walk, raise_with_walk, binary_walk, neg_walk, not_walk, app_walk, con_walk, update_walk, literal_walk, letter_walk, truth_walk, tuple_walk, cast_walk, vector_walk, star_walk, walk_step, walk}
use Rattle.check_typing.specs.inner.ResultWalk.{ResultWalk, let_result_walk, if_result_walk, case_result_walk, raise_result_walk, raise_with_result_walk, paren_result_walk, tuple_result_walk, star_result_walk, plain_result_walk, result_walk_form, result_walk_step, result_walk}
use Rattle.check_typing.specs.declared.signatures.Signatures.{Signatures}
use Rattle.check_typing.proofs.ResultWalkAgrees.{goes, walk_level}

module _ (s : Signatures) where
  abbrev walked : List (Pat × Exp) → List (Pat × Walk)
  walked arms = map (λ arm. (arm.0, walk s arm.1)) arms

  abbrev results_walked : List (Pat × Exp) → List (Pat × ResultWalk)
  results_walked arms = map (λ arm. (arm.0, result_walk s arm.1)) arms

  rolled : (x : Exp-F Exp) → walk s (roll-Exp x) ≡ walk_step s (map-Exp Exp Walk (walk s) x)
  rolled x = fold-roll-Exp Walk (walk_step s) x

  pub let_level : (name : List ℕ) (a b : Exp) → walk s (Let name a b) ≡ let_walk name (walk s a) (walk s b)
  let_level name a b = ap (walk s) (sym (form.rolls-Let name a b)) ∙ rolled (Exp-F.Let name a b)

  pub if_level : (test a b : Exp) → walk s (If test a b) ≡ if_walk (walk s test) (walk s a) (walk s b)
  if_level test a b = ap (walk s) (sym (form.rolls-If test a b)) ∙ rolled (Exp-F.If test a b)

  pub case_level : (a : Exp) (arms : List (Pat × Exp)) → walk s (Case a arms) ≡ case_walk s (walk s a) (walked arms)
  case_level a arms = ap (walk s) (sym (form.rolls-Case a arms)) ∙ rolled (Exp-F.Case a arms)

  pub raise_level : (name : List ℕ) → walk s (Raise name None) ≡ raise_walk s name
  raise_level name = ap (walk s) (sym (form.rolls-Raise name None)) ∙ rolled (Exp-F.Raise name None)

  pub raise_with_level : (name : List ℕ) (a : Exp) → walk s (Raise name (Some a)) ≡ raise_with_walk s name (walk s a)
  raise_with_level name a = ap (walk s) (sym (form.rolls-Raise name (Some a))) ∙ rolled (Exp-F.Raise name (Some a))

  pub binary_level : (sign : BinOp) (a b : Exp) → walk s (Binary sign a b) ≡ binary_walk sign (walk s a) (walk s b)
  binary_level sign a b = ap (walk s) (sym (form.rolls-Binary sign a b)) ∙ rolled (Exp-F.Binary sign a b)

  pub neg_level : (a : Exp) → walk s (Neg a) ≡ neg_walk (walk s a)
  neg_level a = ap (walk s) (sym (form.rolls-Neg a)) ∙ rolled (Exp-F.Neg a)

  pub not_level : (a : Exp) → walk s (Not a) ≡ not_walk (walk s a)
  not_level a = ap (walk s) (sym (form.rolls-Not a)) ∙ rolled (Exp-F.Not a)

  pub app_level : (name : List ℕ) (parts : List Exp) → walk s (App name parts) ≡ app_walk s name (map (walk s) parts)
  app_level name parts = ap (walk s) (sym (form.rolls-App name parts)) ∙ rolled (Exp-F.App name parts)

  pub con_level : (name : List ℕ) (parts : List Exp) → walk s (Con name parts) ≡ con_walk s name (map (walk s) parts)
  con_level name parts = ap (walk s) (sym (form.rolls-Con name parts)) ∙ rolled (Exp-F.Con name parts)

  pub update_level : (a b d : Exp) → walk s (Update a b d) ≡ update_walk (walk s a) (walk s b) (walk s d)
  update_level a b d = ap (walk s) (sym (form.rolls-Update a b d)) ∙ rolled (Exp-F.Update a b d)

  pub literal_level : (negative : Bool) (amount : ℕ) → walk s (Num negative amount) ≡ literal_walk negative amount
  literal_level negative amount = ap (walk s) (sym (form.rolls-Num negative amount)) ∙ rolled (Exp-F.Num negative amount)

  pub letter_level : (byte : ℕ) → walk s (Letter byte) ≡ letter_walk byte
  letter_level byte = ap (walk s) (sym (form.rolls-Letter byte)) ∙ rolled (Exp-F.Letter byte)

  pub truth_level : (truth : Bool) → walk s (Truth truth) ≡ truth_walk truth
  truth_level truth = ap (walk s) (sym (form.rolls-Truth truth)) ∙ rolled (Exp-F.Truth truth)

  pub paren_level : (a : Exp) → walk s (Paren a) ≡ walk s a
  paren_level a = ap (walk s) (sym (form.rolls-Paren a)) ∙ rolled (Exp-F.Paren a)

  pub tuple_level : (parts : List Exp) → walk s (Tuple parts) ≡ tuple_walk (map (walk s) parts)
  tuple_level parts = ap (walk s) (sym (form.rolls-Tuple parts)) ∙ rolled (Exp-F.Tuple parts)

  pub cast_level : (a : Exp) (type : TyExp) → walk s (Cast a type) ≡ cast_walk s (walk s a) type
  cast_level a type = ap (walk s) (sym (form.rolls-Cast a type)) ∙ rolled (Exp-F.Cast a type)

  pub vector_level : (parts : List Exp) → walk s (Vect parts) ≡ vector_walk (map (walk s) parts)
  vector_level parts = ap (walk s) (sym (form.rolls-Vect parts)) ∙ rolled (Exp-F.Vect parts)

  pub star_level : walk s Star ≡ star_walk
  star_level = ap (walk s) (sym (form.rolls-Star)) ∙ rolled Exp-F.Star

  -- one level of a result, by what the other walk finds of it
  result_rolled : (x : Exp-F Exp) → result_walk s (roll-Exp x) ≡ result_walk_form s (walk s (roll-Exp x)) (map-Exp Exp ResultWalk (result_walk s) x)
  result_rolled x =
      fold-roll-Exp ResultWalk (result_walk_step s) x
      ∙ ap (λ w. result_walk_form s w (map-Exp Exp ResultWalk (result_walk s) x)) (sym (walk_level s x) ∙ goes s (roll-Exp x))

  pub let_result_level : (name : List ℕ) (a b : Exp)
      → result_walk s (Let name a b) ≡ let_result_walk (walk s (Let name a b)) name (walk s a) (result_walk s b)
  let_result_level name a b =
      ap (result_walk s) (sym (form.rolls-Let name a b)) ∙ result_rolled (Exp-F.Let name a b)
      ∙ (λ i. let_result_walk (walk s (form.rolls-Let name a b i)) name (goes s a i) (result_walk s b))

  pub if_result_level : (test a b : Exp)
      → result_walk s (If test a b) ≡ if_result_walk (walk s (If test a b)) (walk s test) (result_walk s a) (result_walk s b)
  if_result_level test a b =
      ap (result_walk s) (sym (form.rolls-If test a b)) ∙ result_rolled (Exp-F.If test a b)
      ∙ (λ i. if_result_walk (walk s (form.rolls-If test a b i)) (goes s test i) (result_walk s a) (result_walk s b))

  pub case_result_level : (a : Exp) (arms : List (Pat × Exp))
      → result_walk s (Case a arms) ≡ case_result_walk s (walk s (Case a arms)) (walk s a) (results_walked arms)
  case_result_level a arms =
      ap (result_walk s) (sym (form.rolls-Case a arms)) ∙ result_rolled (Exp-F.Case a arms)
      ∙ (λ i. case_result_walk s (walk s (form.rolls-Case a arms i)) (goes s a i) (results_walked arms))

  pub raise_result_level : (name : List ℕ) → result_walk s (Raise name None) ≡ raise_result_walk s name (walk s (Raise name None))
  raise_result_level name =
      ap (result_walk s) (sym (form.rolls-Raise name None)) ∙ result_rolled (Exp-F.Raise name None)
      ∙ (λ i. raise_result_walk s name (walk s (form.rolls-Raise name None i)))

  pub raise_with_result_level : (name : List ℕ) (a : Exp)
      → result_walk s (Raise name (Some a)) ≡ raise_with_result_walk s name (walk s (Raise name (Some a))) (walk s a)
  raise_with_result_level name a =
      ap (result_walk s) (sym (form.rolls-Raise name (Some a))) ∙ result_rolled (Exp-F.Raise name (Some a))
      ∙ (λ i. raise_with_result_walk s name (walk s (form.rolls-Raise name (Some a) i)) (goes s a i))

  pub paren_result_level : (a : Exp) → result_walk s (Paren a) ≡ paren_result_walk (walk s (Paren a)) (result_walk s a)
  paren_result_level a =
      ap (result_walk s) (sym (form.rolls-Paren a)) ∙ result_rolled (Exp-F.Paren a)
      ∙ (λ i. paren_result_walk (walk s (form.rolls-Paren a i)) (result_walk s a))

  pub tuple_result_level : (parts : List Exp) → result_walk s (Tuple parts) ≡ tuple_result_walk (walk s (Tuple parts)) (map (result_walk s) parts)
  tuple_result_level parts =
      ap (result_walk s) (sym (form.rolls-Tuple parts)) ∙ result_rolled (Exp-F.Tuple parts)
      ∙ (λ i. tuple_result_walk (walk s (form.rolls-Tuple parts i)) (map (result_walk s) parts))

  pub star_result_level : result_walk s Star ≡ star_result_walk (walk s Star)
  star_result_level =
      ap (result_walk s) (sym (form.rolls-Star)) ∙ result_rolled Exp-F.Star ∙ (λ i. star_result_walk (walk s (form.rolls-Star i)))

  pub binary_result_level : (sign : BinOp) (a b : Exp) → result_walk s (Binary sign a b) ≡ plain_result_walk (walk s (Binary sign a b))
  binary_result_level sign a b =
      ap (result_walk s) (sym (form.rolls-Binary sign a b)) ∙ result_rolled (Exp-F.Binary sign a b)
      ∙ (λ i. plain_result_walk (walk s (form.rolls-Binary sign a b i)))

  pub neg_result_level : (a : Exp) → result_walk s (Neg a) ≡ plain_result_walk (walk s (Neg a))
  neg_result_level a =
      ap (result_walk s) (sym (form.rolls-Neg a)) ∙ result_rolled (Exp-F.Neg a) ∙ (λ i. plain_result_walk (walk s (form.rolls-Neg a i)))

  pub not_result_level : (a : Exp) → result_walk s (Not a) ≡ plain_result_walk (walk s (Not a))
  not_result_level a =
      ap (result_walk s) (sym (form.rolls-Not a)) ∙ result_rolled (Exp-F.Not a) ∙ (λ i. plain_result_walk (walk s (form.rolls-Not a i)))

  pub app_result_level : (name : List ℕ) (parts : List Exp) → result_walk s (App name parts) ≡ plain_result_walk (walk s (App name parts))
  app_result_level name parts =
      ap (result_walk s) (sym (form.rolls-App name parts)) ∙ result_rolled (Exp-F.App name parts)
      ∙ (λ i. plain_result_walk (walk s (form.rolls-App name parts i)))

  pub con_result_level : (name : List ℕ) (parts : List Exp) → result_walk s (Con name parts) ≡ plain_result_walk (walk s (Con name parts))
  con_result_level name parts =
      ap (result_walk s) (sym (form.rolls-Con name parts)) ∙ result_rolled (Exp-F.Con name parts)
      ∙ (λ i. plain_result_walk (walk s (form.rolls-Con name parts i)))

  pub update_result_level : (a b d : Exp) → result_walk s (Update a b d) ≡ plain_result_walk (walk s (Update a b d))
  update_result_level a b d =
      ap (result_walk s) (sym (form.rolls-Update a b d)) ∙ result_rolled (Exp-F.Update a b d)
      ∙ (λ i. plain_result_walk (walk s (form.rolls-Update a b d i)))

  pub literal_result_level : (negative : Bool) (amount : ℕ) → result_walk s (Num negative amount) ≡ plain_result_walk (walk s (Num negative amount))
  literal_result_level negative amount =
      ap (result_walk s) (sym (form.rolls-Num negative amount)) ∙ result_rolled (Exp-F.Num negative amount)
      ∙ (λ i. plain_result_walk (walk s (form.rolls-Num negative amount i)))

  pub letter_result_level : (byte : ℕ) → result_walk s (Letter byte) ≡ plain_result_walk (walk s (Letter byte))
  letter_result_level byte =
      ap (result_walk s) (sym (form.rolls-Letter byte)) ∙ result_rolled (Exp-F.Letter byte)
      ∙ (λ i. plain_result_walk (walk s (form.rolls-Letter byte i)))

  pub truth_result_level : (truth : Bool) → result_walk s (Truth truth) ≡ plain_result_walk (walk s (Truth truth))
  truth_result_level truth =
      ap (result_walk s) (sym (form.rolls-Truth truth)) ∙ result_rolled (Exp-F.Truth truth)
      ∙ (λ i. plain_result_walk (walk s (form.rolls-Truth truth i)))

  pub cast_result_level : (a : Exp) (type : TyExp) → result_walk s (Cast a type) ≡ plain_result_walk (walk s (Cast a type))
  cast_result_level a type =
      ap (result_walk s) (sym (form.rolls-Cast a type)) ∙ result_rolled (Exp-F.Cast a type)
      ∙ (λ i. plain_result_walk (walk s (form.rolls-Cast a type i)))

  pub vector_result_level : (parts : List Exp) → result_walk s (Vect parts) ≡ plain_result_walk (walk s (Vect parts))
  vector_result_level parts =
      ap (result_walk s) (sym (form.rolls-Vect parts)) ∙ result_rolled (Exp-F.Vect parts)
      ∙ (λ i. plain_result_walk (walk s (form.rolls-Vect parts i)))

pub ruleset walk_levels =
    (let_level, if_level, case_level, raise_level, raise_with_level, binary_level, neg_level, not_level, app_level, con_level, update_level, literal_level, letter_level, truth_level, paren_level, tuple_level, cast_level, vector_level, star_level)

pub ruleset result_levels =
    (let_result_level, if_result_level, case_result_level, raise_result_level, raise_with_result_level, paren_result_level, tuple_result_level, star_result_level, binary_result_level, neg_result_level, not_result_level, app_result_level, con_result_level, update_result_level, literal_result_level, letter_result_level, truth_result_level, cast_result_level, vector_result_level)
