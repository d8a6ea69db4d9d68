-- How deep what is built is, as the code counts.
use Rattle.std.proofs.Common.{◌≡◌, ℕ, ◌+◌, ◌<◌, List, [], ◌∷◌, ◌++◌, max, sym, ap, ◌∙◌, inl, inr, arith}
use Rattle.std.specs.Prelude.{nat_le, IsTrue, Some}
use Rattle.std.proofs.lemmas.Bool.{le-leb, lt-leb, leb-true, leb-false, cases_Bool}
use Rattle.hume_ast.specs.declared.tree.Pat.{Pat}
use Rattle.hume_ast.specs.declared.tree.Exp.{Exp, roll-Exp, fold-roll-Exp}
use Rattle.hume_ast.specs.declared.tree.Exp.TheVariants as tree
use Rattle.hume_ast.specs.declared.tree.Exp.TheVariants.{rolls-Raise}
use Rattle.hume_ast.specs.declared.tree.Exp.TheOpen.{Exp-F}
use Rattle.hume_ast.specs.Depth.{exp_depth, depth_step}
use Rattle.hume_ast.proofs.Depths.{some_depth}
use Rattle.parse_expressions.specs.inner.Measures.{counted, parts_depth, alternatives_depth}
use Rattle.parse_expressions.specs.inner.Parts.{in_list}

pub room_same : (depth e n : ℕ) → depth ≡ counted e → n < 4294967295 → nat_le depth n ≡ nat_le e n
room_same depth e n h k = elim (cases_Bool (nat_le e n)) [
  | inl t ↦ (let low = leb-true e n t in le-leb depth n (omega (arith, h, low)) ∙ sym t)
  | inr f ↦ (let high = leb-false e n f in lt-leb depth n (omega (arith, h, high, k)) ∙ sym f)
]

pub some_room : (depth n : ℕ) (e : Exp) → depth ≡ counted (exp_depth e) → IsTrue (nat_le depth n) → 0 < n
some_room depth n e h t = omega (arith, h, leb-true depth n t, some_depth e)

pub one_more : (items more : List Exp) (e : Exp) → more ≡ items ++ e ∷ [] → counted (max (parts_depth items) (exp_depth e)) ≡ counted (parts_depth more)
one_more items more e is = ap counted (sym (ap parts_depth is ∙ last items)) where
  last : (es : List Exp) → parts_depth (es ++ e ∷ []) ≡ max (parts_depth es) (exp_depth e)
  last [] = omega arith
  last (d ∷ es) = omega (arith, last es)

pub one_alternative : (items more : List (Pat × Exp)) (a : Pat × Exp) → more ≡ items ++ a ∷ [] → counted (max (alternatives_depth items) (exp_depth a.1)) ≡ counted (alternatives_depth more)
one_alternative items more a is = ap counted (sym (ap alternatives_depth is ∙ last items)) where
  last : (es : List (Pat × Exp)) → alternatives_depth (es ++ a ∷ []) ≡ max (alternatives_depth es) (exp_depth a.1)
  last [] = omega arith
  last (d ∷ es) = omega (arith, last es)

pub raise_depth : (name : List ℕ) (value : Exp) → exp_depth (tree.Raise name (Some value)) ≡ 1 + exp_depth value
raise_depth name value = ap exp_depth (sym (rolls-Raise name (Some value))) ∙ fold-roll-Exp ℕ depth_step (Exp-F.Raise name (Some value))

pub parens_depth : (parts : List Exp) → exp_depth (roll-Exp (in_list parts)) ≡ 1 + parts_depth parts
parens_depth [] = fold-roll-Exp ℕ depth_step (Exp-F.Tuple [])
parens_depth (first ∷ []) = fold-roll-Exp ℕ depth_step (Exp-F.Paren first) ∙ omega arith
parens_depth (first ∷ second ∷ others) = fold-roll-Exp ℕ depth_step (Exp-F.Tuple (first ∷ second ∷ others))
