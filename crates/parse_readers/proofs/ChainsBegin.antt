-- Where readers of parts with operators between them stop, the tokens in front of the wrong one begin such parts.
use Rattle.std.proofs.Common.{◌≡◌, ℕ, zero, suc, ◌<◌, ◌≤◌, List, [], ◌∷◌, ◌++◌, length, true, false, cond, refl, sym, ap, ◌∙◌, subst, inl, inr, arith, append_assoc, append-nil}
use Rattle.std.specs.Prelude.{Ok, Err, Option, Some, None, is_some, nat_le}
use Rattle.std.proofs.lemmas.Bool.{leb-true}
use Rattle.hume_base.specs.declared.token.Kind.{Kind}
use Rattle.hume_ast.specs.declared.tree.BinOp.{BinOp}
use Rattle.hume_ast.specs.declared.tree.Exp.{Exp, roll-Exp}
use Rattle.hume_ast.specs.declared.tree.Exp.TheOpen.{Exp-F}
use Rattle.hume_ast.specs.Spelling.{spelled_exp, operator_token}
use Rattle.hume_ast.specs.Fits.{ExpFits, op_level, left_level}
use Rattle.hume_ast.specs.Depth.{exp_depth}
use Rattle.hume_ast.proofs.Depths.{depth_out}
use Rattle.parse_readers.specs.inner.Readers.{Wrong, Reader, ◌>>=◌, behind}
use Rattle.parse_readers.specs.inner.Expressions.{next_operator, with_operator, one_operand, operands, chain, comparison}
use Rattle.parse_readers.proofs.Local.{chosen}
use Rattle.parse_readers.proofs.Forms.{Reads}
use Rattle.parse_readers.proofs.Levels.{LayerFit, exp_spell, exp_spelled, EndsAt, operator_next}
use Rattle.parse_readers.proofs.Chains.{operand_fit, operand_sound, shrinks, operands_stop, operands_turn}
use Rattle.parse_readers.proofs.ExpressionsRead.{compares}
use Rattle.parse_readers.proofs.Begins.{Begun, Begins, bind_err, err_same, restated_begins}
use Rattle.parse_readers.proofs.AtomsBegin.{some_exp, some_exp_fits}

-- an expression is one deep at least
pub some_depth : (e : Exp) → 0 < exp_depth e
some_depth e = omega (arith, depth_out e)

module _ (bound room l lo : ℕ) (child : Reader Exp) (reads : Reads spelled_exp (ExpFits bound room (suc l)) (EndsAt (suc l)) child) (groups : (o : BinOp) → op_level o ≡ l → left_level o ≡ lo)
    (begins : Begins spelled_exp (ExpFits bound room (suc l)) child) (low : l ≤ lo) (high : l ≤ 8) where
  abbrev Chained : List Kind → ℕ → Type 0
  Chained = Begun exp_spell (LayerFit bound room l)

  -- the left part alone
  left_begins : (x : Exp-F Exp) (ks : List Kind) (n : ℕ) → LayerFit bound room lo x → n ≡ length ks → Chained (exp_spell x ++ ks) n
  left_begins x ks n f e = inr (exp_spell x, ks, refl, e, x, [], (omega (arith, f.0, low), f.1), sym (append-nil (exp_spell x)))

  both_spelled : (x : Exp-F Exp) (o : BinOp) (right : Exp) → exp_spell (Exp-F.Binary o (roll-Exp x) right) ≡ exp_spell x ++ operator_token o ∷ spelled_exp right
  both_spelled x o right = ap (λ m. m ++ operator_token o ∷ spelled_exp right) (exp_spelled x)

  -- the left part, the operator, and what is there of the right part
  right_begins : (x : Exp-F Exp) (o : BinOp) (ks : List Kind) (n : ℕ) → LayerFit bound room lo x → op_level o ≡ l → exp_depth (roll-Exp x) ≤ room → Begun spelled_exp (ExpFits bound room (suc l)) ks n → Chained (exp_spell x ++ operator_token o ∷ ks) n
  right_begins x o ks n f e d (inl w) =
      let fits = some_exp_fits bound room (suc l) (omega (arith, high)) (omega (arith, d, some_depth (roll-Exp x))) in
      inr (
        exp_spell x ++ operator_token o ∷ [],
        ks,
        sym (append_assoc (exp_spell x) (operator_token o ∷ []) ks),
        w,
        Exp-F.Binary o (roll-Exp x) some_exp,
        spelled_exp some_exp,
        operand_fit bound room l lo child reads groups x o some_exp f e d fits,
        both_spelled x o some_exp ∙ sym (append_assoc (exp_spell x) (operator_token o ∷ []) (spelled_exp some_exp)),
      )
  right_begins x o ks n f e d (inr s) = inr (
    exp_spell x ++ operator_token o ∷ s.0,
    s.1,
    ap (λ m. exp_spell x ++ operator_token o ∷ m) s.2 ∙ sym (append_assoc (exp_spell x) (operator_token o ∷ s.0) s.1),
    s.3,
    Exp-F.Binary o (roll-Exp x) s.4,
    s.5,
    operand_fit bound room l lo child reads groups x o s.4 f e d s.6,
    both_spelled x o s.4 ∙ ap (λ m. exp_spell x ++ operator_token o ∷ m) s.7 ∙ sym (append_assoc (exp_spell x) (operator_token o ∷ s.0) s.5),
  )

  with_begins : (o : Option BinOp) (x : Exp-F Exp) (ks : List Kind) (n : Wrong) → next_operator l ks ≡ o → LayerFit bound room lo x → with_operator o room child x ks ≡ Err n → Chained (exp_spell x ++ ks) n.1
  with_begins None x ks n g f e = left_begins x ks n.1 f (err_same false (length ks) n e)
  with_begins (Some o) x ks n g f e =
      elim (chosen (nat_le (exp_depth (roll-Exp x)) room) (child (behind ks) >>= λ right. Ok (Exp-F.Binary o (roll-Exp x) right.0, right.1)) (Err (true, length ks)) (Err n) e) [
        | inr w ↦ left_begins x ks n.1 f (err_same true (length ks) n w.1)
        | inl w ↦ elim (bind_err (child (behind ks)) (λ right. Ok (Exp-F.Binary o (roll-Exp x) right.0, right.1)) n w.1) [
          | inr v ↦ absurd (let h = v.2 in cc)
          | inl v ↦
              let next = operator_next l ks o g in
              let is : ks ≡ operator_token o ∷ behind ks = next.1 ∙ ap (λ m. operator_token o ∷ m) (sym (ap behind next.1)) in
              subst (λ m. Chained (exp_spell x ++ m) n.1) (sym is) (right_begins x o (behind ks) n.1 f next.2 (leb-true (exp_depth (roll-Exp x)) room w.0) (begins (behind ks) n v))
        ]
      ]

  pub operand_begins : (start ks : List Kind) (x : Exp-F Exp) (n : Wrong) → LayerFit bound room lo x → start ≡ exp_spell x ++ ks → one_operand l room child x ks ≡ Err n → Begun exp_spell (LayerFit bound room l) start n.1
  operand_begins start ks x n f h e = subst (λ m. Chained m n.1) (sym h) (with_begins (next_operator l ks) x ks n refl f e)

module _ (bound room l : ℕ) (child : Reader Exp) (reads : Reads spelled_exp (ExpFits bound room (suc l)) (EndsAt (suc l)) child) (groups : (o : BinOp) → op_level o ≡ l → left_level o ≡ l)
    (begins : Begins spelled_exp (ExpFits bound room (suc l)) child) (high : l ≤ 8) where
  abbrev BeginsBehind : List Kind → Wrong → Exp-F Exp → List Kind → Type 0
  BeginsBehind start n x ks = LayerFit bound room l x → start ≡ exp_spell x ++ ks → operands l room child x ks ≡ Err n → Begun exp_spell (LayerFit bound room l) start n.1

  turn_begins : (start : List Kind) (n : Wrong) (x : Exp-F Exp) (ks : List Kind) → ((y : Exp-F Exp) (ls : List Kind) → length ls < length ks → BeginsBehind start n y ls) → (o : Option BinOp) → next_operator l ks ≡ o → BeginsBehind start n x ks
  turn_begins start n x ks later None g f h e = absurd (let w = sym (operands_stop bound room l child reads groups x ks g) ∙ e in cc)
  turn_begins start n x ks later (Some o) g f h e =
      elim (bind_err (one_operand l room child x ks) (λ y. operands l room child y.0 y.1) n (sym (operands_turn bound room l child reads groups x ks o g) ∙ e)) [
        | inl v ↦ operand_begins bound room l l child reads groups begins (omega arith) high start ks x n f h v
        | inr v ↦
            let s = operand_sound bound room l l child reads groups start ks x v.0 f h v.1 in
            later v.0.0 v.0.1 (shrinks bound room l child reads groups x ks v.0 v.1) s.0 s.1 v.2
      ]

  turns_begin : (most : ℕ) (start : List Kind) (n : Wrong) (x : Exp-F Exp) (ks : List Kind) → length ks ≤ most → BeginsBehind start n x ks
  turns_begin zero start n x ks less = turn_begins start n x ks (λ y ls w. absurd (omega (arith, less, w))) (next_operator l ks) refl
  turns_begin (suc most) start n x ks less = turn_begins start n x ks (λ y ls w. turns_begin most start n y ls (omega (arith, less, w))) (next_operator l ks) refl

  pub chain_begins : (first : Reader (Exp-F Exp)) → Reads exp_spell (LayerFit bound room (suc l)) (EndsAt (suc l)) first → Begins exp_spell (LayerFit bound room (suc l)) first → Begins exp_spell (LayerFit bound room l) (chain l room child first)
  chain_begins first firsts first_begins ks n e =
      elim (bind_err (first ks) (λ x. operands l room child x.0 x.1) n e) [
        | inl w ↦ restated_begins first_begins exp_spell (LayerFit bound room l) (λ x f. ((omega (arith, f.0), f.1), refl)) ks n w
        | inr w ↦ (let s = firsts.sound ks w.0 w.1 in turns_begin (length w.0.1) ks n w.0.0 w.0.1 (omega arith) (omega (arith, s.0.0), s.0.1) s.1 w.2)
      ]

pub comparison_begins : (bound room : ℕ) (child : Reader Exp) (first : Reader (Exp-F Exp)) → Reads spelled_exp (ExpFits bound room 5) (EndsAt 5) child → Reads exp_spell (LayerFit bound room 5) (EndsAt 5) first
    → Begins spelled_exp (ExpFits bound room 5) child → Begins exp_spell (LayerFit bound room 5) first → Begins exp_spell (LayerFit bound room 4) (comparison 4 room child first)
comparison_begins bound room child first reads firsts begins first_begins ks n e =
    elim (bind_err (first ks) (λ x. cond (is_some (next_operator 4 x.1)) (one_operand 4 room child x.0 x.1) (Ok (x.0, x.1))) n e) [
      | inl w ↦ restated_begins first_begins exp_spell (LayerFit bound room 4) (λ x f. ((omega (arith, f.0), f.1), refl)) ks n w
      | inr w ↦ elim (chosen (is_some (next_operator 4 w.0.1)) (one_operand 4 room child w.0.0 w.0.1) (Ok (w.0.0, w.0.1)) (Err n) w.2) [
        | inl v ↦ (let s = firsts.sound ks w.0 w.1 in operand_begins bound room 4 5 child reads compares begins (omega arith) (omega arith) ks w.0.1 w.0.0 n s.0 s.1 v.1)
        | inr v ↦ absurd (let g = v.1 in cc)
      ]
    ]
