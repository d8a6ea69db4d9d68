-- Parts with operators between them, with more room.
use Rattle.std.proofs.Common.{◌≡◌, ℕ, zero, suc, ◌+◌, ◌<◌, ◌≤◌, List, [], ◌∷◌, ◌++◌, length, Bool, true, false, cond, refl, sym, ◌∙◌, subst, arith}
use Rattle.std.specs.Prelude.{Ok, Option, Some, None, nat_le, is_some}
use Rattle.std.proofs.lemmas.Bool.{leb-true, le-leb}
use Rattle.hume_base.specs.declared.token.Kind.{Kind}
use Rattle.hume_ast.specs.declared.tree.BinOp.{BinOp}
use Rattle.hume_ast.specs.declared.tree.Exp.{Exp, roll-Exp}
use Rattle.hume_ast.specs.declared.tree.Exp.TheOpen.{Exp-F}
use Rattle.hume_ast.specs.Spelling.{spelled_exp}
use Rattle.hume_ast.specs.Fits.{ExpFits, op_level, left_level}
use Rattle.hume_ast.specs.Depth.{exp_depth}
use Rattle.hume_ast.proofs.Depths.{fits_depth}
use Rattle.parse_readers.specs.inner.Readers.{Reader, ◌>>=◌, too_deep, behind}
use Rattle.parse_readers.specs.inner.Expressions.{next_operator, with_operator, one_operand, operands, chain, comparison}
use Rattle.parse_readers.proofs.Local.{Local, local_give}
use Rattle.parse_readers.proofs.Forms.{Reads}
use Rattle.parse_readers.proofs.Levels.{LayerFit, exp_spell, EndsAt}
use Rattle.parse_readers.proofs.Chains.{rolled_fit, operand_sound, local_operands, shrinks, operands_stop, operands_turn}
use Rattle.parse_readers.proofs.ExpressionsRead.{second, second_local}
use Rattle.parse_readers.proofs.ChainsBegin.{some_depth}
use Rattle.parse_readers.proofs.Grows.{same_after, Same, Grows, within, past_bind, same_bind, past_more}

module _ (r s l : ℕ) (p q : Reader Exp) (lq : Local q) (more : r + 2 ≤ s) (h : 0 < r → Grows p q) where
  abbrev joined : BinOp → Exp-F Exp → Exp → Reader (Exp-F Exp)
  joined o x right ts = Ok (Exp-F.Binary o (roll-Exp x) right, ts)

  behind_less : (ks : List Kind) (o : BinOp) → next_operator l ks ≡ Some o → length (behind ks) < length ks
  behind_less [] o e = cc
  behind_less (k ∷ ks) o e = omega arith

  right_grows : (o : BinOp) (x : Exp-F Exp) (ks : List Kind) → next_operator l ks ≡ Some o → exp_depth (roll-Exp x) ≤ suc r
      → (c : Bool) → nat_le (exp_depth (roll-Exp x)) r ≡ c → (d : Bool) → nat_le (exp_depth (roll-Exp x)) s ≡ d
      → Same (cond c (p (behind ks) >>= λ y. joined o x y.0 y.1) (too_deep ks)) (cond d (q (behind ks) >>= λ y. joined o x y.0 y.1) (too_deep ks))
  right_grows o x ks n deep c e false f = absurd (let g : false ≡ true = sym f ∙ le-leb (exp_depth (roll-Exp x)) s (omega (arith, deep, more)) in cc)
  right_grows o x ks n deep true e true f = same_bind (joined o x) (λ y. local_give (Exp-F.Binary o (roll-Exp x) y)) (joined o x) (λ y ts. refl) (p (behind ks)) (q (behind ks))
      (h (omega (arith, some_depth (roll-Exp x), leb-true (exp_depth (roll-Exp x)) r e)) (behind ks))
  right_grows o x ks n deep false e true f = past_bind (joined o x) (λ y. local_give (Exp-F.Binary o (roll-Exp x) y)) (length ks) (q (behind ks))
      (past_more (suc (length (behind ks))) (length ks) (q (behind ks)) (within q lq (behind ks)) (behind_less ks o n))

  pub one_grows : (x : Exp-F Exp) (ks : List Kind) → exp_depth (roll-Exp x) ≤ suc r → Same (one_operand l r p x ks) (one_operand l s q x ks)
  one_grows x ks deep = by (next_operator l ks) refl where
    by : (o : Option BinOp) → next_operator l ks ≡ o → Same (with_operator o r p x ks) (with_operator o s q x ks)
    by None n = refl
    by (Some o) n = right_grows o x ks n deep (nat_le (exp_depth (roll-Exp x)) r) refl (nat_le (exp_depth (roll-Exp x)) s) refl

module _ (b r b2 s l : ℕ) (p q : Reader Exp) (reads : Reads spelled_exp (ExpFits b r (suc l)) (EndsAt (suc l)) p) (reads2 : Reads spelled_exp (ExpFits b2 s (suc l)) (EndsAt (suc l)) q) (groups : (o : BinOp) → op_level o ≡ l → left_level o ≡ l)
    (more : r + 2 ≤ s) (h : 0 < r → Grows p q) where
  layer_deep : (x : Exp-F Exp) → LayerFit b r l x → exp_depth (roll-Exp x) ≤ suc r
  layer_deep x f = fits_depth b (suc r) l (roll-Exp x) (rolled_fit b r l x f)

  abbrev Later : List Kind → Type 0
  Later ks = (y : Exp-F Exp) (ls : List Kind) → length ls < length ks → LayerFit b r l y → Same (operands l r p y ls) (operands l s q y ls)

  next_grows : (x : Exp-F Exp) (ks : List Kind) → Later ks → LayerFit b r l x → Same (one_operand l r p x ks >>= λ y. operands l r p y.0 y.1) (one_operand l s q x ks >>= λ y. operands l s q y.0 y.1)
  next_grows x ks later f = same_after (operands l s q) (local_operands b2 s l q reads2 groups) (operands l r p) (one_operand l r p x ks) (one_operand l s q x ks) (one_grows r s l p q reads2.local more h x ks (layer_deep x f))
      (λ y e. later y.0 y.1 (shrinks b r l p reads groups x ks y e) (operand_sound b r l l p reads groups (exp_spell x ++ ks) ks x y f refl e).0)

  turn_grows : (x : Exp-F Exp) (ks : List Kind) → Later ks → LayerFit b r l x → (o : Option BinOp) → next_operator l ks ≡ o → Same (operands l r p x ks) (operands l s q x ks)
  turn_grows x ks later f None n = subst (λ t. Same t (operands l s q x ks)) (sym (operands_stop b r l p reads groups x ks n)) (operands_stop b2 s l q reads2 groups x ks n)
  turn_grows x ks later f (Some o) n =
      subst (λ t. Same t (operands l s q x ks)) (sym (operands_turn b r l p reads groups x ks o n))
      (subst (λ t. Same (one_operand l r p x ks >>= λ y. operands l r p y.0 y.1) t) (sym (operands_turn b2 s l q reads2 groups x ks o n))
      (next_grows x ks later f))

  grows_by : (most : ℕ) (x : Exp-F Exp) (ks : List Kind) → length ks ≤ most → LayerFit b r l x → Same (operands l r p x ks) (operands l s q x ks)
  grows_by zero x ks less f = turn_grows x ks (λ y ls w g. absurd (omega (arith, less, w))) f (next_operator l ks) refl
  grows_by (suc most) x ks less f = turn_grows x ks (λ y ls w g. grows_by most y ls (omega (arith, less, w)) g) f (next_operator l ks) refl

  -- the whole chain
  module _ (first first2 : Reader (Exp-F Exp)) (firsts : Reads exp_spell (LayerFit b r (suc l)) (EndsAt (suc l)) first) (hf : Grows first first2) where
    pub grows_chain : Grows (chain l r p first) (chain l s q first2)
    grows_chain ks = same_after (operands l s q) (local_operands b2 s l q reads2 groups) (operands l r p) (first ks) (first2 ks) (hf ks)
        (λ y e. (let fit = (firsts.sound ks y e).0 in grows_by (length y.1) y.0 y.1 (omega arith) (omega (arith, fit.0), fit.1)))

-- two parts with a comparison between them, or one
pub grows_comparison : (b r b2 s : ℕ) (p q : Reader Exp) (first first2 : Reader (Exp-F Exp)) → Reads spelled_exp (ExpFits b2 s 5) (EndsAt 5) q → Reads exp_spell (LayerFit b r 5) (EndsAt 5) first → Reads exp_spell (LayerFit b2 s 5) (EndsAt 5) first2
    → r + 2 ≤ s → (0 < r → Grows p q) → Grows first first2 → Grows (comparison 4 r p first) (comparison 4 s q first2)
grows_comparison b r b2 s p q first first2 reads2 firsts firsts2 more h hf ks = same_after (second b2 s q first2 reads2 firsts2) (second_local b2 s q first2 reads2 firsts2) second_below (first ks) (first2 ks) (hf ks)
    (λ y e. by y (deep y.0 (firsts.sound ks y e).0) (is_some (next_operator 4 y.1))) where
      second_below : Exp-F Exp → Reader (Exp-F Exp)
      second_below x ts = cond (is_some (next_operator 4 ts)) (one_operand 4 r p x ts) (Ok (x, ts))

      deep : (x : Exp-F Exp) → LayerFit b r 5 x → exp_depth (roll-Exp x) ≤ suc r
      deep x f = fits_depth b (suc r) 5 (roll-Exp x) (rolled_fit b r 5 x f)

      by : (y : Exp-F Exp × List Kind) → exp_depth (roll-Exp y.0) ≤ suc r → (c : Bool) → Same (cond c (one_operand 4 r p y.0 y.1) (Ok (y.0, y.1))) (cond c (one_operand 4 s q y.0 y.1) (Ok (y.0, y.1)))
      by y d true = one_grows r s 4 p q reads2.local more h y.0 y.1 d
      by y d false = refl
