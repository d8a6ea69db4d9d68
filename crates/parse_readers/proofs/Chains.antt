-- Parts with operators between them.
use Rattle.std.proofs.Common.{◌≡◌, ℕ, zero, suc, ◌+◌, ◌<◌, ◌≤◌, List, [], ◌∷◌, ◌++◌, length, Bool, true, false, cond, refl, sym, ap, ◌∙◌, subst, inl, inr, arith, length-append, append_assoc}
use Rattle.std.specs.Prelude.{Ok, Option, Some, None, is_some, nat_le}
use Rattle.std.proofs.lemmas.Bool.{leb-true, le-leb, cases_eq}
use Rattle.hume_base.specs.declared.token.Kind.{Kind}
use Rattle.hume_ast.specs.declared.tree.BinOp.{BinOp}
use Rattle.hume_ast.specs.declared.tree.Exp.{Exp, roll-Exp, out-Exp, roll-out-Exp, out-roll-Exp}
use Rattle.hume_ast.specs.declared.tree.Exp.TheOpen.{Exp-F}
use Rattle.hume_ast.specs.Spelling.{spelled_exp, operator_token}
use Rattle.hume_ast.specs.Fits.{ExpFits, ExpParts, TypeFits, PatFits, exp_level, op_level, left_level}
use Rattle.hume_ast.specs.Depth.{exp_depth}
use Rattle.hume_ast.proofs.Depths.{fits_depth, refit, parts_wider}
use Rattle.parse_readers.specs.inner.Readers.{Reader, ◌>>=◌, stop, too_deep, behind}
use Rattle.parse_readers.specs.inner.Expressions.{next_operator, with_operator, one_operand, operands_by, operands, chain}
use Rattle.parse_readers.proofs.Local.{Local, Splits, bind_ok, bind_same, chosen, chosen_ok, local_bind, local_behind, local_as, splits_as, splits_bind, local_stop, local_too_deep, local_give, stop_empty, give_empty}
use Rattle.parse_readers.proofs.Forms.{Reads, along}
use Rattle.parse_readers.proofs.Levels.{LayerFit, exp_spell, exp_spelled, spelled_out, EndsAt, stops_above, operator_next, is_next, operator_stops, no_operator}

pub rolled_fit : (bound room level : ℕ) (x : Exp-F Exp) → LayerFit bound room level x → ExpFits bound (suc room) level (roll-Exp x)
rolled_fit bound room level x f = subst (LayerFit bound room level) (sym (out-roll-Exp x)) f

abbrev Bind : ℕ → ℕ → Reader Exp → BinOp → Exp-F Exp → Reader (Exp-F Exp)
Bind level room child o left ks = child ks >>= λ right. Ok (Exp-F.Binary o (roll-Exp left) right.0, right.1)

module _ (bound room l lo : ℕ) (child : Reader Exp) (reads : Reads spelled_exp (ExpFits bound room (suc l)) (EndsAt (suc l)) child) (groups : (o : BinOp) → op_level o ≡ l → left_level o ≡ lo) where
  operand_at : (o : Option BinOp) (x : Exp-F Exp) (ks : List Kind) (y : Exp-F Exp × List Kind) → next_operator l ks ≡ o → with_operator o room child x ks ≡ Ok y
      → (b : BinOp) × (right : Exp) × (y.0 ≡ Exp-F.Binary b (roll-Exp x) right) × (ks ≡ operator_token b ∷ (spelled_exp right ++ y.1)) × (op_level b ≡ l) × (exp_depth (roll-Exp x) ≤ room) × ExpFits bound room (suc l) right
  operand_at None x ks y n e = cc
  operand_at (Some b) x ks y n e =
      let w = chosen_ok (nat_le (exp_depth (roll-Exp x)) room) (child (behind ks) >>= λ right. Ok (Exp-F.Binary b (roll-Exp x) right.0, right.1)) (true, length ks) y e in
      let u = bind_ok (child (behind ks)) (λ right. Ok (Exp-F.Binary b (roll-Exp x) right.0, right.1)) y w.1 in
      let is : (Exp-F.Binary b (roll-Exp x) u.0.0, u.0.1) ≡ y = (let f = u.2 in cc) in
      let next = operator_next l ks b n in
      let part = reads.sound (behind ks) u.0 u.1 in (
        b,
        u.0.0,
        sym (ap (λ (z : Exp-F Exp × List Kind). z.0) is),
        next.1 ∙ ap (λ m. operator_token b ∷ m) (sym (ap behind next.1) ∙ part.1 ∙ ap (λ (z : Exp-F Exp × List Kind). spelled_exp u.0.0 ++ z.1) is),
        next.2,
        leb-true (exp_depth (roll-Exp x)) room w.0,
        part.0,
      )

  pub operand_shrinks : (x : Exp-F Exp) (ks : List Kind) (y : Exp-F Exp × List Kind) → one_operand l room child x ks ≡ Ok y → length y.1 < length ks
  operand_shrinks x ks y e = let p = operand_at (next_operator l ks) x ks y refl e in omega (arith, ap length p.3, length-append (spelled_exp p.1) y.1)

  pub operand_fit : (x : Exp-F Exp) (b : BinOp) (right : Exp) → LayerFit bound room lo x → op_level b ≡ l → exp_depth (roll-Exp x) ≤ room → ExpFits bound room (suc l) right → LayerFit bound room l (Exp-F.Binary b (roll-Exp x) right)
  operand_fit x b right f e d g = (
    omega (arith, e),
    (
      subst (λ n. ExpFits bound room n (roll-Exp x)) (sym (groups b e)) (refit bound (suc room) room lo (roll-Exp x) d (rolled_fit bound room lo x f)),
      (let same : suc l ≡ op_level b + 1 = omega (arith, e) in subst (λ n. ExpFits bound room n right) same g),
    ),
  )

  -- what an operand gives, sound
  pub operand_sound : (start ks : List Kind) (x : Exp-F Exp) (y : Exp-F Exp × List Kind) → LayerFit bound room lo x → start ≡ exp_spell x ++ ks → one_operand l room child x ks ≡ Ok y → LayerFit bound room l y.0 × (start ≡ exp_spell y.0 ++ y.1)
  operand_sound start ks x y f h e =
      let p = operand_at (next_operator l ks) x ks y refl e in
      subst (λ z. LayerFit bound room l z × (start ≡ exp_spell z ++ y.1)) (sym p.2) (
        operand_fit x p.0 p.1 f p.4 p.5 p.6,
        h ∙ ap (λ m. exp_spell x ++ m) p.3 ∙ sym (append_assoc (exp_spell x) (operator_token p.0 ∷ spelled_exp p.1) y.1) ∙ ap (λ m. (m ++ operator_token p.0 ∷ spelled_exp p.1) ++ y.1) (sym (exp_spelled x)),
      )

  -- an operand, over what is spelled
  pub operand_complete : (o : BinOp) (x : Exp-F Exp) (right : Exp) (rest : List Kind) → op_level o ≡ l → exp_depth (roll-Exp x) ≤ room → ExpFits bound room (suc l) right → EndsAt (suc l) rest
      → one_operand l room child x (operator_token o ∷ (spelled_exp right ++ rest)) ≡ Ok (Exp-F.Binary o (roll-Exp x) right, rest)
  operand_complete o x right rest e d f s = rw (is_next l o (spelled_exp right ++ rest) e, le-leb (exp_depth (roll-Exp x)) room d, reads.complete right rest f s)

  local_with : (x : Exp-F Exp) (k : Kind) (ks : List Kind) (o : Option BinOp) → next_operator l (k ∷ []) ≡ o → (b : Bool) → nat_le (exp_depth (roll-Exp x)) room ≡ b → Splits (one_operand l room child x) (k ∷ ks) (one_operand l room child x (k ∷ ks))
  local_with x k ks None e b g = local_as (one_operand l room child x) stop k (λ ls. rw e) local_stop ks
  local_with x k ks (Some o) e true g = local_behind (one_operand l room child x) (Bind l room child o x) k (λ ls. rw (e, g)) (local_bind child (λ right m. Ok (Exp-F.Binary o (roll-Exp x) right, m)) reads.local (λ right. local_give (Exp-F.Binary o (roll-Exp x) right))) ks
  local_with x k ks (Some o) e false g = local_as (one_operand l room child x) too_deep k (λ ls. rw (e, g)) local_too_deep ks

  operand_split : (x : Exp-F Exp) (ks : List Kind) → Splits (one_operand l room child x) ks (one_operand l room child x ks)
  operand_split x [] = stop_empty (one_operand l room child x) refl
  operand_split x (k ∷ ks) = local_with x k ks (next_operator l (k ∷ [])) refl (nat_le (exp_depth (roll-Exp x)) room) refl

  pub local_operand : (x : Exp-F Exp) → Local (one_operand l room child x)
  local_operand x = record { at = operand_split x }

module _ (room l : ℕ) (child : Reader Exp) (shrinks : (x : Exp-F Exp) (ks : List Kind) (y : Exp-F Exp × List Kind) → one_operand l room child x ks ≡ Ok y → length y.1 < length ks) where
  abbrev goes_on : List Kind → Bool
  goes_on ks = is_some (next_operator l ks)

  abbrev one_step : Exp-F Exp → Reader (Exp-F Exp)
  one_step = one_operand l room child

  at_end : (n : ℕ) (x : Exp-F Exp) → operands_by n l room child x [] ≡ Ok (x, [])
  at_end zero x = refl
  at_end (suc n) x = refl

  enough : (n m : ℕ) (x : Exp-F Exp) (ks : List Kind) → length ks ≤ n → length ks ≤ m → operands_by n l room child x ks ≡ operands_by m l room child x ks
  enough n m x [] h k = at_end n x ∙ sym (at_end m x)
  enough zero m x (j ∷ ks) h k = absurd (omega arith)
  enough (suc n) zero x (j ∷ ks) h k = absurd (omega arith)
  enough (suc n) (suc m) x (j ∷ ks) h k =
      ap (λ r. cond (goes_on (j ∷ ks)) r (Ok (x, j ∷ ks)))
      (bind_same (one_step x (j ∷ ks)) (λ y. operands_by n l room child y.0 y.1) (λ y. operands_by m l room child y.0 y.1)
      (λ y e. let less = shrinks x (j ∷ ks) y e in enough n m y.0 y.1 (omega arith) (omega arith)))

  pub stop_at : (x : Exp-F Exp) (ks : List Kind) → next_operator l ks ≡ None → operands l room child x ks ≡ Ok (x, ks)
  unfolding operands
  stop_at x [] e = refl
  stop_at x (k ∷ ks) e = rw e

  pub turn_at : (x : Exp-F Exp) (ks : List Kind) (o : BinOp) → next_operator l ks ≡ Some o → operands l room child x ks ≡ (one_step x ks >>= λ y. operands l room child y.0 y.1)
  unfolding operands
  turn_at x [] o e = cc
  turn_at x (k ∷ ks) o e =
      ap (λ (n : Option BinOp). cond (is_some n) (one_step x (k ∷ ks) >>= λ y. operands_by (length ks) l room child y.0 y.1) (Ok (x, k ∷ ks))) e
      ∙ bind_same (one_step x (k ∷ ks)) (λ y. operands_by (length ks) l room child y.0 y.1) (λ y. operands_by (length y.1) l room child y.0 y.1)
      (λ y is. let less = shrinks x (k ∷ ks) y is in enough (length ks) (length y.1) y.0 y.1 (omega arith) (omega arith))

module _ (bound room l : ℕ) (child : Reader Exp) (reads : Reads spelled_exp (ExpFits bound room (suc l)) (EndsAt (suc l)) child) (groups : (o : BinOp) → op_level o ≡ l → left_level o ≡ l) where
  pub shrinks : (x : Exp-F Exp) (ks : List Kind) (y : Exp-F Exp × List Kind) → one_operand l room child x ks ≡ Ok y → length y.1 < length ks
  shrinks = operand_shrinks bound room l l child reads groups

  abbrev goes : List Kind → Bool
  goes ks = is_some (next_operator l ks)

  abbrev step : Exp-F Exp → Reader (Exp-F Exp)
  step = one_operand l room child

  pub operands_stop : (x : Exp-F Exp) (ks : List Kind) → next_operator l ks ≡ None → operands l room child x ks ≡ Ok (x, ks)
  operands_stop = stop_at room l child shrinks

  pub operands_turn : (x : Exp-F Exp) (ks : List Kind) (o : BinOp) → next_operator l ks ≡ Some o → operands l room child x ks ≡ (step x ks >>= λ y. operands l room child y.0 y.1)
  operands_turn = turn_at room l child shrinks

  -- what each turn keeps, all turns keep
  keep : (start : List Kind) (n : ℕ) (x : Exp-F Exp) (ks : List Kind) (y : Exp-F Exp × List Kind) → LayerFit bound room l x → start ≡ exp_spell x ++ ks → operands_by n l room child x ks ≡ Ok y → LayerFit bound room l y.0 × (start ≡ exp_spell y.0 ++ y.1)
  keep start zero x ks y f h e = along exp_spell (LayerFit bound room l) start (x, ks) y (cc) (f, h)
  keep start (suc n) x ks y f h e =
      elim (chosen (goes ks) (step x ks >>= λ z. operands_by n l room child z.0 z.1) (Ok (x, ks)) (Ok y) e) [
        | inl w ↦
            let z = bind_ok (step x ks) (λ z. operands_by n l room child z.0 z.1) y w.1 in
            let s = operand_sound bound room l l child reads groups start ks x z.0 f h z.1 in
            keep start n z.0.0 z.0.1 y s.0 s.1 z.2
        | inr w ↦ along exp_spell (LayerFit bound room l) start (x, ks) y (let g = w.1 in cc) (f, h)
      ]

  operands_split : (n : ℕ) (x : Exp-F Exp) (ks : List Kind) → length ks ≤ n → Splits (operands l room child x) ks (operands l room child x ks)
  operands_split n x [] h = give_empty (operands l room child x) x (operands_stop x [] refl)
  operands_split zero x (k ∷ ks) h = absurd (omega arith)
  operands_split (suc n) x (k ∷ ks) h = split_by (λ y ls w. operands_split n y ls w) (next_operator l (k ∷ [])) refl where
    split_by : ((y : Exp-F Exp) (ls : List Kind) → length ls ≤ n → Splits (operands l room child y) ls (operands l room child y ls)) → (o : Option BinOp) → next_operator l (k ∷ []) ≡ o → Splits (operands l room child x) (k ∷ ks) (operands l room child x (k ∷ ks))
    split_by below (Some o) e =
        splits_as (operands l room child x) (λ m. step x m >>= λ y. operands l room child y.0 y.1) k (λ ls. operands_turn x (k ∷ ls) o e) ks
        (splits_bind (step x) (λ y m. operands l room child y m) (k ∷ ks) (step x (k ∷ ks)) refl ((local_operand bound room l l child reads groups x).at (k ∷ ks))
        (λ y is. let less = shrinks x (k ∷ ks) y is in below y.0 y.1 (omega arith)))
    split_by below None e = splits_as (operands l room child x) (λ m. Ok (x, m)) k (λ ls. operands_stop x (k ∷ ls) e) ks ((local_give x).at (k ∷ ks))

  pub local_operands : (x : Exp-F Exp) → Local (operands l room child x)
  local_operands x = record { at = λ ks. operands_split (length ks) x ks (omega arith) }

  module _ (first : Reader (Exp-F Exp)) (firsts : Reads exp_spell (LayerFit bound room (suc l)) (EndsAt (suc l)) first) (low : 2 ≤ l) (high : l ≤ 8) (apart : l ≤ 7 → suc l ≤ 7) where
    abbrev chained : Reader (Exp-F Exp)
    chained = chain l room child first

    plain : (x : Exp-F Exp) (rest : List Kind) → suc l ≤ exp_level x → ExpParts (TypeFits bound) (PatFits bound 1) (ExpFits bound room) x → EndsAt (suc l) rest → chained (exp_spell x ++ rest) ≡ operands l room child x rest
    plain x rest h f s = rw (firsts.complete x rest (h, f) s)

    binary_turn : (n : ℕ) (o : BinOp) (a b : Exp) (rest : List Kind) → n ≤ room → op_level o ≡ l → ExpFits bound n l a → ExpFits bound n (op_level o + 1) b → EndsAt (suc l) rest
        → operands l room child (out-Exp a) (operator_token o ∷ (spelled_exp b ++ rest)) ≡ operands l room child (Exp-F.Binary o a b) rest
    binary_turn n o a b rest h e fa fb s =
        let deep : exp_depth (roll-Exp (out-Exp a)) ≤ room = omega (arith, ap exp_depth (roll-out-Exp a), fits_depth bound n l a fa) in
        let same : op_level o + 1 ≡ suc l = omega (arith, e) in
        let right : ExpFits bound room (suc l) b = subst (λ m. ExpFits bound room m b) same (refit bound n room (op_level o + 1) b (omega (arith, h, fits_depth bound n (op_level o + 1) b fb)) fb) in
        operands_turn (out-Exp a) (operator_token o ∷ (spelled_exp b ++ rest)) o (is_next l o (spelled_exp b ++ rest) e)
        ∙ ap (λ r. r >>= λ y. operands l room child y.0 y.1) (operand_complete bound room l l child reads groups o (out-Exp a) b rest e deep right s)
        ∙ ap (λ c. operands l room child (Exp-F.Binary o c b) rest) (roll-out-Exp a)

    spine_step : (n : ℕ) → n ≤ room → ((e : Exp) (rest : List Kind) → ExpFits bound n l e → EndsAt (suc l) rest → chained (spelled_exp e ++ rest) ≡ operands l room child (out-Exp e) rest)
        → (x : Exp-F Exp) (rest : List Kind) → LayerFit bound n l x → ExpParts (TypeFits bound) (PatFits bound 1) (ExpFits bound room) x → EndsAt (suc l) rest → chained (exp_spell x ++ rest) ≡ operands l room child x rest
    spine_step n h rec (Exp-F.Binary o a b) rest f g s =
        elim (cases_eq (op_level o) l) [
          | inl e ↦
              let left : ExpFits bound n l a = subst (λ m. ExpFits bound n m a) (groups o e) f.1.0 in
              ap chained (append_assoc (spelled_exp a) (operator_token o ∷ spelled_exp b) rest)
              ∙ rec a (operator_token o ∷ (spelled_exp b ++ rest)) left (operator_stops (suc l) o (spelled_exp b ++ rest) (omega (arith, e)))
              ∙ binary_turn n o a b rest h e left f.1.1 s
          | inr e ↦ plain (Exp-F.Binary o a b) rest (omega (arith, f.0, e)) g s
        ]
    spine_step n h rec (Exp-F.Let name value body) rest f g s = absurd (omega (arith, f.0, low))
    spine_step n h rec (Exp-F.If test first second) rest f g s = absurd (omega (arith, f.0, low))
    spine_step n h rec (Exp-F.Case subject alternatives) rest f g s = absurd (omega (arith, f.0, low))
    spine_step n h rec (Exp-F.Raise name carried) rest f g s = absurd (omega (arith, f.0, low))
    spine_step n h rec (Exp-F.Neg part) rest f g s = plain (Exp-F.Neg part) rest (apart f.0) g s
    spine_step n h rec (Exp-F.Not part) rest f g s = plain (Exp-F.Not part) rest (apart f.0) g s
    spine_step n h rec (Exp-F.App name []) rest f g s = plain (Exp-F.App name []) rest (omega (arith, high)) g s
    spine_step n h rec (Exp-F.App name (e ∷ es)) rest f g s = plain (Exp-F.App name (e ∷ es)) rest (omega (arith, high)) g s
    spine_step n h rec (Exp-F.Con name []) rest f g s = plain (Exp-F.Con name []) rest (omega (arith, high)) g s
    spine_step n h rec (Exp-F.Con name (e ∷ es)) rest f g s = plain (Exp-F.Con name (e ∷ es)) rest (omega (arith, high)) g s
    spine_step n h rec (Exp-F.Update vector at item) rest f g s = plain (Exp-F.Update vector at item) rest (omega (arith, high)) g s
    spine_step n h rec (Exp-F.Num true amount) rest f g s = plain (Exp-F.Num true amount) rest (apart f.0) g s
    spine_step n h rec (Exp-F.Num false amount) rest f g s = plain (Exp-F.Num false amount) rest (omega (arith, high)) g s
    spine_step n h rec (Exp-F.Letter byte) rest f g s = plain (Exp-F.Letter byte) rest (omega (arith, high)) g s
    spine_step n h rec (Exp-F.Truth holds) rest f g s = plain (Exp-F.Truth holds) rest (omega (arith, high)) g s
    spine_step n h rec (Exp-F.Paren inner) rest f g s = plain (Exp-F.Paren inner) rest (omega (arith, high)) g s
    spine_step n h rec (Exp-F.Tuple parts) rest f g s = plain (Exp-F.Tuple parts) rest (omega (arith, high)) g s
    spine_step n h rec (Exp-F.Cast inner type) rest f g s = plain (Exp-F.Cast inner type) rest (omega (arith, high)) g s
    spine_step n h rec (Exp-F.Vect items) rest f g s = plain (Exp-F.Vect items) rest (omega (arith, high)) g s
    spine_step n h rec Exp-F.Star rest f g s = plain Exp-F.Star rest (omega (arith, high)) g s

    -- the left sides first, and then operand by operand
    spine : (n : ℕ) → n ≤ room → (e : Exp) (rest : List Kind) → ExpFits bound n l e → EndsAt (suc l) rest → chained (spelled_exp e ++ rest) ≡ operands l room child (out-Exp e) rest
    spine zero h e rest f s = absurd f
    spine (suc n) h e rest f s =
        ap (λ m. chained (m ++ rest)) (spelled_out e)
        ∙ spine_step n (omega (arith, h)) (spine n (omega (arith, h))) (out-Exp e) rest f (parts_wider bound n room (out-Exp e) (omega (arith, h)) f.1) s

    chain_complete : (x : Exp-F Exp) (rest : List Kind) → LayerFit bound room l x → EndsAt l rest → chained (exp_spell x ++ rest) ≡ Ok (x, rest)
    chain_complete x rest f s =
        spine_step room (omega arith) (spine room (omega arith)) x rest f f.1 (stops_above l (suc l) rest (omega arith) s)
        ∙ operands_stop x rest (no_operator l rest s)

    chain_sound : (ks : List Kind) (y : Exp-F Exp × List Kind) → chained ks ≡ Ok y → LayerFit bound room l y.0 × (ks ≡ exp_spell y.0 ++ y.1)
    unfolding operands
    chain_sound ks y e =
        let x = bind_ok (first ks) (λ x. operands l room child x.0 x.1) y e in
        let begun = firsts.sound ks x.0 x.1 in
        keep ks (length x.0.1) x.0.0 x.0.1 y (omega (arith, begun.0.0), begun.0.1) begun.1 x.2

    pub chain_reads : Reads exp_spell (LayerFit bound room l) (EndsAt l) chained
    chain_reads = record { sound = chain_sound; complete = chain_complete; local = local_bind first (operands l room child) firsts.local local_operands }
