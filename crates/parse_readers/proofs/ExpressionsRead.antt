-- Signs, comparisons and the forms that begin with a word; and the expressions of all depths.
use Rattle.std.proofs.Common.{◌≡◌, ℕ, zero, suc, ◌+◌, ◌<◌, ◌≤◌, List, [], ◌∷◌, ◌++◌, map, length, Bool, true, false, cond, refl, sym, ap, ◌∙◌, subst, inl, inr, arith, length-append, append_assoc, ◌==◌}
use Rattle.std.specs.Prelude.{Ok, Option, Some, None, is_some}
use Rattle.std.proofs.lemmas.Bool.{cases_eq}
use Rattle.hume_base.specs.declared.keyword.Keyword.TheVariants as word
use Rattle.hume_base.specs.declared.symbol.Symbol.TheVariants as symbol
use Rattle.hume_base.specs.declared.token.Kind.{Kind}
use Rattle.hume_base.specs.declared.token.Kind.TheVariants.{Lower, Upper, Number, Word, Sign}
use Rattle.hume_ast.specs.declared.tree.TyExp.{TyExp}
use Rattle.hume_ast.specs.declared.tree.Pat.{Pat}
use Rattle.hume_ast.specs.declared.tree.BinOp.{BinOp}
use Rattle.hume_ast.specs.declared.tree.BinOp.TheVariants as op
use Rattle.hume_ast.specs.declared.tree.Exp.{Exp, roll-Exp, out-Exp, roll-out-Exp}
use Rattle.hume_ast.specs.declared.tree.Exp.TheOpen.{Exp-F}
use Rattle.hume_ast.specs.Spelling.{spelled_exp, spelled_ty, spelled_pat, spell_alternative, separated, operator_token}
use Rattle.hume_ast.specs.Fits.{OneOrMore, IfThere, ExpFits, TypeFits, PatFits, op_level, left_level, NoNumberFirst}
use Rattle.hume_ast.specs.Depth.{exp_depth}
use Rattle.hume_ast.proofs.Depths.{fits_depth, refit}
use Rattle.parse_readers.specs.inner.Readers.{Reader, ◌>>=◌, stop, after, led, give, made, both, closed, choice, listed, maybe, alternatives, pick, next, lower_name, upper_name, number_of}
use Rattle.parse_readers.specs.inner.Types.{types}
use Rattle.parse_readers.specs.inner.Patterns.{patterns}
use Rattle.parse_readers.specs.inner.Expressions.{begins_part, starts_atom, is_number, minus_ways, unary_ways, next_operator, one_operand, comparison, let_of, let_exp, if_of, if_exp, case_of, case_exp, alternative, raise_of, exp_ways, ExpReaders, atom_layer, app_layer, index_layer, unary_layer, term_layer, sum_layer, comparison_layer, conjunction_layer, disjunction_layer, whole_layer, expressions_with, expressions, at_level}
use Rattle.parse_readers.proofs.Local.{Local, Splits, bind_ok, chosen, local_made, local_opens, local_led, local_bind, local_give, local_stop, local_as, give_empty}
use Rattle.parse_readers.proofs.TokensApart.{after_ok}
use Rattle.parse_readers.proofs.TypesRead.{number_reads, upper_reads, lower_reads, types_read}
use Rattle.parse_readers.proofs.PatternsRead.{PatEnds, patterns_read}
use Rattle.parse_readers.proofs.Forms.{none_read, Reads, Anything, Sound, along, led_reads, closed_reads, both_reads, listed_reads, maybe_reads, maybe_spell, made_reads, made_sound, made_complete, opens_sound, opened, choice_sound, alternatives_sound, respelled, ending, alternatives_local}
use Rattle.parse_readers.proofs.Levels.{LayerFit, exp_spell, exp_spelled, spelled_out, EndsAt, stops_above, all_stop, no_atom_next, opens_at, layer_opens, opening, atom_next, not_next, op_high, is_next, operator_stops, no_operator}
use Rattle.parse_readers.proofs.Atoms.{atom_reads, app_layer_reads, has_room}
use Rattle.parse_readers.proofs.Chains.{rolled_fit, chain_reads, operand_sound, operand_complete, local_operand}

pub no_number : (ks ls : List Kind) → next is_number (ks ++ ls) ≡ false → NoNumberFirst ks
no_number [] ls h = tt
no_number (Number n ∷ ks) ls h = cc
no_number (_ ∷ ks) ls h = tt

number_free : (ks ls : List Kind) → 1 ≤ opening ks → NoNumberFirst ks → next is_number (ks ++ ls) ≡ false
number_free [] ls h f = absurd (omega arith)
number_free (Number n ∷ ks) ls h f = absurd f
number_free (_ ∷ ks) ls h f = refl

module _ (bound room : ℕ) (child : Reader Exp) (index : Reader (Exp-F Exp)) (reads : Reads spelled_exp (ExpFits bound room 7) (EndsAt 7) child) (indices : Reads exp_spell (LayerFit bound room 8) (EndsAt 8) index) where
  abbrev Signed : Exp-F Exp → Type 0
  Signed = LayerFit bound room 7

  abbrev minuses : Reader (Exp-F Exp)
  minuses = alternatives (minus_ways child)

  neg_sound : (ks : List Kind) (x : Exp-F Exp × List Kind) → next is_number ks ≡ false → made Exp-F.Neg child ks ≡ Ok x → Signed x.0 × (Sign symbol.Minus ∷ ks ≡ exp_spell x.0 ++ x.1)
  neg_sound ks x n e =
      let a = bind_ok (child ks) (λ a. Ok (Exp-F.Neg a.0, a.1)) x e in
      let is : (Exp-F.Neg a.0.0, a.0.1) ≡ x = (let g = a.2 in cc) in
      let s = reads.sound ks a.0 a.1 in
      along exp_spell Signed (Sign symbol.Minus ∷ ks) (Exp-F.Neg a.0.0, a.0.1) x is
      ((omega arith, (s.0, no_number (spelled_exp a.0.0) a.0.1 (ap (next is_number) (sym s.1) ∙ n))), ap (λ m. Sign symbol.Minus ∷ m) s.1)

  literal_sound : (ks : List Kind) (x : Exp-F Exp × List Kind) → made (Exp-F.Num true) (pick number_of) ks ≡ Ok x → Signed x.0 × (Sign symbol.Minus ∷ ks ≡ exp_spell x.0 ++ x.1)
  literal_sound ks x e =
      let a = bind_ok (pick number_of ks) (λ a. Ok (Exp-F.Num true a.0, a.1)) x e in
      let is : (Exp-F.Num true a.0.0, a.0.1) ≡ x = (let g = a.2 in cc) in
      along exp_spell Signed (Sign symbol.Minus ∷ ks) (Exp-F.Num true a.0.0, a.0.1) x is
      ((omega arith, tt), ap (λ m. Sign symbol.Minus ∷ m) (number_reads.sound ks a.0 a.1).1)

  any_sound : (ks : List Kind) (x : Exp-F Exp × List Kind) → choice (λ k. true) (made Exp-F.Neg child) stop ks ≡ Ok x → made Exp-F.Neg child ks ≡ Ok x
  any_sound [] x e = cc
  any_sound (k ∷ ks) x e = e

  minus_sound : (ks : List Kind) (x : Exp-F Exp × List Kind) → minuses ks ≡ Ok x → Signed x.0 × (Sign symbol.Minus ∷ ks ≡ exp_spell x.0 ++ x.1)
  minus_sound ks x e =
      elim (chosen (next is_number ks) (made (Exp-F.Num true) (pick number_of) ks) (choice (λ k. true) (made Exp-F.Neg child) stop ks) (Ok x) e) [
        | inl w ↦ literal_sound ks x w.1
        | inr w ↦ neg_sound ks x w.0 (any_sound ks x w.1)
      ]

  pub minus_local : Local minuses
  minus_local = alternatives_local (minus_ways child) (local_made (Exp-F.Num true) (pick number_of) number_reads.local, (local_made Exp-F.Neg child reads.local, tt))

  minus_led : Sound exp_spell Signed (led (Sign symbol.Minus) minuses)
  minus_led ks x e =
      let l = bind_ok (after (Sign symbol.Minus) ks) minuses x e in
      let s = minus_sound l.0 x l.2 in
      (s.0, after_ok (Sign symbol.Minus) ks l.0 l.1 ∙ s.1)

  not_reads : Reads (λ e. Word word.Not ∷ spelled_exp e) (ExpFits bound room 7) (EndsAt 7) (led (Word word.Not) child)
  not_reads = led_reads reads (Word word.Not) tt

  unary_sound : Sound exp_spell Signed (alternatives (unary_ways room child index))
  unary_sound = choice_sound exp_spell Signed _ _ _ minus_led
      (choice_sound exp_spell Signed _ _ _ (opens_sound exp_spell Signed (made Exp-F.Not (led (Word word.Not) child)) room (made_sound not_reads Exp-F.Not exp_spell Signed (λ e f. (omega arith, f)) (λ e f. refl)))
      (choice_sound exp_spell Signed _ _ _ (λ ks x e. (let s = indices.sound ks x e in ((omega (arith, s.0.0), s.0.1), s.1))) (λ ks x e. (cc))))

  some_next : (ks ls : List Kind) (p : Reader (Exp-F Exp)) → 1 ≤ opening ks → choice (λ k. true) p stop (ks ++ ls) ≡ p (ks ++ ls)
  some_next [] ls p h = absurd (omega arith)
  some_next (k ∷ ks) ls p h = refl

  plain : (x : Exp-F Exp) (rest : List Kind) → LayerFit bound room 8 x → EndsAt 7 rest → alternatives (unary_ways room child index) (exp_spell x ++ rest) ≡ Ok (x, rest)
  plain x rest f s =
      let o = layer_opens bound room 8 x (omega arith) f in
      rw (not_next (Sign symbol.Minus) (exp_spell x) rest (omega (arith, o)), not_next (Word word.Not) (exp_spell x) rest (omega (arith, o)))
      (some_next (exp_spell x) rest index (omega (arith, o)) ∙ indices.complete x rest f (stops_above 7 8 rest (omega arith) s))

  neg_complete : (part : Exp) (rest : List Kind) → ExpFits bound room 7 part → NoNumberFirst (spelled_exp part) → EndsAt 7 rest → minuses (spelled_exp part ++ rest) ≡ Ok (Exp-F.Neg part, rest)
  neg_complete part rest f n s =
      let o = opens_at bound room 7 part (omega arith) f in
      rw (number_free (spelled_exp part) rest (omega (arith, o)) n) (some_next (spelled_exp part) rest (made Exp-F.Neg child) (omega (arith, o)) ∙ made_complete reads Exp-F.Neg part rest f s)

  unary_complete : (x : Exp-F Exp) (rest : List Kind) → Signed x → EndsAt 7 rest → alternatives (unary_ways room child index) (exp_spell x ++ rest) ≡ Ok (x, rest)
  unary_complete (Exp-F.Let name value body) rest f s = absurd (omega (arith, f.0))
  unary_complete (Exp-F.If test first second) rest f s = absurd (omega (arith, f.0))
  unary_complete (Exp-F.Case subject alternatives) rest f s = absurd (omega (arith, f.0))
  unary_complete (Exp-F.Raise name carried) rest f s = absurd (omega (arith, f.0))
  unary_complete (Exp-F.Binary operator left right) rest f s = plain (Exp-F.Binary operator left right) rest (tight operator f.0, f.1) s where
    tight : (o : BinOp) → 7 ≤ op_level o → 8 ≤ op_level o
    tight op.At h = omega arith
    tight op.Or h = absurd (omega (arith, h))
    tight _ h = absurd (omega (arith, h))
  unary_complete (Exp-F.Neg part) rest f s = neg_complete part rest f.1.0 f.1.1 s
  unary_complete (Exp-F.Not part) rest f s = opened room (made Exp-F.Not (led (Word word.Not) child)) _ (has_room bound room 7 part f.1) ∙ made_complete not_reads Exp-F.Not part rest f.1 s
  unary_complete (Exp-F.App name []) rest f s = plain (Exp-F.App name []) rest (omega arith, f.1) s
  unary_complete (Exp-F.App name (e ∷ es)) rest f s = plain (Exp-F.App name (e ∷ es)) rest (omega arith, f.1) s
  unary_complete (Exp-F.Con name []) rest f s = plain (Exp-F.Con name []) rest (omega arith, f.1) s
  unary_complete (Exp-F.Con name (e ∷ es)) rest f s = plain (Exp-F.Con name (e ∷ es)) rest (omega arith, f.1) s
  unary_complete (Exp-F.Update vector at item) rest f s = plain (Exp-F.Update vector at item) rest (omega arith, f.1) s
  unary_complete (Exp-F.Num true amount) rest f s = refl
  unary_complete (Exp-F.Num false amount) rest f s = plain (Exp-F.Num false amount) rest (omega arith, f.1) s
  unary_complete (Exp-F.Letter byte) rest f s = plain (Exp-F.Letter byte) rest (omega arith, f.1) s
  unary_complete (Exp-F.Truth holds) rest f s = plain (Exp-F.Truth holds) rest (omega arith, f.1) s
  unary_complete (Exp-F.Paren inner) rest f s = plain (Exp-F.Paren inner) rest (omega arith, f.1) s
  unary_complete (Exp-F.Tuple parts) rest f s = plain (Exp-F.Tuple parts) rest (omega arith, f.1) s
  unary_complete (Exp-F.Cast inner type) rest f s = plain (Exp-F.Cast inner type) rest (omega arith, f.1) s
  unary_complete (Exp-F.Vect items) rest f s = plain (Exp-F.Vect items) rest (omega arith, f.1) s
  unary_complete Exp-F.Star rest f s = plain Exp-F.Star rest (omega arith, f.1) s

  pub unary_reads : Reads exp_spell (LayerFit bound room 7) (EndsAt 7) (alternatives (unary_ways room child index))
  unary_reads = record {
    sound = unary_sound;
    complete = unary_complete;
    local = alternatives_local (unary_ways room child index) (
      local_led (Sign symbol.Minus) minuses minus_local,
      (
        local_opens room (made Exp-F.Not (led (Word word.Not) child)) (local_made Exp-F.Not _ not_reads.local),
        (
          indices.local,
          tt,
        ),
      ),
    );
  }

pub compares : (o : BinOp) → op_level o ≡ 4 → left_level o ≡ 5
compares op.Or e = absurd (omega (arith, e))
compares op.Eq e = refl
compares op.Ne e = refl
compares op.Lt e = refl
compares op.Le e = refl
compares op.Gt e = refl
compares op.Ge e = refl
compares _ e = absurd (omega (arith, e))

module _ (bound room : ℕ) (child : Reader Exp) (first : Reader (Exp-F Exp)) (reads : Reads spelled_exp (ExpFits bound room 5) (EndsAt 5) child) (firsts : Reads exp_spell (LayerFit bound room 5) (EndsAt 5) first) where
  abbrev pub second : Exp-F Exp → Reader (Exp-F Exp)
  second x ks = cond (is_some (next_operator 4 ks)) (one_operand 4 room child x ks) (Ok (x, ks))

  second_sound : (start ks : List Kind) (x : Exp-F Exp) (y : Exp-F Exp × List Kind) → LayerFit bound room 5 x → start ≡ exp_spell x ++ ks → second x ks ≡ Ok y → LayerFit bound room 4 y.0 × (start ≡ exp_spell y.0 ++ y.1)
  second_sound start ks x y f h e =
      elim (chosen (is_some (next_operator 4 ks)) (one_operand 4 room child x ks) (Ok (x, ks)) (Ok y) e) [
        | inl w ↦ operand_sound bound room 4 5 child reads compares start ks x y f h w.1
        | inr w ↦ along exp_spell (LayerFit bound room 4) start (x, ks) y (let g = w.1 in cc) ((omega (arith, f.0), f.1), h)
      ]

  compare_sound : (ks : List Kind) (y : Exp-F Exp × List Kind) → comparison 4 room child first ks ≡ Ok y → LayerFit bound room 4 y.0 × (ks ≡ exp_spell y.0 ++ y.1)
  compare_sound ks y e =
      let x = bind_ok (first ks) (λ x. second x.0 x.1) y e in
      let s = firsts.sound ks x.0 x.1 in
      second_sound ks x.0.1 x.0.0 y s.0 s.1 x.2

  plain_compare : (x : Exp-F Exp) (rest : List Kind) → LayerFit bound room 5 x → EndsAt 4 rest → comparison 4 room child first (exp_spell x ++ rest) ≡ Ok (x, rest)
  plain_compare x rest f s = rw (firsts.complete x rest f (stops_above 4 5 rest (omega arith) s), no_operator 4 rest s)

  two_compare : (o : BinOp) (a b : Exp) (rest : List Kind) → op_level o ≡ 4 → ExpFits bound room 5 a → ExpFits bound room 5 b → EndsAt 4 rest
      → comparison 4 room child first ((spelled_exp a ++ operator_token o ∷ spelled_exp b) ++ rest) ≡ Ok (Exp-F.Binary o a b, rest)
  two_compare o a b rest e fa fb s =
      let tail = operator_token o ∷ (spelled_exp b ++ rest) in
      let deep : exp_depth (roll-Exp (out-Exp a)) ≤ room = omega (arith, ap exp_depth (roll-out-Exp a), fits_depth bound room 5 a fa) in
      let read : first (spelled_exp a ++ tail) ≡ Ok (out-Exp a, tail) = ap (λ m. first (m ++ tail)) (spelled_out a) ∙ firsts.complete (out-Exp a) tail (refit bound room (suc room) 5 a (omega (arith, fits_depth bound room 5 a fa)) fa) (operator_stops 5 o (spelled_exp b ++ rest) (omega (arith, e))) in
      ap (comparison 4 room child first) (append_assoc (spelled_exp a) (operator_token o ∷ spelled_exp b) rest)
      ∙ ap (λ r. r >>= λ x. second x.0 x.1) read
      ∙ ap (λ (n : Option BinOp). cond (is_some n) (one_operand 4 room child (out-Exp a) tail) (Ok (out-Exp a, tail))) (is_next 4 o (spelled_exp b ++ rest) e)
      ∙ operand_complete bound room 4 5 child reads compares o (out-Exp a) b rest e deep fb (stops_above 4 5 rest (omega arith) s)
      ∙ ap (λ c. Ok (Exp-F.Binary o c b, rest)) (roll-out-Exp a)

  compare_complete : (x : Exp-F Exp) (rest : List Kind) → LayerFit bound room 4 x → EndsAt 4 rest → comparison 4 room child first (exp_spell x ++ rest) ≡ Ok (x, rest)
  compare_complete (Exp-F.Let name value body) rest f s = absurd (omega (arith, f.0))
  compare_complete (Exp-F.If test yes1 second) rest f s = absurd (omega (arith, f.0))
  compare_complete (Exp-F.Case subject alternatives) rest f s = absurd (omega (arith, f.0))
  compare_complete (Exp-F.Raise name carried) rest f s = absurd (omega (arith, f.0))
  compare_complete (Exp-F.Binary o a b) rest f s =
      elim (cases_eq (op_level o) 4) [
        | inl e ↦
            let same : op_level o + 1 ≡ 5 = omega (arith, e) in
            two_compare o a b rest e (subst (λ n. ExpFits bound room n a) (compares o e) f.1.0) (subst (λ n. ExpFits bound room n b) same f.1.1) s
        | inr e ↦ plain_compare (Exp-F.Binary o a b) rest (omega (arith, f.0, e), f.1) s
      ]
  compare_complete (Exp-F.Neg part) rest f s = plain_compare (Exp-F.Neg part) rest (omega arith, f.1) s
  compare_complete (Exp-F.Not part) rest f s = plain_compare (Exp-F.Not part) rest (omega arith, f.1) s
  compare_complete (Exp-F.App name []) rest f s = plain_compare (Exp-F.App name []) rest (omega arith, f.1) s
  compare_complete (Exp-F.App name (e ∷ es)) rest f s = plain_compare (Exp-F.App name (e ∷ es)) rest (omega arith, f.1) s
  compare_complete (Exp-F.Con name []) rest f s = plain_compare (Exp-F.Con name []) rest (omega arith, f.1) s
  compare_complete (Exp-F.Con name (e ∷ es)) rest f s = plain_compare (Exp-F.Con name (e ∷ es)) rest (omega arith, f.1) s
  compare_complete (Exp-F.Update vector at item) rest f s = plain_compare (Exp-F.Update vector at item) rest (omega arith, f.1) s
  compare_complete (Exp-F.Num true amount) rest f s = plain_compare (Exp-F.Num true amount) rest (omega arith, f.1) s
  compare_complete (Exp-F.Num false amount) rest f s = plain_compare (Exp-F.Num false amount) rest (omega arith, f.1) s
  compare_complete (Exp-F.Letter byte) rest f s = plain_compare (Exp-F.Letter byte) rest (omega arith, f.1) s
  compare_complete (Exp-F.Truth holds) rest f s = plain_compare (Exp-F.Truth holds) rest (omega arith, f.1) s
  compare_complete (Exp-F.Paren inner) rest f s = plain_compare (Exp-F.Paren inner) rest (omega arith, f.1) s
  compare_complete (Exp-F.Tuple parts) rest f s = plain_compare (Exp-F.Tuple parts) rest (omega arith, f.1) s
  compare_complete (Exp-F.Cast inner type) rest f s = plain_compare (Exp-F.Cast inner type) rest (omega arith, f.1) s
  compare_complete (Exp-F.Vect items) rest f s = plain_compare (Exp-F.Vect items) rest (omega arith, f.1) s
  compare_complete Exp-F.Star rest f s = plain_compare Exp-F.Star rest (omega arith, f.1) s

  second_by : (x : Exp-F Exp) (k : Kind) (ks : List Kind) (o : Option BinOp) → next_operator 4 (k ∷ []) ≡ o → Splits (second x) (k ∷ ks) (second x (k ∷ ks))
  second_by x k ks (Some o) e = local_as (second x) (one_operand 4 room child x) k (λ ls. rw e) (local_operand bound room 4 5 child reads compares x) ks
  second_by x k ks None e = local_as (second x) (give x) k (λ ls. rw e) (local_give x) ks

  second_at : (x : Exp-F Exp) (ks : List Kind) → Splits (second x) ks (second x ks)
  second_at x [] = give_empty (second x) x refl
  second_at x (k ∷ ks) = second_by x k ks (next_operator 4 (k ∷ [])) refl

  pub second_local : (x : Exp-F Exp) → Local (second x)
  second_local x = record { at = second_at x }

  pub comparison_reads : Reads exp_spell (LayerFit bound room 4) (EndsAt 4) (comparison 4 room child first)
  comparison_reads = record { sound = compare_sound; complete = compare_complete; local = local_bind first second firsts.local second_local }

module _ (bound room : ℕ) (pattern : Reader Pat) (child atom : Reader Exp) (or : Reader (Exp-F Exp)) (pats : Reads spelled_pat (PatFits bound 1) PatEnds pattern) (reads : Reads spelled_exp (ExpFits bound room 1) (EndsAt 1) child) (atoms : Reads spelled_exp (ExpFits bound room 10) (EndsAt 10) atom) (ors : Reads exp_spell (LayerFit bound room 2) (EndsAt 2) or) where
  abbrev Whole : Exp-F Exp → Type 0
  Whole = LayerFit bound room 1

  abbrev Part : Exp → Type 0
  Part = ExpFits bound room 1

  let_reads : Reads (λ (a : List ℕ × (Exp × Exp)). Word word.Let ∷ Lower a.0 ∷ Sign symbol.Equals ∷ ((spelled_exp a.1.0 ++ Word word.In ∷ []) ++ spelled_exp a.1.1)) (λ (a : List ℕ × (Exp × Exp)). Unit {0} × (Part a.1.0 × Part a.1.1)) (EndsAt 1)
      (led (Word word.Let) (both (closed (pick lower_name) (Sign symbol.Equals)) (both (closed child (Word word.In)) child)))
  let_reads = led_reads (both_reads (closed_reads lower_reads (Sign symbol.Equals) tt (λ rest. tt)) (both_reads (closed_reads reads (Word word.In) tt (λ rest. omega arith)) reads (λ b rest f e. tt)) (λ b rest f e. tt)) (Word word.Let) tt

  pub let_same : (a : List ℕ × (Exp × Exp)) → exp_spell (let_of a) ≡ Word word.Let ∷ Lower a.0 ∷ Sign symbol.Equals ∷ ((spelled_exp a.1.0 ++ Word word.In ∷ []) ++ spelled_exp a.1.1)
  let_same a = ap (λ m. Word word.Let ∷ Lower a.0 ∷ Sign symbol.Equals ∷ m) (sym (append_assoc (spelled_exp a.1.0) (Word word.In ∷ []) (spelled_exp a.1.1)))

  if_reads : Reads (λ (a : Exp × (Exp × Exp)). Word word.If ∷ ((spelled_exp a.0 ++ Word word.Then ∷ []) ++ ((spelled_exp a.1.0 ++ Word word.Else ∷ []) ++ spelled_exp a.1.1))) (λ (a : Exp × (Exp × Exp)). Part a.0 × (Part a.1.0 × Part a.1.1)) (EndsAt 1)
      (led (Word word.If) (both (closed child (Word word.Then)) (both (closed child (Word word.Else)) child)))
  if_reads = led_reads (both_reads (closed_reads reads (Word word.Then) tt (λ rest. omega arith)) (both_reads (closed_reads reads (Word word.Else) tt (λ rest. omega arith)) reads (λ b rest f e. tt)) (λ b rest f e. tt)) (Word word.If) tt

  pub if_same : (a : Exp × (Exp × Exp)) → exp_spell (if_of a) ≡ Word word.If ∷ ((spelled_exp a.0 ++ Word word.Then ∷ []) ++ ((spelled_exp a.1.0 ++ Word word.Else ∷ []) ++ spelled_exp a.1.1))
  if_same a = ap (λ m. Word word.If ∷ m) (simp append_assoc)

  abbrev pub alternative_spell : Pat × Exp → List Kind
  alternative_spell a = spelled_pat a.0 ++ Sign symbol.Arrow ∷ spelled_exp a.1

  pub alternative_reads : Reads alternative_spell (λ (a : Pat × Exp). PatFits bound 1 a.0 × Part a.1) (EndsAt 1) (alternative pattern child)
  alternative_reads = respelled (both_reads (closed_reads pats (Sign symbol.Arrow) tt (λ rest. refl)) reads (λ b rest f e. tt)) alternative_spell (λ a. sym (append_assoc (spelled_pat a.0) (Sign symbol.Arrow ∷ []) (spelled_exp a.1)))

  alternatives_same : (as1 : List (Pat × Exp)) → map spell_alternative (map (λ (a : Pat × Exp). (a.0, spelled_exp a.1)) as1) ≡ map alternative_spell as1
  alternatives_same [] = refl
  alternatives_same (a ∷ as1) = ap (λ m. alternative_spell a ∷ m) (alternatives_same as1)

  case_reads : Reads (λ (a : Exp × List (Pat × Exp)). Word word.Case ∷ ((spelled_exp a.0 ++ Word word.Of ∷ []) ++ (separated symbol.Bar (map alternative_spell a.1) ++ Word word.End ∷ [])))
      (λ (a : Exp × List (Pat × Exp)). Part a.0 × OneOrMore (λ (a : Pat × Exp). PatFits bound 1 a.0 × Part a.1) a.1) Anything
      (led (Word word.Case) (both (closed child (Word word.Of)) (closed (listed symbol.Bar (alternative pattern child)) (Word word.End))))
  case_reads = led_reads (both_reads (closed_reads reads (Word word.Of) tt (λ rest. omega arith)) (closed_reads (listed_reads alternative_reads symbol.Bar (λ rest. omega arith)) (Word word.End) tt (λ rest. (refl, omega arith))) (λ b rest f e. tt)) (Word word.Case) tt

  pub case_same : (a : Exp × List (Pat × Exp)) → exp_spell (case_of a) ≡ Word word.Case ∷ ((spelled_exp a.0 ++ Word word.Of ∷ []) ++ (separated symbol.Bar (map alternative_spell a.1) ++ Word word.End ∷ []))
  case_same a = ap (λ l. Word word.Case ∷ (spelled_exp a.0 ++ Word word.Of ∷ (separated symbol.Bar l ++ Word word.End ∷ []))) (alternatives_same a.1)
      ∙ ap (λ m. Word word.Case ∷ m) (sym (append_assoc (spelled_exp a.0) (Word word.Of ∷ []) (separated symbol.Bar (map alternative_spell a.1) ++ Word word.End ∷ [])))

  raise_reads : Reads (λ (a : List ℕ × Option Exp). Word word.Raise ∷ Upper a.0 ∷ maybe_spell spelled_exp a.1) (λ (a : List ℕ × Option Exp). Unit {0} × IfThere (ExpFits bound room 10) a.1) (EndsAt 1) (led (Word word.Raise) (both (pick upper_name) (maybe starts_atom atom)))
  raise_reads = led_reads (both_reads upper_reads (ending (maybe_reads atoms starts_atom (λ e rest f. atom_next (spelled_exp e) rest (opens_at bound room 10 e (omega arith) f))) (EndsAt 1) (λ rest s. (no_atom_next 1 rest (omega arith) s, all_stop rest))) (λ b rest f e. tt)) (Word word.Raise) tt

  pub raise_fit : (a : List ℕ × Option Exp) → Unit {0} × IfThere (ExpFits bound room 10) a.1 → Whole (raise_of a)
  raise_fit (x, None) f = (omega arith, tt)
  raise_fit (x, Some e) f = (omega arith, f.1)

  pub raise_same : (a : List ℕ × Option Exp) → exp_spell (raise_of a) ≡ Word word.Raise ∷ Upper a.0 ∷ maybe_spell spelled_exp a.1
  raise_same (x, None) = refl
  raise_same (x, Some e) = refl

  whole_sound : Sound exp_spell Whole (alternatives (exp_ways room pattern child atom or))
  whole_sound = alternatives_sound exp_spell Whole (exp_ways room pattern child atom or) (
    opens_sound exp_spell Whole (let_exp child) room (made_sound let_reads let_of exp_spell Whole (λ a f. (omega arith, f.1)) (λ a f. let_same a)),
    (
      opens_sound exp_spell Whole (if_exp child) room (made_sound if_reads if_of exp_spell Whole (λ a f. (omega arith, (f.0, f.1.0, f.1.1))) (λ a f. if_same a)),
      (
        opens_sound exp_spell Whole (case_exp pattern child) room (made_sound case_reads case_of exp_spell Whole (λ a f. (omega arith, (f.0, f.1.0, f.1.1))) (λ a f. case_same a)),
        (
          made_sound raise_reads raise_of exp_spell Whole raise_fit (λ a f. raise_same a),
          (
            λ ks x e. (let s = ors.sound ks x e in ((omega (arith, s.0.0), s.0.1), s.1)),
            tt,
          ),
        ),
      ),
    ),
  )

  some_or : (ks ls : List Kind) → 1 ≤ opening ks → choice (λ k. true) or stop (ks ++ ls) ≡ or (ks ++ ls)
  some_or [] ls h = absurd (omega arith)
  some_or (k ∷ ks) ls h = refl

  plain_whole : (x : Exp-F Exp) (rest : List Kind) → LayerFit bound room 2 x → EndsAt 1 rest → alternatives (exp_ways room pattern child atom or) (exp_spell x ++ rest) ≡ Ok (x, rest)
  plain_whole x rest f s =
      let o = layer_opens bound room 2 x (omega arith) f in
      rw (
        not_next (Word word.Let) (exp_spell x) rest (omega (arith, o)),
        not_next (Word word.If) (exp_spell x) rest (omega (arith, o)),
        not_next (Word word.Case) (exp_spell x) rest (omega (arith, o)),
        not_next (Word word.Raise) (exp_spell x) rest (omega (arith, o)),
      )
      (some_or (exp_spell x) rest (omega (arith, o)) ∙ ors.complete x rest f (stops_above 1 2 rest (omega arith) s))

  whole_complete : (x : Exp-F Exp) (rest : List Kind) → Whole x → EndsAt 1 rest → alternatives (exp_ways room pattern child atom or) (exp_spell x ++ rest) ≡ Ok (x, rest)
  whole_complete (Exp-F.Let name value body) rest f s =
      ap (λ m. alternatives (exp_ways room pattern child atom or) (m ++ rest)) (let_same (name, (value, body)))
      ∙ opened room (let_exp child) _ (has_room bound room 1 value f.1.0) ∙ made_complete let_reads let_of (name, (value, body)) rest (tt, f.1) s
  whole_complete (Exp-F.If test first second) rest f s =
      ap (λ m. alternatives (exp_ways room pattern child atom or) (m ++ rest)) (if_same (test, (first, second)))
      ∙ opened room (if_exp child) _ (has_room bound room 1 test f.1.0) ∙ made_complete if_reads if_of (test, (first, second)) rest (f.1.0, (f.1.1, f.1.2)) s
  whole_complete (Exp-F.Case subject alts) rest f s =
      ap (λ m. alternatives (exp_ways room pattern child atom or) (m ++ rest)) (case_same (subject, alts))
      ∙ opened room (case_exp pattern child) _ (has_room bound room 1 subject f.1.0) ∙ made_complete case_reads case_of (subject, alts) rest (f.1.0, (f.1.1, f.1.2)) tt
  whole_complete (Exp-F.Raise name None) rest f s = made_complete raise_reads raise_of (name, None) rest (tt, tt) s
  whole_complete (Exp-F.Raise name (Some value)) rest f s = made_complete raise_reads raise_of (name, Some value) rest (tt, f.1) s
  whole_complete (Exp-F.Binary o a b) rest f s = plain_whole (Exp-F.Binary o a b) rest (op_high o, f.1) s
  whole_complete (Exp-F.Neg part) rest f s = plain_whole (Exp-F.Neg part) rest (omega arith, f.1) s
  whole_complete (Exp-F.Not part) rest f s = plain_whole (Exp-F.Not part) rest (omega arith, f.1) s
  whole_complete (Exp-F.App name []) rest f s = plain_whole (Exp-F.App name []) rest (omega arith, f.1) s
  whole_complete (Exp-F.App name (e ∷ es)) rest f s = plain_whole (Exp-F.App name (e ∷ es)) rest (omega arith, f.1) s
  whole_complete (Exp-F.Con name []) rest f s = plain_whole (Exp-F.Con name []) rest (omega arith, f.1) s
  whole_complete (Exp-F.Con name (e ∷ es)) rest f s = plain_whole (Exp-F.Con name (e ∷ es)) rest (omega arith, f.1) s
  whole_complete (Exp-F.Update vector at item) rest f s = plain_whole (Exp-F.Update vector at item) rest (omega arith, f.1) s
  whole_complete (Exp-F.Num true amount) rest f s = plain_whole (Exp-F.Num true amount) rest (omega arith, f.1) s
  whole_complete (Exp-F.Num false amount) rest f s = plain_whole (Exp-F.Num false amount) rest (omega arith, f.1) s
  whole_complete (Exp-F.Letter byte) rest f s = plain_whole (Exp-F.Letter byte) rest (omega arith, f.1) s
  whole_complete (Exp-F.Truth holds) rest f s = plain_whole (Exp-F.Truth holds) rest (omega arith, f.1) s
  whole_complete (Exp-F.Paren inner) rest f s = plain_whole (Exp-F.Paren inner) rest (omega arith, f.1) s
  whole_complete (Exp-F.Tuple parts) rest f s = plain_whole (Exp-F.Tuple parts) rest (omega arith, f.1) s
  whole_complete (Exp-F.Cast inner type) rest f s = plain_whole (Exp-F.Cast inner type) rest (omega arith, f.1) s
  whole_complete (Exp-F.Vect items) rest f s = plain_whole (Exp-F.Vect items) rest (omega arith, f.1) s
  whole_complete Exp-F.Star rest f s = plain_whole Exp-F.Star rest (omega arith, f.1) s

  pub whole_reads : Reads exp_spell (LayerFit bound room 1) (EndsAt 1) (alternatives (exp_ways room pattern child atom or))
  whole_reads = record {
    sound = whole_sound;
    complete = whole_complete;
    local = alternatives_local (exp_ways room pattern child atom or) (
      local_opens room (let_exp child) (local_made let_of _ let_reads.local),
      (
        local_opens room (if_exp child) (local_made if_of _ if_reads.local),
        (
          local_opens room (case_exp pattern child) (local_made case_of _ case_reads.local),
          (
            local_made raise_of _ raise_reads.local,
            (
              ors.local,
              tt,
            ),
          ),
        ),
      ),
    );
  }

-- a level is read, once one level of it is
rolled : (bound room level : ℕ) (p : Reader (Exp-F Exp)) → Reads exp_spell (LayerFit bound room level) (EndsAt level) p → Reads spelled_exp (ExpFits bound (suc room) level) (EndsAt level) (made roll-Exp p)
rolled bound room level p reads = made_reads reads roll-Exp spelled_exp (ExpFits bound (suc room) level) (rolled_fit bound room level) (λ x f. exp_spelled x) (λ e f. (out-Exp e, roll-out-Exp e, f))

nothing : (bound level : ℕ) → Reads spelled_exp (ExpFits bound 0 level) (EndsAt level) stop
nothing bound level = record { sound = λ ks x e. (cc); complete = λ a rest f e. absurd f; local = local_stop }

-- what is read at each level, in a room
pub record ExpsRead (bound room : ℕ) (p : ExpReaders) : Type 0 where
  pub whole : Reads spelled_exp (ExpFits bound room 1) (EndsAt 1) p.whole
  pub disjunction : Reads spelled_exp (ExpFits bound room 2) (EndsAt 2) p.disjunction
  pub conjunction : Reads spelled_exp (ExpFits bound room 3) (EndsAt 3) p.conjunction
  pub comparison : Reads spelled_exp (ExpFits bound room 4) (EndsAt 4) p.comparison
  pub sum : Reads spelled_exp (ExpFits bound room 5) (EndsAt 5) p.sum
  pub term : Reads spelled_exp (ExpFits bound room 6) (EndsAt 6) p.term
  pub unary : Reads spelled_exp (ExpFits bound room 7) (EndsAt 7) p.unary
  pub index : Reads spelled_exp (ExpFits bound room 8) (EndsAt 8) p.index
  pub app : Reads spelled_exp (ExpFits bound room 9) (EndsAt 9) p.app
  pub atom : Reads spelled_exp (ExpFits bound room 10) (EndsAt 10) p.atom

pub left_or : (o : BinOp) → op_level o ≡ 2 → left_level o ≡ 2
left_or op.Or e = refl
left_or _ e = absurd (omega (arith, e))

pub left_and : (o : BinOp) → op_level o ≡ 3 → left_level o ≡ 3
left_and op.And e = refl
left_and op.Or e = absurd (omega (arith, e))
left_and _ e = absurd (omega (arith, e))

pub left_sum : (o : BinOp) → op_level o ≡ 5 → left_level o ≡ 5
left_sum op.Add e = refl
left_sum op.Sub e = refl
left_sum _ e = absurd (omega (arith, e))

pub left_term : (o : BinOp) → op_level o ≡ 6 → left_level o ≡ 6
left_term op.Mul e = refl
left_term op.Div e = refl
left_term op.Mod e = refl
left_term _ e = absurd (omega (arith, e))

pub left_index : (o : BinOp) → op_level o ≡ 8 → left_level o ≡ 8
left_index op.At e = refl
left_index op.Or e = absurd (omega (arith, e))
left_index _ e = absurd (omega (arith, e))

module _ (bound room : ℕ) (type : Reader TyExp) (pattern : Reader Pat) (tys : Reads spelled_ty (TypeFits bound) Anything type) (pats : Reads spelled_pat (PatFits bound 1) PatEnds pattern) (below : ExpReaders) (h : ExpsRead bound room below) where
  pub atom_now : Reads exp_spell (LayerFit bound room 10) (EndsAt 10) (atom_layer room type below)
  atom_now = atom_reads bound room type below.whole below.atom tys h.whole h.atom

  pub app_now : Reads exp_spell (LayerFit bound room 9) (EndsAt 9) (app_layer room type below)
  app_now = app_layer_reads bound room type below.whole below.atom tys h.whole h.atom

  pub index_now : Reads exp_spell (LayerFit bound room 8) (EndsAt 8) (index_layer room type below)
  index_now = chain_reads bound room 8 below.app h.app left_index (app_layer room type below) app_now (omega arith) (omega arith) (λ e. omega (arith, e))

  pub unary_now : Reads exp_spell (LayerFit bound room 7) (EndsAt 7) (unary_layer room type below)
  unary_now = unary_reads bound room below.unary (index_layer room type below) h.unary index_now

  pub term_now : Reads exp_spell (LayerFit bound room 6) (EndsAt 6) (term_layer room type below)
  term_now = chain_reads bound room 6 below.unary h.unary left_term (unary_layer room type below) unary_now (omega arith) (omega arith) (λ e. omega arith)

  pub sum_now : Reads exp_spell (LayerFit bound room 5) (EndsAt 5) (sum_layer room type below)
  sum_now = chain_reads bound room 5 below.term h.term left_sum (term_layer room type below) term_now (omega arith) (omega arith) (λ e. omega arith)

  pub comparison_now : Reads exp_spell (LayerFit bound room 4) (EndsAt 4) (comparison_layer room type below)
  comparison_now = comparison_reads bound room below.sum (sum_layer room type below) h.sum sum_now

  pub conjunction_now : Reads exp_spell (LayerFit bound room 3) (EndsAt 3) (conjunction_layer room type below)
  conjunction_now = chain_reads bound room 3 below.comparison h.comparison left_and (comparison_layer room type below) comparison_now (omega arith) (omega arith) (λ e. omega arith)

  pub disjunction_now : Reads exp_spell (LayerFit bound room 2) (EndsAt 2) (disjunction_layer room type below)
  disjunction_now = chain_reads bound room 2 below.conjunction h.conjunction left_or (conjunction_layer room type below) conjunction_now (omega arith) (omega arith) (λ e. omega arith)

  pub whole_now : Reads exp_spell (LayerFit bound room 1) (EndsAt 1) (whole_layer room type pattern below)
  whole_now = whole_reads bound room pattern below.whole below.atom (disjunction_layer room type below) pats h.whole h.atom disjunction_now

module _ (bound : ℕ) (type : Reader TyExp) (pattern : Reader Pat) (tys : Reads spelled_ty (TypeFits bound) Anything type) (pats : Reads spelled_pat (PatFits bound 1) PatEnds pattern) where
  pub all_read : (room : ℕ) → ExpsRead bound room (expressions_with type pattern room)
  unfolding expressions_with
  all_read zero = record { whole = nothing bound 1; disjunction = nothing bound 2; conjunction = nothing bound 3; comparison = nothing bound 4; sum = nothing bound 5; term = nothing bound 6; unary = none_read spelled_exp (ExpFits bound 0 7) (EndsAt 7) begins_part (λ e f. f); index = nothing bound 8; app = nothing bound 9; atom = none_read spelled_exp (ExpFits bound 0 10) (EndsAt 10) starts_atom (λ e f. f) }
  all_read (suc room) = let below = expressions_with type pattern room in let h = all_read room in record {
    whole = rolled bound room 1 (whole_layer room type pattern below) (whole_now bound room type pattern tys pats below h);
    disjunction = rolled bound room 2 (disjunction_layer room type below) (disjunction_now bound room type pattern tys pats below h);
    conjunction = rolled bound room 3 (conjunction_layer room type below) (conjunction_now bound room type pattern tys pats below h);
    comparison = rolled bound room 4 (comparison_layer room type below) (comparison_now bound room type pattern tys pats below h);
    sum = rolled bound room 5 (sum_layer room type below) (sum_now bound room type pattern tys pats below h);
    term = rolled bound room 6 (term_layer room type below) (term_now bound room type pattern tys pats below h);
    unary = rolled bound room 7 (unary_layer room type below) (unary_now bound room type pattern tys pats below h);
    index = rolled bound room 8 (index_layer room type below) (index_now bound room type pattern tys pats below h);
    app = rolled bound room 9 (app_layer room type below) (app_now bound room type pattern tys pats below h);
    atom = rolled bound room 10 (atom_layer room type below) (atom_now bound room type pattern tys pats below h);
  }

pub expressions_read : (bound room : ℕ) → ExpsRead bound room (expressions bound room)
expressions_read bound room = all_read bound (types bound) (patterns bound).whole (types_read bound) (patterns_read bound).whole room

some_spelled : (bound room level : ℕ) (e : Exp) → 1 ≤ level → ExpFits bound room level e → 0 < length (spelled_exp e)
some_spelled bound room level e h f = longer (spelled_exp e) (omega (arith, h, opens_at bound room level e h f)) where
  longer : (ks : List Kind) → 1 ≤ opening ks → 0 < length ks
  longer [] g = absurd (omega (arith, g))
  longer (k ∷ ks) g = omega arith

pub level_shrinks : (bound room level : ℕ) (p : Reader Exp) → 1 ≤ level → Reads spelled_exp (ExpFits bound room level) (EndsAt level) p → (ks : List Kind) (x : Exp × List Kind) → p ks ≡ Ok x → length x.1 < length ks
level_shrinks bound room level p h reads ks x e = let s = reads.sound ks x e in omega (arith, some_spelled bound room level x.0 h s.0, ap length s.1, length-append (spelled_exp x.0) x.1)

-- whatever is read at any level takes a token
pub all_shrink : (bound room level : ℕ) (ks : List Kind) (x : Exp × List Kind) → at_level level (expressions bound room) ks ≡ Ok x → length x.1 < length ks
all_shrink bound room level ks x e = pick_level (level == 2) (level == 3) (level == 4) (level == 5) (level == 6) (level == 7) (level == 8) e where
  pick_level : (a b c d f g h : Bool) → cond a (expressions bound room).disjunction (cond b (expressions bound room).conjunction (cond c (expressions bound room).comparison (cond d (expressions bound room).sum (cond f (expressions bound room).term (cond g (expressions bound room).unary (cond h (expressions bound room).index (expressions bound room).app)))))) ks ≡ Ok x → length x.1 < length ks
  pick_level true b c d f g h w = level_shrinks bound room 2 (expressions bound room).disjunction (omega arith) (expressions_read bound room).disjunction ks x w
  pick_level false true c d f g h w = level_shrinks bound room 3 (expressions bound room).conjunction (omega arith) (expressions_read bound room).conjunction ks x w
  pick_level false false true d f g h w = level_shrinks bound room 4 (expressions bound room).comparison (omega arith) (expressions_read bound room).comparison ks x w
  pick_level false false false true f g h w = level_shrinks bound room 5 (expressions bound room).sum (omega arith) (expressions_read bound room).sum ks x w
  pick_level false false false false true g h w = level_shrinks bound room 6 (expressions bound room).term (omega arith) (expressions_read bound room).term ks x w
  pick_level false false false false false true h w = level_shrinks bound room 7 (expressions bound room).unary (omega arith) (expressions_read bound room).unary ks x w
  pick_level false false false false false false true w = level_shrinks bound room 8 (expressions bound room).index (omega arith) (expressions_read bound room).index ks x w
  pick_level false false false false false false false w = level_shrinks bound room 9 (expressions bound room).app (omega arith) (expressions_read bound room).app ks x w

pub atom_shrink : (bound room : ℕ) (ks : List Kind) (x : Exp × List Kind) → (expressions bound room).atom ks ≡ Ok x → length x.1 < length ks
atom_shrink bound room = level_shrinks bound room 10 (expressions bound room).atom (omega arith) (expressions_read bound room).atom

pub alternatives_of : (bound room : ℕ) → Reads (λ (a : Pat × Exp). spelled_pat a.0 ++ Sign symbol.Arrow ∷ spelled_exp a.1) (λ (a : Pat × Exp). PatFits bound 1 a.0 × ExpFits bound room 1 a.1) (EndsAt 1) (alternative (patterns bound).whole (expressions bound room).whole)
alternatives_of bound room = let h = expressions_read bound room in alternative_reads bound room (patterns bound).whole (expressions bound room).whole (expressions bound room).atom (disjunction_layer room (types bound) (expressions bound room)) (patterns_read bound).whole h.whole h.atom (disjunction_now bound room (types bound) (patterns bound).whole (types_read bound) (patterns_read bound).whole (expressions bound room) h)
