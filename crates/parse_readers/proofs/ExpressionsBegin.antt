-- Where the readers of expressions stop, the tokens in front of the wrong one begin an expression.
use Rattle.std.proofs.Common.{◌≡◌, ℕ, zero, suc, ◌<◌, List, [], ◌∷◌, ◌++◌, length, true, false, refl, sym, ap, ◌∙◌, subst, inl, inr, arith, append_assoc}
use Rattle.std.specs.Prelude.{Ok, Err, None}
use Rattle.hume_base.specs.declared.keyword.Keyword.TheVariants as word
use Rattle.hume_base.specs.declared.symbol.Symbol.TheVariants as symbol
use Rattle.hume_base.specs.declared.token.Kind.{Kind}
use Rattle.hume_base.specs.declared.token.Kind.TheVariants.{Number, Word, Sign}
use Rattle.hume_ast.specs.declared.tree.TyExp.{TyExp}
use Rattle.hume_ast.specs.declared.tree.Pat.{Pat}
use Rattle.hume_ast.specs.declared.tree.Exp.{Exp, roll-Exp}
use Rattle.hume_ast.specs.declared.tree.Exp.TheOpen.{Exp-F}
use Rattle.hume_ast.specs.Spelling.{spelled_exp, spelled_ty, spelled_pat}
use Rattle.hume_ast.specs.Fits.{ExpFits, TypeFits, PatFits, NoNumberFirst}
use Rattle.parse_readers.specs.inner.Readers.{Wrong, Reader, stop, too_deep, after, next, led, made, choice, alternatives, any_token, pick, number_of}
use Rattle.parse_readers.specs.inner.Types.{types}
use Rattle.parse_readers.specs.inner.Patterns.{patterns}
use Rattle.parse_readers.specs.inner.Expressions.{starts_atom, begins_part, is_number, minus_ways, unary_ways, let_of, let_exp, if_of, if_exp, case_of, case_exp, alternative, raise_of, raise_exp, exp_ways, ExpReaders, atom_layer, app_layer, index_layer, unary_layer, term_layer, sum_layer, comparison_layer, conjunction_layer, disjunction_layer, whole_layer, expressions_with, expressions}
use Rattle.parse_readers.proofs.Local.{chosen}
use Rattle.parse_readers.proofs.TokensApart.{after_ok}
use Rattle.parse_readers.proofs.Forms.{Reads, Anything, closed_reads, listed_reads}
use Rattle.parse_readers.proofs.TypesRead.{upper_reads, lower_reads, types_read}
use Rattle.parse_readers.proofs.PatternsRead.{PatEnds, patterns_read}
use Rattle.parse_readers.proofs.Levels.{LayerFit, exp_spell, exp_spelled, EndsAt}
use Rattle.parse_readers.proofs.Chains.{rolled_fit}
use Rattle.parse_readers.proofs.ExpressionsRead.{no_number, let_same, if_same, alternative_spell, alternative_reads, case_same, raise_fit, raise_same, ExpsRead, left_or, left_and, left_sum, left_term, left_index, app_now, unary_now, term_now, sum_now, comparison_now, conjunction_now, disjunction_now, all_read}
use Rattle.parse_readers.proofs.Begins.{Begun, Begins, bind_err, err_same, after_err, stop_begins, too_deep_begins, opens_begins, choice_begins, alternatives_begins, restated_begins, maybe_begins, led_begins, made_begins, closed_begins, both_begins, listed_begins}
use Rattle.parse_readers.proofs.TypesBegin.{number_begins, lower_begins, upper_begins, types_begin}
use Rattle.parse_readers.proofs.PatternsBegin.{some_pattern, some_pattern_fits, patterns_begin}
use Rattle.parse_readers.proofs.AtomsBegin.{some_exp, some_exp_fits, atom_begins, app_layer_begins}
use Rattle.parse_readers.proofs.ChainsBegin.{chain_begins, comparison_begins}

module _ (bound room : ℕ) (child : Reader Exp) (index : Reader (Exp-F Exp)) (begins : Begins spelled_exp (ExpFits bound room 7) child) (index_begins : Begins exp_spell (LayerFit bound room 8) index) where
  abbrev Signed : Exp-F Exp → Type 0
  Signed = LayerFit bound room 7

  -- a minus alone goes on as a number
  minus_alone : (ks : List Kind) (n : ℕ) → n ≡ length ks → Begun exp_spell Signed (Sign symbol.Minus ∷ ks) n
  minus_alone ks n e = inr (Sign symbol.Minus ∷ [], ks, refl, e, Exp-F.Num true 0, Number 0 ∷ [], (omega arith, tt), refl)

  -- a minus with the front of a part that doesn't begin with a number
  part_by : (ks : List Kind) (n : ℕ) → next is_number ks ≡ false → (front rest : List Kind) → ks ≡ front ++ rest → n ≡ length rest → (part : Exp) (more : List Kind) → ExpFits bound room 7 part → spelled_exp part ≡ front ++ more
      → Begun exp_spell Signed (Sign symbol.Minus ∷ ks) n
  part_by ks n number [] rest e w part more f same = minus_alone ks n (w ∙ ap length (sym e))
  part_by ks n number (k ∷ front) rest e w part more f same =
      let free = no_number (k ∷ (front ++ more)) [] (ap (next is_number) (sym e) ∙ number) in
      inr (Sign symbol.Minus ∷ k ∷ front, rest, ap (λ m. Sign symbol.Minus ∷ m) e, w, Exp-F.Neg part, more, (omega arith, (f, subst NoNumberFirst (sym same) free)), ap (λ m. Sign symbol.Minus ∷ m) same)

  neg_by : (ks : List Kind) (n : ℕ) → next is_number ks ≡ false → Begun spelled_exp (ExpFits bound room 7) ks n → Begun exp_spell Signed (Sign symbol.Minus ∷ ks) n
  neg_by ks n number (inl w) = minus_alone ks n w
  neg_by ks n number (inr s) = part_by ks n number s.0 s.1 s.2 s.3 s.4 s.5 s.6 s.7

  literal_begins : Begins exp_spell Signed (made (Exp-F.Num true) (led (Sign symbol.Minus) (pick number_of)))
  literal_begins = made_begins (led_begins number_begins (Sign symbol.Minus) 0 tt) (Exp-F.Num true) exp_spell Signed (λ n f. (omega arith, tt)) (λ n f. refl)

  behind_minus : (ks : List Kind) (n : Wrong) → alternatives (minus_ways child) ks ≡ Err n → Begun exp_spell Signed (Sign symbol.Minus ∷ ks) n.1
  behind_minus ks n e =
      elim (chosen (next is_number ks) (made (Exp-F.Num true) (pick number_of) ks) (choice any_token (made Exp-F.Neg child) stop ks) (Err n) e) [
        | inl w ↦ literal_begins (Sign symbol.Minus ∷ ks) n w.1
        | inr w ↦ elim (chosen (next any_token ks) (made Exp-F.Neg child ks) (stop ks) (Err n) w.1) [
          | inr v ↦ minus_alone ks n.1 (err_same false (length ks) n v.1)
          | inl v ↦ elim (bind_err (child ks) (λ a. Ok (Exp-F.Neg a.0, a.1)) n v.1) [
            | inl u ↦ neg_by ks n.1 w.0 (begins ks n u)
            | inr u ↦ absurd (let g = u.2 in cc)
          ]
        ]
      ]

  minus_begins : Begins exp_spell Signed (led (Sign symbol.Minus) (alternatives (minus_ways child)))
  minus_begins ks n e =
      elim (bind_err (after (Sign symbol.Minus) ks) (alternatives (minus_ways child)) n e) [
        | inl w ↦ inl (after_err (Sign symbol.Minus) ks n w)
        | inr w ↦ subst (λ m. Begun exp_spell Signed m n.1) (sym (after_ok (Sign symbol.Minus) ks w.0 w.1)) (behind_minus w.0 n w.2)
      ]

  not_begins : 0 < room → Begins exp_spell Signed (made Exp-F.Not (led (Word word.Not) child))
  not_begins h = made_begins (led_begins begins (Word word.Not) some_exp (some_exp_fits bound room 7 (omega arith) h)) Exp-F.Not exp_spell Signed (λ e f. (omega arith, f)) (λ e f. refl)

  pub unary_begins : Begins exp_spell (LayerFit bound room 7) (alternatives (unary_ways room child index))
  unary_begins = alternatives_begins exp_spell Signed (unary_ways room child index) (
    minus_begins,
    (
      opens_begins exp_spell Signed (made Exp-F.Not (led (Word word.Not) child)) room not_begins,
      (
        restated_begins index_begins exp_spell Signed (λ x f. ((omega (arith, f.0), f.1), refl)),
        tt,
      ),
    ),
  )

module _ (bound room : ℕ) (pattern : Reader Pat) (child atom : Reader Exp) (or : Reader (Exp-F Exp)) (pats : Reads spelled_pat (PatFits bound 1) PatEnds pattern) (reads : Reads spelled_exp (ExpFits bound room 1) (EndsAt 1) child) (atoms : Reads spelled_exp (ExpFits bound room 10) (EndsAt 10) atom) (ors : Reads exp_spell (LayerFit bound room 2) (EndsAt 2) or)
    (some : 0 < bound) (pats_begin : Begins spelled_pat (PatFits bound 1) pattern) (begins : Begins spelled_exp (ExpFits bound room 1) child) (atoms_begin : Begins spelled_exp (ExpFits bound room 10) atom) (ors_begin : Begins exp_spell (LayerFit bound room 2) or) where
  abbrev Whole : Exp-F Exp → Type 0
  Whole = LayerFit bound room 1

  abbrev Part : Exp → Type 0
  Part = ExpFits bound room 1

  abbrev AlternativeFits : Pat × Exp → Type 0
  AlternativeFits a = PatFits bound 1 a.0 × Part a.1

  part_fits : 0 < room → Part some_exp
  part_fits h = some_exp_fits bound room 1 (omega arith) h

  pattern_fits : PatFits bound 1 some_pattern
  pattern_fits = some_pattern_fits bound 1 (omega arith) some

  let_begins : 0 < room → Begins exp_spell Whole (let_exp child)
  let_begins h =
      let fits = part_fits h in
      made_begins
      (led_begins (both_begins (closed_reads lower_reads (Sign symbol.Equals) tt (λ rest. tt)) (closed_begins lower_reads lower_begins (Sign symbol.Equals))
      (both_begins (closed_reads reads (Word word.In) tt (λ rest. omega arith)) (closed_begins reads begins (Word word.In)) begins some_exp fits) (some_exp, some_exp) (fits, fits)) (Word word.Let) ([], (some_exp, some_exp)) (tt, (fits, fits)))
      let_of exp_spell Whole (λ a f. (omega arith, f.1)) (λ a f. let_same bound room pattern child atom or pats reads atoms ors a)

  if_begins : 0 < room → Begins exp_spell Whole (if_exp child)
  if_begins h =
      let fits = part_fits h in
      made_begins
      (led_begins (both_begins (closed_reads reads (Word word.Then) tt (λ rest. omega arith)) (closed_begins reads begins (Word word.Then))
      (both_begins (closed_reads reads (Word word.Else) tt (λ rest. omega arith)) (closed_begins reads begins (Word word.Else)) begins some_exp fits) (some_exp, some_exp) (fits, fits)) (Word word.If) (some_exp, (some_exp, some_exp)) (fits, (fits, fits)))
      if_of exp_spell Whole (λ a f. (omega arith, (f.0, f.1.0, f.1.1))) (λ a f. if_same bound room pattern child atom or pats reads atoms ors a)

  abbrev alternative_spelled : Pat × Exp → List Kind
  alternative_spelled = alternative_spell bound room pattern child atom or pats reads atoms ors

  alternative_begins : 0 < room → Begins alternative_spelled AlternativeFits (alternative pattern child)
  alternative_begins h = restated_begins (both_begins (closed_reads pats (Sign symbol.Arrow) tt (λ rest. refl)) (closed_begins pats pats_begin (Sign symbol.Arrow)) begins some_exp (part_fits h))
      alternative_spelled AlternativeFits (λ a f. (f, sym (append_assoc (spelled_pat a.0) (Sign symbol.Arrow ∷ []) (spelled_exp a.1))))

  case_begins : 0 < room → Begins exp_spell Whole (case_exp pattern child)
  case_begins h =
      let fits = part_fits h in
      let others = alternative_reads bound room pattern child atom or pats reads atoms ors in
      let one : Pat × Exp = (some_pattern, some_exp) in
      made_begins
      (led_begins (both_begins (closed_reads reads (Word word.Of) tt (λ rest. omega arith)) (closed_begins reads begins (Word word.Of))
      (closed_begins (listed_reads others symbol.Bar (λ rest. omega arith)) (listed_begins others (alternative_begins h) one (pattern_fits, fits) symbol.Bar (λ rest. omega arith)) (Word word.End)) (one ∷ []) (omega arith, ((pattern_fits, fits), tt))) (Word word.Case) (some_exp, one ∷ []) (fits, (omega arith, ((pattern_fits, fits), tt))))
      case_of exp_spell Whole (λ a f. (omega arith, (f.0, f.1.0, f.1.1))) (λ a f. case_same bound room pattern child atom or pats reads atoms ors a)

  raise_begins : Begins exp_spell Whole (raise_exp atom)
  raise_begins = made_begins (led_begins (both_begins upper_reads upper_begins (maybe_begins atoms_begin starts_atom) None tt) (Word word.Raise) ([], None) (tt, tt))
      raise_of exp_spell Whole (raise_fit bound room pattern child atom or pats reads atoms ors) (λ a f. raise_same bound room pattern child atom or pats reads atoms ors a)

  pub whole_begins : Begins exp_spell (LayerFit bound room 1) (alternatives (exp_ways room pattern child atom or))
  whole_begins = alternatives_begins exp_spell Whole (exp_ways room pattern child atom or) (
    opens_begins exp_spell Whole (let_exp child) room let_begins,
    (
      opens_begins exp_spell Whole (if_exp child) room if_begins,
      (
        opens_begins exp_spell Whole (case_exp pattern child) room case_begins,
        (
          raise_begins,
          (
            restated_begins ors_begin exp_spell Whole (λ x f. ((omega (arith, f.0), f.1), refl)),
            tt,
          ),
        ),
      ),
    ),
  )

-- a level begins, once one level of it does
rolled : (bound room level : ℕ) (p : Reader (Exp-F Exp)) → Begins exp_spell (LayerFit bound room level) p → Begins spelled_exp (ExpFits bound (suc room) level) (made roll-Exp p)
rolled bound room level p begins = made_begins begins roll-Exp spelled_exp (ExpFits bound (suc room) level) (rolled_fit bound room level) (λ x f. exp_spelled x)

-- where the readers of each level stop, in a room
pub record ExpsBegin (bound room : ℕ) (p : ExpReaders) : Type 0 where
  pub whole : Begins spelled_exp (ExpFits bound room 1) p.whole
  pub disjunction : Begins spelled_exp (ExpFits bound room 2) p.disjunction
  pub conjunction : Begins spelled_exp (ExpFits bound room 3) p.conjunction
  pub comparison : Begins spelled_exp (ExpFits bound room 4) p.comparison
  pub sum : Begins spelled_exp (ExpFits bound room 5) p.sum
  pub term : Begins spelled_exp (ExpFits bound room 6) p.term
  pub unary : Begins spelled_exp (ExpFits bound room 7) p.unary
  pub index : Begins spelled_exp (ExpFits bound room 8) p.index
  pub app : Begins spelled_exp (ExpFits bound room 9) p.app
  pub atom : Begins spelled_exp (ExpFits bound room 10) p.atom

module _ (bound : ℕ) (type : Reader TyExp) (pattern : Reader Pat) (tys : Reads spelled_ty (TypeFits bound) Anything type) (pats : Reads spelled_pat (PatFits bound 1) PatEnds pattern)
    (some : 0 < bound) (tys_begin : Begins spelled_ty (TypeFits bound) type) (pats_begin : Begins spelled_pat (PatFits bound 1) pattern) where
  module _ (room : ℕ) (below : ExpReaders) (h : ExpsRead bound room below) (b : ExpsBegin bound room below) where
    atom_now_begins : Begins exp_spell (LayerFit bound room 10) (atom_layer room type below)
    atom_now_begins = atom_begins bound room type below.whole below.atom tys h.whole h.atom some tys_begin b.whole b.atom

    app_now_begins : Begins exp_spell (LayerFit bound room 9) (app_layer room type below)
    app_now_begins = app_layer_begins bound room type below.whole below.atom tys h.whole h.atom some tys_begin b.whole b.atom

    index_now_begins : Begins exp_spell (LayerFit bound room 8) (index_layer room type below)
    index_now_begins = chain_begins bound room 8 below.app h.app left_index b.app (omega arith) (app_layer room type below) (app_now bound room type pattern tys pats below h) app_now_begins

    unary_now_begins : Begins exp_spell (LayerFit bound room 7) (unary_layer room type below)
    unary_now_begins = unary_begins bound room below.unary (index_layer room type below) b.unary index_now_begins

    term_now_begins : Begins exp_spell (LayerFit bound room 6) (term_layer room type below)
    term_now_begins = chain_begins bound room 6 below.unary h.unary left_term b.unary (omega arith) (unary_layer room type below) (unary_now bound room type pattern tys pats below h) unary_now_begins

    sum_now_begins : Begins exp_spell (LayerFit bound room 5) (sum_layer room type below)
    sum_now_begins = chain_begins bound room 5 below.term h.term left_sum b.term (omega arith) (term_layer room type below) (term_now bound room type pattern tys pats below h) term_now_begins

    comparison_now_begins : Begins exp_spell (LayerFit bound room 4) (comparison_layer room type below)
    comparison_now_begins = comparison_begins bound room below.sum (sum_layer room type below) h.sum (sum_now bound room type pattern tys pats below h) b.sum sum_now_begins

    conjunction_now_begins : Begins exp_spell (LayerFit bound room 3) (conjunction_layer room type below)
    conjunction_now_begins = chain_begins bound room 3 below.comparison h.comparison left_and b.comparison (omega arith) (comparison_layer room type below) (comparison_now bound room type pattern tys pats below h) comparison_now_begins

    disjunction_now_begins : Begins exp_spell (LayerFit bound room 2) (disjunction_layer room type below)
    disjunction_now_begins = chain_begins bound room 2 below.conjunction h.conjunction left_or b.conjunction (omega arith) (conjunction_layer room type below) (conjunction_now bound room type pattern tys pats below h) conjunction_now_begins

    whole_now_begins : Begins exp_spell (LayerFit bound room 1) (whole_layer room type pattern below)
    whole_now_begins = whole_begins bound room pattern below.whole below.atom (disjunction_layer room type below) pats h.whole h.atom (disjunction_now bound room type pattern tys pats below h) some pats_begin b.whole b.atom disjunction_now_begins

  pub all_begin : (room : ℕ) → ExpsBegin bound room (expressions_with type pattern room)
  unfolding expressions_with
  all_begin zero = record {
    whole = stop_begins spelled_exp (ExpFits bound 0 1);
    disjunction = stop_begins spelled_exp (ExpFits bound 0 2);
    conjunction = stop_begins spelled_exp (ExpFits bound 0 3);
    comparison = stop_begins spelled_exp (ExpFits bound 0 4);
    sum = stop_begins spelled_exp (ExpFits bound 0 5);
    term = stop_begins spelled_exp (ExpFits bound 0 6);
    unary = choice_begins spelled_exp (ExpFits bound 0 7) begins_part too_deep stop (too_deep_begins spelled_exp (ExpFits bound 0 7)) (stop_begins spelled_exp (ExpFits bound 0 7));
    index = stop_begins spelled_exp (ExpFits bound 0 8);
    app = stop_begins spelled_exp (ExpFits bound 0 9);
    atom = choice_begins spelled_exp (ExpFits bound 0 10) starts_atom too_deep stop (too_deep_begins spelled_exp (ExpFits bound 0 10)) (stop_begins spelled_exp (ExpFits bound 0 10));
  }
  all_begin (suc room) =
      let below = expressions_with type pattern room in
      let h = all_read bound type pattern tys pats room in
      let b = all_begin room in record {
        whole = rolled bound room 1 (whole_layer room type pattern below) (whole_now_begins room below h b);
        disjunction = rolled bound room 2 (disjunction_layer room type below) (disjunction_now_begins room below h b);
        conjunction = rolled bound room 3 (conjunction_layer room type below) (conjunction_now_begins room below h b);
        comparison = rolled bound room 4 (comparison_layer room type below) (comparison_now_begins room below h b);
        sum = rolled bound room 5 (sum_layer room type below) (sum_now_begins room below h b);
        term = rolled bound room 6 (term_layer room type below) (term_now_begins room below h b);
        unary = rolled bound room 7 (unary_layer room type below) (unary_now_begins room below h b);
        index = rolled bound room 8 (index_layer room type below) (index_now_begins room below h b);
        app = rolled bound room 9 (app_layer room type below) (app_now_begins room below h b);
        atom = rolled bound room 10 (atom_layer room type below) (atom_now_begins room below h b);
      }

pub expressions_begin : (bound room : ℕ) → 0 < bound → ExpsBegin bound room (expressions bound room)
expressions_begin bound room some = all_begin bound (types bound) (patterns bound).whole (types_read bound) (patterns_read bound).whole some (types_begin bound) (patterns_begin bound).whole room
