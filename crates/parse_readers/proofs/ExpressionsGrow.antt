-- Expressions with more room.
use Rattle.std.proofs.Common.{ℕ, zero, suc, ◌+◌, ◌<◌, ◌≤◌, List, [], ◌∷◌, length, true, false, refl, arith}
use Rattle.std.specs.Prelude.{Result, Ok, Some, None}
use Rattle.hume_base.specs.declared.keyword.Keyword.TheVariants as word
use Rattle.hume_base.specs.declared.symbol.Symbol.TheVariants as symbol
use Rattle.hume_base.specs.declared.token.Kind.{Kind}
use Rattle.hume_base.specs.declared.token.Kind.TheVariants.{Lower, Upper, Number, Letter, Quoted, Word, Sign}
use Rattle.hume_ast.specs.declared.tree.TyExp.{TyExp}
use Rattle.hume_ast.specs.declared.tree.Pat.{Pat}
use Rattle.hume_ast.specs.declared.tree.Exp.{Exp, roll-Exp}
use Rattle.hume_ast.specs.declared.tree.Exp.TheOpen.{Exp-F}
use Rattle.hume_ast.specs.Spelling.{spelled_ty, spelled_pat}
use Rattle.hume_ast.specs.Fits.{TypeFits, PatFits}
use Rattle.parse_readers.specs.inner.Readers.{Wrong, Reader, ◌>>=◌, stop, too_deep, closed, give, both, made, choice, alternatives, any_token, pick, listed, maybe, is_sign, is_word, number_of, lower_name, upper_name}
use Rattle.parse_readers.specs.inner.Types.{types}
use Rattle.parse_readers.specs.inner.Patterns.{patterns}
use Rattle.parse_readers.specs.inner.Expressions.{starts_atom, begins_part, is_number, operands, minus_ways, unary_ways, let_of, if_of, case_of, alternative, raise_of, exp_ways, ExpReaders, atom_layer, app_layer, index_layer, unary_layer, term_layer, sum_layer, comparison_layer, conjunction_layer, disjunction_layer, whole_layer, expressions_with, expressions}
use Rattle.parse_readers.proofs.Local.{Local, local_closed, local_both, local_made, local_choice, local_give, local_pick}
use Rattle.parse_readers.proofs.Forms.{Reads, Anything}
use Rattle.parse_readers.proofs.TypesRead.{types_read}
use Rattle.parse_readers.proofs.PatternsRead.{PatEnds, patterns_read}
use Rattle.parse_readers.proofs.Chains.{local_operands}
use Rattle.parse_readers.proofs.ExpressionsRead.{minus_local, ExpsRead, left_or, left_and, left_sum, left_term, left_index, app_now, index_now, unary_now, term_now, sum_now, comparison_now, conjunction_now, all_read}
use Rattle.parse_readers.proofs.Grows.{Same, Past, Grows, within, past_bind, grows_stop, grows_pick, grows_choice, grows_way, grows_led, grows_closed, grows_made, grows_both, grows_maybe, led_past, grows_opened, listed_local, listed_grow}
use Rattle.parse_readers.proofs.TypesGrow.{types_grow}
use Rattle.parse_readers.proofs.PatternsGrow.{patterns_grow}
use Rattle.parse_readers.proofs.ChainsGrow.{grows_chain, grows_comparison}
use Rattle.parse_readers.proofs.AtomsGrow.{no_atom_grows, parens_past, vect_past, lower_past, upper_past, update_past, atom_ways_grow, app_ways_grow}

-- signs
unary_ways_grow : (r s : ℕ) (child child2 : Reader Exp) (index index2 : Reader (Exp-F Exp)) → Local child2 → r < s → Grows child child2 → Grows index index2 → Grows (alternatives (unary_ways r child index)) (alternatives (unary_ways s child2 index2))
unary_ways_grow r s child child2 index index2 local more h hi =
    grows_choice (is_sign symbol.Minus) _ _ _ _ (grows_led (Sign symbol.Minus) (alternatives (minus_ways child)) (alternatives (minus_ways child2))
    (grows_choice is_number _ _ _ _ (grows_made (Exp-F.Num true) (pick number_of) (pick number_of) (grows_pick number_of))
    (grows_choice any_token _ _ _ _ (grows_made Exp-F.Neg child child2 h) grows_stop)))
    (grows_way (is_word word.Not) _ _ _ _ (grows_opened Exp-F.Not (Word word.Not) child child2 local r s more (λ z. h))
    (grows_choice any_token _ _ _ _ hi grows_stop))

-- the forms that begin with a word
abbrev let_inside : Reader Exp → Reader (List ℕ × (Exp × Exp))
let_inside child = both (closed (pick lower_name) (Sign symbol.Equals)) (both (closed child (Word word.In)) child)

abbrev if_inside : Reader Exp → Reader (Exp × (Exp × Exp))
if_inside child = both (closed child (Word word.Then)) (both (closed child (Word word.Else)) child)

abbrev case_inside : Reader Pat → Reader Exp → Reader (Exp × List (Pat × Exp))
case_inside pattern child = both (closed child (Word word.Of)) (closed (listed symbol.Bar (alternative pattern child)) (Word word.End))

abbrev closed_by : Kind → Reader Exp → Reader (Exp × Exp)
closed_by token child = both (closed child token) child

module _ (pattern2 : Reader Pat) (child2 atom2 : Reader Exp) (lp2 : Local pattern2) (lc2 : Local child2) (la2 : Local atom2) where
  two_local : (token : Kind) → Local (closed_by token child2)
  two_local token = local_both (closed child2 token) child2 (local_closed child2 token lc2) lc2

  let_local : Local (let_inside child2)
  let_local = local_both (closed (pick lower_name) (Sign symbol.Equals)) (closed_by (Word word.In) child2) (local_closed (pick lower_name) (Sign symbol.Equals) (local_pick lower_name)) (two_local (Word word.In))

  if_local : Local (if_inside child2)
  if_local = local_both (closed child2 (Word word.Then)) (closed_by (Word word.Else) child2) (local_closed child2 (Word word.Then) lc2) (two_local (Word word.Else))

  alternative_local : Local (alternative pattern2 child2)
  alternative_local = local_both (closed pattern2 (Sign symbol.Arrow)) child2 (local_closed pattern2 (Sign symbol.Arrow) lp2) lc2

  alternatives_local : Local (closed (listed symbol.Bar (alternative pattern2 child2)) (Word word.End))
  alternatives_local = local_closed (listed symbol.Bar (alternative pattern2 child2)) (Word word.End) (listed_local symbol.Bar (alternative pattern2 child2) alternative_local)

  case_local : Local (case_inside pattern2 child2)
  case_local = local_both (closed child2 (Word word.Of)) (closed (listed symbol.Bar (alternative pattern2 child2)) (Word word.End)) (local_closed child2 (Word word.Of) lc2) alternatives_local

  carried_local : Local (maybe starts_atom atom2)
  carried_local = local_choice starts_atom (made Some atom2) (give None) (local_made Some atom2 la2) (local_give None)

  module _ (r s : ℕ) (pattern : Reader Pat) (child atom : Reader Exp) (or or2 : Reader (Exp-F Exp)) (lp : Local pattern) (lc : Local child) (more : r < s) (hp : Grows pattern pattern2) (h : 0 < r → Grows child child2) (ha : Grows atom atom2) (ho : Grows or or2) where
    two_grow : (token : Kind) → 0 < r → Grows (closed_by token child) (closed_by token child2)
    two_grow token z = grows_both (closed child token) (closed child2 token) child child2 (grows_closed token child child2 (h z)) (h z) lc2

    alternative_grows : 0 < r → Grows (alternative pattern child) (alternative pattern2 child2)
    alternative_grows z = grows_both (closed pattern (Sign symbol.Arrow)) (closed pattern2 (Sign symbol.Arrow)) child child2 (grows_closed (Sign symbol.Arrow) pattern pattern2 hp) (h z) lc2

    alternative_local_below : Local (alternative pattern child)
    alternative_local_below = local_both (closed pattern (Sign symbol.Arrow)) child (local_closed pattern (Sign symbol.Arrow) lp) lc

    pub exp_ways_grow : Grows (alternatives (exp_ways r pattern child atom or)) (alternatives (exp_ways s pattern2 child2 atom2 or2))
    exp_ways_grow =
        grows_way (is_word word.Let) _ _ _ _ (grows_opened let_of (Word word.Let) (let_inside child) (let_inside child2) let_local r s more
        (λ z. grows_both (closed (pick lower_name) (Sign symbol.Equals)) (closed (pick lower_name) (Sign symbol.Equals)) _ _ (grows_closed (Sign symbol.Equals) (pick lower_name) (pick lower_name) (grows_pick lower_name)) (two_grow (Word word.In) z) (two_local (Word word.In))))
        (grows_way (is_word word.If) _ _ _ _ (grows_opened if_of (Word word.If) (if_inside child) (if_inside child2) if_local r s more
        (λ z. grows_both (closed child (Word word.Then)) (closed child2 (Word word.Then)) _ _ (grows_closed (Word word.Then) child child2 (h z)) (two_grow (Word word.Else) z) (two_local (Word word.Else))))
        (grows_way (is_word word.Case) _ _ _ _ (grows_opened case_of (Word word.Case) (case_inside pattern child) (case_inside pattern2 child2) case_local r s more
        (λ z. grows_both (closed child (Word word.Of)) (closed child2 (Word word.Of)) _ _ (grows_closed (Word word.Of) child child2 (h z))
        (grows_closed (Word word.End) _ _ (listed_grow symbol.Bar (alternative pattern2 child2) alternative_local (alternative pattern child) alternative_local_below (alternative_grows z))) alternatives_local))
        (grows_choice (is_word word.Raise) _ _ _ _ (grows_made raise_of _ _ (grows_led (Word word.Raise) _ _ (grows_both (pick upper_name) (pick upper_name) _ _ (grows_pick upper_name) (grows_maybe starts_atom atom atom2 ha) carried_local)))
        (grows_choice any_token _ _ _ _ ho grows_stop))))

-- Each level with more room: without any, only the levels that stand behind a sign or beside a name may be asked.
pub record ExpsGrow (r : ℕ) (p q : ExpReaders) : Type 0 where
  pub whole : 0 < r → Grows p.whole q.whole
  pub disjunction : 0 < r → Grows p.disjunction q.disjunction
  pub conjunction : 0 < r → Grows p.conjunction q.conjunction
  pub comparison : 0 < r → Grows p.comparison q.comparison
  pub sum : 0 < r → Grows p.sum q.sum
  pub term : 0 < r → Grows p.term q.term
  pub unary : Grows p.unary q.unary
  pub index : 0 < r → Grows p.index q.index
  pub app : 0 < r → Grows p.app q.app
  pub atom : Grows p.atom q.atom

module _ (b2 : ℕ) (type2 : Reader TyExp) (pattern2 : Reader Pat) (tys2 : Reads spelled_ty (TypeFits b2) Anything type2) (pats2 : Reads spelled_pat (PatFits b2 1) PatEnds pattern2) where
  -- where there was no room at all
  module _ (room : ℕ) (below2 : ExpReaders) (h2 : ExpsRead b2 (suc room) below2) where
    abbrev unary2 : Reader (Exp-F Exp)
    unary2 = unary_layer (suc room) type2 below2

    rolled_past : (n : ℕ) (r : Result (Exp-F Exp × List Kind) Wrong) → Past n r → Past n (r >>= λ a. Ok (roll-Exp a.0, a.1))
    rolled_past n r h = past_bind (λ a l. Ok (roll-Exp a, l)) (λ a. local_give (roll-Exp a)) n r h

    -- an operand first, and then operators
    abbrev with_operands : Result (Exp-F Exp × List Kind) Wrong → Result (Exp × List Kind) Wrong
    with_operands r = (r >>= λ x. operands 8 (suc room) below2.app x.0 x.1) >>= λ a. Ok (roll-Exp a.0, a.1)

    behind_app : (n : ℕ) (r : Result (Exp-F Exp × List Kind) Wrong) → Past n r → Past n (with_operands r)
    behind_app n r h = rolled_past n _ (past_bind (operands 8 (suc room) below2.app) (local_operands b2 (suc room) 8 below2.app h2.app left_index) n r h)

    leaf_past : (x : Exp-F Exp) (ks : List Kind) → Past (suc (length ks)) (with_operands (Ok (x, ks)))
    leaf_past x ks = behind_app (suc (length ks)) (Ok (x, ks)) (omega arith)

    minuses_local : Local (alternatives (minus_ways below2.unary))
    minuses_local = minus_local b2 (suc room) below2.unary (index_layer (suc room) type2 below2) h2.unary (index_now b2 (suc room) type2 pattern2 tys2 pats2 below2 h2)

    first_past : (k : Kind) (ks : List Kind) → Same (choice begins_part too_deep stop (k ∷ ks)) (made roll-Exp unary2 (k ∷ ks))
    first_past (Lower name) ks = behind_app (suc (length ks)) _ (lower_past b2 (suc room) type2 below2.whole below2.atom tys2 h2.whole h2.atom room name ks)
    first_past (Upper name) ks = behind_app (suc (length ks)) _ (upper_past b2 (suc room) type2 below2.whole below2.atom tys2 h2.whole h2.atom room name ks)
    first_past (Number n) ks = leaf_past (Exp-F.Num false n) ks
    first_past (Letter n) ks = leaf_past (Exp-F.Letter n) ks
    first_past (Quoted n) ks = refl
    first_past (Word word.True) ks = leaf_past (Exp-F.Truth true) ks
    first_past (Word word.False) ks = leaf_past (Exp-F.Truth false) ks
    first_past (Word word.Not) ks = rolled_past (suc (length ks)) _ (led_past Exp-F.Not (Word word.Not) below2.unary below2.unary h2.unary.local (Word word.Not ∷ ks) refl)
    first_past (Word word.Update) ks = behind_app (suc (length ks)) _ (update_past b2 (suc room) type2 below2.whole below2.atom tys2 h2.whole h2.atom room ks)
    first_past (Sign symbol.Minus) ks = rolled_past (suc (length ks)) _ (within (alternatives (minus_ways below2.unary)) minuses_local ks)
    first_past (Sign symbol.Star) ks = leaf_past Exp-F.Star ks
    first_past (Sign symbol.OpenParen) ks = behind_app (suc (length ks)) _ (parens_past b2 (suc room) type2 below2.whole below2.atom tys2 h2.whole h2.atom room ks)
    first_past (Sign symbol.OpenAngles) ks = behind_app (suc (length ks)) _ (vect_past b2 (suc room) type2 below2.whole below2.atom tys2 h2.whole h2.atom room ks)
    first_past _ ks = refl

    no_part_grows : Grows (choice begins_part too_deep stop) (made roll-Exp unary2)
    no_part_grows [] = refl
    no_part_grows (k ∷ ks) = first_past k ks

  module _ (b : ℕ) (type : Reader TyExp) (pattern : Reader Pat) (tys : Reads spelled_ty (TypeFits b) Anything type) (pats : Reads spelled_pat (PatFits b 1) PatEnds pattern) (ht : Grows type type2) (hp : Grows pattern pattern2) where
    module _ (r s : ℕ) (more : r + 2 ≤ s) (p q : ExpReaders) (h : ExpsRead b r p) (h2 : ExpsRead b2 s q) (g : ExpsGrow r p q) where
      atom_grows : Grows (atom_layer r type p) (atom_layer s type2 q)
      atom_grows = atom_ways_grow b2 s type2 q.whole q.atom tys2 h2.whole h2.atom b r type p.whole p.atom h.whole h.atom (omega (arith, more)) ht g.whole g.atom

      app_grows : Grows (app_layer r type p) (app_layer s type2 q)
      app_grows = app_ways_grow b2 s type2 q.whole q.atom tys2 h2.whole h2.atom b r type p.whole p.atom h.whole h.atom (omega (arith, more)) ht g.whole g.atom

      index_grows : Grows (index_layer r type p) (index_layer s type2 q)
      index_grows = grows_chain b r b2 s 8 p.app q.app h.app h2.app left_index more g.app (app_layer r type p) (app_layer s type2 q) (app_now b r type pattern tys pats p h) app_grows

      unary_grows : Grows (unary_layer r type p) (unary_layer s type2 q)
      unary_grows = unary_ways_grow r s p.unary q.unary (index_layer r type p) (index_layer s type2 q) h2.unary.local (omega (arith, more)) g.unary index_grows

      term_grows : Grows (term_layer r type p) (term_layer s type2 q)
      term_grows = grows_chain b r b2 s 6 p.unary q.unary h.unary h2.unary left_term more (λ z. g.unary) (unary_layer r type p) (unary_layer s type2 q) (unary_now b r type pattern tys pats p h) unary_grows

      sum_grows : Grows (sum_layer r type p) (sum_layer s type2 q)
      sum_grows = grows_chain b r b2 s 5 p.term q.term h.term h2.term left_sum more g.term (term_layer r type p) (term_layer s type2 q) (term_now b r type pattern tys pats p h) term_grows

      comparison_grows : Grows (comparison_layer r type p) (comparison_layer s type2 q)
      comparison_grows = grows_comparison b r b2 s p.sum q.sum (sum_layer r type p) (sum_layer s type2 q) h2.sum (sum_now b r type pattern tys pats p h) (sum_now b2 s type2 pattern2 tys2 pats2 q h2) more g.sum sum_grows

      conjunction_grows : Grows (conjunction_layer r type p) (conjunction_layer s type2 q)
      conjunction_grows = grows_chain b r b2 s 3 p.comparison q.comparison h.comparison h2.comparison left_and more g.comparison (comparison_layer r type p) (comparison_layer s type2 q) (comparison_now b r type pattern tys pats p h) comparison_grows

      disjunction_grows : Grows (disjunction_layer r type p) (disjunction_layer s type2 q)
      disjunction_grows = grows_chain b r b2 s 2 p.conjunction q.conjunction h.conjunction h2.conjunction left_or more g.conjunction (conjunction_layer r type p) (conjunction_layer s type2 q) (conjunction_now b r type pattern tys pats p h) conjunction_grows

      whole_grows : Grows (whole_layer r type pattern p) (whole_layer s type2 pattern2 q)
      whole_grows = exp_ways_grow pattern2 q.whole q.atom pats2.local h2.whole.local h2.atom.local r s pattern p.whole p.atom (disjunction_layer r type p) (disjunction_layer s type2 q) pats.local h.whole.local (omega (arith, more)) hp g.whole g.atom disjunction_grows

    pub all_grow : (r s : ℕ) → r + 2 ≤ s → ExpsGrow r (expressions_with type pattern r) (expressions_with type2 pattern2 s)
    unfolding expressions_with
    all_grow r zero l = absurd (omega (arith, l))
    all_grow r (suc zero) l = absurd (omega (arith, l))
    all_grow zero (suc (suc s)) l =
        let q = expressions_with type2 pattern2 (suc s) in
        let h2 = all_read b2 type2 pattern2 tys2 pats2 (suc s) in record {
          whole = λ z. absurd (omega (arith, z));
          disjunction = λ z. absurd (omega (arith, z));
          conjunction = λ z. absurd (omega (arith, z));
          comparison = λ z. absurd (omega (arith, z));
          sum = λ z. absurd (omega (arith, z));
          term = λ z. absurd (omega (arith, z));
          unary = no_part_grows s q h2;
          index = λ z. absurd (omega (arith, z));
          app = λ z. absurd (omega (arith, z));
          atom = no_atom_grows b2 (suc s) type2 q.whole q.atom tys2 h2.whole h2.atom s;
        }
    all_grow (suc r) (suc (suc s)) l =
        let p = expressions_with type pattern r in
        let q = expressions_with type2 pattern2 (suc s) in
        let more : r + 2 ≤ suc s = omega (arith, l) in
        let h = all_read b type pattern tys pats r in
        let h2 = all_read b2 type2 pattern2 tys2 pats2 (suc s) in
        let g = all_grow r (suc s) more in record {
          whole = λ z. grows_made roll-Exp (whole_layer r type pattern p) (whole_layer (suc s) type2 pattern2 q) (whole_grows r (suc s) more p q h h2 g);
          disjunction = λ z. grows_made roll-Exp (disjunction_layer r type p) (disjunction_layer (suc s) type2 q) (disjunction_grows r (suc s) more p q h h2 g);
          conjunction = λ z. grows_made roll-Exp (conjunction_layer r type p) (conjunction_layer (suc s) type2 q) (conjunction_grows r (suc s) more p q h h2 g);
          comparison = λ z. grows_made roll-Exp (comparison_layer r type p) (comparison_layer (suc s) type2 q) (comparison_grows r (suc s) more p q h h2 g);
          sum = λ z. grows_made roll-Exp (sum_layer r type p) (sum_layer (suc s) type2 q) (sum_grows r (suc s) more p q h h2 g);
          term = λ z. grows_made roll-Exp (term_layer r type p) (term_layer (suc s) type2 q) (term_grows r (suc s) more p q h h2 g);
          unary = grows_made roll-Exp (unary_layer r type p) (unary_layer (suc s) type2 q) (unary_grows r (suc s) more p q h h2 g);
          index = λ z. grows_made roll-Exp (index_layer r type p) (index_layer (suc s) type2 q) (index_grows r (suc s) more p q h h2 g);
          app = λ z. grows_made roll-Exp (app_layer r type p) (app_layer (suc s) type2 q) (app_grows r (suc s) more p q h h2 g);
          atom = grows_made roll-Exp (atom_layer r type p) (atom_layer (suc s) type2 q) (atom_grows r (suc s) more p q h h2 g);
        }

pub expressions_grow : (b b2 r s : ℕ) → 0 < b → b + 2 ≤ b2 → r + 2 ≤ s → ExpsGrow r (expressions b r) (expressions b2 s)
expressions_grow b b2 r s some more l = all_grow b2 (types b2) (patterns b2).whole (types_read b2) (patterns_read b2).whole b (types b) (patterns b).whole (types_read b) (patterns_read b).whole
    (types_grow b b2 some (omega (arith, more))) ((patterns_grow b b2 more).whole some) r s l
