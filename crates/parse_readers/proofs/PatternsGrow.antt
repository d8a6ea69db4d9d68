-- Patterns with more room.
use Rattle.std.proofs.Common.{◌≡◌, ℕ, zero, suc, ◌+◌, ◌<◌, ◌≤◌, List, [], ◌∷◌, length, true, false, refl, arith}
use Rattle.std.specs.Prelude.{Result, Ok}
use Rattle.hume_base.specs.declared.token.Kind.{Kind}
use Rattle.hume_base.specs.declared.keyword.Keyword.TheVariants as word
use Rattle.hume_base.specs.declared.symbol.Symbol.TheVariants as symbol
use Rattle.hume_base.specs.declared.token.Kind.TheVariants.{Lower, Upper, Number, Letter, Quoted, Word, Sign}
use Rattle.hume_ast.specs.declared.tree.Pat.{Pat, roll-Pat}
use Rattle.hume_ast.specs.declared.tree.Pat.TheOpen.{Pat-F}
use Rattle.parse_readers.specs.inner.Readers.{Wrong, Reader, ◌>>=◌, stop, too_deep, led, closed, both, made, choice, alternatives, pick, many, is_sign, is_word, any_token, number_of, upper_name}
use Rattle.parse_readers.specs.inner.Patterns.{pat_leaf, starts_pat, is_upper, pat_in_parens, pat_ways, con_of, PatReaders, whole_ways, patterns}
use Rattle.parse_readers.proofs.Local.{Local, local_closed, local_both, local_give, local_pick, local_many}
use Rattle.parse_readers.proofs.PatternsRead.{patterns_read, atoms_shrink}
use Rattle.parse_readers.proofs.Grows.{Same, Past, Grows, past_bind, grows_stop, grows_pick, grows_choice, grows_way, grows_led, grows_closed, grows_made, grows_both, led_past, grows_opened, grows_leaf, grows_many, others_local, others_grow}

abbrev comma : Kind
comma = Sign symbol.Comma

abbrev inside : Reader Pat → Reader (Pat × List Pat)
inside child = both child (closed (many (is_sign symbol.Comma) (led comma child)) (Sign symbol.CloseParen))

module _ (child : Reader Pat) (lc : Local child) where
  closed_local : Local (closed (many (is_sign symbol.Comma) (led comma child)) (Sign symbol.CloseParen))
  closed_local = local_closed (many (is_sign symbol.Comma) (led comma child)) (Sign symbol.CloseParen) (others_local symbol.Comma child lc)

  pub inside_local : Local (inside child)
  inside_local = local_both child _ lc closed_local

  -- where there was no room at all
  module _ (s : ℕ) where
    abbrev atoms : Reader Pat
    atoms = made roll-Pat (alternatives (pat_ways (suc s) child))

    rolled_past : (n : ℕ) (r : Result (Pat-F Pat × List Kind) Wrong) → Past n r → Past n (r >>= λ a. Ok (roll-Pat a.0, a.1))
    rolled_past n r h = past_bind (λ a l. Ok (roll-Pat a, l)) (λ a. local_give (roll-Pat a)) n r h

    first_past : (k : Kind) (ks : List Kind) → Same (choice starts_pat too_deep stop (k ∷ ks)) (atoms (k ∷ ks))
    first_past (Lower name) ks = omega arith
    first_past (Upper name) ks = omega arith
    first_past (Number n) ks = omega arith
    first_past (Letter n) ks = omega arith
    first_past (Quoted n) ks = refl
    first_past (Word word.True) ks = omega arith
    first_past (Word word.False) ks = omega arith
    first_past (Sign symbol.Underscore) ks = omega arith
    first_past (Sign symbol.Minus) ks = rolled_past (suc (length ks)) _ (led_past (Pat-F.Num true) (Sign symbol.Minus) (pick number_of) (pick number_of) (local_pick number_of) (Sign symbol.Minus ∷ ks) refl)
    first_past (Sign symbol.OpenParen) ks = rolled_past (suc (length ks)) _ (led_past pat_in_parens (Sign symbol.OpenParen) (inside child) (inside child) inside_local (Sign symbol.OpenParen ∷ ks) refl)
    first_past _ ks = refl

    pub none_grows : Grows (choice starts_pat too_deep stop) atoms
    none_grows [] = refl
    none_grows (k ∷ ks) = first_past k ks

module _ (r s : ℕ) (p q : PatReaders) (more : r < s) (hw : 0 < r → Grows p.whole q.whole) (ha : Grows p.atom q.atom) (lp : Local p.whole) (lw : Local q.whole) (la : Local q.atom)
    (lessp : (ks : List Kind) (x : Pat × List Kind) → p.atom ks ≡ Ok x → length x.1 < length ks) (lessq : (ks : List Kind) (x : Pat × List Kind) → q.atom ks ≡ Ok x → length x.1 < length ks) where
  inside_grows : 0 < r → Grows (inside p.whole) (inside q.whole)
  inside_grows z = grows_both p.whole q.whole _ _ (hw z)
      (grows_closed (Sign symbol.CloseParen) (many (is_sign symbol.Comma) (led comma p.whole)) (many (is_sign symbol.Comma) (led comma q.whole))
      (others_grow symbol.Comma q.whole lw p.whole lp (hw z)))
      (closed_local q.whole lw)

  pub atom_ways_grow : Grows (alternatives (pat_ways r p.whole)) (alternatives (pat_ways s q.whole))
  atom_ways_grow =
      grows_choice (is_sign symbol.Underscore) _ _ _ _ (grows_leaf (Sign symbol.Underscore) Pat-F.Any)
      (grows_choice (is_sign symbol.Minus) _ _ _ _ (grows_made (Pat-F.Num true) _ _ (grows_led (Sign symbol.Minus) (pick number_of) (pick number_of) (grows_pick number_of)))
      (grows_choice (is_word word.True) _ _ _ _ (grows_leaf (Word word.True) (Pat-F.Truth true))
      (grows_choice (is_word word.False) _ _ _ _ (grows_leaf (Word word.False) (Pat-F.Truth false))
      (grows_way (is_sign symbol.OpenParen) _ _ _ _ (grows_opened pat_in_parens (Sign symbol.OpenParen) (inside p.whole) (inside q.whole) (inside_local q.whole lw) r s more inside_grows)
      (grows_choice any_token _ _ _ _ (grows_pick pat_leaf) grows_stop)))))

  pub whole_ways_grow : Grows (alternatives (whole_ways r p)) (alternatives (whole_ways s q))
  whole_ways_grow =
      grows_choice is_upper _ _ _ _
      (grows_made con_of _ _ (grows_both (pick upper_name) (pick upper_name) (many starts_pat p.atom) (many starts_pat q.atom) (grows_pick upper_name) (grows_many starts_pat p.atom q.atom la ha lessp lessq) (local_many starts_pat q.atom lessq la)))
      atom_ways_grow

pub record PatsGrow (r s : ℕ) : Type 0 where
  pub whole : 0 < r → Grows (patterns r).whole (patterns s).whole
  pub atom : Grows (patterns r).atom (patterns s).atom

pub patterns_grow : (r s : ℕ) → r + 2 ≤ s → PatsGrow r s
unfolding patterns
patterns_grow r zero l = absurd (omega (arith, l))
patterns_grow r (suc zero) l = absurd (omega (arith, l))
patterns_grow zero (suc (suc s)) l = record {
  whole = λ z. absurd (omega (arith, z));
  atom = none_grows (patterns (suc s)).whole (patterns_read (suc s)).whole.local s;
}
patterns_grow (suc r) (suc (suc s)) l =
    let h = patterns_grow r (suc s) (omega (arith, l)) in record {
      whole = λ z. grows_made roll-Pat _ _ (whole_ways_grow r (suc s) (patterns r) (patterns (suc s)) (omega (arith, l)) h.whole h.atom (patterns_read r).whole.local (patterns_read (suc s)).whole.local (patterns_read (suc s)).atom.local (atoms_shrink r) (atoms_shrink (suc s)));
      atom = grows_made roll-Pat _ _ (atom_ways_grow r (suc s) (patterns r) (patterns (suc s)) (omega (arith, l)) h.whole h.atom (patterns_read r).whole.local (patterns_read (suc s)).whole.local (patterns_read (suc s)).atom.local (atoms_shrink r) (atoms_shrink (suc s)));
    }
