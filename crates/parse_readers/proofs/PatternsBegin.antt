-- Where the readers of patterns stop, the tokens in front of the wrong one begin a pattern.
use Rattle.std.proofs.Common.{ℕ, zero, suc, ◌<◌, ◌≤◌, List, [], ◌∷◌, ◌++◌, true, false, refl, arith}
use Rattle.std.specs.List.{flat_map}
use Rattle.hume_base.specs.declared.keyword.Keyword.TheVariants as word
use Rattle.hume_base.specs.declared.symbol.Symbol.TheVariants as symbol
use Rattle.hume_base.specs.declared.token.Kind.TheVariants.{Word, Sign}
use Rattle.hume_ast.specs.declared.tree.Pat.{Pat, roll-Pat}
use Rattle.hume_ast.specs.declared.tree.Pat.TheOpen.{Pat-F}
use Rattle.hume_ast.specs.Spelling.{spelled_pat}
use Rattle.hume_ast.specs.Fits.{Each, PatFits}
use Rattle.parse_readers.specs.inner.Readers.{Reader, stop, too_deep, led, both, closed, many, alternatives, is_sign}
use Rattle.parse_readers.specs.inner.Patterns.{pat_leaf, starts_pat, is_upper, pat_in_parens, parens_pat, pat_ways, con_of, con_pat, PatReaders, whole_ways, patterns, input_ways, input_pattern}
use Rattle.parse_readers.proofs.Forms.{Reads, Anything, shrinks}
use Rattle.parse_readers.proofs.TypesRead.{upper_reads}
use Rattle.parse_readers.proofs.PatternsRead.{PatEnds, pat_spell, pat_spelled, FitAt, rolled_fit, first_pat, patterns_read, parens_fit, parens_same, con_same, con_level, others_read}
use Rattle.parse_readers.proofs.Begins.{Begins, stop_begins, too_deep_begins, choice_begins, opens_begins, alternatives_begins, pick_begins, restated_begins, led_begins, made_begins, closed_begins, both_begins, many_begins, others_begin, leaf_begins}
use Rattle.parse_readers.proofs.TypesBegin.{number_begins, upper_begins}

-- a pattern that fits wherever there is room for one
abbrev pub some_pattern : Pat
some_pattern = roll-Pat Pat-F.Any

pub some_pattern_fits : (room level : ℕ) → level ≤ 2 → 0 < room → PatFits room level some_pattern
some_pattern_fits zero level l h = absurd (omega (arith, h))
some_pattern_fits (suc room) level l h = rolled_fit room level Pat-F.Any (l, tt)

module _ (room : ℕ) (child atom : Reader Pat) (reads : Reads spelled_pat (PatFits room 1) PatEnds child) (atoms : Reads spelled_pat (PatFits room 2) Anything atom)
    (begins : Begins spelled_pat (PatFits room 1) child) (atoms_begin : Begins spelled_pat (PatFits room 2) atom) where
  inside_begins : 0 < room → Begins (λ (a : Pat × List Pat). spelled_pat a.0 ++ (flat_map (λ p. Sign symbol.Comma ∷ spelled_pat p) a.1 ++ Sign symbol.CloseParen ∷ [])) (λ (a : Pat × List Pat). PatFits room 1 a.0 × Each (PatFits room 1) a.1)
      (both child (closed (many (is_sign symbol.Comma) (led (Sign symbol.Comma) child)) (Sign symbol.CloseParen)))
  inside_begins h = both_begins reads begins (closed_begins (others_read room child atom reads atoms) (others_begin reads begins some_pattern (some_pattern_fits room 1 (omega arith) h) symbol.Comma (λ rest. refl)) (Sign symbol.CloseParen)) [] tt

  parens_begin : 0 < room → Begins pat_spell (FitAt room 2) (parens_pat child)
  parens_begin h = made_begins (led_begins (inside_begins h) (Sign symbol.OpenParen) (some_pattern, []) (some_pattern_fits room 1 (omega arith) h, tt))
      pat_in_parens pat_spell (FitAt room 2) (parens_fit room child atom reads atoms) (λ a f. parens_same room child atom reads atoms a)

  ways_begin : Begins pat_spell (FitAt room 2) (alternatives (pat_ways room child))
  ways_begin = alternatives_begins pat_spell (FitAt room 2) (pat_ways room child) (
    leaf_begins pat_spell (FitAt room 2) (Sign symbol.Underscore) Pat-F.Any,
    (
      made_begins (led_begins number_begins (Sign symbol.Minus) 0 tt) (Pat-F.Num true) pat_spell (FitAt room 2) (λ n f. (omega arith, tt)) (λ n f. refl),
      (
        leaf_begins pat_spell (FitAt room 2) (Word word.True) (Pat-F.Truth true),
        (
          leaf_begins pat_spell (FitAt room 2) (Word word.False) (Pat-F.Truth false),
          (
            opens_begins pat_spell (FitAt room 2) (parens_pat child) room parens_begin,
            (
              pick_begins pat_spell (FitAt room 2) pat_leaf,
              tt,
            ),
          ),
        ),
      ),
    ),
  )

  con_begins : Begins pat_spell (FitAt room 1) (con_pat atom)
  con_begins = made_begins
      (both_begins upper_reads upper_begins (many_begins atoms atoms_begin starts_pat (shrinks atoms starts_pat (λ p rest f. first_pat room p rest f) (λ p rest f. tt))) [] tt)
      con_of pat_spell (FitAt room 1) (λ a f. (con_level room child atom reads atoms a, f.1)) (λ a f. con_same room child atom reads atoms a)

  abbrev below : PatReaders
  below = record { whole = child; atom = atom }

  whole_begins : Begins pat_spell (FitAt room 1) (alternatives (whole_ways room below))
  whole_begins = choice_begins pat_spell (FitAt room 1) is_upper (con_pat atom) (alternatives (pat_ways room child)) con_begins
      (restated_begins ways_begin pat_spell (FitAt room 1) (λ x f. ((omega (arith, f.0), f.1), refl)))

pub record PatternsBegin (room : ℕ) : Type 0 where
  pub whole : Begins spelled_pat (PatFits room 1) (patterns room).whole
  pub atom : Begins spelled_pat (PatFits room 2) (patterns room).atom

pub patterns_begin : (room : ℕ) → PatternsBegin room
unfolding patterns
patterns_begin zero = record {
  whole = stop_begins spelled_pat (PatFits 0 1);
  atom = choice_begins spelled_pat (PatFits 0 2) starts_pat too_deep stop (too_deep_begins spelled_pat (PatFits 0 2)) (stop_begins spelled_pat (PatFits 0 2));
}
patterns_begin (suc room) = let h = patterns_read room in let b = patterns_begin room in record {
  whole = made_begins (whole_begins room (patterns room).whole (patterns room).atom h.whole h.atom b.whole b.atom) roll-Pat spelled_pat (PatFits (suc room) 1) (rolled_fit room 1) (λ x f. pat_spelled x);
  atom = made_begins (ways_begin room (patterns room).whole (patterns room).atom h.whole h.atom b.whole b.atom) roll-Pat spelled_pat (PatFits (suc room) 2) (rolled_fit room 2) (λ x f. pat_spelled x);
}

-- at an input of a box
inputs_begin_by : (room : ℕ) → Begins spelled_pat (PatFits room 0) (alternatives (input_ways (patterns room)))
inputs_begin_by room = alternatives_begins spelled_pat (PatFits room 0) (input_ways (patterns room)) (
  leaf_begins spelled_pat (PatFits room 0) (Sign symbol.Star) (roll-Pat Pat-F.Star),
  (
    leaf_begins spelled_pat (PatFits room 0) (Sign symbol.UnderscoreStar) (roll-Pat Pat-F.AnyStar),
    (
      restated_begins (patterns_begin room).whole spelled_pat (PatFits room 0) (λ p f. (looser room p f, refl)),
      tt,
    ),
  ),
) where
  looser : (n : ℕ) (p : Pat) → PatFits n 1 p → PatFits n 0 p
  looser zero p f = f
  looser (suc n) p f = (omega arith, f.1)

pub inputs_begin : (room : ℕ) → Begins spelled_pat (PatFits room 0) (input_pattern room)
inputs_begin room = opens_begins spelled_pat (PatFits room 0) (alternatives (input_ways (patterns room))) room (λ h. inputs_begin_by room)
