-- The patterns that are read.
use Rattle.std.proofs.Common.{◌≡◌, ℕ, zero, suc, ◌<◌, ◌≤◌, List, [], ◌∷◌, ◌++◌, length, Bool, true, false, refl, sym, ap, ◌∙◌, subst, arith}
use Rattle.std.specs.Prelude.{Ok, Err, Option, Some, None}
use Rattle.std.specs.List.{flat_map}
use Rattle.hume_base.specs.declared.keyword.Keyword.TheVariants as word
use Rattle.hume_base.specs.declared.symbol.Symbol.TheVariants as symbol
use Rattle.hume_base.specs.declared.token.Kind.{Kind}
use Rattle.hume_base.specs.declared.token.Kind.TheVariants.{Lower, Upper, Number, Letter, Word, Sign}
use Rattle.hume_ast.specs.declared.tree.Pat.{Pat, roll-Pat, out-Pat, map-Pat, fold-roll-Pat, roll-out-Pat, out-roll-Pat}
use Rattle.hume_ast.specs.declared.tree.Pat.TheOpen.{Pat-F}
use Rattle.hume_ast.specs.Spelling.{spell_pat, spelled_pat}
use Rattle.hume_ast.specs.Fits.{Each, PatFits, PatParts, pat_level}
use Rattle.parse_readers.specs.inner.Readers.{Reader, stop, led, made, both, closed, many, alternatives, pick, next, is_sign, number_of, upper_name}
use Rattle.parse_readers.specs.inner.Patterns.{pat_leaf, starts_pat, is_upper, pat_in_parens, parens_pat, pat_ways, con_of, con_pat, PatReaders, whole_ways, patterns, input_ways, input_pattern}
use Rattle.parse_readers.proofs.Local.{local_too_deep, Local, local_made, local_opens, local_stop, local_pick}
use Rattle.parse_readers.proofs.TokensApart.{some_same}
use Rattle.parse_readers.proofs.TypesRead.{number_reads, upper_reads}
use Rattle.parse_readers.proofs.Forms.{none_read, Reads, Anything, All, Sound, led_reads, closed_reads, both_reads, many_reads, made_reads, made_sound, made_complete, opens_sound, opened, leaf_sound, leaf_local, ending, enclosed, beside_map, alternatives_sound, alternatives_local, choice_sound, shrinks}

-- a pattern's tokens, seen at its first level
abbrev pub pat_spell : Pat-F Pat → List Kind
pat_spell x = spell_pat (map-Pat Pat (List Kind) spelled_pat x)

abbrev pub FitAt : ℕ → ℕ → Pat-F Pat → Type 0
FitAt room level x = (level ≤ pat_level x) × PatParts (PatFits room) x

-- no pattern beside goes on
abbrev pub PatEnds : List Kind → Type 0
PatEnds rest = next starts_pat rest ≡ false

pub pat_spelled : (x : Pat-F Pat) → spelled_pat (roll-Pat x) ≡ pat_spell x
pat_spelled x = fold-roll-Pat (List Kind) spell_pat x

pub rolled_fit : (room level : ℕ) (x : Pat-F Pat) → FitAt room level x → PatFits (suc room) level (roll-Pat x)
rolled_fit room level x f = subst (FitAt room level) (sym (out-roll-Pat x)) f

first_by : (x : Pat-F Pat) (rest : List Kind) → 2 ≤ pat_level x → next starts_pat (pat_spell x ++ rest) ≡ true
first_by (Pat-F.Name name) rest h = refl
first_by Pat-F.Any rest h = refl
first_by (Pat-F.Num true amount) rest h = refl
first_by (Pat-F.Num false amount) rest h = refl
first_by (Pat-F.Letter byte) rest h = refl
first_by (Pat-F.Truth true) rest h = refl
first_by (Pat-F.Truth false) rest h = refl
first_by (Pat-F.Con name parts) rest h = refl
first_by (Pat-F.Paren inner) rest h = refl
first_by (Pat-F.Tuple parts) rest h = refl
first_by Pat-F.Star rest h = absurd (omega (arith, h))
first_by Pat-F.AnyStar rest h = absurd (omega (arith, h))

pub first_pat : (room : ℕ) (p : Pat) (rest : List Kind) → PatFits room 2 p → next starts_pat (spelled_pat p ++ rest) ≡ true
first_pat zero p rest f = absurd f
first_pat (suc room) p rest f = ap (λ q. next starts_pat (spelled_pat q ++ rest)) (sym (roll-out-Pat p)) ∙ ap (λ m. next starts_pat (m ++ rest)) (pat_spelled (out-Pat p)) ∙ first_by (out-Pat p) rest f.0

has_room : (room level : ℕ) (p : Pat) → PatFits room level p → 0 < room
has_room zero level p f = absurd f
has_room (suc room) level p f = omega arith

leaf_says : (room : ℕ) (k : Kind) (x : Pat-F Pat) → pat_leaf k ≡ Some x → FitAt room 2 x × (pat_spell x ≡ k ∷ [])
leaf_says room (Lower name) x e = subst (λ y. FitAt room 2 y × (pat_spell y ≡ Lower name ∷ [])) (some_same (Pat-F.Name name) x e) ((omega arith, tt), refl)
leaf_says room (Upper name) x e = subst (λ y. FitAt room 2 y × (pat_spell y ≡ Upper name ∷ [])) (some_same (Pat-F.Con name []) x e) ((omega arith, tt), refl)
leaf_says room (Number amount) x e = subst (λ y. FitAt room 2 y × (pat_spell y ≡ Number amount ∷ [])) (some_same (Pat-F.Num false amount) x e) ((omega arith, tt), refl)
leaf_says room (Letter byte) x e = subst (λ y. FitAt room 2 y × (pat_spell y ≡ Letter byte ∷ [])) (some_same (Pat-F.Letter byte) x e) ((omega arith, tt), refl)
leaf_says room _ x e = cc

module _ (room : ℕ) (child atom : Reader Pat) (reads : Reads spelled_pat (PatFits room 1) PatEnds child) (atoms : Reads spelled_pat (PatFits room 2) Anything atom) where
  pub others_read : Reads (flat_map (λ p. Sign symbol.Comma ∷ spelled_pat p)) (Each (PatFits room 1)) (λ rest. (next (is_sign symbol.Comma) rest ≡ false) × PatEnds rest) (many (is_sign symbol.Comma) (led (Sign symbol.Comma) child))
  others_read = many_reads (led_reads reads (Sign symbol.Comma) tt) (is_sign symbol.Comma) (λ p rest f. refl) (λ p rest f. refl)

  after_first : (ps : List Pat) (rest : List Kind) → PatEnds ((flat_map (λ p. Sign symbol.Comma ∷ spelled_pat p) ps ++ Sign symbol.CloseParen ∷ []) ++ rest)
  after_first [] rest = refl
  after_first (p ∷ ps) rest = refl

  parens_reads : Reads (λ (a : Pat × List Pat). Sign symbol.OpenParen ∷ (spelled_pat a.0 ++ (flat_map (λ p. Sign symbol.Comma ∷ spelled_pat p) a.1 ++ Sign symbol.CloseParen ∷ []))) (λ (a : Pat × List Pat). PatFits room 1 a.0 × Each (PatFits room 1) a.1) Anything
      (led (Sign symbol.OpenParen) (both child (closed (many (is_sign symbol.Comma) (led (Sign symbol.Comma) child)) (Sign symbol.CloseParen))))
  parens_reads = led_reads (both_reads reads (closed_reads others_read (Sign symbol.CloseParen) tt (λ rest. (refl, refl))) (λ b rest f e. after_first b rest)) (Sign symbol.OpenParen) tt

  pub parens_fit : (a : Pat × List Pat) → PatFits room 1 a.0 × Each (PatFits room 1) a.1 → FitAt room 2 (pat_in_parens a)
  parens_fit (p, []) f = (omega arith, f.0)
  parens_fit (p, q ∷ ps) f = (omega arith, (omega arith, f))

  pub parens_same : (a : Pat × List Pat) → pat_spell (pat_in_parens a) ≡ Sign symbol.OpenParen ∷ (spelled_pat a.0 ++ (flat_map (λ p. Sign symbol.Comma ∷ spelled_pat p) a.1 ++ Sign symbol.CloseParen ∷ []))
  parens_same (p, []) = refl
  parens_same (p, q ∷ ps) = ap (λ m. Sign symbol.OpenParen ∷ m) (enclosed spelled_pat symbol.Comma (Sign symbol.CloseParen) p (q ∷ ps))

  minus_reads : Reads (λ n. Sign symbol.Minus ∷ Number n ∷ []) All Anything (led (Sign symbol.Minus) (pick number_of))
  minus_reads = led_reads number_reads (Sign symbol.Minus) tt

  leaf_sound_by : (o : Option (Pat-F Pat)) (k : Kind) (ks : List Kind) (x : Pat-F Pat × List Kind) → pat_leaf k ≡ o → pick pat_leaf (k ∷ ks) ≡ Ok x → FitAt room 2 x.0 × (k ∷ ks ≡ pat_spell x.0 ++ x.1)
  leaf_sound_by None k ks x g e = absurd (let f : Err (false, suc (length ks)) ≡ Ok x = sym (rw g) ∙ e in cc)
  leaf_sound_by (Some y) k ks x g e =
      let is : (y, ks) ≡ x = (let f : Ok (y, ks) ≡ Ok x = sym (rw g) ∙ e in cc) in
      let w = leaf_says room k y g in
      subst (λ (z : Pat-F Pat × List Kind). FitAt room 2 z.0 × (k ∷ ks ≡ pat_spell z.0 ++ z.1)) is (w.0, ap (λ m. m ++ ks) (sym w.1))

  leaf_pick_sound : Sound pat_spell (FitAt room 2) (pick pat_leaf)
  leaf_pick_sound [] x e = cc
  leaf_pick_sound (k ∷ ks) x e = leaf_sound_by (pat_leaf k) k ks x refl e

  ways_sound : Sound pat_spell (FitAt room 2) (alternatives (pat_ways room child))
  ways_sound = alternatives_sound pat_spell (FitAt room 2) (pat_ways room child) (
    leaf_sound pat_spell (FitAt room 2) (Sign symbol.Underscore) Pat-F.Any tt refl (omega arith, tt),
    (
      made_sound minus_reads (Pat-F.Num true) pat_spell (FitAt room 2) (λ n f. (omega arith, tt)) (λ n f. refl),
      (
        leaf_sound pat_spell (FitAt room 2) (Word word.True) (Pat-F.Truth true) tt refl (omega arith, tt),
        (
          leaf_sound pat_spell (FitAt room 2) (Word word.False) (Pat-F.Truth false) tt refl (omega arith, tt),
          (
            opens_sound pat_spell (FitAt room 2) (parens_pat child) room (made_sound parens_reads pat_in_parens pat_spell (FitAt room 2) parens_fit (λ a f. parens_same a)),
            (
              leaf_pick_sound,
              tt,
            ),
          ),
        ),
      ),
    ),
  )

  ways_local : Each (λ (way : (Kind → Bool) × Reader (Pat-F Pat)). Local way.1) (pat_ways room child)
  ways_local = (
    leaf_local (Sign symbol.Underscore) Pat-F.Any,
    (
      local_made (Pat-F.Num true) _ minus_reads.local,
      (
        leaf_local (Word word.True) (Pat-F.Truth true),
        (
          leaf_local (Word word.False) (Pat-F.Truth false),
          (
            local_opens room (parens_pat child) (local_made pat_in_parens _ parens_reads.local),
            (
              local_pick pat_leaf,
              tt,
            ),
          ),
        ),
      ),
    ),
  )

  paren_complete : (a : Pat × List Pat) (rest : List Kind) → PatFits room 1 a.0 × Each (PatFits room 1) a.1 → alternatives (pat_ways room child) (pat_spell (pat_in_parens a) ++ rest) ≡ Ok (pat_in_parens a, rest)
  paren_complete a rest f = ap (λ m. alternatives (pat_ways room child) (m ++ rest)) (parens_same a) ∙ opened room (parens_pat child) _ (has_room room 1 a.0 f.0) ∙ made_complete parens_reads pat_in_parens a rest f tt

  ways_complete : (x : Pat-F Pat) (rest : List Kind) → FitAt room 2 x → alternatives (pat_ways room child) (pat_spell x ++ rest) ≡ Ok (x, rest)
  ways_complete (Pat-F.Name name) rest f = refl
  ways_complete Pat-F.Any rest f = refl
  ways_complete (Pat-F.Num true amount) rest f = refl
  ways_complete (Pat-F.Num false amount) rest f = refl
  ways_complete (Pat-F.Letter byte) rest f = refl
  ways_complete (Pat-F.Truth true) rest f = refl
  ways_complete (Pat-F.Truth false) rest f = refl
  ways_complete (Pat-F.Con name []) rest f = refl
  ways_complete (Pat-F.Con name (first ∷ parts)) rest f = absurd (omega (arith, f.0))
  ways_complete (Pat-F.Paren inner) rest f = paren_complete (inner, []) rest (f.1, tt)
  ways_complete (Pat-F.Tuple []) rest f = absurd (omega (arith, f.1.0))
  ways_complete (Pat-F.Tuple (p ∷ [])) rest f = absurd (omega (arith, f.1.0))
  ways_complete (Pat-F.Tuple (p ∷ q ∷ ps)) rest f = paren_complete (p, q ∷ ps) rest f.1.1
  ways_complete Pat-F.Star rest f = absurd (omega (arith, f.0))
  ways_complete Pat-F.AnyStar rest f = absurd (omega (arith, f.0))

  beside_reads : Reads (flat_map spelled_pat) (Each (PatFits room 2)) (λ rest. (next starts_pat rest ≡ false) × Anything rest) (many starts_pat atom)
  beside_reads = many_reads atoms starts_pat (λ p rest f. first_pat room p rest f) (λ p rest f. tt)

  pub con_reads : Reads (λ (a : List ℕ × List Pat). Upper a.0 ∷ flat_map spelled_pat a.1) (λ (a : List ℕ × List Pat). Unit {0} × Each (PatFits room 2) a.1) PatEnds (both (pick upper_name) (many starts_pat atom))
  con_reads = both_reads upper_reads (ending beside_reads PatEnds (λ rest e. (e, tt))) (λ b rest f e. tt)

  pub con_same : (a : List ℕ × List Pat) → pat_spell (con_of a) ≡ Upper a.0 ∷ flat_map spelled_pat a.1
  con_same a = ap (λ m. Upper a.0 ∷ m) (beside_map spelled_pat a.1)

  pub con_level : (a : List ℕ × List Pat) → 1 ≤ pat_level (con_of a)
  con_level (x, []) = omega arith
  con_level (x, p ∷ ps) = omega arith

  higher : (x : Pat-F Pat × List Kind) (ks : List Kind) → FitAt room 2 x.0 × (ks ≡ pat_spell x.0 ++ x.1) → FitAt room 1 x.0 × (ks ≡ pat_spell x.0 ++ x.1)
  higher x ks h = ((omega (arith, h.0.0), h.0.1), h.1)

  abbrev below : PatReaders
  below = record { whole = child; atom = atom }

  whole_sound : Sound pat_spell (FitAt room 1) (alternatives (whole_ways room below))
  whole_sound = choice_sound pat_spell (FitAt room 1) is_upper (con_pat atom) (alternatives (pat_ways room child))
      (made_sound con_reads con_of pat_spell (FitAt room 1) (λ a f. (con_level a, f.1)) (λ a f. con_same a))
      (λ ks x e. higher x ks (ways_sound ks x e))

  con_complete : (name : List ℕ) (parts : List Pat) (rest : List Kind) → Each (PatFits room 2) parts → PatEnds rest → alternatives (whole_ways room below) (pat_spell (Pat-F.Con name parts) ++ rest) ≡ Ok (Pat-F.Con name parts, rest)
  con_complete name parts rest f e = ap (λ m. con_pat atom (m ++ rest)) (con_same (name, parts)) ∙ made_complete con_reads con_of (name, parts) rest (tt, f) e

  whole_complete : (x : Pat-F Pat) (rest : List Kind) → FitAt room 1 x → PatEnds rest → alternatives (whole_ways room below) (pat_spell x ++ rest) ≡ Ok (x, rest)
  whole_complete (Pat-F.Name name) rest f e = refl
  whole_complete Pat-F.Any rest f e = refl
  whole_complete (Pat-F.Num true amount) rest f e = refl
  whole_complete (Pat-F.Num false amount) rest f e = refl
  whole_complete (Pat-F.Letter byte) rest f e = refl
  whole_complete (Pat-F.Truth true) rest f e = refl
  whole_complete (Pat-F.Truth false) rest f e = refl
  whole_complete (Pat-F.Con name parts) rest f e = con_complete name parts rest f.1 e
  whole_complete (Pat-F.Paren inner) rest f e = ways_complete (Pat-F.Paren inner) rest (omega arith, f.1)
  whole_complete (Pat-F.Tuple parts) rest f e = ways_complete (Pat-F.Tuple parts) rest (omega arith, f.1)
  whole_complete Pat-F.Star rest f e = absurd (omega (arith, f.0))
  whole_complete Pat-F.AnyStar rest f e = absurd (omega (arith, f.0))

  atom_now : Reads spelled_pat (PatFits (suc room) 2) Anything (made roll-Pat (alternatives (pat_ways room child)))
  atom_now = made_reads (layer) roll-Pat spelled_pat (PatFits (suc room) 2) (rolled_fit room 2) (λ x f. pat_spelled x) (λ p f. (out-Pat p, roll-out-Pat p, f)) where
    layer : Reads pat_spell (FitAt room 2) Anything (alternatives (pat_ways room child))
    layer = record { sound = ways_sound; complete = λ x rest f e. ways_complete x rest f; local = alternatives_local (pat_ways room child) ways_local }

  whole_now : Reads spelled_pat (PatFits (suc room) 1) PatEnds (made roll-Pat (alternatives (whole_ways room below)))
  whole_now = made_reads (layer) roll-Pat spelled_pat (PatFits (suc room) 1) (rolled_fit room 1) (λ x f. pat_spelled x) (λ p f. (out-Pat p, roll-out-Pat p, f)) where
    layer : Reads pat_spell (FitAt room 1) PatEnds (alternatives (whole_ways room below))
    layer = record { sound = whole_sound; complete = whole_complete; local = alternatives_local (whole_ways room below) (local_made con_of _ con_reads.local, ways_local) }

nothing : (level : ℕ) (Ends : List Kind → Type 0) → Reads spelled_pat (PatFits 0 level) Ends stop
nothing level Ends = record { sound = λ ks x e. (cc); complete = λ p rest f e. absurd f; local = local_stop }

pub record PatsRead (room : ℕ) : Type 0 where
  pub whole : Reads spelled_pat (PatFits room 1) PatEnds (patterns room).whole
  pub atom : Reads spelled_pat (PatFits room 2) Anything (patterns room).atom

pub patterns_read : (room : ℕ) → PatsRead room
unfolding patterns
patterns_read zero = record { whole = nothing 1 PatEnds; atom = none_read spelled_pat (PatFits 0 2) Anything starts_pat (λ p f. f) }
patterns_read (suc room) = let below = patterns_read room in record {
  whole = whole_now room (patterns room).whole (patterns room).atom below.whole below.atom;
  atom = atom_now room (patterns room).whole (patterns room).atom below.whole below.atom;
}

-- at an input of a box
module _ (room : ℕ) where
  abbrev whole : Reader Pat
  whole = (patterns (suc room)).whole

  abbrev inputs : Reader Pat
  inputs = alternatives (input_ways (patterns (suc room)))

  wholes : Reads spelled_pat (PatFits (suc room) 1) PatEnds whole
  wholes = (patterns_read (suc room)).whole

  input_sound : Sound spelled_pat (PatFits (suc room) 0) inputs
  input_sound = alternatives_sound spelled_pat (PatFits (suc room) 0) (input_ways (patterns (suc room))) (
    leaf_sound spelled_pat (PatFits (suc room) 0) (Sign symbol.Star) (roll-Pat Pat-F.Star) tt (pat_spelled Pat-F.Star) (rolled_fit room 0 Pat-F.Star (omega arith, tt)),
    (
      leaf_sound spelled_pat (PatFits (suc room) 0) (Sign symbol.UnderscoreStar) (roll-Pat Pat-F.AnyStar) tt (pat_spelled Pat-F.AnyStar) (rolled_fit room 0 Pat-F.AnyStar (omega arith, tt)),
      (
        λ ks x e. (let s = wholes.sound ks x e in ((omega arith, s.0.1), s.1)),
        tt,
      ),
    ),
  )

  plain : (x : Pat-F Pat) (rest : List Kind) → 1 ≤ pat_level x → PatParts (PatFits room) x → PatEnds rest → whole (pat_spell x ++ rest) ≡ Ok (roll-Pat x, rest)
  plain x rest h f e = ap (λ m. whole (m ++ rest)) (sym (pat_spelled x)) ∙ wholes.complete (roll-Pat x) rest (rolled_fit room 1 x (h, f)) e

  input_by : (x : Pat-F Pat) (rest : List Kind) → PatParts (PatFits room) x → PatEnds rest → inputs (pat_spell x ++ rest) ≡ Ok (roll-Pat x, rest)
  input_by (Pat-F.Name name) rest f e = plain (Pat-F.Name name) rest (omega arith) f e
  input_by Pat-F.Any rest f e = plain Pat-F.Any rest (omega arith) f e
  input_by (Pat-F.Num true amount) rest f e = plain (Pat-F.Num true amount) rest (omega arith) f e
  input_by (Pat-F.Num false amount) rest f e = plain (Pat-F.Num false amount) rest (omega arith) f e
  input_by (Pat-F.Letter byte) rest f e = plain (Pat-F.Letter byte) rest (omega arith) f e
  input_by (Pat-F.Truth true) rest f e = plain (Pat-F.Truth true) rest (omega arith) f e
  input_by (Pat-F.Truth false) rest f e = plain (Pat-F.Truth false) rest (omega arith) f e
  input_by (Pat-F.Con name []) rest f e = plain (Pat-F.Con name []) rest (omega arith) f e
  input_by (Pat-F.Con name (first ∷ parts)) rest f e = plain (Pat-F.Con name (first ∷ parts)) rest (omega arith) f e
  input_by (Pat-F.Paren inner) rest f e = plain (Pat-F.Paren inner) rest (omega arith) f e
  input_by (Pat-F.Tuple parts) rest f e = plain (Pat-F.Tuple parts) rest (omega arith) f e
  input_by Pat-F.Star rest f e = refl
  input_by Pat-F.AnyStar rest f e = refl

  input_complete : (p : Pat) (rest : List Kind) → PatFits (suc room) 0 p → PatEnds rest → inputs (spelled_pat p ++ rest) ≡ Ok (p, rest)
  input_complete p rest f e =
      ap (λ q. inputs (spelled_pat q ++ rest)) (sym (roll-out-Pat p))
      ∙ ap (λ m. inputs (m ++ rest)) (pat_spelled (out-Pat p))
      ∙ input_by (out-Pat p) rest f.1 e
      ∙ ap (λ q. Ok (q, rest)) (roll-out-Pat p)

  input_now : Reads spelled_pat (PatFits (suc room) 0) PatEnds inputs
  input_now = record {
    sound = input_sound;
    complete = input_complete;
    local = alternatives_local (input_ways (patterns (suc room))) (
      leaf_local (Sign symbol.Star) (roll-Pat Pat-F.Star),
      (
        leaf_local (Sign symbol.UnderscoreStar) (roll-Pat Pat-F.AnyStar),
        (
          wholes.local,
          tt,
        ),
      ),
    );
  }

pub inputs_read : (room : ℕ) → Reads spelled_pat (PatFits room 0) PatEnds (input_pattern room)
inputs_read zero = record { sound = λ ks x e. (cc); complete = λ p rest f e. absurd f; local = local_too_deep }
inputs_read (suc room) = input_now room

pub atoms_shrink : (room : ℕ) (ks : List Kind) (x : Pat × List Kind) → (patterns room).atom ks ≡ Ok x → length x.1 < length ks
atoms_shrink room = shrinks (patterns_read room).atom starts_pat (λ p rest f. first_pat room p rest f) (λ p rest f. tt)
