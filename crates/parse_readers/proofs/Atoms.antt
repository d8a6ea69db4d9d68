-- Atoms, and names with their arguments.
use Rattle.std.proofs.Common.{◌≡◌, ℕ, zero, suc, ◌<◌, ◌≤◌, List, [], ◌∷◌, ◌++◌, map, length, Bool, true, false, refl, sym, ap, ◌∙◌, subst, arith, append_assoc}
use Rattle.std.specs.Prelude.{Ok, Err, Option, Some, None}
use Rattle.std.specs.List.{flat_map}
use Rattle.hume_base.specs.declared.keyword.Keyword.TheVariants as word
use Rattle.hume_base.specs.declared.symbol.Symbol.TheVariants as symbol
use Rattle.hume_base.specs.declared.token.Kind.{Kind}
use Rattle.hume_base.specs.declared.token.Kind.TheVariants.{Lower, Upper, Number, Letter, Word, Sign}
use Rattle.hume_ast.specs.declared.tree.TyExp.{TyExp}
use Rattle.hume_ast.specs.declared.tree.Exp.{Exp}
use Rattle.hume_ast.specs.declared.tree.Exp.TheOpen.{Exp-F}
use Rattle.hume_ast.specs.Spelling.{spelled_exp, spelled_ty, separated}
use Rattle.hume_ast.specs.Fits.{Each, OneOrMore, ExpFits, TypeFits, exp_level}
use Rattle.parse_readers.specs.inner.Readers.{Reader, led, both, closed, many, listed, alternatives, pick, next, is_sign, lower_name, upper_name}
use Rattle.parse_readers.specs.inner.Expressions.{exp_leaf, starts_atom, Tail, cast_tail, parts_tail, exp_in_parens, tail_ways, parens_exp, vect_exp, atom_ways, app_of, con_exp_of, app_exp, con_exp, update_of, update_exp, app_ways}
use Rattle.parse_readers.proofs.Local.{Local, local_made, local_opens, local_pick}
use Rattle.parse_readers.proofs.TokensApart.{some_same}
use Rattle.parse_readers.proofs.TypesRead.{upper_reads, lower_reads}
use Rattle.parse_readers.proofs.Forms.{Reads, Anything, Sound, led_reads, closed_reads, both_reads, many_reads, listed_reads, made_sound, made_complete, opens_sound, opened, leaf_sound, leaf_local, ending, enclosed, beside_map, alternatives_sound, alternatives_local, choice_sound}
use Rattle.parse_readers.proofs.Levels.{LayerFit, exp_spell, EndsAt, all_stop, no_atom_next, opens_at, atom_next, op_low}

pub has_room : (bound room level : ℕ) (e : Exp) → ExpFits bound room level e → 0 < room
has_room bound zero level e f = absurd f
has_room bound (suc room) level e f = omega arith

leaf_says : (bound room : ℕ) (k : Kind) (x : Exp-F Exp) → exp_leaf k ≡ Some x → LayerFit bound room 10 x × (exp_spell x ≡ k ∷ [])
leaf_says bound room (Lower name) x e = subst (λ y. LayerFit bound room 10 y × (exp_spell y ≡ Lower name ∷ [])) (some_same (Exp-F.App name []) x e) ((omega arith, tt), refl)
leaf_says bound room (Upper name) x e = subst (λ y. LayerFit bound room 10 y × (exp_spell y ≡ Upper name ∷ [])) (some_same (Exp-F.Con name []) x e) ((omega arith, tt), refl)
leaf_says bound room (Number amount) x e = subst (λ y. LayerFit bound room 10 y × (exp_spell y ≡ Number amount ∷ [])) (some_same (Exp-F.Num false amount) x e) ((omega arith, tt), refl)
leaf_says bound room (Letter byte) x e = subst (λ y. LayerFit bound room 10 y × (exp_spell y ≡ Letter byte ∷ [])) (some_same (Exp-F.Letter byte) x e) ((omega arith, tt), refl)
leaf_says bound room _ x e = cc

module _ (bound room : ℕ) (type : Reader TyExp) (child atom : Reader Exp) (types : Reads spelled_ty (TypeFits bound) Anything type) (reads : Reads spelled_exp (ExpFits bound room 1) (EndsAt 1) child) (atoms : Reads spelled_exp (ExpFits bound room 10) (EndsAt 10) atom) where
  abbrev pub others : List Exp → List Kind
  others = flat_map (λ e. Sign symbol.Comma ∷ spelled_exp e)

  pub others_read : Reads others (Each (ExpFits bound room 1)) (λ rest. (next (is_sign symbol.Comma) rest ≡ false) × EndsAt 1 rest) (many (is_sign symbol.Comma) (led (Sign symbol.Comma) child))
  others_read = many_reads (led_reads reads (Sign symbol.Comma) tt) (is_sign symbol.Comma) (λ e rest f. refl) (λ e rest f. omega arith)

  -- what stands behind the first expression in parentheses
  unfoldable pub tail_spell : Tail → List Kind
  tail_spell (Some t, es) = Word word.As ∷ (spelled_ty t ++ Sign symbol.CloseParen ∷ [])
  tail_spell (None, es) = others es ++ Sign symbol.CloseParen ∷ []

  unfoldable pub TailFit : Tail → Type 0
  TailFit (Some t, []) = TypeFits bound t
  TailFit (Some t, e ∷ es) = ⊥
  TailFit (None, es) = Each (ExpFits bound room 1) es

  cast_reads : Reads (λ t. Word word.As ∷ (spelled_ty t ++ Sign symbol.CloseParen ∷ [])) (TypeFits bound) Anything (led (Word word.As) (closed type (Sign symbol.CloseParen)))
  cast_reads = led_reads (closed_reads types (Sign symbol.CloseParen) tt (λ rest. tt)) (Word word.As) tt

  parts_read : Reads (λ es. others es ++ Sign symbol.CloseParen ∷ []) (Each (ExpFits bound room 1)) Anything (closed (many (is_sign symbol.Comma) (led (Sign symbol.Comma) child)) (Sign symbol.CloseParen))
  parts_read = closed_reads others_read (Sign symbol.CloseParen) tt (λ rest. (refl, omega arith))

  tail_complete : (t : Tail) (rest : List Kind) → TailFit t → Unit {0} → alternatives (tail_ways type child) (tail_spell t ++ rest) ≡ Ok (t, rest)
  unfolding tail_spell TailFit
  tail_complete (Some t, []) rest f e = made_complete cast_reads cast_tail t rest f tt
  tail_complete (Some t, x ∷ xs) rest f e = absurd f
  tail_complete (None, []) rest f e = made_complete parts_read parts_tail [] rest f tt
  tail_complete (None, x ∷ xs) rest f e = made_complete parts_read parts_tail (x ∷ xs) rest f tt

  pub tail_reads : Reads tail_spell TailFit Anything (alternatives (tail_ways type child))
  unfolding tail_spell TailFit
  tail_reads = record {
    sound = alternatives_sound tail_spell TailFit (tail_ways type child) (
      made_sound cast_reads cast_tail tail_spell TailFit (λ t f. f) (λ t f. refl),
      (
        made_sound parts_read parts_tail tail_spell TailFit (λ es f. f) (λ es f. refl),
        tt,
      ),
    );
    complete = tail_complete;
    local = alternatives_local (tail_ways type child) (
      local_made cast_tail _ cast_reads.local,
      (
        local_made parts_tail _ parts_read.local,
        tt,
      ),
    );
  }

  tail_stops : (t : Tail) (rest : List Kind) → TailFit t → Unit {0} → EndsAt 1 (tail_spell t ++ rest)
  unfolding tail_spell TailFit
  tail_stops (Some t, es) rest f e = omega arith
  tail_stops (None, []) rest f e = omega arith
  tail_stops (None, x ∷ xs) rest f e = omega arith

  parens_reads : Reads (λ (a : Exp × Tail). Sign symbol.OpenParen ∷ (spelled_exp a.0 ++ tail_spell a.1)) (λ (a : Exp × Tail). ExpFits bound room 1 a.0 × TailFit a.1) Anything (led (Sign symbol.OpenParen) (both child (alternatives (tail_ways type child))))
  parens_reads = led_reads (both_reads reads tail_reads tail_stops) (Sign symbol.OpenParen) tt

  pub parens_fit : (a : Exp × Tail) → ExpFits bound room 1 a.0 × TailFit a.1 → LayerFit bound room 10 (exp_in_parens a)
  unfolding TailFit
  parens_fit (e, (Some t, [])) f = (omega arith, f)
  parens_fit (e, (Some t, x ∷ xs)) f = absurd f.1
  parens_fit (e, (None, [])) f = (omega arith, f.0)
  parens_fit (e, (None, x ∷ xs)) f = (omega arith, (omega arith, f))

  pub parens_same : (a : Exp × Tail) → exp_spell (exp_in_parens a) ≡ Sign symbol.OpenParen ∷ (spelled_exp a.0 ++ tail_spell a.1)
  unfolding tail_spell
  parens_same (e, (Some t, es)) = ap (λ m. Sign symbol.OpenParen ∷ m) (append_assoc (spelled_exp e) (Word word.As ∷ spelled_ty t) (Sign symbol.CloseParen ∷ []))
  parens_same (e, (None, [])) = refl
  parens_same (e, (None, x ∷ xs)) = ap (λ m. Sign symbol.OpenParen ∷ m) (enclosed spelled_exp symbol.Comma (Sign symbol.CloseParen) e (x ∷ xs))

  vect_reads : Reads (λ es. Sign symbol.OpenAngles ∷ (separated symbol.Comma (map spelled_exp es) ++ Sign symbol.CloseAngles ∷ [])) (OneOrMore (ExpFits bound room 1)) Anything (led (Sign symbol.OpenAngles) (closed (listed symbol.Comma child) (Sign symbol.CloseAngles)))
  vect_reads = led_reads (closed_reads (listed_reads reads symbol.Comma (λ rest. omega arith)) (Sign symbol.CloseAngles) tt (λ rest. (refl, omega arith))) (Sign symbol.OpenAngles) tt

  abbrev Atomic : Exp-F Exp → Type 0
  Atomic = LayerFit bound room 10

  leaf_by : (o : Option (Exp-F Exp)) (k : Kind) (ks : List Kind) (x : Exp-F Exp × List Kind) → exp_leaf k ≡ o → pick exp_leaf (k ∷ ks) ≡ Ok x → Atomic x.0 × (k ∷ ks ≡ exp_spell x.0 ++ x.1)
  leaf_by None k ks x g e = absurd (let f : Err (false, suc (length ks)) ≡ Ok x = sym (rw g) ∙ e in cc)
  leaf_by (Some y) k ks x g e =
      let is : (y, ks) ≡ x = (let f : Ok (y, ks) ≡ Ok x = sym (rw g) ∙ e in cc) in
      let w = leaf_says bound room k y g in
      subst (λ (z : Exp-F Exp × List Kind). Atomic z.0 × (k ∷ ks ≡ exp_spell z.0 ++ z.1)) is (w.0, ap (λ m. m ++ ks) (sym w.1))

  leaf_pick : Sound exp_spell Atomic (pick exp_leaf)
  leaf_pick [] x e = cc
  leaf_pick (k ∷ ks) x e = leaf_by (exp_leaf k) k ks x refl e

  atom_sound : Sound exp_spell Atomic (alternatives (atom_ways room type child))
  atom_sound = alternatives_sound exp_spell Atomic (atom_ways room type child) (
    leaf_sound exp_spell Atomic (Word word.True) (Exp-F.Truth true) tt refl (omega arith, tt),
    (
      leaf_sound exp_spell Atomic (Word word.False) (Exp-F.Truth false) tt refl (omega arith, tt),
      (
        opens_sound exp_spell Atomic (parens_exp type child) room (made_sound parens_reads exp_in_parens exp_spell Atomic parens_fit (λ a f. parens_same a)),
        (
          opens_sound exp_spell Atomic (vect_exp child) room (made_sound vect_reads Exp-F.Vect exp_spell Atomic (λ es f. (omega arith, f)) (λ es f. refl)),
          (
            leaf_pick,
            tt,
          ),
        ),
      ),
    ),
  )

  atom_local : Each (λ (way : (Kind → Bool) × Reader (Exp-F Exp)). Local way.1) (atom_ways room type child)
  atom_local = (
    leaf_local (Word word.True) (Exp-F.Truth true),
    (
      leaf_local (Word word.False) (Exp-F.Truth false),
      (
        local_opens room (parens_exp type child) (local_made exp_in_parens _ parens_reads.local),
        (
          local_opens room (vect_exp child) (local_made Exp-F.Vect _ vect_reads.local),
          (
            local_pick exp_leaf,
            tt,
          ),
        ),
      ),
    ),
  )

  paren_complete : (a : Exp × Tail) (rest : List Kind) → ExpFits bound room 1 a.0 × TailFit a.1 → alternatives (atom_ways room type child) (exp_spell (exp_in_parens a) ++ rest) ≡ Ok (exp_in_parens a, rest)
  paren_complete a rest f = ap (λ m. alternatives (atom_ways room type child) (m ++ rest)) (parens_same a) ∙ opened room (parens_exp type child) _ (has_room bound room 1 a.0 f.0) ∙ made_complete parens_reads exp_in_parens a rest f tt

  first_room : (es : List Exp) → OneOrMore (ExpFits bound room 1) es → 0 < room
  first_room [] f = absurd (omega (arith, f.0))
  first_room (e ∷ es) f = has_room bound room 1 e f.1.0

  atom_complete : (x : Exp-F Exp) (rest : List Kind) → Atomic x → alternatives (atom_ways room type child) (exp_spell x ++ rest) ≡ Ok (x, rest)
  unfolding TailFit
  atom_complete (Exp-F.Let name value body) rest f = absurd (omega (arith, f.0))
  atom_complete (Exp-F.If test first second) rest f = absurd (omega (arith, f.0))
  atom_complete (Exp-F.Case subject alternatives) rest f = absurd (omega (arith, f.0))
  atom_complete (Exp-F.Raise name carried) rest f = absurd (omega (arith, f.0))
  atom_complete (Exp-F.Binary operator left right) rest f = absurd (omega (arith, f.0, op_low operator))
  atom_complete (Exp-F.Neg part) rest f = absurd (omega (arith, f.0))
  atom_complete (Exp-F.Not part) rest f = absurd (omega (arith, f.0))
  atom_complete (Exp-F.App name []) rest f = refl
  atom_complete (Exp-F.App name (e ∷ es)) rest f = absurd (omega (arith, f.0))
  atom_complete (Exp-F.Con name []) rest f = refl
  atom_complete (Exp-F.Con name (e ∷ es)) rest f = absurd (omega (arith, f.0))
  atom_complete (Exp-F.Update vector at item) rest f = absurd (omega (arith, f.0))
  atom_complete (Exp-F.Num true amount) rest f = absurd (omega (arith, f.0))
  atom_complete (Exp-F.Num false amount) rest f = refl
  atom_complete (Exp-F.Letter byte) rest f = refl
  atom_complete (Exp-F.Truth true) rest f = refl
  atom_complete (Exp-F.Truth false) rest f = refl
  atom_complete (Exp-F.Paren inner) rest f = paren_complete (inner, (None, [])) rest (f.1, tt)
  atom_complete (Exp-F.Tuple []) rest f = absurd (omega (arith, f.1.0))
  atom_complete (Exp-F.Tuple (d ∷ [])) rest f = absurd (omega (arith, f.1.0))
  atom_complete (Exp-F.Tuple (d ∷ e ∷ es)) rest f = paren_complete (d, (None, e ∷ es)) rest f.1.1
  atom_complete (Exp-F.Cast inner t) rest f = paren_complete (inner, (Some t, [])) rest f.1
  atom_complete (Exp-F.Vect items) rest f = opened room (vect_exp child) _ (first_room items f.1) ∙ made_complete vect_reads Exp-F.Vect items rest f.1 tt
  atom_complete Exp-F.Star rest f = absurd (omega (arith, f.0))

  pub atom_reads : Reads exp_spell (LayerFit bound room 10) (EndsAt 10) (alternatives (atom_ways room type child))
  atom_reads = record { sound = atom_sound; complete = λ x rest f s. atom_complete x rest f; local = alternatives_local (atom_ways room type child) atom_local }

  -- names with their arguments
  pub first_atom : (e : Exp) (rest : List Kind) → ExpFits bound room 10 e → next starts_atom (spelled_exp e ++ rest) ≡ true
  first_atom e rest f = atom_next (spelled_exp e) rest (opens_at bound room 10 e (omega arith) f)

  arguments_read : Reads (flat_map spelled_exp) (Each (ExpFits bound room 10)) (EndsAt 9) (many starts_atom atom)
  arguments_read = ending (many_reads atoms starts_atom first_atom (λ e rest f. all_stop (spelled_exp e ++ rest))) (EndsAt 9) (λ rest s. (no_atom_next 9 rest (omega arith) s, all_stop rest))

  app_reads : Reads (λ (a : List ℕ × List Exp). Lower a.0 ∷ flat_map spelled_exp a.1) (λ (a : List ℕ × List Exp). Unit {0} × Each (ExpFits bound room 10) a.1) (EndsAt 9) (both (pick lower_name) (many starts_atom atom))
  app_reads = both_reads lower_reads arguments_read (λ b rest f e. tt)

  con_reads : Reads (λ (a : List ℕ × List Exp). Upper a.0 ∷ flat_map spelled_exp a.1) (λ (a : List ℕ × List Exp). Unit {0} × Each (ExpFits bound room 10) a.1) (EndsAt 9) (both (pick upper_name) (many starts_atom atom))
  con_reads = both_reads upper_reads arguments_read (λ b rest f e. tt)

  update_reads : Reads (λ (a : Exp × (Exp × Exp)). Word word.Update ∷ (spelled_exp a.0 ++ (spelled_exp a.1.0 ++ spelled_exp a.1.1))) (λ (a : Exp × (Exp × Exp)). ExpFits bound room 10 a.0 × (ExpFits bound room 10 a.1.0 × ExpFits bound room 10 a.1.1)) (EndsAt 10) (led (Word word.Update) (both atom (both atom atom)))
  update_reads = led_reads (both_reads atoms (both_reads atoms atoms (λ b rest f e. all_stop (spelled_exp b ++ rest))) (λ b rest f e. all_stop ((spelled_exp b.0 ++ spelled_exp b.1) ++ rest))) (Word word.Update) tt

  abbrev Applied : Exp-F Exp → Type 0
  Applied = LayerFit bound room 9

  pub app_level : (name : List ℕ) (es : List Exp) → 9 ≤ exp_level (Exp-F.App name es)
  app_level name [] = omega arith
  app_level name (e ∷ es) = omega arith

  pub con_level : (name : List ℕ) (es : List Exp) → 9 ≤ exp_level (Exp-F.Con name es)
  con_level name [] = omega arith
  con_level name (e ∷ es) = omega arith

  higher : (ks : List Kind) (x : Exp-F Exp × List Kind) → Atomic x.0 × (ks ≡ exp_spell x.0 ++ x.1) → Applied x.0 × (ks ≡ exp_spell x.0 ++ x.1)
  higher ks x h = ((omega (arith, h.0.0), h.0.1), h.1)

  app_sound : Sound exp_spell Applied (alternatives (app_ways room type child atom))
  app_sound = choice_sound exp_spell Applied _ _ _ (made_sound app_reads app_of exp_spell Applied (λ a f. (app_level a.0 a.1, f.1)) (λ a f. ap (λ m. Lower a.0 ∷ m) (beside_map spelled_exp a.1)))
      (choice_sound exp_spell Applied _ _ _ (made_sound con_reads con_exp_of exp_spell Applied (λ a f. (con_level a.0 a.1, f.1)) (λ a f. ap (λ m. Upper a.0 ∷ m) (beside_map spelled_exp a.1)))
      (choice_sound exp_spell Applied _ _ _ (opens_sound exp_spell Applied (update_exp atom) room (made_sound update_reads update_of exp_spell Applied (λ a f. (omega arith, (f.0, f.1.0, f.1.1))) (λ a f. refl)))
      (choice_sound exp_spell Applied _ _ _ (leaf_sound exp_spell Applied (Sign symbol.Star) Exp-F.Star tt refl (omega arith, tt))
      (λ ks x e. higher ks x (atom_sound ks x e)))))

  app_complete : (x : Exp-F Exp) (rest : List Kind) → Applied x → EndsAt 9 rest → alternatives (app_ways room type child atom) (exp_spell x ++ rest) ≡ Ok (x, rest)
  app_complete (Exp-F.Let name value body) rest f s = absurd (omega (arith, f.0))
  app_complete (Exp-F.If test first second) rest f s = absurd (omega (arith, f.0))
  app_complete (Exp-F.Case subject alternatives) rest f s = absurd (omega (arith, f.0))
  app_complete (Exp-F.Raise name carried) rest f s = absurd (omega (arith, f.0))
  app_complete (Exp-F.Binary operator left right) rest f s = absurd (omega (arith, f.0, op_low operator))
  app_complete (Exp-F.Neg part) rest f s = absurd (omega (arith, f.0))
  app_complete (Exp-F.Not part) rest f s = absurd (omega (arith, f.0))
  app_complete (Exp-F.App name es) rest f s = ap (λ m. app_exp atom ((Lower name ∷ m) ++ rest)) (beside_map spelled_exp es) ∙ made_complete app_reads app_of (name, es) rest (tt, f.1) s
  app_complete (Exp-F.Con name es) rest f s = ap (λ m. con_exp atom ((Upper name ∷ m) ++ rest)) (beside_map spelled_exp es) ∙ made_complete con_reads con_exp_of (name, es) rest (tt, f.1) s
  app_complete (Exp-F.Update vector at item) rest f s = opened room (update_exp atom) _ (has_room bound room 10 vector f.1.0) ∙ made_complete update_reads update_of (vector, (at, item)) rest (f.1.0, (f.1.1, f.1.2)) (all_stop rest)
  app_complete (Exp-F.Num true amount) rest f s = absurd (omega (arith, f.0))
  app_complete (Exp-F.Num false amount) rest f s = refl
  app_complete (Exp-F.Letter byte) rest f s = refl
  app_complete (Exp-F.Truth true) rest f s = refl
  app_complete (Exp-F.Truth false) rest f s = refl
  app_complete (Exp-F.Paren inner) rest f s = atom_complete (Exp-F.Paren inner) rest (omega arith, f.1)
  app_complete (Exp-F.Tuple parts) rest f s = atom_complete (Exp-F.Tuple parts) rest (omega arith, f.1)
  app_complete (Exp-F.Cast inner t) rest f s = atom_complete (Exp-F.Cast inner t) rest (omega arith, f.1)
  app_complete (Exp-F.Vect items) rest f s = atom_complete (Exp-F.Vect items) rest (omega arith, f.1)
  app_complete Exp-F.Star rest f s = refl

  pub app_layer_reads : Reads exp_spell (LayerFit bound room 9) (EndsAt 9) (alternatives (app_ways room type child atom))
  app_layer_reads = record {
    sound = app_sound;
    complete = app_complete;
    local = alternatives_local (app_ways room type child atom) (
      local_made app_of _ app_reads.local,
      (
        local_made con_exp_of _ con_reads.local,
        (
          local_opens room (update_exp atom) (local_made update_of _ update_reads.local),
          (
            leaf_local (Sign symbol.Star) Exp-F.Star,
            atom_local,
          ),
        ),
      ),
    );
  }
