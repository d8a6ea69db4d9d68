-- Where the readers of atoms, and of names with their arguments, stop, the tokens in front of the wrong one begin one.
use Rattle.std.proofs.Common.{ℕ, zero, suc, ◌<◌, ◌≤◌, List, [], ◌∷◌, ◌++◌, true, false, refl, ap, arith}
use Rattle.std.specs.Prelude.{None}
use Rattle.std.specs.List.{flat_map}
use Rattle.hume_base.specs.declared.keyword.Keyword.TheVariants as word
use Rattle.hume_base.specs.declared.symbol.Symbol.TheVariants as symbol
use Rattle.hume_base.specs.declared.token.Kind.{Kind}
use Rattle.hume_base.specs.declared.token.Kind.TheVariants.{Lower, Upper, Word, Sign}
use Rattle.hume_ast.specs.declared.tree.TyExp.{TyExp}
use Rattle.hume_ast.specs.declared.tree.Exp.{Exp, roll-Exp}
use Rattle.hume_ast.specs.declared.tree.Exp.TheOpen.{Exp-F}
use Rattle.hume_ast.specs.Spelling.{spelled_exp, spelled_ty}
use Rattle.hume_ast.specs.Fits.{Each, ExpFits, TypeFits}
use Rattle.parse_readers.specs.inner.Readers.{Reader, many, alternatives}
use Rattle.parse_readers.specs.inner.Expressions.{exp_leaf, starts_atom, Tail, cast_tail, parts_tail, exp_in_parens, tail_ways, parens_exp, vect_exp, atom_ways, app_of, con_exp_of, app_exp, con_exp, update_of, update_exp, app_ways}
use Rattle.parse_readers.proofs.Forms.{Reads, Anything, listed_reads, beside_map, shrinks}
use Rattle.parse_readers.proofs.TypesRead.{upper_reads, lower_reads}
use Rattle.parse_readers.proofs.Levels.{LayerFit, exp_spell, EndsAt, all_stop}
use Rattle.parse_readers.proofs.Chains.{rolled_fit}
use Rattle.parse_readers.proofs.Atoms.{others_read, tail_spell, TailFit, parens_fit, parens_same, first_atom, app_level, con_level}
use Rattle.parse_readers.proofs.Begins.{Begins, opens_begins, choice_begins, alternatives_begins, pick_begins, restated_begins, led_begins, made_begins, closed_begins, both_begins, many_begins, others_begin, listed_begins, leaf_begins}
use Rattle.parse_readers.proofs.TypesBegin.{some_type, some_type_fits, lower_begins, upper_begins}

-- an expression that fits at each level, wherever there is room for one
abbrev pub some_exp : Exp
some_exp = roll-Exp (Exp-F.Truth true)

pub some_exp_fits : (bound room level : ℕ) → level ≤ 10 → 0 < room → ExpFits bound room level some_exp
some_exp_fits bound zero level l h = absurd (omega (arith, h))
some_exp_fits bound (suc room) level l h = rolled_fit bound room level (Exp-F.Truth true) (l, tt)

module _ (bound room : ℕ) (type : Reader TyExp) (child atom : Reader Exp) (types : Reads spelled_ty (TypeFits bound) Anything type) (reads : Reads spelled_exp (ExpFits bound room 1) (EndsAt 1) child) (atoms : Reads spelled_exp (ExpFits bound room 10) (EndsAt 10) atom)
    (some : 0 < bound) (types_begin : Begins spelled_ty (TypeFits bound) type) (begins : Begins spelled_exp (ExpFits bound room 1) child) (atoms_begin : Begins spelled_exp (ExpFits bound room 10) atom) where
  abbrev tail_spelled : Tail → List Kind
  tail_spelled = tail_spell bound room type child atom types reads atoms

  abbrev TailFits : Tail → Type 0
  TailFits = TailFit bound room type child atom types reads atoms

  abbrev Atomic : Exp-F Exp → Type 0
  Atomic = LayerFit bound room 10

  abbrev Applied : Exp-F Exp → Type 0
  Applied = LayerFit bound room 9

  part_fits : 0 < room → ExpFits bound room 1 some_exp
  part_fits h = some_exp_fits bound room 1 (omega arith) h

  atom_fits : 0 < room → ExpFits bound room 10 some_exp
  atom_fits h = some_exp_fits bound room 10 (omega arith) h

  no_tail_fits : TailFits (None, [])
  unfolding TailFit
  no_tail_fits = tt

  tail_begins : 0 < room → Begins tail_spelled TailFits (alternatives (tail_ways type child))
  unfolding tail_spell TailFit
  tail_begins h = alternatives_begins tail_spelled TailFits (tail_ways type child) (
    made_begins (led_begins (closed_begins types types_begin (Sign symbol.CloseParen)) (Word word.As) some_type (some_type_fits bound some)) cast_tail tail_spelled TailFits (λ t f. f) (λ t f. refl),
    (
      made_begins (closed_begins (others_read bound room type child atom types reads atoms) (others_begin reads begins some_exp (part_fits h) symbol.Comma (λ rest. omega arith)) (Sign symbol.CloseParen)) parts_tail tail_spelled TailFits (λ es f. f) (λ es f. refl),
      tt,
    ),
  )

  parens_begin : 0 < room → Begins exp_spell Atomic (parens_exp type child)
  parens_begin h = made_begins
      (led_begins (both_begins reads begins (tail_begins h) (None, []) no_tail_fits) (Sign symbol.OpenParen) (some_exp, (None, [])) (part_fits h, no_tail_fits))
      exp_in_parens exp_spell Atomic (parens_fit bound room type child atom types reads atoms) (λ a f. parens_same bound room type child atom types reads atoms a)

  vect_begins : 0 < room → Begins exp_spell Atomic (vect_exp child)
  vect_begins h = made_begins
      (led_begins (closed_begins (listed_reads reads symbol.Comma (λ rest. omega arith)) (listed_begins reads begins some_exp (part_fits h) symbol.Comma (λ rest. omega arith)) (Sign symbol.CloseAngles)) (Sign symbol.OpenAngles) (some_exp ∷ []) (omega arith, (part_fits h, tt)))
      Exp-F.Vect exp_spell Atomic (λ es f. (omega arith, f)) (λ es f. refl)

  pub atom_begins : Begins exp_spell (LayerFit bound room 10) (alternatives (atom_ways room type child))
  atom_begins = alternatives_begins exp_spell Atomic (atom_ways room type child) (
    leaf_begins exp_spell Atomic (Word word.True) (Exp-F.Truth true),
    (
      leaf_begins exp_spell Atomic (Word word.False) (Exp-F.Truth false),
      (
        opens_begins exp_spell Atomic (parens_exp type child) room parens_begin,
        (
          opens_begins exp_spell Atomic (vect_exp child) room vect_begins,
          (
            pick_begins exp_spell Atomic exp_leaf,
            tt,
          ),
        ),
      ),
    ),
  )

  arguments_begin : Begins (flat_map spelled_exp) (Each (ExpFits bound room 10)) (many starts_atom atom)
  arguments_begin = many_begins atoms atoms_begin starts_atom (shrinks atoms starts_atom (first_atom bound room type child atom types reads atoms) (λ e rest f. all_stop (spelled_exp e ++ rest)))

  app_begins : Begins exp_spell Applied (app_exp atom)
  app_begins = made_begins (both_begins lower_reads lower_begins arguments_begin [] tt) app_of exp_spell Applied (λ a f. (app_level bound room type child atom types reads atoms a.0 a.1, f.1)) (λ a f. ap (λ m. Lower a.0 ∷ m) (beside_map spelled_exp a.1))

  con_begins : Begins exp_spell Applied (con_exp atom)
  con_begins = made_begins (both_begins upper_reads upper_begins arguments_begin [] tt) con_exp_of exp_spell Applied (λ a f. (con_level bound room type child atom types reads atoms a.0 a.1, f.1)) (λ a f. ap (λ m. Upper a.0 ∷ m) (beside_map spelled_exp a.1))

  update_begins : 0 < room → Begins exp_spell Applied (update_exp atom)
  update_begins h =
      let fits = atom_fits h in
      made_begins
      (led_begins (both_begins atoms atoms_begin (both_begins atoms atoms_begin atoms_begin some_exp fits) (some_exp, some_exp) (fits, fits)) (Word word.Update) (some_exp, (some_exp, some_exp)) (fits, (fits, fits)))
      update_of exp_spell Applied (λ a f. (omega arith, (f.0, f.1.0, f.1.1))) (λ a f. refl)

  pub app_layer_begins : Begins exp_spell (LayerFit bound room 9) (alternatives (app_ways room type child atom))
  app_layer_begins = choice_begins exp_spell Applied _ _ _ app_begins
      (choice_begins exp_spell Applied _ _ _ con_begins
      (choice_begins exp_spell Applied _ _ _ (opens_begins exp_spell Applied (update_exp atom) room update_begins)
      (choice_begins exp_spell Applied _ _ _ (leaf_begins exp_spell Applied (Sign symbol.Star) Exp-F.Star)
      (restated_begins atom_begins exp_spell Applied (λ x f. ((omega (arith, f.0), f.1), refl))))))
