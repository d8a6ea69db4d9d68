-- Where the reader of types stops, the tokens in front of the wrong one begin a type.
use Rattle.std.proofs.Common.{ℕ, zero, suc, ◌<◌, ◌≤◌, List, [], ◌∷◌, ◌++◌, map, length, refl, sym, subst, arith}
use Rattle.hume_base.specs.declared.keyword.Keyword.TheVariants as word
use Rattle.hume_base.specs.declared.symbol.Symbol.TheVariants as symbol
use Rattle.hume_base.specs.declared.token.Kind.{Kind}
use Rattle.hume_base.specs.declared.token.Kind.TheVariants.{Word, Sign, Number, Upper, Lower}
use Rattle.hume_ast.specs.Fits.{Each, TypeFits, TypeParts}
use Rattle.hume_ast.specs.Spelling.{separated, spelled_ty, spell_ty}
use Rattle.hume_ast.specs.declared.tree.TyExp.{TyExp, roll-TyExp, out-roll-TyExp, fold-roll-TyExp}
use Rattle.hume_ast.specs.declared.tree.TyExp.TheOpen.{TyExp-F}
use Rattle.parse_readers.specs.inner.Readers.{Reader, closed, alternatives, pick, several, number_of, upper_name, lower_name}
use Rattle.parse_readers.specs.inner.Types.{vector_of, vector_type, tuple_type, type_ways, types}
use Rattle.parse_readers.proofs.Forms.{Reads, All, Anything, closed_reads, several_reads}
use Rattle.parse_readers.proofs.TypesRead.{number_reads, ty_spell, types_read}
use Rattle.parse_readers.proofs.Begins.{Begins, stop_begins, opens_begins, alternatives_begins, pick_begins, led_begins, made_begins, closed_begins, both_begins, several_begins, leaf_begins}

pub number_begins : Begins (λ n. Number n ∷ []) All (pick number_of)
number_begins = pick_begins (λ n. Number n ∷ []) All number_of

pub upper_begins : Begins (λ x. Upper x ∷ []) All (pick upper_name)
upper_begins = pick_begins (λ x. Upper x ∷ []) All upper_name

pub lower_begins : Begins (λ x. Lower x ∷ []) All (pick lower_name)
lower_begins = pick_begins (λ x. Lower x ∷ []) All lower_name

-- a type that fits wherever there is room for one
abbrev pub some_type : TyExp
some_type = roll-TyExp TyExp-F.Bool

pub some_type_fits : (room : ℕ) → 0 < room → TypeFits room some_type
some_type_fits zero h = absurd (omega (arith, h))
some_type_fits (suc room) h = subst (TypeParts (TypeFits room)) (sym (out-roll-TyExp TyExp-F.Bool)) tt

module _ (room : ℕ) (child : Reader TyExp) (reads : Reads spelled_ty (TypeFits room) Anything child) (begins : Begins spelled_ty (TypeFits room) child) where
  abbrev Parts : TyExp-F TyExp → Type 0
  Parts = TypeParts (TypeFits room)

  vector_begins : 0 < room → Begins ty_spell Parts (vector_type child)
  vector_begins h = made_begins
      (led_begins (both_begins (closed_reads number_reads (Word word.Of) tt (λ rest. tt)) (closed_begins number_reads number_begins (Word word.Of)) begins some_type (some_type_fits room h)) (Word word.Vector) (0, some_type) (tt, some_type_fits room h))
      vector_of ty_spell Parts (λ a f. f.1) (λ a f. refl)

  tuple_begins : 0 < room → Begins ty_spell Parts (tuple_type child)
  tuple_begins h =
      made_begins
      (led_begins (closed_by_several h) (Sign symbol.OpenParen) (some_type ∷ some_type ∷ []) (omega arith, (some_type_fits room h, (some_type_fits room h, tt))))
      TyExp-F.Tuple ty_spell Parts (λ ts f. f) (λ ts f. refl) where
        closed_by_several : 0 < room → Begins (λ (ts : List TyExp). separated symbol.Comma (map spelled_ty ts) ++ Sign symbol.CloseParen ∷ []) (λ (ts : List TyExp). (2 ≤ length ts) × Each (TypeFits room) ts) (closed (several symbol.Comma child) (Sign symbol.CloseParen))
        closed_by_several h = closed_begins (several_reads reads symbol.Comma (λ rest. tt)) (several_begins reads begins some_type (some_type_fits room h) symbol.Comma (λ rest. tt)) (Sign symbol.CloseParen)

  ways_begin : Begins ty_spell Parts (alternatives (type_ways room child))
  ways_begin = alternatives_begins ty_spell Parts (type_ways room child) (
    leaf_begins ty_spell Parts (Word word.Bool) TyExp-F.Bool,
    (
      leaf_begins ty_spell Parts (Word word.Char) TyExp-F.Char,
      (
        made_begins (led_begins number_begins (Word word.Int) 0 tt) TyExp-F.Int ty_spell Parts (λ n f. tt) (λ n f. refl),
        (
          made_begins (led_begins number_begins (Word word.Nat) 0 tt) TyExp-F.Nat ty_spell Parts (λ n f. tt) (λ n f. refl),
          (
            opens_begins ty_spell Parts (vector_type child) room vector_begins,
            (
              opens_begins ty_spell Parts (tuple_type child) room tuple_begins,
              (
                made_begins upper_begins TyExp-F.Named ty_spell Parts (λ x f. tt) (λ x f. refl),
                tt,
              ),
            ),
          ),
        ),
      ),
    ),
  )

pub types_begin : (room : ℕ) → Begins spelled_ty (TypeFits room) (types room)
unfolding types
types_begin zero = stop_begins spelled_ty (TypeFits zero)
types_begin (suc room) =
    made_begins (ways_begin room (types room) (types_read room) (types_begin room)) roll-TyExp spelled_ty (TypeFits (suc room))
    (λ x f. subst (TypeParts (TypeFits room)) (sym (out-roll-TyExp x)) f)
    (λ x f. fold-roll-TyExp (List Kind) spell_ty x)
