-- The types that are read.
use Rattle.std.proofs.Common.{◌≡◌, ℕ, zero, suc, ◌<◌, ◌≤◌, List, [], ◌∷◌, ◌++◌, map, length, refl, sym, ap, ◌∙◌, subst, arith}
use Rattle.std.specs.Prelude.{Ok, Some}
use Rattle.hume_base.specs.declared.keyword.Keyword.TheVariants as word
use Rattle.hume_base.specs.declared.symbol.Symbol.TheVariants as symbol
use Rattle.hume_base.specs.declared.token.Kind.{Kind}
use Rattle.hume_base.specs.declared.token.Kind.TheVariants.{Lower, Upper, Number, Quoted, Word, Sign}
use Rattle.hume_ast.specs.declared.tree.TyExp.{TyExp, roll-TyExp, out-TyExp, map-TyExp, fold-roll-TyExp, roll-out-TyExp, out-roll-TyExp}
use Rattle.hume_ast.specs.declared.tree.TyExp.TheOpen.{TyExp-F}
use Rattle.hume_ast.specs.Spelling.{spell_ty, spelled_ty, separated}
use Rattle.hume_ast.specs.Fits.{Each, TypeFits, TypeParts}
use Rattle.parse_readers.specs.inner.Readers.{Reader, led, both, closed, several, alternatives, pick, number_of, upper_name, lower_name, port_name}
use Rattle.parse_readers.specs.inner.Types.{vector_of, vector_type, tuple_type, type_ways, types}
use Rattle.parse_readers.proofs.Local.{Local, local_made, local_opens, local_stop}
use Rattle.parse_readers.proofs.TokensApart.{some_same, IsFixed}
use Rattle.parse_readers.proofs.Forms.{Reads, Anything, All, Sound, pick_reads, led_reads, closed_reads, both_reads, made_reads, made_sound, made_complete, opens_sound, opened, leaf_sound, leaf_local, several_reads, alternatives_sound, alternatives_local}

number_is : (k : Kind) (n : ℕ) → number_of k ≡ Some n → (k ≡ Number n) × Unit {0}
number_is (Number m) n e = (ap Number (some_same m n e), tt)
number_is _ n e = cc

pub number_reads : Reads (λ n. Number n ∷ []) All Anything (pick number_of)
number_reads = pick_reads number_of Number All number_is (λ n f. refl)

upper_is : (k : Kind) (x : List ℕ) → upper_name k ≡ Some x → (k ≡ Upper x) × Unit {0}
upper_is (Upper y) x e = (ap Upper (some_same y x e), tt)
upper_is _ x e = cc

pub upper_reads : Reads (λ x. Upper x ∷ []) All Anything (pick upper_name)
upper_reads = pick_reads upper_name Upper All upper_is (λ x f. refl)

lower_is : (k : Kind) (x : List ℕ) → lower_name k ≡ Some x → (k ≡ Lower x) × Unit {0}
lower_is (Lower y) x e = (ap Lower (some_same y x e), tt)
lower_is _ x e = cc

pub lower_reads : Reads (λ x. Lower x ∷ []) All Anything (pick lower_name)
lower_reads = pick_reads lower_name Lower All lower_is (λ x f. refl)

port_is : (k : Kind) (x : List ℕ) → port_name k ≡ Some x → (k ≡ Quoted x) × Unit {0}
port_is (Quoted y) x e = (ap Quoted (some_same y x e), tt)
port_is _ x e = cc

pub port_reads : Reads (λ x. Quoted x ∷ []) All Anything (pick port_name)
port_reads = pick_reads port_name Quoted All port_is (λ x f. refl)

-- a type's tokens, seen at its first level
abbrev pub ty_spell : TyExp-F TyExp → List Kind
ty_spell x = spell_ty (map-TyExp TyExp (List Kind) spelled_ty x)

module _ (room : ℕ) (child : Reader TyExp) (reads : Reads spelled_ty (TypeFits room) Anything child) where
  abbrev Parts : TyExp-F TyExp → Type 0
  Parts = TypeParts (TypeFits room)

  vector_reads : Reads (λ (a : ℕ × TyExp). Word word.Vector ∷ Number a.0 ∷ Word word.Of ∷ spelled_ty a.1) (λ (a : ℕ × TyExp). Unit {0} × TypeFits room a.1) Anything (led (Word word.Vector) (both (closed (pick number_of) (Word word.Of)) child))
  vector_reads = led_reads (both_reads (closed_reads number_reads (Word word.Of) tt (λ rest. tt)) reads (λ b rest f e. tt)) (Word word.Vector) tt

  tuple_reads : Reads (λ (ts : List TyExp). Sign symbol.OpenParen ∷ (separated symbol.Comma (map spelled_ty ts) ++ Sign symbol.CloseParen ∷ [])) (λ (ts : List TyExp). (2 ≤ length ts) × Each (TypeFits room) ts) Anything
      (led (Sign symbol.OpenParen) (closed (several symbol.Comma child) (Sign symbol.CloseParen)))
  tuple_reads = led_reads (closed_reads (several_reads reads symbol.Comma (λ rest. tt)) (Sign symbol.CloseParen) tt (λ rest. (refl, tt))) (Sign symbol.OpenParen) tt

  sized_reads : (token : Kind) → IsFixed token → Reads (λ n. token ∷ Number n ∷ []) All Anything (led token (pick number_of))
  sized_reads token h = led_reads number_reads token h

  ways_sound : Sound ty_spell Parts (alternatives (type_ways room child))
  ways_sound = alternatives_sound ty_spell Parts (type_ways room child) (
    leaf_sound ty_spell Parts (Word word.Bool) TyExp-F.Bool tt refl tt,
    (
      leaf_sound ty_spell Parts (Word word.Char) TyExp-F.Char tt refl tt,
      (
        made_sound (sized_reads (Word word.Int) tt) TyExp-F.Int ty_spell Parts (λ n f. tt) (λ n f. refl),
        (
          made_sound (sized_reads (Word word.Nat) tt) TyExp-F.Nat ty_spell Parts (λ n f. tt) (λ n f. refl),
          (
            opens_sound ty_spell Parts (vector_type child) room (made_sound vector_reads vector_of ty_spell Parts (λ a f. f.1) (λ a f. refl)),
            (
              opens_sound ty_spell Parts (tuple_type child) room (made_sound tuple_reads TyExp-F.Tuple ty_spell Parts (λ ts f. f) (λ ts f. refl)),
              (
                made_sound upper_reads TyExp-F.Named ty_spell Parts (λ x f. tt) (λ x f. refl),
                tt,
              ),
            ),
          ),
        ),
      ),
    ),
  )

  ways_local : Local (alternatives (type_ways room child))
  ways_local = alternatives_local (type_ways room child) (
    leaf_local (Word word.Bool) TyExp-F.Bool,
    (
      leaf_local (Word word.Char) TyExp-F.Char,
      (
        local_made TyExp-F.Int _ (sized_reads (Word word.Int) tt).local,
        (
          local_made TyExp-F.Nat _ (sized_reads (Word word.Nat) tt).local,
          (
            local_opens room (vector_type child) (local_made vector_of _ vector_reads.local),
            (
              local_opens room (tuple_type child) (local_made TyExp-F.Tuple _ tuple_reads.local),
              (
                local_made TyExp-F.Named _ upper_reads.local,
                tt,
              ),
            ),
          ),
        ),
      ),
    ),
  )

  some_room : (t : TyExp) → TypeFits room t → 0 < room
  some_room t f = has_room room f where
    has_room : (n : ℕ) → TypeFits n t → 0 < n
    has_room zero f = absurd f
    has_room (suc n) f = omega arith

  first_room : (ts : List TyExp) → (2 ≤ length ts) × Each (TypeFits room) ts → 0 < room
  first_room [] f = absurd (omega (arith, f.0))
  first_room (t ∷ ts) f = some_room t f.1.0

  ways_complete : (x : TyExp-F TyExp) (rest : List Kind) → Parts x → Unit {0} → alternatives (type_ways room child) (ty_spell x ++ rest) ≡ Ok (x, rest)
  ways_complete TyExp-F.Bool rest f e = refl
  ways_complete TyExp-F.Char rest f e = refl
  ways_complete (TyExp-F.Int bits) rest f e = refl
  ways_complete (TyExp-F.Nat bits) rest f e = refl
  ways_complete (TyExp-F.Vector count item) rest f e = opened room (vector_type child) _ (some_room item f) ∙ made_complete vector_reads vector_of (count, item) rest (tt, f) tt
  ways_complete (TyExp-F.Named name) rest f e = refl
  ways_complete (TyExp-F.Tuple parts) rest f e = opened room (tuple_type child) _ (first_room parts f) ∙ made_complete tuple_reads TyExp-F.Tuple parts rest f tt

  pub ways_read : Reads ty_spell Parts Anything (alternatives (type_ways room child))
  ways_read = record { sound = ways_sound; complete = ways_complete; local = ways_local }

pub types_read : (room : ℕ) → Reads spelled_ty (TypeFits room) Anything (types room)
unfolding types
types_read zero = record { sound = λ ks x e. (cc); complete = λ t rest f e. absurd f; local = local_stop }
types_read (suc room) =
    made_reads (ways_read room (types room) (types_read room)) roll-TyExp spelled_ty (TypeFits (suc room))
    (λ x f. subst (TypeParts (TypeFits room)) (sym (out-roll-TyExp x)) f)
    (λ x f. fold-roll-TyExp (List Kind) spell_ty x)
    (λ t f. (out-TyExp t, roll-out-TyExp t, f))
