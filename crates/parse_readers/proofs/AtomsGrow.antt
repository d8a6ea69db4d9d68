-- Atoms, and names with their arguments, with more room.
use Rattle.std.proofs.Common.{ℕ, suc, ◌<◌, List, [], ◌∷◌, length, true, false, refl, arith}
use Rattle.std.specs.Prelude.{Result, Ok}
use Rattle.hume_base.specs.declared.keyword.Keyword.TheVariants as word
use Rattle.hume_base.specs.declared.symbol.Symbol.TheVariants as symbol
use Rattle.hume_base.specs.declared.token.Kind.{Kind}
use Rattle.hume_base.specs.declared.token.Kind.TheVariants.{Lower, Upper, Number, Letter, Quoted, Word, Sign}
use Rattle.hume_ast.specs.declared.tree.TyExp.{TyExp}
use Rattle.hume_ast.specs.declared.tree.Exp.{Exp, roll-Exp}
use Rattle.hume_ast.specs.declared.tree.Exp.TheOpen.{Exp-F}
use Rattle.hume_ast.specs.Spelling.{spelled_exp, spelled_ty}
use Rattle.hume_ast.specs.Fits.{ExpFits, TypeFits}
use Rattle.parse_readers.specs.inner.Readers.{Wrong, Reader, ◌>>=◌, stop, too_deep, closed, give, both, made, choice, alternatives, any_token, pick, many, listed, is_sign, is_word, lower_name, upper_name}
use Rattle.parse_readers.specs.inner.Patterns.{is_upper}
use Rattle.parse_readers.specs.inner.Expressions.{exp_leaf, starts_atom, is_lower, Tail, cast_tail, parts_tail, exp_in_parens, tail_ways, atom_ways, app_of, con_exp_of, update_of, app_ways}
use Rattle.parse_readers.proofs.Local.{Local, local_closed, local_both, local_made, local_give, local_many}
use Rattle.parse_readers.proofs.Forms.{Reads, Anything}
use Rattle.parse_readers.proofs.Levels.{EndsAt}
use Rattle.parse_readers.proofs.Atoms.{tail_reads}
use Rattle.parse_readers.proofs.ExpressionsRead.{level_shrinks}
use Rattle.parse_readers.proofs.Grows.{Same, Past, Grows, within, past_bind, grows_stop, grows_pick, grows_choice, grows_leaf, grows_way, grows_led, grows_closed, grows_made, grows_both, led_past, grows_opened, grows_many, others_grow, listed_local, listed_grow}

abbrev inside : Reader TyExp → Reader Exp → Reader (Exp × Tail)
inside type child = both child (alternatives (tail_ways type child))

abbrev items : Reader Exp → Reader (List Exp)
items child = closed (listed symbol.Comma child) (Sign symbol.CloseAngles)

abbrev three : Reader Exp → Reader (Exp × (Exp × Exp))
three atom = both atom (both atom atom)

module _ (b2 s : ℕ) (type2 : Reader TyExp) (child2 atom2 : Reader Exp) (types2 : Reads spelled_ty (TypeFits b2) Anything type2) (reads2 : Reads spelled_exp (ExpFits b2 s 1) (EndsAt 1) child2) (atoms2 : Reads spelled_exp (ExpFits b2 s 10) (EndsAt 10) atom2) where
  tail_local : Local (alternatives (tail_ways type2 child2))
  tail_local = (tail_reads b2 s type2 child2 atom2 types2 reads2 atoms2).local

  inside_local : Local (inside type2 child2)
  inside_local = local_both child2 (alternatives (tail_ways type2 child2)) reads2.local tail_local

  items_local : Local (items child2)
  items_local = local_closed (listed symbol.Comma child2) (Sign symbol.CloseAngles) (listed_local symbol.Comma child2 reads2.local)

  two_local : Local (both atom2 atom2)
  two_local = local_both atom2 atom2 atoms2.local atoms2.local

  three_local : Local (three atom2)
  three_local = local_both atom2 (both atom2 atom2) atoms2.local two_local

  arguments_local : Local (many starts_atom atom2)
  arguments_local = local_many starts_atom atom2 (level_shrinks b2 s 10 atom2 (omega arith) atoms2) atoms2.local

  -- where there is room for what is in an atom, what it begins with is passed
  module _ (room : ℕ) where
    abbrev pub atom_layer2 : Reader (Exp-F Exp)
    atom_layer2 = alternatives (atom_ways (suc room) type2 child2)

    abbrev pub app_layer2 : Reader (Exp-F Exp)
    app_layer2 = alternatives (app_ways (suc room) type2 child2 atom2)

    pub parens_past : (ks : List Kind) → Past (suc (length ks)) (atom_layer2 (Sign symbol.OpenParen ∷ ks))
    parens_past ks = led_past exp_in_parens (Sign symbol.OpenParen) (inside type2 child2) (inside type2 child2) inside_local (Sign symbol.OpenParen ∷ ks) refl

    pub vect_past : (ks : List Kind) → Past (suc (length ks)) (atom_layer2 (Sign symbol.OpenAngles ∷ ks))
    vect_past ks = led_past Exp-F.Vect (Sign symbol.OpenAngles) (items child2) (items child2) items_local (Sign symbol.OpenAngles ∷ ks) refl

    rolled_past : (n : ℕ) (r : Result (Exp-F Exp × List Kind) Wrong) → Past n r → Past n (r >>= λ a. Ok (roll-Exp a.0, a.1))
    rolled_past n r h = past_bind (λ a l. Ok (roll-Exp a, l)) (λ a. local_give (roll-Exp a)) n r h

    first_past : (k : Kind) (ks : List Kind) → Same (choice starts_atom too_deep stop (k ∷ ks)) (made roll-Exp atom_layer2 (k ∷ ks))
    first_past (Lower name) ks = omega arith
    first_past (Upper name) ks = omega arith
    first_past (Number n) ks = omega arith
    first_past (Letter n) ks = omega arith
    first_past (Quoted n) ks = refl
    first_past (Word word.True) ks = omega arith
    first_past (Word word.False) ks = omega arith
    first_past (Sign symbol.OpenParen) ks = rolled_past (suc (length ks)) _ (parens_past ks)
    first_past (Sign symbol.OpenAngles) ks = rolled_past (suc (length ks)) _ (vect_past ks)
    first_past _ ks = refl

    -- where there was no room at all
    pub no_atom_grows : Grows (choice starts_atom too_deep stop) (made roll-Exp atom_layer2)
    no_atom_grows [] = refl
    no_atom_grows (k ∷ ks) = first_past k ks

    pub lower_past : (name : List ℕ) (ks : List Kind) → Past (suc (length ks)) (app_layer2 (Lower name ∷ ks))
    lower_past name ks = within (made app_of (both (give name) (many starts_atom atom2))) (local_made app_of (both (give name) (many starts_atom atom2)) (local_both (give name) (many starts_atom atom2) (local_give name) arguments_local)) ks

    pub upper_past : (name : List ℕ) (ks : List Kind) → Past (suc (length ks)) (app_layer2 (Upper name ∷ ks))
    upper_past name ks = within (made con_exp_of (both (give name) (many starts_atom atom2))) (local_made con_exp_of (both (give name) (many starts_atom atom2)) (local_both (give name) (many starts_atom atom2) (local_give name) arguments_local)) ks

    pub update_past : (ks : List Kind) → Past (suc (length ks)) (app_layer2 (Word word.Update ∷ ks))
    update_past ks = led_past update_of (Word word.Update) (three atom2) (three atom2) three_local (Word word.Update ∷ ks) refl

  module _ (b r : ℕ) (type : Reader TyExp) (child atom : Reader Exp) (reads : Reads spelled_exp (ExpFits b r 1) (EndsAt 1) child) (atoms : Reads spelled_exp (ExpFits b r 10) (EndsAt 10) atom) (more : r < s) (ht : Grows type type2) (h : 0 < r → Grows child child2) (ha : Grows atom atom2) where
    tail_grows : 0 < r → Grows (alternatives (tail_ways type child)) (alternatives (tail_ways type2 child2))
    tail_grows z =
        grows_choice (is_word word.As) _ _ _ _ (grows_made cast_tail _ _ (grows_led (Word word.As) _ _ (grows_closed (Sign symbol.CloseParen) type type2 ht)))
        (grows_choice any_token _ _ _ _ (grows_made parts_tail _ _ (grows_closed (Sign symbol.CloseParen) _ _ (others_grow symbol.Comma child2 reads2.local child reads.local (h z)))) grows_stop)

    pub atom_ways_grow : Grows (alternatives (atom_ways r type child)) (alternatives (atom_ways s type2 child2))
    atom_ways_grow =
        grows_choice (is_word word.True) _ _ _ _ (grows_leaf (Word word.True) (Exp-F.Truth true))
        (grows_choice (is_word word.False) _ _ _ _ (grows_leaf (Word word.False) (Exp-F.Truth false))
        (grows_way (is_sign symbol.OpenParen) _ _ _ _ (grows_opened exp_in_parens (Sign symbol.OpenParen) (inside type child) (inside type2 child2) inside_local r s more (λ z. grows_both child child2 _ _ (h z) (tail_grows z) tail_local))
        (grows_way (is_sign symbol.OpenAngles) _ _ _ _ (grows_opened Exp-F.Vect (Sign symbol.OpenAngles) (items child) (items child2) items_local r s more (λ z. grows_closed (Sign symbol.CloseAngles) _ _ (listed_grow symbol.Comma child2 reads2.local child reads.local (h z))))
        (grows_choice any_token _ _ _ _ (grows_pick exp_leaf) grows_stop))))

    arguments_grow : Grows (many starts_atom atom) (many starts_atom atom2)
    arguments_grow = grows_many starts_atom atom atom2 atoms2.local ha (level_shrinks b r 10 atom (omega arith) atoms) (level_shrinks b2 s 10 atom2 (omega arith) atoms2)

    pub app_ways_grow : Grows (alternatives (app_ways r type child atom)) (alternatives (app_ways s type2 child2 atom2))
    app_ways_grow =
        grows_choice is_lower _ _ _ _ (grows_made app_of _ _ (grows_both (pick lower_name) (pick lower_name) _ _ (grows_pick lower_name) arguments_grow arguments_local))
        (grows_choice is_upper _ _ _ _ (grows_made con_exp_of _ _ (grows_both (pick upper_name) (pick upper_name) _ _ (grows_pick upper_name) arguments_grow arguments_local))
        (grows_way (is_word word.Update) _ _ _ _ (grows_opened update_of (Word word.Update) (three atom) (three atom2) three_local r s more (λ z. grows_both atom atom2 _ _ ha (grows_both atom atom2 atom atom2 ha ha atoms2.local) two_local))
        (grows_choice (is_sign symbol.Star) _ _ _ _ (grows_leaf (Sign symbol.Star) Exp-F.Star)
        atom_ways_grow)))
