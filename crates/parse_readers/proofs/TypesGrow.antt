-- Types with more room.
use Rattle.std.proofs.Common.{ℕ, zero, suc, ◌<◌, arith}
use Rattle.hume_base.specs.declared.keyword.Keyword.TheVariants as word
use Rattle.hume_base.specs.declared.symbol.Symbol.TheVariants as symbol
use Rattle.hume_base.specs.declared.token.Kind.TheVariants.{Word, Sign}
use Rattle.hume_ast.specs.declared.tree.TyExp.{TyExp, roll-TyExp}
use Rattle.hume_ast.specs.declared.tree.TyExp.TheOpen.{TyExp-F}
use Rattle.parse_readers.specs.inner.Readers.{Reader, closed, both, alternatives, pick, several, is_sign, is_word, any_token, number_of, upper_name}
use Rattle.parse_readers.specs.inner.Types.{vector_of, type_ways, types}
use Rattle.parse_readers.proofs.Local.{Local, local_closed, local_both, local_pick}
use Rattle.parse_readers.proofs.TypesRead.{types_read}
use Rattle.parse_readers.proofs.Grows.{Grows, grows_stop, grows_pick, grows_choice, grows_led, grows_way, grows_closed, grows_made, grows_both, grows_opened, grows_leaf, several_local, several_grow}

module _ (r s : ℕ) (p q : Reader TyExp) (more : r < s) (h : 0 < r → Grows p q) (lp : Local p) (lq : Local q) where
  ways_grow : Grows (alternatives (type_ways r p)) (alternatives (type_ways s q))
  ways_grow =
      let of_word = closed (pick number_of) (Word word.Of) in
      grows_choice (is_word word.Bool) _ _ _ _ (grows_leaf (Word word.Bool) TyExp-F.Bool)
      (grows_choice (is_word word.Char) _ _ _ _ (grows_leaf (Word word.Char) TyExp-F.Char)
      (grows_choice (is_word word.Int) _ _ _ _ (grows_made TyExp-F.Int _ _ (grows_led (Word word.Int) (pick number_of) (pick number_of) (grows_pick number_of)))
      (grows_choice (is_word word.Nat) _ _ _ _ (grows_made TyExp-F.Nat _ _ (grows_led (Word word.Nat) (pick number_of) (pick number_of) (grows_pick number_of)))
      (grows_way (is_word word.Vector) _ _ _ _ (grows_opened vector_of (Word word.Vector) (both of_word p) (both of_word q) (local_both of_word q (local_closed (pick number_of) (Word word.Of) (local_pick number_of)) lq) r s more
      (λ z. grows_both of_word of_word p q (grows_closed (Word word.Of) (pick number_of) (pick number_of) (grows_pick number_of)) (h z) lq))
      (grows_way (is_sign symbol.OpenParen) _ _ _ _ (grows_opened TyExp-F.Tuple (Sign symbol.OpenParen) (closed (several symbol.Comma p) (Sign symbol.CloseParen)) (closed (several symbol.Comma q) (Sign symbol.CloseParen)) (local_closed (several symbol.Comma q) (Sign symbol.CloseParen) (several_local symbol.Comma q lq)) r s more
      (λ z. grows_closed (Sign symbol.CloseParen) (several symbol.Comma p) (several symbol.Comma q) (several_grow symbol.Comma q lq p lp (h z))))
      (grows_choice any_token _ _ _ _ (grows_made TyExp-F.Named (pick upper_name) (pick upper_name) (grows_pick upper_name)) grows_stop))))))

pub types_grow : (r s : ℕ) → 0 < r → r < s → Grows (types r) (types s)
unfolding types
types_grow zero s z l = absurd (omega (arith, z))
types_grow (suc r) zero z l = absurd (omega (arith, l))
types_grow (suc r) (suc s) z l = grows_made roll-TyExp (alternatives (type_ways r (types r))) (alternatives (type_ways s (types s)))
    (ways_grow r s (types r) (types s) (omega (arith, l)) (λ some. types_grow r s some (omega (arith, l))) (types_read r).local (types_read s).local)
