-- Reading boxes, step by step, as the code goes.
use Rattle.std.proofs.Common.{◌≡◌, List, [], ◌∷◌, true, false, refl}
use Rattle.hume_base.specs.declared.limits.TheConstants.{MAX_DEPTH}
use Rattle.std.specs.Prelude.{Ok}
use Rattle.hume_base.specs.declared.keyword.Keyword.TheVariants as word
use Rattle.hume_base.specs.declared.symbol.Symbol.TheVariants as symbol
use Rattle.hume_base.specs.declared.token.Kind.{Kind}
use Rattle.hume_base.specs.declared.token.Kind.TheVariants.{Word}
use Rattle.hume_ast.specs.declared.tree.Pat.TheVariants.{rolls-Name, rolls-Any}
use Rattle.parse_readers.specs.inner.Readers.{◌>>=◌, next, behind, is_word, after, listed}
use Rattle.parse_readers.specs.inner.Declarations.{order, handlers, handler}

pub order_fair : (ks : List Kind) → next (is_word word.Fair) ks ≡ true → order ks ≡ Ok (true, behind ks)
order_fair [] t = cc
order_fair (k ∷ ks) t = rw t

pub order_match : (ks : List Kind) → next (is_word word.Fair) ks ≡ false → order ks ≡ (after (Word word.Match) ks >>= λ rest. Ok (false, rest))
order_match [] t = refl
order_match (k ∷ ks) t = rw t

pub handlers_some : (ks : List Kind) → next (is_word word.Handle) ks ≡ true → handlers MAX_DEPTH ks ≡ listed symbol.Bar (handler MAX_DEPTH) (behind ks)
handlers_some [] t = cc
handlers_some (k ∷ ks) t = rw t

pub handlers_none : (ks : List Kind) → next (is_word word.Handle) ks ≡ false → handlers MAX_DEPTH ks ≡ Ok ([], ks)
handlers_none ks t = rw t

pub ruleset order_steps = (order_fair, order_match)

pub ruleset handlers_steps = (handlers_some, handlers_none)

pub ruleset carried_steps = (rolls-Name, rolls-Any)
