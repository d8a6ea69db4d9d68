use Rattle.std.proofs.Common.{arith, ◌<◌, length, sym, subst}
use Rattle.check_scopes.proofs.types_lemmas.Held.{below_at, below_pushed}
use Rattle.check_scopes.proofs.types.context.Context.push_kept.Goals as goal

pub invariant_of-self : goal.invariant_of-self
invariant_of-self c =
    let b = length c.self.inside.types in
    let before = subst (λ n. c.args.at < n) c.len.ensures c.if-at-len.false in
    let fits = c.self.inside.kept.ok in
    let inside : c.args.at < length c.self.inside.kept.items = omega arith in
    let within = subst (λ n. n < b) (sym c.index-number.ensures) (below_at b c.args.at c.index-number.result.now c.self.inside.kept.items c.self.invariant.2 inside) in
    (c.self.invariant.0, below_pushed b _ _ _ c.push.result c.push.ensures.ok c.push.ensures.err within c.self.invariant.1, c.self.invariant.2)
