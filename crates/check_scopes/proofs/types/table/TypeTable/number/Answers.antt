use Rattle.std.proofs.Common.{◌<◌, length, sym, subst}
use Rattle.check_scopes.specs.types.Nodes.{types_of, IsTable, IsWithin, Grows}
use Rattle.check_scopes.proofs.types_lemmas.Held.{grows_then}
use Rattle.check_scopes.proofs.types_lemmas.Numbers.{inserted, found}
use Rattle.check_scopes.proofs.types.table.TypeTable.number.Goals as goal

pub invariant_of-self-2 : goal.invariant_of-self-2
invariant_of-self-2 c =
    let inside = subst (λ tys. IsWithin (length tys) c.args.node) (sym c.self.view_is) c.requires in
    let more = inserted c.self.inside.nodes.keys c.args.node c.self.invariant.0 inside in (
      subst (λ nodes. IsTable nodes (types_of nodes)) (sym c.in_ok-at.ensures.keys) more.0,
      subst (λ nodes. Grows c.self.inside.trees.items (types_of nodes)) (sym c.in_ok-at.ensures.keys)
          (grows_then _ _ _ c.self.invariant.1 more.1),
    )

pub returns-clause-grows : goal.returns-clause-grows
returns-clause-grows c =
    let inside = subst (λ tys. IsWithin (length tys) c.args.node) (sym c.self.view_is) c.requires in
    subst (λ old. Grows old (types_of c.insert_full.new.self.keys)) c.self.view_is
    (subst (λ nodes. Grows (types_of c.self.inside.nodes.keys) (types_of nodes)) (sym c.in_ok-at.ensures.keys) (inserted c.self.inside.nodes.keys c.args.node c.self.invariant.0 inside).1)

pub returns-clause-within : goal.returns-clause-within
returns-clause-within c = subst (λ n. c.in_ok-at.at < n) (sym (invariant_of-self-2 c).0.long) c.in_ok-at.ensures.within

pub returns-clause-is : goal.returns-clause-is
returns-clause-is c =
    let s = c.in_ok-at.ensures.stored in
    found c.insert_full.new.self.keys c.args.self.now c.args.node s.0 c.in_ok-at.at (invariant_of-self-2 c).0 c.requires (returns-clause-grows c) s.1 s.2
