use Rattle.std.proofs.Common.{drop, sym, ap, ◌∙◌}
use Rattle.check_scopes.specs.types.Contexts.{shape_of}
use Rattle.check_scopes.proofs.types_lemmas.Held.{top_level}
use Rattle.check_scopes.proofs.types.context.Context.shape.Goals as goal

pub returns : goal.returns
returns c =
    let tys = c.self.inside.types in
    c.shape_of_node-shape.ensures tys ∙ ap shape_of (sym (top_level tys c.self.inside.held (drop 1 c.self.inside.held) c.in-Some.number c.node.result.now c.args.self.now.1 (ap (λ k. k.1) c.self.view_is) c.in-Some.ensures c.node.ensures.is))
