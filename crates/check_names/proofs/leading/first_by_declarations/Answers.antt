use Rattle.std.proofs.Common.{IfOk, map, ap, subst, ◌∙◌}
use Rattle.hume_base.specs.Least.{IsFirst}
use Rattle.check_tables.specs.graph.Cycles.{InCycle}
use Rattle.check_names.specs.Mentions.{mentions_of}
use Rattle.check_names.specs.Leading.{meant}
use Rattle.check_names.proofs.leading.first_by_declarations.Goals as goal

pub returns : goal.returns
returns c =
    let all_meant = ap (λ owners. map (λ d. meant c.args.kind owners (mentions_of d.1)) c.args.decls.now) c.requires.owners in
    subst (λ graph. IfOk c.first_in_cycle.result (IsFirst (InCycle graph))) (c.in_ok-graph.ensures ∙ all_meant) c.first_in_cycle.ensures
