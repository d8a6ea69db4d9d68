use Rattle.std.proofs.Common.{◌≡◌, ◌∷◌, IfOk, codes, refl, subst}
use Rattle.c_names.specs.Names.{inner}
use Rattle.c_names.specs.declared.names.Names.{Names}
use Rattle.c_nets.specs.SuperSteps.{plain_function}
use Rattle.c_nets.specs.Taking.{wait}
use Rattle.c_boxes.proofs.execute.function_with.Goals as goal

pub returns : goal.returns
returns c =
    subst (λ (names : Names). IfOk c.whole.result (λ item. item ≡ plain_function (inner names (codes "execute_") c.args.b.now.name) (wait names c.args.b.now ∷ c.args.statements)))
    c.names.ensures
    (c.whole.ensures _ (c.waiting_function.ensures c.args.statements refl))
