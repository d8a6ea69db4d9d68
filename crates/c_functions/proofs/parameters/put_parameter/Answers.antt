use Rattle.std.proofs.Common.{◌≡◌, ◌++◌, List, OnOk, subst}
use Rattle.c_tree.specs.declared.tree.CParameter.{CParameter}
use Rattle.c_analysis.specs.Targets.{target}
use Rattle.c_functions.proofs.EquationForms.{told_parameter, untold_parameter}
use Rattle.c_functions.proofs.parameters.put_parameter.Goals as goal

pub returns-in-None : goal.returns-in-None
returns-in-None c = untold_parameter (target c.args.s) c.args.used.now c.args.place c.args.ty.now c.args.all.now c.in-None.ensures.lookup.3

pub returns-in-Some : goal.returns-in-Some
returns-in-Some c =
    subst (λ (more : List CParameter). OnOk c.put_told.result (c.put_told.new.all ≡ c.args.all.now ++ more))
    (told_parameter (target c.args.s) c.args.used.now c.args.place c.args.ty.now c.in-Some.told.now c.in-Some.ensures.lookup.3.0 c.in-Some.ensures.lookup.1)
    c.put_told.ensures
