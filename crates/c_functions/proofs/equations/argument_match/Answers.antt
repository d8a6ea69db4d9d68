use Rattle.std.proofs.Common.{◌≡◌, ◌∙◌, ◌++◌, OnOk, subst}
use Rattle.c_analysis.specs.Targets.{target}
use Rattle.c_expressions.specs.Patterns.{Match}
use Rattle.c_functions.proofs.EquationForms.{argument_is, no_objects, no_tests}
use Rattle.c_functions.proofs.equations.argument_match.Goals as goal

pub returns-in-None-clause-tests : goal.returns-in-None-clause-tests
returns-in-None-clause-tests c = no_tests (target c.args.s) c.args.params.now c.args.place c.args.pattern.now c.args.tests.now c.in-None.ensures.lookup.3

pub returns-in-None-clause-objects : goal.returns-in-None-clause-objects
returns-in-None-clause-objects c = no_objects (target c.args.s) c.args.params.now c.args.place c.args.pattern.now c.args.scope.now c.in-None.ensures.lookup.3

pub returns-in_ok-object-in-Some-clause-tests : goal.returns-in_ok-object-in-Some-clause-tests
returns-in_ok-object-in-Some-clause-tests c =
    subst (λ (found : Match). OnOk c.matched.result (c.matched.new.tests ≡ c.args.tests.now ++ found.tests))
    (argument_is (target c.args.s) c.args.params.now c.args.place c.args.pattern.now c.in-Some.ty.now c.deref.result.now
    c.in-Some.ensures.lookup.3.0 c.in-Some.ensures.lookup.1 (c.deref.ensures ∙ c.in_ok-object-in-Some.ensures))
    c.matched.ensures.tests

pub returns-in_ok-object-in-Some-clause-objects : goal.returns-in_ok-object-in-Some-clause-objects
returns-in_ok-object-in-Some-clause-objects c =
    subst (λ (found : Match). OnOk c.matched.result (c.matched.new.scope ≡ c.args.scope.now ++ found.objects))
    (argument_is (target c.args.s) c.args.params.now c.args.place c.args.pattern.now c.in-Some.ty.now c.deref.result.now
    c.in-Some.ensures.lookup.3.0 c.in-Some.ensures.lookup.1 (c.deref.ensures ∙ c.in_ok-object-in-Some.ensures))
    c.matched.ensures.objects
