use Rattle.std.proofs.Common.{◌≡◌, ◌∙◌, ap, sym}
use Rattle.check_typing.proofs.Maybe.{some-same}
use Rattle.check_typing.specs.Declarations.{IsEquation, IsRule, IsHandler, IsFunction, IsTyped}
use Rattle.check_typing.specs.inner.DeclarationWalk.{equation_walk, rule_walk, handler_walk, function_walk, declaration_walk}
use Rattle.check_typing.proofs.WalkAgrees.{one_type, one_core}
use Rattle.check_typing.proofs.ResultWalkAgrees.{one_result}
use Rattle.check_typing.proofs.DeclarationsAgree.{only_one, finds_equation, finds_rule, finds_handler, finds_function, box_to, finds_declaration}
use Rattle.check_typing.proofs.laws.typing_is_unique.Goals as goal

pub returns-clause-by_itself : goal.returns-clause-by_itself
returns-clause-by_itself c = one_type

pub returns-clause-against : goal.returns-clause-against
returns-clause-against c = one_core

pub returns-clause-result : goal.returns-clause-result
returns-clause-result c = one_result

pub returns-clause-equation : goal.returns-clause-equation
returns-clause-equation c s f = only_one (IsEquation s f) (equation_walk s f) (finds_equation s f)

pub returns-clause-rule : goal.returns-clause-rule
returns-clause-rule c s ins outs = only_one (IsRule s ins outs) (rule_walk s ins outs) (finds_rule s ins outs)

pub returns-clause-handler : goal.returns-clause-handler
returns-clause-handler c s outs = only_one (IsHandler s outs) (handler_walk s outs) (finds_handler s outs)

pub returns-clause-function : goal.returns-clause-function
returns-clause-function c s name tys = only_one (IsFunction s name tys) (function_walk s name tys) (finds_function s name tys)

pub returns-clause-boxes : goal.returns-clause-boxes
returns-clause-boxes c s ins outs rs hs cs ds es fs h k =
    let same : (cs, es) ≡ (ds, fs) = some-same _ _ (sym (box_to s ins outs rs hs cs es h) ∙ box_to s ins outs rs hs ds fs k) in
    (ap (λ r. r.0) same, ap (λ r. r.1) same)

pub returns-clause-declaration : goal.returns-clause-declaration
returns-clause-declaration c s = only_one (IsTyped s) (declaration_walk s) (finds_declaration s)
