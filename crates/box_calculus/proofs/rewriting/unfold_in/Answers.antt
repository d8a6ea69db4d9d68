use Rattle.std.proofs.Common.{◌≡◌, None, sym, ◌∙◌, rules, subst}
use Rattle.std.specs.Prelude.{IfSome}
use Rattle.std.proofs.lemmas.Result.{err_from_is_err_and}
use Rattle.box_calculus.specs.inner.Sizes.{AddWithin}
use Rattle.box_calculus.proofs.ClearSteps.{clear_after, clear_holds}
use Rattle.box_calculus.proofs.KnownSteps.{expected_holds, known_after, most_holds}
use Rattle.box_calculus.proofs.Unfolded.{box_there, placed, refusal_is, refused_is, rewritten_is, rule_within}
use Rattle.box_calculus.proofs.rewriting.unfold_in.Goals as goal

pub returns-clause-allowed : goal.returns-clause-allowed
returns-clause-allowed c =
    let b = c.in-Rules.b in
    let same : c.as_slice-in-Rules.result.now ≡ c.args.core.funs = search rules in
    let there =
    box_there c.args.core c.args.node c.requires.step.b b c.into_vec-nodes.result.items c.index_mut.result.now c.requires.step.there (search rules) c.index_mut.ensures.value
    c.in-Rules.is in
    let within = rule_within c.args.core c.args.node c.args.rule c.requires.step.b b c.requires.step.there there c.requires.step.rule in
    refusal_is c.args.core c.args.node c.args.rule c.in_ok-scope.scope b c.as_slice-in-Rules.result.now same None there within c.in_ok-scope.ensures
    c.in_ok-seen-in-Rules.ensures.allowed

pub returns-clause-new : goal.returns-clause-new
returns-clause-new c =
    let b = c.in-Rules.b in
    let same : c.as_slice-in-Rules.result.now ≡ c.args.core.funs = search rules in
    let there =
    box_there c.args.core c.args.node c.requires.step.b b c.into_vec-nodes.result.items c.index_mut.result.now c.requires.step.there (search rules) c.index_mut.ensures.value
    c.in-Rules.is in
    let within = rule_within c.args.core c.args.node c.args.rule c.requires.step.b b c.requires.step.there there c.requires.step.rule in
    placed c.args.core c.args.node c.unfold_rule.new.b _ _ _ _ _ (search rules) (search rules) (search rules) (search rules) (search rules)
    ∙ sym (rewritten_is c.args.core c.args.node c.args.rule c.in_ok-scope.scope b c.as_slice-in-Rules.result.now same c.unfold_rule.new.b there within c.in_ok-scope.ensures
    c.in_ok-seen-in-Rules.ensures.allowed c.in_ok-seen-in-Rules.ensures.new)

pub returns-in_err-seen-in-Rules-clause-refused : goal.returns-in_err-seen-in-Rules-clause-refused
returns-in_err-seen-in-Rules-clause-refused c =
    let p = err_from_is_err_and c.from_residual-in_err-seen-in-Rules.result c.from_residual-in_err-seen-in-Rules.ensures.1 in
    let b = c.in-Rules.b in
    let same : c.as_slice-in-Rules.result.now ≡ c.args.core.funs = search rules in
    let there =
    box_there c.args.core c.args.node c.requires.step.b b c.into_vec-nodes.result.items c.index_mut.result.now c.requires.step.there (search rules) c.index_mut.ensures.value
    c.in-Rules.is in
    let within = rule_within c.args.core c.args.node c.args.rule c.requires.step.b b c.requires.step.there there c.requires.step.rule in
    rw (p.1, p.2) (refused_is c.args.core c.args.node c.args.rule c.in_ok-scope.scope b c.as_slice-in-Rules.result.now same c.in_err-seen-in-Rules.field-0.0 there
    within c.in_ok-scope.ensures c.in_err-seen-in-Rules.ensures.refused)

pub known_most-requires : goal.known_most-requires
known_most-requires c =
    let same : c.as_slice.result.now ≡ c.args.core.funs = search rules in
    most_holds c.args.core c.as_slice.result.now c.args.known same c.requires.known

pub unfold_rule-requires-clause-expected : goal.unfold_rule-requires-clause-expected
unfold_rule-requires-clause-expected c =
    let b = c.in-Rules.b in
    let same : c.as_slice-in-Rules.result.now ≡ c.args.core.funs = search rules in
    let there =
    box_there c.args.core c.args.node c.requires.step.b b c.into_vec-nodes.result.items c.index_mut.result.now c.requires.step.there (search rules) c.index_mut.ensures.value
    c.in-Rules.is in
    expected_holds c.as_slice-in-Rules.result.now c.args.node c.args.rule c.in_ok-scope.scope c.args.core b c.args.known c.expected_size.result same there
    c.requires.known c.expected_size.ensures

pub unfold_rule-requires-clause-clear : goal.unfold_rule-requires-clause-clear
unfold_rule-requires-clause-clear c =
    let b = c.in-Rules.b in
    let same : c.as_slice-in-Rules.result.now ≡ c.args.core.funs = search rules in
    let there =
    box_there c.args.core c.args.node c.requires.step.b b c.into_vec-nodes.result.items c.index_mut.result.now c.requires.step.there (search rules) c.index_mut.ensures.value
    c.in-Rules.is in
    clear_holds c.as_slice-in-Rules.result.now c.args.node c.args.rule c.in_ok-scope.scope c.args.core b same there c.args.known c.clear_alternatives.result
    c.in_ok-scope.ensures c.requires.known c.clear_alternatives.ensures

pub returns-clause-known : goal.returns-clause-known
returns-clause-known c =
    let b = c.in-Rules.b in
    let first : c.as_slice.result.now ≡ c.args.core.funs = search rules in
    let there =
    box_there c.args.core c.args.node c.requires.step.b b c.into_vec-nodes.result.items c.index_mut.result.now c.requires.step.there (search rules) c.index_mut.ensures.value
    c.in-Rules.is in
    let same : c.as_slice-in-Rules.result.now ≡ c.args.core.funs = search rules in
    let within = rule_within c.args.core c.args.node c.args.rule c.requires.step.b b c.requires.step.there there c.requires.step.rule in
    let made = placed c.args.core c.args.node c.unfold_rule.new.b _ _ _ _ _ (search rules) (search rules) (search rules) (search rules) (search rules) in
    known_after c.as_slice-in-Rules.result.now c.args.node c.args.rule c.in_ok-scope.scope c.args.core _ b c.unfold_rule.new.b c.in_ok-seen-in-Rules.seen there
    made c.in_ok-most.most c.known_after.result c.known_after.ensures (subst (λ fs. IfSome c.in_ok-most.most (λ it. AddWithin it fs)) first c.in_ok-most.ensures)
    within c.in_ok-seen-in-Rules.ensures.allowed c.in_ok-seen-in-Rules.ensures.new c.in_ok-seen-in-Rules.ensures.within
    (clear_after c.as_slice-in-Rules.result.now c.args.node c.args.rule c.in_ok-scope.scope c.args.core b same there _ c.unfold_rule.new.b
    c.in_ok-seen-in-Rules.seen.clear made within c.in_ok-scope.ensures c.in_ok-seen-in-Rules.ensures.allowed c.in_ok-seen-in-Rules.ensures.new
    c.in_ok-seen-in-Rules.ensures.clear)
