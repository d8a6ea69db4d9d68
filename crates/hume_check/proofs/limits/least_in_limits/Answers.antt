use Rattle.std.proofs.Common.{◌∙◌, sym, subst}
use Rattle.hume_base.specs.declared.rule.Rule.TheVariants.{C73, C74}
use Rattle.hume_base.specs.Least.{IsLeast, OfRule, earlier_of}
use Rattle.check_rules.specs.SizeRules.{HasLargeType, PassesWords}
use Rattle.check_rules.specs.CheckRules.{BreaksLimits}
use Rattle.hume_check.proofs.Phases.{least_limit}
use Rattle.hume_check.proofs.limits.least_in_limits.Goals as goal

pub returns : goal.returns
returns c =
    let same = c.as_slice-decls.ensures in
    let large = subst (λ d. IsLeast (OfRule C73 (HasLargeType d)) c.in_ok-large_type.large_type) same c.in_ok-large_type.ensures in
    let words = subst (λ d. IsLeast (OfRule C74 (PassesWords d)) c.in_ok-past_words.past_words) same c.in_ok-past_words.ensures in
    subst (IsLeast (BreaksLimits c.args.program.now.decls))
    (sym (c.earlier-2.ensures ∙ (λ i. earlier_of (c.of-past_limits.ensures i) (c.earlier.ensures i))))
    (least_limit c.args.program.now.decls c.first_past_limits.result c.in_ok-large_type.large_type c.in_ok-past_words.past_words
    c.first_past_limits.ensures large words)
