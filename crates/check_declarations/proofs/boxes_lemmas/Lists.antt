-- Several rules or handlers.
use Rattle.std.proofs.Common.{◌≡◌, ◌||◌, Bool, List, [], ◌∷◌, ◌++◌, Option, Some, None, refl, ap, sym, ◌∙◌}
use Rattle.std.proofs.lemmas.Grind.{common_steps}
use Rattle.std.proofs.lemmas.List.{append_assoc}
use Rattle.typed_core.specs.declared.typed_tree.TypedRule.{TypedRule}
use Rattle.typed_core.specs.declared.typed_tree.TypedHandler.{TypedHandler}
use Rattle.check_typing.specs.Partial.{given}
use Rattle.check_typing.specs.Declarations.{CoredRule, WrittenRule, CoredHandler, WrittenHandler, some_so, cores_alone}
use Rattle.check_tasks.specs.results.ResultStates.{ResultState}
use Rattle.check_declarations.specs.boxes.inner.Rules.{rule_at, rules_at, together}
use Rattle.check_declarations.specs.boxes.inner.Handlers.{handler_at, handlers_at}
use Rattle.check_declarations.proofs.boxes_lemmas.Partial.{or_assoc}

-- one more core in front of the others
put_together : {A : Type 0} (found : List A × Bool) (c : A × Bool) (others : Option (List (A × Bool)))
    → together (found.0 ++ c.0 ∷ [], found.1 || c.1) others ≡ together found (given others (λ cs. Some (c ∷ cs)))
put_together found c None = refl
put_together found c (Some cs) = λ i. Some (append_assoc found.0 (c.0 ∷ []) (cores_alone cs) i, or_assoc found.1 c.1 (some_so cs) i)

pub rules_more : (state : ResultState) (found : List TypedRule × Bool) (rule : WrittenRule) (others : List WrittenRule) (c : CoredRule)
    → rule_at state rule.0 rule.1 ≡ Some c
    → together found (rules_at state (rule ∷ others)) ≡ together (found.0 ++ c.0 ∷ [], found.1 || c.1) (rules_at state others)
rules_more state found rule others c h =
    ap (λ first. together found (given first (λ c. given (rules_at state others) (λ cs. Some (c ∷ cs))))) h
    ∙ sym (put_together found c (rules_at state others))

pub rules_none : (state : ResultState) (found : List TypedRule × Bool) (rule : WrittenRule) (others : List WrittenRule)
    → rule_at state rule.0 rule.1 ≡ None → together found (rules_at state (rule ∷ others)) ≡ None
rules_none state found rule others h =
    ap (λ first. together found (given first (λ c. given (rules_at state others) (λ cs. Some (c ∷ cs))))) h

pub handlers_more : (state : ResultState) (found : List TypedHandler × Bool) (handler : WrittenHandler) (others : List WrittenHandler) (c : CoredHandler)
    → handler_at state handler ≡ Some c
    → together found (handlers_at state (handler ∷ others)) ≡ together (found.0 ++ c.0 ∷ [], found.1 || c.1) (handlers_at state others)
handlers_more state found handler others c h =
    ap (λ first. together found (given first (λ c. given (handlers_at state others) (λ cs. Some (c ∷ cs))))) h
    ∙ sym (put_together found c (handlers_at state others))

pub handlers_none : (state : ResultState) (found : List TypedHandler × Bool) (handler : WrittenHandler) (others : List WrittenHandler)
    → handler_at state handler ≡ None → together found (handlers_at state (handler ∷ others)) ≡ None
handlers_none state found handler others h =
    ap (λ first. together found (given first (λ c. given (handlers_at state others) (λ cs. Some (c ∷ cs))))) h

pub ruleset rules_steps = (common_steps, rules_more, rules_none)

pub ruleset handlers_steps = (common_steps, handlers_more, handlers_none)
