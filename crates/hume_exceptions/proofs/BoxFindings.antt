-- What boxes break, as findings at nodes.
use Rattle.std.proofs.Common.{◌≡◌, inl, inr, ℕ, ◌<◌, ◌≤◌, false, length, Option, Some, arith, slice_get, sym, ap, ◌∙◌, subst, ◌↔◌}
use Rattle.std.proofs.lemmas.Option.{same_Some}
use Rattle.hume_base.specs.declared.limits.TheConstants.{MAX_EXCEPTIONS}
use Rattle.hume_base.specs.declared.finding.Finding.{Finding}
use Rattle.hume_base.specs.declared.rule.Rule.{Rule}
use Rattle.hume_base.specs.Least.{IsLeast, OfRule}
use Rattle.hume_base.proofs.Least.{IsLeast-same}
use Rattle.hume_model.specs.declared.core_tree.RuleC.{RuleC}
use Rattle.hume_model.specs.declared.core_tree.HandC.{HandC}
use Rattle.hume_model.specs.declared.core_tree.BoxC.{BoxC}
use Rattle.hume_model.specs.declared.core_tree.NodeC.{NodeC}
use Rattle.hume_model.specs.declared.core_tree.NodeC.TheVariants.{Rules, From, To}
use Rattle.hume_model.specs.declared.core_tree.Core.{Core}
use Rattle.hume_model.specs.Declarations.{declaration_of, StandsAt}
use Rattle.hume_model.specs.HandlerRules.{BreaksHandlers, OfBox, LeavesUnhandled, RaisesAgain, has_handler}
use Rattle.hume_model.specs.Raising.{result_may_raise}
use Rattle.hume_model.proofs.Findings.{IsAmong, Breaks, all_among}
use Rattle.hume_exceptions.specs.declared.exn_set.ExnSet.{ExnSet}
use Rattle.hume_exceptions.specs.Sets.{has, IsSetOf}
use Rattle.hume_exceptions.specs.inner.Boxes.{IsBoxWith, IsBeyond}

module _ (core : Core) (P : Core → BoxC → Type 0) where
  abbrev pub BoxAt : ℕ → NodeC → Type 0
  BoxAt n node = IsBoxWith core P node

  of_box : (n d : ℕ) (node : NodeC) → slice_get core.nodes n ≡ Some node → IsBoxWith core P node → declaration_of node ≡ d → OfBox core P d
  of_box n d (Rules b) at holds declared = record { n = n; b = b; there = at; declared = declared; holds = holds }
  of_box n d (From stream) at holds declared = absurd holds
  of_box n d (To stream) at holds declared = absurd holds

  boxes_same : (d : ℕ) → Breaks core.nodes declaration_of BoxAt d ↔ OfBox core P d
  boxes_same d = (
    (λ b. of_box b.at d b.item b.there b.breaks b.of_item),
    (λ o. record { at = o.n; item = Rules o.b; there = o.there; breaks = o.holds; of_item = o.declared }),
  )

  pub least_boxes : (rule : Rule) (o : Option Finding) → IsLeast (IsAmong core.nodes declaration_of BoxAt rule (length core.nodes)) o → IsLeast (OfRule rule (OfBox core P)) o
  least_boxes rule o least =
      IsLeast-same (OfRule rule (Breaks core.nodes declaration_of BoxAt)) (OfRule rule (OfBox core P)) o
      (λ f. ((λ p. (p.0, (boxes_same f.declaration).0 p.1)), (λ q. (q.0, (boxes_same f.declaration).1 q.1))))
      (all_among core.nodes declaration_of BoxAt rule o least)

  box_stands : (d : ℕ) → OfBox core P d → (line : ℕ) × StandsAt core d line
  box_stands d o = (o.b.line, subst (λ k. StandsAt core k o.b.line) o.declared (StandsAt.node o.n (Rules o.b) o.there))

-- what is broken stands somewhere
pub broken_stands : (core : Core) (f : Finding) → BreaksHandlers core f → (line : ℕ) × StandsAt core f.declaration line
broken_stands core f broken = elim broken [
  | inl unhandled ↦ box_stands core _ f.declaration unhandled.1
  | inr again ↦ box_stands core _ f.declaration again.1
]

module _ (core : Core) (b : BoxC) (few : length core.exns ≤ MAX_EXCEPTIONS) (count : ℕ) (all : count ≡ length core.exns) (set allowed : ExnSet) where
  low : (exn : ℕ) → exn < count → exn < MAX_EXCEPTIONS
  low exn lt = omega arith

  known : (exn : ℕ) → exn < count → exn < length core.exns
  known exn lt = omega arith

  module _ (number : ℕ) (rule : RuleC) (at : slice_get b.rules number ≡ Some rule) (raised : IsSetOf set (λ exn. result_may_raise core exn rule.result))
      (handled : IsSetOf allowed (λ exn. has_handler b.handlers exn)) where
    pub rule_breaks : IsBeyond count set allowed → LeavesUnhandled core b
    rule_breaks beyond = record {
      number = number;
      rule = rule;
      there = at;
      exn = beyond.exn;
      known = known beyond.exn beyond.known;
      raises = sym (raised.each beyond.exn (low beyond.exn beyond.known)) ∙ beyond.there;
      unhandled = sym (handled.each beyond.exn (low beyond.exn beyond.known)) ∙ beyond.beyond;
    }

    pub rule_beyond : (broken : LeavesUnhandled core b) → broken.number ≡ number → IsBeyond count set allowed
    rule_beyond broken same =
        let is : broken.rule ≡ rule = same_Some broken.rule rule (sym broken.there ∙ ap (λ n. slice_get b.rules n) same ∙ at) in
        let small : broken.exn < count = (let h : broken.exn < length core.exns = broken.known in omega arith) in
        record {
          exn = broken.exn;
          known = small;
          there = raised.each broken.exn (low broken.exn small) ∙ ap (λ (r : RuleC). result_may_raise core broken.exn r.result) (sym is) ∙ broken.raises;
          beyond = handled.each broken.exn (low broken.exn small) ∙ broken.unhandled;
        }

  module _ (number : ℕ) (handler : HandC) (at : slice_get b.handlers number ≡ Some handler) (raised : IsSetOf set (λ exn. result_may_raise core exn handler.result))
      (none : (exn : ℕ) → has allowed exn ≡ false) where
    pub handler_breaks : IsBeyond count set allowed → RaisesAgain core b
    handler_breaks beyond = record {
      number = number;
      handler = handler;
      there = at;
      exn = beyond.exn;
      known = known beyond.exn beyond.known;
      raises = sym (raised.each beyond.exn (low beyond.exn beyond.known)) ∙ beyond.there;
    }

    pub handler_beyond : (broken : RaisesAgain core b) → broken.number ≡ number → IsBeyond count set allowed
    handler_beyond broken same =
        let is : broken.handler ≡ handler = same_Some broken.handler handler (sym broken.there ∙ ap (λ n. slice_get b.handlers n) same ∙ at) in
        let small : broken.exn < count = (let h : broken.exn < length core.exns = broken.known in omega arith) in
        record {
          exn = broken.exn;
          known = small;
          there = raised.each broken.exn (low broken.exn small) ∙ ap (λ (h : HandC). result_may_raise core broken.exn h.result) (sym is) ∙ broken.raises;
          beyond = none broken.exn;
        }
