-- What the wires break, as findings at items of lists.
use Rattle.std.proofs.Common.{◌≡◌, ℕ, length, Option, Some, slice_get, subst, ◌↔◌, inl, inr}
use Rattle.hume_base.specs.declared.finding.Finding.{Finding}
use Rattle.hume_base.specs.declared.rule.Rule.{Rule}
use Rattle.hume_base.specs.declared.rule.Rule.TheVariants.{C54}
use Rattle.hume_base.specs.Least.{IsLeast, OfRule}
use Rattle.hume_base.proofs.Least.{IsLeast-same}
use Rattle.hume_model.specs.declared.core_tree.NodeC.{NodeC}
use Rattle.hume_model.specs.declared.core_tree.WireC.{WireC}
use Rattle.hume_model.specs.declared.core_tree.Core.{Core}
use Rattle.hume_model.specs.Declarations.{declaration_of, line_of, StandsAt}
use Rattle.hume_model.specs.WireRules.{BreaksWires, JoinsOthers, ComesAfter}
use Rattle.hume_model.proofs.Findings.{IsAmong, Breaks, all_among}
use Rattle.wiring_check.specs.declared.side.Side.{Side}
use Rattle.wiring_check.specs.declared.side.Side.TheVariants.{Inputs, Outputs}
use Rattle.wiring_check.specs.inner.Slots.{LacksPort, Lacks, Repeats, EndsDiffer, ends_at, end_node, end_port, lack_rule, repeat_rule}

abbrev pub wire_declaration : WireC → ℕ
wire_declaration wire = wire.declaration

abbrev pub LacksAt : Core → Side → ℕ → NodeC → Type 0
LacksAt core side n node = LacksPort side core.wires n node

abbrev pub RepeatsAt : Core → Side → ℕ → WireC → Type 0
RepeatsAt core side w wire = ComesAfter (ends_at side (end_node side wire) (end_port side wire)) core.wires w

abbrev pub JoinsAt : Core → ℕ → WireC → Type 0
JoinsAt core w wire = EndsDiffer core wire

lacks_same : (core : Core) (side : Side) (d : ℕ) → Breaks core.nodes declaration_of (LacksAt core side) d ↔ Lacks core side d
lacks_same core Inputs d = (
  (λ b. record { n = b.at; node = b.item; there = b.there; declared = b.of_item; input = b.breaks.port; within = b.breaks.within; none = b.breaks.none }),
  (λ l. record { at = l.n; item = l.node; there = l.there; of_item = l.declared; breaks = record { port = l.input; within = l.within; none = l.none } }),
)
lacks_same core Outputs d = (
  (λ b. record { n = b.at; node = b.item; there = b.there; declared = b.of_item; output = b.breaks.port; within = b.breaks.within; none = b.breaks.none }),
  (λ l. record { at = l.n; item = l.node; there = l.there; of_item = l.declared; breaks = record { port = l.output; within = l.within; none = l.none } }),
)

repeats_same : (core : Core) (side : Side) (d : ℕ) → Breaks core.wires wire_declaration (RepeatsAt core side) d ↔ Repeats core side d
repeats_same core Inputs d = (
  (λ b. record { w = b.at; wire = b.item; there = b.there; declared = b.of_item; after = b.breaks }),
  (λ r. record { at = r.w; item = r.wire; there = r.there; of_item = r.declared; breaks = r.after }),
)
repeats_same core Outputs d = (
  (λ b. record { w = b.at; wire = b.item; there = b.there; declared = b.of_item; after = b.breaks }),
  (λ r. record { at = r.w; item = r.wire; there = r.there; of_item = r.declared; breaks = r.after }),
)

joins_same : (core : Core) (d : ℕ) → Breaks core.wires wire_declaration (JoinsAt core) d ↔ JoinsOthers core d
joins_same core d = (
  (λ b. record { w = b.at; wire = b.item; there = b.there; declared = b.of_item; producer = b.breaks.producer; from = b.breaks.from; consumer = b.breaks.consumer; to = b.breaks.to; differ = b.breaks.differ }),
  (λ j. record { at = j.w; item = j.wire; there = j.there; of_item = j.declared; breaks = record { producer = j.producer; from = j.from; consumer = j.consumer; to = j.to; differ = j.differ } }),
)

of_same : (rule : Rule) (P Q : ℕ → Type 0) (o : Option Finding) → ((d : ℕ) → P d ↔ Q d) → IsLeast (OfRule rule P) o → IsLeast (OfRule rule Q) o
of_same rule P Q o same least =
    IsLeast-same (OfRule rule P) (OfRule rule Q) o (λ f. ((λ p. (p.0, (same f.declaration).0 p.1)), (λ q. (q.0, (same f.declaration).1 q.1)))) least

pub least_lacks : (core : Core) (side : Side) (o : Option Finding) → IsLeast (IsAmong core.nodes declaration_of (LacksAt core side) (lack_rule side) (length core.nodes)) o
    → IsLeast (OfRule (lack_rule side) (Lacks core side)) o
least_lacks core side o least =
    of_same (lack_rule side) _ _ o (lacks_same core side) (all_among core.nodes declaration_of (LacksAt core side) (lack_rule side) o least)

pub least_repeats : (core : Core) (side : Side) (o : Option Finding) → IsLeast (IsAmong core.wires wire_declaration (RepeatsAt core side) (repeat_rule side) (length core.wires)) o
    → IsLeast (OfRule (repeat_rule side) (Repeats core side)) o
least_repeats core side o least =
    of_same (repeat_rule side) _ _ o (repeats_same core side) (all_among core.wires wire_declaration (RepeatsAt core side) (repeat_rule side) o least)

pub least_joins : (core : Core) (o : Option Finding) → IsLeast (IsAmong core.wires wire_declaration (JoinsAt core) C54 (length core.wires)) o → IsLeast (OfRule C54 (JoinsOthers core)) o
least_joins core o least = of_same C54 _ _ o (joins_same core) (all_among core.wires wire_declaration (JoinsAt core) C54 o least)

-- what is broken stands somewhere
pub broken_stands : (core : Core) (f : Finding) → BreaksWires core f → (line : ℕ) × StandsAt core f.declaration line
broken_stands core f broken = elim broken [
  | inl lacks ↦ node_stands lacks.1.n lacks.1.node lacks.1.there lacks.1.declared
  | inr more ↦ elim more [
    | inl repeats ↦ wire_stands repeats.1.w repeats.1.wire repeats.1.there repeats.1.declared
    | inr others ↦ elim others [
      | inl lacks ↦ node_stands lacks.1.n lacks.1.node lacks.1.there lacks.1.declared
      | inr rest ↦ elim rest [
        | inl repeats ↦ wire_stands repeats.1.w repeats.1.wire repeats.1.there repeats.1.declared
        | inr joins ↦ wire_stands joins.1.w joins.1.wire joins.1.there joins.1.declared
      ]
    ]
  ]
]
  where
    node_stands : (n : ℕ) (node : NodeC) → slice_get core.nodes n ≡ Some node → declaration_of node ≡ f.declaration → (line : ℕ) × StandsAt core f.declaration line
    node_stands n node there declared = (line_of node, subst (λ d. StandsAt core d (line_of node)) declared (StandsAt.node n node there))

    wire_stands : (w : ℕ) (wire : WireC) → slice_get core.wires w ≡ Some wire → wire.declaration ≡ f.declaration → (line : ℕ) × StandsAt core f.declaration line
    wire_stands w wire there declared = (wire.line, subst (λ d. StandsAt core d wire.line) declared (StandsAt.wire w wire there))
