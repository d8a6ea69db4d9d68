use Rattle.std.proofs.Common.{◌≡◌, ◌∙◌, ◌<◌, not, true, false, None, refl, sym, ap, arith}
use Rattle.std.specs.Option.{is_some}
use Rattle.wiring_check.specs.inner.Slots.{slot, ports_of}
use Rattle.wiring_check.proofs.FirstWires.{none_passes, none_first, is_none}
use Rattle.wiring_check.proofs.SlotSteps.{all_first}
use Rattle.wiring_check.proofs.findings.lacks_port.Goals as goal

pub returns-then-is_none : goal.returns-then-is_none
returns-then-is_none c =
    let free : is_some c.get.result ≡ false = c.is_none.ensures ∙ ap not c.if-is_none.true in
    let none : slot c.args.slots.now c.args.n c.loop-port.port ≡ None = sym c.get.ensures ∙ is_none _ free in (
      (λ h. record {
        port = c.loop-port.port;
        within = (let low = c.loop-port-test.true in let e = c.ports-port-end.ensures in omega arith);
        none = none_passes _ _ (sym (all_first c.args.core.now c.args.side c.args.slots.now c.requires c.args.n c.loop-port.port) ∙ none);
      }),
      (λ lack. refl),
    )

pub returns : goal.returns
returns c = (
  (λ h. (let g : false ≡ true = h in cc)),
  (λ lack. (let low : lack.port < ports_of c.args.side c.args.node.now = lack.within in
      absurd (c.loop-port.invariant lack.port (let e = c.ports-port-end.ensures in omega arith)
      (all_first c.args.core.now c.args.side c.args.slots.now c.requires c.args.n lack.port ∙ none_first _ _ lack.none)))),
)
