use Rattle.std.proofs.Common.{◌≡◌, ◌++◌, drop}
use Rattle.c_analysis.specs.Targets.{target}
use Rattle.c_boxes.specs.Boxes.{handler_cases}
use Rattle.c_boxes.proofs.handlers.handler_cases.Given as goal

abbrev pub invariant-loop-handler : goal.invariant-loop-handler
invariant-loop-handler l =
    let rest = handler_cases (target l.s) l.b (drop l.handler-index l.handlers) l.next in
    let all = handler_cases (target l.s) l.b l.handlers 1 in
    record {
      cases : l.cases ++ rest.cases ≡ all.cases;
      next : rest.next ≡ all.next;
    }
