use Rattle.std.proofs.Common.{◌≡◌, drop}
use Rattle.c_expressions.specs.Made.{nothing}
use Rattle.c_analysis.specs.Targets.{target}
use Rattle.c_boxes.specs.Results.{outputs_made}
use Rattle.c_boxes.proofs.results.outputs_made.Given as goal

abbrev pub invariant-loop-place : goal.invariant-loop-place
invariant-loop-place l = record {
  made : outputs_made (target l.s) l.b l.initial.scope l.place (drop l.place l.outs) l.all
      ≡ outputs_made (target l.s) l.b l.initial.scope 0 l.outs (nothing l.next);
  scope : l.scope ≡ l.initial.scope;
}
