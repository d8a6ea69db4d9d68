use Rattle.std.proofs.Common.{ℕ, List, Option, map, ap, ◌∙◌, subst}
use Rattle.std.specs.Option.{unwrap_or}
use Rattle.hume_model.specs.declared.core_tree.RuleC.{RuleC}
use Rattle.box_compile.specs.inner.Boxes.{RulesFound}
use Rattle.box_compile.specs.inner.Emitted.{Emitted}
use Rattle.box_compile.specs.inner.Entries.{entry_in}
use Rattle.box_compile.proofs.boxes.emit_box.Goals as goal

pub returns : goal.returns
returns c =
    let end : List (Option ℕ) → ℕ → List ℕ = λ found end. map (λ (place : Option ℕ). unwrap_or place end) found in
    record {
      mid = c.emit_rules.new.writer;
      found = c.in_ok-found.found;
      rules_are = subst (λ (rules : List RuleC). Emitted c.args.writer.now c.emit_rules.new.writer
          (λ code from to. RulesFound code (entry_in c.args.entries.now) c.in_ok-rules.rules rules)) c.as_slice.ensures c.in_ok-rules.ensures;
      handlers_are = c.in_ok-found.ensures;
      places = c.in_ok-handlers.ensures ∙ ap (λ (l : List (Option ℕ)). end l c.len.result) c.as_slice-2.ensures ∙ ap (end c.in_ok-found.found) c.len.ensures;
    }
