use Rattle.std.proofs.Common.{◌≡◌, ℕ, List, Result, Ok, Err, IfOk, length, ap, ◌∙◌, subst}
use Rattle.hume_model.specs.declared.core_tree.PatC.{PatC}
use Rattle.box_code.specs.Paths.{Spot, Test, root, spots_at, tests_at}
use Rattle.box_code.specs.Represents.{FieldsStand, TestsStand}
use Rattle.box_compile.specs.inner.Emitted.{Emitted}
use Rattle.box_compile.specs.inner.Patterns.{FoundWritten, PatternWritten}
use Rattle.box_compile.proofs.pattern_code.emit_pattern.Goals as goal

written : {E : Type 0} (old new : List ℕ) (place high other : ℕ) (pat : PatC) {tests : List Test} {spots : List Spot} → tests ≡ tests_at pat (root place)
    → spots ≡ spots_at pat (root place) → (result : Result ℕ E) → IfOk result (FoundWritten old new high other tests spots)
    → IfOk result (PatternWritten old new place high other pat)
written old new place high other pat tests_are spots_are (Ok count) w = record {
  mid = w.mid;
  tests = subst (λ (tests : List Test). Emitted old w.mid (λ code from to. TestsStand code high other from to tests)) tests_are w.tests_stand;
  fields = subst (λ (spots : List Spot). Emitted w.mid new (λ code from to. FieldsStand code high from to spots)) spots_are w.fields_stand;
  all = w.all ∙ ap length spots_are;
}
written old new place high other pat tests_are spots_are (Err e) w = w

pub returns : goal.returns
returns c = written _ _ _ _ _ _ c.in_ok-found.ensures.0 c.in_ok-found.ensures.1 c.emit_found.result c.emit_found.ensures
