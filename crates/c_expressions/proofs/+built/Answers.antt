use Rattle.std.proofs.Common.{◌≡◌, ◌∙◌, ◌+◌, IfOk, List, ap, drop, subst, sym}
use Rattle.c_analysis.specs.Targets.{target}
use Rattle.c_expressions.specs.declared.arms.Way.{Way}
use Rattle.c_expressions.specs.declared.made.Code.{Code}
use Rattle.c_expressions.specs.declared.made.Made.{Made}
use Rattle.c_expressions.specs.Expressions.{Scope, arms_built}
use Rattle.c_expressions.specs.inner.Parts.{arms_of}
use Rattle.c_expressions.specs.inner.Ways.{way_of, ways_before}
use Rattle.c_expressions.proofs.WaysForms.{anyway, arms_end, call_formed, call_value_formed, case_formed, case_is, con_formed, let_valued, prim_value, tuple_formed, vect_formed, ways_go_on}
use Rattle.c_expressions.proofs.+built.Goals as goal

pub building::built_form-returns-in-Case : goal.building::built_form-returns-in-Case
building::built_form-returns-in-Case t c = record {
  made = subst (λ (all : Made). IfOk c.built_case.result (λ it. it ≡ all)) (case_formed (target c.args.s) c.args.e.now c.args.scope.now c.args.to.now c.args.ty.now c.args.next c.in-Case.of c.in-Case.part c.in-Case.arms c.deref.result.now c.deref-in-Case.result.now c.as_slice.result.now c.in-Case.is c.deref.ensures c.deref-in-Case.ensures c.as_slice.ensures) c.built_case.ensures.made;
  scope = c.built_case.ensures.scope;
}

pub building::built_form-returns-in-Call : goal.building::built_form-returns-in-Call
building::built_form-returns-in-Call t c = record {
  made = subst (λ (all : Made). IfOk c.built_call.result (λ it. it ≡ all)) (call_formed (target c.args.s) c.args.e.now c.args.scope.now c.args.to.now c.args.ty.now c.args.next c.in-Call.function c.in-Call.parts c.as_slice-in-Call.result.now c.in-Call.is c.as_slice-in-Call.ensures) c.built_call.ensures.made;
  scope = c.built_call.ensures.scope;
}

pub building::built_object-returns-in-Tuple : goal.building::built_object-returns-in-Tuple
building::built_object-returns-in-Tuple t c = record {
  made = subst (λ (all : Made). IfOk c.built_tuple.result (λ it. it ≡ all)) (tuple_formed (target c.args.s) c.args.e.now c.args.scope.now c.args.to.now c.args.ty.now c.args.next c.in-Tuple.parts c.as_slice.result.now c.in-Tuple.is c.as_slice.ensures) c.built_tuple.ensures.made;
  scope = c.built_tuple.ensures.scope;
}

pub building::built_object-returns-in-Vect : goal.building::built_object-returns-in-Vect
building::built_object-returns-in-Vect t c = record {
  made = subst (λ (all : Made). IfOk c.built_vector.result (λ it. it ≡ all)) (vect_formed (target c.args.s) c.args.e.now c.args.scope.now c.args.to.now c.args.ty.now c.args.next c.in-Vect.parts c.as_slice-in-Vect.result.now c.in-Vect.is c.as_slice-in-Vect.ensures) c.built_vector.ensures.made;
  scope = c.built_vector.ensures.scope;
}

pub building::built_object-returns-in-Con : goal.building::built_object-returns-in-Con
building::built_object-returns-in-Con t c = record {
  made = subst (λ (all : Made). IfOk c.built_constructor.result (λ it. it ≡ all)) (con_formed (target c.args.s) c.args.e.now c.args.scope.now c.args.to.now c.args.ty.now c.args.next c.in-Con.place c.in-Con.parts c.as_slice-in-Con.result.now c.in-Con.is c.as_slice-in-Con.ensures) c.built_constructor.ensures.made;
  scope = c.built_constructor.ensures.scope;
}

pub values::value-returns-in-Prim : goal.values::value-returns-in-Prim
values::value-returns-in-Prim t c = record {
  made = subst (λ (all : Code). IfOk c.value_operation.result (λ it. it ≡ all)) (prim_value (target c.args.s) c.args.e.now c.args.scope.now c.args.ty.now c.args.next c.in-Prim.op c.in-Prim.of c.in-Prim.parts c.as_slice.result.now c.in-Prim.is c.as_slice.ensures) c.value_operation.ensures.made;
  scope = c.value_operation.ensures.scope;
}

pub values::scalar_value-returns-in-Call : goal.values::scalar_value-returns-in-Call
values::scalar_value-returns-in-Call t c = record {
  made = subst (λ (all : Code). IfOk c.value_call.result (λ it. it ≡ all)) (call_value_formed (target c.args.s) c.args.e.now c.args.scope.now c.args.ty.now c.args.next c.in-Call.function c.in-Call.parts c.as_slice.result.now c.in-Call.is c.as_slice.ensures) c.value_call.ensures.made;
  scope = c.value_call.ensures.scope;
}

pub arms::arms_from-loop-place-preserved : goal.arms::arms_from-loop-place-preserved
arms::arms_from-loop-place-preserved t c =
    let s = target c.args.s in
    record {
      made = ap (λ (ways : List Way). ways_before ways (arms_built s c.args.scope.now c.args.to.now c.args.ty.now c.args.of.now c.args.object.now c.args.complete
          c.in_ok-way.way.made.next (arms_of s (drop (c.loop-place.place + 1) c.args.arms.now)))) c.in_ok-push.ensures.ok
          ∙ ways_go_on s c.args.scope.now c.args.to.now c.args.ty.now c.args.of.now c.args.object.now c.args.complete c.args.arms.now c.loop-place.place c.index-arms-place.result c.loop-place.next c.in_ok-way.way c.loop-place.ways c.loop-place-test.true c.index-arms-place.is
          (c.in_ok-way.ensures.made
          ∙ ap (λ (scope : Scope). way_of s c.index-arms-place.result c.args.of.now c.args.object.now scope c.args.to.now c.args.ty.now c.loop-place.next) c.loop-place.invariant.scope)
          (sym c.is_last_way.ensures ∙ c.if-is_last_way.false)
          ∙ c.loop-place.invariant.made;
      scope = c.in_ok-way.ensures.scope ∙ c.loop-place.invariant.scope;
    }

pub arms::arms_from-returns-then-is_last_way : goal.arms::arms_from-returns-then-is_last_way
arms::arms_from-returns-then-is_last_way t c =
    let s = target c.args.s in
    record {
      made = subst (λ (all : Made). IfOk c.ways_tried.result (λ it. it ≡ all))
          (ap (ways_before c.loop-place.ways)
          (sym (arms_end s c.args.scope.now c.args.to.now c.args.ty.now c.args.of.now c.args.object.now c.args.complete c.args.arms.now c.loop-place.place c.index-arms-place.result c.loop-place.next c.in_ok-way.way c.loop-place-test.true c.index-arms-place.is
          (c.in_ok-way.ensures.made
          ∙ ap (λ (scope : Scope). way_of s c.index-arms-place.result c.args.of.now c.args.object.now scope c.args.to.now c.args.ty.now c.loop-place.next) c.loop-place.invariant.scope)
          (sym c.is_last_way.ensures ∙ c.if-is_last_way.true)))
          ∙ c.loop-place.invariant.made) c.ways_tried.ensures;
      scope = anyway c.ways_tried.result (c.in_ok-way.ensures.scope ∙ c.loop-place.invariant.scope);
    }

pub building::built_case-returns-clause-made : goal.building::built_case-returns-clause-made
building::built_case-returns-clause-made t c =
    subst (λ (all : Made). IfOk c.arms_behind.result (λ it. it ≡ all))
    (case_is (target c.args.s) c.args.of.now c.args.part.now c.args.arms.now c.args.scope.now c.args.to.now c.args.ty.now c.args.next
    c.len.result c.in_ok-looked_at.looked_at c.in_ok-object.object c.subject.new.scope c.len.ensures c.in_ok-looked_at.ensures
    c.in_ok-object.ensures.made c.in_ok-object.ensures.scope)
    c.arms_behind.ensures.made

pub values::value-returns-in-Let-clause-made : goal.values::value-returns-in-Let-clause-made
values::value-returns-in-Let-clause-made t c =
    subst (λ (all : Code). IfOk c.value_let.result (λ it. it ≡ all))
    (let_valued (target c.args.s) c.args.e.now c.args.scope.now c.args.ty.now c.args.next c.in-Let.of c.in-Let.part c.in-Let.body c.deref-in-Let.result.now
    c.in-Let.is c.deref-in-Let.ensures)
    c.value_let.ensures.made
