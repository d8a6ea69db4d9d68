use Rattle.std.proofs.Common.{refl}
use Rattle.hume_console.proofs.BeginsCall.{begun, call_of, ends_from, openable, prepared_back}
use Rattle.hume_console.proofs.calling.answer.Goals as goal

pub start-requires-clause-accepted : goal.start-requires-clause-accepted
start-requires-clause-accepted g c κs within = openable _ c.in-Ok.ready.accepted c.in-Ok.ensures.ready.accepted

pub start-requires-clause-begun : goal.start-requires-clause-begun
start-requires-clause-begun g c κs within =
    let is = prepared_back _ c.args.ports.now.items c.deref_mut.result.now c.prepare.new.ports _ c.args.name.now _ c.in-Ok.ready c.deref_mut.ensures.len
    c.deref_mut.ensures.value c.prepare.ensures.same_names c.as_bytes.ensures.value c.in-Ok.ensures.ready in (
      call_of c.args.name.now c.requires.own _ _ c.in-Ok.ready is c.each_run_has_inputs.ensures _,
      refl,
      begun c.args.name.now c.requires.own _ _ c.in-Ok.ready is c.each_run_has_inputs.ensures _,
    )

pub returns-in-Ok-clause-ends : goal.returns-in-Ok-clause-ends
returns-in-Ok-clause-ends g c =
    let is = prepared_back _ c.args.ports.now.items c.deref_mut.result.now c.prepare.new.ports _ c.args.name.now _ c.in-Ok.ready c.deref_mut.ensures.len
    c.deref_mut.ensures.value c.prepare.ensures.same_names c.as_bytes.ensures.value c.in-Ok.ensures.ready in
    ends_from c.args.name.now c.requires.own _ _ c.in-Ok.ready is c.each_run_has_inputs.ensures _ _ _
    (c.start.ensures.ends (call_of c.args.name.now c.requires.own _ _ c.in-Ok.ready is c.each_run_has_inputs.ensures _) refl
    (begun c.args.name.now c.requires.own _ _ c.in-Ok.ready is c.each_run_has_inputs.ensures _))
