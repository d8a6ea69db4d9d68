use Rattle.std.proofs.Common.{◌≡◌, Result, Err, Vec, Global, subst, sym}
use Rattle.hume_front.specs.declared.acceptance.Accepted.{Accepted}
use Rattle.hume_front.specs.Accepted.{Breaks, IsUnaccepted}
use Rattle.hume_calls.specs.declared.program_refusal.ProgramRefusal.{ProgramRefusal}
use Rattle.hume_run.specs.declared.union.accepting.AcceptError.{AcceptError}
use Rattle.hume_run.specs.declared.union.accepting.AcceptError.TheVariants.{Refused}
use Rattle.hume_calls.specs.Unions.{BreaksFirst}
use Rattle.hume_run.specs.inner.Texts.{texts_of}
use Rattle.hume_run.proofs.ProgramTexts.{accepted_next, breaks_at}
use Rattle.hume_run.proofs.union.accepting.accept_all.Goals as goal

same_refusal : (told refusal : ProgramRefusal) → ◌≡◌ {A = Result (Vec Accepted Global) AcceptError} (Err (Refused told)) (Err (Refused refusal)) → told ≡ refusal
same_refusal told refusal is = cc

pub returns-in-Err-Refused-clause-refused : goal.returns-in-Err-Refused-clause-refused
returns-in-Err-Refused-clause-refused c refusal is =
    subst (BreaksFirst (texts_of c.args.texts.now) 1) (same_refusal _ refusal is)
    (breaks_at c.args.texts.now c.loop-text.text-index c.text-item.result c.deref.result.now c.loop-text-test.true c.text-item.is c.deref.ensures.value
    _ _ c.loop-text.invariant _ (subst (Breaks c.deref.result.now) (sym c.in-Err-Refused.refusal-is)
    (subst (IsUnaccepted c.deref.result.now) c.in-Err-Refused.field-0-is c.in-Err-Refused.ensures.error)))

pub loop-text-preserved : goal.loop-text-preserved
loop-text-preserved c =
    accepted_next c.args.texts.now c.loop-text.text-index c.text-item.result c.deref.result.now c.loop-text-test.true c.text-item.is c.deref.ensures.value
    _ _ _ _ c.loop-text.invariant c.in-Ok.ensures.accepted c.in-Ok-push.ensures.items
