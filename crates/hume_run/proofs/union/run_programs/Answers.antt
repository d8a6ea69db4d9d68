use Rattle.std.proofs.Common.{◌∙◌, ap, sym, subst, List, Err}
use Rattle.std.specs.List.{All}
use Rattle.hume_front.specs.declared.acceptance.Accepted.{Accepted}
use Rattle.union_front.specs.Unions.{IsSoundProgram, PassesAt, first_of, others_of}
use Rattle.hume_calls.specs.Unions.{AreAccepted}
use Rattle.hume_run.proofs.UnionParts.{all_bounded, all_sound, apart_again, fit_again, over_ends, ports_end, union_again}
use Rattle.hume_run.proofs.union.run_programs.Goals as goal

pub returns-in-Err-Refused : goal.returns-in-Err-Refused
returns-in-Err-Refused g c texts are = ports_end _ _ _ _ _ _ (subst (AreAccepted texts) (sym c.deref.ensures.value) are) _ _
    (c.check_ports.ensures.refused _ (c.in-Err-Refused.is ∙ ap Err c.in-Err-Refused.field-0-is)) c.refuse_program.ensures

pub unite_all-requires-clause-sound : goal.unite_all-requires-clause-sound
unite_all-requires-clause-sound g c = subst (All IsSoundProgram) (sym c.deref-2.ensures.value) (all_sound _ _ c.requires.accepted.1)

pub run_united-requires-clause-bounded : goal.run_united-requires-clause-bounded
run_united-requires-clause-bounded g c κs within = all_bounded _ _ c.requires.accepted.1

pub returns-in-Err-OverLimit : goal.returns-in-Err-OverLimit
returns-in-Err-OverLimit g c texts are =
    over_ends _ _ _ _ _ c.deref.result.now (subst (AreAccepted texts) (sym c.deref.ensures.value) are) c.in-Ok.ensures.fit c.in-Ok.ensures.apart _
    c.in-Err-OverLimit.program _
    (subst (λ (programs : List Accepted). PassesAt (first_of programs) (others_of programs) 2 c.in-Err-OverLimit.program)
    (c.deref-2.ensures.value ∙ sym c.deref.ensures.value)
    (c.unite_all.ensures.passes _ (c.in-Err-OverLimit.is ∙ ap Err c.in-Err-OverLimit.field-0-is))) c.over_limit.ensures
    c.refuse_program-in-Err-OverLimit.ensures

pub run_united-requires-clause-union : goal.run_united-requires-clause-union
run_united-requires-clause-union g c κs within = union_again _ _ _ c.deref-2.ensures.value c.in-Ok-unite_all.ensures.union

pub run_united-requires-clause-fit : goal.run_united-requires-clause-fit
run_united-requires-clause-fit g c κs within = fit_again _ _ _ _ c.deref.ensures.value c.in-Ok.ensures.fit

pub run_united-requires-clause-apart : goal.run_united-requires-clause-apart
run_united-requires-clause-apart g c κs within = apart_again _ _ _ c.deref.ensures.value c.in-Ok.ensures.apart

pub run_united-requires-clause-out : goal.run_united-requires-clause-out
run_united-requires-clause-out g c κs within = c.requires.out
