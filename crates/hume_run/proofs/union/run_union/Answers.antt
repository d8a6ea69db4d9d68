use Rattle.std.proofs.Common.{arith, ◌∙◌, ◌∷◌, ◌-◌, ap, refl, sym, inl, length, drop, take, string_bytes, false, Err}
use Rattle.hume_calls.specs.Words.{all_differ}
use Rattle.hume_run.proofs.UnionAnswering.{union_ends, union_read_fails, union_stops}
use Rattle.hume_run.proofs.UnionParts.{broken_ends}
use Rattle.hume_calls.proofs.Taken.{take_rest}
use Rattle.hume_run.proofs.UnionSources.{accepted_by, broken_by, ends_by, fails_by, named_others, programs_many, read_by, stops_by, texts_many}
use Rattle.hume_run.proofs.union.run_union.Goals as goal

pub returns-in-Err-Failed : goal.returns-in-Err-Failed
returns-in-Err-Failed g c named are count place =
    union_read_fails c.args.steps c.args.workers count place named _ c.each_run_has_inputs.ensures (ap all_differ (sym are) ∙ c.requires.differ) _ _
    (fails_by _ _ _ _ (named_others string_bytes c.args.sources.now (take (length c.args.sources.now - 1) (drop 1 c.args.sources.now)) named.source named.others
    (take_rest 1 (length c.args.sources.now - 1) c.args.sources.now (omega arith)) are)
    (c.read_others.ensures.failed (c.in-Err-Failed.is ∙ ap Err c.in-Err-Failed.field-0-is)))

pub returns-in-Err-NoMemory : goal.returns-in-Err-NoMemory
returns-in-Err-NoMemory g c named are count place =
    union_stops c.args.steps c.args.workers count place named _ _ _
    (stops_by _ _ _ _ (named_others string_bytes c.args.sources.now (take (length c.args.sources.now - 1) (drop 1 c.args.sources.now)) named.source named.others
    (take_rest 1 (length c.args.sources.now - 1) c.args.sources.now (omega arith)) are)
    (c.read_others.ensures.memory (c.in-Err-NoMemory.is ∙ ap Err c.in-Err-NoMemory.field-0-is)))

pub accept_all-requires : goal.accept_all-requires
accept_all-requires g c =
    let read = c.in-Ok.ensures.read in
    let least = c.requires.several in
    let many = texts_many string_bytes c.args.sources.now (take (length c.args.sources.now - 1) (drop 1 c.args.sources.now)) c.in-Ok.texts.items _ read.0 _ _
    (take_rest 1 (length c.args.sources.now - 1) c.args.sources.now (omega arith)) (omega (arith, least)) read.1 read.2 in
    let same = ap length c.deref.ensures.value in let few = c.requires.few in omega (arith, many, same, few)

pub run_programs-requires-clause-several : goal.run_programs-requires-clause-several
run_programs-requires-clause-several g c κs within =
    let read = c.in-Ok.ensures.read in
    let least = c.requires.several in
    let many = programs_many string_bytes c.args.sources.now (take (length c.args.sources.now - 1) (drop 1 c.args.sources.now)) c.in-Ok.texts.items
    c.deref.result.now _ read.0 _ _ c.in-Ok-accept_all.programs.items (take_rest 1 (length c.args.sources.now - 1) c.args.sources.now (omega arith))
    (omega (arith, least)) read.1 read.2 c.deref.ensures.value c.in-Ok-accept_all.ensures.accepted in
    omega (arith, many, least)

pub run_programs-requires-clause-few : goal.run_programs-requires-clause-few
run_programs-requires-clause-few g c κs within =
    let read = c.in-Ok.ensures.read in
    let least = c.requires.several in
    let many = programs_many string_bytes c.args.sources.now (take (length c.args.sources.now - 1) (drop 1 c.args.sources.now)) c.in-Ok.texts.items
    c.deref.result.now _ read.0 _ _ c.in-Ok-accept_all.programs.items (take_rest 1 (length c.args.sources.now - 1) c.args.sources.now (omega arith))
    (omega (arith, least)) read.1 read.2 c.deref.ensures.value c.in-Ok-accept_all.ensures.accepted in
    let few = c.requires.few in omega (arith, many, few)

pub run_programs-requires-clause-sources : goal.run_programs-requires-clause-sources
run_programs-requires-clause-sources g c κs within =
    let read = c.in-Ok.ensures.read in
    let least = c.requires.several in
    programs_many string_bytes c.args.sources.now (take (length c.args.sources.now - 1) (drop 1 c.args.sources.now)) c.in-Ok.texts.items
    c.deref.result.now _ read.0 _ _ c.in-Ok-accept_all.programs.items (take_rest 1 (length c.args.sources.now - 1) c.args.sources.now (omega arith))
    (omega (arith, least)) read.1 read.2 c.deref.ensures.value c.in-Ok-accept_all.ensures.accepted

pub returns-in-Ok-accept_all : goal.returns-in-Ok-accept_all
returns-in-Ok-accept_all g c named are count place =
    let read = c.in-Ok.ensures.read in
    union_ends c.args.steps c.args.workers count place named c.args.text.items read.0 _ _ (ap all_differ (sym are) ∙ c.requires.differ)
    (read_by _ _ _ _ (named_others string_bytes c.args.sources.now (take (length c.args.sources.now - 1) (drop 1 c.args.sources.now)) named.source named.others
    (take_rest 1 (length c.args.sources.now - 1) c.args.sources.now (omega arith)) are) read.0 read.2)
    (λ core coming. c.wants_stand_before_rounds.ensures core coming false c.args.steps) _ _
    (ends_by _ _ _ _ are c.args.steps (c.args.text.items ∷ read.0) _ (c.run_programs.ensures (c.args.text.items ∷ read.0)
    (accepted_by c.deref.result.now c.in-Ok.texts.items _ _ c.deref.ensures.value read.1 c.in-Ok-accept_all.ensures.accepted)))

pub returns-in-Err-Refused : goal.returns-in-Err-Refused
returns-in-Err-Refused g c named are count place =
    let read = c.in-Ok.ensures.read in
    union_ends c.args.steps c.args.workers count place named c.args.text.items read.0 _ _ (ap all_differ (sym are) ∙ c.requires.differ)
    (read_by _ _ _ _ (named_others string_bytes c.args.sources.now (take (length c.args.sources.now - 1) (drop 1 c.args.sources.now)) named.source named.others
    (take_rest 1 (length c.args.sources.now - 1) c.args.sources.now (omega arith)) are) read.0 read.2)
    (λ core coming. c.wants_stand_before_rounds.ensures core coming false c.args.steps) _ _
    (broken_ends c.args.steps (named.source ∷ named.others) (c.args.text.items ∷ read.0) _ _ _ c.in-Err-Refused.refusal
    (broken_by c.deref.result.now c.in-Ok.texts.items _ c.in-Err-Refused.refusal c.deref.ensures.value read.1
    (c.accept_all.ensures.refused c.in-Err-Refused.refusal (c.in-Err-Refused.is ∙ ap Err c.in-Err-Refused.field-0-is))) c.refuse_program.ensures)

pub returns : goal.returns
returns g c named are count place =
    let read = c.in-Ok.ensures.read in
    union_ends c.args.steps c.args.workers count place named c.args.text.items read.0 _ _ (ap all_differ (sym are) ∙ c.requires.differ)
    (read_by _ _ _ _ (named_others string_bytes c.args.sources.now (take (length c.args.sources.now - 1) (drop 1 c.args.sources.now)) named.source named.others
    (take_rest 1 (length c.args.sources.now - 1) c.args.sources.now (omega arith)) are) read.0 read.2)
    (λ core coming. c.wants_stand_before_rounds.ensures core coming false c.args.steps) _ _ (inl (refl, refl))
