use Rattle.std.proofs.Common.{◌∙◌, ap, sym, string_bytes, Err}
use Rattle.hume_calls.proofs.Answering.{answers_from, source_unread, source_unstarted}
use Rattle.hume_calls.proofs.FitPorts.{found_by}
use Rattle.hume_run.proofs.UnionSources.{named_source}
use Rattle.hume_run.proofs.top.answer_union.Goals as goal

pub returns-in-Ok : goal.returns-in-Ok
returns-in-Ok g c named are count place = answers_from _ _ _ _ _ _ c.in-Some.at _
    (found_by _ named.source _ c.in-Some.at
    (named_source string_bytes c.args.sources.now c.index-sources-0.result c.as_str.result.now named.source named.others are c.index-sources-0.is
    c.as_str.ensures.value)
    (sym c.in-Some.ensures.place)) c.in-Ok.ensures.made c.in-Ok.ensures.text (c.run_union.ensures named are count place)

pub returns-in-Err-Failed : goal.returns-in-Err-Failed
returns-in-Err-Failed g c named are count place = source_unread _ _ _ _ c.in-Some.at
    (found_by _ named.source _ c.in-Some.at
    (named_source string_bytes c.args.sources.now c.index-sources-0.result c.as_str.result.now named.source named.others are c.index-sources-0.is
    c.as_str.ensures.value)
    (sym c.in-Some.ensures.place)) (c.read_source.ensures.failed (c.in-Err-Failed.is ∙ ap Err c.in-Err-Failed.field-0-is))

pub returns-in-Err-NoMemory : goal.returns-in-Err-NoMemory
returns-in-Err-NoMemory g c named are count place =
    source_unstarted _ _ _ _ (c.read_source.ensures.memory (c.in-Err-NoMemory.is ∙ ap Err c.in-Err-NoMemory.field-0-is))
