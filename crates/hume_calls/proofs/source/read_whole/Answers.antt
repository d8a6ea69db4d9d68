use Rattle.std.proofs.Common.{arith, sym}
use Rattle.std.proofs.lemmas.Bool.{true≢false}
use Rattle.hume_calls.proofs.Sources.{kept, kept_whole, source_made, source_is, source_short, source_failed}
use Rattle.hume_calls.proofs.source.read_whole.Goals as goal

pub returns-in-Ok-fill_at-clause-made : goal.returns-in-Ok-fill_at-clause-made
returns-in-Ok-fill_at-clause-made g c =
    source_made c.args.most _ _ _ _ _ _ (kept _ _ _ _ _ c.truncate.ensures.items (omega (arith, c.in-Ok.ensures.len))) c.in-Ok-fill_at.ensures.taken c.in-Ok-fill_at.ensures.untouched

pub returns-in-Ok-fill_at-clause-text : goal.returns-in-Ok-fill_at-clause-text
returns-in-Ok-fill_at-clause-text g c =
    source_is c.args.most _ _ _ _ _ (kept _ _ _ _ _ c.truncate.ensures.items (omega (arith, c.in-Ok.ensures.len)))
    (omega (arith, c.in-Ok.ensures.len)) c.in-Ok-fill_at.ensures.front

pub returns-in-Ok-fill_at-clause-whole : goal.returns-in-Ok-fill_at-clause-whole
returns-in-Ok-fill_at-clause-whole g c =
    kept_whole c.args.most _ _ _ _ _ (kept _ _ _ _ _ c.truncate.ensures.items (omega (arith, c.in-Ok.ensures.len)))
    (omega (arith, c.in-Ok.ensures.len)) c.in-Ok-fill_at.ensures.front

pub returns-in-Ok-fill_at-clause-short : goal.returns-in-Ok-fill_at-clause-short
returns-in-Ok-fill_at-clause-short g c =
    source_short c.args.most _ _ _ _ _ (kept _ _ _ _ _ c.truncate.ensures.items (omega (arith, c.in-Ok.ensures.len)))
    (omega (arith, c.in-Ok.ensures.len)) c.in-Ok-fill_at.ensures.front

pub returns-in-Err-clause-failed : goal.returns-in-Err-clause-failed
returns-in-Err-clause-failed g c is = source_failed c.args.most _ _ _ _ (omega (arith, c.in-Ok.ensures.len)) c.in-Err.ensures.failed
    (λ room. absurd (true≢false (sym (c.in-Err.ensures.roomy room)))) c.in-Err.ensures.untouched
