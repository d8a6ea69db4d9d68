use Rattle.std.proofs.Common.{arith, ◌+◌, ◌-◌, ◌∙◌, map, refl, string_bytes, sym}
use Rattle.hume_calls.proofs.Answering.{meant}
use Rattle.hume_run.proofs.UnionCalls.{lacking, named_sources, not_lacking, not_usage, slice_differs, slice_named, union_headline}
use Rattle.hume_run.proofs.top.ask_union.Goals as goal

pub returns-then-lacks_one-clause-usage : goal.returns-then-lacks_one-clause-usage
returns-then-lacks_one-clause-usage g c =
    let is = c.requires.asked in (
      λ same. lacking (map string_bytes c.args.words.now) _ c.args.steps c.args.workers c.args.count c.args.sources is _
          (slice_named string_bytes c.args.words.now c.args.steps c.args.workers c.args.count c.args.sources is
          (c.args.sources + c.args.count - c.args.sources) (omega arith)) (sym c.lacks_one.ensures ∙ c.if-lacks_one.true),
      λ usage. refl,
    )

pub answer_union-requires-clause-differ : goal.answer_union-requires-clause-differ
answer_union-requires-clause-differ g c κs within =
    slice_differs string_bytes c.args.words.now c.args.steps c.args.workers c.args.count c.args.sources
    c.requires.asked (c.args.sources + c.args.count - c.args.sources) (omega arith)

pub returns-clause-usage : goal.returns-clause-usage
returns-clause-usage g c =
    let is = c.requires.asked in
    let slice = slice_named string_bytes c.args.words.now c.args.steps c.args.workers c.args.count c.args.sources is
    (c.args.sources + c.args.count - c.args.sources) (omega arith) in (
      λ same. absurd (not_usage c.args.steps c.args.workers c.args.count c.args.sources _ _ _
          (named_sources (map string_bytes c.args.words.now) c.args.count c.args.sources)
          (c.answer_union.ensures (named_sources (map string_bytes c.args.words.now) c.args.count c.args.sources) slice c.args.count
          c.args.sources) same),
      λ usage. absurd (not_lacking (map string_bytes c.args.words.now) _ c.args.steps c.args.workers c.args.count c.args.sources is _ slice
          c.args.out (meant _ _ _ c.requires.out) (sym c.lacks_one.ensures ∙ c.if-lacks_one.false) usage),
    )

pub returns-clause-idle : goal.returns-clause-idle
returns-clause-idle g c same =
    absurd (not_usage c.args.steps c.args.workers c.args.count c.args.sources _ _ _
    (named_sources (map string_bytes c.args.words.now) c.args.count c.args.sources)
    (c.answer_union.ensures (named_sources (map string_bytes c.args.words.now) c.args.count c.args.sources)
    (slice_named string_bytes c.args.words.now c.args.steps c.args.workers c.args.count c.args.sources
    c.requires.asked (c.args.sources + c.args.count - c.args.sources) (omega arith))
    c.args.count c.args.sources) same)

pub returns-clause-run : goal.returns-clause-run
returns-clause-run g c =
    union_headline c.args.steps c.args.workers c.args.count c.args.sources _ _ _ (map string_bytes c.args.words.now)
    c.requires.asked
    (c.answer_union.ensures (named_sources (map string_bytes c.args.words.now) c.args.count c.args.sources)
    (slice_named string_bytes c.args.words.now c.args.steps c.args.workers c.args.count c.args.sources
    c.requires.asked (c.args.sources + c.args.count - c.args.sources) (omega arith))
    c.args.count c.args.sources)
