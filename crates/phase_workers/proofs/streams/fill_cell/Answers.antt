use Rattle.std.proofs.Common.{◌≡◌, ◌≤◌, Some, ap, inl, refl, sym, ◌∙◌, subst}
use Rattle.hume_base.specs.Sizes.{size_of}
use Rattle.hume_streams.specs.declared.queue.InQueue.{InQueue}
use Rattle.hume_streams.specs.Queues.{queue_view}
use Rattle.hume_text.specs.Bounds.{IsPrintable}
use Rattle.phase_workers.proofs.Wires.{printable_type}
use Rattle.phase_workers.proofs.streams.fill_cell.Goals as goal

pub fill_at-filled-requires-clause-printable : goal.fill_at-filled-requires-clause-printable
fill_at-filled-requires-clause-printable g c =
    subst (λ ty. IsPrintable c.args.core.now.types ty) (sym c.stream_type-ty.ensures)
    (printable_type c.args.core.now c.requires.runnable c.args.node (inl c.requires.input))

pub fill_at-filled-requires-clause-own_type : goal.fill_at-filled-requires-clause-own_type
fill_at-filled-requires-clause-own_type g c =
    let had = c.requires.queue in
    let same : had.0 ≡ c.in-Some.queue.now = (let both : Some had.0 ≡ Some c.in-Some.queue.now = sym had.1 ∙ c.in-Some.ensures.queue in cc) in
    ap (size_of c.args.core.now.types) c.stream_type-ty.ensures ∙ had.2 ∙ ap (λ (q : InQueue). (queue_view q).width) same

pub fill_at-filled-requires-clause-span : goal.fill_at-filled-requires-clause-span
fill_at-filled-requires-clause-span g c =
    let had = c.requires.queue in
    let same : had.0 ≡ c.in-Some.queue.now = (let both : Some had.0 ≡ Some c.in-Some.queue.now = sym had.1 ∙ c.in-Some.ensures.queue in cc) in
    subst (λ (q : InQueue). c.args.want ≤ (queue_view q).span) same had.3

pub returns-clause-filled : goal.returns-clause-filled
returns-clause-filled g c =
    rw (← c.stream_type-ty.ensures) (record {
      queue = c.in-Some.queue.now;
      later = c.fill_at-filled.new.queue;
      had = c.in-Some.ensures.queue;
      cell = refl;
      state = c.then.ensures;
      step = c.fill_at-filled.ensures.step;
      fills = c.fill_at-filled.ensures.fills;
    })
