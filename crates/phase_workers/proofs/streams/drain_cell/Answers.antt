use Rattle.std.proofs.Common.{inr, refl, sym, subst}
use Rattle.hume_text.specs.Bounds.{IsPrintable}
use Rattle.phase_workers.proofs.Indexes.{on_err, on_ok}
use Rattle.phase_workers.proofs.Wires.{printable_type}
use Rattle.phase_workers.proofs.streams.drain_cell.Goals as goal

pub drain_at-requires-clause-printable : goal.drain_at-requires-clause-printable
drain_at-requires-clause-printable g c =
    subst (λ ty. IsPrintable c.args.core.now.types ty) (sym c.stream_type-ty.ensures)
    (printable_type c.args.core.now c.requires.runnable c.args.node (inr c.requires.output))

pub returns-clause-drained : goal.returns-clause-drained
returns-clause-drained g c =
    on_ok c.drain_at.result (λ changed. record {
      log = c.in-Some.log.now;
      later = c.drain_at.new.log;
      had = c.in-Some.ensures.log;
      cell = refl;
      changed =
          changed;
    })
    c.drain_at.ensures.drained

pub returns-clause-kept : goal.returns-clause-kept
returns-clause-kept g c =
    on_err c.drain_at.result (λ changed. record {
      log = c.in-Some.log.now;
      later = c.drain_at.new.log;
      had = c.in-Some.ensures.log;
      cell = refl;
      changed =
          changed;
    })
    c.drain_at.ensures.kept
