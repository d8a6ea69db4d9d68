-- A demo all of whose memory is taken.
use Rattle.std.specs.Prelude.{◌≡◌}
use Rattle.hume_text.specs.Chunks.{room_of}
use Rattle.trace_print.specs.declared.space_lines.TheConstants.{LINE_BYTES}
use Rattle.phase_workers.specs.Runnable.{IsRunnable}
use Rattle.demo_rounds.specs.Opened.{core_in, IsOpened}
use Rattle.hume_calls.specs.Bounds.{KeepsBounds}
use Rattle.hume_run.specs.declared.demo.showing.OpenedDemo.{OpenedDemo}

-- It stands before its first superstep, has no ports but the report's, and knows the bounds of its boxes.
pub record IsOpenDemo (opened : OpenedDemo) : Type 0 where
  pub runnable : IsRunnable (core_in opened.demo)
  pub demo : IsOpened (core_in opened.demo) opened.demo
  pub bounds : KeepsBounds (core_in opened.demo) opened.costs
  pub room : room_of opened.chunk ≡ LINE_BYTES
