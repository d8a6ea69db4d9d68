-- The core of an accepted source can be run, and keeps its bounds.
use Rattle.std.proofs.Common.{ℕ, List}
use Rattle.hume_net.specs.StatePlaces.{BoxesHandleAll}
use Rattle.hume_front.specs.Accepted.{IsAccepted}
use Rattle.hume_front.specs.declared.acceptance.Accepted.{Accepted}
use Rattle.hume_front.proofs.Sources.{fine_check, formed, wired, within, handled}
use Rattle.phase_workers.specs.Runnable.{IsRunnable}
use Rattle.hume_calls.specs.Bounds.{KeepsBounds}
use Rattle.hume_calls.specs.Ready.{IsReady}
use Rattle.hume_front.proofs.printable_lemmas.NamedConstructors.{have_names}
use Rattle.hume_front.proofs.printable_lemmas.Printable.{printable}

pub runnable : (text : List ℕ) (accepted : Accepted) → IsAccepted text accepted → IsRunnable accepted.core
runnable text accepted h =
    let wires = wired text accepted h in
    record {
      formed = formed text accepted h;
      wired = wires.0;
      agree = wires.1;
      names = have_names text h.program.tokens accepted.program accepted.core h.program.read h.program.spelled (fine_check text accepted h) h.core;
      printable = printable accepted.core (formed text accepted h);
    }

pub bounded : (text : List ℕ) (accepted : Accepted) → IsAccepted text accepted → KeepsBounds accepted.core accepted.costs
bounded text accepted h = record { frame = (formed text accepted h).frame; are = h.costs; within = within text accepted h }

pub handles : (text : List ℕ) (accepted : Accepted) → IsAccepted text accepted → BoxesHandleAll accepted.core
handles text accepted h = handled text accepted h

pub is_ready : (text : List ℕ) (accepted : Accepted) → IsAccepted text accepted
    → IsReady (record { core = accepted.core; wiring = accepted.wiring; costs = accepted.costs })
is_ready text accepted h = record {
  runnable = runnable text accepted h;
  handles = handles text accepted h;
  wiring = h.wiring;
  bounds = bounded text accepted h;
}
