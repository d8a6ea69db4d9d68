-- The parts of a run in turn: the table, its rounds, the finishes.
use Rattle.std.proofs.Common.{◌≡◌, ℕ, Bool, true, false, List, [], ◌++◌, Option, None, Some, Result, Ok, Err, if◌then◌else◌, refl, subst, inl, inr}
use Rattle.std.specs.Option.{is_some}
use Rattle.hume_ports.specs.declared.port.Failed.{Failed}
use Rattle.hume_ports.specs.Port.{PortView}
use Rattle.hume_model.specs.declared.core_tree.Core.{Core}
use Rattle.port_acts.specs.Acts.{Act, write_each, finish_each}
use Rattle.port_acts.specs.Ends.{never, Made, Fails, Ends}
use Rattle.port_acts.proofs.Failing.{Fails-on, Fails-stop, Fails-any, Ends-on, Ends-any}
use Rattle.run_rounds.specs.Inputs.{Inputs, AreInputs}
use Rattle.run_rounds.specs.RunActs.{run_acts, run_few}
use Rattle.run_rounds.specs.Writes.{span_of, blocked_round}
use Rattle.run_rounds.specs.Runs.{RunsTo, FailsToRun}
use Rattle.hume_calls.specs.declared.status.Status.TheVariants.{Done, BadValue, Fault}
use Rattle.hume_calls.specs.Owed.{table_writes, run_finishes, run_status}
use Rattle.hume_calls.specs.Ended.{RunsCore}
use Rattle.hume_calls.specs.inner.RunEnds.{RunEnds}
use Rattle.hume_calls.proofs.Texts.{comes_before, some_comes}

module _ (traced : Bool) (steps : ℕ) (core : Core) where
  abbrev table : List Act
  table = write_each (table_writes core)

  abbrev run : Inputs → List Act
  run inputs = run_acts core inputs traced steps

  abbrev finishing : List Act
  finishing = finish_each (run_finishes core)

  -- a write of the table failed
  pub table_failed : (olds news : List PortView) (failed : Failed) → ((texts : List ℕ → List ℕ) → (inputs : Inputs) × AreInputs core texts inputs)
      → Fails never [] table olds news → RunEnds traced steps core olds news (Err failed)
  table_failed olds news failed some f =
      let comes = some_comes core olds some in
      record {
        comes = comes;
        taken = [];
        ends = Fails-stop (run_few core) [] table (run comes.inputs ++ finishing) olds news (Fails-any (run_few core) [] table olds news f);
        blocked = tt;
      }

  -- an act of the run failed
  pub rounds_failed : (olds mids news : List PortView) (failed : Failed) → Made table [] olds mids → FailsToRun core traced steps mids news
      → RunEnds traced steps core olds news (Err failed)
  rounds_failed olds mids news failed m f = record {
    comes = comes_before core table olds mids m f.comes;
    taken = [];
    ends = Fails-on (run_few core) [] [] table (run f.comes.inputs ++ finishing) olds mids news m
        (Fails-stop (run_few core) [] (run f.comes.inputs) finishing mids news f.fails);
    blocked = tt;
  }

  module _ (olds mids lates news : List PortView) (blocked : Bool) (m : Made table [] olds mids) (runs : RunsTo core traced steps mids lates blocked) where
    in_turn : (result : Result (Unit {0}) Failed) → Ends never [] finishing [] lates news result
        → Ends (run_few core) [] (table ++ (run runs.comes.inputs ++ finishing)) (runs.taken ++ []) olds news result
    in_turn result e =
        Ends-on (run_few core) [] [] (runs.taken ++ []) table (run runs.comes.inputs ++ finishing) olds mids news result m
        (Ends-on (run_few core) [] runs.taken [] (run runs.comes.inputs) finishing mids lates news result runs.made
        (Ends-any (run_few core) runs.taken finishing [] lates news result e))

    -- all was made
    pub run_made : Made finishing [] lates news → RunEnds traced steps core olds news (Ok blocked)
    run_made e = record {
      comes = comes_before core table olds mids m runs.comes;
      taken = runs.taken ++ [];
      ends = in_turn (Ok tt) e;
      blocked = runs.blocks;
    }

    -- a finish failed
    pub finish_failed : (failed : Failed) → Fails never [] finishing lates news → RunEnds traced steps core olds news (Err failed)
    finish_failed failed e = record {
      comes = comes_before core table olds mids m runs.comes;
      taken = [];
      ends = in_turn (Err failed) e;
      blocked = tt;
    }

  -- the answer, by how the run ended

  answered : (o : Option ℕ) (blocked : Bool) → blocked ≡ is_some o → run_status (if blocked then Some 0 else None) ≡ run_status o
  answered None true is = cc
  answered None false is = refl
  answered (Some round) true is = refl
  answered (Some round) false is = cc

  abbrev Ended : List PortView → List PortView → Result Bool Failed → Type 0
  Ended olds news result = RunEnds traced steps core olds news result

  pub run_blocked : (olds news : List PortView) (result : Result Bool Failed) → result ≡ Ok true → Ended olds news result
      → RunsCore traced steps core olds news BadValue
  run_blocked olds news result is ends = let e = subst (Ended olds news) is ends in record {
    comes = e.comes;
    ends = inl (answered (blocked_round core e.comes.inputs (span_of traced) steps) true e.blocked, e.taken, e.ends);
  }

  pub run_done : (olds news : List PortView) (result : Result Bool Failed) → result ≡ Ok false → Ended olds news result
      → RunsCore traced steps core olds news Done
  run_done olds news result is ends = let e = subst (Ended olds news) is ends in record {
    comes = e.comes;
    ends = inl (answered (blocked_round core e.comes.inputs (span_of traced) steps) false e.blocked, e.taken, e.ends);
  }

  pub run_faulted : (olds news : List PortView) (failed : Failed) → RunEnds traced steps core olds news (Err failed)
      → RunsCore traced steps core olds news Fault
  run_faulted olds news failed e = record { comes = e.comes; ends = inr (refl, e.ends) }
