-- The parts of a run that is logged, in turn: its acts, and the finishes.
use Rattle.std.proofs.Common.{◌≡◌, ℕ, Bool, true, false, List, [], ◌∷◌, ◌++◌, Option, None, Some, Result, Ok, Err, refl, ap, sym, ◌∙◌, subst, inl, inr}
use Rattle.std.specs.Option.{is_some}
use Rattle.hume_ports.specs.declared.port.Failed.{Failed}
use Rattle.hume_ports.specs.Port.{PortView}
use Rattle.hume_ports.specs.Ports.{place_of}
use Rattle.hume_model.specs.declared.core_tree.Core.{Core}
use Rattle.port_acts.specs.Acts.{AreNamed, finishes, finish_each}
use Rattle.port_acts.specs.Ends.{never, Made, Fails, Ends}
use Rattle.port_acts.specs.Places.{IsPlaceOf}
use Rattle.port_acts.proofs.Failing.{Fails-stop, Ends-any, Ends-on}
use Rattle.run_rounds.specs.RunActs.{run_few}
use Rattle.run_rounds.specs.Streams.{std_out}
use Rattle.log_rounds.specs.declared.verdict.Verdict.{Verdict}
use Rattle.log_rounds.specs.Supersteps.{blocked_superstep}
use Rattle.log_rounds.specs.RecordActs.{record_acts}
use Rattle.log_rounds.specs.VerifyActs.{verify_acts, verify_few}
use Rattle.log_rounds.specs.Ended as ended
use Rattle.hume_calls.specs.declared.status.Status.{Status}
use Rattle.hume_calls.specs.declared.status.Status.TheVariants.{Done, BadValue, Fault}
use Rattle.hume_calls.specs.Owed.{run_status, verdict_status}
use Rattle.hume_run.specs.inner.LogEnds.{RecordEnds, Records, Verifies, VerifyEnds}
use Rattle.hume_calls.proofs.Answering.{meant}
use Rattle.hume_calls.proofs.FitPorts.{found_named}

-- the ports at two places
pub both_named : (ns later : List (List ℕ)) (first second : List ℕ) (at place : ℕ) → IsPlaceOf first ns at → IsPlaceOf second ns place → later ≡ ns
    → AreNamed later (at ∷ place ∷ []) (first ∷ second ∷ [])
both_named ns later first second at place is also same =
    subst (λ (names : List (List ℕ)). AreNamed names (at ∷ place ∷ []) (first ∷ second ∷ [])) (sym same) (meant first ns at is, (meant second ns place also, tt))

pub place_later : (ns later : List (List ℕ)) (name : List ℕ) (at : ℕ) → IsPlaceOf name ns at → later ≡ ns → place_of name later ≡ Some at
place_later ns later name at is same = ap (place_of name) same ∙ meant name ns at is

-- what holds of the name at a place holds of each name that means the port there
pub one_port : (ns : List (List ℕ)) (at : ℕ) (port : List ℕ) (P : List ℕ → Type 0) → IsPlaceOf port ns at → P port → (name : List ℕ) → place_of name ns ≡ Some at
    → P name
one_port ns at port P is its name here = subst P (sym is.named ∙ found_named name ns at here) its

module _ (log : List ℕ) (steps : ℕ) (core : Core) where
  -- a run that is recorded

  pub record_failed : (olds news : List PortView) (failed : Failed) → ended.FailsToRecord core log steps olds news → RecordEnds log steps core olds news (Err failed)
  record_failed olds news failed f = record {
    comes = f.comes;
    taken = [];
    ends = Fails-stop (run_few core) [] (record_acts core f.comes.inputs log steps) (finish_each (log ∷ std_out ∷ [])) olds news f.fails;
    blocked = tt;
  }

  module _ (olds mids news : List PortView) (blocked : Bool) (r : ended.Records core log steps olds mids blocked) where
    recorded : (result : Result (Unit {0}) Failed) → Ends never [] (finish_each (log ∷ std_out ∷ [])) [] mids news result
        → Ends (run_few core) [] (record_acts core r.comes.inputs log steps ++ finish_each (log ∷ std_out ∷ [])) (r.taken ++ []) olds news result
    recorded result e =
        Ends-on (run_few core) [] r.taken [] (record_acts core r.comes.inputs log steps) (finish_each (log ∷ std_out ∷ [])) olds mids news result r.made
        (Ends-any (run_few core) r.taken (finish_each (log ∷ std_out ∷ [])) [] mids news result e)

    pub record_made : Made (finish_each (log ∷ std_out ∷ [])) [] mids news → RecordEnds log steps core olds news (Ok blocked)
    record_made e = record { comes = r.comes; taken = r.taken ++ []; ends = recorded (Ok tt) e; blocked = r.blocks }

    pub record_unfinished : (failed : Failed) → Fails never [] (finish_each (log ∷ std_out ∷ [])) mids news
        → RecordEnds log steps core olds news (Err failed)
    record_unfinished failed e = record { comes = r.comes; taken = []; ends = recorded (Err failed) e; blocked = tt }

  -- the answer, by how it ended

  status_is : (o : Option ℕ) (blocked : Bool) → blocked ≡ is_some o → (status : Status) → (blocked ≡ true → status ≡ BadValue)
      → (blocked ≡ false → status ≡ Done) → status ≡ run_status o
  status_is None true is status bad good = cc
  status_is None false is status bad good = good refl
  status_is (Some round) true is status bad good = bad refl
  status_is (Some round) false is status bad good = cc

  abbrev RecordEnded : List PortView → List PortView → Result Bool Failed → Type 0
  RecordEnded olds news result = RecordEnds log steps core olds news result

  pub record_blocked : (olds news : List PortView) (result : Result Bool Failed) → result ≡ Ok true → RecordEnded olds news result
      → Records log steps core olds news BadValue
  record_blocked olds news result is ends = let e = subst (RecordEnded olds news) is ends in record {
    comes = e.comes;
    ends = inl (
      status_is (blocked_superstep core e.comes.inputs steps) true e.blocked BadValue (λ same. refl) (λ same. cc),
      e.taken,
      e.ends,
    );
  }

  pub record_done : (olds news : List PortView) (result : Result Bool Failed) → result ≡ Ok false → RecordEnded olds news result
      → Records log steps core olds news Done
  record_done olds news result is ends = let e = subst (RecordEnded olds news) is ends in record {
    comes = e.comes;
    ends = inl (
      status_is (blocked_superstep core e.comes.inputs steps) false e.blocked Done (λ same. cc) (λ same. refl),
      e.taken,
      e.ends,
    );
  }

  pub record_faulted : (olds news : List PortView) (failed : Failed) → RecordEnds log steps core olds news (Err failed)
      → Records log steps core olds news Fault
  record_faulted olds news failed e = record { comes = e.comes; ends = inr (refl, e.ends) }

  -- a run by which a log is verified

  pub verify_failed : (olds news : List PortView) (failed : Failed) → ended.FailsToVerify core log steps olds news → VerifyEnds log steps core olds news (Err failed)
  verify_failed olds news failed f = record {
    comes = f.comes;
    outcome = f.outcome;
    is = f.is;
    taken = [];
    ends = Fails-stop (verify_few core log) [] (verify_acts core f.comes.inputs log steps f.outcome) (finishes std_out ∷ []) olds news f.fails;
    answer = tt;
  }

  module _ (olds mids news : List PortView) (verdict : Verdict) (v : ended.Verifies core log steps olds mids verdict) where
    verified : (result : Result (Unit {0}) Failed) → Ends never [] (finishes std_out ∷ []) [] mids news result
        → Ends (verify_few core log) [] (verify_acts core v.comes.inputs log steps v.outcome ++ finishes std_out ∷ []) (v.taken ++ []) olds news result
    verified result e =
        Ends-on (verify_few core log) [] v.taken [] (verify_acts core v.comes.inputs log steps v.outcome) (finishes std_out ∷ []) olds mids news result v.made
        (Ends-any (verify_few core log) v.taken (finishes std_out ∷ []) [] mids news result e)

    pub verify_made : Made (finishes std_out ∷ []) [] mids news → VerifyEnds log steps core olds news (Ok verdict)
    verify_made e = record { comes = v.comes; outcome = v.outcome; is = v.is; taken = v.taken ++ []; ends = verified (Ok tt) e; answer = v.answer }

    pub verify_unfinished : (failed : Failed) → Fails never [] (finishes std_out ∷ []) mids news → VerifyEnds log steps core olds news (Err failed)
    verify_unfinished failed e = record { comes = v.comes; outcome = v.outcome; is = v.is; taken = []; ends = verified (Err failed) e; answer = tt }

  abbrev VerifyEnded : List PortView → List PortView → Result Verdict Failed → Type 0
  VerifyEnded olds news result = VerifyEnds log steps core olds news result

  pub verify_told : (olds news : List PortView) (result : Result Verdict Failed) (verdict : Verdict) (status : Status) → result ≡ Ok verdict
      → VerifyEnded olds news result → status ≡ verdict_status verdict → Verifies log steps core olds news status
  verify_told olds news result verdict status is ends answer = let e = subst (VerifyEnded olds news) is ends in record {
    comes = e.comes;
    outcome = e.outcome;
    is = e.is;
    ends = inl (by e.answer, e.taken, e.ends);
  }
    where
      by : {other : Verdict} → verdict ≡ other → status ≡ verdict_status other
      by same = subst (λ (v : Verdict). status ≡ verdict_status v) same answer

  pub verify_faulted : (olds news : List PortView) (failed : Failed) → VerifyEnds log steps core olds news (Err failed)
      → Verifies log steps core olds news Fault
  verify_faulted olds news failed e = record { comes = e.comes; outcome = e.outcome; is = e.is; ends = inr (refl, e.ends) }
