-- How what runs of a result is made up, as what is spent is.
use Rattle.std.proofs.Common.{◌≡◌, ℕ, ◌+◌, ◌≤◌, max, List, [], ◌∷◌, ◌++◌, Option, Some, None, refl, sym, ◌∙◌, subst, arith, append_assoc, if◌then◌else◌}
use Rattle.std.specs.Option.{is_some}
use Rattle.hume_base.specs.declared.types.Value.{Value}
use Rattle.hume_model.specs.declared.outcome.Outcome.{Outcome}
use Rattle.hume_model.specs.declared.outcome.Outcome.TheVariants.{Gives, Raises}
use Rattle.hume_model.specs.declared.outcome.Outputs.{Outputs}
use Rattle.hume_model.specs.declared.outcome.Outputs.TheVariants.{Asserts, Throws}
use Rattle.hume_model.specs.Outcomes.{on_match}
use Rattle.box_costs.specs.declared.cost.Cost.{Cost}
use Rattle.box_costs.specs.Costs.{instructions, above, both}
use Rattle.box_costs.specs.PatternTests.{Tried}
use Rattle.box_costs.specs.Spending.{Spent, after}
use Rattle.box_costs.specs.ResultSpending.{go_on_outputs, result_taken}
use Rattle.box_heap.specs.Heaps.{Object}
use Rattle.box_code.specs.Machine.{Setting, Machine, EndsAfter, used}
use Rattle.code_laws.specs.Running.{Comes, later, Gave, Runs}
use Rattle.code_laws.specs.Ending.{ResultRuns, ResultRunsSpent}
use Rattle.code_laws.proofs.Heaps.{used-append}
use Rattle.code_laws.proofs.Steps.{append_nil, moved, alike, goes_on, becomes}
use Rattle.code_laws.proofs.Combine.{reached, after_threw, over_threw, no_more}

module _ (s : Setting) where
  pub ends_later : (m n o : Machine) (a b : ℕ) → Comes s m n a → EndsAfter s n o b → EndsAfter s m o (a + b)
  ends_later m n o a b f e = record {
    last = e.last;
    before = a + e.before;
    goes = (goes_on s m n e.last a e.before f (record { leads = e.goes })).leads;
    ends = e.ends;
    counted = (let x = e.counted in omega (arith, x));
  }

  module _ (m : Machine) (high : ℕ) where
    -- a stretch, and then the rest
    pub after_outputs_run : (a : ℕ) (t : List ℕ) (more : List Object) (c : Cost) (o : Outputs) (k : Cost)
        → Comes s m (later m a t more (high + c.stack)) c.work → used more ≡ c.heap
        → ResultRuns s (later m a t more (high + c.stack)) high o k → ResultRuns s m high o (both c k)
    after_outputs_run a t more c (Asserts outs) k f size g = record {
      end = g.end;
      more = more ++ g.more;
      size = (let u = used-append more g.more in let z = g.size in omega (arith, u, size, z));
      comes = ends_later m _ g.end c.work k.work f g.comes;
      gives = g.gives;
      objects = g.objects ∙ append_assoc m.objects more g.more;
      peak = (let p = g.peak in omega (arith, p));
      raised = g.raised;
    }
    after_outputs_run a t more c (Throws exn carried) k f size g = after_threw s m high a t more c exn carried k f size g

    -- with more words below
    pub over_outputs_run : (words : ℕ) (o : Outputs) (k : Cost) → ResultRuns s m (high + words) o k → ResultRuns s m high o (above words k)
    over_outputs_run words (Asserts outs) k g = record {
      end = g.end;
      more = g.more;
      size = g.size;
      comes = g.comes;
      gives = g.gives;
      objects = g.objects;
      peak = (let p = g.peak in omega (arith, p));
      raised = g.raised;
    }
    over_outputs_run words (Throws exn carried) k g = over_threw s m high words exn carried k g

    -- goes on with a value
    pub then_outputs_run : (low : List ℕ) (mid : ℕ) (x : Outcome) (c : Cost) (go : Value → Spent Outputs) → Runs s m low high mid x c
        → ((v : Value) → x ≡ Gives v → (g : Gave s m low high mid v c) → ResultRunsSpent s (reached s m low high mid v c g) high (go v))
        → ResultRunsSpent s m high (after c (go_on_outputs x go))
    then_outputs_run low mid (Gives v) c go g next =
        after_outputs_run mid (low ++ g.word ∷ []) g.more c (go v).outcome (go v).cost g.comes g.size (next v refl g)
    then_outputs_run low mid (Raises exn carried) c go g next = no_more s m high exn carried c g

    -- instructions that leave the stack no higher, and then the rest
    pub instr_outputs_run : (a : ℕ) (t : List ℕ) (count : ℕ) (o : Outputs) (k : Cost) → high ≤ m.peak → Comes s m (moved m a t) count
        → ResultRuns s (later m a t [] (high + 0)) high o k → ResultRuns s m high o (both (instructions count) k)
    instr_outputs_run a t count o k low f g =
        after_outputs_run a t [] (instructions count) o k
        (becomes s f (alike m refl refl (let p : m.peak ≡ max m.peak (high + 0) = omega (arith, low) in p) (sym (append_nil m.objects))) refl) refl g

    -- what follows tests, by whether all passed
    pub trial_outputs_run : (tested other : ℕ) (t : Tried) (go : List Value → Spent Outputs) (rest : Spent Outputs) → high ≤ m.peak
        → (found : Option (List Value)) → t.passed ≡ is_some found → Comes s m (moved m (if t.passed then tested else other) m.stack) t.tests
        → ((vs : List Value) → found ≡ Some vs → ResultRunsSpent s (later m tested m.stack [] (high + 0)) high (result_taken go vs))
        → ResultRunsSpent s (later m other m.stack [] (high + 0)) high rest
        → ResultRunsSpent s m high (after (instructions t.tests) (on_match found (result_taken go) rest))
    trial_outputs_run tested other t go rest low None passed f matched_runs other_runs =
        instr_outputs_run other m.stack t.tests rest.outcome rest.cost low (subst (λ b. Comes s m (moved m (if b then tested else other) m.stack) t.tests) passed f) other_runs
    trial_outputs_run tested other t go rest low (Some vs) passed f matched_runs other_runs =
        instr_outputs_run tested m.stack t.tests (result_taken go vs).outcome (result_taken go vs).cost low
        (subst (λ b. Comes s m (moved m (if b then tested else other) m.stack) t.tests) passed f) (matched_runs vs refl)
