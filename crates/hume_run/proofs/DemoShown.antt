-- The parts of a demo in turn: the bounds of all boxes, the chains, the finish.
use Rattle.std.proofs.Common.{◌≡◌, ℕ, List, [], ◌∷◌, ◌++◌, Result, refl, sym, ◌∙◌, subst, inl, inr}
use Rattle.hume_ports.specs.declared.port.Failed.{Failed}
use Rattle.hume_ports.specs.Port.{PortView}
use Rattle.hume_ports.specs.Ports.{names, ForNameAt}
use Rattle.hume_ports.proofs.Names.{place-kept}
use Rattle.hume_model.specs.declared.core_tree.Core.{Core}
use Rattle.port_acts.specs.Acts.{Act, writes, finishes}
use Rattle.port_acts.specs.Ends.{never, Made, Fails, Ends}
use Rattle.port_acts.specs.Places.{IsPlaceOf}
use Rattle.port_acts.proofs.Failing.{Fails-stop, Fails-on, Ends-on}
use Rattle.hume_front.specs.declared.acceptance.Accepted.{Accepted}
use Rattle.hume_front.specs.Accepted.{IsAccepted}
use Rattle.demo_net.specs.Source.{demo_text}
use Rattle.run_rounds.specs.Streams.{std_out}
use Rattle.demo_rounds.specs.Chains.{demo_lines}
use Rattle.demo_rounds.specs.Opened as demos
use Rattle.demo_rounds.specs.declared.demo.Demo.{Demo}
use Rattle.trace_print.specs.InTurn.{lines_to}
use Rattle.trace_print.specs.table.Table.{total_line_of}
use Rattle.hume_calls.specs.declared.status.Status.{Status}
use Rattle.hume_calls.specs.declared.status.Status.TheVariants.{Done, Fault}
use Rattle.hume_calls.specs.Owed.{owed_demo}
use Rattle.hume_calls.specs.Ended.{EndsDemo, EndsOwed, EndsRefused}
use Rattle.hume_run.specs.declared.demo.showing.OpenedDemo.{OpenedDemo}
use Rattle.hume_calls.specs.Bounds.{KeepsBounds}
use Rattle.hume_run.specs.inner.Opening.{IsOpenDemo}
use Rattle.hume_text.specs.Chunks.{room_of}
use Rattle.phase_workers.specs.Runnable.{IsRunnable}
use Rattle.trace_print.specs.declared.space_lines.TheConstants.{LINE_BYTES}
use Rattle.hume_calls.proofs.Answering.{meant}

module _ (steps : ℕ) (core : Core) where
  abbrev total : List Act
  total = writes std_out (total_line_of core) ∷ []

  abbrev chains : List Act
  chains = lines_to std_out (demo_lines core steps)

  module _ (olds : List PortView) (out : ℕ) (place : IsPlaceOf std_out (names olds) out) where
    -- the line of all boxes failed
    pub total_failed : (news : List PortView) → ForNameAt out olds (λ name. Fails never [] (lines_to name (total_line_of core ∷ [])) olds news)
        → Fails never [] (owed_demo steps core).acts olds news
    total_failed news fails =
        Fails-stop never [] total (chains ++ finishes std_out ∷ []) olds news (fails std_out (meant std_out (names olds) out place))

    module _ (mids : List PortView) (made : ForNameAt out olds (λ name. Made (lines_to name (total_line_of core ∷ [])) [] olds mids)) where
      total_made : Made total [] olds mids
      total_made = made std_out (meant std_out (names olds) out place)

      -- a chain's line failed
      pub chains_failed : (news : List PortView) → names mids ≡ names olds
          → ForNameAt out mids (λ name. Fails never [] (lines_to name (demo_lines core steps)) mids news) → Fails never [] (owed_demo steps core).acts olds news
      chains_failed news same fails =
          Fails-on never [] [] total (chains ++ finishes std_out ∷ []) olds mids news total_made
          (Fails-stop never [] chains (finishes std_out ∷ []) mids news
          (fails std_out (place-kept olds mids out std_out same (meant std_out (names olds) out place))))

      -- all was told
      pub demo_ends : (lates news : List PortView) (result : Result (Unit {0}) Failed) → names mids ≡ names olds
          → ForNameAt out mids (λ name. Made (lines_to name (demo_lines core steps)) [] mids lates) → names lates ≡ names mids
          → ForNameAt out lates (λ name. Ends never [] (finishes name ∷ []) [] lates news result)
          → Ends never [] (owed_demo steps core).acts [] olds news result
      demo_ends lates news result mid chained late ends =
          Ends-on never [] [] [] total (chains ++ finishes std_out ∷ []) olds mids news result total_made
          (Ends-on never [] [] [] chains (finishes std_out ∷ []) mids lates news result
          (chained std_out (place-kept olds mids out std_out mid (meant std_out (names olds) out place)))
          (ends std_out (place-kept olds lates out std_out (late ∙ mid) (meant std_out (names olds) out place))))

pub demo_told : (steps : ℕ) (olds news : List PortView) (core other : Core) → other ≡ core → Made (owed_demo steps other).acts [] olds news
    → EndsOwed (owed_demo steps core) olds news Done
demo_told steps olds news core other same made = inr (inl (refl, [], subst (λ c. Made (owed_demo steps c).acts [] olds news) same made))

pub demo_failed : (steps : ℕ) (olds news : List PortView) (core other : Core) → other ≡ core → Fails never [] (owed_demo steps other).acts olds news
    → EndsOwed (owed_demo steps core) olds news Fault
demo_failed steps olds news core other same fails = inr (inr (refl, subst (λ c. Fails never [] (owed_demo steps c).acts olds news) same fails))

-- the demo of an accepted source
pub shown : (number steps : ℕ) (text : List ℕ) (olds news : List PortView) (status : Status) (accepted : Accepted) → text ≡ demo_text number
    → IsAccepted text accepted → EndsOwed (owed_demo steps accepted.core) olds news status → EndsDemo number steps olds news status
shown number steps text olds news status accepted is is_accepted (inl out) = inl out
shown number steps text olds news status accepted is is_accepted (inr ends) =
    inr (owed_demo steps accepted.core, inr (accepted, subst (λ t. IsAccepted t accepted) is is_accepted, refl), ends)

-- and of one that isn't
pub unshown : (number steps : ℕ) (text : List ℕ) (olds news : List PortView) (status : Status) → text ≡ demo_text number → EndsRefused text olds news status
    → EndsDemo number steps olds news status
unshown number steps text olds news status is refused = unshown_text number steps olds news status (subst (λ t. EndsRefused t olds news status) is refused)
  where
    unshown_text : (number steps : ℕ) (olds news : List PortView) (status : Status) → EndsRefused (demo_text number) olds news status
        → EndsDemo number steps olds news status
    unshown_text number steps olds news status (inl out) = inl out
    unshown_text number steps olds news status (inr (refusal, breaks, inl out)) = inl out
    unshown_text number steps olds news status (inr (refusal, breaks, inr ends)) = inr (_, inl (refusal, breaks, refl), ends)

-- it is open as what it is
pub itself_shown : (core : Core) (its : Demo) → demos.IsOpened core its → demos.IsOpened (demos.core_in its) its
itself_shown core its is = subst (λ c. demos.IsOpened c its) (sym is.is_core) is

pub shown_open : (core : Core) (opened : OpenedDemo) → IsRunnable core → KeepsBounds core opened.costs → demos.IsOpened core opened.demo
    → room_of opened.chunk ≡ LINE_BYTES → IsOpenDemo opened
shown_open core opened runnable bounds shown room =
    let is_core : core ≡ demos.core_in opened.demo = sym shown.is_core in
    record {
      runnable = subst IsRunnable is_core runnable;
      demo = itself_shown core opened.demo shown;
      bounds = subst (λ (c : Core). KeepsBounds c opened.costs) is_core bounds;
      room = room;
    }
