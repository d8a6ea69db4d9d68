-- A session owes one course.
use Rattle.std.proofs.Common.{◌≡◌, ℕ, ◌+◌, Bool, true, false, cond, ◌&&◌, nat_lt, List, [], ◌∷◌, ◌++◌, length, take, drop, Option, None, Some, refl, ap, sym, ◌∙◌, subst, inl, inr}
use Rattle.std.specs.Prelude.{slice_get, if◌then◌else◌}
use Rattle.std.specs.List.{find, range_with_len}
use Rattle.std.specs.Option.{is_some, unwrap_or}
use Rattle.std.proofs.Math.Path.{fun_ext}
use Rattle.hume_base.specs.declared.types.Value.{Value}
use Rattle.hume_base.specs.declared.rule.Refusal.{Refusal}
use Rattle.hume_base.specs.declared.rule.Rule.TheVariants.{C55}
use Rattle.hume_model.specs.declared.core_tree.NodeC.{NodeC}
use Rattle.hume_model.specs.declared.core_tree.NodeC.TheVariants.{Rules, From, To}
use Rattle.hume_model.specs.declared.core_tree.StreamC.{StreamC}
use Rattle.hume_model.specs.declared.core_tree.Core.{Core}
use Rattle.hume_net.specs.declared.state.State.{State}
use Rattle.hume_net.specs.Lockstep.{lockstep}
use Rattle.hume_net.specs.Sides.{each_node, on_wire, part_of}
use Rattle.hume_net.specs.Start.{no_values}
use Rattle.hume_text.specs.Names.{HaveNames}
use Rattle.hume_streams.specs.Lines.{lines_of}
use Rattle.hume_streams.proofs.GoodOnce.{good_once}
use Rattle.box_costs.specs.Costs.{either}
use Rattle.net_costs.specs.Steps.{peaks}
use Rattle.hume_front.specs.declared.acceptance.Accepted.{Accepted}
use Rattle.hume_front.specs.Accepted.{IsAccepted}
use Rattle.hume_front.proofs.OneRefusal.{one_refusal, accepted_unbroken}
use Rattle.hume_front.proofs.Sources.{one_accepted_core}
use Rattle.hume_front.proofs.SomeAnswer as front
use Rattle.port_acts.specs.Acts.{wants, write_each}
use Rattle.phase_workers.specs.StreamTypes.{type_at}
use Rattle.trace_print.specs.InTurn.{lines_to}
use Rattle.trace_print.specs.TraceLines.{peak_lines, wire_lines}
use Rattle.run_rounds.specs.Streams.{std_out, streams}
use Rattle.run_rounds.specs.Writes.{bad_value_line, name_of}
use Rattle.hume_calls.specs.Owed.{table_writes}
use Rattle.hume_calls.specs.Streams.{unfit_line}
use Rattle.hume_calls.proofs.Runnable.{runnable}
use Rattle.hume_console.specs.declared.ending.Ending.TheVariants.{BadValue}
use Rattle.hume_console.specs.Commands.{Command, Step, Wires, Peaks, Exchange, End, command_of, is_bad_line, no_command_line}
use Rattle.hume_console.specs.Courses.{Course, first_do}
use Rattle.hume_console.specs.Headline.{IsOwed, IsRefusal, broken, unfit, refused, session_course}
use Rattle.hume_console.specs.Serving.{answered, closed, exchange_course, served, step_course, step_lines, step_wants, tells}
use Rattle.hume_console.specs.Session.{AreSupplies, Offer, Session, Supplies, Supply, after_steps, blocked_by, coming_in, first_session, is_blocked, is_input, lacking, stepped, stream_named, supply_of, text_of}
use Rattle.hume_console.specs.Words.{std_in}
use Rattle.hume_console.proofs.BeginsCall.{SomeInputs, are_supplies, brought}

-- what is found passes
found_passes : {X : Type 0} (test : X → Bool) (xs : List X) (x : X) → find test xs ≡ Some x → test x ≡ true
found_passes test [] x e = cc
found_passes {X} test (y ∷ ys) x e = by (test y) refl e (found_passes test ys x)
  where
    by : (b : Bool) → test y ≡ b → cond b (Some y) (find test ys) ≡ Some x → (find test ys ≡ Some x → test x ≡ true) → test x ≡ true
    by true is found later = (let same : y ≡ x = cc in subst (λ (z : X). test z ≡ true) same is)
    by false isnt found later = later found

abbrev supply_of_parts : List Value → Option ℕ → Supply
supply_of_parts good bad = record { good = good; bad = bad }

supply_same : (a b : Supply) → a.good ≡ b.good → a.bad ≡ b.bad → a ≡ b
supply_same a b good bad = ap (λ (values : List Value). supply_of_parts values a.bad) good ∙ ap (supply_of_parts b.good) bad

-- the same comes from the texts of input streams
abbrev AreSame : Core → Supplies → Supplies → Type 0
AreSame core a b = (n : ℕ) (stream : StreamC) (text : List ℕ) → slice_get core.nodes n ≡ Some (From stream) → a n text ≡ b n text

module _ (core : Core) (source : List ℕ) (a b : Supplies) (same : AreSame core a b) where
  module _ (session : Session) (steps : ℕ) where
    coming_same : (n : ℕ) → coming_in core a session steps n ≡ coming_in core b session steps n
    coming_same n = by (slice_get core.nodes n) refl
      where
        by : (o : Option NodeC) → slice_get core.nodes n ≡ o
            → (if is_input o then take (lacking session steps n) (drop (session.brought n) (supply_of a session n).good) else [])
            ≡ (if is_input o then take (lacking session steps n) (drop (session.brought n) (supply_of b session n).good) else [])
        by None e = refl
        by (Some (Rules box)) e = refl
        by (Some (To stream)) e = refl
        by (Some (From stream)) e =
            ap (λ (supply : Supply). take (lacking session steps n) (drop (session.brought n) supply.good)) (same n stream (text_of (session.port n) session.ports) e)

    blocked_same : (n : ℕ) → is_blocked core a session steps n ≡ is_blocked core b session steps n
    blocked_same n =
        ap (λ (values : List Value). is_input (slice_get core.nodes n) && is_some (supply_of a session n).bad && nat_lt (length values) (lacking session steps n)) (coming_same n)
        ∙ by (slice_get core.nodes n) refl
      where
        by : (o : Option NodeC) → slice_get core.nodes n ≡ o
            → (is_input o && is_some (supply_of a session n).bad && nat_lt (length (coming_in core b session steps n)) (lacking session steps n))
            ≡ (is_input o && is_some (supply_of b session n).bad && nat_lt (length (coming_in core b session steps n)) (lacking session steps n))
        by None e = refl
        by (Some (Rules box)) e = refl
        by (Some (To stream)) e = refl
        by (Some (From stream)) e =
            ap (λ (supply : Supply). is_some supply.bad && nat_lt (length (coming_in core b session steps n)) (lacking session steps n))
            (same n stream (text_of (session.port n) session.ports) e)

    found_same : blocked_by core a session steps ≡ blocked_by core b session steps
    found_same = ap (λ (test : ℕ → Bool). find test (range_with_len 0 (length core.nodes))) (fun_ext blocked_same)

    -- the line that blocks a step is the same
    bad_same : (n : ℕ) → is_blocked core a session steps n ≡ true → (supply_of a session n).bad ≡ (supply_of b session n).bad
    bad_same n blocked = by (slice_get core.nodes n) refl blocked
      where
        by : (o : Option NodeC) → slice_get core.nodes n ≡ o
            → (is_input o && is_some (supply_of a session n).bad && nat_lt (length (coming_in core a session steps n)) (lacking session steps n)) ≡ true
            → (supply_of a session n).bad ≡ (supply_of b session n).bad
        by None e is = cc
        by (Some (Rules box)) e is = cc
        by (Some (To stream)) e is = cc
        by (Some (From stream)) e is = ap (λ (supply : Supply). supply.bad) (same n stream (text_of (session.port n) session.ports) e)

    -- the state and the session by the values that come
    abbrev state_by : (ℕ → List Value) → State
    state_by coming = record session.net { coming = each_node core (λ n. (part_of session.net n).coming ++ coming n) }

    abbrev session_by : (ℕ → List Value) → Session
    session_by coming = record session {
      net = record (lockstep core (state_by coming) steps) { taken = no_values core };
      peaks = λ n. either (session.peaks n) (peaks core (state_by coming) steps n);
      brought = λ n. session.brought n + length (coming n);
    }

    after_same : after_steps core a session steps ≡ after_steps core b session steps
    after_same = ap (λ (coming : ℕ → List Value). lockstep core (state_by coming) steps) (fun_ext coming_same)

    stepped_same : stepped core a session steps ≡ stepped core b session steps
    stepped_same = ap session_by (fun_ext coming_same)

    -- what a step does with the state behind it, the session behind it and what comes later
    abbrev step_by : State → Session → (Session → Course) → Course
    step_by after next later =
        first_do (step_wants core session steps (length core.nodes) ++ write_each (step_lines core session (λ n. (part_of after n).taken))) (later next)

    step_same : (o : Option ℕ) → blocked_by core a session steps ≡ o → (first second : Session → Course) → first ≡ second
        → step_course core a session steps o first ≡ step_course core b session steps o second
    step_same None e first second later =
        ap (λ (after : State). step_by after (stepped core a session steps) first) after_same
        ∙ ap (λ (next : Session). step_by (after_steps core b session steps) next first) stepped_same
        ∙ ap (λ (rest : Session → Course). step_by (after_steps core b session steps) (stepped core b session steps) rest) later
    step_same (Some n) e first second later =
        ap (λ (bad : Option ℕ). first_do (step_wants core session steps (n + 1) ++ tells (bad_value_line (name_of (slice_get core.nodes n)) (unwrap_or bad 0)))
        (closed core session BadValue))
        (bad_same n (found_passes (is_blocked core a session steps) (range_with_len 0 (length core.nodes)) n e))

  answered_same : (session : Session) (number : ℕ) (asked : Option Command) (first second : Session → Course) → first ≡ second
      → answered core a source session number asked first ≡ answered core b source session number asked second
  answered_same session number None first second later = ap (λ (rest : Session → Course). first_do (tells (no_command_line number)) (rest session)) later
  answered_same session number (Some (Step steps)) first second later =
      step_same session steps (blocked_by core a session steps) refl first second later
      ∙ ap (λ (o : Option ℕ). step_course core b session steps o second) (found_same session steps)
  answered_same session number (Some Wires) first second later =
      ap (λ (rest : Session → Course). first_do (lines_to std_out (wire_lines core (on_wire session.net))) (rest session)) later
  answered_same session number (Some Peaks) first second later =
      ap (λ (rest : Session → Course). first_do (lines_to std_out (peak_lines core session.peaks)) (rest session)) later
  answered_same session number (Some (Exchange stream port)) first second later =
      ap (λ (rest : Session → Course). exchange_course core source session number (stream_named core stream) port rest) later
  answered_same session number (Some End) first second later = refl

  -- what is answered to a good or a bad line
  abbrev line_by : Supplies → Session → ℕ → List ℕ → (Session → Course) → Bool → Course
  line_by supplies session number line later bad = first_do (wants std_in number ∷ [])
      (if bad then first_do (tells (bad_value_line std_in number)) (closed core session BadValue) else answered core supplies source session number (command_of line) later)

  line_same : (session : Session) (number : ℕ) (line : List ℕ) (first second : Session → Course) → first ≡ second → (bad : Bool)
      → line_by a session number line first bad ≡ line_by b session number line second bad
  line_same session number line first second later true = refl
  line_same session number line first second later false =
      ap (first_do (wants std_in number ∷ [])) (answered_same session number (command_of line) first second later)

  served_same : (lines : List (List ℕ)) (session : Session) (number : ℕ) → served core a source session number lines ≡ served core b source session number lines
  unfolding served
  served_same [] session number = refl
  served_same (line ∷ lines) session number =
      line_same session number line (λ next. served core a source next (number + 1) lines) (λ next. served core b source next (number + 1) lines)
      (fun_ext (λ next. served_same lines next (number + 1))) (is_bad_line number line)

-- one thing comes from the texts of input streams
supplies_same : (core : Core) → HaveNames core.types → (a b : Supplies) → AreSupplies core a → AreSupplies core b → AreSame core a b
supplies_same core names a b p q n stream text there =
    let one = good_once core.types (type_at core n) text (a n text).good (b n text).good (a n text).bad (b n text).bad names (p n stream text there) (q n stream text there) in
    supply_same (a n text) (b n text) one.0 one.1

module _ (text source : List ℕ) (names : List (List ℕ)) (offers : List Offer) where
  abbrev unfit_in : Core → Option ℕ
  unfit_in core = unfit_line names source (std_in ∷ []) (streams core)

  same_refusal : (r s : Refusal) → IsRefusal text names source r → IsRefusal text names source s → r ≡ s
  same_refusal _ _ (broken r x) (broken s y) = one_refusal text r s x y
  same_refusal _ _ (broken r x) (unfit other q m at) = absurd (accepted_unbroken text other r q x)
  same_refusal _ _ (unfit one p n at) (broken s y) = absurd (accepted_unbroken text one s p y)
  same_refusal _ _ (unfit one p n at) (unfit other q m there) =
      let lines = sym at ∙ ap unfit_in (one_accepted_core text one other p q) ∙ there in
      let same : n ≡ m = cc in ap (λ line. record { rule = C55; line = line }) same

  -- a refused source is not run
  not_both : (r : Refusal) (accepted : Accepted) → IsRefusal text names source r → IsAccepted text accepted → unfit_in accepted.core ≡ None → ⊥
  not_both _ accepted (broken r x) q fit = accepted_unbroken text accepted r q x
  not_both _ accepted (unfit one p n at) q fit = let lines = sym at ∙ ap unfit_in (one_accepted_core text one accepted p q) ∙ fit in cc

  pub one_course : (first second : Course) → IsOwed text source names offers first → IsOwed text source names offers second → first ≡ second
  one_course first second (inl p) (inl q) = p.2 ∙ ap refused (same_refusal p.0 q.0 p.1 q.1) ∙ sym q.2
  one_course first second (inl p) (inr q) = absurd (not_both p.0 q.0 p.1 q.1 q.2)
  one_course first second (inr p) (inl q) = absurd (not_both q.0 p.0 q.1 p.1 p.2)
  one_course first second (inr p) (inr q) =
      let core : q.0.core ≡ p.0.core = one_accepted_core text q.0 p.0 q.1 p.1 in
      let theirs : AreSupplies p.0.core q.3 = subst (λ (c : Core). AreSupplies c q.3) core q.4 in
      let same = supplies_same p.0.core (runnable text p.0 p.1).names p.3 q.3 p.4 theirs in
      p.5 ∙ courses_same p.0.core p.3 q.3 same ∙ ap (λ (c : Core). session_course c q.3 source offers) (sym core) ∙ sym q.5
    where
      courses_same : (c : Core) (a b : Supplies) → AreSame c a b → session_course c a source offers ≡ session_course c b source offers
      courses_same c a b same = ap (first_do (write_each (table_writes c))) (served_same c source a b same (lines_of (text_of std_in offers)) (first_session c offers) 1)

  some_accepted : SomeInputs → (accepted : Accepted) → IsAccepted text accepted → (o : Option ℕ) → unfit_in accepted.core ≡ o
      → (course : Course) × IsOwed text source names offers course
  some_accepted some accepted is (Some line) at = (_, inl (_, unfit accepted is line at, refl))
  some_accepted some accepted is None fit =
      let runs = runnable text accepted is in
      (_, inr (accepted, is, fit, brought some accepted.core runs, are_supplies some accepted.core runs, refl))

  pub some_course : SomeInputs → (course : Course) × IsOwed text source names offers course
  some_course some = elim (front.some_answer text) [
    | inl a ↦ some_accepted some a.0 a.1 _ refl
    | inr r ↦ (_, inl (r.0, broken r.0 r.1, refl))
  ]
