-- What is told once the rounds of a run are made.
use Rattle.std.proofs.Common.{◌≡◌, ℕ, suc, ◌+◌, ◌-◌, ◌<◌, ◌≤◌, Bool, true, false, List, [], ◌∷◌, ◌++◌, length, Option, None, Some, slice_get, Result, Ok, Err, refl, ap, sym, ◌∙◌, subst, arith, append_assoc, append-nil}
use Rattle.std.specs.Option.{is_some, unwrap_or}
use Rattle.hume_model.specs.declared.core_tree.NodeC.{NodeC}
use Rattle.hume_model.specs.declared.core_tree.NodeC.TheVariants.{Rules, From, To}
use Rattle.hume_model.specs.declared.core_tree.Core.{Core}
use Rattle.hume_net.specs.Start.{start}
use Rattle.hume_ports.specs.declared.port.Failed.{Failed}
use Rattle.hume_ports.specs.Port.{PortView}
use Rattle.hume_ports.specs.Delivery.{Pairs}
use Rattle.box_costs.specs.declared.cost.Cost.{Cost}
use Rattle.net_costs.specs.Steps.{peaks}
use Rattle.port_acts.specs.Acts.{Act, write_each, writes}
use Rattle.port_acts.specs.Ends.{Ends, Fails, Few, Made, never}
use Rattle.port_acts.proofs.Failing.{Fails-any, Fails-on, Fails-stop}
use Rattle.port_acts.proofs.Making.{Made-on}
use Rattle.phase_workers.specs.Engines.{EngineView as Engine}
use Rattle.phase_workers.specs.Engines.{core_of}
use Rattle.trace_print.specs.TraceLines.{peak_line, peak_lines, peak_there}
use Rattle.run_rounds.specs.declared.bad_line.BadLine.{BadLine}
use Rattle.run_rounds.specs.Inputs.{Inputs}
use Rattle.run_rounds.specs.Streams.{std_out}
use Rattle.run_rounds.specs.Writes.{bad_value_line, bad_value_writes, blocked_by, blocked_round, name_of, peak_writes, span_of, told}
use Rattle.run_rounds.specs.RunActs.{acts_until, blocked_acts, blocked_wants, made_acts, made_until, rounds_acts, run_acts, run_few}
use Rattle.run_rounds.specs.Runs.{FailsToRun, RunsTo}
use Rattle.run_rounds.specs.MadeRounds.{FailsInRounds, MakesRounds, RoundsEnd}
use Rattle.run_rounds.specs.Members.{MemberView, MembersFail, MembersRun, member_bad_line, member_bad_writes, member_lines, members_acts, members_before, members_until, members_writes, nodes_of}
use Rattle.run_rounds.specs.Telling.{top_there, tops}
use Rattle.run_rounds.proofs.MemberLines.{nodes_more}
use Rattle.run_rounds.proofs.Ranges.{same_flat}
use Rattle.run_rounds.proofs.Standings.{item_at}

-- the acts of a run are its rounds and what is told then

-- what is told once the rounds are made, by the first blocked round: peaks, or a bad line
abbrev pub ending_until : Core → Inputs → Bool → ℕ → Option ℕ → Pairs
ending_until core inputs traced steps None = peak_writes core inputs.good steps
ending_until core inputs traced steps (Some round) = bad_value_writes core inputs (blocked_by core inputs traced steps round)

abbrev pub ending_writes : Core → Inputs → Bool → ℕ → Pairs
ending_writes core inputs traced steps = ending_until core inputs traced steps (blocked_round core inputs (span_of traced) steps)

wants_then : (core : Core) (inputs : Inputs) (traced : Bool) (steps round : ℕ) (o : Option ℕ)
    → blocked_acts core inputs traced steps round o ≡ blocked_wants core inputs traced steps round o ++ write_each (bad_value_writes core inputs o)
wants_then core inputs traced steps round None = refl
wants_then core inputs traced steps round (Some n) = refl

until_then : (core : Core) (inputs : Inputs) (traced : Bool) (steps : ℕ) (o : Option ℕ)
    → made_until core inputs traced steps o ++ write_each (ending_until core inputs traced steps o) ≡ acts_until core inputs traced steps o
until_then core inputs traced steps None = refl
until_then core inputs traced steps (Some round) =
    let by : Option ℕ = blocked_by core inputs traced steps round in
    append_assoc (rounds_acts core inputs.good traced steps (round - 1)) (blocked_wants core inputs traced steps round by) (write_each (bad_value_writes core inputs by))
    ∙ ap (λ (acts : List Act). rounds_acts core inputs.good traced steps (round - 1) ++ acts) (sym (wants_then core inputs traced steps round by))

pub run_in_turn : (core : Core) (inputs : Inputs) (traced : Bool) (steps : ℕ)
    → made_acts core inputs traced steps ++ write_each (ending_writes core inputs traced steps) ≡ run_acts core inputs traced steps
run_in_turn core inputs traced steps = until_then core inputs traced steps (blocked_round core inputs (span_of traced) steps)

-- the line of a box tells heap and stack alone
peak_alike : (x y : Cost) (o : Option NodeC) → x.heap ≡ y.heap → x.stack ≡ y.stack → peak_there x o ≡ peak_there y o
peak_alike x y None heap stack = refl
peak_alike x y (Some (Rules b)) heap stack = ap (λ k. peak_line b.name k x.stack ∷ []) heap ∙ ap (λ k. peak_line b.name y.heap k ∷ []) stack
peak_alike x y (Some (From stream)) heap stack = refl
peak_alike x y (Some (To stream)) heap stack = refl

-- rounds that were made, and then these acts

module _ (few : Few) (first last : List Act) (taken : Pairs) (olds mids news : List PortView) (made : Made first taken olds mids) where
  pub then_made : (result : Result (Unit {0}) Failed) → result ≡ Ok tt → Ends never [] last [] mids news result → Made (first ++ last) taken olds news
  then_made (Ok done) is ends =
      subst (λ pairs. Made (first ++ last) pairs olds news) (append-nil taken) (Made-on first last taken [] olds mids news made ends)
  then_made (Err failed) is ends = cc

  pub then_failed : (result : Result (Unit {0}) Failed) (failed : Failed) → result ≡ Err failed → Ends never [] last [] mids news result
      → Fails few [] (first ++ last) olds news
  then_failed (Ok done) failed is ends = cc
  then_failed (Err other) failed is ends = Fails-on few [] taken first last olds mids news made (Fails-any few taken last mids news ends)

module _ (core : Core) (traced : Bool) (steps : ℕ) (olds mids : List PortView) (engine : Engine) (same : core_of engine ≡ core) where
  module _ (its : MakesRounds core traced steps olds mids engine None) where
    abbrev coming : Inputs
    coming = its.comes.inputs

    peak_same : (n : ℕ) → n < length core.nodes
        → top_there engine n ≡ peak_there (peaks core (start core coming.good) steps n) (slice_get core.nodes n)
    peak_same n within =
        let item = item_at core.nodes n within in
        let peak = its.leaves.peaks n item.0 item.1 in
        ap (λ (c : Core). peak_there (tops engine n) (slice_get c.nodes n)) same
        ∙ peak_alike (tops engine n) (peaks core (start core coming.good) steps n) (slice_get core.nodes n) peak.heap peak.stack

    peaks_told : told (peak_lines core (tops engine)) ≡ ending_writes core coming traced steps
    peaks_told =
        ap told (same_flat (λ n. peak_there (tops engine n) (slice_get core.nodes n)) (λ n. peak_there (peaks core (start core coming.good) steps n) (slice_get core.nodes n)) 0
        (length core.nodes) (λ n least most. (let item = item_at core.nodes n (omega (arith, most)) in
        let peak = its.leaves.peaks n item.0 item.1 in
        peak_alike (tops engine n) (peaks core (start core coming.good) steps n) (slice_get core.nodes n) peak.heap peak.stack)))
        ∙ sym (ap (ending_until core coming traced steps) its.leaves.none)

    pub peaks_all : made_acts core coming traced steps ++ write_each (told (peak_lines core (tops engine))) ≡ run_acts core coming traced steps
    peaks_all = ap (λ pairs. made_acts core coming traced steps ++ write_each pairs) peaks_told ∙ run_in_turn core coming traced steps

    -- the same by programs
    members_same : (members : List MemberView) (first : ℕ) → first + nodes_of members ≤ length core.nodes
        → member_lines (top_there engine) first members
        ≡ member_lines (λ n. peak_there (peaks core (start core coming.good) steps n) (slice_get core.nodes n)) first members
    members_same [] first within = refl
    members_same (member ∷ later) first within =
        let head = same_flat (top_there engine) (λ n. peak_there (peaks core (start core coming.good) steps n) (slice_get core.nodes n)) first member.nodes
        (λ n least most. peak_same n (omega (arith, most, within, nodes_more member later))) in
        let rest = members_same later (first + member.nodes) (omega (arith, within, nodes_more member later)) in
        λ i. (member.head ∷ head i) ++ rest i

    pub members_all : (members : List MemberView) → nodes_of members ≤ length core.nodes
        → made_acts core coming traced steps ++ write_each (told (member_lines (top_there engine) 0 members)) ≡ members_acts core members coming traced steps
    members_all members within =
        ap (λ lines. made_acts core coming traced steps ++ write_each (told lines)) (members_same members 0 (omega (arith, within)))
        ∙ ap (λ pairs. made_acts core coming traced steps ++ write_each pairs) (sym (ap (members_until core members coming traced steps) its.leaves.none))

  module _ (bad : BadLine) (its : MakesRounds core traced steps olds mids engine (Some bad)) where
    abbrev came : Inputs
    came = its.comes.inputs

    number : unwrap_or (came.bad bad.node) 0 ≡ bad.line
    number = ap (λ o. unwrap_or o 0) its.leaves.line

    pub line_all : made_acts core came traced steps ++ writes std_out (bad_value_line (name_of (slice_get core.nodes bad.node)) bad.line) ∷ []
        ≡ run_acts core came traced steps
    line_all =
        ap (λ k. made_acts core came traced steps ++ writes std_out (bad_value_line (name_of (slice_get core.nodes bad.node)) k) ∷ []) (sym number)
        ∙ ap (λ o. made_acts core came traced steps ++ write_each (bad_value_writes core came o)) (sym its.leaves.by)
        ∙ ap (λ o. made_acts core came traced steps ++ write_each (ending_until core came traced steps o)) (sym its.leaves.first)
        ∙ run_in_turn core came traced steps

    pub member_line_all : (members : List MemberView)
        → made_acts core came traced steps
        ++ writes std_out (member_bad_line (suc (members_before members bad.node)) (name_of (slice_get core.nodes bad.node)) bad.line) ∷ []
        ≡ members_acts core members came traced steps
    member_line_all members =
        ap (λ k. made_acts core came traced steps
        ++ writes std_out (member_bad_line (suc (members_before members bad.node)) (name_of (slice_get core.nodes bad.node)) k) ∷ []) (sym number)
        ∙ ap (λ o. made_acts core came traced steps ++ write_each (member_bad_writes core members came o)) (sym its.leaves.by)
        ∙ ap (λ o. made_acts core came traced steps ++ write_each (members_until core members came traced steps o)) (sym its.leaves.first)

-- how a run ends

-- rounds whose result is known
pub as_made : (core : Core) (traced : Bool) (steps : ℕ) (olds news : List PortView) (engine : Engine) (result : Result (Option BadLine) Failed) (bad : Option BadLine)
    → result ≡ Ok bad → RoundsEnd core traced steps olds news engine result → MakesRounds core traced steps olds news engine bad
as_made core traced steps olds news engine result bad is ends = subst (RoundsEnd core traced steps olds news engine) is ends

module _ (core : Core) (traced : Bool) (steps : ℕ) (olds mids news : List PortView) (engine : Engine) (same : core_of engine ≡ core)
    (result : Result (Unit {0}) Failed) where
  module _ (its : MakesRounds core traced steps olds mids engine None) where
    module _ (ends : Ends never [] (write_each (told (peak_lines core (tops engine)))) [] mids news result) where
      abbrev peak_acts : List Act
      peak_acts = write_each (told (peak_lines core (tops engine)))

      pub run_over : result ≡ Ok tt → RunsTo core traced steps olds news false
      run_over is = record {
        comes = its.comes;
        taken = its.taken;
        made = subst (λ acts. Made acts its.taken olds news) (peaks_all core traced steps olds mids engine same its)
            (then_made (run_few core) (made_acts core its.comes.inputs traced steps) peak_acts its.taken olds mids news its.made result is ends);
        blocks = sym (ap is_some its.leaves.none);
      }

      pub peaks_failed : (failed : Failed) → result ≡ Err failed → FailsToRun core traced steps olds news
      peaks_failed failed is = record {
        comes = its.comes;
        fails = subst (λ acts. Fails (run_few core) [] acts olds news) (peaks_all core traced steps olds mids engine same its)
            (then_failed (run_few core) (made_acts core its.comes.inputs traced steps) peak_acts its.taken olds mids news its.made result failed is ends);
      }

    module _ (members : List MemberView) (within : nodes_of members ≤ length core.nodes)
        (ends : Ends never [] (write_each (told (member_lines (top_there engine) 0 members))) [] mids news result) where
      abbrev member_acts : List Act
      member_acts = write_each (told (member_lines (top_there engine) 0 members))

      pub members_over : result ≡ Ok tt → MembersRun core members traced steps olds news false
      members_over is = record {
        comes = its.comes;
        taken = its.taken;
        made = subst (λ acts. Made acts its.taken olds news) (members_all core traced steps olds mids engine same its members within)
            (then_made (run_few core) (made_acts core its.comes.inputs traced steps) member_acts its.taken olds mids news its.made result is ends);
        blocks = sym (ap is_some its.leaves.none);
      }

      pub members_failed : (failed : Failed) → result ≡ Err failed → MembersFail core members traced steps olds news
      members_failed failed is = record {
        comes = its.comes;
        fails = subst (λ acts. Fails (run_few core) [] acts olds news) (members_all core traced steps olds mids engine same its members within)
            (then_failed (run_few core) (made_acts core its.comes.inputs traced steps) member_acts its.taken olds mids news its.made result failed is ends);
      }

  module _ (bad : BadLine) (its : MakesRounds core traced steps olds mids engine (Some bad)) where
    module _ (ends : Ends never [] (writes std_out (bad_value_line (name_of (slice_get core.nodes bad.node)) bad.line) ∷ []) [] mids news result) where
      abbrev line_acts : List Act
      line_acts = writes std_out (bad_value_line (name_of (slice_get core.nodes bad.node)) bad.line) ∷ []

      pub run_halted : result ≡ Ok tt → RunsTo core traced steps olds news true
      run_halted is = record {
        comes = its.comes;
        taken = its.taken;
        made = subst (λ acts. Made acts its.taken olds news) (line_all core traced steps olds mids engine same bad its)
            (then_made (run_few core) (made_acts core its.comes.inputs traced steps) line_acts its.taken olds mids news its.made result is ends);
        blocks = sym (ap is_some its.leaves.first);
      }

      pub line_failed : (failed : Failed) → result ≡ Err failed → FailsToRun core traced steps olds news
      line_failed failed is = record {
        comes = its.comes;
        fails = subst (λ acts. Fails (run_few core) [] acts olds news) (line_all core traced steps olds mids engine same bad its)
            (then_failed (run_few core) (made_acts core its.comes.inputs traced steps) line_acts its.taken olds mids news its.made result failed is ends);
      }

    module _ (members : List MemberView)
        (ends : Ends never [] (writes std_out (member_bad_line (suc (members_before members bad.node)) (name_of (slice_get core.nodes bad.node)) bad.line) ∷ [])
        [] mids news result) where
      abbrev member_line_acts : List Act
      member_line_acts = writes std_out (member_bad_line (suc (members_before members bad.node)) (name_of (slice_get core.nodes bad.node)) bad.line) ∷ []

      pub members_halted : result ≡ Ok tt → MembersRun core members traced steps olds news true
      members_halted is = record {
        comes = its.comes;
        taken = its.taken;
        made = subst (λ acts. Made acts its.taken olds news) (member_line_all core traced steps olds mids engine same bad its members)
            (then_made (run_few core) (made_acts core its.comes.inputs traced steps) member_line_acts its.taken olds mids news its.made result is ends);
        blocks = sym (ap is_some its.leaves.first);
      }

      pub member_line_failed : (failed : Failed) → result ≡ Err failed → MembersFail core members traced steps olds news
      member_line_failed failed is = record {
        comes = its.comes;
        fails = subst (λ acts. Fails (run_few core) [] acts olds news) (member_line_all core traced steps olds mids engine same bad its members)
            (then_failed (run_few core) (made_acts core its.comes.inputs traced steps) member_line_acts its.taken olds mids news its.made result failed is ends);
      }

-- what is told of an engine with the same core

pub peaks_as : (core own : Core) (engine : Engine) (mids news : List PortView) (result : Result (Unit {0}) Failed) → own ≡ core
    → Ends never [] (write_each (told (peak_lines own (tops engine)))) [] mids news result
    → Ends never [] (write_each (told (peak_lines core (tops engine)))) [] mids news result
peaks_as core own engine mids news result same ends = subst (λ c. Ends never [] (write_each (told (peak_lines c (tops engine)))) [] mids news result) same ends

pub line_as : (core own : Core) (bad : BadLine) (mids news : List PortView) (result : Result (Unit {0}) Failed) → own ≡ core
    → Ends never [] (writes std_out (bad_value_line (name_of (slice_get own.nodes bad.node)) bad.line) ∷ []) [] mids news result
    → Ends never [] (writes std_out (bad_value_line (name_of (slice_get core.nodes bad.node)) bad.line) ∷ []) [] mids news result
line_as core own bad mids news result same ends =
    subst (λ (c : Core). Ends never [] (writes std_out (bad_value_line (name_of (slice_get c.nodes bad.node)) bad.line) ∷ []) [] mids news result) same ends

pub member_line_as : (core own : Core) (members : List MemberView) (bad : BadLine) (mids news : List PortView) (result : Result (Unit {0}) Failed) → own ≡ core
    → Ends never [] (writes std_out (member_bad_line (suc (members_before members bad.node)) (name_of (slice_get own.nodes bad.node)) bad.line) ∷ [])
    [] mids news result
    → Ends never [] (writes std_out (member_bad_line (suc (members_before members bad.node)) (name_of (slice_get core.nodes bad.node)) bad.line) ∷ [])
    [] mids news result
member_line_as core own members bad mids news result same ends =
    subst (λ (c : Core). Ends never []
    (writes std_out (member_bad_line (suc (members_before members bad.node)) (name_of (slice_get c.nodes bad.node)) bad.line) ∷ []) [] mids news result) same ends

-- a round failed
pub as_failed : (core : Core) (traced : Bool) (steps : ℕ) (olds news : List PortView) (engine : Engine) (result : Result (Option BadLine) Failed) (failed : Failed)
    → result ≡ Err failed → RoundsEnd core traced steps olds news engine result → FailsInRounds core traced steps olds news
as_failed core traced steps olds news engine result failed is ends = subst (RoundsEnd core traced steps olds news engine) is ends

pub rounds_failed : (core : Core) (traced : Bool) (steps : ℕ) (olds news : List PortView) → FailsInRounds core traced steps olds news
    → FailsToRun core traced steps olds news
rounds_failed core traced steps olds news its = record {
  comes = its.comes;
  fails = subst (λ acts. Fails (run_few core) [] acts olds news) (run_in_turn core its.comes.inputs traced steps)
      (Fails-stop (run_few core) [] (made_acts core its.comes.inputs traced steps) (write_each (ending_writes core its.comes.inputs traced steps)) olds news its.fails);
}

pub member_rounds_failed : (core : Core) (members : List MemberView) (traced : Bool) (steps : ℕ) (olds news : List PortView)
    → FailsInRounds core traced steps olds news → MembersFail core members traced steps olds news
member_rounds_failed core members traced steps olds news its = record {
  comes = its.comes;
  fails = Fails-stop (run_few core) [] (made_acts core its.comes.inputs traced steps) (write_each (members_writes core members its.comes.inputs traced steps))
      olds news its.fails;
}
