-- What one step keeps, a script keeps.
use Rattle.std.proofs.Common.{◌≡◌, ℕ, ◌+◌, ◌||◌, nat_lt, Bool, true, false, List, [], ◌∷◌, map, length, Option, Some, None, Result, Ok, Err, refl, ap, sym, ◌∙◌, subst, if◌then◌else◌}
use Rattle.hume_base.specs.declared.finding.Finding.{Finding}
use Rattle.hume_base.specs.Least.{IsLeast}
use Rattle.hume_model.specs.declared.core_tree.Core.{Core}
use Rattle.hume_model.specs.HandlerRules.{BreaksHandlers}
use Rattle.hume_model.specs.WellFormed.{IsWellFormed}
use Rattle.hume_model.specs.WireRules.{BreaksWires}
use Rattle.hume_model.specs.Wiring.{IsWired, WiresAgree}
use Rattle.hume_net.specs.declared.state.State.{State}
use Rattle.hume_net.specs.Lockstep.{lockstep}
use Rattle.hume_net.specs.StatePlaces.{BoxesHandleAll}
use Rattle.hume_exceptions.proofs.Handles.{handles_all}
use Rattle.calculus_laws.specs.declared.step.CalcError.{CalcError}
use Rattle.calculus_laws.specs.declared.step.Step.{Step}
use Rattle.calculus_laws.specs.Boxes.{without_rules}
use Rattle.calculus_laws.specs.Orders.{HasWrittenOrders}
use Rattle.calculus_laws.specs.Steps.{IsOnRule, refusal, rewritten}
use Rattle.calculus_laws.proofs.KeptTypes.{exceptions_kept, nodes_kept, orders_kept, others_kept, types_kept, wires_stay}
use Rattle.calculus_laws.proofs.KeptWiring.{agreement_kept, wiring_kept}
use Rattle.calculus_laws.proofs.Runs.{core_formed, handlers_kept, run_kept, wires_kept}
use Rattle.box_calculus.specs.declared.scripts.ScriptError.{ScriptError}
use Rattle.box_calculus.specs.declared.scripts.ScriptError.TheVariants.{Bad, Refused}
use Rattle.box_calculus.specs.declared.scripts.TheConstants.{MAX_SCRIPT_LINES, MAX_SCRIPT_LINE_BYTES}
use Rattle.box_calculus.specs.Kept.{HasSameNet}
use Rattle.box_calculus.specs.Lines.{step_of}
use Rattle.box_calculus.specs.Scripts.{line_made, line_scripted, lines_scripted, made_unless, script_lines, scripted, then_lines}
use Rattle.box_calculus.proofs.OnRules.{on_rule}

-- what a well-formed core keeps
record KeepsSound (core new : Core) : Type 0 where
  formed : IsWellFormed new
  wires : (finding : Finding) → BreaksWires new finding → BreaksWires core finding
  handlers : (finding : Finding) → BreaksHandlers new finding → BreaksHandlers core finding
  runs : (state : State) → HasWrittenOrders core state → (k : ℕ) → lockstep new state k ≡ lockstep core state k

record Keeps (core new : Core) : Type 0 where
  net : HasSameNet core new
  wired : IsWired core → IsWired new
  agree : WiresAgree core → WiresAgree new
  orders : (state : State) → HasWrittenOrders core state → HasWrittenOrders new state
  sound : IsWellFormed core → KeepsSound core new

itself : (core : Core) → Keeps core core
itself core = record {
  net = record { types = refl; exns = refl; nodes = refl; wires = refl };
  wired = λ h. h;
  agree = λ h. h;
  orders = λ state h. h;
  sound = λ formed. record { formed = formed; wires = λ f h. h; handlers = λ f h. h; runs = λ state h k. refl };
}

same_net : (core mid new : Core) → HasSameNet core mid → HasSameNet mid new → HasSameNet core new
same_net core mid new a b =
    record { types = b.types ∙ a.types; exns = b.exns ∙ a.exns; nodes = b.nodes ∙ a.nodes; wires = b.wires ∙ a.wires }

both_sound : (core mid new : Core) → ((state : State) → HasWrittenOrders core state → HasWrittenOrders mid state)
    → KeepsSound core mid → KeepsSound mid new → KeepsSound core new
both_sound core mid new orders a b = record {
  formed = b.formed;
  wires = λ f h. a.wires f (b.wires f h);
  handlers = λ f h. a.handlers f (b.handlers f h);
  runs = λ state h k. b.runs state (orders state h) k ∙ a.runs state h k;
}

both : (core mid new : Core) → Keeps core mid → Keeps mid new → Keeps core new
both core mid new a b = record {
  net = same_net core mid new a.net b.net;
  wired = λ h. b.wired (a.wired h);
  agree = λ h. b.agree (a.agree h);
  orders = λ state h. b.orders state (a.orders state h);
  sound = λ formed. (let first = a.sound formed in both_sound core mid new a.orders first (b.sound first.formed));
}

step_keeps : (core : Core) (step : Step) → IsOnRule core step → refusal core step ≡ None → Keeps core (rewritten core step)
step_keeps core step on allowed = record {
  net = record {
    types = types_kept core step on allowed;
    exns = exceptions_kept core step on allowed;
    nodes = others_kept core step on allowed;
    wires = wires_stay core step on allowed;
  };
  wired = wiring_kept core step on allowed;
  agree = agreement_kept core step on allowed;
  orders = orders_kept core step on allowed;
  sound = λ formed. record {
    formed = core_formed core step formed on allowed;
    wires = wires_kept core step formed on allowed;
    handlers = handlers_kept core step formed on allowed;
    runs = run_kept core step formed on allowed;
  };
}

-- a step keeps the number of nodes
pub line_nodes : (core : Core) (step : Step) → IsOnRule core step → refusal core step ≡ None → length (rewritten core step).nodes ≡ length core.nodes
line_nodes = nodes_kept

ok_same : {X E : Type 0} (x y : X) → ◌≡◌ {A = Result X E} (Ok x) (Ok y) → x ≡ y
ok_same x y is = (let same : x ≡ y = cc in same)

no_ok : {X E : Type 0} (e : E) (x : X) → ◌≡◌ {A = Result X E} (Err e) (Ok x) → ⊥
no_ok e x is = cc

made_keeps : (number : ℕ) (core new : Core) (step : Step) → IsOnRule core step → (cause : Option CalcError) → refusal core step ≡ cause
    → made_unless number core step cause ≡ Ok new → Keeps core new
made_keeps number core new step on None allowed made = subst (Keeps core) (ok_same (rewritten core step) new made) (step_keeps core step on allowed)
made_keeps number core new step on (Some cause) refused made = absurd (no_ok (Refused cause number) new made)

asked_keeps : (number : ℕ) (core new : Core) (line : List ℕ) (asked : Option Step) → step_of core line ≡ asked → line_made number core asked ≡ Ok new
    → Keeps core new
asked_keeps number core new line None is made = absurd (no_ok (Bad number) new made)
asked_keeps number core new line (Some step) is made = made_keeps number core new step (on_rule core line step is) (refusal core step) refl made

line_keeps : (number : ℕ) (core new : Core) (line : List ℕ) → line_scripted number core line ≡ Ok new → Keeps core new
line_keeps number core new line made = by (nat_lt MAX_SCRIPT_LINES number || nat_lt MAX_SCRIPT_LINE_BYTES (length line)) made
  where
    by : (bad : Bool) → (if bad then Err (Bad number) else line_made number core (step_of core line)) ≡ Ok new → Keeps core new
    by true made = absurd (no_ok (Bad number) new made)
    by false made = asked_keeps number core new line (step_of core line) refl made

-- the first line makes a core, from which the others go on
first_keeps : (core new : Core) (o : Result Core ScriptError) (next : Core → Result Core ScriptError) → ((mid : Core) → o ≡ Ok mid → Keeps core mid)
    → ((mid : Core) → next mid ≡ Ok new → Keeps mid new) → then_lines o next ≡ Ok new → Keeps core new
first_keeps core new (Err error) next first others made = absurd (no_ok error new made)
first_keeps core new (Ok mid) next first others made = both core mid new (first mid refl) (others mid made)

lines_keep : (number : ℕ) (core new : Core) (lines : List (List ℕ)) → lines_scripted number core lines ≡ Ok new → Keeps core new
lines_keep number core new [] made = subst (Keeps core) (ok_same core new made) (itself core)
lines_keep number core new (line ∷ lines) made =
    first_keeps core new (line_scripted number core line) (λ mid. lines_scripted (number + 1) mid lines) (λ mid is. line_keeps number core mid line is)
    (λ mid is. lines_keep (number + 1) mid new lines is) made

module _ (core new : Core) (script : List ℕ) where
  keeps : scripted core script ≡ Ok new → Keeps core new
  keeps made = lines_keep 1 core new (script_lines script) made

  pub runs_kept : IsWellFormed core → scripted core script ≡ Ok new
      → (state : State) → HasWrittenOrders core state → (k : ℕ) → lockstep new state k ≡ lockstep core state k
  runs_kept formed made = ((keeps made).sound formed).runs

  pub written_kept : scripted core script ≡ Ok new → (state : State) → HasWrittenOrders core state → HasWrittenOrders new state
  written_kept made = (keeps made).orders

  pub still_formed : IsWellFormed core → scripted core script ≡ Ok new → IsWellFormed new
  still_formed formed made = ((keeps made).sound formed).formed

  pub still_wired : IsWired core → scripted core script ≡ Ok new → IsWired new
  still_wired wired made = (keeps made).wired wired

  pub still_agree : WiresAgree core → scripted core script ≡ Ok new → WiresAgree new
  still_agree agree made = (keeps made).agree agree

  pub wires_fine : IsWellFormed core → IsLeast (BreaksWires core) None → scripted core script ≡ Ok new → IsLeast (BreaksWires new) None
  wires_fine formed fine made = λ f broken. fine f (((keeps made).sound formed).wires f broken)

  pub handlers_fine : IsWellFormed core → IsLeast (BreaksHandlers core) None → scripted core script ≡ Ok new → IsLeast (BreaksHandlers new) None
  handlers_fine formed fine made = λ f broken. fine f (((keeps made).sound formed).handlers f broken)

  pub still_handled : IsWellFormed core → IsLeast (BreaksHandlers core) None → scripted core script ≡ Ok new → BoxesHandleAll new
  still_handled formed fine made = handles_all new (still_formed formed made) (handlers_fine formed fine made)

  pub same_nets : scripted core script ≡ Ok new → HasSameNet core new
  same_nets made = (keeps made).net
