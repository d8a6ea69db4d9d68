-- A call with a script owes one thing.
use Rattle.std.proofs.Common.{◌≡◌, ℕ, false, List, [], ◌∷◌, Option, None, Some, Result, Ok, Err, inl, inr, refl, sym, ap, ◌∙◌, subst, slice_get}
use Rattle.hume_base.specs.declared.finding.Finding.{Finding}
use Rattle.hume_base.specs.declared.rule.Refusal.{Refusal}
use Rattle.hume_base.specs.declared.rule.Rule.TheVariants.{C55}
use Rattle.hume_base.specs.Least.{IsLeast}
use Rattle.hume_model.specs.declared.core_tree.NodeC.{NodeC}
use Rattle.hume_model.specs.declared.core_tree.NodeC.TheVariants.{Rules, From, To}
use Rattle.hume_model.specs.declared.core_tree.WireC.{WireC}
use Rattle.hume_model.specs.declared.core_tree.Core.{Core}
use Rattle.hume_model.specs.Declarations.{IsRefusal, StandsAt, declaration_of, line_of, node, wire}
use Rattle.box_costs.specs.CostRules.{BreaksCosts, HeapPasses, OfNode, SpacePasses, StackPasses, WorkPasses}
use Rattle.check_rules.proofs.OneFinding.{one_least}
use Rattle.calculus_laws.specs.Boxes.{without_rules}
use Rattle.box_calculus.specs.declared.scripts.ScriptError.{ScriptError}
use Rattle.box_calculus.specs.Kept.{HasSameNet}
use Rattle.box_calculus.specs.Scripts.{scripted}
use Rattle.box_calculus.proofs.KeptByLines.{same_nets}
use Rattle.hume_front.specs.declared.acceptance.Sound.{Sound}
use Rattle.hume_front.specs.Accepted.{IsSound}
use Rattle.hume_front.proofs.LeastCoreRules.{least_cost}
use Rattle.hume_front.proofs.Lines.{line_is}
use Rattle.hume_front.proofs.OneRefusal.{one_refusal}
use Rattle.hume_front.proofs.SoundSources.{not_both, sound_or_not}
use Rattle.hume_front.proofs.Sources.{one_sound_core}
use Rattle.run_rounds.specs.Streams.{streams}
use Rattle.run_rounds.specs.Inputs.{Inputs, AreInputs}
use Rattle.phase_workers.specs.Runnable.{IsRunnable}
use Rattle.port_acts.specs.Early.{after_reads}
use Rattle.port_acts.specs.Ends.{Owed}
use Rattle.hume_calls.specs.declared.status.Status.{Status}
use Rattle.hume_calls.specs.Calc.{IsScriptRefusal, of_box, of_line, of_stream, script_refusal}
use Rattle.hume_calls.specs.Owed.{IsOwedCalc, IsOwedScript, owed_refused, owed_run}
use Rattle.hume_calls.specs.Reading.{script_reads, script_text}
use Rattle.hume_calls.specs.Streams.{unfit_line}
use Rattle.hume_calls.proofs.Rewritten.{new_runnable, stood}

-- Something comes from any texts, and one thing.
abbrev pub SomeInputs : Type 0
SomeInputs = (core : Core) → IsRunnable core → (texts : List ℕ → List ℕ) → (inputs : Inputs) × AreInputs core texts inputs

abbrev pub OneInputs : Type 0
OneInputs = (core : Core) → IsRunnable core → (texts : List ℕ → List ℕ) (first second : Inputs) → AreInputs core texts first → AreInputs core texts second
    → first ≡ second

-- where nodes and wires of the new core are declared

declared_alike : (node : NodeC) → declaration_of (without_rules node) ≡ declaration_of node
declared_alike (Rules b) = refl
declared_alike (From stream) = refl
declared_alike (To stream) = refl

line_alike : (node : NodeC) → line_of (without_rules node) ≡ line_of node
line_alike (Rules b) = refl
line_alike (From stream) = refl
line_alike (To stream) = refl

module _ (core new : Core) (net : HasSameNet core new) where
  wire_stood : (w : ℕ) (its : WireC) → slice_get new.wires w ≡ Some its → StandsAt core its.declaration its.line
  wire_stood w its there = wire w its (sym (ap (λ (wires : List WireC). slice_get wires w) net.wires) ∙ there)

  node_stood : (n : ℕ) (its : NodeC) → slice_get new.nodes n ≡ Some its → StandsAt core (declaration_of its) (line_of its)
  node_stood n its there =
      let was = stood core new net n its there in
      let declared : declaration_of was.old ≡ declaration_of its =
      sym (declared_alike was.old) ∙ ap declaration_of (sym was.same) ∙ declared_alike its in
      let line : line_of was.old ≡ line_of its = sym (line_alike was.old) ∙ ap line_of (sym was.same) ∙ line_alike its in
      subst (λ (d : ℕ). StandsAt core d (line_of its)) declared
      (subst (λ (l : ℕ). StandsAt core (declaration_of was.old) l) line (node n was.old was.there))

  stands_before : (number line : ℕ) → StandsAt new number line → StandsAt core number line
  stands_before _ _ (node n its there) = node_stood n its there
  stands_before _ _ (wire w its there) = wire_stood w its there

-- a box that takes too much stands at a line
of_node : (core : Core) (P : Core → ℕ → NodeC → Type 0) (d : ℕ) → OfNode core P d → (line : ℕ) × StandsAt core d line
of_node core P d o = (line_of o.node, subst (λ (n : ℕ). StandsAt core n (line_of o.node)) o.declared (node o.n o.node o.there))

stands_of : (core : Core) (f : Finding) → BreaksCosts core f → (line : ℕ) × StandsAt core f.declaration line
stands_of core f breaks = elim breaks [
  | inl a ↦ of_node core HeapPasses f.declaration a.1
  | inr more ↦ elim more [
    | inl a ↦ of_node core StackPasses f.declaration a.1
    | inr most ↦ elim most [ inl a ↦ of_node core SpacePasses f.declaration a.1 | inr a ↦ of_node core WorkPasses f.declaration a.1 ]
  ]
]

-- results of scripts

same_core : (x y : Core) → ◌≡◌ {A = Result Core ScriptError} (Ok x) (Ok y) → x ≡ y
same_core x y is = (let same : x ≡ y = cc in same)

same_error : (x y : ScriptError) → ◌≡◌ {A = Result Core ScriptError} (Err x) (Err y) → x ≡ y
same_error x y is = (let same : x ≡ y = cc in same)

ok_or_err : (x : Core) (y : ScriptError) → ◌≡◌ {A = Result Core ScriptError} (Ok x) (Err y) → ⊥
ok_or_err x y is = cc

some_or_none : (line : ℕ) → ◌≡◌ {A = Option ℕ} (Some line) None → ⊥
some_or_none line is = cc

same_line : (x y : ℕ) → ◌≡◌ {A = Option ℕ} (Some x) (Some y) → x ≡ y
same_line x y is = (let same : x ≡ y = cc in same)

module _ (text : List ℕ) (sound : Sound) (h : IsSound text sound) (lines : List ℕ) (names : List (List ℕ)) (source port : List ℕ) where
  abbrev Made : Core → Type 0
  Made new = scripted sound.core lines ≡ Ok new

  abbrev Refused : Refusal → Type 0
  Refused r = IsScriptRefusal sound.core lines names source port r

  one_made : (new other : Core) → Made new → Made other → new ≡ other
  one_made new other made its = same_core new other (sym made ∙ its)

  -- two refusals of boxes are of one rule, at one line
  one_box : (new : Core) → Made new → (r s : Refusal) → IsRefusal new (BreaksCosts new) r → IsRefusal new (BreaksCosts new) s → r ≡ s
  one_box new made r s a b =
      let same = one_least (BreaksCosts new) a.finding b.finding a.least b.least in
      let net = same_nets sound.core new lines made in
      let there : StandsAt new a.finding.declaration s.line =
      subst (λ (f : Finding). StandsAt new f.declaration s.line) (sym same) b.line in
      let rule : r.rule ≡ s.rule = a.rule ∙ ap (λ (f : Finding). f.rule) same ∙ sym b.rule in
      let line : r.line ≡ s.line =
      line_is text sound.program sound.core h.core a.finding.declaration r.line (stands_before sound.core new net a.finding.declaration r.line a.line)
      ∙ sym (line_is text sound.program sound.core h.core a.finding.declaration s.line (stands_before sound.core new net a.finding.declaration s.line there)) in
      (λ i. record { rule = rule i; line = line i })

  dear_or_not : (new other : Core) → Made new → Made other → (r : Refusal) → IsRefusal new (BreaksCosts new) r → IsLeast (BreaksCosts other) None → ⊥
  dear_or_not new other made its r is none =
      subst (λ (c : Core). IsLeast (BreaksCosts c) None) (one_made other new its made) none is.finding is.least.0

  abbrev unfit_in : Core → Option ℕ
  unfit_in new = unfit_line names source (port ∷ []) (streams new)

  one_unfit : (new other : Core) → Made new → Made other → (n m : ℕ) → unfit_in new ≡ Some n → unfit_in other ≡ Some m → n ≡ m
  one_unfit new other made its n m at there = same_line n m (sym at ∙ ap unfit_in (one_made new other made its) ∙ there)

  one_script_refusal : (r s : Refusal) → Refused r → Refused s → r ≡ s
  one_script_refusal _ _ (of_line e is) (of_line f its) = ap script_refusal (same_error e f (sym is ∙ its))
  one_script_refusal _ _ (of_line e is) (of_box new made s b) = absurd (ok_or_err new e (sym made ∙ is))
  one_script_refusal _ _ (of_line e is) (of_stream new made within m at) = absurd (ok_or_err new e (sym made ∙ is))
  one_script_refusal _ _ (of_box new made r a) (of_line f its) = absurd (ok_or_err new f (sym made ∙ its))
  one_script_refusal _ _ (of_box new made r a) (of_box other its s b) =
      one_box new made r s a (subst (λ (c : Core). IsRefusal c (BreaksCosts c) s) (one_made other new its made) b)
  one_script_refusal _ _ (of_box new made r a) (of_stream other its within m at) = absurd (dear_or_not new other made its r a within)
  one_script_refusal _ _ (of_stream new made within n at) (of_line f its) = absurd (ok_or_err new f (sym made ∙ its))
  one_script_refusal _ _ (of_stream new made within n at) (of_box other its s b) = absurd (dear_or_not other new its made s b within)
  one_script_refusal _ _ (of_stream new made within n at) (of_stream other its also m there) =
      ap (λ line. record { rule = C55; line = line }) (one_unfit new other made its n m at there)

  -- what is refused isn't run
  refused_or_run : (r : Refusal) (new : Core) → Refused r → Made new → IsLeast (BreaksCosts new) None → unfit_in new ≡ None → ⊥
  refused_or_run _ new (of_line e is) made within fit = ok_or_err new e (sym made ∙ is)
  refused_or_run _ new (of_box other its r a) made within fit = dear_or_not other new its made r a within
  refused_or_run _ new (of_stream other its also n at) made within fit =
      some_or_none n (sym at ∙ ap unfit_in (one_made other new its made) ∙ fit)

  module _ (texts : List ℕ → List ℕ) (steps : ℕ) where
    abbrev OwedScript : Owed Status → Type 0
    OwedScript owed = IsOwedScript steps sound.core lines source port names texts owed

    pub one_script : OneInputs → (first second : Owed Status) → OwedScript first → OwedScript second → first ≡ second
    one_script one_inputs first second x y = elim x [
      | inl p ↦ elim y [
        | inl q ↦ p.2 ∙ ap owed_refused (one_script_refusal p.0 q.0 p.1 q.1) ∙ sym q.2
        | inr q ↦ absurd (refused_or_run p.0 q.0 p.1 q.1 q.2 q.3)
      ]
      | inr p ↦ elim y [
        | inl q ↦ absurd (refused_or_run q.0 p.0 q.1 p.1 p.2 p.3)
        | inr q ↦
            let core : q.0 ≡ p.0 = one_made q.0 p.0 q.1 p.1 in
            let coming : p.4 ≡ q.4 =
            one_inputs p.0 (new_runnable text sound h lines p.0 p.1) texts p.4 q.4 p.5 (subst (λ (c : Core). AreInputs c texts q.4) core q.5) in
            p.6 ∙ (λ i. owed_run false steps (sym core i) (coming i)) ∙ sym q.6
      ]
    ]

    -- something is owed of a core that the script makes
    some_fit : SomeInputs → (new : Core) → Made new → IsLeast (BreaksCosts new) None → (o : Option ℕ) → unfit_in new ≡ o → (owed : Owed Status) × OwedScript owed
    some_fit has_inputs new made within (Some line) at = (_, inl (_, of_stream new made within line at, refl))
    some_fit has_inputs new made within None fit =
        let coming = has_inputs new (new_runnable text sound h lines new made) texts in
        (_, inr (new, made, within, fit, coming.0, coming.1, refl))

    box_refused : (new : Core) → Made new → (f : Finding) → IsLeast (BreaksCosts new) (Some f) → (line : ℕ) → StandsAt new f.declaration line → (owed : Owed Status) × OwedScript owed
    box_refused new made f least line stands =
        let r : Refusal = record { rule = f.rule; line = line } in
        (_, inl (r, of_box new made r (record { finding = f; least = least; rule = refl; line = stands }), refl))

    some_new : SomeInputs → (new : Core) → Made new → (o : Option Finding) → IsLeast (BreaksCosts new) o → (owed : Owed Status) × OwedScript owed
    some_new has_inputs new made None within = some_fit has_inputs new made within _ refl
    some_new has_inputs new made (Some f) least = let at = stands_of new f least.0 in box_refused new made f least at.0 at.1

    some_result : SomeInputs → (result : Result Core ScriptError) → scripted sound.core lines ≡ result → (owed : Owed Status) × OwedScript owed
    some_result has_inputs (Ok new) made = let least = least_cost new in some_new has_inputs new made least.0 least.1
    some_result has_inputs (Err error) is = (_, inl (_, of_line error is, refl))

    pub some_script : SomeInputs → (owed : Owed Status) × OwedScript owed
    some_script has_inputs = some_result has_inputs _ refl

-- the whole call

module _ (source port text : List ℕ) (names : List (List ℕ)) (texts : List ℕ → List ℕ) (steps : ℕ) where
  abbrev OwedCalc : Owed Status → Type 0
  OwedCalc owed = IsOwedCalc steps source port text names texts owed

  abbrev lines_read : List ℕ
  lines_read = script_text (texts port)

  pub one_calc : OneInputs → (first second : Owed Status) → OwedCalc first → OwedCalc second → first ≡ second
  one_calc one_inputs first second x y = elim x [
    | inl p ↦ elim y [
      | inl q ↦ p.2 ∙ ap owed_refused (one_refusal text p.0 q.0 p.1.breaks q.1.breaks) ∙ sym q.2
      | inr q ↦ absurd (not_both text q.0 p.0 q.1 p.1)
    ]
    | inr p ↦ elim y [
      | inl q ↦ absurd (not_both text p.0 q.0 p.1 q.1)
      | inr q ↦
          let core : q.0.core ≡ p.0.core = one_sound_core text q.0 p.0 q.1 p.1 in
          let later : p.2 ≡ q.2 =
          one_script text p.0 p.1 lines_read names source port texts steps one_inputs p.2 q.2 p.3
          (subst (λ (c : Core). IsOwedScript steps c lines_read source port names texts q.2) core q.3) in
          p.4 ∙ ap (λ (o : Owed Status). after_reads (script_reads port) o) later ∙ sym q.4
    ]
  ]

  pub some_calc : SomeInputs → (owed : Owed Status) × OwedCalc owed
  some_calc has_inputs = elim (sound_or_not text) [
    | inl s ↦
        let later = some_script text s.0 s.1 lines_read names source port texts steps has_inputs in
        (_, inr (s.0, s.1, later.0, later.1, refl))
    | inr r ↦ (_, inl (r.0, r.1, refl))
  ]
