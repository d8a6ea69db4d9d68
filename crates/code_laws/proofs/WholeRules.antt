-- A whole rule: its result, and the handler of what that raises.
use Rattle.std.proofs.Common.{◌≡◌, ℕ, suc, ◌+◌, ◌≤◌, ◌==◌, max, true, List, ◌++◌, length, Option, Some, slice_get, refl, ap, sym, ◌∙◌, subst, arith, append_assoc}
use Rattle.std.proofs.lemmas.Bool.{eqb-true}
use Rattle.std.specs.Option.{unwrap_or}
use Rattle.hume_base.specs.declared.types.Ty.{Ty}
use Rattle.hume_base.specs.declared.types.Types.{Types}
use Rattle.hume_base.specs.declared.types.Value.{Value}
use Rattle.hume_model.specs.declared.core_tree.PatC.{PatC}
use Rattle.hume_model.specs.declared.core_tree.RuleC.{RuleC}
use Rattle.hume_model.specs.declared.core_tree.HandC.{HandC}
use Rattle.hume_model.specs.declared.core_tree.BoxC.{BoxC}
use Rattle.hume_model.specs.declared.core_tree.Core.{Core}
use Rattle.hume_model.specs.declared.outcome.Outputs.{Outputs}
use Rattle.hume_model.specs.declared.outcome.Outputs.TheVariants.{Asserts, Throws}
use Rattle.hume_model.specs.Matching.{fits, bound}
use Rattle.hume_model.specs.Results.{result_of}
use Rattle.hume_model.specs.Firing as firing
use Rattle.hume_model.specs.Handling.{HandlesAll}
use Rattle.hume_model.specs.Typing.{ArePatterns, is_raised}
use Rattle.hume_model.specs.ResultTyping.{GivesOutputs, are_outputs, is_result}
use Rattle.hume_model.specs.BoxTyping.{BoxIsTyped, RuleIsTyped, port_types}
use Rattle.hume_model.specs.WellFormed.{HasSoundParts}
use Rattle.hume_model.proofs.FiringTypes.{bound_typed, found_in}
use Rattle.hume_model.proofs.ResultTypes.{result_typed}
use Rattle.box_costs.specs.declared.cost.Cost.{Cost}
use Rattle.box_costs.specs.Costs.{objects, both}
use Rattle.box_costs.specs.Bounds.{built_patterns}
use Rattle.box_costs.specs.Spending.{Spent, spends, over}
use Rattle.box_costs.specs.ResultSpending.{built_values, handled, handled_by, handler_spent, inputs_built, result_spent, result_taken}
use Rattle.box_costs.proofs.Results.{sound}
use Rattle.box_heap.specs.Heaps.{Object}
use Rattle.box_code.specs.declared.program.BoxProgram.{BoxProgram}
use Rattle.box_code.specs.Paths.{spots_from}
use Rattle.box_code.specs.Machine.{Setting, Machine, EndsAfter, used, setting_of}
use Rattle.box_code.specs.Represents.{RuleStands, HandlerStands}
use Rattle.box_code.specs.RepresentsBox.{HasHandler, RepresentsBox}
use Rattle.code_laws.specs.Running.{thrown}
use Rattle.code_laws.specs.Ending.{flat_outputs, Finished, ResultRuns, ResultRunsSpent}
use Rattle.code_laws.specs.RuleEnding.{IsReady, exception_of, RuleRuns}
use Rattle.code_laws.proofs.Heaps.{used-append, as_many}
use Rattle.code_laws.proofs.Patterns.{words_right}
use Rattle.code_laws.proofs.ResultSteps.{ends_later, over_outputs_run}
use Rattle.code_laws.proofs.TypedForms.{as_params}
use Rattle.code_laws.proofs.Handlers.{bound_result_runs, handler_runs}
use Rattle.code_laws.proofs.Inputs.{are_built}

patterns_many : {types : Types} {ts : List Ty} {ps : List PatC} {vars : List Ty} → ArePatterns types ts ps vars → length ps ≡ length ts
patterns_many ArePatterns.none = refl
patterns_many (ArePatterns.one first rest) = ap suc (patterns_many rest)

module _ (core : Core) (well : HasSoundParts core) (b : BoxC) (typed : BoxIsTyped core b) (handles : HandlesAll core b) (program : BoxProgram) (represents : RepresentsBox core b program)
    (number : ℕ) (rule : RuleC) (there : slice_get b.rules number ≡ Some rule) (ins : List (Option Value)) (are : are_outputs core.types (port_types b.ins) ins ≡ true) (fit : fits rule.pats ins ≡ true) where
  abbrev s : Setting
  s = setting_of core.types program

  abbrev vs : List Value
  vs = bound rule.pats ins

  has : RuleIsTyped core b rule
  has = typed.rules number rule there

  -- what the result and what is below it spends
  abbrev spending : Spent Outputs
  spending = over (length (built_patterns rule.pats)) (result_taken (λ values. result_spent core values rule.result) vs)

  same_place : (a c : ℕ) → ◌≡◌ {A = Option ℕ} (Some a) (Some c) → a ≡ c
  same_place a c e = cc

  -- from the rule's place to its outputs, or to the handler
  result_part : (m : Machine) → IsReady program number rule ins m → ResultRunsSpent s m 0 spending
  result_part m ready =
      let place = represents.rules number rule there in
      let at : place.place ≡ m.at = same_place _ _ (sym place.begins ∙ ready.begins) in
      let built = are_built core.types has.positions.have ins are fit in
      let count = length (built_patterns rule.pats) in
      let long : length m.stack ≡ count = sym (as_many ready.inputs) ∙ as_params core.types built.tys (built_values rule.pats ins) built.are ∙ sym (patterns_many built.patterns) in
      let right = words_right core.types well.holds m.objects 0 m.stack built.patterns (built_values rule.pats ins) built.are m.stack ready.inputs 0
      (λ i w found. let e : 0 + (0 + i) ≡ i = omega arith in ap (slice_get m.stack) e ∙ found) in
      let y = result_taken (λ values. result_spent core values rule.result) vs in
      over_outputs_run s m 0 count y.outcome y.cost
      (bound_result_runs core well s represents.entry represents.functions refl (subst (λ tys. GivesOutputs core tys has.positions.vars rule.result) (sym represents.outs) has.outputs)
      m count (0 + count) (spots_from (built_patterns rule.pats) 0) vs (omega (arith, long)) long ready.low
      (subst (λ p. RuleStands program.code.words represents.entry rule p) at place.stands) (right.there vs built.bind) (bound_typed core.types well.holds has.positions.have ins are fit))

  abbrev meaning : Outputs
  meaning = result_of core vs rule.result

  means : spending.outcome ≡ meaning
  means = (sound core rule.result).means vs

  handler_at : (exn : ℕ) (handler : HandC) (h : HasHandler represents.entry program exn handler) → h.place ≡ s.handlers exn
  handler_at exn handler h = sym (ap (λ o. unwrap_or o (length program.code.words)) h.begins)

  -- the whole, by what the result comes to
  whole : (m : Machine) → IsReady program number rule ins m → (o : Outputs) (c : Cost) → spending.cost ≡ c → meaning ≡ o → ResultRuns s m 0 o c
      → (let f = spends (both (both (objects (inputs_built rule.pats ins)) c) (handled core b.handlers o).cost) (firing.handled core b.handlers o) in
      (end : Machine) × (more : List Object) × EndsAfter s m end f.cost.work × (end.outs ≡ flat_outputs core.types program.outs f.outcome) × (end.raised ≡ exception_of o)
      × (end.objects ≡ m.objects ++ more) × (inputs_built rule.pats ins + used more ≡ f.cost.heap) × (end.peak ≡ max m.peak f.cost.stack)
      × ((exn : ℕ) → exception_of o ≡ Some exn → 1 ≤ end.peak))
  whole m ready (Asserts outs) c cost is g =
      let size = g.size in
      let peak = g.peak in
      let e = g.comes in
      let last = e.counted in (
        g.end,
        g.more,
        record { last = e.last; before = e.before; goes = e.goes; ends = e.ends; counted = omega (arith, last) },
        g.gives,
        g.raised ∙ ready.unraised,
        g.objects,
        omega (arith, size),
        omega (arith, peak),
        (λ exn e. cc),
      )
  whole m ready (Throws exn carried) c cost is g =
      let k = handles number rule there ins are fit exn carried is in
      let at = found_in (λ (handler : HandC). handler.exn == exn) b.handlers k.handler k.found in
      let same : k.handler.exn ≡ exn = eqb-true k.handler.exn exn at.2 in
      let place = represents.handlers exn k.handler k.found in
      let raised : is_raised core.types (slice_get core.exns exn) carried ≡ true =
      sym (ap (is_result core (port_types b.outs)) is) ∙ result_typed core well (port_types b.outs) has.outputs vs (bound_typed core.types well.holds has.positions.have ins are fit) in
      let n = thrown s m exn g.word g.more (0 + c.stack) in
      let top = g.top in
      let r = handler_runs core well s represents.entry represents.functions refl b typed represents.outs k.handler (typed.handlers at.0 k.handler at.1) carried
      (subst (λ x. is_raised core.types (slice_get core.exns x) carried ≡ true) (sym same) raised) n g.word refl top g.stands
      (subst (λ p. HandlerStands program.code.words represents.entry k.handler p) (handler_at exn k.handler place) place.stands) in
      let gives : (handler_spent core carried k.handler).outcome ≡ Asserts k.outs = (sound core k.handler.result).means (firing.handler_env k.handler carried) ∙ k.gives in
      let h : Finished s n 0 k.outs (handler_spent core carried k.handler).cost = subst (λ o. ResultRuns s n 0 o (handler_spent core carried k.handler).cost) gives r in
      let cost_is : (handled core b.handlers (Throws exn carried)).cost ≡ (handler_spent core carried k.handler).cost = ap (λ x. (handled_by core carried x).cost) k.found in
      let outs_are : firing.handled core b.handlers (Throws exn carried) ≡ k.outs = ap (firing.handled_by core carried) k.found ∙ ap firing.outputs_or_none k.gives in
      let total = (λ (d : Cost). both (both (objects (inputs_built rule.pats ins)) c) d) in
      let u = used-append g.more h.more in
      let size = g.size in
      let more_size = h.size in
      let peak = h.peak in
      let e = ends_later s m n h.end c.work (handler_spent core carried k.handler).cost.work g.comes h.comes in
      let last = e.counted in
      subst (λ d. (end : Machine) × (more : List Object) × EndsAfter s m end (total d).work × (end.outs ≡ flat_outputs core.types program.outs (firing.handled core b.handlers (Throws exn carried)))
      × (end.raised ≡ Some exn) × (end.objects ≡ m.objects ++ more) × (inputs_built rule.pats ins + used more ≡ (total d).heap) × (end.peak ≡ max m.peak (total d).stack)
      × ((other : ℕ) → exception_of (Throws exn carried) ≡ Some other → 1 ≤ end.peak)) (sym cost_is) (
        h.end,
        g.more ++ h.more,
        record { last = e.last; before = e.before; goes = e.goes; ends = e.ends; counted = omega (arith, last) },
        h.gives ∙ ap (flat_outputs core.types program.outs) (sym outs_are),
        h.raised,
        h.objects ∙ append_assoc m.objects g.more h.more,
        omega (arith, u, size, more_size),
        omega (arith, peak),
        (λ other f. omega (arith, peak, top)),
      )

  pub rule_runs : (m : Machine) → IsReady program number rule ins m → RuleRuns s core b rule ins m
  rule_runs m ready =
      let o = spending.outcome in
      let w = whole m ready o spending.cost refl (sym means) (result_part m ready) in
      record {
        end = w.0;
        more = w.1;
        comes = w.2;
        gives = w.3 ∙ ap (λ x. flat_outputs core.types program.outs (firing.handled core b.handlers x)) means;
        raised = w.4 ∙ ap exception_of means;
        objects = w.5;
        heap = w.6;
        peak = w.7;
        handler_word = λ exn e. w.8 exn (sym (w.4) ∙ e);
      }
