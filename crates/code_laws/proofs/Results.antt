-- Where the code of a result stands, the machine ends with its outputs, and spends what it spends.
use Rattle.std.proofs.Common.{◌≡◌, ℕ, ◌+◌, ◌≤◌, ◌==◌, max, Bool, true, false, if◌then◌else◌, List, [], ◌∷◌, ◌++◌, map, length, Option, Some, None, slice_get, refl, ap, sym, ◌∙◌, subst, arith, append_assoc}
use Rattle.std.proofs.lemmas.List.{length-append}
use Rattle.std.specs.Option.{option_map, option_and_then}
use Rattle.hume_base.specs.declared.types.Ty.{Ty}
use Rattle.hume_base.specs.declared.types.Ty.TheVariants as shape
use Rattle.hume_base.specs.declared.types.Value.{Value}
use Rattle.hume_base.specs.Flat.{word_of_value}
use Rattle.hume_base.specs.Values.{is_value}
use Rattle.hume_model.specs.declared.core_tree.PatC.{PatC}
use Rattle.hume_model.specs.declared.core_tree.Expr.{Expr}
use Rattle.hume_model.specs.declared.core_tree.Res.{Res, roll-Res, map-Res}
use Rattle.hume_model.specs.declared.core_tree.Res.TheOpen.{Res-F}
use Rattle.hume_model.specs.declared.core_tree.Res.TheVariants as res
use Rattle.hume_model.specs.declared.core_tree.Core.{Core}
use Rattle.hume_model.specs.declared.exceptions.TheConstants.{NO_CASE}
use Rattle.hume_model.specs.declared.outcome.Outcome.{Outcome}
use Rattle.hume_model.specs.declared.outcome.Outcome.TheVariants.{Gives, Raises}
use Rattle.hume_model.specs.declared.outcome.Outputs.{Outputs}
use Rattle.hume_model.specs.declared.outcome.Outputs.TheVariants.{Asserts, Throws}
use Rattle.hume_model.specs.Patterns.{matches}
use Rattle.hume_model.specs.Typing.{AreOf, HasType}
use Rattle.hume_model.specs.ResultTyping.{GivesOutputs, ArmsGiveOutputs, are_outputs}
use Rattle.hume_model.specs.WellFormed.{HasSoundParts}
use Rattle.hume_model.proofs.PatternTypes.{of_both, one_of, pattern_typed}
use Rattle.box_costs.specs.declared.cost.Cost.{Cost}
use Rattle.box_costs.specs.Costs.{instructions}
use Rattle.box_costs.specs.PatternTests.{tries}
use Rattle.box_costs.specs.Spending.{Spent, spends, after, over, raise_spent, spent}
use Rattle.box_costs.specs.ResultSpending.{ResultSpending, finished, outs_spent, first_result, thrown_spent, result_spent_step, spending_in, result_spent}
use Rattle.box_costs.proofs.Trials.{trial}
use Rattle.box_heap.specs.Standing.{Stands}
use Rattle.box_code.specs.declared.instr.Instr.TheVariants.{Raise, Finish}
use Rattle.box_code.specs.Words.{StandsAt}
use Rattle.box_code.specs.Paths.{root, spots_at}
use Rattle.box_code.specs.Machine.{Setting, Machine, at_path}
use Rattle.box_code.specs.Represents.{Represents, FunctionsStand, counted, mask_of, ResultStands, ResultArmsStand}
use Rattle.code_laws.specs.Running.{Comes, later, Runs, RunsSpent}
use Rattle.code_laws.specs.Variables.{Fits}
use Rattle.code_laws.specs.Ending.{ResultRunsSpent}
use Rattle.code_laws.proofs.Heaps.{as_many, word_stands, get_new}
use Rattle.code_laws.proofs.Steps.{append_nil, moved, alike}
use Rattle.code_laws.proofs.Combine.{reached, no_more}
use Rattle.code_laws.proofs.Leaves.{raises_runs}
use Rattle.code_laws.proofs.Words.{scalar_word, bool_scalar}
use Rattle.code_laws.proofs.Trying.{AllAt}
use Rattle.code_laws.proofs.Tests.{tests_run}
use Rattle.code_laws.proofs.Patterns.{pattern_right}
use Rattle.code_laws.proofs.Forms.{choice_runs}
use Rattle.code_laws.proofs.Frames.{fits_more, fits_bound, fits_later}
use Rattle.code_laws.proofs.TypedForms.{raise_alone_runs, raise_runs}
use Rattle.code_laws.proofs.Binding.{bind_runs}
use Rattle.code_laws.proofs.Calling.{expression_runs}
use Rattle.code_laws.proofs.Finishing.{finish_runs}
use Rattle.code_laws.proofs.Outs.{RunOuts, value_of, outs_run}
use Rattle.code_laws.proofs.ResultLayer.{stands_there, spends_result, spent_form}
use Rattle.code_laws.proofs.ResultSteps.{after_outputs_run, over_outputs_run, then_outputs_run, instr_outputs_run, trial_outputs_run}

module _ (core : Core) (sound : HasSoundParts core) (s : Setting) (entry : ℕ → Option ℕ) (stand : FunctionsStand s.code entry core) (same_types : s.types ≡ core.types) where
  abbrev arm_spending : PatC × Res → PatC × ResultSpending
  arm_spending arm = (arm.0, spends_result core arm.1)

  by_form : (m : Machine) (tall : ℕ) (env : List Value) (r : Res) (x : Res-F Res) → roll-Res x ≡ r
      → ResultRunsSpent s m tall (result_spent_step (spending_in core) (map-Res Res ResultSpending (spends_result core) x) env) → ResultRunsSpent s m tall (result_spent core env r)
  by_form m tall env r x is k = subst (λ y. ResultRunsSpent s m tall y) (sym (spent_form core env r x is)) k

  -- the outputs, and the instruction that hands them over
  handed_over : (m : Machine) (tall mid to : ℕ) (outs : List (Option Expr)) (o : Outputs) (c : Cost) → tall ≤ m.peak → RunOuts core sound s entry stand m m.stack tall mid outs s.outs o c
      → StandsAt s.code mid (Finish (mask_of outs)) to → ResultRunsSpent s m tall (finished (spends c o))
  handed_over m tall mid to outs (Asserts values) c low g found =
      let n = later m mid (m.stack ++ g.words) g.more (tall + c.stack) in
      after_outputs_run s m tall mid (m.stack ++ g.words) g.more c (Asserts values) (instructions 1) g.comes g.size
      (finish_runs s n m.stack g.words tall (mask_of outs) to values refl g.mask found g.many (subst (λ t. are_outputs t s.outs values ≡ true) (sym same_types) g.are)
      g.stands (as_many g.stands) (omega (arith, low)))
  handed_over m tall mid to outs (Throws exn carried) c low g found = no_more s m tall exn carried c g

  -- an exception without outputs
  thrown_runs : (m : Machine) (tall to : ℕ) (x : Outcome) (c : Cost) → ((v : Value) → x ≡ Gives v → ⊥) → Runs s m m.stack tall to x c → ResultRunsSpent s m tall (thrown_spent (spends c x))
  thrown_runs m tall to (Gives v) c never r = absurd (never v refl)
  thrown_runs m tall to (Raises exn carried) c never r = r

  never_gives : (exn : ℕ) (x : Spent Outcome) (v : Value) → (raise_spent exn (Some (λ env. x)) []).outcome ≡ Gives v → ⊥
  never_gives exn x v e = by x.outcome e
    where
      by : (o : Outcome) → (raise_spent exn (Some (λ env. spends x.cost o)) []).outcome ≡ Gives v → ⊥
      by (Gives u) e = cc
      by (Raises other carried) e = cc

  -- one branch or the other
  branch : (n : Machine) (base : List ℕ) (tall first second : ℕ) (b : Bool) (sure other : Spent Outputs) → tall ≤ n.peak → Comes s n (moved n (if b then second else first) base) 1
      → ResultRunsSpent s (later n first base [] (tall + 0)) tall sure → ResultRunsSpent s (later n second base [] (tall + 0)) tall other
      → ResultRunsSpent s n tall (after (instructions 1) (if b then other else sure))
  branch n base tall first second true sure other low f ry rn = instr_outputs_run s n tall second base 1 other.outcome other.cost low f rn
  branch n base tall first second false sure other low f ry rn = instr_outputs_run s n tall first base 1 sure.outcome sure.cost low f ry

  abbrev expression : {vars : List Ty} {e : Expr} {t : Ty} → HasType core vars e t → (env : List Value) → AreOf core.types vars env
      → (places : List ℕ) (high : ℕ) (m : Machine) (to under tall : ℕ) → tall ≡ length m.stack → Represents s.code entry places high m.at to e → Fits under places env high m
      → RunsSpent s m m.stack tall to (spent core env e)
  expression has = expression_runs core sound s entry stand has

  mutual
    pub result_runs : {vars : List Ty} {r : Res} → GivesOutputs core s.outs vars r → (env : List Value) → AreOf core.types vars env
        → (places : List ℕ) (high : ℕ) (m : Machine) (to under tall : ℕ) → tall ≡ length m.stack → ResultStands s.code entry places high m.at to r → Fits under places env high m
        → ResultRunsSpent s m tall (result_spent core env r)
    result_runs (GivesOutputs.outputs {outs = outs} have) env is places high m to under tall l rep fits =
        let r = stands_there s.code entry rep (Res-F.Outs outs) (res.rolls-Outs outs) in
        let x = outs_spent (map (option_map (spending_in core)) outs) env in
        let low = fits.low in
        by_form m tall env (res.Outs outs) (Res-F.Outs outs) (res.rolls-Outs outs)
        (handed_over m tall r.0 to outs x.outcome x.cost (omega (arith, low, l)) (outs_run core sound s entry stand have env is places high m r.0 under tall l r.1 fits) r.2)
    result_runs (GivesOutputs.choice {test = c} {when_true = a} {when_false = b} test first second) env is places high m to under tall l rep fits =
        let r = stands_there s.code entry rep (Res-F.If c a b) (res.rolls-If c a b) in
        let x = spent core env c in
        by_form m tall env (res.If c a b) (Res-F.If c a b) (res.rolls-If c a b)
        (then_outputs_run s m tall m.stack r.0 x.outcome x.cost (λ v. after (instructions 1) (if word_of_value v == 0 then result_spent core env b else result_spent core env a))
        (expression test env is places high m r.0 under tall l r.3 fits)
        (λ v gives g. let n = reached s m m.stack tall r.0 v x.cost g in
        let word : g.word ≡ word_of_value v = word_stands g.stands (word_of_value v) (scalar_word core.types shape.Bool v bool_scalar (value_of core sound s entry stand test env is v gives)) in
        let again : (p : ℕ) → Fits under places env high (later n p m.stack [] (tall + 0)) =
        (λ p. let f = fits_later under places env high m fits p (g.more ++ []) (max (tall + x.cost.stack) (tall + 0)) (omega (arith, l)) in
        subst (λ k. Fits under places env high k) (alike m refl refl (let q : max m.peak (max (tall + x.cost.stack) (tall + 0)) ≡ max (max m.peak (tall + x.cost.stack)) (tall + 0) = omega arith in q)
        (sym (append_assoc m.objects g.more []))) f) in
        branch n m.stack tall r.1 r.2 (word_of_value v == 0) (result_spent core env a) (result_spent core env b) (omega arith) (choice_runs s n m.stack g.word r.0 r.1 r.2 v refl r.4 word)
        (result_runs first env is places high (later n r.1 m.stack [] (tall + 0)) r.2 under tall l r.5 (again r.1))
        (result_runs second env is places high (later n r.2 m.stack [] (tall + 0)) to under tall l r.6 (again r.2))))
    result_runs (GivesOutputs.alternatives of {part = a} {forms = forms} {arms = ways} part is_of arms) env is places high m to under tall l rep fits =
        let r = stands_there s.code entry rep (Res-F.Case a forms ways) (res.rolls-Case a forms ways) in
        let x = spent core env a in
        by_form m tall env (res.Case a forms ways) (Res-F.Case a forms ways) (res.rolls-Case a forms ways)
        (then_outputs_run s m tall m.stack r.0 x.outcome x.cost (λ v. over 1 (first_result (map arm_spending ways) v env)) (expression part env is places high m r.0 under tall l r.1 fits)
        (λ v gives g. let n = reached s m m.stack tall r.0 v x.cost g in let gt = g.top in let one = length-append m.stack (g.word ∷ []) in
        let y = first_result (map arm_spending ways) v env in
        over_outputs_run s n tall 1 y.outcome y.cost
        (result_arms_run arms env is v (value_of core sound s entry stand part env is v gives) places high to under (tall + 1) r.2 n m.stack g.word refl refl g.stands
        (fits_more under places env high m fits r.0 g.word g.more (tall + x.cost.stack) (omega (arith, gt, l))) fits.long (omega (arith, one, l)))))
    result_runs (GivesOutputs.binding {vars = vars} of {part = a} {body = b} part body) env is places high m to under tall l rep fits =
        let r = stands_there s.code entry rep (Res-F.Let a b) (res.rolls-Let a b) in
        let x = spent core env a in
        by_form m tall env (res.Let a b) (Res-F.Let a b) (res.rolls-Let a b)
        (then_outputs_run s m tall m.stack r.0 x.outcome x.cost (λ v. over 1 (result_spent core (env ++ v ∷ []) b)) (expression part env is places high m r.0 under tall l r.1 fits)
        (λ v gives g. let n = reached s m m.stack tall r.0 v x.cost g in let gt = g.top in let one = length-append m.stack (g.word ∷ []) in
        let y = result_spent core (env ++ v ∷ []) b in
        over_outputs_run s n tall 1 y.outcome y.cost
        (result_runs body (env ++ v ∷ []) (of_both core.types vars (of ∷ []) env (v ∷ []) is (one_of core.types of v (value_of core sound s entry stand part env is v gives)))
        (places ++ high ∷ []) (high + 1) n to under (tall + 1) (omega (arith, one, l)) r.2
        (fits_bound under places env high m fits r.0 v g.word g.more (tall + x.cost.stack) (omega (arith, gt, l)) g.stands))))
    result_runs (GivesOutputs.raise_alone number exn found carries) env is places high m to under tall l rep fits =
        let r = stands_there s.code entry rep (Res-F.Raise number None) (res.rolls-Raise number None) in
        by_form m tall env (res.Raise number None) (Res-F.Raise number None) (res.rolls-Raise number None) (raise_alone_runs s m tall l number r.0 to r.1 r.2)
    result_runs (GivesOutputs.raise_with number exn carried {part = e} found carries part) env is places high m to under tall l rep fits =
        let r = stands_there s.code entry rep (Res-F.Raise number (Some e)) (res.rolls-Raise number (Some e)) in
        let x = spent core env e in
        let y = raise_spent number (Some (spending_in core e)) env in
        by_form m tall env (res.Raise number (Some e)) (Res-F.Raise number (Some e)) (res.rolls-Raise number (Some e))
        (thrown_runs m tall to y.outcome y.cost (λ v gives. never_gives number x v gives)
        (raise_runs s m tall number r.0 to x.outcome x.cost r.2 (expression part env is places high m r.0 under tall l r.1 fits)))

    -- the alternatives, for the word on top
    result_arms_run : {vars : List Ty} {of : Ty} {arms : List (PatC × Res)} → ArmsGiveOutputs core s.outs vars of arms → (env : List Value) → AreOf core.types vars env
        → (v : Value) → is_value core.types of v ≡ true → (places : List ℕ) (high to under tall : ℕ) {from : ℕ} → ResultArmsStand s.code entry places high from to arms
        → (m : Machine) (base : List ℕ) (w : ℕ) → m.at ≡ from → m.stack ≡ base ++ w ∷ [] → Stands m.objects v w → Fits under places env (high + 1) m → length base ≡ under + high → tall ≡ length m.stack
        → ResultRunsSpent s m tall (first_result (map arm_spending arms) v env)
    result_arms_run ArmsGiveOutputs.no_arm env is v value_is places high to under tall (ResultArmsStand.no_arm raise) m base w at stack stands fits long l =
        let low = fits.low in
        let high_enough = fits.long in
        raises_runs s m tall (Raise NO_CASE false) to NO_CASE 0 None (instructions 1) (subst (λ p. StandsAt s.code p (Raise NO_CASE false) to) (sym at) raise) refl refl refl refl
        (omega (arith, low, l)) (omega (arith, low, high_enough))
    result_arms_run {vars = vars} (ArmsGiveOutputs.one_arm {bound = bound_types} {p = p} {r = r} {arms = arms} pattern has rest) env is v value_is places high to under tall
        (ResultArmsStand.one_arm tested bound other tests fields body more) m base w at stack stands fits long l =
        let low = fits.low in
        let spots = spots_at p (root high) in
        let there : slice_get m.stack (under + high) ≡ Some w = ap (λ k. slice_get k (under + high)) stack ∙ ap (slice_get (base ++ w ∷ [])) (sym long) ∙ get_new base w [] in
        let right = pattern_right core.types sound.holds m.objects under m.stack pattern v value_is (root high) w (ap (option_and_then (at_path m.objects [])) there) stands in
        let n1 = later m tested m.stack [] (tall + 0) in
        let n2 = later m other m.stack [] (tall + 0) in
        let objects : m.objects ≡ m.objects ++ [] = sym (append_nil m.objects) in
        let again : (q : ℕ) → Fits under places env (high + 1) (later m q m.stack [] (tall + 0)) = (λ q. fits_later under places env (high + 1) m fits q [] (tall + 0) (omega (arith, l))) in
        trial_outputs_run s m tall tested other (tries p v) (λ values. result_spent core (env ++ values) r) (first_result (map arm_spending arms) v env) (omega (arith, low, l))
        (matches p v) (trial p v).passed (tests_run s under (high + 1) tests m at fits.long (tries p v) right.same)
        (λ vs found. let y = result_spent core (env ++ vs) r in
        let b = bind_runs s under places env (high + 1) bound spots n1 tall l (again tested) fields vs
        (subst (λ o. AllAt o under m.stack spots vs) objects (right.there vs found)) in
        let n3 = later n1 bound (n1.stack ++ b.words) [] (tall + length vs + 0) in
        let z = after (instructions (length vs)) y in
        let height = b.height in
        over_outputs_run s n1 tall (length vs) z.outcome z.cost
        (after_outputs_run s n1 (tall + length vs) bound (n1.stack ++ b.words) [] (instructions (length vs)) y.outcome y.cost b.comes refl
        (result_runs has (env ++ vs) (of_both core.types vars bound_types env vs is (pattern_typed core.types sound.holds pattern v vs value_is found))
        (places ++ counted (high + 1) (length spots)) (high + 1 + length spots) n3 other under (tall + length vs) (sym height) body b.fits)))
        (result_arms_run rest env is v value_is places high to under tall more n2 base w refl stack (subst (λ o. Stands o v w) objects stands) (again other) long l)
