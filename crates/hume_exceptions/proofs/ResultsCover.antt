-- Whatever a result raises, on values of its variables' types, it may raise.
use Rattle.std.proofs.Common.{◌≡◌, ℕ, ◌==◌, not, ◌&&◌, ◌||◌, Bool, true, false, if◌then◌else◌, List, [], ◌∷◌, ◌++◌, map, Option, Some, None, refl, ap, sym, ◌∙◌, subst}
use Rattle.std.proofs.lemmas.Bool.{eq-eqb}
use Rattle.std.specs.Option.{option_map}
use Rattle.std.specs.List.{list_any, filter_map}
use Rattle.hume_base.specs.declared.types.Ty.{Ty}
use Rattle.hume_base.specs.declared.types.Value.{Value}
use Rattle.hume_base.specs.Flat.{word_of_value}
use Rattle.hume_base.specs.Values.{is_value}
use Rattle.hume_model.specs.declared.core_tree.PatC.{PatC}
use Rattle.hume_model.specs.declared.core_tree.Expr.{Expr}
use Rattle.hume_model.specs.declared.core_tree.Res.{Res}
use Rattle.hume_model.specs.declared.core_tree.Core.{Core}
use Rattle.hume_model.specs.declared.exceptions.TheConstants.{NO_CASE}
use Rattle.hume_model.specs.declared.outcome.Outcome.{Outcome}
use Rattle.hume_model.specs.declared.outcome.Outcome.TheVariants.{Gives, Raises}
use Rattle.hume_model.specs.declared.outcome.Outputs.{Outputs}
use Rattle.hume_model.specs.declared.outcome.Outputs.TheVariants.{Asserts, Throws}
use Rattle.hume_model.specs.Outcomes.{on_match, raised, thrown, then_outputs, then_outs, after_outputs, outs_in_order}
use Rattle.hume_model.specs.Patterns.{matches}
use Rattle.hume_model.specs.Results.{result_of, first_result, meaning_in}
use Rattle.hume_model.specs.Typing.{AreOf, HasType, is_outcome}
use Rattle.hume_model.specs.ResultTyping.{OutsHave, GivesOutputs, ArmsGiveOutputs}
use Rattle.hume_model.specs.WellFormed.{HasSoundParts}
use Rattle.hume_model.specs.Completeness.{are_complete}
use Rattle.hume_model.specs.Raising.{may_raise, raises_if_there, result_may_raise}
use Rattle.hume_model.specs.inner.Arms.{result_arm_with}
use Rattle.hume_model.proofs.CallTypes.{eval_typed}
use Rattle.hume_model.proofs.PatternTypes.{of_both, one_of, pattern_typed}
use Rattle.hume_model.proofs.ResultTypes.{result-outs, result-if, result-case, result-let, result-raise}
use Rattle.hume_exceptions.specs.Matched.{ArePatternsOf, is_matched}
use Rattle.hume_exceptions.proofs.Completes.{or_left, or_right, complete_matched}
use Rattle.hume_exceptions.proofs.Covering.{Covers, none_left, incomplete, or_assoc, own_covers}
use Rattle.hume_exceptions.proofs.CallsCover.{eval_covers}
use Rattle.hume_exceptions.proofs.ResultForms.{raises-outs, raises-choice, raises-arms, raises-binding, raises-raise}

-- if the exception is raised, it may be
pub record CoversOutputs (exn : ℕ) (may : Bool) (outputs : Outputs) : Type 0 where
  pub by : (carried : Option Value) → outputs ≡ Throws exn carried → may ≡ true

abbrev thrown_in : Outputs → Outcome
thrown_in (Asserts outs) = Raises 0 None
thrown_in (Throws y x) = Raises y x

abbrev number_in : Outputs → ℕ
number_in (Asserts outs) = 0
number_in (Throws y x) = y

module _ (exn : ℕ) where
  outcome_same : (y : ℕ) (x k : Option Value) → Throws y x ≡ Throws exn k → Raises y x ≡ Raises exn k
  outcome_same y x k e = ap thrown_in e

  asserts_covers : (may : Bool) (outs : List (Option Value)) → CoversOutputs exn may (Asserts outs)
  asserts_covers may outs = record { by = λ k e. cc }

  weaker_outputs : (a b : Bool) (o : Outputs) → (a ≡ true → b ≡ true) → CoversOutputs exn a o → CoversOutputs exn b o
  weaker_outputs a b o go p = record { by = λ k e. go (p.by k e) }

  by_result : (a b : Bool) (o p : Outputs) → a ≡ b → o ≡ p → CoversOutputs exn b p → CoversOutputs exn a o
  by_result a b o p same is c = record { by = λ k e. same ∙ c.by k (sym is ∙ e) }

  outputs_covers : (a c : Bool) (o : Outcome) (go : Value → Outputs) → Covers exn a o → ((v : Value) → o ≡ Gives v → CoversOutputs exn c (go v)) → CoversOutputs exn (a || c) (then_outputs o go)
  outputs_covers a c (Gives v) go p q = record { by = λ k e. or_right a c ((q v refl).by k e) }
  outputs_covers a c (Raises y x) go p q = record { by = λ k e. or_left a c (p.by k (outcome_same y x k e)) }

  after_covers : (out : Option Value) (b : Bool) (rest : Outputs) → CoversOutputs exn b rest → CoversOutputs exn b (after_outputs (out ∷ []) rest)
  after_covers out b (Asserts outs) p = asserts_covers b _
  after_covers out b (Throws y x) p = p

  outs_cover : (a b : Bool) (o : Outcome) (rest : Outputs) → Covers exn a o → CoversOutputs exn b rest → CoversOutputs exn (a || b) (then_outs o rest)
  outs_cover a b (Gives v) rest p q = weaker_outputs b (a || b) _ (or_right a b) (after_covers (Some v) b rest q)
  outs_cover a b (Raises y x) rest p q = record { by = λ k e. or_left a b (p.by k (outcome_same y x k e)) }

  either_outputs : (c may : Bool) (x y : Outputs) → CoversOutputs exn may x → CoversOutputs exn may y → CoversOutputs exn may (if c then x else y)
  either_outputs true may x y p q = p
  either_outputs false may x y p q = q

  match_outputs : (m : Option (List Value)) (go : List Value → Outputs) (other : Outputs) (a b : Bool) → ((vs : List Value) → m ≡ Some vs → CoversOutputs exn a (go vs)) → (m ≡ None → CoversOutputs exn b other)
      → CoversOutputs exn (a || b) (on_match m go other)
  match_outputs None go other a b p q = record { by = λ k e. or_right a b ((q refl).by k e) }
  match_outputs (Some vs) go other a b p q = record { by = λ k e. or_left a b ((p vs refl).by k e) }

  no_case_covers : (left : Bool) → left ≡ true → CoversOutputs exn ((exn == NO_CASE) && left) (Throws NO_CASE None)
  no_case_covers left is = record { by = λ k e. (own_covers exn NO_CASE left is).by k (outcome_same NO_CASE None k e) }

  raise_covers : (number : ℕ) (a : Bool) (o : Outcome) → Covers exn a o → CoversOutputs exn (a || (number == exn)) (thrown (raised number (Some (λ env. o)) []))
  raise_covers number a (Gives v) p = record { by = λ k e. or_right a _ (eq-eqb number exn (ap number_in e)) }
  raise_covers number a (Raises y x) p = record { by = λ k e. or_left a _ (p.by k (outcome_same y x k e)) }

module _ (core : Core) (sound : HasSoundParts core) (exn : ℕ) where
  abbrev raises : Res → Bool
  raises = result_may_raise core exn

  abbrev expects : Expr → Bool
  expects = may_raise core exn

  all_outs : {vars tys : List Ty} {outs : List (Option Expr)} → OutsHave core vars outs tys → (env : List Value) → AreOf core.types vars env
      → CoversOutputs exn (list_any (raises_if_there expects) outs) (outs_in_order (map (option_map (meaning_in core)) outs) env)
  all_outs OutsHave.none env is = asserts_covers exn _ _
  all_outs (OutsHave.star rest) env is = after_covers exn None _ _ (all_outs rest env is)
  all_outs (OutsHave.value first rest) env is = outs_cover exn _ _ _ _ (eval_covers core sound exn first env is) (all_outs rest env is)

  gives_of : {vars : List Ty} {e : Expr} {t : Ty} → HasType core vars e t → (env : List Value) → AreOf core.types vars env → (v : Value) → meaning_in core e env ≡ Gives v → is_value core.types t v ≡ true
  gives_of {t = t} has env is v gives = subst (λ o. is_outcome core t o ≡ true) gives (eval_typed core sound has env is)

  abbrev arm_patterns : List (PatC × Res) → List PatC
  arm_patterns arms = filter_map (λ (arm : PatC × Res). Some arm.0) arms

  abbrev some_arms : List (PatC × Res) → Bool
  some_arms arms = list_any (λ (arm : PatC × Res). raises arm.1) arms

  module _ (tys : List Ty) where
    patterns_of : {vars : List Ty} {of : Ty} {arms : List (PatC × Res)} → ArmsGiveOutputs core tys vars of arms → ArePatternsOf core.types of (arm_patterns arms)
    patterns_of ArmsGiveOutputs.no_arm = ArePatternsOf.none
    patterns_of (ArmsGiveOutputs.one_arm {bound = ys} pattern body rest) = ArePatternsOf.one ys pattern (patterns_of rest)

    mutual
      pub result_covers : {vars : List Ty} {r : Res} → GivesOutputs core tys vars r → (env : List Value) → AreOf core.types vars env → CoversOutputs exn (raises r) (result_of core env r)
      result_covers (GivesOutputs.outputs {outs = outs} have) env is = by_result exn _ _ _ _ (raises-outs core exn outs) (result-outs core env outs) (all_outs have env is)
      result_covers (GivesOutputs.choice {test = c} {when_true = a} {when_false = b} test first second) env is =
          by_result exn _ _ _ _ (raises-choice core exn c a b) (result-if core env c a b)
          (outputs_covers exn _ _ _ _ (eval_covers core sound exn test env is) (λ v g. either_outputs exn (word_of_value v == 0) _ _ _
          (weaker_outputs exn _ _ _ (or_right (raises a) (raises b)) (result_covers second env is)) (weaker_outputs exn _ _ _ (or_left (raises a) (raises b)) (result_covers first env is))))
      result_covers (GivesOutputs.alternatives of {part = e} {forms = forms} {arms = ways} part is_of arms) env is =
          let complete = are_complete core.types forms (arm_patterns ways) in
          by_result exn _ _ _ _ (raises-arms core exn e forms ways) (result-case core env e forms ways)
          (outputs_covers exn _ _ _ _ (eval_covers core sound exn part env is) (λ v g.
          arms_cover arms env is v (gives_of part env is v g) (not complete)
          (incomplete complete (is_matched (arm_patterns ways) v) (λ h. complete_matched core.types sound.holds of (arm_patterns ways) (patterns_of arms) (subst (λ f. are_complete core.types f (arm_patterns ways) ≡ true) is_of h) v (gives_of part env is v g)))))
      result_covers (GivesOutputs.binding {vars = xs} of {part = e} {body = b} part body) env is =
          by_result exn _ _ _ _ (raises-binding core exn e b) (result-let core env e b)
          (outputs_covers exn _ _ _ _ (eval_covers core sound exn part env is) (λ v g.
          result_covers body (env ++ v ∷ []) (of_both core.types xs (of ∷ []) env (v ∷ []) is (one_of core.types of v (gives_of part env is v g)))))
      result_covers (GivesOutputs.raise_alone number x found carries) env is =
          by_result exn _ _ _ _ (raises-raise core exn number None) (result-raise core env number None) (record { by = λ k e. eq-eqb number exn (ap number_in e) })
      result_covers (GivesOutputs.raise_with number x carried {part = e} found carries part) env is =
          by_result exn _ _ _ _ (raises-raise core exn number (Some e)) (result-raise core env number (Some e))
          (raise_covers exn number (expects e) (meaning_in core e env) (eval_covers core sound exn part env is))

      pub arms_cover : {vars : List Ty} {of : Ty} {arms : List (PatC × Res)} → ArmsGiveOutputs core tys vars of arms → (env : List Value) → AreOf core.types vars env → (v : Value)
          → is_value core.types of v ≡ true → (left : Bool) → (is_matched (arm_patterns arms) v ≡ false → left ≡ true)
          → CoversOutputs exn (some_arms arms || ((exn == NO_CASE) && left)) (first_result (map (result_arm_with (λ r env. result_of core env r)) arms) v env)
      arms_cover ArmsGiveOutputs.no_arm env is v is_v left go = no_case_covers exn left (go refl)
      arms_cover (ArmsGiveOutputs.one_arm {vars = xs} {bound = ys} {p = p} {r = r} {arms = more} pattern body rest) env is v is_v left go =
          weaker_outputs exn _ _ _ (or_assoc (raises r) (some_arms more) ((exn == NO_CASE) && left))
          (match_outputs exn (matches p v) _ _ (raises r) (some_arms more || ((exn == NO_CASE) && left))
          (λ vs found. result_covers body (env ++ vs) (of_both core.types xs ys env vs is (pattern_typed core.types sound.holds pattern v vs is_v found)))
          (λ none. arms_cover rest env is v is_v left (λ h. go (none_left (matches p v) _ none h))))
