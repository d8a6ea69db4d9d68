-- A result that gives outputs of types gives values of them, or raises an exception of the core.
use Rattle.std.proofs.Common.{◌≡◌, ℕ, ◌==◌, Bool, true, false, if◌then◌else◌, List, [], ◌∷◌, ◌++◌, map, Option, Some, None, slice_get, refl, ap, sym, ◌∙◌}
use Rattle.std.specs.Option.{option_map}
use Rattle.hume_base.specs.declared.types.Ty.{Ty}
use Rattle.hume_base.specs.declared.types.Ty.TheVariants as shape
use Rattle.hume_base.specs.declared.boxed.Box.{Box}
use Rattle.hume_base.specs.declared.types.Value.{Value}
use Rattle.hume_base.specs.Values.{is_value}
use Rattle.hume_model.specs.declared.core_tree.Forms.{Forms}
use Rattle.hume_model.specs.declared.core_tree.PatC.{PatC}
use Rattle.hume_model.specs.declared.core_tree.Expr.{Expr}
use Rattle.hume_model.specs.declared.core_tree.Res.{Res, fold-roll-Res}
use Rattle.hume_model.specs.declared.core_tree.Res.TheOpen.{Res-F}
use Rattle.hume_model.specs.declared.core_tree.Res.TheVariants as res
use Rattle.hume_model.specs.declared.core_tree.ExnDef.{ExnDef}
use Rattle.hume_model.specs.declared.core_tree.Core.{Core}
use Rattle.hume_model.specs.declared.outcome.Outcome.{Outcome}
use Rattle.hume_model.specs.declared.outcome.Outcome.TheVariants.{Gives, Raises}
use Rattle.hume_model.specs.declared.outcome.Outputs.{Outputs}
use Rattle.hume_model.specs.declared.outcome.Outputs.TheVariants.{Asserts, Throws}
use Rattle.hume_model.specs.Outcomes.{on_match, raised, then_outputs, then_outs, after_outputs, outs_in_order, thrown}
use Rattle.hume_base.specs.Flat.{word_of_value}
use Rattle.hume_model.specs.Patterns.{matches}
use Rattle.hume_model.specs.Results.{ResultMeaning, result_of, result_step, first_result, meaning_in}
use Rattle.hume_model.specs.inner.Arms.{result_arm_with}
use Rattle.hume_model.specs.Typing.{AreOf, is_outcome, is_raised}
use Rattle.hume_model.specs.ResultTyping.{OutsHave, GivesOutputs, ArmsGiveOutputs, is_result}
use Rattle.hume_model.specs.WellFormed.{HasSoundParts}
use Rattle.hume_model.proofs.OwnExceptions.{own_raised}
use Rattle.hume_model.proofs.PatternTypes.{both_true, of_both, one_of, pattern_typed}
use Rattle.hume_model.proofs.CallTypes.{eval_typed}

module _ (core : Core) (env : List Value) where
  pub result-outs : (outs : List (Option Expr)) → result_of core env (res.Outs outs) ≡ outs_in_order (map (option_map (meaning_in core)) outs) env
  result-outs outs = ap (λ r. result_of core env r) (sym (res.rolls-Outs outs)) ∙ ap (λ (m : ResultMeaning). m env) (fold-roll-Res ResultMeaning (result_step (meaning_in core)) (Res-F.Outs outs))

  pub result-if : (test : Expr) (a b : Box Res) → result_of core env (res.If test a b)
      ≡ then_outputs (meaning_in core test env) (λ v. if word_of_value v == 0 then result_of core env b else result_of core env a)
  result-if test a b = ap (λ r. result_of core env r) (sym (res.rolls-If test a b)) ∙ ap (λ (m : ResultMeaning). m env) (fold-roll-Res ResultMeaning (result_step (meaning_in core)) (Res-F.If test a b))

  pub result-case : (e : Expr) (forms : Forms) (arms : List (PatC × Res)) → result_of core env (res.Case e forms arms)
      ≡ then_outputs (meaning_in core e env) (λ v. first_result (map (result_arm_with (λ r env. result_of core env r)) arms) v env)
  result-case e forms arms = ap (λ r. result_of core env r) (sym (res.rolls-Case e forms arms)) ∙ ap (λ (m : ResultMeaning). m env) (fold-roll-Res ResultMeaning (result_step (meaning_in core)) (Res-F.Case e forms arms))

  pub result-let : (e : Expr) (body : Box Res) → result_of core env (res.Let e body)
      ≡ then_outputs (meaning_in core e env) (λ v. result_of core (env ++ v ∷ []) body)
  result-let e body = ap (λ r. result_of core env r) (sym (res.rolls-Let e body)) ∙ ap (λ (m : ResultMeaning). m env) (fold-roll-Res ResultMeaning (result_step (meaning_in core)) (Res-F.Let e body))

  pub result-raise : (x : ℕ) (e : Option Expr) → result_of core env (res.Raise x e) ≡ thrown (raised x (option_map (meaning_in core) e) env)
  result-raise x e = ap (λ r. result_of core env r) (sym (res.rolls-Raise x e)) ∙ ap (λ (m : ResultMeaning). m env) (fold-roll-Res ResultMeaning (result_step (meaning_in core)) (Res-F.Raise x e))

either : (P : Outputs → Type 0) (b : Bool) (x y : Outputs) → P x → P y → P (if b then x else y)
either P true x y p q = p
either P false x y p q = q

-- outputs that are there, and more of them
then_outs_typed : (core : Core) (t : Ty) (ts : List Ty) (o : Outcome) (rest : Outputs) → is_outcome core t o ≡ true → is_result core ts rest ≡ true
    → is_result core (t ∷ ts) (then_outs o rest) ≡ true
then_outs_typed core t ts (Gives v) (Asserts outs) p q = both_true _ _ p q
then_outs_typed core t ts (Gives v) (Throws exn carried) p q = q
then_outs_typed core t ts (Raises exn carried) rest p q = p

star_typed : (core : Core) (t : Ty) (ts : List Ty) (rest : Outputs) → is_result core ts rest ≡ true → is_result core (t ∷ ts) (after_outputs (None ∷ []) rest) ≡ true
star_typed core t ts (Asserts outs) q = q
star_typed core t ts (Throws exn carried) q = q

outs_typed : (core : Core) → HasSoundParts core → {vars tys : List Ty} {outs : List (Option Expr)} → OutsHave core vars outs tys → (env : List Value) → AreOf core.types vars env
    → is_result core tys (outs_in_order (map (option_map (meaning_in core)) outs) env) ≡ true
outs_typed core sound OutsHave.none env is = refl
outs_typed core sound (OutsHave.star {ty = t} {tys = ts} rest) env is = star_typed core t ts _ (outs_typed core sound rest env is)
outs_typed core sound (OutsHave.value {ty = t} {tys = ts} first rest) env is =
    then_outs_typed core t ts _ _ (eval_typed core sound first env is) (outs_typed core sound rest env is)

module _ (core : Core) (sound : HasSoundParts core) (tys : List Ty) where
  abbrev IsResult : Outputs → Type 0
  IsResult o = is_result core tys o ≡ true

  then_typed : (t : Ty) (o : Outcome) (go : Value → Outputs) → is_outcome core t o ≡ true → ((v : Value) → is_value core.types t v ≡ true → IsResult (go v)) → IsResult (then_outputs o go)
  then_typed t (Gives v) go p q = q v p
  then_typed t (Raises exn carried) go p q = p

  matched_result : (m : Option (List Value)) (go : List Value → Outputs) (other : Outputs) → ((vs : List Value) → m ≡ Some vs → IsResult (go vs)) → IsResult other → IsResult (on_match m go other)
  matched_result None go other p q = q
  matched_result (Some vs) go other p q = p vs refl

  raised_alone : (o : Option ExnDef) (exn : ExnDef) → o ≡ Some exn → exn.carries ≡ None → is_raised core.types o None ≡ true
  raised_alone o exn found carries = rw (found, carries) refl

  raised_with : (t : Ty) (number : ℕ) (exn : ExnDef) (o : Outcome) → slice_get core.exns number ≡ Some exn → exn.carries ≡ Some t → is_outcome core t o ≡ true
      → IsResult (thrown (raised number (Some (λ env. o)) []))
  raised_with t number exn (Gives v) found carries is = rw (found, carries) is
  raised_with t number exn (Raises other carried) found carries is = is

  mutual
    pub result_typed : {vars : List Ty} {r : Res} → GivesOutputs core tys vars r → (env : List Value) → AreOf core.types vars env → IsResult (result_of core env r)
    result_typed (GivesOutputs.outputs {outs = outs} have) env is = ap (is_result core tys) (result-outs core env outs) ∙ outs_typed core sound have env is
    result_typed (GivesOutputs.choice {test = c} {when_true = a} {when_false = b} test first second) env is =
        ap (is_result core tys) (result-if core env c a b)
        ∙ then_typed shape.Bool _ _ (eval_typed core sound test env is) (λ v is_v. either IsResult (word_of_value v == 0) _ _ (result_typed second env is) (result_typed first env is))
    result_typed (GivesOutputs.alternatives of {part = e} {forms = forms} {arms = ways} part is_of arms) env is =
        ap (is_result core tys) (result-case core env e forms ways)
        ∙ then_typed of _ _ (eval_typed core sound part env is) (λ v is_v. arms_typed arms env is v is_v)
    result_typed (GivesOutputs.binding {vars = xs} of {part = e} {body = b} part body) env is =
        ap (is_result core tys) (result-let core env e b)
        ∙ then_typed of _ _ (eval_typed core sound part env is) (λ v is_v. result_typed body (env ++ v ∷ []) (of_both core.types xs (of ∷ []) env (v ∷ []) is (one_of core.types of v is_v)))
    result_typed (GivesOutputs.raise_alone number exn found carries) env is =
        ap (is_result core tys) (result-raise core env number None) ∙ raised_alone (slice_get core.exns number) exn found carries
    result_typed (GivesOutputs.raise_with number exn carried {part = e} found carries part) env is =
        ap (is_result core tys) (result-raise core env number (Some e)) ∙ raised_with carried number exn (meaning_in core e env) found carries (eval_typed core sound part env is)

    pub arms_typed : {vars : List Ty} {of : Ty} {arms : List (PatC × Res)} → ArmsGiveOutputs core tys vars of arms → (env : List Value) → AreOf core.types vars env
        → (v : Value) → is_value core.types of v ≡ true → IsResult (first_result (map (result_arm_with (λ r env. result_of core env r)) arms) v env)
    arms_typed ArmsGiveOutputs.no_arm env is v is_v = (own_raised core sound.exceptions).no_case
    arms_typed (ArmsGiveOutputs.one_arm {vars = xs} {bound = ys} {p = p} pattern body rest) env is v is_v =
        matched_result (matches p v) _ _ (λ vs found. result_typed body (env ++ vs) (of_both core.types xs ys env vs is (pattern_typed core.types sound.holds pattern v vs is_v found)))
        (arms_typed rest env is v is_v)
