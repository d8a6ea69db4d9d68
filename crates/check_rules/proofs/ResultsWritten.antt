-- The core of a result of the grammar without wrong counts is as a source may write it.
use Rattle.std.proofs.Common.{◌≡◌, ℕ, zero, suc, ◌≤◌, List, [], ◌∷◌, ◌++◌, map, length, Option, Some, None, refl, ap, sym, subst, ◌∙◌, arith, Bool, ◌&&◌, ◌||◌, true, false}
use Rattle.std.specs.List.{list_all, list_any}
use Rattle.std.proofs.lemmas.Bool.{or_parts, and_parts, le-leb}
use Rattle.std.proofs.lemmas.List.{length-map}
use Rattle.hume_base.specs.declared.limits.TheConstants.{MAX_DEPTH, MAX_PARTS}
use Rattle.hume_base.specs.declared.types.Ty.{Ty, Bool as BoolTy}
use Rattle.hume_ast.specs.declared.tree.Pat.{Pat}
use Rattle.hume_ast.specs.declared.tree.Exp.{Exp, roll-Exp, map-Exp, out-roll-Exp, fold-roll-Exp, ind-Exp}
use Rattle.hume_ast.specs.declared.tree.Exp.TheOpen.{Exp-F}
use Rattle.hume_ast.specs.Fits.{Each, TypeFits, PatFits, ExpParts, ExpFits}
use Rattle.check_counts.specs.declared.counts.Counts.{Counts}
use Rattle.check_counts.specs.Counted.{is_other}
use Rattle.check_names.specs.Twice.{any_true}
use Rattle.check_counts.specs.Miscounts.{has_many, pattern_miscounts, arm_miscounts, expression_step, miscounts}
use Rattle.hume_model.specs.declared.core_tree.PatC.{PatC}
use Rattle.hume_model.specs.declared.core_tree.Res.{Res, roll-Res, map-Res, fold-roll-Res}
use Rattle.typed_core.specs.declared.typed_tree.TypedExpr.{TypedExpr}
use Rattle.typed_core.specs.declared.typed_tree.TypedResult.{TypedResult, roll-TypedResult, map-TypedResult, fold-roll-TypedResult, Outs, If, Case, Let, Raise}
use Rattle.typed_core.specs.declared.typed_tree.TypedResult.TheOpen.{TypedResult-F}
use Rattle.typed_core.specs.declared.typed_tree.TypedResult.TheVariants.{rolls-Outs, rolls-If, rolls-Case, rolls-Let, rolls-Raise}
use Rattle.typed_core.specs.Erasing.{erased, erased_result, erased_result_layer}
use Rattle.std.specs.Option.{option_map}
use Rattle.hume_model.specs.TypeLimits.{is_type}
use Rattle.hume_model.specs.PartLimits.{is_written_pattern, is_written, is_written_if_there, is_written_result}
use Rattle.hume_model.specs.PartLimits as model
use Rattle.hume_model.proofs.FormsThere.{forms_there}
use Rattle.check_typing.specs.Signatures.{Scope}
use Rattle.check_typing.specs.Typing.{Judged, typing}
use Rattle.check_typing.specs.Results.{CoredRes, CoredOut, CoredResArm, AsResult, ResultArm, outs_core, let_result_core, if_result_core, case_result_core, raise_result_core, raise_with_result_core, result_arm_cores, AllOutputs, OutputsOf, leaf, Valued, NoOutputs, star_result, tuple_result, plain_result, followed, raise_result, raise_with_result, let_result, if_result, ArmsResult, case_result, result_arm_with, result_step, as_result}
use Rattle.check_typing.specs.declared.signatures.Signatures.{Signatures}
use Rattle.check_typing.proofs.TypingLevels.{typing_roll}
use Rattle.check_typing.proofs.ResultLevels.{result_roll}
use Rattle.check_rules.proofs.TypesWritten.{both}
use Rattle.check_rules.proofs.PatternsWritten.{IsTy, AreTys, HasTypes, types_append, pattern_written}
use Rattle.check_rules.proofs.FormsWritten.{HaveTypes, bool_ty, carried_ty, IsGood}
use Rattle.check_rules.proofs.ExpressionsWritten.{counted_arms, expression_written}

module _ (s : Signatures) (have : HaveTypes s) where
  abbrev pub Written : TypedResult → Type 0
  Written r = is_written_result s.types (erased_result r) ≡ true

  rolled : (x : TypedResult-F TypedResult) (r : TypedResult) → roll-TypedResult x ≡ r
      → model.result_step s.types (map-Res Res Bool (is_written_result s.types) (erased_result_layer (map-TypedResult TypedResult Res erased_result x))) ≡ true
      → Written r
  rolled x r e h =
      ap (λ r. is_written_result s.types (erased_result r)) (sym e)
      ∙ ap (is_written_result s.types) (fold-roll-TypedResult Res (λ y. roll-Res (erased_result_layer y)) x)
      ∙ fold-roll-Res Bool (model.result_step s.types) (erased_result_layer (map-TypedResult TypedResult Res erased_result x)) ∙ h

  shown : (c d : CoredRes) → c ≡ d → Written d.0 → Written c.0
  shown c d e p = ap (λ (r : CoredRes). is_written_result s.types (erased_result r.0)) e ∙ p

  abbrev outs_of : List CoredOut → List (Option TypedExpr)
  outs_of outs = map (λ (out : CoredOut). out.0) outs

  abbrev is_written_out : Option TypedExpr → Bool
  is_written_out out = is_written_if_there s.types (option_map erased out)

  abbrev are_written : List CoredOut → Bool
  are_written outs = list_all (is_written_if_there s.types) (map (option_map erased) (outs_of outs))

  -- what results are, what one output is, and what several are
  abbrev Gives : (Scope → List Ty → CoredRes → Type 0) → Type 0
  Gives R = (scope : Scope) (tys : List Ty) (c : CoredRes) → HasTypes s scope → AreTys s tys → R scope tys c → Written c.0

  abbrev PutsOut : (Scope → Ty → CoredOut → Type 0) → Type 0
  PutsOut P = (scope : Scope) (t : Ty) (out : CoredOut) → HasTypes s scope → IsTy s t → P scope t out → is_written_out out.0 ≡ true

  abbrev PutsAll : (Scope → List Ty → List CoredOut → Type 0) → Type 0
  PutsAll Q = (scope : Scope) (tys : List Ty) (outs : List CoredOut) → HasTypes s scope → AreTys s tys → Q scope tys outs → are_written outs ≡ true

  pub record IsGoodResult (r : AsResult) : Type 0 where
    pub result : Gives r.result
    pub output : PutsOut r.output
    pub outputs : PutsAll r.outputs

  module _ (P : Scope → Ty → CoredOut → Type 0) (Q : Scope → List Ty → List CoredOut → Type 0) (p : PutsOut P) (q : PutsAll Q) where
    outs_written : PutsAll (OutputsOf P Q)
    outs_written scope [] outs vars are h = q scope [] outs vars are h
    outs_written scope (t ∷ []) outs vars are h =
        let is = (and_parts (is_type s.types t) true are).0 in
        ap are_written h.2 ∙ both _ true (p scope t h.0 vars is h.1) refl
    outs_written scope (t ∷ u ∷ ts) outs vars are h = q scope (t ∷ u ∷ ts) outs vars are h

    good_leaf : IsGoodResult (leaf P Q)
    good_leaf = record {
      result = λ scope tys c vars are h. shown c (outs_core h.0) h.2
          (rolled (TypedResult-F.Outs (outs_of h.0)) (Outs (outs_of h.0)) (rolls-Outs (outs_of h.0)) (outs_written scope tys h.0 vars are h.1));
      output = p;
      outputs = q;
    }

  no_outs : PutsAll NoOutputs
  no_outs scope tys outs vars are h = absurd h

  abbrev AllGoodResults : List AsResult → Type 0
  AllGoodResults [] = Unit {0}
  AllGoodResults (r ∷ rs) = IsGoodResult r × AllGoodResults rs

  all_outs : (rs : List AsResult) → AllGoodResults rs → (scope : Scope) (ts : List Ty) (outs : List CoredOut) → HasTypes s scope → AreTys s ts
      → AllOutputs scope rs ts outs
      → are_written outs ≡ true
  all_outs [] g scope [] [] vars are h = refl
  all_outs [] g scope (t ∷ ts) outs vars are h = absurd h
  all_outs [] g scope [] (out ∷ outs) vars are h = absurd h
  all_outs (r ∷ rs) g scope (t ∷ ts) (out ∷ outs) vars are h =
      let hs = and_parts (is_type s.types t) (list_all (λ b. b) (map (is_type s.types) ts)) are in
      both _ _ (g.0.output scope t out vars hs.0 h.0) (all_outs rs g.1 scope ts outs vars hs.1 h.1)
  all_outs (r ∷ rs) g scope [] outs vars are h = absurd h
  all_outs (r ∷ rs) g scope (t ∷ ts) [] vars are h = absurd h

  abbrev AllGoodArms : List ResultArm → Type 0
  AllGoodArms [] = Unit {0}
  AllGoodArms (arm ∷ arms) = IsGoodResult arm.body × AllGoodArms arms

  abbrev arm_answers : List (PatC × TypedResult) → List (PatC × Bool)
  arm_answers arms =
      map (λ (arm : PatC × Res). (arm.0, is_written_result s.types arm.1)) (map (λ (arm : PatC × TypedResult). (arm.0, erased_result arm.1)) arms)

  record AreResultArms (count : ℕ) (cs : List CoredResArm) : Type 0 where
    each : list_all (λ (arm : PatC × Bool). is_written_pattern arm.0 && arm.1) (arm_answers (result_arm_cores cs)) ≡ true
    long : length (arm_answers (result_arm_cores cs)) ≡ count

  arms_written : (scope : Scope) (u : Ty) (tys : List Ty) (arms : List ResultArm) → AllGoodArms arms → HasTypes s scope → IsTy s u → AreTys s tys
      → (cs : List CoredResArm)
      → ArmsResult s scope u arms tys cs → AreResultArms (length arms) cs
  arms_written scope u tys [] g vars of are [] h = record { each = refl; long = refl }
  arms_written scope u tys [] g vars of are (c ∷ cs) h = absurd h
  arms_written scope u tys (arm ∷ arms) g vars of are (c ∷ cs) h =
      let bound = pattern_written s have.fields arm.pat u (h.0, c.0) of h.1 in
      let body = g.0.result (scope ++ h.0) tys c.1 (types_append s scope h.0 vars bound.vars) are h.2 in
      let others = arms_written scope u tys arms g.1 vars of are cs h.3 in
      record { each = both _ _ (both _ _ bound.pat body) others.each; long = ap suc others.long }
  arms_written scope u tys (arm ∷ arms) g vars of are [] h = absurd h

  module _ (j : Judged) (w : IsGood s have j) where
    value_out : PutsOut (Valued j)
    value_out scope t out vars is h = ap (λ (out : CoredOut). is_written_out out.0) h.2 ∙ w.checked scope t h.0 vars is h.1

    good_plain : IsGoodResult (plain_result j)
    good_plain = good_leaf (Valued j) NoOutputs value_out no_outs

    good_tuple : (rs : List AsResult) → AllGoodResults rs → IsGoodResult (tuple_result j rs)
    good_tuple rs g = good_leaf (Valued j) _ value_out (λ scope tys outs vars are h. all_outs rs g scope tys outs vars are h)

    good_followed : (R : Scope → List Ty → CoredRes → Type 0) → Gives R → IsGoodResult (followed j R)
    good_followed R r = record { result = r; output = value_out; outputs = no_outs }

    good_raise : (name : List ℕ) → IsGoodResult (raise_result s name j)
    good_raise name = good_followed _ (λ scope tys c vars are h. shown c (raise_result_core h.0) h.2
        (rolled (TypedResult-F.Raise h.0 None) (Raise h.0 None) (rolls-Raise h.0 None) refl))

    module _ (a : Judged) (p : IsGood s have a) where
      good_raise_with : (name : List ℕ) → IsGoodResult (raise_with_result s name j a)
      good_raise_with name = good_followed _ (λ scope tys c vars are h. shown c (raise_with_result_core h.0 h.1) h.3
          (rolled (TypedResult-F.Raise h.0 (Some h.1.0)) (Raise h.0 (Some h.1.0)) (rolls-Raise h.0 (Some h.1.0))
          (p.checked scope h.2.1 h.1 vars (carried_ty s have name h.0 h.2.0 h.2.1 h.2.2 h.2.3) h.2.4)))

      good_let : (name : List ℕ) (r : AsResult) → IsGoodResult r → IsGoodResult (let_result j name a r)
      good_let name r q = good_followed _ (λ scope tys c vars are h.
          let first = p.has scope h.0 h.1 vars h.3 in
          shown c (let_result_core h.0 h.1 h.2) h.5 (rolled (TypedResult-F.Let h.0 h.1.0 h.2.0) (Let h.0 h.1.0 h.2.0) (rolls-Let h.0 h.1.0 h.2.0)
          (both _ _ first.1 (q.result (scope ++ (name, h.0) ∷ []) tys h.2 (types_append s scope ((name, h.0) ∷ []) vars (first.0, tt)) are h.4))))

      good_if : (r q : AsResult) → IsGoodResult r → IsGoodResult q → IsGoodResult (if_result j a r q)
      good_if r q rs qs = good_followed _ (λ scope tys c vars are h. shown c (if_result_core h.0 h.1 h.2) h.6
          (rolled (TypedResult-F.If h.0.0 h.1.0 h.2.0) (If h.0.0 h.1.0 h.2.0) (rolls-If h.0.0 h.1.0 h.2.0)
          (both _ _ (p.checked scope BoolTy h.0 vars (bool_ty s have) h.3) (both _ _ (rs.result scope tys h.1 vars are h.4) (qs.result scope tys h.2 vars are h.5)))))

      good_case : (arms : List ResultArm) → AllGoodArms arms → 1 ≤ length arms → IsGoodResult (case_result s j a arms)
      good_case arms g some = good_followed _ (λ scope tys c vars are h.
          let part = p.has scope h.0 h.1 vars h.3 in
          let r = arms_written scope h.0 tys arms g vars part.0 are h.2 h.4 in
          shown c (case_result_core h.0 h.1 h.2) h.5
          (rolled (TypedResult-F.Case h.0 h.1.0 (result_arm_cores h.2)) (Case h.0 h.1.0 (result_arm_cores h.2)) (rolls-Case h.0 h.1.0 (result_arm_cores h.2))
          (both _ _ (forms_there s.types h.0 part.0) (both _ _ part.1 (both _ _ (le-leb 1 _ (subst (λ n. 1 ≤ n) (sym r.long) some)) r.each)))))

  good_star : IsGoodResult star_result
  good_star = good_leaf _ NoOutputs (λ scope t out vars is h. ap (λ (out : CoredOut). is_written_out out.0) h) no_outs

  module _ (counts : Counts) where
    abbrev Whole : Exp → Type 0
    Whole e = (depth level : ℕ) → ExpFits MAX_DEPTH depth level e → miscounts counts e ≡ false → IsGoodResult (as_result s e)

    abbrev Known : Type 0
    Known = (e : Exp) × Whole e

    abbrev alone : Known → Exp
    alone e = e.0

    abbrev exps : Exp-F Known → Exp-F Exp
    exps y = map-Exp Known Exp alone y

    abbrev answers : List Known → List Bool
    answers es = map (miscounts counts) (map alone es)

    all_known : (es : List Known) (depth level : ℕ) → Each (ExpFits MAX_DEPTH depth level) (map alone es) → any_true (answers es) ≡ false
        → AllGoodResults (map (as_result s) (map alone es))
    all_known [] depth level fits off = tt
    all_known (e ∷ es) depth level fits off =
        let flags = or_parts (miscounts counts e.0) (any_true (answers es)) off in (e.1 depth level fits.0 flags.0, all_known es depth level fits.1 flags.1)

    abbrev expressions : List (Pat × Known) → List (Pat × Exp)
    expressions arms = map (λ arm. (arm.0, arm.1.0)) arms

    arms_known : (arms : List (Pat × Known)) (depth : ℕ)
        → Each (λ (alternative : Pat × Exp). PatFits MAX_DEPTH 1 alternative.0 × ExpFits MAX_DEPTH depth 1 alternative.1) (expressions arms)
        → list_any (arm_miscounts counts) (counted_arms s have counts (expressions arms)) ≡ false
        → AllGoodArms (map (result_arm_with Exp (as_result s)) (expressions arms))
    arms_known [] depth fits off = tt
    arms_known (arm ∷ arms) depth fits off =
        let flags = or_parts (pattern_miscounts counts arm.0 || miscounts counts arm.1.0) (list_any (arm_miscounts counts) (counted_arms s have counts (expressions arms))) off in
        let body = or_parts (pattern_miscounts counts arm.0) (miscounts counts arm.1.0) flags.0 in
        (arm.1.1 depth 1 fits.0.1 body.1, arms_known arms depth fits.1 flags.1)

    part : (e : Exp) (depth level : ℕ) → ExpFits MAX_DEPTH depth level e → miscounts counts e ≡ false → IsGood s have (typing s e)
    part e depth level fits off = expression_written s have counts e depth level fits off

    level : (y : Exp-F Known) (depth : ℕ) → ExpParts (TypeFits MAX_DEPTH) (PatFits MAX_DEPTH 1) (ExpFits MAX_DEPTH depth) (exps y)
        → expression_step counts (map-Exp Exp Bool (miscounts counts) (exps y)) ≡ false → (j : Judged) → IsGood s have j
        → IsGoodResult (result_step s Exp (λ e. e) (as_result s) j (exps y))
    level (Exp-F.Let x a b) depth fits off j w =
        let flags = or_parts (miscounts counts a.0) (miscounts counts b.0) off in
        good_let j w _ (part a.0 depth 1 fits.0 flags.0) x _ (b.1 depth 1 fits.1 flags.1)
    level (Exp-F.If a b d) depth fits off j w =
        let first = or_parts (miscounts counts a.0) (miscounts counts b.0 || miscounts counts d.0) off in
        let flags = or_parts (miscounts counts b.0) (miscounts counts d.0) first.1 in
        good_if j w _ (part a.0 depth 1 fits.0 first.0) _ _ (b.1 depth 1 fits.1 flags.0) (d.1 depth 1 fits.2 flags.1)
    level (Exp-F.Case a arms) depth fits off j w =
        let flags = or_parts (miscounts counts a.0) (list_any (arm_miscounts counts) (counted_arms s have counts (expressions arms))) off in
        let one : 1 ≤ length (map (result_arm_with Exp (as_result s)) (expressions arms)) =
        let l = length-map (expressions arms) (result_arm_with Exp (as_result s)) in let f = fits.1 in omega arith in
        good_case j w _ (part a.0 depth 1 fits.0 flags.0) _ (arms_known arms depth fits.2 flags.1) one
    level (Exp-F.Raise x None) depth fits off j w = good_raise j w x
    level (Exp-F.Raise x (Some a)) depth fits off j w =
        good_raise_with j w _ (part a.0 depth 10 fits (or_parts (is_other counts.exceptions x 1) (miscounts counts a.0) off).1) x
    level (Exp-F.Paren a) depth fits off j w = a.1 depth 1 fits off
    level (Exp-F.Tuple es) depth fits off j w = good_tuple j w _ (all_known es depth 1 fits.1 (or_parts (has_many MAX_PARTS (answers es)) (any_true (answers es)) off).1)
    level Exp-F.Star depth fits off j w = good_star
    level _ depth fits off j w = good_plain j w

    at_roll : (y : Exp-F Known) → Whole (roll-Exp (exps y))
    at_roll y zero l fits off = absurd fits
    at_roll y (suc depth) l fits off =
        subst IsGoodResult (sym (result_roll s (exps y)))
        (level y depth (subst (ExpParts (TypeFits MAX_DEPTH) (PatFits MAX_DEPTH 1) (ExpFits MAX_DEPTH depth)) (out-roll-Exp (exps y)) fits.1)
        (sym (fold-roll-Exp Bool (expression_step counts) (exps y)) ∙ off) _
        (subst (IsGood s have) (typing_roll s (exps y)) (part (roll-Exp (exps y)) (suc depth) l fits off)))

    pub result_written : (e : Exp) → Whole e
    result_written = ind-Exp Whole (λ x y is. subst (λ x. Whole (roll-Exp x)) is (at_roll y))
