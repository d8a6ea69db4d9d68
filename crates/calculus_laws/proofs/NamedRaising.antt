-- With a new last function typed expressions may raise what they might before, and a call of it what its body might.
use Rattle.std.proofs.Common.{◌≡◌, ℕ, zero, suc, ◌+◌, ◌≤◌, ◌==◌, not, ◌&&◌, ◌||◌, Bool, true, false, List, [], ◌∷◌, ◌++◌, length, map, replicate, Option, Some, None, slice_get, refl, ap, sym, ◌∙◌, arith, if◌then◌else◌}
use Rattle.std.specs.List.{list_all, list_any, range_with_len}
use Rattle.std.proofs.lemmas.Bool.{eq-eqb, ne_eqb}
use Rattle.std.proofs.lemmas.List.{length-append}
use Rattle.std.proofs.lemmas.Option.{slice_get_within}
use Rattle.hume_base.specs.declared.types.Ty.{Ty}
use Rattle.hume_base.specs.declared.types.Ty.TheVariants as shape
use Rattle.hume_model.specs.declared.core_tree.Op.TheVariants.{Neg, Not, Convert}
use Rattle.hume_model.specs.declared.core_tree.PatC.{PatC, fold-roll-PatC}
use Rattle.hume_model.specs.declared.core_tree.PatC.TheOpen.{PatC-F}
use Rattle.hume_model.specs.declared.core_tree.PatC.TheVariants as pat
use Rattle.hume_model.specs.declared.core_tree.Expr.{Expr, roll-Expr, map-Expr, fold-roll-Expr}
use Rattle.hume_model.specs.declared.core_tree.Expr.TheOpen.{Expr-F}
use Rattle.hume_model.specs.declared.core_tree.Expr.TheVariants as expr
use Rattle.hume_model.specs.declared.core_tree.Res.{Res, fold-Res, roll-Res, map-Res, fold-roll-Res}
use Rattle.hume_model.specs.declared.core_tree.Res.TheOpen.{Res-F}
use Rattle.hume_model.specs.declared.core_tree.Res.TheVariants as res
use Rattle.hume_model.specs.declared.core_tree.FunC.{FunC}
use Rattle.hume_model.specs.declared.core_tree.NodeC.{NodeC}
use Rattle.hume_model.specs.declared.core_tree.Core.{Core}
use Rattle.hume_model.specs.declared.exceptions.TheConstants.{NO_CASE}
use Rattle.hume_model.specs.Completeness.{are_complete_alone, irrefutable_step, is_irrefutable}
use Rattle.hume_model.specs.Raising.{Seen, function_raises, may_raise, raises_below, raises_if_there, raises_step, raises_with, result_may_raise, result_raises_step, seen, seen_with, some_raise}
use Rattle.hume_model.specs.ResultTyping.{ArmsGiveOutputs, GivesOutputs, OutsHave}
use Rattle.hume_model.specs.Typing.{ArmsHaveType, HasType, HaveTypes}
use Rattle.calculus_laws.proofs.CallsKnown.{both}
use Rattle.calculus_laws.proofs.NamedCalls.{slice_front, slice_last}

module _ (core : Core) (exn : ℕ) (ra rb : ℕ → Bool) (same : (f : ℕ) (function : FunC) → slice_get core.funs f ≡ Some function → ra f ≡ rb f) where
  abbrev seen_by : (ℕ → Bool) → Expr → Seen
  seen_by r = seen_with core.types r exn

  form : (r : ℕ → Bool) (x : Expr-F Expr) (e : Expr) → roll-Expr x ≡ e → seen_by r e ≡ raises_step core.types r exn (map-Expr Expr Seen (seen_by r) x)
  form r x e is = ap (seen_by r) (sym is) ∙ fold-roll-Expr Seen (raises_step core.types r exn) x

  by_form : (x : Expr-F Expr) (e : Expr) → roll-Expr x ≡ e
      → raises_step core.types ra exn (map-Expr Expr Seen (seen_by ra) x) ≡ raises_step core.types rb exn (map-Expr Expr Seen (seen_by rb) x)
      → seen_by ra e ≡ seen_by rb e
  by_form x e is step = form ra x e is ∙ step ∙ sym (form rb x e is)

  abbrev arm_seen : (ℕ → Bool) → PatC × Expr → PatC × Seen
  arm_seen r arm = (arm.0, seen_by r arm.1)

  mutual
    pub seen_same : {vars : List Ty} {e : Expr} {ty : Ty} → HasType core vars e ty → seen_by ra e ≡ seen_by rb e
    seen_same (HasType.word w is) = by_form (Expr-F.Word w) _ (expr.rolls-Word w) refl
    seen_same (HasType.variable n is) = by_form (Expr-F.Var n) _ (expr.rolls-Var n) refl
    seen_same (HasType.con number place sum {parts = es} known within parts) =
        by_form (Expr-F.Con place es) _ (expr.rolls-Con place es) (λ i. raises_step core.types rb exn (Expr-F.Con place (all_same parts i)))
    seen_same (HasType.tuple {parts = es} parts) = by_form (Expr-F.Tuple es) _ (expr.rolls-Tuple es) (λ i. raises_step core.types rb exn (Expr-F.Tuple (all_same parts i)))
    seen_same (HasType.vector count item {parts = es} parts) = by_form (Expr-F.Vect es) _ (expr.rolls-Vect es) (λ i. raises_step core.types rb exn (Expr-F.Vect (all_same parts i)))
    seen_same (HasType.arithmetic op ty {parts = es} is number parts) =
        by_form (Expr-F.Prim op ty es) _ (expr.rolls-Prim op ty es) (λ i. raises_step core.types rb exn (Expr-F.Prim op ty (all_same parts i)))
    seen_same (HasType.comparison op ty {parts = es} is parts) =
        by_form (Expr-F.Prim op ty es) _ (expr.rolls-Prim op ty es) (λ i. raises_step core.types rb exn (Expr-F.Prim op ty (all_same parts i)))
    seen_same (HasType.negation ty {parts = es} number parts) =
        by_form (Expr-F.Prim Neg ty es) _ (expr.rolls-Prim Neg ty es) (λ i. raises_step core.types rb exn (Expr-F.Prim Neg ty (all_same parts i)))
    seen_same (HasType.opposite {parts = es} parts) =
        by_form (Expr-F.Prim Not shape.Bool es) _ (expr.rolls-Prim Not shape.Bool es) (λ i. raises_step core.types rb exn (Expr-F.Prim Not shape.Bool (all_same parts i)))
    seen_same (HasType.conversion from to {parts = es} is are parts) =
        by_form (Expr-F.Prim Convert to es) _ (expr.rolls-Prim Convert to es) (λ i. raises_step core.types rb exn (Expr-F.Prim Convert to (all_same parts i)))
    seen_same (HasType.index count places item {vector = v} {place = k} is vec place) =
        by_form (Expr-F.Index count v k) _ (expr.rolls-Index count v k) (λ i. raises_step core.types rb exn (Expr-F.Index count (seen_same vec i) (seen_same place i)))
    seen_same (HasType.update count places item {vector = v} {place = k} {new_item = e} is vec place new_item) =
        by_form (Expr-F.Update count v k e) _ (expr.rolls-Update count v k e)
        (λ i. raises_step core.types rb exn (Expr-F.Update count (seen_same vec i) (seen_same place i) (seen_same new_item i)))
    seen_same (HasType.choice {test = t} {when_true = a} {when_false = b} test when_true when_false) =
        by_form (Expr-F.If t a b) _ (expr.rolls-If t a b) (λ i. raises_step core.types rb exn (Expr-F.If (seen_same test i) (seen_same when_true i) (seen_same when_false i)))
    seen_same (HasType.alternatives of {part = e} {forms = forms} {arms = ways} part is_of arms) =
        by_form (Expr-F.Case e forms ways) _ (expr.rolls-Case e forms ways) (λ i. raises_step core.types rb exn (Expr-F.Case (seen_same part i) forms (arms_same arms i)))
    seen_same (HasType.binding of {part = a} {body = b} part body) =
        by_form (Expr-F.Let a b) _ (expr.rolls-Let a b) (λ i. raises_step core.types rb exn (Expr-F.Let (seen_same part i) (seen_same body i)))
    seen_same (HasType.call number function {parts = es} known parts) =
        by_form (Expr-F.Call number es) _ (expr.rolls-Call number es) (λ i. seen (some_raise (all_same parts i) || same number function known i))
    seen_same (HasType.raise_alone number other known nothing) = by_form (Expr-F.Raise number None) _ (expr.rolls-Raise number None) refl
    seen_same (HasType.raise_with number other carried {part = e} known carries part) =
        by_form (Expr-F.Raise number (Some e)) _ (expr.rolls-Raise number (Some e)) (λ i. raises_step core.types rb exn (Expr-F.Raise number (Some (seen_same part i))))

    all_same : {vars : List Ty} {es : List Expr} {tys : List Ty} → HaveTypes core vars es tys → map (seen_by ra) es ≡ map (seen_by rb) es
    all_same HaveTypes.none = refl
    all_same (HaveTypes.one first rest) = λ i. seen_same first i ∷ all_same rest i

    arms_same : {vars : List Ty} {of ty : Ty} {arms : List (PatC × Expr)} → ArmsHaveType core vars of arms ty → map (arm_seen ra) arms ≡ map (arm_seen rb) arms
    arms_same ArmsHaveType.no_arm = refl
    arms_same (ArmsHaveType.one_arm {p = p} pattern body rest) = λ i. (p, seen_same body i) ∷ arms_same rest i

-- results

module _ (core : Core) (exn : ℕ) (ma mb : Expr → Bool) (same : (vars : List Ty) (e : Expr) (ty : Ty) → HasType core vars e ty → ma e ≡ mb e) (tys : List Ty) where
  abbrev raises : (Expr → Bool) → Res → Bool
  raises m = fold-Res Bool (result_raises_step core.types m exn)

  result_form : (m : Expr → Bool) (x : Res-F Res) (r : Res) → roll-Res x ≡ r → raises m r ≡ result_raises_step core.types m exn (map-Res Res Bool (raises m) x)
  result_form m x r is = ap (raises m) (sym is) ∙ fold-roll-Res Bool (result_raises_step core.types m exn) x

  outs_same : {vars ts : List Ty} {outs : List (Option Expr)} → OutsHave core vars outs ts → list_any (raises_if_there ma) outs ≡ list_any (raises_if_there mb) outs
  outs_same OutsHave.none = refl
  outs_same (OutsHave.star rest) = outs_same rest
  outs_same (OutsHave.value {e = e} {ty = ty} out rest) = λ i. same _ e ty out i || outs_same rest i

  abbrev way_raises : (Expr → Bool) → PatC × Res → PatC × Bool
  way_raises m way = (way.0, raises m way.1)

  mutual
    pub result_same : {vars : List Ty} {r : Res} → GivesOutputs core tys vars r → raises ma r ≡ raises mb r
    result_same (GivesOutputs.outputs {outs = outs} have) =
        result_form ma (Res-F.Outs outs) _ (res.rolls-Outs outs) ∙ outs_same have ∙ sym (result_form mb (Res-F.Outs outs) _ (res.rolls-Outs outs))
    result_same (GivesOutputs.choice {test = t} {when_true = a} {when_false = b} test first second) =
        result_form ma (Res-F.If t a b) _ (res.rolls-If t a b)
        ∙ (λ i. same _ t shape.Bool test i || (result_same first i || result_same second i))
        ∙ sym (result_form mb (Res-F.If t a b) _ (res.rolls-If t a b))
    result_same (GivesOutputs.alternatives of {part = e} {forms = forms} {arms = ways} part is_of arms) =
        result_form ma (Res-F.Case e forms ways) _ (res.rolls-Case e forms ways)
        ∙ (λ i. result_raises_step core.types (λ x. same _ e of part i) exn (Res-F.Case e forms (ways_same arms i)))
        ∙ sym (result_form mb (Res-F.Case e forms ways) _ (res.rolls-Case e forms ways))
    result_same (GivesOutputs.binding of {part = e} {body = b} part body) =
        result_form ma (Res-F.Let e b) _ (res.rolls-Let e b)
        ∙ (λ i. same _ e of part i || result_same body i)
        ∙ sym (result_form mb (Res-F.Let e b) _ (res.rolls-Let e b))
    result_same (GivesOutputs.raise_alone number other known nothing) =
        result_form ma (Res-F.Raise number None) _ (res.rolls-Raise number None) ∙ sym (result_form mb (Res-F.Raise number None) _ (res.rolls-Raise number None))
    result_same (GivesOutputs.raise_with number other carried {part = e} known carries part) =
        result_form ma (Res-F.Raise number (Some e)) _ (res.rolls-Raise number (Some e))
        ∙ (λ i. same _ e carried part i || (number == exn))
        ∙ sym (result_form mb (Res-F.Raise number (Some e)) _ (res.rolls-Raise number (Some e)))

    ways_same : {vars : List Ty} {of : Ty} {ways : List (PatC × Res)} → ArmsGiveOutputs core tys vars of ways → map (way_raises ma) ways ≡ map (way_raises mb) ways
    ways_same ArmsGiveOutputs.no_arm = refl
    ways_same (ArmsGiveOutputs.one_arm {p = p} pattern body rest) = λ i. (p, result_same body i) ∷ ways_same rest i

-- a new last function

variable_irrefutable : is_irrefutable pat.Var ≡ true
variable_irrefutable = ap is_irrefutable (sym pat.rolls-Var) ∙ fold-roll-PatC Bool irrefutable_step PatC-F.Var

variables_irrefutable : (count : ℕ) → list_all is_irrefutable (replicate count pat.Var) ≡ true
variables_irrefutable zero = refl
variables_irrefutable (suc count) = both _ _ variable_irrefutable (variables_irrefutable count)

only_body : (m none : Bool) → ((false || ((m || false) || (none && not true))) || false) ≡ (m || false)
only_body true none = refl
only_body false true = refl
only_body false false = refl

module _ (core : Core) (nodes : List NodeC) (last : FunC) (exn : ℕ) where
  abbrev new : Core
  new = record core { funs = core.funs ++ last ∷ []; nodes = nodes }

  lower_raises : (bound : ℕ) → bound ≤ length core.funs → raises_below new bound ≡ raises_below core bound
  unfolding raises_below
  lower_raises zero within = refl
  lower_raises (suc bound) within = λ i x function.
      if function == bound
      then function_raises core.types (raises_with core.types (lower_raises bound (omega arith) i x) x) x (slice_front core.funs (last ∷ []) bound (omega arith) i)
      else lower_raises bound (omega arith) i x function

  count : length (core.funs ++ last ∷ []) ≡ suc (length core.funs)
  count = let more = length-append core.funs (last ∷ []) in omega (arith, more)

  step_below : (bound f : ℕ) → (f ≡ bound → ⊥) → raises_below new (suc bound) exn f ≡ raises_below new bound exn f
  unfolding raises_below
  step_below bound f other = rw (ne_eqb f bound other) refl

  step_at : (bound : ℕ) → raises_below new (suc bound) exn bound
      ≡ function_raises core.types (raises_with core.types (raises_below new bound exn) exn) exn (slice_get (core.funs ++ last ∷ []) bound)
  unfolding raises_below
  step_at bound = rw (eq-eqb bound bound refl) refl

  known_raises : (f : ℕ) (function : FunC) → slice_get core.funs f ≡ Some function
      → raises_below new (length (core.funs ++ last ∷ [])) exn f ≡ raises_below core (length core.funs) exn f
  known_raises f function is =
      let within = slice_get_within core.funs f function is in
      ap (λ n. raises_below new n exn f) count
      ∙ step_below (length core.funs) f (λ e. omega (arith, within, e))
      ∙ (λ i. lower_raises (length core.funs) (omega arith) i exn f)

  -- a typed expression may raise what it might
  pub raising_same : (vars : List Ty) (e : Expr) (ty : Ty) → HasType core vars e ty → may_raise new exn e ≡ may_raise core exn e
  raising_same vars e ty has =
      ap (λ (s : Seen). s.raises)
      (seen_same core exn (raises_below new (length (core.funs ++ last ∷ [])) exn) (raises_below core (length core.funs) exn) known_raises has)

  no_variable_raises : (r : ℕ → Bool) (a n : ℕ) → some_raise (map (seen_with core.types r exn) (map expr.Var (range_with_len a n))) ≡ false
  no_variable_raises r a zero = refl
  no_variable_raises r a (suc n) =
      let first : (seen_with core.types r exn (expr.Var a)).raises ≡ false =
      ap (λ e. (seen_with core.types r exn e).raises) (sym (expr.rolls-Var a)) ∙ ap (λ (s : Seen). s.raises) (fold-roll-Expr Seen (raises_step core.types r exn) (Expr-F.Var a)) in
      ap (λ b. b || some_raise (map (seen_with core.types r exn) (map expr.Var (range_with_len (a + 1) n)))) first ∙ no_variable_raises r (a + 1) n

  -- the rule that calls the last function on all variables may raise what its body may
  pub calling_same : (body : Expr) (n : ℕ) → last.equations ≡ record { pats = replicate n pat.Var; body = body } ∷ []
      → result_may_raise new exn (res.Outs (Some (expr.Call (length core.funs) (map expr.Var (range_with_len 0 n))) ∷ [])) ≡ result_may_raise core exn (res.Outs (Some body ∷ []))
  calling_same body n is =
      let called = raises_below new (length (core.funs ++ last ∷ [])) exn in
      let args = map expr.Var (range_with_len 0 n) in
      let step = result_raises_step core.types in
      let mine : may_raise new exn (expr.Call (length core.funs) args) ≡ (some_raise (map (seen_with core.types called exn) args) || called (length core.funs)) =
      ap (λ e. (seen_with core.types called exn e).raises) (sym (expr.rolls-Call (length core.funs) args))
      ∙ ap (λ (s : Seen). s.raises) (fold-roll-Expr Seen (raises_step core.types called exn) (Expr-F.Call (length core.funs) args)) in
      let own = raises_with core.types (raises_below core (length core.funs) exn) exn body in
      let last_raises : called (length core.funs) ≡ ((own || false) || ((exn == NO_CASE) && not true)) =
      ap (λ k. raises_below new k exn (length core.funs)) count
      ∙ step_at (length core.funs)
      ∙ ap (function_raises core.types (raises_with core.types (raises_below new (length core.funs) exn) exn) exn) (slice_last core.funs last)
      ∙ ap (λ equations. function_raises core.types (raises_with core.types (raises_below new (length core.funs) exn) exn) exn (Some (record last { equations = equations }))) is
      ∙ ap (λ b. (raises_with core.types (raises_below new (length core.funs) exn) exn body || false) || ((exn == NO_CASE) && not (b || are_complete_alone core.types last.params (record { pats = replicate n pat.Var; body = body } ∷ [])))) (variables_irrefutable n)
      ∙ (λ i. (raises_with core.types (lower_raises (length core.funs) (omega arith) i exn) exn body || false) || ((exn == NO_CASE) && not true)) in
      ap (result_may_raise new exn) (sym (res.rolls-Outs (Some (expr.Call (length core.funs) args) ∷ [])))
      ∙ fold-roll-Res Bool (step (may_raise new exn) exn) (Res-F.Outs (Some (expr.Call (length core.funs) args) ∷ []))
      ∙ ap (λ b. b || false) mine
      ∙ ap (λ b. (b || called (length core.funs)) || false) (no_variable_raises called 0 n)
      ∙ ap (λ b. (false || b) || false) last_raises
      ∙ only_body own (exn == NO_CASE)
      ∙ sym (fold-roll-Res Bool (step (may_raise core exn) exn) (Res-F.Outs (Some body ∷ [])))
      ∙ ap (result_may_raise core exn) (res.rolls-Outs (Some body ∷ []))
