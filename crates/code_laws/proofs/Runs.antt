-- Where the code of an expression stands, the machine comes to what the expression means, and spends what it spends.
use Rattle.std.proofs.Common.{◌≡◌, ℕ, suc, ◌+◌, ◌≤◌, ◌==◌, max, Bool, true, false, if◌then◌else◌, List, [], ◌∷◌, ◌++◌, length, map, Option, Some, None, slice_get, refl, ap, sym, ◌∙◌, subst, arith, append_assoc}
use Rattle.std.proofs.lemmas.List.{length-append}
use Rattle.std.specs.Option.{option_and_then}
use Rattle.hume_base.specs.declared.types.Ty.{Ty}
use Rattle.hume_base.specs.declared.types.Ty.TheVariants as shape
use Rattle.hume_base.specs.declared.types.Value.{Value}
use Rattle.hume_base.specs.declared.types.Value.TheVariants as value
use Rattle.hume_base.specs.Flat.{word_of_value}
use Rattle.hume_base.specs.Holding.{HoldSmaller}
use Rattle.hume_base.specs.Values.{is_value}
use Rattle.hume_model.specs.declared.core_tree.Op.{Op}
use Rattle.hume_model.specs.declared.core_tree.Op.TheVariants as op
use Rattle.hume_model.specs.declared.core_tree.PatC.{PatC}
use Rattle.hume_model.specs.declared.core_tree.Expr.{Expr, roll-Expr, map-Expr}
use Rattle.hume_model.specs.declared.core_tree.Expr.TheOpen.{Expr-F}
use Rattle.hume_model.specs.declared.core_tree.Expr.TheVariants as expr
use Rattle.hume_model.specs.declared.core_tree.FunC.{FunC}
use Rattle.hume_model.specs.declared.core_tree.Core.{Core}
use Rattle.hume_model.specs.declared.exceptions.TheConstants.{NO_CASE}
use Rattle.hume_model.specs.declared.outcome.Outcome.{Outcome}
use Rattle.hume_model.specs.declared.outcome.Outcome.TheVariants.{Gives, Raises}
use Rattle.hume_model.specs.declared.outcome.Several.{Several}
use Rattle.hume_model.specs.declared.outcome.Several.TheVariants.{All, Raised}
use Rattle.hume_model.specs.Operations.{prim}
use Rattle.hume_model.specs.Patterns.{matches}
use Rattle.hume_model.specs.Meaning.{Calls, variable}
use Rattle.hume_model.specs.Typing.{AreOf, HasType, HaveTypes, ArmsHaveType, is_outcome, is_arithmetic, is_comparison}
use Rattle.hume_model.proofs.OwnExceptions.{AreRaised}
use Rattle.hume_model.proofs.PatternTypes.{both_true, of_both, one_of, pattern_typed}
use Rattle.hume_model.proofs.ExpressionTypes.{typed}
use Rattle.box_costs.specs.declared.cost.Cost.{Cost}
use Rattle.box_costs.specs.Costs.{nothing, instructions, pushed}
use Rattle.box_costs.specs.PatternTests.{tries}
use Rattle.box_costs.specs.Spending.{Spent, Spending, spends, after, over, ended, rest_after, parts_spent, with_all, first_arm, spent_step, spent_with}
use Rattle.box_costs.proofs.Outcomes.{means}
use Rattle.box_costs.proofs.Trials.{trial}
use Rattle.box_heap.specs.Standing.{Stands, AllStand}
use Rattle.box_code.specs.declared.instr.Scalar.{Scalar}
use Rattle.box_code.specs.declared.instr.Instr.TheVariants.{Push, Load, Call, Raise}
use Rattle.box_code.specs.Words.{StandsAt}
use Rattle.box_code.specs.Paths.{root, spots_at}
use Rattle.box_code.specs.Machine as machine
use Rattle.box_code.specs.Machine.{Setting, Machine, with_word, with_last, at_path, type_of, act}
use Rattle.box_code.specs.Represents.{depth_of, instr_of_op, counted, Represents, AllRepresent, ArmsStand}
use Rattle.code_laws.specs.Running.{Comes, later, Gave, RunsSpent}
use Rattle.code_laws.specs.Variables.{Fits}
use Rattle.code_laws.proofs.AllParts.{RunAll}
use Rattle.code_laws.proofs.Heaps.{as_many, word_stands, all_still_stand, hold_at, get_new}
use Rattle.code_laws.proofs.Steps.{append_nil, with_last_all, word_there, moved, alike, goes_on, becomes, acts}
use Rattle.code_laws.proofs.Combine.{reached, reached_all, after_runs, over_runs, then_runs, ended_runs, parts_next, all_then}
use Rattle.code_laws.proofs.Leaves.{push_runs, raises_runs}
use Rattle.code_laws.proofs.Words.{AreScalars, scalar_word, number_scalar, compared_scalar, bool_scalar, two_scalars, one_scalar}
use Rattle.code_laws.proofs.Trying.{AllAt}
use Rattle.code_laws.proofs.Tests.{tests_run}
use Rattle.code_laws.proofs.Patterns.{pattern_right}
use Rattle.code_laws.proofs.Layer.{stands_there, spent_form}
use Rattle.code_laws.proofs.Forms.{arity, instr_then, none_run, trial_runs, choice_runs, slide_runs, jump_runs}
use Rattle.code_laws.proofs.Frames.{fits_more, fits_bound, fits_later}
use Rattle.code_laws.proofs.TypedForms.{as_params, object_runs, operates, element_runs, change_runs, raise_alone_runs, raise_runs}
use Rattle.code_laws.proofs.Binding.{bind_runs}

unwrap_all : (xs ys : List Value) → All xs ≡ All ys → xs ≡ ys
unwrap_all xs ys e = cc

-- where all parts give values, the first does and the others do
rest_of : (c k : Cost) (x : Outcome) (rest : Several) (vs : List Value) → (after c (rest_after x (spends k rest))).outcome ≡ All vs
    → (v : Value) × (us : List Value) × (x ≡ Gives v) × (rest ≡ All us) × (v ∷ us ≡ vs)
rest_of c k (Gives v) (All us) vs e = (v, us, refl, refl, unwrap_all _ _ e)
rest_of c k (Gives v) (Raised exn carried) vs e = cc
rest_of c k (Raises exn carried) rest vs e = cc

two_operands : (o : Op) → is_arithmetic o ≡ true → arity o ≡ 2
two_operands op.Add h = refl
two_operands op.Sub h = refl
two_operands op.Mul h = refl
two_operands op.Div h = refl
two_operands op.Mod h = refl
two_operands op.Neg h = cc
two_operands op.Not h = cc
two_operands op.Convert h = cc
two_operands op.Eq h = cc
two_operands op.Ne h = cc
two_operands op.Lt h = cc
two_operands op.Le h = cc
two_operands op.Gt h = cc
two_operands op.Ge h = cc

two_compared : (o : Op) (t : Ty) → is_comparison o t ≡ true → arity o ≡ 2
two_compared op.Add t h = refl
two_compared op.Sub t h = refl
two_compared op.Mul t h = refl
two_compared op.Div t h = refl
two_compared op.Mod t h = refl
two_compared op.Neg t h = cc
two_compared op.Not t h = cc
two_compared op.Convert t h = cc
two_compared op.Eq t h = refl
two_compared op.Ne t h = refl
two_compared op.Lt t h = refl
two_compared op.Le t h = refl
two_compared op.Gt t h = refl
two_compared op.Ge t h = refl

-- where parts stand of which the number is known
two_parts : {code : List ℕ} {entry : ℕ → Option ℕ} {places : List ℕ} {high from to : ℕ} {a b : Expr} → AllRepresent code entry places high from to (a ∷ b ∷ [])
    → (x : ℕ) × Represents code entry places high from x a × Represents code entry places (high + 1) x to b
two_parts (AllRepresent.more x first (AllRepresent.more y second AllRepresent.none)) = (x, first, second)

three_parts : {code : List ℕ} {entry : ℕ → Option ℕ} {places : List ℕ} {high from to : ℕ} {a b c : Expr} → AllRepresent code entry places high from to (a ∷ b ∷ c ∷ [])
    → (x : ℕ) × (y : ℕ) × Represents code entry places high from x a × Represents code entry places (high + 1) x y b × Represents code entry places (high + 1 + 1) y to c
three_parts (AllRepresent.more x first (AllRepresent.more y second (AllRepresent.more z third AllRepresent.none))) = (x, y, first, second, third)

-- functions of the entries come to what calls give, from a machine with the arguments and the two words on its stack
abbrev pub CalleesRun : Core → Setting → (ℕ → Option ℕ) → (ℕ → List Value → Spent Outcome) → Type 0
CalleesRun core s entry scall = (f place : ℕ) (function : FunC) → slice_get core.funs f ≡ Some function → entry f ≡ Some place
    → (vs : List Value) → AreOf core.types function.params vs → (c : Machine) → c.at ≡ place → length c.stack ≤ c.peak
    → (base ws : List ℕ) (back low : ℕ) → c.stack ≡ base ++ (ws ++ back ∷ low ∷ []) → AllStand c.objects vs ws → back ≤ length s.code
    → (tall : ℕ) → tall ≡ length c.stack → RunsSpent s c base tall back (scall f vs)

module _ (core : Core) (own : AreRaised core) (down : HoldSmaller core.types) (calls : Calls)
    (called : (f : ℕ) (function : FunC) → slice_get core.funs f ≡ Some function → (args : List Value) → AreOf core.types function.params args → is_outcome core function.gives (calls f args) ≡ true)
    (scall : ℕ → List Value → Spent Outcome) (mean : (f : ℕ) (args : List Value) → (scall f args).outcome ≡ calls f args) (s : Setting) (entry : ℕ → Option ℕ) (callee : CalleesRun core s entry scall) where
  abbrev pub spending : Expr → Spending
  spending = spent_with scall

  abbrev arm_spending : PatC × Expr → PatC × Spending
  arm_spending arm = (arm.0, spending arm.1)

  pub gives_of : {vars : List Ty} {e : Expr} {t : Ty} → HasType core vars e t → (env : List Value) → AreOf core.types vars env → (v : Value) → (spending e env).outcome ≡ Gives v → is_value core.types t v ≡ true
  gives_of {e = e} {t = t} has env is v gives = subst (λ o. is_outcome core t o ≡ true) (sym (means scall calls mean e env) ∙ gives) (typed core own down calls called has env is)

  values_of : {vars : List Ty} {es : List Expr} {ts : List Ty} → HaveTypes core vars es ts → (env : List Value) → AreOf core.types vars env → (vs : List Value)
      → (parts_spent (map spending es) env).outcome ≡ All vs → AreOf core.types ts vs
  values_of HaveTypes.none env is vs e = subst (λ us. AreOf core.types [] us) (unwrap_all [] vs e) refl
  values_of {es = e ∷ es} (HaveTypes.one {ty = t} {tys = ts} first rest) env is vs all =
      let x = spending e env in
      let y = parts_spent (map spending es) env in
      let k = rest_of x.cost y.cost x.outcome y.outcome vs all in
      subst (λ us. AreOf core.types (t ∷ ts) us) k.4 (both_true _ _ (gives_of first env is k.0 k.2) (values_of rest env is k.1 k.3))

  count_of : {vars : List Ty} {es : List Expr} {ts : List Ty} → HaveTypes core vars es ts → length es ≡ length ts
  count_of HaveTypes.none = refl
  count_of (HaveTypes.one first rest) = ap suc (count_of rest)

  many_of : {vars : List Ty} {es : List Expr} {ts : List Ty} → HaveTypes core vars es ts → (env : List Value) → AreOf core.types vars env → (vs : List Value)
      → (parts_spent (map spending es) env).outcome ≡ All vs → length vs ≡ length es
  many_of {ts = ts} parts env is vs all = as_params core.types ts vs (values_of parts env is vs all) ∙ sym (count_of parts)

  by_form : (m : Machine) (tall to : ℕ) (env : List Value) (e : Expr) (x : Expr-F Expr) → roll-Expr x ≡ e → RunsSpent s m m.stack tall to (spent_step scall (map-Expr Expr Spending spending x) env)
      → RunsSpent s m m.stack tall to (spending e env)
  by_form m tall to env e x is r = subst (λ y. RunsSpent s m m.stack tall to y) (sym (spent_form scall env e x is)) r

  -- an operation, by the types of its operands
  prim_runs : {vars : List Ty} {es : List Expr} {ts : List Ty} (o : Op) (t : Ty) (parts : HaveTypes core vars es ts) (env : List Value) → AreOf core.types vars env → AreScalars ts → arity o ≡ length ts
      → 1 ≤ length ts → (m : Machine) (tall : ℕ) (mid to : ℕ) (ty : Scalar) → t ≡ type_of ty → StandsAt s.code mid (instr_of_op o ty) to
      → (let x = parts_spent (map spending es) env in RunAll s m m.stack tall mid x.outcome x.cost)
      → RunsSpent s m m.stack tall to (with_all (parts_spent (map spending es) env) (λ values. spends pushed (prim o t values)))
  prim_runs {es = es} {ts = ts} o t parts env is scalars many some m tall mid to ty same found r =
      let x = parts_spent (map spending es) env in
      subst (λ t. RunsSpent s m m.stack tall to (with_all x (λ values. spends pushed (prim o t values)))) (sym same)
      (operates s m tall core.types mid to o ty ts scalars many some found x.outcome x.cost r (λ vs all. values_of parts env is vs all))

  -- one branch or the other
  branch : (n : Machine) (base : List ℕ) (tall first second to : ℕ) (b : Bool) (sure other : Spent Outcome) → tall ≤ n.peak → Comes s n (moved n (if b then second else first) base) 1
      → RunsSpent s (later n first base [] (tall + 0)) base tall to sure → RunsSpent s (later n second base [] (tall + 0)) base tall to other
      → RunsSpent s n base tall to (after (instructions 1) (if b then other else sure))
  branch n base tall first second to true sure other low f ry rn = instr_then s n tall second base 1 base to other.outcome other.cost low f rn
  branch n base tall first second to false sure other low f ry rn = instr_then s n tall first base 1 base to sure.outcome sure.cost low f ry

  mutual
    pub runs : {vars : List Ty} {e : Expr} {t : Ty} → HasType core vars e t → (env : List Value) → AreOf core.types vars env
        → (places : List ℕ) (high : ℕ) (m : Machine) (to below tall : ℕ) → tall ≡ length m.stack → Represents s.code entry places high m.at to e → Fits below places env high m
        → RunsSpent s m m.stack tall to (spending e env)
    runs (HasType.word w ok) env is places high m to below tall l rep fits =
        let r = stands_there s.code entry rep (Expr-F.Word w) (expr.rolls-Word w) in
        by_form m tall to env (expr.Word w) (Expr-F.Word w) (expr.rolls-Word w) (push_runs s m tall l (Push w) to w (value.Word w) r refl (Stands.word w))
    runs (HasType.variable n found) env is places high m to below tall l rep fits =
        let r = stands_there s.code entry rep (Expr-F.Var n) (expr.rolls-Var n) in
        let h = hold_at fits.hold n r.0 r.1 in
        let long = fits.long in
        let low = r.2 in
        let there : machine.word_at (depth_of high r.0) m.stack ≡ Some h.1 = word_there m.stack (depth_of high r.0) (below + r.0) h.1 (omega (arith, long, low)) h.3 in
        by_form m tall to env (expr.Var n) (Expr-F.Var n) (expr.rolls-Var n)
        (subst (λ o. Gave s m m.stack tall to (variable o) pushed) (sym h.2)
        (push_runs s m tall l (Load (depth_of high r.0)) to h.1 h.0 r.3 (ap (λ o. with_word o (λ word. machine.pushed m to m.stack (word ∷ []))) there) h.4))
    runs (HasType.con number c sum {parts = es} found within parts) env is places high m to below tall l rep fits =
        let r = stands_there s.code entry rep (Expr-F.Con c es) (expr.rolls-Con c es) in
        let x = parts_spent (map spending es) env in
        by_form m tall to env (expr.Con c es) (Expr-F.Con c es) (expr.rolls-Con c es)
        (object_runs s m tall l r.0 to c (length es) (λ vs. value.Con c vs) (λ objects vs ws place at stand. Stands.con c place at stand) r.2 x.outcome x.cost
        (all_run parts env is places high m r.0 below tall l r.1 fits) (many_of parts env is))
    runs (HasType.tuple {parts = es} parts) env is places high m to below tall l rep fits =
        let r = stands_there s.code entry rep (Expr-F.Tuple es) (expr.rolls-Tuple es) in
        let x = parts_spent (map spending es) env in
        by_form m tall to env (expr.Tuple es) (Expr-F.Tuple es) (expr.rolls-Tuple es)
        (object_runs s m tall l r.0 to 0 (length es) (λ vs. value.Tuple vs) (λ objects vs ws place at stand. Stands.tuple place at stand) r.2 x.outcome x.cost
        (all_run parts env is places high m r.0 below tall l r.1 fits) (many_of parts env is))
    runs (HasType.vector count item {parts = es} parts) env is places high m to below tall l rep fits =
        let r = stands_there s.code entry rep (Expr-F.Vect es) (expr.rolls-Vect es) in
        let x = parts_spent (map spending es) env in
        by_form m tall to env (expr.Vect es) (Expr-F.Vect es) (expr.rolls-Vect es)
        (object_runs s m tall l r.0 to 0 (length es) (λ vs. value.Vector vs) (λ objects vs ws place at stand. Stands.vector place at stand) r.2 x.outcome x.cost
        (all_run parts env is places high m r.0 below tall l r.1 fits) (many_of parts env is))
    runs (HasType.arithmetic o t {parts = es} arith_op num parts) env is places high m to below tall l rep fits =
        let r = stands_there s.code entry rep (Expr-F.Prim o t es) (expr.rolls-Prim o t es) in
        by_form m tall to env (expr.Prim o t es) (Expr-F.Prim o t es) (expr.rolls-Prim o t es)
        (prim_runs o t parts env is (two_scalars t (number_scalar t num)) (two_operands o arith_op) (omega arith) m tall r.1 to r.0 r.2 r.4 (all_run parts env is places high m r.1 below tall l r.3 fits))
    runs (HasType.comparison o t {parts = es} compares parts) env is places high m to below tall l rep fits =
        let r = stands_there s.code entry rep (Expr-F.Prim o t es) (expr.rolls-Prim o t es) in
        by_form m tall to env (expr.Prim o t es) (Expr-F.Prim o t es) (expr.rolls-Prim o t es)
        (prim_runs o t parts env is (two_scalars t (compared_scalar o t compares)) (two_compared o t compares) (omega arith) m tall r.1 to r.0 r.2 r.4 (all_run parts env is places high m r.1 below tall l r.3 fits))
    runs (HasType.negation t {parts = es} num parts) env is places high m to below tall l rep fits =
        let r = stands_there s.code entry rep (Expr-F.Prim op.Neg t es) (expr.rolls-Prim op.Neg t es) in
        by_form m tall to env (expr.Prim op.Neg t es) (Expr-F.Prim op.Neg t es) (expr.rolls-Prim op.Neg t es)
        (prim_runs op.Neg t parts env is (one_scalar t (number_scalar t num)) refl (omega arith) m tall r.1 to r.0 r.2 r.4 (all_run parts env is places high m r.1 below tall l r.3 fits))
    runs (HasType.opposite {parts = es} parts) env is places high m to below tall l rep fits =
        let r = stands_there s.code entry rep (Expr-F.Prim op.Not shape.Bool es) (expr.rolls-Prim op.Not shape.Bool es) in
        by_form m tall to env (expr.Prim op.Not shape.Bool es) (Expr-F.Prim op.Not shape.Bool es) (expr.rolls-Prim op.Not shape.Bool es)
        (prim_runs op.Not shape.Bool parts env is (one_scalar shape.Bool bool_scalar) refl (omega arith) m tall r.1 to r.0 r.2 r.4 (all_run parts env is places high m r.1 below tall l r.3 fits))
    runs (HasType.conversion from t {parts = es} from_num num parts) env is places high m to below tall l rep fits =
        let r = stands_there s.code entry rep (Expr-F.Prim op.Convert t es) (expr.rolls-Prim op.Convert t es) in
        by_form m tall to env (expr.Prim op.Convert t es) (Expr-F.Prim op.Convert t es) (expr.rolls-Prim op.Convert t es)
        (prim_runs op.Convert t parts env is (one_scalar from (number_scalar from from_num)) refl (omega arith) m tall r.1 to r.0 r.2 r.4 (all_run parts env is places high m r.1 below tall l r.3 fits))
    runs (HasType.index count places_ty item {vector = v} {place = p} num whole at) env is places high m to below tall l rep fits =
        let r = stands_there s.code entry rep (Expr-F.Index count v p) (expr.rolls-Index count v p) in
        let k = two_parts r.1 in
        let x = spending v env in
        let y = spending p env in
        let ys = parts_spent (spending p ∷ []) env in
        let xs = parts_spent (spending v ∷ spending p ∷ []) env in
        by_form m tall to env (expr.Index count v p) (Expr-F.Index count v p) (expr.rolls-Index count v p)
        (element_runs s m tall core.types r.0 to count item places_ty num r.2 xs.outcome xs.cost
        (parts_next s m tall m.stack k.0 r.0 x.outcome x.cost ys.outcome ys.cost (runs whole env is places high m k.0 below tall l k.1 fits)
        (λ a e g. let n = reached s m m.stack tall k.0 a x.cost g in let gt = g.top in let one = length-append m.stack (g.word ∷ []) in
        parts_next s n (tall + 1) n.stack r.0 r.0 y.outcome y.cost (All []) nothing
        (runs at env is places (high + 1) n r.0 below (tall + 1) (omega (arith, one, l)) k.2 (fits_more below places env high m fits k.0 g.word g.more (tall + x.cost.stack) (omega (arith, gt, l))))
        (λ b d h. let ht = h.top in none_run s (reached s n n.stack (tall + 1) r.0 b y.cost h) (tall + 1 + 1) r.0 refl (omega (arith, ht)))))
        (λ vs all. values_of (HaveTypes.one whole (HaveTypes.one at HaveTypes.none)) env is vs all))
    runs (HasType.update count places_ty item {vector = v} {place = p} {new_item = i} num whole at new) env is places high m to below tall l rep fits =
        let r = stands_there s.code entry rep (Expr-F.Update count v p i) (expr.rolls-Update count v p i) in
        let k = three_parts r.1 in
        let x = spending v env in
        let y = spending p env in
        let z = spending i env in
        let zs = parts_spent (spending i ∷ []) env in
        let ys = parts_spent (spending p ∷ spending i ∷ []) env in
        let xs = parts_spent (spending v ∷ spending p ∷ spending i ∷ []) env in
        by_form m tall to env (expr.Update count v p i) (Expr-F.Update count v p i) (expr.rolls-Update count v p i)
        (change_runs s m tall l core.types r.0 to count item places_ty num r.2 xs.outcome xs.cost
        (parts_next s m tall m.stack k.0 r.0 x.outcome x.cost ys.outcome ys.cost (runs whole env is places high m k.0 below tall l k.2 fits)
        (λ a e g. let n = reached s m m.stack tall k.0 a x.cost g in let gt = g.top in let one = length-append m.stack (g.word ∷ []) in
        let more = fits_more below places env high m fits k.0 g.word g.more (tall + x.cost.stack) (omega (arith, gt, l)) in
        let l1 : tall + 1 ≡ length n.stack = omega (arith, one, l) in
        parts_next s n (tall + 1) n.stack k.1 r.0 y.outcome y.cost zs.outcome zs.cost
        (runs at env is places (high + 1) n k.1 below (tall + 1) l1 k.3 more)
        (λ b d h. let o = reached s n n.stack (tall + 1) k.1 b y.cost h in let ht = h.top in let two = length-append n.stack (h.word ∷ []) in
        parts_next s o (tall + 1 + 1) o.stack r.0 r.0 z.outcome z.cost (All []) nothing
        (runs new env is places (high + 1 + 1) o r.0 below (tall + 1 + 1) (omega (arith, two, l1)) k.4 (fits_more below places env (high + 1) n more k.1 h.word h.more (tall + 1 + y.cost.stack) (omega (arith, ht, l1))))
        (λ c f q. let qt = q.top in none_run s (reached s o o.stack (tall + 1 + 1) r.0 c z.cost q) (tall + 1 + 1 + 1) r.0 refl (omega (arith, qt))))))
        (λ vs all. values_of (HaveTypes.one whole (HaveTypes.one at (HaveTypes.one new HaveTypes.none))) env is vs all))
    runs (HasType.alternatives of {part = a} {forms = forms} {arms = ways} part is_of arms) env is places high m to below tall l rep fits =
        let r = stands_there s.code entry rep (Expr-F.Case a forms ways) (expr.rolls-Case a forms ways) in
        let x = spending a env in
        let low = fits.low in
        by_form m tall to env (expr.Case a forms ways) (Expr-F.Case a forms ways) (expr.rolls-Case a forms ways)
        (then_runs s m tall m.stack r.0 x.outcome x.cost m.stack to (λ v. over 1 (first_arm (map arm_spending ways) v env)) (runs part env is places high m r.0 below tall l r.1 fits)
        (λ v gives g. let n = reached s m m.stack tall r.0 v x.cost g in let gt = g.top in let one = length-append m.stack (g.word ∷ []) in
        let y = first_arm (map arm_spending ways) v env in
        over_runs s n tall 1 m.stack to y.outcome y.cost
        (arms_run arms env is v (gives_of part env is v gives) places high to below (tall + 1) r.2 n m.stack g.word refl refl g.stands
        (fits_more below places env high m fits r.0 g.word g.more (tall + x.cost.stack) (omega (arith, gt, l))) fits.long (omega (arith, one, l)))))
    runs (HasType.choice {test = c} {when_true = a} {when_false = b} test first second) env is places high m to below tall l rep fits =
        let r = stands_there s.code entry rep (Expr-F.If c a b) (expr.rolls-If c a b) in
        let x = spending c env in
        by_form m tall to env (expr.If c a b) (Expr-F.If c a b) (expr.rolls-If c a b)
        (then_runs s m tall m.stack r.0 x.outcome x.cost m.stack to (λ v. after (instructions 1) (if word_of_value v == 0 then spending b env else ended 1 (spending a env)))
        (runs test env is places high m r.0 below tall l r.4 fits)
        (λ v gives g. let n = reached s m m.stack tall r.0 v x.cost g in
        let word : g.word ≡ word_of_value v = word_stands g.stands (word_of_value v) (scalar_word core.types shape.Bool v bool_scalar (gives_of test env is v gives)) in
        let n1 = later n r.1 m.stack [] (tall + 0) in
        let n2 = later n r.3 m.stack [] (tall + 0) in
        let y = spending a env in
        let again : (p : ℕ) → Fits below places env high (later n p m.stack [] (tall + 0)) =
        (λ p. let f = fits_later below places env high m fits p (g.more ++ []) (max (tall + x.cost.stack) (tall + 0)) (omega (arith, l)) in
        subst (λ k. Fits below places env high k) (alike m refl refl (let q : max m.peak (max (tall + x.cost.stack) (tall + 0)) ≡ max (max m.peak (tall + x.cost.stack)) (tall + 0) = omega arith in q)
        (sym (append_assoc m.objects g.more []))) f) in
        branch n m.stack tall r.1 r.3 to (word_of_value v == 0) (ended 1 y) (spending b env) (omega arith) (choice_runs s n m.stack g.word r.0 r.1 r.3 v refl r.5 word)
        (ended_runs s n1 tall m.stack r.2 y.outcome y.cost m.stack to 1 (runs first env is places high n1 r.2 below tall l r.6 (again r.1))
        (λ u e h. jump_runs s (reached s n1 m.stack tall r.2 u y.cost h) to r.3 r.7))
        (runs second env is places high n2 to below tall l r.8 (again r.3))))
    runs (HasType.binding {vars = vars} of {part = a} {body = b} part body) env is places high m to below tall l rep fits =
        let r = stands_there s.code entry rep (Expr-F.Let a b) (expr.rolls-Let a b) in
        let x = spending a env in
        by_form m tall to env (expr.Let a b) (Expr-F.Let a b) (expr.rolls-Let a b)
        (then_runs s m tall m.stack r.0 x.outcome x.cost m.stack to (λ v. over 1 (ended 1 (spending b (env ++ v ∷ [])))) (runs part env is places high m r.0 below tall l r.2 fits)
        (λ v gives g. let n = reached s m m.stack tall r.0 v x.cost g in let gt = g.top in let one = length-append m.stack (g.word ∷ []) in
        let y = spending b (env ++ v ∷ []) in
        let z = ended 1 y in
        over_runs s n tall 1 m.stack to z.outcome z.cost
        (ended_runs s n (tall + 1) n.stack r.1 y.outcome y.cost m.stack to 1
        (runs body (env ++ v ∷ []) (of_both core.types vars (of ∷ []) env (v ∷ []) is (one_of core.types of v (gives_of part env is v gives)))
        (places ++ high ∷ []) (high + 1) n r.1 below (tall + 1) (omega (arith, one, l)) r.3
        (fits_bound below places env high m fits r.0 v g.word g.more (tall + x.cost.stack) (omega (arith, gt, l)) g.stands))
        (λ u e h. slide_runs s (reached s n n.stack (tall + 1) r.1 u y.cost h) m.stack (g.word ∷ []) h.word 1 to refl refl r.4))))
    runs (HasType.call number function {parts = es} found parts) env is places high m to below tall l rep fits =
        let r = stands_there s.code entry rep (Expr-F.Call number es) (expr.rolls-Call number es) in
        let x = parts_spent (map spending es) env in
        by_form m tall to env (expr.Call number es) (Expr-F.Call number es) (expr.rolls-Call number es)
        (all_then s m tall m.stack r.0 x.outcome x.cost m.stack to (λ values. over (length values + 2) (after (instructions 1) (scall number values)))
        (all_run parts env is places high m r.0 below tall l r.2 fits)
        (λ vs all g. let n = reached_all s m m.stack tall r.0 vs x.cost g in
        let y = scall number vs in
        let z = after (instructions 1) y in
        let words = g.words in
        let stack = n.stack ++ to ∷ length m.stack ∷ [] in
        let k = tall + (length vs + 2) in
        let many : length vs ≡ length es = many_of parts env is vs all in
        let long : length es ≡ length words = sym many ∙ as_many g.stands in
        let one = length-append m.stack words in
        let two = length-append n.stack (to ∷ length m.stack ∷ []) in
        let c = later n r.1 stack [] (k + 0) in
        let does : act s (Call r.1 (length es)) to n ≡ machine.pushed n r.1 n.stack (to ∷ length m.stack ∷ []) =
        with_last_all m.stack words (length es) (λ stack words. machine.pushed n r.1 n.stack (to ∷ length stack ∷ [])) long in
        let comes : Comes s n c 1 =
        becomes s (acts s n _ (Call r.1 (length es)) to r.4 does)
        (alike n refl refl (let p : max n.peak (length n.stack + 2) ≡ max n.peak (k + 0) = omega (arith, one, l, many, long) in p) (sym (append_nil n.objects))) refl in
        let ends = r.4.ends in
        over_runs s n tall (length vs + 2) m.stack to z.outcome z.cost
        (after_runs s n k r.1 stack [] (instructions 1) m.stack to y.outcome y.cost comes refl
        (callee number r.1 function found r.3 vs (values_of parts env is vs all) c refl (omega (arith, one, two, l, many, long)) m.stack words to (length m.stack)
        (append_assoc m.stack words (to ∷ length m.stack ∷ [])) (all_still_stand g.stands []) ends k (omega (arith, one, two, l, many, long))))))
    runs (HasType.raise_alone number exn found carries) env is places high m to below tall l rep fits =
        let r = stands_there s.code entry rep (Expr-F.Raise number None) (expr.rolls-Raise number None) in
        by_form m tall to env (expr.Raise number None) (Expr-F.Raise number None) (expr.rolls-Raise number None) (raise_alone_runs s m tall l number r.0 to r.1 r.2)
    runs (HasType.raise_with number exn carried {part = e} found carries part) env is places high m to below tall l rep fits =
        let r = stands_there s.code entry rep (Expr-F.Raise number (Some e)) (expr.rolls-Raise number (Some e)) in
        let x = spending e env in
        by_form m tall to env (expr.Raise number (Some e)) (Expr-F.Raise number (Some e)) (expr.rolls-Raise number (Some e))
        (raise_runs s m tall number r.0 to x.outcome x.cost r.2 (runs part env is places high m r.0 below tall l r.1 fits))

    pub all_run : {vars : List Ty} {es : List Expr} {ts : List Ty} → HaveTypes core vars es ts → (env : List Value) → AreOf core.types vars env
        → (places : List ℕ) (high : ℕ) (m : Machine) (to below tall : ℕ) → tall ≡ length m.stack → AllRepresent s.code entry places high m.at to es → Fits below places env high m
        → (let x = parts_spent (map spending es) env in RunAll s m m.stack tall to x.outcome x.cost)
    all_run HaveTypes.none env is places high m to below tall l AllRepresent.none fits = none_run s m tall to refl (let low = fits.low in omega (arith, low, l))
    all_run {es = e ∷ es} (HaveTypes.one first rest) env is places high m to below tall l (AllRepresent.more mid front others) fits =
        let x = spending e env in
        let y = parts_spent (map spending es) env in
        parts_next s m tall m.stack mid to x.outcome x.cost y.outcome y.cost (runs first env is places high m mid below tall l front fits)
        (λ v gives g. let gt = g.top in let one = length-append m.stack (g.word ∷ []) in
        all_run rest env is places (high + 1) (reached s m m.stack tall mid v x.cost g) to below (tall + 1) (omega (arith, one, l)) others
        (fits_more below places env high m fits mid g.word g.more (tall + x.cost.stack) (omega (arith, gt, l))))

    -- the alternatives of a `case`, for the word on top
    pub arms_run : {vars : List Ty} {of : Ty} {arms : List (PatC × Expr)} {t : Ty} → ArmsHaveType core vars of arms t → (env : List Value) → AreOf core.types vars env
        → (v : Value) → is_value core.types of v ≡ true → (places : List ℕ) (high to below tall : ℕ) {from : ℕ} → ArmsStand s.code entry places high from to arms
        → (m : Machine) (base : List ℕ) (w : ℕ) → m.at ≡ from → m.stack ≡ base ++ w ∷ [] → Stands m.objects v w → Fits below places env (high + 1) m → length base ≡ below + high → tall ≡ length m.stack
        → RunsSpent s m base tall to (first_arm (map arm_spending arms) v env)
    arms_run ArmsHaveType.no_arm env is v value_is places high to below tall (ArmsStand.no_arm raise) m base w at stack stands fits long l =
        let low = fits.low in
        let high_enough = fits.long in
        raises_runs s m tall (Raise NO_CASE false) to NO_CASE 0 None (instructions 1) (subst (λ p. StandsAt s.code p (Raise NO_CASE false) to) (sym at) raise) refl refl refl refl
        (omega (arith, low, l)) (omega (arith, low, high_enough))
    arms_run {vars = vars} (ArmsHaveType.one_arm {bound = bound_types} {p = p} {e = e} {arms = arms} pattern has rest) env is v value_is places high to below tall
        (ArmsStand.one_arm tested bound done slid other tests fields body slide jump more) m base w at stack stands fits long l =
        let low = fits.low in
        let there : slice_get m.stack (below + high) ≡ Some w = ap (λ k. slice_get k (below + high)) stack ∙ ap (slice_get (base ++ w ∷ [])) (sym long) ∙ get_new base w [] in
        let right = pattern_right core.types down m.objects below m.stack pattern v value_is (root high) w (ap (option_and_then (at_path m.objects [])) there) stands in
        let n1 = later m tested m.stack [] (tall + 0) in
        let n2 = later m other m.stack [] (tall + 0) in
        let objects : m.objects ≡ m.objects ++ [] = sym (append_nil m.objects) in
        let again : (q : ℕ) → Fits below places env (high + 1) (later m q m.stack [] (tall + 0)) = (λ q. fits_later below places env (high + 1) m fits q [] (tall + 0) (omega (arith, l))) in
        trial_runs s m base tall tested other to 2 (tries p v) (λ values. spending e (env ++ values)) (first_arm (map arm_spending arms) v env) (omega (arith, low, l)) (matches p v) (trial p v).passed
        (tests_run s below (high + 1) tests m at fits.long (tries p v) right.same)
        (λ vs found. let y = spending e (env ++ vs) in
        let z = ended 2 y in
        let b = bind_runs s below places env (high + 1) bound (spots_at p (root high)) n1 tall l (again tested) fields vs
        (subst (λ o. AllAt o below m.stack (spots_at p (root high)) vs) objects (right.there vs found)) in
        let n3 = later n1 bound (n1.stack ++ b.words) [] (tall + length vs + 0) in
        let height = b.height in
        let z2 = after (instructions (length vs)) z in
        over_runs s n1 tall (length vs) base to z2.outcome z2.cost
        (after_runs s n1 (tall + length vs) bound (n1.stack ++ b.words) [] (instructions (length vs)) base to z.outcome z.cost b.comes refl
        (ended_runs s n3 (tall + length vs) n3.stack done y.outcome y.cost base to 2
        (runs has (env ++ vs) (of_both core.types vars bound_types env vs is (pattern_typed core.types down pattern v vs value_is found))
        (places ++ counted (high + 1) (length (spots_at p (root high)))) (high + 1 + length (spots_at p (root high))) n3 done below (tall + length vs) (sym height) body b.fits)
        (λ u d h. let n4 = reached s n3 n3.stack (tall + length vs) done u y.cost h in
        let known = b.known in
        let same : n4.stack ≡ (base ++ (w ∷ b.words)) ++ h.word ∷ [] = ap (λ k. (k ++ b.words) ++ h.word ∷ []) stack ∙ ap (λ k. k ++ h.word ∷ []) (append_assoc base (w ∷ []) b.words) in
        goes_on s n4 (moved n4 slid (base ++ h.word ∷ [])) _ 1 1
        (slide_runs s n4 base (w ∷ b.words) h.word (1 + length (spots_at p (root high))) slid same (omega (arith, known)) slide)
        (jump_runs s (moved n4 slid (base ++ h.word ∷ [])) to other jump)))))
        (arms_run rest env is v value_is places high to below tall more n2 base w refl stack
        (subst (λ o. Stands o v w) objects stands) (again other) long l)
