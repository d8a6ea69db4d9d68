-- The outputs of a result, from left to right.
use Rattle.std.proofs.Common.{◌≡◌, ℕ, suc, ◌+◌, ◌*◌, ◌≤◌, max, true, List, [], ◌∷◌, ◌++◌, map, length, Option, Some, None, refl, ap, sym, ◌∙◌, subst, arith, append_assoc}
use Rattle.std.proofs.lemmas.List.{length-append}
use Rattle.std.specs.Option.{option_map}
use Rattle.hume_base.specs.declared.types.Ty.{Ty}
use Rattle.hume_base.specs.declared.types.Value.{Value}
use Rattle.hume_base.specs.Values.{is_value}
use Rattle.hume_model.specs.declared.core_tree.Expr.{Expr}
use Rattle.hume_model.specs.declared.core_tree.Core.{Core}
use Rattle.hume_model.specs.declared.outcome.Outcome.{Outcome}
use Rattle.hume_model.specs.declared.outcome.Outcome.TheVariants.{Gives, Raises}
use Rattle.hume_model.specs.declared.outcome.Outputs.{Outputs}
use Rattle.hume_model.specs.declared.outcome.Outputs.TheVariants.{Asserts, Throws}
use Rattle.hume_model.specs.Outcomes.{after_outputs}
use Rattle.hume_model.specs.Typing.{AreOf, HasType, is_outcome}
use Rattle.hume_model.specs.ResultTyping.{OutsHave, are_outputs}
use Rattle.hume_model.specs.WellFormed.{HasSoundParts}
use Rattle.hume_model.proofs.CallTypes as types
use Rattle.hume_model.proofs.PatternTypes.{both_true}
use Rattle.box_costs.specs.declared.cost.Cost.{Cost}
use Rattle.box_costs.specs.Costs.{above}
use Rattle.box_costs.specs.Bounds.{given_outs}
use Rattle.box_costs.specs.Spending.{spends, after, spent}
use Rattle.box_costs.specs.ResultSpending.{outs_after, outs_spent, spending_in}
use Rattle.box_costs.proofs.Outcomes.{comes_to}
use Rattle.box_heap.specs.Heaps.{Object}
use Rattle.box_heap.specs.Standing.{AllStand}
use Rattle.box_code.specs.Machine.{Setting, Machine, used}
use Rattle.box_code.specs.Represents.{AllRepresent, FunctionsStand, mask_of}
use Rattle.code_laws.specs.Running.{Comes, later, Gave, Threw, Runs}
use Rattle.code_laws.specs.Variables.{Fits}
use Rattle.code_laws.proofs.Heaps.{used-append, still_stands}
use Rattle.code_laws.proofs.Steps.{append_nil, alike, stays, goes_on, becomes}
use Rattle.code_laws.proofs.Combine.{reached, after_threw, over_threw, no_more}
use Rattle.code_laws.proofs.Frames.{fits_more}
use Rattle.code_laws.proofs.Calling.{expression_runs}
use Rattle.code_laws.proofs.Finishing.{given}

module _ (core : Core) (sound : HasSoundParts core) (s : Setting) (entry : ℕ → Option ℕ) (stand : FunctionsStand s.code entry core) where
  -- words for the outputs that are there come on the words below
  pub record GaveOuts (m : Machine) (base : List ℕ) (high to : ℕ) (exprs : List (Option Expr)) (tys : List Ty) (outs : List (Option Value)) (cost : Cost) : Type 0 where
    pub words : List ℕ
    pub more : List Object
    pub size : used more ≡ cost.heap
    pub top : length words ≤ cost.stack
    pub stands : AllStand (m.objects ++ more) (given outs) words
    pub comes : Comes s m (later m to (base ++ words) more (high + cost.stack)) cost.work
    pub mask : mask_of exprs ≡ mask_of outs
    pub many : length outs ≡ length tys
    pub are : are_outputs core.types tys outs ≡ true

  abbrev pub RunOuts : Machine → List ℕ → ℕ → ℕ → List (Option Expr) → List Ty → Outputs → Cost → Type 0
  RunOuts m base high to exprs tys (Asserts outs) cost = GaveOuts m base high to exprs tys outs cost
  RunOuts m base high to exprs tys (Throws exn carried) cost = Threw s m high exn carried cost

  none_given : (m : Machine) (base : List ℕ) (high to : ℕ) (exprs : List (Option Expr)) (ty : Ty) (tys : List Ty) (o : Outputs) (k : Cost) → RunOuts m base high to exprs tys o k
      → RunOuts m base high to (None ∷ exprs) (ty ∷ tys) (after_outputs (None ∷ []) o) k
  none_given m base high to exprs ty tys (Asserts outs) k g = record {
    words = g.words;
    more = g.more;
    size = g.size;
    top = g.top;
    stands = g.stands;
    comes = g.comes;
    mask = ap (λ n. 2 * n) g.mask;
    many = ap suc g.many;
    are = g.are;
  }
  none_given m base high to exprs ty tys (Throws exn carried) k g = g

  one_given : (m : Machine) (base : List ℕ) (high mid to : ℕ) (e : Expr) (exprs : List (Option Expr)) (ty : Ty) (tys : List Ty) (x : Outcome) (c : Cost) (o : Outputs) (k : Cost) → Runs s m base high mid x c
      → ((v : Value) → x ≡ Gives v → is_value core.types ty v ≡ true)
      → ((v : Value) → x ≡ Gives v → (g : Gave s m base high mid v c) → RunOuts (reached s m base high mid v c g) (base ++ g.word ∷ []) (high + 1) to exprs tys o k)
      → (let y = after c (outs_after x (spends k o)) in RunOuts m base high to (Some e ∷ exprs) (ty ∷ tys) y.outcome y.cost)
  one_given m base high mid to e exprs ty tys (Gives v) c (Asserts outs) k g is next =
      let n = next v refl g in
      record {
        words = g.word ∷ n.words;
        more = g.more ++ n.more;
        size = (let u = used-append g.more n.more in let y = g.size in let z = n.size in omega (arith, u, y, z));
        top = (let t = n.top in omega (arith, t));
        stands = subst (λ x. AllStand x (v ∷ given outs) (g.word ∷ n.words)) (append_assoc m.objects g.more n.more) (AllStand.more (still_stands g.stands n.more) n.stands);
        comes = becomes s (goes_on s m _ _ c.work k.work g.comes n.comes)
            (alike m refl (append_assoc base (g.word ∷ []) n.words)
            (let p : max (max m.peak (high + c.stack)) (high + 1 + k.stack) ≡ max m.peak (high + max c.stack (1 + k.stack)) = omega arith in p)
            (append_assoc m.objects g.more n.more)) refl;
        mask = ap (λ n. 1 + 2 * n) n.mask;
        many = ap suc n.many;
        are = both_true _ _ (is v refl) n.are;
      }
  one_given m base high mid to e exprs ty tys (Gives v) c (Throws exn carried) k g is next =
      after_threw s m high mid (base ++ g.word ∷ []) g.more c exn carried (above 1 k) g.comes g.size
      (over_threw s (reached s m base high mid v c g) high 1 exn carried k (next v refl g))
  one_given m base high mid to e exprs ty tys (Raises exn carried) c o k g is next = no_more s m high exn carried c g

  -- a value of the type, if there is one
  pub value_of : {vars : List Ty} {e : Expr} {t : Ty} → HasType core vars e t → (env : List Value) → AreOf core.types vars env → (v : Value) → (spent core env e).outcome ≡ Gives v → is_value core.types t v ≡ true
  value_of {e = e} {t = t} has env is v gives =
      subst (λ o. is_outcome core t o ≡ true) (sym (comes_to core env e) ∙ gives) (types.eval_typed core sound has env is)

  pub outs_run : {vars : List Ty} {outs : List (Option Expr)} {tys : List Ty} → OutsHave core vars outs tys → (env : List Value) → AreOf core.types vars env
      → (places : List ℕ) (high : ℕ) (m : Machine) (to under tall : ℕ) → tall ≡ length m.stack → AllRepresent s.code entry places high m.at to (given_outs outs) → Fits under places env high m
      → (let x = outs_spent (map (option_map (spending_in core)) outs) env in RunOuts m m.stack tall to outs tys x.outcome x.cost)
  outs_run OutsHave.none env is places high m to under tall l AllRepresent.none fits = record {
    words = [];
    more = [];
    size = refl;
    top = omega arith;
    stands = AllStand.none;
    comes = (let low = fits.low in becomes s (stays s m)
        (alike m refl (sym (append_nil m.stack)) (let p : m.peak ≡ max m.peak (tall + 0) = omega (arith, low, l) in p) (sym (append_nil m.objects))) refl);
    mask = refl;
    many = refl;
    are = refl;
  }
  outs_run (OutsHave.star {ty = ty} {outs = outs} {tys = tys} rest) env is places high m to under tall l parts fits =
      let x = outs_spent (map (option_map (spending_in core)) outs) env in
      none_given m m.stack tall to outs ty tys x.outcome x.cost (outs_run rest env is places high m to under tall l parts fits)
  outs_run (OutsHave.value {e = e} {ty = ty} {outs = outs} {tys = tys} first rest) env is places high m to under tall l (AllRepresent.more mid front others) fits =
      let x = spent core env e in
      let y = outs_spent (map (option_map (spending_in core)) outs) env in
      one_given m m.stack tall mid to e outs ty tys x.outcome x.cost y.outcome y.cost
      (expression_runs core sound s entry stand first env is places high m mid under tall l front fits) (value_of first env is)
      (λ v gives g. let gt = g.top in let one = length-append m.stack (g.word ∷ []) in
      outs_run rest env is places (high + 1) (reached s m m.stack tall mid v x.cost g) to under (tall + 1) (omega (arith, one, l)) others
      (fits_more under places env high m fits mid g.word g.more (tall + x.cost.stack) (omega (arith, gt, l))))
