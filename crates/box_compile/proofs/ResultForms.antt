-- The code of single forms of results, from that of their parts.
use Rattle.std.proofs.Common.{◌≡◌, ℕ, ◌+◌, List, [], ◌∷◌, ◌++◌, length, true, false, Option, Some, None, refl, ap, sym, ◌∙◌, subst, append_assoc, arith}
use Rattle.std.proofs.lemmas.List.{length-append}
use Rattle.std.specs.Option.{option_to_list}
use Rattle.hume_model.specs.declared.core_tree.Forms.{Forms}
use Rattle.hume_model.specs.declared.core_tree.PatC.{PatC}
use Rattle.hume_model.specs.declared.core_tree.Expr.{Expr}
use Rattle.hume_model.specs.declared.core_tree.Res.{Res}
use Rattle.hume_model.specs.declared.core_tree.Res.TheVariants as res
use Rattle.hume_model.specs.declared.exceptions.TheConstants.{NO_CASE}
use Rattle.box_costs.specs.Bounds.{given_outs}
use Rattle.box_code.specs.declared.instr.Instr.TheVariants.{Push, JumpFalse, Raise, Finish}
use Rattle.box_code.specs.Words.{StandsAt}
use Rattle.box_code.specs.Paths.{root, tests_at, spots_at}
use Rattle.box_code.specs.Represents.{counted, mask_of, AllRepresent, ResultStands, ResultArmsStand, TestsStand, FieldsStand}
use Rattle.box_compile.proofs.Lists.{append_nil}
use Rattle.box_compile.specs.inner.Emitted.{Emitted}
use Rattle.box_compile.specs.inner.ResultArms.{ResultArmsBegin}
use Rattle.box_compile.proofs.Appending.{grows_not, grows_more, still, changed}
use Rattle.box_compile.proofs.Forms.{Done, PartsDone, Added}

-- the code of a result was appended
abbrev pub ResultDone : (ℕ → Option ℕ) → List ℕ → ℕ → List ℕ → List ℕ → Res → Type 0
ResultDone entry places high a b r = Emitted a b (λ code from to. ResultStands code entry places high from to r)

-- so were alternatives
abbrev pub ResultArmsDone : (ℕ → Option ℕ) → List ℕ → ℕ → List ℕ → List ℕ → List (PatC × Res) → Type 0
ResultArmsDone entry places high a b arms = Emitted a b (λ code from to. ResultArmsStand code entry places high from to arms)

-- so were the first alternatives
abbrev pub ResultArmsBegun : (ℕ → Option ℕ) → List ℕ → ℕ → List ℕ → List ℕ → List (PatC × Res) → Type 0
ResultArmsBegun entry places high a b arms = Emitted a b (λ code from to. ResultArmsBegin code entry places high from to arms)

module _ {entry : ℕ → Option ℕ} {places : List ℕ} where
  parts_both : {code : List ℕ} {high from mid to : ℕ} {xs ys : List Expr} (top : ℕ) → top ≡ high + length xs → AllRepresent code entry places high from mid xs
      → AllRepresent code entry places top mid to ys → AllRepresent code entry places high from to (xs ++ ys)
  parts_both {code = code} {high = high} {mid = mid} {to = to} {ys = ys} top is AllRepresent.none rs =
      let same : top ≡ high = omega (arith, is) in
      subst (λ k. AllRepresent code entry places k mid to ys) same rs
  parts_both top is (AllRepresent.more mid first rest) rs = AllRepresent.more mid first (parts_both top (omega (arith, is)) rest rs)

given_last : (outs : List (Option Expr)) (out : Option Expr) → given_outs (outs ++ out ∷ []) ≡ given_outs outs ++ option_to_list out
given_last [] None = refl
given_last [] (Some e) = refl
given_last (None ∷ outs) out = given_last outs out
given_last (Some e ∷ outs) out = ap (λ k. e ∷ k) (given_last outs out)

module _ {entry : ℕ → Option ℕ} {places : List ℕ} {high : ℕ} where
  pub none_given : {a : List ℕ} → PartsDone entry places high a a []
  none_given = record { grown = grows_not; stands = λ code grows. AllRepresent.none }

  pub one_given : {a b : List ℕ} (e : Expr) → Done entry places high a b e → PartsDone entry places high a b (e ∷ [])
  one_given {b = b} e d = changed (λ code s. AllRepresent.more (length b) s AllRepresent.none) d

  pub given_more : {a b c : List ℕ} (top : ℕ) (outs : List (Option Expr)) (out : Option Expr) → top ≡ high + length (given_outs outs)
      → PartsDone entry places high a b (given_outs outs)
      → PartsDone entry places top b c (option_to_list out)
      → PartsDone entry places high a c (given_outs (outs ++ out ∷ []))
  given_more {a = a} {c = c} top outs out is e f =
      subst (λ k. PartsDone entry places high a c k) (sym (given_last outs out))
      (record { grown = grows_more e.grown f.grown; stands = λ code grows. parts_both top is (still e f.grown code grows) (f.stands code grows) })

  pub outs_done : {a b c : List ℕ} (mask : ℕ) (outs : List (Option Expr)) → mask ≡ mask_of outs
      → PartsDone entry places high a b (given_outs outs) → Added b c (Finish mask) → ResultDone entry places high a c (res.Outs outs)
  outs_done {b = b} {c = c} mask outs is e f = record {
    grown = grows_more e.grown f.grown;
    stands = λ code grows. ResultStands.outputs (length b) (still e f.grown code grows) (subst (λ k. StandsAt code (length b) (Finish k) (length c)) is
        (f.stands code grows));
  }

  pub choice_done : {a b c d f : List ℕ} (second : ℕ) (test : Expr) (x y : Res) → Done entry places high a b test → Added b c (JumpFalse second)
      → ResultDone entry places high c d x → second ≡ length d → ResultDone entry places high d f y → ResultDone entry places high a f (res.If test x y)
  choice_done {b = b} {c = c} {d = d} second test x y et ej ex is ey =
      let from_true = grows_more ex.grown ey.grown in
      let from_test = grows_more ej.grown from_true in
      record {
        grown = grows_more et.grown from_test;
        stands = λ code grows. ResultStands.choice (length b) (length c) (length d)
            (still et from_test code grows) (subst (λ n. StandsAt code (length b) (JumpFalse n) (length c)) is (still ej from_true code grows))
            (still ex ey.grown code grows) (ey.stands code grows);
      }

  pub case_done : {a b c : List ℕ} (part : Expr) (forms : Forms) (arms : List (PatC × Res)) → Done entry places high a b part
      → ResultArmsDone entry places high b c arms → ResultDone entry places high a c (res.Case part forms arms)
  case_done {b = b} part forms arms e f = record {
    grown = grows_more e.grown f.grown;
    stands = λ code grows. ResultStands.alternatives forms (length b) (still e f.grown code grows) (f.stands code grows);
  }

  pub binding_done : {a b c : List ℕ} (inner : List ℕ) (top : ℕ) (part : Expr) (body : Res) → inner ≡ places ++ high ∷ [] → top ≡ high + 1
      → Done entry places high a b part
      → ResultDone entry inner top b c body → ResultDone entry places high a c (res.Let part body)
  binding_done {b = b} {c = c} inner top part body is so e f =
      let inside : ResultDone entry (places ++ high ∷ []) (high + 1) b c body = subst (λ k. ResultDone entry k (high + 1) b c body) is (subst
      (λ k. ResultDone entry inner k b c body) so f) in
      record {
        grown = grows_more e.grown f.grown;
        stands = λ code grows. ResultStands.binding (length b) (still e f.grown code grows) (inside.stands code grows);
      }

  pub raise_alone_done : {a b c : List ℕ} (exn : ℕ) → Added a b (Push 0) → Added b c (Raise exn false) → ResultDone entry places high a c (res.Raise exn None)
  raise_alone_done {b = b} exn e f = record {
    grown = grows_more e.grown f.grown;
    stands = λ code grows. ResultStands.raise_alone exn (length b) (still e f.grown code grows) (f.stands code grows);
  }

  pub raise_with_done : {a b c : List ℕ} (exn : ℕ) (part : Expr) → Done entry places high a b part → Added b c (Raise exn true)
      → ResultDone entry places high a c (res.Raise exn (Some part))
  raise_with_done {b = b} exn part e f = record {
    grown = grows_more e.grown f.grown;
    stands = λ code grows. ResultStands.raise_with exn (length b) (still e f.grown code grows) (f.stands code grows);
  }

  -- alternatives
  pub no_arms : {a : List ℕ} → ResultArmsBegun entry places high a a []
  no_arms = record { grown = grows_not; stands = λ code grows. record { followed = λ end others s. s } }

  pub arms_more : {a b c : List ℕ} (arms : List (PatC × Res)) (arm : PatC × Res) → ResultArmsBegun entry places high a b arms
      → ResultArmsBegun entry places high b c (arm ∷ []) → ResultArmsBegun entry places high a c (arms ++ arm ∷ [])
  arms_more {a = a} arms arm e f = record {
    grown = grows_more e.grown f.grown;
    stands = λ code grows. record {
      followed = λ end others s. subst (λ l. ResultArmsStand code entry places high (length a) end l) (sym (append_assoc arms (arm ∷ []) others))
          ((still e f.grown code grows).followed end (arm ∷ others) ((f.stands code grows).followed end others s));
    };
  }

  pub arms_done : {a b c : List ℕ} (arms : List (PatC × Res)) → ResultArmsBegun entry places high a b arms
      → Added b c (Raise NO_CASE false) → ResultArmsDone entry places high a c arms
  arms_done {a = a} {c = c} arms e f = record {
    grown = grows_more e.grown f.grown;
    stands = λ code grows.
        subst (λ l. ResultArmsStand code entry places high (length a) (length c) l) (append_nil arms)
        ((still e f.grown code grows).followed (length c) [] (ResultArmsStand.no_arm (f.stands code grows)));
  }

  pub arm_done : {a b c d : List ℕ} (top variables inside other : ℕ) (inner : List ℕ) (p : PatC) (body : Res)
      → top ≡ high + 1 → variables ≡ length (spots_at p (root high)) → inside ≡ top + variables → inner ≡ places ++ counted top variables
      → Emitted a b (λ code from to. TestsStand code top other from to (tests_at p (root high)))
      → Emitted b c (λ code from to. FieldsStand code top from to (spots_at p (root high)))
      → ResultDone entry inner inside c d body → other ≡ length d
      → ResultArmsBegun entry places high a d ((p, body) ∷ [])
  arm_done {a = a} {b = b} {c = c} {d = d} top variables inside other inner p body top_is count inside_is inner_is et ef eb other_is =
      let after_fields = eb.grown in
      let after_tests = grows_more ef.grown after_fields in
      record {
        grown = grows_more et.grown after_tests;
        stands = λ code grows. record {
          followed = λ end others s. ResultArmsStand.one_arm (length b) (length c) other
              (subst (λ k. TestsStand code k other (length a) (length b) (tests_at p (root high))) top_is (still et after_tests code grows))
              (subst (λ k. FieldsStand code k (length b) (length c) (spots_at p (root high))) top_is (still ef after_fields code grows))
              (let x : inner ≡ places ++ counted (high + 1) (length (spots_at p (root high))) = inner_is ∙ (λ i. places ++ counted (top_is i) (count i)) in
              let y : inside ≡ high + 1 + length (spots_at p (root high)) = inside_is ∙ (λ i. top_is i + count i) in
              subst (λ k. ResultStands code entry (places ++ counted (high + 1) (length (spots_at p (root high)))) (high + 1 + length (spots_at p
              (root high))) (length c) k body) (sym other_is)
              (subst (λ k. ResultStands code entry k (high + 1 + length (spots_at p (root high))) (length c) (length d) body) x
              (subst (λ k. ResultStands code entry inner k (length c) (length d) body) y (eb.stands code grows))))
              (subst (λ k. ResultArmsStand code entry places high k end others) (sym other_is) s);
        };
      }

pub given_long : (outs : List (Option Expr)) (out : Option Expr) (high top next : ℕ) → top ≡ high + length (given_outs outs)
    → next ≡ top + length (option_to_list out)
    → next ≡ high + length (given_outs (outs ++ out ∷ []))
given_long outs out high top next is so =
    let l : length (given_outs (outs ++ out ∷ [])) ≡ length (given_outs outs) + length (option_to_list out) = ap length (given_last outs out)
    ∙ length-append (given_outs outs) (option_to_list out) in
    omega (arith, is, so, l)
