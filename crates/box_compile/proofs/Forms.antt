-- The code of single forms of expressions, from that of their parts.
use Rattle.std.proofs.Common.{◌≡◌, ℕ, ◌+◌, ◌<◌, List, [], ◌∷◌, ◌++◌, length, Option, Some, None, slice_get, ap, sym, ◌∙◌, subst, append_assoc, arith, true, false}
use Rattle.hume_base.specs.declared.types.Ty.{Ty}
use Rattle.hume_model.specs.declared.core_tree.Forms.{Forms}
use Rattle.hume_model.specs.declared.core_tree.Op.{Op}
use Rattle.hume_model.specs.declared.core_tree.PatC.{PatC}
use Rattle.hume_model.specs.declared.core_tree.Expr.{Expr}
use Rattle.hume_model.specs.declared.core_tree.Expr.TheVariants as expr
use Rattle.hume_model.specs.declared.exceptions.TheConstants.{NO_CASE}
use Rattle.box_code.specs.declared.instr.Scalar.{Scalar}
use Rattle.box_code.specs.declared.instr.Instr.{Instr}
use Rattle.box_code.specs.declared.instr.Instr.TheVariants.{Push, Load, Make, Index, Update, Jump, JumpFalse, Slide, Call, Raise}
use Rattle.box_code.specs.Words.{StandsAt}
use Rattle.box_code.specs.Paths.{root, tests_at, spots_at}
use Rattle.box_code.specs.Machine.{type_of}
use Rattle.box_code.specs.Represents.{depth_of, instr_of_op, counted, Represents, AllRepresent, ArmsStand, TestsStand, FieldsStand}
use Rattle.box_compile.proofs.Lists.{append_nil}
use Rattle.box_compile.specs.inner.Arms.{ArmsBegin}
use Rattle.box_compile.specs.inner.Emitted.{Emitted}
use Rattle.box_compile.specs.inner.Parts.{PartsThen}
use Rattle.box_compile.proofs.Appending.{grows_not, grows_more, still, changed}

-- the code of an expression was appended
abbrev pub Done : (ℕ → Option ℕ) → List ℕ → ℕ → List ℕ → List ℕ → Expr → Type 0
Done entry places high a b e = Emitted a b (λ code from to. Represents code entry places high from to e)

-- so were parts, one after another
abbrev pub PartsDone : (ℕ → Option ℕ) → List ℕ → ℕ → List ℕ → List ℕ → List Expr → Type 0
PartsDone entry places high a b parts = Emitted a b (λ code from to. AllRepresent code entry places high from to parts)

-- so were parts with an instruction behind them
abbrev pub PartsThenDone : (ℕ → Option ℕ) → List ℕ → ℕ → List ℕ → List ℕ → List Expr → Instr → Type 0
PartsThenDone entry places high a b parts instr = Emitted a b (λ code from to. PartsThen code entry places high from to parts instr)

-- so were alternatives
abbrev pub ArmsDone : (ℕ → Option ℕ) → List ℕ → ℕ → List ℕ → List ℕ → List (PatC × Expr) → Type 0
ArmsDone entry places high a b arms = Emitted a b (λ code from to. ArmsStand code entry places high from to arms)

-- so were the first alternatives, which end at a place
abbrev pub ArmsBegun : (ℕ → Option ℕ) → List ℕ → ℕ → ℕ → List ℕ → List ℕ → List (PatC × Expr) → Type 0
ArmsBegun entry places high end a b arms = Emitted a b (λ code from to. ArmsBegin code entry places high end from to arms)

-- an instruction was appended
abbrev pub Added : List ℕ → List ℕ → Instr → Type 0
Added a b instr = Emitted a b (λ code from to. StandsAt code from instr to)

all_last : {code : List ℕ} {entry : ℕ → Option ℕ} {places : List ℕ} {high from mid to : ℕ} {es : List Expr} {e : Expr} (top : ℕ) → top ≡ high + length es
    → AllRepresent code entry places high from mid es → Represents code entry places top mid to e → AllRepresent code entry places high from to (es ++ e ∷ [])
all_last {code = code} {entry = entry} {places = places} {high = high} {mid = mid} {to = to} {e = e} top is AllRepresent.none r =
    let same : top ≡ high = omega (arith, is) in
    AllRepresent.more to (subst (λ k. Represents code entry places k mid to e) same r) AllRepresent.none
all_last top is (AllRepresent.more mid first rest) r = AllRepresent.more mid first (all_last top (omega (arith, is)) rest r)

module _ {entry : ℕ → Option ℕ} {places : List ℕ} {high : ℕ} where
  pub word_done : {a b : List ℕ} (w : ℕ) → Added a b (Push w) → Done entry places high a b (expr.Word w)
  word_done w e = changed (λ code s. Represents.word w s) e

  pub variable_done : {a b : List ℕ} (number place depth : ℕ) → slice_get places number ≡ Some place → place < high → depth ≡ depth_of high place
      → Added a b (Load depth) → Done entry places high a b (expr.Var number)
  variable_done {a = a} {b = b} number place depth found low is e =
      changed (λ code s. Represents.variable number place found low (subst (λ d. StandsAt code (length a) (Load d) (length b)) is s)) e

  pub con_done : {a b : List ℕ} (tag : ℕ) (parts : List Expr) → PartsThenDone entry places high a b parts (Make tag (length parts))
      → Done entry places high a b (expr.Con tag parts)
  con_done tag parts e = changed (λ code s. Represents.con tag s.mid s.parts_stand s.instr_stands) e

  pub tuple_done : {a b : List ℕ} (parts : List Expr) → PartsThenDone entry places high a b parts (Make 0 (length parts))
      → Done entry places high a b (expr.Tuple parts)
  tuple_done parts e = changed (λ code s. Represents.tuple s.mid s.parts_stand s.instr_stands) e

  pub vector_done : {a b : List ℕ} (parts : List Expr) → PartsThenDone entry places high a b parts (Make 0 (length parts))
      → Done entry places high a b (expr.Vect parts)
  vector_done parts e = changed (λ code s. Represents.vector s.mid s.parts_stand s.instr_stands) e

  pub operation_done : {a b : List ℕ} (op : Op) (ty : Ty) (scalar : Scalar) (instr : Instr) (parts : List Expr) → ty ≡ type_of scalar
      → instr ≡ instr_of_op op scalar
      → PartsThenDone entry places high a b parts instr → Done entry places high a b (expr.Prim op ty parts)
  operation_done {a = a} {b = b} op ty scalar instr parts same is e =
      changed (λ code s. Represents.operation op ty scalar s.mid same s.parts_stand (subst (λ i. StandsAt code s.mid i (length b)) is s.instr_stands)) e

  pub call_done : {a b : List ℕ} (number place count : ℕ) (parts : List Expr) → entry number ≡ Some place → count ≡ length parts
      → PartsThenDone entry places high a b parts (Call place count) → Done entry places high a b (expr.Call number parts)
  call_done {a = a} {b = b} number place count parts found is e =
      changed (λ code s. Represents.call number s.mid place s.parts_stand found (subst (λ n. StandsAt code s.mid (Call place n)
      (length b)) is s.instr_stands)) e

  pub made : {a b : List ℕ} (tag count : ℕ) (parts : List Expr) → count ≡ length parts → PartsThenDone entry places high a b parts (Make tag count)
      → PartsThenDone entry places high a b parts (Make tag (length parts))
  made {a = a} {b = b} tag count parts is e = subst (λ n. PartsThenDone entry places high a b parts (Make tag n)) is e

  pub parts_then : {a b c : List ℕ} {parts : List Expr} {instr : Instr} → PartsDone entry places high a b parts → Added b c instr
      → PartsThenDone entry places high a c parts instr
  parts_then {b = b} e f = record {
    grown = grows_more e.grown f.grown;
    stands = λ code grows. record { mid = length b; parts_stand = still e f.grown code grows; instr_stands = f.stands code grows };
  }

  pub no_parts : {a : List ℕ} → PartsDone entry places high a a []
  no_parts = record { grown = grows_not; stands = λ code grows. AllRepresent.none }

  pub parts_more : {a b c : List ℕ} {es : List Expr} {e : Expr} (top : ℕ) → top ≡ high + length es → PartsDone entry places high a b es
      → Done entry places top b c e → PartsDone entry places high a c (es ++ e ∷ [])
  parts_more top is e f = record {
    grown = grows_more e.grown f.grown;
    stands = λ code grows. all_last top is (still e f.grown code grows)
        (f.stands code grows);
  }

  pub index_done : {a b c d : List ℕ} (count second : ℕ) (v p : Expr) → second ≡ high + 1 → Done entry places high a b v → Done entry places second b c p
      → Added c d (Index count)
      → Done entry places high a d (expr.Index count v p)
  index_done {a = a} {b = b} {c = c} count second v p is e f g =
      changed (λ code s. Represents.index count s.mid s.parts_stand s.instr_stands)
      (parts_then {parts = v ∷ p ∷ []} (parts_more {es = v ∷ []} second is (parts_more {es = []} high (omega arith) no_parts e) f) g)

  pub update_done : {a b c d f : List ℕ} (count second third : ℕ) (v p i : Expr) → second ≡ high + 1 → third ≡ high + 2 → Done entry places high a b v
      → Done entry places second b c p
      → Done entry places third c d i → Added d f (Update count) → Done entry places high a f (expr.Update count v p i)
  update_done count second third v p i is so e f g h =
      changed (λ code s. Represents.update count s.mid s.parts_stand s.instr_stands)
      (parts_then {parts = v ∷ p ∷ i ∷ []} (parts_more {es = v ∷ p ∷ []} third so (parts_more {es = v ∷ []} second is (parts_more {es = []} high
      (omega arith) no_parts e) f) g) h)

  pub choice_done : {a b c d f g : List ℕ} (second to : ℕ) (test x y : Expr) → Done entry places high a b test → Added b c (JumpFalse second)
      → Done entry places high c d x
      → Added d f (Jump to) → second ≡ length f → Done entry places high f g y → to ≡ length g → Done entry places high a g (expr.If test x y)
  choice_done {b = b} {c = c} {d = d} {f = f} {g = g} second to test x y et ej ex ek is ey so =
      let last = ey.grown in
      let from_jump = grows_more ek.grown last in
      let from_true = grows_more ex.grown from_jump in
      let from_test = grows_more ej.grown from_true in
      record {
        grown = grows_more et.grown from_test;
        stands = λ code grows. Represents.choice (length b) (length c) (length d) (length f)
            (still et from_test code grows) (subst (λ n. StandsAt code (length b) (JumpFalse n) (length c)) is (still ej from_true code grows))
            (still ex from_jump code grows) (subst (λ n. StandsAt code (length d) (Jump n) (length f)) so (still ek last code grows)) (ey.stands code grows);
      }

  pub case_done : {a b c : List ℕ} (part : Expr) (forms : Forms) (arms : List (PatC × Expr)) → Done entry places high a b part
      → ArmsDone entry places high b c arms → Done entry places high a c (expr.Case part forms arms)
  case_done {b = b} part forms arms e f = record {
    grown = grows_more e.grown f.grown;
    stands = λ code grows. Represents.alternatives forms (length b) (still e f.grown code grows) (f.stands code grows);
  }

  pub binding_done : {a b c d : List ℕ} (inner : List ℕ) (top : ℕ) (part body : Expr) → inner ≡ places ++ high ∷ [] → top ≡ high + 1
      → Done entry places high a b part
      → Done entry inner top b c body → Added c d (Slide 1) → Done entry places high a d (expr.Let part body)
  binding_done {b = b} {c = c} inner top part body is so e f g =
      let inside : Done entry (places ++ high ∷ []) (high + 1) b c body = subst (λ k. Done entry k (high + 1) b c body) is (subst
      (λ k. Done entry inner k b c body) so f) in
      record {
        grown = grows_more e.grown (grows_more f.grown g.grown);
        stands = λ code grows. Represents.binding (length b) (length c) (still e (grows_more f.grown g.grown) code grows) (still inside g.grown code grows)
            (g.stands code grows);
      }

  pub raise_alone_done : {a b c : List ℕ} (exn : ℕ) → Added a b (Push 0) → Added b c (Raise exn false) → Done entry places high a c (expr.Raise exn None)
  raise_alone_done {b = b} exn e f = record {
    grown = grows_more e.grown f.grown;
    stands = λ code grows. Represents.raise_alone exn (length b) (still e f.grown code grows) (f.stands code grows);
  }

  pub raise_with_done : {a b c : List ℕ} (exn : ℕ) (part : Expr) → Done entry places high a b part → Added b c (Raise exn true)
      → Done entry places high a c (expr.Raise exn (Some part))
  raise_with_done {b = b} exn part e f = record {
    grown = grows_more e.grown f.grown;
    stands = λ code grows. Represents.raise_with exn (length b) (still e f.grown code grows) (f.stands code grows);
  }

  -- alternatives
  pub no_arms : {a : List ℕ} (end : ℕ) → ArmsBegun entry places high end a a []
  no_arms end = record { grown = grows_not; stands = λ code grows. record { followed = λ others s. s } }

  pub arms_more : {a b c : List ℕ} (end : ℕ) (arms : List (PatC × Expr)) (arm : PatC × Expr) → ArmsBegun entry places high end a b arms
      → ArmsBegun entry places high end b c (arm ∷ []) → ArmsBegun entry places high end a c (arms ++ arm ∷ [])
  arms_more {a = a} {b = b} {c = c} end arms arm e f = record {
    grown = grows_more e.grown f.grown;
    stands = λ code grows. record {
      followed = λ others s. subst (λ l. ArmsStand code entry places high (length a) end l) (sym (append_assoc arms (arm ∷ []) others))
          ((still e f.grown code grows).followed (arm ∷ others) ((f.stands code grows).followed others s));
    };
  }

  pub arms_done : {a b c : List ℕ} (end : ℕ) (arms : List (PatC × Expr)) → ArmsBegun entry places high end a b arms
      → Added b c (Raise NO_CASE false) → end ≡ length c → ArmsDone entry places high a c arms
  arms_done {a = a} {b = b} {c = c} end arms e f is = record {
    grown = grows_more e.grown f.grown;
    stands = λ code grows.
        let last : ArmsStand code entry places high (length b) end [] = subst (λ n. ArmsStand code entry places high (length b) n []) (sym is)
        (ArmsStand.no_arm (f.stands code grows)) in
        let all : ArmsStand code entry places high (length a) end (arms ++ []) = (still e f.grown code grows).followed [] last in
        subst (λ n. ArmsStand code entry places high (length a) n arms) is (subst (λ l. ArmsStand code entry places high (length a) end l)
        (append_nil arms) all);
  }

  pub arm_done : {a b c d f g : List ℕ} (top variables inside slid end other : ℕ) (inner : List ℕ) (p : PatC) (body : Expr)
      → top ≡ high + 1 → variables ≡ length (spots_at p (root high)) → inside ≡ top + variables → slid ≡ 1 + variables
      → inner ≡ places ++ counted top variables
      → Emitted a b (λ code from to. TestsStand code top other from to (tests_at p (root high)))
      → Emitted b c (λ code from to. FieldsStand code top from to (spots_at p (root high)))
      → Done entry inner inside c d body → Added d f (Slide slid) → Added f g (Jump end) → other ≡ length g
      → ArmsBegun entry places high end a g ((p, body) ∷ [])
  arm_done {a = a} {b = b} {c = c} {d = d} {f = f} {g = g} top variables inside slid end other inner p body top_is count inside_is slid_is inner_is
      et ef eb es ej other_is =
      let after_slid = ej.grown in
      let after_body = grows_more es.grown after_slid in
      let after_fields = grows_more eb.grown after_body in
      let after_tests = grows_more ef.grown after_fields in
      record {
        grown = grows_more et.grown after_tests;
        stands = λ code grows. record {
          followed = λ others s. ArmsStand.one_arm (length b) (length c) (length d) (length f) other
              (subst (λ k. TestsStand code k other (length a) (length b) (tests_at p (root high))) top_is (still et after_tests code grows))
              (subst (λ k. FieldsStand code k (length b) (length c) (spots_at p (root high))) top_is (still ef after_fields code grows))
              (let x : inner ≡ places ++ counted (high + 1) (length (spots_at p (root high))) = inner_is ∙ (λ i. places ++ counted (top_is i) (count i)) in
              let y : inside ≡ high + 1 + length (spots_at p (root high)) = inside_is ∙ (λ i. top_is i + count i) in
              subst (λ k. Represents code entry k (high + 1 + length (spots_at p (root high))) (length c) (length d) body) x
              (subst (λ k. Represents code entry inner k (length c) (length d) body) y (still eb after_body code grows)))
              (subst (λ k. StandsAt code (length d) (Slide k) (length f)) (slid_is ∙ ap (λ k. 1 + k) count) (still es after_slid code grows))
              (subst (λ k. StandsAt code (length f) (Jump end) k) (sym other_is) (ej.stands code grows))
              (subst (λ k. ArmsStand code entry places high k end others) (sym other_is) s);
        };
      }
