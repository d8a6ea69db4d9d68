-- Tests and words of variables that are appended one after another.
use Rattle.std.proofs.Common.{◌≡◌, ℕ, ◌+◌, List, [], ◌∷◌, ◌++◌, length, subst, arith}
use Rattle.box_code.specs.Paths.{Spot, Test}
use Rattle.box_code.specs.Represents.{FieldsStand, TestsStand}
use Rattle.box_compile.specs.inner.Emitted.{Emitted}
use Rattle.box_compile.specs.inner.Parts.{FieldStands, TestStands}
use Rattle.box_compile.proofs.Appending.{grows_not, grows_more, still}

tests_last : {code : List ℕ} {high other from mid to : ℕ} {tests : List Test} {test : Test} → TestsStand code high other from mid tests
    → TestStands code high other mid to test → TestsStand code high other from to (tests ++ test ∷ [])
tests_last {to = to} TestsStand.none t = TestsStand.more to t.path t.is t.instr_stands TestsStand.none
tests_last (TestsStand.more mid path is stands rest) t = TestsStand.more mid path is stands (tests_last rest t)

fields_last : {code : List ℕ} {high from mid to : ℕ} {spots : List Spot} {spot : Spot} (top : ℕ) → top ≡ high + length spots
    → FieldsStand code high from mid spots
    → FieldStands code top mid to spot → FieldsStand code high from to (spots ++ spot ∷ [])
fields_last {code = code} {high = high} {mid = mid} {to = to} {spot = spot} top is FieldsStand.none f =
    let e : top ≡ high = omega (arith, is) in
    let g : FieldStands code high mid to spot = subst (λ k. FieldStands code k mid to spot) e f in
    FieldsStand.more to g.path g.is g.instr_stands FieldsStand.none
fields_last top is (FieldsStand.more mid path at stands rest) f = FieldsStand.more mid path at stands (fields_last top (omega (arith, is)) rest f)

pub no_tests : {a : List ℕ} (high other : ℕ) → Emitted a a (λ code from to. TestsStand code high other from to [])
no_tests high other = record { grown = grows_not; stands = λ code grows. TestsStand.none }

pub no_fields : {a : List ℕ} (high : ℕ) → Emitted a a (λ code from to. FieldsStand code high from to [])
no_fields high = record { grown = grows_not; stands = λ code grows. FieldsStand.none }

pub tests_more : {a b c : List ℕ} {high other : ℕ} {tests : List Test} {test : Test} → Emitted a b (λ code from to. TestsStand code high other from to tests)
    → Emitted b c (λ code from to. TestStands code high other from to test) → Emitted a c (λ code from to. TestsStand code high other from to
    (tests ++ test ∷ []))
tests_more e f = record {
  grown = grows_more e.grown f.grown;
  stands = λ code grows. tests_last (still e f.grown code grows) (f.stands code grows);
}

pub fields_more : {a b c : List ℕ} {high : ℕ} {spots : List Spot} {spot : Spot} (top : ℕ) → top ≡ high + length spots
    → Emitted a b (λ code from to. FieldsStand code high from to spots)
    → Emitted b c (λ code from to. FieldStands code top from to spot) → Emitted a c (λ code from to. FieldsStand code high from to (spots ++ spot ∷ []))
fields_more top is e f = record {
  grown = grows_more e.grown f.grown;
  stands = λ code grows. fields_last top is (still e f.grown code grows) (f.stands code grows);
}
