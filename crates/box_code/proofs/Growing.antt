-- What stands in a code stands there still when words are appended, and what is appended stands at its end.
use Rattle.std.proofs.Common.{◌≡◌, ℕ, zero, suc, ◌+◌, ◌≤◌, List, [], ◌∷◌, ◌++◌, length, take, drop, Option, refl, ap, sym, ◌∙◌, arith, append_assoc}
use Rattle.std.proofs.lemmas.List.{length-append}
use Rattle.hume_model.specs.declared.core_tree.PatC.{PatC}
use Rattle.hume_model.specs.declared.core_tree.Expr.{Expr}
use Rattle.hume_model.specs.declared.core_tree.Res.{Res}
use Rattle.hume_model.specs.declared.core_tree.EqC.{EqC}
use Rattle.box_code.specs.declared.instr.Path.{Path}
use Rattle.box_code.specs.declared.instr.Instr.{Instr}
use Rattle.box_code.specs.Words.{words_of, path_of, PathStands, OperandsFit, StandsAt, fields_in}
use Rattle.box_code.specs.Paths.{Spot, Test, WordIs, TagIs}
use Rattle.box_code.specs.Represents.{spot_of, instr_of_test, PathIs, TestsStand, FieldsStand, Represents, AllRepresent, ArmsStand, EquationsStand, ResultStands, ResultArmsStand, BoundResultStands}

take_front : (count : ℕ) (xs ys : List ℕ) → count ≤ length xs → take count (xs ++ ys) ≡ take count xs
take_front zero xs ys low = refl
take_front (suc count) [] ys low = absurd (omega (arith, low))
take_front (suc count) (x ∷ xs) ys low = ap (λ zs. x ∷ zs) (take_front count xs ys (omega (arith, low)))

part_stays : (at count : ℕ) (xs ys : List ℕ) → at + count ≤ length xs → take count (drop at (xs ++ ys)) ≡ take count (drop at xs)
part_stays zero count xs ys low = take_front count xs ys (omega (arith, low))
part_stays (suc at) zero [] ys low = absurd (omega (arith, low))
part_stays (suc at) (suc count) [] ys low = absurd (omega (arith, low))
part_stays (suc at) count (x ∷ xs) ys low = part_stays at count xs ys (omega (arith, low))

take_all : (xs : List ℕ) → take (length xs) xs ≡ xs
take_all [] = refl
take_all (x ∷ xs) = ap (λ ys. x ∷ ys) (take_all xs)

part_of : (xs ys : List ℕ) (at count : ℕ) → at ≡ length xs → count ≡ length ys → take count (drop at (xs ++ ys)) ≡ ys
part_of [] ys zero count e d = ap (λ k. take k ys) d ∙ take_all ys
part_of [] ys (suc at) count e d = absurd (omega (arith, e))
part_of (x ∷ xs) ys zero count e d = absurd (omega (arith, e))
part_of (x ∷ xs) ys (suc at) count e d = part_of xs ys at count (omega (arith, e)) d

module _ (code more : List ℕ) where
  pub still_at : (at : ℕ) (instr : Instr) (next : ℕ) → StandsAt code at instr next → StandsAt (code ++ more) at instr next
  still_at at instr next s =
      let ends = s.ends in
      let a = length-append code more in
      record {
        before = s.before;
        after = s.after ++ more;
        words = ap (λ c. c ++ more) s.words ∙ append_assoc s.before (words_of instr ++ s.after) more ∙ ap (λ c. s.before ++ c) (append_assoc (words_of instr) s.after more);
        begins = s.begins;
        path = s.path;
        ends = omega (arith, ends, a);
        fits = s.fits;
      }

  still_path : (high : ℕ) (path : Path) (spot : Spot) → path.at + path.length ≤ length code → PathIs code high path spot → PathIs (code ++ more) high path spot
  still_path high path spot low is = record { low = is.low; same = part_stays path.at path.length code more low ∙ is.same }

  path_within : (at : ℕ) (path : Path) (behind next : ℕ) → (path.at ≡ behind) × (next ≡ behind + path.length) → next ≤ length code → path.at + path.length ≤ length code
  path_within at path behind next is ends = (let a = is.0 in let b = is.1 in omega (arith, a, b, ends))

  test_within : (high other at : ℕ) (path : Path) (test : Test) (next : ℕ) → StandsAt code at (instr_of_test high other path test) next → path.at + path.length ≤ length code
  test_within high other at path (WordIs spot word) next s = path_within at path _ next s.path s.ends
  test_within high other at path (TagIs spot tag) next s = path_within at path _ next s.path s.ends

  pub still_tests : {high other from to : ℕ} {tests : List Test} → TestsStand code high other from to tests → TestsStand (code ++ more) high other from to tests
  still_tests TestsStand.none = TestsStand.none
  still_tests {high = high} {other = other} (TestsStand.more {from = from} mid path {test = test} is stands rest) =
      TestsStand.more mid path (still_path high path (spot_of test) (test_within high other from path test mid stands) is) (still_at _ _ _ stands) (still_tests rest)

  pub still_fields : {high from to : ℕ} {spots : List Spot} → FieldsStand code high from to spots → FieldsStand (code ++ more) high from to spots
  still_fields FieldsStand.none = FieldsStand.none
  still_fields (FieldsStand.more {high = high} {from = from} mid path {spot = spot} is stands rest) =
      FieldsStand.more mid path (still_path high path spot (path_within from path _ mid stands.path stands.ends) is) (still_at _ _ _ stands) (still_fields rest)

  module _ (entry : ℕ → Option ℕ) where
    mutual
      pub still : {places : List ℕ} {high from to : ℕ} {e : Expr} → Represents code entry places high from to e → Represents (code ++ more) entry places high from to e
      still (Represents.word w found) = Represents.word w (still_at _ _ _ found)
      still (Represents.variable n p at low found) = Represents.variable n p at low (still_at _ _ _ found)
      still (Represents.con c mid parts found) = Represents.con c mid (all_still parts) (still_at _ _ _ found)
      still (Represents.tuple mid parts found) = Represents.tuple mid (all_still parts) (still_at _ _ _ found)
      still (Represents.vector mid parts found) = Represents.vector mid (all_still parts) (still_at _ _ _ found)
      still (Represents.operation o t scalar mid same parts found) = Represents.operation o t scalar mid same (all_still parts) (still_at _ _ _ found)
      still (Represents.index count mid parts found) = Represents.index count mid (all_still parts) (still_at _ _ _ found)
      still (Represents.update count mid parts found) = Represents.update count mid (all_still parts) (still_at _ _ _ found)
      still (Represents.choice tested first done second rt jf ra j rb) =
          Represents.choice tested first done second (still rt) (still_at _ _ _ jf) (still ra) (still_at _ _ _ j) (still rb)
      still (Represents.alternatives forms mid part arms) = Represents.alternatives forms mid (still part) (still_arms arms)
      still (Represents.binding mid done ra rb found) = Represents.binding mid done (still ra) (still rb) (still_at _ _ _ found)
      still (Represents.call n mid place parts at found) = Represents.call n mid place (all_still parts) at (still_at _ _ _ found)
      still (Represents.raise_alone exn mid push found) = Represents.raise_alone exn mid (still_at _ _ _ push) (still_at _ _ _ found)
      still (Represents.raise_with exn mid part found) = Represents.raise_with exn mid (still part) (still_at _ _ _ found)

      pub all_still : {places : List ℕ} {high from to : ℕ} {es : List Expr} → AllRepresent code entry places high from to es → AllRepresent (code ++ more) entry places high from to es
      all_still AllRepresent.none = AllRepresent.none
      all_still (AllRepresent.more mid first rest) = AllRepresent.more mid (still first) (all_still rest)

      pub still_arms : {places : List ℕ} {high from to : ℕ} {arms : List (PatC × Expr)} → ArmsStand code entry places high from to arms → ArmsStand (code ++ more) entry places high from to arms
      still_arms (ArmsStand.no_arm raise) = ArmsStand.no_arm (still_at _ _ _ raise)
      still_arms (ArmsStand.one_arm tested bound done slid other tests fields body slide jump rest) =
          ArmsStand.one_arm tested bound done slid other (still_tests tests) (still_fields fields) (still body) (still_at _ _ _ slide) (still_at _ _ _ jump) (still_arms rest)

    pub still_equations : {count from : ℕ} {equations : List EqC} → EquationsStand code entry count from equations → EquationsStand (code ++ more) entry count from equations
    still_equations (EquationsStand.none next raise) = EquationsStand.none next (still_at _ _ _ raise)
    still_equations (EquationsStand.more tested bound done other tests fields body back rest) =
        EquationsStand.more tested bound done other (still_tests tests) (still_fields fields) (still body) (still_at _ _ _ back) (still_equations rest)

    mutual
      pub still_result : {places : List ℕ} {high from to : ℕ} {r : Res} → ResultStands code entry places high from to r → ResultStands (code ++ more) entry places high from to r
      still_result (ResultStands.outputs mid parts found) = ResultStands.outputs mid (all_still parts) (still_at _ _ _ found)
      still_result (ResultStands.choice tested first second rt jf ra rb) = ResultStands.choice tested first second (still rt) (still_at _ _ _ jf) (still_result ra) (still_result rb)
      still_result (ResultStands.alternatives forms mid part arms) = ResultStands.alternatives forms mid (still part) (still_result_arms arms)
      still_result (ResultStands.binding mid part body) = ResultStands.binding mid (still part) (still_result body)
      still_result (ResultStands.raise_alone exn mid push found) = ResultStands.raise_alone exn mid (still_at _ _ _ push) (still_at _ _ _ found)
      still_result (ResultStands.raise_with exn mid part found) = ResultStands.raise_with exn mid (still part) (still_at _ _ _ found)

      pub still_result_arms : {places : List ℕ} {high from to : ℕ} {arms : List (PatC × Res)} → ResultArmsStand code entry places high from to arms
          → ResultArmsStand (code ++ more) entry places high from to arms
      still_result_arms (ResultArmsStand.no_arm raise) = ResultArmsStand.no_arm (still_at _ _ _ raise)
      still_result_arms (ResultArmsStand.one_arm tested bound other tests fields body rest) =
          ResultArmsStand.one_arm tested bound other (still_tests tests) (still_fields fields) (still_result body) (still_result_arms rest)

    pub still_bound : {high : ℕ} {spots : List Spot} {r : Res} {from : ℕ} → BoundResultStands code entry high spots r from → BoundResultStands (code ++ more) entry high spots r from
    still_bound b = record { bound = b.bound; to = b.to; fields = still_fields b.fields; result_stands = still_result b.result_stands }

-- an instruction at the end, with the field numbers of its path
pub appended : (code : List ℕ) (instr : Instr) (fields : List ℕ) (next : ℕ) → OperandsFit instr → PathStands (path_of instr) (length code + length (words_of instr)) next
    → next ≡ length code + (length (words_of instr) + length fields) → StandsAt (code ++ (words_of instr ++ fields)) (length code) instr next
appended code instr fields next fits path long =
    let a = length-append code (words_of instr ++ fields) in
    let b = length-append (words_of instr) fields in
    record { before = code; after = fields; words = refl; begins = refl; path = path; ends = omega (arith, a, b, long); fits = fits }

pub appended_fields : (code : List ℕ) (instr : Instr) (fields : List ℕ) (path : Path) → path.at ≡ length code + length (words_of instr) → path.length ≡ length fields
    → fields_in (code ++ (words_of instr ++ fields)) path ≡ fields
appended_fields code instr fields path at long =
    let a = length-append code (words_of instr) in
    ap (λ c. take path.length (drop path.at c)) (sym (append_assoc code (words_of instr) fields))
    ∙ part_of (code ++ words_of instr) fields path.at path.length (omega (arith, at, a)) long
