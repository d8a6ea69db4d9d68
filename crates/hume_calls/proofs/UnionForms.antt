-- The words of a union.
use Rattle.std.proofs.Common.{◌≡◌, ◌≤◌, ◌<◌, ◌+◌, ℕ, zero, suc, Bool, true, false, ◌&&◌, List, [], ◌∷◌, drop, take, length, Option, None, Some, if◌then◌else◌, slice_index_or, codes, refl, sym, subst, arith}
use Rattle.std.specs.Str.{bytes_eq}
use Rattle.std.proofs.Math.Dec.{leb}
use Rattle.std.proofs.lemmas.Bool.{leb-true}
use Rattle.hume_calls.specs.declared.order.Order.{Order}
use Rattle.hume_calls.specs.declared.order.Order.TheVariants.{Calc, Check, Demo, Log, Run, Union}
use Rattle.hume_calls.specs.Words.{all_differ, calc_of, demo_of, four_of, is_own, is_run, is_union, log_order, more_of, number_of, order_of, run_of, runs_of, traced_of, union_of, verify_of}
use Rattle.demo_net.specs.declared.source.TheConstants.{MAX_NUMBER}
use Rattle.hume_base.specs.declared.limits.TheConstants.{MAX_SUPERSTEPS}

-- The words name so many sources from that place on.
pub record NamesSources (words : List (List ℕ)) (count sources : ℕ) : Type 0 where
  pub place : sources ≡ 4
  pub least : 2 ≤ count
  pub most : count ≤ 8
  pub enough : 4 + count ≤ length words
  pub differ : all_differ (take count (drop 4 words)) ≡ true

both_true : (b c : Bool) → (b && c) ≡ true → (b ≡ true) × (c ≡ true)
both_true true c is = (refl, is)
both_true false c is = cc

module _ (steps workers count sources : ℕ) where
  abbrev order : Order
  order = Union steps workers count sources

  check_isnt : (b : Bool) → (if b then Some (Check 1) else None) ≡ Some order → ⊥
  check_isnt true is = cc
  check_isnt false is = cc

  run_isnt : (traced : Option Bool) (s w : Option ℕ) → run_of traced s w ≡ Some order → ⊥
  run_isnt None s w is = cc
  run_isnt (Some traced) None w is = cc
  run_isnt (Some traced) (Some s) None is = cc
  run_isnt (Some traced) (Some s) (Some w) is = by (is_run s w) is
    where
      by : (b : Bool) → (if b then Some (Run s w 3 traced) else None) ≡ Some order → ⊥
      by true is = cc
      by false is = cc

  demo_isnt : (n s w : Option ℕ) → demo_of n s w ≡ Some order → ⊥
  demo_isnt None s w is = cc
  demo_isnt (Some n) None w is = cc
  demo_isnt (Some n) (Some s) None is = cc
  demo_isnt (Some n) (Some s) (Some w) is = by (leb n MAX_NUMBER && is_run s w) is
    where
      by : (b : Bool) → (if b then Some (Demo n s w) else None) ≡ Some order → ⊥
      by true is = cc
      by false is = cc

  calc_isnt : (s w : Option ℕ) (source : List ℕ) (names : List (List ℕ)) → calc_of s w source names ≡ Some order → ⊥
  calc_isnt None w source names is = cc
  calc_isnt (Some s) None source names is = cc
  calc_isnt (Some s) (Some w) source [] is = cc
  calc_isnt (Some s) (Some w) source (script ∷ ports) is = by (is_run s w && is_own source script) is
    where
      by : (b : Bool) → (if b then Some (Calc s w 3 4) else None) ≡ Some order → ⊥
      by true is = cc
      by false is = cc

  log_isnt : (v : Bool) (s : Option ℕ) (source log : List ℕ) → log_order v s source log ≡ Some order → ⊥
  log_isnt v None source log is = cc
  log_isnt v (Some s) source log is = by (leb s MAX_SUPERSTEPS && is_own source log) is
    where
      by : (b : Bool) → (if b then Some (Log s 2 3 v) else None) ≡ Some order → ⊥
      by true is = cc
      by false is = cc

  runs_isnt : (v : Option Bool) (command first second third : List ℕ) → runs_of v command first second third ≡ Some order → ⊥
  runs_isnt (Some v) command first second third is = log_isnt v (number_of first) second third is
  runs_isnt None command first second third is = run_isnt (traced_of command) (number_of first) (number_of second) is

  four_isnt : (command first second third : List ℕ) → four_of command first second third ≡ Some order → ⊥
  four_isnt command first second third is = by (bytes_eq command (codes "demo")) is
    where
      by : (b : Bool) → (if b then demo_of (number_of first) (number_of second) (number_of third)
          else runs_of (verify_of command) command first second third) ≡ Some order → ⊥
      by true is = demo_isnt (number_of first) (number_of second) (number_of third) is
      by false is = runs_isnt (verify_of command) command first second third is

  union_is : (s w c : Option ℕ) (words : List (List ℕ)) → union_of s w c words ≡ Some order → (sources ≡ 4) × (is_union count words ≡ true)
  union_is None w c words is = cc
  union_is (Some s) None c words is = cc
  union_is (Some s) (Some w) None words is = cc
  union_is (Some s) (Some w) (Some c) words is = by (is_run s w && is_union c words) refl is
    where
      by : (b : Bool) → (is_run s w && is_union c words) ≡ b → (if b then Some (Union s w c 4) else None) ≡ Some order
          → (sources ≡ 4) × (is_union count words ≡ true)
      by true both is =
          let place : 4 ≡ sources = cc in
          let same : c ≡ count = cc in
          (sym place, subst (λ k. is_union k words ≡ true) same (both_true (is_run s w) (is_union c words) both).1)
      by false both is = cc

  more_is : (command first second third : List ℕ) (words : List (List ℕ)) → more_of command first second third words ≡ Some order
      → (sources ≡ 4) × (is_union count words ≡ true)
  more_is command first second third words is = by (bytes_eq command (codes "calc")) (bytes_eq command (codes "union")) is
    where
      by : (calc union : Bool) → (if calc then calc_of (number_of first) (number_of second) third words
          else if union then union_of (number_of first) (number_of second) (number_of third) words
          else runs_of (verify_of command) command first second third) ≡ Some order → (sources ≡ 4) × (is_union count words ≡ true)
      by true union is = absurd (calc_isnt (number_of first) (number_of second) third words is)
      by false true is = union_is (number_of first) (number_of second) (number_of third) words is
      by false false is = absurd (runs_isnt (verify_of command) command first second third is)

  names_are : (one two three four : List ℕ) (words : List (List ℕ)) → (sources ≡ 4) × (is_union count words ≡ true)
      → NamesSources (one ∷ two ∷ three ∷ four ∷ words) count sources
  names_are one two three four words (place, is) =
      let least = both_true (leb 2 count) (leb count 8 && (leb count (length words) && all_differ (take count words))) is in
      let most = both_true (leb count 8) (leb count (length words) && all_differ (take count words)) least.1 in
      let enough = both_true (leb count (length words)) (all_differ (take count words)) most.1 in
      let within = leb-true count (length words) enough.0 in
      record {
        place = place;
        least = leb-true 2 count least.0;
        most = leb-true count 8 most.0;
        enough = omega (arith, within);
        differ = enough.1;
      }

  pub names_sources : (words : List (List ℕ)) → order_of words ≡ Some order → NamesSources words count sources
  names_sources [] is = cc
  names_sources (one ∷ []) is = cc
  names_sources (one ∷ two ∷ []) is = absurd (check_isnt (bytes_eq one (codes "check")) is)
  names_sources (one ∷ two ∷ three ∷ []) is = cc
  names_sources (one ∷ two ∷ three ∷ four ∷ []) is = absurd (four_isnt one two three four is)
  names_sources (one ∷ two ∷ three ∷ four ∷ five ∷ words) is = names_are one two three four (five ∷ words) (more_is one two three four (five ∷ words) is)

-- the first of the sources, and the others
pub first_named : (words : List (List ℕ)) (sources count : ℕ) → 1 ≤ count → sources < length words
    → take count (drop sources words) ≡ slice_index_or words sources [] ∷ drop 1 (take count (drop sources words))
first_named [] sources count some within = absurd (omega (arith, within))
first_named (word ∷ words) zero zero some within = absurd (omega (arith, some))
first_named (word ∷ words) zero (suc count) some within = refl
first_named (word ∷ words) (suc sources) count some within = first_named words sources count some (omega (arith, within))
