-- The port of a log among the words.
use Rattle.std.proofs.Common.{◌≡◌, ℕ, Bool, true, false, ◌&&◌, List, [], ◌∷◌, Option, None, Some, IfSome, if◌then◌else◌, codes, slice_index_or, refl, subst}
use Rattle.std.specs.Str.{bytes_eq}
use Rattle.std.proofs.Math.Dec.{leb}
use Rattle.hume_base.specs.declared.limits.TheConstants.{MAX_SUPERSTEPS}
use Rattle.demo_net.specs.declared.source.TheConstants.{MAX_NUMBER}
use Rattle.hume_calls.specs.declared.order.Order.{Order}
use Rattle.hume_calls.specs.declared.order.Order.TheVariants.{Run, Calc, Log, Check, Union, Demo}
use Rattle.hume_calls.specs.Words.{calc_of, demo_of, is_own, is_run, is_union, log_order, named_by, number_of, order_of, run_of, runs_of, traced_of, union_of, verify_of}
use Rattle.hume_calls.proofs.ScriptWords.{NamesFurther, both_hold, own_apart, words_apart}

same_source : (s p q t place at : ℕ) (v verify : Bool) → Log s p q v ≡ Log t place at verify → p ≡ place
same_source s p q t place at v verify is = (let same : p ≡ place = cc in same)

same_log : (s p q t place at : ℕ) (v verify : Bool) → Log s p q v ≡ Log t place at verify → q ≡ at
same_log s p q t place at v verify is = (let same : q ≡ at = cc in same)

module _ (steps place at : ℕ) (verify : Bool) where
  abbrev order : Order
  order = Log steps place at verify

  no_check : (test : Bool) → (if test then Some (Check 1) else None) ≡ Some order → ⊥
  no_check true is = cc
  no_check false is = cc

  not_one : (test : Bool) (other : Order) → (other ≡ order → ⊥) → (if test then Some other else None) ≡ Some order → ⊥
  not_one true other apart is = let same : other ≡ order = cc in apart same
  not_one false other apart is = cc

  run_apart : (s w p : ℕ) (t : Bool) → Run s w p t ≡ order → ⊥
  run_apart s w p t is = cc

  demo_apart : (n s w : ℕ) → Demo n s w ≡ order → ⊥
  demo_apart n s w is = cc

  calc_apart : (s w p q : ℕ) → Calc s w p q ≡ order → ⊥
  calc_apart s w p q is = cc

  union_apart : (s w c p : ℕ) → Union s w c p ≡ order → ⊥
  union_apart s w c p is = cc

  no_run : (t : Option Bool) (s w : Option ℕ) → run_of t s w ≡ Some order → ⊥
  no_run (Some t) (Some s) (Some w) is = not_one (is_run s w) (Run s w 3 t) (run_apart s w 3 t) is
  no_run (Some t) (Some s) None is = cc
  no_run (Some t) None w is = cc
  no_run None s w is = cc

  no_demo : (n s w : Option ℕ) → demo_of n s w ≡ Some order → ⊥
  no_demo (Some n) (Some s) (Some w) is = not_one (leb n MAX_NUMBER && is_run s w) (Demo n s w) (demo_apart n s w) is
  no_demo (Some n) (Some s) None is = cc
  no_demo (Some n) None w is = cc
  no_demo None s w is = cc

  no_calc : (s w : Option ℕ) (source script : List ℕ) (ports : List (List ℕ)) → calc_of s w source (script ∷ ports) ≡ Some order → ⊥
  no_calc (Some s) (Some w) source script ports is = not_one (is_run s w && is_own source script) (Calc s w 3 4) (calc_apart s w 3 4) is
  no_calc (Some s) None source script ports is = cc
  no_calc None w source script ports is = cc

  no_union : (s w c : Option ℕ) (words : List (List ℕ)) → union_of s w c words ≡ Some order → ⊥
  no_union (Some s) (Some w) (Some c) words is = not_one (is_run s w && is_union c words) (Union s w c 4) (union_apart s w c 4) is
  no_union (Some s) (Some w) None words is = cc
  no_union (Some s) None c words is = cc
  no_union None w c words is = cc

  -- the names of a source and its log, at their places
  abbrev Named : List ℕ → List ℕ → Type 0
  Named source log = (bytes_eq log source ≡ false) × ((2 ≡ place) × (3 ≡ at))

  log_is : (v : Bool) (s : Option ℕ) (source log : List ℕ) → log_order v s source log ≡ Some order → Named source log
  log_is v (Some s) source log is =
      let b = both_hold (leb s MAX_SUPERSTEPS) (is_own source log) (Log s 2 3 v) order is in (
        own_apart source log b.0,
        (same_source s 2 3 steps place at v verify b.1, same_log s 2 3 steps place at v verify b.1),
      )
  log_is v None source log is = cc

  runs_is : (v : Option Bool) (command first second third : List ℕ) → runs_of v command first second third ≡ Some order → Named second third
  runs_is (Some v) command first second third is = log_is v (number_of first) second third is
  runs_is None command first second third is = absurd (no_run (traced_of command) (number_of first) (number_of second) is)

  four_is : (test : Bool) (command first second third : List ℕ)
      → (if test then demo_of (number_of first) (number_of second) (number_of third) else runs_of (verify_of command) command first second third) ≡ Some order
      → Named second third
  four_is true command first second third is = absurd (no_demo (number_of first) (number_of second) (number_of third) is)
  four_is false command first second third is = runs_is (verify_of command) command first second third is

  more_is : (calc union : Bool) (command first second third next : List ℕ) (ports : List (List ℕ))
      → (if calc then calc_of (number_of first) (number_of second) third (next ∷ ports)
      else if union then union_of (number_of first) (number_of second) (number_of third) (next ∷ ports)
      else runs_of (verify_of command) command first second third) ≡ Some order
      → Named second third
  more_is true union command first second third next ports is = absurd (no_calc (number_of first) (number_of second) third next ports is)
  more_is false true command first second third next ports is =
      absurd (no_union (number_of first) (number_of second) (number_of third) (next ∷ ports) is)
  more_is false false command first second third next ports is = runs_is (verify_of command) command first second third is

  abbrev Apart : List (List ℕ) → Type 0
  Apart words = bytes_eq (slice_index_or words at []) (slice_index_or words place []) ≡ false

  apart_at : (words : List (List ℕ)) (source log : List ℕ) → slice_index_or words 2 [] ≡ source → slice_index_or words 3 [] ≡ log → Named source log → Apart words
  apart_at words source log is also f =
      subst (λ (n : ℕ). bytes_eq (slice_index_or words n []) (slice_index_or words place []) ≡ false) f.1.1
      (subst (λ (n : ℕ). bytes_eq (slice_index_or words 3 []) (slice_index_or words n []) ≡ false) f.1.0 (rw (is, also) f.0))

  -- the words of a call with a log name two ports
  pub log_words_apart : (words : List (List ℕ)) → order_of words ≡ Some order → Apart words
  log_words_apart [] is = cc
  log_words_apart (a ∷ []) is = cc
  log_words_apart (a ∷ b ∷ []) is = absurd (no_check (bytes_eq a (codes "check")) is)
  log_words_apart (a ∷ b ∷ c ∷ []) is = cc
  log_words_apart (a ∷ b ∷ c ∷ d ∷ []) is = apart_at (a ∷ b ∷ c ∷ d ∷ []) c d refl refl (four_is (bytes_eq a (codes "demo")) a b c d is)
  log_words_apart (a ∷ b ∷ c ∷ d ∷ e ∷ words) is =
      apart_at (a ∷ b ∷ c ∷ d ∷ e ∷ words) c d refl refl (more_is (bytes_eq a (codes "calc")) (bytes_eq a (codes "union")) a b c d e words is)

-- calls name their further ports apart from their sources
pub calls_name_further : (words : List (List ℕ)) (order : Order) → order_of words ≡ Some order → IfSome (named_by words order) (NamesFurther order)
calls_name_further words (Run steps workers source traced) is = tt
calls_name_further words (Check source) is = tt
calls_name_further words (Union steps workers count sources) is = tt
calls_name_further words (Demo number steps workers) is = tt
calls_name_further words (Calc steps workers source script) is = record { only = refl; apart = words_apart steps workers source script words is }
calls_name_further words (Log steps source log verify) is = record { only = refl; apart = log_words_apart steps source log verify words is }
