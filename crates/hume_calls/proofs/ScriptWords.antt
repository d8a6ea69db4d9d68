-- The port of a script among the words.
use Rattle.std.proofs.Common.{◌≡◌, ℕ, Bool, true, false, not, ◌&&◌, ◌||◌, List, [], ◌∷◌, Option, None, Some, IsTrue, if◌then◌else◌, codes, slice_index_or, refl, sym, subst, inr}
use Rattle.std.specs.Bool.{⊤}
use Rattle.std.specs.List.{list_any}
use Rattle.std.specs.Option.{is_none}
use Rattle.std.specs.Str.{bytes_eq}
use Rattle.std.proofs.Math.Dec.{leb}
use Rattle.hume_base.specs.declared.limits.TheConstants.{MAX_SUPERSTEPS}
use Rattle.hume_ports.specs.Ports.{place_of}
use Rattle.hume_calls.specs.declared.order.Order.{Order}
use Rattle.hume_calls.specs.declared.order.Order.TheVariants.{Run, Calc, Log, Check, Union, Demo}
use Rattle.hume_calls.specs.Headline.{LacksPort}
use Rattle.hume_calls.specs.Words.{Named, calc_of, demo_of, further_of, is_own, is_run, is_union, log_order, number_of, order_of, run_of, runs_of, traced_of, union_of, verify_of}

-- There is one further port, that of a script or of a log, and it isn't the source's.
pub record NamesOneFurther (named : Named) : Type 0 where
  pub only : named.others ≡ further_of named ∷ []
  pub apart : bytes_eq (further_of named) named.source ≡ false

-- So it is of a call with a script, and of one with a log.
abbrev pub NamesFurther : Order → Named → Type 0
NamesFurther (Run steps workers source traced) named = ⊤
NamesFurther (Calc steps workers source script) named = NamesOneFurther named
NamesFurther (Log steps source log verify) named = NamesOneFurther named
NamesFurther (Check source) named = ⊤
NamesFurther (Union steps workers count sources) named = ⊤
NamesFurther (Demo number steps workers) named = ⊤

neither : (a b : Bool) → not (a || b) ≡ true → a ≡ false
neither true b is = cc
neither false b is = refl

pub own_apart : (source script : List ℕ) → is_own source script ≡ true → bytes_eq script source ≡ false
own_apart source script is = neither (bytes_eq script source) _ is

pub both_hold : (run script : Bool) (order other : Order) → (if run && script then Some order else None) ≡ Some other → (script ≡ true) × (order ≡ other)
both_hold true true order other is = (let same : order ≡ other = cc in (refl, same))
both_hold true false order other is = cc
both_hold false true order other is = cc
both_hold false false order other is = cc

same_source : (s w p q t v place at : ℕ) → Calc s w p q ≡ Calc t v place at → p ≡ place
same_source s w p q t v place at is = (let same : p ≡ place = cc in same)

same_script : (s w p q t v place at : ℕ) → Calc s w p q ≡ Calc t v place at → q ≡ at
same_script s w p q t v place at is = (let same : q ≡ at = cc in same)

module _ (steps workers place at : ℕ) where
  abbrev order : Order
  order = Calc steps workers place at

  no_check : (test : Bool) → (if test then Some (Check 1) else None) ≡ Some order → ⊥
  no_check true is = cc
  no_check false is = cc

  not_one : (test : Bool) (other : Order) → (other ≡ order → ⊥) → (if test then Some other else None) ≡ Some order → ⊥
  not_one true other apart is = let same : other ≡ order = cc in apart same
  not_one false other apart is = cc

  run_apart : (s w p : ℕ) (t : Bool) → Run s w p t ≡ order → ⊥
  run_apart s w p t is = cc

  demo_apart : (n s w : ℕ) → Demo n s w ≡ order → ⊥
  demo_apart n s w is = cc

  no_run : (t : Option Bool) (s w : Option ℕ) → run_of t s w ≡ Some order → ⊥
  no_run (Some t) (Some s) (Some w) is = not_one (is_run s w) (Run s w 3 t) (run_apart s w 3 t) is
  no_run (Some t) (Some s) None is = cc
  no_run (Some t) None w is = cc
  no_run None s w is = cc

  no_demo : (n s w : Option ℕ) → demo_of n s w ≡ Some order → ⊥
  no_demo (Some n) (Some s) (Some w) is = not_one _ (Demo n s w) (demo_apart n s w) is
  no_demo (Some n) (Some s) None is = cc
  no_demo (Some n) None w is = cc
  no_demo None s w is = cc

  log_apart : (s p q : ℕ) (v : Bool) → Log s p q v ≡ order → ⊥
  log_apart s p q v is = cc

  no_log : (v : Bool) (s : Option ℕ) (source log : List ℕ) → log_order v s source log ≡ Some order → ⊥
  no_log v (Some s) source log is = not_one (leb s MAX_SUPERSTEPS && is_own source log) (Log s 2 3 v) (log_apart s 2 3 v) is
  no_log v None source log is = cc

  no_runs : (v : Option Bool) (command first second third : List ℕ) → runs_of v command first second third ≡ Some order → ⊥
  no_runs (Some v) command first second third is = no_log v (number_of first) second third is
  no_runs None command first second third is = no_run (traced_of command) (number_of first) (number_of second) is

  no_four : (test : Bool) (command first second third : List ℕ)
      → (if test then demo_of (number_of first) (number_of second) (number_of third) else runs_of (verify_of command) command first second third) ≡ Some order → ⊥
  no_four true command first second third is = no_demo (number_of first) (number_of second) (number_of third) is
  no_four false command first second third is = no_runs (verify_of command) command first second third is

  union_apart : (s w c p : ℕ) → Union s w c p ≡ order → ⊥
  union_apart s w c p is = cc

  no_union : (s w c : Option ℕ) (words : List (List ℕ)) → union_of s w c words ≡ Some order → ⊥
  no_union (Some s) (Some w) (Some c) words is = not_one (is_run s w && is_union c words) (Union s w c 4) (union_apart s w c 4) is
  no_union (Some s) (Some w) None words is = cc
  no_union (Some s) None c words is = cc
  no_union None w c words is = cc

  calc_is : (s w : Option ℕ) (source script : List ℕ) (ports : List (List ℕ)) → calc_of s w source (script ∷ ports) ≡ Some order
      → (bytes_eq script source ≡ false) × ((3 ≡ place) × (4 ≡ at))
  calc_is (Some s) (Some w) source script ports is =
      let b = both_hold (is_run s w) (is_own source script) (Calc s w 3 4) order is in (
        own_apart source script b.0,
        (same_source s w 3 4 steps workers place at b.1, same_script s w 3 4 steps workers place at b.1),
      )
  calc_is (Some s) None source script ports is = cc
  calc_is None w source script ports is = cc

  more_is : (calc union : Bool) (command first second third next : List ℕ) (ports : List (List ℕ))
      → (if calc then calc_of (number_of first) (number_of second) third (next ∷ ports)
      else if union then union_of (number_of first) (number_of second) (number_of third) (next ∷ ports)
      else runs_of (verify_of command) command first second third) ≡ Some order
      → (bytes_eq next third ≡ false) × ((3 ≡ place) × (4 ≡ at))
  more_is true union command first second third next ports is = calc_is (number_of first) (number_of second) third next ports is
  more_is false true command first second third next ports is =
      absurd (no_union (number_of first) (number_of second) (number_of third) (next ∷ ports) is)
  more_is false false command first second third next ports is = absurd (no_runs (verify_of command) command first second third is)

  abbrev Apart : List (List ℕ) → Type 0
  Apart words = bytes_eq (slice_index_or words at []) (slice_index_or words place []) ≡ false

  -- the words of a call with a script name two ports
  pub words_apart : (words : List (List ℕ)) → order_of words ≡ Some order → Apart words
  words_apart [] is = cc
  words_apart (a ∷ []) is = cc
  words_apart (a ∷ b ∷ []) is = absurd (no_check (bytes_eq a (codes "check")) is)
  words_apart (a ∷ b ∷ c ∷ []) is = cc
  words_apart (a ∷ b ∷ c ∷ d ∷ []) is =
      absurd (no_four (bytes_eq a (codes "demo")) a b c d is)
  words_apart (a ∷ b ∷ c ∷ d ∷ e ∷ words) is =
      let f = more_is (bytes_eq a (codes "calc")) (bytes_eq a (codes "union")) a b c d e words is in
      subst (λ (n : ℕ). bytes_eq (slice_index_or (a ∷ b ∷ c ∷ d ∷ e ∷ words) n []) (slice_index_or (a ∷ b ∷ c ∷ d ∷ e ∷ words) place []) ≡ false) f.1.1
      (subst (λ (n : ℕ). bytes_eq e (slice_index_or (a ∷ b ∷ c ∷ d ∷ e ∷ words) n []) ≡ false) f.1.0 f.0)

-- a further port that isn't missing is there

all_there : (none : Bool) → (IsTrue (none || false) → ⊥) → none ≡ false
all_there true lacks = absurd (lacks refl)
all_there false lacks = refl

pub further_there : (named : Named) (names : List (List ℕ)) → NamesOneFurther named → (LacksPort names named → ⊥)
    → is_none (place_of (further_of named) names) ≡ false
further_there named names its there =
    all_there (is_none (place_of (further_of named) names))
    (λ lacks. there (inr (subst (λ (others : List (List ℕ)). IsTrue (list_any (λ name. is_none (place_of name names)) others)) (sym its.only) lacks)))
