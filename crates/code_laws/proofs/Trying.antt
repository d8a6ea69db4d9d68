-- Tests of patterns, tried one after another on words of a stack and objects.
use Rattle.std.proofs.Common.{◌≡◌, ℕ, ◌+◌, ◌==◌, Bool, true, false, List, [], ◌∷◌, ◌++◌, Option, Some, None, slice_get, refl, ap, sym, ◌∙◌, arith}
use Rattle.std.specs.Option.{option_map, option_and_then}
use Rattle.hume_base.specs.declared.types.Value.{Value}
use Rattle.box_costs.specs.PatternTests.{Tried, tried, then_tried}
use Rattle.box_heap.specs.Heaps.{Object, object_at}
use Rattle.box_heap.specs.Standing.{Stands}
use Rattle.box_code.specs.Paths.{Spot, Test, WordIs, TagIs}
use Rattle.box_code.specs.Machine.{tag_of, at_path}
use Rattle.code_laws.proofs.Heaps.{get_front}

-- goes on with the others where a test passed
abbrev pub go_on_test : Option Bool → Option Tried → Option Tried
go_on_test None rest = None
go_on_test (Some true) rest = option_map (λ t. then_tried (tried true 1) t) rest
go_on_test (Some false) rest = Some (tried false 1)

module _ (objects : List Object) (below : ℕ) (stack : List ℕ) where
  abbrev pub word_of_spot : Spot → Option ℕ
  word_of_spot spot = option_and_then (at_path objects spot.path) (slice_get stack (below + spot.place))

  -- whether a test passes, where its word is there
  abbrev pub try_test : Test → Option Bool
  try_test (WordIs spot word) = option_map (λ found. found == word) (word_of_spot spot)
  try_test (TagIs spot tag) = option_map (λ found. found == tag) (option_and_then (λ place. tag_of (object_at objects place)) (word_of_spot spot))

  abbrev pub try_all : List Test → Option Tried
  try_all [] = Some (tried true 0)
  try_all (test ∷ tests) = go_on_test (try_test test) (try_all tests)

  -- at each spot is a word for the value
  pub data AllAt : List Spot → List Value → Type 0 where
    no_spot : AllAt [] []
    at_spot : {spot : Spot} {spots : List Spot} {v : Value} {vs : List Value} (word : ℕ) → word_of_spot spot ≡ Some word → Stands objects v word → AllAt spots vs → AllAt (spot ∷ spots) (v ∷ vs)

  pub all_at_both : {ps qs : List Spot} {vs us : List Value} → AllAt ps vs → AllAt qs us → AllAt (ps ++ qs) (vs ++ us)
  all_at_both AllAt.no_spot k = k
  all_at_both (AllAt.at_spot word there stands rest) k = AllAt.at_spot word there stands (all_at_both rest k)

  unwrap : (x y : Tried) → Some x ≡ Some y → x ≡ y
  unwrap x y e = cc

  joined : (p : Bool) (j : ℕ) (y : Tried) → then_tried (tried true 1) (then_tried (tried p j) y) ≡ then_tried (tried p (1 + j)) y
  joined true j y = let e : 1 + (j + y.tests) ≡ 1 + j + y.tests = omega arith in ap (tried y.passed) e
  joined false j y = refl

  pub try_both : (xs ys : List Test) (x y : Tried) → try_all xs ≡ Some x → (x.passed ≡ true → try_all ys ≡ Some y) → try_all (xs ++ ys) ≡ Some (then_tried x y)
  try_both [] ys x y a b =
      let same : tried true 0 ≡ x = unwrap _ _ a in
      let e : y.tests ≡ 0 + y.tests = omega arith in
      b (sym (ap (λ (t : Tried). t.passed) same)) ∙ ap (λ k. Some (tried y.passed k)) e ∙ ap (λ t. Some (then_tried t y)) same
  try_both (test ∷ xs) ys x y a b = by (try_test test) (try_all xs) a (λ z c d. try_both xs ys z y c d)
    where
      by : (o : Option Bool) (rest : Option Tried) → go_on_test o rest ≡ Some x
          → ((z : Tried) → rest ≡ Some z → (z.passed ≡ true → try_all ys ≡ Some y) → try_all (xs ++ ys) ≡ Some (then_tried z y)) → go_on_test o (try_all (xs ++ ys)) ≡ Some (then_tried x y)
      by None rest a go = cc
      by (Some false) rest a go = let same : tried false 1 ≡ x = unwrap _ _ a in ap (λ t. Some (then_tried t y)) same
      by (Some true) None a go = cc
      by (Some true) (Some z) a go =
          let same : tried z.passed (1 + z.tests) ≡ x = unwrap _ _ a in
          ap (option_map (λ t. then_tried (tried true 1) t)) (go z refl (λ p. b (sym (ap (λ (t : Tried). t.passed) same) ∙ p)))
          ∙ ap Some (joined z.passed z.tests y) ∙ ap (λ t. Some (then_tried t y)) same

front_stays : (objects : List Object) (path stack more : List ℕ) (place word : ℕ) (o : Option ℕ) → slice_get stack place ≡ o → option_and_then (at_path objects path) o ≡ Some word
    → option_and_then (at_path objects path) (slice_get (stack ++ more) place) ≡ Some word
front_stays objects path stack more place word None e h = cc
front_stays objects path stack more place word (Some root) e h = ap (option_and_then (at_path objects path)) (get_front stack more place root e) ∙ h

-- the words stay where they are while the stack grows
pub still_at : {objects : List Object} {below : ℕ} {stack : List ℕ} {spots : List Spot} {vs : List Value} → AllAt objects below stack spots vs → (more : List ℕ) → AllAt objects below (stack ++ more) spots vs
still_at AllAt.no_spot more = AllAt.no_spot
still_at {objects = objects} {below = below} {stack = stack} (AllAt.at_spot {spot = spot} word there stands rest) more =
    AllAt.at_spot word (front_stays objects spot.path stack more (below + spot.place) word (slice_get stack (below + spot.place)) refl there) stands (still_at rest more)
