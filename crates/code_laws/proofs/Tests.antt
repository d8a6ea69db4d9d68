-- Tests that stand in code are run, and the words of variables are pushed.
use Rattle.std.proofs.Common.{◌≡◌, ℕ, suc, ◌+◌, ◌-◌, ◌≤◌, ◌==◌, nat_lt, max, Bool, true, false, if◌then◌else◌, List, [], ◌∷◌, ◌++◌, length, Option, Some, None, slice_get, refl, ap, sym, ◌∙◌, subst, arith, append_assoc}
use Rattle.std.proofs.lemmas.Bool.{lt-ltb}
use Rattle.std.proofs.lemmas.List.{length-append}
use Rattle.std.specs.Option.{option_map, option_and_then}
use Rattle.hume_base.specs.declared.types.Value.{Value}
use Rattle.box_costs.specs.PatternTests.{Tried, tried}
use Rattle.box_heap.specs.Heaps.{object_at}
use Rattle.box_heap.specs.Stacks.{at_depth}
use Rattle.box_heap.specs.Standing.{AllStand}
use Rattle.box_code.specs.declared.instr.Path.{Path}
use Rattle.box_code.specs.declared.instr.Instr.TheVariants.{Field}
use Rattle.box_code.specs.Words.{StandsAt}
use Rattle.box_code.specs.Paths.{Spot, Test, WordIs, TagIs}
use Rattle.box_code.specs.Machine as machine
use Rattle.box_code.specs.Machine.{Setting, Machine, lowered, with_word, word_at, tag_of, at_path, found_at, matched, act}
use Rattle.box_code.specs.Represents.{depth_of, spot_of, instr_of_test, PathIs, TestsStand, FieldsStand}
use Rattle.code_laws.specs.Running.{Comes, later}
use Rattle.code_laws.proofs.Steps.{append_nil, moved, alike, stays, goes_on, becomes, acts}
use Rattle.code_laws.proofs.Trying.{go_on_test, word_of_spot, try_test, try_all, AllAt, still_at}

-- what pushes the words at spots
pub record Pushed (s : Setting) (m : Machine) (to : ℕ) (vs : List Value) (count : ℕ) : Type 0 where
  pub words : List ℕ
  pub many : length words ≡ count
  pub stands : AllStand m.objects vs words
  pub comes : Comes s m (later m to (m.stack ++ words) [] (length m.stack + length words)) (length words)

module _ (s : Setting) (below high : ℕ) where
  -- the word that an instruction with a path looks at
  pub found_spot : (m : Machine) (path : Path) (spot : Spot) → PathIs s.code high path spot → length m.stack ≡ below + high
      → found_at s m (depth_of high spot.place) path ≡ word_of_spot m.objects below m.stack spot
  found_spot m path spot is long =
      let low = is.low in
      let depth = depth_of high spot.place in
      let less : nat_lt depth (length m.stack) ≡ true = lt-ltb depth (length m.stack) (omega (arith, low, long)) in
      let place : length m.stack - (1 + depth) ≡ below + spot.place = omega (arith, low, long) in
      let there : word_at depth m.stack ≡ slice_get m.stack (below + spot.place) =
      ap (λ b. if b then at_depth depth m.stack else None) less ∙ ap (slice_get m.stack) place in
      (λ i. option_and_then (at_path m.objects (is.same i)) (there i))

  compared : (m : Machine) (next to wanted : ℕ) (found : Option ℕ) (b : Bool) → option_map (λ word. word == wanted) found ≡ Some b
      → matched m next to wanted found ≡ lowered m (if b then next else to) m.stack
  compared m next to wanted None b h = cc
  compared m next to wanted (Some word) b h = let same : (word == wanted) ≡ b = cc in ap (λ c. lowered m (if c then next else to) m.stack) same

  test_acts : (m : Machine) (next other : ℕ) (path : Path) (test : Test) (b : Bool) → PathIs s.code high path (spot_of test) → length m.stack ≡ below + high
      → try_test m.objects below m.stack test ≡ Some b → act s (instr_of_test high other path test) next m ≡ lowered m (if b then next else other) m.stack
  test_acts m next other path (WordIs spot word) b is long h =
      ap (matched m next other word) (found_spot m path spot is long) ∙ compared m next other word _ b h
  test_acts m next other path (TagIs spot tag) b is long h =
      ap (λ o. matched m next other tag (option_and_then (λ place. tag_of (object_at m.objects place)) o)) (found_spot m path spot is long) ∙ compared m next other tag _ b h

  unwrap : (x y : Tried) → Some x ≡ Some y → x ≡ y
  unwrap x y e = cc

  -- the tests are run, up to the first that fails
  pub tests_run : {other from to : ℕ} {tests : List Test} → TestsStand s.code high other from to tests → (m : Machine) → m.at ≡ from → length m.stack ≡ below + high
      → (t : Tried) → try_all m.objects below m.stack tests ≡ Some t → Comes s m (moved m (if t.passed then to else other) m.stack) t.tests
  tests_run {other = other} {to = to} TestsStand.none m at long t h =
      let same : tried true 0 ≡ t = unwrap _ _ h in
      subst (λ (t : Tried). Comes s m (moved m (if t.passed then to else other) m.stack) t.tests) same
      (becomes s (stays s m) (alike m at refl refl refl) refl)
  tests_run {other = other} {to = to} (TestsStand.more mid path {test = test} {tests = tests} is stands rest) m at long t h =
      by (try_test m.objects below m.stack test) refl (try_all m.objects below m.stack tests) h (λ z k. tests_run rest (moved m mid m.stack) refl long z k)
    where
      by : (o : Option Bool) → try_test m.objects below m.stack test ≡ o → (others : Option Tried) → go_on_test o others ≡ Some t
          → ((z : Tried) → others ≡ Some z → Comes s (moved m mid m.stack) (moved m (if z.passed then to else other) m.stack) z.tests)
          → Comes s m (moved m (if t.passed then to else other) m.stack) t.tests
      by None e others h go = cc
      by (Some false) e others h go =
          let same : tried false 1 ≡ t = unwrap _ _ h in
          subst (λ (t : Tried). Comes s m (moved m (if t.passed then to else other) m.stack) t.tests) same
          (acts s m _ (instr_of_test high other path test) mid (subst (λ p. StandsAt s.code p (instr_of_test high other path test) mid) (sym at) stands)
          (test_acts m mid other path test false is long e))
      by (Some true) e None h go = cc
      by (Some true) e (Some z) h go =
          let same : tried z.passed (1 + z.tests) ≡ t = unwrap _ _ h in
          subst (λ (t : Tried). Comes s m (moved m (if t.passed then to else other) m.stack) t.tests) same
          (goes_on s m (moved m mid m.stack) _ 1 z.tests
          (acts s m _ (instr_of_test high other path test) mid (subst (λ p. StandsAt s.code p (instr_of_test high other path test) mid) (sym at) stands)
          (test_acts m mid other path test true is long e)) (go z refl))

-- the words at the spots are pushed
pub fields_run : (s : Setting) (below : ℕ) {high from to : ℕ} {spots : List Spot} → FieldsStand s.code high from to spots → (m : Machine) → m.at ≡ from → length m.stack ≡ below + high
    → length m.stack ≤ m.peak → (vs : List Value) → AllAt m.objects below m.stack spots vs → Pushed s m to vs (length spots)
fields_run s below FieldsStand.none m at long low [] AllAt.no_spot = record {
  words = [];
  many = refl;
  stands = AllStand.none;
  comes = becomes s (stays s m) (alike m at (sym (append_nil m.stack)) (let p : m.peak ≡ max m.peak (length m.stack + 0) = omega (arith, low) in p) (sym (append_nil m.objects))) refl;
}
fields_run s below FieldsStand.none m at long low (v ∷ vs) x = elim x [ ]
fields_run s below {high = high} (FieldsStand.more mid path is stands rest) m at long low [] x = elim x [ ]
fields_run s below {high = high} {to = to} (FieldsStand.more mid path {spot = spot} {spots = spots} is stands rest) m at long low (v ∷ vs) (AllAt.at_spot word there standing others) =
    let stack = m.stack ++ word ∷ [] in
    let n = later m mid stack [] (length m.stack + 1) in
    let one = length-append m.stack (word ∷ []) in
    let does : act s (Field (depth_of high spot.place) path) mid m ≡ machine.pushed m mid m.stack (word ∷ []) =
    ap (λ o. with_word o (λ word. machine.pushed m mid m.stack (word ∷ []))) (found_spot s below high m path spot is long ∙ there) in
    let first : Comes s m n 1 =
    becomes s (acts s m _ (Field (depth_of high spot.place) path) mid (subst (λ p. StandsAt s.code p (Field (depth_of high spot.place) path) mid) (sym at) stands) does)
    (alike m refl refl refl (sym (append_nil m.objects))) refl in
    let objects : m.objects ++ [] ≡ m.objects = append_nil m.objects in
    let k = fields_run s below rest n refl (omega (arith, one, long)) (omega (arith, one)) vs
    (subst (λ o. AllAt o below stack spots vs) (sym objects) (still_at others (word ∷ []))) in
    let words = k.words in
    record {
      words = word ∷ words;
      many = ap suc k.many;
      stands = AllStand.more standing (subst (λ o. AllStand o vs words) objects k.stands);
      comes = becomes s (goes_on s m n _ 1 (length words) first k.comes)
          (alike m refl (append_assoc m.stack (word ∷ []) words)
          (let p : max (max m.peak (length m.stack + 1)) (length stack + length words) ≡ max m.peak (length m.stack + suc (length words)) = omega (arith, one) in p)
          (append_nil (m.objects ++ []))) (let e : 1 + length words ≡ suc (length words) = omega arith in e);
    }
