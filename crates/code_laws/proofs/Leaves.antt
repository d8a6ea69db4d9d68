-- What single instructions come to.
use Rattle.std.proofs.Common.{◌≡◌, ℕ, ◌+◌, ◌≤◌, max, List, [], ◌∷◌, ◌++◌, length, Option, Some, None, refl, sym, arith}
use Rattle.hume_base.specs.declared.types.Value.{Value}
use Rattle.box_costs.specs.declared.cost.Cost.{Cost}
use Rattle.box_costs.specs.Costs.{pushed, made}
use Rattle.box_heap.specs.Heaps.{Object, object_at}
use Rattle.box_heap.specs.Standing.{Stands}
use Rattle.box_code.specs.declared.instr.Instr.{Instr}
use Rattle.box_code.specs.Words.{StandsAt}
use Rattle.box_code.specs.Machine as machine
use Rattle.box_code.specs.Machine.{Setting, Machine, used, lowered, put, to_handler, with_last, act}
use Rattle.code_laws.specs.Running.{Comes, later, Gave, StandsFor, Threw}
use Rattle.code_laws.proofs.Heaps.{object_new, used_one, still_stands}
use Rattle.code_laws.proofs.Steps.{append_nil, alike, acts, becomes}

for_still_stands : (objects more : List Object) (carried : Option Value) (w : ℕ) → StandsFor objects carried w → StandsFor (objects ++ more) carried w
for_still_stands objects more None w s = s
for_still_stands objects more (Some v) w s = still_stands s more

module _ (s : Setting) (m : Machine) where
  -- a word is pushed
  pub push_comes : (tall : ℕ) → tall ≡ length m.stack → (instr : Instr) (to w : ℕ) → StandsAt s.code m.at instr to → act s instr to m ≡ machine.pushed m to m.stack (w ∷ [])
      → Comes s m (later m to (m.stack ++ w ∷ []) [] (tall + 1)) 1
  push_comes tall e instr to w found does =
      becomes s (acts s m _ instr to found does)
      (alike m refl refl (let p : max m.peak (length m.stack + 1) ≡ max m.peak (tall + 1) = omega (arith, e) in p) (sym (append_nil m.objects))) refl

  pub push_runs : (tall : ℕ) → tall ≡ length m.stack → (instr : Instr) (to w : ℕ) (v : Value) → StandsAt s.code m.at instr to → act s instr to m ≡ machine.pushed m to m.stack (w ∷ [])
      → Stands m.objects v w → Gave s m m.stack tall to v pushed
  push_runs tall e instr to w v found does stands =
      record { word = w; more = []; size = refl; top = omega arith; stands = still_stands stands []; comes = push_comes tall e instr to w found does }

  -- words on top become one
  pub gives_runs : (base : List ℕ) (high : ℕ) (instr : Instr) (to w : ℕ) (v : Value) → StandsAt s.code m.at instr to → act s instr to m ≡ lowered m to (base ++ w ∷ []) → Stands m.objects v w
      → high + 1 ≤ m.peak → Gave s m base high to v pushed
  gives_runs base high instr to w v found does stands low = record {
    word = w;
    more = [];
    size = refl;
    top = omega arith;
    stands = still_stands stands [];
    comes = becomes s (acts s m _ instr to found does) (alike m refl refl (let p : m.peak ≡ max m.peak (high + 1) = omega (arith, low) in p) (sym (append_nil m.objects))) refl;
  }

  -- an exception is raised
  pub raises_runs : (high : ℕ) (instr : Instr) (to exn w : ℕ) (carried : Option Value) (c : Cost) → StandsAt s.code m.at instr to → act s instr to m ≡ to_handler s m exn w
      → StandsFor m.objects carried w → c.heap ≡ 0 → c.work ≡ 1 → high + c.stack ≤ m.peak → 1 ≤ m.peak → Threw s m high exn carried c
  raises_runs high instr to exn w carried c found does stands heap work low some = record {
    word = w;
    more = [];
    size = sym heap;
    top = omega (arith, some);
    stands = for_still_stands m.objects [] carried w stands;
    comes = becomes s (acts s m _ instr to found does)
        (let p : m.peak ≡ max m.peak (high + c.stack) = omega (arith, low) in
        (λ i. record { at = s.handlers exn; stack = w ∷ []; peak = p i; objects = sym (append_nil m.objects) i; outs = m.outs; raised = Some exn })) (sym work);
  }

  -- an object is put
  pub put_runs : (base : List ℕ) (tall : ℕ) → tall ≡ length base → (instr : Instr) (to : ℕ) (object : Object) (v : Value) (n : ℕ) → StandsAt s.code m.at instr to → act s instr to m ≡ put m to base object
      → (object_at (m.objects ++ object ∷ []) (used m.objects) ≡ Some object → Stands (m.objects ++ object ∷ []) v (used m.objects)) → length object.1 ≡ n
      → Gave s m base tall to v (made n)
  put_runs base tall e instr to object v n found does stands long = record {
    word = used m.objects;
    more = object ∷ [];
    size = (let u = used_one object in omega (arith, u, long));
    top = omega arith;
    stands = stands (object_new m.objects object);
    comes = becomes s (acts s m _ instr to found does) (alike m refl refl (let p : max m.peak (length base + 1) ≡ max m.peak (tall + 1) = omega (arith, e) in p) refl) refl;
  }
