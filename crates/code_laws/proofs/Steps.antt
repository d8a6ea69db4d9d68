-- One instruction after another.
use Rattle.std.proofs.Common.{◌≡◌, ℕ, zero, suc, ◌+◌, ◌-◌, nat_lt, nat_le, true, if◌then◌else◌, List, [], ◌∷◌, ◌++◌, length, take, drop, Some, None, slice_get, refl, ap, sym, ◌∙◌, arith}
use Rattle.std.proofs.lemmas.Bool.{lt-ltb, le-leb}
use Rattle.std.proofs.lemmas.List.{length-append}
use Rattle.std.proofs.Math.Seq.{take-append_seam, drop-append_seam}
use Rattle.box_heap.specs.Heaps.{Object}
use Rattle.box_heap.specs.Stacks.{at_depth, under, last}
use Rattle.box_code.specs.declared.instr.Instr.{Instr}
use Rattle.box_code.specs.Words.{StandsAt}
use Rattle.box_code.specs.Machine.{Setting, Machine, Next, Goes, Ends, Broken, word_at, with_last, act, act_on, step, follow, run}
use Rattle.box_code.proofs.ReadBack.{read_there}
use Rattle.code_laws.specs.Running.{Comes}
use Rattle.code_laws.proofs.Heaps.{get_new}

pub append_nil : {X : Type 0} (xs : List X) → xs ++ [] ≡ xs
append_nil [] = refl
append_nil (x ∷ xs) = ap (λ ys. x ∷ ys) (append_nil xs)

-- the last words and those under them
pub under_all : (xs ys : List ℕ) (n : ℕ) → n ≡ length ys → under n (xs ++ ys) ≡ xs
under_all xs ys n e =
    let m : length (xs ++ ys) - n ≡ length xs = omega (arith, e, length-append xs ys) in
    ap (λ k. take k (xs ++ ys)) m ∙ take-append_seam xs ys

pub last_all : (xs ys : List ℕ) (n : ℕ) → n ≡ length ys → last n (xs ++ ys) ≡ ys
last_all xs ys n e =
    let m : length (xs ++ ys) - n ≡ length xs = omega (arith, e, length-append xs ys) in
    ap (λ k. drop k (xs ++ ys)) m ∙ drop-append_seam xs ys

pub with_last_all : (xs ys : List ℕ) (n : ℕ) (go : List ℕ → List ℕ → Next) → n ≡ length ys → with_last n (xs ++ ys) go ≡ go xs ys
with_last_all xs ys n go e =
    let long : nat_le n (length (xs ++ ys)) ≡ true = le-leb n (length (xs ++ ys)) (omega (arith, e, length-append xs ys)) in
    ap (λ b. if b then go (under n (xs ++ ys)) (last n (xs ++ ys)) else Broken) long ∙ (λ i. go (under_all xs ys n e i) (last_all xs ys n e i))

-- the word at a depth
pub word_there : (stack : List ℕ) (depth place word : ℕ) → place + (1 + depth) ≡ length stack → slice_get stack place ≡ Some word → word_at depth stack ≡ Some word
word_there stack depth place word e found =
    let less : nat_lt depth (length stack) ≡ true = lt-ltb depth (length stack) (omega (arith, e)) in
    let m : length stack - (1 + depth) ≡ place = omega (arith, e) in
    ap (λ b. if b then at_depth depth stack else None) less ∙ ap (slice_get stack) m ∙ found

pub top_word : (xs : List ℕ) (w : ℕ) → word_at 0 (xs ++ w ∷ []) ≡ Some w
top_word xs w = word_there (xs ++ w ∷ []) 0 (length xs) w (let a = length-append xs (w ∷ []) in omega (arith, a)) (get_new xs w [])

-- the machine at another place, with other words on the stack
abbrev pub moved : Machine → ℕ → List ℕ → Machine
moved m to stack = record { at = to; stack = stack; peak = m.peak; objects = m.objects; outs = m.outs; raised = m.raised }

pub alike : (m : Machine) {a b : ℕ} {s t : List ℕ} {p q : ℕ} {h g : List Object} → a ≡ b → s ≡ t → p ≡ q → h ≡ g
    → (let n : Machine = record { at = a; stack = s; peak = p; objects = h; outs = m.outs; raised = m.raised } in n)
    ≡ (let n : Machine = record { at = b; stack = t; peak = q; objects = g; outs = m.outs; raised = m.raised } in n)
alike m d e k f = λ i. record { at = d i; stack = e i; peak = k i; objects = f i; outs = m.outs; raised = m.raised }

run_on : (s : Setting) (a b all : ℕ) (m n : Machine) → all ≡ a + b → run s a m ≡ Goes n → run s all m ≡ run s b n
unfolding run
run_on s zero b all m n e f =
    let same : m ≡ n = cc in
    let k : all ≡ b = omega (arith, e) in
    (λ i. run s (k i) (same i))
run_on s (suc a) b zero m n e f = absurd (omega (arith, e))
run_on s (suc a) b (suc all) m n e f = by_next (step s m) f (λ o. run_on s a b all o n (omega (arith, e)))
  where
    by_next : (x : Next) → follow x (run s a) ≡ Goes n → ((o : Machine) → run s a o ≡ Goes n → run s all o ≡ run s b n) → follow x (run s all) ≡ run s b n
    by_next (Goes o) f go = go o f
    by_next (Ends o) f go = cc
    by_next Broken f go = cc

module _ (s : Setting) where
  abbrev pub Leads : Machine → Machine → ℕ → Type 0
  Leads = Comes s

  pub stays : (m : Machine) → Leads m m 0
  unfolding run
  stays m = record { leads = refl }

  pub goes_on : (m n o : Machine) (a b : ℕ) → Leads m n a → Leads n o b → Leads m o (a + b)
  goes_on m n o a b f g = record { leads = run_on s a b (a + b) m n refl f.leads ∙ g.leads }

  pub becomes : {m n o : Machine} {a b : ℕ} → Leads m n a → n ≡ o → a ≡ b → Leads m o b
  becomes {m = m} f e d = record { leads = ap (λ k. run s k m) (sym d) ∙ f.leads ∙ ap Goes e }

  pub acts : (m n : Machine) (instr : Instr) (next : ℕ) → StandsAt s.code m.at instr next → act s instr next m ≡ Goes n → Leads m n 1
  unfolding run
  acts m n instr next stands does = record {
    leads = ap (λ x. follow (act_on s x m) (run s 0)) (read_there s.code m.at instr next stands) ∙ ap (λ x. follow x (run s 0)) does;
  }
