-- What single forms of expressions come to.
use Rattle.std.proofs.Common.{◌≡◌, ℕ, zero, suc, ◌+◌, ◌-◌, ◌≤◌, ◌<◌, ◌==◌, max, Bool, true, false, if◌then◌else◌, List, [], ◌∷◌, ◌++◌, length, map, Option, Some, None, slice_get, slice_set, refl, ap, sym, ◌∙◌, subst, arith, append_assoc}
use Rattle.std.proofs.lemmas.List.{length-append}
use Rattle.std.proofs.lemmas.Bool.{and_parts, leb-true}
use Rattle.std.specs.Option.{is_some}
use Rattle.hume_base.specs.declared.types.Ty.{Ty}
use Rattle.hume_base.specs.declared.types.Value.{Value, out-Value}
use Rattle.hume_base.specs.declared.types.Value.TheOpen.{Value-F}
use Rattle.hume_base.specs.declared.types.Value.TheVariants as value
use Rattle.hume_base.specs.Flat.{word_in, word_of_value, parts_in}
use Rattle.hume_model.specs.declared.core_tree.Op.{Op}
use Rattle.hume_model.specs.declared.core_tree.Op.TheVariants as op
use Rattle.hume_model.specs.declared.exceptions.TheConstants.{RANGE}
use Rattle.hume_model.specs.declared.outcome.Outcome.{Outcome}
use Rattle.hume_model.specs.declared.outcome.Outcome.TheVariants.{Gives, Raises}
use Rattle.hume_model.specs.Outcomes.{on_match}
use Rattle.hume_model.specs.Operations.{prim, is_place, item_or_raise}
use Rattle.hume_model.proofs.Layers as layer
use Rattle.box_costs.specs.declared.cost.Cost.{Cost}
use Rattle.box_costs.specs.Costs.{instructions, pushed, both}
use Rattle.box_costs.specs.PatternTests.{Tried}
use Rattle.box_costs.specs.Spending.{Spent, spends, after, item_at, changed, copied, taken}
use Rattle.box_heap.specs.Heaps.{Object, object_at}
use Rattle.box_heap.specs.Stacks.{under}
use Rattle.box_heap.specs.Standing.{Stands, AllStand}
use Rattle.box_code.specs.declared.instr.Scalar.{Scalar}
use Rattle.box_code.specs.declared.instr.Scalar.TheVariants as scalar
use Rattle.box_code.specs.declared.instr.Instr.{Instr}
use Rattle.box_code.specs.declared.instr.Instr.TheVariants.{Index, Update, Jump, JumpFalse, Slide}
use Rattle.box_code.specs.Words.{StandsAt}
use Rattle.box_code.specs.Machine as machine
use Rattle.box_code.specs.Machine.{Setting, Machine, lowered, to_handler, with_word, with_last, with_object, field_of, type_of, come_to, indexed, put, act}
use Rattle.box_code.specs.Represents.{instr_of_op}
use Rattle.code_laws.specs.Running.{Comes, later, Runs, RunsSpent}
use Rattle.code_laws.proofs.AllParts.{GaveAll}
use Rattle.code_laws.proofs.Heaps.{as_many, all_still_stand}
use Rattle.code_laws.proofs.Steps.{append_nil, under_all, with_last_all, top_word, moved, alike, stays, becomes, acts}
use Rattle.code_laws.proofs.Combine.{after_runs}
use Rattle.code_laws.proofs.Leaves.{gives_runs, raises_runs, put_runs}
use Rattle.code_laws.proofs.Words.{IsWordOutcome}

-- how many operands an operation has
abbrev pub arity : Op → ℕ
arity op.Neg = 1
arity op.Not = 1
arity op.Convert = 1
arity _ = 2

not_alike : (t u : Ty) (vs : List Value) → prim op.Not t vs ≡ prim op.Not u vs
not_alike t u [] = refl
not_alike t u (v ∷ []) = refl
not_alike t u (v ∷ w ∷ []) = refl
not_alike t u (v ∷ w ∷ x ∷ vs) = refl

-- what the instruction for an operation does
does_op : (s : Setting) (m : Machine) (next : ℕ) (o : Op) (ty : Scalar)
    → act s (instr_of_op o ty) next m ≡ with_last (arity o) m.stack (λ stack words. come_to s m next stack (prim o (type_of ty) (map (λ word. value.Word word) words)))
does_op s m next op.Add ty = refl
does_op s m next op.Sub ty = refl
does_op s m next op.Mul ty = refl
does_op s m next op.Div ty = refl
does_op s m next op.Mod ty = refl
does_op s m next op.Neg ty = refl
does_op s m next op.Not ty =
    (λ i. with_last 1 m.stack (λ stack words. come_to s m next stack (not_alike (type_of scalar.Bool) (type_of ty) (map (λ word. value.Word word) words) i)))
does_op s m next op.Convert ty = refl
does_op s m next op.Eq ty = refl
does_op s m next op.Ne ty = refl
does_op s m next op.Lt ty = refl
does_op s m next op.Le ty = refl
does_op s m next op.Gt ty = refl
does_op s m next op.Ge ty = refl

-- a vector with its elements
vector_parts : (us vs : List Value) → Value-F.Vector us ≡ Value-F.Vector vs → us ≡ vs
vector_parts us vs e = cc

pub vector_stands : {heap : List Object} {v : Value} {u : ℕ} → Stands heap v u → (us : List Value) → out-Value v ≡ Value-F.Vector us
    → (ws : List ℕ) × (object_at heap u ≡ Some (0, ws)) × AllStand heap us ws
vector_stands (Stands.word w) us e = let x = sym (layer.out-word w) ∙ e in cc
vector_stands (Stands.tuple {values = vs} place found parts) us e = let x = sym (layer.out-tuple vs) ∙ e in cc
vector_stands (Stands.con {values = vs} d place found parts) us e = let x = sym (layer.out-con d vs) ∙ e in cc
vector_stands {heap = heap} (Stands.vector {values = vs} {fields = ws} place found parts) us e =
    let same : vs ≡ us = vector_parts _ _ (sym (layer.out-vector vs) ∙ e) in
    (ws, found, subst (λ k. AllStand heap k ws) same parts)

item_stands : {heap : List Object} {us : List Value} {ws : List ℕ} → AllStand heap us ws → (i : ℕ) → i < length us
    → (u : Value) × (w : ℕ) × (slice_get us i ≡ Some u) × (slice_get ws i ≡ Some w) × Stands heap u w
item_stands AllStand.none i less = absurd (omega (arith, less))
item_stands (AllStand.more {value = u} {word = w} first rest) zero less = (u, w, refl, refl, first)
item_stands (AllStand.more first rest) (suc i) less = item_stands rest i (omega (arith, less))

changed_stand : {heap : List Object} {us : List Value} {ws : List ℕ} → AllStand heap us ws → (i : ℕ) (u : Value) (w : ℕ) → Stands heap u w → AllStand heap (slice_set us i u) (slice_set ws i w)
changed_stand AllStand.none i u w stands = AllStand.none
changed_stand (AllStand.more first rest) zero u w stands = AllStand.more stands rest
changed_stand (AllStand.more first rest) (suc i) u w stands = AllStand.more first (changed_stand rest i u w stands)

set_long : (ws : List ℕ) (i w : ℕ) → length (slice_set ws i w) ≡ length ws
set_long [] i w = refl
set_long (x ∷ ws) zero w = refl
set_long (x ∷ ws) (suc i) w = ap suc (set_long ws i w)

within : (count place : ℕ) → is_place count place ≡ true → place - 1 < count
within count place h =
    let ps = and_parts _ _ h in
    let a = leb-true 1 place ps.0 in
    let b = leb-true place count ps.1 in
    omega (arith, a, b)

module _ (s : Setting) (m : Machine) where
  -- instructions that leave the stack no higher, and then the rest
  pub instr_then : (tall a : ℕ) (t : List ℕ) (count : ℕ) (base : List ℕ) (to : ℕ) (o : Outcome) (k : Cost) → tall ≤ m.peak → Comes s m (moved m a t) count
      → Runs s (later m a t [] (tall + 0)) base tall to o k → Runs s m base tall to o (both (instructions count) k)
  instr_then tall a t count base to o k low f g =
      after_runs s m tall a t [] (instructions count) base to o k
      (becomes s f (alike m refl refl (let p : m.peak ≡ max m.peak (tall + 0) = omega (arith, low) in p) (sym (append_nil m.objects))) refl) refl g

  -- what follows tests, by whether all passed
  pub trial_runs : (base : List ℕ) (tall tested other to ending : ℕ) (t : Tried) (go : List Value → Spent Outcome) (rest : Spent Outcome) → tall ≤ m.peak
      → (found : Option (List Value)) → t.passed ≡ is_some found → Comes s m (moved m (if t.passed then tested else other) m.stack) t.tests
      → ((vs : List Value) → found ≡ Some vs → RunsSpent s (later m tested m.stack [] (tall + 0)) base tall to (taken ending go vs))
      → RunsSpent s (later m other m.stack [] (tall + 0)) base tall to rest
      → RunsSpent s m base tall to (after (instructions t.tests) (on_match found (taken ending go) rest))
  trial_runs base tall tested other to ending t go rest low None passed f matched_runs other_runs =
      instr_then tall other m.stack t.tests base to rest.outcome rest.cost low (subst (λ b. Comes s m (moved m (if b then tested else other) m.stack) t.tests) passed f) other_runs
  trial_runs base tall tested other to ending t go rest low (Some vs) passed f matched_runs other_runs =
      instr_then tall tested m.stack t.tests base to (taken ending go vs).outcome (taken ending go vs).cost low
      (subst (λ b. Comes s m (moved m (if b then tested else other) m.stack) t.tests) passed f) (matched_runs vs refl)

  -- no part
  pub none_run : (tall to : ℕ) → m.at ≡ to → tall ≤ m.peak → GaveAll s m m.stack tall to [] (instructions 0)
  none_run tall to at low = record {
    words = [];
    more = [];
    size = refl;
    top = omega arith;
    stands = AllStand.none;
    comes = becomes s (stays s m) (alike m at (sym (append_nil m.stack)) (let p : m.peak ≡ max m.peak (tall + 0) = omega (arith, low) in p) (sym (append_nil m.objects))) refl;
  }

  -- what an operation on words gives
  outcome_runs : (base : List ℕ) (tall : ℕ) (instr : Instr) (to : ℕ) (o : Outcome) → StandsAt s.code m.at instr to → act s instr to m ≡ come_to s m to base o → IsWordOutcome o
      → tall + 1 ≤ m.peak → RunsSpent s m base tall to (spends pushed o)
  outcome_runs base tall instr to (Gives v) found does is low =
      let w = word_of_value v in
      let same : v ≡ value.Word w = is.1 ∙ ap value.Word (sym (ap word_in (layer.out-word is.0)) ∙ sym (ap word_of_value is.1)) in
      gives_runs s m base tall instr to w v found does (subst (λ x. Stands m.objects x w) (sym same) (Stands.word w)) low
  outcome_runs base tall instr to (Raises exn None) found does is low =
      raises_runs s m tall instr to exn 0 None pushed found does refl refl refl low (omega (arith, low))
  outcome_runs base tall instr to (Raises exn (Some v)) found does is low = cc

  pub operation_runs : (base ws : List ℕ) (tall : ℕ) (o : Op) (ty : Scalar) (to : ℕ) (vs : List Value) → m.stack ≡ base ++ ws → arity o ≡ length ws → StandsAt s.code m.at (instr_of_op o ty) to
      → map (λ (w : ℕ). value.Word w) ws ≡ vs → IsWordOutcome (prim o (type_of ty) vs) → tall + 1 ≤ m.peak → RunsSpent s m base tall to (spends pushed (prim o (type_of ty) vs))
  operation_runs base ws tall o ty to vs is many found words result low =
      outcome_runs base tall (instr_of_op o ty) to (prim o (type_of ty) vs) found
      (does_op s m to o ty ∙ ap (λ stack. with_last (arity o) stack (λ stack words. come_to s m to stack (prim o (type_of ty) (map (λ word. value.Word word) words)))) is
      ∙ with_last_all base ws (arity o) (λ stack words. come_to s m to stack (prim o (type_of ty) (map (λ word. value.Word word) words))) many
      ∙ ap (λ vs. come_to s m to base (prim o (type_of ty) vs)) words) result low

  -- the element of a vector
  pub index_runs : (base : List ℕ) (a b tall count to : ℕ) (v p : Value) (us : List Value) → m.stack ≡ base ++ (a ∷ b ∷ []) → StandsAt s.code m.at (Index count) to
      → Stands m.objects v a → out-Value v ≡ Value-F.Vector us → length us ≡ count → b ≡ word_of_value p → tall + 1 ≤ m.peak
      → RunsSpent s m base tall to (spends pushed (item_at count (v ∷ p ∷ [])))
  index_runs base a b tall count to v p us is found stands out long same low =
      let k = vector_stands stands us out in
      let does : act s (Index count) to m ≡ indexed s m to count base (a ∷ b ∷ []) =
      ap (λ stack. with_last 2 stack (indexed s m to count)) is ∙ with_last_all base (a ∷ b ∷ []) 2 (indexed s m to count) refl in
      subst (λ n. RunsSpent s m base tall to (spends pushed (if is_place count n then item_or_raise (slice_get (parts_in (out-Value v)) (n - 1)) else Raises RANGE None))) same
      (by k (is_place count b) refl does)
    where
      by : ((ws : List ℕ) × (object_at m.objects a ≡ Some (0, ws)) × AllStand m.objects us ws) → (t : Bool) → is_place count b ≡ t → act s (Index count) to m ≡ indexed s m to count base (a ∷ b ∷ [])
          → RunsSpent s m base tall to (spends pushed (if t then item_or_raise (slice_get (parts_in (out-Value v)) (b - 1)) else Raises RANGE None))
      by k false e does =
          raises_runs s m tall (Index count) to RANGE 0 None pushed found
          (does ∙ ap (λ t. if t then with_word (field_of (object_at m.objects a) (b - 1)) (λ word. lowered m to (base ++ word ∷ [])) else to_handler s m RANGE 0) e)
          refl refl refl low (omega (arith, low))
      by k true e does =
          let less = within count b e in
          let x = item_stands k.2 (b - 1) (omega (arith, less, long)) in
          let there : slice_get (parts_in (out-Value v)) (b - 1) ≡ Some x.0 = ap (λ l. slice_get (parts_in l) (b - 1)) out ∙ x.2 in
          subst (λ o. RunsSpent s m base tall to (spends pushed (item_or_raise o))) (sym there)
          (gives_runs s m base tall (Index count) to x.1 x.0 found
          (does ∙ ap (λ t. if t then with_word (field_of (object_at m.objects a) (b - 1)) (λ word. lowered m to (base ++ word ∷ [])) else to_handler s m RANGE 0) e
          ∙ ap (λ o. with_word (field_of o (b - 1)) (λ word. lowered m to (base ++ word ∷ []))) k.1
          ∙ ap (λ o. with_word o (λ word. lowered m to (base ++ word ∷ []))) x.3) x.4 low)

  -- the changed vector
  pub update_runs : (base : List ℕ) (a b c tall count to : ℕ) (v p e : Value) (us : List Value) → tall ≡ length base → m.stack ≡ base ++ (a ∷ b ∷ c ∷ []) → StandsAt s.code m.at (Update count) to
      → Stands m.objects v a → out-Value v ≡ Value-F.Vector us → length us ≡ count → b ≡ word_of_value p → Stands m.objects e c → tall + 1 ≤ m.peak
      → RunsSpent s m base tall to (copied count (changed count (v ∷ p ∷ e ∷ [])))
  update_runs base a b c tall count to v p e us high is found stands out long same item low =
      let k = vector_stands stands us out in
      let does : act s (Update count) to m ≡ machine.updated s m to count base (a ∷ b ∷ c ∷ []) =
      ap (λ stack. with_last 3 stack (machine.updated s m to count)) is ∙ with_last_all base (a ∷ b ∷ c ∷ []) 3 (machine.updated s m to count) refl in
      subst (λ n. RunsSpent s m base tall to (copied count (if is_place count n then Gives (value.Vector (slice_set (parts_in (out-Value v)) (n - 1) e)) else Raises RANGE None))) same
      (by k (is_place count b) refl does)
    where
      by : ((ws : List ℕ) × (object_at m.objects a ≡ Some (0, ws)) × AllStand m.objects us ws) → (t : Bool) → is_place count b ≡ t
          → act s (Update count) to m ≡ machine.updated s m to count base (a ∷ b ∷ c ∷ [])
          → RunsSpent s m base tall to (copied count (if t then Gives (value.Vector (slice_set (parts_in (out-Value v)) (b - 1) e)) else Raises RANGE None))
      by k false h does =
          raises_runs s m tall (Update count) to RANGE 0 None (instructions 1) found
          (does ∙ ap (λ t. if t then with_object (object_at m.objects a) (λ object. put m to base (object.0, slice_set object.1 (b - 1) c)) else to_handler s m RANGE 0) h)
          refl refl refl (omega (arith, low)) (omega (arith, low))
      by k true h does =
          let object : Object = (0, slice_set k.0 (b - 1) c) in
          let many = as_many k.2 in
          let set = set_long k.0 (b - 1) c in
          let same_parts : slice_set (parts_in (out-Value v)) (b - 1) e ≡ slice_set us (b - 1) e = ap (λ l. slice_set (parts_in l) (b - 1) e) out in
          subst (λ vs. RunsSpent s m base tall to (copied count (Gives (value.Vector vs)))) (sym same_parts)
          (put_runs s m base tall high (Update count) to object (value.Vector (slice_set us (b - 1) e)) count found
          (does ∙ ap (λ t. if t then with_object (object_at m.objects a) (λ object. put m to base (object.0, slice_set object.1 (b - 1) c)) else to_handler s m RANGE 0) h
          ∙ ap (λ o. with_object o (λ object. put m to base (object.0, slice_set object.1 (b - 1) c))) k.1)
          (λ at. Stands.vector _ at (all_still_stand (changed_stand k.2 (b - 1) e c item) (object ∷ []))) (omega (arith, set, many, long)))

  -- the top word is taken, and the code goes on at one place or the other
  pub choice_runs : (base : List ℕ) (w tested : ℕ) (first second : ℕ) (v : Value) → m.stack ≡ base ++ w ∷ [] → StandsAt s.code m.at (JumpFalse second) first → w ≡ word_of_value v
      → Comes s m (moved m (if word_of_value v == 0 then second else first) base) 1
  choice_runs base w tested first second v is found same =
      acts s m _ (JumpFalse second) first found
      (ap (λ stack. with_word (machine.word_at 0 stack) (λ word. lowered m (if word == 0 then second else first) (under 1 stack))) is
      ∙ ap (λ o. with_word o (λ word. lowered m (if word == 0 then second else first) (under 1 (base ++ w ∷ [])))) (top_word base w)
      ∙ (λ i. lowered m (if same i == 0 then second else first) (under_all base (w ∷ []) 1 refl i)))

  -- words under the top one are dropped
  pub slide_runs : (base ws : List ℕ) (w count to : ℕ) → m.stack ≡ (base ++ ws) ++ w ∷ [] → count ≡ length ws → StandsAt s.code m.at (Slide count) to → Comes s m (moved m to (base ++ w ∷ [])) 1
  slide_runs base ws w count to is many found =
      acts s m _ (Slide count) to found
      (ap (λ stack. with_word (machine.word_at 0 stack) (λ word. with_last (1 + count) stack (λ stack words. lowered m to (stack ++ word ∷ [])))) is
      ∙ ap (λ o. with_word o (λ word. with_last (1 + count) ((base ++ ws) ++ w ∷ []) (λ stack words. lowered m to (stack ++ word ∷ [])))) (top_word (base ++ ws) w)
      ∙ ap (λ stack. with_last (1 + count) stack (λ stack words. lowered m to (stack ++ w ∷ []))) (append_assoc base ws (w ∷ []))
      ∙ with_last_all base (ws ++ w ∷ []) (1 + count) (λ stack words. lowered m to (stack ++ w ∷ [])) (let a = length-append ws (w ∷ []) in omega (arith, a, many)))

  pub jump_runs : (to next : ℕ) → StandsAt s.code m.at (Jump to) next → Comes s m (moved m to m.stack) 1
  jump_runs to next found = acts s m _ (Jump to) next found refl
