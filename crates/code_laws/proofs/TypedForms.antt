-- What forms of expressions come to, by the types of their parts' values.
use Rattle.std.proofs.Common.{◌≡◌, ℕ, suc, ◌+◌, ◌≤◌, Bool, true, false, List, [], ◌∷◌, ◌++◌, length, Some, None, refl, ap, sym, ◌∙◌, arith}
use Rattle.std.proofs.lemmas.Bool.{and_parts, eqb-true}
use Rattle.hume_base.specs.declared.types.Ty.{Ty}
use Rattle.hume_base.specs.declared.types.Ty.TheVariants as shape
use Rattle.hume_base.specs.declared.types.Types.{Types}
use Rattle.hume_base.specs.declared.types.Value.{Value, out-Value}
use Rattle.hume_base.specs.declared.types.Value.TheOpen.{Value-F}
use Rattle.hume_base.specs.Flat.{word_of_value}
use Rattle.hume_base.specs.Values.{is_value, is_named_value, is_vector_of}
use Rattle.hume_model.specs.declared.core_tree.Op.{Op}
use Rattle.hume_model.specs.declared.outcome.Outcome.{Outcome}
use Rattle.hume_model.specs.declared.outcome.Outcome.TheVariants.{Raises}
use Rattle.hume_model.specs.declared.outcome.Several.{Several}
use Rattle.hume_model.specs.declared.outcome.Several.TheVariants.{All}
use Rattle.hume_model.specs.Operations.{prim}
use Rattle.hume_model.specs.Typing.{AreOf, is_number_type}
use Rattle.hume_model.proofs.Layers as layer
use Rattle.box_costs.specs.declared.cost.Cost.{Cost}
use Rattle.box_costs.specs.Costs.{instructions, pushed}
use Rattle.box_costs.specs.Spending.{spends, after, go_on, go_on_all, object_made, item_at, changed, copied}
use Rattle.box_heap.specs.Heaps.{Object, object_at}
use Rattle.box_heap.specs.Standing.{Stands, AllStand}
use Rattle.box_code.specs.declared.instr.Scalar.{Scalar}
use Rattle.box_code.specs.declared.instr.Instr.TheVariants.{Push, Make, Index, Update, Raise}
use Rattle.box_code.specs.Words.{StandsAt}
use Rattle.box_code.specs.Machine.{Setting, Machine, type_of, put, raised_with}
use Rattle.box_code.specs.Represents.{instr_of_op}
use Rattle.code_laws.specs.Running.{later, Runs, RunsSpent}
use Rattle.code_laws.proofs.AllParts.{GaveAll, RunAll}
use Rattle.code_laws.proofs.Heaps.{as_many, all_still_stand, word_stands}
use Rattle.code_laws.proofs.Steps.{with_last_all, top_word}
use Rattle.code_laws.proofs.Combine.{reached, reached_all, after_runs, then_runs, all_then}
use Rattle.code_laws.proofs.Leaves.{push_comes, raises_runs, put_runs}
use Rattle.code_laws.proofs.Words.{AreScalars, scalar_word, number_scalar, words_are, prim_word}
use Rattle.code_laws.proofs.Forms.{arity, operation_runs, index_runs, update_runs}

pub as_params : (types : Types) (ts : List Ty) (vs : List Value) → AreOf types ts vs → length vs ≡ length ts
as_params types [] [] is = refl
as_params types [] (v ∷ vs) is = cc
as_params types (t ∷ ts) [] is = cc
as_params types (t ∷ ts) (v ∷ vs) is = ap suc (as_params types ts vs (and_parts _ _ is).1)

in_vector : (count : ℕ) (test : Value → Bool) (l : Value-F Value) → is_vector_of count test l ≡ true → (us : List Value) × (l ≡ Value-F.Vector us) × (length us ≡ count)
in_vector count test (Value-F.Vector us) is = (us, refl, eqb-true (length us) count (and_parts _ _ is).0)
in_vector count test (Value-F.Word w) is = cc
in_vector count test (Value-F.Tuple us) is = cc
in_vector count test (Value-F.Con c us) is = cc

vector_out : (types : Types) (count : ℕ) (item : Ty) (v : Value) → is_value types (shape.Vector count item) v ≡ true → (us : List Value) × (out-Value v ≡ Value-F.Vector us) × (length us ≡ count)
vector_out types count item v is =
    in_vector count (is_value types item) (out-Value v) (sym (layer.vector-value (is_named_value types (length types.sums)) v count item) ∙ is)

module _ (s : Setting) (m : Machine) (tall : ℕ) where
  -- parts become an object
  pub object_runs : tall ≡ length m.stack → (mid to tag n : ℕ) (make : List Value → Value)
      → ((objects : List Object) (vs : List Value) (ws : List ℕ) (place : ℕ) → object_at objects place ≡ Some (tag, ws) → AllStand objects vs ws → Stands objects (make vs) place)
      → StandsAt s.code mid (Make tag n) to → (x : Several) (c : Cost) → RunAll s m m.stack tall mid x c → ((vs : List Value) → x ≡ All vs → length vs ≡ n)
      → RunsSpent s m m.stack tall to (after c (go_on_all x (object_made make)))
  object_runs e mid to tag n make stands found x c r many =
      all_then s m tall m.stack mid x c m.stack to (object_made make) r
      (λ vs all g. let k = reached_all s m m.stack tall mid vs c g in
      let long : n ≡ length g.words = sym (many vs all) ∙ as_many g.stands in
      put_runs s k m.stack tall e (Make tag n) to (tag, g.words) (make vs) (length vs) found
      (with_last_all m.stack g.words n (λ stack words. put k to stack (tag, words)) long)
      (λ at. stands (k.objects ++ (tag, g.words) ∷ []) vs g.words _ at (all_still_stand g.stands ((tag, g.words) ∷ [])))
      (sym (as_many g.stands)))

  -- an operation on words
  pub operates : (types : Types) (mid to : ℕ) (o : Op) (ty : Scalar) (ts : List Ty) → AreScalars ts → arity o ≡ length ts → 1 ≤ length ts → StandsAt s.code mid (instr_of_op o ty) to
      → (x : Several) (c : Cost) → RunAll s m m.stack tall mid x c → ((vs : List Value) → x ≡ All vs → AreOf types ts vs)
      → RunsSpent s m m.stack tall to (after c (go_on_all x (λ values. spends pushed (prim o (type_of ty) values))))
  operates types mid to o ty ts scalars many some found x c r are =
      all_then s m tall m.stack mid x c m.stack to (λ values. spends pushed (prim o (type_of ty) values)) r
      (λ vs all g. let long : length g.words ≡ length ts = sym (as_many g.stands) ∙ as_params types ts vs (are vs all) in
      let top = g.top in
      operation_runs s (reached_all s m m.stack tall mid vs c g) m.stack g.words tall o ty to vs refl (many ∙ sym long) found
      (words_are types ts vs g.words (m.objects ++ g.more) scalars (are vs all) g.stands) (prim_word o (type_of ty) vs) (omega (arith, top, long, some)))

  -- the element of a vector
  pub element_runs : (types : Types) (mid to count : ℕ) (item places : Ty) → is_number_type places ≡ true → StandsAt s.code mid (Index count) to
      → (x : Several) (c : Cost) → RunAll s m m.stack tall mid x c → ((vs : List Value) → x ≡ All vs → AreOf types (shape.Vector count item ∷ places ∷ []) vs)
      → RunsSpent s m m.stack tall to (after c (go_on_all x (λ values. spends pushed (item_at count values))))
  element_runs types mid to count item places number found x c r are =
      all_then s m tall m.stack mid x c m.stack to (λ values. spends pushed (item_at count values)) r (λ vs all g. by vs g (are vs all) g.words g.stands refl)
    where
      by : (vs : List Value) (g : GaveAll s m m.stack tall mid vs c) → AreOf types (shape.Vector count item ∷ places ∷ []) vs → (ws : List ℕ) → AllStand (m.objects ++ g.more) vs ws → g.words ≡ ws
          → RunsSpent s (reached_all s m m.stack tall mid vs c g) m.stack tall to (spends pushed (item_at count vs))
      by [] g is ws stand e = absurd (let l = as_params types (shape.Vector count item ∷ places ∷ []) [] is in omega (arith, l))
      by (v ∷ []) g is ws stand e = absurd (let l = as_params types (shape.Vector count item ∷ places ∷ []) (v ∷ []) is in omega (arith, l))
      by (v ∷ p ∷ u ∷ vs) g is ws stand e = absurd (let l = as_params types (shape.Vector count item ∷ places ∷ []) (v ∷ p ∷ u ∷ vs) is in omega (arith, l))
      by (v ∷ p ∷ []) g is [] stand e = elim stand [ ]
      by (v ∷ p ∷ []) g is (a ∷ []) (AllStand.more first rest) e = elim rest [ ]
      by (v ∷ p ∷ []) g is (a ∷ b ∷ []) (AllStand.more first (AllStand.more second AllStand.none)) e =
          let ps = and_parts _ _ is in
          let qs = and_parts _ _ ps.1 in
          let k = vector_out types count item v ps.0 in
          let w = scalar_word types places p (number_scalar places number) qs.0 in
          let top = g.top in
          let two : length g.words ≡ 2 = ap length e in
          index_runs s (reached_all s m m.stack tall mid (v ∷ p ∷ []) c g) m.stack a b tall count to v p k.0 (ap (λ ws. m.stack ++ ws) e) found first k.1 k.2
          (word_stands second (word_of_value p) w) (omega (arith, top, two))
      by (v ∷ p ∷ []) g is (a ∷ b ∷ d ∷ ws) (AllStand.more first (AllStand.more second rest)) e = elim rest [ ]

  -- the changed vector
  pub change_runs : tall ≡ length m.stack → (types : Types) (mid to count : ℕ) (item places : Ty) → is_number_type places ≡ true → StandsAt s.code mid (Update count) to
      → (x : Several) (c : Cost) → RunAll s m m.stack tall mid x c → ((vs : List Value) → x ≡ All vs → AreOf types (shape.Vector count item ∷ places ∷ item ∷ []) vs)
      → RunsSpent s m m.stack tall to (after c (go_on_all x (λ values. copied count (changed count values))))
  change_runs high types mid to count item places number found x c r are =
      all_then s m tall m.stack mid x c m.stack to (λ values. copied count (changed count values)) r (λ vs all g. by vs g (are vs all) g.words g.stands refl)
    where
      by : (vs : List Value) (g : GaveAll s m m.stack tall mid vs c) → AreOf types (shape.Vector count item ∷ places ∷ item ∷ []) vs → (ws : List ℕ) → AllStand (m.objects ++ g.more) vs ws → g.words ≡ ws
          → RunsSpent s (reached_all s m m.stack tall mid vs c g) m.stack tall to (copied count (changed count vs))
      by [] g is ws stand e = absurd (let l = as_params types (shape.Vector count item ∷ places ∷ item ∷ []) [] is in omega (arith, l))
      by (v ∷ []) g is ws stand e = absurd (let l = as_params types (shape.Vector count item ∷ places ∷ item ∷ []) (v ∷ []) is in omega (arith, l))
      by (v ∷ p ∷ []) g is ws stand e = absurd (let l = as_params types (shape.Vector count item ∷ places ∷ item ∷ []) (v ∷ p ∷ []) is in omega (arith, l))
      by (v ∷ p ∷ u ∷ t ∷ vs) g is ws stand e = absurd (let l = as_params types (shape.Vector count item ∷ places ∷ item ∷ []) (v ∷ p ∷ u ∷ t ∷ vs) is in omega (arith, l))
      by (v ∷ p ∷ u ∷ []) g is [] stand e = elim stand [ ]
      by (v ∷ p ∷ u ∷ []) g is (a ∷ []) (AllStand.more first rest) e = elim rest [ ]
      by (v ∷ p ∷ u ∷ []) g is (a ∷ b ∷ []) (AllStand.more first (AllStand.more second rest)) e = elim rest [ ]
      by (v ∷ p ∷ u ∷ []) g is (a ∷ b ∷ d ∷ []) (AllStand.more first (AllStand.more second (AllStand.more third AllStand.none))) e =
          let ps = and_parts _ _ is in
          let qs = and_parts _ _ ps.1 in
          let k = vector_out types count item v ps.0 in
          let w = scalar_word types places p (number_scalar places number) qs.0 in
          let top = g.top in
          let three : length g.words ≡ 3 = ap length e in
          update_runs s (reached_all s m m.stack tall mid (v ∷ p ∷ u ∷ []) c g) m.stack a b d tall count to v p u k.0 high (ap (λ ws. m.stack ++ ws) e) found first k.1 k.2
          (word_stands second (word_of_value p) w) third (omega (arith, top, three))
      by (v ∷ p ∷ u ∷ []) g is (a ∷ b ∷ d ∷ w ∷ ws) (AllStand.more first (AllStand.more second (AllStand.more third rest))) e = elim rest [ ]

  -- an exception that carries nothing
  pub raise_alone_runs : tall ≡ length m.stack → (exn mid to : ℕ) → StandsAt s.code m.at (Push 0) mid → StandsAt s.code mid (Raise exn false) to
      → RunsSpent s m m.stack tall to (after pushed (spends (instructions 1) (Raises exn None)))
  raise_alone_runs e exn mid to push raise =
      after_runs s m tall mid (m.stack ++ 0 ∷ []) [] pushed m.stack to (Raises exn None) (instructions 1) (push_comes s m tall e (Push 0) mid 0 push refl) refl
      (raises_runs s (later m mid (m.stack ++ 0 ∷ []) [] (tall + 1)) tall (Raise exn false) to exn 0 None (instructions 1) raise refl refl refl refl (omega arith) (omega arith))

  -- what an exception carries
  pub raise_runs : (exn mid to : ℕ) (x : Outcome) (c : Cost) → StandsAt s.code mid (Raise exn true) to → Runs s m m.stack tall mid x c
      → RunsSpent s m m.stack tall to (after c (go_on x (λ value. spends (instructions 1) (Raises exn (Some value)))))
  raise_runs exn mid to x c raise r =
      then_runs s m tall m.stack mid x c m.stack to (λ value. spends (instructions 1) (Raises exn (Some value))) r
      (λ v e g. let n = reached s m m.stack tall mid v c g in let top = g.top in
      raises_runs s n tall (Raise exn true) to exn g.word (Some v) (instructions 1) raise
      (ap (raised_with s n exn) (top_word m.stack g.word)) g.stands refl refl (omega arith) (omega (arith, top)))
