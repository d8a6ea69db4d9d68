-- The totals of output streams get what these have taken, which is then forgotten.
use Rattle.std.proofs.Common.{◌≡◌, ◌⊎◌, ℕ, zero, suc, ◌+◌, ◌^◌, ◌<◌, ◌≤◌, List, [], ◌∷◌, ◌++◌, map, length, length-append, take, drop, append-nil, get_or, set, Option, Some, None, slice_get, slice_set, refl, ap, sym, ◌∙◌, subst, inl, inr, arith}
use Rattle.std.proofs.lemmas.List.{length-map, length-set, map-append, get_or-set_same, get_or-set_other, take_all, drop_all}
use Rattle.std.proofs.lemmas.Bool.Decides.{eqb_tells}
use Rattle.std.proofs.lemmas.Option.{slice_get-get_or, get_or_from_slice_get, slice_get_within}
use Rattle.hume_base.specs.declared.types.Value.{Value}
use Rattle.hume_base.specs.Flat.{flat}
use Rattle.hume_model.specs.declared.core_tree.Core.{Core}
use Rattle.hume_model.specs.declared.core_tree.NodeC.{NodeC}
use Rattle.hume_model.specs.declared.core_tree.NodeC.TheVariants.{Rules, From, To}
use Rattle.hume_model.specs.declared.core_tree.StreamC.{StreamC}
use Rattle.hume_net.specs.declared.state.State.{State}
use Rattle.hume_net.specs.Nodes.{IsOutput, IsOutputStream}
use Rattle.hume_net.specs.Parts.{IsStateOf}
use Rattle.hume_net.specs.rounds.Pieces.{IsPieceOf, listed, taken_in}
use Rattle.hume_net.proofs.rounds_lemmas.OneNode.{cleared_one}
use Rattle.stream_totals.specs.declared.total.Total.{Total}
use Rattle.stream_totals.specs.Totals.{total_of, total_of_words}
use Rattle.phase_workers.specs.Engines.{EngineView as Engine}
use Rattle.phase_workers.specs.Engines.{core_of, span_of, state_of}
use Rattle.phase_workers.specs.StreamTypes.{type_at}
use Rattle.demo_rounds.specs.inner.Counted.{AreTotals, Clears, ClearsNode, total_at}

-- the total of these values of a node
abbrev pub Its : Core → ℕ → List Value → Total
Its core n values = total_of core.types (type_at core n) values

module _ (core : Core) (n : ℕ) where
  abbrev pub rows_of : List Value → List (List ℕ)
  rows_of values = map (flat core.types (type_at core n)) values

  -- few values are few rows of words
  pub few_rows : (total : Total) (values : List Value) → total ≡ Its core n values → length values ≤ 2 ^ 61
      → (rows : List (List ℕ)) × (total ≡ total_of_words rows) × (length rows ≤ 2 ^ 61)
  few_rows total values is few = (rows_of values, is, subst (λ k. k ≤ 2 ^ 61) (sym (length-map values (flat core.types (type_at core n)))) few)

  -- a total of the rows of these values and of more is that of all these values
  pub total_joined : (new : Total) (values more : List Value) (held : List (List ℕ)) → held ≡ rows_of more → new ≡ total_of_words (rows_of values ++ held)
      → new ≡ Its core n (values ++ more)
  total_joined new values more held are is =
      is ∙ ap (λ (rows : List (List ℕ)). total_of_words (rows_of values ++ rows)) are
      ∙ ap total_of_words (sym (map-append (flat core.types (type_at core n)) values more))

  pub few_taken : (more : List Value) (held : List (List ℕ)) (count : ℕ) → held ≡ rows_of more → count ≡ length held → count < 2 ^ 32 → length more < 2 ^ 32
  few_taken more held count are is few =
      let long = length-map more (flat core.types (type_at core n)) in
      subst (λ k. k < 2 ^ 32) (is ∙ ap (λ (rows : List (List ℕ)). length rows) are ∙ long) few

-- nodes

pub output_or_not : (core : Core) (n : ℕ) → IsOutputStream core n ⊎ (IsOutputStream core n → ⊥)
output_or_not core n = by_node (slice_get core.nodes n) refl
  where
    by_node : (o : Option NodeC) → slice_get core.nodes n ≡ o → IsOutputStream core n ⊎ (IsOutputStream core n → ⊥)
    by_node (Some (To stream)) is = inl (subst IsOutput (sym is) tt)
    by_node (Some (Rules b)) is = inr (subst (λ o. IsOutput o → ⊥) (sym is) (λ never. never))
    by_node (Some (From stream)) is = inr (subst (λ o. IsOutput o → ⊥) (sym is) (λ never. never))
    by_node None is = inr (subst (λ o. IsOutput o → ⊥) (sym is) (λ never. never))

pub output_there : (core : Core) (n : ℕ) → IsOutputStream core n → (stream : StreamC) × (slice_get core.nodes n ≡ Some (To stream))
output_there core n output = by_node (slice_get core.nodes n) refl output
  where
    by_node : (o : Option NodeC) → slice_get core.nodes n ≡ o → IsOutput o → (stream : StreamC) × (slice_get core.nodes n ≡ Some (To stream))
    by_node (Some (To stream)) is output = (stream, is)
    by_node (Some (Rules b)) is output = absurd output
    by_node (Some (From stream)) is output = absurd output
    by_node None is output = absurd output

pub output_within : (core : Core) (n : ℕ) → IsOutputStream core n → n < length core.nodes
output_within core n output = let there = output_there core n output in slice_get_within core.nodes n (To there.0) there.1

same_or_other : (a b : ℕ) → (a ≡ b) ⊎ (a ≡ b → ⊥)
same_or_other a b = elim (eqb_tells a b) [ inl same ↦ inl same.1 | inr other ↦ inr other.1 ]

before_or_last : (n count : ℕ) → n < count + 1 → (n < count) ⊎ (n ≡ count)
before_or_last n count less = elim (same_or_other n count) [ inl same ↦ inr same | inr other ↦ inl (omega (arith, less, other)) ]

-- lists of taken values, of which one is set

set_here : (lists : List (List Value)) (n : ℕ) (list : List Value) → n < length lists → listed (slice_set lists n list) n ≡ list
set_here [] n list within = absurd (omega (arith, within))
set_here (first ∷ lists) zero list within = refl
set_here (first ∷ lists) (suc n) list within = set_here lists n list (omega (arith, within))

set_elsewhere : (lists : List (List Value)) (n m : ℕ) (list : List Value) → (m ≡ n → ⊥) → listed (slice_set lists n list) m ≡ listed lists m
set_elsewhere [] n m list other = refl
set_elsewhere (first ∷ lists) zero zero list other = absurd (other refl)
set_elsewhere (first ∷ lists) zero (suc m) list other = refl
set_elsewhere (first ∷ lists) (suc n) zero list other = refl
set_elsewhere (first ∷ lists) (suc n) (suc m) list other = set_elsewhere lists n m list (λ same. other (ap suc same))

length_set : (lists : List (List Value)) (n : ℕ) (list : List Value) → length (slice_set lists n list) ≡ length lists
length_set [] n list = refl
length_set (first ∷ lists) zero list = refl
length_set (first ∷ lists) (suc n) list = ap suc (length_set lists n list)

-- an item is the same whatever stands for a missing one
pub same_item : {X : Type 0} (xs : List X) (i : ℕ) (d e : X) → i < length xs → get_or xs i d ≡ get_or xs i e
same_item xs i d e within = get_or_from_slice_get xs i (get_or xs i e) d (slice_get-get_or xs i e within)

-- all items of a vector that were lent as a slice
pub all_items : {X : Type 0} (len : ℕ) (xs ys : List X) → len ≡ length ys → length xs ≡ length ys → take len (xs ++ drop (length xs) ys) ≡ xs
all_items len xs ys own same =
    ap (λ zs. take len (xs ++ zs)) (drop_all (length xs) ys (omega (arith, same))) ∙ ap (take len) (append-nil xs)
    ∙ take_all len xs (omega (arith, own, same))

-- The output streams of numbers below the count were cleared.
record ClearsBelow (core : Core) (count : ℕ) (before after : State) : Type 0 where
  pub parts : IsStateOf core after
  pub pieces : (earlier later : ℕ → List Value) (whole : State) → IsPieceOf core earlier later before whole
      → (gone : ℕ → List Value) × IsPieceOf core gone later after whole
  pub none : (n : ℕ) → n < count → IsOutputStream core n → taken_in after n ≡ []
  pub later : (n : ℕ) → count ≤ n → taken_in after n ≡ taken_in before n

clears_output : (core : Core) (count : ℕ) (before after : State) → IsOutputStream core count
    → ClearsBelow core count before after → ClearsBelow core (count + 1) before (record after { taken = slice_set after.taken count [] })
clears_output core count before after output it =
    let there = output_there core count output in
    let within = output_within core count output in
    let parts = it.parts in
    record {
      parts = record {
        wires = parts.wires;
        pending = parts.pending;
        orders = parts.orders;
        coming = parts.coming;
        taken = length_set after.taken count [] ∙ parts.taken;
      };
      pieces = λ earlier later whole piece. (
          let p = it.pieces earlier later whole piece in
          (_, cleared_one core p.0 later after whole (record { coming = parts.coming; taken = parts.taken }) count (To there.0) there.1 p.1));
      none = λ n less is. elim (same_or_other n count) [
        | inl same ↦ subst (λ k. listed (slice_set after.taken count []) k ≡ []) (sym same)
            (set_here after.taken count [] (subst (λ k. count < k) (sym parts.taken) within))
        | inr differ ↦ set_elsewhere after.taken count n [] differ ∙ it.none n (omega (arith, less, differ)) is
      ];
      later = λ n past. set_elsewhere after.taken count n [] (λ same. omega (arith, past, same)) ∙ it.later n (omega (arith, past));
    }

clears_other : (core : Core) (count : ℕ) (before after : State) → (IsOutputStream core count → ⊥) → ClearsBelow core count before after
    → ClearsBelow core (count + 1) before after
clears_other core count before after other it = record {
  parts = it.parts;
  pieces = it.pieces;
  none = λ n less is. elim (before_or_last n count less) [
    | inl l ↦ it.none n l is
    | inr e ↦ absurd (other (subst (IsOutputStream core) e is))
  ];
  later = λ n past. it.later n (omega (arith, past));
}

-- The totals of the output streams among the first nodes have got what these had taken, and it is forgotten.
pub record Counting (first engine : Engine) (before totals : List Total) (count : ℕ) : Type 0 where
  pub is_core : core_of engine ≡ core_of first
  pub is_span : span_of engine ≡ span_of first
  pub long : length totals ≡ length before
  clears : ClearsBelow (core_of first) count (state_of first) (state_of engine)
  pub done : (n : ℕ) → n < count → IsOutputStream (core_of first) n → (values : List Value) → total_at before n ≡ Its (core_of first) n values
      → total_at totals n ≡ Its (core_of first) n (values ++ taken_in (state_of first) n)
  pub short : (n : ℕ) → n < count → IsOutputStream (core_of first) n → length (taken_in (state_of first) n) < 2 ^ 32
  pub later : (n : ℕ) → count ≤ n → total_at totals n ≡ total_at before n

pub counting_none : (engine : Engine) (totals : List Total) → IsStateOf (core_of engine) (state_of engine) → Counting engine engine totals totals 0
counting_none engine totals parts = record {
  is_core = refl;
  is_span = refl;
  long = refl;
  clears = record {
    parts = parts;
    pieces = λ earlier later whole it. (earlier, it);
    none = λ n less. absurd (omega (arith, less));
    later = λ n past. refl;
  };
  done = λ n less. absurd (omega (arith, less));
  short = λ n less. absurd (omega (arith, less));
  later = λ n past. refl;
}

module _ (first engine : Engine) (before totals : List Total) (count : ℕ) (it : Counting first engine before totals count)
    (within : count < length totals) (d : Total) where
  abbrev core : Core
  core = core_of first

  -- the total of the node is still the first one
  old_total : get_or totals count d ≡ total_at before count
  old_total = same_item totals count d (total_of_words []) within ∙ it.later count (omega arith)

  pub few_values : (values : ℕ → List Value) (few : ℕ) → few ≤ 2 ^ 61 → AreTotals core values few before → IsOutputStream (core_of engine) count
      → (its : List Value) × (get_or totals count d ≡ Its (core_of engine) count its) × (length its ≤ 2 ^ 61)
  few_values values few small are output =
      let out : IsOutputStream core count = subst (λ c. IsOutputStream c count) it.is_core output in
      let short = are.few count out in
      (values count, old_total ∙ are.each count out ∙ ap (λ c. Its c count (values count)) (sym it.is_core), omega (arith, short, small))

  module _ (new : Engine) (total : Total) (new_core : core_of new ≡ core_of engine) (new_span : span_of new ≡ span_of engine)
      (clears : ClearsNode (core_of engine) count (state_of engine) (state_of new))
      (more : IsOutputStream (core_of engine) count → (values : List Value) → get_or totals count d ≡ Its (core_of engine) count values
      → total ≡ Its (core_of engine) count (values ++ taken_in (state_of engine) count))
      (few : IsOutputStream (core_of engine) count → length (taken_in (state_of engine) count) < 2 ^ 32) where
    at_engine : IsOutputStream core count → IsOutputStream (core_of engine) count
    at_engine output = subst (λ c. IsOutputStream c count) (sym it.is_core) output

    same_taken : taken_in (state_of engine) count ≡ taken_in (state_of first) count
    same_taken = it.clears.later count (omega arith)

    cleared_next : ClearsBelow core (count + 1) (state_of first) (state_of new)
    cleared_next = elim (output_or_not core count) [
      | inl output ↦ subst (ClearsBelow core (count + 1) (state_of first)) (sym (clears.output (at_engine output)))
          (clears_output core count (state_of first) (state_of engine) output it.clears)
      | inr other ↦ subst (ClearsBelow core (count + 1) (state_of first)) (sym (clears.other (λ is. other (subst (λ c. IsOutputStream c count) it.is_core is))))
          (clears_other core count (state_of first) (state_of engine) other it.clears)
    ]

    done_here : IsOutputStream core count → (values : List Value) → total_at before count ≡ Its core count values
        → total ≡ Its core count (values ++ taken_in (state_of first) count)
    done_here output values is =
        more (at_engine output) values (old_total ∙ is ∙ ap (λ c. Its c count values) (sym it.is_core))
        ∙ ap (λ c. Its c count (values ++ taken_in (state_of engine) count)) it.is_core
        ∙ ap (λ taken. Its core count (values ++ taken)) same_taken

    pub counting_next : Counting first new before (set totals count total) (count + 1)
    counting_next = record {
      is_core = new_core ∙ it.is_core;
      is_span = new_span ∙ it.is_span;
      long = length-set totals count total ∙ it.long;
      clears = cleared_next;
      done = λ n less output values is. elim (same_or_other n count) [
        | inl same ↦ ap (λ k. total_at (set totals count total) k) same
            ∙ get_or-set_same totals count total (total_of_words []) within
            ∙ done_here (subst (IsOutputStream core) same output) values (ap (total_at before) (sym same) ∙ is ∙ ap (λ k. Its core k values) same)
            ∙ ap (λ k. Its core k (values ++ taken_in (state_of first) k)) (sym same)
        | inr differ ↦ get_or-set_other totals count n total (total_of_words []) differ
            ∙ it.done n (omega (arith, less, differ)) output values is
      ];
      short = λ n less output. elim (before_or_last n count less) [
        | inl l ↦ it.short n l output
        | inr e ↦ subst (λ k. length (taken_in (state_of first) k) < 2 ^ 32) (sym e)
            (subst (λ taken. length taken < 2 ^ 32) same_taken (few (at_engine (subst (IsOutputStream core) e output))))
      ];
      later = λ n past. get_or-set_other totals count n total (total_of_words []) (λ same. omega (arith, past, same)) ∙ it.later n (omega (arith, past));
    }

-- all of them have
module _ (first engine : Engine) (before totals : List Total) (count : ℕ) (it : Counting first engine before totals count)
    (past : length (core_of first).nodes ≤ count) where
  output_below : (n : ℕ) → IsOutputStream (core_of first) n → n < count
  output_below n output = let within = output_within (core_of first) n output in omega (arith, within, past)

  pub counting_cleared : Clears (core_of first) (state_of first) (state_of engine)
  counting_cleared = record {
    parts = it.clears.parts;
    pieces = it.clears.pieces;
    none = λ n output. it.clears.none n (output_below n output) output;
  }

  pub counting_over : (values : ℕ → List Value) (few : ℕ) → AreTotals (core_of first) values few before
      → AreTotals (core_of first) (λ n. values n ++ taken_in (state_of first) n) (few + 2 ^ 32) totals
  counting_over values few are = record {
    count = it.long ∙ are.count;
    each = λ n output. it.done n (output_below n output) output (values n) (are.each n output);
    few = λ n output. (
        let a = are.few n output in
        let b = it.short n (output_below n output) output in
        let both = length-append (values n) (taken_in (state_of first) n) in
        omega (arith, a, b, both));
  }
