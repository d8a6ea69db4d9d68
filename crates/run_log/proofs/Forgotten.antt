-- What output streams took is forgotten, node by node.
use Rattle.std.proofs.Common.{◌≡◌, ℕ, zero, suc, ◌+◌, ◌≤◌, List, [], ◌∷◌, length, Option, None, Some, slice_get, slice_set, refl, ap, sym, ◌∙◌, subst, arith, inl, inr, ◌⊎◌}
use Rattle.std.specs.Option.{unwrap_or}
use Rattle.std.proofs.lemmas.Bool.{cases_lt}
use Rattle.std.proofs.lemmas.Option.{slice_get_past}
use Rattle.hume_base.specs.declared.types.Value.{Value}
use Rattle.hume_model.specs.declared.core_tree.NodeC.{NodeC}
use Rattle.hume_model.specs.declared.core_tree.NodeC.TheVariants.{Rules, From, To}
use Rattle.hume_model.specs.declared.core_tree.Core.{Core}
use Rattle.hume_net.specs.declared.state.State.{State}
use Rattle.hume_net.specs.Nodes.{IsOutput, IsOutputStream}
use Rattle.hume_net.specs.Sides.{numbered, part_of}
use Rattle.hume_net.proofs.Gathered.{numbered_get}
use Rattle.hume_net.proofs.Parts.{own_list}
use Rattle.hume_net.proofs.Starts.{length-numbered}
use Rattle.phase_workers.specs.Engines.{EngineView, core_of, queue_at, span_of, state_of}
use Rattle.run_log.specs.Moments.{forgotten, remembered}
use Rattle.run_log.specs.inner.Forgetting.{ForgetsNode, HaveForgotten}

-- a list of which one item was emptied

emptied : (xs : List (List Value)) (at : ℕ) → unwrap_or (slice_get (slice_set xs at []) at) [] ≡ []
emptied [] at = refl
emptied (x ∷ xs) zero = refl
emptied (x ∷ xs) (suc at) = emptied xs at

kept : (xs : List (List Value)) (at other : ℕ) → (other ≡ at → ⊥) → slice_get (slice_set xs at []) other ≡ slice_get xs other
kept [] at other differ = refl
kept (x ∷ xs) zero zero differ = absurd (differ refl)
kept (x ∷ xs) zero (suc other) differ = refl
kept (x ∷ xs) (suc at) zero differ = refl
kept (x ∷ xs) (suc at) (suc other) differ = kept xs at other (λ e. differ (ap suc e))

as_long : (xs : List (List Value)) (at : ℕ) → length (slice_set xs at []) ≡ length xs
as_long [] at = refl
as_long (x ∷ xs) zero = refl
as_long (x ∷ xs) (suc at) = ap suc (as_long xs at)

-- output streams remember nothing, and other nodes all

remembered_none : (node : Option NodeC) (taken : List Value) → IsOutput node → remembered node taken ≡ []
remembered_none None taken is = absurd is
remembered_none (Some (Rules b)) taken is = absurd is
remembered_none (Some (From stream)) taken is = absurd is
remembered_none (Some (To stream)) taken is = refl

remembered_all : (node : Option NodeC) (taken : List Value) → (IsOutput node → ⊥) → remembered node taken ≡ taken
remembered_all None taken none = refl
remembered_all (Some (Rules b)) taken none = refl
remembered_all (Some (From stream)) taken none = refl
remembered_all (Some (To stream)) taken none = absurd (none tt)

output_or_not : (node : Option NodeC) → IsOutput node ⊎ (IsOutput node → ⊥)
output_or_not None = inr (λ is. is)
output_or_not (Some (Rules b)) = inr (λ is. is)
output_or_not (Some (From stream)) = inr (λ is. is)
output_or_not (Some (To stream)) = inl tt

pub none_forgotten : (engine : EngineView) → HaveForgotten engine engine 0
none_forgotten engine = record {
  is_core = refl;
  is_span = refl;
  queues = λ n. refl;
  rest = refl;
  long = refl;
  early = λ n less. absurd (omega (arith, less));
  late = λ n past. refl;
}

module _ (old mid new : EngineView) (count : ℕ) (it : HaveForgotten old mid count) where
  abbrev Taken : EngineView → ℕ → List Value
  Taken engine n = (part_of (state_of engine) n).taken

  one_forgotten : IsOutputStream (core_of old) count → core_of new ≡ core_of mid → span_of new ≡ span_of mid
      → ((n : ℕ) → queue_at new n ≡ queue_at mid n)
      → state_of new ≡ record (state_of mid) { taken = slice_set (state_of mid).taken count [] } → HaveForgotten old new (count + 1)
  one_forgotten is same_core same_span same_queues cleared = record {
    is_core = same_core ∙ it.is_core;
    is_span = same_span ∙ it.is_span;
    queues = λ n. same_queues n ∙ it.queues n;
    rest = ap (λ (s : State). record s { taken = (state_of old).taken }) cleared ∙ it.rest;
    long = ap (λ (s : State). length s.taken) cleared ∙ as_long (state_of mid).taken count ∙ it.long;
    early = λ n less. elim (cases_lt n count) [
      | inl before ↦ other n (λ e. absurd (omega (arith, before, e))) ∙ it.early n before
      | inr past ↦ (
          let here : n ≡ count = omega (arith, less, past) in
          subst (λ m. Taken new m ≡ remembered (slice_get (core_of old).nodes m) (Taken old m)) (sym here)
          (ap (λ s. (part_of s count).taken) cleared ∙ emptied (state_of mid).taken count
          ∙ sym (remembered_none (slice_get (core_of old).nodes count) (Taken old count) is)))
    ];
    late = λ n past. other n (λ e. absurd (omega (arith, past, e))) ∙ it.late n (omega (arith, past));
  }
    where
      other : (n : ℕ) → (n ≡ count → ⊥) → Taken new n ≡ Taken mid n
      other n differ =
          ap (λ s. (part_of s n).taken) cleared ∙ ap (λ found. unwrap_or found []) (kept (state_of mid).taken count n differ)

  one_skipped : (IsOutputStream (core_of old) count → ⊥) → core_of new ≡ core_of mid → span_of new ≡ span_of mid
      → ((n : ℕ) → queue_at new n ≡ queue_at mid n) → state_of new ≡ state_of mid → HaveForgotten old new (count + 1)
  one_skipped none same_core same_span same_queues same = record {
    is_core = same_core ∙ it.is_core;
    is_span = same_span ∙ it.is_span;
    queues = λ n. same_queues n ∙ it.queues n;
    rest = ap (λ (s : State). record s { taken = (state_of old).taken }) same ∙ it.rest;
    long = ap (λ (s : State). length s.taken) same ∙ it.long;
    early = λ n less. elim (cases_lt n count) [
      | inl before ↦ ap (λ s. (part_of s n).taken) same ∙ it.early n before
      | inr past ↦ (
          let here : n ≡ count = omega (arith, less, past) in
          subst (λ m. Taken new m ≡ remembered (slice_get (core_of old).nodes m) (Taken old m)) (sym here)
          (ap (λ s. (part_of s count).taken) same ∙ it.late count (omega arith)
          ∙ sym (remembered_all (slice_get (core_of old).nodes count) (Taken old count) none)))
    ];
    late = λ n past. ap (λ s. (part_of s n).taken) same ∙ it.late n (omega (arith, past));
  }

  pub next_forgotten : core_of new ≡ core_of mid → span_of new ≡ span_of mid → ((n : ℕ) → queue_at new n ≡ queue_at mid n)
      → ForgetsNode (core_of mid) count (state_of mid) (state_of new) → HaveForgotten old new (count + 1)
  next_forgotten same_core same_span same_queues forgets = elim (output_or_not (slice_get (core_of old).nodes count)) [
    | inl is ↦ one_forgotten is same_core same_span same_queues (forgets.output (subst (λ core. IsOutputStream core count) (sym it.is_core) is))
    | inr none ↦
        one_skipped none same_core same_span same_queues (forgets.other (λ is. none (subst (λ core. IsOutputStream core count) it.is_core is)))
  ]

-- what each node remembers
abbrev Left : EngineView → ℕ → List Value
Left old n = remembered (slice_get (core_of old).nodes n) (part_of (state_of old) n).taken

all_left : (old new : EngineView) (count : ℕ) → HaveForgotten old new count → length (core_of old).nodes ≤ count
    → (n : ℕ) → (part_of (state_of new) n).taken ≡ Left old n
all_left old new count it past n = elim (cases_lt n count) [
  | inl less ↦ it.early n less
  | inr behind ↦
      it.late n behind
      ∙ sym (ap (λ node. remembered node (part_of (state_of old) n).taken) (slice_get_past (core_of old).nodes n (omega (arith, behind, past))))
]

pub all_forgotten : (old new : EngineView) (count : ℕ) → HaveForgotten old new count → length (core_of old).nodes ≤ count
    → state_of new ≡ forgotten (core_of old) (state_of old)
all_forgotten old new count it past =
    ap (λ (s : State). record s { taken = (state_of new).taken }) it.rest
    ∙ ap (λ lists. record (state_of old) { taken = lists }) (sym (own_list (length (state_of old).taken) (Left old) (state_of new).taken it.long
    (λ n list there. sym (all_left old new count it past n) ∙ ap (λ found. unwrap_or found []) there)))

remembers_none : (node : Option NodeC) → remembered node [] ≡ []
remembers_none None = refl
remembers_none (Some (Rules b)) = refl
remembers_none (Some (From stream)) = refl
remembers_none (Some (To stream)) = refl

-- what a node has taken once it is forgotten
module _ (core : Core) (state : State) where
  abbrev Kept : ℕ → List Value
  Kept n = remembered (slice_get core.nodes n) (part_of state n).taken

  pub forgotten_at : (n : ℕ) → (part_of (forgotten core state) n).taken ≡ Kept n
  forgotten_at n = elim (cases_lt n (length state.taken)) [
    | inl less ↦ ap (λ found. unwrap_or found []) (numbered_get (length state.taken) Kept n less)
    | inr past ↦ (
        let long = length-numbered (length state.taken) Kept in
        ap (λ found. unwrap_or found []) (slice_get_past (numbered (length state.taken) Kept) n (omega (arith, past, long)))
        ∙ sym (ap (λ found. remembered (slice_get core.nodes n) (unwrap_or found [])) (slice_get_past state.taken n past)
        ∙ remembers_none (slice_get core.nodes n)))
  ]

  pub forgotten_none : (n : ℕ) → IsOutputStream core n → (part_of (forgotten core state) n).taken ≡ []
  forgotten_none n is = forgotten_at n ∙ remembered_none (slice_get core.nodes n) (part_of state n).taken is
