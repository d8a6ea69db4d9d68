-- The lines of a demo are told one after another.
use Rattle.std.proofs.Common.{◌≡◌, ℕ, suc, ◌+◌, ◌<◌, ◌≤◌, true, false, List, [], ◌∷◌, ◌++◌, take, length, get_or, Option, None, Some, slice_get, Result, refl, ap, sym, ◌∙◌, subst, inl, inr, arith}
use Rattle.std.specs.List.{flat_map, range_with_len}
use Rattle.std.proofs.lemmas.List.Sums.{count_by_more_no, count_by_more_yes, count_by-le-length}
use Rattle.std.proofs.lemmas.List.{length-take-le}
use Rattle.std.proofs.lemmas.Option.{slice_get-get_or}
use Rattle.hume_model.specs.declared.core_tree.NodeC.{NodeC}
use Rattle.hume_model.specs.declared.core_tree.NodeC.TheVariants.{Rules, From, To}
use Rattle.hume_model.specs.declared.core_tree.Core.{Core}
use Rattle.hume_net.specs.Nodes.{IsOutput, IsOutputStream}
use Rattle.hume_ports.specs.declared.port.Failed.{Failed}
use Rattle.hume_ports.specs.Port.{PortView}
use Rattle.hume_ports.specs.Ports.{names, ForNameAt}
use Rattle.port_acts.specs.Ends.{never, Made, Fails}
use Rattle.stream_totals.specs.declared.total.Total.{Total}
use Rattle.trace_print.specs.InTurn.{EndsLines, lines_to}
use Rattle.trace_print.proofs.LinesInTurn.{AreWritten, none_written, more_written, more_fails, later_unwritten}
use Rattle.demo_rounds.specs.Chains.{chain_of, chain_there, chain_lines, ends_chain}
use Rattle.demo_rounds.proofs.NodeTotals.{output_or_not}
use Rattle.demo_rounds.proofs.Ranges.{same_flat, flat_more, flat_within}

-- the line of a node, by the total of each
abbrev pub chain_at : Core → (ℕ → Total) → ℕ → List (List ℕ)
chain_at core totals n = chain_there (chain_of core n) (totals n) (slice_get core.nodes n)

-- the lines of the first nodes
abbrev pub first_chains : Core → (ℕ → Total) → ℕ → List (List ℕ)
first_chains core totals count = flat_map (chain_at core totals) (range_with_len 0 count)

-- The lines of the first nodes were written, and so many chains end there.
pub record FirstTold (core : Core) (totals : ℕ → Total) (at : ℕ) (olds news : List PortView) (chain count : ℕ) : Type 0 where
  pub written : AreWritten at (first_chains core totals count) olds news
  pub is_chain : chain ≡ chain_of core count

pub none_told : (core : Core) (totals : ℕ → Total) (at : ℕ) (ports : List PortView) → FirstTold core totals at ports ports 0 0
none_told core totals at ports = record { written = none_written at ports; is_chain = refl }

module _ (core : Core) (n : ℕ) (within : n < length core.nodes) (d : NodeC) where
  by_output : (o : Option NodeC) → o ≡ Some (get_or core.nodes n d) → IsOutput o → ends_chain (get_or core.nodes n d) ≡ true
  by_output (Some (To stream)) is output = let same : To stream ≡ get_or core.nodes n d = cc in ap ends_chain (sym same)
  by_output (Some (Rules b)) is output = absurd output
  by_output (Some (From stream)) is output = absurd output
  by_output None is output = cc

  by_other : (o : Option NodeC) → o ≡ Some (get_or core.nodes n d) → (IsOutput o → ⊥) → ends_chain (get_or core.nodes n d) ≡ false
  by_other (Some (To stream)) is other = absurd (other tt)
  by_other (Some (Rules b)) is other = let same : Rules b ≡ get_or core.nodes n d = cc in ap ends_chain (sym same)
  by_other (Some (From stream)) is other = let same : From stream ≡ get_or core.nodes n d = cc in ap ends_chain (sym same)
  by_other None is other = cc

  -- behind an output stream comes the next chain, and behind another node the same
  pub chain_next : IsOutputStream core n → chain_of core (n + 1) ≡ chain_of core n + 1
  chain_next output =
      count_by_more_yes ends_chain core.nodes n d within (by_output (slice_get core.nodes n) (slice_get-get_or core.nodes n d within) output)

  pub chain_stays : (IsOutputStream core n → ⊥) → chain_of core (n + 1) ≡ chain_of core n
  chain_stays other =
      count_by_more_no ends_chain core.nodes n d within (by_other (slice_get core.nodes n) (slice_get-get_or core.nodes n d within) other)

some_node : (nodes : List NodeC) (n : ℕ) → n < length nodes → NodeC
some_node [] n within = absurd (omega (arith, within))
some_node (node ∷ nodes) n within = node

pub next_chain : (core : Core) (n chain next : ℕ) → n < length core.nodes → chain ≡ chain_of core n → (IsOutputStream core n → next ≡ chain + 1)
    → ((IsOutputStream core n → ⊥) → next ≡ chain) → next ≡ chain_of core (n + 1)
next_chain core n chain next within is onward still = elim (output_or_not core n) [
  | inl output ↦ onward output ∙ ap (λ k. k + 1) is ∙ sym (chain_next core n within (some_node core.nodes n within) output)
  | inr other ↦ still other ∙ is ∙ sym (chain_stays core n within (some_node core.nodes n within) other)
]

-- no more chains than nodes
pub chain_few : (core : Core) (n : ℕ) → n ≤ length core.nodes → chain_of core n ≤ n
chain_few core n within =
    let most = count_by-le-length ends_chain (take n core.nodes) in
    let long = length-take-le n core.nodes within in
    omega (arith, most, long)

module _ (core : Core) (totals : ℕ → Total) (at : ℕ) (olds mids news : List PortView) (chain count : ℕ) (it : FirstTold core totals at olds mids chain count)
    (total : Total) (is_total : total ≡ totals count) where
  here : chain_there chain total (slice_get core.nodes count) ≡ chain_at core totals count
  here =
      ap (λ k. chain_there k total (slice_get core.nodes count)) it.is_chain
      ∙ ap (λ t. chain_there (chain_of core count) t (slice_get core.nodes count)) is_total

  more : first_chains core totals (count + 1) ≡ first_chains core totals count ++ chain_at core totals count
  more = let next : count + 1 ≡ suc count = omega arith in ap (first_chains core totals) next ∙ flat_more (chain_at core totals) count

  -- the line of one more node
  pub one_told : (next : ℕ) → next ≡ chain_of core (count + 1)
      → ForNameAt at mids (λ name. Made (lines_to name (chain_there chain total (slice_get core.nodes count))) [] mids news) → names news ≡ names mids
      → FirstTold core totals at olds news next (count + 1)
  one_told next is_next made same = record {
    written = subst (λ lines. AreWritten at lines olds news) (sym more)
        (more_written at (first_chains core totals count) (chain_at core totals count) olds mids news it.written
        (subst (λ lines. ForNameAt at mids (λ name. Made (lines_to name lines) [] mids news)) here made) same);
    is_chain = is_next;
  }

  pub one_untold : count < length core.nodes
      → ForNameAt at mids (λ name. Fails never [] (lines_to name (chain_there chain total (slice_get core.nodes count))) mids news)
      → ForNameAt at olds (λ name. Fails never [] (lines_to name (chain_lines core totals)) olds news)
  one_untold within fails =
      let first = first_chains core totals count in
      let failed = more_fails at first (chain_at core totals count) olds mids news it.written
      (subst (λ lines. ForNameAt at mids (λ name. Fails never [] (lines_to name lines) mids news)) here fails) in
      let rest = flat_within (chain_at core totals) (count + 1) (length core.nodes) (omega (arith, within)) in
      let all : (first ++ chain_at core totals count) ++ rest.0 ≡ chain_lines core totals = ap (λ (lines : List (List ℕ)). lines ++ rest.0) (sym more) ∙ sym rest.1 in
      subst (λ lines. ForNameAt at olds (λ name. Fails never [] (lines_to name lines) olds news)) all
      (later_unwritten at (first ++ chain_at core totals count) rest.0 olds news failed)

pub all_told : (core : Core) (totals : ℕ → Total) (at : ℕ) (olds news : List PortView) (chain count : ℕ) → count ≡ length core.nodes
    → FirstTold core totals at olds news chain count → ForNameAt at olds (λ name. Made (lines_to name (chain_lines core totals)) [] olds news)
all_told core totals at olds news chain count all it =
    subst (λ k. ForNameAt at olds (λ name. Made (lines_to name (first_chains core totals k)) [] olds news)) all it.written.made

-- totals that are the same at output streams are told alike
pub same_chains : (core : Core) (first second : ℕ → Total) → ((n : ℕ) → IsOutputStream core n → first n ≡ second n)
    → chain_lines core first ≡ chain_lines core second
same_chains core first second same =
    same_flat (chain_at core first) (chain_at core second) 0 (length core.nodes) (λ n. by_node n (slice_get core.nodes n) refl)
  where
    by_node : (n : ℕ) (o : Option NodeC) → slice_get core.nodes n ≡ o → chain_there (chain_of core n) (first n) o ≡ chain_there (chain_of core n) (second n) o
    by_node n (Some (To stream)) is = ap (λ total. chain_there (chain_of core n) total (Some (To stream))) (same n (subst IsOutput (sym is) tt))
    by_node n (Some (Rules b)) is = refl
    by_node n (Some (From stream)) is = refl
    by_node n None is = refl

-- the same lines under another name
pub lines_end : (at : ℕ) (lines others : List (List ℕ)) (olds news : List PortView) (result : Result (Unit {0}) Failed) → lines ≡ others
    → EndsLines at lines olds news result → EndsLines at others olds news result
lines_end at lines others olds news result same ends = subst (λ told. EndsLines at told olds news result) same ends
