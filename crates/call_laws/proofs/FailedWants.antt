-- A failed read of an input stream, behind the ports that a call reads whole.
use Rattle.std.proofs.Common.{◌≡◌, ◌<◌, ℕ, Bool, true, List, [], ◌∷◌, ◌++◌, length, Some, slice_get, refl, ap, sym, ◌∙◌, subst, inl, inr}
use Rattle.std.specs.Str.{bytes_eq}
use Rattle.hume_base.specs.declared.types.Value.{Value}
use Rattle.hume_model.specs.declared.core_tree.Core.{Core}
use Rattle.hume_model.specs.declared.core_tree.NodeC.TheVariants.{From}
use Rattle.hume_model.specs.declared.core_tree.StreamC.{StreamC}
use Rattle.hume_net.specs.rounds.Rounds.{IsRound}
use Rattle.hume_ports.specs.Delivery.{Delivered, Drawn, Pairs, bytes_for}
use Rattle.hume_ports.specs.Port.{PortView, Rose}
use Rattle.hume_ports.specs.Ports.{is_among, of_first}
use Rattle.hume_ports.proofs.Names.{bytes_eq-self}
use Rattle.hume_streams.specs.Good.{IsGoodUntil}
use Rattle.hume_streams.specs.Lines.{whole_lines}
use Rattle.port_acts.specs.Acts.{Act, count_of, name_of, wants, written}
use Rattle.port_acts.specs.Early.{Reads, names_read, read_each}
use Rattle.port_acts.specs.Ends.{Fails, Few, NoneRose}
use Rattle.port_acts.proofs.ActLists.{written-append}
use Rattle.port_acts.proofs.Failing.{failure_since, read_tells}
use Rattle.port_acts.proofs.Stopping.{reads_write_nothing}
use Rattle.phase_workers.specs.StreamTypes.{type_at}
use Rattle.run_rounds.specs.Inputs.{Inputs}
use Rattle.run_rounds.specs.RunActs.{needed, run_few}
use Rattle.run_rounds.specs.Writes.{span_of}
use Rattle.hume_calls.specs.Faults.{ReadRose}
use Rattle.hume_calls.proofs.Wanting.{split}
use Rattle.call_laws.specs.FailedReads.{FailedStream}
use Rattle.call_laws.proofs.OtherLines.{right_true}

-- a count of the act's port has risen
abbrev HasRisen : Act → List PortView → List PortView → Type 0
HasRisen act old new = Rose (of_first 0 (count_of act) (name_of act) old) (of_first 0 (count_of act) (name_of act) new)

want_rose : (act : Act) (name : List ℕ) (count : ℕ) (old new : List PortView) → act ≡ wants name count → HasRisen act old new → ReadRose name old new
want_rose act name count old new is rose = subst (λ (a : Act). HasRisen a old new) is rose

-- a want that is one of the reads is of one of their names
among_read : (reads : Reads) (before later : List Act) (name : List ℕ) (count : ℕ) → read_each reads ≡ before ++ wants name count ∷ later
    → is_among name (names_read reads) ≡ true
among_read [] [] later name count e = cc
among_read [] (act ∷ before) later name count e = cc
among_read (read ∷ reads) [] later name count e =
    let same : read.0 ≡ name = cc in
    subst (λ (first : List ℕ). is_among name (first ∷ names_read reads) ≡ true) (sym same) (first_of name)
  where
    first_of : (name : List ℕ) → is_among name (name ∷ names_read reads) ≡ true
    first_of name = rw (bytes_eq-self name) refl
among_read (read ∷ reads) (act ∷ before) later name count e =
    let tails : read_each reads ≡ before ++ wants name count ∷ later = cc in
    right_true (bytes_eq name read.0) (is_among name (names_read reads)) (among_read reads before later name count tails)

-- The want of a call that failed, among its acts behind the reads.
pub record FailedWant (few : Few) (acts : List Act) (old new : List PortView) : Type 0 where
  pub name : List ℕ
  pub count : ℕ
  pub before : List Act
  pub later : List Act
  pub stands : acts ≡ before ++ wants name count ∷ later
  pub rose : ReadRose name old new
  pub delivered : Delivered old new (written before)
  pub taken : Pairs
  pub drawn : Drawn old new taken
  pub is_few : few name count (bytes_for name taken)

module _ (few : Few) (reads : Reads) (acts : List Act) (old new : List PortView) (f : Fails few [] (read_each reads ++ acts) old new)
    (no_write : NoneRose (λ port. port.write_faults) old new) (no_finish : NoneRose (λ port. port.finish_faults) old new)
    (none_whole : (name : List ℕ) → is_among name (names_read reads) ≡ true → ReadRose name old new → ⊥) where
  pub failed_want : FailedWant few acts old new
  failed_want =
      let all : List Act = read_each reads ++ acts in
      let since = failure_since few [] all old new f in
      let want = read_tells few [] all old new f no_write no_finish in
      let rose = want_rose f.act want.0 want.1 old new want.2 since.rose in
      let order_is : all ≡ f.before ++ wants want.0 want.1 ∷ f.later = f.in_order ∙ ap (λ (act : Act). f.before ++ act ∷ f.later) want.2 in
      elim (split (read_each reads) acts f.before (wants want.0 want.1) f.later order_is) [
        | inl here ↦ absurd (none_whole want.0 (among_read reads f.before here.0 want.0 want.1 here.1) rose)
        | inr there ↦ (
            let wrote : written f.before ≡ written there.0 =
            ap written there.1 ∙ written-append (read_each reads) there.0 ∙ ap (λ (pairs : Pairs). pairs ++ written there.0) (reads_write_nothing reads) in
            let is : FailedWant few acts old new = record {
              name = want.0;
              count = want.1;
              before = there.0;
              later = f.later;
              stands = there.2;
              rose = rose;
              delivered = subst (λ (pairs : Pairs). Delivered old new pairs) wrote want.4;
              taken = f.taken ++ f.read;
              drawn = since.drawn;
              is_few = want.3;
            } in is)
      ]

-- The want is for an input stream, before a round for which it needs so many values. Before it just this was written.
pub record IsForRound (core : Core) (good : List (List Value)) (traced : Bool) (steps : ℕ) (stands_before : ℕ → Pairs) (before : List Act)
    (name : List ℕ) (count : ℕ) : Type 0 where
  pub round : ℕ
  pub is_round : IsRound (span_of traced) steps round
  pub node : ℕ
  pub stream : StreamC
  pub at : slice_get core.nodes node ≡ Some (From stream)
  pub is_port : name ≡ stream.port
  pub is_needed : count ≡ needed core good (span_of traced) steps round node
  pub wrote : written before ≡ stands_before round

module _ {few : Few} {acts : List Act} {old new : List PortView} (w : FailedWant few acts old new)
    (core : Core) (coming : Inputs) (traced : Bool) (steps : ℕ) (stands_before : ℕ → Pairs)
    (r : IsForRound core coming.good traced steps stands_before w.before w.name w.count)
    (is_few : run_few core w.name w.count (bytes_for w.name w.taken)) where
  pub failed_stream : FailedStream core coming traced steps stands_before old new
  failed_stream = record {
    round = r.round;
    is_round = r.is_round;
    delivered = subst (λ (pairs : Pairs). Delivered old new pairs) r.wrote w.delivered;
    node = r.node;
    stream = r.stream;
    at = r.at;
    rose = subst (λ (n : List ℕ). ReadRose n old new) r.is_port w.rose;
    taken = w.taken;
    drawn = w.drawn;
    few = λ good bad is.
        let here : IsGoodUntil core.types (type_at core r.node) (whole_lines (bytes_for w.name w.taken)) good bad =
        subst (λ (n : List ℕ). IsGoodUntil core.types (type_at core r.node) (whole_lines (bytes_for n w.taken)) good bad) (sym r.is_port) is in
        subst (λ (k : ℕ). length good < k) r.is_needed (is_few r.node r.stream r.at (sym r.is_port) good bad here);
  }
