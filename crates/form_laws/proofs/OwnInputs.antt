-- What comes to a union is what comes to each of its programs.
use Rattle.std.proofs.Common.{◌≡◌, ℕ, zero, suc, ◌+◌, ◌<◌, ◌≤◌, nat_lt, false, List, [], ◌∷◌, if◌then◌else◌, length, take, drop, Option, Some, None, slice_get, refl, ap, sym, ◌∙◌, subst, arith, inl, inr}
use Rattle.std.specs.List.{All}
use Rattle.std.specs.Option.{unwrap_or}
use Rattle.std.proofs.lemmas.Bool.{cases_lt, lt-ltb}
use Rattle.std.proofs.lemmas.Bool.Decides.{nat_tests}
use Rattle.std.proofs.lemmas.List.{length-drop, length-take}
use Rattle.std.proofs.lemmas.List.Elements.{All-head, All-tail, All-weaker}
use Rattle.hume_base.specs.declared.types.Value.{Value}
use Rattle.hume_model.specs.declared.core_tree.NodeC.{NodeC}
use Rattle.hume_model.specs.declared.core_tree.NodeC.TheVariants.{From, Rules, To}
use Rattle.hume_model.specs.declared.core_tree.Core.{Core}
use Rattle.hume_model.specs.WellFormed.{IsWellFormed}
use Rattle.hume_net.specs.rounds.Pieces.{listed}
use Rattle.phase_workers.specs.StreamTypes.{type_at}
use Rattle.run_rounds.specs.Inputs.{AreInputs, ComesTo, Inputs}
use Rattle.union_laws.specs.declared.moves.Moves.{Moves}
use Rattle.union_laws.specs.Moving.{moved_node}
use Rattle.union_laws.specs.Shares.{nodes_before}
use Rattle.union_laws.specs.Union.{behind, no_program, united_all}
use Rattle.union_laws.proofs.KnownCalls.{runs_alone}
use Rattle.union_laws.proofs.MovedCalls.{there_is}
use Rattle.union_laws.proofs.Positions.{get_dropped, get_taken}
use Rattle.union_laws.proofs.SharedNets.{RunsAlone}
use Rattle.form_laws.specs.Unions.{AreInputsOfEach, own_inputs}
use Rattle.form_laws.proofs.OwnParts.{nodes_within, owner}
use Rattle.form_laws.proofs.SameTexts.{same_back, same_good}
use Rattle.form_laws.proofs.Standing.{StandsAt, same_values, stands_in_union}

pub all_there : {X : Type 0} (P : X → Type 0) (xs : List X) → All P xs → (n : ℕ) (x : X) → slice_get xs n ≡ Some x → P x
all_there P [] all n x found = cc
all_there P (y ∷ ys) all zero x found = (let same : y ≡ x = cc in subst P same (All-head P y ys all))
all_there P (y ∷ ys) all (suc n) x found = all_there P ys (All-tail P y ys all) n x found

none_beyond : {X : Type 0} (xs : List X) (n : ℕ) → length xs ≤ n → slice_get xs n ≡ None
none_beyond [] n far = refl
none_beyond (x ∷ xs) zero far = absurd (omega arith)
none_beyond (x ∷ xs) (suc n) far = none_beyond xs n (omega (arith, far))

taken_beyond : {X : Type 0} (count : ℕ) (xs : List X) (n : ℕ) → count ≤ n → slice_get (take count xs) n ≡ None
taken_beyond zero xs n far = refl
taken_beyond (suc count) [] n far = refl
taken_beyond (suc count) (x ∷ xs) zero far = absurd (omega arith)
taken_beyond (suc count) (x ∷ xs) (suc n) far = taken_beyond count xs n (omega (arith, far))

comes_as : (core : Core) (texts : List ℕ → List ℕ) (n : ℕ) (o p : Option NodeC) (good values : List Value) (bad other : Option ℕ)
    → o ≡ p → good ≡ values → bad ≡ other → ComesTo core texts n o good bad → ComesTo core texts n p values other
comes_as core texts n o p good values bad other node same line is =
    subst (λ q. ComesTo core texts n q values other) node
    (subst (λ vs. ComesTo core texts n o vs other) same (subst (λ b. ComesTo core texts n o good b) line is))

pub all_alone : (programs : List Core) → All IsWellFormed programs → All RunsAlone programs
all_alone programs formed = All-weaker IsWellFormed RunsAlone runs_alone programs formed

module _ (programs : List Core) (formed : All IsWellFormed programs) (place : ℕ) (program : Core) (found : slice_get programs place ≡ Some program)
    (coming : Inputs) where
  abbrev union : Core
  union = united_all programs

  abbrev own : Inputs
  own = own_inputs programs place program coming

  abbrev from : ℕ
  from = nodes_before programs place

  abbrev moves : Moves
  moves = behind (united_all (take place programs))

  pub stands : StandsAt moves program union
  stands = stands_in_union programs (all_alone programs formed) place program found

  pub program_formed : IsWellFormed program
  program_formed = all_there IsWellFormed programs formed place program found

  own_listed : (n : ℕ) → n < length program.nodes → listed own.good n ≡ listed coming.good (from + n)
  own_listed n within = ap (λ o. unwrap_or o []) (get_taken (length program.nodes) (drop from coming.good) n within ∙ get_dropped from coming.good n)

  pub own_bad : (n : ℕ) → n < length program.nodes → own.bad n ≡ coming.bad (from + n)
  own_bad n within = ap (λ b. if b then coming.bad (from + n) else None) (lt-ltb n (length program.nodes) within)

  bad_beyond : (n : ℕ) → length program.nodes ≤ n → own.bad n ≡ None
  bad_beyond n far = (
      let not_less : nat_lt n (length program.nodes) ≡ false = grind (arith, nat_tests) in
      ap (λ b. if b then coming.bad (from + n) else None) not_less)

  module _ (texts : List ℕ → List ℕ) (n : ℕ) (within : n < length program.nodes) where
    comes_alone : (node : NodeC) (good : List Value) (bad : Option ℕ)
        → ComesTo union texts (from + n) (Some (moved_node moves node)) good bad → ComesTo program texts n (Some node) good bad
    comes_alone (Rules b) good bad is = is
    comes_alone (To stream) good bad is = is
    comes_alone (From stream) good bad is =
        same_good union.types (type_at union (from + n)) program.types (type_at program n)
        (same_values moves program union stands program_formed n within) (texts stream.port) good bad is

    comes_there : (node : NodeC) (good : List Value) (bad : Option ℕ)
        → ComesTo program texts n (Some node) good bad → ComesTo union texts (from + n) (Some (moved_node moves node)) good bad
    comes_there (Rules b) good bad is = is
    comes_there (To stream) good bad is = is
    comes_there (From stream) good bad is =
        same_good program.types (type_at program n) union.types (type_at union (from + n))
        (same_back (same_values moves program union stands program_formed n within)) (texts stream.port) good bad is

    -- what comes to a node of a union comes to it in its program
    pub to_program : ComesTo union texts (from + n) (slice_get union.nodes (from + n)) (listed coming.good (from + n)) (coming.bad (from + n))
        → ComesTo program texts n (slice_get program.nodes n) (listed own.good n) (own.bad n)
    to_program is =
        let at = there_is program.nodes n within in
        let moved_is = comes_as union texts (from + n) (slice_get union.nodes (from + n)) (Some (moved_node moves at.0))
        (listed coming.good (from + n)) (listed coming.good (from + n)) (coming.bad (from + n)) (coming.bad (from + n))
        (stands.nodes n at.0 at.1) refl refl is in
        comes_as program texts n (Some at.0) (slice_get program.nodes n) (listed coming.good (from + n)) (listed own.good n) (coming.bad (from + n)) (own.bad n)
        (sym at.1) (sym (own_listed n within)) (sym (own_bad n within)) (comes_alone at.0 (listed coming.good (from + n)) (coming.bad (from + n)) moved_is)

    -- and the other way round
    pub to_union : ComesTo program texts n (slice_get program.nodes n) (listed own.good n) (own.bad n)
        → ComesTo union texts (from + n) (slice_get union.nodes (from + n)) (listed coming.good (from + n)) (coming.bad (from + n))
    to_union is =
        let at = there_is program.nodes n within in
        let here = comes_as program texts n (slice_get program.nodes n) (Some at.0) (listed own.good n) (listed coming.good (from + n)) (own.bad n)
        (coming.bad (from + n))
        at.1 (own_listed n within) (own_bad n within) is in
        comes_as union texts (from + n) (Some (moved_node moves at.0)) (slice_get union.nodes (from + n))
        (listed coming.good (from + n)) (listed coming.good (from + n)) (coming.bad (from + n)) (coming.bad (from + n))
        (sym (stands.nodes n at.0 at.1)) refl refl
        (comes_there at.0 (listed coming.good (from + n)) (coming.bad (from + n)) here)

  -- to a program comes what its texts bring to it alone
  pub own_are : (texts : List ℕ → List ℕ) → AreInputs union texts coming → AreInputs program texts own
  own_are texts is = record {
    count = (
        let few = length-take (length program.nodes) (drop from coming.good) in
        let rest = length-drop from coming.good in
        let inside = nodes_within no_program programs place program found in
        omega (arith, few, rest, inside, is.count));
    each = λ n. elim (cases_lt n (length program.nodes)) [
      | inl within ↦ to_program texts n within (is.each (from + n))
      | inr far ↦ comes_as program texts n None (slice_get program.nodes n) [] (listed own.good n) None (own.bad n)
          (sym (none_beyond program.nodes n far))
          (sym (ap (λ o. unwrap_or o []) (taken_beyond (length program.nodes) (drop from coming.good) n far)))
          (sym (bad_beyond n far)) (refl, refl)
    ];
  }

module _ (programs : List Core) (formed : All IsWellFormed programs) (texts : List ℕ → List ℕ) (coming : Inputs) where
  abbrev whole : Core
  whole = united_all programs

  pub inputs_of_each : AreInputs whole texts coming → AreInputsOfEach programs texts coming
  inputs_of_each is = record {
    count = is.count;
    each = λ place program found. own_are programs formed place program found coming texts is;
    none = λ n far. (
        let there = comes_as whole texts n (slice_get whole.nodes n) None (listed coming.good n) (listed coming.good n) (coming.bad n) (coming.bad n)
        (none_beyond whole.nodes n far) refl refl (is.each n) in
        there.1);
  }

  pub inputs_of_all : AreInputsOfEach programs texts coming → AreInputs whole texts coming
  inputs_of_all is = record {
    count = is.count;
    each = λ n. elim (cases_lt n (length whole.nodes)) [
      | inl within ↦ (
          let its = owner programs n within in
          subst (λ k. ComesTo whole texts k (slice_get whole.nodes k) (listed coming.good k) (coming.bad k)) (sym its.at)
          (to_union programs formed its.place its.program its.there coming texts its.node its.within ((is.each its.place its.program its.there).each its.node)))
      | inr far ↦ comes_as whole texts n None (slice_get whole.nodes n) [] (listed coming.good n) None (coming.bad n)
          (sym (none_beyond whole.nodes n far))
          (sym (ap (λ o. unwrap_or o []) (none_beyond coming.good n (omega (arith, far, is.count)))))
          (sym (is.none n far)) (refl, refl)
    ];
  }
