-- The union of sound programs is sound, and can be run.
use Rattle.std.proofs.Common.{◌≡◌, ◌⊎◌, ℕ, zero, suc, ◌==◌, ◌≤◌, Bool, true, false, true≢false, List, [], ◌∷◌, map, length, None, refl, ap, sym, ◌∙◌, subst, inl, inr, arith}
use Rattle.std.proofs.lemmas.Bool.{ne_eqb}
use Rattle.hume_base.specs.Least.{IsLeast}
use Rattle.hume_base.specs.declared.types.ConDef.{ConDef}
use Rattle.hume_base.specs.declared.types.SumDef.{SumDef}
use Rattle.hume_model.specs.declared.core_tree.Core.{Core}
use Rattle.hume_model.specs.WireRules.{BreaksWires}
use Rattle.hume_net.specs.StatePlaces.{BoxesHandleAll}
use Rattle.hume_text.specs.Names.{HasNames, HaveNames, IsConName}
use Rattle.hume_exceptions.proofs.Handles.{handles_all}
use Rattle.hume_front.specs.declared.acceptance.Accepted.{Accepted}
use Rattle.hume_front.specs.Accepted.{IsAccepted}
use Rattle.hume_front.specs.Broken.{by_core}
use Rattle.hume_front.specs.inner.Checked.{BreaksCore}
use Rattle.hume_front.proofs.Sources.{fine_check, formed}
use Rattle.hume_front.proofs.Tables.{in_core_table}
use Rattle.hume_front.proofs.CoreRules.{fine_handlers, fine_wires}
use Rattle.hume_front.proofs.printable_lemmas.NamedConstructors.{have_names}
use Rattle.hume_front.proofs.printable_lemmas.Printable.{printable}
use Rattle.phase_workers.specs.Runnable.{IsRunnable}
use Rattle.wiring_check.proofs.TheWires.{are_wired, wires_agree}
use Rattle.union_laws.specs.Moving.{moved_con, moved_data}
use Rattle.union_laws.specs.Room.{HasRoom}
use Rattle.union_laws.specs.Union.{behind, followed_by, united}
use Rattle.union_laws.specs.declared.moves.Moves.{Moves}
use Rattle.union_laws.proofs.UnionFormed.{union_formed}
use Rattle.union_laws.proofs.UnionHandlers.{handlers_break}
use Rattle.union_laws.proofs.AloneInUnions.{found_in}
use Rattle.union_laws.proofs.UnionRules.{union_breaks}
use Rattle.union_laws.proofs.Unions.{was_mapped}
use Rattle.hume_base.specs.declared.rule.Refusal.{Refusal}
use Rattle.box_costs.specs.declared.cost.Cost.{Cost}
use Rattle.box_costs.specs.CostRules.{BreaksCosts}
use Rattle.space_costs.specs.declared.check.CostError.{CostError}
use Rattle.space_costs.specs.declared.check.CostError.TheVariants as costing
use Rattle.space_costs.specs.NodeCosts.{AreCosts, IsCostError}
use Rattle.wiring_check.specs.declared.check.WireError.{WireError}
use Rattle.wiring_check.specs.declared.check.WireError.TheVariants as wiring
use Rattle.wiring_check.specs.declared.wiring.Wiring.{Wiring}
use Rattle.wiring_check.specs.Wires.{IsWireError, IsWiringOf}
use Rattle.net_union.specs.declared.uniting.UniteError.{UniteError}
use Rattle.net_union.specs.declared.uniting.UniteError.TheVariants as why
use Rattle.union_front.specs.declared.union.Union.{Union}
use Rattle.union_front.specs.Unions.{IsInLimits, IsSound, IsUnion, StaysWithin, core_of}

-- constructors keep their names
moved_names : (moves : Moves) (sum : SumDef) → HasNames sum → HasNames (moved_data moves sum)
moved_names moves sum has = record {
  names = λ place con found. (let was = was_mapped (moved_con moves) sum.cons place con found in
      subst (λ (c : ConDef). IsConName c.name) was.2 (has.names place was.0 was.1));
  differ = λ i j first second at there same. (
      let one = was_mapped (moved_con moves) sum.cons i first at in
      let other = was_mapped (moved_con moves) sum.cons j second there in
      has.differ i j one.0 other.0 one.1 other.1
      (ap (λ (c : ConDef). c.name) one.2 ∙ same ∙ sym (ap (λ (c : ConDef). c.name) other.2)));
}

module _ (a b : Core) (first : IsSound a) (second : IsSound b) where
  union_names : HaveNames (united a b).types
  union_names number sum found = elim (found_in (moved_data (behind a)) a.types.sums b.types.sums number sum found) [
    | inl front ↦ first.names number sum front
    | inr back ↦ subst HasNames back.same (moved_names (behind a) back.element (second.names back.place back.element back.there))
  ]

  pub union_sound : HasRoom (united a b) → IsSound (united a b)
  union_sound room = record {
    formed = union_formed a b first.formed second.formed room;
    wires = λ finding broken. elim (union_breaks a b first.formed.frame.wires second.formed.frame.wires finding broken) [
      | inl one ↦ first.wires finding one
      | inr other ↦ second.wires finding other
    ];
    handlers = λ finding broken. elim (handlers_break a b first.formed second.formed finding broken) [
      | inl one ↦ first.handlers finding one
      | inr other ↦ second.handlers finding other
    ];
    names = union_names;
  }

pub sound_runs : (core : Core) → IsSound core → IsRunnable core
sound_runs core sound = record {
  formed = sound.formed;
  wired = are_wired core sound.wires;
  agree = wires_agree core sound.wires sound.formed.frame.wires;
  names = sound.names;
  printable = printable core sound.formed;
}

pub sound_handles : (core : Core) → IsSound core → BoxesHandleAll core
sound_handles core sound n b at = handles_all core sound.formed sound.handlers n b at

core_fine : (text : List ℕ) (accepted : Accepted) → IsAccepted text accepted → IsLeast (BreaksCore accepted.core) None
core_fine text accepted h = λ f b. h.fine f (by_core accepted.core h.core (in_core_table accepted.core f b))

-- cores of accepted sources are sound
pub accepted_sound : (text : List ℕ) (accepted : Accepted) → IsAccepted text accepted → IsSound accepted.core
accepted_sound text accepted h =
    let fine = core_fine text accepted h in
    record {
      formed = formed text accepted h;
      wires = fine_wires accepted.core fine;
      handlers = fine_handlers accepted.core fine;
      names = have_names text h.program.tokens accepted.program accepted.core h.program.read h.program.spelled (fine_check text accepted h) h.core;
    }

-- a core that breaks a rule of a kind breaks one

pub costs_break : (core : Core) (error : CostError) (refusal : Refusal) → error ≡ costing.Refused refusal → IsCostError core error
    → IsLeast (BreaksCosts core) None → ⊥
costs_break core error refusal is broken fine = let e = subst (IsCostError core) is broken in fine e.finding e.least.0

pub wires_break : (core : Core) (error : WireError) (refusal : Refusal) → error ≡ wiring.Refused refusal → IsWireError core error
    → IsLeast (BreaksWires core) None → ⊥
wires_break core error refusal is broken fine = let e = subst (IsWireError core) is broken in fine e.finding e.least.0

-- two cores side by side

module _ (a b core : Core) (first : IsSound a) (second : IsSound b) (same : core ≡ united a b) where
  pub united_sound : HasRoom (united a b) → IsSound core
  united_sound room = subst IsSound (sym same) (union_sound a b first second room)

  too_dear : (IsLeast (BreaksCosts core) None → ⊥) → IsInLimits (united a b) → ⊥
  too_dear dear limits = dear (subst (λ c. IsLeast (BreaksCosts c) None) (sym same) limits.bounds)

  -- why there are no bounds is why there is no union
  pub dear_error : (error : UniteError) → ((error ≡ why.OverLimit) × (IsLeast (BreaksCosts core) None → ⊥)) ⊎ (error ≡ why.NoMemory)
      → ((error ≡ why.OverLimit) × (IsInLimits (united a b) → ⊥)) ⊎ (error ≡ why.NoMemory)
  dear_error error (inl over) = inl (over.0, too_dear over.1)
  dear_error error (inr memory) = inr memory

  pub union_is : HasRoom (united a b) → (wires : Wiring) (costs : List Cost) → IsWiringOf core wires → AreCosts core costs → IsLeast (BreaksCosts core) None
      → IsUnion (united a b) (record { core = core; wiring = wires; costs = costs })
  union_is room wires costs its are fine =
      let sound = union_sound a b first second room in
      record {
        is_core = same;
        sound = sound;
        runnable = sound_runs (united a b) sound;
        handles = sound_handles (united a b) sound;
        wiring = subst (λ c. IsWiringOf c wires) same its;
        costs = subst (λ c. AreCosts c costs) same are;
        limits = record { room = room; bounds = subst (λ c. IsLeast (BreaksCosts c) None) same fine };
      }

pub no_room : (a b : Core) → (HasRoom (united a b) → ⊥) → IsInLimits (united a b) → ⊥
no_room a b none limits = none limits.room

-- the last of the programs
pub last_union : (core : Core) (programs : List Accepted) (next : Accepted) (later : List Accepted) (union : Union) → programs ≡ next ∷ later
    → length later ≡ 0 → IsUnion (united core next.core) union → IsUnion (followed_by core (map core_of programs)) union
last_union core programs next [] union are none is = subst (λ ps. IsUnion (followed_by core (map core_of ps)) union) (sym are) is
last_union core programs next (other ∷ later) union are none is = absurd (omega (arith, none))

-- no limit is passed with it
pub last_within : (core : Core) (programs : List Accepted) (next : Accepted) (later : List Accepted) (union : Union) → programs ≡ next ∷ later
    → length later ≡ 0 → IsUnion (united core next.core) union → StaysWithin core (map core_of programs)
last_within core programs next [] union are none is = subst (λ ps. StaysWithin core (map core_of ps)) (sym are) (is.limits, tt)
last_within core programs next (other ∷ later) union are none is = absurd (omega (arith, none))

-- nor with those behind it
pub later_within : (core : Core) (programs : List Accepted) (next : Accepted) (later : List Accepted) (union : Union) → programs ≡ next ∷ later
    → IsUnion (united core next.core) union → StaysWithin union.core (map core_of later) → StaysWithin core (map core_of programs)
later_within core programs next later union are is within =
    subst (λ ps. StaysWithin core (map core_of ps)) (sym are) (is.limits, subst (λ c. StaysWithin c (map core_of later)) is.is_core within)

-- whether any programs are left
pub none_left : (test : Bool) (count : ℕ) → test ≡ (count == 0) → test ≡ true → count ≡ 0
none_left test zero is here = refl
none_left test (suc count) is here = absurd (true≢false (sym here ∙ is ∙ ne_eqb (suc count) 0 (λ same. omega (arith, same))))

pub some_left : (test : Bool) (count : ℕ) → test ≡ (count == 0) → test ≡ false → 1 ≤ count
some_left test zero is not_here = absurd (true≢false (sym is ∙ not_here))
some_left test (suc count) is not_here = omega arith
