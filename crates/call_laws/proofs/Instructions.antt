-- Each machine on the way to an end for which there is room has room.
use Rattle.std.proofs.Common.{◌≡◌, ◌≤◌, ℕ, zero, suc, ◌-◌, length, Option, refl, ap, sym, ◌∙◌, subst, inl, inr}
use Rattle.box_code.specs.Machine.{Setting, Machine, Next, Goes, Ends, Broken, follow, run, step, used}
use Rattle.box_code.specs.Reading.{instr_at}
use Rattle.box_machine.specs.inner.Stepping.{EndsIn, Fits, HasRoom, ended}
use Rattle.box_machine.proofs.Ending.{goes_to_end, has_room, some_left}
use Rattle.call_laws.specs.Memory.{IsReached}
use Rattle.call_laws.proofs.StackHeights.{Lies, step_lies}

run_none : (s : Setting) (m : Machine) → run s zero m ≡ Goes m
unfolding run
run_none s m = refl

run_more : (s : Setting) (count : ℕ) (m : Machine) → run s (suc count) m ≡ follow (step s m) (run s count)
unfolding run
run_more s count m = refl

-- Objects and stack of the machine have no more words than that.
pub record IsWithin (row room : ℕ) (m : Machine) : Type 0 where
  pub heap : used m.objects ≤ room
  pub stack : length m.stack ≤ row

-- There is room for the machine, and for its end, which so many instructions come to.
pub record EndsWithin (s : Setting) (row room left : ℕ) (m : Machine) : Type 0 where
  pub ends : EndsIn (ended s left m) row room
  pub fits : Fits m row room
  pub low : length m.stack ≤ row

module _ (s : Setting) (row room : ℕ) where
  within : (left : ℕ) (m : Machine) → EndsWithin s row room left m → IsWithin row room m
  within left m e = record { heap = e.fits.heap; stack = e.low }

  module _ (left : ℕ) (m : Machine) (e : EndsWithin s row room left m) where
    lies_next : Lies row (step s m)
    lies_next = step_lies row s (instr_at s.code m.at) m e.low

    some : 1 ≤ left
    some = some_left s left row room m e.ends

    goes_within : (k : Machine) → step s m ≡ Goes k → EndsWithin s row room (left - 1) k
    goes_within k is =
        let fits : Fits k row room = subst (λ (next : Next). HasRoom next row room) is (has_room s left row room m e.ends) in
        let low : Lies row (Goes k) = subst (Lies row) is lies_next in
        record {
          ends = subst (λ (o : Option (ℕ × Machine)). EndsIn o row room) (goes_to_end s left m (Goes k) is some) e.ends;
          fits = fits;
          low = low fits.stack fits.handler;
        }

    ends_within : (k : Machine) → step s m ≡ Ends k → IsWithin row room k
    ends_within k is =
        let fits : Fits k row room = subst (λ (o : Option (ℕ × Machine)). EndsIn o row room) (goes_to_end s left m (Ends k) is some) e.ends in
        record { heap = fits.heap; stack = subst (Lies row) is lies_next }

  same_goes : (k m : Machine) → Goes k ≡ Goes m → k ≡ m
  same_goes k m is = cc

  same_ends : (k m : Machine) → Ends k ≡ Ends m → k ≡ m
  same_ends k m is = cc

  reached_more : (count left : ℕ) (first m : Machine) → EndsWithin s row room left first
      → ((k : Machine) → EndsWithin s row room (left - 1) k → IsReached s k count m → IsWithin row room m)
      → (next : Next) → step s first ≡ next → IsReached s first (suc count) m → IsWithin row room m
  reached_more count left first m e on (Goes k) is (inl to) =
      on k (goes_within left first e k is) (inl (sym (run_more s count first ∙ ap (λ (next : Next). follow next (run s count)) is) ∙ to))
  reached_more count left first m e on (Goes k) is (inr to) =
      on k (goes_within left first e k is) (inr (sym (run_more s count first ∙ ap (λ (next : Next). follow next (run s count)) is) ∙ to))
  reached_more count left first m e on (Ends k) is (inl to) =
      let wrong : Ends k ≡ Goes m = sym (run_more s count first ∙ ap (λ (next : Next). follow next (run s count)) is) ∙ to in cc
  reached_more count left first m e on (Ends k) is (inr to) =
      let same : Ends k ≡ Ends m = sym (run_more s count first ∙ ap (λ (next : Next). follow next (run s count)) is) ∙ to in
      subst (IsWithin row room) (same_ends k m same) (ends_within left first e k is)
  reached_more count left first m e on Broken is (inl to) =
      let wrong : Broken ≡ Goes m = sym (run_more s count first ∙ ap (λ (next : Next). follow next (run s count)) is) ∙ to in cc
  reached_more count left first m e on Broken is (inr to) =
      let wrong : Broken ≡ Ends m = sym (run_more s count first ∙ ap (λ (next : Next). follow next (run s count)) is) ∙ to in cc

  pub reached_within : (count left : ℕ) (first m : Machine) → EndsWithin s row room left first → IsReached s first count m → IsWithin row room m
  reached_within zero left first m e (inl is) =
      subst (IsWithin row room) (same_goes first m (sym (run_none s first) ∙ is)) (within left first e)
  reached_within zero left first m e (inr is) = let wrong : Goes first ≡ Ends m = sym (run_none s first) ∙ is in cc
  reached_within (suc count) left first m e reached =
      reached_more count left first m e (λ k next to. reached_within count (left - 1) k m next to) (step s first) refl reached
