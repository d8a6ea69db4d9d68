-- Seats of a locker: which hold nothing, and which have just claimed an item.
use Rattle.std.proofs.Common.{◌≡◌, ℕ, ◌<◌, [], ◌∷◌, Option, Some, None, sym, subst, refl, ap, ◌∙◌}
use mathlib.Core.Option.{some, some-ne-none}
use Rattle.atomic_table.specs.Table.{Me}
use Rattle.atomic_table.specs.declared.shared.Seat.{Seat}
use Rattle.turn_locker.specs.declared.view.View.{View}
use Rattle.turn_locker.specs.Held.{held_at}
use Rattle.turn_locker.specs.Seats.{IsSeatOf, LockerView, outs_of, view_of}
use Rattle.turn_locker.specs.Views.{HoldsNothing, claims}
use Rattle.turn_locker.proofs.Updates.{held_here}

module _ {T : Type 0} where
  -- no slot is out with a seat that holds nothing
  pub nothing_out : (locker : LockerView) (seat : Seat (Option T) View) → IsSeatOf locker seat → HoldsNothing (view_of seat) → seat.me.1 ≡ []
  nothing_out locker seat own free = own.slots ∙ by (view_of seat).out refl
    where
      by : (o : Option ℕ) → (view_of seat).out ≡ o → outs_of {T = T} (view_of seat).out ≡ []
      by None e = ap outs_of e
      by (Some item) e = let h = own.out_held item e in absurd (some-ne-none h.0 (sym h.1 ∙ ap (held_at item) free.0))

  -- a seat that has claimed an item, whose slot is out and empty
  pub claims_seat : (locker : LockerView) (seat : Seat (Option T) View) (item time : ℕ) (v : View) → seat.table_id ≡ locker.table → v.plan ≡ locker.plan
      → 0 < v.share
      → seat.me ≡ (claims item time v, (item, None) ∷ []) → IsSeatOf locker seat
  claims_seat locker seat item time v table plan share is = record {
    table = table;
    plan = ap (λ (m : Me (Option T) View). m.0.plan) is ∙ plan;
    share = subst (λ (m : Me (Option T) View). 0 < m.0.share) (sym is) share;
    out_held = λ j o. (time, ap (λ (m : Me (Option T) View). held_at j m.0.held) is ∙ here j (sym (ap (λ (m : Me (Option T) View). m.0.out) is) ∙ o));
    slots = ap (λ (m : Me (Option T) View). m.1) is ∙ ap (λ (m : Me (Option T) View). outs_of m.0.out) (sym is);
  }
    where
      here : (j : ℕ) → Some item ≡ Some j → held_at j ((item, time) ∷ v.held) ≡ some time
      here j e = subst (λ (q : ℕ). held_at q ((item, time) ∷ v.held) ≡ some time) (let same : item ≡ j = cc e in same) (held_here item time v.held)
