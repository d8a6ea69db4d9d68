-- What the last instruction leaves.
use Rattle.std.proofs.Common.{◌≡◌, ℕ, ◌-◌, ◌≤◌, nat_le, Bool, true, false, if◌then◌else◌, List, length, take, Option, Some, None, refl, ap, sym, ◌∙◌, arith}
use Rattle.std.proofs.lemmas.Bool.{leb-true}
use Rattle.std.proofs.lemmas.List.{length-take-le}
use Rattle.hume_base.specs.declared.types.Ty.{Ty}
use Rattle.hume_base.specs.declared.types.Types.{Types}
use Rattle.box_heap.specs.Heaps.{HeapView}
use Rattle.box_heap.specs.Stacks.{under, last}
use Rattle.box_heap.specs.Outputs.{OutputView}
use Rattle.box_code.specs.declared.program.BoxProgram.{BoxProgram}
use Rattle.box_code.specs.Machine.{Setting, setting_of, Machine, Broken, ended as ended_with, flat_outs, outs_in}
use Rattle.box_machine.specs.declared.registers.Registers.{Registers}
use Rattle.box_machine.specs.Running.{HaveRoom, with_outputs}
use Rattle.box_machine.specs.inner.Stepping.{by_next, finished, machine_in, objects_in}
use Rattle.box_machine.specs.inner.PutOutputs.{HoldsEnd, OutsFit, on_top}
use Rattle.box_machine.proofs.Effects.{under_front, last_front}

-- the words on top are those of outputs

record Finish (s : Setting) (left mask : ℕ) (m : Machine) (end : ℕ × Machine) : Type 0 where
  enough : outs_in mask s.outs ≤ length m.stack
  flat : List (Option (List ℕ))
  flat_is : flat_outs s.types m.objects s.outs mask (last (outs_in mask s.outs) m.stack) ≡ Some flat
  end_is : ◌≡◌ {A = ℕ × Machine} (
    left,
    record {
      at = m.at;
      stack = under
          (outs_in mask s.outs) m.stack;
      peak = m.peak;
      objects = m.objects;
      outs = flat;
      raised = m.raised;
    },
  ) end

finish_parts : (s : Setting) (left mask : ℕ) (m : Machine) (end : ℕ × Machine) → finished s left mask m ≡ Some end → Finish s left mask m end
finish_parts s left mask m end = by_test (nat_le count (length m.stack)) refl
  where
    count : ℕ
    count = outs_in mask s.outs

    by_flat : (o : Option (List (Option (List ℕ)))) → flat_outs s.types m.objects s.outs mask (last (outs_in mask s.outs) m.stack) ≡ o
        → outs_in mask s.outs ≤ length m.stack
        → by_next left (ended_with m (under (outs_in mask s.outs) m.stack) o) (λ n. None) ≡ Some end → Finish s left mask m end
    by_flat None flat_is enough is = cc
    by_flat (Some flat) flat_is enough is = record { enough = enough; flat = flat; flat_is = flat_is; end_is = cc }

    by_test : (b : Bool) → nat_le (outs_in mask s.outs) (length m.stack) ≡ b
        → by_next left (if b then ended_with m (under (outs_in mask s.outs) m.stack) (flat_outs s.types m.objects s.outs mask (last
        (outs_in mask s.outs) m.stack)) else Broken) (λ n. None) ≡ Some end
        → Finish s left mask m end
    by_test true test is = by_flat (flat_outs s.types m.objects s.outs mask (last (outs_in mask s.outs) m.stack)) refl (leb-true (outs_in mask s.outs)
        (length m.stack) test) is
    by_test false test is = cc

module _ (types : Types) (program : BoxProgram) (r : Registers) (words : List ℕ) (heap : HeapView) (mask left count : ℕ) (tys : List Ty) (end : ℕ × Machine)
    (tys_are : tys ≡ program.outs) (count_is : count ≡ outs_in mask tys) (top : r.top ≤ length words)
    (is : finished (setting_of types program) left mask (machine_in r words heap) ≡ Some end) where
  parts : Finish (setting_of types program) left mask (machine_in r words heap) end
  parts = finish_parts (setting_of types program) left mask (machine_in r words heap) end is

  same_count : outs_in mask program.outs ≡ count
  same_count = ap (outs_in mask) (sym tys_are) ∙ sym count_is

  pub few : count ≤ r.top
  few =
      let enough : outs_in mask program.outs ≤ length (take r.top words) = parts.enough in
      omega (arith, enough, same_count, length-take-le r.top words top)

  outs_are : parts.flat ≡ end.1.outs
  outs_are = ap (λ (e : ℕ × Machine). e.1.outs) parts.end_is

  flat_is : flat_outs types (objects_in heap) tys mask (on_top count words r.top) ≡ Some end.1.outs
  flat_is =
      let slice : last (outs_in mask program.outs) (take r.top words) ≡ on_top count words r.top = ap (λ n. last n (take r.top words)) same_count
      ∙ last_front words r.top count top few in
      (λ i. flat_outs types (objects_in heap) (tys_are i) mask (sym slice i)) ∙ parts.flat_is ∙ ap Some outs_are

  pub outs_fit : (outputs : List OutputView) → HaveRoom outputs end.1.outs
      → OutsFit (flat_outs types (objects_in heap) tys mask (on_top count words r.top)) outputs end.1.outs
  outs_fit outputs room = record { is = flat_is; room = room }

  pub holds_end : (outputs new : List OutputView)
      → ((flat : List (Option (List ℕ))) → flat_outs types (objects_in heap) tys mask (on_top count words r.top) ≡ Some flat → new ≡ with_outputs outputs flat)
      → HoldsEnd end left (record { at = r.at; top = r.top - count; peak = r.peak; raised = r.raised }) words heap outputs new
  holds_end outputs new written = record {
    left_is = sym (ap (λ (e : ℕ × Machine). e.0) parts.end_is);
    stack = sym (ap (λ (e : ℕ × Machine). e.1.stack) parts.end_is) ∙ ap (λ n. under n (take r.top words)) same_count ∙ under_front words r.top count top;
    peak = sym (ap (λ (e : ℕ × Machine). e.1.peak) parts.end_is);
    objects = sym (ap (λ (e : ℕ × Machine). e.1.objects) parts.end_is);
    raised = sym (ap (λ (e : ℕ × Machine). e.1.raised) parts.end_is);
    outputs = written end.1.outs flat_is;
  }
