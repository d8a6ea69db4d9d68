-- How `Shared` stands in a type that holds itself, as a tree whose nodes have a child: the toolchain asks for these
-- definitions, by these names, of each own container.
use mathlib.Core.Path.{refl}
use mathlib.Core.Former.{Former, this, const, pair, via}
use base.Stored.{gnil}
use base.Fml.{ftrue}
use denote.RattleType.{RattleType}
use denote.Memory.{part_of}
use denote.RawPtr.{Ptr}
use denote.Sharing.{nothing}
use denote.HoleLaws.{Alike}
use denote.HolePlaces.{Recodes, struct_places, laid, one_value}
use denote.Hole.Fix.{over}
use denote.Param.Weighed.{Weighed}
use denote.Model.Placed.{view_places}
use Rattle.std.specs.declared.sync.Arc as std_arc
use Rattle.std.specs.contracts.sync.Arc as std_row
use Rattle.std.specs.declared.alloc.Global.{Global}
use Rattle.std.specs.contracts.alloc.Global as heap
use Rattle.std.specs.contracts.impls.GlobalAllocator.TheImpl.{ghosts}
use Rattle.hume_base.specs.declared.shared.Shared.TheInside.{Inside}
use Rattle.hume_base.specs.declared.shared.Shared.TheView.{view, invariant}
use Rattle.hume_base.specs.contracts.shared.Shared as outer
use Rattle.hume_base.specs.contracts.shared.Shared.TheInside as inner

-- contracts see a `Shared` as the value in it
abbrev pub the_former : Former {0} → Former {0}
the_former value = value

abbrev pub the_weighed : {value : Former {0}} → Weighed value → Weighed (the_former value)
the_weighed size = size

-- the struct's one field is std's `Arc`: a pointer, and the value
abbrev arc_field : Former {0}
arc_field = via (pair (const Ptr) this) Inside
    (λ X fields. (fields.inner.ptr, fields.inner.value))
    (λ X parts. record { inner = record { ptr = parts.0; value = parts.1 } }) (λ X _. refl) (λ X _. refl)

-- the same pointer with another value
abbrev revalued : {X Y : Type 0} → std_arc.Arc X Global → Y → std_arc.Arc Y Global
revalued from value = record { ptr = from.ptr; value = value }

abbrev std_arc_of : RattleType → RattleType
std_arc_of R = std_row.the_row R heap.the_row ghosts

-- values that lie in memory as others do make shared ones that lie as the others' do
module _ (R S : RattleType) (as_other : R.Denot → S.Denot) where
  std_arc_places : Alike R S as_other → Alike (std_arc_of R) (std_arc_of S) (λ from. revalued from (as_other from.value))
  unfolding part_of
  std_arc_places alike = record {
    mir_same = λ i. (std_arc_of (one_value R (alike.mir_same i) (λ _. ftrue) (λ _ _. nothing) gnil)).mir;
    own_same = λ from i. (std_arc_of (one_value R (alike.mir_same i) (alike.own_same from.value i) (alike.shr_same from.value i) gnil)).own_val
        (revalued from tt);
    shr_same = λ from i. (std_arc_of (one_value R (alike.mir_same i) (alike.own_same from.value i) (alike.shr_same from.value i) gnil)).shr_at
        (revalued from tt);
  }

  pub the_places : Alike R S as_other → Alike (outer.the_row R) (outer.the_row S) ((the_former this).map R.Denot S.Denot as_other)
  the_places alike = view_places arc_field this view (λ X Y _ _. refl) (λ X _. refl) R.Denot S.Denot as_other (outer.the_row R).coded (outer.the_row S).coded
      (invariant R.Denot) (invariant S.Denot) (λ _ _ _. refl) (λ _ _ _. refl) (λ _ _. tt) (λ _ _. tt)
      (over (inner.the_row R)) (over (inner.the_row S))
      (struct_places (inner.the_type R) (inner.the_type S) ((λ from. revalued from (as_other from.value)), tt) _ (λ _. refl) refl
      (laid _ _ _ (std_arc_places alike), tt))

  pub the_codes_placed : Recodes R S as_other → Recodes (outer.the_row R) (outer.the_row S) ((the_former this).map R.Denot S.Denot as_other)
  the_codes_placed recodes value = recodes value
