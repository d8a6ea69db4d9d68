-- How `List` stands in a type that holds itself, as a tree whose nodes have lists of children: the toolchain asks for
-- these definitions, by these names, of each own container.
use mathlib.Core.Path.{◌≡◌, refl, sym}
use mathlib.Core.List.{List, []}
use mathlib.Core.Former.{Former, this, list, via, children}
use base.Stored.{code_map}
use denote.RattleType.{RattleType}
use denote.HoleLaws.{Alike}
use denote.HolePlaces.{Recodes, struct_places, laid}
use denote.Hole.Carrier.{listed, list-listed}
use denote.Hole.Fix.{over}
use denote.Param.Weighed.{Weighed, w_list}
use denote.Model.Placed.{view_places}
use Rattle.std.specs.formers.vec.Vec as vec
use Rattle.std.specs.declared.alloc.Global.{Global}
use Rattle.std.specs.contracts.alloc.Global as heap
use Rattle.std.specs.contracts.impls.GlobalAllocator.TheImpl.{ghosts}
use Rattle.hume_base.specs.declared.list.List.TheInside.{Inside}
use Rattle.hume_base.specs.declared.list.List.TheView.{view, invariant}
use Rattle.hume_base.specs.contracts.list.List as outer
use Rattle.hume_base.specs.contracts.list.List.TheInside as inner

-- contracts see a `List` as a list of what its elements are seen as
abbrev pub the_former : Former {0} → Former {0}
the_former element = list element

-- elements with a size make a list with one
abbrev pub the_weighed : {element : Former {0}} → Weighed element → Weighed (the_former element)
the_weighed size = w_list size

-- there is a list even where there is no element
pub the_empty : List ⊥
the_empty = []

-- the elements that a list holds
abbrev pub the_items : (X : Type 0) → List X → List X
the_items X elements = elements

pub the_items_listed : (X : Type 0) (elements : List X) → listed _ (children (the_former this) X elements) ≡ the_items X elements
the_items_listed X elements = list-listed X elements

-- the struct's one field is a `Vec` of the elements
abbrev vec_field : Former {0}
vec_field = via (vec.the_former this Global) Inside (λ X fields. fields.items) (λ X items. record { items = items }) (λ X _. refl) (λ X _. refl)

-- elements that lie in memory as others do make lists that lie as the others' lists do
module _ (R S : RattleType) (as_other : R.Denot → S.Denot) where
  pub the_places : Alike R S as_other → Alike (outer.the_row R) (outer.the_row S) ((the_former this).map R.Denot S.Denot as_other)
  the_places alike = view_places vec_field (list this) view (λ X Y _ _. refl) (λ X _. refl) R.Denot S.Denot as_other (outer.the_row R).coded
      (outer.the_row S).coded
      (invariant R.Denot) (invariant S.Denot) (λ _ _ _. refl) (λ _ _ _. refl) (λ _ _. tt) (λ _ _. tt)
      (over (inner.the_row R)) (over (inner.the_row S))
      (struct_places (inner.the_type R) (inner.the_type S) (vec.mapped as_other, tt) _ (λ _. refl) refl
      (laid _ _ _ (vec.the_places heap.the_row ghosts R S as_other alike), tt))

  pub the_codes_placed : Recodes R S as_other → Recodes (outer.the_row R) (outer.the_row S) ((the_former this).map R.Denot S.Denot as_other)
  the_codes_placed recodes elements = sym (code_map R.coded.code S.coded.code as_other (λ x. sym (recodes x)) elements)
