-- What stands for a value goes on to do so.
use Rattle.std.proofs.Common.{ℕ, List, [], ◌∷◌, ◌++◌, length}
use Rattle.hume_base.specs.declared.types.Value.{Value}
use Rattle.hume_base.specs.declared.types.Value.TheVariants as value
use Rattle.box_heap.specs.Heaps.{HeapView, HasObjects, Object}
use Rattle.box_heap.specs.Standing.{Stands, AllStand}
use Rattle.box_heap.proofs.Staying.{found_still, object_put}

mutual
  pub stands_still : {objects : List Object} {v : Value} {w : ℕ} (more : List Object) → Stands objects v w → Stands (objects ++ more) v w
  stands_still more (Stands.word w) = Stands.word w
  stands_still {objects = objects} more (Stands.tuple place found all) = Stands.tuple place (found_still objects more place _ found) (all_stand_still more all)
  stands_still {objects = objects} more (Stands.vector place found all) = Stands.vector place (found_still objects more place _ found)
      (all_stand_still more all)
  stands_still {objects = objects} more (Stands.con number place found all) = Stands.con number place (found_still objects more place _ found)
      (all_stand_still more all)

  pub all_stand_still : {objects : List Object} {vs : List Value} {ws : List ℕ} (more : List Object) → AllStand objects vs ws → AllStand (objects ++ more) vs ws
  all_stand_still more AllStand.none = AllStand.none
  all_stand_still more (AllStand.more one others) = AllStand.more (stands_still more one) (all_stand_still more others)

module _ (heap : HeapView) (objects : List Object) (values : List Value) (fields : List ℕ) (has : HasObjects heap objects)
    (stand : AllStand objects values fields) where
  pub tuple_stands : Stands (objects ++ (0, fields) ∷ []) (value.Tuple values) (length heap.words)
  tuple_stands = Stands.tuple (length heap.words) (object_put heap objects (0, fields) has) (all_stand_still ((0, fields) ∷ []) stand)

  pub vector_stands : Stands (objects ++ (0, fields) ∷ []) (value.Vector values) (length heap.words)
  vector_stands = Stands.vector (length heap.words) (object_put heap objects (0, fields) has) (all_stand_still ((0, fields) ∷ []) stand)

  pub con_stands : (number : ℕ) → Stands (objects ++ (number, fields) ∷ []) (value.Con number values) (length heap.words)
  con_stands number = Stands.con number (length heap.words) (object_put heap objects (number, fields) has) (all_stand_still ((number, fields) ∷ []) stand)
