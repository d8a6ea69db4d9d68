-- The union of two well-formed programs is well formed where it is within the limits.
use Rattle.std.proofs.Common.{◌≡◌, inl, inr, ℕ, zero, suc, ◌+◌, ◌-◌, ◌<◌, ◌≤◌, nat_le, nat_lt, Bool, true, false, if◌then◌else◌, All, List, [], ◌∷◌, ◌++◌, length, map, sum, take, Option, Some, None, slice_get, refl, ap, sym, ◌∙◌, subst, arith}
use Rattle.std.specs.List.{list_all}
use Rattle.std.specs.Option.{option_map}
use Rattle.std.proofs.lemmas.Bool.{and_parts, lt-ltb, ltb-true}
use Rattle.std.proofs.lemmas.Bool.Decides.{nat_tests}
use Rattle.std.proofs.lemmas.List.{length-take, take-append-le}
use Rattle.std.proofs.lemmas.List.Elements.{All-append, All-drop, All-map, All-weaker}
use Rattle.std.proofs.lemmas.Option.{slice_get_within}
use Rattle.hume_base.specs.declared.types.Ty.{Ty}
use Rattle.hume_base.specs.declared.types.ConDef.{ConDef}
use Rattle.hume_base.specs.declared.types.SumDef.{SumDef}
use Rattle.hume_base.specs.Holding.{HoldSmaller, con_holds, holds_below}
use Rattle.hume_base.specs.Sizes.{HaveTheirSizes, named_size, written_size}
use Rattle.hume_model.specs.declared.core_tree.BoxC.{BoxC}
use Rattle.hume_model.specs.declared.core_tree.NodeC.{NodeC}
use Rattle.hume_model.specs.declared.core_tree.NodeC.TheVariants.{Rules, From, To}
use Rattle.hume_model.specs.declared.core_tree.WireC.{WireC}
use Rattle.hume_model.specs.declared.core_tree.ExnDef.{ExnDef}
use Rattle.hume_model.specs.declared.core_tree.FunC.{FunC}
use Rattle.hume_model.specs.declared.core_tree.Core.{Core}
use Rattle.hume_model.specs.declared.exceptions.TheConstants.{NO_CASE}
use Rattle.hume_model.specs.BoxTyping.{BoxHasFrame, BoxIsTyped}
use Rattle.hume_model.specs.Limits.{IsSmallData, IsSmallException, IsSmallFunction, IsSmallNode, IsWithinLimits}
use Rattle.hume_model.specs.OwnExceptions.{HasOwnExceptions, own_exceptions}
use Rattle.hume_model.specs.Typing.{EquationsHave, FunctionsAreTyped}
use Rattle.hume_model.specs.WellFormed.{HasSoundFrame, IsWellFormed}
use Rattle.hume_model.specs.WireEnds.{HasEnds}
use Rattle.union_laws.specs.declared.moves.Moves.{Moves}
use Rattle.union_laws.specs.Moving.{moved_box, moved_con, moved_data, moved_exception, moved_exn, moved_function, moved_node, moved_type, moved_wire}
use Rattle.union_laws.specs.Room.{HasRoom}
use Rattle.union_laws.specs.Union.{behind, declared_exceptions, united}
use Rattle.union_laws.proofs.AloneInUnions.{calls_down, found_in}
use Rattle.union_laws.proofs.MovedParts.{box_moved, ends_of_moved, frame_moved, small_data, small_exception, small_function, small_node}
use Rattle.union_laws.proofs.MovedTyping.{TreesStandIn, equations_moved}
use Rattle.union_laws.proofs.MovedValues.{data_size_same}
use Rattle.union_laws.proofs.Positions.{get_dropped, get_front, get_taken}
use Rattle.union_laws.proofs.TypeFolds.{moved_holds}
use Rattle.union_laws.proofs.Unions.{in_back, in_front}
use Rattle.union_laws.proofs.Unmoved.{box_same, data_same, exception_same, exn_unmoved, function_same, node_same, unmoved, wire_same}

-- types move within higher numbers

fields_within : (moves : Moves) (bound higher : ℕ) → ((n : ℕ) → nat_lt n bound ≡ true → nat_lt (moves.types + n) higher ≡ true)
    → (tys : List Ty) → list_all (holds_below bound) tys ≡ true → list_all (holds_below higher) (map (moved_type moves) tys) ≡ true
fields_within moves bound higher within [] all = refl
fields_within moves bound higher within (ty ∷ tys) all =
    let parts = and_parts (holds_below bound ty) (list_all (holds_below bound) tys) all in
    rw (moved_holds moves bound higher within ty parts.0) (fields_within moves bound higher within tys parts.1)

cons_within : (moves : Moves) (bound higher : ℕ) → ((n : ℕ) → nat_lt n bound ≡ true → nat_lt (moves.types + n) higher ≡ true)
    → (cons : List ConDef) → list_all (con_holds bound) cons ≡ true → list_all (con_holds higher) (map (moved_con moves) cons) ≡ true
cons_within moves bound higher within [] all = refl
cons_within moves bound higher within (con ∷ cons) all =
    let parts = and_parts (con_holds bound con) (list_all (con_holds bound) cons) all in
    rw (fields_within moves bound higher within con.fields parts.0) (cons_within moves bound higher within cons parts.1)

-- exceptions

plain_same : (moves : Moves) (exn : ExnDef) → exn.carries ≡ None → moved_exception moves exn ≡ exn
plain_same moves exn none = λ i. record exn { carries = (ap (option_map (moved_type moves)) none ∙ sym none) i }

abbrev carries_of : Option ExnDef → Option Ty
carries_of None = None
carries_of (Some exn) = exn.carries

own_same : (n : ℕ) (exn : ExnDef) → slice_get own_exceptions n ≡ Some exn → (moves : Moves) → moved_exception moves exn ≡ exn
own_same zero exn found moves = plain_same moves exn (sym (ap carries_of found))
own_same (suc zero) exn found moves = plain_same moves exn (sym (ap carries_of found))
own_same (suc (suc zero)) exn found moves = plain_same moves exn (sym (ap carries_of found))
own_same (suc (suc (suc n))) exn found moves = cc

module _ (a b : Core) (first : HasSoundFrame a) (second : HasSoundFrame b) where
  abbrev whole : Core
  whole = united a b

  pub own_long : (core : Core) → HasOwnExceptions core → 3 ≤ length core.exns
  own_long core own = (let long : length (take 3 core.exns) ≡ 3 = ap length own in let is = length-take 3 core.exns in omega (arith, long, is))

  low_exn : (n : ℕ) (exn : ExnDef) → n ≤ NO_CASE → slice_get b.exns n ≡ Some exn → slice_get whole.exns n ≡ Some (moved_exception (behind a) exn)
  low_exn n exn low found =
      let within : n < 3 = omega arith in
      let own : slice_get own_exceptions n ≡ Some exn = ap (λ xs. slice_get xs n) (sym second.exceptions) ∙ get_taken 3 b.exns n within ∙ found in
      let there : slice_get a.exns n ≡ Some exn = sym (get_taken 3 a.exns n within) ∙ ap (λ xs. slice_get xs n) first.exceptions ∙ own in
      get_front a.exns (map (moved_exception (behind a)) (declared_exceptions b)) n exn there ∙ ap Some (sym (own_same n exn own (behind a)))

  high_exn : (n : ℕ) (exn : ExnDef) → 3 ≤ n → slice_get b.exns n ≡ Some exn
      → slice_get whole.exns ((length a.exns - length own_exceptions) + n) ≡ Some (moved_exception (behind a) exn)
  high_exn n exn high found =
      let long = own_long a first.exceptions in
      let at : (length a.exns - length own_exceptions) + n ≡ length a.exns + (n - 3) = omega (arith, long, high) in
      let from : 3 + (n - 3) ≡ n = omega (arith, high) in
      ap (slice_get whole.exns) at
      ∙ in_back (moved_exception (behind a)) a.exns (declared_exceptions b) (n - 3) exn (get_dropped 3 b.exns (n - 3) ∙ ap (slice_get b.exns) from ∙ found)

  exn_behind : (n : ℕ) (exn : ExnDef) → slice_get b.exns n ≡ Some exn → slice_get whole.exns (moved_exn (behind a) n) ≡ Some (moved_exception (behind a) exn)
  exn_behind n exn found = by (nat_le n NO_CASE) refl
    where
      by : (low : Bool) → nat_le n NO_CASE ≡ low → slice_get whole.exns (if low then n else (length a.exns - length own_exceptions) + n) ≡ Some (moved_exception (behind a) exn)
      by true is = low_exn n exn (let low : n ≤ NO_CASE = grind (arith, nat_tests) in low) found
      by false is = high_exn n exn (let high : 3 ≤ n = grind (arith, nat_tests) in high) found

  pub left_trees : TreesStandIn unmoved a whole
  left_trees = record {
    types = λ n sum found. in_front (moved_data unmoved) a.types.sums (map (moved_data (behind a)) b.types.sums) n (0 + n) sum (omega arith) (data_same sum) found;
    funs = λ n function found. in_front (moved_function unmoved) a.funs (map (moved_function (behind a)) b.funs) n (0 + n) function (omega arith) (function_same function) found;
    exns = λ n exn found.
        in_front (moved_exception unmoved) a.exns (map (moved_exception (behind a)) (declared_exceptions b)) n (moved_exn unmoved n) exn (exn_unmoved n) (exception_same exn) found;
  }

  pub right_trees : TreesStandIn (behind a) b whole
  right_trees = record {
    types = λ n sum found. in_back (moved_data (behind a)) a.types.sums b.types.sums n sum found;
    funs = λ n function found. in_back (moved_function (behind a)) a.funs b.funs n function found;
    exns = exn_behind;
  }

  -- nodes and wires, wherever they stand

  left_nodes : (n : ℕ) (node : NodeC) → slice_get a.nodes n ≡ Some node → slice_get whole.nodes (0 + n) ≡ Some (moved_node unmoved node)
  left_nodes n node found = in_front (moved_node unmoved) a.nodes (map (moved_node (behind a)) b.nodes) n (0 + n) node (omega arith) (node_same node) found

  right_nodes : (n : ℕ) (node : NodeC) → slice_get b.nodes n ≡ Some node → slice_get whole.nodes (length a.nodes + n) ≡ Some (moved_node (behind a) node)
  right_nodes n node found = in_back (moved_node (behind a)) a.nodes b.nodes n node found

  module _ (P Q : BoxC → Type 0) (R : BoxC → Type 0) (left : (box : BoxC) → P box → R (moved_box unmoved box)) (right : (box : BoxC) → Q box → R (moved_box (behind a) box)) where
    back_box : ((n : ℕ) (box : BoxC) → slice_get b.nodes n ≡ Some (Rules box) → Q box)
        → (n : ℕ) (box : BoxC) (node : NodeC) → slice_get b.nodes n ≡ Some node → moved_node (behind a) node ≡ Rules box → R box
    back_box each n box (Rules other) there same = (let is : moved_box (behind a) other ≡ box = cc in subst R is (right other (each n other there)))
    back_box each n box (From stream) there same = cc
    back_box each n box (To stream) there same = cc

    -- what holds of each box
    each_box : ((n : ℕ) (box : BoxC) → slice_get a.nodes n ≡ Some (Rules box) → P box) → ((n : ℕ) (box : BoxC) → slice_get b.nodes n ≡ Some (Rules box) → Q box)
        → (n : ℕ) (box : BoxC) → slice_get whole.nodes n ≡ Some (Rules box) → R box
    each_box fronts backs n box found = elim (found_in (moved_node (behind a)) a.nodes b.nodes n (Rules box) found) [
      | inl front ↦ subst R (box_same box) (left box (fronts n box front))
      | inr back ↦ back_box backs back.place box back.element back.there back.same
    ]

  ends : (w : ℕ) (wire : WireC) → slice_get whole.wires w ≡ Some wire → HasEnds whole wire
  ends w wire found = elim (found_in (moved_wire (behind a)) a.wires b.wires w wire found) [
    | inl front ↦ subst (HasEnds whole) (wire_same wire) (ends_of_moved unmoved a whole left_trees first.holds left_nodes wire (first.wires w wire front))
    | inr back ↦ subst (HasEnds whole) back.same (ends_of_moved (behind a) b whole right_trees second.holds right_nodes back.element (second.wires back.place back.element back.there))
  ]

  -- types

  all_hold : HoldSmaller whole.types
  all_hold number sum found = elim (found_in (moved_data (behind a)) a.types.sums b.types.sums number sum found) [
    | inl front ↦ first.holds number sum front
    | inr back ↦
        (let moved_cons = cons_within (behind a) back.place (length a.types.sums + back.place)
        (λ n known. let less : n < back.place = ltb-true n back.place known in lt-ltb (length a.types.sums + n) (length a.types.sums + back.place) (omega (arith, less)))
        back.element.cons (second.holds back.place back.element back.there) in
        (λ i. list_all (con_holds (back.at i)) (sym back.same i).cons) ∙ moved_cons)
  ]

  all_sized : HaveTheirSizes whole.types
  all_sized number sum found = elim (found_in (moved_data (behind a)) a.types.sums b.types.sums number sum found) [
    | inl front ↦
        (let within : number < length a.types.sums = slice_get_within a.types.sums number sum front in
        let at : number ≡ 0 + number = omega arith in
        first.sizes number sum front
        ∙ ap written_size (sym (ap (named_size whole.types (length whole.types.sums)) at
        ∙ data_size_same unmoved a.types whole.types left_trees.types first.holds number (lt-ltb number (length a.types.sums) within))))
    | inr back ↦
        (let within : back.place < length b.types.sums = slice_get_within b.types.sums back.place back.element back.there in
        ap (λ (s : SumDef). s.words) (sym back.same)
        ∙ second.sizes back.place back.element back.there
        ∙ ap written_size (sym (ap (named_size whole.types (length whole.types.sums)) back.at
        ∙ data_size_same (behind a) b.types whole.types right_trees.types second.holds back.place (lt-ltb back.place (length b.types.sums) within))))
  ]

  own_first : HasOwnExceptions whole
  own_first = take-append-le 3 a.exns (map (moved_exception (behind a)) (declared_exceptions b)) (own_long a first.exceptions) ∙ first.exceptions

  -- limits

  in_both : {X Y : Type 0} (P Q : X → Type 0) (f : Y → X) (S : Y → Type 0) (xs : List X) (ys : List Y)
      → ((x : X) → P x → Q x) → ((y : Y) → S y → Q (f y)) → All P xs → All S ys → All Q (xs ++ map f ys)
  in_both P Q f S xs ys front back all_front all_back =
      All-append Q xs (map f ys) (All-weaker P Q front xs all_front) (All-map Q f ys (All-weaker S (λ y. Q (f y)) back ys all_back))

  all_small : HasRoom whole → IsWithinLimits whole
  all_small room = record {
    functions = room.functions;
    exceptions = room.exceptions;
    nodes = room.nodes;
    wires = room.wires;
    words = room.words;
    each_data_type = λ n sum found. elim (found_in (moved_data (behind a)) a.types.sums b.types.sums n sum found) [
      | inl front ↦
          (let at : 0 + n ≡ n = omega arith in
          subst (λ k. IsSmallData whole k sum) at (subst (IsSmallData whole (0 + n)) (data_same sum)
          (small_data unmoved a whole left_trees first.holds n sum front (first.limits.each_data_type n sum front))))
      | inr back ↦
          subst (λ k. IsSmallData whole k sum) (sym back.at) (subst (IsSmallData whole (length a.types.sums + back.place)) back.same
          (small_data (behind a) b whole right_trees second.holds back.place back.element back.there (second.limits.each_data_type back.place back.element back.there)))
    ];
    each_exception = in_both (IsSmallException a.types) (IsSmallException whole.types) (moved_exception (behind a)) (IsSmallException b.types) a.exns (declared_exceptions b)
        (λ exn is. subst (IsSmallException whole.types) (exception_same exn) (small_exception unmoved a whole left_trees first.holds exn is))
        (small_exception (behind a) b whole right_trees second.holds)
        first.limits.each_exception (All-drop (IsSmallException b.types) (length own_exceptions) b.exns second.limits.each_exception);
    each_function = in_both (IsSmallFunction a.types) (IsSmallFunction whole.types) (moved_function (behind a)) (IsSmallFunction b.types) a.funs b.funs
        (λ function is. subst (IsSmallFunction whole.types) (function_same function) (small_function unmoved a whole left_trees first.holds function is))
        (small_function (behind a) b whole right_trees second.holds)
        first.limits.each_function second.limits.each_function;
    each_node = in_both (IsSmallNode a.types) (IsSmallNode whole.types) (moved_node (behind a)) (IsSmallNode b.types) a.nodes b.nodes
        (λ node is. subst (IsSmallNode whole.types) (node_same node) (small_node unmoved a whole left_trees first.holds node is))
        (small_node (behind a) b whole right_trees second.holds)
        first.limits.each_node second.limits.each_node;
  }

  union_frame : HasRoom whole → HasSoundFrame whole
  union_frame room = record {
    holds = all_hold;
    sizes = all_sized;
    exceptions = own_first;
    boxes = each_box (BoxHasFrame a) (BoxHasFrame b) (BoxHasFrame whole) (frame_moved unmoved a whole left_trees first.holds)
        (frame_moved (behind a) b whole right_trees second.holds) first.boxes second.boxes;
    wires = ends;
    limits = all_small room;
  }

  all_typed : FunctionsAreTyped a → FunctionsAreTyped b → FunctionsAreTyped whole
  all_typed one two number function found = elim (found_in (moved_function (behind a)) a.funs b.funs number function found) [
    | inl front ↦ subst (λ (f : FunC). EquationsHave whole f f.equations) (function_same function)
        (equations_moved unmoved a whole left_trees first.holds function (one number function front))
    | inr back ↦ subst (λ (f : FunC). EquationsHave whole f f.equations) back.same
        (equations_moved (behind a) b whole right_trees second.holds back.element (two back.place back.element back.there))
  ]

  pub each_typed : ((n : ℕ) (box : BoxC) → slice_get a.nodes n ≡ Some (Rules box) → BoxIsTyped a box) → ((n : ℕ) (box : BoxC) → slice_get b.nodes n ≡ Some (Rules box) → BoxIsTyped b box)
      → (n : ℕ) (box : BoxC) → slice_get whole.nodes n ≡ Some (Rules box) → BoxIsTyped whole box
  each_typed one two =
      each_box (BoxIsTyped a) (BoxIsTyped b) (BoxIsTyped whole) (box_moved unmoved a whole left_trees first.holds) (box_moved (behind a) b whole right_trees second.holds) one two

pub union_formed : (a b : Core) → IsWellFormed a → IsWellFormed b → HasRoom (united a b) → IsWellFormed (united a b)
union_formed a b first second room = record {
  frame = union_frame a b first.frame second.frame room;
  calls = calls_down a b first.calls second.calls;
  functions = all_typed a b first.frame second.frame first.functions second.functions;
  boxes = each_typed a b first.frame second.frame first.boxes second.boxes;
}
