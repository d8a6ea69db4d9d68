-- A union breaks no rule of handlers that neither of its programs breaks.
use Rattle.std.proofs.Common.{◌≡◌, ◌≢◌, ◌⊎◌, inl, inr, ℕ, ◌+◌, ◌-◌, ◌<◌, ◌≤◌, ◌||◌, nat_le, Bool, true, false, if◌then◌else◌, List, [], ◌∷◌, length, map, Some, slice_get, refl, ap, sym, ◌∙◌, subst, arith}
use Rattle.std.specs.List.{list_all}
use Rattle.std.proofs.lemmas.Bool.{and_parts, cases_lt, ne_eqb}
use Rattle.std.proofs.lemmas.Bool.Decides.{nat_tests}
use Rattle.std.proofs.lemmas.List.{length-append, length-drop, length-map}
use Rattle.hume_base.specs.declared.finding.Finding.{Finding}
use Rattle.hume_base.specs.declared.types.Ty.{Ty}
use Rattle.hume_model.specs.declared.core_tree.Res.{Res}
use Rattle.hume_model.specs.declared.core_tree.RuleC.{RuleC}
use Rattle.hume_model.specs.declared.core_tree.HandC.{HandC}
use Rattle.hume_model.specs.declared.core_tree.BoxC.{BoxC}
use Rattle.hume_model.specs.declared.core_tree.NodeC.{NodeC}
use Rattle.hume_model.specs.declared.core_tree.NodeC.TheVariants.{Rules, From, To}
use Rattle.hume_model.specs.declared.core_tree.Core.{Core}
use Rattle.hume_model.specs.declared.exceptions.TheConstants.{DIV_ZERO, NO_CASE, RANGE}
use Rattle.hume_model.specs.BoxTyping.{port_types}
use Rattle.hume_model.specs.HandlerRules.{BreaksHandlers, LeavesUnhandled, OfBox, RaisesAgain, has_handler}
use Rattle.hume_model.specs.Limits.{IsSmallBox, IsSmallFunction, IsSmallNode}
use Rattle.hume_model.specs.PartLimits.{is_written_position, is_written_result, is_written_rule}
use Rattle.hume_model.specs.Raising.{result_may_raise}
use Rattle.hume_model.specs.ResultTyping.{GivesOutputs}
use Rattle.hume_model.specs.Forms.{are_there}
use Rattle.hume_model.specs.WellFormed.{IsWellFormed}
use Rattle.union_laws.specs.declared.moves.Moves.{Moves}
use Rattle.union_laws.specs.Moving.{moved_box, moved_exception, moved_exn, moved_handler, moved_node, moved_result, moved_rule}
use Rattle.union_laws.specs.Union.{behind, declared_exceptions, united}
use Rattle.union_laws.specs.inner.Names.{result_names}
use Rattle.union_laws.proofs.AloneInUnions.{found_in}
use Rattle.union_laws.proofs.ForeignRaising.{IsForeign, foreign_result}
use Rattle.union_laws.proofs.KnownCalls.{results_known}
use Rattle.union_laws.proofs.MovedFiring.{exn_same}
use Rattle.union_laws.proofs.MovedRaising.{result_raised}
use Rattle.union_laws.proofs.MovedValues.{all_at}
use Rattle.union_laws.proofs.NamesKnown.{result_named}
use Rattle.union_laws.proofs.SilentParts.{result_silent}
use Rattle.union_laws.proofs.UnionBounds.{found_all}
use Rattle.union_laws.proofs.UnionFormed.{left_trees, own_long, right_trees}
use Rattle.union_laws.proofs.Unions.{was_mapped}
use Rattle.union_laws.proofs.Unmoved.{exn_unmoved, result_same, unmoved}

handlers_same : (moves : Moves) (exn : ℕ) (handlers : List HandC) → has_handler (map (moved_handler moves) handlers) (moved_exn moves exn) ≡ has_handler handlers exn
handlers_same moves exn [] = refl
handlers_same moves exn (handler ∷ handlers) = λ i. exn_same moves handler.exn exn i || handlers_same moves exn handlers i

-- an exception of a union is a moved one of the second program, or foreign to it
record IsOfSecond (a b : Core) (exn : ℕ) : Type 0 where
  own : ℕ
  at : moved_exn (behind a) own ≡ exn
  known : own < length b.exns

module _ (a b : Core) (first : IsWellFormed a) (second : IsWellFormed b) where
  abbrev whole : Core
  whole = united a b

  long : 3 ≤ length a.exns
  long = own_long a b first.frame second.frame a first.frame.exceptions

  other_long : 3 ≤ length b.exns
  other_long = own_long a b first.frame second.frame b second.frame.exceptions

  count : length whole.exns ≡ length a.exns + (length b.exns - 3)
  count =
      length-append a.exns (map (moved_exception (behind a)) (declared_exceptions b))
      ∙ ap (λ n. length a.exns + n) (length-map (declared_exceptions b) (moved_exception (behind a)) ∙ length-drop 3 b.exns)

  moved_at : (own : ℕ) (low : Bool) → nat_le own NO_CASE ≡ low → moved_exn (behind a) own ≡ (if low then own else (length a.exns - 3) + own)
  moved_at own low is = ap (λ t. if t then own else (length a.exns - 3) + own) is

  never : (other exn : ℕ) (low : Bool) → nat_le other NO_CASE ≡ low → 3 ≤ exn → exn < length a.exns → (if low then other else (length a.exns - 3) + other) ≢ exn
  never other exn true is from to = λ same. (let small : other ≤ 2 = grind (arith, nat_tests) in omega (arith, small, same, from))
  never other exn false is from to = λ same. (let large : 3 ≤ other = grind (arith, nat_tests) in let far = long in omega (arith, large, same, to, far))

  is_foreign : (exn : ℕ) → 3 ≤ exn → exn < length a.exns → IsForeign (behind a) exn
  is_foreign exn from to = record {
    div_zero = ne_eqb exn DIV_ZERO (λ same. omega arith);
    range = ne_eqb exn RANGE (λ same. omega arith);
    no_case = ne_eqb exn NO_CASE (λ same. omega arith);
    others = λ other. ne_eqb (moved_exn (behind a) other) exn (never other exn (nat_le other NO_CASE) refl from to);
  }

  whose : (exn : ℕ) → exn < length whole.exns → IsForeign (behind a) exn ⊎ IsOfSecond a b exn
  whose exn known = elim (cases_lt exn 3) [
    | inl low ↦ (let enough = other_long in let is : nat_le exn NO_CASE ≡ true = grind (arith, nat_tests) in
        inr (record { own = exn; at = moved_at exn true is; known = omega (arith, low, enough) }))
    | inr high ↦ elim (cases_lt exn (length a.exns)) [
      | inl near ↦ inl (is_foreign exn high near)
      | inr far ↦ (let some = long in let enough = other_long in let many = count in
          let own : ℕ = exn - (length a.exns - 3) in
          let large : 3 ≤ own = omega (arith, far, some) in
          let is : nat_le own NO_CASE ≡ false = grind (arith, nat_tests) in
          inr (record {
            own = own;
            at = moved_at own false is ∙ (let back : (length a.exns - 3) + own ≡ exn = omega (arith, far, some) in back);
            known = omega (arith, known, many, far, some, enough);
          }))
    ]
  ]

  -- the results of the two programs

  left_raise : (r : Res) → result_names (length a.funs) (are_there a.types) r ≡ true → (exn : ℕ) → result_may_raise whole exn r ≡ result_may_raise a exn r
  left_raise r named exn =
      let stands = left_trees a b first.frame second.frame in
      (λ i. result_may_raise whole (sym (exn_unmoved exn) i) (sym (result_same r) i))
      ∙ result_raised unmoved a whole stands.types first.calls (found_all (IsSmallFunction a.types) a.funs first.frame.limits.each_function) stands.funs exn r named

  left_raises : (tys vars : List Ty) (r : Res) → GivesOutputs a tys vars r → is_written_result a.types r ≡ true → (exn : ℕ) → result_may_raise whole exn r ≡ true
      → (exn < length a.exns) × (result_may_raise a exn r ≡ true)
  left_raises tys vars r gives written exn raises =
      let same = left_raise r (result_named a.types (length a.funs) r (results_known a tys gives) written) exn in
      elim (cases_lt exn (length a.exns)) [
        | inl within ↦ (within, sym same ∙ raises)
        | inr past ↦ (let no : false ≡ true = sym (same ∙ result_silent a exn long past first.functions tys gives) ∙ raises in cc)
      ]

  right_raises : (tys vars : List Ty) (r : Res) → GivesOutputs b tys vars r → is_written_result b.types r ≡ true → (exn : ℕ) → exn < length whole.exns
      → result_may_raise whole exn (moved_result (behind a) r) ≡ true → (of : IsOfSecond a b exn) × (result_may_raise b of.own r ≡ true)
  right_raises tys vars r gives written exn known raises =
      let stands = right_trees a b first.frame second.frame in
      let called = results_known b tys gives in
      elim (whose exn known) [
        | inl foreign ↦ (let no : false ≡ true = sym (foreign_result (behind a) b whole second.calls stands.funs exn foreign r called) ∙ raises in cc)
        | inr of ↦ (
          of,
          sym (result_raised (behind a) b whole stands.types second.calls (found_all (IsSmallFunction b.types) b.funs second.frame.limits.each_function) stands.funs of.own r
              (result_named b.types (length b.funs) r called written)) ∙ ap (λ n. result_may_raise whole n (moved_result (behind a) r)) of.at ∙ raises,
        )
      ]

  small_left : (n : ℕ) (box : BoxC) → slice_get a.nodes n ≡ Some (Rules box) → IsSmallBox a.types box
  small_left n box found = found_all (IsSmallNode a.types) a.nodes first.frame.limits.each_node n (Rules box) found

  small_right : (n : ℕ) (box : BoxC) → slice_get b.nodes n ≡ Some (Rules box) → IsSmallBox b.types box
  small_right n box found = found_all (IsSmallNode b.types) b.nodes second.frame.limits.each_node n (Rules box) found

  rule_written : (core : Core) (box : BoxC) → IsSmallBox core.types box → (n : ℕ) (rule : RuleC) → slice_get box.rules n ≡ Some rule → is_written_result core.types rule.result ≡ true
  rule_written core box is n rule found =
      (and_parts (list_all is_written_position rule.pats) (is_written_result core.types rule.result) (all_at (is_written_rule core.types) box.rules is.each_rule n rule found)).1

  handler_written : (core : Core) (box : BoxC) → IsSmallBox core.types box → (n : ℕ) (handler : HandC) → slice_get box.handlers n ≡ Some handler
      → is_written_result core.types handler.result ≡ true
  handler_written core box is n handler found = all_at (λ (h : HandC). is_written_result core.types h.result) box.handlers is.each_handler n handler found

  -- boxes

  left_unhandled : (n : ℕ) (box : BoxC) → slice_get a.nodes n ≡ Some (Rules box) → LeavesUnhandled whole box → LeavesUnhandled a box
  left_unhandled n box found leaves =
      let raises = left_raises (port_types box.outs) _ leaves.rule.result ((first.boxes n box found).rules leaves.number leaves.rule leaves.there).outputs
      (rule_written a box (small_left n box found) leaves.number leaves.rule leaves.there) leaves.exn leaves.raises in
      record { number = leaves.number; rule = leaves.rule; there = leaves.there; exn = leaves.exn; known = raises.0; raises = raises.1; unhandled = leaves.unhandled }

  right_unhandled : (n : ℕ) (box : BoxC) → slice_get b.nodes n ≡ Some (Rules box) → LeavesUnhandled whole (moved_box (behind a) box) → LeavesUnhandled b box
  right_unhandled n box found leaves =
      let was = was_mapped (moved_rule (behind a)) box.rules leaves.number leaves.rule leaves.there in
      let raises = right_raises (port_types box.outs) _ was.0.result ((second.boxes n box found).rules leaves.number was.0 was.1).outputs
      (rule_written b box (small_right n box found) leaves.number was.0 was.1) leaves.exn leaves.known
      (ap (λ (r : RuleC). result_may_raise whole leaves.exn r.result) was.2 ∙ leaves.raises) in
      record {
        number = leaves.number;
        rule = was.0;
        there = was.1;
        exn = raises.0.own;
        known = raises.0.known;
        raises = raises.1;
        unhandled = sym (handlers_same (behind a) raises.0.own box.handlers) ∙ ap (has_handler (map (moved_handler (behind a)) box.handlers)) raises.0.at ∙ leaves.unhandled;
      }

  left_again : (n : ℕ) (box : BoxC) → slice_get a.nodes n ≡ Some (Rules box) → RaisesAgain whole box → RaisesAgain a box
  left_again n box found again =
      let raises = left_raises (port_types box.outs) _ again.handler.result ((first.boxes n box found).handlers again.number again.handler again.there).outputs
      (handler_written a box (small_left n box found) again.number again.handler again.there) again.exn again.raises in
      record { number = again.number; handler = again.handler; there = again.there; exn = again.exn; known = raises.0; raises = raises.1 }

  right_again : (n : ℕ) (box : BoxC) → slice_get b.nodes n ≡ Some (Rules box) → RaisesAgain whole (moved_box (behind a) box) → RaisesAgain b box
  right_again n box found again =
      let was = was_mapped (moved_handler (behind a)) box.handlers again.number again.handler again.there in
      let raises = right_raises (port_types box.outs) _ was.0.result ((second.boxes n box found).handlers again.number was.0 was.1).outputs
      (handler_written b box (small_right n box found) again.number was.0 was.1) again.exn again.known
      (ap (λ (h : HandC). result_may_raise whole again.exn h.result) was.2 ∙ again.raises) in
      record { number = again.number; handler = was.0; there = was.1; exn = raises.0.own; known = raises.0.known; raises = raises.1 }

  module _ (P : Core → BoxC → Type 0) (left : (n : ℕ) (box : BoxC) → slice_get a.nodes n ≡ Some (Rules box) → P whole box → P a box)
      (right : (n : ℕ) (box : BoxC) → slice_get b.nodes n ≡ Some (Rules box) → P whole (moved_box (behind a) box) → P b box) where
    back_of : (declaration : ℕ) (is : OfBox whole P declaration) (n : ℕ) (node : NodeC) → slice_get b.nodes n ≡ Some node → moved_node (behind a) node ≡ Rules is.b → OfBox b P declaration
    back_of declaration is n (Rules box) there same =
        (let at : moved_box (behind a) box ≡ is.b = cc in
        record { n = n; b = box; there = there; declared = ap (λ (c : BoxC). c.declaration) at ∙ is.declared; holds = right n box there (subst (P whole) (sym at) is.holds) })
    back_of declaration is n (From stream) there same = cc
    back_of declaration is n (To stream) there same = cc

    of_either : (declaration : ℕ) → OfBox whole P declaration → OfBox a P declaration ⊎ OfBox b P declaration
    of_either declaration is = elim (found_in (moved_node (behind a)) a.nodes b.nodes is.n (Rules is.b) is.there) [
      | inl front ↦ inl (record { n = is.n; b = is.b; there = front; declared = is.declared; holds = left is.n is.b front is.holds })
      | inr back ↦ inr (back_of declaration is back.place back.element back.there back.same)
    ]

  -- what the handlers of a union break, those of one of its programs break
  pub handlers_break : (finding : Finding) → BreaksHandlers whole finding → BreaksHandlers a finding ⊎ BreaksHandlers b finding
  handlers_break finding (inl is) = elim (of_either LeavesUnhandled left_unhandled right_unhandled finding.declaration is.1) [
    | inl q ↦ inl (inl (is.0, q))
    | inr r ↦ inr (inl (is.0, r))
  ]
  handlers_break finding (inr is) = elim (of_either RaisesAgain left_again right_again finding.declaration is.1) [
    | inl q ↦ inl (inr (is.0, q))
    | inr r ↦ inr (inr (is.0, r))
  ]
