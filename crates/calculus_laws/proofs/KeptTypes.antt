-- Steps change nothing but rules, and add a function.
use Rattle.std.proofs.Common.{◌≡◌, ℕ, zero, suc, Bool, false, List, [], ◌∷◌, map, length, Option, Some, None, slice_get, slice_set, refl, ap, sym, ◌∙◌}
use Rattle.std.specs.List.{range_with_len}
use Rattle.std.specs.Option.{option_map, unwrap_or}
use Rattle.std.proofs.lemmas.Option.{slice_get-map}
use Rattle.hume_model.specs.declared.core_tree.NodeC.{NodeC}
use Rattle.hume_model.specs.declared.core_tree.NodeC.TheVariants.{Rules, From, To}
use Rattle.hume_model.specs.declared.core_tree.RuleC.{RuleC}
use Rattle.hume_model.specs.declared.core_tree.BoxC.{BoxC}
use Rattle.hume_model.specs.declared.core_tree.FunC.{FunC}
use Rattle.hume_model.specs.declared.core_tree.Core.{Core}
use Rattle.hume_net.specs.declared.state.State.{State}
use Rattle.hume_net.specs.Start.{written_order}
use Rattle.calculus_laws.specs.declared.step.Step.{Step}
use Rattle.calculus_laws.specs.declared.step.Step.TheVariants.{Name, Swap, Unfold}
use Rattle.calculus_laws.specs.Boxes.{box_at, without_rules}
use Rattle.calculus_laws.specs.Naming.{OnlyOutput, named_output, output_at}
use Rattle.calculus_laws.specs.Orders.{HasWrittenOrders}
use Rattle.calculus_laws.specs.Steps.{IsOnRule, node_of, refusal, rewritten, rewritten_at, rewritten_box}
use Rattle.calculus_laws.specs.Unfolding.{unfolded_at, unfolded_core}
use Rattle.calculus_laws.proofs.ChangedBox.{box_there, length-set_node}
use Rattle.calculus_laws.proofs.Exchanged.{length-exchanged}

-- what stays of a core
record Stays (core new : Core) : Type 0 where
  types : new.types ≡ core.types
  exns : new.exns ≡ core.exns
  wires : new.wires ≡ core.wires
  nodes : length new.nodes ≡ length core.nodes
  others : map without_rules new.nodes ≡ map without_rules core.nodes
  orders : map written_order new.nodes ≡ map written_order core.nodes

self : (core : Core) → Stays core core
self core = record { types = refl; exns = refl; wires = refl; nodes = refl; others = refl; orders = refl }

-- what is the same of two elements is the same of the lists, where the second one takes the place of the first
same_set : {X Y : Type 0} (f : X → Y) (xs : List X) (n : ℕ) (old new : X) → slice_get xs n ≡ Some old → f new ≡ f old → map f (slice_set xs n new) ≡ map f xs
same_set f [] n old new at same = refl
same_set f (x ∷ xs) zero old new at same = (let is : x ≡ old = cc in ap (λ y. y ∷ map f xs) (same ∙ ap f (sym is)))
same_set f (x ∷ xs) (suc n) old new at same = ap (λ ys. f x ∷ ys) (same_set f xs n old new at same)

-- a box of the core gets other rules, as many as it has
changed : (core : Core) (funs : List FunC) (n : ℕ) (b : BoxC) (rules : List RuleC) → box_at core n ≡ Some b → length rules ≡ length b.rules
    → Stays core (record core { funs = funs; nodes = slice_set core.nodes n (Rules (record b { rules = rules })) })
changed core funs n b rules there count =
    let at : slice_get core.nodes n ≡ Some (Rules b) = box_there core n b there in
    record {
      types = refl;
      exns = refl;
      wires = refl;
      nodes = length-set_node core.nodes n _;
      others = same_set without_rules core.nodes n (Rules b) _ at refl;
      orders = same_set written_order core.nodes n (Rules b) _ at (ap (range_with_len 0) count);
    }

unfolded_stays : (core : Core) (node rule : ℕ) (b : BoxC) → box_at core node ≡ Some b → (o : Option RuleC) → Stays core (unfolded_core core node rule b o)
unfolded_stays core node rule b there None = self core
unfolded_stays core node rule b there (Some new) = changed core core.funs node b _ there (length-set_node b.rules rule new)

named_stays : (core : Core) (node rule : ℕ) (name : List ℕ) (b : BoxC) → box_at core node ≡ Some b → (o : Option OnlyOutput)
    → Stays core (named_output core node rule name b o)
named_stays core node rule name b there None = self core
named_stays core node rule name b there (Some output) = changed core _ node b _ there (length-set_node b.rules rule _)

box_stays : (core : Core) (step : Step) (b : BoxC) → box_at core (node_of step) ≡ Some b → Stays core (rewritten_box core step b)
box_stays core (Unfold node rule) b there = unfolded_stays core node rule b there (unfolded_at core b rule)
box_stays core (Swap node rule) b there = changed core core.funs node b _ there (length-exchanged rule b.rules)
box_stays core (Name node rule name) b there = named_stays core node rule name b there (output_at b rule)

at_stays : (core : Core) (step : Step) (o : Option BoxC) → box_at core (node_of step) ≡ o → Stays core (rewritten_at core step o)
at_stays core step None there = self core
at_stays core step (Some b) there = box_stays core step b there

stays : (core : Core) (step : Step) → Stays core (rewritten core step)
stays core step = at_stays core step (box_at core (node_of step)) refl

pub types_kept : (core : Core) (step : Step) → IsOnRule core step → refusal core step ≡ None → (rewritten core step).types ≡ core.types
types_kept core step on allowed = (stays core step).types

pub exceptions_kept : (core : Core) (step : Step) → IsOnRule core step → refusal core step ≡ None → (rewritten core step).exns ≡ core.exns
exceptions_kept core step on allowed = (stays core step).exns

pub wires_stay : (core : Core) (step : Step) → IsOnRule core step → refusal core step ≡ None → (rewritten core step).wires ≡ core.wires
wires_stay core step on allowed = (stays core step).wires

pub nodes_kept : (core : Core) (step : Step) → IsOnRule core step → refusal core step ≡ None → length (rewritten core step).nodes ≡ length core.nodes
nodes_kept core step on allowed = (stays core step).nodes

pub others_kept : (core : Core) (step : Step) → IsOnRule core step → refusal core step ≡ None
    → map without_rules (rewritten core step).nodes ≡ map without_rules core.nodes
others_kept core step on allowed = (stays core step).others

-- whether a box is fair
abbrev fair_of : NodeC → Bool
fair_of (Rules b) = b.fair
fair_of (From stream) = false
fair_of (To stream) = false

-- the box that a box without its rules was
record WasBox (node : NodeC) (c : BoxC) : Type 0 where
  b : BoxC
  is : node ≡ Rules b
  fair : b.fair ≡ c.fair

was_box : (o : Option NodeC) (c : BoxC) → option_map without_rules o ≡ Some (without_rules (Rules c)) → (node : NodeC) × (o ≡ Some node) × WasBox node c
was_box None c same = cc
was_box (Some (Rules b)) c same =
    let is : without_rules (Rules b) ≡ without_rules (Rules c) = cc in
    (Rules b, refl, record { b = b; is = refl; fair = ap fair_of is })
was_box (Some (From stream)) c same = cc
was_box (Some (To stream)) c same = cc

-- what is there of lists that are the same under a function
same_at : {X Y : Type 0} (f : X → Y) (xs ys : List X) → map f xs ≡ map f ys → (n : ℕ) → option_map f (slice_get xs n) ≡ option_map f (slice_get ys n)
same_at f xs ys same n = sym (slice_get-map f xs n) ∙ ap (λ zs. slice_get zs n) same ∙ slice_get-map f ys n

pub orders_kept : (core : Core) (step : Step) → IsOnRule core step → refusal core step ≡ None
    → (state : State) → HasWrittenOrders core state → HasWrittenOrders (rewritten core step) state
orders_kept core step on allowed state order = record {
  written = λ n c at unfair.
      let new = rewritten core step in
      let kept = stays core step in
      let was = was_box (slice_get core.nodes n) c (same_at without_rules core.nodes new.nodes (sym kept.others) n ∙ ap (option_map without_rules) at) in
      let there : slice_get core.nodes n ≡ Some (Rules was.2.b) = was.1 ∙ ap Some was.2.is in
      let orders : written_order (Rules was.2.b) ≡ written_order (Rules c) =
      ap (λ o. unwrap_or o [])
      (sym (ap (option_map written_order) there) ∙ same_at written_order core.nodes new.nodes (sym kept.orders) n ∙ ap (option_map written_order) at) in
      order.written n was.2.b there (was.2.fair ∙ unfair) ∙ orders;
}
