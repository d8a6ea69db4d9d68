-- The lines of the first nodes.
use Rattle.std.proofs.Common.{◌≡◌, ℕ, zero, suc, ◌+◌, ◌≤◌, List, [], ◌∷◌, ◌++◌, take, length, Option, Some, None, slice_get, slice_index_or, refl, ap, sym, ◌∙◌, arith, subst}
use Rattle.std.specs.List.{filter_map, cons_option}
use Rattle.std.specs.Option.{option_to_list}
use Rattle.std.proofs.lemmas.List.{take_all}
use Rattle.std.proofs.lemmas.Option.{get_or_from_slice_get}
use Rattle.hume_ports.specs.Port.{PortView}
use Rattle.hume_ports.specs.Ports.{names, ForNameAt}
use Rattle.port_acts.specs.Ends.{never, Made, Fails}
use Rattle.hume_model.specs.declared.core_tree.NodeC.{NodeC}
use Rattle.hume_model.specs.declared.core_tree.NodeC.TheVariants.{Rules, From, To}
use Rattle.hume_model.specs.declared.core_tree.BoxC.{BoxC}
use Rattle.hume_model.specs.declared.core_tree.Core.{Core}
use Rattle.box_costs.specs.declared.cost.Cost.{Cost}
use Rattle.box_costs.specs.CostRules.{node_bound}
use Rattle.space_costs.specs.NodeCosts.{AreCosts}
use Rattle.trace_print.specs.InTurn.{lines_to}
use Rattle.trace_print.specs.SpaceLines.{space_line, total_line}
use Rattle.trace_print.specs.table.Table.{box_line, total_heap, total_stack, total_line_of}
use Rattle.trace_print.proofs.LinesInTurn.{AreWritten, none_written, more_written, more_fails, later_unwritten}
use Rattle.trace_print.proofs.table_lemmas.Parts.{cost_there}

more_append : {B : Type 0} (o : Option B) (xs ys : List B) → cons_option o (xs ++ ys) ≡ cons_option o xs ++ ys
more_append None xs ys = refl
more_append (Some b) xs ys = refl

alone : {B : Type 0} (o : Option B) → cons_option o [] ≡ option_to_list o
alone None = refl
alone (Some b) = refl

one_more : {A B : Type 0} (f : A → Option B) (xs : List A) (n : ℕ) (x : A) → slice_get xs n ≡ Some x
    → filter_map f (take (suc n) xs) ≡ filter_map f (take n xs) ++ option_to_list (f x)
one_more f [] n x there = cc
one_more f (y ∷ ys) zero x there = let same : y ≡ x = cc in alone (f y) ∙ ap (λ z. option_to_list (f z)) same
one_more f (y ∷ ys) (suc n) x there =
    ap (cons_option (f y)) (one_more f ys n x there) ∙ more_append (f y) (filter_map f (take n ys)) (option_to_list (f x))

-- the lines of a list are those of its first items and then those of the others
first_lines : {A B : Type 0} (f : A → Option B) (xs : List A) (n : ℕ) → (rest : List B) × (filter_map f xs ≡ filter_map f (take n xs) ++ rest)
first_lines f [] zero = ([], refl)
first_lines f [] (suc n) = ([], refl)
first_lines f (x ∷ xs) zero = (filter_map f (x ∷ xs), refl)
first_lines f (x ∷ xs) (suc n) =
    let later = first_lines f xs n in
    (later.0, ap (cons_option (f x)) later.1 ∙ more_append (f x) (filter_map f (take n xs)) later.0)

-- the lines of the first nodes were written
abbrev pub FirstWritten : Core → ℕ → List PortView → List PortView → ℕ → Type 0
FirstWritten core at olds news count = AreWritten at (filter_map (box_line core) (take count core.nodes)) olds news

pub none_first : (core : Core) (at : ℕ) (ports : List PortView) → FirstWritten core at ports ports 0
none_first core at ports = none_written at ports

-- the line of one more node
pub one_first : (core : Core) (at : ℕ) (olds mids news : List PortView) (n : ℕ) (node : NodeC) → slice_get core.nodes n ≡ Some node
    → FirstWritten core at olds mids n → ForNameAt at mids (λ name. Made (lines_to name (option_to_list (box_line core node))) [] mids news) → names news ≡ names mids
    → FirstWritten core at olds news (n + 1)
one_first core at olds mids news n node there first made same =
    let P : List (List ℕ) → Type 0 = λ lines. AreWritten at lines olds news in
    let next : suc n ≡ n + 1 = omega arith in
    subst (λ k. FirstWritten core at olds news k) next (subst P (sym (one_more (box_line core) core.nodes n node there))
    (more_written at (filter_map (box_line core) (take n core.nodes)) (option_to_list (box_line core node)) olds mids news first made same))

pub one_fails : (core : Core) (at : ℕ) (olds mids news : List PortView) (n : ℕ) (node : NodeC) → slice_get core.nodes n ≡ Some node
    → FirstWritten core at olds mids n → ForNameAt at mids (λ name. Fails never [] (lines_to name (option_to_list (box_line core node))) mids news)
    → ForNameAt at olds (λ name. Fails never [] (lines_to name (filter_map (box_line core) core.nodes)) olds news)
one_fails core at olds mids news n node there first fails =
    let shown = filter_map (box_line core) (take n core.nodes) in
    let failed = more_fails at shown (option_to_list (box_line core node)) olds mids news first fails in
    let rest = first_lines (box_line core) core.nodes (suc n) in
    let whole = later_unwritten at (shown ++ option_to_list (box_line core node)) rest.0 olds news failed in
    let all : (shown ++ option_to_list (box_line core node)) ++ rest.0 ≡ filter_map (box_line core) core.nodes =
    ap (λ lines. lines ++ rest.0) (sym (one_more (box_line core) core.nodes n node there)) ∙ sym rest.1 in
    subst (λ lines. ForNameAt at olds (λ name. Fails never [] (lines_to name lines) olds news)) all whole

pub all_first : (core : Core) (at : ℕ) (olds news : List PortView) (n : ℕ) → length core.nodes ≤ n → FirstWritten core at olds news n
    → ForNameAt at olds (λ name. Made (lines_to name (filter_map (box_line core) core.nodes)) [] olds news)
all_first core at olds news n past first =
    let P : List NodeC → Type 0 = λ nodes. ForNameAt at olds (λ name. Made (lines_to name (filter_map (box_line core) nodes)) [] olds news) in
    subst P (take_all n core.nodes past) first.made

-- the node that was read at its place
pub indexed : (nodes items : List NodeC) (n : ℕ) (node this : NodeC) → node ≡ slice_index_or items n node → items ≡ nodes → slice_get nodes n ≡ Some this → this ≡ node
indexed nodes items n node this is same there = sym (get_or_from_slice_get nodes n this node there) ∙ ap (λ ns. slice_index_or ns n node) (sym same) ∙ sym is

no_line : (core : Core) (node : NodeC) → ((b : BoxC) → node ≡ Rules b → ⊥) → box_line core node ≡ None
no_line core (Rules b) no_box = absurd (no_box b refl)
no_line core (From stream) no_box = refl
no_line core (To stream) no_box = refl

-- a stream has no line
pub stream_silent : (core : Core) (node this : NodeC) → this ≡ node → ((b : BoxC) → node ≡ Rules b → ⊥) → option_to_list (box_line core this) ≡ []
stream_silent core node this same no_box = ap option_to_list (ap (box_line core) same ∙ no_line core node no_box)

-- a box has its line
pub box_told : (core : Core) (costs : List Cost) (n : ℕ) (node this : NodeC) (b : BoxC) (bound : Cost) (held bytes name : List ℕ)
    → this ≡ node → node ≡ Rules b → AreCosts core costs → slice_get core.nodes n ≡ Some this → slice_get costs n ≡ Some bound
    → held ≡ [] → name ≡ b.name → bytes ≡ held ++ space_line name bound → option_to_list (box_line core this) ≡ bytes ∷ []
box_told core costs n node this b bound held bytes name same is are there cost clear named told =
    let known : ◌≡◌ {A = Option Cost} (Some bound) (Some (node_bound core this)) = sym cost ∙ cost_there core costs are n this there in
    let bounded : bound ≡ node_bound core (Rules b) = of_some bound (node_bound core this) known ∙ ap (node_bound core) (same ∙ is) in
    let whole : bytes ≡ space_line b.name (node_bound core (Rules b)) =
    told ∙ ap (λ h. h ++ space_line name bound) clear ∙ ap (λ x. space_line x bound) named ∙ ap (space_line b.name) bounded in
    ap option_to_list (ap (box_line core) (same ∙ is)) ∙ ap (λ line. line ∷ []) (sym whole)
  where
    of_some : (x y : Cost) → ◌≡◌ {A = Option Cost} (Some x) (Some y) → x ≡ y
    of_some x y e = cc

-- all boxes together have theirs
pub total_told : (core : Core) (held bytes : List ℕ) (heap stack : ℕ) → held ≡ [] → heap ≡ total_heap core → stack ≡ total_stack core
    → bytes ≡ held ++ total_line heap stack → total_line_of core ∷ [] ≡ bytes ∷ []
total_told core held bytes heap stack clear h s told =
    ap (λ line. line ∷ []) (sym (told ∙ ap (λ x. x ++ total_line heap stack) clear ∙ ap (λ n. total_line n stack) h ∙ ap (total_line (total_heap core)) s))
