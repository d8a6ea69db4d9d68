-- Cells that are made one after another.
use Rattle.std.proofs.Common.{◌≡◌, ◌≤◌, ◌<◌, ◌+◌, ℕ, zero, suc, List, [], ◌∷◌, ◌++◌, length, drop, length-append, Option, None, Some, slice_get, refl, ap, sym, ◌∙◌, subst, arith, inl, inr, ◌⊎◌}
use Rattle.std.specs.Option.{option_map, option_flatten, unwrap_or}
use Rattle.std.proofs.lemmas.Bool.{cases_lt}
use Rattle.std.proofs.lemmas.Option.{slice_get_within, slice_get-map}
use Rattle.hume_base.specs.Least.{IsLeast}
use Rattle.hume_base.specs.declared.types.Value.{Value}
use Rattle.hume_model.specs.declared.core_tree.BoxC.{BoxC}
use Rattle.hume_model.specs.declared.core_tree.NodeC.{NodeC}
use Rattle.hume_model.specs.declared.core_tree.NodeC.TheVariants.{Rules, From, To}
use Rattle.hume_model.specs.declared.core_tree.WireC.{WireC}
use Rattle.hume_model.specs.declared.core_tree.Core.{Core}
use Rattle.hume_net.specs.Sides.{part_of}
use Rattle.hume_net.specs.Start.{start, no_values, written_order}
use Rattle.hume_net.proofs.Gathered.{numbered_get}
use Rattle.model_bare.specs.Bare.{bare_of, bare_node}
use Rattle.model_bare.proofs.SameCores.{node_there}
use Rattle.box_costs.specs.CostRules.{BreaksCosts}
use Rattle.box_code.specs.declared.program.BoxProgram.{BoxProgram}
use Rattle.box_code.specs.RepresentsBox.{RepresentsBox}
use Rattle.box_compile.specs.Programs.{AreProgramsOf, boxes_before}
use Rattle.box_compile.proofs.BoxNumbers.{program_at, after_box, after_input, after_output}
use Rattle.wire_cells.specs.Cells.{CellView, first_cell}
use Rattle.box_step.specs.declared.nodes.cell.BoxCell.{BoxCell}
use Rattle.box_step.specs.nodes.Beginnings.{BeginsAt, HasItsProgram, first_part_of}
use Rattle.box_step.proofs.AcceptedBoxes.{takes_little}
use Rattle.phase_workers.specs.inner.Making.{AreFirstNodes, AreFirstWires, IsFirstNode, IsNextProgram, first_opening}

get_before : {X : Type 0} (xs ys : List X) (n : ℕ) → n < length xs → slice_get (xs ++ ys) n ≡ slice_get xs n
get_before [] ys n within = absurd (omega (arith, within))
get_before (x ∷ xs) ys zero within = refl
get_before (x ∷ xs) ys (suc n) within = get_before xs ys n (omega (arith, within))

get_last : {X : Type 0} (xs : List X) (x : X) → slice_get (xs ++ x ∷ []) (length xs) ≡ Some x
get_last [] x = refl
get_last (y ∷ ys) x = get_last ys x

-- what stands in a list with one item more
last_or_before : {X : Type 0} (xs : List X) (x : X) (k : ℕ) → length xs ≡ k → (n : ℕ) (y : X) → slice_get (xs ++ x ∷ []) n ≡ Some y
    → (slice_get xs n ≡ Some y) ⊎ ((n ≡ k) × (y ≡ x))
last_or_before xs x k long n y at = elim (cases_lt n (length xs)) [
  | inl before ↦ inl (sym (get_before xs (x ∷ []) n before) ∙ at)
  | inr past ↦
      let inside = slice_get_within (xs ++ x ∷ []) n y at in
      let longer = length-append xs (x ∷ []) in
      let last : n ≡ length xs = omega (arith, inside, longer, past) in
      let both : Some y ≡ Some x = sym at ∙ ap (slice_get (xs ++ x ∷ [])) last ∙ get_last xs x in
      inr (last ∙ long, (let same : y ≡ x = cc in same))
]

pub node_more : (core : Core) (span k : ℕ) (nodes : List BoxCell) (cell : BoxCell) → AreFirstNodes core span k nodes → IsFirstNode core span k cell
    → AreFirstNodes core span (k + 1) (nodes ++ cell ∷ [])
node_more core span k nodes cell are is = record {
  long = (let longer = length-append nodes (cell ∷ []) in let long = are.long in omega (arith, longer, long));
  each = λ n c at. elim (last_or_before nodes cell k are.long n c at) [
    | inl before ↦ are.each n c before
    | inr last ↦ subst (λ m. IsFirstNode core span m c) (sym last.0) (subst (IsFirstNode core span k) (sym last.1) is)
  ];
}

pub wire_more : (core : Core) (k : ℕ) (home : List (Option CellView)) (cell : CellView) → AreFirstWires core k home
    → ((wire : WireC) → slice_get core.wires k ≡ Some wire → cell ≡ first_cell core k wire) → AreFirstWires core (k + 1) (home ++ Some cell ∷ [])
wire_more core k home cell are is = record {
  long = (let longer = length-append home (Some cell ∷ []) in let long = are.long in omega (arith, longer, long));
  each = λ w wire less there. elim (cases_lt w k) [
    | inl before ↦
        let long = are.long in
        get_before home (Some cell ∷ []) w (omega (arith, before, long)) ∙ are.each w wire before there
    | inr past ↦
        let last : w ≡ k = omega (arith, past, less) in
        ap (slice_get (home ++ Some cell ∷ [])) (last ∙ sym are.long) ∙ get_last home (Some cell)
        ∙ ap (λ c. Some (Some c)) (is wire (ap (slice_get core.wires) (sym last) ∙ there) ∙ ap (λ m. first_cell core m wire) (sym last))
  ];
}

-- the part of a node before the first superstep
pub first_part_is : (core : Core) (n : ℕ) (node : NodeC) → slice_get core.nodes n ≡ Some node → part_of (start core (no_values core)) n ≡ first_part_of node
first_part_is core n node at =
    let less = slice_get_within core.nodes n node at in
    let pending = ap option_flatten (numbered_get {X = Option (List (Option Value))} (length core.nodes) (λ m. None) n less) in
    let orders = ap (λ o. unwrap_or o []) (slice_get-map written_order core.nodes n ∙ ap (option_map written_order) at) in
    let none = ap (λ o. unwrap_or o []) (numbered_get {X = List Value} (length core.nodes) (λ m. []) n less) in
    ap (λ p. record {
      pending = p;
      order = unwrap_or (slice_get (start core (no_values core)).orders n) [];
      coming = unwrap_or (slice_get (no_values core) n) [];
      taken = unwrap_or (slice_get (no_values core) n) [];
    }) pending
    ∙ ap (λ o. record {
      pending = None;
      order = o;
      coming = unwrap_or (slice_get (no_values core) n) [];
      taken = unwrap_or (slice_get (no_values core) n) [];
    }) orders
    ∙ ap (λ c. record { pending = None; order = written_order node; coming = c; taken = c }) none

-- programs, in order

front : {X : Type 0} (xs ys : List X) (k : ℕ) (x : X) → drop k xs ≡ x ∷ ys → (slice_get xs k ≡ Some x) × (drop (suc k) xs ≡ ys)
front [] ys zero x e = cc
front [] ys (suc k) x e = cc
front (y ∷ xs) ys zero x e = (ap (λ zs. slice_get zs 0) e, ap (drop 1) e)
front (y ∷ xs) ys (suc k) x e = front xs ys k x e

none_left : {X : Type 0} (xs : List X) (k : ℕ) → drop k xs ≡ [] → length xs ≤ k
none_left [] k e = omega arith
none_left (x ∷ xs) zero e = cc
none_left (x ∷ xs) (suc k) e = (let less = none_left xs k e in omega (arith, less))

-- The next of the programs that are left is that of the node, and the others are left.
pub record IsForNode (core : Core) (programs : List BoxProgram) (n : ℕ) (node : NodeC) (later : List BoxProgram) (program : Option BoxProgram) : Type 0 where
  pub its : HasItsProgram (Some (bare_node node)) program
  pub represents : (b : BoxC) (one : BoxProgram) → slice_get core.nodes n ≡ Some (Rules b) → program ≡ Some one → RepresentsBox core b one
  pub left : later ≡ drop (boxes_before core (n + 1)) programs

module _ (core : Core) (programs : List BoxProgram) (are : AreProgramsOf core programs) (within : IsLeast (BreaksCosts core) None) (n : ℕ) where
  pub for_node : (node : NodeC) (rest later : List BoxProgram) (program : Option BoxProgram) → slice_get core.nodes n ≡ Some node
      → rest ≡ drop (boxes_before core n) programs → IsNextProgram node rest later program → IsForNode core programs n node later program
  for_node (Rules b) rest later None at left next =
      let has = program_at core programs are n b at in
      let inside = slice_get_within programs (boxes_before core n) has.program has.at in
      let past = none_left programs (boxes_before core n) (sym left ∙ next) in
      absurd (omega (arith, inside, past))
  for_node (Rules b) rest later (Some program) at left next =
      let has = program_at core programs are n b at in
      let found = front programs later (boxes_before core n) program (sym left ∙ next) in
      let same : has.program ≡ program = (let both : Some has.program ≡ Some program = sym has.at ∙ found.0 in cc) in
      let represents : RepresentsBox core b program = subst (RepresentsBox core b) same has.represents in record {
        its = takes_little core within n b at program represents;
        represents = λ other one there is.
            let boxes : b ≡ other = (let both : Some (Rules b) ≡ Some (Rules other) = sym at ∙ there in cc) in
            let ones : program ≡ one = cc in
            subst (λ x. RepresentsBox core x one) boxes (subst (RepresentsBox core b) ones represents);
        left = sym found.1 ∙ ap (λ k. drop k programs) (let one = after_box core n b at in let e : suc (boxes_before core n) ≡ boxes_before core (n + 1) = omega (arith, one) in e);
      }
  for_node (From stream) rest later program at left next = record {
    its = subst (HasItsProgram (Some (bare_node (From stream)))) (sym next.0) tt;
    represents = λ other one there is. (let both : Some (From stream) ≡ Some (Rules other) = sym at ∙ there in cc);
    left = next.1 ∙ left ∙ ap (λ k. drop k programs) (sym (after_input core n stream at));
  }
  for_node (To stream) rest later program at left next = record {
    its = subst (HasItsProgram (Some (bare_node (To stream)))) (sym next.0) tt;
    represents = λ other one there is. (let both : Some (To stream) ≡ Some (Rules other) = sym at ∙ there in cc);
    left = next.1 ∙ left ∙ ap (λ k. drop k programs) (sym (after_output core n stream at));
  }

  pub begins : (span : ℕ) (node : NodeC) (later : List BoxProgram) (program : Option BoxProgram) → slice_get core.nodes n ≡ Some node
      → IsForNode core programs n node later program → BeginsAt (first_opening core span) n span program
  begins span node later program at is = record {
    part = first_part_is core n;
    peaks = refl;
    queue = refl;
    log = refl;
    represents = is.represents;
  }

pub bare_at : (core bare : Core) → bare ≡ bare_of core → (n : ℕ) (node : NodeC) → slice_get core.nodes n ≡ Some node → slice_get bare.nodes n ≡ Some (bare_node node)
bare_at core bare is n node at = ap (λ (c : Core). slice_get c.nodes n) is ∙ node_there core n node at
