-- Where the streams of a program stand in a union, and which types they have there.
use Rattle.std.proofs.Common.{◌≡◌, ◌≢◌, ℕ, ◌+◌, ◌<◌, ◌==◌, ◌||◌, Bool, true, false, List, [], ◌∷◌, map, length, take, Option, Some, None, slice_get, refl, ap, sym, ◌∙◌, subst, arith}
use Rattle.std.specs.List.{All, find}
use Rattle.std.specs.Option.{option_map}
use Rattle.std.proofs.lemmas.Bool.{ne_eqb}
use Rattle.std.proofs.lemmas.Option.{slice_get_within}
use Rattle.hume_base.specs.declared.types.Ty.{fold-roll-Ty}
use Rattle.hume_base.specs.declared.types.Ty.TheOpen.{Ty-F}
use Rattle.hume_base.specs.declared.types.Ty.TheVariants as shape
use Rattle.hume_base.specs.Holding.{holds_below, holds_step}
use Rattle.hume_base.specs.Values.{is_value}
use Rattle.hume_model.specs.declared.core_tree.NodeC.{NodeC}
use Rattle.hume_model.specs.declared.core_tree.WireC.{WireC}
use Rattle.hume_model.specs.declared.core_tree.Core.{Core}
use Rattle.hume_model.specs.WellFormed.{IsWellFormed}
use Rattle.hume_text.specs.Spelling.{spelling}
use Rattle.phase_workers.specs.StreamTypes.{joins, type_at, type_of_found}
use Rattle.union_laws.specs.declared.moves.Moves.{Moves}
use Rattle.union_laws.specs.Moving.{moved_data, moved_node, moved_type, moved_wire}
use Rattle.union_laws.specs.Union.{behind, followed_by, no_program, united, united_all}
use Rattle.union_laws.proofs.MovedCalls.{there_is}
use Rattle.union_laws.proofs.MovedForms.{type_bool}
use Rattle.union_laws.proofs.MovedValues.{TypesStandIn, value_same}
use Rattle.union_laws.proofs.Positions.{get_front}
use Rattle.union_laws.proofs.Programs.{among, none_alone}
use Rattle.union_laws.proofs.SharedNets.{RunsAlone}
use Rattle.union_laws.proofs.TypeFolds.{type_holds}
use Rattle.union_laws.proofs.Unions.{in_back, same_end, was_mapped}
use Rattle.form_laws.proofs.Found.{find_behind, find_front, find_mapped, was_there}
use Rattle.form_laws.proofs.MovedSpelling.{spelling_same}
use Rattle.form_laws.proofs.SameTexts.{SameValues}

-- The nodes and the data types of a program stand in a larger one, moved up, and a node that is a stream has its type there.
pub record StandsAt (moves : Moves) (small large : Core) : Type 0 where
  pub nodes : (n : ℕ) (node : NodeC) → slice_get small.nodes n ≡ Some node → slice_get large.nodes (moves.nodes + n) ≡ Some (moved_node moves node)
  pub sums : TypesStandIn moves small.types large.types
  pub types : (n : ℕ) → n < length small.nodes → type_at large (moves.nodes + n) ≡ moved_type moves (type_at small n)

not_joined : (n : ℕ) (wire : WireC) → wire.from ≢ n → wire.to ≢ n → joins n wire ≡ false
not_joined n wire from to = (λ i. ne_eqb wire.from n from i || (wire.to == n)) ∙ ne_eqb wire.to n to

moved_joins : (moves : Moves) (n : ℕ) (wire : WireC) → joins (moves.nodes + n) (moved_wire moves wire) ≡ joins n wire
moved_joins moves n wire = λ i. same_end moves.nodes wire.from n i || same_end moves.nodes wire.to n i

moved_found : (moves : Moves) (o : Option WireC) → type_of_found (option_map (moved_wire moves) o) ≡ moved_type moves (type_of_found o)
moved_found moves None = sym (type_bool moves)
moved_found moves (Some wire) = refl

-- a program behind another
pub stands_behind : (a b : Core) → RunsAlone a → StandsAt (behind a) b (united a b)
stands_behind a b alone = record {
  nodes = λ n node found. in_back (moved_node (behind a)) a.nodes b.nodes n node found;
  sums = λ n sum found. in_back (moved_data (behind a)) a.types.sums b.types.sums n sum found;
  types = λ n within.
      ap type_of_found
      (find_behind (joins (length a.nodes + n)) a.wires (map (moved_wire (behind a)) b.wires) (λ w wire found.
      let ends = alone.ends w wire found in
      not_joined (length a.nodes + n) wire (λ same. omega (arith, ends.0, same)) (λ same. omega (arith, ends.1, same)))
      ∙ find_mapped (joins (length a.nodes + n)) (moved_wire (behind a)) (joins n) (moved_joins (behind a) n) b.wires)
      ∙ moved_found (behind a) (find (joins n) b.wires);
}

-- it stands there still with one more program behind
pub stands_before : (moves : Moves) (small large next : Core) → StandsAt moves small large → StandsAt moves small (united large next)
stands_before moves small large next stands = record {
  nodes = λ n node found. get_front large.nodes (map (moved_node (behind large)) next.nodes) (moves.nodes + n) (moved_node moves node)
      (stands.nodes n node found);
  sums = λ n sum found. get_front large.types.sums (map (moved_data (behind large)) next.types.sums) (moves.types + n) (moved_data moves sum)
      (stands.sums n sum found);
  types = λ n within.
      let node = there_is small.nodes n within in
      let inside = slice_get_within large.nodes (moves.nodes + n) (moved_node moves node.0) (stands.nodes n node.0 node.1) in
      ap type_of_found
      (find_front (joins (moves.nodes + n)) large.wires (map (moved_wire (behind large)) next.wires) (λ w wire found.
      let was = was_mapped (moved_wire (behind large)) next.wires w wire found in
      ap (joins (moves.nodes + n)) (sym was.2)
      ∙ not_joined (moves.nodes + n) (moved_wire (behind large) was.0) (λ same. omega (arith, inside, same)) (λ same. omega (arith, inside, same))))
      ∙ stands.types n within;
}

stands_followed : (moves : Moves) (small large : Core) (others : List Core) → StandsAt moves small large → StandsAt moves small (followed_by large others)
stands_followed moves small large [] stands = stands
stands_followed moves small large (next ∷ others) stands = stands_followed moves small (united large next) others (stands_before moves small large next stands)

-- each program of a list stands in the union of all
pub stands_in_union : (programs : List Core) → All RunsAlone programs → (place : ℕ) (program : Core) → slice_get programs place ≡ Some program
    → StandsAt (behind (united_all (take place programs))) program (united_all programs)
stands_in_union programs each place program found =
    let at = among no_program programs place program none_alone each found in
    let before : Core = united_all (take place programs) in
    subst (StandsAt (behind before) program) (sym at.whole)
    (stands_followed (behind before) program (united before program) at.later (stands_behind before program at.before_alone))

-- types of streams

bool_holds : (bound : ℕ) → holds_below bound shape.Bool ≡ true
bool_holds bound = ap (holds_below bound) (sym shape.rolls-Bool) ∙ fold-roll-Ty Bool (holds_step bound) Ty-F.Bool

stream_holds : (core : Core) → IsWellFormed core → (n : ℕ) → holds_below (length core.types.sums) (type_at core n) ≡ true
stream_holds core formed n = by (find (joins n) core.wires) refl
  where
    by : (o : Option WireC) → find (joins n) core.wires ≡ o → holds_below (length core.types.sums) (type_of_found o) ≡ true
    by None none = bool_holds (length core.types.sums)
    by (Some wire) found =
        let at = was_there (joins n) core.wires wire found in
        type_holds core.types wire.ty (formed.frame.wires at.0 wire at.1).written.parts

-- a stream has the same values there, and they are spelled the same
pub same_values : (moves : Moves) (small large : Core) → StandsAt moves small large → IsWellFormed small → (n : ℕ) → n < length small.nodes
    → SameValues large.types (type_at large (moves.nodes + n)) small.types (type_at small n)
same_values moves small large stands formed n within =
    let known = stream_holds small formed n in
    record {
      values = ap (is_value large.types) (stands.types n within)
          ∙ value_same moves small.types large.types stands.sums formed.frame.holds (type_at small n) known;
      spelled = ap (spelling large.types) (stands.types n within)
          ∙ spelling_same moves small.types large.types stands.sums formed.frame.holds (type_at small n) known;
    }
