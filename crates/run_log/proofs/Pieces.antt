-- The log of a net that holds a piece of the state of a whole run.
use Rattle.std.proofs.Common.{◌≡◌, ℕ, zero, suc, ◌+◌, List, [], ◌∷◌, ◌++◌, length, append-nil, append_assoc, Option, None, Some, slice_get, refl, ap, sym, ◌∙◌, arith}
use Rattle.std.specs.List.{concat, flat_map, range_with_len}
use Rattle.std.proofs.lemmas.List.Folds.{concat-append}
use Rattle.hume_base.specs.declared.types.Value.{Value}
use Rattle.hume_model.specs.declared.core_tree.NodeC.{NodeC}
use Rattle.hume_model.specs.declared.core_tree.NodeC.TheVariants.{Rules, From, To}
use Rattle.hume_model.specs.declared.core_tree.WireC.{WireC}
use Rattle.hume_model.specs.declared.core_tree.Core.{Core}
use Rattle.hume_net.specs.declared.state.State.{State}
use Rattle.hume_net.specs.Sides.{on_wire, part_of}
use Rattle.hume_net.specs.Start.{start}
use Rattle.hume_net.specs.rounds.Pieces.{IsPieceOf}
use Rattle.trace_print.specs.TraceLines.{line_there}
use Rattle.run_log.specs.declared.half.Half.{Half}
use Rattle.run_log.specs.declared.half.Half.TheVariants.{End}
use Rattle.run_log.specs.Logs.{block, heading, log_lines, log_of, superstep_blocks}
use Rattle.run_log.specs.Moments.{forgotten, remembered}
use Rattle.run_log.proofs.Forgotten.{forgotten_at}

-- what is said of each number alike
same_each : {X : Type 0} (f g : ℕ → List X) (first count : ℕ) → ((n : ℕ) → f n ≡ g n) → flat_map f (range_with_len first count) ≡ flat_map g (range_with_len first count)
same_each f g first zero same = refl
same_each f g first (suc count) same =
    ap (λ xs. xs ++ flat_map f (range_with_len (first + 1) count)) (same first) ∙ ap (λ xs. g first ++ xs) (same_each f g (first + 1) count same)

-- and of one more number
one_more : {X : Type 0} (f : ℕ → List X) (first count : ℕ) → flat_map f (range_with_len first (suc count)) ≡ flat_map f (range_with_len first count) ++ f (first + count)
one_more f first zero = (let here : first ≡ first + 0 = omega arith in append-nil (f first) ∙ ap f here)
one_more f first (suc count) =
    let next : first + 1 + count ≡ first + suc count = omega arith in
    ap (λ xs. f first ++ xs) (one_more f (first + 1) count)
    ∙ sym (append_assoc (f first) (flat_map f (range_with_len (first + 1) count)) (f (first + 1 + count)))
    ∙ ap (λ n. (f first ++ flat_map f (range_with_len (first + 1) count)) ++ f n) next

lines_on : (core : Core) (first : State) (steps : ℕ) → log_lines core first (steps + 1) ≡ log_lines core first steps ++ superstep_blocks core first (steps + 1)
lines_on core first steps =
    let next : steps + 1 ≡ suc steps = omega arith in
    let last : 1 + steps ≡ steps + 1 = omega arith in
    ap (log_lines core first) next
    ∙ ap (λ lines. block core End 0 first ++ lines)
    (one_more (superstep_blocks core first) 1 steps
    ∙ ap (λ n. flat_map (superstep_blocks core first) (range_with_len 1 steps) ++ superstep_blocks core first n) last)
    ∙ sym (append_assoc (block core End 0 first) (flat_map (superstep_blocks core first) (range_with_len 1 steps)) (superstep_blocks core first (steps + 1)))

pub log_begins : (core : Core) (inputs : List (List Value)) → log_of core inputs 0 ≡ concat (block core End 0 (start core inputs))
log_begins core inputs = ap concat (append-nil (block core End 0 (start core inputs)))

pub log_on : (core : Core) (inputs : List (List Value)) (steps : ℕ)
    → log_of core inputs (steps + 1) ≡ log_of core inputs steps ++ concat (superstep_blocks core (start core inputs) (steps + 1))
log_on core inputs steps =
    ap concat (lines_on core (start core inputs) steps)
    ∙ concat-append (log_lines core (start core inputs) steps) (superstep_blocks core (start core inputs) (steps + 1))

module _ (core : Core) (earlier later : ℕ → List Value) (piece whole : State) (is : IsPieceOf core earlier later piece whole) where
  same_line : (w : ℕ) (found : Option WireC) → slice_get core.wires w ≡ found → line_there core (on_wire piece w) found ≡ line_there core (on_wire whole w) found
  same_line w None at = refl
  same_line w (Some wire) at = ap (λ held. line_there core held (Some wire)) (sym (is.wires w wire at))

  pub same_block : (half : Half) (superstep : ℕ) → block core half superstep piece ≡ block core half superstep whole
  same_block half superstep =
      ap (λ lines. heading half superstep ∷ lines)
      (same_each (λ w. line_there core (on_wire piece w) (slice_get core.wires w)) (λ w. line_there core (on_wire whole w) (slice_get core.wires w)) 0 (length core.wires)
      (λ w. same_line w (slice_get core.wires w) refl))

  -- what is forgotten, and what isn't

  abbrev lost : Option NodeC → List Value → List Value
  lost (Some (To stream)) taken = taken
  lost (Some (Rules b)) taken = []
  lost (Some (From stream)) taken = []
  lost None taken = []

  all_taken : (node : Option NodeC) (taken : List Value) → taken ≡ lost node taken ++ remembered node taken
  all_taken (Some (To stream)) taken = sym (append-nil taken)
  all_taken (Some (Rules b)) taken = refl
  all_taken (Some (From stream)) taken = refl
  all_taken None taken = refl

  abbrev Taken : ℕ → List Value
  Taken n = (part_of piece n).taken

  pub forgotten_piece : (gone : ℕ → List Value) × IsPieceOf core gone later (forgotten core piece) whole
  forgotten_piece = (
    λ n. earlier n ++ lost (slice_get core.nodes n) (Taken n),
    record {
      wires = is.wires;
      parts = λ n node at.
          is.parts n node at
          ∙ ap (λ taken. record (part_of piece n) { coming = (part_of piece n).coming ++ later n; taken = taken })
          (ap (λ taken. earlier n ++ taken) (all_taken (slice_get core.nodes n) (Taken n) ∙ ap (λ more. lost (slice_get core.nodes n) (Taken n) ++ more) (sym (forgotten_at core piece n)))
          ∙ sym (append_assoc (earlier n) (lost (slice_get core.nodes n) (Taken n)) (part_of (forgotten core piece) n).taken));
    },
  )
