-- What operations do with the last words.
use Rattle.std.proofs.Common.{◌≡◌, ℕ, ◌-◌, ◌≤◌, Bool, true, false, if◌then◌else◌, List, [], ◌∷◌, ◌++◌, length, take, map, Some, None, ap, sym, ◌∙◌, subst, arith}
use mir.Val.{bool_byte}
use Rattle.std.proofs.lemmas.List.{length-take-le}
use Rattle.hume_base.specs.declared.types.Value.{Word}
use Rattle.hume_base.specs.Flat.{word_of_value, word_in}
use Rattle.hume_model.specs.declared.core_tree.Op.{Op}
use Rattle.hume_model.specs.declared.outcome.Outcome.{Outcome}
use Rattle.hume_model.specs.declared.outcome.Outcome.TheVariants.{Gives, Raises}
use Rattle.hume_model.specs.Operations.{binary, unary, prim}
use Rattle.hume_model.proofs.Layers.{out-word}
use Rattle.box_heap.specs.Heaps.{Object}
use Rattle.box_heap.specs.Stacks.{at_depth}
use Rattle.box_code.specs.declared.instr.Instr.{Instr}
use Rattle.box_code.specs.declared.instr.Scalar.{Scalar}
use Rattle.box_code.specs.declared.program.BoxProgram.{BoxProgram}
use Rattle.box_code.specs.Machine.{Setting, Machine, Next, Goes, act, operated, come_to, type_of, handler_place}
use Rattle.box_machine.specs.declared.registers.Registers.{Registers}
use Rattle.box_machine.specs.inner.Layers.{layer_of}
use Rattle.box_machine.specs.inner.Stepping.{Does, HasRoom, IsOf, Stacked, machine_of}
use Rattle.box_machine.proofs.Effects.{under_front, last_there, last_goes, last_one, last_two}
use Rattle.box_machine.proofs.Reaching.{lowered_does, handed_over}
use Rattle.box_machine.proofs.Wrapping.{out_type}

own_word : (word : ℕ) → word_of_value (Word word) ≡ word
own_word word = ap word_in (out-word word)

pub operands_there : (able : Setting) (op : Op) (ty : Scalar) (count : ℕ) (r : Registers) (words : List ℕ) (objects : List Object) (room : ℕ)
    → HasRoom (operated able (machine_of r words objects) r.at op ty count) (length words) room → r.top ≤ length words → count ≤ r.top
operands_there able op ty count r words objects room fits top =
    let go : List ℕ → List ℕ → Next = λ stack words'. come_to able (machine_of r words objects) r.at stack (prim op (type_of ty) (map
    (λ word. Word word) words')) in
    let there = last_there count (take r.top words) go (length words) room fits in
    omega (arith, there, length-take-le r.top words top)

module _ (setting : Setting) (instr : Instr) (op : Op) (ty : Scalar) (r result : Registers) (words words' : List ℕ) (top : r.top ≤ length words) where
  abbrev outcome_of : List Object → List ℕ → Outcome → Next
  outcome_of objects stack outcome = come_to setting (machine_of r words objects) r.at stack outcome

  comes_to : (objects : List Object) (word : ℕ) (stack : List ℕ) → Stacked result words' r.at (stack ++ word ∷ []) r.peak r.raised
      → outcome_of objects stack (Gives (Word word)) ≡ Goes (machine_of result words' objects)
  comes_to objects word stack s =
      lowered_does r result words words' objects r.at (stack ++ word_of_value (Word word) ∷ [])
      (subst (λ w. Stacked result words' r.at (stack ++ w ∷ []) r.peak r.raised) (sym (own_word word)) s)

  module _ (left right : ℕ) (some : 2 ≤ r.top) (first : at_depth 1 (take r.top words) ≡ Some left) (second : at_depth 0 (take r.top words) ≡ Some right)
      (does : (m : Machine) → act setting instr r.at m ≡ operated setting m r.at op ty 2) where
    of_two : (objects : List Object) → act setting instr r.at (machine_of r words objects) ≡ outcome_of objects (take (r.top - 2) words) (binary op
        (layer_of ty) left right)
    of_two objects =
        let go : List ℕ → List ℕ → Next = λ stack words'. outcome_of objects stack (prim op (type_of ty) (map (λ word. Word word) words')) in
        let enough : 2 ≤ length (take r.top words) = omega (arith, some, length-take-le r.top words top) in
        does (machine_of r words objects) ∙ last_goes 2 (take r.top words) go enough
        ∙ (λ i. go (under_front words r.top 2 top i) (last_two (take r.top words) left right enough first second i))
        ∙ (λ i. outcome_of objects (take (r.top - 2) words) (binary op (out_type ty i) (own_word left i) (own_word right i)))

    pub two_give : (word : ℕ) → binary op (layer_of ty) left right ≡ Gives (Word word)
        → Stacked result words' r.at (take (r.top - 2) words ++ word ∷ []) r.peak r.raised
        → Does setting instr r words result words'
    two_give word gives s = record {
      step = λ objects. of_two objects ∙ ap (outcome_of objects (take (r.top - 2) words)) gives ∙ comes_to objects word (take (r.top - 2) words) s;
      top = s.within;
    }

    pub two_raise : (program : BoxProgram) (exn : ℕ) → IsOf program setting → binary op (layer_of ty) left right ≡ Raises exn None
        → Stacked result words' (handler_place program exn) (0 ∷ []) r.peak (Some exn) → Does setting instr r words result words'
    two_raise program exn of raises s = record {
      step = λ objects. of_two objects ∙ ap (outcome_of objects (take (r.top - 2) words)) raises
          ∙ handed_over program setting r result words words' objects exn 0 of s;
      top = s.within;
    }

  module _ (operand : ℕ) (some : 1 ≤ r.top) (first : at_depth 0 (take r.top words) ≡ Some operand)
      (does : (m : Machine) → act setting instr r.at m ≡ operated setting m r.at op ty 1) where
    of_one : (objects : List Object) → act setting instr r.at (machine_of r words objects) ≡ outcome_of objects (take (r.top - 1) words) (unary op
        (layer_of ty) operand)
    of_one objects =
        let go : List ℕ → List ℕ → Next = λ stack words'. outcome_of objects stack (prim op (type_of ty) (map (λ word. Word word) words')) in
        let enough : 1 ≤ length (take r.top words) = omega (arith, some, length-take-le r.top words top) in
        does (machine_of r words objects) ∙ last_goes 1 (take r.top words) go enough
        ∙ (λ i. go (under_front words r.top 1 top i) (last_one (take r.top words) operand enough first i))
        ∙ (λ i. outcome_of objects (take (r.top - 1) words) (unary op (out_type ty i) (own_word operand i)))

    pub one_gives : (word : ℕ) → unary op (layer_of ty) operand ≡ Gives (Word word)
        → Stacked result words' r.at (take (r.top - 1) words ++ word ∷ []) r.peak r.raised
        → Does setting instr r words result words'
    one_gives word gives s = record {
      step = λ objects. of_one objects ∙ ap (outcome_of objects (take (r.top - 1) words)) gives ∙ comes_to objects word (take (r.top - 1) words) s;
      top = s.within;
    }

-- the word of a truth
pub truth_word : (b : Bool) (word : ℕ) → word ≡ bool_byte b → (if b then 1 else 0) ≡ word
truth_word true word is = sym is
truth_word false word is = sym is
