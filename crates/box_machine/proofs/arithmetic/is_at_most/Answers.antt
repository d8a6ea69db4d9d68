use Rattle.std.proofs.Common.{ap, sym, ◌∙◌, arith}
use Rattle.std.specs.Int.RustNames.{int_le}
use Rattle.hume_model.specs.Operations.{number_at}
use Rattle.box_code.specs.declared.instr.Scalar.{Scalar}
use Rattle.box_machine.specs.inner.Layers.{layer_of}
use Rattle.box_machine.proofs.Wrapping.{read_back}
use Rattle.box_machine.proofs.arithmetic.is_at_most.Goals as goal

pub returns-in-Int : goal.returns-in-Int
returns-in-Int c =
    let left = read_back c.args.left c.int_of_word.result (omega (arith, c.ranges.left.fits)) c.int_of_word.ensures in
    let right = read_back c.args.right c.int_of_word-in-Int.result (omega (arith, c.ranges.right.fits)) c.int_of_word-in-Int.ensures in
    (λ i. int_le (left i) (right i)) ∙ sym (ap (λ (ty : Scalar). int_le (number_at (layer_of ty) c.args.left) (number_at
    (layer_of ty) c.args.right)) c.in-Int.is)

pub returns-in-Nat : goal.returns-in-Nat
returns-in-Nat c = sym (ap (λ (ty : Scalar). int_le (number_at (layer_of ty) c.args.left) (number_at (layer_of ty) c.args.right)) c.in-Nat.is)

pub returns-in-Bool : goal.returns-in-Bool
returns-in-Bool c = sym (ap (λ (ty : Scalar). int_le (number_at (layer_of ty) c.args.left) (number_at (layer_of ty) c.args.right)) c.in-Bool.is)

pub returns-in-Char : goal.returns-in-Char
returns-in-Char c = sym (ap (λ (ty : Scalar). int_le (number_at (layer_of ty) c.args.left) (number_at (layer_of ty) c.args.right)) c.in-Char.is)
