use mir.Val.{of_z, to_z}
use Rattle.std.proofs.Common.{◌/◌, w64, ap, sym, ◌∙◌, arith}
use Rattle.std.specs.Int.{int_wrapping_div}
use Rattle.std.specs.Int.RustNames.{int_div, unsigned_abs}
use Rattle.hume_base.specs.Words.{word_of}
use Rattle.hume_model.specs.Operations.{low_bits, number_at}
use Rattle.box_code.specs.declared.instr.Scalar.{Scalar}
use Rattle.box_machine.specs.inner.Layers.{layer_of}
use Rattle.std.proofs.Math.Nat.{div-le_self}
use Rattle.box_machine.proofs.Wrapping.{int_quotient, nat_own, read_back}
use Rattle.box_machine.proofs.arithmetic.divided.Goals as goal

pub returns-in-Int : goal.returns-in-Int
returns-in-Int c =
    let left = read_back c.args.left c.int_of_word.result (omega (arith, c.ranges.left.fits)) c.int_of_word.ensures in
    let right = read_back c.args.right c.int_of_word-in-Int.result (omega (arith, c.ranges.right.fits)) c.int_of_word-in-Int.ensures in
    c.word_of_int.ensures ∙ ap (λ z. word_of (to_z w64 (of_z w64 z))) c.wrapping_div.ensures
    ∙ (λ i. word_of (to_z w64 (of_z w64 (int_wrapping_div w64 (left i) (right i)))))
    ∙ int_quotient c.args.left c.args.right (omega (arith, c.ranges.left.fits))
    ∙ sym (ap (λ (ty : Scalar). unsigned_abs (low_bits 64 (int_div (number_at (layer_of ty) c.args.left) (number_at
    (layer_of ty) c.args.right)))) c.in-Int.is)

pub returns-in-Nat : goal.returns-in-Nat
returns-in-Nat c = nat_own (c.args.left / c.args.right) (omega (arith, div-le_self c.args.left c.args.right, c.ranges.left.fits))
    ∙ sym (ap (λ (ty : Scalar). unsigned_abs (low_bits 64 (int_div (number_at (layer_of ty) c.args.left) (number_at
    (layer_of ty) c.args.right)))) c.in-Nat.is)

pub returns-in-Bool : goal.returns-in-Bool
returns-in-Bool c = nat_own (c.args.left / c.args.right) (omega (arith, div-le_self c.args.left c.args.right, c.ranges.left.fits))
    ∙ sym (ap (λ (ty : Scalar). unsigned_abs (low_bits 64 (int_div (number_at (layer_of ty) c.args.left) (number_at
    (layer_of ty) c.args.right)))) c.in-Bool.is)

pub returns-in-Char : goal.returns-in-Char
returns-in-Char c = nat_own (c.args.left / c.args.right) (omega (arith, div-le_self c.args.left c.args.right, c.ranges.left.fits))
    ∙ sym (ap (λ (ty : Scalar). unsigned_abs (low_bits 64 (int_div (number_at (layer_of ty) c.args.left) (number_at
    (layer_of ty) c.args.right)))) c.in-Char.is)
