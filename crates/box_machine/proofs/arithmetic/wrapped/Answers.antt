use Rattle.std.proofs.Common.{◌≡◌, ◌^◌, ◌%◌, min, pos, ap, sym, ◌∙◌, arith}
use Rattle.std.specs.Int.RustNames.{unsigned_abs}
use Rattle.hume_base.specs.Words.{word_of}
use Rattle.hume_model.specs.Operations.{from_low, low_bits, word_at}
use Rattle.box_code.specs.declared.instr.Scalar.{Scalar}
use Rattle.box_machine.specs.inner.Layers.{layer_of}
use Rattle.box_machine.proofs.Wrapping.{fewer}
use Rattle.box_machine.proofs.arithmetic.wrapped.Goals as goal

pub returns-in-Int : goal.returns-in-Int
returns-in-Int c = λ number is.
    let bits = min c.in-Int.bits 64 in
    let left : pos (c.args.word % 2 ^ bits) ≡ low_bits bits number = ap (λ w. pos (w % 2 ^ bits)) is ∙ sym (fewer bits (omega arith) number) in
    c.extended.ensures ∙ ap (λ n. word_of (from_low n (pos (c.args.word % 2 ^ n)))) c.min.ensures ∙ ap (λ l. word_of (from_low bits l)) left
    ∙ sym (ap (λ (ty : Scalar). word_at (layer_of ty) number) c.in-Int.is)

pub returns-in-Nat : goal.returns-in-Nat
returns-in-Nat c = λ number is.
    let bits = min c.in-Nat.bits 64 in
    let left : pos (c.args.word % 2 ^ bits) ≡ low_bits bits number = ap (λ w. pos (w % 2 ^ bits)) is ∙ sym (fewer bits (omega arith) number) in
    c.low.ensures ∙ ap (λ n. c.args.word % 2 ^ n) c.min-in-Nat.ensures ∙ ap unsigned_abs left
    ∙ sym (ap (λ (ty : Scalar). word_at (layer_of ty) number) c.in-Nat.is)

pub returns-in-Bool : goal.returns-in-Bool
returns-in-Bool c = λ number is. is ∙ sym (ap (λ (ty : Scalar). word_at (layer_of ty) number) c.in-Bool.is)

pub returns-in-Char : goal.returns-in-Char
returns-in-Char c = λ number is. is ∙ sym (ap (λ (ty : Scalar). word_at (layer_of ty) number) c.in-Char.is)
