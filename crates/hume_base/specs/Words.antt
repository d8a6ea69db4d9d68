-- How numbers stand in words of 64 bits.
use Rattle.std.specs.Prelude.{ℕ, ℤ}
use Rattle.std.specs.Int.{w64, cast_signed, cast_unsigned}

-- the number that a word stands for, by two's complement of 64 bits
abbrev pub int_of : ℕ → ℤ
int_of word = cast_signed w64 word

-- the word of a number, by two's complement of 64 bits
abbrev pub word_of : ℤ → ℕ
word_of number = cast_unsigned w64 number
