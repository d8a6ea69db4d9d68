-- Numbers of bytes: one for each greatest alignment of numbers, which is 1, 2, 4 or 8. Operations go number by number.
use Rattle.std.specs.Prelude.{ℕ, ◌+◌, ◌-◌, ◌*◌, ◌%◌, ◌^◌, min, max}
use Rattle.c_sizes.specs.declared.bytes.Bytes.{Bytes}

-- 2^64 - 1 stands for itself and for all amounts above
abbrev pub counted : ℕ → ℕ
counted amount = min amount (2 ^ 64 - 1)

abbrev pub same : ℕ → Bytes
same amount = record { one = amount; two = amount; four = amount; eight = amount }

-- where numbers of so many bytes lie: at the multiples of these
abbrev pub up_to : ℕ → Bytes
up_to amount = record { one = min amount 1; two = min amount 2; four = min amount 4; eight = min amount 8 }

abbrev pub each : (ℕ → ℕ) → Bytes → Bytes
each f a = record { one = f a.one; two = f a.two; four = f a.four; eight = f a.eight }

abbrev pub both : (ℕ → ℕ → ℕ) → Bytes → Bytes → Bytes
both f a b = record { one = f a.one b.one; two = f a.two b.two; four = f a.four b.four; eight = f a.eight b.eight }

abbrev pub plus : Bytes → Bytes → Bytes
plus = both (λ a b. counted (a + b))

abbrev pub times : ℕ → Bytes → Bytes
times count = each (λ a. counted (count * a))

abbrev pub greatest : Bytes → Bytes → Bytes
greatest = both max

-- the next multiple of the alignment: the size itself where it is one
abbrev pub next_multiple : ℕ → ℕ → ℕ
next_multiple size align = counted (size + (align - size % align) % align)

abbrev pub padded : Bytes → Bytes → Bytes
padded = both next_multiple
