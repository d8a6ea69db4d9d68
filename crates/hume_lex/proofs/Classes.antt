-- The classes of first bytes are apart.
use Rattle.std.proofs.Common.{◌≡◌, ℕ, Bool, true, false, ◌||◌, arith, nat_eq}
use Rattle.std.proofs.lemmas.Bool.Decides.{nat_tests}
use Rattle.hume_lex.specs.Spelling.{is_space, is_small, is_capital, is_digit, is_letter}
use Rattle.hume_lex.specs.inner.Scan.{is_plain}

-- begins a name
abbrev pub begins_name : ℕ → Bool
begins_name b = is_small b || is_capital b

pub small_begins : (b : ℕ) → is_small b ≡ true → begins_name b ≡ true
small_begins b h = rw h

pub capital_begins : (b : ℕ) → is_capital b ≡ true → begins_name b ≡ true
capital_begins b h = grind (arith, nat_tests)

pub small_no_space : (b : ℕ) → is_small b ≡ true → is_space b ≡ false
small_no_space b h = grind (arith, nat_tests)

pub capital_no_space : (b : ℕ) → is_capital b ≡ true → is_space b ≡ false
capital_no_space b h = grind (arith, nat_tests)

pub capital_no_small : (b : ℕ) → is_capital b ≡ true → is_small b ≡ false
capital_no_small b h = grind (arith, nat_tests)

pub digit_no_space : (b : ℕ) → is_digit b ≡ true → is_space b ≡ false
digit_no_space b h = grind (arith, nat_tests)

pub digit_no_small : (b : ℕ) → is_digit b ≡ true → is_small b ≡ false
digit_no_small b h = grind (arith, nat_tests)

pub digit_no_capital : (b : ℕ) → is_digit b ≡ true → is_capital b ≡ false
digit_no_capital b h = grind (arith, nat_tests)

pub digit_begins_none : (b : ℕ) → is_digit b ≡ true → begins_name b ≡ false
digit_begins_none b h = grind (arith, nat_tests)

pub plain_is_letter : (b : ℕ) → is_plain b ≡ true → is_letter b ≡ true
plain_is_letter b h = grind (arith, nat_tests)

pub plain_tests : (b : ℕ) → is_plain b ≡ true → (nat_eq b 10 ≡ false) × (nat_eq b 9 ≡ false) × (nat_eq b 92 ≡ false) × (nat_eq b 39 ≡ false)
plain_tests b h = (grind (arith, nat_tests), grind (arith, nat_tests), grind (arith, nat_tests), grind (arith, nat_tests))

pub letter_is_plain : (b : ℕ) → is_letter b ≡ true → nat_eq b 10 ≡ false → nat_eq b 9 ≡ false → nat_eq b 92 ≡ false → nat_eq b 39 ≡ false → is_plain b ≡ true
letter_is_plain b h p q r s = grind (arith, nat_tests)
