-- The widths of types of C.
use Rattle.std.proofs.Common.{◌≡◌, ℕ, nat_le, ◌≤◌, Bool, true, false, if◌then◌else◌, refl, arith}
use Rattle.std.proofs.lemmas.Bool.{leb-true}
use Rattle.c_tree.specs.declared.tree.Width.TheVariants.{W8, W16, W32, W64}
use Rattle.c_tree.specs.Words.{bits, is_wide}
use Rattle.c_types.specs.Widths.{width_of}

-- the bits of the C type that holds numbers of so many bits
abbrev pub stored : ℕ → ℕ
stored size = bits (width_of size)

-- those of the type in which they are added
abbrev pub worked : ℕ → ℕ
worked size = bits (if nat_le size 32 then W32 else W64)

pub holds_all : (size : ℕ) → size ≤ 64 → size ≤ stored size
holds_all size few = by (nat_le size 8) (nat_le size 16) (nat_le size 32) refl refl refl
  where
    by : (a b c : Bool) → nat_le size 8 ≡ a → nat_le size 16 ≡ b → nat_le size 32 ≡ c
        → size ≤ bits (if a then W8 else (if b then W16 else (if c then W32 else W64)))
    by true b c p q r = leb-true size 8 p
    by false true c p q r = leb-true size 16 q
    by false false true p q r = leb-true size 32 r
    by false false false p q r = few

pub stored_below : (size : ℕ) → stored size ≤ worked size
stored_below size = by (nat_le size 8) (nat_le size 16) (nat_le size 32)
  where
    by : (a b c : Bool) → bits (if a then W8 else (if b then W16 else (if c then W32 else W64))) ≤ bits (if c then W32 else W64)
    by true b true = omega arith
    by true b false = omega arith
    by false true true = omega arith
    by false true false = omega arith
    by false false true = omega arith
    by false false false = omega arith

pub stored_least : (size : ℕ) → 8 ≤ stored size
stored_least size = by (nat_le size 8) (nat_le size 16) (nat_le size 32)
  where
    by : (a b c : Bool) → 8 ≤ bits (if a then W8 else (if b then W16 else (if c then W32 else W64)))
    by true b c = omega arith
    by false true c = omega arith
    by false false true = omega arith
    by false false false = omega arith

pub worked_least : (size : ℕ) → 32 ≤ worked size
worked_least size = by (nat_le size 32)
  where
    by : (c : Bool) → 32 ≤ bits (if c then W32 else W64)
    by true = omega arith
    by false = omega arith

pub work_is_wide : (size : ℕ) → is_wide (if nat_le size 32 then W32 else W64) ≡ true
work_is_wide size = by (nat_le size 32)
  where
    by : (c : Bool) → is_wide (if c then W32 else W64) ≡ true
    by true = refl
    by false = refl

-- the bits of numbers, of the C type that holds them, and of the one in which they are added, which is no smaller than `int`
pub record AreSizes (int size : ℕ) : Type 0 where
  pub some : 1 ≤ size
  pub few : size ≤ 64
  pub inside : size ≤ stored size
  pub below : stored size ≤ worked size
  pub wide : int ≤ worked size
  pub big : 16 ≤ int

pub sizes : (int size : ℕ) → 16 ≤ int → int ≤ 32 → 1 ≤ size → size ≤ 64 → AreSizes int size
sizes int size big small some few = record {
  some = some;
  few = few;
  inside = holds_all size few;
  below = stored_below size;
  wide = (let h = worked_least size in omega (arith, h));
  big = big;
}
