-- The widths of types of C.
use Rattle.std.specs.Prelude.{ℕ, nat_le, if◌then◌else◌}
use Rattle.c_tree.specs.declared.tree.Width.{Width}
use Rattle.c_tree.specs.declared.tree.Width.TheVariants.{W8, W16, W32, W64}

-- the smallest width with so many bits
abbrev pub width_of : ℕ → Width
width_of bits = if nat_le bits 8 then W8 else (if nat_le bits 16 then W16 else (if nat_le bits 32 then W32 else W64))
