-- A file of a few lines, so small that one can say by hand what C says of it. It reads a number, squares it and writes it:
--     static uint16_t total;
--     bool read(uint16_t *value);
--     void write(uint16_t value);
--     static uint16_t times(uint16_t a, uint16_t b) { return PRODUCT; }
--     void step(void) { uint16_t value; const bool there = read(&value); if (there) { total = times(value, value); write(total); } }
use Rattle.std.specs.Prelude.{ℕ, true, false, ℤ, List, [], ◌∷◌, codes, Option, Some, None, if◌then◌else◌}
use Rattle.std.specs.Str.{bytes_eq}
use Rattle.c_tree.specs.declared.tree.Width.TheVariants.{W16, W32}
use Rattle.c_tree.specs.declared.tree.CType.{CType}
use Rattle.c_tree.specs.declared.tree.CType.TheVariants as type
use Rattle.c_tree.specs.declared.tree.COp.TheVariants as op
use Rattle.c_tree.specs.declared.tree.CExp.{CExp}
use Rattle.c_tree.specs.declared.tree.CExp.TheVariants as exp
use Rattle.c_tree.specs.declared.tree.CStm.{CStm}
use Rattle.c_tree.specs.declared.tree.CStm.TheVariants as stm
use Rattle.c_tree.specs.declared.tree.Passing.{Passing}
use Rattle.c_tree.specs.declared.tree.Passing.TheVariants as passing
use Rattle.c_tree.specs.declared.tree.CParameter.{CParameter}
use Rattle.c_tree.specs.declared.tree.Linkage.{Linkage}
use Rattle.c_tree.specs.declared.tree.Linkage.TheVariants.{External, Static}
use Rattle.c_tree.specs.declared.tree.CHead.{CHead}
use Rattle.c_tree.specs.declared.tree.CItem.{CItem}
use Rattle.c_tree.specs.declared.tree.CItem.TheVariants as item
use Rattle.c_tree.specs.declared.tree.CProgram.{CProgram}
use Rattle.c_meaning.specs.Numbers.{Unsigned, and_then}
use Rattle.c_meaning.specs.Objects.{Scalar}
use Rattle.c_meaning.specs.Memories.{Value, World}
use Rattle.c_meaning.specs.Programs.{file_of, called_from_outside}

-- `a * b`, at the type that C chooses, which is an `int` where that has 32 bits
abbrev pub short_product : CExp
short_product = exp.Binary op.Multiply (exp.Name (codes "a")) (exp.Name (codes "b"))

-- `(uint16_t)((uint32_t)a * (uint32_t)b)`
abbrev pub wide_product : CExp
wide_product = exp.Cast (type.Unsigned W16) (exp.Binary op.Multiply
    (exp.Cast (type.Unsigned W32) (exp.Name (codes "a"))) (exp.Cast (type.Unsigned W32) (exp.Name (codes "b"))))

abbrev head : Linkage → Option CType → List ℕ → List CParameter → CHead
head linkage result name parameters = record { linkage = linkage; result = result; name = name; parameters = parameters }

abbrev word : Passing → List ℕ → CParameter
word how name = record { ty = type.Unsigned W16; passing = how; name = name }

abbrev function : CHead → List CStm → CItem
function head body = item.Function (record { comment = None; head = head; body = body })

abbrev step_body : List CStm
step_body =
    stm.Declare (record { constant = false; ty = type.Unsigned W16; name = codes "value" })
    ∷ stm.Define (record { constant = true; ty = type.Bool; name = codes "there" }) (exp.Call (codes "read") (exp.Address (exp.Name (codes "value")) ∷ []))
    ∷ stm.If (exp.Name (codes "there"))
    (stm.Assign (exp.Name (codes "total")) (exp.Call (codes "times") (exp.Name (codes "value") ∷ exp.Name (codes "value") ∷ []))
    ∷ stm.Call (codes "write") (exp.Name (codes "total") ∷ []) ∷ []) [] [] ∷ []

abbrev pub squaring : CExp → CProgram
squaring product = record {
  comment = codes "squares";
  headers = codes "stdint.h" ∷ codes "stdbool.h" ∷ [];
  items = item.Object (type.Unsigned W16) (codes "total")
      ∷ item.Prototype (head External (Some type.Bool) (codes "read") (word passing.Written (codes "value") ∷ []))
      ∷ item.Prototype (head External None (codes "write") (word passing.Value (codes "value") ∷ []))
      ∷ function (head Static (Some (type.Unsigned W16)) (codes "times") (word passing.Value (codes "a") ∷ word passing.Value (codes "b") ∷ []))
      (stm.Return (Some product) ∷ [])
      ∷ function (head External None (codes "step") []) step_body ∷ [];
}

-- one number that comes
abbrev coming : ℤ → World
coming number = record {
  coming = λ name. if bytes_eq name (codes "read") then Scalar (Unsigned 16) (Some number) ∷ [] else [];
  given = λ name. [];
}

-- what is written when `step` is called once and this number comes, where `int` has so many bits
abbrev pub written_of : ℕ → CExp → ℤ → Option (List Value)
written_of int product number = and_then (file_of int (coming number) (squaring product)) (λ file.
    and_then (called_from_outside file (codes "step") file.memory) (λ after. Some (after.world.given (codes "write"))))
