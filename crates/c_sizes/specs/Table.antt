-- The lines of the table of a file. Each begins with the end of the line before, so that they can follow a text in a comment.
use Rattle.std.specs.Prelude.{ℕ, ◌-◌, Bool, true, false, List, ◌++◌, codes, decimal, length, replicate}
use Rattle.std.specs.List.{flat_map}
use Rattle.c_tree.specs.declared.tree.CItem.{CItem}
use Rattle.c_tree.specs.Words.{newline, separated}
use Rattle.c_sizes.specs.declared.bytes.Bytes.{Bytes}
use Rattle.c_sizes.specs.declared.memory.Row.{Row}
use Rattle.c_sizes.specs.declared.calls.Chain.{Chain}
use Rattle.c_sizes.specs.Memory.{memory_rows, together}
use Rattle.c_sizes.specs.Calls.{seen_of, chain_of}

abbrev pub spaces : ℕ → List ℕ
spaces count = replicate count 32

-- a space and a number, at least five characters
abbrev pub column : ℕ → List ℕ
column number = codes " " ++ (spaces (4 - length (decimal number)) ++ decimal number)

abbrev pub columns : Bytes → List ℕ
columns bytes = column bytes.one ++ (column bytes.two ++ (column bytes.four ++ column bytes.eight))

-- The numbers stand behind 60 characters, or more where the label is longer.
abbrev pub line : List ℕ → Bytes → List ℕ
line label bytes = newline ++ (label ++ (spaces (60 - length label) ++ columns bytes))

abbrev pub greatest_alignments : Bytes
greatest_alignments = record { one = 1; two = 2; four = 4; eight = 8 }

abbrev pub indent : Bool → List ℕ
indent true = codes "    "
indent false = codes "  "

abbrev pub row_line : Row → List ℕ
row_line row = line (indent row.inner ++ row.name) row.bytes

abbrev pub rows_text : List Row → List ℕ
rows_text rows = line (codes "bytes of static memory, by the greatest alignment of numbers") greatest_alignments
    ++ (flat_map row_line rows ++ line (codes "  together") (together rows))

abbrev pub chain_text : Chain → List ℕ
chain_text calls = newline ++ (codes "deepest calls: " ++ (separated (codes ", ") calls.names ++ line (codes "  bytes of their variables") calls.bytes))

abbrev pub table_text : List CItem → List ℕ
table_text items = rows_text (memory_rows items) ++ chain_text (chain_of (seen_of items))
