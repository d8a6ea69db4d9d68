-- What all texts are made of: lines, lists with a text between each two, types and constants.
use Rattle.std.specs.Prelude.{ℕ, Bool, true, false, List, [], ◌∷◌, ◌++◌, codes, decimal, if◌then◌else◌, ◌==◌}
use Rattle.std.specs.List.{flat_map}
use Rattle.c_tree.specs.declared.tree.Width.{Width}
use Rattle.c_tree.specs.declared.tree.Width.TheVariants.{W8, W16, W32, W64}
use Rattle.c_tree.specs.declared.tree.CType.{CType}
use Rattle.c_tree.specs.declared.tree.CType.TheVariants as ctype

-- the end of a line
abbrev pub newline : List ℕ
newline = 10 ∷ []

-- the end of a declaration or a statement of one line
abbrev pub ended : List ℕ
ended = codes ";" ++ newline

-- the end of the first line of a block, behind parentheses
abbrev pub opened : List ℕ
opened = codes ") {" ++ newline

-- the last line of a block
abbrev pub closed : List ℕ
closed = codes "}" ++ newline

-- a text of whole lines, by the margin before each of them
abbrev pub Behind : Type 0
Behind = List ℕ → List ℕ

-- the margin of what stands in a block: four spaces more
abbrev pub deeper : List ℕ → List ℕ
deeper margin = margin ++ codes "    "

-- the texts, with one text between each two
abbrev pub separated : List ℕ → List (List ℕ) → List ℕ
separated between [] = []
separated between (first ∷ others) = first ++ flat_map (λ text. between ++ text) others

-- a comment on a line of its own
abbrev pub comment_line : List ℕ → List ℕ → List ℕ
comment_line margin text = margin ++ (codes "/* " ++ (text ++ (codes " */" ++ newline)))

abbrev pub bits : Width → ℕ
bits W8 = 8
bits W16 = 16
bits W32 = 32
bits W64 = 64

abbrev pub type_text : CType → List ℕ
type_text ctype.Bool = codes "bool"
type_text (ctype.Signed width) = codes "int" ++ (decimal (bits width) ++ codes "_t")
type_text (ctype.Unsigned width) = codes "uint" ++ (decimal (bits width) ++ codes "_t")
type_text (ctype.Named name) = name

abbrev pub truth_text : Bool → List ℕ
truth_text true = codes "true"
truth_text false = codes "false"

-- whether an `int` may be too small for the width
abbrev pub is_wide : Width → Bool
is_wide W8 = false
is_wide W16 = false
is_wide W32 = true
is_wide W64 = true

-- INT32_C(amount), behind `INT` or `UINT`
abbrev pub wide_text : Width → ℕ → List ℕ
wide_text width amount = decimal (bits width) ++ (codes "_C(" ++ (decimal amount ++ codes ")"))

abbrev pub unsigned_text : Width → ℕ → List ℕ
unsigned_text width amount = if is_wide width then codes "UINT" ++ wide_text width amount else decimal amount ++ codes "u"

abbrev pub positive_text : Width → ℕ → List ℕ
positive_text width amount = if is_wide width then codes "INT" ++ wide_text width amount else decimal amount

-- the amount of the least number of the width
abbrev pub least_amount : Width → ℕ
least_amount W8 = 128
least_amount W16 = 32768
least_amount W32 = 2147483648
least_amount W64 = 9223372036854775808

-- A negative number is a minus sign and its amount. The least number has a name, since its amount alone is none of the type.
abbrev pub negative_text : Width → ℕ → List ℕ
negative_text width amount =
    if amount == least_amount width then codes "INT" ++ (decimal (bits width) ++ codes "_MIN") else codes "-" ++ positive_text width amount

-- a constant of a signed type, by whether it is negative
abbrev pub signed_text : Width → Bool → ℕ → List ℕ
signed_text width true amount = negative_text width amount
signed_text width false amount = positive_text width amount
