-- The streams of a net with their wires, and what a main has of each.
use Rattle.std.specs.Prelude.{ℕ, ◌==◌, Bool, true, false, not, List, [], ◌∷◌, ◌++◌, Option, find, codes, decimal, if◌then◌else◌}
use Rattle.std.specs.Str.{bytes_eq}
use Rattle.hume_base.specs.declared.types.Ty.{Ty}
use Rattle.hume_model.specs.declared.core_tree.StreamC.{StreamC}
use Rattle.hume_model.specs.declared.core_tree.WireC.{WireC}
use Rattle.hume_model.specs.declared.core_tree.NodeC.{NodeC}
use Rattle.hume_model.specs.declared.core_tree.NodeC.TheVariants as node
use Rattle.hume_model.specs.declared.core_tree.Core.{Core}
use Rattle.c_tree.specs.Words.{type_text}
use Rattle.c_names.specs.Names.{outer}
use Rattle.c_types.specs.Shapes.{Form, Tagged, is_scalar}
use Rattle.c_types.specs.Gathered.{Gathered, c_type}
use Rattle.c_main.specs.Texts.{filled, string_text}
use Rattle.c_main.specs.Found.{number_text}
use Rattle.c_main.specs.declared.streams.TheConstants.{INPUT, OUTPUT, STANDARD, OPENING, FILLING}

-- whether the node is a stream by which values come in, or one by which they go out
abbrev pub is_stream : NodeC → Bool → Bool
is_stream (node.Rules b) comes_in = false
is_stream (node.From stream) comes_in = comes_in
is_stream (node.To stream) comes_in = not comes_in

-- whether the wire is the one of a stream, by which values come in or not
abbrev pub belongs_to : ℕ → Bool → WireC → Bool
belongs_to number comes_in wire = (if comes_in then wire.from else wire.to) == number

-- the wire of a stream
abbrev pub wire_of : Core → ℕ → Bool → Option WireC
wire_of core number comes_in = find (belongs_to number comes_in) core.wires

-- where the fields of a constructor are, up to their numbers
abbrev pub field_word : Form → List ℕ → List ℕ
field_word (Tagged sum) name = codes "v->u.c_" ++ (name ++ codes ".f")
field_word _ name = codes "v->f"

-- the queue, the file and the hook of an input stream
abbrev pub input_text : Gathered → List Ty → ℕ → StreamC → WireC → List ℕ
input_text all found number stream wire = filled INPUT (decimal number ∷ type_text (c_type all wire.ty)
    ∷ number_text found wire.ty ∷ outer all.names (codes "_read_") stream.name ∷ [])

-- the type of a parameter with what stands before its name: a scalar is passed by its value, another value by a pointer
abbrev pub passed_type : Gathered → Ty → Bool → List ℕ
passed_type all it true = type_text (c_type all it) ++ codes " "
passed_type all it false = codes "const " ++ (type_text (c_type all it) ++ codes " *")

-- what makes a parameter a pointer
abbrev pub passed_sign : Bool → List ℕ
passed_sign true = codes "&"
passed_sign false = []

-- the file and the hook of an output stream
abbrev pub output_text : Gathered → List Ty → ℕ → StreamC → WireC → List ℕ
output_text all found number stream wire = filled OUTPUT (decimal number ∷ outer all.names (codes "_write_") stream.name
    ∷ passed_type all wire.ty (is_scalar all.types wire.ty) ∷ number_text found wire.ty ∷ passed_sign (is_scalar all.types wire.ty) ∷ [])

abbrev pub opening : List ℕ → List ℕ → List ℕ → List ℕ
opening node port mode = filled OPENING (node ∷ string_text port ∷ mode ∷ [])

-- The file of a stream is opened. The port `std_in` is the standard input.
abbrev pub input_opening : ℕ → StreamC → List ℕ
input_opening number stream =
    if bytes_eq stream.port (codes "std_in") then filled STANDARD (decimal number ∷ codes "stdin" ∷ [])
    else opening (decimal number) stream.port (codes "rb")

-- The same of an output stream. The port `std_out` is the standard output.
abbrev pub output_opening : ℕ → StreamC → List ℕ
output_opening number stream =
    if bytes_eq stream.port (codes "std_out") then filled STANDARD (decimal number ∷ codes "stdout" ∷ [])
    else opening (decimal number) stream.port (codes "wb")

-- the queue of an input stream is filled, and a bad line told
abbrev pub filling : ℕ → StreamC → List ℕ
filling number stream = filled FILLING (decimal number ∷ stream.name ∷ [])
