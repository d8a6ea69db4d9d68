-- The header of a C program, and the main that reads and writes the files of its streams.
use Rattle.std.specs.Prelude.{ℕ, Bool, true, false, List, [], ◌∷◌, ◌++◌, Option, Some, None, codes, if◌then◌else◌}
use Rattle.hume_base.specs.declared.types.Ty.{Ty}
use Rattle.hume_model.specs.declared.core_tree.StreamC.{StreamC}
use Rattle.hume_model.specs.declared.core_tree.WireC.{WireC}
use Rattle.hume_model.specs.declared.core_tree.NodeC.{NodeC}
use Rattle.hume_model.specs.declared.core_tree.NodeC.TheVariants as node
use Rattle.hume_model.specs.declared.core_tree.Core.{Core}
use Rattle.c_tree.specs.declared.tree.CItem.{CItem}
use Rattle.c_tree.specs.declared.tree.CProgram.{CProgram}
use Rattle.c_tree.specs.Program.{program_text}
use Rattle.c_types.specs.Gathered.{Gathered}
use Rattle.c_main.specs.Texts.{each_from, filled}
use Rattle.c_main.specs.Found.{found_types}
use Rattle.c_main.specs.Streams.{filling, input_opening, input_text, is_stream, output_opening, output_text, wire_of}
use Rattle.c_main.specs.Take.{take_function}
use Rattle.c_main.specs.Show.{show_function}
use Rattle.c_main.specs.declared.header.TheConstants.{GUARD}
use Rattle.c_main.specs.declared.runtime.TheConstants.{SHOWING, TAKING}
use Rattle.c_main.specs.declared.program.TheConstants.{HEAD, RUN}

-- the declarations of a program's header, with the headers that it includes
unfoldable pub header_file : List CItem → List (List ℕ) → List ℕ → CProgram
header_file items headers program =
    record { comment = program ++ codes ": its streams are yours to define"; headers = headers; items = items }

-- the header of a program with those declarations and included headers
abbrev pub header_text : List CItem → List (List ℕ) → List ℕ → List ℕ
header_text items headers program =
    filled GUARD (program ∷ []) ++ (program_text (header_file items headers program) ++ codes "\n#endif\n")

abbrev pub type_of_found : Option WireC → List Ty
type_of_found None = []
type_of_found (Some wire) = wire.ty ∷ []

-- the type of the values of a stream, by which values come in or not
abbrev pub stream_type : Core → Bool → ℕ → NodeC → List Ty
stream_type core comes_in number one = if is_stream one comes_in then type_of_found (wire_of core number comes_in) else []

-- the types of the values that come in, or go out, and those that they are made of
abbrev pub types_of : Core → Bool → List Ty
types_of core comes_in = found_types core.types (each_from (stream_type core comes_in) 0 core.nodes)

-- the functions that read lines and their parts
unfoldable pub taking : List ℕ
taking = filled TAKING []

-- the functions that read values of the types, behind what they call
abbrev pub take_functions : Gathered → List Ty → List ℕ
take_functions all [] = []
take_functions all (ty ∷ tys) = taking ++ each_from (take_function all (ty ∷ tys)) 0 (ty ∷ tys)

-- the functions that write values of the types, behind what they call
abbrev pub show_functions : Gathered → List Ty → List ℕ
show_functions all [] = []
show_functions all (ty ∷ tys) = filled SHOWING [] ++ each_from (show_function all (ty ∷ tys)) 0 (ty ∷ tys)

abbrev pub input_on : Gathered → List Ty → ℕ → StreamC → Option WireC → List ℕ
input_on all found number stream None = []
input_on all found number stream (Some wire) = input_text all found number stream wire

abbrev pub output_on : Gathered → List Ty → ℕ → StreamC → Option WireC → List ℕ
output_on all found number stream None = []
output_on all found number stream (Some wire) = output_text all found number stream wire

-- the file and the hook of a stream with a wire, where values of those types come in, and of those go out
abbrev pub hook_of : Gathered → Core → List Ty → List Ty → ℕ → NodeC → List ℕ
hook_of all core taken shown number (node.Rules b) = []
hook_of all core taken shown number (node.From stream) = input_on all taken number stream (wire_of core number true)
hook_of all core taken shown number (node.To stream) = output_on all shown number stream (wire_of core number false)

-- the functions of types, and the files and hooks of streams
abbrev pub hooks_text : Gathered → Core → List ℕ
hooks_text all core = take_functions all (types_of core true) ++ (show_functions all (types_of core false)
    ++ each_from (hook_of all core (types_of core true) (types_of core false)) 0 core.nodes)

-- the file of a stream is opened
abbrev pub opening_of : ℕ → NodeC → List ℕ
opening_of number (node.Rules b) = []
opening_of number (node.From stream) = input_opening number stream
opening_of number (node.To stream) = output_opening number stream

-- the queue of an input stream is filled
abbrev pub filling_of : ℕ → NodeC → List ℕ
filling_of number (node.From stream) = filling number stream
filling_of number _ = []

-- The function `main` makes rounds of 64 supersteps, and reads the lines of a round before it.
abbrev pub run_text : Core → List ℕ → List ℕ
run_text core program = filled RUN (program ∷ each_from opening_of 0 core.nodes ∷ each_from filling_of 0 core.nodes ∷ [])

-- what a main begins with
unfoldable pub head_text : List ℕ → List ℕ
head_text program = filled HEAD (program ∷ [])

-- the hooks, behind what a main begins with and before the function `main`
abbrev pub text_around : Core → List ℕ → List ℕ → List ℕ
text_around core program hooks = head_text program ++ (hooks ++ run_text core program)

-- the main of a program
abbrev pub main_text : Gathered → Core → List ℕ
main_text all core = text_around core all.names.program (hooks_text all core)
