-- The C file of a core.
use Rattle.std.specs.Prelude.{ℕ, ◌+◌, List, [], ◌∷◌, ◌++◌, codes}
use Rattle.hume_model.specs.declared.core_tree.BoxC.{BoxC}
use Rattle.hume_model.specs.declared.core_tree.Core.{Core}
use Rattle.hume_model.specs.declared.core_tree.NodeC.{NodeC}
use Rattle.hume_model.specs.declared.core_tree.NodeC.TheVariants.{Rules}
use Rattle.typed_core.specs.declared.trees.BoxTrees.{BoxTrees}
use Rattle.typed_core.specs.declared.trees.Trees.{Trees}
use Rattle.c_tree.specs.declared.tree.CItem.{CItem}
use Rattle.c_tree.specs.declared.tree.CItem.TheVariants as item
use Rattle.c_tree.specs.declared.tree.CProgram.{CProgram}
use Rattle.c_names.specs.Names.{names_of}
use Rattle.c_forms.specs.Expressions.{numbered}
use Rattle.c_types.specs.Gathered.{Gathered}
use Rattle.c_types.specs.Declarations.{items}
use Rattle.c_told.specs.Told.{types_of}
use Rattle.c_arithmetic.specs.Helpers.{helpers}
use Rattle.c_analysis.specs.Targets.{Target}
use Rattle.c_functions.specs.declared.functions.Functions.{Functions}
use Rattle.c_functions.specs.Functions.{functions}
use Rattle.c_functions.specs.Raising.{functions_raise}
use Rattle.c_boxes.specs.Boxes.{box_functions}
use Rattle.c_boxes.specs.Rules.{node_of}
use Rattle.c_calls.specs.Exceptions.{exception_items}
use Rattle.c_calls.specs.Headers.{head_comment, headers, outer_items}
use Rattle.c_calls.specs.Steps.{step_function}
use Rattle.c_calls.specs.Streams.{init_function, object_items}
use Rattle.c_used.specs.Kept.{kept}
use Rattle.c_sizes.specs.Table.{table_text}
use Rattle.c_valid.specs.Streams.{valid_functions}

-- declarations of the file below a comment
abbrev pub part : List ℕ → List CItem → List CItem
part comment declared = item.Part comment ∷ declared

-- what stands between the hooks of streams and the functions of the core
abbrev pub behind_streams : Core → Gathered → List CItem
behind_streams core file =
    part (codes "exceptions; 0 is none") (exception_items file core.exns)
    ++ (part (codes "arithmetic that wraps around") (helpers file.names)
    ++ part (codes "boxes, with the wires that lead to them") (object_items file core))

-- what stands before the functions of the core
abbrev pub declared_items : Core → Gathered → List CItem
declared_items core file =
    part (codes "types") (items file)
    ++ (part (codes "streams: yours to define") (outer_items file core)
    ++ behind_streams core file)

abbrev pub box_comment : BoxC → List ℕ
box_comment b = numbered (codes "box " ++ (b.name ++ codes ", line ")) b.line

abbrev pub box_part : Target → ℕ → BoxC → BoxTrees → List CItem
box_part t number b trees = part (box_comment b) (box_functions t (node_of t.core number b) trees.rules trees.handlers)

-- the functions of the boxes among the nodes from a number on, whose trees stand in the same order
abbrev pub boxes_parts : Target → ℕ → List NodeC → List BoxTrees → List CItem
boxes_parts t number [] trees = []
boxes_parts t number (Rules b ∷ nodes) (one ∷ trees) = box_part t number b one ++ boxes_parts t (number + 1) nodes trees
boxes_parts t number (node ∷ nodes) trees = boxes_parts t (number + 1) nodes trees

-- the two calls
abbrev pub net : Core → Gathered → List CItem
net core file = part (codes "the net") (init_function file core ∷ step_function core file.names ∷ [])

-- the functions that tell whether objects hold values, and the two calls
abbrev pub last_parts : Core → Gathered → List CItem
last_parts core file = part (codes "whether objects hold values of their types") (valid_functions file core) ++ net core file

abbrev pub code_of : Core → Gathered → List BoxTrees → Functions → List CItem
code_of core file trees written =
    part (codes "functions") written.items
    ++ (boxes_parts (record { core = core; file = file; called = written.called }) 0 core.nodes trees
    ++ last_parts core file)

-- all declarations, used or not
abbrev pub items_of : Core → Gathered → Trees → List CItem
items_of core file trees =
    declared_items core file ++ code_of core file trees.boxes (functions core file (functions_raise core) trees.functions)

-- the declarations that are used
abbrev pub used_items : Core → Trees → List ℕ → List CItem
used_items core trees program = kept (items_of core (types_of core (names_of program) trees.functions trees.boxes) trees)

-- the file of a program of the name; its static memory and its deepest calls stand at its head
abbrev pub c_of : Core → Trees → List ℕ → CProgram
c_of core trees program = record {
  comment = head_comment program ++ table_text (used_items core trees program);
  headers = headers;
  items = used_items core trees program;
}
