-- The texts of a core with its typed trees, for a program of a name.
use Rattle.std.specs.Prelude.{ℕ, List}
use Rattle.hume_model.specs.declared.core_tree.Core.{Core}
use Rattle.typed_core.specs.declared.trees.Trees.{Trees}
use Rattle.c_tree.specs.Program.{program_text}
use Rattle.c_names.specs.Names.{names_of}
use Rattle.c_types.specs.Gathered.{Gathered}
use Rattle.c_told.specs.Told.{types_of}
use Rattle.c_of.specs.File.{c_of}
use Rattle.c_calls.specs.Headers.{header_items, headers}
use Rattle.c_main.specs.Main.{header_text, main_text}
use Rattle.hume_c.specs.declared.words.Kind.{Kind}
use Rattle.hume_c.specs.declared.words.Kind.TheVariants.{File, Header, Main}

-- the types of the program
abbrev pub types_told : Core → Trees → List ℕ → Gathered
types_told core trees name = types_of core (names_of name) trees.functions trees.boxes

-- the text of each kind
abbrev pub text_of : Kind → List ℕ → Core → Trees → List ℕ
text_of File name core trees = program_text (c_of core trees name)
text_of Header name core trees = header_text (header_items (types_told core trees name) core) headers name
text_of Main name core trees = main_text (types_told core trees name) core
