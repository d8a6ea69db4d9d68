-- What a file declares, and calls of it from outside. That the text compiles isn't said here: names that clash, and types that don't fit, a
-- compiler tells.
use Rattle.std.specs.Prelude.{ℕ, Bool, true, false, List, [], ◌∷◌, Option, Some, None, ◌||◌, if◌then◌else◌}
use Rattle.std.specs.Str.{bytes_eq}
use Rattle.std.specs.Option.{is_some}
use Rattle.c_tree.specs.declared.tree.Linkage.{Linkage}
use Rattle.c_tree.specs.declared.tree.Linkage.TheVariants.{External, Static, StaticInline}
use Rattle.c_tree.specs.declared.tree.CHead.{CHead}
use Rattle.c_tree.specs.declared.tree.CItem.{CItem}
use Rattle.c_tree.specs.declared.tree.CItem.TheVariants as item
use Rattle.c_tree.specs.declared.tree.CProgram.{CProgram}
use Rattle.c_meaning.specs.Numbers.{Truth, and_then}
use Rattle.c_meaning.specs.Objects.{Object, Scalar, zeroed}
use Rattle.c_meaning.specs.Memories.{World, Memory}
use Rattle.c_meaning.specs.Expressions.{Function, Context, blank}
use Rattle.c_meaning.specs.Statements.{with_name}
use Rattle.c_meaning.specs.Declarations.{with_answer, struct_of, declared_members, with_constants}
use Rattle.c_meaning.specs.Calls.{function_of}
use Rattle.c_meaning.specs.Hooks.{hook}

-- 6.7.7, 6.7.2.1: a further name of a type
abbrev pub with_type : List ℕ → Option Object → Context → Option Context
with_type name object context = and_then object (λ it. Some (record context { types = with_answer name (Some it) context.types }))

-- 6.7.8: a static object begins with zeros
abbrev pub with_static : List ℕ → Option Object → Context → Option Context
with_static name object context = and_then object (λ it. Some (with_name context name (zeroed it) false))

abbrev pub with_function : List ℕ → Function → Context → Context
with_function name function context = record context { functions = with_answer name (Some function) context.functions }

abbrev pub defines : List ℕ → List CItem → Bool
defines name [] = false
defines name (item.Function function ∷ others) = if bytes_eq name function.head.name then true else defines name others
defines name (_ ∷ others) = defines name others

abbrev pub is_external : Linkage → Bool
is_external External = true
is_external Static = false
is_external StaticInline = false

-- 6.7.5.3: a declaration that isn't the first one of a function, or that has a definition behind it, adds nothing: a function is called only
-- behind its definition. One of another file is a hook.
abbrev pub with_prototype : CHead → List CItem → Context → Context
with_prototype head later context =
    if is_some (context.functions head.name) || defines head.name later then context
    else (if is_external head.linkage then with_function head.name (hook context head) context else context)

-- what the file has declared behind the next declaration
abbrev pub with_item : CItem → List CItem → Context → Option Context
with_item (item.Part text) later context = Some context
with_item (item.Comment text) later context = Some context
-- 6.7.2.2
with_item (item.Enum constants) later context = Some (record context { scope = with_constants constants context.scope })
-- 6.7.7
with_item (item.Alias type name) later context = with_type name (blank context.types type) context
-- 6.7.2.1
with_item (item.Struct members name) later context =
    with_type name (and_then (declared_members members context.types) (λ them. Some (struct_of name them))) context
-- 6.7.8, 6.2.4
with_item (item.Object type name) later context = with_static name (blank context.types type) context
with_item (item.StructObject members name) later context =
    with_static name (and_then (declared_members members context.types) (λ them. Some (struct_of [] them))) context
-- 6.7.5.3
with_item (item.Prototype head) later context = Some (with_prototype head later context)
-- 6.9.1: a function calls those that are defined before it, and hooks
with_item (item.Function function) later context = Some (with_function function.head.name (function_of context function) context)

abbrev pub with_items : List CItem → Context → Option Context
with_items [] context = Some context
with_items (first ∷ others) context = and_then (with_item first others context) (with_items others)

-- a file of which nothing is declared yet
abbrev pub no_file : ℕ → World → Context
no_file int world = record {
  int = int;
  types = λ name. None;
  functions = λ name. None;
  scope = [];
  rights = None;
  memory = record { objects = λ number. Scalar Truth None; count = 0; world = world };
}

-- What the file declares where `int` has so many bits: its functions, and the memory with its static objects, before anything is called.
abbrev pub file_of : ℕ → World → CProgram → Option Context
file_of int world program = with_items program.items (no_file int world)

-- The memory after a call of a function without parameters, from outside of the file.
abbrev pub called_from_outside : Context → List ℕ → Memory → Option Memory
called_from_outside file name memory =
    and_then (file.functions name) (λ function. and_then (function None [] memory) (λ it. Some it.memory))
