-- The deepest calls of a file: those of a function that other files see. A function calls only functions before it in the file.
use Rattle.std.specs.Prelude.{ℕ, ◌+◌, ◌==◌, List, [], ◌∷◌, ◌++◌, fold, length, reverse, if◌then◌else◌}
use Rattle.c_tree.specs.declared.tree.Linkage.{Linkage}
use Rattle.c_tree.specs.declared.tree.Linkage.TheVariants.{External, Static, StaticInline}
use Rattle.c_tree.specs.declared.tree.CFunction.{CFunction}
use Rattle.c_tree.specs.declared.tree.CItem.{CItem}
use Rattle.c_tree.specs.declared.tree.CItem.TheVariants as item
use Rattle.c_sizes.specs.declared.frame.Deepest.{Deepest}
use Rattle.c_sizes.specs.declared.frame.Frame.{Frame}
use Rattle.c_sizes.specs.declared.calls.Entry.{Entry}
use Rattle.c_sizes.specs.declared.calls.Seen.{Seen}
use Rattle.c_sizes.specs.declared.calls.Chain.{Chain}
use Rattle.c_sizes.specs.Names.{with_name}
use Rattle.c_sizes.specs.Layout.{declared}
use Rattle.c_sizes.specs.Frames.{no_call, deeper, depth, function_frame}

abbrev pub start : Seen
start = record { types = []; functions = []; entries = []; deepest = no_call }

-- the deepest calls that other files can make, with a further function
abbrev pub seen_from_outside : Linkage → Deepest → Deepest → Deepest
seen_from_outside External deepest call = deeper deepest call
seen_from_outside Static deepest call = deepest
seen_from_outside StaticInline deepest call = deepest

-- The function gets the next number.
abbrev pub call_with : Seen → Frame → Deepest
call_with seen frame = record { bytes = depth frame; function = length seen.entries + 1 }

abbrev pub with_frame : Seen → CFunction → Frame → Seen
with_frame seen function frame = record seen {
  functions = with_name seen.functions function.head.name (call_with seen frame);
  entries = seen.entries ++ record { name = function.head.name; callee = frame.calls.function } ∷ [];
  deepest = seen_from_outside function.head.linkage seen.deepest (call_with seen frame);
}

-- what is known behind an item
abbrev pub with_item : Seen → CItem → Seen
with_item seen (item.Function function) = with_frame seen function (function_frame seen.types seen.functions function)
with_item seen (item.Part text) = seen
with_item seen (item.Comment text) = seen
with_item seen (item.Enum constants) = seen
with_item seen (item.Alias type name) = record seen { types = declared seen.types (item.Alias type name) }
with_item seen (item.Struct members name) = record seen { types = declared seen.types (item.Struct members name) }
with_item seen (item.Object type name) = seen
with_item seen (item.StructObject members name) = seen
with_item seen (item.Prototype head) = seen

abbrev pub seen_of : List CItem → Seen
seen_of items = fold with_item start items

-- The names from the function of this number on, each followed by its deepest callee. The functions stand with the last one first.
abbrev pub chain : ℕ → List Entry → List (List ℕ)
chain number [] = []
chain number (last ∷ before) =
    if number == length (last ∷ before) then last.name ∷ chain last.callee before else chain number before

abbrev pub chain_of : Seen → Chain
chain_of seen = record { names = chain seen.deepest.function (reverse seen.entries); bytes = seen.deepest.bytes }
