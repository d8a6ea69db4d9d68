-- Functions that the file declares and doesn't define: the program around it has them, for what comes and for what is given away. A hook writes
-- only what its pointer is for, and calls nothing of the file: that is trusted.
use Rattle.std.specs.Prelude.{ℕ, Bool, true, false, pos, List, [], ◌∷◌, ◌++◌, Option, Some, None, if◌then◌else◌}
use Rattle.c_tree.specs.declared.tree.CType.{CType}
use Rattle.c_tree.specs.declared.tree.CType.TheVariants as ctype
use Rattle.c_tree.specs.declared.tree.Passing.{Passing}
use Rattle.c_tree.specs.declared.tree.Passing.TheVariants as passing
use Rattle.c_tree.specs.declared.tree.CParameter.{CParameter}
use Rattle.c_tree.specs.declared.tree.CHead.{CHead}
use Rattle.c_meaning.specs.Numbers.{Truth, and_then, of_type}
use Rattle.c_meaning.specs.Objects.{Object, in_place_of}
use Rattle.c_meaning.specs.Memories.{Place, Value, Numeric, Memory, Named, Variable, Pointing, named, changed_at}
use Rattle.c_meaning.specs.Expressions.{Ended, Function, Context, read_value}
use Rattle.c_meaning.specs.Declarations.{with_answer}
use Rattle.c_meaning.specs.Calls.{ending, with_arguments}

abbrev pub answer : Bool → Memory → Ended
answer there memory = record { value = Some (Numeric (of_type Truth (if there then pos 1 else pos 0))); memory = memory }

abbrev pub with_coming : List ℕ → List Object → Memory → Memory
with_coming name later memory = record memory { world = record memory.world { coming = with_answer name later memory.world.coming } }

abbrev pub with_given : List ℕ → Value → Memory → Memory
with_given name value memory = record memory {
  world = record memory.world { given = with_answer name (memory.world.given name ++ (value ∷ [])) memory.world.given };
}

-- `bool read(T *value)`: the next value that comes, if there is one, and whether there was. It is of the type T.
abbrev pub read_hook : List ℕ → List Object → Place → Memory → Option Ended
read_hook name [] place memory = Some (answer false memory)
read_hook name (next ∷ later) place memory =
    and_then (changed_at None memory place (in_place_of next)) (λ after. Some (answer true (with_coming name later after)))

-- `void write(T value)` or `void write(const T *value)`: the value is given away
abbrev pub write_hook : List ℕ → Value → Memory → Ended
write_hook name value memory = record { value = None; memory = with_given name value memory }

-- where a hook that reads puts a value
abbrev pub wanted_place : Passing → Option Named → Option Place
wanted_place passing.Written (Some (Pointing place)) = Some place
wanted_place _ _ = None

-- what a hook that writes is given
abbrev pub shown_value : Passing → Option Named → Context → Option Value
shown_value passing.Value (Some (Variable place)) context = read_value context (Some place)
shown_value passing.Read (Some (Pointing place)) context = read_value context (Some place)
shown_value _ _ context = None

-- by what it gives and its parameter, which is in scope
abbrev pub hook_ended : List ℕ → Option CType → List CParameter → Context → Option Ended
hook_ended name (Some ctype.Bool) (it ∷ []) context = and_then (wanted_place it.passing (named it.name context.scope)) (λ place.
    read_hook name (context.memory.world.coming name) place context.memory)
hook_ended name None (it ∷ []) context = and_then (shown_value it.passing (named it.name context.scope) context) (λ value.
    Some (write_hook name value context.memory))
hook_ended name _ _ context = None

-- 6.5.2.2: arguments are passed as to any function. No hook is called within an expression.
abbrev pub hook : Context → CHead → Function
hook file head None values memory =
    and_then (with_arguments head.parameters values (record file { rights = None; memory = memory })) (λ context.
    and_then (hook_ended head.name head.result head.parameters context) (λ it. Some (ending memory.count it.value it.memory)))
hook file head (Some since) values memory = None
