-- A call leaves as many objects as there were before it.
use Rattle.std.proofs.Common.{◌≡◌, ℕ, Bool, true, false, List, [], ◌∷◌, ◌||◌, Option, None, Some, if◌then◌else◌, refl, ap, sym, ◌∙◌, subst, map}
use Rattle.std.specs.Str.{bytes_eq}
use Rattle.std.specs.Option.{is_some}
use Rattle.std.proofs.lemmas.Slice.Eq.{bytes_eq-Decides}
use Rattle.c_tree.specs.declared.tree.CType.{CType}
use Rattle.c_tree.specs.declared.tree.CHead.{CHead}
use Rattle.c_tree.specs.declared.tree.CFunction.{CFunction}
use Rattle.c_tree.specs.declared.tree.CItem.{CItem}
use Rattle.c_tree.specs.declared.tree.CItem.TheVariants as item
use Rattle.c_tree.specs.declared.tree.CProgram.{CProgram}
use Rattle.c_meaning.specs.Numbers.{and_then}
use Rattle.c_meaning.specs.Objects.{Object, zeroed}
use Rattle.c_meaning.specs.Memories.{Value, World, Memory, Rights}
use Rattle.c_meaning.specs.Expressions.{Ended, Function, Functions, Context}
use Rattle.c_meaning.specs.Statements.{Out, Goes, Leaves, Returns, Undefined, doing, in_turn, with_name}
use Rattle.c_meaning.specs.Declarations.{with_answer}
use Rattle.c_meaning.specs.Calls.{ending, ended_call, function_of, given_back, with_arguments}
use Rattle.c_meaning.specs.Hooks.{hook, hook_ended}
use Rattle.c_meaning.specs.Programs.{called_from_outside, defines, file_of, is_external, with_function, with_item, with_items, with_prototype}
use Rattle.c_meaning.specs.Programs.{with_static, with_type}
use Rattle.c_meaning.proofs.Options.{some_same, comes}

-- a function that leaves as many objects as there were
abbrev pub LeavesNone : Function → Type 0
LeavesNone function = (rights : Rights) (values : List Value) (memory : Memory) (end : Ended) → function rights values memory ≡ Some end
    → end.memory.count ≡ memory.count

abbrev pub LeaveNone : Functions → Type 0
LeaveNone functions = (name : List ℕ) (function : Function) → functions name ≡ Some function → LeavesNone function

-- ---- functions of the file, and hooks

end_count : {x end : Ended} → ◌≡◌ {A = Option Ended} (Some x) (Some end) → end.memory.count ≡ x.memory.count
end_count e = ap (λ (it : Ended). it.memory.count) (sym (some_same e))

memory_count : {x after : Memory} → ◌≡◌ {A = Option Memory} (Some x) (Some after) → after.count ≡ x.count
memory_count e = ap (λ (it : Memory). it.count) (sym (some_same e))

ended_count : (file : Context) (count : ℕ) (result : Option CType) (out : Out) (end : Ended) → ended_call file count result out ≡ Some end
    → end.memory.count ≡ count
ended_count file count None (Goes after) end e = end_count e
ended_count file count (Some type) (Goes after) end e = cc
ended_count file count None (Leaves after) end e = cc
ended_count file count (Some type) (Leaves after) end e = cc
ended_count file count None (Returns value memory) end e =
    let it = comes (given_back file None value) (λ back. Some (ending count back memory)) end e in end_count it.gives
ended_count file count (Some type) (Returns value memory) end e =
    let it = comes (given_back file (Some type) value) (λ back. Some (ending count back memory)) end e in end_count it.gives
ended_count file count None Undefined end e = cc
ended_count file count (Some type) Undefined end e = cc

function_leaves : (file : Context) (function : CFunction) → LeavesNone (function_of file function)
function_leaves file function rights values memory end e =
    let it = comes (with_arguments function.head.parameters values (record file { rights = rights; memory = memory }))
    (λ context. ended_call file memory.count function.head.result (in_turn (map doing function.body) context)) end e in
    ended_count file memory.count function.head.result _ end it.gives

hook_leaves : (file : Context) (head : CHead) → LeavesNone (hook file head)
hook_leaves file head None values memory end e =
    let a = comes (with_arguments head.parameters values (record file { rights = None; memory = memory })) (λ context.
    and_then (hook_ended head.name head.result head.parameters context) (λ it. Some (ending memory.count it.value it.memory))) end e in
    let h = comes (hook_ended head.name head.result head.parameters a.value) (λ it. Some (ending memory.count it.value it.memory)) end a.gives in
    end_count h.gives
hook_leaves file head (Some since) values memory end e = cc

-- ---- what a file declares

with_function_leaves : (name : List ℕ) (function : Function) (context : Context) → LeavesNone function → LeaveNone context.functions
    → LeaveNone (with_function name function context).functions
with_function_leaves name function context own all other found e = chosen (bytes_eq other name) e
  where
    chosen : (same : Bool) → (if same then Some function else context.functions other) ≡ Some found → LeavesNone found
    chosen true e = subst LeavesNone (some_same e) own
    chosen false e = all other found e

context_functions : {x after : Context} → ◌≡◌ {A = Option Context} (Some x) (Some after) → after.functions ≡ x.functions
context_functions e = ap (λ (it : Context). it.functions) (sym (some_same e))

type_keeps : (name : List ℕ) (object : Option Object) (context after : Context) → with_type name object context ≡ Some after
    → after.functions ≡ context.functions
type_keeps name object context after e =
    let it = comes object (λ new. Some (record context { types = with_answer name (Some new) context.types })) after e in context_functions it.gives

static_keeps : (name : List ℕ) (object : Option Object) (context after : Context) → with_static name object context ≡ Some after
    → after.functions ≡ context.functions
static_keeps name object context after e =
    let it = comes object (λ new. Some (with_name context name (zeroed new) false)) after e in context_functions it.gives

prototype_leaves : (head : CHead) (later : List CItem) (context : Context) → LeaveNone context.functions
    → LeaveNone (with_prototype head later context).functions
prototype_leaves head later context all = by (is_some (context.functions head.name) || defines head.name later) (is_external head.linkage)
  where
    by : (t u : Bool) → LeaveNone (if t then context else (if u then with_function head.name (hook context head) context else context)).functions
    by true u = all
    by false true = with_function_leaves head.name (hook context head) context (hook_leaves context head) all
    by false false = all

module _ (later : List CItem) (context after : Context) (all : LeaveNone context.functions) where
  same_leave : after.functions ≡ context.functions → LeaveNone after.functions
  same_leave same = subst LeaveNone (sym same) all

  equal_leave : {it : Context} → LeaveNone it.functions → ◌≡◌ {A = Option Context} (Some it) (Some after) → LeaveNone after.functions
  equal_leave its e = subst (λ (c : Context). LeaveNone c.functions) (some_same e) its

  pub item_leaves : (it : CItem) → with_item it later context ≡ Some after → LeaveNone after.functions
  item_leaves (item.Part text) e = equal_leave all e
  item_leaves (item.Comment text) e = equal_leave all e
  item_leaves (item.Enum constants) e = equal_leave all e
  item_leaves (item.Alias type name) e = same_leave (type_keeps name _ context after e)
  item_leaves (item.Struct members name) e = same_leave (type_keeps name _ context after e)
  item_leaves (item.Object type name) e = same_leave (static_keeps name _ context after e)
  item_leaves (item.StructObject members name) e = same_leave (static_keeps name _ context after e)
  item_leaves (item.Prototype head) e = equal_leave (prototype_leaves head later context all) e
  item_leaves (item.Function function) e =
      equal_leave (with_function_leaves function.head.name (function_of context function) context (function_leaves context function) all) e

items_leave : (items : List CItem) (context after : Context) → LeaveNone context.functions → with_items items context ≡ Some after → LeaveNone after.functions
items_leave [] context after all e = subst (λ (c : Context). LeaveNone c.functions) (some_same e) all
items_leave (first ∷ others) context after all e =
    let it = comes (with_item first others context) (with_items others) after e in
    items_leave others it.value after (item_leaves others context it.value all first it.is) it.gives

pub calls_leave_none : (int : ℕ) (world : World) (program : CProgram) (file : Context) (name : List ℕ) (before after : Memory)
    → file_of int world program ≡ Some file → called_from_outside file name before ≡ Some after → after.count ≡ before.count
calls_leave_none int world program file name before after declared called =
    let function = comes (file.functions name) (λ function. and_then (function None [] before) (λ it. Some it.memory)) after called in
    let end = comes (function.value None [] before) (λ it. Some it.memory) after function.gives in
    memory_count end.gives
    ∙ items_leave program.items _ file (λ other found e. cc) declared name function.value function.is None [] before end.value end.is

-- ---- what is declared later

-- a function means the same behind all declarations but one of its name
pub item_stays : (it : CItem) (later : List CItem) (context after : Context) (name : List ℕ) (function : Function) → with_item it later context ≡ Some after
    → context.functions name ≡ Some function → defines name (it ∷ []) ≡ false → after.functions name ≡ Some function
item_stays (item.Part text) later context after name function e f d = subst (λ (c : Context). c.functions name ≡ Some function) (some_same e) f
item_stays (item.Comment text) later context after name function e f d = subst (λ (c : Context). c.functions name ≡ Some function) (some_same e) f
item_stays (item.Enum constants) later context after name function e f d = subst (λ (c : Context). c.functions name ≡ Some function) (some_same e) f
item_stays (item.Alias type other) later context after name function e f d = ap (λ (fs : Functions). fs name) (type_keeps other _ context after e) ∙ f
item_stays (item.Struct members other) later context after name function e f d = ap (λ (fs : Functions). fs name) (type_keeps other _ context after e) ∙ f
item_stays (item.Object type other) later context after name function e f d = ap (λ (fs : Functions). fs name) (static_keeps other _ context after e) ∙ f
item_stays (item.StructObject members other) later context after name function e f d =
    ap (λ (fs : Functions). fs name) (static_keeps other _ context after e) ∙ f
item_stays (item.Prototype head) later context after name function e f d =
    subst (λ (c : Context). c.functions name ≡ Some function) (some_same e)
    (by (is_some (context.functions head.name)) (defines head.name later) (is_external head.linkage) (bytes_eq name head.name) refl refl)
  where
    is_declared : (o : Option Function) → o ≡ Some function → is_some o ≡ false → ⊥
    is_declared None p q = cc
    is_declared (Some g) p q = cc

    by : (t w u same : Bool) → is_some (context.functions head.name) ≡ t → bytes_eq name head.name ≡ same
        → (if t || w then context else (if u then with_function head.name (hook context head) context else context)).functions name ≡ Some function
    by true w u same s q = f
    by false true u same s q = f
    by false false false same s q = f
    by false false true true s q = absurd (is_declared (context.functions head.name)
        (ap context.functions (sym ((bytes_eq-Decides name head.name).0 q)) ∙ f) s)
    by false false true false s q = rw q f
item_stays (item.Function other) later context after name function e f d =
    subst (λ (c : Context). c.functions name ≡ Some function) (some_same e) (by (bytes_eq name other.head.name) refl)
  where
    by : (same : Bool) → bytes_eq name other.head.name ≡ same
        → (if bytes_eq name other.head.name then Some (function_of context other) else context.functions name) ≡ Some function
    by true q = absurd (differ (subst (λ (b : Bool). (if b then true else false) ≡ false) q d))
      where
        differ : true ≡ false → ⊥
        differ h = cc
    by false q = rw q f

pub items_stay : (items : List CItem) (context after : Context) (name : List ℕ) (function : Function) → with_items items context ≡ Some after
    → context.functions name ≡ Some function → defines name items ≡ false → after.functions name ≡ Some function
items_stay [] context after name function e f d = subst (λ (c : Context). c.functions name ≡ Some function) (some_same e) f
items_stay (first ∷ others) context after name function e f d =
    let it = comes (with_item first others context) (with_items others) after e in
    items_stay others it.value after name function it.gives (item_stays first others context it.value name function it.is f (one first d)) (rest first d)
  where
    one : (it : CItem) → defines name (it ∷ others) ≡ false → defines name (it ∷ []) ≡ false
    one (item.Function g) d = by (bytes_eq name g.head.name) d
      where
        by : (t : Bool) → (if t then true else defines name others) ≡ false → (if t then true else false) ≡ false
        by true h = h
        by false h = refl
    one (item.Part text) d = refl
    one (item.Comment text) d = refl
    one (item.Enum constants) d = refl
    one (item.Alias type other) d = refl
    one (item.Struct members other) d = refl
    one (item.Object type other) d = refl
    one (item.StructObject members other) d = refl
    one (item.Prototype head) d = refl

    rest : (it : CItem) → defines name (it ∷ others) ≡ false → defines name others ≡ false
    rest (item.Function g) d = by (bytes_eq name g.head.name) d
      where
        by : (t : Bool) → (if t then true else defines name others) ≡ false → defines name others ≡ false
        by true h = cc
        by false h = h
    rest (item.Part text) d = d
    rest (item.Comment text) d = d
    rest (item.Enum constants) d = d
    rest (item.Alias type other) d = d
    rest (item.Struct members other) d = d
    rest (item.Object type other) d = d
    rest (item.StructObject members other) d = d
    rest (item.Prototype head) d = d
