-- Calls keep numbers within their types, and write only what they may.
use Rattle.std.proofs.Common.{ap, ◌≡◌, ◌≤◌, ℕ, Bool, true, false, List, [], ◌∷◌, ◌++◌, map, Option, Some, None, ◌||◌, if◌then◌else◌, refl, sym}
use Rattle.std.proofs.Common.{◌∙◌, subst, arith}
use Rattle.std.specs.Prelude.{⊤}
use Rattle.std.specs.Str.{bytes_eq}
use Rattle.std.specs.Option.{is_some}
use Rattle.c_tree.specs.declared.tree.CType.{CType}
use Rattle.c_tree.specs.declared.tree.CType.TheVariants as ctype
use Rattle.c_tree.specs.declared.tree.Passing.{Passing}
use Rattle.c_tree.specs.declared.tree.Passing.TheVariants as passing
use Rattle.c_tree.specs.declared.tree.CParameter.{CParameter}
use Rattle.c_tree.specs.declared.tree.CHead.{CHead}
use Rattle.c_tree.specs.declared.tree.CFunction.{CFunction}
use Rattle.c_tree.specs.declared.tree.CMember.{CMember, roll-CMember, map-CMember, fold-CMember, fold-roll-CMember, ind-CMember}
use Rattle.c_tree.specs.declared.tree.CMember.TheOpen.{CMember-F}
use Rattle.c_tree.specs.declared.tree.CItem.{CItem}
use Rattle.c_tree.specs.declared.tree.CItem.TheVariants as item
use Rattle.c_tree.specs.declared.tree.CProgram.{CProgram}
use Rattle.c_meaning.specs.Numbers.{and_then}
use Rattle.c_meaning.specs.Objects.{Object, Array, in_place_of, of_one_type, zeroed}
use Rattle.c_meaning.specs.Memories.{Place, Value, Numeric, Whole, Pointer, World, Memory, Rights, Named, Pointing, named, changed_at}
use Rattle.c_meaning.specs.Memories.{left_with, read_declared}
use Rattle.c_meaning.specs.Memories.{value_of}
use Rattle.c_tree.specs.declared.tree.CExp.{CExp}
use Rattle.c_tree.specs.declared.tree.CExp.TheVariants as exp
use Rattle.c_meaning.specs.Expressions.{Meant, called, meant, values_of}
use Rattle.c_meaning.proofs.Forms.{call_means}
use Rattle.c_meaning.proofs.SoundStatements.{arguments_sound}
use Rattle.c_meaning.specs.Sound.{OnlyComputes}
use Rattle.c_meaning.specs.Expressions.{Ended, Function, Context, Types, blank}
use Rattle.c_meaning.specs.Statements.{Out, Goes, Leaves, Returns, Undefined, in_turn, with_value, with_name, doing}
use Rattle.c_meaning.specs.Declarations.{with_answer, Members, member_object, all_members, struct_of, union_of, one_member}
use Rattle.c_meaning.specs.Declarations.{declare_member, declared_members}
use Rattle.c_meaning.specs.Calls.{pointed, passed, with_arguments, given_back, ending, ended_call, function_of}
use Rattle.c_meaning.specs.Hooks.{answer, with_coming, read_hook, write_hook, wanted_place, shown_value, hook_ended, hook}
use Rattle.c_meaning.specs.Programs.{with_type, with_static, with_function, defines, is_external, with_prototype, with_item, with_items, no_file}
use Rattle.c_meaning.specs.Programs.{file_of, called_from_outside}
use Rattle.c_meaning.specs.Sound.{IsSound, AreSound, IsSoundValue, AreSoundValues, IsSoundWorld, IsSoundMemory, Stays, IsFrom, EndsSound}
use Rattle.c_meaning.specs.Sound.{IsSoundFunction, IsSoundContext}
use Rattle.c_meaning.proofs.Options.{some_same, comes, if_first, if_other}
use Rattle.c_meaning.proofs.SoundObjects.{assigned_sound, placed_sound, value_sound, zeroed_sound, Follows, follows_same, follows_then, changed_follows}
use Rattle.c_meaning.proofs.SoundExpressions.{IsSoundOption}
use Rattle.c_meaning.proofs.SoundStatements.{WentOn, Ran, blank_sound, name_went, body_runs}

-- ---- arguments

then_went : (a b c : Context) → WentOn a b → WentOn b c → WentOn a c
then_went a b c p q = record {
  sound = q.sound;
  rights = q.rights ∙ p.rights;
  follows = follows_then a.rights a.memory b.memory c.memory p.follows (subst (λ (r : Rights). Follows r b.memory c.memory) p.rights q.follows);
}

same_went : (context : Context) → IsSoundContext context → WentOn context context
same_went context sound = record { sound = sound; rights = refl; follows = follows_same context.rights context.memory sound.memory }

scope_went : (context : Context) (name : List ℕ) (what : Named) → IsSoundContext context
    → WentOn context (record context { scope = (name, what) ∷ context.scope })
scope_went context name what sound = record {
  sound = record { int = sound.int; types = sound.types; functions = sound.functions; rights = sound.rights; memory = sound.memory };
  rights = refl;
  follows = follows_same context.rights context.memory sound.memory;
}

pointed_went : (constant : Bool) (place : Place) (context : Context) (parameter : CParameter) (found : Option Object) (wanted : Object) (after : Context)
    → IsSoundContext context → pointed constant place context parameter found wanted ≡ Some after → WentOn context after
pointed_went constant place context parameter None wanted after sound e = cc
pointed_went constant place context parameter (Some found) wanted after sound e =
    subst (WentOn context) (some_same (if_first (of_one_type found wanted) _ after e))
    (scope_went context parameter.name (Pointing (record place { constant = constant })) sound)

passed_went : (how : Passing) (parameter : CParameter) (value : Value) (wanted : Object) (context after : Context) → IsSoundContext context
    → IsSoundValue value → IsSound wanted → passed how parameter value wanted context ≡ Some after → WentOn context after
passed_went passing.Value parameter value wanted context after sound fine blank e =
    let it = comes (with_value value wanted) (λ object. Some (with_name context parameter.name object false)) after e in
    subst (WentOn context) (some_same it.gives)
    (name_went context parameter.name it.value false sound (assigned_sound value fine wanted it.value blank it.is))
passed_went passing.Read parameter (Pointer place) wanted context after sound fine blank e =
    pointed_went true place context parameter (read_declared context.memory place) wanted after sound e
passed_went passing.Written parameter (Pointer place) wanted context after sound fine blank e =
    pointed_went false place context parameter (read_declared context.memory place) wanted after sound (if_other place.constant _ after e)
passed_went passing.Read parameter (Numeric x) wanted context after sound fine blank e = cc
passed_went passing.Read parameter (Whole x) wanted context after sound fine blank e = cc
passed_went passing.Written parameter (Numeric x) wanted context after sound fine blank e = cc
passed_went passing.Written parameter (Whole x) wanted context after sound fine blank e = cc

arguments_went : (parameters : List CParameter) (values : List Value) (context after : Context) → IsSoundContext context → AreSoundValues values
    → with_arguments parameters values context ≡ Some after → WentOn context after
arguments_went [] [] context after sound fine e = subst (WentOn context) (some_same e) (same_went context sound)
arguments_went [] (value ∷ values) context after sound fine e = cc
arguments_went (p ∷ ps) [] context after sound fine e = cc
arguments_went (p ∷ ps) (value ∷ values) context after sound fine e =
    let wanted = comes (blank context.types p.ty) (λ wanted. and_then (passed p.passing p value wanted context) (with_arguments ps values)) after e in
    let first = comes (passed p.passing p value wanted.value context) (with_arguments ps values) after wanted.gives in
    let went = passed_went p.passing p value wanted.value context first.value sound fine.0
    (blank_sound context.types p.ty wanted.value sound.types wanted.is) first.is in
    then_went context first.value after went (arguments_went ps values first.value after went.sound fine.1 first.gives)

-- ---- functions of the file

-- the file's context with what a call brings
abbrev start : Context → Rights → Memory → Context
start file rights memory = record file { rights = rights; memory = memory }

start_sound : (file : Context) (rights : Rights) (memory : Memory) → IsSoundContext file → IsSoundMemory memory → IsFrom rights memory.count
    → IsSoundContext (start file rights memory)
start_sound file rights memory sound fine from =
    record { int = sound.int; types = sound.types; functions = sound.functions; rights = from; memory = fine }

ends : (rights : Rights) (before memory : Memory) (value : Option Value) → IsSoundOption value → Follows rights before memory
    → EndsSound rights before (ending before.count value memory)
ends rights before memory value fine f = record {
  value = fine;
  memory = record { objects = f.sound.objects; world = f.sound.world };
  stays = record { objects = f.stays.objects; world = f.stays.world };
  count = refl;
}

none_given : IsSoundOption None
none_given value e = cc

given_sound : (file : Context) (result : Option CType) (value : Option Value) (back : Option Value) → IsSoundContext file → IsSoundOption value
    → given_back file result value ≡ Some back → IsSoundOption back
given_sound file None None back sound fine e = subst IsSoundOption (some_same e) none_given
given_sound file None (Some v) back sound fine e = cc
given_sound file (Some type) None back sound fine e = cc
given_sound file (Some type) (Some v) back sound fine e =
    let object = comes (blank file.types type) (λ object. and_then (with_value v object) (λ new. Some (value_of new))) back e in
    let new = comes (with_value v object.value) (λ new. Some (value_of new)) back object.gives in
    let s = assigned_sound v (fine v refl) object.value new.value (blank_sound file.types type object.value sound.types object.is) new.is in
    subst IsSoundOption (some_same new.gives) (λ given g. value_sound new.value given s g)

ended_call_sound : (file : Context) (rights : Rights) (before : Memory) (a : Context) (result : Option CType) (out : Out) (end : Ended) → IsSoundContext file
    → WentOn (start file rights before) a → Ran a out → ended_call file before.count result out ≡ Some end → EndsSound rights before end
ended_call_sound file rights before a None (Goes after) end sound w r e =
    subst (EndsSound rights before) (some_same e) (ends rights before after.memory None none_given
    (follows_then rights before a.memory after.memory w.follows (subst (λ (x : Rights). Follows x a.memory after.memory) w.rights r.follows)))
ended_call_sound file rights before a (Some type) (Goes after) end sound w r e = cc
ended_call_sound file rights before a None (Leaves after) end sound w r e = cc
ended_call_sound file rights before a (Some type) (Leaves after) end sound w r e = cc
ended_call_sound file rights before a None (Returns value memory) end sound w r e =
    let it = comes (given_back file None value) (λ back. Some (ending before.count back memory)) end e in
    subst (EndsSound rights before) (some_same it.gives) (ends rights before memory it.value (given_sound file None value it.value sound r.value it.is)
    (follows_then rights before a.memory memory w.follows (subst (λ (x : Rights). Follows x a.memory memory) w.rights r.follows)))
ended_call_sound file rights before a (Some type) (Returns value memory) end sound w r e =
    let it = comes (given_back file (Some type) value) (λ back. Some (ending before.count back memory)) end e in
    subst (EndsSound rights before) (some_same it.gives) (ends rights before memory it.value (given_sound file (Some type) value it.value sound r.value it.is)
    (follows_then rights before a.memory memory w.follows (subst (λ (x : Rights). Follows x a.memory memory) w.rights r.follows)))
ended_call_sound file rights before a None Undefined end sound w r e = cc
ended_call_sound file rights before a (Some type) Undefined end sound w r e = cc

function_sound : (file : Context) (function : CFunction) → IsSoundContext file → IsSoundFunction (function_of file function)
function_sound file function sound rights values before end fine args from e =
    let a = comes (with_arguments function.head.parameters values (start file rights before))
    (λ context. ended_call file before.count function.head.result (in_turn (map doing function.body) context)) end e in
    let w = arguments_went function.head.parameters values (start file rights before) a.value (start_sound file rights before sound fine from) args a.is in
    ended_call_sound file rights before a.value function.head.result (in_turn (map doing function.body) a.value) end sound w
    (body_runs function.body a.value w.sound) a.gives

-- ---- hooks

-- with all rights nothing has to stay
all_stays : (before after : Memory) → Stays None before after
all_stays before after = record { objects = λ since n r less. cc; world = λ since r. cc }

answer_sound : (there : Bool) (memory : Memory) → IsSoundOption (answer there memory).value
answer_sound true memory value e = subst IsSoundValue (some_same e) refl
answer_sound false memory value e = subst IsSoundValue (some_same e) refl

-- how a hook ends, before its parameter is gone
record HookEnds (end : Ended) : Type 0 where
  value : IsSoundOption end.value
  memory : IsSoundMemory end.memory

coming_sound : (test : Bool) (x y : List Object) → AreSound x → AreSound y → AreSound (if test then x else y)
coming_sound true x y p q = p
coming_sound false x y p q = q

read_hook_sound : (name : List ℕ) (coming : List Object) (place : Place) (memory : Memory) (end : Ended) → IsSoundMemory memory → AreSound coming
    → read_hook name coming place memory ≡ Some end → HookEnds end
read_hook_sound name [] place memory end sound fine e =
    subst HookEnds (some_same e) (record { value = answer_sound false memory; memory = sound })
read_hook_sound name (next ∷ later) place memory end sound fine e =
    let it = comes (changed_at None memory place (in_place_of next)) (λ after. Some (answer true (with_coming name later after))) end e in
    let f = changed_follows None memory place (in_place_of next) it.value sound (placed_sound next fine.0) it.is in
    subst HookEnds (some_same it.gives) (record {
      value = answer_sound true (with_coming name later it.value);
      memory = record {
        objects = f.sound.objects;
        world = record { coming = λ other. coming_sound (bytes_eq other name) later (it.value.world.coming other) fine.1 (f.sound.world.coming other) };
      };
    })

hook_ends : (name : List ℕ) (result : Option CType) (parameters : List CParameter) (context : Context) (end : Ended) → IsSoundContext context
    → hook_ended name result parameters context ≡ Some end → HookEnds end
hook_ends name (Some ctype.Bool) (p ∷ []) context end sound e =
    let it = comes (wanted_place p.passing (named p.name context.scope))
    (λ place. read_hook name (context.memory.world.coming name) place context.memory) end e in
    read_hook_sound name (context.memory.world.coming name) it.value context.memory end sound.memory (sound.memory.world.coming name) it.gives
hook_ends name None (p ∷ []) context end sound e =
    let it = comes (shown_value p.passing (named p.name context.scope) context) (λ value. Some (write_hook name value context.memory)) end e in
    subst HookEnds (some_same it.gives)
    (record { value = none_given; memory = record { objects = sound.memory.objects; world = record { coming = sound.memory.world.coming } } })
hook_ends name None [] context end sound e = cc
hook_ends name None (p ∷ (q ∷ ps)) context end sound e = cc
hook_ends name (Some ctype.Bool) [] context end sound e = cc
hook_ends name (Some ctype.Bool) (p ∷ (q ∷ ps)) context end sound e = cc
hook_ends name (Some (ctype.Signed width)) ps context end sound e = cc
hook_ends name (Some (ctype.Unsigned width)) ps context end sound e = cc
hook_ends name (Some (ctype.Named type)) ps context end sound e = cc

hook_sound : (file : Context) (head : CHead) → IsSoundContext file → IsSoundFunction (hook file head)
hook_sound file head sound None values before end fine args from e =
    let a = comes (with_arguments head.parameters values (start file None before)) (λ context.
    and_then (hook_ended head.name head.result head.parameters context) (λ it. Some (ending before.count it.value it.memory))) end e in
    let w = arguments_went head.parameters values (start file None before) a.value (start_sound file None before sound fine from) args a.is in
    let h = comes (hook_ended head.name head.result head.parameters a.value) (λ it. Some (ending before.count it.value it.memory)) end a.gives in
    let it = hook_ends head.name head.result head.parameters a.value h.value w.sound h.is in
    subst (EndsSound None before) (some_same h.gives) (record {
      value = it.value;
      memory = record { objects = it.memory.objects; world = it.memory.world };
      stays = all_stays before (left_with before.count h.value.memory);
      count = refl;
    })
hook_sound file head sound (Some since) values before end fine args from e = cc

-- ---- types

abbrev pub AreSoundMembers : Members → Type 0
AreSoundMembers [] = ⊤
AreSoundMembers (first ∷ others) = IsSound first.1 × AreSoundMembers others

chosen_sound : (test : Bool) (x y : Object) → IsSound x → IsSound y → IsSound (if test then x else y)
chosen_sound true x y p q = p
chosen_sound false x y p q = q

member_sound : (members : Members) → AreSoundMembers members → (name : List ℕ) → IsSound (member_object members name)
member_sound [] fine name = tt
member_sound ((other, object) ∷ others) fine name =
    chosen_sound (bytes_eq other name) object (member_object others name) fine.0 (member_sound others fine.1 name)

appended_sound : (members more : Members) → AreSoundMembers members → AreSoundMembers more → AreSoundMembers (members ++ more)
appended_sound [] more p q = q
appended_sound (first ∷ others) more p q = (p.0, appended_sound others more p.1 q)

module _ (types : Types) (fine : (name : List ℕ) (object : Object) → types name ≡ Some object → IsSound object) where
  abbrev DeclaresSound : (Types → Option Members) → Type 0
  DeclaresSound declare = (members : Members) → declare types ≡ Some members → AreSoundMembers members

  abbrev declared : CMember → Types → Option Members
  declared = fold-CMember (Types → Option Members) declare_member

  abbrev Part : Type 0
  Part = (m : CMember) × DeclaresSound (declared m)

  abbrev of_part : Part → CMember
  of_part p = p.0

  parts_sound : (ps : List Part) → DeclaresSound (all_members (map declared (map of_part ps)))
  parts_sound [] members e = subst AreSoundMembers (some_same e) tt
  parts_sound (p ∷ ps) members e =
      let first = comes (declared p.0 types) (λ them. and_then (all_members (map declared (map of_part ps)) types) (λ more. Some (them ++ more))) members e in
      let rest = comes (all_members (map declared (map of_part ps)) types) (λ more. Some (first.value ++ more)) members first.gives in
      subst AreSoundMembers (some_same rest.gives)
      (appended_sound first.value rest.value (p.1 first.value first.is) (parts_sound ps rest.value rest.is))

  abbrev layer : CMember-F Part → CMember-F CMember
  layer y = map-CMember Part CMember of_part y

  step_sound : (y : CMember-F Part) → DeclaresSound (declare_member (map-CMember CMember (Types → Option Members) declared (layer y)))
  step_sound (CMember-F.Comment text) members e = subst AreSoundMembers (some_same e) tt
  step_sound (CMember-F.Plain type name) members e =
      let it = comes (blank types type) (λ object. Some (one_member name object)) members e in
      subst AreSoundMembers (some_same it.gives) (blank_sound types type it.value fine it.is, tt)
  step_sound (CMember-F.Array type name count) members e =
      let it = comes (blank types type) (λ object. Some (one_member name (Array count (λ i. object)))) members e in
      subst AreSoundMembers (some_same it.gives) ((λ i. blank_sound types type it.value fine it.is), tt)
  step_sound (CMember-F.Struct ps name) members e =
      let it = comes (all_members (map declared (map of_part ps)) types) (λ them. Some (one_member name (struct_of [] them))) members e in
      subst AreSoundMembers (some_same it.gives) (member_sound it.value (parts_sound ps it.value it.is), tt)
  step_sound (CMember-F.Union ps name) members e =
      let it = comes (all_members (map declared (map of_part ps)) types) (λ them. Some (one_member name (union_of them))) members e in
      subst AreSoundMembers (some_same it.gives) (member_sound it.value (parts_sound ps it.value it.is), tt)

  abbrev Fine : CMember → Type 0
  Fine m = DeclaresSound (declared m)

  layer_sound : (y : CMember-F Part) → Fine (roll-CMember (layer y))
  layer_sound y = subst DeclaresSound (sym (fold-roll-CMember (Types → Option Members) declare_member (layer y))) (step_sound y)

  each_sound : (m : CMember) → Fine m
  each_sound = ind-CMember Fine (λ x y is. subst (λ z. Fine (roll-CMember z)) is (layer_sound y))

  members_sound : (ms : List CMember) → DeclaresSound (all_members (map declared ms))
  members_sound [] members e = subst AreSoundMembers (some_same e) tt
  members_sound (m ∷ ms) members e =
      let first = comes (declared m types) (λ them. and_then (all_members (map declared ms) types) (λ more. Some (them ++ more))) members e in
      let rest = comes (all_members (map declared ms) types) (λ more. Some (first.value ++ more)) members first.gives in
      subst AreSoundMembers (some_same rest.gives)
      (appended_sound first.value rest.value (each_sound m first.value first.is) (members_sound ms rest.value rest.is))

  struct_sound : (type : List ℕ) (ms : List CMember) (object : Object)
      → and_then (declared_members ms types) (λ them. Some (struct_of type them)) ≡ Some object → IsSound object
  struct_sound type ms object e =
      let it = comes (declared_members ms types) (λ them. Some (struct_of type them)) object e in
      subst IsSound (some_same it.gives) (member_sound it.value (members_sound ms it.value it.is))

-- ---- files

same_answer : {A : Type 0} (P : A → Type 0) (test : Bool) (answer : A) (old : Option A) (found : A)
    → (if test then Some answer else old) ≡ Some found → P answer → (old ≡ Some found → P found) → P found
same_answer P true answer old found e p q = subst P (some_same e) p
same_answer P false answer old found e p q = q e

type_sound : (name : List ℕ) (object : Option Object) (context after : Context) → IsSoundContext context
    → ((it : Object) → object ≡ Some it → IsSound it) → with_type name object context ≡ Some after → IsSoundContext after
type_sound name object context after sound fine e =
    let it = comes object (λ new. Some (record context { types = with_answer name (Some new) context.types })) after e in
    subst IsSoundContext (some_same it.gives) (record {
      int = sound.int;
      types = λ other found f. same_answer IsSound (bytes_eq other name) it.value (context.types other) found f (fine it.value it.is) (sound.types other found);
      functions = sound.functions;
      rights = sound.rights;
      memory = sound.memory;
    })

static_sound : (name : List ℕ) (object : Option Object) (context after : Context) → IsSoundContext context
    → with_static name object context ≡ Some after → IsSoundContext after
static_sound name object context after sound e =
    let it = comes object (λ new. Some (with_name context name (zeroed new) false)) after e in
    subst IsSoundContext (some_same it.gives) (name_went context name (zeroed it.value) false sound (zeroed_sound it.value)).sound

with_function_sound : (name : List ℕ) (function : Function) (context : Context) → IsSoundContext context → IsSoundFunction function
    → IsSoundContext (with_function name function context)
with_function_sound name function context sound fine = record {
  int = sound.int;
  types = sound.types;
  functions = λ other found f. same_answer IsSoundFunction (bytes_eq other name) function (context.functions other) found f fine (sound.functions other found);
  rights = sound.rights;
  memory = sound.memory;
}

prototype_sound : (head : CHead) (later : List CItem) (context : Context) → IsSoundContext context → IsSoundContext (with_prototype head later context)
prototype_sound head later context sound = by (is_some (context.functions head.name) || defines head.name later) (is_external head.linkage)
  where
    by : (t u : Bool) → IsSoundContext (if t then context else (if u then with_function head.name (hook context head) context else context))
    by true u = sound
    by false true = with_function_sound head.name (hook context head) context sound (hook_sound context head sound)
    by false false = sound

pub item_sound : (it : CItem) (later : List CItem) (context after : Context) → IsSoundContext context → with_item it later context ≡ Some after
    → IsSoundContext after
item_sound (item.Part text) later context after sound e = subst IsSoundContext (some_same e) sound
item_sound (item.Comment text) later context after sound e = subst IsSoundContext (some_same e) sound
item_sound (item.Enum constants) later context after sound e = subst IsSoundContext (some_same e)
    (record { int = sound.int; types = sound.types; functions = sound.functions; rights = sound.rights; memory = sound.memory })
item_sound (item.Alias type name) later context after sound e =
    type_sound name (blank context.types type) context after sound (λ it b. blank_sound context.types type it sound.types b) e
item_sound (item.Struct members name) later context after sound e =
    type_sound name _ context after sound (struct_sound context.types sound.types name members) e
item_sound (item.Object type name) later context after sound e = static_sound name _ context after sound e
item_sound (item.StructObject members name) later context after sound e = static_sound name _ context after sound e
item_sound (item.Prototype head) later context after sound e = subst IsSoundContext (some_same e) (prototype_sound head later context sound)
item_sound (item.Function function) later context after sound e = subst IsSoundContext (some_same e)
    (with_function_sound function.head.name (function_of context function) context sound (function_sound context function sound))

pub items_sound : (items : List CItem) (context after : Context) → IsSoundContext context → with_items items context ≡ Some after → IsSoundContext after
items_sound [] context after sound e = subst IsSoundContext (some_same e) sound
items_sound (first ∷ others) context after sound e =
    let it = comes (with_item first others context) (with_items others) after e in
    items_sound others it.value after (item_sound first others context it.value sound it.is) it.gives

no_file_sound : (int : ℕ) (world : World) → 16 ≤ int → IsSoundWorld world → IsSoundContext (no_file int world)
no_file_sound int world big fine = record {
  int = big;
  types = λ name object e. cc;
  functions = λ name function e. cc;
  rights = λ since r. cc;
  memory = record { objects = λ n. tt; world = fine };
}

-- a file's context, and so each of its functions
pub file_sound : (int : ℕ) (world : World) (program : CProgram) (file : Context) → 16 ≤ int → IsSoundWorld world → file_of int world program ≡ Some file
    → IsSoundContext file
file_sound int world program file big fine e = items_sound program.items (no_file int world) file (no_file_sound int world big fine) e

-- a call from outside
pub call_sound : (int : ℕ) (world : World) (program : CProgram) (file : Context) (name : List ℕ) (before after : Memory) → 16 ≤ int → IsSoundWorld world
    → file_of int world program ≡ Some file → IsSoundMemory before → called_from_outside file name before ≡ Some after → IsSoundMemory after
call_sound int world program file name before after big fine declared memory called =
    let sound = file_sound int world program file big fine declared in
    let function = comes (file.functions name) (λ function. and_then (function None [] before) (λ it. Some it.memory)) after called in
    let end = comes (function.value None [] before) (λ it. Some it.memory) after function.gives in
    let ends = sound.functions name function.value function.is None [] before end.value memory tt (λ since r. cc) end.is in
    subst IsSoundMemory (some_same end.gives) ends.memory

-- a call within an expression
called_computes : (context : Context) (name : List ℕ) (arguments : Option (List Value)) (given : Value) → IsSoundContext context
    → ((values : List Value) → arguments ≡ Some values → AreSoundValues values) → called name context arguments ≡ Some given
    → OnlyComputes context name arguments given
called_computes context name None given sound fine e = cc
called_computes context name (Some values) given sound fine e =
    let function = comes (context.functions name) (λ f. and_then (f (Some context.memory.count) values context.memory) (λ ended. ended.value)) given e in
    let end = comes (function.value (Some context.memory.count) values context.memory) (λ ended. ended.value) given function.gives in
    let it = sound.functions name function.value function.is (Some context.memory.count) values context.memory end.value sound.memory (fine values refl)
    (λ since r. let same : context.memory.count ≡ since = some_same r in omega (arith, same)) end.is in
    record {
      function = function.value;
      declared = function.is;
      values = values;
      passed = refl;
      rights = Some context.memory.count;
      end = end.value;
      ends = end.is;
      value = end.gives;
      objects = λ number less. it.stays.objects context.memory.count number refl less;
      world = it.stays.world context.memory.count refl;
    }

pub calls_compute : (name : List ℕ) (arguments : List CExp) (context : Context) (given : Value) → IsSoundContext context
    → (meant (exp.Call name arguments)).value context ≡ Some given → OnlyComputes context name (values_of (map meant arguments) context) given
calls_compute name arguments context given sound e =
    called_computes context name (values_of (map meant arguments) context) given sound
    (λ values is. arguments_sound arguments context values sound is)
    (sym (ap (λ (m : Meant). m.value context) (call_means name arguments)) ∙ e)
