-- Statements keep numbers within their types, and write only what they may.
use Rattle.std.proofs.Common.{◌≡◌, ◌≤◌, ◌<◌, ℕ, zero, suc, ◌+◌, Bool, true, false, ℤ, pos, negsuc, List, [], ◌∷◌, map, Option, Some}
use Rattle.std.proofs.Common.{None, if◌then◌else◌}
use Rattle.std.specs.Prelude.{⊤}
use Rattle.std.proofs.Common.{refl, sym, ◌∙◌, subst, arith}
use Rattle.std.specs.Option.{is_some}
use Rattle.std.specs.Int.RustNames.{int_le, unsigned_abs}
use Rattle.std.proofs.lemmas.Int.{ints}
use Rattle.std.proofs.lemmas.Bool.{and_parts}
use Rattle.c_tree.specs.declared.tree.CType.{CType}
use Rattle.c_tree.specs.declared.tree.CType.TheVariants as ctype
use Rattle.c_tree.specs.declared.tree.COp.{COp}
use Rattle.c_tree.specs.declared.tree.COp.TheVariants as op
use Rattle.c_tree.specs.declared.tree.CExp.{CExp}
use Rattle.c_tree.specs.declared.tree.CVariable.{CVariable}
use Rattle.c_tree.specs.declared.tree.CCount.{CCount}
use Rattle.c_tree.specs.declared.tree.CStm.{CStm, roll-CStm, map-CStm, fold-roll-CStm, ind-CStm}
use Rattle.c_tree.specs.declared.tree.CStm.TheOpen.{CStm-F}
use Rattle.c_meaning.specs.Numbers.{Signed, CNumber, and_then, of_type, holds, is_true, converted, promoted}
use Rattle.c_meaning.specs.Operators.{operated}
use Rattle.c_meaning.specs.Objects.{Object, Scalar, Struct, Array, Union, with_number}
use Rattle.c_meaning.specs.Memories.{Place, Value, Memory, Rights, changed_at, with_object, made, next_place, named}
use Rattle.c_meaning.specs.Expressions.{Ended, Context, Types, blank, number_of, values_of, meant}
use Rattle.c_meaning.specs.Statements.{Out, Goes, Leaves, Returns, Undefined, Doing, and_go, defined, in_memory, in_turn, left_block, ended_block}
use Rattle.c_meaning.specs.Statements.{block, call_ended}
use Rattle.c_meaning.specs.Statements.{ended_as, unchanged, ended, with_value, one_place, may_copy, assigned, assign, stepped, call_statement}
use Rattle.c_meaning.specs.Statements.{with_name, add_variable}
use Rattle.c_meaning.specs.Statements.{declare, define, test_number, chosen, constant_number, same_number, case_of, after_cases, next_round}
use Rattle.c_meaning.specs.Statements.{counted_at, set_count}
use Rattle.c_meaning.specs.Statements.{rounds, reaches, loop, return, do_statement, doing}
use Rattle.c_meaning.specs.Sound.{IsSound, IsSoundValue, AreSoundValues, IsFrom, IsSoundContext}
use Rattle.c_meaning.proofs.Options.{some_same, comes}
use Rattle.c_meaning.proofs.Ranges.{in_range, is_held}
use Rattle.c_meaning.proofs.SoundObjects.{assigned_sound, number_sound, Follows, follows_same, follows_then, object_follows}
use Rattle.c_meaning.proofs.SoundObjects.{changed_follows, made_follows}
use Rattle.c_meaning.proofs.SoundObjects.{left_follows}
use Rattle.c_meaning.proofs.SoundExpressions.{IsSoundOption, meant_sound}

-- a context that comes of another one
pub record WentOn (before after : Context) : Type 0 where
  pub sound : IsSoundContext after
  pub rights : after.rights ≡ before.rights
  pub follows : Follows before.rights before.memory after.memory

pub record Returned (before : Context) (given : Option Value) (memory : Memory) : Type 0 where
  pub value : IsSoundOption given
  pub follows : Follows before.rights before.memory memory

-- what comes of a context
abbrev pub Ran : Context → Out → Type 0
Ran before (Goes after) = WentOn before after
Ran before (Leaves after) = WentOn before after
Ran before (Returns value memory) = Returned before value memory
Ran before Undefined = ⊤

abbrev pub Runs : Doing → Type 0
Runs doing = (context : Context) → IsSoundContext context → Ran context (doing context)

-- ---- going on

same_went : (context : Context) → IsSoundContext context → WentOn context context
same_went context sound = record { sound = sound; rights = refl; follows = follows_same context.rights context.memory sound.memory }

follows_from : (rights : Rights) (a c : Context) (memory : Memory) → WentOn a c → Follows c.rights c.memory memory → Follows a.rights a.memory memory
follows_from rights a c memory w f =
    follows_then a.rights a.memory c.memory memory w.follows (subst (λ (r : Rights). Follows r c.memory memory) w.rights f)

then_ran : (a c : Context) → WentOn a c → (out : Out) → Ran c out → Ran a out
then_ran a c w (Goes after) r = record { sound = r.sound; rights = r.rights ∙ w.rights; follows = follows_from a.rights a c after.memory w r.follows }
then_ran a c w (Leaves after) r = record { sound = r.sound; rights = r.rights ∙ w.rights; follows = follows_from a.rights a c after.memory w r.follows }
then_ran a c w (Returns value memory) r = record { value = r.value; follows = follows_from a.rights a c memory w r.follows }
then_ran a c w Undefined r = tt

go_ran : (a : Context) (out : Out) (next : Doing) → Ran a out → ((c : Context) → WentOn a c → Ran c (next c)) → Ran a (and_go out next)
go_ran a (Goes after) next r runs = then_ran a after r (next after) (runs after r)
go_ran a (Leaves after) next r runs = r
go_ran a (Returns value memory) next r runs = r
go_ran a Undefined next r runs = tt

defined_ran : {A : Type 0} (a : Context) (o : Option A) (next : A → Out) → ((x : A) → o ≡ Some x → Ran a (next x)) → Ran a (defined o next)
defined_ran a None next h = tt
defined_ran a (Some x) next h = h x refl

test_ran : (a : Context) (test : Bool) (x y : Out) → Ran a x → Ran a y → Ran a (if test then x else y)
test_ran a true x y p q = p
test_ran a false x y p q = q

-- a context with another memory
pub memory_sound : (context : Context) (memory : Memory) → IsSoundContext context → Follows context.rights context.memory memory
    → IsSoundContext (in_memory context memory)
memory_sound context memory sound f = record {
  int = sound.int;
  types = sound.types;
  functions = sound.functions;
  rights = λ since r. let h : since ≤ context.memory.count = sound.rights since r in omega (arith, h, f.grows);
  memory = f.sound;
}

memory_went : (context : Context) (memory : Memory) → IsSoundContext context → Follows context.rights context.memory memory
    → WentOn context (in_memory context memory)
memory_went context memory sound f = record { sound = memory_sound context memory sound f; rights = refl; follows = f }

-- ---- blocks

left_sound : (before after : Context) → IsSoundContext before → WentOn before after → WentOn before (left_block before after)
left_sound before after sound w = record {
  sound = record {
    int = w.sound.int;
    types = w.sound.types;
    functions = w.sound.functions;
    rights = λ since r. sound.rights since (sym w.rights ∙ r);
    memory = record { objects = w.sound.memory.objects; world = w.sound.memory.world };
  };
  rights = w.rights;
  follows = left_follows before.rights before.memory after.memory w.follows;
}

block_ended : (before : Context) (out : Out) → IsSoundContext before → Ran before out → Ran before (ended_block before out)
block_ended before (Goes after) sound r = left_sound before after sound r
block_ended before (Leaves after) sound r = left_sound before after sound r
block_ended before (Returns value memory) sound r = r
block_ended before Undefined sound r = tt

-- ---- calls and assignments

-- how a call that stands by itself ends
pub record EndedSound (context : Context) (end : Ended) : Type 0 where
  pub value : IsSoundOption end.value
  pub follows : Follows context.rights context.memory end.memory

call_sound : (name : List ℕ) (context : Context) (arguments : Option (List Value)) (end : Ended) → IsSoundContext context
    → ((values : List Value) → arguments ≡ Some values → AreSoundValues values) → call_ended name context arguments ≡ Some end → EndedSound context end
call_sound name context None end sound fine e = cc
call_sound name context (Some values) end sound fine e =
    let function = comes (context.functions name) (λ f. f context.rights values context.memory) end e in
    let it = sound.functions name function.value function.is context.rights values context.memory end sound.memory
    (fine values refl) sound.rights function.gives in
    record { value = it.value; follows = record { sound = it.memory; grows = omega (arith, it.count); stays = it.stays } }

unchanged_sound : (context : Context) (value : Option Value) (end : Ended) → IsSoundContext context → IsSoundOption value
    → unchanged context value ≡ Some end → EndedSound context end
unchanged_sound context None end sound fine e = cc
unchanged_sound context (Some v) end sound fine e = subst (EndedSound context) (some_same e)
    (record { value = fine; follows = follows_same context.rights context.memory sound.memory })

by_call : (context : Context) (call : Option (List ℕ × (Context → Option (List Value)))) (value : Option Value) (end : Ended) → IsSoundContext context
    → IsSoundOption value
    → ((name : List ℕ) (arguments : Context → Option (List Value)) (values : List Value) → call ≡ Some (name, arguments) → arguments context ≡ Some values
    → AreSoundValues values) → ended_as context call value ≡ Some end → EndedSound context end
by_call context None value end sound fine args e = unchanged_sound context value end sound fine e
by_call context (Some (name, arguments)) value end sound fine args e =
    call_sound name context (arguments context) end sound (λ values is. args name arguments values refl is) e

pub ended_sound : (exp : CExp) (context : Context) (end : Ended) → IsSoundContext context → ended exp context ≡ Some end → EndedSound context end
ended_sound exp context end sound e =
    let it = meant_sound context sound exp in by_call context (meant exp).call ((meant exp).value context) end sound it.value it.arguments e

assigned_ran : (context : Context) (place : Place) (end : Ended) → IsSoundContext context → EndedSound context end → Ran context (assigned context place end)
assigned_ran context place end sound it =
    defined_ran context end.value _ (λ value v. defined_ran context (changed_at context.rights end.memory place (with_value value)) _ (λ memory e.
    memory_went context memory sound (follows_then context.rights context.memory end.memory memory it.follows
    (changed_follows context.rights end.memory place (with_value value) memory it.follows.sound (assigned_sound value (it.value value v)) e))))

assign_ran : (object exp : CExp) → Runs (assign object exp)
assign_ran object exp context sound =
    defined_ran context ((meant object).place context) _ (λ place p. defined_ran context (ended exp context) _ (λ end e.
    test_ran context (one_place place ((meant object).place (in_memory context end.memory)))
    (if may_copy context.memory place ((meant exp).place context) then assigned context place end else Undefined) Undefined
    (test_ran context (may_copy context.memory place ((meant exp).place context)) (assigned context place end) Undefined
    (assigned_ran context place end sound (ended_sound exp context end sound e)) tt) tt))

stepped_ran : (operator : COp) (object : CExp) → Runs (stepped operator object)
stepped_ran operator object context sound =
    defined_ran context ((meant object).place context) _ (λ place p. defined_ran context (number_of ((meant object).value context)) _ (λ x n.
    defined_ran context (operated context.int operator x (of_type (Signed context.int) (pos 1))) _ (λ new o.
    defined_ran context (changed_at context.rights context.memory place (with_number new)) _ (λ memory e.
    memory_went context memory sound (changed_follows context.rights context.memory place (with_number new) memory sound.memory (number_sound new) e)))))

pub arguments_sound : (arguments : List CExp) (context : Context) (values : List Value) → IsSoundContext context
    → values_of (map meant arguments) context ≡ Some values → AreSoundValues values
arguments_sound [] context values sound e = subst AreSoundValues (some_same e) tt
arguments_sound (a ∷ others) context values sound e =
    let first = comes ((meant a).value context) (λ v. and_then (values_of (map meant others) context) (λ more. Some (v ∷ more))) values e in
    let rest = comes (values_of (map meant others) context) (λ more. Some (first.value ∷ more)) values first.gives in
    subst AreSoundValues (some_same rest.gives)
    ((meant_sound context sound a).value first.value first.is, arguments_sound others context rest.value sound rest.is)

call_ran : (name : List ℕ) (arguments : List CExp) → Runs (call_statement name arguments)
call_ran name arguments context sound =
    defined_ran context (call_ended name context (values_of (map meant arguments) context)) _ (λ end e.
    memory_went context end.memory sound (call_sound name context (values_of (map meant arguments) context) end sound
    (λ values is. arguments_sound arguments context values sound is) e).follows)

-- ---- declarations

pub blank_sound : (types : Types) (type : CType) (object : Object) → ((name : List ℕ) (object : Object) → types name ≡ Some object → IsSound object)
    → blank types type ≡ Some object → IsSound object
blank_sound types ctype.Bool object fine e = subst IsSound (some_same e) tt
blank_sound types (ctype.Signed width) object fine e = subst IsSound (some_same e) tt
blank_sound types (ctype.Unsigned width) object fine e = subst IsSound (some_same e) tt
blank_sound types (ctype.Named name) object fine e = fine name object e

pub name_went : (context : Context) (name : List ℕ) (object : Object) (constant : Bool) → IsSoundContext context → IsSound object
    → WentOn context (with_name context name object constant)
name_went context name object constant sound fine =
    let f = made_follows context.rights context.memory object sound.memory fine sound.rights in
    let s = memory_sound context (made context.memory object) sound f in
    record { sound = record { int = s.int; types = s.types; functions = s.functions; rights = s.rights; memory = s.memory }; rights = refl; follows = f }

variable_ran : (variable : CVariable) (object : Object) (context : Context) → IsSoundContext context → IsSound object
    → Ran context (add_variable variable object context)
variable_ran variable object context sound fine =
    test_ran context (is_some (named variable.name context.scope)) Undefined _ tt (name_went context variable.name object variable.constant sound fine)

declare_ran : (variable : CVariable) → Runs (declare variable)
declare_ran variable context sound = defined_ran context (blank context.types variable.ty) _ (λ object b.
    variable_ran variable object context sound (blank_sound context.types variable.ty object sound.types b))

define_ran : (variable : CVariable) (exp : CExp) → Runs (define variable exp)
define_ran variable exp context sound = defined_ran context (blank context.types variable.ty) _ (λ old b. defined_ran context (ended exp context) _ (λ end e.
    let it = ended_sound exp context end sound e in
    defined_ran context end.value _ (λ value v. defined_ran context (with_value value old) _ (λ object w.
    let went = memory_went context end.memory sound it.follows in
    then_ran context (in_memory context end.memory) went (add_variable variable object (in_memory context end.memory))
    (variable_ran variable object (in_memory context end.memory) went.sound
    (assigned_sound value (it.value value v) old object (blank_sound context.types variable.ty old sound.types b) w))))))

-- ---- forms with parts

abbrev pub Step : Type 0
Step = (s : CStm) × Runs (doing s)

abbrev of_step : Step → CStm
of_step p = p.0

abbrev steps : List Step → List Doing
steps ps = map doing (map of_step ps)

turn_ran : (ps : List Step) → Runs (in_turn (steps ps))
turn_ran [] context sound = same_went context sound
turn_ran (p ∷ ps) context sound = go_ran context (doing p.0 context) (in_turn (steps ps)) (p.1 context sound) (λ c w. turn_ran ps c w.sound)

block_ran : (ps : List Step) → Runs (block (steps ps))
block_ran ps context sound = block_ended context (in_turn (steps ps) context) sound (turn_ran ps context sound)

-- a test or a case, with its statements
abbrev pub Arm : Type 0
Arm = CExp × List Step

abbrev arm_of : Arm → CExp × List CStm
arm_of arm = (arm.0, map of_step arm.1)

abbrev doing_arm : CExp × List CStm → CExp × List Doing
doing_arm arm = (arm.0, map doing arm.1)

abbrev arms : List Arm → List (CExp × List Doing)
arms ps = map doing_arm (map arm_of ps)

chosen_ran : (ps : List Arm) (otherwise : List Step) → Runs (chosen (arms ps) (steps otherwise))
chosen_ran [] otherwise context sound = block_ran otherwise context sound
chosen_ran (p ∷ ps) otherwise context sound = defined_ran context (test_number p.0 context) _
    (λ x e. test_ran context (is_true x.number) _ _ (block_ran p.1 context sound) (chosen_ran ps otherwise context sound))

cases_ran : (ps : List Arm) (otherwise : List Step) (x : CNumber) → Runs (case_of (arms ps) (steps otherwise) x)
cases_ran [] otherwise x context sound = block_ran otherwise context sound
cases_ran (p ∷ ps) otherwise x context sound = defined_ran context (constant_number p.0 context) _
    (λ constant e. defined_ran context (converted (promoted context.int x.ty) constant.number) _
    (λ it i. test_ran context (same_number x.number it.number) _ _ (block_ran p.1 context sound) (cases_ran ps otherwise x context sound)))

after_ran : (context : Context) (out : Out) → Ran context out → Ran context (after_cases out)
after_ran context (Goes after) r = r
after_ran context (Leaves after) r = r
after_ran context (Returns value memory) r = r
after_ran context Undefined r = tt

-- ---- loops

next_ran : (a : Context) (out : Out) (next : Doing) → Ran a out → ((c : Context) → WentOn a c → Ran c (next c)) → Ran a (next_round out next)
next_ran a (Goes after) next r runs = then_ran a after r (next after) (runs after r)
next_ran a (Leaves after) next r runs = r
next_ran a (Returns value memory) next r runs = r
next_ran a Undefined next r runs = tt

counted_sound : (object : Object) (limit : ℤ) → reaches limit object ≡ true → (k : ℕ) → k < unsigned_abs limit → IsSound (counted_at k object)
counted_sound (Scalar ty old) (pos m) h k less =
    let r = in_range ty (pos m) (and_parts (int_le (pos 0) (pos m)) (holds ty (pos m)) h).1 in
    is_held ty (pos k) (record { above = omega (arith, ints); below = omega (arith, ints, r.below, less) })
counted_sound (Scalar ty old) (negsuc m) h k less = cc
counted_sound (Struct type names part) limit h k less = cc
counted_sound (Array count element) limit h k less = cc
counted_sound (Union names force part) limit h k less = cc

count_went : (place : Place) (object : Object) (i : ℕ) (context : Context) → IsSoundContext context → IsSound (counted_at i object)
    → IsFrom context.rights place.block → WentOn context (set_count place object i context)
count_went place object i context sound fine from =
    memory_went context (with_object context.memory place.block (counted_at i object)) sound
    (object_follows context.rights context.memory place.block context.memory.count (counted_at i object) sound.memory fine (omega arith) from)

rounds_ran : (left i total : ℕ) (place : Place) (object : Object) (body : List Step) → i + left ≡ total
    → ((k : ℕ) → k < total → IsSound (counted_at k object)) → (context : Context) → IsSoundContext context → IsFrom context.rights place.block
    → Ran context (rounds left i place object (steps body) context)
rounds_ran zero i total place object body e fine context sound from = same_went context sound
rounds_ran (suc left) i total place object body e fine context sound from =
    let w = count_went place object i context sound (fine i (omega (arith, e))) from in
    then_ran context (set_count place object i context) w _
    (next_ran (set_count place object i context) (block (steps body) (set_count place object i context)) _ (block_ran body
    (set_count place object i context) w.sound)
    (λ c v. rounds_ran left (i + 1) total place object body (omega (arith, e)) fine c v.sound
    (λ since r. from since (sym (v.rights ∙ w.rights) ∙ r))))

loop_ran : (count : CCount) (body : List Step) → Runs (loop count (steps body))
loop_ran count body context sound = defined_ran context (constant_number count.limit context) _ (λ limit l.
    defined_ran context (blank context.types count.ty) _ (λ object b. by limit object b (reaches limit.number object) refl))
  where
    by : (limit : CNumber) (object : Object) → blank context.types count.ty ≡ Some object → (t : Bool) → reaches limit.number object ≡ t
        → Ran context (if t then and_go (add_variable (record { constant = true; ty = count.ty; name = count.name }) object context)
        (rounds (unsigned_abs limit.number) 0 (next_place context.memory true) object (steps body)) else Undefined)
    by limit object b true h = go_ran context (add_variable (record { constant = true; ty = count.ty; name = count.name }) object context) _
        (variable_ran (record { constant = true; ty = count.ty; name = count.name }) object context sound
        (blank_sound context.types count.ty object sound.types b))
        (λ c w. rounds_ran (unsigned_abs limit.number) 0 (unsigned_abs limit.number) (next_place context.memory true) object body (omega arith)
        (counted_sound object limit.number h) c w.sound (λ since r. sound.rights since (sym w.rights ∙ r)))
    by limit object b false h = tt

-- ---- forms

return_ran : (exp : Option CExp) → Runs (return exp)
return_ran None context sound = record { value = λ value e. cc; follows = follows_same context.rights context.memory sound.memory }
return_ran (Some exp) context sound = defined_ran context (ended exp context) _ (λ end e.
    let it = ended_sound exp context end sound e in
    defined_ran context end.value _ (λ value v. record {
      value = λ other o. subst IsSoundValue (some_same o) (it.value value v);
      follows = it.follows;
    }))

abbrev layer : CStm-F Step → CStm-F CStm
layer y = map-CStm Step CStm of_step y

step_ran : (y : CStm-F Step) → Runs (do_statement (map-CStm CStm Doing doing (layer y)))
step_ran (CStm-F.Comment text) context sound = same_went context sound
step_ran (CStm-F.Declare variable) context sound = declare_ran variable context sound
step_ran (CStm-F.Define variable value) context sound = define_ran variable value context sound
step_ran (CStm-F.Assign object value) context sound = assign_ran object value context sound
step_ran (CStm-F.Increment object) context sound = stepped_ran op.Add object context sound
step_ran (CStm-F.Decrement object) context sound = stepped_ran op.Subtract object context sound
step_ran (CStm-F.Call name arguments) context sound = call_ran name arguments context sound
step_ran (CStm-F.If test body others otherwise) context sound = chosen_ran ((test, body) ∷ others) otherwise context sound
step_ran (CStm-F.Switch subject cases otherwise) context sound = defined_ran context (test_number subject context) _
    (λ x e. after_ran context _ (cases_ran cases otherwise x context sound))
step_ran (CStm-F.For count body) context sound = block_ended context (loop count (steps body) context) sound (loop_ran count body context sound)
step_ran CStm-F.Break context sound = same_went context sound
step_ran (CStm-F.Return value) context sound = return_ran value context sound

abbrev DoesSound : CStm → Type 0
DoesSound s = Runs (doing s)

layer_ran : (y : CStm-F Step) → DoesSound (roll-CStm (layer y))
layer_ran y = subst Runs (sym (fold-roll-CStm Doing do_statement (layer y))) (step_ran y)

-- each statement keeps numbers within their types, and writes only what it may
pub doing_runs : (s : CStm) → Runs (doing s)
doing_runs = ind-CStm DoesSound (λ x y is. subst (λ z. DoesSound (roll-CStm z)) is (layer_ran y))

pub body_runs : (ss : List CStm) → Runs (in_turn (map doing ss))
body_runs [] context sound = same_went context sound
body_runs (s ∷ ss) context sound = go_ran context (doing s context) (in_turn (map doing ss)) (doing_runs s context sound) (λ c w. body_runs ss c w.sound)
