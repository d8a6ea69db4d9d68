-- What the machine does with one instruction after another.
use Rattle.std.specs.Prelude.{◌≡◌, ℕ, zero, suc, ◌+◌, ◌-◌, ◌/◌, ◌%◌, ◌==◌, nat_lt, nat_le, max, List, [], ◌∷◌, ◌++◌, length, map, Option, Some, None, if◌then◌else◌, slice_get, slice_set}
use Rattle.std.specs.List.{flat_map}
use Rattle.std.specs.Option.{option_map, option_and_then, unwrap_or}
use Rattle.hume_base.specs.declared.types.Ty.{Ty}
use Rattle.hume_base.specs.declared.types.Ty.TheVariants as shape
use Rattle.hume_base.specs.declared.types.Types.{Types}
use Rattle.hume_base.specs.declared.types.Value.{Word}
use Rattle.hume_base.specs.Flat.{word_of_value}
use Rattle.hume_model.specs.declared.core_tree.Op.{Op}
use Rattle.hume_model.specs.declared.core_tree.Op.TheVariants as op
use Rattle.hume_model.specs.declared.exceptions.TheConstants.{RANGE}
use Rattle.hume_model.specs.declared.outcome.Outcome.{Outcome}
use Rattle.hume_model.specs.declared.outcome.Outcome.TheVariants.{Gives, Raises}
use Rattle.hume_model.specs.Operations.{prim, is_place}
use Rattle.box_heap.specs.Heaps.{Object, object_at, words_of_object}
use Rattle.box_heap.specs.Stacks.{at_depth, under, last}
use Rattle.box_code.specs.declared.instr.Path.{Path}
use Rattle.box_code.specs.declared.instr.Scalar.{Scalar}
use Rattle.box_code.specs.declared.instr.Scalar.TheVariants as scalar
use Rattle.box_code.specs.declared.instr.Comparison.{Comparison}
use Rattle.box_code.specs.declared.instr.Comparison.TheVariants as comparison
use Rattle.box_code.specs.declared.instr.Instr.{Instr}
use Rattle.box_code.specs.declared.instr.Instr.TheVariants.{Push, Load, Make, Add, Sub, Mul, Div, Mod, Neg, Not, Convert, Compare, Index, Update, Jump, JumpFalse, MatchWord, MatchTag, Field, Slide, Call, Return, Raise, Finish}
use Rattle.box_code.specs.declared.program.BoxProgram.{BoxProgram}
use Rattle.box_code.specs.Words.{fields_in}
use Rattle.box_code.specs.Reading.{Read, instr_at}
use Rattle.box_code.specs.FlatObjects.{flat_at}

-- What a machine runs: the words of a code, the place of the handler for each exception, and the types of the outputs.
pub record Setting : Type 0 where
  pub code : List ℕ
  pub handlers : ℕ → ℕ
  pub types : Types
  pub outs : List Ty

-- the place of the handler, or the end of the code where there is none
abbrev pub handler_place : BoxProgram → ℕ → ℕ
handler_place program exn = unwrap_or (slice_get program.handlers exn) (length program.code.words)

abbrev pub setting_of : Types → BoxProgram → Setting
setting_of types program = record { code = program.code.words; handlers = handler_place program; types = types; outs = program.outs }

-- A machine: the place of the next instruction; the words of the stack, the deepest first, and the most that there were; the
-- objects of the heap; the flat words of the outputs; and the exception that was raised.
pub record Machine : Type 0 where
  pub at : ℕ
  pub stack : List ℕ
  pub peak : ℕ
  pub objects : List Object
  pub outs : List (Option (List ℕ))
  pub raised : Option ℕ

pub data Next : Type 0 where
  Goes : Machine → Next
  Ends : Machine → Next
  Broken : Next

-- the words that objects take
abbrev pub used : List Object → ℕ
used objects = length (flat_map words_of_object objects)

-- goes on at a place, with these words on the stack, which are no more than there were
abbrev pub lowered : Machine → ℕ → List ℕ → Next
lowered m to stack = Goes (record { at = to; stack = stack; peak = m.peak; objects = m.objects; outs = m.outs; raised = m.raised })

-- the same, with words on top of them
abbrev pub pushed : Machine → ℕ → List ℕ → List ℕ → Next
pushed m to stack words =
    Goes (record { at = to; stack = stack ++ words; peak = max m.peak (length stack + length words); objects = m.objects; outs = m.outs; raised = m.raised })

-- the same, with an object more, whose place is on top
abbrev pub put : Machine → ℕ → List ℕ → Object → Next
put m to stack object = Goes (record {
  at = to;
  stack = stack ++ used m.objects ∷ [];
  peak = max m.peak (length stack + 1);
  objects = m.objects ++ object ∷ [];
  outs = m.outs;
  raised = m.raised;
})

-- what the exception carries is alone on the stack
abbrev pub to_handler : Setting → Machine → ℕ → ℕ → Next
to_handler s m exn word =
    Goes (record { at = s.handlers exn; stack = word ∷ []; peak = m.peak; objects = m.objects; outs = m.outs; raised = Some exn })

abbrev pub with_word : Option ℕ → (ℕ → Next) → Next
with_word None go = Broken
with_word (Some word) go = go word

abbrev pub with_object : Option Object → (Object → Next) → Next
with_object None go = Broken
with_object (Some object) go = go object

-- the word at a depth, 0 at the top, if the stack is so high
abbrev pub word_at : ℕ → List ℕ → Option ℕ
word_at depth stack = if nat_lt depth (length stack) then at_depth depth stack else None

-- the words under the last ones, and those, if there are so many
abbrev pub with_last : ℕ → List ℕ → (List ℕ → List ℕ → Next) → Next
with_last count stack go = if nat_le count (length stack) then go (under count stack) (last count stack) else Broken

-- a field of an object
abbrev pub field_of : Option Object → ℕ → Option ℕ
field_of None number = None
field_of (Some object) number = slice_get object.1 number

abbrev pub tag_of : Option Object → Option ℕ
tag_of object = option_map (λ (object : Object). object.0) object

-- the word to which field numbers lead from a word on
abbrev pub at_path : List Object → List ℕ → ℕ → Option ℕ
at_path objects [] word = Some word
at_path objects (number ∷ path) word = option_and_then (at_path objects path) (field_of (object_at objects word) number)

-- the word at a path from the word at a depth on
abbrev pub found_at : Setting → Machine → ℕ → Path → Option ℕ
found_at s m depth path = option_and_then (at_path m.objects (fields_in s.code path)) (word_at depth m.stack)

-- the tag of the object there
abbrev pub tag_found_at : Setting → Machine → ℕ → Path → Option ℕ
tag_found_at s m depth path = option_and_then (λ place. tag_of (object_at m.objects place)) (found_at s m depth path)

-- goes on if both are the same, and jumps if not
abbrev pub matched : Machine → ℕ → ℕ → ℕ → Option ℕ → Next
matched m next to wanted found = with_word found (λ word. lowered m (if word == wanted then next else to) m.stack)

abbrev pub type_of : Scalar → Ty
type_of scalar.Bool = shape.Bool
type_of scalar.Char = shape.Char
type_of (scalar.Int bits) = shape.Int bits
type_of (scalar.Nat bits) = shape.Nat bits

abbrev pub op_of : Comparison → Op
op_of comparison.Eq = op.Eq
op_of comparison.Ne = op.Ne
op_of comparison.Lt = op.Lt
op_of comparison.Le = op.Le
op_of comparison.Gt = op.Gt
op_of comparison.Ge = op.Ge

-- a word, or the handler
abbrev pub come_to : Setting → Machine → ℕ → List ℕ → Outcome → Next
come_to s m next stack (Gives value) = lowered m next (stack ++ word_of_value value ∷ [])
come_to s m next stack (Raises exn carried) = to_handler s m exn 0

-- an operation of the meaning on the last words
abbrev pub operated : Setting → Machine → ℕ → Op → Scalar → ℕ → Next
operated s m next op ty count =
    with_last count m.stack (λ stack words. come_to s m next stack (prim op (type_of ty) (map (λ word. Word word) words)))

-- the element of a vector, by the words of the vector and of the place
abbrev pub indexed : Setting → Machine → ℕ → ℕ → List ℕ → List ℕ → Next
indexed s m next count stack (vector ∷ place ∷ []) =
    if is_place count place
    then with_word (field_of (object_at m.objects vector) (place - 1)) (λ word. lowered m next (stack ++ word ∷ []))
    else to_handler s m RANGE 0
indexed s m next count stack _ = Broken

-- the changed vector, by the words of the vector, of the place and of the element
abbrev pub updated : Setting → Machine → ℕ → ℕ → List ℕ → List ℕ → Next
updated s m next count stack (vector ∷ place ∷ item ∷ []) =
    if is_place count place
    then with_object (object_at m.objects vector) (λ object. put m next stack (object.0, slice_set object.1 (place - 1) item))
    else to_handler s m RANGE 0
updated s m next count stack _ = Broken

-- what an exception carries: the top word, or 0
abbrev pub raised_with : Setting → Machine → ℕ → Option ℕ → Next
raised_with s m exn word = with_word word (to_handler s m exn)

-- how many outputs of so many a mask has
abbrev pub outs_in : ℕ → List Ty → ℕ
outs_in mask [] = 0
outs_in mask (ty ∷ tys) = mask % 2 + outs_in (mask / 2) tys

-- the output, if it has words, and the others
abbrev pub with_out : Option (List ℕ) → Option (List (Option (List ℕ))) → Option (List (Option (List ℕ)))
with_out None outs = None
with_out (Some out) outs = option_map (λ more. Some out ∷ more) outs

-- the flat words of the outputs of the mask, one for each of these words
abbrev pub flat_outs : Types → List Object → List Ty → ℕ → List ℕ → Option (List (Option (List ℕ)))
flat_outs types objects [] mask words = Some []
flat_outs types objects (ty ∷ tys) mask [] =
    if mask % 2 == 0 then option_map (λ outs. None ∷ outs) (flat_outs types objects tys (mask / 2) []) else None
flat_outs types objects (ty ∷ tys) mask (word ∷ words) =
    if mask % 2 == 0 then option_map (λ outs. None ∷ outs) (flat_outs types objects tys (mask / 2) (word ∷ words))
    else with_out (flat_at types objects ty word) (flat_outs types objects tys (mask / 2) words)

-- ends with the outputs
abbrev pub ended : Machine → List ℕ → Option (List (Option (List ℕ))) → Next
ended m stack None = Broken
ended m stack (Some outs) = Ends (record { at = m.at; stack = stack; peak = m.peak; objects = m.objects; outs = outs; raised = m.raised })

-- what an instruction does where the next one is at a place
abbrev pub act : Setting → Instr → ℕ → Machine → Next
act s (Push word) next m = pushed m next m.stack (word ∷ [])
act s (Load depth) next m = with_word (word_at depth m.stack) (λ word. pushed m next m.stack (word ∷ []))
act s (Make tag count) next m = with_last count m.stack (λ stack words. put m next stack (tag, words))
act s (Add ty) next m = operated s m next op.Add ty 2
act s (Sub ty) next m = operated s m next op.Sub ty 2
act s (Mul ty) next m = operated s m next op.Mul ty 2
act s (Div ty) next m = operated s m next op.Div ty 2
act s (Mod ty) next m = operated s m next op.Mod ty 2
act s (Neg ty) next m = operated s m next op.Neg ty 1
act s Not next m = operated s m next op.Not scalar.Bool 1
act s (Convert ty) next m = operated s m next op.Convert ty 1
act s (Compare comparison ty) next m = operated s m next (op_of comparison) ty 2
act s (Index count) next m = with_last 2 m.stack (indexed s m next count)
act s (Update count) next m = with_last 3 m.stack (updated s m next count)
act s (Jump to) next m = lowered m to m.stack
act s (JumpFalse to) next m = with_word (word_at 0 m.stack) (λ word. lowered m (if word == 0 then to else next) (under 1 m.stack))
act s (MatchWord depth path word to) next m = matched m next to word (found_at s m depth path)
act s (MatchTag depth path tag to) next m = matched m next to tag (tag_found_at s m depth path)
act s (Field depth path) next m = with_word (found_at s m depth path) (λ word. pushed m next m.stack (word ∷ []))
act s (Slide count) next m = with_word (word_at 0 m.stack) (λ word. with_last (1 + count) m.stack (λ stack words. lowered m next (stack ++ word ∷ [])))
act s (Call to count) next m = with_last count m.stack (λ stack words. pushed m to m.stack (next ∷ length stack ∷ []))
act s (Return count variables) next m =
    with_word (word_at 0 m.stack) (λ word. with_word (word_at (2 + variables) m.stack) (λ back.
    with_last (1 + (variables + (2 + count))) m.stack (λ stack words.
    if nat_le back (length s.code) then lowered m back (stack ++ word ∷ []) else Broken)))
act s (Raise exn carried) next m = raised_with s m exn (if carried then word_at 0 m.stack else Some 0)
act s (Finish mask) next m =
    with_last (outs_in mask s.outs) m.stack (λ stack words. ended m stack (flat_outs s.types m.objects s.outs mask words))

abbrev pub act_on : Setting → Read → Machine → Next
act_on s None m = Broken
act_on s (Some read) m = act s read.0 read.1 m

-- one instruction
abbrev pub step : Setting → Machine → Next
step s m = act_on s (instr_at s.code m.at) m

-- goes on from the machine, unless it has ended
abbrev pub follow : Next → (Machine → Next) → Next
follow (Goes m) go = go m
follow (Ends m) go = Ends m
follow Broken go = Broken

-- so many instructions, or as many as there are
unfoldable pub run : Setting → ℕ → Machine → Next
run s zero m = Goes m
run s (suc count) m = follow (step s m) (run s count)

-- the machine ends so, by the last of so many instructions, and by none before it
pub record EndsAfter (s : Setting) (m n : Machine) (count : ℕ) : Type 0 where
  pub last : Machine
  pub before : ℕ
  pub goes : run s before m ≡ Goes last
  pub ends : step s last ≡ Ends n
  pub counted : count ≡ before + 1
