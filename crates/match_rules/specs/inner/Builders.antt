-- What builds the value at the front of a list of words: the word that stands for it, the words of its objects, which are put from a
-- place in the heap on, and the words behind it. An object stands before those of its parts.
use Rattle.std.specs.Prelude.{ℕ, zero, suc, ◌+◌, ◌-◌, ◌*◌, ◌^◌, ◌==◌, nat_lt, max, List, [], ◌∷◌, ◌++◌, length, map, drop, replicate, Option, Some, None, if◌then◌else◌, slice_get}
use Rattle.hume_base.specs.declared.types.Ty.{Ty, fold-Ty}
use Rattle.hume_base.specs.declared.types.Ty.TheOpen.{Ty-F}
use Rattle.hume_base.specs.declared.types.ConDef.{ConDef}
use Rattle.hume_base.specs.declared.types.Types.{Types}
use Rattle.hume_base.specs.declared.types.SumDef.{SumDef}
use Rattle.box_heap.specs.Heaps.{HeapView}

pub record Built : Type 0 where
  pub word : ℕ
  pub put : List ℕ
  pub rest : List ℕ

pub record BuiltParts : Type 0 where
  pub fields : List ℕ
  pub put : List ℕ
  pub rest : List ℕ

abbrev pub Builder : Type 0
Builder = ℕ → List ℕ → Built

-- nothing is put
abbrev pub plain : ℕ → List ℕ → Built
plain word rest = record { word = word; put = []; rest = rest }

abbrev pub build_word : Builder
build_word place [] = plain 0 []
build_word place (word ∷ words) = plain word words

-- these fields and words before the others
abbrev pub before_parts : List ℕ → List ℕ → BuiltParts → BuiltParts
before_parts fields put parts = record { fields = fields ++ parts.fields; put = put ++ parts.put; rest = parts.rest }

abbrev pub build_several : List Builder → ℕ → List ℕ → BuiltParts
build_several [] place words = record { fields = []; put = []; rest = words }
build_several (builder ∷ builders) place words =
    before_parts ((builder place words).word ∷ []) (builder place words).put
    (build_several builders (place + length (builder place words).put) (builder place words).rest)

-- an object of a tag and so many fields
abbrev pub object_of : ℕ → ℕ → ℕ → BuiltParts → Built
object_of tag count place parts = record { word = place; put = (tag + 4294967296 * count) ∷ (parts.fields ++ parts.put); rest = parts.rest }

abbrev pub build_object : ℕ → List Builder → Builder
build_object tag builders place words = object_of tag (length builders) place (build_several builders (place + (1 + length builders)) words)

-- a vector of so many items
abbrev pub build_vector : ℕ → Builder → Builder
build_vector count builder place words = build_object 0 (replicate {A = Builder} count builder) place words

abbrev pub build_fields : (Ty → Builder) → ℕ → Option ConDef → Builder
build_fields builder number None place words = plain 0 words
build_fields builder number (Some con) place words = build_object number (map builder con.fields) place words

-- a constructor, whose number is the first word
abbrev pub build_con : (Ty → Builder) → SumDef → Builder
build_con builder sum place [] = plain 0 []
build_con builder sum place (number ∷ words) =
    if nat_lt number (2 ^ 32) then build_fields builder number (slice_get sum.cons number) place words else plain 0 words

-- without the zeros after a value that fill it up to so many words
abbrev pub past_zeros : ℕ → List ℕ → Built → Built
past_zeros size words built = record built { rest = drop (size - (length words - length built.rest)) built.rest }

abbrev pub build_sum : (Ty → Builder) → Option SumDef → Builder
build_sum builder None place words = plain 0 words
build_sum builder (Some sum) place words = past_zeros sum.words words (build_con builder sum place words)

-- one level of a type, with the builders of its parts in their places; `named` has that of each data type
abbrev pub build_step : (ℕ → Builder) → Ty-F Builder → Builder
build_step named Ty-F.Bool place words = build_word place words
build_step named Ty-F.Char place words = build_word place words
build_step named (Ty-F.Int bits) place words = build_word place words
build_step named (Ty-F.Nat bits) place words = build_word place words
build_step named (Ty-F.Tuple builders) place words = build_object 0 builders place words
build_step named (Ty-F.Vector count builder) place words = build_vector count builder place words
build_step named (Ty-F.Named number) place words = named number place words

abbrev pub build_with : (ℕ → Builder) → Ty → Builder
build_with named = fold-Ty Builder (build_step named)

-- the builder of each data type of a number below the bound, which holds only data types of smaller numbers
unfoldable pub build_named : Types → ℕ → ℕ → Builder
build_named types zero number place words = plain 0 words
build_named types (suc bound) number place words =
    if number == bound then build_sum (build_with (build_named types bound)) (slice_get types.sums bound) place words
    else build_named types bound number place words

-- the heap with more words, and what is then the most that there were
abbrev pub grown : HeapView → List ℕ → HeapView
grown heap [] = heap
grown heap (word ∷ words) = record heap {
  words = heap.words ++ word ∷ words;
  peak = max heap.peak (length heap.words + length (word ∷ words));
}
