-- The file from its parts.
use Rattle.std.proofs.Common.{◌≡◌, ℕ, List, ◌++◌, Result, IfOk, ap, subst, ◌∙◌, append_assoc, codes}
use Rattle.hume_model.specs.declared.core_tree.Core.{Core}
use Rattle.typed_core.specs.declared.trees.Trees.{Trees}
use Rattle.c_tree.specs.declared.tree.CItem.{CItem}
use Rattle.c_tree.specs.declared.tree.CProgram.{CProgram}
use Rattle.c_types.specs.Gathered.{Gathered}
use Rattle.c_types.specs.Declarations.{items}
use Rattle.c_arithmetic.specs.Helpers.{helpers}
use Rattle.c_calls.specs.Exceptions.{exception_items}
use Rattle.c_calls.specs.Headers.{head_comment, headers, outer_items}
use Rattle.c_calls.specs.Streams.{object_items}
use Rattle.c_sizes.specs.Table.{table_text}
use Rattle.c_names.specs.declared.names.Names.{Names}
use Rattle.c_names.specs.Names.{names_of}
use Rattle.c_told.specs.Told.{types_of}
use Rattle.c_used.specs.Kept.{kept}
use Rattle.c_of.specs.File.{behind_streams, c_of, declared_items, items_of, part, used_items}

abbrev made : List ℕ → List (List ℕ) → List CItem → CProgram
made comment included items = record { comment = comment; headers = included; items = items }

pub file_made : (core : Core) (trees : Trees) (program comment first : List ℕ) (included : List (List ℕ)) (items : List CItem)
    → comment ≡ first ++ table_text items → first ≡ head_comment program → included ≡ headers → items ≡ used_items core trees program
    → made comment included items ≡ c_of core trees program
file_made core trees program comment first included items comment_is first_is included_is items_is =
    ap (λ (it : List ℕ). made it included items)
    (comment_is ∙ (ap (λ (it : List ℕ). it ++ table_text items) first_is ∙ ap (λ (it : List CItem). head_comment program ++ table_text it) items_is))
    ∙ (ap (λ (it : List (List ℕ)). made (head_comment program ++ table_text (used_items core trees program)) it items) included_is
    ∙ ap (λ (it : List CItem). made (head_comment program ++ table_text (used_items core trees program)) headers it) items_is)

-- parts one behind the other, however they are put together
in_turn : (one two three both all : List CItem) → both ≡ one ++ two → all ≡ both ++ three → all ≡ one ++ (two ++ three)
in_turn one two three both all both_is all_is = all_is ∙ (ap (λ (it : List CItem). it ++ three) both_is ∙ append_assoc one two three)

three_parts : (first second third one two three both all : List CItem) → one ≡ first → two ≡ second → three ≡ third → both ≡ one ++ two
    → all ≡ both ++ three → all ≡ first ++ (second ++ third)
three_parts first second third one two three both all one_is two_is three_is both_is all_is =
    in_turn one two three both all both_is all_is
    ∙ (ap (λ (it : List CItem). it ++ (two ++ three)) one_is
    ∙ (ap (λ (it : List CItem). first ++ (it ++ three)) two_is ∙ ap (λ (it : List CItem). first ++ (second ++ it)) three_is))

module _ (core : Core) (types : Gathered) where
  pub behind_streams_made : (exceptions arithmetic objects one two three both all : List CItem)
      → exceptions ≡ exception_items types core.exns → one ≡ part (codes "exceptions; 0 is none") exceptions
      → arithmetic ≡ helpers types.names → two ≡ part (codes "arithmetic that wraps around") arithmetic
      → objects ≡ object_items types core → three ≡ part (codes "boxes, with the wires that lead to them") objects
      → both ≡ one ++ two → all ≡ both ++ three → all ≡ behind_streams core types
  behind_streams_made exceptions arithmetic objects one two three both all exceptions_are one_is arithmetic_is two_is objects_are three_is both_is all_is =
      three_parts (part (codes "exceptions; 0 is none") (exception_items types core.exns)) (part (codes "arithmetic that wraps around") (helpers types.names))
      (part (codes "boxes, with the wires that lead to them") (object_items types core)) one two three both all
      (one_is ∙ ap (part (codes "exceptions; 0 is none")) exceptions_are) (two_is ∙ ap (part (codes "arithmetic that wraps around")) arithmetic_is)
      (three_is ∙ ap (part (codes "boxes, with the wires that lead to them")) objects_are) both_is all_is

  pub declared_made : (own streams one two three both all : List CItem) → own ≡ items types → one ≡ part (codes "types") own
      → streams ≡ outer_items types core → two ≡ part (codes "streams: yours to define") streams → three ≡ behind_streams core types
      → both ≡ one ++ two → all ≡ both ++ three → all ≡ declared_items core types
  declared_made own streams one two three both all own_are one_is streams_are two_is three_is both_is all_is =
      three_parts (part (codes "types") (items types)) (part (codes "streams: yours to define") (outer_items types core)) (behind_streams core types)
      one two three both all (one_is ∙ ap (part (codes "types")) own_are) (two_is ∙ ap (part (codes "streams: yours to define")) streams_are) three_is
      both_is all_is

-- the declarations that are used, by the names and the types of the file
pub used_made : {E : Type 0} (core : Core) (trees : Trees) (program : List ℕ) (names : Names) (file : Gathered) (all : List CItem)
    (result : Result (List CItem) E) → names ≡ names_of program → file ≡ types_of core names trees.functions trees.boxes
    → all ≡ items_of core file trees → IfOk result (λ used. used ≡ kept all) → IfOk result (λ used. used ≡ used_items core trees program)
used_made core trees program names file all result names_are file_is all_are used =
    subst (λ (it : List CItem). IfOk result (λ used. used ≡ kept it))
    (all_are ∙ ap (λ (it : Gathered). items_of core it trees) (file_is ∙ ap (λ (it : Names). types_of core it trees.functions trees.boxes) names_are))
    used
