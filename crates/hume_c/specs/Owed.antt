-- What a call owes once it has read its source.
use Rattle.std.specs.Prelude.{◌≡◌, ◌⊎◌, ℕ, List, [], ◌∷◌}
use Rattle.hume_base.specs.declared.rule.Refusal.{Refusal}
use Rattle.hume_model.specs.declared.core_tree.Core.{Core}
use Rattle.typed_core.specs.declared.trees.Trees.{Trees}
use Rattle.typed_core.specs.Trees.{AreTrees}
use Rattle.port_acts.specs.Acts.{writes, finishes}
use Rattle.port_acts.specs.Ends.{Owed}
use Rattle.run_rounds.specs.Streams.{std_out}
use Rattle.hume_front.specs.declared.acceptance.Accepted.{Accepted}
use Rattle.hume_front.specs.Accepted.{Breaks, IsAccepted}
use Rattle.hume_calls.specs.declared.status.Status.{Status}
use Rattle.hume_calls.specs.declared.status.Status.TheVariants.{Done}
use Rattle.hume_calls.specs.Owed.{owed_refused}
use Rattle.hume_c.specs.Words.{Request}
use Rattle.hume_c.specs.Texts.{text_of}

-- a text goes to `std_out`, which is finished
abbrev pub owed_text : List ℕ → Owed Status
owed_text text = record { acts = writes std_out text ∷ finishes std_out ∷ []; answer = Done }

-- The source is refused for a rule that it breaks.
abbrev pub IsOwedRefusal : List ℕ → Owed Status → Type 0
IsOwedRefusal source owed = (refusal : Refusal) × Breaks source refusal × (owed ≡ owed_refused refusal)

-- The text of the kind that is asked for is told, for a core that has typed trees.
abbrev pub IsTold : Request → Core → Owed Status → Type 0
IsTold request core owed =
    (trees : Trees) × AreTrees core trees × (owed ≡ owed_text (text_of request.kind request.name core trees))

-- The source is accepted, and the text of its core is told.
abbrev pub IsOwedText : Request → List ℕ → Owed Status → Type 0
IsOwedText request source owed = (accepted : Accepted) × IsAccepted source accepted × IsTold request accepted.core owed

-- what the call owes for the source
abbrev pub IsOwed : Request → List ℕ → Owed Status → Type 0
IsOwed request source owed = IsOwedRefusal source owed ⊎ IsOwedText request source owed
