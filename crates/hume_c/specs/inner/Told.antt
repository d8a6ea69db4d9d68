-- How the call ends behind the read of its source.
use Rattle.std.specs.Prelude.{◌≡◌, ◌⊎◌, ℕ, List, []}
use Rattle.hume_model.specs.declared.core_tree.Core.{Core}
use Rattle.typed_core.specs.declared.trees.Trees.{Trees}
use Rattle.hume_ports.specs.Port.{PortView}
use Rattle.port_acts.specs.Ends.{Owed, never}
use Rattle.hume_calls.specs.declared.status.Status.{Status}
use Rattle.hume_calls.specs.Ended.{EndsAfter, RunsOut}
use Rattle.hume_c.specs.declared.words.Kind.{Kind}
use Rattle.hume_c.specs.Words.{Request}
use Rattle.hume_c.specs.Texts.{text_of}
use Rattle.hume_c.specs.Owed.{IsOwed, owed_text}

-- The text that is asked for is told, or memory ran out.
abbrev pub EndsTold : Kind → List ℕ → Core → Trees → List PortView → List PortView → Status → Type 0
EndsTold kind name core trees old new status =
    RunsOut old new status ⊎ EndsAfter never [] (owed_text (text_of kind name core trees)) old new status

-- It made what it owes, or one of the acts failed; or memory ran out before them.
abbrev pub EndsText : Request → List ℕ → List PortView → List PortView → Status → Type 0
EndsText request text old new status =
    RunsOut old new status ⊎ ((owed : Owed Status) × IsOwed request text owed × EndsAfter never [] owed old new status)
