use Rattle.std.proofs.Common.{◌≡◌, ◌+◌, take}
use Rattle.hume_calls.specs.Unions.{AreAccepted}
use Rattle.hume_run.specs.inner.Texts.{texts_of}
use Rattle.hume_run.proofs.union.accepting.accept_all.Given as goal

abbrev pub invariant-loop-text : goal.invariant-loop-text
invariant-loop-text l = AreAccepted (take l.text-index (texts_of l.texts)) l.programs.items × (l.number ≡ l.text-index + 1)
