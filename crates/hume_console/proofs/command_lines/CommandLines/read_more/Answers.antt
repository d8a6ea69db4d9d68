use Rattle.std.proofs.Common.{◌++◌, ap, ◌∙◌, List, ℕ}
use Rattle.std.proofs.lemmas.Bool.{eqb-true}
use Rattle.std.proofs.lemmas.List.{take-append-le}
use Rattle.hume_console.specs.inner.CommandBuffers.{unread_in}
use Rattle.hume_console.proofs.CommandReads.{reads_once, fails_once}
use Rattle.hume_console.proofs.command_lines.CommandLines.read_more.Goals as goal

pub returns-in-Err-clause-failed : goal.returns-in-Err-clause-failed
returns-in-Err-clause-failed g c = λ name e. fails_once _ name _ _ (c.in-Err.ensures.failed name e) c.requires.begun c.requires.going

pub returns-clause-reads : goal.returns-clause-reads
returns-clause-reads g c = λ name e. reads_once _ _ name _ _ _ (c.in-Ok.ensures.made name e)
    (c.add.ensures.unread ∙ ap (λ (bytes : List ℕ). unread_in c.args.self.now ++ bytes) (take-append-le c.in-Ok.count c.read_act.new.buf _ c.in-Ok.ensures.bound.0))
    c.requires.going (λ over. c.in-Ok.ensures.end (eqb-true c.in-Ok.count 0 over) name e)
