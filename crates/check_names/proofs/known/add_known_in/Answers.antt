use Rattle.check_names.specs.inner.KnownTables.{known_of}
use Rattle.check_names.proofs.Steps.{known_more}
use Rattle.check_names.proofs.known.add_known_in.Goals as goal

pub loop-d-preserved : goal.loop-d-preserved
loop-d-preserved c =
    known_more c.args.decls.now c.loop-d.d-index c.d-item.result (known_of c.loop-d.known) (known_of c.add_known.new.known) c.loop-d-test.true c.d-item.is c.loop-d.invariant c.in_ok-add_known.ensures
