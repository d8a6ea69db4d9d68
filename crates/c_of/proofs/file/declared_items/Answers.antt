use Rattle.c_types.specs.Gathered.{gathered}
use Rattle.c_of.proofs.FileForms.{declared_made}
use Rattle.c_of.proofs.file.declared_items.Goals as goal

pub returns : goal.returns
returns c = declared_made c.args.core.now (gathered c.args.types.now) _ _ _ _ _ _ _ c.in_ok-items.ensures c.in_ok-items-2.ensures c.in_ok-streams.ensures
    c.in_ok-part.ensures c.in_ok-behind_streams.ensures c.in_ok-append.ensures c.in_ok-append-2.ensures
