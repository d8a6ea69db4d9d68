use Rattle.std.proofs.Common.{ap, ◌∙◌}
use Rattle.c_arithmetic.specs.Helpers.{helpers}
use Rattle.c_calls.specs.Exceptions.{exception_items}
use Rattle.c_types.specs.Gathered.{gathered}
use Rattle.c_of.proofs.FileForms.{behind_streams_made}
use Rattle.c_of.proofs.file.behind_streams.Goals as goal

pub returns : goal.returns
returns c = behind_streams_made c.args.core.now (gathered c.args.types.now) _ _ _ _ _ _ _ _
    (c.in_ok-exceptions.ensures ∙ ap (exception_items (gathered c.args.types.now)) c.as_slice.ensures) c.in_ok-items.ensures
    (c.in_ok-arithmetic.ensures ∙ ap helpers c.names.ensures) c.in_ok-part.ensures c.in_ok-objects.ensures c.in_ok-part-2.ensures
    c.in_ok-append.ensures c.in_ok-append-2.ensures
