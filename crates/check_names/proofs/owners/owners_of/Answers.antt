use Rattle.std.proofs.Common.{◌≡◌, Some, slice_get, refl}
use Rattle.std.proofs.lemmas.Option.{slice_get_read}
use Rattle.check_names.proofs.Steps.{owners_more}
use Rattle.check_names.proofs.owners.owners_of.Goals as goal

pub loop-i-preserved : goal.loop-i-preserved
loop-i-preserved c =
    let decls = c.args.decls.now in
    let d = c.index-decls-i.result in
    let at : slice_get decls c.loop-i.i ≡ Some d = slice_get_read decls _ c.loop-i.i d refl c.loop-i-test.true c.index-decls-i.is in
    owners_more c.args.kind c.loop-i.owners c.push_all.new.owners _ decls c.loop-i.i d c.in_ok-names.names at c.in_ok-names.ensures c.loop-i.invariant c.in_ok-push_all.ensures
