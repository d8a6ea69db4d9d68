use Rattle.std.proofs.Common.{◌≡◌, Some, slice_get, refl}
use Rattle.std.proofs.lemmas.Option.{slice_get_read}
use Rattle.check_names.proofs.Search.{search_more, search_here, search_none}
use Rattle.check_wires.specs.first_values.inner.Unfit.{has_unfit_value}
use Rattle.check_wires.proofs.first_values.first.first_unfit.Goals as goal

pub loop-i-preserved : goal.loop-i-preserved
loop-i-preserved c =
    let decls = c.args.decls.now in
    let d = c.index-decls-i.result in
    let at : slice_get decls c.loop-i.i ≡ Some d = slice_get_read decls _ c.loop-i.i d refl c.loop-i-test.true c.index-decls-i.is in
    search_more decls (λ i. has_unfit_value c.args.table.now c.args.types.now) c.loop-i.i d c.in_ok-has_unfit_value.field-0 at
    c.in_ok-has_unfit_value.ensures c.if-branch.false c.loop-i.invariant

pub returns-then-branch : goal.returns-then-branch
returns-then-branch c =
    let decls = c.args.decls.now in
    let d = c.index-decls-i.result in
    let at : slice_get decls c.loop-i.i ≡ Some d = slice_get_read decls _ c.loop-i.i d refl c.loop-i-test.true c.index-decls-i.is in
    search_here decls (λ i. has_unfit_value c.args.table.now c.args.types.now) c.loop-i.i d c.in_ok-has_unfit_value.field-0 at
    c.in_ok-has_unfit_value.ensures c.if-branch.true c.loop-i.invariant

pub returns : goal.returns
returns c = search_none c.args.decls.now (λ i. has_unfit_value c.args.table.now c.args.types.now) c.loop-i.i c.loop-i-test.false c.loop-i.invariant
