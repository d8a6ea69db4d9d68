use Rattle.std.proofs.Common.{◌≡◌, Some, slice_get, refl}
use Rattle.std.proofs.lemmas.Option.{slice_get_read}
use Rattle.check_names.proofs.Search.{search_more, search_here, search_none}
use Rattle.check_sizes.specs.inner.Large.{has_large_type}
use Rattle.check_sizes.proofs.large_types.first_large.Goals as goal

pub loop-i-preserved : goal.loop-i-preserved
loop-i-preserved c =
    let decls = c.args.decls.now in
    let d = c.index-decls-i.result in
    let at : slice_get decls c.loop-i.i ≡ Some d = slice_get_read decls _ c.loop-i.i d refl c.loop-i-test.true c.index-decls-i.is in
    search_more decls (λ i. has_large_type c.args.table.now.types c.args.sizes.now) c.loop-i.i d c.has_large_type.result at
    c.has_large_type.ensures c.if-has_large_type.false c.loop-i.invariant

pub returns-then-has_large_type : goal.returns-then-has_large_type
returns-then-has_large_type c =
    let decls = c.args.decls.now in
    let d = c.index-decls-i.result in
    let at : slice_get decls c.loop-i.i ≡ Some d = slice_get_read decls _ c.loop-i.i d refl c.loop-i-test.true c.index-decls-i.is in
    search_here decls (λ i. has_large_type c.args.table.now.types c.args.sizes.now) c.loop-i.i d c.has_large_type.result at
    c.has_large_type.ensures c.if-has_large_type.true c.loop-i.invariant

pub returns : goal.returns
returns c = search_none c.args.decls.now (λ i. has_large_type c.args.table.now.types c.args.sizes.now) c.loop-i.i c.loop-i-test.false c.loop-i.invariant
