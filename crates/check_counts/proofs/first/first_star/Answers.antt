use Rattle.std.proofs.Common.{◌≡◌, Some, slice_get, refl}
use Rattle.std.proofs.lemmas.Option.{slice_get_read}
use Rattle.check_counts.specs.CountRules.{declaration_has_stray_star}
use Rattle.check_names.proofs.Search.{search_more, search_here, search_none}
use Rattle.check_counts.proofs.first.first_star.Goals as goal

pub loop-i-preserved : goal.loop-i-preserved
loop-i-preserved c =
    let decls = c.args.decls.now in
    let at : slice_get decls c.loop-i.i ≡ Some c.index-decls-i.result = slice_get_read decls _ c.loop-i.i c.index-decls-i.result refl c.loop-i-test.true c.index-decls-i.is in
    search_more decls (λ _. declaration_has_stray_star) c.loop-i.i c.index-decls-i.result c.declaration_has_stray_star.result at c.declaration_has_stray_star.ensures c.if-declaration_has_stray_star.false c.loop-i.invariant

pub returns-then-declaration_has_stray_star : goal.returns-then-declaration_has_stray_star
returns-then-declaration_has_stray_star c =
    let decls = c.args.decls.now in
    let at : slice_get decls c.loop-i.i ≡ Some c.index-decls-i.result = slice_get_read decls _ c.loop-i.i c.index-decls-i.result refl c.loop-i-test.true c.index-decls-i.is in
    search_here decls (λ _. declaration_has_stray_star) c.loop-i.i c.index-decls-i.result c.declaration_has_stray_star.result at c.declaration_has_stray_star.ensures c.if-declaration_has_stray_star.true c.loop-i.invariant

pub returns : goal.returns
returns c = search_none c.args.decls.now (λ _. declaration_has_stray_star) c.loop-i.i c.loop-i-test.false c.loop-i.invariant
