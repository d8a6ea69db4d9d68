use Rattle.std.proofs.Common.{◌≡◌, Some, slice_get, refl}
use Rattle.std.proofs.lemmas.Option.{slice_get_read}
use Rattle.check_counts.specs.CountRules.{declaration_miscounts}
use Rattle.check_names.proofs.Search.{search_more, search_here, search_none}
use Rattle.check_counts.proofs.first.first_by.Goals as goal

pub loop-i-preserved : goal.loop-i-preserved
loop-i-preserved c =
    let decls = c.args.decls.now in
    let at : slice_get decls c.loop-i.i ≡ Some c.index-decls-i.result = slice_get_read decls _ c.loop-i.i c.index-decls-i.result refl c.loop-i-test.true c.index-decls-i.is in
    search_more decls (λ _. (declaration_miscounts c.args.counts.now)) c.loop-i.i c.index-decls-i.result c.declaration_miscounts.result at c.declaration_miscounts.ensures c.if-declaration_miscounts.false c.loop-i.invariant

pub returns-then-declaration_miscounts : goal.returns-then-declaration_miscounts
returns-then-declaration_miscounts c =
    let decls = c.args.decls.now in
    let at : slice_get decls c.loop-i.i ≡ Some c.index-decls-i.result = slice_get_read decls _ c.loop-i.i c.index-decls-i.result refl c.loop-i-test.true c.index-decls-i.is in
    search_here decls (λ _. (declaration_miscounts c.args.counts.now)) c.loop-i.i c.index-decls-i.result c.declaration_miscounts.result at c.declaration_miscounts.ensures c.if-declaration_miscounts.true c.loop-i.invariant

pub returns : goal.returns
returns c = search_none c.args.decls.now (λ _. (declaration_miscounts c.args.counts.now)) c.loop-i.i c.loop-i-test.false c.loop-i.invariant
