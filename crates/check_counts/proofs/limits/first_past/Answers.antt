use Rattle.std.proofs.Common.{◌≡◌, ◌∙◌, Some, slice_get, take, refl, sym, ap}
use Rattle.std.proofs.lemmas.Option.{slice_get_read}
use Rattle.check_names.proofs.Search.{search_more, search_here, search_none}
use Rattle.check_counts.specs.declared.tally.Tally.{Tally}
use Rattle.check_counts.specs.Limits.{tally_of}
use Rattle.check_counts.specs.inner.Tallies.{passes}
use Rattle.check_counts.proofs.Tallying.{tallied}
use Rattle.check_counts.proofs.limits.first_past.Goals as goal

pub loop-i-preserved : goal.loop-i-preserved
loop-i-preserved c =
    let decls = c.args.decls.now in
    let d = c.index-decls-i.result in
    let at : slice_get decls c.loop-i.i ≡ Some d = slice_get_read decls _ c.loop-i.i d refl c.loop-i-test.true c.index-decls-i.is in
    let is = c.passes_limits.ensures ∙ ap (λ (t : Tally). passes t d.1) c.loop-i.invariant.counted in
    record {
      counted = tallied decls c.loop-i.i d _ _ c.loop-i-test.true (sym c.index-decls-i.is) c.loop-i.invariant.counted c.add.ensures;
      none = search_more decls (λ i. passes (tally_of (take i decls))) c.loop-i.i d _ at is c.if-passes_limits.false c.loop-i.invariant.none;
    }

pub returns-then-passes_limits : goal.returns-then-passes_limits
returns-then-passes_limits c =
    let decls = c.args.decls.now in
    let d = c.index-decls-i.result in
    let at : slice_get decls c.loop-i.i ≡ Some d = slice_get_read decls _ c.loop-i.i d refl c.loop-i-test.true c.index-decls-i.is in
    let is = c.passes_limits.ensures ∙ ap (λ (t : Tally). passes t d.1) c.loop-i.invariant.counted in
    search_here decls (λ i. passes (tally_of (take i decls))) c.loop-i.i d _ at is c.if-passes_limits.true c.loop-i.invariant.none

pub returns : goal.returns
returns c = search_none c.args.decls.now (λ i. passes (tally_of (take i c.args.decls.now))) c.loop-i.i c.loop-i-test.false c.loop-i.invariant.none
