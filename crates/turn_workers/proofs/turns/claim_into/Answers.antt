use Rattle.std.proofs.Common.{◌≡◌, ◌+◌, refl, slice_get, ap, sym, ◌∙◌, arith}
use Rattle.std.specs.Prelude.{slice_index}
use Rattle.std.proofs.lemmas.Option.{slice_get-get_or}
use Rattle.turn_workers.proofs.Held.{held_same, inside_home, one_laid}
use Rattle.turn_workers.proofs.turns.claim_into.Goals as goal

pub lay-requires : goal.lay-requires
lay-requires g c =
    let of = c.requires.of in
    let group = c.args.group.now in
    let side = c.args.side.now in
    let k = c.args.place in
    let some = c.in-Some.ensures.some in
    let number = some.1.number in
    let here = slice_get-get_or side k 0 c.requires.place in
    let same : some.1.place ≡ slice_index side k = omega (arith, number) in
    let at = ap (slice_get g.O.Opens.grouping.crossing) (sym same) ∙ some.1.crosses in
    let inside = inside_home g.O.Opens.opened g.O.Opens.plan g.O.Opens.grouping g.O.Opens.steps of.grouping group.number group.time group.members.items side
    c.requires.side.once k (slice_index side k) c.in-Some.cell.number here at group.home.items c.requires.group.group in
    let ok = group.home.ok.0 in
    omega (arith, inside, ok)

pub returns-in-Some-clause-more : goal.returns-in-Some-clause-more
returns-in-Some-clause-more g c = λ _.
    let of = c.requires.of in
    let group = c.args.group.now in
    let side = c.args.side.now in
    let k = c.args.place in
    let some = c.in-Some.ensures.some in
    let number = some.1.number in
    let here = slice_get-get_or side k 0 c.requires.place in
    let same : some.1.place ≡ slice_index side k = omega (arith, number) in
    let at = ap (slice_get g.O.Opens.grouping.crossing) (sym same) ∙ some.1.crosses in
    let laid = one_laid g.O.Opens.opened g.O.Opens.plan g.O.Opens.grouping g.O.Opens.steps of.grouping group.number group.time group.members.items side
    c.requires.side.once k (slice_index side k) c.in-Some.cell.number here at group.home.items c.requires.group c.in-Some.cell refl some.0 some.1.right in
    held_same g.O.Opens.opened g.O.Opens.plan g.O.Opens.grouping g.O.Opens.steps side (k + 1) c.lay.ensures.rest.0 c.lay.ensures.rest.1
    (ap (λ v. v.items) c.lay.ensures.rest.2) c.lay.ensures.home laid
