use Rattle.std.proofs.Common.{◌≡◌, ◌+◌, ◌∷◌, [], ◌∙◌, ap, sym, drop, length, ◌<◌, arith}
use Rattle.std.proofs.lemmas.List.{drop_more}
use Rattle.check_names.proofs.Repeats.{same_more, again_more}
use Rattle.check_names.proofs.adding.add_all.Goals as goal

pub loop-at-preserved : goal.loop-at-preserved
loop-at-preserved c =
    let at = c.loop-at.at in
    let names = c.args.names.now in
    let name = c.get.result.now in
    let lt : at < length names = (let a = c.loop-at-test.true in let l = c.len-at-end.ensures in omega arith) in
    let front : drop at names ≡ name ∷ drop (at + 1) names = drop_more names at [] lt ∙ ap (λ x. x ∷ drop (at + 1) names) (sym c.get.ensures) in
    record {
      again = again_more c.loop-at.table c.add.new.self names names at name c.args.number lt c.get.ensures c.in_ok-is_new.ensures.added c.loop-at.again c.in_ok-is_new.is_new _ front c.in_ok-is_new.ensures.is_new c.loop-at.invariant.again;
      added = same_more c.loop-at.table c.add.new.self _ names at name c.args.number lt c.get.ensures c.in_ok-is_new.ensures.added c.loop-at.invariant.added;
    }
