use Rattle.std.proofs.Common.{length, ap, ◌∙◌, arith}
use Rattle.match_rules.specs.inner.Builders.{build_with, build_named, grown}
use Rattle.match_rules.proofs.InputsBuilt.{oldest_takes, oldest_put, one_built}
use Rattle.match_rules.proofs.inputs.take_built.Goals as goal

pub build_value-word-requires : goal.build_value-word-requires
build_value-word-requires c =
    let heap = c.args.heap.now in
    let core = c.args.core.now in
    let words = c.words.result.now in
    let there = c.requires.there in
    let takes = oldest_takes core c.requires.core c.args.ty.now c.args.cell.now there.0 there.1 there.2 words c.words.ensures heap in
    let put = ap (λ n. length (build_with (build_named core.types n) c.args.ty.now (length heap.words) words).put) c.len.ensures in
    omega (arith, takes, put, there.3)

pub returns-clause-built : goal.returns-clause-built
returns-clause-built c = λ v later is.
    let heap = c.args.heap.now in
    let core = c.args.core.now in
    let ty = c.args.ty.now in
    let words = c.words.result.now in
    let word = c.build_value-word.result in
    one_built v heap c.build_value-word.new.heap c.args.stack.now c.push.new.self word
    (oldest_put core c.requires.core ty c.args.cell.now v later is words c.words.ensures heap c.build_value-word.new.heap word
    (c.build_value-word.ensures.heap ∙ ap (λ n. grown heap (build_with (build_named core.types n) ty (length heap.words) words).put) c.len.ensures)
    (c.build_value-word.ensures.word ∙ ap (λ n. (build_with (build_named core.types n) ty (length heap.words) words).word) c.len.ensures))
    c.push.ensures
