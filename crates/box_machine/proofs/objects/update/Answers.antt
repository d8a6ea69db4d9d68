use Rattle.std.proofs.Common.{◌≡◌, ◌-◌, true, false, slice_set, arith}
use Rattle.std.proofs.lemmas.List.{length-set}
use Rattle.hume_model.specs.Operations.{is_place}
use Rattle.box_machine.specs.inner.Stepping.{objects_in}
use Rattle.box_machine.proofs.Held.{put_long}
use Rattle.box_machine.proofs.Reaching.{update_there, update_object, update_gives, update_raises}
use Rattle.box_machine.proofs.objects.update.Goals as goal

pub returns-then-not-is_place : goal.returns-then-not-is_place
returns-then-not-is_place c = λ setting of.
    let able = c.requires.can in
    let is : is_place c.args.count c.word_at-place.result ≡ false = cc in
    update_raises setting c.args.count c.args.registers c.args.words.now c.args.heap.now c.word_at-vector.result c.word_at-place.result c.word_at-item.result
    (update_there able.0 c.args.count c.args.registers c.args.words.now c.args.heap.now able.1 c.requires.top) c.requires.top
    c.word_at-vector.ensures c.word_at-place.ensures c.word_at-item.ensures
    c.args.program.now c.hand_over.result c.hand_over.new.words c.requires.held is of c.hand_over.ensures

pub put_changed-changed-requires : goal.put_changed-changed-requires
put_changed-changed-requires c =
    let heap = c.args.heap.now in
    let able = c.requires.can in
    let is : is_place c.args.count c.word_at-place.result ≡ true = cc in
    let there = update_object able.0 c.args.count c.args.registers c.args.words.now heap c.word_at-vector.result c.word_at-place.result c.word_at-item.result
    (update_there able.0 c.args.count c.args.registers c.args.words.now heap able.1 c.requires.top) c.requires.top
    c.word_at-vector.ensures c.word_at-place.ensures c.word_at-item.ensures able.1 is in
    let fields = slice_set there.0.1 (c.word_at-place.result - 1) c.word_at-item.result in
    let long = put_long heap c.requires.held there.0.0 fields in
    let many = length-set there.0.1 (c.word_at-place.result - 1) c.word_at-item.result in
    (objects_in heap, c.requires.held.held, there.0, there.1, omega (arith, long, many, there.2.heap))

pub returns : goal.returns
returns c = λ setting of.
    let heap = c.args.heap.now in
    let able = c.requires.can in
    let is : is_place c.args.count c.word_at-place.result ≡ true = cc in
    let some = update_there able.0 c.args.count c.args.registers c.args.words.now heap able.1 c.requires.top in
    let there = update_object able.0 c.args.count c.args.registers c.args.words.now heap c.word_at-vector.result c.word_at-place.result c.word_at-item.result
    some c.requires.top c.word_at-vector.ensures c.word_at-place.ensures c.word_at-item.ensures able.1 is in
    update_gives setting c.args.count c.args.registers c.args.words.now heap c.word_at-vector.result c.word_at-place.result c.word_at-item.result
    some c.requires.top c.word_at-vector.ensures c.word_at-place.ensures c.word_at-item.ensures there.0
    c.push.result c.push.new.words c.put_changed-changed.new.self c.put_changed-changed.result c.requires.held is there.1
    (c.put_changed-changed.ensures.heap (objects_in heap) there.0 c.requires.held.held there.1) c.put_changed-changed.ensures.place c.push.ensures
