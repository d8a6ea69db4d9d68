use Rattle.std.proofs.Common.{◌∙◌, sym, refl, arith}
use Rattle.std.proofs.Math.Facts.{Fits-of_lt}
use Rattle.box_heap.proofs.Objects.{field_within, field_of}
use Rattle.box_heap.proofs.heap.BoxHeap.field.Goals as goal

pub overflow_add-at : goal.overflow_add-at
overflow_add-at c =
    let within = field_within c.args.self.now c.requires.0 c.requires.1 c.args.at c.requires.2 c.requires.3 c.args.i c.requires.4 in
    Fits-of_lt (omega (arith, within, c.keeps_room.ensures))

pub overflow_add-at-2 : goal.overflow_add-at-2
overflow_add-at-2 c =
    let within = field_within c.args.self.now c.requires.0 c.requires.1 c.args.at c.requires.2 c.requires.3 c.args.i c.requires.4 in
    Fits-of_lt (omega (arith, within, c.keeps_room.ensures))

pub word-requires : goal.word-requires
word-requires c = field_within c.args.self.now c.requires.0 c.requires.1 c.args.at c.requires.2 c.requires.3 c.args.i c.requires.4

pub returns : goal.returns
returns c = λ objects object has found within.
    sym (field_of c.args.self.now objects has c.args.at object found c.args.i _ refl within) ∙ c.word.ensures
