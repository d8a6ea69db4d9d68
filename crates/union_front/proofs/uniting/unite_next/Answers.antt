use Rattle.union_front.proofs.Sound.{dear_error, union_is, united_sound}
use Rattle.union_front.proofs.uniting.unite_next.Goals as goal

pub wiring_of-requires-clause-frame : goal.wiring_of-requires-clause-frame
wiring_of-requires-clause-frame c =
    (united_sound c.args.a.now c.args.b.now c.in_ok-core.core c.requires.first c.requires.second c.in_ok-core.ensures.united c.in_ok-core.ensures.room).formed.frame

pub wiring_of-requires-clause-fine : goal.wiring_of-requires-clause-fine
wiring_of-requires-clause-fine c =
    (united_sound c.args.a.now c.args.b.now c.in_ok-core.core c.requires.first c.requires.second c.in_ok-core.ensures.united c.in_ok-core.ensures.room).wires

pub bounds_of-requires : goal.bounds_of-requires
bounds_of-requires c = record {
  frame = (united_sound c.args.a.now c.args.b.now c.in_ok-core.core c.requires.first c.requires.second c.in_ok-core.ensures.united c.in_ok-core.ensures.room).formed.frame;
}

pub returns-in-Err-clause-refused : goal.returns-in-Err-clause-refused
returns-in-Err-clause-refused c =
    dear_error c.args.a.now c.args.b.now c.in_ok-core.core c.requires.first c.requires.second c.in_ok-core.ensures.united c.in-Err.error c.in-Err.ensures.refused

pub returns-clause-union : goal.returns-clause-union
returns-clause-union c =
    union_is c.args.a.now c.args.b.now c.in_ok-core.core c.requires.first c.requires.second c.in_ok-core.ensures.united c.in_ok-core.ensures.room
    c.in_ok-wiring.wiring c.in-Ok.costs c.in_ok-wiring.ensures.wiring c.in-Ok.ensures.costs c.in-Ok.ensures.fine
