use Rattle.std.proofs.Common.{◌≡◌, ◌+◌, [], drop, if◌then◌else◌, None, slice_get, slice_set, ap, sym, ◌∙◌, arith}
use Rattle.std.specs.Prelude.{slice_index}
use Rattle.std.proofs.lemmas.Option.{slice_get-get_or, get_or_from_slice_get}
use Rattle.superstep_core.specs.declared.grouping.Grouping.{Grouping}
use Rattle.turn_locker.specs.Seats.{view_of}
use Rattle.turn_workers.specs.inner.Stacks.{pairs_of}
use Rattle.turn_workers.proofs.Going.{crosses_at, top_put_back, below_put_back, top_may_pass, below_passed, pairs_more}
use Rattle.turn_workers.proofs.Held.{held_same, one_lifted, top_home, top_right}
use Rattle.turn_workers.proofs.turns.let_go.Goals as goal

pub lift-cell-requires : goal.lift-cell-requires
lift-cell-requires g c =
    let of = c.requires.of in
    let group = c.args.group.now in
    let side = c.args.side.now in
    let k = c.args.place in
    let near = c.requires.place in
    let shape = g.O.Opens.grouping in
    let here = slice_get-get_or side k 0 near in
    let at = crosses_at g.O.Opens.plan shape c.args.locker.now of group.number c.args.time side c.requires.side k near in
    let same : slice_index c.deref.result.now (slice_index side k) ≡ at.0 = ap (λ xs. slice_index xs (slice_index side k)) c.deref.ensures
    ∙ ap (λ (s : Grouping). slice_index s.crossing (slice_index side k)) c.requires.shape
    ∙ get_or_from_slice_get shape.crossing (slice_index side k) at.0 0 at.1 in
    let top = top_home g.O.Opens.opened g.O.Opens.plan shape g.O.Opens.steps of.grouping group.number group.time group.members.items side
    c.requires.side.once k (slice_index side k) at.0 here at.1 group.home.items c.requires.group in
    (top.cell, ap (slice_get group.home.items) same ∙ top.there)

pub pass_wire-requires-clause-right : goal.pass_wire-requires-clause-right
pass_wire-requires-clause-right g c = λ κs le.
    let of = c.requires.of in
    let group = c.args.group.now in
    let side = c.args.side.now in
    let k = c.args.place in
    let near = c.requires.place in
    let shape = g.O.Opens.grouping in
    let here = slice_get-get_or side k 0 near in
    let at = crosses_at g.O.Opens.plan shape c.args.locker.now of group.number c.args.time side c.requires.side k near in
    let same : slice_index c.deref.result.now (slice_index side k) ≡ at.0 = ap (λ xs. slice_index xs (slice_index side k)) c.deref.ensures
    ∙ ap (λ (s : Grouping). slice_index s.crossing (slice_index side k)) c.requires.shape
    ∙ get_or_from_slice_get shape.crossing (slice_index side k) at.0 0 at.1 in
    let found = ap (slice_get group.home.items) (sym same) ∙ c.lift-cell.ensures.cell in
    let top = top_right g.O.Opens.opened g.O.Opens.plan shape g.O.Opens.steps of.grouping group.number group.time group.members.items side
    c.requires.side.once k (slice_index side k) at.0 here at.1 group.home.items c.requires.group c.lift-cell.result found in
    top.1

pub pass_wire-requires-clause-time : goal.pass_wire-requires-clause-time
pass_wire-requires-clause-time g c = λ κs le.
    let of = c.requires.of in
    let group = c.args.group.now in
    let side = c.args.side.now in
    let k = c.args.place in
    let near = c.requires.place in
    let shape = g.O.Opens.grouping in
    let here = slice_get-get_or side k 0 near in
    let at = crosses_at g.O.Opens.plan shape c.args.locker.now of group.number c.args.time side c.requires.side k near in
    let same : slice_index c.deref.result.now (slice_index side k) ≡ at.0 = ap (λ xs. slice_index xs (slice_index side k)) c.deref.ensures
    ∙ ap (λ (s : Grouping). slice_index s.crossing (slice_index side k)) c.requires.shape
    ∙ get_or_from_slice_get shape.crossing (slice_index side k) at.0 0 at.1 in
    let found = ap (slice_get group.home.items) (sym same) ∙ c.lift-cell.ensures.cell in
    let top = top_right g.O.Opens.opened g.O.Opens.plan shape g.O.Opens.steps of.grouping group.number group.time group.members.items side
    c.requires.side.once k (slice_index side k) at.0 here at.1 group.home.items c.requires.group c.lift-cell.result found in
    let later = top.0 ∙ c.requires.time ∙ (λ i. if c.if-made.true i then c.args.time + 1 else c.args.time) in
    let passed = c.requires.passed ∙ (λ i. if c.if-made.true i then pairs_of group.number (drop (k + 1) side) else []) in
    (omega (arith, later), c.requires.short)

pub pass_wire-requires-clause-may : goal.pass_wire-requires-clause-may
pass_wire-requires-clause-may g c = λ κs le.
    let of = c.requires.of in
    let group = c.args.group.now in
    let side = c.args.side.now in
    let k = c.args.place in
    let near = c.requires.place in
    let shape = g.O.Opens.grouping in
    let here = slice_get-get_or side k 0 near in
    let at = crosses_at g.O.Opens.plan shape c.args.locker.now of group.number c.args.time side c.requires.side k near in
    let same : slice_index c.deref.result.now (slice_index side k) ≡ at.0 = ap (λ xs. slice_index xs (slice_index side k)) c.deref.ensures
    ∙ ap (λ (s : Grouping). slice_index s.crossing (slice_index side k)) c.requires.shape
    ∙ get_or_from_slice_get shape.crossing (slice_index side k) at.0 0 at.1 in
    let found = ap (slice_get group.home.items) (sym same) ∙ c.lift-cell.ensures.cell in
    let top = top_right g.O.Opens.opened g.O.Opens.plan shape g.O.Opens.steps of.grouping group.number group.time group.members.items side
    c.requires.side.once k (slice_index side k) at.0 here at.1 group.home.items c.requires.group c.lift-cell.result found in
    let later = top.0 ∙ c.requires.time ∙ (λ i. if c.if-made.true i then c.args.time + 1 else c.args.time) in
    let passed = c.requires.passed ∙ (λ i. if c.if-made.true i then pairs_of group.number (drop (k + 1) side) else []) in
    top_may_pass g.O.Opens.plan shape c.args.locker.now of group.number c.args.time side c.requires.side c.requires.group.group.is_group k near (view_of c.args.seat.now) c.requires.held passed c.lift-cell.result.time later

pub put_wire_back-requires-clause-right : goal.put_wire_back-requires-clause-right
put_wire_back-requires-clause-right g c = λ κs le.
    let of = c.requires.of in
    let group = c.args.group.now in
    let side = c.args.side.now in
    let k = c.args.place in
    let near = c.requires.place in
    let shape = g.O.Opens.grouping in
    let here = slice_get-get_or side k 0 near in
    let at = crosses_at g.O.Opens.plan shape c.args.locker.now of group.number c.args.time side c.requires.side k near in
    let same : slice_index c.deref.result.now (slice_index side k) ≡ at.0 = ap (λ xs. slice_index xs (slice_index side k)) c.deref.ensures
    ∙ ap (λ (s : Grouping). slice_index s.crossing (slice_index side k)) c.requires.shape
    ∙ get_or_from_slice_get shape.crossing (slice_index side k) at.0 0 at.1 in
    let found = ap (slice_get group.home.items) (sym same) ∙ c.lift-cell.ensures.cell in
    let top = top_right g.O.Opens.opened g.O.Opens.plan shape g.O.Opens.steps of.grouping group.number group.time group.members.items side
    c.requires.side.once k (slice_index side k) at.0 here at.1 group.home.items c.requires.group c.lift-cell.result found in
    top.1

pub put_wire_back-requires-clause-may : goal.put_wire_back-requires-clause-may
put_wire_back-requires-clause-may g c = λ κs le.
    let of = c.requires.of in
    let group = c.args.group.now in
    let side = c.args.side.now in
    let k = c.args.place in
    let near = c.requires.place in
    let shape = g.O.Opens.grouping in
    let here = slice_get-get_or side k 0 near in
    let at = crosses_at g.O.Opens.plan shape c.args.locker.now of group.number c.args.time side c.requires.side k near in
    let same : slice_index c.deref.result.now (slice_index side k) ≡ at.0 = ap (λ xs. slice_index xs (slice_index side k)) c.deref.ensures
    ∙ ap (λ (s : Grouping). slice_index s.crossing (slice_index side k)) c.requires.shape
    ∙ get_or_from_slice_get shape.crossing (slice_index side k) at.0 0 at.1 in
    let found = ap (slice_get group.home.items) (sym same) ∙ c.lift-cell.ensures.cell in
    let top = top_right g.O.Opens.opened g.O.Opens.plan shape g.O.Opens.steps of.grouping group.number group.time group.members.items side
    c.requires.side.once k (slice_index side k) at.0 here at.1 group.home.items c.requires.group c.lift-cell.result found in
    let still = top.0 ∙ c.requires.time ∙ (λ i. if c.if-made.false i then c.args.time + 1 else c.args.time) in
    let passed = c.requires.passed ∙ (λ i. if c.if-made.false i then pairs_of group.number (drop (k + 1) side) else []) in
    top_put_back g.O.Opens.plan shape c.args.locker.now of group.number c.args.time side c.requires.side c.requires.group.group.is_group k near (view_of c.args.seat.now) c.requires.held passed c.lift-cell.result.time still

pub returns-then-made-clause-held : goal.returns-then-made-clause-held
returns-then-made-clause-held g c =
    let of = c.requires.of in
    let group = c.args.group.now in
    let side = c.args.side.now in
    let k = c.args.place in
    let near = c.requires.place in
    let shape = g.O.Opens.grouping in
    let here = slice_get-get_or side k 0 near in
    let at = crosses_at g.O.Opens.plan shape c.args.locker.now of group.number c.args.time side c.requires.side k near in
    let same : slice_index c.deref.result.now (slice_index side k) ≡ at.0 = ap (λ xs. slice_index xs (slice_index side k)) c.deref.ensures
    ∙ ap (λ (s : Grouping). slice_index s.crossing (slice_index side k)) c.requires.shape
    ∙ get_or_from_slice_get shape.crossing (slice_index side k) at.0 0 at.1 in
    let found = ap (slice_get group.home.items) (sym same) ∙ c.lift-cell.ensures.cell in
    let top = top_right g.O.Opens.opened g.O.Opens.plan shape g.O.Opens.steps of.grouping group.number group.time group.members.items side
    c.requires.side.once k (slice_index side k) at.0 here at.1 group.home.items c.requires.group c.lift-cell.result found in
    let later = top.0 ∙ c.requires.time ∙ (λ i. if c.if-made.true i then c.args.time + 1 else c.args.time) in
    let passed = c.requires.passed ∙ (λ i. if c.if-made.true i then pairs_of group.number (drop (k + 1) side) else []) in
    below_passed g.O.Opens.plan shape c.args.locker.now of group.number c.args.time side c.requires.side c.requires.group.group.is_group k near (view_of c.args.seat.now) c.requires.held passed c.lift-cell.result.time later (view_of c.pass_wire.new.seat) c.pass_wire.ensures.view

pub returns-then-made-clause-passed : goal.returns-then-made-clause-passed
returns-then-made-clause-passed g c =
    let of = c.requires.of in
    let group = c.args.group.now in
    let side = c.args.side.now in
    let k = c.args.place in
    let near = c.requires.place in
    let shape = g.O.Opens.grouping in
    let here = slice_get-get_or side k 0 near in
    let at = crosses_at g.O.Opens.plan shape c.args.locker.now of group.number c.args.time side c.requires.side k near in
    let same : slice_index c.deref.result.now (slice_index side k) ≡ at.0 = ap (λ xs. slice_index xs (slice_index side k)) c.deref.ensures
    ∙ ap (λ (s : Grouping). slice_index s.crossing (slice_index side k)) c.requires.shape
    ∙ get_or_from_slice_get shape.crossing (slice_index side k) at.0 0 at.1 in
    let found = ap (slice_get group.home.items) (sym same) ∙ c.lift-cell.ensures.cell in
    let top = top_right g.O.Opens.opened g.O.Opens.plan shape g.O.Opens.steps of.grouping group.number group.time group.members.items side
    c.requires.side.once k (slice_index side k) at.0 here at.1 group.home.items c.requires.group c.lift-cell.result found in
    let later = top.0 ∙ c.requires.time ∙ (λ i. if c.if-made.true i then c.args.time + 1 else c.args.time) in
    let passed = c.requires.passed ∙ (λ i. if c.if-made.true i then pairs_of group.number (drop (k + 1) side) else []) in
    pairs_more g.O.Opens.plan shape c.args.locker.now of group.number c.args.time side c.requires.side c.requires.group.group.is_group k near (view_of c.args.seat.now) c.requires.held passed c.lift-cell.result.time later (view_of c.pass_wire.new.seat) c.pass_wire.ensures.view
    ∙ sym (λ i. if c.if-made.true i then pairs_of group.number (drop k side) else [])

pub returns-then-made-clause-group : goal.returns-then-made-clause-group
returns-then-made-clause-group g c =
    let of = c.requires.of in
    let group = c.args.group.now in
    let side = c.args.side.now in
    let k = c.args.place in
    let near = c.requires.place in
    let shape = g.O.Opens.grouping in
    let here = slice_get-get_or side k 0 near in
    let at = crosses_at g.O.Opens.plan shape c.args.locker.now of group.number c.args.time side c.requires.side k near in
    let same : slice_index c.deref.result.now (slice_index side k) ≡ at.0 = ap (λ xs. slice_index xs (slice_index side k)) c.deref.ensures
    ∙ ap (λ (s : Grouping). slice_index s.crossing (slice_index side k)) c.requires.shape
    ∙ get_or_from_slice_get shape.crossing (slice_index side k) at.0 0 at.1 in
    let less = one_lifted g.O.Opens.opened g.O.Opens.plan shape g.O.Opens.steps of.grouping group.number group.time group.members.items side
    c.requires.side.once k (slice_index side k) at.0 here at.1 group.home.items c.requires.group in
    held_same g.O.Opens.opened g.O.Opens.plan shape g.O.Opens.steps side k c.lift-cell.ensures.rest.0 c.lift-cell.ensures.rest.1
    (ap (λ v. v.items) c.lift-cell.ensures.rest.2) (c.lift-cell.ensures.home ∙ ap (λ n. slice_set group.home.items n None) same) less

pub returns-else-made-clause-held : goal.returns-else-made-clause-held
returns-else-made-clause-held g c =
    let of = c.requires.of in
    let group = c.args.group.now in
    let side = c.args.side.now in
    let k = c.args.place in
    let near = c.requires.place in
    let shape = g.O.Opens.grouping in
    below_put_back g.O.Opens.plan shape c.args.locker.now of group.number c.args.time side c.requires.side c.requires.group.group.is_group k near (view_of c.args.seat.now) c.requires.held (view_of c.put_wire_back.new.seat) c.put_wire_back.ensures.view

pub returns-else-made-clause-group : goal.returns-else-made-clause-group
returns-else-made-clause-group g c =
    let of = c.requires.of in
    let group = c.args.group.now in
    let side = c.args.side.now in
    let k = c.args.place in
    let near = c.requires.place in
    let shape = g.O.Opens.grouping in
    let here = slice_get-get_or side k 0 near in
    let at = crosses_at g.O.Opens.plan shape c.args.locker.now of group.number c.args.time side c.requires.side k near in
    let same : slice_index c.deref.result.now (slice_index side k) ≡ at.0 = ap (λ xs. slice_index xs (slice_index side k)) c.deref.ensures
    ∙ ap (λ (s : Grouping). slice_index s.crossing (slice_index side k)) c.requires.shape
    ∙ get_or_from_slice_get shape.crossing (slice_index side k) at.0 0 at.1 in
    let less = one_lifted g.O.Opens.opened g.O.Opens.plan shape g.O.Opens.steps of.grouping group.number group.time group.members.items side
    c.requires.side.once k (slice_index side k) at.0 here at.1 group.home.items c.requires.group in
    held_same g.O.Opens.opened g.O.Opens.plan shape g.O.Opens.steps side k c.lift-cell.ensures.rest.0 c.lift-cell.ensures.rest.1
    (ap (λ v. v.items) c.lift-cell.ensures.rest.2) (c.lift-cell.ensures.home ∙ ap (λ n. slice_set group.home.items n None) same) less
