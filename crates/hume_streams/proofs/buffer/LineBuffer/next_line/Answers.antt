use Rattle.std.proofs.Common.{◌≡◌, ◌<◌, ◌≤◌, ℕ, List, length, take, subst, ap, sym, ◌∙◌, arith, length-append, length-drop}
use Rattle.std.specs.List.{slice_index}
use Rattle.std.proofs.Math.Seq.{take-append_seam}
use Rattle.hume_streams.specs.Contents.{unread_in}
use Rattle.hume_streams.specs.inner.Newlines.{HasNoNewline}
use Rattle.hume_streams.specs.inner.Buffers.{IsNext}
use Rattle.hume_streams.specs.declared.buffer.Next.TheVariants.{Line}
use Rattle.hume_streams.proofs.Drawing.{draws_none, draws_on}
use Rattle.hume_streams.proofs.Newlines.{whole_lines-none}
use Rattle.hume_streams.proofs.NextLines.{next_at_newline, next_too_long, next_last}
use Rattle.hume_streams.proofs.buffer.LineBuffer.next_line.Goals as goal

pub pieces-init : goal.pieces-init
pieces-init g c = record { draws = draws_none _ _; within = omega arith; scanned = tt }

pub returns-in-Some-clause-next : goal.returns-in-Some-clause-next
returns-in-Some-clause-next g c =
    let u = unread_in c.pieces.self in
    let at = subst (λ (bytes : List ℕ). (c.in-Some.count < length bytes) × (slice_index bytes c.in-Some.count ≡ 10) × HasNoNewline (take c.in-Some.count bytes)) c.unread.ensures c.in-Some.ensures in
    (c.pieces.invariant.draws, next_at_newline u c.pieces.self.ended c.in-Some.count (omega (arith, c.pieces.self.short, length-drop c.pieces.self.start c.pieces.self.bytes.items)) at.0 at.1 at.2)

pub returns-then-scanned-gt-MAX_LINE_BYTES-clause-next : goal.returns-then-scanned-gt-MAX_LINE_BYTES-clause-next
returns-then-scanned-gt-MAX_LINE_BYTES-clause-next g c =
    let none = subst HasNoNewline c.unread.ensures (rw c.in_default.is at c.newline_from.ensures) in
    (c.pieces.invariant.draws, next_too_long (unread_in c.pieces.self) c.pieces.self.ended (omega (arith, ap length c.unread-scanned.ensures, c.if-scanned-gt-MAX_LINE_BYTES.true)) none)

pub returns-else-scanned-eq0-clause-next : goal.returns-else-scanned-eq0-clause-next
returns-else-scanned-eq0-clause-next g c =
    let none = subst HasNoNewline c.unread.ensures (rw c.in_default.is at c.newline_from.ensures) in
    let same : length (unread_in c.pieces.self) ≡ length c.unread-scanned.result.now = ap length (sym c.unread-scanned.ensures) in
    let u = unread_in c.pieces.self in
    let some : 0 < length u = omega (arith, same, c.if-scanned-eq0.false) in
    let short : length u ≤ 65536 = omega (arith, same, c.if-scanned-gt-MAX_LINE_BYTES.false) in
    (c.pieces.invariant.draws, subst (λ n. IsNext u c.pieces.self.ended (Line n)) same (next_last u c.pieces.self.ended short some none c.if-self.true))

pub pieces-preserved : goal.pieces-preserved
pieces-preserved g c =
    let none = subst HasNoNewline c.unread.ensures (rw c.in_default.is at c.newline_from.ensures) in
    let old = unread_in c.pieces.self in
    let drawn = c.in_ok-read_more.ensures.drawn in
    let same : length c.unread-scanned.result.now ≡ length old = ap length c.unread-scanned.ensures in
    let more : take (length old) (unread_in c.read_more.new.self) ≡ old = ap (take (length old)) drawn.unread ∙ take-append_seam old drawn.bytes in
    record {
      draws = draws_on _ _ _ _ _ _ c.pieces.invariant.draws drawn c.if-self.false;
      within = omega (arith, same, ap length drawn.unread, length-append old drawn.bytes);
      scanned = subst HasNoNewline (sym (ap (λ n. take n (unread_in c.read_more.new.self)) same ∙ more)) none;
    }

pub read_more-requires-clause-begun : goal.read_more-requires-clause-begun
read_more-requires-clause-begun g c =
    whole_lines-none (unread_in c.pieces.self) (subst HasNoNewline c.unread.ensures (rw c.in_default.is at c.newline_from.ensures))
