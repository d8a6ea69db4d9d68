use Rattle.std.proofs.Common.{◌≡◌, ◌<◌, ◌≤◌, ℕ, List, length, take, subst, ap, sym, ◌∙◌, arith}
use Rattle.std.specs.List.{slice_index}
use Rattle.hume_streams.specs.inner.Newlines.{HasNoNewline}
use Rattle.hume_streams.proofs.Newlines.{whole_lines-none}
use Rattle.hume_console.specs.inner.CommandBuffers.{unread_in, IsNext}
use Rattle.hume_console.specs.declared.command_lines.Next.TheVariants.{Line}
use Rattle.hume_console.proofs.CommandFronts.{next_at_newline, next_too_long, next_last}
use Rattle.hume_console.proofs.CommandReads.{reading_none, reading_on, reading_fails}
use Rattle.hume_console.proofs.command_lines.CommandLines.next.Goals as goal

pub pieces-init : goal.pieces-init
pieces-init g c = reading_none _ _ _

pub returns-in-Some-clause-reads : goal.returns-in-Some-clause-reads
returns-in-Some-clause-reads g c = c.pieces.invariant.reads

pub returns-in-Some-clause-same_names : goal.returns-in-Some-clause-same_names
returns-in-Some-clause-same_names g c = c.pieces.invariant.same_names

pub returns-then-count-gt-MAX_COMMAND_BYTES-clause-reads : goal.returns-then-count-gt-MAX_COMMAND_BYTES-clause-reads
returns-then-count-gt-MAX_COMMAND_BYTES-clause-reads g c = c.pieces.invariant.reads

pub returns-then-count-gt-MAX_COMMAND_BYTES-clause-same_names : goal.returns-then-count-gt-MAX_COMMAND_BYTES-clause-same_names
returns-then-count-gt-MAX_COMMAND_BYTES-clause-same_names g c = c.pieces.invariant.same_names

pub returns-then-count-eq0-clause-reads : goal.returns-then-count-eq0-clause-reads
returns-then-count-eq0-clause-reads g c = c.pieces.invariant.reads

pub returns-then-count-eq0-clause-same_names : goal.returns-then-count-eq0-clause-same_names
returns-then-count-eq0-clause-same_names g c = c.pieces.invariant.same_names

pub returns-else-count-eq0-clause-reads : goal.returns-else-count-eq0-clause-reads
returns-else-count-eq0-clause-reads g c = c.pieces.invariant.reads

pub returns-else-count-eq0-clause-same_names : goal.returns-else-count-eq0-clause-same_names
returns-else-count-eq0-clause-same_names g c = c.pieces.invariant.same_names

pub returns-in-Some-clause-next : goal.returns-in-Some-clause-next
returns-in-Some-clause-next g c =
    let u = unread_in c.pieces.self in
    let at = subst (λ (bytes : List ℕ). (c.in-Some.length < length bytes) × (slice_index bytes c.in-Some.length ≡ 10) × HasNoNewline (take c.in-Some.length bytes)) c.unread.ensures c.in-Some.ensures in
    next_at_newline u c.pieces.self.ended c.in-Some.length (omega (arith, c.pieces.self.short)) at.0 at.1 at.2

pub returns-then-count-gt-MAX_COMMAND_BYTES-clause-next : goal.returns-then-count-gt-MAX_COMMAND_BYTES-clause-next
returns-then-count-gt-MAX_COMMAND_BYTES-clause-next g c =
    let none = subst HasNoNewline c.unread.ensures (rw c.in_default.is at c.newline_in.ensures) in
    next_too_long (unread_in c.pieces.self) c.pieces.self.ended (omega (arith, ap length c.unread-count.ensures, c.if-count-gt-MAX_COMMAND_BYTES.true)) none

pub returns-else-count-eq0-clause-next : goal.returns-else-count-eq0-clause-next
returns-else-count-eq0-clause-next g c =
    let u = unread_in c.pieces.self in
    let none = subst HasNoNewline c.unread.ensures (rw c.in_default.is at c.newline_in.ensures) in
    let same : length u ≡ length c.unread-count.result.now = ap length (sym c.unread-count.ensures) in
    let some : 0 < length u = omega (arith, same, c.if-count-eq0.false) in
    let short : length u ≤ 255 = omega (arith, same, c.if-count-gt-MAX_COMMAND_BYTES.false) in
    subst (λ n. IsNext u c.pieces.self.ended (Line n)) same (next_last u c.pieces.self.ended short some none c.if-self.true)

pub read_more-requires-clause-begun : goal.read_more-requires-clause-begun
read_more-requires-clause-begun g c =
    whole_lines-none (unread_in c.pieces.self) (subst HasNoNewline c.unread.ensures (rw c.in_default.is at c.newline_in.ensures))

pub pieces-preserved : goal.pieces-preserved
pieces-preserved g c = reading_on _ _ _ _ _ _ _ c.pieces.invariant c.if-self.false c.in-Ok.ensures.reads c.in-Ok.ensures.same_names

pub returns-in-Err-clause-failed : goal.returns-in-Err-clause-failed
returns-in-Err-clause-failed g c = reading_fails _ _ _ _ _ _ c.pieces.invariant c.in-Err.ensures.failed

pub returns-in-Err-clause-same_names : goal.returns-in-Err-clause-same_names
returns-in-Err-clause-same_names g c = c.in-Err.ensures.same_names ∙ c.pieces.invariant.same_names
