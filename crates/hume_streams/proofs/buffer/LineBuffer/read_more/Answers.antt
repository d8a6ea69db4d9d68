use Rattle.std.proofs.Common.{◌++◌, refl, ap, ◌∙◌, List, ℕ}
use Rattle.std.proofs.lemmas.List.{take-append-le}
use Rattle.hume_streams.specs.Contents.{unread_in}
use Rattle.hume_streams.proofs.Drawing.{draws_read}
use Rattle.hume_streams.proofs.buffer.LineBuffer.read_more.Goals as goal

pub returns-clause-drawn : goal.returns-clause-drawn
returns-clause-drawn g c = draws_read _ _ _ _ c.in_ok-count.count c.read_piece.new.piece c.in_ok-count.ensures.read c.in_ok-count.ensures.some
    (c.add.ensures.unread ∙ ap (λ (bytes : List ℕ). unread_in c.args.self.now ++ bytes) (take-append-le c.in_ok-count.count c.read_piece.new.piece _ c.in_ok-count.ensures.read.bound.0))
    c.requires.going refl
