use Rattle.std.proofs.Common.{◌∙◌, refl}
use Rattle.trace_print.proofs.LinesInTurn.{nothing_written, one_line}
use Rattle.trace_print.proofs.table_lemmas.Lines.{indexed, stream_silent, box_told}
use Rattle.trace_print.proofs.table.table.write_node.Goals as goal

pub returns-in_default : goal.returns-in_default
returns-in_default g c = record {
  ends = λ this there. nothing_written _ _ _ (stream_silent c.args.core.now c.index-deref-node.result this
      (indexed c.args.core.now.nodes c.deref.result.now c.args.node c.index-deref-node.result this c.index-deref-node.is c.deref.ensures there) c.in_default.not-Rules);
  same_names = refl;
  room = refl;
}

pub returns-clause-ends : goal.returns-clause-ends
returns-clause-ends g c = λ this there. one_line _ c.bytes-2.result.now c.bytes-2.result.now _ _ _ _
    (box_told c.args.core.now c.args.costs.now c.args.node c.index-deref-node.result this c.in-Rules.b c.bound_of-bound.result _ c.bytes-2.result.now c.bytes.result.now
    (indexed c.args.core.now.nodes c.deref.result.now c.args.node c.index-deref-node.result this c.index-deref-node.is c.deref.ensures there) c.in-Rules.is
    c.requires.costs there c.bound_of-bound.ensures c.clear.ensures.bytes c.bytes.ensures (c.bytes-2.ensures ∙ c.space_line.ensures.line)) refl c.write_act.ensures.ends
