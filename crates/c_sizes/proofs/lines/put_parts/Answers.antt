use Rattle.std.proofs.lemmas.Result.{on_ok_weaker}
use Rattle.c_sizes.specs.Table.{rows_text, chain_text}
use Rattle.c_sizes.proofs.Steps.{two_added}
use Rattle.c_sizes.proofs.lines.put_parts.Goals as goal

pub returns : goal.returns
returns c =
    on_ok_weaker c.put_chain.result
    (two_added c.args.text.now.items (rows_text c.args.rows.now) (chain_text c.args.calls.now) c.put_rows.new.text.items c.put_chain.new.text.items
    c.in_ok-put_rows.ensures)
    c.put_chain.ensures
