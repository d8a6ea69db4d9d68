use Rattle.std.proofs.Common.{◌∙◌}
use Rattle.std.proofs.lemmas.Result.{on_ok_weaker}
use Rattle.c_sizes.specs.Memory.{memory_rows}
use Rattle.c_sizes.specs.Calls.{seen_of, chain_of}
use Rattle.c_sizes.specs.Table.{rows_text, chain_text}
use Rattle.c_sizes.proofs.Steps.{same_added}
use Rattle.c_sizes.proofs.lines.put_table.Goals as goal

pub returns : goal.returns
returns c =
    on_ok_weaker c.put_parts.result
    (same_added rows_text chain_text c.args.text.now.items c.put_parts.new.text.items
    c.as_slice.result.now (memory_rows c.args.program.now.items) c.in_ok-calls.calls (chain_of (seen_of c.args.program.now.items))
    (c.as_slice.ensures ∙ c.in_ok-rows.ensures) c.in_ok-calls.ensures)
    c.put_parts.ensures
