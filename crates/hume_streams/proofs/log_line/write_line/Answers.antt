use Rattle.std.proofs.Common.{sym, subst, List, ℕ}
use Rattle.hume_streams.specs.Logs.{IsLineOf}
use Rattle.hume_streams.proofs.log_line.write_line.Goals as goal

pub returns-clause-line : goal.returns-clause-line
returns-clause-line g c =
    let is_line = subst (λ (line : List ℕ). IsLineOf c.args.types.now c.args.ty.now c.args.words.now line) (sym c.bytes.ensures) c.print_line.ensures.line in
    (c.bytes.result.now, is_line, c.write_to-result.ensures)
