use Rattle.std.proofs.Common.{◌≡◌, ◌+◌, ◌-◌, length, arith}
use Rattle.check_scopes.proofs.types_lemmas.Vars.{last_at}
use Rattle.check_scopes.proofs.types.variables.last_number.Goals as goal

pub returns : goal.returns
returns c =
    let vars = c.args.vars.now in
    let some = c.if-count-eq0.false in
    let long : length vars ≡ (length vars - 1) + 1 = omega arith in
    last_at vars (length vars - 1) _ long
