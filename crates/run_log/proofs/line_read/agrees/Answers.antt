use Rattle.std.proofs.Common.{◌≡◌, ◌∙◌, drop, length, sym, true, false}
use Rattle.std.proofs.lemmas.Bool.Decides.{Decides-eqb}
use Rattle.std.proofs.lemmas.Slice.Eq.{starts_is}
use Rattle.run_log.proofs.line_read.agrees.Goals as goal

pub returns-clause-yes : goal.returns-clause-yes
returns-clause-yes c = λ yes.
    let starts = starts_is Decides-eqb c.args.line.now c.args.read.now c.starts_with.result c.starts_with.ensures.value in
    (drop (length c.args.read.now) c.args.line.now, starts.0 yes)

pub returns-clause-no : goal.returns-clause-no
returns-clause-no c = λ no within.
    let starts = starts_is Decides-eqb c.args.line.now c.args.read.now c.starts_with.result c.starts_with.ensures.value in
    let both : true ≡ false = sym (starts.1 within.0 within.1) ∙ no in
    cc
