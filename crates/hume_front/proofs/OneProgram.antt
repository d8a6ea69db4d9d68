-- A source stands for one program at most.
use Rattle.std.proofs.Common.{◌≡◌, ℕ, List, subst}
use Rattle.hume_ast.specs.declared.tree.Program.{Program}
use Rattle.hume_ast.specs.Places.{StandsFor}
use Rattle.parse_readers.proofs.OneSpelling.{one_placed}
use Rattle.hume_lex.proofs.Unique.{one_reading}
use Rattle.hume_front.specs.Accepted.{IsProgramOf}

pub one_program : (text : List ℕ) (first second : Program) → IsProgramOf text first → IsProgramOf text second → first ≡ second
one_program text first second a b =
    let same : b.tokens ≡ a.tokens = one_reading text b.tokens a.tokens b.read.0 a.read.0 in
    one_placed a.tokens first second a.spelled (subst (λ tokens. StandsFor tokens second) same b.spelled)
