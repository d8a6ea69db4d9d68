use Rattle.std.proofs.Common.{◌≡◌, drop}
use Rattle.check_rules.specs.Declared.{exception_of}
use Rattle.check_signatures.specs.inner.Named.{exception_by, exceptions_in}
use Rattle.check_signatures.proofs.Gathered.{with_rest}
use Rattle.check_signatures.proofs.exceptions.declared_exceptions.Given as goal

abbrev pub invariant-loop-d : goal.invariant-loop-d
invariant-loop-d l = with_rest exception_of (exception_by l.names) (drop l.d-index l.decls) l.exns ≡ exceptions_in l.names l.decls
