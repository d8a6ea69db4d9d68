-- Where a result ends.
use Rattle.std.specs.Prelude.{List, Option, Some}
use Rattle.hume_base.specs.declared.types.Ty.{Ty}
use Rattle.check_typing.specs.Partial.{given}
use Rattle.check_typing.specs.Signatures.{Scope}
use Rattle.check_typing.specs.Results.{CoredRes, outs_core}
use Rattle.check_typing.specs.inner.ResultWalk.{ResultWalk, outputs_of}

-- the result of an expression at which it ends
abbrev pub leaf_result : ResultWalk → Scope → List Ty → Option CoredRes
leaf_result w scope tys = given (outputs_of w.output w.outputs scope tys) (λ outs. Some (outs_core outs))
