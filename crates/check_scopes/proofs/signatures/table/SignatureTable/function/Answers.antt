use Rattle.std.proofs.Common.{ap, ◌∙◌}
use Rattle.check_typing.specs.declared.signatures.Signature.{Signature}
use Rattle.check_typing.specs.Signatures.{fun_named}
use Rattle.check_tables.specs.names.Names.{number_of}
use Rattle.check_scopes.specs.signatures.inner.Tables.{numbered_item}
use Rattle.check_scopes.proofs.signatures_lemmas.Lookup.{first_found}
use Rattle.check_scopes.proofs.signatures.table.SignatureTable.function.Goals as goal

pub returns : goal.returns
returns c =
    let name = c.args.name.now in
    c.at_number.ensures ∙ ap (λ xs. numbered_item xs c.find.result) c.as_slice.ensures
    ∙ first_found (λ (function : Signature). function.name) name c.self.inside.signatures.now.funs c.find.result
    (c.find.ensures ∙ ap (number_of name) c.self.invariant.functions_are)
    ∙ ap (fun_named name) c.self.view_is
