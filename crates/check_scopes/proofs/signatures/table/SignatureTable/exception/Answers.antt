use Rattle.std.proofs.Common.{ap, ◌∙◌}
use Rattle.hume_model.specs.declared.core_tree.ExnDef.{ExnDef}
use Rattle.check_typing.specs.Signatures.{exn_named}
use Rattle.check_tables.specs.names.Names.{number_of}
use Rattle.check_scopes.specs.signatures.inner.Tables.{numbered_item}
use Rattle.check_scopes.proofs.signatures_lemmas.Lookup.{first_found}
use Rattle.check_scopes.proofs.signatures.table.SignatureTable.exception.Goals as goal

pub returns : goal.returns
returns c =
    let name = c.args.name.now in
    c.at_number.ensures ∙ ap (λ xs. numbered_item xs c.find.result) c.as_slice.ensures
    ∙ first_found (λ (exn : ExnDef). exn.name) name c.self.inside.signatures.now.exns c.find.result
    (c.find.ensures ∙ ap (number_of name) c.self.invariant.exceptions_are)
    ∙ ap (exn_named name) c.self.view_is
