use Rattle.std.proofs.Common.{ap, ◌∙◌, option_map}
use Rattle.hume_base.specs.declared.types.SumDef.{SumDef}
use Rattle.check_typing.specs.Signatures.{sum_named}
use Rattle.check_typing.specs.declared.signatures.Signatures.{Signatures}
use Rattle.check_tables.specs.names.Names.{number_of}
use Rattle.check_scopes.specs.signatures.inner.Tables.{numbered_item}
use Rattle.check_scopes.proofs.signatures_lemmas.Lookup.{first_found}
use Rattle.check_scopes.proofs.signatures.table.SignatureTable.data_type.Goals as goal

pub returns : goal.returns
returns c =
    let name = c.args.name.now in
    c.number_alone.ensures
    ∙ ap (option_map (λ found. found.0))
    (c.at_number-found.ensures ∙ ap (λ xs. numbered_item xs c.find.result) c.as_slice.ensures
    ∙ first_found (λ (one : SumDef). one.name) name c.self.inside.signatures.now.types.sums c.find.result
    (c.find.ensures ∙ ap (number_of name) c.self.invariant.data_types_are)
    ∙ ap (λ (s : Signatures). sum_named name s.types) c.self.view_is)
