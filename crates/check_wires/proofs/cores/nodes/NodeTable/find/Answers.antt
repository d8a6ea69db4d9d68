use Rattle.std.proofs.Common.{ap, ◌∙◌}
use Rattle.check_typing.specs.Signatures.{first_named}
use Rattle.check_tables.specs.names.Names.{number_of}
use Rattle.check_scopes.proofs.signatures_lemmas.Lookup.{first_found}
use Rattle.check_rules.specs.CoreOf.{node_name}
use Rattle.check_wires.proofs.cores.nodes.NodeTable.find.Goals as goal

pub returns : goal.returns
returns c =
    let name = c.args.name.now in
    c.node_at.ensures
    ∙ first_found node_name name c.self.inside.nodes.now c.find.result
    (c.find.ensures ∙ ap (λ bytes. number_of bytes c.self.inside.names) c.bytes.ensures ∙ ap (number_of name) c.self.invariant.names_are)
    ∙ ap (first_named node_name name) c.self.view_is
