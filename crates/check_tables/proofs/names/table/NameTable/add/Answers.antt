use Rattle.std.proofs.Common.{sym, ap, ◌∙◌}
use Rattle.check_tables.specs.names.Names.{among}
use Rattle.check_tables.specs.names.Names.{with_name, names_of}
use Rattle.check_tables.proofs.names_lemmas.Lookup.{with_name-old, with_name-new}
use Rattle.check_tables.proofs.names.table.NameTable.add.Goals as goal

pub returns-then-has-clause-added : goal.returns-then-has-clause-added
returns-then-has-clause-added c = with_name-old c.args.self.now c.args.name.now c.args.number (sym c.has.ensures ∙ c.if-has.true)

pub returns-clause-added : goal.returns-clause-added
returns-clause-added c =
    with_name-new c.args.name c.args.number c.self.inside.entries.entries c.insert.new.self.entries (ap (λ es. among c.args.name.now (names_of es)) c.self.view_is ∙ sym c.has.ensures ∙ c.if-has.false) c.in_ok-insert.ensures.entries
    ∙ ap (λ es. with_name es c.args.name.now c.args.number) c.self.view_is
