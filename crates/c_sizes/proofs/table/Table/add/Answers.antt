use Rattle.std.proofs.Common.{sym, ap, ◌∙◌, is_some}
use Rattle.c_sizes.specs.Names.{known, with_name}
use Rattle.c_sizes.proofs.Lookup.{lookup-known, with_name-old, with_name-new}
use Rattle.c_sizes.proofs.table.Table.add.Goals as goal

pub returns-then-contains_key : goal.returns-then-contains_key
returns-then-contains_key g c =
    let found = lookup-known c.args.name.now c.self.inside.entries.entries ∙ ap (known c.args.name.now) c.self.view_is in
    with_name-old c.args.self.now c.args.name.now c.args.value (sym (c.contains_key.ensures ∙ ap is_some found) ∙ c.if-contains_key.true)

pub returns : goal.returns
returns g c =
    let found = lookup-known c.args.name.now c.self.inside.entries.entries in
    with_name-new c.args.name c.args.value c.self.inside.entries.entries c.insert.new.self.entries
    (sym (c.contains_key.ensures ∙ ap is_some found) ∙ c.if-contains_key.false) c.in_ok-insert.ensures.entries
    ∙ ap (λ es. with_name es c.args.name.now c.args.value) c.self.view_is
