use Rattle.std.proofs.Common.{List, ◌+◌, map, length, sym, ap, subst, ◌∙◌}
use Rattle.hume_base.specs.declared.types.ConDef.{ConDef}
use Rattle.hume_base.specs.declared.types.SumDef.{SumDef}
use Rattle.hume_base.specs.Sizes.{named_size, sizes_with, greatest, written_size, HaveTheirSizes}
use Rattle.check_signatures.proofs.Words.{grown}
use Rattle.check_signatures.proofs.data_types.add_data_type.Goals as goal

pub returns-clause-sizes : goal.returns-clause-sizes
returns-clause-sizes c =
    let types = c.args.types.now in
    let words = λ (cons : List ConDef).
    written_size (1 + greatest (map (λ (con : ConDef). sizes_with (named_size types (length types.sums)) con.fields) cons)) in
    subst (λ (sums : List SumDef). HaveTheirSizes (record { sums = sums })) (sym c.in_ok-push.ensures.ok)
    (grown types (record { name = c.args.name; cons = c.args.cons; words = c.words_of-words.result }) c.requires
    (c.words_of-words.ensures ∙ ap words c.as_slice.ensures))
