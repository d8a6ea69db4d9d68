use Rattle.std.proofs.Common.{ℕ, List, ap, ◌∙◌, map, option_and_then, slice_get}
use Rattle.check_typing.specs.Signatures.{Constructor}
use Rattle.check_tables.specs.names.Names.{number_of}
use Rattle.check_scopes.specs.signatures.Numbered.{seen}
use Rattle.check_scopes.proofs.signatures_lemmas.Numbering.{constructor_found}
use Rattle.check_scopes.proofs.signatures.constructors.ConstructorTable.find.Goals as goal

pub returns : goal.returns
returns c = λ sums is.
    c.found_in.ensures
    ∙ ap (λ (those : List (Constructor × ℕ)). option_and_then (slice_get those) c.find.result) (ap (map seen) c.as_slice.ensures.value ∙ is.all)
    ∙ constructor_found c.args.name.now sums c.find.result (c.find.ensures ∙ ap (number_of c.args.name.now) is.names)
