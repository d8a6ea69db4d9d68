use Rattle.std.proofs.Common.{map, length, refl, sym, ap, ◌∙◌, option_map, option_and_then, slice_get}
use Rattle.std.proofs.lemmas.Option.{slice_get_read, slice_get_past, slice_get-map}
use Rattle.check_scopes.specs.signatures.Numbered.{seen}
use Rattle.check_scopes.proofs.signatures.constructors.found_in.Goals as goal

pub returns-in-Some : goal.returns-in-Some
returns-in-Some c =
    let all = c.args.all.now in
    let there = slice_get_read all (length all) c.in-Some.number c.index-all-number.result refl c.if-number-all.true c.index-all-number.is in
    sym (ap (option_and_then (slice_get (map seen all))) c.in-Some.is ∙ slice_get-map seen all c.in-Some.number ∙ ap (option_map seen) there)

pub returns-in-Some-2 : goal.returns-in-Some-2
returns-in-Some-2 c =
    let all = c.args.all.now in
    let past = slice_get_past all c.in-Some.number c.if-number-all.false in
    sym (ap (option_and_then (slice_get (map seen all))) c.in-Some.is ∙ slice_get-map seen all c.in-Some.number ∙ ap (option_map seen) past)
