use Rattle.std.proofs.Common.{arith, ◌≡◌, ◌∙◌, subst, List, map, string_bytes}
use Rattle.std.proofs.lemmas.List.{length-map}
use Rattle.hume_front.specs.declared.acceptance.Accepted.{Accepted}
use Rattle.run_rounds.specs.Members.{views}
use Rattle.hume_calls.specs.Unions.{program_members}
use Rattle.hume_run.proofs.UnionParts.{few_members, opened_fit}
use Rattle.hume_run.proofs.union.run_united.Goals as goal

pub open_union-requires-clause-fit : goal.open_union-requires-clause-fit
open_union-requires-clause-fit g c = opened_fit _ _ c.args.programs.items
    (let all = length-map c.args.sources.now string_bytes in let many = c.requires.sources in let several = c.requires.several in omega
    (arith, all, many, several))
    (length-map c.args.sources.now string_bytes ∙ c.requires.sources) c.requires.fit c.requires.apart

pub make_union-requires-clause-few : goal.make_union-requires-clause-few
make_union-requires-clause-few g c κs within =
    few_members (map string_bytes c.args.sources.now) c.args.programs.items c.in-Ok.opened.members.items
    (subst (λ (programs : List Accepted). views c.in-Ok.opened.members.items ≡ program_members (map string_bytes c.args.sources.now) programs 1)
    c.in-Ok.ensures.programs c.in-Ok.ensures.open.members) c.requires.few

pub open_union-requires-clause-bounded : goal.open_union-requires-clause-bounded
open_union-requires-clause-bounded g c = c.requires.bounded

pub open_union-requires-clause-union : goal.open_union-requires-clause-union
open_union-requires-clause-union g c = c.requires.union

pub make_union-requires-clause-open : goal.make_union-requires-clause-open
make_union-requires-clause-open g c κs within = (_, c.in-Ok.ensures.open)

pub make_union-requires-clause-places : goal.make_union-requires-clause-places
make_union-requires-clause-places g c κs within = c.in-Ok.ensures.places

pub make_union-requires-clause-apart : goal.make_union-requires-clause-apart
make_union-requires-clause-apart g c κs within = c.in-Ok.ensures.apart

pub make_union-requires-clause-out : goal.make_union-requires-clause-out
make_union-requires-clause-out g c κs within = c.requires.out
