use Rattle.std.proofs.Common.{◌≡◌, List, ◌∙◌, ap, map, string_bytes, sym, subst, Err}
use Rattle.hume_front.specs.declared.acceptance.Accepted.{Accepted}
use Rattle.run_rounds.specs.Members.{views}
use Rattle.run_rounds.specs.Streams.{ArePortsApart}
use Rattle.hume_calls.specs.Unions.{program_members}
use Rattle.hume_run.proofs.UnionParts.{never_unfit, nodes_within, union_ready}
use Rattle.hume_run.proofs.UnionSources.{named_first}
use Rattle.hume_run.proofs.union.opening.open_union.Goals as goal

pub unreachable-requires : goal.unreachable-requires
unreachable-requires g c = never_unfit _ c.as_bytes.result.now c.args.union.core _ c.in-Err-Unfit.field-0-0 c.requires.union.is_core
    (c.requires.fit c.as_bytes.result.now
    (named_first string_bytes c.args.sources.now c.index-sources-0.result c.as_bytes.result.now c.requires.several c.index-sources-0.is
    c.as_bytes.ensures.value))
    (c.find_places.ensures.unfit c.in-Err-Unfit.field-0-0 (c.in-Err-Unfit.is ∙ ap Err c.in-Err-Unfit.field-0-is))

pub open-requires-clause-ready : goal.open-requires-clause-ready
open-requires-clause-ready g c = union_ready _ c.args.union c.requires.union

pub returns-clause-open : goal.returns-clause-open
returns-clause-open g c =
    let members : views c.in_ok-members.members.items ≡ program_members (map string_bytes c.args.sources.now) c.args.programs.items 1 =
    c.in_ok-members.ensures ∙ ap (λ (programs : List Accepted). program_members (map string_bytes c.args.sources.now) programs 1) c.deref.ensures.value in
    record {
      is_open = c.in_ok-opened.ensures.open;
      untraced = c.in_ok-opened.ensures.traced;
      core = c.in_ok-opened.ensures.core ∙ c.requires.union.is_core;
      bounded = c.requires.bounded;
      members = members;
      nodes = nodes_within (map string_bytes c.args.sources.now) c.args.programs.items _ _ members
          (c.in_ok-opened.ensures.core ∙ c.requires.union.is_core);
    }

pub returns-clause-apart : goal.returns-clause-apart
returns-clause-apart g c = subst ArePortsApart (sym c.in_ok-opened.ensures.core) c.in-Ok.ensures.apart
