use Rattle.std.proofs.Common.{◌≡◌, ◌∙◌, List, ap, length, subst, sym}
use Rattle.hume_model.specs.declared.core_tree.Core.{Core}
use Rattle.stream_totals.specs.declared.total.Total.{Total}
use Rattle.phase_workers.specs.Engines.{core_of}
use Rattle.phase_workers.specs.Runnable.{IsRunnable}
use Rattle.demo_rounds.specs.Chains.{chain_lines}
use Rattle.demo_rounds.specs.inner.Counted.{total_at}
use Rattle.demo_rounds.proofs.ChainsTold.{lines_end}
use Rattle.demo_rounds.proofs.NodeTotals.{all_items}
use Rattle.demo_rounds.proofs.Rounds.{counted_first, lines_are}
use Rattle.demo_rounds.proofs.demo.Demo.run.Goals as goal

pub count_rounds-requires-clause-counted : goal.count_rounds-requires-clause-counted
count_rounds-requires-clause-counted g c κs within =
    counted_first (core_of c.args.self.now.engine) c.args.steps _ c.args.self.now.engine c.requires.opened.is_core c.requires.opened.is_span c.requires.opened.state
    (c.deref_mut.ensures.value ∙ c.requires.opened.none)

pub tell_chains-requires-clause-runnable : goal.tell_chains-requires-clause-runnable
tell_chains-requires-clause-runnable g c = subst IsRunnable (sym (c.core.ensures ∙ c.count_rounds.ensures.core)) c.requires.runnable

pub tell_chains-requires-clause-count : goal.tell_chains-requires-clause-count
tell_chains-requires-clause-count g c =
    subst (λ (core : Core). length c.deref.result.now ≡ length core.nodes) (sym (c.core.ensures ∙ c.count_rounds.ensures.core))
    (ap (λ (totals : List Total). length totals)
    (c.deref.ensures.value ∙ all_items c.args.self.now.totals.len c.count_rounds.new.totals c.args.self.now.totals.items c.args.self.now.totals.ok.0
    (c.count_rounds.auto.totals ∙ ap (λ (totals : List Total). length totals) c.deref_mut.ensures.value)) ∙ c.count_rounds.ensures.counted.counted.count)

pub returns-clause-ends : goal.returns-clause-ends
returns-clause-ends g c =
    lines_end c.args.out _ _ _ _ _ (ap (λ totals. chain_lines c.core.result.now (total_at totals))
    (c.deref.ensures.value ∙ all_items c.args.self.now.totals.len c.count_rounds.new.totals c.args.self.now.totals.items c.args.self.now.totals.ok.0
    (c.count_rounds.auto.totals ∙ ap (λ (totals : List Total). length totals) c.deref_mut.ensures.value))
    ∙ lines_are (core_of c.args.self.now.engine) c.core.result.now c.args.steps c.count_rounds.new.totals c.count_rounds.new.engine
    (c.core.ensures ∙ c.count_rounds.ensures.core) c.count_rounds.ensures.counted)
    c.tell_chains.ensures.ends
