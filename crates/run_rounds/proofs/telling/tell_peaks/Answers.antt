use Rattle.std.proofs.Common.{◌∙◌, ap, length}
use Rattle.hume_model.specs.declared.core_tree.Core.{Core}
use Rattle.run_rounds.proofs.Tellings.{count_told}
use Rattle.run_rounds.specs.Telling.{top_there}
use Rattle.run_rounds.proofs.telling.tell_peaks.Goals as goal

pub returns-clause-ends : goal.returns-clause-ends
returns-clause-ends g c =
    count_told (top_there c.args.engine.now) _ _ _ _ _ (c.len-count.ensures ∙ ap (λ (core : Core). length core.nodes) c.core.ensures) c.tell_peaks_from.ensures.ends
