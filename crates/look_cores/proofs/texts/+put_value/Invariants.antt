use Rattle.std.proofs.Common.{◌+◌, ◌*◌}
use denote.Param.Weighed.{most}
use Rattle.hume_base.specs.declared.types.Value.{size-Value}
use Rattle.look_sources.specs.Pages.{Grows}
use Rattle.look_cores.proofs.texts.+put_value.Given as goal

abbrev pub decreases-put_fields : goal.decreases-put_fields
decreases-put_fields l = 2 * most size-Value l.values.now + 1

abbrev pub decreases-put_items : goal.decreases-put_items
decreases-put_items l = 2 * most size-Value l.values.now + 1

abbrev pub decreases-put_value : goal.decreases-put_value
decreases-put_value l = 2 * size-Value l.value.now

abbrev pub decreases-put_values : goal.decreases-put_values
decreases-put_values l = 2 * most size-Value l.values.now + 1

abbrev pub invariant-put_values-loop-i : goal.invariant-put_values-loop-i
invariant-put_values-loop-i l = Grows l.fn.page l.page

abbrev pub invariant-put_items-loop-i : goal.invariant-put_items-loop-i
invariant-put_items-loop-i l = Grows l.fn.page l.page

abbrev pub invariant-put_fields-loop-i : goal.invariant-put_fields-loop-i
invariant-put_fields-loop-i l = Grows l.fn.page l.page
