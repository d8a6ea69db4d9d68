use Rattle.std.proofs.Common.{sym, ap, ◌∙◌}
use Rattle.c_forms.specs.Mentions.{exp_mentions}
use Rattle.c_forms.proofs.MentionForms.{if_else, switch_else}
use Rattle.c_forms.proofs.mentioned.+mentions.Goals as goal

pub statement_mentions-returns-else-exp_mentions-2 : goal.statement_mentions-returns-else-exp_mentions-2
statement_mentions-returns-else-exp_mentions-2 t c = if_else c.args.name.now c.args.statement.now _ _ _ _ c.blocks_mention.result
    c.in-If.is
    (sym (ap (exp_mentions c.args.name.now) c.deref-in-If.ensures) ∙ sym c.exp_mentions-in-If.ensures ∙ c.if-exp_mentions-2.false)
    c.blocks_mention.ensures

pub statement_mentions-returns-else-exp_mentions-3 : goal.statement_mentions-returns-else-exp_mentions-3
statement_mentions-returns-else-exp_mentions-3 t c = switch_else c.args.name.now c.args.statement.now _ _ _ c.last_blocks_mention.result
    c.in-Switch.is
    (sym (ap (exp_mentions c.args.name.now) c.deref-in-Switch.ensures) ∙ sym c.exp_mentions-in-Switch.ensures ∙ c.if-exp_mentions-3.false)
    c.last_blocks_mention.ensures
