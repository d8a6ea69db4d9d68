use Rattle.std.proofs.Common.{◌≡◌, ◌+◌, ◌*◌, drop}
use denote.Param.Weighed.{most}
use Rattle.c_tree.specs.declared.tree.CExp.{size-CExp}
use Rattle.c_forms.specs.Mentions.{some_mention}
use Rattle.c_forms.proofs.mentioned.+exp_mentions.Given as goal

abbrev pub decreases-exp_mentions : goal.decreases-exp_mentions
decreases-exp_mentions l = 2 * size-CExp l.exp.now

abbrev pub decreases-some_mention : goal.decreases-some_mention
decreases-some_mention l = 2 * most size-CExp l.parts.now + 1

abbrev pub invariant-some_mention-loop-part : goal.invariant-some_mention-loop-part
invariant-some_mention-loop-part l = some_mention l.name (drop l.part-index l.parts) ≡ some_mention l.name l.parts
