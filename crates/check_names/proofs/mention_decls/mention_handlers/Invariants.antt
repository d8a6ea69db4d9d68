use Rattle.std.proofs.Common.{◌≡◌, ◌++◌, map, drop}
use Rattle.check_names.specs.Names.{joined}
use Rattle.check_names.specs.Mentions.{handler_mentions}
use Rattle.check_names.proofs.mention_decls.mention_handlers.Given as goal

abbrev pub invariant-loop-handler : goal.invariant-loop-handler
invariant-loop-handler l = l.out ++ joined (map (handler_mentions) (drop l.handler-index l.handlers)) ≡ l.fn.out ++ joined (map (handler_mentions) l.handlers)
