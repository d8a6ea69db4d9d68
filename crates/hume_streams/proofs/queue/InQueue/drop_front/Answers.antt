use Rattle.std.proofs.Common.{rules}
use Rattle.hume_streams.proofs.Givings.{gives_first}
use Rattle.hume_streams.proofs.queue.InQueue.drop_front.Goals as goal

pub returns-clause-given : goal.returns-clause-given
returns-clause-given c = λ types ty text given rest q. gives_first types ty _ _ text given rest c.requires (search rules) q
