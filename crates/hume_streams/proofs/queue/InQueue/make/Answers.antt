use Rattle.std.proofs.Common.{rules}
use Rattle.hume_base.specs.Sizes.{size_of}
use Rattle.hume_streams.proofs.Givings.{first_right_as}
use Rattle.hume_streams.proofs.queue.InQueue.make.Goals as goal

pub returns-clause-right : goal.returns-clause-right
returns-clause-right c = λ text. first_right_as _ _ _ (size_of c.args.types.now c.args.ty.now) c.args.span text (search rules)
