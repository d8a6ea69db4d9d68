use Rattle.run_rounds.specs.Streams.{std_out}
use Rattle.hume_console.proofs.Prepared.{place_within}
use Rattle.hume_console.proofs.refusing.refuse.Goals as goal

pub write_and_finish-requires : goal.write_and_finish-requires
write_and_finish-requires g c = place_within _ c.args.ports.now std_out c.args.out c.requires.out
