use Rattle.hume_streams.proofs.Givings.{fill_follows}
use Rattle.hume_streams.proofs.laws.fills_follow_ports_that_tell.Goals as goal

pub returns : goal.returns
returns c types ty want old new before after result text left rest given f b a q = fill_follows types ty want old new before after result text left rest given f b a q
