use Rattle.hume_console.proofs.Finishing.{all_finished, made_as, out_within, places_lent}
use Rattle.hume_console.proofs.closing.close.Goals as goal

pub finish_act-requires : goal.finish_act-requires
finish_act-requires g c =
    let are = c.requires.closable in
    out_within _ c.args.ports.now c.close_streams.new.ports c.args.core.now are.0 _ c.args.places.now.std_out are.1 c.close_streams.ensures.same_names

pub returns-in-Ok-clause-ends : goal.returns-in-Ok-clause-ends
returns-in-Ok-clause-ends g c session are =
    all_finished c.args.core.now _ c.args.places.now.std_out session _ _ are c.close_streams.ensures.same_names _ _
    (made_as _ _ _ _ _ c.in-Ok.is (c.close_streams.ensures.ends session (places_lent _ session _ _ _ _ c.deref.ensures.value are))) c.finish_act.ensures.ends
