use Rattle.box_compile.proofs.CountedPlaces.{places_more}
use Rattle.box_compile.proofs.places.with_places.Goals as goal

pub loop-i-preserved : goal.loop-i-preserved
loop-i-preserved c =
    places_more c.args.places.now c.loop-i.inner c.push.new.self c.args.start c.loop-i.i c.in_ok-plus.field-0 c.loop-i.invariant c.in_ok-plus.ensures
    c.in_ok-push.ensures.ok
