use Rattle.box_heap.proofs.Staying.{found_still, objects_kept, object_put}
use Rattle.box_heap.proofs.laws.objects_stay.Goals as goal

pub returns-clause-found : goal.returns-clause-found
returns-clause-found c = found_still

pub returns-clause-kept : goal.returns-clause-kept
returns-clause-kept c = objects_kept

pub returns-clause-put : goal.returns-clause-put
returns-clause-put c = object_put
