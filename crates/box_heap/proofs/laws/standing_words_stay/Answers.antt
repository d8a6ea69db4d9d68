use Rattle.box_heap.proofs.StandingStill.{stands_still, all_stand_still}
use Rattle.box_heap.proofs.laws.standing_words_stay.Goals as goal

pub returns-clause-one : goal.returns-clause-one
returns-clause-one c = λ objects more value word stands. stands_still more stands

pub returns-clause-several : goal.returns-clause-several
returns-clause-several c = λ objects more values words stand. all_stand_still more stand
