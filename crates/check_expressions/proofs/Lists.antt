-- Lists of expressions and alternatives.
use Rattle.std.proofs.lemmas.Grind.{common_steps}
use Rattle.check_tasks.proofs.FormLaws.{two_left, two_right, two_open}
use Rattle.check_tasks.proofs.ListLaws.{each_none, each_more, own_parts_none, own_parts_more, arms_none, arms_more, parts_none, parts_more, parts_past, parts_lacking}
use Rattle.check_tasks.proofs.WholeLaws.{own_each_split, own_each_open, own_arms_split, own_arms_open, index_more, update_more}

pub ruleset two_steps = (common_steps, two_left, two_right, two_open)

pub ruleset parts_steps = (common_steps, parts_none, parts_more, parts_past, parts_lacking)

pub ruleset each_steps = (common_steps, each_none, each_more)

pub ruleset own_parts_steps = (common_steps, own_parts_none, own_parts_more)

pub ruleset arms_steps = (common_steps, arms_none, arms_more)

pub ruleset own_each_steps = (common_steps, own_each_split, own_each_open)

pub ruleset own_arms_steps = (common_steps, own_arms_split, own_arms_open)

pub ruleset vector_steps = (common_steps, index_more, update_more)
