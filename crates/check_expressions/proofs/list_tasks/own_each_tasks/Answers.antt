use Rattle.std.proofs.Common.{◌≡◌, ◌≤◌, ◌∷◌, ◌++◌, length, take, drop, refl, sym, ap, ◌∙◌, arith}
use Rattle.std.proofs.lemmas.List.{take-append-drop}
use Rattle.check_tasks.proofs.WholeLaws.{own_each_split, own_each_open}
use Rattle.check_expressions.proofs.Forms.{comes_to}
use Rattle.check_expressions.proofs.PlanLists.{each_open_plan, each_split_plan}
use Rattle.check_expressions.proofs.list_tasks.own_each_tasks.Goals as goal

pub returns-in_default-clause-ok : goal.returns-in_default-clause-ok
returns-in_default-clause-ok c = comes_to c.first.result c.first.new.tasks (each_open_plan c.args.parts) c.args.tasks.now c.args.at.now _
    (own_each_open c.args.at.now c.args.parts c.in_default.ensures.is) c.first.ensures.ok

pub split_at-requires : goal.split_at-requires
split_at-requires c = let within = c.in-Some.ensures.within in omega arith

pub returns-clause-ok : goal.returns-clause-ok
returns-clause-ok c =
    let front = c.split_at.result.0 in
    let part = c.in-Some-split_first.part in
    let behind = c.in-Some-split_first.behind in
    let whole : c.args.parts.now ≡ front.now ++ part.now ∷ behind.now =
    sym ((λ i. c.split_at.ensures.front i ++ (sym c.in-Some-split_first.ensures.cases.0 ∙ c.split_at.ensures.back) i) ∙ take-append-drop c.in-Some.place c.args.parts.now) in
    let first = c.in-Some.ensures.is front.now behind.now part.now whole c.split_at.ensures.front_len in
    comes_to c.first-2.result c.first-2.new.tasks (each_split_plan part front c.in-Some.place behind) c.args.tasks.now c.args.at.now _
    (own_each_split c.args.at.now c.args.parts front behind part c.in-Some.place whole c.split_at.ensures.front_len first.0 first.1) c.first-2.ensures.ok
