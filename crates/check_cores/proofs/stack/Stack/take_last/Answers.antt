use Rattle.std.proofs.Common.{◌≡◌, ◌++◌, length, sym, ap, ◌∙◌, reverse, take, drop, arith}
use Rattle.std.proofs.lemmas.List.{take-append-drop}
use Rattle.check_cores.proofs.Stacked.{last_taken, last_left}
use Rattle.check_cores.proofs.stack.Stack.take_last.Goals as goal

pub returns-clause-taken : goal.returns-clause-taken
returns-clause-taken g c =
    let all = c.self.inside.items.items in
    let a = c.split_off.new.self.items in
    let b = c.in_ok-items.items.items in
    let whole : all ≡ a ++ b = sym ((λ i. c.in_ok-items.ensures.items i ++ c.in_ok-items.ensures.tail i) ∙ take-append-drop _ all) in
    let tail = c.in_ok-items.ensures.tail_len in
    let fits = c.in_ok-items.items.ok in
    let long : length b ≡ c.args.count = omega arith in
    last_taken a b c.args.count long ∙ ap (λ l. reverse (take c.args.count l)) (ap reverse (sym whole) ∙ c.self.view_is)

pub returns-clause-left : goal.returns-clause-left
returns-clause-left g c =
    let all = c.self.inside.items.items in
    let a = c.split_off.new.self.items in
    let b = c.in_ok-items.items.items in
    let whole : all ≡ a ++ b = sym ((λ i. c.in_ok-items.ensures.items i ++ c.in_ok-items.ensures.tail i) ∙ take-append-drop _ all) in
    let tail = c.in_ok-items.ensures.tail_len in
    let fits = c.in_ok-items.items.ok in
    let long : length b ≡ c.args.count = omega arith in
    last_left a b c.args.count long ∙ ap (drop c.args.count) (ap reverse (sym whole) ∙ c.self.view_is)
