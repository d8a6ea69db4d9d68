use Rattle.std.proofs.Common.{◌≡◌, ◌++◌, length, sym, ap, ◌∙◌, reverse, take, drop, arith}
use Rattle.std.proofs.lemmas.List.{take-append-drop}
use Rattle.check_scopes.proofs.types_lemmas.Held.{last_taken, last_left}
use Rattle.check_scopes.proofs.types.stack.NumberStack.take_last.Goals as goal

pub returns-clause-taken : goal.returns-clause-taken
returns-clause-taken c =
    let all = c.self.inside.numbers.items in
    let a = c.split_off.new.self.items in
    let b = c.in_ok-numbers.numbers.items in
    let whole : all ≡ a ++ b = sym ((λ i. c.in_ok-numbers.ensures.items i ++ c.in_ok-numbers.ensures.tail i) ∙ take-append-drop _ all) in
    let tail = c.in_ok-numbers.ensures.tail_len in
    let fits = c.in_ok-numbers.numbers.ok in
    let long : length b ≡ c.args.count = omega arith in
    last_taken a b c.args.count long ∙ ap (λ l. reverse (take c.args.count l)) (ap reverse (sym whole) ∙ c.self.view_is)

pub returns-clause-left : goal.returns-clause-left
returns-clause-left c =
    let all = c.self.inside.numbers.items in
    let a = c.split_off.new.self.items in
    let b = c.in_ok-numbers.numbers.items in
    let whole : all ≡ a ++ b = sym ((λ i. c.in_ok-numbers.ensures.items i ++ c.in_ok-numbers.ensures.tail i) ∙ take-append-drop _ all) in
    let tail = c.in_ok-numbers.ensures.tail_len in
    let fits = c.in_ok-numbers.numbers.ok in
    let long : length b ≡ c.args.count = omega arith in
    last_left a b c.args.count long ∙ ap (drop c.args.count) (ap reverse (sym whole) ∙ c.self.view_is)
