use Rattle.std.proofs.Common.{◌≡◌, ℕ, suc, List, ◌∷◌, ◌++◌, [], ◌<◌, ◌+◌, ◌-◌, length, sym, ap, ◌∙◌, reverse, take, drop, arith, get_or}
use Rattle.std.proofs.lemmas.List.{take-append-drop, length-drop}
use Rattle.std.proofs.Math.Seq.{drop-cons}
use Rattle.check_cores.specs.Stacks.{lifted}
use Rattle.check_cores.proofs.Stacked.{item_lifted}
use Rattle.check_cores.proofs.stack.Stack.lift.Goals as goal

pub returns : goal.returns
returns g c =
    let all = c.self.inside.items.items in
    let at = c.len-2.result - 1 - c.args.others in
    let first_length = c.len.ensures in
    let second_length = c.len-2.ensures in
    let x = c.remove-item.result in
    let front = take at all in
    let behind = drop (suc at) all in
    let few = c.if-others-len.false in
    let within : at < length all = omega arith in
    let long : length behind ≡ c.args.others = length-drop (suc at) all ∙ omega arith in
    let whole : front ++ x ∷ behind ≡ all =
    ap (λ l. front ++ l) (ap (λ y. y ∷ behind) c.remove-item.ensures.value ∙ sym (drop-cons all at x within)) ∙ take-append-drop at all in
    ap reverse (c.in_ok-push.ensures.items ∙ ap (λ l. l ++ x ∷ []) c.remove-item.ensures.items)
    ∙ item_lifted front behind x c.args.others long ∙ ap (λ l. lifted c.args.others (reverse l)) whole ∙ ap (lifted c.args.others) c.self.view_is
