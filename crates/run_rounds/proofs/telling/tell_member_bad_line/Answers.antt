use Rattle.std.proofs.Common.{◌≡◌, ℕ, suc, ◌+◌, ◌++◌, ◌∙◌, ap, arith}
use Rattle.hume_text.specs.Chunks.{bytes_in}
use Rattle.run_rounds.specs.Members.{member_bad_line, members_before, views}
use Rattle.run_rounds.proofs.Tellings.{line_told}
use Rattle.run_rounds.proofs.telling.tell_member_bad_line.Goals as goal

pub returns-clause-ends : goal.returns-clause-ends
returns-clause-ends g c =
    let before : ℕ = members_before (views c.args.members.now) c.args.bad.node in
    let next : before + 1 ≡ suc before = omega arith in
    let number : c.members_before-number.result + 1 ≡ suc before = ap (λ k. k + 1) c.members_before-number.ensures.before ∙ next in
    line_told _ _ _ _ _ _ (c.put_member_bad_line.ensures.line
    ∙ ap (λ k. bytes_in c.clear.new.self ++ member_bad_line k c.stream_name.result.now c.args.bad.line) number
    ∙ ap (λ name. bytes_in c.clear.new.self ++ member_bad_line (suc before) name c.args.bad.line) c.stream_name.ensures) c.clear.ensures.bytes c.tell.ensures.ends
