use Rattle.std.proofs.Common.{ℕ, List, map, take, ap, sym, ◌∙◌}
use Rattle.std.proofs.lemmas.List.{take-map}
use denote.Ref.{Bor}
use Rattle.check_names.proofs.name_list.NameList.leave.Goals as goal

pub returns : goal.returns
returns c =
    ap (map (λ (name : Bor (List ℕ)). name.now)) c.truncate.ensures.items ∙ sym (take-map (λ (name : Bor (List ℕ)). name.now) c.args.count c.self.inside.names.items) ∙ ap (take c.args.count) c.self.view_is
