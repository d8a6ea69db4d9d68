use Rattle.std.proofs.Common.{ℕ, List, map, take, ap, sym, ◌∙◌}
use Rattle.std.proofs.lemmas.List.{take-map}
use denote.Ref.{Bor}
use Rattle.check_scopes.proofs.types.variables.Variables.leave.Goals as goal

abbrev shown : Bor (List ℕ) × ℕ → List ℕ × ℕ
shown v = (v.0.now, v.1)

pub returns : goal.returns
returns c = ap (map shown) c.truncate.ensures.items ∙ sym (take-map shown c.args.count c.self.inside.entries.items) ∙ ap (take c.args.count) c.self.view_is
