use Rattle.std.proofs.Common.{◌≡◌, drop, map}
use Rattle.check_tables.specs.names.Names.{among}
use Rattle.check_names.proofs.name_list.is_one_of.Given as goal

abbrev pub invariant-loop-other : goal.invariant-loop-other
invariant-loop-other l = among l.name (map (λ other. other.now) (drop l.other-index l.names)) ≡ among l.name (map (λ other. other.now) l.names)
