use Rattle.std.proofs.Common.{◌≡◌, drop}
use Rattle.std.specs.List.{flat_map}
use Rattle.hume_base.specs.declared.types.ConDef.{ConDef}
use Rattle.c_types.specs.Gathered.{made_of, with_each, with_fields}
use Rattle.c_types.proofs.gathered.add_fields.Given as goal

abbrev pub invariant-loop-con : goal.invariant-loop-con
invariant-loop-con l =
    with_each l.tys (flat_map (λ (con : ConDef). flat_map made_of con.fields) (drop l.con-index l.con-items)) ≡ with_fields l.initial.tys l.sum
