-- What writes several values.
use Rattle.std.specs.Prelude.{ℕ, List, map}
use Rattle.hume_base.specs.declared.types.Value.{Value}
use Rattle.c_tree.specs.declared.tree.CExp.{CExp}
use Rattle.c_tree.specs.declared.tree.CStm.{CStm}
use Rattle.c_types.specs.Shapes.{Form}
use Rattle.c_types.specs.Gathered.{Gathered}
use Rattle.c_nets.specs.Values.{Writes, constructor_written, writes}

-- what writes each of several values
abbrev pub all_write : Gathered → List Value → List Writes
all_write all values = map (writes all) values

-- the same of a constructor and its fields
abbrev pub constructor_by : Gathered → CExp → ℕ → List Value → Form → List CStm
constructor_by all object place fields form = constructor_written all.names object place (all_write all fields) form
