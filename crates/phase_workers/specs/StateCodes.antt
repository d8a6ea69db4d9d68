-- How the logic stores a state.
use Rattle.std.specs.Coded.{Coded}
use Rattle.hume_net.specs.declared.state.State.{State}
use Rattle.hume_net.specs.contracts.state.State as state_type

abbrev pub state_code : Coded State
state_code = state_type.the_row.coded
