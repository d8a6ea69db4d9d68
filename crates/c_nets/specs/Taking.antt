-- What a box does around its rules: it waits for room, what a rule takes leaves its wires, and exceptions are handled.
use Rattle.std.specs.Prelude.{ℕ, ◌+◌, List, [], ◌∷◌, ◌++◌, Option, Some, None, codes, if◌then◌else◌}
use Rattle.hume_model.specs.declared.core_tree.BoxC.{BoxC}
use Rattle.hume_model.specs.declared.core_tree.Core.{Core}
use Rattle.hume_model.specs.declared.core_tree.InPat.{InPat}
use Rattle.hume_model.specs.declared.core_tree.InPat.TheVariants as position
use Rattle.c_tree.specs.declared.tree.COp.TheVariants as op
use Rattle.c_tree.specs.declared.tree.CExp.{CExp}
use Rattle.c_tree.specs.declared.tree.CExp.TheVariants as exp
use Rattle.c_tree.specs.declared.tree.CStm.{CStm}
use Rattle.c_tree.specs.declared.tree.CStm.TheVariants as stm
use Rattle.c_names.specs.declared.names.Names.{Names}
use Rattle.c_names.specs.Names.{inner}
use Rattle.c_forms.specs.Statements.{one_if}
use Rattle.c_nets.specs.declared.inlets.Inlet.{Inlet}
use Rattle.c_nets.specs.Inlets.{holds_one, is_there, number, take_out}
use Rattle.c_nets.specs.Nets.{input_at}
use Rattle.c_nets.specs.Parts.{pending}

-- what a position of a rule takes from its wire
abbrev pub taken : Inlet → InPat → List CStm
taken inlet position.Star = []
taken inlet position.AnyStar = if holds_one inlet.depth then take_out inlet else one_if (is_there inlet) (take_out inlet) ∷ []
taken inlet position.Any = take_out inlet
taken inlet (position.Built pattern) = take_out inlet

abbrev pub taken_at : Option Inlet → InPat → List CStm
taken_at None it = []
taken_at (Some inlet) it = taken inlet it

-- what the positions from a place on take
abbrev pub taken_from : Core → Names → ℕ → BoxC → ℕ → List InPat → List CStm
taken_from core names node b place [] = []
taken_from core names node b place (it ∷ others) =
    taken_at (input_at core names node b place) it ++ taken_from core names node b (place + 1) others

abbrev pub waited : List CStm
waited = stm.Comment (codes "outputs wait for room") ∷ stm.Return None ∷ []

-- a box whose outputs wait for room does nothing
abbrev pub wait : Names → BoxC → CStm
wait names b = one_if (exp.Binary op.NotEqual (pending names b) (number 0)) waited

abbrev pub handler_called : Names → BoxC → CExp → List CStm
handler_called names b status = stm.Call (inner names (codes "handle_") b.name) (status ∷ []) ∷ []

-- an exception that a rule has raised is handled
abbrev pub handled : Names → BoxC → CExp → CStm
handled names b status = one_if (exp.Binary op.NotEqual status (number 0)) (handler_called names b status)
