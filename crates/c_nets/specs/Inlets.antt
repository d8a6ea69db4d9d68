-- A wire at its input. One that holds one value is a struct of the value, `v`, and of whether it is there, `full`. One that holds more is a
-- ring: its values `v`, the place `head` of the oldest, and the number `count` of those that are there.
use Rattle.std.specs.Prelude.{ℕ, ◌-◌, ◌==◌, Bool, true, false, List, [], ◌∷◌, ◌++◌, codes, if◌then◌else◌}
use Rattle.c_tree.specs.declared.tree.Width.TheVariants.{W8}
use Rattle.c_tree.specs.declared.tree.CType.{CType}
use Rattle.c_tree.specs.declared.tree.CType.TheVariants as ctype
use Rattle.c_tree.specs.declared.tree.COp.TheVariants as op
use Rattle.c_tree.specs.declared.tree.CExp.{CExp}
use Rattle.c_tree.specs.declared.tree.CExp.TheVariants as exp
use Rattle.c_tree.specs.declared.tree.CStm.{CStm}
use Rattle.c_tree.specs.declared.tree.CStm.TheVariants as stm
use Rattle.c_tree.specs.declared.tree.CMember.{CMember}
use Rattle.c_tree.specs.declared.tree.CMember.TheVariants as member
use Rattle.c_forms.specs.Expressions.{numbered}
use Rattle.c_forms.specs.Statements.{one_if, variable}
use Rattle.c_nets.specs.declared.inlets.Inlet.{Inlet}

abbrev pub byte : CType
byte = ctype.Unsigned W8

-- a number of at most 8 bits
abbrev pub number : ℕ → CExp
number amount = exp.Unsigned W8 amount

-- whether a wire of that depth holds one value at most
abbrev pub holds_one : ℕ → Bool
holds_one depth = depth == 1

-- what says which values are there
abbrev pub state_members : ℕ → List CMember
state_members depth =
    if holds_one depth then member.Plain ctype.Bool (codes "full") ∷ []
    else member.Plain byte (codes "head") ∷ member.Plain byte (codes "count") ∷ []

abbrev pub value_member : CType → ℕ → CMember
value_member type depth = if holds_one depth then member.Plain type (codes "v") else member.Array type (codes "v") depth

abbrev pub inlet_members : CType → ℕ → List CMember
inlet_members type depth = state_members depth ++ value_member type depth ∷ []

abbrev pub full : Inlet → CExp
full inlet = exp.Member inlet.object (codes "full")

abbrev pub head : Inlet → CExp
head inlet = exp.Member inlet.object (codes "head")

abbrev pub count : Inlet → CExp
count inlet = exp.Member inlet.object (codes "count")

abbrev pub values : Inlet → CExp
values inlet = exp.Member inlet.object (codes "v")

-- whether a value is on the wire
abbrev pub is_there : Inlet → CExp
is_there inlet = if holds_one inlet.depth then full inlet else exp.Binary op.NotEqual (count inlet) (number 0)

-- whether the wire has no room
abbrev pub no_room : Inlet → CExp
no_room inlet = if holds_one inlet.depth then full inlet else exp.Binary op.Equal (count inlet) (number inlet.depth)

-- the value of a ring at a place
abbrev pub value_at : Inlet → CExp → CExp
value_at inlet place = exp.Element (values inlet) place

-- the oldest value
abbrev pub oldest : Inlet → CExp
oldest inlet = if holds_one inlet.depth then values inlet else value_at inlet (head inlet)

-- the place behind the newest value of a ring
abbrev pub place_behind : Inlet → CExp
place_behind inlet = exp.Binary op.Remainder (exp.Cast byte (exp.Binary op.Add (head inlet) (count inlet))) (number inlet.depth)

-- where the next value goes
abbrev pub next_value : Inlet → CExp
next_value inlet = if holds_one inlet.depth then values inlet else value_at inlet (place_behind inlet)

-- where the first value goes
abbrev pub first_value : Inlet → CExp
first_value inlet = if holds_one inlet.depth then values inlet else value_at inlet (number 0)

-- there is one value more
abbrev pub grown : Inlet → CStm
grown inlet = if holds_one inlet.depth then stm.Assign (full inlet) (exp.Truth true) else stm.Increment (count inlet)

-- a value goes onto the wire, where it has room
abbrev pub put_in : Inlet → CExp → List CStm
put_in inlet value = stm.Assign (next_value inlet) value ∷ grown inlet ∷ []

-- the oldest place is the first one
abbrev pub at_first : Inlet → CStm
at_first inlet = stm.Assign (head inlet) (number 0)

-- whether it is the last one
abbrev pub is_last : Inlet → CExp
is_last inlet = exp.Binary op.Equal (head inlet) (number (inlet.depth - 1))

-- it is the next one, and behind the last the first one
abbrev pub head_moved : Inlet → CStm
head_moved inlet = stm.If (is_last inlet) (at_first inlet ∷ []) [] (stm.Increment (head inlet) ∷ [])

-- the oldest value leaves the wire
abbrev pub take_out : Inlet → List CStm
take_out inlet =
    if holds_one inlet.depth then stm.Assign (full inlet) (exp.Truth false) ∷ [] else head_moved inlet ∷ stm.Decrement (count inlet) ∷ []

abbrev pub how_many : Bool → CExp
how_many true = number 1
how_many false = number 0

-- the wire is made empty, or as one with the first value, which is still to be written
abbrev pub started : Inlet → Bool → List CStm
started inlet there =
    if holds_one inlet.depth then stm.Assign (full inlet) (exp.Truth there) ∷ []
    else at_first inlet ∷ stm.Assign (count inlet) (how_many there) ∷ []

-- a variable of a function, by its number
abbrev pub named : ℕ → List ℕ
named number = numbered (codes "v") number

-- there is one value more where the test holds
abbrev pub grown_if : Inlet → CExp → CStm
grown_if inlet test = one_if test (grown inlet ∷ [])

abbrev pub noted_in_ring : Inlet → CExp → ℕ → List CStm
noted_in_ring inlet hook next = stm.Define (variable true ctype.Bool (named next)) hook ∷ grown_if inlet (exp.Name (named next)) ∷ []

-- A hook has written the next value, if it gives true, and this is noted. For a ring it takes a variable of the number.
abbrev pub noted : Inlet → CExp → ℕ → List CStm
noted inlet hook next = if holds_one inlet.depth then stm.Assign (full inlet) hook ∷ [] else noted_in_ring inlet hook next
