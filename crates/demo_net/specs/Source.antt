-- The source of the net of `demo`: ten chains, each of a box that counts, 19 boxes behind it and an output stream.
use Rattle.std.specs.Prelude.{ℕ, ◌+◌, ◌-◌, ◌*◌, ◌%◌, ◌==◌, List, ◌++◌, codes, decimal, if◌then◌else◌}
use Rattle.std.specs.List.{flat_map, range_with_len}
use Rattle.demo_net.specs.declared.source.TheConstants.{BOXES_BEHIND, CHAINS}

-- what the boxes of all chains use
abbrev pub declarations : List ℕ
declarations = codes "data Pair = P int 64 int 64 ;\nless :: int 64 -> int 64 -> int 64 ;\nless a b = a - b ;\n"

-- the name of the box at a place of a chain; at place 0 stands its head
abbrev pub box_name : ℕ → ℕ → List ℕ
box_name chain place = if place == 0 then codes "h" ++ decimal chain else codes "b" ++ decimal chain ++ codes "_" ++ decimal place

-- The head counts from 0: its state goes back to it, one greater.
abbrev pub head_lines : ℕ → List ℕ
head_lines chain =
    codes "box h" ++ decimal chain ++ codes " in (n :: int 64) out (m :: int 64, y :: int 64) match (n) -> (n + 1, n) ;\n"
    ++ codes "wire h" ++ decimal chain ++ codes ".m to h" ++ decimal chain ++ codes ".n initial 0 ;\n"

-- what the box at a place makes of its input `x` and its state `s`: a sum or a difference, in one of four ways
abbrev pub output : ℕ → List ℕ
output place =
    if place % 4 == 0 then codes "x + s"
    else (if place % 4 == 1 then codes "less x s"
    else (if place % 4 == 2 then codes "case P s x of P a b -> a + b end"
    else codes "x - <<s, 0>> @ 1"))

-- by how much its state grows
abbrev pub growth : ℕ → List ℕ
growth place = if place % 2 == 0 then codes "1" else codes "2"

-- the box at a place of a chain
abbrev pub box_line : ℕ → ℕ → List ℕ
box_line chain place =
    codes "box " ++ box_name chain place ++ codes " in (x :: int 64, s :: int 64) out (y :: int 64, r :: int 64) match (x, s) -> ("
    ++ output place ++ codes ", s + " ++ growth place ++ codes ") ;\n"

-- its input comes from the box before it
abbrev pub input_line : ℕ → ℕ → List ℕ
input_line chain place = codes "wire " ++ box_name chain (place - 1) ++ codes ".y to " ++ box_name chain place ++ codes ".x ;\n"

-- its state goes back to it
abbrev pub state_line : ℕ → ℕ → ℕ → List ℕ
state_line chain place initial =
    codes "wire " ++ box_name chain place ++ codes ".r to " ++ box_name chain place ++ codes ".s initial " ++ decimal initial ++ codes " ;\n"

-- the box and its wires, in the net for a number
abbrev pub box_lines : ℕ → ℕ → ℕ → List ℕ
box_lines number chain place = box_line chain place ++ input_line chain place ++ state_line chain place (number + 31 * chain + 17 * place)

-- all boxes of a chain behind its head
unfoldable pub boxes_behind : ℕ → ℕ → List ℕ
boxes_behind number chain = flat_map (box_lines number chain) (range_with_len 1 BOXES_BEHIND)

-- the stream at the end of a chain
abbrev pub end_lines : ℕ → List ℕ
end_lines chain =
    codes "stream c" ++ decimal chain ++ codes " to \"c" ++ decimal chain ++ codes "\" ;\n"
    ++ codes "wire b" ++ decimal chain ++ codes "_19.y to c" ++ decimal chain ++ codes " ;\n"

-- a chain
abbrev pub chain_text : ℕ → ℕ → List ℕ
chain_text number chain = head_lines chain ++ boxes_behind number chain ++ end_lines chain

-- all chains
unfoldable pub chains : ℕ → List ℕ
chains number = flat_map (chain_text number) (range_with_len 0 CHAINS)

-- the source of the net for a number
abbrev pub demo_text : ℕ → List ℕ
demo_text number = declarations ++ chains number
