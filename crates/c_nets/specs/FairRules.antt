-- The order of the rules of a fair box: the rule that fired goes behind the others.
use Rattle.std.specs.Prelude.{ℕ, ◌-◌, List, [], ◌∷◌, codes, length}
use Rattle.hume_model.specs.declared.core_tree.BoxC.{BoxC}
use Rattle.c_tree.specs.declared.tree.COp.TheVariants as op
use Rattle.c_tree.specs.declared.tree.CExp.{CExp}
use Rattle.c_tree.specs.declared.tree.CExp.TheVariants as exp
use Rattle.c_tree.specs.declared.tree.CCount.{CCount}
use Rattle.c_tree.specs.declared.tree.CStm.{CStm}
use Rattle.c_tree.specs.declared.tree.CStm.TheVariants as stm
use Rattle.c_names.specs.declared.names.Names.{Names}
use Rattle.c_forms.specs.Statements.{one_if}
use Rattle.c_nets.specs.Inlets.{byte, number}
use Rattle.c_nets.specs.Parts.{each_below, part_of}

-- the number of the rule at a place of the order
abbrev pub ordered : Names → BoxC → CExp → CExp
ordered names b place = exp.Element (part_of names b (codes "order")) place

-- a variable of bytes that counts from 0 up to below a number
abbrev pub counted : List ℕ → ℕ → CCount
counted name limit = record { ty = byte; name = name; limit = number limit }

abbrev pub i : CExp
i = exp.Name (codes "i")

abbrev pub j : CExp
j = exp.Name (codes "j")

abbrev pub is_behind : CExp
is_behind = exp.Binary op.GreaterEqual j i

abbrev pub next_rule : Names → BoxC → CExp
next_rule names b = ordered names b (exp.Binary op.Add j (number 1))

-- the place `j` of the order gets the rule behind it
abbrev pub moved : Names → BoxC → List CStm
moved names b = stm.Assign (ordered names b j) (next_rule names b) ∷ []

-- each place from `i` on does
abbrev pub moved_up : Names → BoxC → CStm
moved_up names b = one_if is_behind (moved names b)

-- the rule at the place `i` of the order goes behind the others
abbrev pub moved_last : Names → BoxC → List CStm
moved_last names b = stm.For (counted (codes "j") (length b.rules - 1)) (moved_up names b ∷ [])
    ∷ stm.Assign (ordered names b (number (length b.rules - 1))) (exp.Name (codes "rule")) ∷ stm.Break ∷ []

abbrev pub first_place : Names → BoxC → ℕ → List CStm
first_place names b place = stm.Assign (ordered names b (number place)) (number place) ∷ []

-- at first the rules are in the order of the source
abbrev pub order_started : Names → BoxC → List CStm
order_started names b = each_below (first_place names b) (length b.rules)
