-- The super step of a box: all pending outputs go onto their wires, or none where one of them has no room. Where each result gives all outputs,
-- either all are pending or none.
use Rattle.std.specs.Prelude.{ℕ, Bool, true, false, List, [], ◌∷◌, ◌++◌, Option, Some, None, codes, length}
use Rattle.hume_model.specs.declared.core_tree.BoxC.{BoxC}
use Rattle.hume_model.specs.declared.core_tree.Core.{Core}
use Rattle.c_tree.specs.declared.tree.COp.TheVariants as op
use Rattle.c_tree.specs.declared.tree.CExp.{CExp}
use Rattle.c_tree.specs.declared.tree.CExp.TheVariants as exp
use Rattle.c_tree.specs.declared.tree.CStm.{CStm}
use Rattle.c_tree.specs.declared.tree.CStm.TheVariants as stm
use Rattle.c_tree.specs.declared.tree.Linkage.TheVariants.{Static}
use Rattle.c_tree.specs.declared.tree.CHead.{CHead}
use Rattle.c_tree.specs.declared.tree.CItem.{CItem}
use Rattle.c_tree.specs.declared.tree.CItem.TheVariants as item
use Rattle.c_names.specs.declared.names.Names.{Names}
use Rattle.c_names.specs.Names.{inner}
use Rattle.c_forms.specs.Statements.{one_if}
use Rattle.c_nets.specs.declared.inlets.Inlet.{Inlet}
use Rattle.c_nets.specs.Inlets.{no_room, number, put_in}
use Rattle.c_nets.specs.Nets.{target_of}
use Rattle.c_nets.specs.Parts.{bit_of, each_below, mask_width, output_of, pending}

-- whether the output is pending
abbrev pub is_pending : Names → BoxC → ℕ → CExp
is_pending names b place =
    exp.Binary op.NotEqual (exp.Binary op.BitAnd (pending names b) (exp.Unsigned (mask_width b) (bit_of place))) (number 0)

-- the head of a static function without parameters or a result
abbrev pub plain_head : List ℕ → CHead
plain_head name = record { linkage = Static; result = None; name = name; parameters = [] }

-- a static function without parameters or a result
abbrev pub plain_function : List ℕ → List CStm → CItem
plain_function name body = item.Function (record { comment = None; head = plain_head name; body = body })

-- tests that are made only where an output is pending
abbrev pub tested_if_pending : Names → BoxC → Bool → ℕ → List CExp → List CExp
tested_if_pending names b true place tests = tests
tested_if_pending names b false place tests = exp.All (is_pending names b place ∷ tests) ∷ []

-- statements that are made only where an output is pending
abbrev pub made_if_pending : Names → BoxC → Bool → ℕ → List CStm → List CStm
made_if_pending names b true place body = body
made_if_pending names b false place body = one_if (is_pending names b place) body ∷ []

abbrev pub test_at : Names → BoxC → Bool → ℕ → Option Inlet → List CExp
test_at names b all place None = []
test_at names b all place (Some wire) = tested_if_pending names b all place (no_room wire ∷ [])

-- whether nothing is pending, or one of the pending outputs has no room
abbrev pub blocked : Core → Names → ℕ → BoxC → Bool → CExp
blocked core names node b all = exp.Any (exp.Binary op.Equal (pending names b) (number 0)
    ∷ each_below (λ place. test_at names b all place (target_of core names node place)) (length b.outs))

abbrev pub asserted_on : Names → BoxC → Bool → ℕ → Inlet → List CStm
asserted_on names b all place wire = made_if_pending names b all place (put_in wire (output_of names b place))

abbrev pub asserted_at : Names → BoxC → Bool → ℕ → Option Inlet → List CStm
asserted_at names b all place None = []
asserted_at names b all place (Some wire) = asserted_on names b all place wire

-- the pending outputs go onto their wires
abbrev pub asserted : Core → Names → ℕ → BoxC → Bool → List CStm
asserted core names node b all = each_below (λ place. asserted_at names b all place (target_of core names node place)) (length b.outs)

-- the function of the super step
abbrev pub super_function : Core → Names → ℕ → BoxC → Bool → CItem
super_function core names node b all = plain_function (inner names (codes "super_") b.name)
    (one_if (blocked core names node b all) (stm.Return None ∷ [])
    ∷ (asserted core names node b all ++ stm.Assign (pending names b) (number 0) ∷ []))
