-- The layout of a member and its row, form by form.
use Rattle.std.proofs.Common.{◌≡◌, ℕ, true, List, [], ◌∷◌, map, ap, sym, ◌∙◌, append_assoc, append-nil}
use Rattle.std.proofs.lemmas.Grind.{common_steps}
use Rattle.c_tree.specs.declared.tree.CType.{CType}
use Rattle.c_tree.specs.declared.tree.CMember.{CMember, roll-CMember, map-CMember, fold-roll-CMember, out-roll-CMember}
use Rattle.c_tree.specs.declared.tree.CMember.TheOpen.{CMember-F}
use Rattle.c_tree.specs.declared.tree.CMember.TheVariants as member
use Rattle.c_sizes.specs.declared.layout.Layout.{Layout}
use Rattle.c_sizes.specs.Layout.{Types, empty, type_layout, array, struct_layout, union_of, lay_member, member_layout}
use Rattle.c_sizes.specs.Memory.{row_of, struct_row, member_row}

layout_form : (types : Types) (m : CMember) (x : CMember-F CMember) → roll-CMember x ≡ m
    → member_layout types m ≡ lay_member types (map-CMember CMember Layout (member_layout types) x)
layout_form types m x is = ap (member_layout types) (sym is) ∙ fold-roll-CMember Layout (lay_member types) x

pub layout_of_comment : (types : Types) (text : List ℕ) → member_layout types (member.Comment text) ≡ empty
layout_of_comment types text = layout_form types _ (CMember-F.Comment text) (member.rolls-Comment text)

pub layout_of_plain : (types : Types) (type : CType) (name : List ℕ) → member_layout types (member.Plain type name) ≡ type_layout types type
layout_of_plain types type name = layout_form types _ (CMember-F.Plain type name) (member.rolls-Plain type name)

pub layout_of_array : (types : Types) (type : CType) (name : List ℕ) (count : ℕ)
    → member_layout types (member.Array type name count) ≡ array count (type_layout types type)
layout_of_array types type name count = layout_form types _ (CMember-F.Array type name count) (member.rolls-Array type name count)

pub layout_of_struct : (types : Types) (members : List CMember) (name : List ℕ)
    → member_layout types (member.Struct members name) ≡ struct_layout types members
layout_of_struct types members name = layout_form types _ (CMember-F.Struct members name) (member.rolls-Struct members name)

pub layout_of_union : (types : Types) (members : List CMember) (name : List ℕ)
    → member_layout types (member.Union members name) ≡ union_of (map (member_layout types) members)
layout_of_union types members name = layout_form types _ (CMember-F.Union members name) (member.rolls-Union members name)

row_form : (types : Types) (m : CMember) (x : CMember-F CMember) → roll-CMember x ≡ m → member_row types m ≡ struct_row types x
row_form types m x is = ap (member_row types) (sym is) ∙ ap (struct_row types) (out-roll-CMember x)

pub row_of_comment : (types : Types) (text : List ℕ) → member_row types (member.Comment text) ≡ []
row_of_comment types text = row_form types _ (CMember-F.Comment text) (member.rolls-Comment text)

pub row_of_plain : (types : Types) (type : CType) (name : List ℕ) → member_row types (member.Plain type name) ≡ []
row_of_plain types type name = row_form types _ (CMember-F.Plain type name) (member.rolls-Plain type name)

pub row_of_array : (types : Types) (type : CType) (name : List ℕ) (count : ℕ) → member_row types (member.Array type name count) ≡ []
row_of_array types type name count = row_form types _ (CMember-F.Array type name count) (member.rolls-Array type name count)

pub row_of_struct : (types : Types) (members : List CMember) (name : List ℕ)
    → member_row types (member.Struct members name) ≡ row_of name true (struct_layout types members).size ∷ []
row_of_struct types members name = row_form types _ (CMember-F.Struct members name) (member.rolls-Struct members name)

pub row_of_union : (types : Types) (members : List CMember) (name : List ℕ) → member_row types (member.Union members name) ≡ []
row_of_union types members name = row_form types _ (CMember-F.Union members name) (member.rolls-Union members name)

pub ruleset member_forms = (common_steps, layout_of_comment, layout_of_plain, layout_of_array, layout_of_struct, layout_of_union)

pub ruleset row_forms = (common_steps, append_assoc, append-nil, row_of_comment, row_of_plain, row_of_array, row_of_struct, row_of_union)
