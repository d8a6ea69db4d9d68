-- Which names members and declarations use, form by form.
use Rattle.std.proofs.Common.{◌≡◌, ℕ, List, [], ap, sym, ◌∙◌, append_assoc}
use Rattle.std.proofs.lemmas.Grind.{common_steps}
use Rattle.c_tree.specs.declared.tree.CType.{CType}
use Rattle.c_tree.specs.declared.tree.CMember.{CMember, roll-CMember, map-CMember, fold-roll-CMember}
use Rattle.c_tree.specs.declared.tree.CMember.TheOpen.{CMember-F}
use Rattle.c_tree.specs.declared.tree.CMember.TheVariants as member
use Rattle.c_used.specs.Uses.{Name, member_step, member_uses, members_use, type_uses}
use Rattle.c_used.proofs.Sets.{more_names}

form : (m : CMember) (x : CMember-F CMember) → roll-CMember x ≡ m → member_uses m ≡ member_step (map-CMember CMember (List Name) member_uses x)
form m x is = ap member_uses (sym is) ∙ fold-roll-CMember (List Name) member_step x

pub uses_comment : (text : List ℕ) → member_uses (member.Comment text) ≡ []
uses_comment text = form _ (CMember-F.Comment text) (member.rolls-Comment text)

pub uses_plain : (type : CType) (name : Name) → member_uses (member.Plain type name) ≡ type_uses type
uses_plain type name = form _ (CMember-F.Plain type name) (member.rolls-Plain type name)

pub uses_array : (type : CType) (name : Name) (count : ℕ) → member_uses (member.Array type name count) ≡ type_uses type
uses_array type name count = form _ (CMember-F.Array type name count) (member.rolls-Array type name count)

pub uses_struct : (members : List CMember) (name : Name) → member_uses (member.Struct members name) ≡ members_use members
uses_struct members name = form _ (CMember-F.Struct members name) (member.rolls-Struct members name)

pub uses_union : (members : List CMember) (name : Name) → member_uses (member.Union members name) ≡ members_use members
uses_union members name = form _ (CMember-F.Union members name) (member.rolls-Union members name)

pub ruleset item_forms = (
  common_steps,
  append_assoc,
  more_names,
  uses_comment,
  uses_plain,
  uses_array,
  uses_struct,
  uses_union,
)
