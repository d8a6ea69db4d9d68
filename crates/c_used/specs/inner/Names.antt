-- Sets of names, as lists in which each name stands once.
use Rattle.std.specs.Prelude.{ℕ, Bool, List, [], ◌∷◌, ◌++◌, if◌then◌else◌}
use Rattle.std.specs.List.{list_any}
use Rattle.std.specs.Str.{bytes_eq}
use Rattle.c_tree.specs.declared.tree.CExp.{CExp}
use Rattle.c_tree.specs.declared.tree.CStm.{CStm}
use Rattle.c_used.specs.Uses.{Name, exp_uses, statements_use}
use Rattle.c_used.specs.Kept.{is_among}

abbrev pub with_name : List Name → Name → List Name
with_name names one = if is_among names one then names else names ++ one ∷ []

-- the set with more names
abbrev pub with_names : List Name → List Name → List Name
with_names names [] = names
with_names names (one ∷ more) = with_names (with_name names one) more

-- a test or a constant, with its statements
abbrev pub tree_arm_uses : (CExp × List CStm) → List Name
tree_arm_uses arm = exp_uses arm.0 ++ statements_use arm.1
