-- Which names of objects stand in the arms of a choice, as a tree has them.
use Rattle.std.specs.Prelude.{ℕ, ◌||◌, Bool, List, map}
use Rattle.c_tree.specs.declared.tree.CExp.{CExp}
use Rattle.c_tree.specs.declared.tree.CStm.{CStm}
use Rattle.c_forms.specs.Mentions.{one_holds, exp_mentions, mentions}

-- a test or a constant, with its statements
abbrev pub tree_arm_mentions : List ℕ → (CExp × List CStm) → Bool
tree_arm_mentions name arm = exp_mentions name arm.0 || mentions name arm.1

abbrev pub tree_arms_mention : List ℕ → List (CExp × List CStm) → Bool
tree_arms_mention name arms = one_holds (map (tree_arm_mentions name) arms)
