-- Which step the line of a script asks for: `swap BOX RULE`, `unfold BOX RULE` or `name BOX RULE FUNCTION`, with single spaces.
use Rattle.std.specs.Prelude.{ℕ, ◌-◌, ◌==◌, nat_le, ◌&&◌, Bool, false, List, [], ◌∷◌, length, Option, Some, None, if◌then◌else◌, true, codes, bytes_eq}
use Rattle.std.specs.List.{position, slice_split}
use Rattle.std.specs.Option.{option_and_then, option_map}
use Rattle.std.specs.Str.{all_ascii_digits}
use Rattle.std.specs.Str.Parse.{digits_value}
use Rattle.hume_model.specs.declared.core_tree.BoxC.{BoxC}
use Rattle.hume_model.specs.declared.core_tree.NodeC.{NodeC}
use Rattle.hume_model.specs.declared.core_tree.NodeC.TheVariants.{Rules, From, To}
use Rattle.hume_model.specs.declared.core_tree.Core.{Core}
use Rattle.calculus_laws.specs.declared.step.Step.{Step}
use Rattle.calculus_laws.specs.declared.step.Step.TheVariants.{Name, Swap, Unfold}
use Rattle.calculus_laws.specs.Boxes.{box_at}
use Rattle.box_calculus.specs.declared.lines.RulePlace.{RulePlace}

-- the byte that parts words
abbrev pub is_space : ℕ → Bool
is_space byte = byte == 32

-- the words of a line: what single spaces part
abbrev pub words_of : List ℕ → List (List ℕ)
words_of line = slice_split is_space line

-- one to nine decimal digits
abbrev pub is_number : List ℕ → Bool
is_number word = nat_le 1 (length word) && nat_le (length word) 9 && all_ascii_digits word

-- the number that a word writes, if it is one
abbrev pub number_of : List ℕ → Option ℕ
number_of word = if is_number word then Some (digits_value 10 word) else None

-- the node is a box of the name
abbrev pub is_box_named : List ℕ → NodeC → Bool
is_box_named name (Rules b) = bytes_eq b.name name
is_box_named name (From stream) = false
is_box_named name (To stream) = false

-- the number of the box of the name, if there is one
abbrev pub box_number : Core → List ℕ → Option ℕ
box_number core name = position (is_box_named name) core.nodes

-- how many rules a box has
abbrev pub rules_of : Option BoxC → ℕ
rules_of None = 0
rules_of (Some b) = length b.rules

-- a rule that the line counts from 1 is counted from 0, if there is one
abbrev pub rule_within : ℕ → Option ℕ → Option ℕ
rule_within count None = None
rule_within count (Some number) = if nat_le 1 number && nat_le number count then Some (number - 1) else None

-- the rule of the number of a box
abbrev pub rule_in : Core → List ℕ → ℕ → Option RulePlace
rule_in core word node = option_map (λ rule. record { node = node; rule = rule }) (rule_within (rules_of (box_at core node)) (number_of word))

-- the rule that two words mean, the name of a box and the number of a rule
abbrev pub rule_place : Core → List ℕ → List ℕ → Option RulePlace
rule_place core name word = option_and_then (rule_in core word) (box_number core name)

-- the step of a verb on a rule
abbrev pub step_on_rule : List ℕ → RulePlace → Option Step
step_on_rule verb at =
    if bytes_eq verb (codes "swap") then Some (Swap at.node at.rule)
    else if bytes_eq verb (codes "unfold") then Some (Unfold at.node at.rule)
    else None

-- the step that a line of three words asks for
abbrev pub on_rule_of : Core → List ℕ → List ℕ → List ℕ → Option Step
on_rule_of core verb name word = option_and_then (step_on_rule verb) (rule_place core name word)

-- the word has a byte
abbrev pub has_bytes : List ℕ → Bool
has_bytes [] = false
has_bytes (byte ∷ bytes) = true

-- the step that a line of four words asks for, of which the last is not empty
abbrev pub name_of : Core → List ℕ → List ℕ → List ℕ → List ℕ → Option Step
name_of core verb name word function =
    if bytes_eq verb (codes "name") && has_bytes function
    then option_map (λ (at : RulePlace). Name at.node at.rule function) (rule_place core name word)
    else None

-- the step that the words ask for, if they have a form
abbrev pub step_of_words : Core → List (List ℕ) → Option Step
step_of_words core (verb ∷ name ∷ word ∷ []) = on_rule_of core verb name word
step_of_words core (verb ∷ name ∷ word ∷ function ∷ []) = name_of core verb name word function
step_of_words core _ = None

-- the step that a line asks for
abbrev pub step_of : Core → List ℕ → Option Step
step_of core line = step_of_words core (words_of line)
