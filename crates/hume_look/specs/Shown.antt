-- What is shown of a source.
use Rattle.std.specs.Prelude.{◌≡◌, ℕ, List, [], ◌∷◌, ◌++◌, true, false, codes, decimal}
use Rattle.hume_base.specs.declared.rule.Refusal.{Refusal}
use Rattle.hume_base.specs.Rules.{code_of}
use Rattle.hume_front.specs.declared.acceptance.Accepted.{Accepted}
use Rattle.hume_front.specs.Accepted.{IsAccepted, Breaks}
use Rattle.hume_look.specs.declared.looking.Shown.{Shown}
use Rattle.hume_look.specs.declared.looking.Word.{Word}
use Rattle.hume_look.specs.declared.looking.Word.TheVariants.{Why, Bounds, Net, Hints}

-- the line of `hume check`: refused CODE line LINE
abbrev pub refused_line : Refusal → List ℕ
refused_line refusal = codes "refused " ++ decimal (code_of refusal.rule) ++ codes " line " ++ decimal refusal.line ++ 10 ∷ []

-- what is shown of an accepted source: of why it is refused, that it isn't
abbrev pub TellsAccepted : Word → List ℕ → List ℕ → Type 0
TellsAccepted Why name text = text ≡ name ++ codes ": accepted\n"
TellsAccepted _ name text = Unit {0}

-- what is shown of a refused source: of its bounds the line of `hume check` first, and of its net and its hints that line alone
abbrev pub TellsRefused : Word → Refusal → List ℕ → Type 0
TellsRefused Why refusal text = Unit {0}
TellsRefused Bounds refusal text = (more : List ℕ) × (text ≡ refused_line refusal ++ more)
TellsRefused Net refusal text = text ≡ refused_line refusal
TellsRefused Hints refusal text = text ≡ refused_line refusal

-- the source is accepted
pub record IsShownAccepted (word : Word) (name source : List ℕ) (shown : Shown) : Type 0 where
  pub accepted : Accepted
  pub is : IsAccepted source accepted
  pub text : TellsAccepted word name shown.text.items

-- the source is refused for the least rule that it breaks
pub record IsShownRefused (word : Word) (source : List ℕ) (shown : Shown) : Type 0 where
  pub refusal : Refusal
  pub breaks : Breaks source refusal
  pub text : TellsRefused word refusal shown.text.items

-- It is said whether the source is accepted, and its text tells what the word asks.
pub record IsShown (word : Word) (name source : List ℕ) (shown : Shown) : Type 0 where
  pub accepted : shown.accepted ≡ true → IsShownAccepted word name source shown
  pub refused : shown.accepted ≡ false → IsShownRefused word source shown
