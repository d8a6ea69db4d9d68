-- What a page shows in the end.
use Rattle.std.proofs.Common.{◌≡◌, ℕ, Bool, List, [], ◌∷◌, ◌++◌, codes, true, false, map, string_bytes, String, sym, ◌∙◌, ap, append-nil}
use Rattle.std.proofs.lemmas.Grind.{common_steps}
use Rattle.hume_base.specs.declared.rule.Refusal.{Refusal}
use Rattle.hume_front.specs.declared.acceptance.Accepted.{Accepted}
use Rattle.hume_front.specs.Accepted.{IsAccepted, Breaks}
use Rattle.look_sources.specs.declared.page.Page.{Page}
use Rattle.look_sources.specs.Pages.{Appends, Grows, is_lost, on}
use Rattle.look_sources.proofs.Growing.{appends_more}
use Rattle.hume_look.specs.declared.looking.Shown.{Shown}
use Rattle.hume_look.specs.declared.looking.Word.{Word}
use Rattle.hume_look.specs.declared.looking.Word.TheVariants.{Why, Bounds, Net, Hints}
use Rattle.hume_look.specs.Shown.{IsShown, IsShownAccepted, IsShownRefused, TellsAccepted, TellsRefused, refused_line}
use Rattle.hume_look.specs.inner.Puts.{PutsAccepted, PutsRefused, StartsWith}

from_nothing : (before front : List ℕ) → before ≡ [] → before ++ front ≡ front
from_nothing before front none = ap (λ (bytes : List ℕ). bytes ++ front) none

pub tells_accepted : (word : Word) (name : List ℕ) (before after : Page) → PutsAccepted word name before after → on before ≡ [] → is_lost after ≡ false
    → TellsAccepted word name (on after)
tells_accepted Why name before after puts none whole = puts.whole whole ∙ from_nothing (on before) (name ++ codes ": accepted\n") none
tells_accepted Bounds name before after puts none whole = tt
tells_accepted Net name before after puts none whole = tt
tells_accepted Hints name before after puts none whole = tt

pub tells_refused : (word : Word) (refusal : Refusal) (before after : Page) → PutsRefused word refusal before after → on before ≡ [] → is_lost after ≡ false
    → TellsRefused word refusal (on after)
tells_refused Why refusal before after puts none whole = tt
tells_refused Bounds refusal before after puts none whole =
    (puts.rest, puts.appends.whole whole ∙ from_nothing (on before) (refused_line refusal ++ puts.rest) none)
tells_refused Net refusal before after puts none whole = puts.whole whole ∙ from_nothing (on before) (refused_line refusal) none
tells_refused Hints refusal before after puts none whole = puts.whole whole ∙ from_nothing (on before) (refused_line refusal) none

absurd_answer : {b : Bool} → b ≡ true → b ≡ false → ⊥
absurd_answer is other = cc

pub shown_accepted : (word : Word) (name source : List ℕ) (accepted : Accepted) (shown : Shown) → IsAccepted source accepted → shown.accepted ≡ true
    → TellsAccepted word name shown.text.items → IsShown word name source shown
shown_accepted word name source accepted shown is said tells = record {
  accepted = λ _. record { accepted = accepted; is = is; text = tells };
  refused = λ other. absurd (absurd_answer said other);
}

pub shown_refused : (word : Word) (name source : List ℕ) (refusal : Refusal) (shown : Shown) → Breaks source refusal → shown.accepted ≡ false
    → TellsRefused word refusal shown.text.items → IsShown word name source shown
shown_refused word name source refusal shown breaks said tells = record {
  accepted = λ other. absurd (absurd_answer other said);
  refused = λ _. record { refusal = refusal; breaks = breaks; text = tells };
}

pub starts_with : {first second third : Page} {front : List ℕ} → Appends first second front → Grows second third → StartsWith first third front
starts_with front later = record { rest = later.rest; appends = appends_more later.appends front }

pub starts_alone : {first second : Page} {front : List ℕ} → Appends first second front → StartsWith first second front
starts_alone {first} {second} {front} puts = record {
  rest = [];
  appends = record { whole = λ h. puts.whole h ∙ ap (λ (bytes : List ℕ). on first ++ bytes) (sym (append-nil front)); earlier = puts.earlier };
}

pub ruleset starting = (starts_with, starts_alone)

pub ruleset showing = (common_steps, tells_accepted, tells_refused)

pub ruleset shown = (shown_accepted, shown_refused)
