-- What is put on a page for a word.
use Rattle.std.specs.Prelude.{ℕ, List, ◌++◌, codes}
use Rattle.hume_base.specs.declared.rule.Refusal.{Refusal}
use Rattle.look_sources.specs.declared.page.Page.{Page}
use Rattle.look_sources.specs.Pages.{Appends}
use Rattle.hume_look.specs.declared.looking.Word.{Word}
use Rattle.hume_look.specs.declared.looking.Word.TheVariants.{Why, Bounds, Net, Hints}
use Rattle.hume_look.specs.Shown.{refused_line}

-- unless memory ran out, bytes that begin with the front stand behind all that stood there
pub record StartsWith (before after : Page) (front : List ℕ) : Type 0 where
  pub rest : List ℕ
  pub appends : Appends before after (front ++ rest)

-- of an accepted source
abbrev pub PutsAccepted : Word → List ℕ → Page → Page → Type 0
PutsAccepted Why name before after = Appends before after (name ++ codes ": accepted\n")
PutsAccepted _ name before after = Unit {0}

-- of a refused source
abbrev pub PutsRefused : Word → Refusal → Page → Page → Type 0
PutsRefused Why refusal before after = Unit {0}
PutsRefused Bounds refusal before after = StartsWith before after (refused_line refusal)
PutsRefused Net refusal before after = Appends before after (refused_line refusal)
PutsRefused Hints refusal before after = Appends before after (refused_line refusal)
