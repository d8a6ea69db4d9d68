-- Names that are declared twice.
use Rattle.std.specs.Prelude.{◌≡◌, ◌⊎◌, ℕ, ◌<◌, List, codes, slice_get}
use Rattle.look_sources.specs.declared.span.Span.{Span}
use Rattle.look_reasons.specs.declared.site.Site.{Site}
use Rattle.look_reasons.specs.Sites.{name_in}

-- the name is that of an exception of every program
abbrev pub IsGiven : List ℕ → Type 0
IsGiven name = (name ≡ codes "DivZero") ⊎ ((name ≡ codes "Range") ⊎ (name ≡ codes "NoCase"))

-- the name with which a part of the site begins
abbrev pub name_of_part : Site → Span → List ℕ
name_of_part site part = name_in (slice_get site.tokens.now part.first)

-- a part that begins before it has the same name
pub record HasNamesake (site : Site) (part : Span) : Type 0 where
  pub other : Span
  pub sooner : other.first < part.first
  pub same : name_of_part site other ≡ name_of_part site part
