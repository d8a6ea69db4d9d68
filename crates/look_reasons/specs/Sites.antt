-- The tokens and parts of a source at which a rule is broken.
use Rattle.std.specs.Prelude.{◌≡◌, ℕ, ◌≤◌, ◌<◌, Bool, true, false, List, [], length, Option, Some, None, slice_get}
use Rattle.hume_base.specs.declared.token.Kind.{Kind}
use Rattle.hume_base.specs.declared.token.Kind.TheVariants.{Lower, Upper}
use Rattle.hume_base.specs.declared.token.Token.{Token}
use Rattle.look_sources.specs.declared.span.Span.{Span}
use Rattle.look_reasons.specs.declared.site.Site.{Site}

-- the place of a token; where there is none, the end
abbrev pub place_in : ℕ → Option Token → ℕ
place_in end None = end
place_in end (Some token) = token.place

abbrev pub name_of_kind : Kind → List ℕ
name_of_kind (Lower name) = name
name_of_kind (Upper name) = name
name_of_kind _ = []

-- the name that a token is; of another token, and where there is none, nothing
abbrev pub name_in : Option Token → List ℕ
name_in None = []
name_in (Some token) = name_of_kind token.kind

abbrev pub has_capital : Kind → Bool
has_capital (Upper name) = true
has_capital _ = false

-- a token that is a name with a capital letter
abbrev pub is_upper_name : Option Token → Bool
is_upper_name None = false
is_upper_name (Some token) = has_capital token.kind

-- the part is one of a declaration that begins in the site's line
pub record StandsIn (site : Site) (part : Span) : Type 0 where
  pub low : site.low ≤ part.declaration
  pub high : part.declaration < site.high

-- the place is that at which a part of such a declaration begins
pub record BeginsIn (site : Site) (place : ℕ) : Type 0 where
  pub part : Span
  pub stands : StandsIn site part
  pub is : place ≡ place_in (length site.text.now) (slice_get site.tokens.now part.first)
