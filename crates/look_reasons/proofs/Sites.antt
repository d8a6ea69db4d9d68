-- Parts of a site.
use Rattle.std.proofs.Common.{◌≡◌, ℕ, ◌<◌, length, refl}
use Rattle.std.specs.Prelude.{slice_get}
use Rattle.look_sources.specs.declared.span.Span.{Span}
use Rattle.look_reasons.specs.declared.site.Site.{Site}
use Rattle.look_reasons.specs.Names.{HasNamesake, name_of_part}
use Rattle.look_reasons.specs.Sites.{BeginsIn, StandsIn, place_in}

pub begins_in : (site : Site) (part : Span) → StandsIn site part → BeginsIn site (place_in (length site.text.now) (slice_get site.tokens.now part.first))
begins_in site part stands = record { part = part; stands = stands; is = refl }

pub is_namesake : (site : Site) (other part : Span) → other.first < part.first → name_of_part site other ≡ name_of_part site part → HasNamesake site part
is_namesake site other part sooner same = record { other = other; sooner = sooner; same = same }
