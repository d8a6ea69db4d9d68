-- The parts of a program.
use Rattle.std.specs.Prelude.{ℕ, List}
use Rattle.std.specs.List.{sum_by}
use Rattle.look_sources.specs.declared.span.Sort.{Sort}
use Rattle.look_sources.specs.declared.span.Sort.TheVariants.{Declaration}
use Rattle.look_sources.specs.declared.span.Span.{Span}

-- a declaration counts, and no other part
abbrev pub declares : Sort → ℕ
declares Declaration = 1
declares _ = 0

-- how many of the parts are declarations
unfoldable pub declarations : List Span → ℕ
declarations parts = sum_by (λ (part : Span). declares part.sort) parts
