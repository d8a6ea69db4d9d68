-- One part more.
use Rattle.std.proofs.Common.{◌≡◌, ℕ, ◌+◌, List, [], ◌∷◌, ◌++◌, ◌∙◌, arith}
use Rattle.std.specs.List.{sum_by}
use Rattle.std.proofs.lemmas.List.Sums.{sum_by-append}
use Rattle.look_sources.specs.Parts.{declarations, declares}
use Rattle.look_sources.specs.declared.span.Span.{Span}

pub declarations_more : (parts : List Span) (part : Span) → declarations (parts ++ part ∷ []) ≡ declarations parts + declares part.sort
unfolding declarations
declarations_more parts part = sum_by-append (λ (it : Span). declares it.sort) parts (part ∷ []) ∙ omega arith
