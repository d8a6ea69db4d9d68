-- A walk through a program.
use Rattle.std.specs.Prelude.{ℕ, ◌+◌}
use Rattle.look_sources.specs.Parts.{declarations}
use Rattle.look_sources.specs.declared.walk.Walk.{Walk}

-- how many declarations are noted, with the parts that are lost where memory ran out
abbrev pub noted : Walk → ℕ
noted walk = declarations walk.spans.items + walk.lost
