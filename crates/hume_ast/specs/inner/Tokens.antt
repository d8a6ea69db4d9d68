-- Tokens that are put one after the other.
use Rattle.std.specs.Prelude.{◌≡◌, ◌++◌, List, Bool, false}
use Rattle.hume_base.specs.declared.token.Kind.{Kind}
use Rattle.hume_ast.specs.declared.spell_tokens.Tokens.{Tokens}

-- memory ran out, and so tokens may be missing
abbrev pub is_lost : Tokens → Bool
is_lost tokens = tokens.failed

-- unless memory ran out, the tokens stand behind all that stood there
abbrev pub Adds : Tokens → Tokens → List Kind → Type 0
Adds before after kinds = is_lost after ≡ false → (is_lost before ≡ false) × (after.kinds ≡ before.kinds ++ kinds)
