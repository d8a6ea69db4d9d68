-- What stands on a page.
use Rattle.std.specs.Prelude.{◌≡◌, ◌++◌, ℕ, Bool, false, List}
use Rattle.look_sources.specs.declared.page.Page.{Page}

-- the bytes on the page
abbrev pub on : Page → List ℕ
on page = page.bytes.items

-- memory ran out, and so bytes may be missing
abbrev pub is_lost : Page → Bool
is_lost page = page.failed

-- unless memory ran out, the bytes stand behind all that stood there
pub record Appends (before after : Page) (bytes : List ℕ) : Type 0 where
  pub whole : is_lost after ≡ false → on after ≡ on before ++ bytes
  pub earlier : is_lost after ≡ false → is_lost before ≡ false

-- unless memory ran out, some bytes stand behind all that stood there
pub record Grows (before after : Page) : Type 0 where
  pub rest : List ℕ
  pub appends : Appends before after rest
