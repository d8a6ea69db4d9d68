-- Bytes without a newline.
use Rattle.std.specs.Prelude.{◌≡◌, ℕ, ◌==◌, false, List, [], ◌∷◌, ⊤}

-- none of the bytes is a newline
abbrev pub HasNoNewline : List ℕ → Type 0
HasNoNewline [] = ⊤
HasNoNewline (byte ∷ bytes) = ((byte == 10) ≡ false) × HasNoNewline bytes
