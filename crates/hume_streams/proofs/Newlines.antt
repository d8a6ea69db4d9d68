-- The lines that bytes begin with.
use Rattle.std.proofs.Common.{◌≡◌, ℕ, zero, suc, ◌+◌, ◌<◌, eqb, cond, false, List, [], ◌∷◌, ◌++◌, length, get_or, take, drop, refl, ap, sym, ◌∙◌, subst, arith}
use Rattle.std.proofs.lemmas.List.{take_more}
use Rattle.hume_streams.specs.Lines.{in_front, lines_of, in_front_of_whole, whole_lines}
use Rattle.hume_streams.specs.inner.Newlines.{HasNoNewline}

-- a line up to its newline
pub lines_of-newline : (line rest : List ℕ) → HasNoNewline line → lines_of (line ++ (10 ∷ rest)) ≡ line ∷ lines_of rest
lines_of-newline [] rest h = refl
lines_of-newline (byte ∷ line) rest h =
    ap (λ b. cond b ([] ∷ lines_of (line ++ (10 ∷ rest))) (in_front byte (lines_of (line ++ (10 ∷ rest))))) h.0
    ∙ ap (in_front byte) (lines_of-newline line rest h.1)

-- a byte that is no newline belongs to the first line
pub lines_of-front : (byte : ℕ) (bytes : List ℕ) → eqb byte 10 ≡ false → lines_of (byte ∷ bytes) ≡ in_front byte (lines_of bytes)
lines_of-front byte bytes e = ap (λ b. cond b ([] ∷ lines_of bytes) (in_front byte (lines_of bytes))) e

in_front-some : (byte : ℕ) (lines : List (List ℕ)) → (more : List ℕ) × (others : List (List ℕ)) × (in_front byte lines ≡ (byte ∷ more) ∷ others)
in_front-some byte [] = ([], [], refl)
in_front-some byte (line ∷ lines) = (line, lines, refl)

-- the first line begins with all the bytes before the first newline
lines_of-more : (byte : ℕ) (line rest : List ℕ) → HasNoNewline (byte ∷ line) → (more : List ℕ) × (others : List (List ℕ)) × (lines_of (byte ∷ (line ++ rest)) ≡ (byte ∷ (line ++ more)) ∷ others)
lines_of-more byte [] rest h =
    let some = in_front-some byte (lines_of rest) in
    (some.0, some.1, lines_of-front byte rest h.0 ∙ some.2)
lines_of-more byte (next ∷ line) rest h =
    let some = lines_of-more next line rest h.1 in
    (some.0, some.1, lines_of-front byte (next ∷ (line ++ rest)) h.0 ∙ ap (in_front byte) some.2)

pub lines_of-begun : (line rest : List ℕ) → HasNoNewline line → 0 < length line → (more : List ℕ) × (others : List (List ℕ)) × (lines_of (line ++ rest) ≡ (line ++ more) ∷ others)
lines_of-begun [] rest h some = absurd (omega (arith, some))
lines_of-begun (byte ∷ line) rest h some = lines_of-more byte line rest h

-- a last line without its newline
lines_of-last : (byte : ℕ) (line : List ℕ) → HasNoNewline (byte ∷ line) → lines_of (byte ∷ line) ≡ (byte ∷ line) ∷ []
lines_of-last byte [] h = lines_of-front byte [] h.0
lines_of-last byte (next ∷ line) h = lines_of-front byte (next ∷ line) h.0 ∙ ap (in_front byte) (lines_of-last next line h.1)

pub lines_of-all : (line : List ℕ) → HasNoNewline line → 0 < length line → lines_of line ≡ line ∷ []
lines_of-all [] h some = absurd (omega (arith, some))
lines_of-all (byte ∷ line) h some = lines_of-last byte line h

pub no_newline-push : (line : List ℕ) (byte : ℕ) → HasNoNewline line → eqb byte 10 ≡ false → HasNoNewline (line ++ (byte ∷ []))
no_newline-push [] byte h e = (e, tt)
no_newline-push (first ∷ line) byte h e = (h.0, no_newline-push line byte h.1 e)

-- one byte more that is no newline
pub no_newline-more : (bytes : List ℕ) (place : ℕ) → place < length bytes → HasNoNewline (take place bytes) → eqb (get_or bytes place 0) 10 ≡ false → HasNoNewline (take (place + 1) bytes)
no_newline-more bytes place within h e =
    subst HasNoNewline (sym (take_more bytes place 0 within)) (no_newline-push (take place bytes) (get_or bytes place 0) h e)

split_at : (bytes : List ℕ) (place : ℕ) → place < length bytes → get_or bytes place 0 ≡ 10 → bytes ≡ take place bytes ++ (10 ∷ drop (suc place) bytes)
split_at [] place h e = absurd (omega (arith, h))
split_at (byte ∷ bytes) zero h e = ap (λ b. b ∷ bytes) e
split_at (byte ∷ bytes) (suc place) h e = ap (λ bs. byte ∷ bs) (split_at bytes place (omega (arith, h)) e)

-- the bytes around the first newline
pub split_at_newline : (bytes : List ℕ) (place : ℕ) → place < length bytes → get_or bytes place 0 ≡ 10 → bytes ≡ take place bytes ++ (10 ∷ drop (place + 1) bytes)
split_at_newline bytes place h e =
    let s : suc place ≡ place + 1 = omega arith in
    split_at bytes place h e ∙ ap (λ n. take place bytes ++ (10 ∷ drop n bytes)) s

-- no line is whole without a newline
pub whole_lines-none : (bytes : List ℕ) → HasNoNewline bytes → whole_lines bytes ≡ []
whole_lines-none [] h = refl
whole_lines-none (byte ∷ bytes) h =
    ap (λ b. cond b (byte ∷ whole_lines bytes) (in_front_of_whole byte (whole_lines bytes))) h.0
    ∙ ap (in_front_of_whole byte) (whole_lines-none bytes h.1)
