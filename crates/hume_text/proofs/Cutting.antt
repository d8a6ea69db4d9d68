-- The next token of a line is found where one of its kind is wanted.
use Rattle.std.proofs.Common.{◌≡◌, ℕ, ◌==◌, Bool, true, false, ℤ, pos, neg_ℤ, List, [], ◌∷◌, Option, Some, None, if◌then◌else◌, refl}
use Rattle.std.proofs.lemmas.Bool.{eqb-true}
use Rattle.hume_text.specs.Spelling.{Piece, Open, Close, OpenVector, CloseVector, Comma, Name, Number, Letter}
use Rattle.hume_text.specs.Read.{is_digit, is_letter, is_name_byte, front, behind, Cut, second, digits_at, escaped, closed_letter, escape_at, letter_at, token_at}

pub if_cases : (P : Cut → Type 0) (b : Bool) (x y : Cut) → (b ≡ true → P x) → P y → P (if b then x else y)
if_cases P true x y f q = f refl
if_cases P false x y f q = q

-- what holds of every token that may begin with a byte
pub by_first : (P : Cut → Type 0) (byte : ℕ) (bytes : List ℕ)
    → (is_letter byte ≡ true → P (Some (Name (byte ∷ front is_name_byte bytes), behind is_name_byte bytes)))
    → (is_digit byte ≡ true → P (digits_at pos (byte ∷ bytes)))
    → (byte ≡ 45 → P (digits_at (λ n. neg_ℤ (pos n)) bytes))
    → (byte ≡ 39 → P (letter_at bytes))
    → (byte ≡ 40 → P (Some (Open, bytes)))
    → (byte ≡ 41 → P (Some (Close, bytes)))
    → (byte ≡ 44 → P (Some (Comma, bytes)))
    → (byte ≡ 60 → P (second 60 OpenVector bytes))
    → (byte ≡ 62 → P (second 62 CloseVector bytes))
    → P None
    → P (token_at (byte ∷ bytes))
by_first P byte bytes name digits minus quote left right comma opened ended nothing =
    if_cases P (is_letter byte) _ _ name
    (if_cases P (is_digit byte) _ _ digits
    (if_cases P (byte == 45) _ _ (λ e. minus (eqb-true byte 45 e))
    (if_cases P (byte == 39) _ _ (λ e. quote (eqb-true byte 39 e))
    (if_cases P (byte == 40) _ _ (λ e. left (eqb-true byte 40 e))
    (if_cases P (byte == 41) _ _ (λ e. right (eqb-true byte 41 e))
    (if_cases P (byte == 44) _ _ (λ e. comma (eqb-true byte 44 e))
    (if_cases P (byte == 60) _ _ (λ e. opened (eqb-true byte 60 e))
    (if_cases P (byte == 62) _ _ (λ e. ended (eqb-true byte 62 e)) nothing))))))))

-- digits give a number or nothing
pub digits_cases : (P : Cut → Type 0) (signed : ℕ → ℤ) (bytes : List ℕ) → ((z : ℤ) (rest : List ℕ) → P (Some (Number z, rest))) → P None → P (digits_at signed bytes)
digits_cases P signed [] f q = q
digits_cases P signed (byte ∷ bytes) f q = if_cases P (is_digit byte) _ _ (λ e. f _ _) q

pub second_cases : (P : Cut → Type 0) (wanted : ℕ) (piece : Piece) (bytes : List ℕ) → ((rest : List ℕ) → P (Some (piece, rest))) → P None → P (second wanted piece bytes)
second_cases P wanted piece [] f q = q
second_cases P wanted piece (byte ∷ bytes) f q = if_cases P (byte == wanted) _ _ (λ e. f bytes) q

pub closed_cases : (P : Cut → Type 0) (o : Option ℕ) (bytes : List ℕ) → ((a : ℕ) (rest : List ℕ) → P (Some (Letter a, rest))) → P None → P (closed_letter o bytes)
closed_cases P None bytes f q = q
closed_cases P (Some a) bytes f q = second_cases P 39 (Letter a) bytes (f a) q

pub escape_cases : (P : Cut → Type 0) (bytes : List ℕ) → ((a : ℕ) (rest : List ℕ) → P (Some (Letter a, rest))) → P None → P (escape_at bytes)
escape_cases P [] f q = q
escape_cases P (byte ∷ bytes) f q = closed_cases P (escaped byte) bytes f q

pub letter_cases : (P : Cut → Type 0) (bytes : List ℕ) → ((a : ℕ) (rest : List ℕ) → P (Some (Letter a, rest))) → P None → P (letter_at bytes)
letter_cases P [] f q = q
letter_cases P (byte ∷ bytes) f q = if_cases P (byte == 92) _ _ (λ e. escape_cases P bytes f q) (if_cases P _ _ _ (λ e. second_cases P 39 (Letter byte) bytes (f byte) q) q)
