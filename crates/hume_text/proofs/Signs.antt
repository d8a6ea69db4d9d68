-- The next token of a line is the one that is taken where its kind is wanted.
use Rattle.std.proofs.Common.{◌≡◌, ℕ, ◌==◌, Bool, true, false, ℤ, pos, neg_ℤ, List, [], ◌∷◌, Some, None, if◌then◌else◌, refl, ap, sym, ◌∙◌, subst}
use Rattle.std.proofs.lemmas.Bool.{eqb-true, eq-eqb}
use Rattle.hume_text.specs.Spelling.{Piece, Open, Close, OpenVector, CloseVector, Comma, Name, Number, Letter}
use Rattle.hume_text.specs.Read.{is_blank, behind, Cut, second, token_at, next}
use Rattle.hume_text.specs.inner.Tokens.{byte_at, sign_at, again, double_at}
use Rattle.hume_text.specs.inner.Readers.{behind_sign, is_open, is_close, is_open_vector, is_close_vector, is_comma}
use Rattle.hume_text.proofs.Cutting.{by_first, digits_cases, second_cases, letter_cases}

-- a test that only one sign can pass fails where another byte stands
no_sign : (test : Piece → Bool) (byte : ℕ) (bytes : List ℕ) → ((name : List ℕ) → test (Name name) ≡ false) → ((z : ℤ) → test (Number z) ≡ false)
    → ((a : ℕ) → test (Letter a) ≡ false) → (byte ≡ 40 → test Open ≡ false) → (byte ≡ 41 → test Close ≡ false)
    → (byte ≡ 44 → test Comma ≡ false) → (byte ≡ 60 → test OpenVector ≡ false) → (byte ≡ 62 → test CloseVector ≡ false)
    → behind_sign test (token_at (byte ∷ bytes)) ≡ None
no_sign test byte bytes name number letter left right comma opened ended =
    let P : Cut → Type 0 = λ cut. behind_sign test cut ≡ None in
    let fails : (piece : Piece) (rest : List ℕ) → test piece ≡ false → P (Some (piece, rest)) = λ piece rest e. rw e refl in
    by_first P byte bytes
    (λ _. fails _ _ (name _))
    (λ _. digits_cases P pos (byte ∷ bytes) (λ z rest. fails (Number z) rest (number z)) refl)
    (λ _. digits_cases P (λ n. neg_ℤ (pos n)) bytes (λ z rest. fails (Number z) rest (number z)) refl)
    (λ _. letter_cases P bytes (λ a rest. fails (Letter a) rest (letter a)) refl)
    (λ is. fails Open bytes (left is))
    (λ is. fails Close bytes (right is))
    (λ is. fails Comma bytes (comma is))
    (λ is. second_cases P 60 OpenVector bytes (λ rest. fails OpenVector rest (opened is)) refl)
    (λ is. second_cases P 62 CloseVector bytes (λ rest. fails CloseVector rest (ended is)) refl)
    refl

no_byte : {X : Type 0} (byte wanted : ℕ) → (byte == wanted) ≡ false → byte ≡ wanted → X
no_byte byte wanted e is = absurd (let t : true ≡ false = sym (eq-eqb byte wanted is) ∙ e in cc)

other_byte : (wanted byte : ℕ) (bytes : List ℕ) → (byte == wanted) ≡ false → byte_at wanted (byte ∷ bytes) ≡ None
other_byte wanted byte bytes e = rw e refl

open_at : (bytes : List ℕ) → behind_sign is_open (token_at bytes) ≡ byte_at 40 bytes
open_at [] = refl
open_at (byte ∷ bytes) = go (byte == 40) refl
  where
    go : (b : Bool) → (byte == 40) ≡ b → behind_sign is_open (token_at (byte ∷ bytes)) ≡ byte_at 40 (byte ∷ bytes)
    go true e = subst (λ n. behind_sign is_open (token_at (n ∷ bytes)) ≡ byte_at 40 (n ∷ bytes)) (sym (eqb-true byte 40 e)) refl
    go false e = no_sign is_open byte bytes (λ _. refl) (λ _. refl) (λ _. refl) (no_byte byte 40 e) (λ _. refl) (λ _. refl) (λ _. refl) (λ _. refl) ∙ sym (other_byte 40 byte bytes e)

close_at : (bytes : List ℕ) → behind_sign is_close (token_at bytes) ≡ byte_at 41 bytes
close_at [] = refl
close_at (byte ∷ bytes) = go (byte == 41) refl
  where
    go : (b : Bool) → (byte == 41) ≡ b → behind_sign is_close (token_at (byte ∷ bytes)) ≡ byte_at 41 (byte ∷ bytes)
    go true e = subst (λ n. behind_sign is_close (token_at (n ∷ bytes)) ≡ byte_at 41 (n ∷ bytes)) (sym (eqb-true byte 41 e)) refl
    go false e = no_sign is_close byte bytes (λ _. refl) (λ _. refl) (λ _. refl) (λ _. refl) (no_byte byte 41 e) (λ _. refl) (λ _. refl) (λ _. refl) ∙ sym (other_byte 41 byte bytes e)

comma_at : (bytes : List ℕ) → behind_sign is_comma (token_at bytes) ≡ byte_at 44 bytes
comma_at [] = refl
comma_at (byte ∷ bytes) = go (byte == 44) refl
  where
    go : (b : Bool) → (byte == 44) ≡ b → behind_sign is_comma (token_at (byte ∷ bytes)) ≡ byte_at 44 (byte ∷ bytes)
    go true e = subst (λ n. behind_sign is_comma (token_at (n ∷ bytes)) ≡ byte_at 44 (n ∷ bytes)) (sym (eqb-true byte 44 e)) refl
    go false e = no_sign is_comma byte bytes (λ _. refl) (λ _. refl) (λ _. refl) (λ _. refl) (λ _. refl) (no_byte byte 44 e) (λ _. refl) (λ _. refl) ∙ sym (other_byte 44 byte bytes e)

second_at : (test : Piece → Bool) (wanted : ℕ) (piece : Piece) (bytes : List ℕ) → test piece ≡ true → behind_sign test (second wanted piece bytes) ≡ byte_at wanted bytes
second_at test wanted piece [] e = refl
second_at test wanted piece (byte ∷ bytes) e = go (byte == wanted)
  where
    go : (b : Bool) → behind_sign test (if b then Some (piece, bytes) else None) ≡ (if b then Some bytes else None)
    go true = rw e refl
    go false = refl

open_vector_at : (bytes : List ℕ) → behind_sign is_open_vector (token_at bytes) ≡ again 60 (byte_at 60 bytes)
open_vector_at [] = refl
open_vector_at (byte ∷ bytes) = go (byte == 60) refl
  where
    go : (b : Bool) → (byte == 60) ≡ b → behind_sign is_open_vector (token_at (byte ∷ bytes)) ≡ again 60 (byte_at 60 (byte ∷ bytes))
    go true e = subst (λ n. behind_sign is_open_vector (token_at (n ∷ bytes)) ≡ again 60 (byte_at 60 (n ∷ bytes))) (sym (eqb-true byte 60 e)) (second_at is_open_vector 60 OpenVector bytes refl)
    go false e = no_sign is_open_vector byte bytes (λ _. refl) (λ _. refl) (λ _. refl) (λ _. refl) (λ _. refl) (λ _. refl) (no_byte byte 60 e) (λ _. refl) ∙ ap (again 60) (sym (other_byte 60 byte bytes e))

close_vector_at : (bytes : List ℕ) → behind_sign is_close_vector (token_at bytes) ≡ again 62 (byte_at 62 bytes)
close_vector_at [] = refl
close_vector_at (byte ∷ bytes) = go (byte == 62) refl
  where
    go : (b : Bool) → (byte == 62) ≡ b → behind_sign is_close_vector (token_at (byte ∷ bytes)) ≡ again 62 (byte_at 62 (byte ∷ bytes))
    go true e = subst (λ n. behind_sign is_close_vector (token_at (n ∷ bytes)) ≡ again 62 (byte_at 62 (n ∷ bytes))) (sym (eqb-true byte 62 e)) (second_at is_close_vector 62 CloseVector bytes refl)
    go false e = no_sign is_close_vector byte bytes (λ _. refl) (λ _. refl) (λ _. refl) (λ _. refl) (λ _. refl) (λ _. refl) (λ _. refl) (no_byte byte 62 e) ∙ ap (again 62) (sym (other_byte 62 byte bytes e))

pub open_next : (line : List ℕ) → behind_sign is_open (next line) ≡ sign_at 40 line
open_next line = open_at (behind is_blank line)

pub close_next : (line : List ℕ) → behind_sign is_close (next line) ≡ sign_at 41 line
close_next line = close_at (behind is_blank line)

pub comma_next : (line : List ℕ) → behind_sign is_comma (next line) ≡ sign_at 44 line
comma_next line = comma_at (behind is_blank line)

pub open_vector_next : (line : List ℕ) → behind_sign is_open_vector (next line) ≡ double_at 60 line
open_vector_next line = open_vector_at (behind is_blank line)

pub close_vector_next : (line : List ℕ) → behind_sign is_close_vector (next line) ≡ double_at 62 line
close_vector_next line = close_vector_at (behind is_blank line)
