-- Pieces that are cut one after another, and what a reading that succeeds has found.
use Rattle.std.proofs.Common.{◌≡◌, ℕ, ◌<◌, nat_lt, Bool, true, false, List, [], ◌∷◌, ◌++◌, length, Option, Some, None, if◌then◌else◌, refl, ap, sym, ◌∙◌, subst}
use Rattle.std.proofs.lemmas.Bool.{lt-ltb}
use Rattle.hume_text.specs.Spelling.{Piece, Space, Open, Close, OpenVector, CloseVector, Comma, Name, Number, Letter}
use Rattle.hume_text.specs.Read.{Cut, next, Cuts}
use Rattle.hume_text.specs.inner.Readers.{Reading, Reader, then_read, read_on, is_open, is_close, is_open_vector, is_close_vector, is_comma, behind_sign, with_rest, found_in, put_word, put_found, closed_by}

pub cuts_join : (ps qs : List Piece) (line mid rest : List ℕ) → Cuts line ps mid → Cuts mid qs rest → Cuts line (ps ++ qs) rest
cuts_join [] qs line mid rest h k = subst (λ l. Cuts l qs rest) (sym h) k
cuts_join (Space ∷ ps) qs line mid rest h k = cuts_join ps qs line mid rest h k
cuts_join (Open ∷ ps) qs line mid rest h k = (h.0, h.1, cuts_join ps qs h.0 mid rest h.2 k)
cuts_join (Close ∷ ps) qs line mid rest h k = (h.0, h.1, cuts_join ps qs h.0 mid rest h.2 k)
cuts_join (OpenVector ∷ ps) qs line mid rest h k = (h.0, h.1, cuts_join ps qs h.0 mid rest h.2 k)
cuts_join (CloseVector ∷ ps) qs line mid rest h k = (h.0, h.1, cuts_join ps qs h.0 mid rest h.2 k)
cuts_join (Comma ∷ ps) qs line mid rest h k = (h.0, h.1, cuts_join ps qs h.0 mid rest h.2 k)
cuts_join (Name name ∷ ps) qs line mid rest h k = (h.0, h.1, cuts_join ps qs h.0 mid rest h.2 k)
cuts_join (Number number ∷ ps) qs line mid rest h k = (h.0, h.1, cuts_join ps qs h.0 mid rest h.2 k)
cuts_join (Letter byte ∷ ps) qs line mid rest h k = (h.0, h.1, cuts_join ps qs h.0 mid rest h.2 k)

pub cuts_split : (ps qs : List Piece) (line rest : List ℕ) → Cuts line (ps ++ qs) rest → (mid : List ℕ) × Cuts line ps mid × Cuts mid qs rest
cuts_split [] qs line rest h = (line, refl, h)
cuts_split (Space ∷ ps) qs line rest h = cuts_split ps qs line rest h
cuts_split (Open ∷ ps) qs line rest h = let more = cuts_split ps qs h.0 rest h.2 in (more.0, (h.0, h.1, more.1), more.2)
cuts_split (Close ∷ ps) qs line rest h = let more = cuts_split ps qs h.0 rest h.2 in (more.0, (h.0, h.1, more.1), more.2)
cuts_split (OpenVector ∷ ps) qs line rest h = let more = cuts_split ps qs h.0 rest h.2 in (more.0, (h.0, h.1, more.1), more.2)
cuts_split (CloseVector ∷ ps) qs line rest h = let more = cuts_split ps qs h.0 rest h.2 in (more.0, (h.0, h.1, more.1), more.2)
cuts_split (Comma ∷ ps) qs line rest h = let more = cuts_split ps qs h.0 rest h.2 in (more.0, (h.0, h.1, more.1), more.2)
cuts_split (Name name ∷ ps) qs line rest h = let more = cuts_split ps qs h.0 rest h.2 in (more.0, (h.0, h.1, more.1), more.2)
cuts_split (Number number ∷ ps) qs line rest h = let more = cuts_split ps qs h.0 rest h.2 in (more.0, (h.0, h.1, more.1), more.2)
cuts_split (Letter byte ∷ ps) qs line rest h = let more = cuts_split ps qs h.0 rest h.2 in (more.0, (h.0, h.1, more.1), more.2)

pub none_some : {X : Type 0} (x : X) → ◌≡◌ {A = Option X} None (Some x) → ⊥
none_some x e = cc

pub same_some : {X : Type 0} (x y : X) → ◌≡◌ {A = Option X} (Some x) (Some y) → x ≡ y
same_some x y e = cc

pub same_pair : {X Y : Type 0} (a c : X) (b d : Y) → ◌≡◌ {A = Option (X × Y)} (Some (a, b)) (Some (c, d)) → (a ≡ c) × (b ≡ d)
same_pair {X} {Y} a c b d e =
    let both : ◌≡◌ {A = X × Y} (a, b) (c, d) = same_some (a, b) (c, d) e in
    (ap (λ (p : X × Y). p.0) both, ap (λ (p : X × Y). p.1) both)

pub then_inv : (r : Reading) (reader : Reader) (more rest : List ℕ) → then_read r reader ≡ Some (more, rest)
    → (mid : List ℕ) × (later : List ℕ) × (r ≡ Some (mid, later)) × (reader mid later ≡ Some (more, rest))
then_inv None reader more rest e = absurd (none_some (more, rest) e)
then_inv (Some read) reader more rest e = (read.0, read.1, refl, e)

pub on_inv : (o : Option (List ℕ)) (f : List ℕ → Reading) (more rest : List ℕ) → read_on o f ≡ Some (more, rest)
    → (line : List ℕ) × (o ≡ Some line) × (f line ≡ Some (more, rest))
on_inv None f more rest e = absurd (none_some (more, rest) e)
on_inv (Some line) f more rest e = (line, refl, e)

pub put_inv : (room a : ℕ) (words line more rest : List ℕ) → put_word room a words line ≡ Some (more, rest) → (more ≡ words ++ a ∷ []) × (rest ≡ line)
put_inv room a words line more rest e = go (nat_lt (length words) room) e
  where
    go : (b : Bool) → ◌≡◌ {A = Reading} (if b then Some (words ++ a ∷ [], line) else None) (Some (more, rest)) → (more ≡ words ++ a ∷ []) × (rest ≡ line)
    go true e = let same = same_pair (words ++ a ∷ []) more line rest e in (sym same.0, sym same.1)
    go false e = absurd (none_some (more, rest) e)

pub put_fits : (room a : ℕ) (words line : List ℕ) → length words < room → put_word room a words line ≡ Some (words ++ a ∷ [], line)
put_fits room a words line fits = ap (λ (b : Bool). if b then Some (words ++ a ∷ [], line) else None) (lt-ltb (length words) room fits)

pub found_inv : (word : Piece → Option ℕ) (cut : Cut) (a : ℕ) (after : List ℕ) → found_in word cut ≡ Some (a, after)
    → (piece : Piece) × (cut ≡ Some (piece, after)) × (word piece ≡ Some a)
found_inv word None a after e = absurd (none_some (a, after) e)
found_inv word (Some cut) a after e = go (word cut.0) refl e
  where
    go : (o : Option ℕ) → word cut.0 ≡ o → with_rest o cut.1 ≡ Some (a, after) → (piece : Piece) × (Some cut ≡ Some (piece, after)) × (word piece ≡ Some a)
    go None q e = absurd (none_some (a, after) e)
    go (Some b) q e = let same = same_pair b a cut.1 after e in (cut.0, ap (λ r. Some (cut.0, r)) same.1, q ∙ ap (λ n. Some n) same.0)

pub put_found_inv : (room : ℕ) (words : List ℕ) (o : Option (ℕ × List ℕ)) (more rest : List ℕ) → put_found room words o ≡ Some (more, rest)
    → (a : ℕ) × (o ≡ Some (a, rest)) × (more ≡ words ++ a ∷ [])
put_found_inv room words None more rest e = absurd (none_some (more, rest) e)
put_found_inv room words (Some found) more rest e =
    let p = put_inv room found.0 words found.1 more rest e in
    (found.0, ap (λ r. Some (found.0, r)) (sym p.1), p.0)

pub sign_inv : (test : Piece → Bool) (sign : Piece) → ((p : Piece) → test p ≡ true → p ≡ sign) → (cut : Cut) (rest : List ℕ)
    → behind_sign test cut ≡ Some rest → cut ≡ Some (sign, rest)
sign_inv test sign only None rest e = absurd (none_some rest e)
sign_inv test sign only (Some cut) rest e = go (test cut.0) refl e
  where
    go : (b : Bool) → test cut.0 ≡ b → (if b then Some cut.1 else None) ≡ Some rest → ◌≡◌ {A = Cut} (Some cut) (Some (sign, rest))
    go true q e = ap (λ p. Some (p, cut.1)) (only cut.0 q) ∙ ap (λ r. Some (sign, r)) (same_some cut.1 rest e)
    go false q e = absurd (none_some rest e)

pub closed_inv : (closing : Piece → Bool) (r : Reading) (more rest : List ℕ) → closed_by closing r ≡ Some (more, rest)
    → (later : List ℕ) × (r ≡ Some (more, later)) × (behind_sign closing (next later) ≡ Some rest)
closed_inv closing None more rest e = absurd (none_some (more, rest) e)
closed_inv closing (Some read) more rest e =
    let on = on_inv (behind_sign closing (next read.1)) (λ (last : List ℕ). Some (read.0, last)) more rest e in
    let same = same_pair read.0 more on.0 rest on.2 in
    (read.1, ap (λ w. Some (w, read.1)) same.0, on.1 ∙ ap (λ l. Some l) same.1)

pub open_only : (p : Piece) → is_open p ≡ true → p ≡ Open
open_only Space e = cc
open_only Open e = refl
open_only Close e = cc
open_only OpenVector e = cc
open_only CloseVector e = cc
open_only Comma e = cc
open_only (Name name) e = cc
open_only (Number number) e = cc
open_only (Letter byte) e = cc

pub close_only : (p : Piece) → is_close p ≡ true → p ≡ Close
close_only Space e = cc
close_only Open e = cc
close_only Close e = refl
close_only OpenVector e = cc
close_only CloseVector e = cc
close_only Comma e = cc
close_only (Name name) e = cc
close_only (Number number) e = cc
close_only (Letter byte) e = cc

pub open_vector_only : (p : Piece) → is_open_vector p ≡ true → p ≡ OpenVector
open_vector_only Space e = cc
open_vector_only Open e = cc
open_vector_only Close e = cc
open_vector_only OpenVector e = refl
open_vector_only CloseVector e = cc
open_vector_only Comma e = cc
open_vector_only (Name name) e = cc
open_vector_only (Number number) e = cc
open_vector_only (Letter byte) e = cc

pub close_vector_only : (p : Piece) → is_close_vector p ≡ true → p ≡ CloseVector
close_vector_only Space e = cc
close_vector_only Open e = cc
close_vector_only Close e = cc
close_vector_only OpenVector e = cc
close_vector_only CloseVector e = refl
close_vector_only Comma e = cc
close_vector_only (Name name) e = cc
close_vector_only (Number number) e = cc
close_vector_only (Letter byte) e = cc

pub comma_only : (p : Piece) → is_comma p ≡ true → p ≡ Comma
comma_only Space e = cc
comma_only Open e = cc
comma_only Close e = cc
comma_only OpenVector e = cc
comma_only CloseVector e = cc
comma_only Comma e = refl
comma_only (Name name) e = cc
comma_only (Number number) e = cc
comma_only (Letter byte) e = cc
