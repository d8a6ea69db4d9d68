-- What reads one level of a type reads the lines that begin with the text of a value, and no others.
use Rattle.std.proofs.Common.{◌≡◌, ℕ, zero, suc, ◌+◌, ◌<◌, ◌≤◌, ◌==◌, ◌&&◌, Bool, true, false, List, [], ◌∷◌, ◌++◌, map, length, length-append, append_assoc, replicate, Option, Some, refl, ap, sym, ◌∙◌, subst, arith}
use Rattle.std.proofs.lemmas.Bool.{and_parts, eqb-true, eq-eqb}
use Rattle.std.specs.List.{list_all, flat_map}
use Rattle.hume_base.specs.declared.types.Value.{Value, out-Value, roll-Value, out-roll-Value}
use Rattle.hume_base.specs.declared.types.Value.TheOpen.{Value-F}
use Rattle.hume_base.specs.Values.{is_word_of, all_pass, is_tuple_of, is_vector_of}
use Rattle.hume_base.specs.Flat.{joined, word_in, parts_in}
use Rattle.hume_text.specs.Spelling.{Piece, Space, Open, Close, OpenVector, CloseVector, Comma, each_spelled, with_commas}
use Rattle.hume_text.specs.Read.{next, Cuts}
use Rattle.hume_text.specs.inner.Readers.{Reader, then_read, read_on, is_open, is_close, is_open_vector, is_close_vector, is_comma, behind_sign, with_rest, found_in, put_found, read_word, read_several, closed_by, read_in}
use Rattle.hume_text.proofs.ValuePrinting.{append_nothing}
use Rattle.hume_text.proofs.Inversions.{cuts_join, cuts_split, same_pair, then_inv, on_inv, put_fits, found_inv, put_found_inv, sign_inv, closed_inv, open_only, close_only, open_vector_only, close_vector_only, comma_only}

-- what is read is a value that passes the test, with its words and its text
abbrev pub Sound : (Value → Bool) → (Value → List ℕ) → (Value → List Piece) → Reader → Type 0
Sound test words spelled reader = (filled line more rest : List ℕ) → reader filled line ≡ Some (more, rest)
    → (v : Value) × (test v ≡ true) × (more ≡ filled ++ words v) × Cuts line (spelled v) rest

-- each value that passes the test is read from its text, if there is room for its words
abbrev pub Complete : ℕ → (Value → Bool) → (Value → List ℕ) → (Value → List Piece) → Reader → Type 0
Complete room test words spelled reader = (v : Value) (filled line rest : List ℕ) → test v ≡ true → length filled + length (words v) ≤ room
    → Cuts line (spelled v) rest → reader filled line ≡ Some (filled ++ words v, rest)

abbrev pub Exact : ℕ → (Value → Bool) → (Value → List ℕ) → (Value → List Piece) → Reader → Type 0
Exact room test words spelled reader = Sound test words spelled reader × Complete room test words spelled reader

abbrev pub LayerSound : (Value-F Value → Bool) → (Value-F Value → List ℕ) → (Value-F Value → List Piece) → Reader → Type 0
LayerSound test words spelled reader = (filled line more rest : List ℕ) → reader filled line ≡ Some (more, rest)
    → (l : Value-F Value) × (test l ≡ true) × (more ≡ filled ++ words l) × Cuts line (spelled l) rest

abbrev pub LayerComplete : ℕ → (Value-F Value → Bool) → (Value-F Value → List ℕ) → (Value-F Value → List Piece) → Reader → Type 0
LayerComplete room test words spelled reader = (l : Value-F Value) (filled line rest : List ℕ) → test l ≡ true → length filled + length (words l) ≤ room
    → Cuts line (spelled l) rest → reader filled line ≡ Some (filled ++ words l, rest)

abbrev pub LayerExact : ℕ → (Value-F Value → Bool) → (Value-F Value → List ℕ) → (Value-F Value → List Piece) → Reader → Type 0
LayerExact room test words spelled reader = LayerSound test words spelled reader × LayerComplete room test words spelled reader

-- it is enough to read one level
pub by_layer : (room : ℕ) (test : Value-F Value → Bool) (words : Value-F Value → List ℕ) (spelled : Value-F Value → List Piece) (reader : Reader)
    → LayerExact room test words spelled reader
    → Exact room (λ v. test (out-Value v)) (λ v. words (out-Value v)) (λ v. spelled (out-Value v)) reader
by_layer room test words spelled reader exact = (
  λ filled line more rest e.
      let own = exact.0 filled line more rest e in
      let back : own.0 ≡ out-Value (roll-Value own.0) = sym (out-roll-Value own.0) in
      (roll-Value own.0, ap test (sym back) ∙ own.1, own.2 ∙ ap (λ l. filled ++ words l) back, subst (λ l. Cuts line (spelled l) rest) back own.3),
  λ v. exact.1 (out-Value v),
)

pub both_true : (b c : Bool) → b ≡ true → c ≡ true → (b && c) ≡ true
both_true true c p q = q
both_true false c p q = cc

pub some_pair : (a c b d : List ℕ) → a ≡ c → b ≡ d → ◌≡◌ {A = Option (List ℕ × List ℕ)} (Some (a, b)) (Some (c, d))
some_pair a c b d p q = λ i. Some (p i, q i)

-- a scalar

module _ (room : ℕ) (test : ℕ → Bool) (piece : ℕ → Piece) (word : Piece → Option ℕ)
    (back : (p : Piece) (a : ℕ) → word p ≡ Some a → (test a ≡ true) × (p ≡ piece a))
    (there : (a : ℕ) → test a ≡ true → word (piece a) ≡ Some a)
    (cut_in : (a : ℕ) (line rest : List ℕ) → next line ≡ Some (piece a, rest) → Cuts line (piece a ∷ []) rest)
    (cut_out : (a : ℕ) (line rest : List ℕ) → Cuts line (piece a ∷ []) rest → next line ≡ Some (piece a, rest)) where
  word_sound : LayerSound (is_word_of test) (λ l. word_in l ∷ []) (λ l. piece (word_in l) ∷ []) (read_word room word)
  word_sound filled line more rest e =
      let put = put_found_inv room filled (found_in word (next line)) more rest e in
      let found = found_inv word (next line) put.0 rest put.1 in
      let own = back found.0 put.0 found.2 in
      (Value-F.Word put.0, own.0, put.2, cut_in put.0 line rest (found.1 ∙ ap (λ p. Some (p, rest)) own.1))

  word_complete : LayerComplete room (is_word_of test) (λ l. word_in l ∷ []) (λ l. piece (word_in l) ∷ []) (read_word room word)
  word_complete (Value-F.Word a) filled line rest p fit h =
      let fits : length filled < room = omega (arith, fit) in
      ap (λ c. put_found room filled (found_in word c)) (cut_out a line rest h) ∙ ap (λ o. put_found room filled (with_rest o rest)) (there a p)
      ∙ put_fits room a filled rest fits
  word_complete (Value-F.Tuple vs) filled line rest p fit h = cc
  word_complete (Value-F.Vector vs) filled line rest p fit h = cc
  word_complete (Value-F.Con c vs) filled line rest p fit h = cc

  pub word_exact : LayerExact room (is_word_of test) (λ l. word_in l ∷ []) (λ l. piece (word_in l) ∷ []) (read_word room word)
  word_exact = (word_sound, word_complete)

-- several parts, each by its own test

abbrev later_pieces : List (List Piece) → List Piece
later_pieces parts = flat_map (λ later. Comma ∷ (Space ∷ later)) parts

pub data AllExact : ℕ → List (Value → Bool) → List (Value → List ℕ) → List (Value → List Piece) → List Reader → Type 0 where
  none : {room : ℕ} → AllExact room [] [] [] []
  one : {room : ℕ} {t : Value → Bool} {f : Value → List ℕ} {s : Value
      → List Piece} {reader : Reader} {ts : List (Value → Bool)} {fs : List (Value → List ℕ)} {ss : List (Value
      → List Piece)} {readers : List Reader}
      → Exact room t f s reader → AllExact room ts fs ss readers → AllExact room (t ∷ ts) (f ∷ fs) (s ∷ ss) (reader ∷ readers)

later_sound : {room : ℕ} {ts : List (Value → Bool)} {fs : List (Value → List ℕ)} {ss : List (Value → List Piece)} {readers : List Reader}
    → AllExact room ts fs ss readers → (filled line more rest : List ℕ) → read_several false readers filled line ≡ Some (more, rest)
    → (vs : List Value) × (all_pass ts vs ≡ true) × (more ≡ filled ++ joined fs vs) × Cuts line (later_pieces (each_spelled ss vs)) rest
later_sound none filled line more rest e = let same = same_pair filled more line rest e in ([], refl, sym same.0 ∙ append_nothing filled, same.1)
later_sound (one {t = t} {f = f} {s = s} {reader = reader} {ts = ts} {fs = fs} {ss = ss} {readers = readers} exact others) filled line more rest e =
    let both = then_inv (read_on (behind_sign is_comma (next line)) (reader filled)) (read_several false readers) more rest e in
    let on = on_inv (behind_sign is_comma (next line)) (reader filled) both.0 both.1 both.2 in
    let comma = sign_inv is_comma Comma comma_only (next line) on.0 on.1 in
    let own = exact.0 filled on.0 both.0 both.1 on.2 in
    let left = later_sound others both.0 both.1 more rest both.3 in (
      own.0 ∷ left.0,
      both_true (t own.0) (all_pass ts left.0) own.1 left.1,
      left.2 ∙ ap (λ ws. ws ++ joined fs left.0) own.2
          ∙ append_assoc filled (f own.0) (joined fs left.0),
      (on.0, comma, cuts_join (s own.0) (later_pieces (each_spelled ss left.0)) on.0 both.1 rest own.3 left.3),
    )

later_complete : {room : ℕ} {ts : List (Value → Bool)} {fs : List (Value → List ℕ)} {ss : List (Value → List Piece)} {readers : List Reader}
    → AllExact room ts fs ss readers → (vs : List Value) (filled line rest : List ℕ) → all_pass ts vs ≡ true → length filled + length (joined fs vs) ≤ room
    → Cuts line (later_pieces (each_spelled ss vs)) rest → read_several false readers filled line ≡ Some (filled ++ joined fs vs, rest)
later_complete none [] filled line rest p fit h = some_pair filled (filled ++ []) line rest (append_nothing filled) h
later_complete none (v ∷ vs) filled line rest p fit h = cc
later_complete (one exact others) [] filled line rest p fit h = cc
later_complete (one {f = f} {s = s} {reader = reader} {fs = fs} {ss = ss} {readers = readers} exact others) (v ∷ vs) filled line rest p fit h =
    let ps = and_parts _ _ p in
    let split = cuts_split (s v) (later_pieces (each_spelled ss vs)) h.0 rest h.2 in
    let own : reader filled h.0 ≡ Some (filled ++ f v, split.0) = exact.1 v filled h.0 split.0 ps.0 (omega (arith, fit, length-append (f v) (joined fs vs))) split.1 in
    let left = later_complete others vs (filled ++ f v) split.0 rest ps.1 (omega (arith, fit, length-append (f v) (joined fs vs), length-append filled (f v))) split.2 in
    ap (λ c. then_read (read_on (behind_sign is_comma c) (reader filled)) (read_several false readers)) h.1 ∙ ap (λ r. then_read r (read_several false readers)) own
    ∙ left ∙ ap (λ w. Some (w, rest)) (append_assoc filled (f v) (joined fs vs))

parts_sound : {room : ℕ} {ts : List (Value → Bool)} {fs : List (Value → List ℕ)} {ss : List (Value → List Piece)} {readers : List Reader}
    → AllExact room ts fs ss readers → (filled line more rest : List ℕ) → read_several true readers filled line ≡ Some (more, rest)
    → (vs : List Value) × (all_pass ts vs ≡ true) × (more ≡ filled ++ joined fs vs) × Cuts line (with_commas (each_spelled ss vs)) rest
parts_sound none filled line more rest e = let same = same_pair filled more line rest e in ([], refl, sym same.0 ∙ append_nothing filled, same.1)
parts_sound (one {t = t} {f = f} {s = s} {reader = reader} {ts = ts} {fs = fs} {ss = ss} {readers = readers} exact others) filled line more rest e =
    let both = then_inv (reader filled line) (read_several false readers) more rest e in
    let own = exact.0 filled line both.0 both.1 both.2 in
    let left = later_sound others both.0 both.1 more rest both.3 in (
      own.0 ∷ left.0,
      both_true (t own.0) (all_pass ts left.0) own.1 left.1,
      left.2 ∙ ap (λ ws. ws ++ joined fs left.0) own.2
          ∙ append_assoc filled (f own.0) (joined fs left.0),
      cuts_join (s own.0) (later_pieces (each_spelled ss left.0)) line both.1 rest own.3 left.3,
    )

parts_complete : {room : ℕ} {ts : List (Value → Bool)} {fs : List (Value → List ℕ)} {ss : List (Value → List Piece)} {readers : List Reader}
    → AllExact room ts fs ss readers → (vs : List Value) (filled line rest : List ℕ) → all_pass ts vs ≡ true → length filled + length (joined fs vs) ≤ room
    → Cuts line (with_commas (each_spelled ss vs)) rest → read_several true readers filled line ≡ Some (filled ++ joined fs vs, rest)
parts_complete none [] filled line rest p fit h = some_pair filled (filled ++ []) line rest (append_nothing filled) h
parts_complete none (v ∷ vs) filled line rest p fit h = cc
parts_complete (one exact others) [] filled line rest p fit h = cc
parts_complete (one {f = f} {s = s} {reader = reader} {fs = fs} {ss = ss} {readers = readers} exact others) (v ∷ vs) filled line rest p fit h =
    let ps = and_parts _ _ p in
    let split = cuts_split (s v) (later_pieces (each_spelled ss vs)) line rest h in
    let own : reader filled line ≡ Some (filled ++ f v, split.0) = exact.1 v filled line split.0 ps.0 (omega (arith, fit, length-append (f v) (joined fs vs))) split.1 in
    let left = later_complete others vs (filled ++ f v) split.0 rest ps.1 (omega (arith, fit, length-append (f v) (joined fs vs), length-append filled (f v))) split.2 in
    ap (λ r. then_read r (read_several false readers)) own ∙ left ∙ ap (λ w. Some (w, rest)) (append_assoc filled (f v) (joined fs vs))

-- what is between two signs
in_complete : (opening closing : Piece → Bool) (readers : List Reader) (words line inner more last rest : List ℕ) → behind_sign opening (next line) ≡ Some inner
    → read_several true readers words inner ≡ Some (more, last) → behind_sign closing (next last) ≡ Some rest
    → read_in opening closing readers words line ≡ Some (more, rest)
in_complete opening closing readers words line inner more last rest e is closed =
    ap (λ o. closed_by closing (read_on o (read_several true readers words))) e ∙ ap (closed_by closing) is
    ∙ ap (λ o. read_on o (λ (later : List ℕ). Some (more, later))) closed

pub tuple_exact : {room : ℕ} {ts : List (Value → Bool)} {fs : List (Value → List ℕ)} {ss : List (Value → List Piece)} {readers : List Reader}
    → AllExact room ts fs ss readers
    → LayerExact room (is_tuple_of ts) (λ l. joined fs (parts_in l)) (λ l. Open ∷ (with_commas (each_spelled ss (parts_in l)) ++ Close ∷ [])) (λ words line. read_in is_open is_close readers words line)
tuple_exact {room} {ts} {fs} {ss} {readers} all = (sound, complete)
  where
    sound : LayerSound (is_tuple_of ts) (λ l. joined fs (parts_in l)) (λ l. Open ∷ (with_commas (each_spelled ss (parts_in l)) ++ Close ∷ [])) (λ words line. read_in is_open is_close readers words line)
    sound filled line more rest e =
        let closed = closed_inv is_close (read_on (behind_sign is_open (next line)) (read_several true readers filled)) more rest e in
        let on = on_inv (behind_sign is_open (next line)) (read_several true readers filled) more closed.0 closed.1 in
        let own = parts_sound all filled on.0 more closed.0 on.2 in
        let opened = sign_inv is_open Open open_only (next line) on.0 on.1 in
        let ended = sign_inv is_close Close close_only (next closed.0) rest closed.2 in
        (Value-F.Tuple own.0, own.1, own.2, (on.0, opened, cuts_join (with_commas (each_spelled ss own.0)) (Close ∷ []) on.0 closed.0 rest own.3 (rest, ended, refl)))

    complete : LayerComplete room (is_tuple_of ts) (λ l. joined fs (parts_in l)) (λ l. Open ∷ (with_commas (each_spelled ss (parts_in l)) ++ Close ∷ [])) (λ words line. read_in is_open is_close readers words line)
    complete (Value-F.Tuple vs) filled line rest p fit h =
        let split = cuts_split (with_commas (each_spelled ss vs)) (Close ∷ []) h.0 rest h.2 in
        let ended : next split.0 ≡ Some (Close, rest) = split.2.1 ∙ ap (λ r. Some (Close, r)) split.2.2 in
        in_complete is_open is_close readers filled line h.0 (filled ++ joined fs vs) split.0 rest (ap (behind_sign is_open) h.1)
        (parts_complete all vs filled h.0 split.0 p fit split.1) (ap (behind_sign is_close) ended)
    complete (Value-F.Word a) filled line rest p fit h = cc
    complete (Value-F.Vector vs) filled line rest p fit h = cc
    complete (Value-F.Con c vs) filled line rest p fit h = cc

-- several values of one type, by as many tests

same_joined : (f : Value → List ℕ) (n : ℕ) (vs : List Value) → length vs ≡ n → joined (replicate {A = Value → List ℕ} n f) vs ≡ flat_map f vs
same_joined f zero [] e = refl
same_joined f zero (v ∷ vs) e = absurd (omega arith)
same_joined f (suc n) [] e = absurd (omega arith)
same_joined f (suc n) (v ∷ vs) e = ap (λ ws. f v ++ ws) (same_joined f n vs (omega arith))

same_spelled : (s : Value → List Piece) (n : ℕ) (vs : List Value) → length vs ≡ n → each_spelled (replicate {A = Value → List Piece} n s) vs ≡ map s vs
same_spelled s zero [] e = refl
same_spelled s zero (v ∷ vs) e = absurd (omega arith)
same_spelled s (suc n) [] e = absurd (omega arith)
same_spelled s (suc n) (v ∷ vs) e = ap (λ ps. s v ∷ ps) (same_spelled s n vs (omega arith))

items_counted : (t : Value → Bool) (n : ℕ) (vs : List Value) → all_pass (replicate {A = Value → Bool} n t) vs ≡ true → (length vs ≡ n) × (list_all t vs ≡ true)
items_counted t zero [] p = (refl, refl)
items_counted t zero (v ∷ vs) p = cc
items_counted t (suc n) [] p = cc
items_counted t (suc n) (v ∷ vs) p =
    let ps = and_parts (t v) (all_pass (replicate {A = Value → Bool} n t) vs) p in
    let left = items_counted t n vs ps.1 in
    (let long : length (v ∷ vs) ≡ suc n = omega (arith, left.0) in long, both_true (t v) (list_all t vs) ps.0 left.1)

items_pass : (t : Value → Bool) (n : ℕ) (vs : List Value) → length vs ≡ n → list_all t vs ≡ true → all_pass (replicate {A = Value → Bool} n t) vs ≡ true
items_pass t zero [] e p = refl
items_pass t zero (v ∷ vs) e p = absurd (omega arith)
items_pass t (suc n) [] e p = absurd (omega arith)
items_pass t (suc n) (v ∷ vs) e p =
    let ps = and_parts (t v) (list_all t vs) p in
    both_true (t v) (all_pass (replicate {A = Value → Bool} n t) vs) ps.0 (items_pass t n vs (omega arith) ps.1)

items_all : (room n : ℕ) (t : Value → Bool) (f : Value → List ℕ) (s : Value → List Piece) (reader : Reader) → Exact room t f s reader
    → AllExact room (replicate {A = Value → Bool} n t) (replicate {A = Value → List ℕ} n f) (replicate {A = Value → List Piece} n s) (replicate {A = Reader} n reader)
items_all room zero t f s reader exact = none
items_all room (suc n) t f s reader exact = one exact (items_all room n t f s reader exact)

module _ (room n : ℕ) (t : Value → Bool) (f : Value → List ℕ) (s : Value → List Piece) (reader : Reader) (exact : Exact room t f s reader) where
  abbrev VectorSpelled : Value-F Value → List Piece
  VectorSpelled l = OpenVector ∷ (with_commas (map s (parts_in l)) ++ CloseVector ∷ [])

  abbrev vector_reader : Reader
  vector_reader words line = read_in is_open_vector is_close_vector (replicate {A = Reader} n reader) words line

  vector_sound : LayerSound (is_vector_of n t) (λ l. flat_map f (parts_in l)) VectorSpelled vector_reader
  vector_sound filled line more rest e =
      let readers : List Reader = replicate {A = Reader} n reader in
      let closed = closed_inv is_close_vector (read_on (behind_sign is_open_vector (next line)) (read_several true readers filled)) more rest e in
      let on = on_inv (behind_sign is_open_vector (next line)) (read_several true readers filled) more closed.0 closed.1 in
      let own = parts_sound (items_all room n t f s reader exact) filled on.0 more closed.0 on.2 in
      let count = items_counted t n own.0 own.1 in
      let opened = sign_inv is_open_vector OpenVector open_vector_only (next line) on.0 on.1 in
      let ended = sign_inv is_close_vector CloseVector close_vector_only (next closed.0) rest closed.2 in
      let cut : Cuts on.0 (with_commas (map s own.0)) closed.0 = subst (λ ps. Cuts on.0 (with_commas ps) closed.0) (same_spelled s n own.0 count.0) own.3 in (
        Value-F.Vector own.0,
        both_true (length own.0 == n) (list_all t own.0) (eq-eqb (length own.0) n count.0) count.1,
        own.2 ∙ ap (λ ws. filled ++ ws) (same_joined f n own.0 count.0),
        (on.0, opened, cuts_join (with_commas (map s own.0)) (CloseVector ∷ []) on.0 closed.0 rest cut (rest, ended, refl)),
      )

  vector_complete : LayerComplete room (is_vector_of n t) (λ l. flat_map f (parts_in l)) VectorSpelled vector_reader
  vector_complete (Value-F.Vector vs) filled line rest p fit h =
      let ps = and_parts (length vs == n) (list_all t vs) p in
      let count : length vs ≡ n = eqb-true (length vs) n ps.0 in
      let split = cuts_split (with_commas (map s vs)) (CloseVector ∷ []) h.0 rest h.2 in
      let ended : next split.0 ≡ Some (CloseVector, rest) = split.2.1 ∙ ap (λ r. Some (CloseVector, r)) split.2.2 in
      let words : joined (replicate {A = Value → List ℕ} n f) vs ≡ flat_map f vs = same_joined f n vs count in
      let cut : Cuts h.0 (with_commas (each_spelled (replicate {A = Value → List Piece} n s) vs)) split.0 =
      subst (λ ps. Cuts h.0 (with_commas ps) split.0) (sym (same_spelled s n vs count)) split.1 in
      in_complete is_open_vector is_close_vector (replicate {A = Reader} n reader) filled line h.0 (filled ++ flat_map f vs) split.0 rest (ap (behind_sign is_open_vector) h.1)
      (parts_complete (items_all room n t f s reader exact) vs filled h.0 split.0 (items_pass t n vs count ps.1)
      (subst (λ ws. length filled + length ws ≤ room) (sym words) fit) cut ∙ ap (λ ws. Some (filled ++ ws, split.0)) words) (ap (behind_sign is_close_vector) ended)
  vector_complete (Value-F.Word a) filled line rest p fit h = cc
  vector_complete (Value-F.Tuple vs) filled line rest p fit h = cc
  vector_complete (Value-F.Con c vs) filled line rest p fit h = cc

  pub vector_exact : LayerExact room (is_vector_of n t) (λ l. flat_map f (parts_in l)) VectorSpelled vector_reader
  vector_exact = (vector_sound, vector_complete)
