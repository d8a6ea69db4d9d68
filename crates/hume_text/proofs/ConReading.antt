-- Constructors, and the zeros after them, are read from their texts and from no other lines.
use Rattle.std.proofs.Common.{◌≡◌, ℕ, zero, suc, ◌+◌, ◌-◌, ◌<◌, ◌≤◌, nat_lt, nat_eq, Bool, true, false, List, [], ◌∷◌, ◌++◌, map, length, replicate, length-append, append_assoc, Option, Some, None, slice_get, if◌then◌else◌, refl, ap, sym, ◌∙◌, subst, arith}
use Rattle.std.proofs.lemmas.Bool.{and_parts, lt-ltb, ltb-true}
use Rattle.std.proofs.lemmas.Bool.Decides.{Decides-eqb}
use Rattle.std.proofs.lemmas.Slice.Eq.{slice_eq-Decides}
use Rattle.std.proofs.lemmas.List.{length-replicate}
use Rattle.std.specs.Cmp.Lexicographic.{pointwise}
use Rattle.std.specs.List.{AllByRecursion}
use Rattle.hume_base.specs.declared.types.Ty.{Ty}
use Rattle.hume_base.specs.declared.types.Value.{Value}
use Rattle.hume_base.specs.declared.types.Value.TheOpen.{Value-F}
use Rattle.hume_base.specs.declared.types.Types.{Types}
use Rattle.hume_base.specs.declared.types.SumDef.{SumDef}
use Rattle.hume_base.specs.declared.types.ConDef.{ConDef}
use Rattle.hume_base.specs.Values.{all_pass, fields_at, is_con_of}
use Rattle.hume_base.specs.Flat.{joined, padded, con_words}
use Rattle.hume_text.specs.Spelling.{Piece, Space, Open, Close, OpenVector, CloseVector, Comma, Name, Number, Letter, name_of, name_at, con_spelled}
use Rattle.hume_text.specs.Names.{HasNames}
use Rattle.hume_text.specs.Read.{next, Cuts}
use Rattle.hume_text.specs.inner.Readers.{Reading, Reader, then_read, first_named, place_in, with_rest, found_in, put_word, put_zeros, read_fields, read_con_found, read_con, filled_up, read_sum}
use Rattle.hume_text.proofs.ValuePrinting.{append_nothing}
use Rattle.hume_text.proofs.OneValue.{some_con}
use Rattle.hume_text.proofs.Inversions.{none_some, same_some, same_pair, then_inv, put_inv, put_fits, found_inv}
use Rattle.hume_text.proofs.LineReading.{Exact, LayerExact, LayerSound, LayerComplete, both_true, some_pair}
use Rattle.hume_text.proofs.FieldReading.{ShowsFields, fields_sound, fields_complete, laid}

-- names

pub names_true : (xs ys : List ℕ) → pointwise nat_eq xs ys ≡ true → xs ≡ ys
names_true xs ys e = (slice_eq-Decides Decides-eqb xs ys (pointwise nat_eq xs ys) refl).0 e

pub names_same : (xs ys : List ℕ) → xs ≡ ys → pointwise nat_eq xs ys ≡ true
names_same xs ys e = (slice_eq-Decides Decides-eqb xs ys (pointwise nat_eq xs ys) refl).1 e

first_inv : (place : ℕ) (cons : List ConDef) (name : List ℕ) (c : ℕ) → first_named place cons name ≡ Some c
    → (k : ℕ) × (c ≡ place + k) × (k < length cons) × (name_of (slice_get cons k) ≡ name)
first_inv place [] name c e = absurd (none_some c e)
first_inv place (con ∷ cons) name c e = go (pointwise nat_eq con.name name) refl e (first_inv (place + 1) cons name c)
  where
    go : (b : Bool) → pointwise nat_eq con.name name ≡ b → (if b then Some place else first_named (place + 1) cons name) ≡ Some c
        → (first_named (place + 1) cons name ≡ Some c → (k : ℕ) × (c ≡ place + 1 + k) × (k < length cons) × (name_of (slice_get cons k) ≡ name))
        → (k : ℕ) × (c ≡ place + k) × (k < length (con ∷ cons)) × (name_of (slice_get (con ∷ cons) k) ≡ name)
    go true q e' later = (zero, omega (arith, same_some place c e'), omega arith, names_true con.name name q)
    go false q e' later = let more = later e' in (suc more.0, omega (arith, more.1), omega (arith, more.2), more.3)

first_at : (place : ℕ) (cons : List ConDef) (k : ℕ) → k < length cons
    → ((i j : ℕ) (a b : ConDef) → slice_get cons i ≡ Some a → slice_get cons j ≡ Some b → a.name ≡ b.name → i ≡ j)
    → first_named place cons (name_of (slice_get cons k)) ≡ Some (place + k)
first_at place [] k h d = absurd (omega arith)
first_at place (con ∷ cons) zero h d =
    let same : place ≡ place + 0 = omega arith in
    ap (λ (b : Bool). if b then Some place else first_named (place + 1) cons con.name) (names_same con.name con.name refl) ∙ ap (λ n. Some n) same
first_at place (con ∷ cons) (suc k) h d =
    go (pointwise nat_eq con.name (name_of (slice_get cons k))) refl
    (first_at (place + 1) cons k (omega arith) (λ i j a b x y e. let later : suc i ≡ suc j = d (suc i) (suc j) a b x y e in omega arith))
  where
    apart : (o : Option ConDef) → slice_get cons k ≡ o → con.name ≡ name_of o → ⊥
    apart None found e = some_con cons k (omega arith) found
    apart (Some other) found e = let same : 0 ≡ suc k = d zero (suc k) con other refl found e in omega arith

    go : (b : Bool) → pointwise nat_eq con.name (name_of (slice_get cons k)) ≡ b
        → first_named (place + 1) cons (name_of (slice_get cons k)) ≡ Some (place + 1 + k) → first_named place (con ∷ cons) (name_of (slice_get cons k)) ≡ Some (place + suc k)
    go true q later = absurd (apart (slice_get cons k) refl (names_true con.name (name_of (slice_get cons k)) q))
    go false q later =
        let next_place : place + 1 + k ≡ place + suc k = omega arith in
        ap (λ (b : Bool). if b then Some place else first_named (place + 1) cons (name_of (slice_get cons k))) q
        ∙ later
        ∙ ap (λ n. Some n) next_place

place_inv : (sum : SumDef) (p : Piece) (c : ℕ) → place_in sum p ≡ Some c → (c < length sum.cons) × (p ≡ Name (name_at sum c))
place_inv sum (Name name) c e =
    let first = first_inv 0 sum.cons name c e in
    let same : first.0 ≡ c = omega (arith, first.1) in
    (omega (arith, first.2, same), ap (λ n. Name n) (sym first.3 ∙ ap (λ k. name_of (slice_get sum.cons k)) same))
place_inv sum Space c e = absurd (none_some c e)
place_inv sum Open c e = absurd (none_some c e)
place_inv sum Close c e = absurd (none_some c e)
place_inv sum OpenVector c e = absurd (none_some c e)
place_inv sum CloseVector c e = absurd (none_some c e)
place_inv sum Comma c e = absurd (none_some c e)
place_inv sum (Number z) c e = absurd (none_some c e)
place_inv sum (Letter a) c e = absurd (none_some c e)

-- zeros

zeros_inv : (room n : ℕ) (words line more rest : List ℕ) → put_zeros room n words line ≡ Some (more, rest) → (more ≡ words ++ replicate {A = ℕ} n 0) × (rest ≡ line)
zeros_inv room zero words line more rest e = let same = same_pair words more line rest e in (sym same.0 ∙ append_nothing words, sym same.1)
zeros_inv room (suc n) words line more rest e =
    let both = then_inv (put_word room 0 words line) (put_zeros room n) more rest e in
    let first = put_inv room 0 words line both.0 both.1 both.2 in
    let left = zeros_inv room n both.0 both.1 more rest both.3 in
    (left.0 ∙ ap (λ ws. ws ++ replicate {A = ℕ} n 0) first.0 ∙ append_assoc words (0 ∷ []) (replicate {A = ℕ} n 0), left.1 ∙ first.1)

zeros_fit : (room n : ℕ) (words line : List ℕ) → length words + n ≤ room → put_zeros room n words line ≡ Some (words ++ replicate {A = ℕ} n 0, line)
zeros_fit room zero words line fit = some_pair words (words ++ []) line line (append_nothing words) refl
zeros_fit room (suc n) words line fit =
    ap (λ r. then_read r (put_zeros room n)) (put_fits room 0 words line (omega (arith, fit)))
    ∙ zeros_fit room n (words ++ 0 ∷ []) line (omega (arith, fit, length-append words (0 ∷ [])))
    ∙ ap (λ w. Some (w, line)) (append_assoc words (0 ∷ []) (replicate {A = ℕ} n 0))

filled_inv : (room size : ℕ) (words : List ℕ) (r : Reading) (more rest : List ℕ) → filled_up room size words r ≡ Some (more, rest)
    → (mid : List ℕ) × (later : List ℕ) × (r ≡ Some (mid, later)) × (put_zeros room (size - (length mid - length words)) mid later ≡ Some (more, rest))
filled_inv room size words None more rest e = absurd (none_some (more, rest) e)
filled_inv room size words (Some read) more rest e = (read.0, read.1, refl, e)

con_inv : (types : Types) (room : ℕ) (reader : Ty → Reader) (sum : SumDef) (words : List ℕ) (o : Option (ℕ × List ℕ)) (more rest : List ℕ)
    → read_con_found types room reader sum words o ≡ Some (more, rest)
    → (c : ℕ) × (after : List ℕ) × (o ≡ Some (c, after)) × (then_read (put_word room c words after) (read_fields types reader (fields_at sum c)) ≡ Some (more, rest))
con_inv types room reader sum words None more rest e = absurd (none_some (more, rest) e)
con_inv types room reader sum words (Some found) more rest e = (found.0, found.1, refl, e)

past : (filled words : List ℕ) → length (filled ++ words) - length filled ≡ length words
past filled words = omega (arith, length-append filled words)

module _ (types : Types) (room : ℕ) (t : Ty → Value → Bool) (f : Ty → Value → List ℕ) (s : Ty → Value → List Piece) (reader : Ty → Reader)
    (Good : Ty → Type 0) (exact : (ty : Ty) → Good ty → Exact room (t ty) (f ty) (s ty) (reader ty))
    (shows : (ty : Ty) → ShowsFields types ty (t ty) (f ty) (s ty))
    (size : ℕ) (sum : SumDef) (whole : sum.words ≡ size) (names : HasNames sum) (good : (c : ℕ) → AllByRecursion Good (fields_at sum c)) where
  abbrev words_of : ℕ → List Value → List ℕ
  words_of c vs = c ∷ joined (map f (fields_at sum c)) vs

  abbrev sum_reader : Reader
  sum_reader words line = read_sum types room reader (Some sum) words line

  con_sound : LayerSound (is_con_of t sum) (λ l. padded size (con_words f sum l)) (con_spelled s sum) sum_reader
  con_sound filled line more rest e =
      let all = filled_inv room sum.words filled (read_con types room reader sum filled line) more rest e in
      let con = con_inv types room reader sum filled (found_in (place_in sum) (next line)) all.0 all.1 all.2 in
      let both = then_inv (put_word room con.0 filled con.1) (read_fields types reader (fields_at sum con.0)) all.0 all.1 con.3 in
      let put = put_inv room con.0 filled con.1 both.0 both.1 both.2 in
      let found = found_inv (place_in sum) (next line) con.0 con.1 con.2 in
      let place = place_inv sum found.0 con.0 found.2 in
      let fields = fields_sound types room t f s reader Good exact shows (fields_at sum con.0) (good con.0) both.0 both.1 all.0 all.1 both.3 in
      let ws : List ℕ = words_of con.0 fields.0 in
      let mid : all.0 ≡ filled ++ ws = fields.2 ∙ ap (λ w. w ++ joined (map f (fields_at sum con.0)) fields.0) put.0
      ∙ append_assoc filled (con.0 ∷ []) (joined (map f (fields_at sum con.0)) fields.0) in
      let zeros = zeros_inv room (sum.words - (length all.0 - length filled)) all.0 all.1 more rest all.3 in
      let count : sum.words - (length all.0 - length filled) ≡ size - length ws = ap (λ n. n - (length all.0 - length filled)) whole
      ∙ ap (λ w. size - (length w - length filled)) mid ∙ ap (λ n. size - n) (past filled ws) in
      let token : next line ≡ Some (Name (name_at sum con.0), con.1) = found.1 ∙ ap (λ p. Some (p, con.1)) place.1 in
      let cut : Cuts con.1 (laid types room t f s reader Good exact shows (fields_at sum con.0) fields.0) all.1 =
      subst (λ l. Cuts l (laid types room t f s reader Good exact shows (fields_at sum con.0) fields.0) all.1) put.1 fields.3 in (
        Value-F.Con con.0 fields.0,
        both_true (nat_lt con.0 (length sum.cons)) (all_pass (map t (fields_at sum con.0)) fields.0) (lt-ltb con.0 (length sum.cons) place.0) fields.1,
        zeros.0 ∙ ap (λ n. all.0 ++ replicate {A = ℕ} n 0) count ∙ ap (λ w. w ++ replicate {A = ℕ} (size - length ws) 0) mid
            ∙ append_assoc filled ws (replicate {A = ℕ} (size - length ws) 0),
        (con.1, token, subst (λ r. Cuts con.1 (laid types room t f s reader Good exact shows (fields_at sum con.0) fields.0) r) (sym zeros.1) cut),
      )

  con_complete : LayerComplete room (is_con_of t sum) (λ l. padded size (con_words f sum l)) (con_spelled s sum) sum_reader
  con_complete (Value-F.Con c vs) filled line rest p fit h =
      let ps = and_parts (nat_lt c (length sum.cons)) (all_pass (map t (fields_at sum c)) vs) p in
      let ws : List ℕ = words_of c vs in
      let inner : List ℕ = joined (map f (fields_at sum c)) vs in
      let zeros : List ℕ = replicate {A = ℕ} (size - length ws) 0 in
      let long : length (ws ++ zeros) ≡ length ws + (size - length ws) = length-append ws zeros ∙ ap (λ n. length ws + n) (length-replicate _ _) in
      let room_for : length filled + (length ws + (size - length ws)) ≤ room = subst (λ n. length filled + n ≤ room) long fit in
      let place : place_in sum (Name (name_at sum c)) ≡ Some c = first_at 0 sum.cons c (ltb-true c (length sum.cons) ps.0) names.differ ∙ ap (λ n. Some n) (let from_zero : 0 + c ≡ c = omega arith in from_zero) in
      let found : found_in (place_in sum) (next line) ≡ Some (c, h.0) = ap (found_in (place_in sum)) h.1 ∙ ap (λ o. with_rest o h.0) place in
      let put : put_word room c filled h.0 ≡ Some (filled ++ c ∷ [], h.0) = put_fits room c filled h.0 (omega (arith, room_for)) in
      let fields : read_fields types reader (fields_at sum c) (filled ++ c ∷ []) h.0 ≡ Some ((filled ++ c ∷ []) ++ inner, rest) =
      fields_complete types room t f s reader Good exact shows (fields_at sum c) (good c) vs (filled ++ c ∷ []) h.0 rest ps.1
      (omega (arith, room_for, length-append filled (c ∷ []))) h.2 in
      let con : read_con types room reader sum filled line ≡ Some (filled ++ ws, rest) =
      ap (read_con_found types room reader sum filled) found ∙ ap (λ r. then_read r (read_fields types reader (fields_at sum c))) put
      ∙ fields ∙ ap (λ w. Some (w, rest)) (append_assoc filled (c ∷ []) inner) in
      let count : sum.words - (length (filled ++ ws) - length filled) ≡ size - length ws = ap (λ n. n - (length (filled ++ ws) - length filled)) whole
      ∙ ap (λ n. size - n) (past filled ws) in
      ap (filled_up room sum.words filled) con ∙ ap (λ n. put_zeros room n (filled ++ ws) rest) count
      ∙ zeros_fit room (size - length ws) (filled ++ ws) rest (omega (arith, room_for, length-append filled ws))
      ∙ ap (λ w. Some (w, rest)) (append_assoc filled ws zeros)
  con_complete (Value-F.Word a) filled line rest p fit h = cc
  con_complete (Value-F.Tuple vs) filled line rest p fit h = cc
  con_complete (Value-F.Vector vs) filled line rest p fit h = cc

  pub con_exact : LayerExact room (is_con_of t sum) (λ l. padded size (con_words f sum l)) (con_spelled s sum) sum_reader
  con_exact = (con_sound, con_complete)
