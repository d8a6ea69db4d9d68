-- The fields of a constructor are read from their texts and from no other lines.
use Rattle.std.proofs.Common.{◌≡◌, ℕ, ◌+◌, ◌≤◌, Bool, true, false, List, [], ◌∷◌, ◌++◌, map, length, drop, length-append, append_assoc, Option, Some, None, if◌then◌else◌, refl, ap, sym, ◌∙◌, subst, arith}
use Rattle.std.proofs.Math.Seq.{drop-append_seam}
use Rattle.std.proofs.lemmas.Bool.{and_parts}
use Rattle.std.specs.List.{flat_map, AllByRecursion}
use Rattle.hume_base.specs.declared.types.Ty.{Ty, out-Ty}
use Rattle.hume_base.specs.declared.types.Ty.TheOpen.{Ty-F}
use Rattle.hume_base.specs.declared.types.Value.{Value, out-Value}
use Rattle.hume_base.specs.declared.types.Types.{Types}
use Rattle.hume_base.specs.Values.{all_pass}
use Rattle.hume_base.specs.Flat.{joined}
use Rattle.hume_text.specs.Spelling.{Piece, Space, Open, Close, each_spelled, has_fields, as_field}
use Rattle.hume_text.specs.Read.{next, Cuts}
use Rattle.hume_text.specs.inner.Printers.{is_compound}
use Rattle.hume_text.specs.inner.Readers.{Reading, Reader, then_read, is_open, is_close, behind_sign, opens, closed_field, field_ended, field_start, read_from, read_field, read_fields}
use Rattle.hume_text.proofs.ValuePrinting.{append_nothing}
use Rattle.hume_text.proofs.Reading.{field-read}
use Rattle.hume_text.proofs.Inversions.{cuts_join, cuts_split, none_some, same_some, same_pair, then_inv, on_inv, sign_inv, open_only, close_only}
use Rattle.hume_text.proofs.LineReading.{Sound, Complete, Exact, both_true, some_pair}

opens_inv : (y : Ty-F Ty) (line inner : List ℕ) → opens y line ≡ Some inner → behind_sign is_open (next line) ≡ Some inner
opens_inv (Ty-F.Named k) line inner e = e
opens_inv Ty-F.Bool line inner e = absurd (none_some inner e)
opens_inv Ty-F.Char line inner e = absurd (none_some inner e)
opens_inv (Ty-F.Int n) line inner e = absurd (none_some inner e)
opens_inv (Ty-F.Nat n) line inner e = absurd (none_some inner e)
opens_inv (Ty-F.Tuple tys) line inner e = absurd (none_some inner e)
opens_inv (Ty-F.Vector n ty) line inner e = absurd (none_some inner e)

ended_inv : (types : Types) (ty : Ty) (words : List ℕ) (opened : Bool) (r : Reading) (more rest : List ℕ) → field_ended types ty words opened r ≡ Some (more, rest)
    → (later : List ℕ) × (r ≡ Some (more, later)) × (closed_field opened (is_compound types (out-Ty ty) (drop (length words) more)) later ≡ Some rest)
ended_inv types ty words opened None more rest e = absurd (none_some (more, rest) e)
ended_inv types ty words opened (Some read) more rest e =
    let on = on_inv (closed_field opened (is_compound types (out-Ty ty) (drop (length words) read.0)) read.1) (λ (later : List ℕ). Some (read.0, later)) more rest e in
    let same = same_pair read.0 more on.0 rest on.2 in (
      read.1,
      ap (λ w. Some (w, read.1)) same.0,
      ap (λ w. closed_field opened (is_compound types (out-Ty ty) (drop (length words) w)) read.1) (sym same.0) ∙ on.1 ∙ ap (λ l. Some l) same.1,
    )

bare_inv : (b : Bool) (later rest : List ℕ) → closed_field false b later ≡ Some rest → (b ≡ false) × (later ≡ rest)
bare_inv true later rest e = absurd (none_some rest e)
bare_inv false later rest e = (refl, same_some later rest e)

close_inv : (b : Bool) (later rest : List ℕ) → closed_field true b later ≡ Some rest → (b ≡ true) × (behind_sign is_close (next later) ≡ Some rest)
close_inv true later rest e = (refl, e)
close_inv false later rest e = absurd (none_some rest e)

-- what a field's type has to keep
pub record ShowsFields (types : Types) (ty : Ty) (t : Value → Bool) (f : Value → List ℕ) (s : Value → List Piece) : Type 0 where
  pub compound : (v : Value) (r : List ℕ) → t v ≡ true → is_compound types (out-Ty ty) (f v ++ r) ≡ has_fields (out-Value v)
  pub begins : (v : Value) (line rest : List ℕ) → t v ≡ true → Cuts line (s v) rest → opens (out-Ty ty) line ≡ None
  pub opening : (v : Value) (line : List ℕ) → t v ≡ true → has_fields (out-Value v) ≡ true → opens (out-Ty ty) line ≡ behind_sign is_open (next line)

module _ (types : Types) (ty : Ty) (room : ℕ) (t : Value → Bool) (f : Value → List ℕ) (s : Value → List Piece) (reader : Reader) (exact : Exact room t f s reader)
    (shows : ShowsFields types ty t f s) where
  abbrev Laid : Bool → Value → List Piece
  Laid b v = if b then Space ∷ (Open ∷ (s v ++ Close ∷ [])) else Space ∷ s v

  -- the words of a value behind others tell if it has fields
  seen : (filled : List ℕ) (v : Value) → t v ≡ true → is_compound types (out-Ty ty) (drop (length filled) (filled ++ f v)) ≡ has_fields (out-Value v)
  seen filled v p =
      ap (is_compound types (out-Ty ty)) (drop-append_seam filled (f v) ∙ append_nothing (f v)) ∙ shows.compound v [] p

  field_sound : Sound t f (as_field s) (λ words line. read_field types ty reader words line)
  field_sound filled line more rest e = go (opens (out-Ty ty) line) refl e
    where
      go : (o : Option (List ℕ)) → opens (out-Ty ty) line ≡ o → read_from types ty reader filled (field_start o line) ≡ Some (more, rest)
          → (v : Value) × (t v ≡ true) × (more ≡ filled ++ f v) × Cuts line (as_field s v) rest
      go None q e' =
          let ended = ended_inv types ty filled false (reader filled line) more rest e' in
          let own = exact.0 filled line more ended.0 ended.1 in
          let is : is_compound types (out-Ty ty) (drop (length filled) more) ≡ has_fields (out-Value own.0) =
          ap (λ w. is_compound types (out-Ty ty) (drop (length filled) w)) own.2 ∙ seen filled own.0 own.1 in
          let bare = bare_inv (has_fields (out-Value own.0)) ended.0 rest (ap (λ b. closed_field false b ended.0) (sym is) ∙ ended.2) in
          (own.0, own.1, own.2, subst (λ b. Cuts line (Laid b own.0) rest) (sym bare.0) (subst (λ r. Cuts line (s own.0) r) bare.1 own.3))
      go (Some inner) q e' =
          let ended = ended_inv types ty filled true (reader filled inner) more rest e' in
          let own = exact.0 filled inner more ended.0 ended.1 in
          let is : is_compound types (out-Ty ty) (drop (length filled) more) ≡ has_fields (out-Value own.0) =
          ap (λ w. is_compound types (out-Ty ty) (drop (length filled) w)) own.2 ∙ seen filled own.0 own.1 in
          let closed = close_inv (has_fields (out-Value own.0)) ended.0 rest (ap (λ b. closed_field true b ended.0) (sym is) ∙ ended.2) in
          let opened = sign_inv is_open Open open_only (next line) inner (opens_inv (out-Ty ty) line inner q) in
          let last = sign_inv is_close Close close_only (next ended.0) rest closed.1 in (
            own.0,
            own.1,
            own.2,
            subst (λ b. Cuts line (Laid b own.0) rest) (sym closed.0)
                (inner, opened, cuts_join (s own.0) (Close ∷ []) inner ended.0 rest own.3 (rest, last, refl)),
          )

  field_complete : Complete room t f (as_field s) (λ words line. read_field types ty reader words line)
  field_complete v filled line rest p fit h = go (has_fields (out-Value v)) refl h
    where
      go : (b : Bool) → has_fields (out-Value v) ≡ b → Cuts line (Laid b v) rest → read_field types ty reader filled line ≡ Some (filled ++ f v, rest)
      go true q k =
          let split = cuts_split (s v) (Close ∷ []) k.0 rest k.2 in
          let last : next split.0 ≡ Some (Close, rest) = split.2.1 ∙ ap (λ r. Some (Close, r)) split.2.2 in
          let start : opens (out-Ty ty) line ≡ Some k.0 = shows.opening v line p q ∙ ap (behind_sign is_open) k.1 in
          field-read types ty reader filled line true k.0 (filled ++ f v) split.0 true (Some rest) (ap (λ o. field_start o line) start)
          (exact.1 v filled k.0 split.0 p fit split.1) (sym (seen filled v p ∙ q)) (ap (behind_sign is_close) last)
      go false q k =
          field-read types ty reader filled line false line (filled ++ f v) rest false (Some rest) (ap (λ o. field_start o line) (shows.begins v line rest p k))
          (exact.1 v filled line rest p fit k) (sym (seen filled v p ∙ q)) refl

  pub field_exact : Exact room t f (as_field s) (λ words line. read_field types ty reader words line)
  field_exact = (field_sound, field_complete)

abbrev joined_pieces : List (List Piece) → List Piece
joined_pieces parts = flat_map (λ part. part) parts

module _ (types : Types) (room : ℕ) (t : Ty → Value → Bool) (f : Ty → Value → List ℕ) (s : Ty → Value → List Piece) (reader : Ty → Reader)
    (Good : Ty → Type 0) (exact : (ty : Ty) → Good ty → Exact room (t ty) (f ty) (s ty) (reader ty))
    (shows : (ty : Ty) → ShowsFields types ty (t ty) (f ty) (s ty)) where
  abbrev pub laid : List Ty → List Value → List Piece
  laid tys vs = joined_pieces (each_spelled (map (λ ty. as_field (s ty)) tys) vs)

  pub fields_sound : (tys : List Ty) → AllByRecursion Good tys → (filled line more rest : List ℕ) → read_fields types reader tys filled line ≡ Some (more, rest)
      → (vs : List Value) × (all_pass (map t tys) vs ≡ true) × (more ≡ filled ++ joined (map f tys) vs) × Cuts line (laid tys vs) rest
  fields_sound [] good filled line more rest e = let same = same_pair filled more line rest e in ([], refl, sym same.0 ∙ append_nothing filled, same.1)
  fields_sound (ty ∷ tys) good filled line more rest e =
      let both = then_inv (read_field types ty (reader ty) filled line) (read_fields types reader tys) more rest e in
      let own = (field_exact types ty room (t ty) (f ty) (s ty) (reader ty) (exact ty good.0) (shows ty)).0 filled line both.0 both.1 both.2 in
      let left = fields_sound tys good.1 both.0 both.1 more rest both.3 in (
        own.0 ∷ left.0,
        both_true (t ty own.0) (all_pass (map t tys) left.0) own.1 left.1,
        left.2 ∙ ap (λ ws. ws ++ joined (map f tys) left.0) own.2 ∙ append_assoc filled (f ty own.0) (joined (map f tys) left.0),
        cuts_join (as_field (s ty) own.0) (laid tys left.0) line both.1 rest own.3 left.3,
      )

  pub fields_complete : (tys : List Ty) → AllByRecursion Good tys → (vs : List Value) (filled line rest : List ℕ) → all_pass (map t tys) vs ≡ true
      → length filled + length (joined (map f tys) vs) ≤ room → Cuts line (laid tys vs) rest
      → read_fields types reader tys filled line ≡ Some (filled ++ joined (map f tys) vs, rest)
  fields_complete [] good [] filled line rest p fit h = some_pair filled (filled ++ []) line rest (append_nothing filled) h
  fields_complete [] good (v ∷ vs) filled line rest p fit h = cc
  fields_complete (ty ∷ tys) good [] filled line rest p fit h = cc
  fields_complete (ty ∷ tys) good (v ∷ vs) filled line rest p fit h =
      let ps = and_parts (t ty v) (all_pass (map t tys) vs) p in
      let words : List ℕ = joined (map f tys) vs in
      let split = cuts_split (as_field (s ty) v) (laid tys vs) line rest h in
      let own : read_field types ty (reader ty) filled line ≡ Some (filled ++ f ty v, split.0) =
      (field_exact types ty room (t ty) (f ty) (s ty) (reader ty) (exact ty good.0) (shows ty)).1 v filled line split.0 ps.0 (omega (arith, fit, length-append (f ty v) words)) split.1 in
      let left = fields_complete tys good.1 vs (filled ++ f ty v) split.0 rest ps.1 (omega (arith, fit, length-append (f ty v) words, length-append filled (f ty v))) split.2 in
      ap (λ r. then_read r (read_fields types reader tys)) own ∙ left ∙ ap (λ w. Some (w, rest)) (append_assoc filled (f ty v) words)
