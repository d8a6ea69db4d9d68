-- How the reading of a line goes on.
use Rattle.std.proofs.Common.{◌≡◌, ℕ, zero, suc, ◌+◌, ◌-◌, ◌<◌, ◌≤◌, List, [], ◌∷◌, ◌++◌, length, take, drop, replicate, slice_get, None, Some, Bool, true, false, subst, Option, slice_range, refl, ap, sym, ◌∙◌, arith, inl, inr}
use Rattle.std.proofs.lemmas.Bool.{cases_eq, eq-eqb, ne_eqb}
use Rattle.std.proofs.lemmas.Grind.{common_steps}
use Rattle.std.proofs.lemmas.List.{length-take-le, drop-take}
use Rattle.hume_base.specs.declared.types.Ty.{Ty, Vector, out-Ty, fold-roll-Ty, the_lemmas}
use Rattle.hume_base.specs.declared.types.Ty.TheOpen.{Ty-F}
use Rattle.hume_base.specs.declared.types.Ty.TheVariants.{rolls-Vector}
use Rattle.hume_base.specs.declared.types.Types.{Types}
use Rattle.hume_text.specs.Spelling.{Piece}
use Rattle.hume_text.specs.Read.{next}
use Rattle.hume_text.specs.inner.Printers.{is_compound}
use Rattle.hume_text.specs.inner.Readers.{Reading, Reader, opens, field_start, closed_field, field_ended, read_from, then_read, read_on, behind_sign, closed_by, read_in, put_word, put_zeros, read_part, read_several, read_field, read_fields, read_step, read_with, read_named, read_sum, is_open_vector, is_close_vector}
use Rattle.hume_text.proofs.Ranks.{rank-falls, some_size}

pub read-past : (types : Types) (room bound number : ℕ) (words line : List ℕ) → bound ≤ number → read_named types room bound number words line ≡ None
unfolding read_named
read-past types room zero number words line past = refl
read-past types room (suc bound) number words line past =
    let other : number ≡ bound → ⊥ = λ e. omega arith in
    rw (ne_eqb number bound other) (read-past types room bound number words line (omega arith))

pub read-at : (types : Types) (room bound number : ℕ) (words line : List ℕ) → number < bound
    → read_named types room bound number words line ≡ read_sum types room (read_with room (read_named types room number)) (slice_get types.sums number) words line
unfolding read_named
read-at types room zero number words line below = absurd (omega arith)
read-at types room (suc bound) number words line below = elim (cases_eq number bound) [
  | inl same ↦ rw (eq-eqb number bound same) (ap (λ k. read_sum types room (read_with room (read_named types room k)) (slice_get types.sums k) words line) (sym same))
  | inr other ↦ rw (ne_eqb number bound other) (read-at types room bound number words line (omega arith))
]

-- one zero more
pub zeros-next : (room now count place : ℕ) (words line more rest : List ℕ) (all : Reading) → now ≡ room → place < count → put_word now 0 words line ≡ Some (more, rest)
    → put_zeros room (count - place) words line ≡ all → put_zeros room (count - (place + 1)) more rest ≡ all
zeros-next room now count place words line more rest all same below e is =
    let step : count - place ≡ suc (count - (place + 1)) = omega arith in
    let e' : put_word room 0 words line ≡ Some (more, rest) = rw (← same) e in
    sym (ap (λ read. then_read read (put_zeros room (count - (place + 1)))) e') ∙ sym (ap (λ n. put_zeros room n words line) step) ∙ is

pub zeros-none : (room now count place : ℕ) (words line : List ℕ) (all : Reading) → now ≡ room → place < count → put_word now 0 words line ≡ None
    → put_zeros room (count - place) words line ≡ all → all ≡ None
zeros-none room now count place words line all same below e is =
    let step : count - place ≡ suc (count - (place + 1)) = omega arith in
    let e' : put_word room 0 words line ≡ None = rw (← same) e in
    sym is ∙ ap (λ n. put_zeros room n words line) step ∙ ap (λ read. then_read read (put_zeros room (count - (place + 1)))) e'

-- what reads a type where there is so much room
abbrev pub reader_of : Types → ℕ → ℕ → Ty → Reader
reader_of types bound room = read_with room (read_named types room bound)

-- one more of several
pub several-next : (types : Types) (bound room now : ℕ) (first : Bool) (ty : Ty) (readers others : List Reader) (words line more rest : List ℕ) (all : Reading)
    → now ≡ room → readers ≡ reader_of types bound room ty ∷ others → read_part first (reader_of types bound now ty) words line ≡ Some (more, rest)
    → read_several first readers words line ≡ all → read_several false others more rest ≡ all
several-next types bound room now first ty readers others words line more rest all same split e is =
    let e' : read_part first (reader_of types bound room ty) words line ≡ Some (more, rest) =
    subst (λ r. read_part first (reader_of types bound r ty) words line ≡ Some (more, rest)) same e in
    sym (ap (λ read. then_read read (read_several false others)) e') ∙ sym (ap (λ rs. read_several first rs words line) split) ∙ is

pub several-none : (types : Types) (bound room now : ℕ) (first : Bool) (ty : Ty) (readers others : List Reader) (words line : List ℕ) (all : Reading)
    → now ≡ room → readers ≡ reader_of types bound room ty ∷ others → read_part first (reader_of types bound now ty) words line ≡ None
    → read_several first readers words line ≡ all → all ≡ None
several-none types bound room now first ty readers others words line all same split e is =
    let e' : read_part first (reader_of types bound room ty) words line ≡ None =
    subst (λ r. read_part first (reader_of types bound r ty) words line ≡ None) same e in
    sym is ∙ ap (λ rs. read_several first rs words line) split ∙ ap (λ read. then_read read (read_several false others)) e'

-- one field more
pub fields-next : (types : Types) (bound room now : ℕ) (ty : Ty) (tys others : List Ty) (words line more rest : List ℕ) (all : Reading)
    → now ≡ room → tys ≡ ty ∷ others → read_field types ty (reader_of types bound now ty) words line ≡ Some (more, rest)
    → read_fields types (reader_of types bound room) tys words line ≡ all → read_fields types (reader_of types bound room) others more rest ≡ all
fields-next types bound room now ty tys others words line more rest all same split e is =
    let e' : read_field types ty (reader_of types bound room ty) words line ≡ Some (more, rest) =
    subst (λ r. read_field types ty (reader_of types bound r ty) words line ≡ Some (more, rest)) same e in
    sym (ap (λ read. then_read read (read_fields types (reader_of types bound room) others)) e')
    ∙ sym (ap (λ ts. read_fields types (reader_of types bound room) ts words line) split) ∙ is

pub fields-none : (types : Types) (bound room now : ℕ) (ty : Ty) (tys others : List Ty) (words line : List ℕ) (all : Reading)
    → now ≡ room → tys ≡ ty ∷ others → read_field types ty (reader_of types bound now ty) words line ≡ None
    → read_fields types (reader_of types bound room) tys words line ≡ all → all ≡ None
fields-none types bound room now ty tys others words line all same split e is =
    let e' : read_field types ty (reader_of types bound room ty) words line ≡ None =
    subst (λ r. read_field types ty (reader_of types bound r ty) words line ≡ None) same e in
    sym is ∙ ap (λ ts. read_fields types (reader_of types bound room) ts words line) split
    ∙ ap (λ read. then_read read (read_fields types (reader_of types bound room) others)) e'

pub items-left : (reader : Reader) (count place : ℕ) → place < count
    → replicate {A = Reader} (count - place) reader ≡ reader ∷ replicate {A = Reader} (count - (place + 1)) reader
items-left reader count place below = let step : count - place ≡ suc (count - (place + 1)) = omega arith in rw step refl

-- between an opening and a closing sign
pub in-none : (opening closing : Piece → Bool) (readers : List Reader) (words line inner : List ℕ) → behind_sign opening (next line) ≡ Some inner
    → read_several true readers words inner ≡ None → read_in opening closing readers words line ≡ None
in-none opening closing readers words line inner e is =
    ap (λ o. closed_by closing (read_on o (read_several true readers words))) e ∙ ap (closed_by closing) is

pub in-open : (opening closing : Piece → Bool) (readers : List Reader) (words line inner more rest : List ℕ) → behind_sign opening (next line) ≡ Some inner
    → Some (more, rest) ≡ read_several true readers words inner → behind_sign closing (next rest) ≡ None → read_in opening closing readers words line ≡ None
in-open opening closing readers words line inner more rest e is closed =
    ap (λ o. closed_by closing (read_on o (read_several true readers words))) e ∙ ap (closed_by closing) (sym is)
    ∙ ap (λ o. read_on o (λ (later : List ℕ). Some (more, later))) closed

pub in-some : (opening closing : Piece → Bool) (readers : List Reader) (words line inner more rest later : List ℕ)
    → behind_sign opening (next line) ≡ Some inner
    → Some (more, rest) ≡ read_several true readers words inner → behind_sign closing (next rest) ≡ Some later
    → read_in opening closing readers words line ≡ Some (more, later)
in-some opening closing readers words line inner more rest later e is closed =
    ap (λ o. closed_by closing (read_on o (read_several true readers words))) e ∙ ap (closed_by closing) (sym is)
    ∙ ap (λ o. read_on o (λ (last : List ℕ). Some (more, last))) closed

pub field-read : (types : Types) (ty : Ty) (reader : Reader) (words line : List ℕ) (opened : Bool) (start more rest : List ℕ) (compound : Bool) (ended : Option (List ℕ))
    → field_start (opens (out-Ty ty) line) line ≡ (opened, start) → reader words start ≡ Some (more, rest)
    → compound ≡ is_compound types (out-Ty ty) (drop (length words) more) → closed_field opened compound rest ≡ ended
    → read_field types ty reader words line ≡ read_on ended (λ later. Some (more, later))
field-read types ty reader words line opened start more rest compound ended e₁ e₂ e₃ e₄ =
    ap (read_from types ty reader words) e₁ ∙ ap (field_ended types ty words opened) e₂
    ∙ ap (λ c. read_on (closed_field opened c rest) (λ (later : List ℕ). Some (more, later))) (sym e₃)
    ∙ ap (λ o. read_on o (λ (later : List ℕ). Some (more, later))) e₄

pub front-vector : (room : ℕ) (named : ℕ → Reader) (count : ℕ) (item : Ty) (words line : List ℕ)
    → read_with room named (Vector count item) words line ≡ read_in is_open_vector is_close_vector (replicate {A = Reader} count (read_with room named item)) words line
front-vector room named count item words line =
    ap (λ ty. read_with room named ty words line) (sym (rolls-Vector count item))
    ∙ ap (λ (r : Reader). r words line) (fold-roll-Ty Reader (read_step room named) (Ty-F.Vector count item))

pub range-same : (at end : ℕ) (xs ys : List ℕ) → at ≤ length xs → at ≤ end → drop (length (take at xs)) (take end ys) ≡ slice_range ys at end
range-same at end xs ys within onward =
    let split : end ≡ at + (end - at) = omega arith in
    ap (λ n. drop n (take end ys)) (length-take-le at xs within) ∙ ap (λ n. drop at (take n ys)) split ∙ drop-take at (end - at) ys

pub ruleset reading_steps = (common_steps, the_lemmas, read-past, read-at, rank-falls, some_size, length-take-le)
