-- The constructor of a name is found by its number.
use Rattle.std.proofs.Common.{◌≡◌, ℕ, zero, suc, ◌+◌, List, [], ◌∷◌, ◌++◌, length, Option, Some, None, refl, ap, sym, ◌∙◌, option_map, option_and_then, slice_get, take, Bool, true, false, if◌then◌else◌, bytes_eq, add-one, arith}
use Rattle.check_typing.proofs.Maybe.{some-same}
use Rattle.std.proofs.lemmas.List.Sums.{sum_by-cons}
use Rattle.hume_base.specs.declared.types.ConDef.{ConDef}
use Rattle.hume_base.specs.declared.types.SumDef.{SumDef}
use Rattle.check_typing.specs.Signatures.{Constructor, one_further, first_named, first_or_further, con_among}
use Rattle.check_typing.proofs.NamesFound.{first_stands}
use Rattle.check_tables.specs.names.Names.{number_of}
use Rattle.check_scopes.specs.signatures.Numbered.{constructors_before, numbered_in}
use Rattle.check_scopes.specs.signatures.inner.Tables.{table_of, name_of_constructor, all_constructors, place_of, those_of_one, those_of_all}
use Rattle.check_scopes.proofs.signatures_lemmas.Lookup.{found_number}

skipped : {A : Type 0} (xs ys : List A) (i : ℕ) → slice_get (xs ++ ys) (length xs + i) ≡ slice_get ys i
skipped [] ys i = ap (slice_get ys) (let e : 0 + i ≡ i = omega arith in e)
skipped (x ∷ xs) ys i = ap (slice_get (x ∷ (xs ++ ys))) (let e : suc (length xs) + i ≡ suc (length xs + i) = omega arith in e) ∙ skipped xs ys i

length-those : (d at n : ℕ) (cons : List ConDef) → length (those_of_one d at n cons) ≡ length cons
length-those d at n [] = refl
length-those d at n (con ∷ cons) = ap suc (length-those d (suc at) (suc n) cons)

-- the one at a place of a data type
at_place : (d at n : ℕ) (cons : List ConDef) (more : List (Constructor × ℕ)) (i : ℕ) (con : ConDef) → slice_get cons i ≡ Some con
    → slice_get (those_of_one d at n cons ++ more) i ≡ Some (place_of d (at + i) con, n + i)
at_place d at n [] more i con h = cc
at_place d at n (c ∷ cons) more zero con h =
    let same : c ≡ con = some-same c con h in
    ap (λ (x : ConDef × ℕ × ℕ). Some (place_of d x.1 x.0, x.2))
    (let p : (c, at, n) ≡ (con, at + 0, n + 0) = λ k. (same k, (let e : at ≡ at + 0 = omega arith in e) k, (let e : n ≡ n + 0 = omega arith in e) k) in p)
at_place d at n (c ∷ cons) more (suc i) con h =
    at_place d (suc at) (suc n) cons more i con h
    ∙ ap (λ (x : ℕ × ℕ). Some (place_of d x.0 con, x.1))
    (let p : (suc at + i, suc n + i) ≡ (at + suc i, n + suc i) = λ k. ((let e : suc at + i ≡ at + suc i = omega arith in e) k, (let e : suc n + i ≡ n + suc i = omega arith in e) k) in p)

module _ (name : List ℕ) where
  abbrev of_name : List ConDef → Option (ℕ × ConDef)
  of_name cons = first_named name_of_constructor name cons

  -- so many places further back
  abbrev after : ℕ → Option (ℕ × ConDef) → Option (ℕ × ConDef)
  after n o = option_map (λ f. (n + f.0, f.1)) o

  after-none : (o : Option (ℕ × ConDef)) → o ≡ after 0 o
  after-none None = refl
  after-none (Some f) = ap (λ n. Some (n, f.1)) (let e : f.0 ≡ 0 + f.0 = omega arith in e)

  abbrev or_later : Option (ℕ × ConDef) → Option (ℕ × ConDef) → Option (ℕ × ConDef)
  or_later None later = later
  or_later (Some f) later = Some f

  of_name-append : (xs ys : List ConDef) → of_name (xs ++ ys) ≡ or_later (of_name xs) (after (length xs) (of_name ys))
  of_name-append [] ys = after-none (of_name ys)
  of_name-append (x ∷ xs) ys = by (bytes_eq (name_of_constructor x) name) (of_name xs) (of_name ys) (of_name (xs ++ ys)) (of_name-append xs ys)
    where
      further : (o later : Option (ℕ × ConDef))
          → one_further (or_later o (after (length xs) later)) ≡ or_later (one_further o) (after (suc (length xs)) later)
      further None None = refl
      further None (Some f) = ap (λ n. Some (n, f.1)) (let e : (length xs + f.0) + 1 ≡ suc (length xs) + f.0 = omega arith in e)
      further (Some f) later = refl

      by : (b : Bool) (o later all : Option (ℕ × ConDef)) → all ≡ or_later o (after (length xs) later)
          → (if b then Some (0, x) else one_further all) ≡ or_later (if b then Some (0, x) else one_further o) (after (suc (length xs)) later)
      by true o later all h = refl
      by false o later all h = ap one_further h ∙ further o later

  -- with numbers from n on, of data types the first of which has number d
  abbrev from : ℕ → ℕ → List SumDef → Constructor → Constructor × ℕ
  from d n sums con = (record { sum = d + con.sum; place = con.place; fields = con.fields }, n + (constructors_before sums con.sum + con.place))

  abbrev at_number : List (Constructor × ℕ) → Option (ℕ × ConDef) → Option (Constructor × ℕ)
  at_number those o = option_and_then (λ f. slice_get those f.0) o

  among : (d n : ℕ) (sums : List SumDef)
      → at_number (those_of_all d n sums) (of_name (all_constructors sums)) ≡ option_map (from d n sums) (con_among name sums)
  among d n [] = refl
  among d n (one ∷ sums) =
      ap (at_number (those_of_all d n (one ∷ sums))) (of_name-append one.cons (all_constructors sums))
      ∙ by (of_name one.cons) (first_stands name_of_constructor name one.cons) (of_name (all_constructors sums)) (con_among name sums)
      (among (suc d) (n + length one.cons) sums)
    where
      rest : List (Constructor × ℕ)
      rest = those_of_all (suc d) (n + length one.cons) sums

      this : (f : ℕ × ConDef) → slice_get one.cons f.0 ≡ Some f.1
          → slice_get (those_of_one d 0 n one.cons ++ rest) f.0
          ≡ Some (from d n (one ∷ sums) (record { sum = 0; place = f.0; fields = f.1.fields }))
      this f there =
          at_place d 0 n one.cons rest f.0 f.1 there
          ∙ ap (λ (x : ℕ × ℕ × ℕ). Some (record { sum = x.0; place = x.1; fields = f.1.fields }, x.2))
          (let p : (d, 0 + f.0, n + f.0) ≡ (d + 0, f.0, n + (0 + f.0)) = λ k. ((let e : d ≡ d + 0 = omega arith in e) k, (let e : 0 + f.0 ≡ f.0 = omega arith in e) k, (let e : n + f.0 ≡ n + (0 + f.0) = omega arith in e) k) in p)

      skip : (f : ℕ × ConDef) → slice_get (those_of_one d 0 n one.cons ++ rest) (length one.cons + f.0) ≡ slice_get rest f.0
      skip f = ap (λ m. slice_get (those_of_one d 0 n one.cons ++ rest) (m + f.0)) (sym (length-those d 0 n one.cons)) ∙ skipped (those_of_one d 0 n one.cons) rest f.0

      later : (f : Option (ℕ × ConDef)) → at_number (those_of_one d 0 n one.cons ++ rest) (after (length one.cons) f) ≡ at_number rest f
      later None = refl
      later (Some f) = skip f

      before : (m : ℕ) → constructors_before (one ∷ sums) (m + 1) ≡ length one.cons + constructors_before sums m
      before m = ap (constructors_before (one ∷ sums)) (add-one m) ∙ sum_by-cons (λ (s : SumDef). length s.cons) one (take m sums)

      further : (o : Option Constructor) → option_map (from (suc d) (n + length one.cons) sums) o ≡ option_map (from d n (one ∷ sums)) (first_or_further None o)
      further None = refl
      further (Some con) =
          ap (λ (x : ℕ × ℕ). Some (record { sum = x.0; place = con.place; fields = con.fields }, x.1))
          (let before_it = constructors_before sums con.sum in
          let p : (suc d + con.sum, (n + length one.cons) + (before_it + con.place)) ≡ (d + (con.sum + 1), n + (constructors_before (one ∷ sums) (con.sum + 1) + con.place)) =
          λ k. ((let e : suc d + con.sum ≡ d + (con.sum + 1) = omega arith in e) k, ((let e : (n + length one.cons) + (before_it + con.place) ≡ n + ((length one.cons + before_it) + con.place) = omega arith in e) ∙ ap (λ m. n + (m + con.place)) (sym (before con.sum))) k) in p)

      by : (o : Option (ℕ × ConDef)) → ((i : ℕ) (con : ConDef) → o ≡ Some (i, con) → slice_get one.cons i ≡ Some con)
          → (f : Option (ℕ × ConDef)) (con : Option Constructor) → at_number rest f ≡ option_map (from (suc d) (n + length one.cons) sums) con
          → at_number (those_of_all d n (one ∷ sums)) (or_later o (after (length one.cons) f)) ≡ option_map (from d n (one ∷ sums)) (first_or_further o con)
      by (Some f) here g con h = this f (here f.0 f.1 refl)
      by None here g con h = later g ∙ h ∙ further con

  from_start : (sums : List SumDef) (o : Option Constructor) → option_map (from 0 0 sums) o ≡ option_map (numbered_in sums) o
  from_start sums None = refl
  from_start sums (Some con) =
      ap (λ (x : ℕ × ℕ). Some (record { sum = x.0; place = con.place; fields = con.fields }, x.1))
      (let at = constructors_before sums con.sum + con.place in
      let p : (0 + con.sum, 0 + at) ≡ (con.sum, at) = λ k. ((let e : 0 + con.sum ≡ con.sum = omega arith in e) k, (let e : 0 + at ≡ at = omega arith in e) k) in p)

  -- what stands at the number that the table finds
  pub constructor_found : (sums : List SumDef) (o : Option ℕ) → o ≡ number_of name (table_of name_of_constructor (all_constructors sums))
      → option_and_then (slice_get (those_of_all 0 0 sums)) o ≡ option_map (numbered_in sums) (con_among name sums)
  constructor_found sums o h =
      ap (option_and_then (slice_get (those_of_all 0 0 sums))) (h ∙ found_number name_of_constructor name (all_constructors sums))
      ∙ alone (of_name (all_constructors sums)) ∙ among 0 0 sums ∙ from_start sums (con_among name sums)
    where
      alone : (f : Option (ℕ × ConDef)) → option_and_then (slice_get (those_of_all 0 0 sums)) (option_map (λ (g : ℕ × ConDef). g.0) f) ≡ at_number (those_of_all 0 0 sums) f
      alone None = refl
      alone (Some f) = refl
