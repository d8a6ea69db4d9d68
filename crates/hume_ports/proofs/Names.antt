-- Names among names, and the bytes of the pairs with a name.
use Rattle.std.proofs.Common.{◌≡◌, ℕ, List, [], ◌∷◌, ◌++◌, Bool, true, false, cond, refl, sym, ◌∙◌, ap, subst, append_assoc, append-nil, inl, inr, Option, Some, None, suc, arith}
use Rattle.std.specs.Option.{option_map}
use Rattle.std.specs.Str.{bytes_eq}
use Rattle.std.proofs.lemmas.Bool.{cases_Bool, false_from_ne_true, both_ways}
use Rattle.std.proofs.lemmas.Slice.Eq.{bytes_eq-Decides}
use Rattle.hume_ports.specs.Port.{PortView}
use Rattle.hume_ports.specs.Ports.{names, place_of, is_among, other_names}
use Rattle.hume_ports.specs.Delivery.{Pairs, bytes_for, without, names_in}

pub same_name : (a b : List ℕ) → bytes_eq a b ≡ true → a ≡ b
same_name a b e = (bytes_eq-Decides a b).0 e

pub bytes_eq-self : (a : List ℕ) → bytes_eq a a ≡ true
bytes_eq-self a = (bytes_eq-Decides a a).1 refl

-- a name that is not the one is not another that is
pub bytes_eq-other : (name other third : List ℕ) → bytes_eq name other ≡ true → bytes_eq other third ≡ false → bytes_eq name third ≡ false
bytes_eq-other name other third e ne = rw (same_name name other e) ne

pub bytes_eq-swap : (a b : List ℕ) → bytes_eq a b ≡ false → bytes_eq b a ≡ false
bytes_eq-swap a b ne = false_from_ne_true (bytes_eq b a) (λ e.
    let P : List ℕ → Type 0 = λ x. bytes_eq x b ≡ false in
    both_ways (bytes_eq b b) (subst P (sym (same_name b a e)) ne) (bytes_eq-self b))

-- the least place is the first port's
pub place-zero : (b : Bool) (other : Option ℕ) → cond b (Some 0) (option_map suc other) ≡ Some 0 → b ≡ true
place-zero true other e = refl
place-zero false None e = cc
place-zero false (Some at) e = grind arith

-- the least place is behind the first port
pub place-suc : (b : Bool) (other : Option ℕ) (at : ℕ) → cond b (Some 0) (option_map suc other) ≡ Some (suc at) → (b ≡ false) × (other ≡ Some at)
place-suc true other at e = grind arith
place-suc false None at e = (refl, cc)
place-suc false (Some i) at e = (refl, grind arith)

pub is_among-other_names : (name other : List ℕ) (touched : List (List ℕ)) → is_among name (other_names other touched) ≡ cond (bytes_eq name other) false (is_among name touched)
is_among-other_names name other [] = elim (bytes_eq name other) as (λ b. false ≡ cond b false false) [ true ↦ refl | false ↦ refl ]
is_among-other_names name other (first ∷ touched) =
    let rest : is_among name (other_names other touched) ≡ cond (bytes_eq name other) false (is_among name touched) = is_among-other_names name other touched in
    elim (cases_Bool (bytes_eq other first)) [
      | inl is ↦ rw (is, rest) (elim (cases_Bool (bytes_eq name other)) [
        | inl same ↦ rw same refl
        | inr differs ↦
            let apart : bytes_eq name first ≡ false = rw (sym (same_name other first is)) differs in
            rw (differs, apart) refl
      ])
      | inr isnt ↦ rw (isnt, rest) (elim (cases_Bool (bytes_eq name other)) [
        | inl same ↦ rw (same, bytes_eq-other name other first same isnt) refl
        | inr differs ↦ rw differs refl
      ])
    ]

pub bytes_for-append : (name : List ℕ) (ps qs : Pairs) → bytes_for name (ps ++ qs) ≡ bytes_for name ps ++ bytes_for name qs
bytes_for-append name [] qs = refl
bytes_for-append name (pair ∷ ps) qs =
    rw (bytes_for-append name ps qs) (elim (bytes_eq name pair.0) as (λ b. cond b (pair.1 ++ (bytes_for name ps ++ bytes_for name qs)) (bytes_for name ps ++ bytes_for name qs) ≡ cond b (pair.1 ++ bytes_for name ps) (bytes_for name ps) ++ bytes_for name qs) [ true ↦ sym (append_assoc pair.1 (bytes_for name ps) (bytes_for name qs)) | false ↦ refl ])

pub without-append : (name : List ℕ) (ps qs : Pairs) → without name (ps ++ qs) ≡ without name ps ++ without name qs
without-append name [] qs = refl
without-append name (pair ∷ ps) qs =
    rw (without-append name ps qs) (elim (bytes_eq name pair.0) as (λ b. cond b (without name ps ++ without name qs) (pair ∷ (without name ps ++ without name qs)) ≡ cond b (without name ps) (pair ∷ without name ps) ++ without name qs) [ true ↦ refl | false ↦ refl ])

pub bytes_for-without : (name other : List ℕ) (pairs : Pairs) → bytes_for name (without other pairs) ≡ cond (bytes_eq name other) [] (bytes_for name pairs)
bytes_for-without name other [] = elim (bytes_eq name other) as (λ b. ◌≡◌ {A = List ℕ} [] (cond b [] [])) [ true ↦ refl | false ↦ refl ]
bytes_for-without name other (pair ∷ pairs) =
    let rest : bytes_for name (without other pairs) ≡ cond (bytes_eq name other) [] (bytes_for name pairs) = bytes_for-without name other pairs in
    elim (cases_Bool (bytes_eq other pair.0)) [
      | inl is ↦ rw (is, rest) (elim (cases_Bool (bytes_eq name other)) [
        | inl same ↦ rw same refl
        | inr differs ↦
            let apart : bytes_eq name pair.0 ≡ false = rw (sym (same_name other pair.0 is)) differs in
            rw (differs, apart) refl
      ])
      | inr isnt ↦ rw (isnt, rest) (elim (cases_Bool (bytes_eq name other)) [
        | inl same ↦ rw (same, bytes_eq-other name other pair.0 same isnt) refl
        | inr differs ↦ rw differs refl
      ])
    ]

-- the first port of a name stays at its place, since names do
pub place-kept : (olds news : List PortView) (at : ℕ) (name : List ℕ) → names news ≡ names olds → place_of name (names olds) ≡ Some at → place_of name (names news) ≡ Some at
place-kept olds news at name same e = ap (place_of name) same ∙ e

-- the bytes of one pair, for its own name
pub bytes_for-one : (name bytes : List ℕ) → bytes_for name ((name, bytes) ∷ []) ≡ bytes
bytes_for-one name bytes = rw (bytes_eq-self name) (append-nil bytes)

pub names_in-append : (ps qs : Pairs) → names_in (ps ++ qs) ≡ names_in ps ++ names_in qs
names_in-append [] qs = refl
names_in-append (pair ∷ ps) qs = rw (names_in-append ps qs) refl
