-- Which ports are exactly as before.
use Rattle.std.proofs.Common.{◌≡◌, ℕ, List, [], ◌∷◌, refl, sym, ◌∙◌, zero, suc, true, false, Some, subst, inl, inr}
use Rattle.std.specs.Str.{bytes_eq}
use Rattle.std.proofs.lemmas.Bool.{cases_Bool, both_ways, true≢false}
use Rattle.hume_ports.specs.Port.{PortView}
use Rattle.hume_ports.specs.Ports.{StepAt, Untouched, is_among, other_names, names, place_of, of_first}
use Rattle.hume_ports.proofs.Names.{place-zero, place-suc, is_among-other_names, same_name, bytes_eq-swap}

pub Untouched-start : (touched : List (List ℕ)) (ports : List PortView) → Untouched touched ports ports
Untouched-start touched [] = tt
Untouched-start touched (port ∷ ports) = (λ h. refl, Untouched-start (other_names port.name touched) ports)

pub Untouched-on : (touched : List (List ℕ)) (olds mids news : List PortView) → Untouched touched olds mids → names mids ≡ names olds → Untouched touched mids news → Untouched touched olds news
Untouched-on touched [] [] [] u same v = tt
Untouched-on touched [] [] (new ∷ news) u same v = absurd v
Untouched-on touched [] (mid ∷ mids) news u same v = absurd u
Untouched-on touched (old ∷ olds) [] news u same v = absurd u
Untouched-on touched (old ∷ olds) (mid ∷ mids) [] u same v = absurd v
Untouched-on touched (old ∷ olds) (mid ∷ mids) (new ∷ news) u same v =
    let name : mid.name ≡ old.name = cc in
    let tails : names mids ≡ names olds = cc in
    let P : List ℕ → Type 0 = λ n. is_among n touched ≡ false → new ≡ mid in
    let Q : List ℕ → Type 0 = λ n. Untouched (other_names n touched) mids news in
    (λ h. subst P name v.0 h ∙ u.0 h, Untouched-on (other_names old.name touched) olds mids news u.1 tails (subst Q name v.1))

-- a step of the first port of a name leaves all but it
pub Untouched-step : (olds news : List PortView) (name : List ℕ) (at : ℕ) (step : PortView → PortView → Type 0) → place_of name (names olds) ≡ Some at → StepAt olds news at step → Untouched (name ∷ []) olds news
Untouched-step [] news name at step e s = absurd s
Untouched-step (old ∷ olds) [] name at step e s = absurd s
Untouched-step (old ∷ olds) (new ∷ news) name zero step e s =
    let here : bytes_eq old.name name ≡ true = place-zero (bytes_eq old.name name) (place_of name (names olds)) e in
    rw (here, s.1) (λ h. absurd (true≢false h), Untouched-start [] olds)
Untouched-step (old ∷ olds) (new ∷ news) name (suc at) step e s =
    let behind = place-suc (bytes_eq old.name name) (place_of name (names olds)) at e in
    rw behind.0 (λ h. s.0, Untouched-step olds news name at step behind.1 s.1)

-- the second names have all of the first
abbrev pub Within : List (List ℕ) → List (List ℕ) → Type 0
Within few many = (name : List ℕ) → is_among name many ≡ false → is_among name few ≡ false

Within-other_names : (other : List ℕ) (few many : List (List ℕ)) → Within few many → Within (other_names other few) (other_names other many)
Within-other_names other few many within name h =
    elim (cases_Bool (bytes_eq name other)) [
      | inl is ↦ rw (is_among-other_names name other few, is) refl
      | inr isnt ↦
          let out : is_among name many ≡ false = rw (is_among-other_names name other many, isnt) at h in
          rw (is_among-other_names name other few, isnt) (within name out)
    ]

-- more names say less
pub Untouched-more : (few many : List (List ℕ)) (olds news : List PortView) → Within few many → Untouched few olds news → Untouched many olds news
Untouched-more few many [] [] within u = tt
Untouched-more few many [] (new ∷ news) within u = absurd u
Untouched-more few many (old ∷ olds) [] within u = absurd u
Untouched-more few many (old ∷ olds) (new ∷ news) within u =
    (λ h. u.0 (within old.name h), Untouched-more (other_names old.name few) (other_names old.name many) olds news (Within-other_names old.name few many within) u.1)

-- one name that is among others
pub Within-one : (name : List ℕ) (many : List (List ℕ)) → is_among name many ≡ true → Within (name ∷ []) many
Within-one name many is other out =
    elim (cases_Bool (bytes_eq other name)) [
      | inl same ↦
          let P : List ℕ → Type 0 = λ n. is_among n many ≡ false in
          absurd (both_ways (is_among name many) (subst P (same_name other name same) out) is)
      | inr differs ↦ rw differs refl
    ]

-- a step of a port whose name is among the names
pub Untouched-among : (olds news : List PortView) (name : List ℕ) (many : List (List ℕ)) → is_among name many ≡ true → Untouched (name ∷ []) olds news → Untouched many olds news
Untouched-among olds news name many is u = Untouched-more (name ∷ []) many olds news (Within-one name many is) u

-- the first port of any other name is as it was
pub of_first-untouched : {X : Type 0} (default : X) (fact : PortView → X) (name : List ℕ) (touched : List (List ℕ)) (olds news : List PortView) → is_among name touched ≡ false → names news ≡ names olds → Untouched touched olds news → of_first default fact name news ≡ of_first default fact name olds
of_first-untouched default fact name touched [] [] out same u = refl
of_first-untouched default fact name touched [] (new ∷ news) out same u = absurd u
of_first-untouched default fact name touched (old ∷ olds) [] out same u = absurd u
of_first-untouched default fact name touched (old ∷ olds) (new ∷ news) out same u =
    let name-is : new.name ≡ old.name = cc in
    let tails : names news ≡ names olds = cc in
    elim (cases_Bool (bytes_eq old.name name)) [
      | inl here ↦
          let P : List ℕ → Type 0 = λ n. is_among n touched ≡ false in
          rw (u.0 (subst P (sym (same_name old.name name here)) out), here) refl
      | inr behind ↦
          let still : bytes_eq new.name name ≡ false = rw name-is behind in
          let rest : is_among name (other_names old.name touched) ≡ false = rw (is_among-other_names name old.name touched, bytes_eq-swap old.name name behind) out in
          rw (behind, still) (of_first-untouched default fact name (other_names old.name touched) olds news rest tails u.1)
    ]
