-- Where wants stand in acts that go on by rounds.
use Rattle.std.proofs.Common.{◌≡◌, ◌⊎◌, ℕ, List, [], ◌∷◌, ◌++◌, refl, sym, ap, ◌∙◌, inl, inr}
use Rattle.std.proofs.lemmas.Grind.{flat_map-append}
use Rattle.hume_ports.specs.Delivery.{Pairs}
use Rattle.port_acts.specs.Acts.{Act, wants, written, wanted_by, wanted}
use Rattle.port_acts.specs.Rounds.{round_acts, StandsInRound}
use Rattle.port_acts.proofs.ActLists.{written-append}

-- An act of two lists in turn is one of the first, or one of the second and behind all of the first.
abbrev InFirst : List Act → List Act → Act → Type 0
InFirst ps before act = (rest : List Act) × (ps ≡ before ++ act ∷ rest)

abbrev InSecond : List Act → List Act → List Act → Act → List Act → Type 0
InSecond ps qs before act later = (first : List Act) × (before ≡ ps ++ first) × (qs ≡ first ++ act ∷ later)

split : (ps qs before : List Act) (act : Act) (later : List Act) → ps ++ qs ≡ before ++ act ∷ later → InFirst ps before act ⊎ InSecond ps qs before act later
split [] qs before act later e = inr (before, refl, e)
split (other ∷ ps) qs [] act later e =
    let same : other ≡ act = cc in
    inl (ps, rw same refl)
split (other ∷ ps) qs (first ∷ before) act later e =
    let same : other ≡ first = cc in
    let tails : ps ++ qs ≡ before ++ act ∷ later = cc in
    elim (split ps qs before act later tails) [
      | inl f ↦ inl (f.0, rw (same, f.1) refl)
      | inr s ↦ inr (s.0, rw (same, s.1) refl, s.2)
    ]

nothing_before : {X : Type 0} (xs ys : List X) → xs ++ ys ≡ [] → (xs ≡ []) × (ys ≡ [])
nothing_before [] ys e = (refl, e)
nothing_before (x ∷ xs) ys e = cc

no_want : (acts before later : List Act) (name : List ℕ) (count : ℕ) → wanted acts ≡ [] → acts ≡ before ++ wants name count ∷ later → ⊥
no_want acts before later name count none e =
    let all : wanted before ++ wanted (wants name count ∷ later) ≡ [] =
    sym (flat_map-append wanted_by before (wants name count ∷ later)) ∙ ap wanted (sym e) ∙ none in
    let behind : name ∷ wanted later ≡ [] = (nothing_before (wanted before) (wanted (wants name count ∷ later)) all).1 in
    cc

pub stands_in_round : (reading writing : ℕ → List Act) → ((round : ℕ) → written (reading round) ≡ []) → ((round : ℕ) → wanted (writing round) ≡ [])
    → (rounds : List ℕ) (before later : List Act) (name : List ℕ) (count : ℕ) → round_acts reading writing rounds ≡ before ++ wants name count ∷ later
    → StandsInRound reading writing rounds before (wants name count)
stands_in_round reading writing silent blind [] [] later name count e = cc
stands_in_round reading writing silent blind [] (act ∷ before) later name count e = cc
stands_in_round reading writing silent blind (round ∷ rounds) before later name count e =
    elim (split (reading round ++ writing round) (round_acts reading writing rounds) before (wants name count) later e) [
      | inl here ↦ elim (split (reading round) (writing round) before (wants name count) here.0 here.1) [
        | inl read ↦
            let wrote : written before ++ written (wants name count ∷ read.0) ≡ [] =
            sym (written-append before (wants name count ∷ read.0)) ∙ ap written (sym read.1) ∙ silent round in
            record {
              earlier = [];
              round = round;
              later = rounds;
              in_order = refl;
              read = before;
              unread = read.0;
              is = read.1;
              wrote = (nothing_before (written before) (written (wants name count ∷ read.0)) wrote).0;
            }
        | inr wrote ↦ absurd (no_want (writing round) wrote.0 here.0 name count (blind round) wrote.2)
      ]
      | inr behind ↦
          let rest = stands_in_round reading writing silent blind rounds behind.0 later name count behind.2 in
          let own : written (reading round ++ writing round) ≡ written (writing round) =
          written-append (reading round) (writing round) ∙ ap (λ (pairs : Pairs). pairs ++ written (writing round)) (silent round) in
          record {
            earlier = round ∷ rest.earlier;
            round = rest.round;
            later = rest.later;
            in_order = ap (λ (others : List ℕ). round ∷ others) rest.in_order;
            read = rest.read;
            unread = rest.unread;
            is = rest.is;
            wrote = ap written behind.1 ∙ written-append (reading round ++ writing round) behind.0 ∙ rw (own, rest.wrote) refl;
          }
    ]
