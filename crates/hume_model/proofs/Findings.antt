-- A search through a list for the least finding of one rule.
use Rattle.std.proofs.Common.{◌≡◌, ℕ, ◌+◌, ◌<◌, ◌⊎◌, ◌↔◌, inl, inr, Bool, true, false, IsTrue, if◌then◌else◌, List, length, Option, Some, None, slice_get, refl, sym, ap, ◌∙◌, subst, arith}
use Rattle.std.proofs.lemmas.Bool.{cases_eq}
use Rattle.std.proofs.lemmas.Option.{slice_get_within, same_Some}
use Rattle.hume_base.specs.declared.rule.Rule.{Rule}
use Rattle.hume_base.specs.declared.finding.Finding.{Finding}
use Rattle.hume_base.specs.Least.{IsLeast, earlier_of, finding_of, OfRule}
use Rattle.hume_base.proofs.Least.{IsLeast-either, IsLeast-same, IsLeast-rule}

-- the finding is that of the rule at one of the first items, each of which is of a declaration
pub record IsAmong {X : Type 0} (items : List X) (declared : X → ℕ) (broken : ℕ → X → Type 0) (rule : Rule) (count : ℕ) (f : Finding) : Type 0 where
  pub at : ℕ
  pub item : X
  pub there : slice_get items at ≡ Some item
  pub before : at < count
  pub breaks : broken at item
  pub of_rule : f.rule ≡ rule
  pub of_item : declared item ≡ f.declaration

-- an item that breaks the rule
pub record Breaks {X : Type 0} (items : List X) (declared : X → ℕ) (broken : ℕ → X → Type 0) (declaration : ℕ) : Type 0 where
  pub at : ℕ
  pub item : X
  pub there : slice_get items at ≡ Some item
  pub breaks : broken at item
  pub of_item : declared item ≡ declaration

module _ {X : Type 0} (items : List X) (declared : X → ℕ) (broken : ℕ → X → Type 0) (rule : Rule) where
  abbrev Among : ℕ → Finding → Type 0
  Among = IsAmong items declared broken rule

  pub none_among : IsLeast (Among 0) None
  none_among = λ f found. (let early : found.at < 0 = found.before in absurd (omega arith))

  abbrev here : (k : ℕ) (x : X) → slice_get items k ≡ Some x → Finding → Type 0
  here k x there f = broken k x × (f.rule ≡ rule) × (declared x ≡ f.declaration)

  split : (k : ℕ) (x : X) (there : slice_get items k ≡ Some x) (f : Finding) → Among (k + 1) f → Among k f ⊎ here k x there f
  split k x there f found =
      let before : found.at < k + 1 = found.before in
      elim (cases_eq found.at k) [
        | inl same ↦ (let is : found.item ≡ x = same_Some found.item x (sym found.there ∙ ap (λ i. slice_get items i) same ∙ there) in
            inr (subst (λ y. broken k y) is (subst (λ i. broken i found.item) same found.breaks), found.of_rule, ap declared (sym is) ∙ found.of_item))
        | inr other ↦ inl (record { at = found.at; item = found.item; there = found.there; before = omega arith; breaks = found.breaks; of_rule = found.of_rule; of_item = found.of_item })
      ]

  wider : (k : ℕ) (f : Finding) → Among k f → Among (k + 1) f
  wider k f found =
      let before : found.at < k = found.before in
      record { at = found.at; item = found.item; there = found.there; before = omega arith; breaks = found.breaks; of_rule = found.of_rule; of_item = found.of_item }

  -- one more item, which doesn't break the rule
  pub same_among : (k : ℕ) (x : X) (o : Option Finding) → slice_get items k ≡ Some x → (broken k x → ⊥) → IsLeast (Among k) o → IsLeast (Among (k + 1)) o
  same_among k x o there fine least =
      IsLeast-same (Among k) (Among (k + 1)) o
      (λ f. (wider k f, λ found. elim (split k x there f found) [ inl early ↦ early | inr late ↦ absurd (fine late.0) ])) least

  -- one more item, which does
  pub more_among : (k : ℕ) (x : X) (o : Option Finding) → slice_get items k ≡ Some x → broken k x → IsLeast (Among k) o
      → IsLeast (Among (k + 1)) (earlier_of o (Some (record { rule = rule; declaration = declared x })))
  more_among k x o there breaks least =
      let one : IsLeast (OfRule rule (λ d. declared x ≡ d)) (Some (record { rule = rule; declaration = declared x })) =
      IsLeast-rule rule (λ d. declared x ≡ d) (Some (declared x)) (refl, λ j same. (let e : declared x ≡ j = same in omega arith)) in
      IsLeast-same (λ f. Among k f ⊎ OfRule rule (λ d. declared x ≡ d) f) (Among (k + 1)) _
      (λ f. (
        (λ either. elim either [
          | inl early ↦ wider k f early
          | inr late ↦ record { at = k; item = x; there = there; before = omega arith; breaks = breaks; of_rule = late.0; of_item = late.1 }
        ]),
        (λ found. elim (split k x there f found) [ inl early ↦ inl early | inr late ↦ inr (late.1, late.2) ]),
      ))
      (IsLeast-either (Among k) (OfRule rule (λ d. declared x ≡ d)) o _ least one)

  -- one more item, with a test of whether it does
  pub next_among : (k : ℕ) (x : X) (o : Option Finding) (test : Bool) → slice_get items k ≡ Some x → IsTrue test ↔ broken k x → IsLeast (Among k) o
      → IsLeast (Among (k + 1)) (if test then earlier_of o (finding_of rule (Some (declared x))) else o)
  next_among k x o true there is least = more_among k x o there (is.0 refl) least
  next_among k x o false there is least = same_among k x o there (λ b. (let h : false ≡ true = is.1 b in cc)) least

  -- all items
  pub all_among : (o : Option Finding) → IsLeast (Among (length items)) o → IsLeast (OfRule rule (Breaks items declared broken)) o
  all_among o least =
      IsLeast-same (Among (length items)) (OfRule rule (Breaks items declared broken)) o
      (λ f. (
        (λ found. (found.of_rule, record { at = found.at; item = found.item; there = found.there; breaks = found.breaks; of_item = found.of_item })),
        (λ b. record { at = b.1.at; item = b.1.item; there = b.1.there; before = slice_get_within items b.1.at b.1.item b.1.there; breaks = b.1.breaks; of_rule = b.0; of_item = b.1.of_item }),
      ))
      least
