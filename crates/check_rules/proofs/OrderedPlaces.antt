-- What declarations in an order declare, and which of it comes first.
use Rattle.std.proofs.Common.{◌≡◌, ℕ, zero, suc, ◌+◌, ◌<◌, ◌≤◌, List, [], ◌∷◌, ◌++◌, length, take, drop, get_or, Contains, Option, Some, None, slice_get, refl, ap, sym, subst, ◌∙◌, arith, Bool, true, false, if◌then◌else◌, bytes_eq}
use Rattle.std.specs.List.{filter_map, cons_option}
use Rattle.std.proofs.lemmas.List.{take-append-drop}
use Rattle.std.proofs.lemmas.List.Elements.{filter_map-append}
use Rattle.std.proofs.lemmas.Slice.Eq.{bytes_eq-Decides}
use Rattle.check_typing.specs.Signatures.{one_further, first_named}
use Rattle.check_typing.proofs.Maybe.{some-same}

-- a place of what is left by `filter_map`, and the place that it comes from
pub record Placed {A : Type 0} (g : ℕ → Option A) (order : List ℕ) (n : ℕ) (y : A) : Type 0 where
  pub place : ℕ
  pub within : place < length order
  pub gives : g (get_or order place 0) ≡ Some y
  pub before : n ≡ length (filter_map g (take place order))

pub placed : {A : Type 0} (g : ℕ → Option A) (order : List ℕ) (n : ℕ) (y : A) → slice_get (filter_map g order) n ≡ Some y → Placed g order n y
placed g [] n y e = cc
placed {A} g (x ∷ xs) n y e = by (g x) refl (λ m q. placed g xs m y q) n e
  where
    by : (o : Option A) → g x ≡ o → ((m : ℕ) → slice_get (filter_map g xs) m ≡ Some y → Placed g xs m y) → (n : ℕ) → slice_get (cons_option o (filter_map g xs)) n ≡ Some y
        → Placed g (x ∷ xs) n y
    by None q later n e =
        let r = later n e in
        record {
          place = suc r.place;
          within = let w = r.within in omega arith;
          gives = r.gives;
          before = r.before ∙ ap (λ o. length (cons_option o (filter_map g (take r.place xs)))) (sym q);
        }
    by (Some w) q later zero e = record { place = 0; within = omega arith; gives = q ∙ e; before = refl }
    by (Some w) q later (suc n) e =
        let r = later n e in
        record {
          place = suc r.place;
          within = let w = r.within in omega arith;
          gives = r.gives;
          before = ap suc r.before ∙ ap (λ o. length (cons_option o (filter_map g (take r.place xs)))) (sym q);
        }

further : {A : Type 0} (o : Option A) (xs : List A) (y : A) → (i : ℕ) × (slice_get xs i ≡ Some y) → (i : ℕ) × (slice_get (cons_option o xs) i ≡ Some y)
further None xs y r = r
further (Some w) xs y r = (suc r.0, r.1)

here : {A : Type 0} (o : Option A) (xs : List A) (y : A) → o ≡ Some y → (i : ℕ) × (slice_get (cons_option o xs) i ≡ Some y)
here None xs y e = cc
here (Some w) xs y e = (0, e)

kept_at : {A : Type 0} (g : ℕ → Option A) (xs : List ℕ) (k m : ℕ) (y : A) → k < length xs → get_or xs k m ≡ m → g m ≡ Some y
    → (i : ℕ) × (slice_get (filter_map g xs) i ≡ Some y)
kept_at g [] k m y lt e h = absurd (omega arith)
kept_at g (x ∷ xs) zero m y lt e h = here (g x) (filter_map g xs) y (ap g e ∙ h)
kept_at g (x ∷ xs) (suc k) m y lt e h = further (g x) (filter_map g xs) y (kept_at g xs k m y (omega arith) e h)

-- what an element gives is kept
pub kept : {A : Type 0} (g : ℕ → Option A) (xs : List ℕ) (m : ℕ) (y : A) → Contains xs m → g m ≡ Some y → (i : ℕ) × (slice_get (filter_map g xs) i ≡ Some y)
kept g xs m y c h = kept_at g xs c.0 m y c.1 c.2 h

pub front : {A : Type 0} (xs ys : List A) (i : ℕ) (y : A) → slice_get xs i ≡ Some y → slice_get (xs ++ ys) i ≡ Some y
front [] ys i y e = cc
front (x ∷ xs) ys zero y e = e
front (x ∷ xs) ys (suc i) y e = front xs ys i y e

-- so is it further on
pub kept_on : {A : Type 0} (g : ℕ → Option A) (order : List ℕ) (k i : ℕ) (y : A) → slice_get (filter_map g (take k order)) i ≡ Some y → slice_get (filter_map g order) i ≡ Some y
kept_on g order k i y e =
    let all : filter_map g (take k order) ++ filter_map g (drop k order) ≡ filter_map g order =
    sym (filter_map-append g (take k order) (drop k order)) ∙ ap (filter_map g) (take-append-drop k order) in
    ap (λ zs. slice_get zs i) (sym all) ∙ front (filter_map g (take k order)) (filter_map g (drop k order)) i y e

module _ {A : Type 0} (name_of : A → List ℕ) (name : List ℕ) where
  -- the first of a name has the name
  pub first_has_name : (xs : List A) (j : ℕ) (s : A) → first_named name_of name xs ≡ Some (j, s) → name_of s ≡ name
  first_has_name [] j s h = cc
  first_has_name (w ∷ ws) j s h = by (bytes_eq (name_of w) name) refl (first_named name_of name ws) (first_has_name ws) h
    where
      by : (b : Bool) → bytes_eq (name_of w) name ≡ b → (o : Option (ℕ × A)) → ((j : ℕ) (s : A) → o ≡ Some (j, s) → name_of s ≡ name)
          → (if b then Some (0, w) else one_further o) ≡ Some (j, s) → name_of s ≡ name
      by true q o rest h = let e : (0, w) ≡ (j, s) = some-same _ _ h in ap (λ (r : ℕ × A). name_of r.1) (sym e) ∙ (bytes_eq-Decides (name_of w) name).0 q
      by false q None rest h = cc
      by false q (Some found) rest h =
          let e : (found.0 + 1, found.1) ≡ (j, s) = some-same _ _ h in ap (λ (r : ℕ × A). name_of r.1) (sym e) ∙ rest found.0 found.1 refl

  -- nothing of the name comes before the first
  pub first_before : (xs : List A) (i : ℕ) (z : A) → slice_get xs i ≡ Some z → name_of z ≡ name → (j : ℕ) (s : A) → first_named name_of name xs ≡ Some (j, s) → j ≤ i
  first_before [] i z e same j s h = cc
  first_before (w ∷ ws) i z e same j s h = by (bytes_eq (name_of w) name) refl (first_named name_of name ws) i e (λ k q. first_before ws k z q same) h
    where
      by : (b : Bool) → bytes_eq (name_of w) name ≡ b → (o : Option (ℕ × A)) → (i : ℕ) → slice_get (w ∷ ws) i ≡ Some z
          → ((k : ℕ) → slice_get ws k ≡ Some z → (j : ℕ) (s : A) → o ≡ Some (j, s) → j ≤ k)
          → (if b then Some (0, w) else one_further o) ≡ Some (j, s) → j ≤ i
      by true q o i e rest h = let e : (0, w) ≡ (j, s) = some-same _ _ h in subst (λ k. k ≤ i) (ap (λ (r : ℕ × A). r.0) e) (omega arith)
      by false q None i e rest h = cc
      by false q (Some found) zero e rest h =
          let is : name_of w ≡ name = ap name_of (some-same _ _ e) ∙ same in let yes = (bytes_eq-Decides (name_of w) name).1 is in cc
      by false q (Some found) (suc k) e rest h =
          let both : (found.0 + 1, found.1) ≡ (j, s) = some-same _ _ h in
          let le : found.0 ≤ k = rest k e found.0 found.1 refl in
          subst (λ n. n ≤ suc k) (ap (λ (r : ℕ × A). r.0) both) (omega arith)
