-- A function changed at one number, lists of held items, and lists changed at one place.
use Rattle.std.proofs.Common.{◌≡◌, ◌≢◌, ℕ, zero, suc, Bool, true, false, ◌&&◌, ◌||◌, ◌==◌, ◌+◌, List, [], ◌∷◌, set, sym, refl, ap, ◌∙◌, subst, eq-eqb, ne_eqb, ◌⊎◌, inl, inr, ⊎_elim, arith}
use mathlib.Core.Path.{Path}
use mathlib.Core.Logic.{dite}
use mathlib.Core.Option.{none, some, some-injective, some-ne-none}
use native.Mathlib.Decide.{ℕ_discrete}
use lib.ListN.{get_elem?}
use Rattle.turn_locker.specs.declared.view.View.{View}
use Rattle.turn_locker.specs.Held.{held_at, without, has_pair, pairs_but, AreDistinct}
use Rattle.turn_locker.specs.Views.{total_share, passed_by}

module _ {C : Type 0} where
  abbrev pick : {P : Type 0} → Dec P → C → C → C
  pick (yes _) a b = a
  pick (no _) a b = b

  pub put : (ℕ → C) → ℕ → C → ℕ → C
  put cells i c j = pick (ℕ_discrete j i) c (cells j)

  -- what holds of the new cell at i, and of each other cell, holds after
  pub at_put : (cells : ℕ → C) (i : ℕ) (c : C) (F : ℕ → C → Type 0) (j : ℕ) → F i c → (j ≢ i → F j (cells j)) → F j (put cells i c j)
  unfolding put
  at_put cells i c F j here other = go (ℕ_discrete j i)
    where
      go : (d : Dec (j ≡ i)) → F j (pick d c (cells j))
      go (yes e) = subst (λ (k : ℕ). F k c) (sym e) here
      go (no n) = other n

module _ {A : Type 0} where
  pub set_mine : (l : List A) (i : ℕ) (a b : A) → get_elem? l i ≡ some b → get_elem? (set l i a) i ≡ some a
  set_mine [] i a b e = absurd (some-ne-none b (sym e))
  set_mine (x ∷ xs) zero a b e = refl
  set_mine (x ∷ xs) (suc i) a b e = set_mine xs i a b e

pub total_set : (views : List View) (id : ℕ) (v w : View) → get_elem? views id ≡ some v → total_share (set views id w) + v.share ≡ total_share views + w.share
total_set [] id v w e = absurd (some-ne-none v (sym e))
total_set (x ∷ xs) zero v w e = let same = ap (λ (y : View). y.share) (some-injective x v e) in omega arith
total_set (x ∷ xs) (suc id) v w e = let more = total_set xs id v w e in omega arith

pub held_here : (i t : ℕ) (hs : List (ℕ × ℕ)) → held_at i ((i, t) ∷ hs) ≡ some t
held_here i t hs = rw (eq-eqb i i refl) refl

pub held_else : (i t j : ℕ) (hs : List (ℕ × ℕ)) → j ≢ i → held_at j ((i, t) ∷ hs) ≡ held_at j hs
held_else i t j hs other = rw (ne_eqb i j (λ e. other (sym e))) refl

pub without_here : (i : ℕ) (hs : List (ℕ × ℕ)) → held_at i (without i hs) ≡ none
without_here i [] = refl
without_here i (h ∷ hs) = dite (ℕ_discrete h.0 i)
    (λ same. rw (eq-eqb h.0 i same) (without_here i hs))
    (λ other. rw (ne_eqb h.0 i other) (rw (ne_eqb h.0 i other) (without_here i hs)))

pub without_else : (i j : ℕ) (hs : List (ℕ × ℕ)) → j ≢ i → held_at j (without i hs) ≡ held_at j hs
without_else i j [] other = refl
without_else i j (h ∷ hs) other = dite (ℕ_discrete h.0 i)
    (λ same. let n : h.0 ≢ j = λ e. other (sym e ∙ same) in rw (eq-eqb h.0 i same) (rw (ne_eqb h.0 j n) (without_else i j hs other)))
    (λ no_i. dite (ℕ_discrete h.0 j)
    (λ same. rw (ne_eqb h.0 i no_i) (rw (eq-eqb h.0 j same) refl))
    (λ no_j. rw (ne_eqb h.0 i no_i) (rw (ne_eqb h.0 j no_j) (without_else i j hs other))))

pub put_here : {C : Type 0} (cells : ℕ → C) (i : ℕ) (c : C) → Path C (put cells i c i) c
put_here {C} cells i c = at_put cells i c (λ q x. q ≡ i → Path C x c) i (λ _. refl) (λ n. absurd (n refl)) refl

pub put_else : {C : Type 0} (cells : ℕ → C) (i : ℕ) (c : C) (j : ℕ) → j ≢ i → Path C (put cells i c j) (cells j)
put_else {C} cells i c j other = at_put cells i c (λ q x. q ≡ j → Path C x (cells j)) j (λ e. absurd (other (sym e))) (λ _ _. refl) refl

pub pair_here : (n w : ℕ) (qs : List (ℕ × ℕ)) → has_pair n w ((n, w) ∷ qs) ≡ true
pair_here n w qs = rw (eq-eqb n n refl) (rw (eq-eqb w w refl) refl)

pub pair_else : (n w m x : ℕ) (qs : List (ℕ × ℕ)) → ¬ ((m ≡ n) × (x ≡ w)) → has_pair m x ((n, w) ∷ qs) ≡ has_pair m x qs
pair_else n w m x qs other = dite (ℕ_discrete n m)
    (λ e. dite (ℕ_discrete w x) (λ f. absurd (other (sym e, sym f))) (λ f. rw (eq-eqb n m e) (rw (ne_eqb w x f) refl)))
    (λ e. rw (ne_eqb n m e) refl)

pub but_here : (n w : ℕ) (qs : List (ℕ × ℕ)) → has_pair n w (pairs_but n qs) ≡ false
but_here n w [] = refl
but_here n w (q ∷ qs) = dite (ℕ_discrete q.0 n)
    (λ same. rw (eq-eqb q.0 n same) (but_here n w qs))
    (λ other. rw (ne_eqb q.0 n other) (rw (ne_eqb q.0 n other) (but_here n w qs)))

pub but_else : (n m x : ℕ) (qs : List (ℕ × ℕ)) → m ≢ n → has_pair m x (pairs_but n qs) ≡ has_pair m x qs
but_else n m x [] other = refl
but_else n m x (q ∷ qs) other = dite (ℕ_discrete q.0 n)
    (λ same. let no : q.0 ≢ m = λ e. other (sym e ∙ same) in rw (eq-eqb q.0 n same) (rw (ne_eqb q.0 m no) (but_else n m x qs other)))
    (λ no. rw (ne_eqb q.0 n no) (ap (λ b. ((q.0 == m) && (q.1 == x)) || b) (but_else n m x qs other)))

or_true : (a b : Bool) → (a || b) ≡ true → (a ≡ true) ⊎ (b ≡ true)
or_true true b e = inl refl
or_true false b e = inr e

pub or_right : (a b : Bool) → b ≡ true → (a || b) ≡ true
or_right true b e = refl
or_right false b e = e

-- a pair that some seat has
pub passed_seat : (views : List View) (n w : ℕ) → passed_by views n w ≡ true
    → (j : ℕ) × (v : View) × (get_elem? views j ≡ some v) × (has_pair n w v.passed ≡ true)
passed_seat [] n w e = cc e
passed_seat (v ∷ vs) n w e = ⊎_elim (λ here. (0, v, refl, here)) (λ there. let r = passed_seat vs n w there in (suc r.0, r.1, r.2, r.3))
    (or_true (has_pair n w v.passed) (passed_by vs n w) e)

pub seat_passed : (views : List View) (n w j : ℕ) (v : View) → get_elem? views j ≡ some v → has_pair n w v.passed ≡ true → passed_by views n w ≡ true
seat_passed [] n w j v at e = absurd (some-ne-none v (sym at))
seat_passed (x ∷ xs) n w zero v at e = let h : has_pair n w x.passed ≡ true = ap (λ (y : View). has_pair n w y.passed) (some-injective x v at) ∙ e in rw h refl
seat_passed (x ∷ xs) n w (suc j) v at e = or_right (has_pair n w x.passed) (passed_by xs n w) (seat_passed xs n w j v at e)

-- a seat that has the pair afterwards exactly where it had it before
pub passed_same : (views : List View) (n w j : ℕ) (v u : View) → get_elem? views j ≡ some v → has_pair n w u.passed ≡ has_pair n w v.passed
    → passed_by (set views j u) n w ≡ passed_by views n w
passed_same [] n w j v u at e = refl
passed_same (x ∷ xs) n w zero v u at e = ap (λ b. b || passed_by xs n w) (e ∙ ap (λ (y : View). has_pair n w y.passed) (sym (some-injective x v at)))
passed_same (x ∷ xs) n w (suc j) v u at e = ap (λ b. has_pair n w x.passed || b) (passed_same xs n w j v u at e)

pub not_true : (b : Bool) → (b ≡ true → ⊥) → b ≡ false
not_true true f = absurd (f refl)
not_true false _ = refl

pub true_not_false : (b : Bool) → b ≡ true → b ≡ false → ⊥
true_not_false b e f = let no : true ≡ false = sym e ∙ f in cc no

pub distinct_but : (n : ℕ) (qs : List (ℕ × ℕ)) → AreDistinct qs → AreDistinct (pairs_but n qs)
distinct_but n [] d = tt
distinct_but n (q ∷ qs) d = dite (ℕ_discrete q.0 n)
    (λ same. rw (eq-eqb q.0 n same) (distinct_but n qs d.1))
    (λ other. rw (ne_eqb q.0 n other) (but_else n q.0 q.1 qs other ∙ d.0, distinct_but n qs d.1))

pub passed_now : (views : List View) (n w j : ℕ) (v u : View) → get_elem? views j ≡ some v → has_pair n w u.passed ≡ true → passed_by (set views j u) n w ≡ true
passed_now views n w j v u at e = seat_passed (set views j u) n w j u (set_mine views j u v at) e
