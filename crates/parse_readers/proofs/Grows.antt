-- With more room, what was read stays, and so does where nothing goes on; where something went on too deep, the tokens
-- are read further. Each way of putting readers together keeps that.
use Rattle.std.proofs.Common.{◌≡◌, ℕ, zero, suc, ◌<◌, ◌≤◌, List, [], ◌∷◌, length, Bool, true, false, cond, refl, sym, ap, subst, inl, inr, arith, length-append}
use Rattle.std.specs.Prelude.{Result, Ok, Err, Option, Some, None}
use Rattle.std.proofs.lemmas.Bool.{cases_Bool}
use Rattle.hume_base.specs.declared.symbol.Symbol.{Symbol}
use Rattle.hume_base.specs.declared.token.Kind.{Kind}
use Rattle.hume_base.specs.declared.token.Kind.TheVariants.{Sign}
use Rattle.parse_readers.specs.inner.Readers.{after, listed, several, cons, maybe, is_sign, Wrong, Reader, ◌>>=◌, next, behind, is_token, stop, led, closed, give, both, made, choice, picked, pick, opens, many}
use Rattle.parse_readers.proofs.TokensApart.{after_ok}
use Rattle.parse_readers.proofs.Local.{bind_ok, local_closed, local_both, local_made, Local, Splits, many_stop, many_turn, local_led, local_give, local_many, local_bind}

-- fewer tokens than these are left
abbrev pub Past : {A : Type 0} → ℕ → Result (A × List Kind) Wrong → Type 0
Past n (Ok x) = length x.1 < n
Past n (Err w) = w.1 < n

-- the same, or behind where the first one stopped for want of depth
abbrev pub Same : {A : Type 0} → Result (A × List Kind) Wrong → Result (A × List Kind) Wrong → Type 0
Same (Ok x) r = r ≡ Ok x
Same (Err (false, n)) r = r ≡ Err (false, n)
Same (Err (true, n)) r = Past n r

abbrev pub Grows : {A : Type 0} → Reader A → Reader A → Type 0
Grows p q = (ks : List Kind) → Same (p ks) (q ks)

-- never are more tokens left than there were
pub within : {A : Type 0} (p : Reader A) → Local p → (ks : List Kind) → Past (suc (length ks)) (p ks)
within p lp ks = by (p ks) (lp.at ks) where
  by : (r : Result (_ × List Kind) Wrong) → Splits p ks r → Past (suc (length ks)) r
  by (Ok x) s = omega (arith, ap length s.1, length-append s.0 x.1)
  by (Err w) s = omega (arith, ap length s.2, length-append s.0 s.1, s.3)

pub past_more : {A : Type 0} (m n : ℕ) (r : Result (A × List Kind) Wrong) → Past m r → m ≤ n → Past n r
past_more m n (Ok x) h l = omega (arith, h)
past_more m n (Err w) h l = omega (arith, h)

module _ {A B : Type 0} (f : A → Reader B) (lf : (a : A) → Local (f a)) where
  pub past_bind : (n : ℕ) (r : Result (A × List Kind) Wrong) → Past n r → Past n (r >>= λ y. f y.0 y.1)
  past_bind n (Ok x) h = past_more (suc (length x.1)) n (f x.0 x.1) (within (f x.0) (lf x.0) x.1) (omega (arith, h))
  past_bind n (Err w) h = h

  -- one step and the rest
  pub same_after : (g : A → Reader B) (r s : Result (A × List Kind) Wrong) → Same r s → ((x : A × List Kind) → r ≡ Ok x → Same (g x.0 x.1) (f x.0 x.1)) → Same (r >>= λ y. g y.0 y.1) (s >>= λ y. f y.0 y.1)
  same_after g (Ok x) s e h = subst (λ (t : Result (A × List Kind) Wrong). Same (g x.0 x.1) (t >>= λ y. f y.0 y.1)) (sym e) (h x refl)
  same_after g (Err (false, n)) s e h = subst (λ (t : Result (A × List Kind) Wrong). (t >>= λ y. f y.0 y.1) ≡ Err (false, n)) (sym e) refl
  same_after g (Err (true, n)) s e h = past_bind n s e

  pub same_bind : (g : A → Reader B) → ((a : A) → Grows (g a) (f a)) → (r s : Result (A × List Kind) Wrong) → Same r s → Same (r >>= λ y. g y.0 y.1) (s >>= λ y. f y.0 y.1)
  same_bind g h r s e = same_after g r s e (λ x is. h x.0 x.1)

  pub grows_bind : (p q : Reader A) → Grows p q → (g : A → Reader B) → ((a : A) → Grows (g a) (f a)) → Grows (λ l. p l >>= λ y. g y.0 y.1) (λ l. q l >>= λ y. f y.0 y.1)
  grows_bind p q hp g h ks = same_bind g h (p ks) (q ks) (hp ks)

pub grows_stop : {A : Type 0} → Grows {A = A} stop stop
grows_stop ks = refl

pub grows_give : {A : Type 0} (a : A) → Grows (give a) (give a)
grows_give a ks = refl

module _ {A : Type 0} (f : Kind → Option A) where
  picked_same : (all ks : List Kind) (o : Option A) → Same (picked o all ks) (picked o all ks)
  picked_same all ks None = refl
  picked_same all ks (Some a) = refl

  pub grows_pick : Grows (pick f) (pick f)
  grows_pick [] = refl
  grows_pick (k ∷ ks) = picked_same (k ∷ ks) ks (f k)

pub grows_choice : {A : Type 0} (test : Kind → Bool) (p q p2 q2 : Reader A) → Grows p p2 → Grows q q2 → Grows (choice test p q) (choice test p2 q2)
grows_choice test p q p2 q2 hp hq ks = by (next test ks) where
  by : (b : Bool) → Same (cond b (p ks) (q ks)) (cond b (p2 ks) (q2 ks))
  by true = hp ks
  by false = hq ks

pub grows_led : {A : Type 0} (token : Kind) (p q : Reader A) → Grows p q → Grows (led token p) (led token q)
grows_led token p q h ks = by (next (is_token token) ks) where
  by : (b : Bool) → Same (cond b (Ok (behind ks)) (stop ks) >>= p) (cond b (Ok (behind ks)) (stop ks) >>= q)
  by true = h (behind ks)
  by false = refl

pub grows_leaf : {A : Type 0} (token : Kind) (a : A) → Grows (led token (give a)) (led token (give a))
grows_leaf token a = grows_led token (give a) (give a) (grows_give a)

-- a way that has to grow only where its test holds
pub grows_way : {A : Type 0} (test : Kind → Bool) (p q p2 q2 : Reader A) → ((ks : List Kind) → next test ks ≡ true → Same (p ks) (p2 ks)) → Grows q q2 → Grows (choice test p q) (choice test p2 q2)
grows_way test p q p2 q2 hp hq ks = by (next test ks) refl where
  by : (b : Bool) → next test ks ≡ b → Same (cond b (p ks) (q ks)) (cond b (p2 ks) (q2 ks))
  by true e = hp ks e
  by false e = hq ks

pub grows_closed : {A : Type 0} (token : Kind) (p q : Reader A) → Grows p q → Grows (closed p token) (closed q token)
grows_closed token p q h = grows_bind (λ a. led token (give a)) (λ a. local_led token (give a) (local_give a)) p q h (λ a. led token (give a)) (λ a. grows_led token (give a) (give a) (grows_give a))

pub grows_made : {A B : Type 0} (f : A → B) (p q : Reader A) → Grows p q → Grows (made f p) (made f q)
grows_made f p q h = grows_bind (λ a l. Ok (f a, l)) (λ a. local_give (f a)) p q h (λ a l. Ok (f a, l)) (λ a. grows_give (f a))

pub grows_both : {A B : Type 0} (p p2 : Reader A) (q q2 : Reader B) → Grows p p2 → Grows q q2 → Local q2 → Grows (both p q) (both p2 q2)
grows_both p p2 q q2 hp hq lq = grows_bind
    (λ a l. q2 l >>= λ b. Ok ((a, b.0), b.1)) (λ a. local_bind q2 (λ b l. Ok ((a, b), l)) lq (λ b. local_give (a, b))) p p2 hp
    (λ a l. q l >>= λ b. Ok ((a, b.0), b.1)) (λ a. grows_bind (λ b l. Ok ((a, b), l)) (λ b. local_give (a, b)) q q2 hq (λ b l. Ok ((a, b), l)) (λ b. grows_give (a, b)))

-- what opens with a token: without room it stops there, with room it goes past it
module _ {A B : Type 0} (f : A → B) (token : Kind) (p q : Reader A) (lq : Local q) where
  pub led_past : (ks : List Kind) → next (is_token token) ks ≡ true → Past (length ks) (made f (led token q) ks)
  led_past [] e = absurd (let g : false ≡ true = e in cc)
  led_past (k ∷ ks) e = past_bind (λ a l. Ok (f a, l)) (λ a. local_give (f a)) (suc (length ks)) (led token q (k ∷ ks))
      (subst (λ b. Past (suc (length ks)) (cond b (Ok ks) (stop (k ∷ ks)) >>= q)) (sym e) (within q lq ks))

  pub grows_opened : (r s : ℕ) → r < s → (0 < r → Grows p q) → (ks : List Kind) → next (is_token token) ks ≡ true → Same (opens r (made f (led token p)) ks) (opens s (made f (led token q)) ks)
  grows_opened r zero l h ks e = absurd (omega (arith, l))
  grows_opened zero (suc s) l h ks e = led_past ks e
  grows_opened (suc r) (suc s) l h ks e = grows_made f (led token p) (led token q) (grows_led token p q (h (omega arith))) ks

-- again and again
module _ {A : Type 0} (test : Kind → Bool) (p q : Reader A) (lq : Local q) (h : Grows p q) (lessp : (ks : List Kind) (x : A × List Kind) → p ks ≡ Ok x → length x.1 < length ks) (lessq : (ks : List Kind) (x : A × List Kind) → q ks ≡ Ok x → length x.1 < length ks) where
  abbrev rest_of : Reader (List A) → A × List Kind → Result (List A × List Kind) Wrong
  rest_of others a = others a.1 >>= λ more. Ok (a.0 ∷ more.0, more.1)

  abbrev one_more : A → Reader (List A)
  one_more a ts = many test q ts >>= λ more. Ok (a ∷ more.0, more.1)

  one_more_local : (a : A) → Local (one_more a)
  one_more_local a = local_bind (many test q) (λ more ts. Ok (a ∷ more, ts)) (local_many test q lessq lq) (λ more. local_give (a ∷ more))

  next_turn : (ks : List Kind) → ((ls : List Kind) → length ls < length ks → Same (many test p ls) (many test q ls)) → Same (p ks >>= rest_of (many test p)) (q ks >>= rest_of (many test q))
  next_turn ks later = same_after one_more one_more_local (λ a ts. many test p ts >>= λ more. Ok (a ∷ more.0, more.1)) (p ks) (q ks) (h ks)
      (λ x is. same_bind (λ more ts. Ok (x.0 ∷ more, ts)) (λ more. local_give (x.0 ∷ more)) (λ more ts. Ok (x.0 ∷ more, ts)) (λ more. grows_give (x.0 ∷ more)) (many test p x.1) (many test q x.1) (later x.1 (lessp ks x is)))

  all_turns : (ks : List Kind) → ((ls : List Kind) → length ls < length ks → Same (many test p ls) (many test q ls)) → Same (many test p ks) (many test q ks)
  all_turns ks later = elim (cases_Bool (next test ks)) [
    | inr e ↦ subst (λ (r : Result (List A × List Kind) Wrong). Same r (many test q ks)) (sym (many_stop test p lessp ks e)) (many_stop test q lessq ks e)
    | inl e ↦ subst (λ (r : Result (List A × List Kind) Wrong). Same r (many test q ks)) (sym (many_turn test p lessp ks e))
        (subst (λ (r : Result (List A × List Kind) Wrong). Same (p ks >>= rest_of (many test p)) r) (sym (many_turn test q lessq ks e)) (next_turn ks later))
  ]

  turn_by : (most : ℕ) (ks : List Kind) → length ks ≤ most → Same (many test p ks) (many test q ks)
  turn_by zero ks l = all_turns ks (λ ls less. absurd (omega (arith, l, less)))
  turn_by (suc most) ks l = all_turns ks (λ ls less. turn_by most ls (omega (arith, l, less)))

  pub grows_many : Grows (many test p) (many test q)
  grows_many ks = turn_by (length ks) ks (omega arith)

-- a token and what is read behind it are a token at least
pub led_less : {A : Type 0} (token : Kind) (p : Reader A) → Local p → (ks : List Kind) (x : A × List Kind) → led token p ks ≡ Ok x → length x.1 < length ks
led_less token p lp ks x e =
    let w = bind_ok (after token ks) p x e in
    let l = subst (Past (suc (length w.0))) w.2 (within p lp w.0) in
    omega (arith, l, ap length (after_ok token ks w.0 w.1))

-- with a sign between each two
module _ {A : Type 0} (sign : Symbol) (q : Reader A) (lq : Local q) where
  pub others_local : Local (many (is_sign sign) (led (Sign sign) q))
  others_local = local_many (is_sign sign) (led (Sign sign) q) (led_less (Sign sign) q lq) (local_led (Sign sign) q lq)

  pub listed_local : Local (listed sign q)
  listed_local = local_made cons (both q (many (is_sign sign) (led (Sign sign) q))) (local_both q (many (is_sign sign) (led (Sign sign) q)) lq others_local)

  pub several_local : Local (several sign q)
  several_local = local_made cons (both (closed q (Sign sign)) (listed sign q)) (local_both (closed q (Sign sign)) (listed sign q) (local_closed q (Sign sign) lq) listed_local)

  module _ (p : Reader A) (lp : Local p) (h : Grows p q) where
    pub others_grow : Grows (many (is_sign sign) (led (Sign sign) p)) (many (is_sign sign) (led (Sign sign) q))
    others_grow = grows_many (is_sign sign) (led (Sign sign) p) (led (Sign sign) q) (local_led (Sign sign) q lq) (grows_led (Sign sign) p q h) (led_less (Sign sign) p lp) (led_less (Sign sign) q lq)

    pub listed_grow : Grows (listed sign p) (listed sign q)
    listed_grow = grows_made cons (both p (many (is_sign sign) (led (Sign sign) p))) (both q (many (is_sign sign) (led (Sign sign) q)))
        (grows_both p q (many (is_sign sign) (led (Sign sign) p)) (many (is_sign sign) (led (Sign sign) q)) h others_grow others_local)

    pub several_grow : Grows (several sign p) (several sign q)
    several_grow = grows_made cons (both (closed p (Sign sign)) (listed sign p)) (both (closed q (Sign sign)) (listed sign q))
        (grows_both (closed p (Sign sign)) (closed q (Sign sign)) (listed sign p) (listed sign q) (grows_closed (Sign sign) p q h) listed_grow listed_local)

-- what may be there
pub grows_maybe : {A : Type 0} (test : Kind → Bool) (p q : Reader A) → Grows p q → Grows (maybe test p) (maybe test q)
grows_maybe test p q h = grows_choice test (made Some p) (give None) (made Some q) (give None) (grows_made Some p q h) (grows_give None)

-- where there is room on both sides
pub grows_opens : {A : Type 0} (r s : ℕ) (p q : Reader A) → 0 < r → 0 < s → Grows p q → Grows (opens r p) (opens s q)
grows_opens zero s p q z l h = absurd (omega (arith, z))
grows_opens (suc r) zero p q z l h = absurd (omega (arith, l))
grows_opens (suc r) (suc s) p q z l h = h
