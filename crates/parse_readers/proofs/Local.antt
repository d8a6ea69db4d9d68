-- A reader goes by the tokens that it takes and the next one alone.
use Rattle.std.proofs.Common.{◌≡◌, ℕ, zero, suc, ◌<◌, ◌≤◌, List, [], ◌∷◌, ◌++◌, length, Bool, true, false, cond, refl, sym, ap, ◌∙◌, subst, ◌⊎◌, inl, inr, arith, append_assoc}
use Rattle.std.specs.Prelude.{Result, Ok, Err, Option, Some, None}
use Rattle.std.proofs.lemmas.Bool.{cases_Bool}
use Rattle.hume_base.specs.declared.token.Kind.{Kind}
use Rattle.parse_readers.specs.inner.Readers.{Wrong, Reader, ◌>>=◌, stop, too_deep, next, is_token, led, closed, give, both, made, choice, pick, opens, turns, many}

-- what a step that gave something gave
pub bind_ok : {A B : Type 0} (r : Result A Wrong) (f : A → Result B Wrong) (y : B) → (r >>= f) ≡ Ok y → (x : A) × (r ≡ Ok x) × (f x ≡ Ok y)
bind_ok (Ok x) f y e = (x, refl, e)
bind_ok (Err n) f y e = cc

-- a choice that gave something, where the other side is a stop
pub chosen_ok : {A : Type 0} (b : Bool) (r : Result A Wrong) (n : Wrong) (y : A) → cond b r (Err n) ≡ Ok y → (b ≡ true) × (r ≡ Ok y)
chosen_ok true r n y e = (refl, e)
chosen_ok false r n y e = cc

-- a choice, and which way it went
pub chosen : {A : Type 0} (b : Bool) (x y z : A) → cond b x y ≡ z → ((b ≡ true) × (x ≡ z)) ⊎ ((b ≡ false) × (y ≡ z))
chosen true x y z e = inl (refl, e)
chosen false x y z e = inr (refl, e)

-- both begin with one token, or both are over
abbrev pub SameNext : List Kind → List Kind → Type 0
SameNext [] [] = Unit {0}
SameNext [] (l ∷ ls) = ⊥
SameNext (k ∷ ks) [] = ⊥
SameNext (k ∷ ks) (l ∷ ls) = k ≡ l

-- what was taken, and that anything else with the same next token gives the same
abbrev pub Splits : {A : Type 0} → Reader A → List Kind → Result (A × List Kind) Wrong → Type 0
Splits p ks (Ok x) = (front : List Kind) × (ks ≡ front ++ x.1) × ((ls : List Kind) → SameNext x.1 ls → p (front ++ ls) ≡ Ok (x.0, ls))
Splits p ks (Err n) = (front : List Kind) × (rest : List Kind) × (ks ≡ front ++ rest) × (n.1 ≡ length rest) × ((ls : List Kind) → SameNext rest ls → p (front ++ ls) ≡ Err (n.0, length ls))

pub record Local {A : Type 0} (p : Reader A) : Type 0 where
  pub at : (ks : List Kind) → Splits p ks (p ks)

same_after : (front ks ls : List Kind) → SameNext ks ls → SameNext (front ++ ks) (front ++ ls)
same_after [] ks ls h = h
same_after (k ∷ front) ks ls h = refl

same_along : (ks ms ls : List Kind) → ks ≡ ms → SameNext ms ls → SameNext ks ls
same_along ks ms ls e h = subst (λ l. SameNext l ls) (sym e) h

module _ {A B : Type 0} (p : Reader A) (f : A → Reader B) where
  splits_after : (ks : List Kind) (x : A × List Kind) (front : List Kind) → ks ≡ front ++ x.1 → ((ls : List Kind) → SameNext x.1 ls → p (front ++ ls) ≡ Ok (x.0, ls)) → (r : Result (B × List Kind) Wrong) → Splits (f x.0) x.1 r → Splits (λ l. p l >>= λ y. f y.0 y.1) ks r
  splits_after ks x front e h (Ok y) s = (
    front ++ s.0,
    e ∙ ap (λ l. front ++ l) s.1 ∙ sym (append_assoc front s.0 y.1),
    λ ls same. ap (λ l. p l >>= λ z. f z.0 z.1) (append_assoc front s.0 ls)
        ∙ rw (h (s.0 ++ ls) (same_along x.1 (s.0 ++ y.1) (s.0 ++ ls) s.1 (same_after s.0 y.1 ls same))) (s.2 ls same),
  )
  splits_after ks x front e h (Err n) s = (
    front ++ s.0,
    s.1,
    e ∙ ap (λ l. front ++ l) s.2 ∙ sym (append_assoc front s.0 s.1),
    s.3,
    λ ls same. ap (λ l. p l >>= λ z. f z.0 z.1) (append_assoc front s.0 ls)
        ∙ rw (h (s.0 ++ ls) (same_along x.1 (s.0 ++ s.1) (s.0 ++ ls) s.2 (same_after s.0 s.1 ls same))) (s.4 ls same),
  )

  pub splits_bind : (ks : List Kind) (r : Result (A × List Kind) Wrong) → p ks ≡ r → Splits p ks r → ((x : A × List Kind) → p ks ≡ Ok x → Splits (f x.0) x.1 (f x.0 x.1)) → Splits (λ l. p l >>= λ y. f y.0 y.1) ks (r >>= λ y. f y.0 y.1)
  splits_bind ks (Err n) e s h = (s.0, s.1, s.2, s.3, λ ls same. rw (s.4 ls same))
  splits_bind ks (Ok x) e s h = splits_after ks x s.0 s.1 s.2 (f x.0 x.1) (h x e)

  pub local_bind : Local p → ((x : A) → Local (f x)) → Local (λ l. p l >>= λ y. f y.0 y.1)
  local_bind lp lf = record { at = λ ks. splits_bind ks (p ks) refl (lp.at ks) (λ x e. (lf x.0).at x.1) }

-- a reader that goes on as another one behind a token, or at it
module _ {A : Type 0} (p q : Reader A) (k : Kind) where
  behind_token : ((ls : List Kind) → p (k ∷ ls) ≡ q ls) → (ks : List Kind) (r : Result (A × List Kind) Wrong) → Splits q ks r → Splits p (k ∷ ks) r
  behind_token h ks (Ok x) s = (k ∷ s.0, ap (λ l. k ∷ l) s.1, λ ls same. h (s.0 ++ ls) ∙ s.2 ls same)
  behind_token h ks (Err n) s = (k ∷ s.0, s.1, ap (λ l. k ∷ l) s.2, s.3, λ ls same. h (s.0 ++ ls) ∙ s.4 ls same)

  pub local_behind : ((ls : List Kind) → p (k ∷ ls) ≡ q ls) → Local q → (ks : List Kind) → Splits p (k ∷ ks) (p (k ∷ ks))
  local_behind h lq ks = subst (Splits p (k ∷ ks)) (sym (h ks)) (behind_token h ks (q ks) (lq.at ks))

  agree_at : ((ls : List Kind) → p (k ∷ ls) ≡ q (k ∷ ls)) → (ks front rest ls : List Kind) → k ∷ ks ≡ front ++ rest → SameNext rest ls → p (front ++ ls) ≡ q (front ++ ls)
  agree_at h ks (j ∷ front) rest ls e same = let is : k ≡ j = cc in subst (λ i. p (i ∷ (front ++ ls)) ≡ q (i ∷ (front ++ ls))) is (h (front ++ ls))
  agree_at h ks [] [] ls e same = absurd (let f : k ∷ ks ≡ [] = e in cc)
  agree_at h ks [] (j ∷ rest) [] e same = absurd same
  agree_at h ks [] (j ∷ rest) (i ∷ ls) e same = let is : k ≡ i = cc in subst (λ i. p (i ∷ ls) ≡ q (i ∷ ls)) is (h ls)

  as_other : ((ls : List Kind) → p (k ∷ ls) ≡ q (k ∷ ls)) → (ks : List Kind) (r : Result (A × List Kind) Wrong) → Splits q (k ∷ ks) r → Splits p (k ∷ ks) r
  as_other h ks (Ok x) s = (s.0, s.1, λ ls same. agree_at h ks s.0 x.1 ls s.1 same ∙ s.2 ls same)
  as_other h ks (Err n) s = (s.0, s.1, s.2, s.3, λ ls same. agree_at h ks s.0 s.1 ls s.2 same ∙ s.4 ls same)

  pub splits_as : ((ls : List Kind) → p (k ∷ ls) ≡ q (k ∷ ls)) → (ks : List Kind) → Splits q (k ∷ ks) (q (k ∷ ks)) → Splits p (k ∷ ks) (p (k ∷ ks))
  splits_as h ks s = subst (Splits p (k ∷ ks)) (sym (h ks)) (as_other h ks (q (k ∷ ks)) s)

  pub local_as : ((ls : List Kind) → p (k ∷ ls) ≡ q (k ∷ ls)) → Local q → (ks : List Kind) → Splits p (k ∷ ks) (p (k ∷ ks))
  local_as h lq ks = splits_as h ks (lq.at (k ∷ ks))

pub local_stop : {A : Type 0} → Local {A = A} stop
local_stop = record { at = λ ks. ([], ks, refl, refl, λ ls same. refl) }

pub local_too_deep : {A : Type 0} → Local {A = A} too_deep
local_too_deep = record { at = λ ks. ([], ks, refl, refl, λ ls same. refl) }

pub local_give : {A : Type 0} (a : A) → Local {A = A} (λ ks. Ok (a, ks))
local_give a = record { at = λ ks. ([], refl, λ ls same. refl) }

only_empty : (P : List Kind → Type 0) → P [] → (ls : List Kind) → SameNext [] ls → P ls
only_empty P h [] same = h
only_empty P h (l ∷ ls) same = absurd same

pub stop_empty : {A : Type 0} (p : Reader A) → p [] ≡ Err (false, 0) → Splits p [] (p [])
stop_empty p e = subst (Splits p []) (sym e) ([], [], refl, refl, λ ls same. only_empty (λ l. p l ≡ Err (false, length l)) e ls same)

pub give_empty : {A : Type 0} (p : Reader A) (a : A) → p [] ≡ Ok (a, []) → Splits p [] (p [])
give_empty p a e = subst (Splits p []) (sym e) ([], refl, λ ls same. only_empty (λ l. p l ≡ Ok (a, l)) e ls same)

no_front : (front ks : List Kind) → [] ≡ front ++ ks → (front ≡ []) × (ks ≡ [])
no_front [] ks e = (refl, sym e)
no_front (k ∷ front) ks e = absurd (let f : [] ≡ k ∷ (front ++ ks) = e in cc)

as_empty : {A : Type 0} (p q : Reader A) → p [] ≡ q [] → (r : Result (A × List Kind) Wrong) → q [] ≡ r → Splits q [] r → Splits p [] r
as_empty p q e (Ok x) is s = let none = (no_front s.0 x.1 s.1).1 in ([], sym none, λ ls same. only_empty (λ l. p l ≡ Ok (x.0, l)) (e ∙ is ∙ ap (λ l. Ok (x.0, l)) none) ls (subst (λ l. SameNext l ls) none same))
as_empty p q e (Err n) is s = let none = (no_front s.0 s.1 s.2).1 in ([], [], refl, s.3 ∙ ap length none, λ ls same. only_empty (λ l. p l ≡ Err (n.0, length l)) (e ∙ is ∙ ap (λ m. Err (n.0, m)) (s.3 ∙ ap length none)) ls same)

pub local_as_empty : {A : Type 0} (p q : Reader A) → p [] ≡ q [] → Local q → Splits p [] (p [])
local_as_empty p q e lq = subst (Splits p []) (sym e) (as_empty p q e (q []) refl (lq.at []))

pub local_choice : {A : Type 0} (test : Kind → Bool) (p q : Reader A) → Local p → Local q → Local (choice test p q)
local_choice test p q lp lq = record { at = choice_at } where
  choice_by : (k : Kind) (ks : List Kind) (b : Bool) → test k ≡ b → Splits (choice test p q) (k ∷ ks) (choice test p q (k ∷ ks))
  choice_by k ks true e = local_as (choice test p q) p k (λ ls. rw e) lp ks
  choice_by k ks false e = local_as (choice test p q) q k (λ ls. rw e) lq ks

  choice_at : (ks : List Kind) → Splits (choice test p q) ks (choice test p q ks)
  choice_at [] = local_as_empty (choice test p q) q refl lq
  choice_at (k ∷ ks) = choice_by k ks (test k) refl

module _ {A : Type 0} (token : Kind) (p : Reader A) (lp : Local p) where
  led_by : (k : Kind) (ks : List Kind) (b : Bool) → is_token token k ≡ b → Splits (led token p) (k ∷ ks) (led token p (k ∷ ks))
  led_by k ks true e = local_behind (led token p) p k (λ ls. rw e) lp ks
  led_by k ks false e = local_as (led token p) stop k (λ ls. rw e) local_stop ks

  led_at : (ks : List Kind) → Splits (led token p) ks (led token p ks)
  led_at [] = stop_empty (led token p) refl
  led_at (k ∷ ks) = led_by k ks (is_token token k) refl

  pub local_led : Local (led token p)
  local_led = record { at = led_at }

pub local_closed : {A : Type 0} (p : Reader A) (token : Kind) → Local p → Local (closed p token)
local_closed p token lp = local_bind p (λ a. led token (give a)) lp (λ a. local_led token (give a) (local_give a))

pub local_both : {A B : Type 0} (p : Reader A) (q : Reader B) → Local p → Local q → Local (both p q)
local_both p q lp lq = local_bind p (λ a l. q l >>= λ b. Ok ((a, b.0), b.1)) lp (λ a. local_bind q (λ b l. Ok ((a, b), l)) lq (λ b. local_give (a, b)))

pub local_made : {A B : Type 0} (f : A → B) (p : Reader A) → Local p → Local (made f p)
local_made f p lp = local_bind p (λ a l. Ok (f a, l)) lp (λ a. local_give (f a))

pub local_opens : {A : Type 0} (room : ℕ) (p : Reader A) → Local p → Local (opens room p)
local_opens zero p lp = local_too_deep
local_opens (suc room) p lp = lp

module _ {A : Type 0} (f : Kind → Option A) where
  pick_by : (k : Kind) (ks : List Kind) (o : Option A) → f k ≡ o → Splits (pick f) (k ∷ ks) (pick f (k ∷ ks))
  pick_by k ks (Some a) e = local_behind (pick f) (give a) k (λ ls. rw e) (local_give a) ks
  pick_by k ks None e = local_as (pick f) stop k (λ ls. rw e) local_stop ks

  pick_split : (ks : List Kind) → Splits (pick f) ks (pick f ks)
  pick_split [] = stop_empty (pick f) refl
  pick_split (k ∷ ks) = pick_by k ks (f k) refl

  pub local_pick : Local (pick f)
  local_pick = record { at = pick_split }

pub bind_same : {A B : Type 0} (r : Result A Wrong) (f g : A → Result B Wrong) → ((x : A) → r ≡ Ok x → f x ≡ g x) → (r >>= f) ≡ (r >>= g)
bind_same (Ok x) f g h = h x refl
bind_same (Err n) f g h = refl

-- what is read again and again
module _ {A : Type 0} (test : Kind → Bool) (p : Reader A) (shrinks : (ks : List Kind) (x : A × List Kind) → p ks ≡ Ok x → length x.1 < length ks) where
  at_end : (n : ℕ) → turns test p n [] ≡ Ok ([], [])
  at_end zero = refl
  at_end (suc n) = refl

  abbrev one_more : A → List A × List Kind → Result (List A × List Kind) Wrong
  one_more a others = Ok (a ∷ others.0, others.1)

  -- a bound over the number of tokens makes no difference
  turns_enough : (n m : ℕ) (ks : List Kind) → length ks ≤ n → length ks ≤ m → turns test p n ks ≡ turns test p m ks
  turns_enough n m [] h k = at_end n ∙ sym (at_end m)
  turns_enough zero m (x ∷ ks) h k = absurd (omega arith)
  turns_enough (suc n) zero (x ∷ ks) h k = absurd (omega arith)
  turns_enough (suc n) (suc m) (x ∷ ks) h k =
      ap (λ r. cond (test x) r (Ok ([], x ∷ ks)))
      (bind_same (p (x ∷ ks)) (λ y. turns test p n y.1 >>= one_more y.0) (λ y. turns test p m y.1 >>= one_more y.0)
      (λ y e. let less = shrinks (x ∷ ks) y e in ap (λ r. r >>= one_more y.0) (turns_enough n m y.1 (omega arith) (omega arith))))

  pub many_stop : (ks : List Kind) → next test ks ≡ false → many test p ks ≡ Ok ([], ks)
  unfolding many
  many_stop [] e = refl
  many_stop (k ∷ ks) e = rw e

  pub many_turn : (ks : List Kind) → next test ks ≡ true → many test p ks ≡ (p ks >>= λ a. many test p a.1 >>= λ others. Ok (a.0 ∷ others.0, others.1))
  unfolding many
  many_turn [] e = cc
  many_turn (k ∷ ks) e =
      ap (λ b. cond b (p (k ∷ ks) >>= λ a. turns test p (length ks) a.1 >>= one_more a.0) (Ok ([], k ∷ ks))) e
      ∙ bind_same (p (k ∷ ks)) (λ x. turns test p (length ks) x.1 >>= one_more x.0) (λ x. turns test p (length x.1) x.1 >>= one_more x.0)
      (λ x is. let less = shrinks (k ∷ ks) x is in ap (λ r. r >>= one_more x.0) (turns_enough (length ks) (length x.1) x.1 (omega arith) (omega arith)))

  module _ (lp : Local p) where
    many_by : (n : ℕ) (ks : List Kind) → length ks ≤ n → Splits (many test p) ks (many test p ks)
    many_by n [] h = give_empty (many test p) [] (many_stop [] refl)
    many_by zero (k ∷ ks) h = absurd (omega arith)
    many_by (suc n) (k ∷ ks) h =
        elim (cases_Bool (test k)) [
          | inl e ↦
              splits_as (many test p) (λ l. p l >>= λ a. many test p a.1 >>= λ others. Ok (a.0 ∷ others.0, others.1)) k (λ ls. many_turn (k ∷ ls) e) ks
              (splits_bind p (λ a l. many test p l >>= λ others. Ok (a ∷ others.0, others.1)) (k ∷ ks) (p (k ∷ ks)) refl (lp.at (k ∷ ks))
              (λ x is. let less = shrinks (k ∷ ks) x is in
              splits_bind (many test p) (λ others l. Ok (x.0 ∷ others, l)) x.1 (many test p x.1) refl (many_by n x.1 (omega arith)) (λ y g. (local_give (x.0 ∷ y.0)).at y.1)))
          | inr e ↦ splits_as (many test p) (give []) k (λ ls. many_stop (k ∷ ls) e) ks ((local_give []).at (k ∷ ks))
        ]

    pub local_many : Local (many test p)
    local_many = record { at = λ ks. many_by (length ks) ks (omega arith) }
