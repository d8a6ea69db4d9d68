-- Where a reader stops, the tokens in front of the wrong one are the front of what something fit is spelled with; or it
-- took none. Each way of putting readers together keeps that.
use Rattle.std.proofs.Common.{◌≡◌, ℕ, zero, suc, ◌<◌, ◌≤◌, List, [], ◌∷◌, ◌++◌, map, length, Bool, true, false, refl, sym, ap, ◌∙◌, ◌⊎◌, inl, inr, arith, length-append, append_assoc}
use Rattle.std.specs.Prelude.{Result, Ok, Err, Option, Some, None}
use Rattle.std.specs.List.{flat_map}
use Rattle.std.proofs.lemmas.Bool.{cases_Bool}
use Rattle.hume_base.specs.declared.symbol.Symbol.{Symbol}
use Rattle.hume_base.specs.declared.token.Kind.{Kind}
use Rattle.hume_base.specs.declared.token.Kind.TheVariants.{Sign}
use Rattle.hume_ast.specs.Fits.{Each, IfThere, OneOrMore}
use Rattle.hume_ast.specs.Spelling.{separated}
use Rattle.parse_readers.specs.inner.Readers.{maybe, Wrong, Reader, too_deep, choice, behind, is_token, ◌>>=◌, next, after, stop, led, closed, give, both, made, alternatives, picked, pick, opens, many, cons, listed, several, is_sign}
use Rattle.parse_readers.proofs.Local.{chosen, many_stop, many_turn}
use Rattle.parse_readers.proofs.TokensApart.{after_ok}
use Rattle.parse_readers.proofs.Forms.{Reads, maybe_spell, led_reads, closed_reads, preceded_map}

-- the tokens in front of the last so many are the front of the spelling of something fit; or there are none in front
abbrev pub Begun : {A : Type 0} → (A → List Kind) → (A → Type 0) → List Kind → ℕ → Type 0
Begun {A = A} spell Fit ks n = (n ≡ length ks) ⊎ ((front : List Kind) × (rest : List Kind) × (ks ≡ front ++ rest) × (n ≡ length rest) × (a : A) × (more : List Kind) × Fit a × (spell a ≡ front ++ more))

abbrev pub Begins : {A : Type 0} → (A → List Kind) → (A → Type 0) → Reader A → Type 0
Begins spell Fit p = (ks : List Kind) (n : Wrong) → p ks ≡ Err n → Begun spell Fit ks n.1

pub bind_err : {A B : Type 0} (r : Result A Wrong) (f : A → Result B Wrong) (n : Wrong) → (r >>= f) ≡ Err n → (r ≡ Err n) ⊎ ((x : A) × (r ≡ Ok x) × (f x ≡ Err n))
bind_err (Ok x) f n e = inr (x, refl, e)
bind_err (Err m) f n e = inl (let g = e in cc)

pub err_same : {A : Type 0} (deep : Bool) (m : ℕ) (n : Wrong) → ◌≡◌ {A = Result A Wrong} (Err (deep, m)) (Err n) → n.1 ≡ m
err_same deep m n e = let same : (deep, m) ≡ n = cc in ap (λ (w : Wrong). w.1) (sym same)

pub after_err : (token : Kind) (ks : List Kind) (n : Wrong) → after token ks ≡ Err n → n.1 ≡ length ks
after_err token ks n e = elim (chosen (next (is_token token) ks) (Ok (behind ks)) (Err (false, length ks)) (Err n) e) [
  | inl w ↦ absurd (let g = w.1 in cc)
  | inr w ↦ err_same false (length ks) n w.1
]

pub stop_begins : {A : Type 0} (spell : A → List Kind) (Fit : A → Type 0) → Begins spell Fit stop
stop_begins spell Fit ks n e = inl (err_same false (length ks) n e)

pub give_begins : {A : Type 0} (spell : A → List Kind) (Fit : A → Type 0) (a : A) → Begins spell Fit (give a)
give_begins spell Fit a ks n e = absurd (let g = e in cc)

pub opens_begins : {A : Type 0} (spell : A → List Kind) (Fit : A → Type 0) (p : Reader A) (room : ℕ) → (0 < room → Begins spell Fit p) → Begins spell Fit (opens room p)
opens_begins spell Fit p zero h ks n e = inl (err_same true (length ks) n e)
opens_begins spell Fit p (suc room) h ks n e = h (omega arith) ks n e

pub too_deep_begins : {A : Type 0} (spell : A → List Kind) (Fit : A → Type 0) → Begins spell Fit too_deep
too_deep_begins spell Fit ks n e = inl (err_same true (length ks) n e)

pub choice_begins : {A : Type 0} (spell : A → List Kind) (Fit : A → Type 0) (test : Kind → Bool) (p q : Reader A) → Begins spell Fit p → Begins spell Fit q → Begins spell Fit (choice test p q)
choice_begins spell Fit test p q hp hq ks n e = elim (chosen (next test ks) (p ks) (q ks) (Err n) e) [
  | inl w ↦ hp ks n w.1
  | inr w ↦ hq ks n w.1
]

pub alternatives_begins : {A : Type 0} (spell : A → List Kind) (Fit : A → Type 0) (ways : List ((Kind → Bool) × Reader A)) → Each (λ (way : (Kind → Bool) × Reader A). Begins spell Fit way.1) ways → Begins spell Fit (alternatives ways)
alternatives_begins spell Fit [] h = stop_begins spell Fit
alternatives_begins spell Fit (way ∷ ways) h = choice_begins spell Fit way.0 way.1 (alternatives ways) h.0 (alternatives_begins spell Fit ways h.1)

module _ {A : Type 0} (f : Kind → Option A) where
  picked_err : (o : Option A) (all ks : List Kind) (n : Wrong) → picked o all ks ≡ Err n → n.1 ≡ length all
  picked_err None all ks n e = err_same false (length all) n e
  picked_err (Some a) all ks n e = absurd (let g = e in cc)

  pub pick_err : (ks : List Kind) (n : Wrong) → pick f ks ≡ Err n → n.1 ≡ length ks
  pick_err [] n e = err_same false 0 n e
  pick_err (k ∷ ks) n e = picked_err (f k) (k ∷ ks) ks n e

pub pick_begins : {A : Type 0} (spell : A → List Kind) (Fit : A → Type 0) (f : Kind → Option A) → Begins spell Fit (pick f)
pick_begins spell Fit f ks n e = inl (pick_err f ks n e)

module _ {A : Type 0} {spell : A → List Kind} {Fit : A → Type 0} {p : Reader A} (begins : Begins spell Fit p) where
  module _ (token : Kind) (a : A) (fit : Fit a) where
    led_by : (ks : List Kind) (n : ℕ) (rest : List Kind) → ks ≡ token ∷ rest → Begun spell Fit rest n → Begun (λ b. token ∷ spell b) Fit ks n
    led_by ks n rest is (inl w) = inr (token ∷ [], rest, is, w, a, spell a, fit, refl)
    led_by ks n rest is (inr s) = inr (token ∷ s.0, s.1, is ∙ ap (λ m. token ∷ m) s.2, s.3, s.4, s.5, s.6, ap (λ m. token ∷ m) s.7)

    -- with something fit for where the tokens end behind the token
    pub led_begins : Begins (λ b. token ∷ spell b) Fit (led token p)
    led_begins ks n e = elim (bind_err (after token ks) p n e) [
      | inl w ↦ inl (after_err token ks n w)
      | inr w ↦ led_by ks n.1 w.0 (after_ok token ks w.0 w.1) (begins w.0 n w.2)
    ]

  module _ {B : Type 0} (f : A → B) (spell2 : B → List Kind) (Fit2 : B → Type 0) (there : (a : A) → Fit a → Fit2 (f a)) (same : (a : A) → Fit a → spell2 (f a) ≡ spell a) where
    made_by : (ks : List Kind) (n : ℕ) → Begun spell Fit ks n → Begun spell2 Fit2 ks n
    made_by ks n (inl w) = inl w
    made_by ks n (inr s) = inr (s.0, s.1, s.2, s.3, f s.4, s.5, there s.4 s.6, same s.4 s.6 ∙ s.7)

    pub made_begins : Begins spell2 Fit2 (made f p)
    made_begins ks n e = elim (bind_err (p ks) (λ a. Ok (f a.0, a.1)) n e) [
      | inl w ↦ made_by ks n.1 (begins ks n w)
      | inr w ↦ absurd (let g = w.2 in cc)
    ]

module _ {A : Type 0} {spell : A → List Kind} {Fit : A → Type 0} {p : Reader A} (begins : Begins spell Fit p) (test : Kind → Bool) where
  pub maybe_begins : Begins (maybe_spell spell) (IfThere Fit) (maybe test p)
  maybe_begins = choice_begins (maybe_spell spell) (IfThere Fit) test (made Some p) (give None)
      (made_begins begins Some (maybe_spell spell) (IfThere Fit) (λ a f. f) (λ a f. refl))
      (give_begins (maybe_spell spell) (IfThere Fit) None)

-- stated in another way: of other things that are spelled the same
pub restated_begins : {A : Type 0} {spell : A → List Kind} {Fit : A → Type 0} {p : Reader A} → Begins spell Fit p → (other : A → List Kind) (Fit2 : A → Type 0) → ((a : A) → Fit a → Fit2 a × (other a ≡ spell a)) → Begins other Fit2 p
restated_begins {spell = spell} {Fit = Fit} h other Fit2 there ks n e = by (h ks n e) where
  by : Begun spell Fit ks n.1 → Begun other Fit2 ks n.1
  by (inl w) = inl w
  by (inr s) = let t = there s.4 s.6 in inr (s.0, s.1, s.2, s.3, s.4, s.5, t.0, t.1 ∙ s.7)

module _ {A : Type 0} {spell : A → List Kind} {Fit : A → Type 0} {Ends : List Kind → Type 0} {p : Reader A} (reads : Reads spell Fit Ends p) (begins : Begins spell Fit p) where
  module _ (token : Kind) where
    closed_by : (ks : List Kind) (n : ℕ) → Begun spell Fit ks n → Begun (λ a. spell a ++ token ∷ []) Fit ks n
    closed_by ks n (inl w) = inl w
    closed_by ks n (inr s) = inr (s.0, s.1, s.2, s.3, s.4, s.5 ++ token ∷ [], s.6, ap (λ m. m ++ token ∷ []) s.7 ∙ append_assoc s.0 s.5 (token ∷ []))

    pub closed_begins : Begins (λ a. spell a ++ token ∷ []) Fit (closed p token)
    closed_begins ks n e = elim (bind_err (p ks) (λ a. after token a.1 >>= λ rest. Ok (a.0, rest)) n e) [
      | inl w ↦ closed_by ks n.1 (begins ks n w)
      | inr w ↦ elim (bind_err (after token w.0.1) (λ rest. Ok (w.0.0, rest)) n w.2) [
        | inl v ↦ (let s = reads.sound ks w.0 w.1 in inr (spell w.0.0, w.0.1, s.1, after_err token w.0.1 n v, w.0.0, token ∷ [], s.0, refl))
        | inr v ↦ absurd (let g = v.2 in cc)
      ]
    ]

  module _ {B : Type 0} {spell2 : B → List Kind} {Fit2 : B → Type 0} {q : Reader B} (begins2 : Begins spell2 Fit2 q) (b : B) (fit : Fit2 b) where
    abbrev Both : List Kind → ℕ → Type 0
    Both = Begun (λ (c : A × B). spell c.0 ++ spell2 c.1) (λ (c : A × B). Fit c.0 × Fit2 c.1)

    first_by : (ks : List Kind) (n : ℕ) → Begun spell Fit ks n → Both ks n
    first_by ks n (inl w) = inl w
    first_by ks n (inr s) = inr (s.0, s.1, s.2, s.3, (s.4, b), s.5 ++ spell2 b, (s.6, fit), ap (λ m. m ++ spell2 b) s.7 ∙ append_assoc s.0 s.5 (spell2 b))

    second_by : (ks : List Kind) (n : ℕ) (x : A × List Kind) → Fit x.0 → ks ≡ spell x.0 ++ x.1 → Begun spell2 Fit2 x.1 n → Both ks n
    second_by ks n x f is (inl w) = inr (spell x.0, x.1, is, w, (x.0, b), spell2 b, (f, fit), refl)
    second_by ks n x f is (inr t) = inr (
      spell x.0 ++ t.0,
      t.1,
      is ∙ ap (λ m. spell x.0 ++ m) t.2 ∙ sym (append_assoc (spell x.0) t.0 t.1),
      t.3,
      (x.0, t.4),
      t.5,
      (f, t.6),
      ap (λ m. spell x.0 ++ m) t.7 ∙ sym (append_assoc (spell x.0) t.0 t.5),
    )

    pub both_begins : Begins (λ (c : A × B). spell c.0 ++ spell2 c.1) (λ (c : A × B). Fit c.0 × Fit2 c.1) (both p q)
    both_begins ks n e = elim (bind_err (p ks) (λ a. q a.1 >>= λ b. Ok ((a.0, b.0), b.1)) n e) [
      | inl w ↦ first_by ks n.1 (begins ks n w)
      | inr w ↦ elim (bind_err (q w.0.1) (λ b. Ok ((w.0.0, b.0), b.1)) n w.2) [
        | inl v ↦ (let s = reads.sound ks w.0 w.1 in second_by ks n.1 w.0 s.0 s.1 (begins2 w.0.1 n v))
        | inr v ↦ absurd (let g = v.2 in cc)
      ]
    ]

  module _ (test : Kind → Bool) (less : (ks : List Kind) (x : A × List Kind) → p ks ≡ Ok x → length x.1 < length ks) where
    one_by : (ks : List Kind) (n : ℕ) → Begun spell Fit ks n → Begun (flat_map spell) (Each Fit) ks n
    one_by ks n (inl w) = inl w
    one_by ks n (inr s) = inr (s.0, s.1, s.2, s.3, s.4 ∷ [], s.5 ++ [], (s.6, tt), ap (λ m. m ++ []) s.7 ∙ append_assoc s.0 s.5 [])

    more_by : (ks : List Kind) (n : ℕ) (x : A × List Kind) → Fit x.0 → ks ≡ spell x.0 ++ x.1 → Begun (flat_map spell) (Each Fit) x.1 n → Begun (flat_map spell) (Each Fit) ks n
    more_by ks n x f is (inl w) = inr (spell x.0, x.1, is, w, x.0 ∷ [], [], (f, tt), refl)
    more_by ks n x f is (inr t) = inr (
      spell x.0 ++ t.0,
      t.1,
      is ∙ ap (λ m. spell x.0 ++ m) t.2 ∙ sym (append_assoc (spell x.0) t.0 t.1),
      t.3,
      x.0 ∷ t.4,
      t.5,
      (f, t.6),
      ap (λ m. spell x.0 ++ m) t.7 ∙ sym (append_assoc (spell x.0) t.0 t.5),
    )

    many_by : (most : ℕ) (ks : List Kind) (n : Wrong) → length ks ≤ most → many test p ks ≡ Err n → Begun (flat_map spell) (Each Fit) ks n.1
    many_by zero [] n h e = absurd (let g = sym (many_stop test p less [] refl) ∙ e in cc)
    many_by zero (k ∷ ks) n h e = absurd (omega arith)
    many_by (suc most) ks n h e = elim (cases_Bool (next test ks)) [
      | inr g ↦ absurd (let f = sym (many_stop test p less ks g) ∙ e in cc)
      | inl g ↦ elim (bind_err (p ks) (λ a. many test p a.1 >>= λ others. Ok (a.0 ∷ others.0, others.1)) n (sym (many_turn test p less ks g) ∙ e)) [
        | inl w ↦ one_by ks n.1 (begins ks n w)
        | inr w ↦ elim (bind_err (many test p w.0.1) (λ others. Ok (w.0.0 ∷ others.0, others.1)) n w.2) [
          | inl v ↦ (let s = reads.sound ks w.0 w.1 in let l = less ks w.0 w.1 in more_by ks n.1 w.0 s.0 s.1 (many_by most w.0.1 n (omega arith) v))
          | inr v ↦ absurd (let f = v.2 in cc)
        ]
      ]
    ]

    pub many_begins : Begins (flat_map spell) (Each Fit) (many test p)
    many_begins ks n e = many_by (length ks) ks n (omega arith) e

module _ {A : Type 0} {spell : A → List Kind} {Fit : A → Type 0} {Ends : List Kind → Type 0} {p : Reader A} (reads : Reads spell Fit Ends p) (begins : Begins spell Fit p) (a : A) (fit : Fit a) (sign : Symbol) (stops : (rest : List Kind) → Ends (Sign sign ∷ rest)) where
  less : (ks : List Kind) (x : A × List Kind) → led (Sign sign) p ks ≡ Ok x → length x.1 < length ks
  less ks x e = let s = (led_reads reads (Sign sign) tt).sound ks x e in omega (arith, ap length s.1, length-append (spell x.0) x.1)

  pub others_begin : Begins (flat_map (λ b. Sign sign ∷ spell b)) (Each Fit) (many (is_sign sign) (led (Sign sign) p))
  others_begin = many_begins (led_reads reads (Sign sign) tt) (led_begins begins (Sign sign) a fit) (is_sign sign) less

  pub listed_begins : Begins (λ xs. separated sign (map spell xs)) (OneOrMore Fit) (listed sign p)
  listed_begins = made_begins (both_begins reads begins others_begin [] tt) cons (λ xs. separated sign (map spell xs)) (OneOrMore Fit) (λ c f. (omega arith, f)) (λ c f. ap (λ m. spell c.0 ++ m) (preceded_map spell sign c.1))

  pub several_begins : Begins (λ xs. separated sign (map spell xs)) (λ xs. (2 ≤ length xs) × Each Fit xs) (several sign p)
  several_begins = made_begins (both_begins (closed_reads reads (Sign sign) tt stops) (closed_begins reads begins (Sign sign)) listed_begins (a ∷ []) (omega arith, (fit, tt))) cons (λ xs. separated sign (map spell xs)) (λ xs. (2 ≤ length xs) × Each Fit xs)
      (λ c f. (omega (arith, f.1.0), (f.0, f.1.1))) same where
        same : (c : A × List A) → Fit c.0 × OneOrMore Fit c.1 → separated sign (map spell (cons c)) ≡ (spell c.0 ++ Sign sign ∷ []) ++ separated sign (map spell c.1)
        same (x, []) f = absurd (omega (arith, f.1.0))
        same (x, y ∷ ys) f = sym (append_assoc (spell x) (Sign sign ∷ []) (separated sign (map spell (y ∷ ys))))

-- a token that says all
pub leaf_begins : {A : Type 0} (spell : A → List Kind) (Fit : A → Type 0) (token : Kind) (a : A) → Begins spell Fit (led token (give a))
leaf_begins spell Fit token a ks n e = elim (bind_err (after token ks) (give a) n e) [
  | inl w ↦ inl (after_err token ks n w)
  | inr w ↦ absurd (let g = w.2 in cc)
]
