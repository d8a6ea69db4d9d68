-- What a reader reads: exactly what is spelled at the front, going by the tokens that it takes and the next one. Each
-- way of putting readers together keeps that.
use Rattle.std.proofs.Common.{◌≡◌, ℕ, map, zero, suc, ◌<◌, ◌≤◌, List, [], ◌∷◌, ◌++◌, length, Bool, true, false, refl, sym, ap, ◌∙◌, subst, inl, inr, arith, length-append, append_assoc}
use Rattle.std.specs.Prelude.{Ok, Option, Some, None}
use Rattle.std.specs.List.{flat_map}
use Rattle.std.proofs.lemmas.Bool.{cases_Bool}
use Rattle.hume_base.specs.declared.token.Kind.{Kind}
use Rattle.hume_base.specs.declared.token.Kind.TheVariants.{Sign}
use Rattle.hume_base.specs.declared.symbol.Symbol.{Symbol}
use Rattle.hume_ast.specs.Fits.{Each, OneOrMore, IfThere}
use Rattle.hume_ast.specs.Spelling.{preceded, separated, beside}
use Rattle.parse_readers.specs.inner.Readers.{Reader, ◌>>=◌, stop, too_deep, next, after, led, closed, give, both, made, choice, alternatives, picked, pick, opens, many, cons, listed, several, maybe, is_sign}
use Rattle.parse_readers.proofs.Local.{Local, bind_ok, chosen, local_stop, local_too_deep, local_led, local_closed, local_give, local_both, local_made, local_choice, local_pick, local_many, many_stop, many_turn}
use Rattle.parse_readers.proofs.TokensApart.{IsFixed, after_ok, after_is, same_symbol-refl}

-- The reader gives the fit thing that is spelled at the front, wherever what follows ends it.
pub record Reads {A : Type 0} (spell : A → List Kind) (Fit : A → Type 0) (Ends : List Kind → Type 0) (p : Reader A) : Type 0 where
  pub sound : (ks : List Kind) (x : A × List Kind) → p ks ≡ Ok x → Fit x.0 × (ks ≡ spell x.0 ++ x.1)
  pub complete : (a : A) (rest : List Kind) → Fit a → Ends rest → p (spell a ++ rest) ≡ Ok (a, rest)
  pub local : Local p

-- what is given is fit and spelled at the front
abbrev pub Sound : {A : Type 0} → (A → List Kind) → (A → Type 0) → Reader A → Type 0
Sound spell Fit p = (ks : List Kind) (x : _) → p ks ≡ Ok x → Fit x.0 × (ks ≡ spell x.0 ++ x.1)

pub opens_sound : {A : Type 0} (spell : A → List Kind) (Fit : A → Type 0) (p : Reader A) (room : ℕ) → Sound spell Fit p → Sound spell Fit (opens room p)
opens_sound spell Fit p zero h ks x e = cc
opens_sound spell Fit p (suc room) h ks x e = h ks x e

pub opened : {A : Type 0} (room : ℕ) (p : Reader A) (ks : List Kind) → 0 < room → opens room p ks ≡ p ks
opened zero p ks h = absurd (omega arith)
opened (suc room) p ks h = refl

pub alternatives_sound : {A : Type 0} (spell : A → List Kind) (Fit : A → Type 0) (ways : List ((Kind → Bool) × Reader A)) → Each (λ (way : (Kind → Bool) × Reader A). Sound spell Fit way.1) ways → Sound spell Fit (alternatives ways)
alternatives_sound spell Fit [] h ks x e = cc
alternatives_sound spell Fit (way ∷ ways) h ks x e =
    elim (chosen (next way.0 ks) (way.1 ks) (alternatives ways ks) (Ok x) e) [
      | inl w ↦ h.0 ks x w.1
      | inr w ↦ alternatives_sound spell Fit ways h.1 ks x w.1
    ]

pub alternatives_local : {A : Type 0} (ways : List ((Kind → Bool) × Reader A)) → Each (λ (way : (Kind → Bool) × Reader A). Local way.1) ways → Local (alternatives ways)
alternatives_local [] h = local_stop
alternatives_local (way ∷ ways) h = local_choice way.0 way.1 (alternatives ways) h.0 (alternatives_local ways h.1)

-- anything may follow
abbrev pub Anything : List Kind → Type 0
Anything rest = Unit {0}

-- everything is fit
abbrev pub All : {A : Type 0} → A → Type 0
All a = Unit {0}

pub along : {A : Type 0} (spell : A → List Kind) (Fit : A → Type 0) (ks : List Kind) (y x : A × List Kind) → y ≡ x → Fit y.0 × (ks ≡ spell y.0 ++ y.1) → Fit x.0 × (ks ≡ spell x.0 ++ x.1)
along spell Fit ks y x e h = subst (λ (z : _). Fit z.0 × (ks ≡ spell z.0 ++ z.1)) e h

module _ {A : Type 0} {spell : A → List Kind} {Fit : A → Type 0} {Ends : List Kind → Type 0} {p : Reader A} (reads : Reads spell Fit Ends p) where
  led_sound : (token : Kind) (ks : List Kind) (x : A × List Kind) → led token p ks ≡ Ok x → Fit x.0 × (ks ≡ token ∷ (spell x.0 ++ x.1))
  led_sound token ks x e =
      let l = bind_ok (after token ks) p x e in
      let s = reads.sound l.0 x l.2 in
      (s.0, after_ok token ks l.0 l.1 ∙ ap (λ m. token ∷ m) s.1)

  pub led_reads : (token : Kind) → IsFixed token → Reads (λ a. token ∷ spell a) Fit Ends (led token p)
  led_reads token h = record { sound = led_sound token; complete = λ a rest f e. rw (after_is token (spell a ++ rest) h) (reads.complete a rest f e); local = local_led token p reads.local }

  closed_sound : (token : Kind) (ks : List Kind) (x : A × List Kind) → closed p token ks ≡ Ok x → Fit x.0 × (ks ≡ (spell x.0 ++ token ∷ []) ++ x.1)
  closed_sound token ks x e =
      let a = bind_ok (p ks) (λ a. after token a.1 >>= λ rest. Ok (a.0, rest)) x e in
      let l = bind_ok (after token a.0.1) (λ rest. Ok (a.0.0, rest)) x a.2 in
      let is : (a.0.0, l.0) ≡ x = (let f = l.2 in cc) in
      let s = reads.sound ks a.0 a.1 in
      along (λ b. spell b ++ token ∷ []) Fit ks (a.0.0, l.0) x is
      (s.0, s.1 ∙ ap (λ m. spell a.0.0 ++ m) (after_ok token a.0.1 l.0 l.1) ∙ sym (append_assoc (spell a.0.0) (token ∷ []) l.0))

  pub closed_reads : (token : Kind) → IsFixed token → ((rest : List Kind) → Ends (token ∷ rest)) → Reads (λ a. spell a ++ token ∷ []) Fit Anything (closed p token)
  closed_reads token h ends = record {
    sound = closed_sound token;
    complete = λ a rest f e. ap (closed p token) (append_assoc (spell a) (token ∷ []) rest) ∙ rw (reads.complete a (token ∷ rest) f (ends rest), after_is token rest h);
    local = local_closed p token reads.local;
  }

  module _ {B : Type 0} {spell2 : B → List Kind} {Fit2 : B → Type 0} {Ends2 : List Kind → Type 0} {q : Reader B} (reads2 : Reads spell2 Fit2 Ends2 q) where
    both_sound : (ks : List Kind) (x : (A × B) × List Kind) → both p q ks ≡ Ok x → (Fit x.0.0 × Fit2 x.0.1) × (ks ≡ (spell x.0.0 ++ spell2 x.0.1) ++ x.1)
    both_sound ks x e =
        let a = bind_ok (p ks) (λ a. q a.1 >>= λ b. Ok ((a.0, b.0), b.1)) x e in
        let b = bind_ok (q a.0.1) (λ b. Ok ((a.0.0, b.0), b.1)) x a.2 in
        let is : ((a.0.0, b.0.0), b.0.1) ≡ x = (let f = b.2 in cc) in
        let s = reads.sound ks a.0 a.1 in
        let t = reads2.sound a.0.1 b.0 b.1 in
        along (λ (c : A × B). spell c.0 ++ spell2 c.1) (λ (c : A × B). Fit c.0 × Fit2 c.1) ks ((a.0.0, b.0.0), b.0.1) x is
        ((s.0, t.0), s.1 ∙ ap (λ m. spell a.0.0 ++ m) t.1 ∙ sym (append_assoc (spell a.0.0) (spell2 b.0.0) b.0.1))

    pub both_reads : ((b : B) (rest : List Kind) → Fit2 b → Ends2 rest → Ends (spell2 b ++ rest)) → Reads (λ (c : A × B). spell c.0 ++ spell2 c.1) (λ (c : A × B). Fit c.0 × Fit2 c.1) Ends2 (both p q)
    both_reads ends = record {
      sound = both_sound;
      complete = λ c rest f e. ap (both p q) (append_assoc (spell c.0) (spell2 c.1) rest) ∙ rw (reads.complete c.0 (spell2 c.1 ++ rest) f.0 (ends c.1 rest f.1 e), reads2.complete c.1 rest f.1 e);
      local = local_both p q reads.local reads2.local;
    }

  -- as something else that is spelled the same
  module _ {B : Type 0} (f : A → B) (spell2 : B → List Kind) (Fit2 : B → Type 0) (there : (a : A) → Fit a → Fit2 (f a)) (same : (a : A) → Fit a → spell2 (f a) ≡ spell a) where
    pub made_sound : (ks : List Kind) (x : B × List Kind) → made f p ks ≡ Ok x → Fit2 x.0 × (ks ≡ spell2 x.0 ++ x.1)
    made_sound ks x e =
        let a = bind_ok (p ks) (λ a. Ok (f a.0, a.1)) x e in
        let is : (f a.0.0, a.0.1) ≡ x = (let g = a.2 in cc) in
        let s = reads.sound ks a.0 a.1 in
        along spell2 Fit2 ks (f a.0.0, a.0.1) x is (there a.0.0 s.0, s.1 ∙ ap (λ m. m ++ a.0.1) (sym (same a.0.0 s.0)))

    pub made_reads : ((b : B) → Fit2 b → (a : A) × (f a ≡ b) × Fit a) → Reads spell2 Fit2 Ends (made f p)
    made_reads back = record {
      sound = made_sound;
      complete = λ b rest fit e.
          let a = back b fit in
          ap (λ c. made f p (spell2 c ++ rest)) (sym a.1) ∙ ap (λ m. made f p (m ++ rest)) (same a.0 a.2) ∙ rw (reads.complete a.0 rest a.2 e) (ap (λ c. Ok (c, rest)) a.1);
      local = local_made f p reads.local;
    }

  pub made_complete : {B : Type 0} (f : A → B) (a : A) (rest : List Kind) → Fit a → Ends rest → made f p (spell a ++ rest) ≡ Ok (f a, rest)
  made_complete f a rest fit e = rw (reads.complete a rest fit e)

  -- again and again
  module _ (test : Kind → Bool) (begins : (a : A) (rest : List Kind) → Fit a → next test (spell a ++ rest) ≡ true) (follows : (a : A) (rest : List Kind) → Fit a → Ends (spell a ++ rest)) where
    some_token : (a : A) → Fit a → 0 < length (spell a)
    some_token a f = longer (spell a) (begins a [] f) where
      longer : (ks : List Kind) → next test (ks ++ []) ≡ true → 0 < length ks
      longer [] e = cc
      longer (k ∷ ks) e = omega arith

    pub shrinks : (ks : List Kind) (x : A × List Kind) → p ks ≡ Ok x → length x.1 < length ks
    shrinks ks x e = let s = reads.sound ks x e in omega (arith, some_token x.0 s.0, ap length s.1, length-append (spell x.0) x.1)

    abbrev EndsMany : List Kind → Type 0
    EndsMany rest = (next test rest ≡ false) × Ends rest

    follow : (others : List A) (rest : List Kind) → Each Fit others → EndsMany rest → Ends (flat_map spell others ++ rest)
    follow [] rest f e = e.1
    follow (a ∷ others) rest f e = subst Ends (sym (append_assoc (spell a) (flat_map spell others) rest)) (follows a (flat_map spell others ++ rest) f.0)

    many_complete : (items : List A) (rest : List Kind) → Each Fit items → EndsMany rest → many test p (flat_map spell items ++ rest) ≡ Ok (items, rest)
    many_complete [] rest f e = many_stop test p shrinks rest e.0
    many_complete (a ∷ others) rest f e =
        let left = flat_map spell others ++ rest in
        ap (many test p) (append_assoc (spell a) (flat_map spell others) rest)
        ∙ many_turn test p shrinks (spell a ++ left) (begins a left f.0)
        ∙ rw (reads.complete a left f.0 (follow others rest f.1 e), many_complete others rest f.1 e)

    many_sound_by : (n : ℕ) (ks : List Kind) (x : List A × List Kind) → length ks ≤ n → many test p ks ≡ Ok x → Each Fit x.0 × (ks ≡ flat_map spell x.0 ++ x.1)
    many_sound_by zero [] x h e = along (flat_map spell) (Each Fit) [] ([], []) x (let f = sym (many_stop test p shrinks [] refl) ∙ e in cc) (tt, refl)
    many_sound_by zero (k ∷ ks) x h e = absurd (omega arith)
    many_sound_by (suc n) ks x h e = elim (cases_Bool (next test ks)) [
      | inr g ↦ along (flat_map spell) (Each Fit) ks ([], ks) x (let f = sym (many_stop test p shrinks ks g) ∙ e in cc) (tt, refl)
      | inl g ↦
          let a = bind_ok (p ks) (λ a. many test p a.1 >>= λ others. Ok (a.0 ∷ others.0, others.1)) x (sym (many_turn test p shrinks ks g) ∙ e) in
          let others = bind_ok (many test p a.0.1) (λ others. Ok (a.0.0 ∷ others.0, others.1)) x a.2 in
          let is : (a.0.0 ∷ others.0.0, others.0.1) ≡ x = (let f = others.2 in cc) in
          let s = reads.sound ks a.0 a.1 in
          let less = shrinks ks a.0 a.1 in
          let t = many_sound_by n a.0.1 others.0 (omega arith) others.1 in
          along (flat_map spell) (Each Fit) ks (a.0.0 ∷ others.0.0, others.0.1) x is
          ((s.0, t.0), s.1 ∙ ap (λ m. spell a.0.0 ++ m) t.1 ∙ sym (append_assoc (spell a.0.0) (flat_map spell others.0.0) others.0.1))
    ]

    pub many_reads : Reads (flat_map spell) (Each Fit) EndsMany (many test p)
    many_reads = record { sound = λ ks x e. many_sound_by (length ks) ks x (omega arith) e; complete = many_complete; local = local_many test p shrinks reads.local }

-- what the next token says
module _ {A : Type 0} (f : Kind → Option A) (token : A → Kind) (Fit : A → Type 0) (is : (k : Kind) (a : A) → f k ≡ Some a → (k ≡ token a) × Fit a) (says : (a : A) → Fit a → f (token a) ≡ Some a) where
  picked_ok : (o : Option A) (k : Kind) (ks : List Kind) (x : A × List Kind) → f k ≡ o → picked o (k ∷ ks) ks ≡ Ok x → Fit x.0 × (k ∷ ks ≡ token x.0 ∷ x.1)
  picked_ok None k ks x g e = cc
  picked_ok (Some a) k ks x g e =
      let w = is k a g in
      along (λ b. token b ∷ []) Fit (k ∷ ks) (a, ks) x (cc) (w.1, ap (λ j. j ∷ ks) w.0)

  pick_sound : (ks : List Kind) (x : A × List Kind) → pick f ks ≡ Ok x → Fit x.0 × (ks ≡ token x.0 ∷ x.1)
  pick_sound [] x e = cc
  pick_sound (k ∷ ks) x e = picked_ok (f k) k ks x refl e

  pub pick_reads : Reads (λ a. token a ∷ []) Fit Anything (pick f)
  pick_reads = record { sound = pick_sound; complete = λ a rest h e. rw (says a h); local = local_pick f }

pub give_reads : {A : Type 0} (a : A) (Ends : List Kind → Type 0) → Reads (λ b. []) (λ b. a ≡ b) Ends (give a)
give_reads {A = A} a Ends = record {
  sound = λ ks x e. (let is : (a, ks) ≡ x = cc in (ap (λ (y : A × List Kind). y.0) is, ap (λ (y : A × List Kind). y.1) is));
  complete = λ b rest f e. ap (λ c. Ok (c, rest)) f;
  local = local_give a;
}

pub preceded_map : {A : Type 0} (spell : A → List Kind) (sign : Symbol) (xs : List A) → preceded sign (map spell xs) ≡ flat_map (λ a. Sign sign ∷ spell a) xs
preceded_map spell sign [] = refl
preceded_map spell sign (x ∷ xs) = ap (λ m. Sign sign ∷ (spell x ++ m)) (preceded_map spell sign xs)

pub beside_map : {A : Type 0} (spell : A → List Kind) (xs : List A) → beside (map spell xs) ≡ flat_map spell xs
beside_map spell [] = refl
beside_map spell (x ∷ xs) = ap (λ m. spell x ++ m) (beside_map spell xs)

module _ {A : Type 0} {spell : A → List Kind} {Fit : A → Type 0} {Ends : List Kind → Type 0} {p : Reader A} (reads : Reads spell Fit Ends p) (sign : Symbol) (stops : (rest : List Kind) → Ends (Sign sign ∷ rest)) where
  abbrev pub EndsList : List Kind → Type 0
  EndsList rest = (next (is_sign sign) rest ≡ false) × Ends rest

  follow_first : (others : List A) (rest : List Kind) → Each Fit others → EndsList rest → Ends (flat_map (λ a. Sign sign ∷ spell a) others ++ rest)
  follow_first [] rest f e = e.1
  follow_first (a ∷ others) rest f e = stops ((spell a ++ flat_map (λ a. Sign sign ∷ spell a) others) ++ rest)

  pub others_read : Reads (flat_map (λ a. Sign sign ∷ spell a)) (Each Fit) EndsList (many (is_sign sign) (led (Sign sign) p))
  others_read = many_reads (led_reads reads (Sign sign) tt) (is_sign sign) (λ a rest f. same_symbol-refl sign) (λ a rest f. stops (spell a ++ rest))

  pub listed_reads : Reads (λ xs. separated sign (map spell xs)) (OneOrMore Fit) EndsList (listed sign p)
  listed_reads = made_reads (both_reads reads others_read follow_first) cons (λ xs. separated sign (map spell xs)) (OneOrMore Fit)
      (λ a f. (omega arith, f)) (λ a f. ap (λ m. spell a.0 ++ m) (preceded_map spell sign a.1)) unlisted where
        unlisted : (xs : List A) → OneOrMore Fit xs → (a : A × List A) × (cons a ≡ xs) × (Fit a.0 × Each Fit a.1)
        unlisted [] f = absurd (omega (arith, f.0))
        unlisted (x ∷ xs) f = ((x, xs), refl, f.1)

module _ {A : Type 0} {spell : A → List Kind} {Fit : A → Type 0} {Ends : List Kind → Type 0} {p : Reader A} (reads : Reads spell Fit Ends p) (sign : Symbol) (stops : (rest : List Kind) → Ends (Sign sign ∷ rest)) where
  pub several_reads : Reads (λ xs. separated sign (map spell xs)) (λ xs. (2 ≤ length xs) × Each Fit xs) (EndsList reads sign stops) (several sign p)
  several_reads = made_reads (both_reads (closed_reads reads (Sign sign) tt stops) (listed_reads reads sign stops) (λ b rest f e. tt)) cons (λ xs. separated sign (map spell xs)) (λ xs. (2 ≤ length xs) × Each Fit xs)
      (λ a f. (omega (arith, f.1.0), (f.0, f.1.1))) same unlisted where
        same : (a : A × List A) → Fit a.0 × OneOrMore Fit a.1 → separated sign (map spell (cons a)) ≡ (spell a.0 ++ Sign sign ∷ []) ++ separated sign (map spell a.1)
        same (x, []) f = absurd (omega (arith, f.1.0))
        same (x, y ∷ ys) f = sym (append_assoc (spell x) (Sign sign ∷ []) (separated sign (map spell (y ∷ ys))))

        unlisted : (xs : List A) → (2 ≤ length xs) × Each Fit xs → (a : A × List A) × (cons a ≡ xs) × (Fit a.0 × OneOrMore Fit a.1)
        unlisted [] f = absurd (omega (arith, f.0))
        unlisted (x ∷ []) f = absurd (omega (arith, f.0))
        unlisted (x ∷ y ∷ ys) f = ((x, y ∷ ys), refl, (f.1.0, (omega arith, f.1.1)))

-- a token that says all
pub leaf_sound : {A : Type 0} (spell : A → List Kind) (Fit : A → Type 0) (token : Kind) (a : A) → IsFixed token → spell a ≡ token ∷ [] → Fit a → Sound spell Fit (led token (give a))
leaf_sound spell Fit token a h same f ks x e =
    let s = (led_reads (give_reads a Anything) token h).sound ks x e in
    (subst Fit s.0 f, s.1 ∙ ap (λ m. m ++ x.1) (sym same ∙ ap spell s.0))

pub leaf_local : {A : Type 0} (token : Kind) (a : A) → Local (led token (give a))
leaf_local token a = local_led token (give a) (local_give a)

-- where less may follow
pub ending : {A : Type 0} {spell : A → List Kind} {Fit : A → Type 0} {Ends : List Kind → Type 0} {p : Reader A} → Reads spell Fit Ends p → (Less : List Kind → Type 0) → ((rest : List Kind) → Less rest → Ends rest) → Reads spell Fit Less p
ending r Less h = record { sound = r.sound; complete = λ a rest f e. r.complete a rest f (h rest e); local = r.local }

-- what stands between signs, with a token at the end
pub enclosed : {A : Type 0} (spell : A → List Kind) (sign : Symbol) (token : Kind) (x : A) (xs : List A)
    → separated sign (map spell (x ∷ xs)) ++ token ∷ [] ≡ spell x ++ (flat_map (λ a. Sign sign ∷ spell a) xs ++ token ∷ [])
enclosed spell sign token x xs = ap (λ m. (spell x ++ m) ++ token ∷ []) (preceded_map spell sign xs) ∙ append_assoc (spell x) (flat_map (λ a. Sign sign ∷ spell a) xs) (token ∷ [])

pub choice_sound : {A : Type 0} (spell : A → List Kind) (Fit : A → Type 0) (test : Kind → Bool) (p q : Reader A) → Sound spell Fit p → Sound spell Fit q → Sound spell Fit (choice test p q)
choice_sound spell Fit test p q hp hq ks x e =
    elim (chosen (next test ks) (p ks) (q ks) (Ok x) e) [
      | inl w ↦ hp ks x w.1
      | inr w ↦ hq ks x w.1
    ]

-- spelled in another way
pub respelled : {A : Type 0} {spell : A → List Kind} {Fit : A → Type 0} {Ends : List Kind → Type 0} {p : Reader A} → Reads spell Fit Ends p → (other : A → List Kind) → ((a : A) → other a ≡ spell a) → Reads other Fit Ends p
respelled {p = p} r other same = record {
  sound = λ ks x e. (let s = r.sound ks x e in (s.0, s.1 ∙ ap (λ m. m ++ x.1) (sym (same x.0))));
  complete = λ a rest f e. ap (λ m. p (m ++ rest)) (same a) ∙ r.complete a rest f e;
  local = r.local;
}

abbrev pub maybe_spell : {A : Type 0} → (A → List Kind) → Option A → List Kind
maybe_spell spell None = []
maybe_spell spell (Some a) = spell a

module _ {A : Type 0} {spell : A → List Kind} {Fit : A → Type 0} {Ends : List Kind → Type 0} {p : Reader A} (reads : Reads spell Fit Ends p) (test : Kind → Bool) (begins : (a : A) (rest : List Kind) → Fit a → next test (spell a ++ rest) ≡ true) where
  maybe_sound : Sound (maybe_spell spell) (IfThere Fit) (maybe test p)
  maybe_sound = choice_sound (maybe_spell spell) (IfThere Fit) test (made Some p) (give None)
      (made_sound reads Some (maybe_spell spell) (IfThere Fit) (λ a f. f) (λ a f. refl))
      (λ ks x e. along (maybe_spell spell) (IfThere Fit) ks (None, ks) x (cc) (tt, refl))

  maybe_complete : (o : Option A) (rest : List Kind) → IfThere Fit o → (next test rest ≡ false) × Ends rest → maybe test p (maybe_spell spell o ++ rest) ≡ Ok (o, rest)
  maybe_complete None rest f e = rw e.0
  maybe_complete (Some a) rest f e = rw (begins a rest f, reads.complete a rest f e.1)

  pub maybe_reads : Reads (maybe_spell spell) (IfThere Fit) (λ rest. (next test rest ≡ false) × Ends rest) (maybe test p)
  maybe_reads = record { sound = maybe_sound; complete = maybe_complete; local = local_choice test (made Some p) (give None) (local_made Some p reads.local) (local_give None) }

-- stated in another way: as other things that are spelled the same
pub restated_sound : {A : Type 0} (spell : A → List Kind) (Fit : A → Type 0) (p : Reader A) → Sound spell Fit p → (other : A → List Kind) (Fit2 : A → Type 0) → ((a : A) → Fit a → Fit2 a × (other a ≡ spell a)) → Sound other Fit2 p
restated_sound spell Fit p h other Fit2 there ks x e =
    let s = h ks x e in
    let w = there x.0 s.0 in
    (w.0, s.1 ∙ ap (λ m. m ++ x.1) (sym w.1))

pub restated : {A : Type 0} {spell : A → List Kind} {Fit : A → Type 0} {Ends : List Kind → Type 0} {p : Reader A} → Reads spell Fit Ends p → (other : A → List Kind) (Fit2 : A → Type 0) → ((a : A) → Fit a → Fit2 a × (other a ≡ spell a)) → ((a : A) → Fit2 a → Fit a) → Reads other Fit2 Ends p
restated {spell = spell} {Fit = Fit} {p = p} r other Fit2 there back = record {
  sound = restated_sound spell Fit p r.sound other Fit2 there;
  complete = λ a rest f e. ap (λ m. p (m ++ rest)) (there a (back a f)).1 ∙ r.complete a rest (back a f) e;
  local = r.local;
}

-- where there is no room
pub none_read : {A : Type 0} (spell : A → List Kind) (Fit : A → Type 0) (Ends : List Kind → Type 0) (test : Kind → Bool) → ((a : A) → Fit a → ⊥) → Reads spell Fit Ends (choice test too_deep stop)
none_read spell Fit Ends test none = record {
  sound = choice_sound spell Fit test too_deep stop (λ ks x e. (cc)) (λ ks x e. (cc));
  complete = λ a rest f e. absurd (none a f);
  local = local_choice test too_deep stop local_too_deep local_stop;
}
