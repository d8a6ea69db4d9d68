-- What one more turn of a loop keeps.
use Rattle.std.proofs.Common.{◌≡◌, ◌<◌, List, [], ◌∷◌, ◌++◌, length, Bool, true, false, refl, sym, ap, ◌∙◌, arith, length-append, append_assoc, append-nil}
use Rattle.std.specs.Prelude.{Result, Ok, Err}
use Rattle.hume_base.specs.declared.symbol.Symbol.{Symbol}
use Rattle.hume_base.specs.declared.token.Kind.{Kind}
use Rattle.hume_base.specs.declared.token.Kind.TheVariants.{Sign}
use Rattle.parse_errors.specs.inner.Gives.{Fails}
use Rattle.parse_errors.specs.declared.stop.Stop.{Stop}
use Rattle.parse_errors.specs.declared.stop.Stop.TheVariants.{Memory, Syntax, Deep}
use Rattle.parse_readers.specs.inner.Readers.{Reader, Wrong, ◌>>=◌, next, behind, is_sign, made, many, led}
use Rattle.parse_readers.proofs.Local.{many_stop, many_turn}
use Rattle.parse_readers.proofs.Forms.{Reads, led_reads}

-- made twice is made once
made_by : {A B C : Type 0} (r : Result (A × List Kind) Wrong) (f : A → B) (g : B → C) (h : A → C) → ((a : A) → g (f a) ≡ h a) → made g (made f (λ ks. r)) [] ≡ made h (λ ks. r) []
made_by (Ok x) f g h same = ap (λ c. Ok (c, x.1)) (same x.0)
made_by (Err n) f g h same = refl

pub made_twice : {A B C : Type 0} (p : Reader A) (ks : List Kind) (f : A → B) (g : B → C) (h : A → C) → ((a : A) → g (f a) ≡ h a) → made g (made f p) ks ≡ made h p ks
made_twice p ks f g h same = made_by (p ks) f g h same

-- behind those that were read
abbrev pub joined : {A : Type 0} → List A → Result (List A × List Kind) Wrong → Result (List A × List Kind) Wrong
joined front r = r >>= λ others. Ok (front ++ others.0, others.1)

joined_turn : {A : Type 0} (front : List A) (a : A) (r : Result (List A × List Kind) Wrong) → joined front (r >>= λ others. Ok (a ∷ others.0, others.1)) ≡ joined (front ++ a ∷ []) r
joined_turn front a (Ok x) = ap (λ l. Ok (l, x.1)) (sym (append_assoc front (a ∷ []) x.0))
joined_turn front a (Err n) = refl

pub led_on : {A : Type 0} (sign : Symbol) (p : Reader A) (ks : List Kind) → next (is_sign sign) ks ≡ true → led (Sign sign) p ks ≡ p (behind ks)
led_on sign p [] e = cc
led_on sign p (k ∷ ks) e = rw e

module _ {A : Type 0} (test : Kind → Bool) (p : Reader A) (shrinks : (ks : List Kind) (x : A × List Kind) → p ks ≡ Ok x → length x.1 < length ks) (front : List A) (ks : List Kind) where
  pub loop_stop : next test ks ≡ false → joined front (many test p ks) ≡ Ok (front, ks)
  loop_stop e = rw (many_stop test p shrinks ks e) (ap (λ l. Ok (l, ks)) (append-nil front))

  pub loop_turn : (a : A) (ls : List Kind) → next test ks ≡ true → p ks ≡ Ok (a, ls) → joined front (many test p ks) ≡ joined (front ++ a ∷ []) (many test p ls)
  loop_turn a ls e g = ap (joined front) (many_turn test p shrinks ks e) ∙ rw g (joined_turn front a (many test p ls))

  pub loop_fails : (n : Wrong) → next test ks ≡ true → p ks ≡ Err n → joined front (many test p ks) ≡ Err n
  loop_fails n e g = ap (joined front) (many_turn test p shrinks ks e) ∙ rw g

pub fails_on : {Y Z : Type 0} (f : Stop) (r : Result Y Wrong) (s : Result Z Wrong) → ((n : Wrong) → r ≡ Err n → s ≡ Err n) → Fails f r → Fails f s
fails_on Memory r s h e = tt
fails_on (Syntax n) r s h e = h (false, n) e
fails_on (Deep n) r s h e = h (true, n) e

-- parts with a sign before each of them
module _ {A : Type 0} {spell : A → List Kind} {Fit : A → Type 0} {Ends : List Kind → Type 0} {p : Reader A} (reads : Reads spell Fit Ends p) (sign : Symbol) where
  led_shrinks : (ks : List Kind) (x : A × List Kind) → led (Sign sign) p ks ≡ Ok x → length x.1 < length ks
  led_shrinks ks x e = omega (arith, ap length ((led_reads reads (Sign sign) tt).sound ks x e).1, length-append (spell x.0) x.1)

  abbrev pub parts : Reader (List A)
  parts = many (is_sign sign) (led (Sign sign) p)

  module _ {B : Type 0} (whole : Result (B × List Kind) Wrong) (f : Result (List A × List Kind) Wrong → Result (B × List Kind) Wrong) (errs : (n : Wrong) → f (Err n) ≡ Err n) (front : List A) (ks b : List Kind) (is : whole ≡ f (joined front (parts ks))) where
    pub parts_stop : next (is_sign sign) ks ≡ false → whole ≡ f (Ok (front, ks))
    parts_stop e = is ∙ ap f (loop_stop (is_sign sign) (led (Sign sign) p) led_shrinks front ks e)

    pub parts_turn : (more : List A) (a : A) (ls : List Kind) → next (is_sign sign) ks ≡ true → b ≡ behind ks → p b ≡ Ok (a, ls) → more ≡ front ++ a ∷ [] → whole ≡ f (joined more (parts ls))
    parts_turn more a ls e same g grown =
        is ∙ ap f (loop_turn (is_sign sign) (led (Sign sign) p) led_shrinks front ks a ls e (led_on sign p ks e ∙ ap p (sym same) ∙ g))
        ∙ ap (λ l. f (joined l (parts ls))) (sym grown)

    pub parts_fail : (stop : Stop) → next (is_sign sign) ks ≡ true → b ≡ behind ks → Fails stop (p b) → Fails stop whole
    parts_fail stop e same g = fails_on stop (p b) whole (λ n h. is ∙ ap f (loop_fails (is_sign sign) (led (Sign sign) p) led_shrinks front ks n e (led_on sign p ks e ∙ ap p (sym same) ∙ h)) ∙ errs n) g

-- parts side by side
module _ {A : Type 0} (test : Kind → Bool) (p : Reader A) (shr : (ks : List Kind) (x : A × List Kind) → p ks ≡ Ok x → length x.1 < length ks) where
  module _ {B : Type 0} (whole : Result (B × List Kind) Wrong) (f : Result (List A × List Kind) Wrong → Result (B × List Kind) Wrong) (errs : (n : Wrong) → f (Err n) ≡ Err n) (front : List A) (ks : List Kind) (is : whole ≡ f (joined front (many test p ks))) where
    pub beside_stop : next test ks ≡ false → whole ≡ f (Ok (front, ks))
    beside_stop e = is ∙ ap f (loop_stop test p shr front ks e)

    pub beside_turn : (more : List A) (a : A) (ls : List Kind) → next test ks ≡ true → p ks ≡ Ok (a, ls) → more ≡ front ++ a ∷ [] → whole ≡ f (joined more (many test p ls))
    beside_turn more a ls e g grown = is ∙ ap f (loop_turn test p shr front ks a ls e g) ∙ ap (λ l. f (joined l (many test p ls))) (sym grown)

    pub beside_fail : (stop : Stop) → next test ks ≡ true → Fails stop (p ks) → Fails stop whole
    beside_fail stop e g = fails_on stop (p ks) whole (λ n h. is ∙ ap f (loop_fails test p shr front ks n e h) ∙ errs n) g
