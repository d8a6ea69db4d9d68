-- Variables on a stack that grows.
use Rattle.std.proofs.Common.{◌≡◌, ℕ, ◌+◌, ◌≤◌, List, [], ◌∷◌, ◌++◌, length, Some, slice_get, ap, sym, ◌∙◌, subst, arith, append_assoc}
use Rattle.std.proofs.lemmas.List.{length-append}
use Rattle.hume_base.specs.declared.types.Value.{Value}
use Rattle.box_heap.specs.Heaps.{Object}
use Rattle.box_heap.specs.Standing.{Stands, AllStand}
use Rattle.box_code.specs.Machine.{Machine}
use Rattle.box_code.specs.Represents.{counted}
use Rattle.code_laws.specs.Running.{later}
use Rattle.code_laws.specs.Variables.{Hold, Fits}
use Rattle.code_laws.proofs.Heaps.{still_hold, hold_both, get_new}
use Rattle.code_laws.proofs.Steps.{append_nil}

-- words on top are variables
pub hold_counted : (below start : ℕ) (front ws stack : List ℕ) (objects : List Object) (vs : List Value) → stack ≡ front ++ ws → length front ≡ below + start → AllStand objects vs ws
    → Hold below stack objects (counted start (length ws)) vs
hold_counted below start front [] stack objects [] e l AllStand.none = Hold.none
hold_counted below start front [] stack objects (v ∷ vs) e l x = elim x [ ]
hold_counted below start front (w ∷ ws) stack objects [] e l x = elim x [ ]
hold_counted below start front (w ∷ ws) stack objects (v ∷ vs) e l (AllStand.more first rest) =
    let long : length (front ++ w ∷ []) ≡ below + (start + 1) = omega (arith, l, length-append front (w ∷ [])) in
    Hold.more start w (ap (λ s. slice_get s (below + start)) e ∙ ap (slice_get (front ++ w ∷ ws)) (sym l) ∙ get_new front w ws) first
    (hold_counted below (start + 1) (front ++ w ∷ []) ws stack objects vs (e ∙ sym (append_assoc front (w ∷ []) ws)) long rest)

module _ (below : ℕ) (places : List ℕ) (env : List Value) (high : ℕ) (m : Machine) (fits : Fits below places env high m) where
  -- a word more, above the variables
  pub fits_more : (a w : ℕ) (more : List Object) (k : ℕ) → length m.stack + 1 ≤ k → Fits below places env (high + 1) (later m a (m.stack ++ w ∷ []) more k)
  fits_more a w more k low =
      let one = length-append m.stack (w ∷ []) in
      let l = fits.long in
      record { low = omega (arith, one, low); long = omega (arith, one, l); hold = still_hold fits.hold (w ∷ []) more }

  -- a variable more
  pub fits_bound : (a : ℕ) (v : Value) (w : ℕ) (more : List Object) (k : ℕ) → length m.stack + 1 ≤ k → Stands (m.objects ++ more) v w
      → Fits below (places ++ high ∷ []) (env ++ v ∷ []) (high + 1) (later m a (m.stack ++ w ∷ []) more k)
  fits_bound a v w more k low stands =
      let one = length-append m.stack (w ∷ []) in
      let l = fits.long in
      let at : slice_get (m.stack ++ w ∷ []) (below + high) ≡ Some w = ap (slice_get (m.stack ++ w ∷ [])) (sym l) ∙ get_new m.stack w [] in
      record { low = omega (arith, one, low); long = omega (arith, one, l); hold = hold_both (still_hold fits.hold (w ∷ []) more) (Hold.more high w at stands Hold.none) }

  -- the same stack again
  pub fits_later : (a : ℕ) (more : List Object) (k : ℕ) → length m.stack ≤ k → Fits below places env high (later m a m.stack more k)
  fits_later a more k low = record {
    low = omega (arith, low);
    long = fits.long;
    hold = subst (λ stack. Hold below stack (m.objects ++ more) places env) (append_nil m.stack) (still_hold fits.hold [] more);
  }
