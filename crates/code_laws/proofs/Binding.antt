-- Patterns in code: tests are run, and the variables' words are pushed.
use Rattle.std.proofs.Common.{◌≡◌, ℕ, ◌+◌, max, List, [], ◌++◌, length, refl, sym, subst, arith}
use Rattle.std.proofs.lemmas.List.{length-append}
use Rattle.hume_base.specs.declared.types.Value.{Value}
use Rattle.box_code.specs.Paths.{Spot}
use Rattle.box_code.specs.Machine.{Setting, Machine}
use Rattle.box_code.specs.Represents.{FieldsStand, counted}
use Rattle.code_laws.specs.Running.{Comes, later}
use Rattle.code_laws.specs.Variables.{Hold, Fits}
use Rattle.code_laws.proofs.Heaps.{as_many, still_hold, hold_both, all_still_stand}
use Rattle.code_laws.proofs.Steps.{alike, becomes}
use Rattle.code_laws.proofs.Frames.{hold_counted}
use Rattle.code_laws.proofs.Trying.{AllAt}
use Rattle.code_laws.proofs.Tests.{fields_run}

-- the machine with the variables of patterns on its stack
pub record Bound (s : Setting) (m : Machine) (tall bound below : ℕ) (places : List ℕ) (env : List Value) (high : ℕ) (vs : List Value) (count : ℕ) : Type 0 where
  pub words : List ℕ
  pub many : length words ≡ length vs
  pub known : length words ≡ count
  pub comes : Comes s m (later m bound (m.stack ++ words) [] (tall + length vs + 0)) (length vs)
  pub fits : Fits below (places ++ counted high count) (env ++ vs) (high + count) (later m bound (m.stack ++ words) [] (tall + length vs + 0))
  pub height : length (m.stack ++ words) ≡ tall + length vs

pub bind_runs : (s : Setting) (below : ℕ) (places : List ℕ) (env : List Value) (high bound : ℕ) (spots : List Spot) (m : Machine) (tall : ℕ) → tall ≡ length m.stack → Fits below places env high m
    → FieldsStand s.code high m.at bound spots → (vs : List Value) → AllAt m.objects below m.stack spots vs → Bound s m tall bound below places env high vs (length spots)
bind_runs s below places env high bound spots m tall e fits fields vs at =
    let k = fields_run s below fields m refl fits.long fits.low vs at in
    let words = k.words in
    let many : length words ≡ length vs = sym (as_many k.stands) in
    let known = k.many in
    let a = length-append m.stack words in
    let l = fits.long in
    let n = later m bound (m.stack ++ words) [] (tall + length vs + 0) in
    let more : Hold below n.stack n.objects (counted high (length spots)) vs =
    subst (λ c. Hold below n.stack n.objects (counted high c) vs) known (hold_counted below high m.stack words n.stack n.objects vs refl l (all_still_stand k.stands [])) in
    record {
      words = words;
      many = many;
      known = known;
      comes = becomes s k.comes (alike m refl refl (let p : max m.peak (length m.stack + length words) ≡ max m.peak (tall + length vs + 0) = omega (arith, e, many) in p) refl) many;
      fits = record {
        low = omega (arith, a, e, many);
        long = omega (arith, a, l, known);
        hold = hold_both (still_hold fits.hold words []) more;
      };
      height = omega (arith, a, e, many);
    }
