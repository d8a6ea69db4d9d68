-- A file that is open stays so, and goes on by what a call does to it.
use Rattle.std.proofs.Common.{◌≡◌, ℕ, List, true, false, Option, Some, None, refl, sym, ◌∙◌, subst, arith}
use Rattle.std.specs.Prelude.{Result, Ok, Err, OnOk}
use Rattle.std.specs.Option.{is_some}
use Rattle.std.specs.Io.KnownBytes.{Appends}
use Rattle.std.proofs.lemmas.List.{take_all}
use Rattle.hume_ports.specs.declared.port.Failed.{Failed}
use Rattle.hume_ports.specs.Files.{GoesOn}
use Rattle.hume_ports.specs.Port.{WriteAppends}

abbrev pub Stays : {F : Type 0} → Option F → Option F → Type 0
Stays old new = GoesOn (λ earlier later. later ≡ earlier) old new

pub stays_open : {F : Type 0} (file : Option F) → is_some file ≡ true → Stays file file
stays_open None is = cc
stays_open (Some opened) is = record { earlier = opened; later = opened; same = λ other same. cc; now_open = refl; goes = refl }

pub opens_now : {F : Type 0} (file : Option F) (opened : F) → is_some file ≡ false → Stays file (Some opened)
opens_now None opened is = record { earlier = opened; later = opened; same = λ other same. cc; now_open = refl; goes = refl }
opens_now (Some before) opened is = cc

-- what was opened goes on
module _ {F : Type 0} (contents : F → Option (List ℕ)) (old mid : Option F) (file later : F) (stays : Stays old mid) (opened : mid ≡ Some file) (bytes : List ℕ) where
  appended : Appends (contents file) (contents later) bytes → GoesOn (λ earlier later. Appends (contents earlier) (contents later) bytes) old (Some later)
  appended goes = record { earlier = file; later = later; same = same; now_open = refl; goes = goes } where
    same : (before : F) → old ≡ Some before → file ≡ before
    same before is =
        let now : Some file ≡ Some stays.later = sym opened ∙ stays.now_open in
        let one : file ≡ stays.later = cc in
        one ∙ stays.goes ∙ stays.same before is

  pub writes_on : (result : Result (Unit {0}) Failed) → WriteAppends (contents file) (contents later) result bytes
      → OnOk result (GoesOn (λ earlier later. Appends (contents earlier) (contents later) bytes) old (Some later))
  writes_on (Err failed) w = tt
  writes_on (Ok done) w = appended (subst (λ front. Appends (contents file) (contents later) front) (take_all w.0 bytes (omega (arith, w.3))) w.2)
