-- What comes to a program alone is its share of what comes to the union, so that the union does as each program does alone.
use Rattle.std.proofs.Common.{◌≡◌, ℕ, zero, suc, false, Bool, List, [], ◌∷◌, map, length, Option, Some, None, slice_get, refl, ap, sym, ◌∙◌, subst, inl}
use Rattle.std.specs.List.{All, AllZip}
use Rattle.std.specs.Str.{bytes_eq}
use Rattle.std.proofs.lemmas.List.Elements.{All-weaker}
use Rattle.hume_model.specs.declared.core_tree.NodeC.TheVariants.{To}
use Rattle.hume_model.specs.declared.core_tree.StreamC.{StreamC}
use Rattle.hume_model.specs.declared.core_tree.Core.{Core}
use Rattle.hume_model.specs.WellFormed.{IsWellFormed}
use Rattle.hume_ports.specs.Delivery.{bytes_for}
use Rattle.phase_workers.specs.Runnable.{IsRunnable}
use Rattle.port_acts.specs.Acts.{written}
use Rattle.run_rounds.specs.Inputs.{AreInputs, Inputs}
use Rattle.run_rounds.specs.Members.{MemberView, members_acts, members_until, members_writes}
use Rattle.run_rounds.specs.RunActs.{run_acts}
use Rattle.run_rounds.specs.Streams.{ArePortsApart, std_out}
use Rattle.run_rounds.specs.Writes.{blocked_round, rounds_writes, span_of, told}
use Rattle.run_rounds.proofs.OneInputs.{one_inputs}
use Rattle.union_laws.specs.Union.{united_all}
use Rattle.form_laws.specs.Unions.{BlocksOne, ComesAlone, IsLeastOf, TellsBadLine, own_inputs, own_peaks, supersteps_made}
use Rattle.form_laws.proofs.OwnBytes.{same_rounds}
use Rattle.form_laws.proofs.OwnInputs.{all_there, own_are}
use Rattle.form_laws.proofs.OwnParts.{nodes_in}
use Rattle.form_laws.proofs.OwnPeaks.{tells_peaks}
use Rattle.form_laws.proofs.OwnRounds.{BlocksProgram, first_of_programs, tells_bad_line}
use Rattle.form_laws.proofs.UnionBytes.{union_bytes}

least_as : (P Q : ℕ → Type 0) → ((n : ℕ) → P n → Q n) → ((n : ℕ) → Q n → P n) → (o : Option ℕ) → IsLeastOf P o → IsLeastOf Q o
least_as P Q to from None none = λ n holds. none n (from n holds)
least_as P Q to from (Some n) (holds, least) = (to n holds, λ other is. least other (from other is))

zip_long : {X Y : Type 0} (R : X → Y → Type 0) (xs : List X) (ys : List Y) → AllZip R xs ys → length ys ≡ length xs
zip_long R [] [] all = refl
zip_long R [] (y ∷ ys) all = absurd all
zip_long R (x ∷ xs) [] all = absurd all
zip_long R (x ∷ xs) (y ∷ ys) all = ap suc (zip_long R xs ys all.1)

zip_there : {X Y : Type 0} (R : X → Y → Type 0) (xs : List X) (ys : List Y) → AllZip R xs ys → (n : ℕ) (x : X) (y : Y) → slice_get xs n ≡ Some x
    → slice_get ys n ≡ Some y → R x y
zip_there R [] ys all n x y found at = cc
zip_there R (v ∷ xs) [] all n x y found at = cc
zip_there R (v ∷ xs) (w ∷ ys) all zero x y found at =
    let first : v ≡ x = cc in
    let second : w ≡ y = cc in
    subst (λ z. R x z) second (subst (λ z. R z w) first all.0)
zip_there R (v ∷ xs) (w ∷ ys) all (suc n) x y found at = zip_there R xs ys all.1 n x y found at

module _ (programs : List Core) (runnable : All IsRunnable programs) (texts : List ℕ → List ℕ) (coming : Inputs)
    (are : AreInputs (united_all programs) texts coming) where
  abbrev union : Core
  union = united_all programs

  formed : All IsWellFormed programs
  formed = All-weaker IsRunnable IsWellFormed (λ core run. run.formed) programs runnable

  abbrev share_of : ℕ → Core → Inputs
  share_of place program = own_inputs programs place program coming

  comes_alone : (place : ℕ) (program : Core) → slice_get programs place ≡ Some program → ComesAlone programs texts place program (share_of place program)
  comes_alone place program found = record { there = found; are = own_are programs formed place program found coming texts are }

  is_share : (place : ℕ) (program : Core) (own : Inputs) → slice_get programs place ≡ Some program → AreInputs program texts own → own ≡ share_of place program
  is_share place program own found own_is =
      one_inputs program (all_there IsRunnable programs runnable place program found).names texts own (share_of place program) own_is
      (own_are programs formed place program found coming texts are)

  -- blocked rounds

  to_one : (span steps round : ℕ) → BlocksProgram programs coming span steps round → BlocksOne programs texts span steps round
  to_one span steps round holds = record {
    place = holds.0;
    program = holds.1;
    own = share_of holds.0 holds.1;
    alone = comes_alone holds.0 holds.1 holds.2;
    blocked = holds.3;
  }

  from_one : (span steps round : ℕ) → BlocksOne programs texts span steps round → BlocksProgram programs coming span steps round
  from_one span steps round holds = (
    holds.place,
    holds.program,
    holds.alone.there,
    ap (λ (inputs : Inputs). blocked_round holds.program inputs span steps)
        (sym (is_share holds.place holds.program holds.own holds.alone.there holds.alone.are))
        ∙ holds.blocked,
  )

  pub blocked_as_programs : (span steps : ℕ) → IsLeastOf (BlocksOne programs texts span steps) (blocked_round union coming span steps)
  blocked_as_programs span steps =
      least_as (BlocksProgram programs coming span steps) (BlocksOne programs texts span steps) (to_one span steps) (from_one span steps)
      (blocked_round union coming span steps) (first_of_programs programs formed coming span steps)

  -- bytes

  module _ (apart : ArePortsApart union) (place : ℕ) (program : Core) (own : Inputs) (alone : ComesAlone programs texts place program own)
      (n : ℕ) (stream : StreamC) (at : slice_get program.nodes n ≡ Some (To stream)) where
    share : own ≡ share_of place program
    share = is_share place program own alone.there alone.are

    pub writes_as_alone : bytes_eq stream.port std_out ≡ false → (members : List MemberView) (traced : Bool) (steps : ℕ)
        → bytes_for stream.port (written (members_acts union members coming traced steps))
        ≡ bytes_for stream.port (written (run_acts program own traced (supersteps_made union coming traced steps)))
    writes_as_alone other members traced steps =
        union_bytes programs formed apart place program alone.there n stream at other coming traced steps members
        ∙ ap (λ (inputs : Inputs). bytes_for stream.port (written (run_acts program inputs traced (supersteps_made union coming traced steps)))) (sym share)

    pub rounds_as_alone : (steps rounds : ℕ) → bytes_for stream.port (rounds_writes union coming.good false steps rounds)
        ≡ bytes_for stream.port (rounds_writes program own.good false steps rounds)
    rounds_as_alone steps rounds =
        same_rounds programs formed apart place program alone.there coming n stream at false (inl refl) steps rounds
        ∙ ap (λ (inputs : Inputs). bytes_for stream.port (rounds_writes program inputs.good false steps rounds)) (sym share)

  -- what is told

  module _ (members : List MemberView) (same : map (λ (member : MemberView). member.nodes) members ≡ map nodes_in programs) (traced : Bool) (steps : ℕ) where
    pub bad_line_as_alone : (round : ℕ) → blocked_round union coming (span_of traced) steps ≡ Some round
        → TellsBadLine programs members texts coming traced steps round
    bad_line_as_alone round is =
        let own = tells_bad_line programs formed members same coming traced steps round is in
        record {
          place = own.place;
          program = own.program;
          own = share_of own.place own.program;
          alone = comes_alone own.place own.program own.there;
          blocked = own.blocked;
          first = λ earlier other others less alone blocked. own.first earlier other less alone.there
              (ap (λ (inputs : Inputs). blocked_round other inputs (span_of traced) steps) (sym (is_share earlier other others alone.there alone.are))
              ∙ blocked);
          name = own.name;
          line = own.line;
          tells = own.tells;
          told = own.told;
        }

    pub peaks_as_alone : (owns : List Inputs) → AllZip (λ program own. AreInputs program texts own) programs owns
        → blocked_round union coming (span_of traced) steps ≡ None
        → members_writes union members coming traced steps ≡ told (own_peaks programs members owns steps)
    peaks_as_alone owns each none =
        ap (members_until union members coming traced steps) none
        ∙ ap told (tells_peaks programs formed coming steps members owns same (zip_long (λ program own. AreInputs program texts own) programs owns each)
        (λ place program own found at. is_share place program own found
        (zip_there (λ program own. AreInputs program texts own) programs owns each place program own found at)))
