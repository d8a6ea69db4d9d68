-- Calls that tell `std_out` a line or the table, and finish it.
use Rattle.std.proofs.Common.{◌≡◌, ℕ, List, [], ◌∷◌, map, Result, refl, subst, inl, inr}
use Rattle.hume_base.specs.declared.rule.Refusal.{Refusal}
use Rattle.hume_ports.specs.declared.port.Failed.{Failed}
use Rattle.hume_ports.specs.Port.{PortView}
use Rattle.hume_ports.specs.Ports.{names, ForNameAt}
use Rattle.hume_ports.proofs.Names.{place-kept}
use Rattle.hume_model.specs.declared.core_tree.Core.{Core}
use Rattle.port_acts.specs.Acts.{writes, finishes, write_each}
use Rattle.port_acts.specs.Ends.{never, Made, Fails, Ends}
use Rattle.port_acts.specs.Places.{IsPlaceOf}
use Rattle.port_acts.proofs.Failing.{Fails-stop, Ends-on}
use Rattle.run_rounds.specs.Streams.{std_out}
use Rattle.trace_print.specs.table.Table.{space_table}
use Rattle.hume_calls.specs.declared.status.Status.TheVariants.{Done, Refused, Fault}
use Rattle.hume_calls.specs.declared.program_refusal.ProgramRefusal.{ProgramRefusal}
use Rattle.hume_calls.specs.Owed.{owed_program_refused, owed_refused, owed_check, program_refused_line, refused_line, table_writes}
use Rattle.hume_calls.specs.Ended.{EndsOwed}
use Rattle.hume_calls.proofs.Answering.{meant}

module _ (olds : List PortView) (out : ℕ) (place : IsPlaceOf std_out (names olds) out) where
  -- a refusal

  pub refusal_told : (news : List PortView) (refusal : Refusal) (line : List ℕ) → line ≡ refused_line refusal
      → ForNameAt out olds (λ name. Made (writes name line ∷ finishes name ∷ []) [] olds news) → EndsOwed (owed_refused refusal) olds news Refused
  refusal_told news refusal line is made =
      let P : List ℕ → Type 0 = λ bytes. Made (writes std_out bytes ∷ finishes std_out ∷ []) [] olds news in
      inr (inl (refl, [], subst P is (made std_out (meant std_out (names olds) out place))))

  pub refusal_failed : (news : List PortView) (refusal : Refusal) (line : List ℕ) → line ≡ refused_line refusal
      → ForNameAt out olds (λ name. Fails never [] (writes name line ∷ finishes name ∷ []) olds news) → EndsOwed (owed_refused refusal) olds news Fault
  refusal_failed news refusal line is fails =
      let P : List ℕ → Type 0 = λ bytes. Fails never [] (writes std_out bytes ∷ finishes std_out ∷ []) olds news in
      inr (inr (refl, subst P is (fails std_out (meant std_out (names olds) out place))))

  -- that of one of several programs

  pub program_told : (news : List PortView) (refusal : ProgramRefusal) (line : List ℕ) → line ≡ program_refused_line refusal
      → ForNameAt out olds (λ name. Made (writes name line ∷ finishes name ∷ []) [] olds news) → EndsOwed (owed_program_refused refusal) olds news Refused
  program_told news refusal line is made =
      let P : List ℕ → Type 0 = λ bytes. Made (writes std_out bytes ∷ finishes std_out ∷ []) [] olds news in
      inr (inl (refl, [], subst P is (made std_out (meant std_out (names olds) out place))))

  pub program_failed : (news : List PortView) (refusal : ProgramRefusal) (line : List ℕ) → line ≡ program_refused_line refusal
      → ForNameAt out olds (λ name. Fails never [] (writes name line ∷ finishes name ∷ []) olds news) → EndsOwed (owed_program_refused refusal) olds news Fault
  program_failed news refusal line is fails =
      let P : List ℕ → Type 0 = λ bytes. Fails never [] (writes std_out bytes ∷ finishes std_out ∷ []) olds news in
      inr (inr (refl, subst P is (fails std_out (meant std_out (names olds) out place))))

  -- the table

  pub table_made : (core : Core) (mids : List PortView)
      → ForNameAt out olds (λ name. Made (write_each (map (λ line. (name, line)) (space_table core))) [] olds mids)
      → Made (write_each (table_writes core)) [] olds mids
  table_made core mids made = made std_out (meant std_out (names olds) out place)

  pub table_fails : (core : Core) (news : List PortView)
      → ForNameAt out olds (λ name. Fails never [] (write_each (map (λ line. (name, line)) (space_table core))) olds news)
      → Fails never [] (write_each (table_writes core)) olds news
  table_fails core news fails = fails std_out (meant std_out (names olds) out place)

  pub check_fails : (core : Core) (news : List PortView)
      → ForNameAt out olds (λ name. Fails never [] (write_each (map (λ line. (name, line)) (space_table core))) olds news)
      → Fails never [] (owed_check core).acts olds news
  check_fails core news fails = Fails-stop never [] (write_each (table_writes core)) (finishes std_out ∷ []) olds news (table_fails core news fails)

  pub check_ends : (core : Core) (mids news : List PortView) (result : Result (Unit {0}) Failed)
      → ForNameAt out olds (λ name. Made (write_each (map (λ line. (name, line)) (space_table core))) [] olds mids) → names mids ≡ names olds
      → ForNameAt out mids (λ name. Ends never [] (finishes name ∷ []) [] mids news result) → Ends never [] (owed_check core).acts [] olds news result
  check_ends core mids news result made same ends =
      Ends-on never [] [] [] (write_each (table_writes core)) (finishes std_out ∷ []) olds mids news result (table_made core mids made)
      (ends std_out (place-kept olds mids out std_out same (meant std_out (names olds) out place)))

pub check_told : (olds news : List PortView) (core : Core) → Made (owed_check core).acts [] olds news → EndsOwed (owed_check core) olds news Done
check_told olds news core made = inr (inl (refl, [], made))

pub check_failed : (olds news : List PortView) (core : Core) → Fails never [] (owed_check core).acts olds news → EndsOwed (owed_check core) olds news Fault
check_failed olds news core fails = inr (inr (refl, fails))
