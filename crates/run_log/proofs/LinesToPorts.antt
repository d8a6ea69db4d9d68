-- Lines of a block that are written in turn.
use Rattle.std.proofs.Common.{◌≡◌, ℕ, suc, ◌+◌, ◌≤◌, List, [], ◌∷◌, ◌++◌, take, drop, length, Some, slice_get, Result, Ok, Err, ap, sym, ◌∙◌, subst, arith}
use Rattle.std.proofs.lemmas.List.{take_all, take-append-drop}
use Rattle.hume_ports.specs.declared.port.Failed.{Failed}
use Rattle.hume_ports.specs.Port.{PortView}
use Rattle.hume_ports.specs.Ports.{names, ForNameAt}
use Rattle.port_acts.specs.Acts.{writes}
use Rattle.port_acts.specs.Ends.{Ends, Fails, Made, never}
use Rattle.trace_print.specs.InTurn.{lines_to}
use Rattle.trace_print.proofs.LinesInTurn.{AreWritten, more_written, more_fails, later_unwritten}
use Rattle.run_log.proofs.Lists.{take_next}

-- the lines before a place were written
abbrev pub AreFirstWritten : ℕ → List (List ℕ) → ℕ → List PortView → List PortView → Type 0
AreFirstWritten at lines place olds news = AreWritten at (take place lines) olds news

module _ (at : ℕ) (lines : List (List ℕ)) (place : ℕ) (olds mids news : List PortView) (it : AreFirstWritten at lines place olds mids)
    (line : List ℕ) (there : slice_get lines place ≡ Some line) where
  abbrev Next : Result (Unit {0}) Failed → Type 0
  Next result = ForNameAt at mids (λ name. Ends never [] (writes name line ∷ []) [] mids news result)

  pub one_more : (result : Result (Unit {0}) Failed) → result ≡ Ok tt → Next result → names news ≡ names mids
      → AreFirstWritten at lines (place + 1) olds news
  one_more (Ok done) is made same =
      let next : suc place ≡ place + 1 = omega arith in
      subst (λ k. AreFirstWritten at lines k olds news) next
      (subst (λ some. AreWritten at some olds news) (sym (take_next lines place line there))
      (more_written at (take place lines) (line ∷ []) olds mids news it made same))
  one_more (Err failed) is made same = cc

  whole : lines ≡ (take place lines ++ line ∷ []) ++ drop (suc place) lines
  whole = sym (take-append-drop (suc place) lines) ∙ ap (λ some. some ++ drop (suc place) lines) (take_next lines place line there)

  pub one_failed : (result : Result (Unit {0}) Failed) (failed : Failed) → result ≡ Err failed → Next result
      → ForNameAt at olds (λ name. Fails never [] (lines_to name lines) olds news)
  one_failed (Ok done) failed is ends = cc
  one_failed (Err other) failed is fails =
      subst (λ all. ForNameAt at olds (λ name. Fails never [] (lines_to name all) olds news)) (sym whole)
      (later_unwritten at (take place lines ++ line ∷ []) (drop (suc place) lines) olds news
      (more_fails at (take place lines) (line ∷ []) olds mids news it fails))

pub all_first : (at : ℕ) (lines : List (List ℕ)) (place : ℕ) (olds news : List PortView) → length lines ≤ place → AreFirstWritten at lines place olds news
    → ForNameAt at olds (λ name. Made (lines_to name lines) [] olds news)
all_first at lines place olds news past it =
    subst (λ some. ForNameAt at olds (λ name. Made (lines_to name some) [] olds news)) (take_all place lines past) it.made

-- so far, while a chunk keeps its room
pub record WrittenSoFar (at : ℕ) (lines : List (List ℕ)) (place : ℕ) (olds news : List PortView) (old_room new_room : ℕ) : Type 0 where
  pub same_names : names news ≡ names olds
  pub room : new_room ≡ old_room
  pub written : AreFirstWritten at lines place olds news
