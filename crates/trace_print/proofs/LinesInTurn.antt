-- Lines that are written in turn to the port at a place.
use Rattle.std.proofs.Common.{◌≡◌, ℕ, List, [], ◌∷◌, ◌++◌, map, refl, sym, ◌∙◌, ap, subst, Result, Ok, Err}
use Rattle.std.proofs.lemmas.List.{map-append}
use Rattle.hume_ports.specs.declared.port.Failed.{Failed}
use Rattle.hume_ports.specs.Port.{PortView}
use Rattle.hume_ports.specs.Ports.{names, ForNameAt}
use Rattle.hume_ports.proofs.Names.{place-kept}
use Rattle.port_acts.specs.Acts.{Act, writes, write_each}
use Rattle.port_acts.specs.Ends.{never, Made, Fails, Ends}
use Rattle.port_acts.proofs.Making.{Made-start, Made-on}
use Rattle.port_acts.proofs.Failing.{Fails-on, Fails-stop}
use Rattle.trace_print.specs.InTurn.{lines_to, EndsLines}

-- the lines were written
pub record AreWritten (at : ℕ) (lines : List (List ℕ)) (olds news : List PortView) : Type 0 where
  pub same_names : names news ≡ names olds
  pub made : ForNameAt at olds (λ name. Made (lines_to name lines) [] olds news)

pub none_written : (at : ℕ) (ports : List PortView) → AreWritten at [] ports ports
none_written at ports = record { same_names = refl; made = λ name place. Made-start ports }

lines_on : (name : List ℕ) (lines more : List (List ℕ)) → lines_to name (lines ++ more) ≡ lines_to name lines ++ lines_to name more
lines_on name lines more =
    ap write_each (map-append (λ (line : List ℕ). (name, line)) lines more)
    ∙ map-append (λ (pair : List ℕ × List ℕ). writes pair.0 pair.1) (map (λ (line : List ℕ). (name, line)) lines) (map (λ (line : List ℕ). (name, line)) more)

-- and then more
pub more_written : (at : ℕ) (lines more : List (List ℕ)) (olds mids news : List PortView) → AreWritten at lines olds mids
    → ForNameAt at mids (λ name. Made (lines_to name more) [] mids news) → names news ≡ names mids → AreWritten at (lines ++ more) olds news
more_written at lines more olds mids news first made same = record {
  same_names = same ∙ first.same_names;
  made = λ name place.
      let P : List Act → Type 0 = λ acts. Made acts [] olds news in
      subst P (sym (lines_on name lines more)) (Made-on (lines_to name lines) (lines_to name more) [] [] olds mids news
      (first.made name place) (made name (place-kept olds mids at name first.same_names place)));
}

-- a write of one of the next lines failed
pub more_fails : (at : ℕ) (lines more : List (List ℕ)) (olds mids news : List PortView) → AreWritten at lines olds mids
    → ForNameAt at mids (λ name. Fails never [] (lines_to name more) mids news) → ForNameAt at olds (λ name. Fails never [] (lines_to name (lines ++ more)) olds news)
more_fails at lines more olds mids news first fails = λ name place.
    let P : List Act → Type 0 = λ acts. Fails never [] acts olds news in
    subst P (sym (lines_on name lines more)) (Fails-on never [] [] (lines_to name lines) (lines_to name more) olds mids news
    (first.made name place) (fails name (place-kept olds mids at name first.same_names place)))

-- lines that come after the one that failed were not begun
pub later_unwritten : (at : ℕ) (lines later : List (List ℕ)) (olds news : List PortView) → ForNameAt at olds (λ name. Fails never [] (lines_to name lines) olds news)
    → ForNameAt at olds (λ name. Fails never [] (lines_to name (lines ++ later)) olds news)
later_unwritten at lines later olds news fails = λ name place.
    let P : List Act → Type 0 = λ acts. Fails never [] acts olds news in
    subst P (sym (lines_on name lines later)) (Fails-stop never [] (lines_to name lines) (lines_to name later) olds news (fails name place))

-- nothing to write is written
pub nothing_written : (at : ℕ) (lines : List (List ℕ)) (ports : List PortView) → lines ≡ [] → ForNameAt at ports (λ name. Made (lines_to name lines) [] ports ports)
nothing_written at lines ports none = λ name place.
    let P : List (List ℕ) → Type 0 = λ some. Made (lines_to name some) [] ports ports in
    subst P (sym none) (Made-start ports)

-- one act of a line, by whatever it ends
pub one_line : (at : ℕ) (line bytes : List ℕ) (lines : List (List ℕ)) (olds news : List PortView) (result : Result (Unit {0}) Failed) → lines ≡ line ∷ [] → bytes ≡ line
    → ForNameAt at olds (λ name. Ends never [] (writes name bytes ∷ []) [] olds news result) → EndsLines at lines olds news result
one_line at line bytes lines olds news result are is ends = λ name place.
    let P : List Act → Type 0 = λ acts. Ends never [] acts [] olds news result in
    let same : writes name bytes ∷ [] ≡ lines_to name lines =
    ap (λ (told : List ℕ). writes name told ∷ []) is ∙ ap (lines_to name) (sym are) in
    subst P same (ends name place)

-- lines that were written and then others, by whatever these end
pub both_end : (at : ℕ) (lines more : List (List ℕ)) (olds mids news : List PortView) (result : Result (Unit {0}) Failed) → AreWritten at lines olds mids
    → names news ≡ names mids → EndsLines at more mids news result → EndsLines at (lines ++ more) olds news result
both_end at lines more olds mids news (Ok done) first same ends = (more_written at lines more olds mids news first ends same).made
both_end at lines more olds mids news (Err failed) first same ends = more_fails at lines more olds mids news first ends
