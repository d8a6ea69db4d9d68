-- A line that is told by one write.
use Rattle.std.proofs.Common.{◌≡◌, ℕ, List, [], ◌∷◌, ◌++◌, ap, ◌∙◌, subst, Some, Result}
use Rattle.hume_ports.specs.declared.port.Failed.{Failed}
use Rattle.hume_ports.specs.Port.{PortView}
use Rattle.hume_ports.specs.Ports.{ForNameAt, names, place_of}
use Rattle.port_acts.specs.Acts.{writes}
use Rattle.port_acts.specs.Ends.{Ends, never}
use Rattle.port_acts.specs.Places.{IsPlaceOf}
use Rattle.run_rounds.specs.Streams.{std_out}
use Rattle.run_rounds.specs.Writes.{bad_value_line}
use Rattle.hume_console.specs.Words.{std_in}

pub line_told : (olds news : List PortView) (out : ℕ) (bytes now cleared line : List ℕ) (result : Result (Unit {0}) Failed)
    → IsPlaceOf std_out (names olds) out → cleared ≡ [] → now ≡ cleared ++ line → bytes ≡ now
    → ForNameAt out olds (λ name. Ends never [] (writes name bytes ∷ []) [] olds news result)
    → Ends never [] (writes std_out line ∷ []) [] olds news result
line_told olds news out bytes now cleared line result place clear put shown ends =
    let is : bytes ≡ line = shown ∙ put ∙ ap (λ (c : List ℕ). c ++ line) clear in
    let first : place_of std_out (names olds) ≡ Some out = subst (λ name. place_of name (names olds) ≡ Some out) place.named place.place.first in
    subst (λ (bs : List ℕ). Ends never [] (writes std_out bs ∷ []) [] olds news result) is (ends std_out first)

-- the line that tells a bad line of commands
pub bad_command_told : (olds news : List PortView) (out : ℕ) (bytes now cleared : List ℕ) (number told : ℕ) (result : Result (Unit {0}) Failed)
    → IsPlaceOf std_out (names olds) out → cleared ≡ [] → now ≡ cleared ++ bad_value_line std_in told → bytes ≡ now → told ≡ number
    → ForNameAt out olds (λ name. Ends never [] (writes name bytes ∷ []) [] olds news result)
    → Ends never [] (writes std_out (bad_value_line std_in number) ∷ []) [] olds news result
bad_command_told olds news out bytes now cleared number told result place clear put shown same ends =
    subst (λ n. Ends never [] (writes std_out (bad_value_line std_in n) ∷ []) [] olds news result) same
    (line_told olds news out bytes now cleared (bad_value_line std_in told) result place clear put shown ends)
