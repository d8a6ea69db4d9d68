-- One name more, and one input or output more.
use Rattle.std.proofs.Common.{◌≡◌, ℕ, suc, ◌+◌, List, [], ◌∷◌, Option, Some, None, option_map, refl, ap, ◌∙◌, Bool, true, false, if◌then◌else◌, bytes_eq, arith}
use Rattle.std.proofs.lemmas.Grind.{common_steps}
use Rattle.hume_model.specs.declared.core_tree.PortC.{PortC}
use Rattle.check_typing.specs.Partial.{given}
use Rattle.check_typing.specs.Signatures.{one_further, first_named}
use Rattle.check_rules.specs.CoreOf.{port_place}
use Rattle.check_tables.proofs.names_lemmas.Lookup.{with_names-append}

pub ruleset name_steps = (common_steps, with_names-append)

-- the place of the name among inputs or outputs, the first of which has place n
abbrev pub place_from : ℕ → List ℕ → List PortC → Option ℕ
place_from n name ports = option_map (λ place. n + place) (port_place name ports)

pub from_none : (n : ℕ) (name : List ℕ) → place_from n name [] ≡ None
from_none n name = refl

pub from_first : (name : List ℕ) (ports : List PortC) → place_from 0 name ports ≡ port_place name ports
from_first name ports = by (port_place name ports)
  where
    by : (o : Option ℕ) → option_map (λ place. 0 + place) o ≡ o
    by None = refl
    by (Some place) = ap Some (let e : 0 + place ≡ place = omega arith in e)

abbrev found_or_further : Bool → PortC → Option (ℕ × PortC) → Option ℕ
found_or_further same port o = given (if same then Some (0, port) else one_further o) (λ found. Some found.0)

pub from_here : (n : ℕ) (name : List ℕ) (port : PortC) (ports : List PortC) → bytes_eq port.name name ≡ true → place_from n name (port ∷ ports) ≡ Some n
from_here n name port ports h =
    ap (λ same. option_map (λ place. n + place) (found_or_further same port (first_named (λ (port : PortC). port.name) name ports))) h
    ∙ ap Some (let e : n + 0 ≡ n = omega arith in e)

pub from_further : (n : ℕ) (name : List ℕ) (port : PortC) (ports : List PortC) → bytes_eq port.name name ≡ false
    → place_from n name (port ∷ ports) ≡ place_from (suc n) name ports
from_further n name port ports h =
    ap (λ same. option_map (λ place. n + place) (found_or_further same port others)) h ∙ by others
  where
    others : Option (ℕ × PortC)
    others = first_named (λ (port : PortC). port.name) name ports

    by : (o : Option (ℕ × PortC)) → option_map (λ place. n + place) (given (one_further o) (λ found. Some found.0))
        ≡ option_map (λ place. suc n + place) (given o (λ found. Some found.0))
    by None = refl
    by (Some found) = ap Some (let e : n + (found.0 + 1) ≡ suc n + found.0 = omega arith in e)

pub ruleset port_steps = (common_steps, from_none, from_first, from_here, from_further)
