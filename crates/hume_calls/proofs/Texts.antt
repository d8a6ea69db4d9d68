-- The texts that ports have to read, where some of them do not tell.
use Rattle.std.proofs.Common.{◌≡◌, ℕ, List, [], ◌∷◌, Option, Some, None, IfSome, refl, sym, ◌∙◌, subst}
use Rattle.std.specs.Io.KnownBytes.{Consumes}
use Rattle.std.specs.Option.{unwrap_or}
use Rattle.hume_model.specs.declared.core_tree.Core.{Core}
use Rattle.hume_ports.specs.Port.{PortView}
use Rattle.hume_ports.specs.Ports.{left_of}
use Rattle.hume_ports.specs.Delivery.{Pairs, Progress, bytes_for}
use Rattle.hume_ports.proofs.Progress.{Drawn-first}
use Rattle.port_acts.specs.Acts.{Act}
use Rattle.port_acts.specs.Ends.{Made}
use Rattle.run_rounds.specs.Inputs.{Inputs, AreInputs}
use Rattle.run_rounds.specs.Runs.{Comes}
use Rattle.hume_calls.specs.Headline.{IsText}

-- what each port tells, or else nothing
abbrev pub told_texts : List PortView → List ℕ → List ℕ
told_texts ports name = unwrap_or (left_of name ports) []

told_self : (left : Option (List ℕ)) → IfSome left (λ bytes. unwrap_or left [] ≡ bytes)
told_self None = tt
told_self (Some bytes) = refl

pub told_by_all : (ports : List PortView) (name : List ℕ) → IfSome (left_of name ports) (λ left. told_texts ports name ≡ left)
told_by_all ports name = told_self (left_of name ports)

-- what is told when nothing was taken was told before
told_before : (before after : Option (List ℕ)) (taken text : List ℕ) → taken ≡ [] → Consumes before after taken → IfSome after (λ left. text ≡ left)
    → IfSome before (λ left. text ≡ left)
told_before None after taken text none c told = tt
told_before (Some xs) None taken text none c told = absurd c
told_before (Some xs) (Some ys) taken text none c told =
    let same : xs ≡ ys = subst (λ (front : List ℕ). Consumes (Some xs) (Some ys) front) none c in told ∙ sym same

pub text_before : (olds mids : List PortView) (taken given : Pairs) → Progress olds mids taken given → (name text : List ℕ) → bytes_for name taken ≡ []
    → IfSome (left_of name mids) (λ left. text ≡ left) → IfSome (left_of name olds) (λ left. text ≡ left)
text_before olds mids taken given p name text none told =
    told_before (left_of name olds) (left_of name mids) (bytes_for name taken) text none (Drawn-first olds mids name taken p.same_names p.drawn) told

-- what comes from ports after acts that read nothing comes from the ports before
abbrev pub comes_before : (core : Core) (acts : List Act) (olds mids : List PortView) → Made acts [] olds mids → Comes core mids → Comes core olds
comes_before core acts olds mids m comes = record {
  texts = comes.texts;
  told = λ name. text_before olds mids [] _ m.progress name (comes.texts name) refl (comes.told name);
  inputs = comes.inputs;
  are = comes.are;
}

-- something comes from any ports
abbrev pub some_comes : (core : Core) (ports : List PortView) → ((texts : List ℕ → List ℕ) → (inputs : Inputs) × AreInputs core texts inputs) → Comes core ports
some_comes core ports some =
    let inputs = some (told_texts ports) in
    record { texts = told_texts ports; told = told_by_all ports; inputs = inputs.0; are = inputs.1 }

-- the texts of the other ports are the same before the source is read
pub texts_before : (source text : List ℕ) (acts : List Act) (olds mids : List PortView) (texts : List ℕ → List ℕ) → Made acts ((source, text) ∷ []) olds mids
    → IsText source mids texts → IsText source olds texts
texts_before source text acts olds mids texts m told name apart =
    let none : bytes_for name ((source, text) ∷ []) ≡ [] = rw apart refl in
    text_before olds mids ((source, text) ∷ []) _ m.progress name (texts name) none (told name apart)
