-- Going on after an evaluation, and from one part to the next.
use Rattle.std.specs.Prelude.{ℕ, List, [], ◌∷◌, ◌++◌, Option, Some, None}
use Rattle.hume_base.specs.declared.types.Value.{Value}
use Rattle.hume_model.specs.declared.exceptions.TheConstants.{DIV_ZERO, RANGE, NO_CASE}
use Rattle.hume_model.specs.declared.outcome.Outcome.{Outcome}
use Rattle.hume_model.specs.declared.outcome.Outcome.TheVariants.{Gives, Raises}
use Rattle.hume_model.specs.declared.outcome.Several.{Several}
use Rattle.hume_model.specs.declared.outcome.Several.TheVariants.{All, Raised}
use Rattle.hume_model.specs.declared.outcome.Outputs.{Outputs}
use Rattle.hume_model.specs.declared.outcome.Outputs.TheVariants.{Asserts, Throws}

-- what an expression comes to, by the values of its variables
abbrev pub Meaning : Type 0
Meaning = List Value → Outcome

-- the exceptions that every program has
abbrev pub div_zero : Outcome
div_zero = Raises DIV_ZERO None

-- the exception of an index outside of a vector
abbrev pub out_of_range : Outcome
out_of_range = Raises RANGE None

-- the exception of a `case` or a call that nothing matches
abbrev pub no_case : Outcome
no_case = Raises NO_CASE None

-- goes on with the value, unless an exception was raised
abbrev pub and_then : Outcome → (Value → Outcome) → Outcome
and_then (Gives value) go = go value
and_then (Raises exn carried) go = Raises exn carried

-- goes on with the values, unless an exception was raised
abbrev pub with_all : Several → (List Value → Outcome) → Outcome
with_all (All values) go = go values
with_all (Raised exn carried) go = Raises exn carried

-- the values so far, and then those of the other parts
abbrev pub after_values : List Value → Several → Several
after_values values (All more) = All (values ++ more)
after_values values (Raised exn carried) = Raised exn carried

-- the value and those of the other parts, unless an exception was raised
abbrev pub then_rest : Outcome → Several → Several
then_rest (Gives value) rest = after_values (value ∷ []) rest
then_rest (Raises exn carried) rest = Raised exn carried

-- the values of parts from left to right, or the first exception that is raised
abbrev pub in_order : List Meaning → List Value → Several
in_order [] env = All []
in_order (part ∷ parts) env = then_rest (part env) (in_order parts env)

-- the exception, with what it carries, unless that raises one itself
abbrev pub raised : ℕ → Option Meaning → Meaning
raised exn None env = Raises exn None
raised exn (Some part) env = and_then (part env) (λ value. Raises exn (Some value))

-- goes on with the variables of a match, or with what comes where there is none
abbrev pub on_match : {X : Type 0} → Option (List Value) → (List Value → X) → X → X
on_match (Some values) go other = go values
on_match None go other = other

-- goes on to outputs
abbrev pub then_outputs : Outcome → (Value → Outputs) → Outputs
then_outputs (Gives value) go = go value
then_outputs (Raises exn carried) go = Throws exn carried

-- the outputs so far, and then the others
abbrev pub after_outputs : List (Option Value) → Outputs → Outputs
after_outputs outs (Asserts more) = Asserts (outs ++ more)
after_outputs outs (Throws exn carried) = Throws exn carried

-- the output and the others, unless an exception was raised
abbrev pub then_outs : Outcome → Outputs → Outputs
then_outs (Gives value) rest = after_outputs (Some value ∷ []) rest
then_outs (Raises exn carried) rest = Throws exn carried

-- outputs from left to right, none where `*` stands, or the first exception that is raised
abbrev pub outs_in_order : List (Option Meaning) → List Value → Outputs
outs_in_order [] env = Asserts []
outs_in_order (None ∷ outs) env = after_outputs (None ∷ []) (outs_in_order outs env)
outs_in_order (Some out ∷ outs) env = then_outs (out env) (outs_in_order outs env)

-- an exception without outputs
abbrev pub thrown : Outcome → Outputs
thrown (Gives value) = Asserts []
thrown (Raises exn carried) = Throws exn carried
