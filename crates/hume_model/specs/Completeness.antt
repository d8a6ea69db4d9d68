-- When the patterns of a `case`, or the equations of a function, leave no value out.
use Rattle.std.specs.Prelude.{ℕ, zero, suc, ◌==◌, ◌&&◌, ◌||◌, Bool, true, false, List, [], ◌∷◌, length, Option, Some, None, slice_get}
use Rattle.std.specs.List.{list_all, list_any, filter_map}
use Rattle.hume_base.specs.declared.types.Ty.{Ty}
use Rattle.hume_base.specs.declared.types.SumDef.{SumDef}
use Rattle.hume_base.specs.declared.types.Types.{Types}
use Rattle.hume_model.specs.declared.core_tree.Forms.{Forms}
use Rattle.hume_model.specs.declared.core_tree.Forms.TheVariants.{Truths, Constructors, Others}
use Rattle.hume_model.specs.declared.core_tree.PatC.{PatC, fold-PatC, out-PatC}
use Rattle.hume_model.specs.declared.core_tree.PatC.TheOpen.{PatC-F}
use Rattle.hume_model.specs.declared.core_tree.EqC.{EqC}
use Rattle.hume_model.specs.Calls.{all_true}
use Rattle.hume_model.specs.Forms.{forms_of}

-- one level of a pattern: it is a variable, `_`, or a tuple of such patterns
abbrev pub irrefutable_step : PatC-F Bool → Bool
irrefutable_step PatC-F.Var = true
irrefutable_step PatC-F.Any = true
irrefutable_step (PatC-F.Word word) = false
irrefutable_step (PatC-F.Con place parts) = false
irrefutable_step (PatC-F.Tuple parts) = all_true parts

-- every value of its type matches the pattern, by the pattern's form alone
abbrev pub is_irrefutable : PatC → Bool
is_irrefutable = fold-PatC Bool irrefutable_step

-- there is a last element, and it passes the test
abbrev pub last_passes : {X : Type 0} → (X → Bool) → List X → Bool
last_passes test [] = false
last_passes test (x ∷ []) = test x
last_passes test (x ∷ y ∷ more) = last_passes test (y ∷ more)

-- each number below the bound passes the test
abbrev pub all_below : ℕ → (ℕ → Bool) → Bool
all_below zero test = true
all_below (suc bound) test = all_below bound test && test bound

-- the pattern is the constructor at the place, with irrefutable arguments
abbrev pub takes_con : ℕ → PatC-F PatC → Bool
takes_con place (PatC-F.Con other parts) = (other == place) && list_all is_irrefutable parts
takes_con place _ = false

-- the pattern is the word
abbrev pub takes_word : ℕ → PatC-F PatC → Bool
takes_word word (PatC-F.Word other) = other == word
takes_word word _ = false

-- each of so many constructors is taken by a pattern, and there are as many patterns: so each by just one
abbrev pub are_constructors : ℕ → List PatC → Bool
are_constructors count pats = (length pats == count) && all_below count (λ place. list_any (λ pat. takes_con place (out-PatC pat)) pats)

-- there are two patterns, and each of the words 0 and 1 is one of them
abbrev pub are_truths : List PatC → Bool
are_truths pats = (length pats == 2) && all_below 2 (λ word. list_any (λ pat. takes_word word (out-PatC pat)) pats)

-- the patterns are the constructors of the data type, if there is one
abbrev pub are_of_data : Option SumDef → List PatC → Bool
are_of_data None pats = false
are_of_data (Some sum) pats = are_constructors (length sum.cons) pats

-- the patterns are each form once
abbrev pub are_all : Types → Forms → List PatC → Bool
are_all types Truths pats = are_truths pats
are_all types (Constructors number) pats = are_of_data (slice_get types.sums number) pats
are_all types Others pats = false

-- the patterns leave no value of these forms out: the last is irrefutable, or they are all that there are
abbrev pub are_complete : Types → Forms → List PatC → Bool
are_complete types forms pats = last_passes is_irrefutable pats || are_all types forms pats

-- the first pattern of each equation, which is its only one where there is one parameter
abbrev pub first_patterns : List EqC → List PatC
first_patterns equations = filter_map (λ (equation : EqC). slice_get equation.pats 0) equations

-- there is one parameter, and the patterns for it are complete
abbrev pub are_complete_alone : Types → List Ty → List EqC → Bool
are_complete_alone types (ty ∷ []) equations = are_complete types (forms_of ty) (first_patterns equations)
are_complete_alone types _ equations = false

-- the equation has only irrefutable patterns
abbrev pub is_irrefutable_equation : EqC → Bool
is_irrefutable_equation equation = list_all is_irrefutable equation.pats

-- the equations of a function with these parameters leave no arguments out
abbrev pub are_complete_equations : Types → List Ty → List EqC → Bool
are_complete_equations types params equations = last_passes is_irrefutable_equation equations || are_complete_alone types params equations
