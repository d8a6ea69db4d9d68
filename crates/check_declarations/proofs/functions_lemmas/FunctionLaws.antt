-- What the equations of a function come to.
use native.Mathlib.Omega.{arith}
use Rattle.std.proofs.Common.{◌≡◌, ℕ, ◌||◌, Bool, true, false, List, [], ◌∷◌, ◌++◌, Option, Some, None, refl, ap, sym, ◌∙◌}
use Rattle.std.proofs.lemmas.Grind.{common_steps}
use Rattle.std.proofs.lemmas.List.{append_assoc}
use Rattle.hume_base.specs.declared.types.Ty.{Ty, Tuple as TupleTy}
use Rattle.hume_ast.specs.declared.tree.TyExp.{TyExp}
use Rattle.typed_core.specs.declared.typed_tree.TypedEquation.{TypedEquation}
use Rattle.check_scopes.specs.types.Contexts.{top, below}
use Rattle.check_typing.specs.Partial.{given}
use Rattle.check_typing.specs.Signatures.{Scope}
use Rattle.check_typing.specs.Patterns.{CoredPat, patterns}
use Rattle.check_typing.specs.Cores.{Cored}
use Rattle.check_typing.specs.inner.Walk.{walk}
use Rattle.check_typing.proofs.Maybe.{given-inv, some-same, tuple_parts-at}
use Rattle.check_typing.specs.WrittenTypes.{all_written}
use Rattle.check_typing.specs.Declarations.{CoredEquation, WrittenEquation, some_so, cores_alone, parted, equation_core}
use Rattle.check_typing.specs.inner.DeclarationWalk.{found_of_all, equation_walk, function_walk}
use Rattle.check_typing.specs.declared.signatures.Signature.{Signature}
use Rattle.check_tasks.specs.States.{State, with_types}
use Rattle.check_tasks.proofs.Given.{by_case, form_steps}
use Rattle.check_declarations.specs.functions.inner.Functions.{with_signature, found_together}
use Rattle.check_declarations.proofs.functions_lemmas.EquationLaws.{given_twice}
use Rattle.check_declarations.specs.functions.inner.Equations.{equation_at, equations_at, together}

or_assoc : (a b c : Bool) → (a || b) || c ≡ a || (b || c)
or_assoc true b c = refl
or_assoc false b c = refl

-- one more core in front of the others
put_together : (found : List TypedEquation × Bool) (c : CoredEquation) (others : Option (List CoredEquation))
    → together (found.0 ++ c.0 ∷ [], found.1 || c.1) others ≡ together found (given others (λ cs. Some (c ∷ cs)))
put_together found c None = refl
put_together found c (Some cs) = λ i. Some (append_assoc found.0 (c.0 ∷ []) (cores_alone cs) i, or_assoc found.1 c.1 (some_so cs) i)

pub equations_more : (state : State) (found : List TypedEquation × Bool) (equation : WrittenEquation) (others : List WrittenEquation) (c : CoredEquation)
    → equation_at state equation.1 equation.2 ≡ Some c
    → together found (equations_at state (equation ∷ others)) ≡ together (found.0 ++ c.0 ∷ [], found.1 || c.1) (equations_at state others)
equations_more state found equation others c h =
    ap (λ first. together found (given first (λ c. given (equations_at state others) (λ cs. Some (c ∷ cs))))) h
    ∙ sym (put_together found c (equations_at state others))

pub equations_none : (state : State) (found : List TypedEquation × Bool) (equation : WrittenEquation) (others : List WrittenEquation)
    → equation_at state equation.1 equation.2 ≡ None → together found (equations_at state (equation ∷ others)) ≡ None
equations_none state found equation others h =
    ap (λ first. together found (given first (λ c. given (equations_at state others) (λ cs. Some (c ∷ cs))))) h

-- from nothing on, all of them together
from_nothing : (all : Option (List CoredEquation)) → together ([], false) all ≡ found_together all
from_nothing None = refl
from_nothing (Some cs) = refl

not_together : (all : Option (List CoredEquation)) → together ([], false) all ≡ None → all ≡ None
not_together None h = refl
not_together (Some cs) h = cc

-- the same of a function of that signature
equations_of : (state : State) (signature : Signature) (equations : List WrittenEquation) → state.0.0 ≡ []
    → state.0.1 ≡ signature.gives ∷ TupleTy signature.params ∷ below (below state.0.1)
    → found_of_all (equation_walk state.0.2 signature) equations ≡ equations_at state equations
equations_of state signature [] none types = refl
equations_of state signature (equation ∷ others) none types =
    (λ i. given (one i) (λ first. given (equations_of state signature others none types i) (λ cs. Some (first ∷ cs))))
  where
    cored : Scope → List Ty → Ty → Option CoredEquation
    cored scope tys gives = given (patterns state.0.2 equation.1 tys) (λ bound.
        given ((walk state.0.2 equation.2).against (scope ++ bound.0) gives) (λ body. Some (equation_core bound.1 body)))

    parted_at : Scope → List Ty → Ty → Option ((Scope × List CoredPat) × Cored)
    parted_at scope tys gives = given (patterns state.0.2 equation.1 tys) (λ bound.
        given ((walk state.0.2 equation.2).against (scope ++ bound.0) gives) (λ body. Some (bound, body)))

    core_of : (Scope × List CoredPat) × Cored → Option CoredEquation
    core_of parts = Some (equation_core parts.0.1 parts.1)

    one : equation_walk state.0.2 signature equation ≡ equation_at state equation.1 equation.2
    one =
        (λ i. cored (sym none i) signature.params (sym (ap top types) i))
        ∙ sym (given_twice (patterns state.0.2 equation.1 signature.params) _ core_of
        ∙ (λ i. given (patterns state.0.2 equation.1 signature.params) (λ bound.
        given_twice ((walk state.0.2 equation.2).against (state.0.0 ++ bound.0) (top state.0.1)) (λ body. Some (bound, body)) core_of i)))
        ∙ (λ i. given (given (sym (tuple_parts-at (top (below state.0.1)) signature.params (ap (λ ts. top (below ts)) types)) i)
        (λ tys. parted_at state.0.0 tys (top state.0.1))) core_of)

-- without the last two types
abbrev pub unsigned_of : State → State
unsigned_of state = with_types (below (below state.0.1)) state

module _ (state mid : State) (types : List TyExp) (equations : List WrittenEquation) (none : state.0.0 ≡ []) (signed : with_signature types state ≡ Some mid) where
  abbrev with_parts : List Ty × Ty → State
  with_parts p = with_types (p.1 ∷ TupleTy p.0 ∷ state.0.1) state

  -- the parameters' types and the one that is given
  parts : (all : List Ty) × (all_written state.0.2.types types ≡ Some all) × (p : List Ty × Ty) × (parted all ≡ Some p) × (with_parts p ≡ mid)
  parts =
      let k = given-inv (all_written state.0.2.types types) (λ all. given (parted all) (λ p. Some (with_parts p))) mid signed in
      let m = given-inv (parted k.0) (λ p. Some (with_parts p)) mid k.2 in
      (k.0, k.1, m.0, m.1, some-same (with_parts m.0) mid m.2)

  function_found : (name : List ℕ) → function_walk state.0.2 name types equations ≡ equations_at mid equations
  function_found name =
      ap (λ o. given (given o (λ all. given (parted all) (λ p. Some (signed_by p)))) walked) parts.1
      ∙ ap (λ o. given (given o (λ p. Some (signed_by p))) walked) parts.3
      ∙ equations_of (with_parts parts.2) (signed_by parts.2) equations none refl
      ∙ ap (λ st. equations_at st equations) parts.4
    where
      signed_by : List Ty × Ty → Signature
      signed_by p = record { name = name; params = p.0; gives = p.1 }

      walked : Signature → Option (List CoredEquation)
      walked signature = found_of_all (equation_walk state.0.2 signature) equations

  pub function_left : unsigned_of mid ≡ state
  function_left = ap unsigned_of (sym parts.4)

  -- the cores that are found
  pub function_told : (found : List TypedEquation × Bool) → together ([], false) (equations_at mid equations) ≡ Some found
      → (name : List ℕ) → found_together (function_walk state.0.2 name types equations) ≡ Some found
  function_told found h name = ap found_together (function_found name) ∙ sym (from_nothing (equations_at mid equations)) ∙ h

  pub function_untyped : together ([], false) (equations_at mid equations) ≡ None
      → (name : List ℕ) → function_walk state.0.2 name types equations ≡ None
  function_untyped h name = function_found name ∙ not_together (equations_at mid equations) h

pub unsigned : (state : State) (types : List TyExp) (equations : List WrittenEquation) (name : List ℕ) → with_signature types state ≡ None
    → function_walk state.0.2 name types equations ≡ None
unsigned state types equations name h =
    by_case (all_written state.0.2.types types) (λ n. grind (arith, form_steps)) (λ all a.
    by_case (parted all) (λ n. grind (arith, form_steps)) (λ p q. grind (arith, form_steps)))

pub ruleset equations_steps = (common_steps, equations_more, equations_none)

pub ruleset function_steps = (common_steps, function_left, unsigned)
