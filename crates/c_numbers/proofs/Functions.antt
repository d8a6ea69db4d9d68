-- What functions of one or two parameters do.
use Rattle.std.proofs.Common.{◌≡◌, ℕ, ◌==◌, ◌<◌, Bool, true, false, ℤ, List, [], ◌∷◌, map, Option, Some, None, if◌then◌else◌, refl, ap, ◌∙◌, arith, eq-eqb}
use Rattle.std.specs.Str.{bytes_eq}
use Rattle.std.proofs.lemmas.Slice.Eq.{bytes_eq-Decides}
use Rattle.std.proofs.lemmas.Bool.{ne_eqb}
use Rattle.c_tree.specs.declared.tree.CType.{CType}
use Rattle.c_tree.specs.declared.tree.CExp.{CExp}
use Rattle.c_tree.specs.declared.tree.CExp.TheVariants as exp
use Rattle.c_tree.specs.declared.tree.CStm.{CStm}
use Rattle.c_tree.specs.declared.tree.CStm.TheVariants as stm
use Rattle.c_tree.specs.declared.tree.CParameter.{CParameter}
use Rattle.c_tree.specs.declared.tree.CFunction.{CFunction}
use Rattle.c_tree.specs.declared.tree.Linkage.TheVariants.{StaticInline}
use Rattle.c_forms.specs.Statements.{one_if, variable}
use Rattle.c_arithmetic.specs.Helpers.{parameter}
use Rattle.c_arithmetic.specs.Bodies.{returned}
use Rattle.c_meaning.specs.Numbers.{NumberType, CNumber, of_type, is_true, converted}
use Rattle.c_meaning.specs.Objects.{Object, Scalar}
use Rattle.c_meaning.specs.Memories.{Value, Numeric, Memory, Rights, named}
use Rattle.c_meaning.specs.Expressions.{Ended, Function, Context, Meant, blank, values_of, meant}
use Rattle.c_meaning.specs.Statements.{Out, Goes, Returns, and_go, defined, in_turn, with_name, ended, doing}
use Rattle.c_meaning.specs.Calls.{function_of}
use Rattle.c_meaning.proofs.Options.{comes}
use Rattle.c_meaning.proofs.Forms.{call_means, define_does, if_does, return_does}
use Rattle.c_numbers.proofs.Expressions.{Has, Answers, IsVariable}

-- ---- variables
module _ (context : Context) (name : List ℕ) (ty : NumberType) (z : ℤ) (constant : Bool) where
  new_object : (object : Object) → (if context.memory.count == context.memory.count then object else context.memory.objects context.memory.count) ≡ object
  new_object object = rw (eq-eqb context.memory.count context.memory.count refl) refl

  pub new_variable : IsVariable (with_name context name (Scalar ty (Some z)) constant) name (of_type ty z)
  new_variable = record {
    block = context.memory.count;
    constant = constant;
    named = rw ((bytes_eq-Decides name name).1 refl) refl;
    less = omega arith;
    has = new_object (Scalar ty (Some z));
  }

  old_object : (block : ℕ) (object : Object) → block < context.memory.count
      → (if block == context.memory.count then object else context.memory.objects block) ≡ context.memory.objects block
  old_object block object less = rw (ne_eqb block context.memory.count (λ e. omega (arith, e, less))) refl

  -- another variable keeps its number
  pub old_variable : (other : List ℕ) (x : CNumber) → bytes_eq other name ≡ false → IsVariable context other x
      → IsVariable (with_name context name (Scalar ty (Some z)) constant) other x
  old_variable other x differs v = record {
    block = v.block;
    constant = v.constant;
    named = rw differs v.named;
    less = (let h = v.less in omega (arith, h));
    has = old_object v.block (Scalar ty (Some z)) v.less ∙ v.has;
  }

-- ---- statements
pub record Returned (out : Out) (value : Value) : Type 0 where
  pub memory : Memory
  pub is : out ≡ Returns (Some value) memory

-- `return e;`, where e isn't a call
pub returns_value : (context : Context) (e : CExp) (x : CNumber) → (meant e).call ≡ None → Has context e x
    → Returned (in_turn (map doing (returned e)) context) (Numeric x)
returns_value context e x c p = record {
  memory = context.memory;
  is = ap (λ (o : Out). and_go o (in_turn [])) (return_does (Some e) context) ∙ rw (c, p.is) refl;
}

abbrev then_returns : Option Ended → Out
then_returns end = defined end (λ it. defined it.value (λ value. Returns (Some value) it.memory))

end_returns : (o : Option Ended) (end : Ended) (value : Value) → o ≡ Some end → end.value ≡ Some value → then_returns o ≡ Returns (Some value) end.memory
end_returns o end value e f = rw (e, f) refl

call_ends : (context : Context) (name : List ℕ) (arguments : List CExp) (values : List Value) (function : Function)
    → values_of (map meant arguments) context ≡ Some values → context.functions name ≡ Some function
    → ended (exp.Call name arguments) context ≡ function context.rights values context.memory
call_ends context name arguments values function p f = let call = ap (λ (m : Meant). m.call) (call_means name arguments) in rw (call, p, f) refl

-- `return f(..);`
pub returns_call : (context : Context) (name : List ℕ) (arguments : List CExp) (values : List Value) (function : Function) (value : Value)
    → values_of (map meant arguments) context ≡ Some values → context.functions name ≡ Some function → Answers function values value
    → Returned (in_turn (map doing (returned (exp.Call name arguments))) context) value
returns_call context name arguments values function value p f a =
    let end = comes (function context.rights values context.memory) (λ (e : Ended). e.value) value (a.is context.rights context.memory) in record {
      memory = end.value.memory;
      is = ap (λ (o : Out). and_go o (in_turn [])) (return_does (Some (exp.Call name arguments)) context
          ∙ ap then_returns (call_ends context name arguments values function p f)
          ∙ end_returns (function context.rights values context.memory) end.value value end.is end.gives);
    }

-- `const ty name = e;`, where e isn't a call
pub defines : (context : Context) (ty : CType) (to : NumberType) (name : List ℕ) (e : CExp) (x y : CNumber) → blank context.types ty ≡ Some (Scalar to None)
    → (meant e).call ≡ None → Has context e x → converted to x.number ≡ Some y → named name context.scope ≡ None
    → doing (stm.Define (variable true ty name) e) context ≡ Goes (with_name context name (Scalar to (Some y.number)) true)
defines context ty to name e x y b c p q n = define_does (variable true ty name) e context ∙ rw (b, c, p.is, q, n) refl

pub then_returned : (first : CStm) (others : List CStm) (context after : Context) (value : Value) → doing first context ≡ Goes after
    → Returned (in_turn (map doing others) after) value → Returned (in_turn (map doing (first ∷ others)) context) value
then_returned first others context after value g r = record { memory = r.memory; is = rw g r.is }

-- `if (test) { .. }`, where the statements return
pub if_returned : (test : CExp) (body others : List CStm) (context : Context) (x : CNumber) (value : Value) → Has context test x → is_true x.number ≡ true
    → Returned (in_turn (map doing body) context) value → Returned (in_turn (map doing (one_if test body ∷ others)) context) value
if_returned test body others context x value p holds r = record {
  memory = r.memory;
  is = ap (λ (o : Out). and_go o (in_turn (map doing others))) (if_does test body [] [] context) ∙ rw (p.is, holds, r.is) refl;
}

pub if_passed : (test : CExp) (body others : List CStm) (context : Context) (x : CNumber) (value : Value) → Has context test x → is_true x.number ≡ false
    → Returned (in_turn (map doing others) context) value → Returned (in_turn (map doing (one_if test body ∷ others)) context) value
if_passed test body others context x value p fails r = record {
  memory = r.memory;
  is = ap (λ (o : Out). and_go o (in_turn (map doing others))) (if_does test body [] [] context) ∙ rw (p.is, fails) r.is;
}

-- ---- functions
abbrev pub made : List ℕ → CType → List CParameter → List CStm → CFunction
made name result parameters body = record {
  comment = None;
  head = record { linkage = StaticInline; result = Some result; name = name; parameters = parameters };
  body = body;
}

-- a function's context, before parameters
abbrev pub inside : Context → Rights → Memory → Context
inside file rights memory = record file { rights = rights; memory = memory }

abbrev pub with_one : Context → List ℕ → NumberType → ℤ → Context
with_one context name ty z = with_name context name (Scalar ty (Some z)) false

module _ (file : Context) (name : List ℕ) (result : CType) (gives : NumberType) (body : List CStm) (z w : CNumber)
    (given : blank file.types result ≡ Some (Scalar gives None)) (gives_it : converted gives z.number ≡ Some w) where
  pub answers_one : (first : List ℕ) (ty : CType) (to : NumberType) (x a : CNumber) → blank file.types ty ≡ Some (Scalar to None)
      → converted to x.number ≡ Some a
      → ((rights : Rights) (memory : Memory) → Returned (in_turn (map doing body) (with_one (inside file rights memory) first to a.number)) (Numeric z))
      → Answers (function_of file (made name result (parameter first ty ∷ []) body)) (Numeric x ∷ []) (Numeric (of_type gives w.number))
  answers_one first ty to x a b p r = record { is = λ rights memory. rw (b, p, (r rights memory).is, given, gives_it) refl }

  pub answers_two : (first second : List ℕ) (ty : CType) (to : NumberType) (x y a c : CNumber) → blank file.types ty ≡ Some (Scalar to None)
      → converted to x.number ≡ Some a → converted to y.number ≡ Some c
      → ((rights : Rights) (memory : Memory)
      → Returned (in_turn (map doing body) (with_one (with_one (inside file rights memory) first to a.number) second to c.number)) (Numeric z))
      → Answers (function_of file (made name result (parameter first ty ∷ parameter second ty ∷ []) body)) (Numeric x ∷ Numeric y ∷ [])
      (Numeric (of_type gives w.number))
  answers_two first second ty to x y a c b p q r = record { is = λ rights memory. rw (b, p, b, q, (r rights memory).is, given, gives_it) refl }
