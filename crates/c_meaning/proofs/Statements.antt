-- What is read of an unset number, and what an assignment changes.
use Rattle.std.proofs.Common.{◌≡◌, ℕ, ◌==◌, Bool, true, false, List, Option, Some, None, if◌then◌else◌, refl, ap, sym, ◌∙◌, subst}
use Rattle.std.proofs.Common.{eq-eqb}
use Rattle.c_tree.specs.declared.tree.CExp.{CExp, roll-CExp, map-CExp, fold-roll-CExp, ind-CExp}
use Rattle.c_tree.specs.declared.tree.CExp.TheOpen.{CExp-F}
use Rattle.c_tree.specs.declared.tree.CStm.{CStm, fold-roll-CStm}
use Rattle.c_tree.specs.declared.tree.CStm.TheOpen.{CStm-F}
use Rattle.c_tree.specs.declared.tree.CStm.TheVariants as stm
use Rattle.c_meaning.specs.Numbers.{NumberType}
use Rattle.c_meaning.specs.Objects.{Object, Scalar, Step, at_path, lie_apart}
use Rattle.c_meaning.specs.Memories.{Place, Value, Memory, Named, Variable, Pointing, Constant, named, read_at, with_object, changed_at}
use Rattle.c_meaning.specs.Expressions.{Ended, Context, Meant, read_value, named_value, variable_place, mean_expression, meant}
use Rattle.c_meaning.specs.Statements.{Out, Goes, Undefined, Doing, defined, in_memory, unchanged, ended_as, ended, with_value}
use Rattle.c_meaning.specs.Statements.{one_place, may_copy}
use Rattle.c_meaning.specs.Statements.{assigned, assign, do_statement, doing}
use Rattle.c_meaning.proofs.Options.{some_same}
use Rattle.c_meaning.proofs.Paths.{apart_stays}
use Rattle.c_meaning.proofs.Blocks.{changed_at_is, other_blocks_stay, nothing_else_changes}

-- ---- unset numbers

-- no value of an unset number
abbrev ReadsSet : Meant → Type 0
ReadsSet m = (context : Context) (place : Place) (ty : NumberType) → m.place context ≡ Some place → read_at context.memory place ≡ Some (Scalar ty None)
    → m.value context ≡ None

unset_read : (context : Context) (o : Option Place) (place : Place) (ty : NumberType) → o ≡ Some place → read_at context.memory place ≡ Some (Scalar ty None)
    → read_value context o ≡ None
unset_read context o place ty e r = rw (e, r) refl

unset_name : (context : Context) (what : Option Named) (place : Place) (ty : NumberType) → variable_place what ≡ Some place
    → read_at context.memory place ≡ Some (Scalar ty None) → named_value context what ≡ None
unset_name context None place ty e r = cc
unset_name context (Some (Variable it)) place ty e r = unset_read context (Some it) place ty e r
unset_name context (Some (Pointing it)) place ty e r = cc
unset_name context (Some (Constant number)) place ty e r = cc

abbrev Part : Type 0
Part = (e : CExp) × ReadsSet (meant e)

abbrev of_part : Part → CExp
of_part p = p.0

abbrev layer : CExp-F Part → CExp-F CExp
layer y = map-CExp Part CExp of_part y

step_reads : (y : CExp-F Part) → ReadsSet (mean_expression (map-CExp CExp Meant meant (layer y)))
step_reads (CExp-F.Name name) context place ty e r = unset_name context (named name context.scope) place ty e r
step_reads (CExp-F.Pointed name) context place ty e r = unset_read context _ place ty e r
step_reads (CExp-F.Member p name) context place ty e r = unset_read context _ place ty e r
step_reads (CExp-F.Element p q) context place ty e r = unset_read context _ place ty e r
step_reads (CExp-F.Truth b) context place ty e r = cc
step_reads (CExp-F.Unsigned width amount) context place ty e r = cc
step_reads (CExp-F.Signed width negative amount) context place ty e r = cc
step_reads (CExp-F.Call name ps) context place ty e r = cc
step_reads (CExp-F.Cast type p) context place ty e r = cc
step_reads (CExp-F.Negate p) context place ty e r = cc
step_reads (CExp-F.Not p) context place ty e r = cc
step_reads (CExp-F.Address p) context place ty e r = cc
step_reads (CExp-F.Binary operator p q) context place ty e r = cc
step_reads (CExp-F.All ps) context place ty e r = cc
step_reads (CExp-F.Any ps) context place ty e r = cc
step_reads (CExp-F.Choice test p q) context place ty e r = cc

abbrev Reads : CExp → Type 0
Reads e = ReadsSet (meant e)

layer_reads : (y : CExp-F Part) → Reads (roll-CExp (layer y))
layer_reads y = subst ReadsSet (sym (fold-roll-CExp Meant mean_expression (layer y))) (step_reads y)

pub unset_has_none : (e : CExp) → Reads e
unset_has_none = ind-CExp Reads (λ x y is. subst (λ z. Reads (roll-CExp z)) is (layer_reads y))

-- ---- assignments

goes_same : {a b : Context} → Goes a ≡ Goes b → a ≡ b
goes_same e = cc

-- what goes on has been defined
record Defined {A : Type 0} (o : Option A) (next : A → Out) (after : Context) : Type 0 where
  value : A
  is : o ≡ Some value
  goes : next value ≡ Goes after

was_defined : {A : Type 0} (o : Option A) (next : A → Out) (after : Context) → defined o next ≡ Goes after → Defined o next after
was_defined None next after e = cc
was_defined (Some x) next after e = record { value = x; is = refl; goes = e }

was_tested : (test : Bool) (x : Out) (after : Context) → (if test then x else Undefined) ≡ Goes after → x ≡ Goes after
was_tested true x after e = e
was_tested false x after e = cc

same_memory : (context : Context) (value : Option Value) (end : Ended) → unchanged context value ≡ Some end → end.memory ≡ context.memory
same_memory context None end e = cc
same_memory context (Some v) end e = ap (λ (it : Ended). it.memory) (sym (some_same e))

-- what an assignment without a call changes in memory
pub record Assigns (context : Context) (place : Place) (after : Context) : Type 0 where
  pub change : Object → Option Object
  pub memory : Memory
  pub changes : changed_at context.rights context.memory place change ≡ Some memory
  pub is : in_memory context memory ≡ after

assigned_is : (context : Context) (place : Place) (end : Ended) (after : Context) → end.memory ≡ context.memory → assigned context place end ≡ Goes after
    → Assigns context place after
assigned_is context place end after same e =
    let v = was_defined end.value (λ value. defined (changed_at context.rights end.memory place (with_value value)) (λ memory. Goes
    (in_memory context memory))) after e in
    let m = was_defined (changed_at context.rights end.memory place (with_value v.value)) (λ memory. Goes (in_memory context memory)) after v.goes in
    record {
      change = with_value v.value;
      memory = m.value;
      changes = subst (λ (it : Memory). changed_at context.rights it place (with_value v.value) ≡ Some m.value) same m.is;
      is = goes_same m.goes;
    }

assign_is : (object exp : CExp) (context after : Context) (place : Place) → (meant object).place context ≡ Some place → (meant exp).call ≡ None
    → assign object exp context ≡ Goes after → Assigns context place after
assign_is object exp context after place p c e =
    let there = was_defined ((meant object).place context) _ after e in
    let end = was_defined (ended exp context) _ after there.goes in
    let same : there.value ≡ place = some_same (sym there.is ∙ p) in
    let memory = same_memory context ((meant exp).value context) end.value
    (subst (λ (call : Option (List ℕ × (Context → Option (List Value)))). ended_as context call ((meant exp).value context) ≡ Some end.value) c end.is) in
    let first = was_tested (one_place there.value ((meant object).place (in_memory context end.value.memory))) _ after end.goes in
    let second = was_tested (may_copy context.memory there.value ((meant exp).place context)) _ after first in
    subst (λ (it : Place). Assigns context it after) same (assigned_is context there.value end.value after memory second)

pub assignment : (object exp : CExp) (context after : Context) (place : Place) → (meant object).place context ≡ Some place → (meant exp).call ≡ None
    → doing (stm.Assign object exp) context ≡ Goes after → Assigns context place after
assignment object exp context after place p c e =
    let form : doing (stm.Assign object exp) context ≡ assign object exp context
    = ap (λ (s : CStm). doing s context) (sym (stm.rolls-Assign object exp))
    ∙ ap (λ (d : Doing). d context) (fold-roll-CStm Doing do_statement (CStm-F.Assign object exp)) in
    assign_is object exp context after place p c (sym form ∙ e)

pub others_keep : (object exp : CExp) (context after : Context) (place : Place) (n : ℕ) → (meant object).place context ≡ Some place → (meant exp).call ≡ None
    → doing (stm.Assign object exp) context ≡ Goes after → (n == place.block) ≡ false → after.memory.objects n ≡ context.memory.objects n
others_keep object exp context after place n p c e other =
    let it = assignment object exp context after place p c e in
    sym (ap (λ (a : Context). a.memory.objects n) it.is) ∙ other_blocks_stay context.rights context.memory place it.change it.memory n it.changes other

pub apart_keeps : (object exp : CExp) (context after : Context) (place : Place) (other : List Step) (found : Object) → (meant object).place context ≡ Some place
    → (meant exp).call ≡ None → doing (stm.Assign object exp) context ≡ Goes after → lie_apart place.path other (context.memory.objects place.block) ≡ true
    → at_path other (context.memory.objects place.block) ≡ Some found → at_path other (after.memory.objects place.block) ≡ Some found
apart_keeps object exp context after place other found p c e apart reads =
    let it = assignment object exp context after place p c e in
    let at = changed_at_is context.rights context.memory place it.change it.memory it.changes in
    let there : (with_object context.memory place.block at.new).objects place.block ≡ at.new = same_block at.new in
    let new : after.memory.objects place.block ≡ at.new
    = sym (ap (λ (a : Context). a.memory.objects place.block) it.is) ∙ (sym (ap (λ (m : Memory). m.objects place.block) at.is) ∙ there) in
    subst (λ (o : Object). at_path other o ≡ Some found) (sym new)
    (apart_stays place.path other it.change (context.memory.objects place.block) at.new found at.makes apart reads)
  where
    same_block : (new : Object) → (if place.block == place.block then new else context.memory.objects place.block) ≡ new
    same_block new = rw (eq-eqb place.block place.block refl) refl

pub scope_keeps : (object exp : CExp) (context after : Context) (place : Place) → (meant object).place context ≡ Some place → (meant exp).call ≡ None
    → doing (stm.Assign object exp) context ≡ Goes after
    → (after.scope ≡ context.scope) × (after.memory.count ≡ context.memory.count) × (after.memory.world ≡ context.memory.world)
scope_keeps object exp context after place p c e =
    let it = assignment object exp context after place p c e in
    let rest = nothing_else_changes context.rights context.memory place it.change it.memory it.changes in (
      sym (ap (λ (a : Context). a.scope) it.is),
      sym (ap (λ (a : Context). a.memory.count) it.is) ∙ rest.0,
      sym (ap (λ (a : Context). a.memory.world) it.is) ∙ rest.1,
    )
