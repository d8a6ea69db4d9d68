-- The one wire of a stream, and its type.
use Rattle.std.proofs.Common.{◌≡◌, ℕ, zero, suc, ◌≤◌, ◌==◌, ◌||◌, ◌&&◌, Bool, true, false, cond, List, [], ◌∷◌, Option, Some, None, slice_get, refl, ap, ◌∙◌, sym, subst, inl, inr, ◌⊎◌, arith}
use Rattle.std.specs.List.{find}
use Rattle.std.proofs.lemmas.Bool.{eqb-true, eq-eqb}
use Rattle.std.proofs.Math.Bool.{or-true}
use Rattle.hume_base.specs.declared.limits.TheConstants.{MAX_TYPE_WORDS}
use Rattle.hume_base.specs.Sizes.{size_of}
use Rattle.hume_model.specs.declared.core_tree.NodeC.{NodeC}
use Rattle.hume_model.specs.declared.core_tree.NodeC.TheVariants.{Rules, From, To}
use Rattle.hume_model.specs.declared.core_tree.WireC.{WireC}
use Rattle.hume_model.specs.declared.core_tree.Core.{Core}
use Rattle.hume_model.specs.Wiring.{inputs_of, outputs_of, leads_to, comes_from}
use Rattle.hume_net.specs.Nodes.{IsInput, IsOutput, IsInputStream, IsOutputStream}
use Rattle.hume_text.specs.Bounds.{IsPrintable}
use Rattle.phase_workers.specs.Runnable.{IsRunnable}
use Rattle.phase_workers.specs.StreamTypes.{joins, type_at, type_of_found}

-- the first that passes is there and passes
pub record Found {X : Type 0} (test : X → Bool) (xs : List X) : Type 0 where
  pub item : X
  pub place : ℕ
  pub found : find test xs ≡ Some item
  pub there : slice_get xs place ≡ Some item
  pub passes : test item ≡ true

head_or_later : {X : Type 0} (test : X → Bool) (y : X) (ys : List X) (w : ℕ) (x : X) → slice_get (y ∷ ys) w ≡ Some x → test x ≡ true
    → ((v : ℕ) → slice_get ys v ≡ Some x → Found test ys) → (b : Bool) → test y ≡ b → Found test (y ∷ ys)
head_or_later test y ys w x there passes more true e =
    record { item = y; place = 0; found = ap (λ b. cond b (Some y) (find test ys)) e; there = refl; passes = e }
head_or_later test y ys zero x there passes more false e =
    absurd (let same : y ≡ x = cc in let clash : true ≡ false = sym passes ∙ ap test (sym same) ∙ e in cc)
head_or_later test y ys (suc w) x there passes more false e =
    let later = more w there in
    record { item = later.item; place = suc later.place; found = ap (λ b. cond b (Some y) (find test ys)) e ∙ later.found; there = later.there; passes = later.passes }

pub find_some : {X : Type 0} (test : X → Bool) (xs : List X) (w : ℕ) (x : X) → slice_get xs w ≡ Some x → test x ≡ true → Found test xs
find_some test [] w x there passes = cc
find_some test (y ∷ ys) w x there passes = head_or_later test y ys w x there passes (λ v e. find_some test ys v x e passes) (test y) refl

joins_from : (n : ℕ) (wire : WireC) → wire.from ≡ n → joins n wire ≡ true
joins_from n wire e = rw (eq-eqb wire.from n e) refl

joins_to : (n : ℕ) (wire : WireC) → wire.to ≡ n → joins n wire ≡ true
joins_to n wire e = rw (eq-eqb wire.to n e) (or-true (wire.from == n))

-- which end it is that a wire has at a node
either_end : (n : ℕ) (wire : WireC) → joins n wire ≡ true → (wire.from ≡ n) ⊎ (wire.to ≡ n)
either_end n wire e = by_from (wire.from == n) refl
  where
    by_from : (b : Bool) → (wire.from == n) ≡ b → (wire.from ≡ n) ⊎ (wire.to ≡ n)
    by_from true f = inl (eqb-true wire.from n f)
    by_from false f = inr (eqb-true wire.to n (let g : (wire.from == n || wire.to == n) ≡ true = e in rw f at g))

comes : (n output : ℕ) (wire : WireC) → wire.from ≡ n → wire.from_port ≡ output → comes_from n output wire ≡ true
comes n output wire e p = rw (eq-eqb wire.from n e, eq-eqb wire.from_port output p) refl

leads : (n input : ℕ) (wire : WireC) → wire.to ≡ n → wire.to_port ≡ input → leads_to n input wire ≡ true
leads n input wire e p = rw (eq-eqb wire.to n e, eq-eqb wire.to_port input p) refl

first_holds : (a b : Bool) → (a && b) ≡ true → a ≡ true
first_holds true b e = refl
first_holds false b e = e

comes_at : (n output : ℕ) (wire : WireC) → comes_from n output wire ≡ true → wire.from ≡ n
comes_at n output wire e = eqb-true wire.from n (first_holds (wire.from == n) (wire.from_port == output) e)

leads_at : (n input : ℕ) (wire : WireC) → leads_to n input wire ≡ true → wire.to ≡ n
leads_at n input wire e = eqb-true wire.to n (first_holds (wire.to == n) (wire.to_port == input) e)

-- a stream's node
input_node : (found : Option NodeC) → IsInput found → (node : NodeC) × (found ≡ Some node) × (inputs_of node ≡ 0) × (outputs_of node ≡ 1)
input_node None is = absurd is
input_node (Some (Rules b)) is = absurd is
input_node (Some (From stream)) is = (From stream, refl, refl, refl)
input_node (Some (To stream)) is = absurd is

output_node : (found : Option NodeC) → IsOutput found → (node : NodeC) × (found ≡ Some node) × (inputs_of node ≡ 1) × (outputs_of node ≡ 0)
output_node None is = absurd is
output_node (Some (Rules b)) is = absurd is
output_node (Some (From stream)) is = absurd is
output_node (Some (To stream)) is = (To stream, refl, refl, refl)

-- all wires that join a node are this one
pub record HasOneWire (core : Core) (n : ℕ) : Type 0 where
  pub place : ℕ
  pub wire : WireC
  pub there : slice_get core.wires place ≡ Some wire
  pub joined : joins n wire ≡ true
  pub alone : (x : ℕ) (other : WireC) → slice_get core.wires x ≡ Some other → joins n other ≡ true → other ≡ wire

same_some : {X : Type 0} (x y : X) → ◌≡◌ {A = Option X} (Some x) (Some y) → x ≡ y
same_some x y e = cc

input_wire : (core : Core) → IsRunnable core → (n : ℕ) → IsInputStream core n → HasOneWire core n
input_wire core r n is =
    let node = input_node (slice_get core.nodes n) is in
    let the = r.wired.outputs n 0 node.0 node.1 (omega (arith, node.3)) in
    let from : the.1.wire.from ≡ n = comes_at n 0 the.1.wire the.1.passes in record {
      place = the.0;
      wire = the.1.wire;
      there = the.1.there;
      joined = joins_from n the.1.wire from;
      alone = λ x other there joined.
          let ends = r.formed.frame.wires x other there in
          elim (either_end n other joined) [
            | inl e ↦ (
                let producer : ends.producer ≡ node.0 = same_some _ _ (sym ends.from ∙ ap (slice_get core.nodes) e ∙ node.1) in
                let few : outputs_of ends.producer ≡ 1 = ap outputs_of producer ∙ node.3 in
                let port : other.from_port ≡ 0 = omega (arith, ends.from_port, few) in
                let here : x ≡ the.0 = the.1.alone x other there (comes n 0 other e port) in
                same_some _ _ (sym there ∙ ap (slice_get core.wires) here ∙ the.1.there))
            | inr e ↦ (
                let consumer : ends.consumer ≡ node.0 = same_some _ _ (sym ends.to ∙ ap (slice_get core.nodes) e ∙ node.1) in
                let none : inputs_of ends.consumer ≡ 0 = ap inputs_of consumer ∙ node.2 in
                absurd (omega (arith, ends.to_port, none)))
          ];
    }

output_wire : (core : Core) → IsRunnable core → (n : ℕ) → IsOutputStream core n → HasOneWire core n
output_wire core r n is =
    let node = output_node (slice_get core.nodes n) is in
    let the = r.wired.inputs n 0 node.0 node.1 (omega (arith, node.2)) in
    let to : the.1.wire.to ≡ n = leads_at n 0 the.1.wire the.1.passes in record {
      place = the.0;
      wire = the.1.wire;
      there = the.1.there;
      joined = joins_to n the.1.wire to;
      alone = λ x other there joined.
          let ends = r.formed.frame.wires x other there in
          elim (either_end n other joined) [
            | inl e ↦ (
                let producer : ends.producer ≡ node.0 = same_some _ _ (sym ends.from ∙ ap (slice_get core.nodes) e ∙ node.1) in
                let none : outputs_of ends.producer ≡ 0 = ap outputs_of producer ∙ node.3 in
                absurd (omega (arith, ends.from_port, none)))
            | inr e ↦ (
                let consumer : ends.consumer ≡ node.0 = same_some _ _ (sym ends.to ∙ ap (slice_get core.nodes) e ∙ node.1) in
                let few : inputs_of ends.consumer ≡ 1 = ap inputs_of consumer ∙ node.2 in
                let port : other.to_port ≡ 0 = omega (arith, ends.to_port, few) in
                let here : x ≡ the.0 = the.1.alone x other there (leads n 0 other e port) in
                same_some _ _ (sym there ∙ ap (slice_get core.wires) here ∙ the.1.there))
          ];
    }

pub stream_wire : (core : Core) → IsRunnable core → (n : ℕ) → IsInputStream core n ⊎ IsOutputStream core n → HasOneWire core n
stream_wire core r n (inl is) = input_wire core r n is
stream_wire core r n (inr is) = output_wire core r n is

-- the first wire that joins it is that one
pub first_wire : (core : Core) (n : ℕ) → (one : HasOneWire core n) → find (joins n) core.wires ≡ Some one.wire
first_wire core n one =
    let f = find_some (joins n) core.wires one.place one.wire one.there one.joined in
    f.found ∙ ap Some (one.alone f.place f.item f.there f.passes)

pub type_of_wire : (core : Core) (n : ℕ) → (one : HasOneWire core n) → type_at core n ≡ one.wire.ty
type_of_wire core n one = ap type_of_found (first_wire core n one)

pub input_type : (core : Core) → IsRunnable core → (n w : ℕ) (wire : WireC) → slice_get core.wires w ≡ Some wire
    → IsInputStream core n → wire.from ≡ n → type_at core n ≡ wire.ty
input_type core r n w wire there is from =
    let one = input_wire core r n is in
    type_of_wire core n one ∙ ap (λ (x : WireC). x.ty) (sym (one.alone w wire there (joins_from n wire from)))

pub output_type : (core : Core) → IsRunnable core → (n w : ℕ) (wire : WireC) → slice_get core.wires w ≡ Some wire
    → IsOutputStream core n → wire.to ≡ n → type_at core n ≡ wire.ty
output_type core r n w wire there is to =
    let one = output_wire core r n is in
    type_of_wire core n one ∙ ap (λ (x : WireC). x.ty) (sym (one.alone w wire there (joins_to n wire to)))

pub printable_type : (core : Core) → IsRunnable core → (n : ℕ) → IsInputStream core n ⊎ IsOutputStream core n → IsPrintable core.types (type_at core n)
printable_type core r n is =
    let one = stream_wire core r n is in
    subst (λ ty. IsPrintable core.types ty) (sym (type_of_wire core n one)) (r.printable one.place one.wire one.there)

pub small_type : (core : Core) → IsRunnable core → (n : ℕ) → IsInputStream core n ⊎ IsOutputStream core n → size_of core.types (type_at core n) ≤ MAX_TYPE_WORDS
small_type core r n is =
    let one = stream_wire core r n is in
    subst (λ ty. size_of core.types ty ≤ MAX_TYPE_WORDS) (sym (type_of_wire core n one)) (r.formed.frame.wires one.place one.wire one.there).written.words
