-- A core has no more nodes, wires and exceptions than are allowed.
use Rattle.std.proofs.Common.{◌≡◌, ℕ, zero, suc, ◌+◌, ◌<◌, ◌≤◌, inl, inr, List, [], ◌∷◌, ◌++◌, length, take, Option, Some, None, slice_get, refl, ap, sym, subst, ◌∙◌, arith, Bool, ◌||◌, true, false, cond}
use Rattle.std.specs.List.{filter_map, cons_option}
use Rattle.std.proofs.lemmas.Bool.{cases_lt, le-leb}
use Rattle.std.proofs.lemmas.List.Sums.{sum_by-cons}
use Rattle.hume_base.specs.declared.limits.TheConstants.{MAX_NODES, MAX_WIRES, MAX_EXCEPTIONS, MAX_DECLARED_EXCEPTIONS}
use Rattle.hume_base.specs.declared.rule.Rule.TheVariants.{C72}
use Rattle.hume_ast.specs.declared.tree.Decl.{Decl}
use Rattle.hume_ast.specs.declared.tree.Decl.TheVariants.{Exn, BoxD, Stream, Wire}
use Rattle.hume_ast.specs.declared.tree.Program.{Program}
use Rattle.check_counts.specs.Limits.{is_node, is_wire, is_exception, how_many, tally_of, is_full_for, has_many_parts}
use Rattle.hume_model.specs.declared.core_tree.ExnDef.{ExnDef}
use Rattle.hume_model.specs.declared.core_tree.Core.{Core}
use Rattle.hume_model.specs.OwnExceptions.{own_exceptions}
use Rattle.check_typing.specs.Declarations.{InPlaces}
use Rattle.check_rules.specs.Declared.{Decls, ExceptionDecl, WireDecl, exception_of, Numbered, numbered_from, if_node, wire_of}
use Rattle.check_rules.specs.CheckRules.{IsFine, BreaksCheck, BreaksLimits}
use Rattle.check_rules.specs.SignaturesOf.{IsException}
use Rattle.check_rules.specs.CoreOf.{IsNodeOf, IsWireOf, IsCoreOf}

pub same_long : {A B : Type 0} (R : A → B → Type 0) (xs : List A) (ys : List B) → InPlaces R xs ys → length xs ≡ length ys
same_long R [] [] h = refl
same_long R [] (y ∷ ys) h = absurd h
same_long R (x ∷ xs) [] h = absurd h
same_long R (x ∷ xs) (y ∷ ys) h = ap suc (same_long R xs ys h.1)

abbrev pub one_if : Bool → ℕ
one_if true = 1
one_if false = 0

as_number : (b : Bool) → cond b 1 0 ≡ one_if b
as_number true = refl
as_number false = refl

pub one_more : (test : Decl → Bool) (d : ℕ × Decl) (decls : Decls) (b : Bool) → test d.1 ≡ b → how_many test (d ∷ decls) ≡ one_if b + how_many test decls
one_more test d decls b q = sum_by-cons (λ (d : ℕ × Decl). cond (test d.1) 1 0) d decls ∙ ap (λ n. n + how_many test decls) (as_number (test d.1) ∙ ap one_if q)

-- one of so many that the ones before it are as many as there may be
record IsOneTooMany (test : Decl → Bool) (most : ℕ) (decls : Decls) : Type 0 where
  number : ℕ
  decl : ℕ × Decl
  there : slice_get decls number ≡ Some decl
  is : test decl.1 ≡ true
  full : most ≤ how_many test (take number decls)

one_too_many : (test : Decl → Bool) (most : ℕ) (decls : Decls) → most < how_many test decls → IsOneTooMany test most decls
one_too_many test most [] h = absurd (omega arith)
one_too_many test most (d ∷ decls) h = by (test d.1) refl most h (λ m lt. one_too_many test m decls lt)
  where
    by : (b : Bool) → test d.1 ≡ b → (most : ℕ) → most < how_many test (d ∷ decls) → ((m : ℕ) → m < how_many test decls → IsOneTooMany test m decls)
        → IsOneTooMany test most (d ∷ decls)
    by true q zero lt later = record { number = 0; decl = d; there = refl; is = q; full = omega arith }
    by true q (suc m) lt later =
        let e : how_many test (d ∷ decls) ≡ 1 + how_many test decls = one_more test d decls true q in
        let r = later m (omega arith) in
        let f : how_many test (d ∷ take r.number decls) ≡ 1 + how_many test (take r.number decls) = one_more test d (take r.number decls) true q in
        let full : m ≤ how_many test (take r.number decls) = r.full in
        record { number = suc r.number; decl = r.decl; there = r.there; is = r.is; full = omega arith }
    by false q most lt later =
        let e : how_many test (d ∷ decls) ≡ 0 + how_many test decls = one_more test d decls false q in
        let r = later most (omega arith) in
        let f : how_many test (d ∷ take r.number decls) ≡ 0 + how_many test (take r.number decls) = one_more test d (take r.number decls) false q in
        let full : most ≤ how_many test (take r.number decls) = r.full in
        record { number = suc r.number; decl = r.decl; there = r.there; is = r.is; full = omega arith }

or_first : (a b : Bool) → a ≡ true → (a || b) ≡ true
or_first true b h = refl
or_first false b h = cc

-- none is one too many
pub within : (decls : Decls) → IsFine decls → (test : Decl → Bool) (most : ℕ)
    → ((before : Decls) (decl : Decl) → test decl ≡ true → most ≤ how_many test before → is_full_for (tally_of before) decl ≡ true) → how_many test decls ≤ most
within decls fine test most full = elim (cases_lt most (how_many test decls)) [
  | inl lt ↦ absurd (
      let r = one_too_many test most decls lt in
      fine (record { rule = C72; declaration = r.number }) (BreaksCheck.limits (BreaksLimits.passes_limits (
        refl,
        record {
          decl = r.decl;
          at = r.there;
          holds = or_first _ (has_many_parts r.decl.1) (full (take r.number decls) r.decl.1 r.is r.full);
        },
      ))))
  | inr le ↦ le
]

full_node : (before : Decls) (decl : Decl) → is_node decl ≡ true → MAX_NODES ≤ how_many is_node before → is_full_for (tally_of before) decl ≡ true
full_node before (BoxD name ins outs fair rules handlers) is le = le-leb _ _ le
full_node before (Stream name from port) is le = le-leb _ _ le
full_node before _ is le = cc

full_wire : (before : Decls) (decl : Decl) → is_wire decl ≡ true → MAX_WIRES ≤ how_many is_wire before → is_full_for (tally_of before) decl ≡ true
full_wire before (Wire from to depth initial) is le = le-leb _ _ le
full_wire before _ is le = cc

full_exception : (before : Decls) (decl : Decl) → is_exception decl ≡ true → MAX_DECLARED_EXCEPTIONS ≤ how_many is_exception before → is_full_for (tally_of before) decl ≡ true
full_exception before (Exn name ty) is le = le-leb _ _ le
full_exception before _ is le = cc

pub cons_long : {A : Type 0} (o : Option A) (b : Bool) (xs : List A) → (o ≡ None → b ≡ false) → ((x : A) → o ≡ Some x → b ≡ true) → length (cons_option o xs) ≡ one_if b + length xs
cons_long None b xs p q = let e : one_if b ≡ 0 = ap one_if (p refl) in omega arith
cons_long (Some x) b xs p q = let e : one_if b ≡ 1 = ap one_if (q x refl) in omega arith

node_none : (d : Numbered) (decl : Decl) → if_node d decl ≡ None → is_node decl ≡ false
node_none d (BoxD name ins outs fair rules handlers) h = cc
node_none d (Stream name from port) h = cc
node_none d _ h = refl

node_some : (d : Numbered) (decl : Decl) (e : Numbered) → if_node d decl ≡ Some e → is_node decl ≡ true
node_some d (BoxD name ins outs fair rules handlers) e h = refl
node_some d (Stream name from port) e h = refl
node_some d _ e h = cc

nodes_long : (m : ℕ) (decls : Decls) → length (filter_map (λ (d : Numbered). if_node d d.decl) (numbered_from m decls)) ≡ how_many is_node decls
nodes_long m [] = refl
nodes_long m (d ∷ decls) =
    let here : Numbered = record { number = m; place = d.0; decl = d.1 } in
    cons_long (if_node here d.1) (is_node d.1) _ (node_none here d.1) (node_some here d.1) ∙ ap (λ n. one_if (is_node d.1) + n) (nodes_long (suc m) decls)
    ∙ sym (one_more is_node d decls (is_node d.1) refl)

pub nodes_within : (text : List ℕ) (program : Program) (core : Core) → IsFine program.decls → IsCoreOf text program core → length core.nodes ≤ MAX_NODES
nodes_within text program core fine p =
    let a = same_long (λ (d : Numbered) node. IsNodeOf text p.signatures d d.decl node) _ _ p.nodes in
    let b = nodes_long 0 program.decls in
    subst (λ n. n ≤ MAX_NODES) (sym b ∙ a) (within program.decls fine is_node MAX_NODES full_node)

wire_none : (d : Numbered) (decl : Decl) → wire_of d decl ≡ None → is_wire decl ≡ false
wire_none d (Wire from to depth initial) h = cc
wire_none d _ h = refl

wire_some : (d : Numbered) (decl : Decl) (e : WireDecl) → wire_of d decl ≡ Some e → is_wire decl ≡ true
wire_some d (Wire from to depth initial) e h = refl
wire_some d _ e h = cc

wires_long : (m : ℕ) (decls : Decls) → length (filter_map (λ (d : Numbered). wire_of d d.decl) (numbered_from m decls)) ≡ how_many is_wire decls
wires_long m [] = refl
wires_long m (d ∷ decls) =
    let here : Numbered = record { number = m; place = d.0; decl = d.1 } in
    cons_long (wire_of here d.1) (is_wire d.1) _ (wire_none here d.1) (wire_some here d.1) ∙ ap (λ n. one_if (is_wire d.1) + n) (wires_long (suc m) decls)
    ∙ sym (one_more is_wire d decls (is_wire d.1) refl)

pub wires_within : (text : List ℕ) (program : Program) (core : Core) → IsFine program.decls → IsCoreOf text program core → length core.wires ≤ MAX_WIRES
wires_within text program core fine p =
    let a = same_long (IsWireOf text p.signatures core.nodes) _ _ p.wires in
    let b = wires_long 0 program.decls in
    subst (λ n. n ≤ MAX_WIRES) (sym b ∙ a) (within program.decls fine is_wire MAX_WIRES full_wire)

exception_none : (place : ℕ) (decl : Decl) → exception_of (place, decl) ≡ None → is_exception decl ≡ false
exception_none place (Exn name ty) h = cc
exception_none place _ h = refl

exception_some : (place : ℕ) (decl : Decl) (e : ExceptionDecl) → exception_of (place, decl) ≡ Some e → is_exception decl ≡ true
exception_some place (Exn name ty) e h = refl
exception_some place _ e h = cc

exceptions_long : (decls : Decls) → length (filter_map exception_of decls) ≡ how_many is_exception decls
exceptions_long [] = refl
exceptions_long (d ∷ decls) =
    cons_long (exception_of d) (is_exception d.1) _ (exception_none d.0 d.1) (exception_some d.0 d.1) ∙ ap (λ n. one_if (is_exception d.1) + n) (exceptions_long decls)
    ∙ sym (one_more is_exception d decls (is_exception d.1) refl)

pub exceptions_within : (text : List ℕ) (program : Program) (core : Core) → IsFine program.decls → IsCoreOf text program core → length core.exns ≤ MAX_EXCEPTIONS
exceptions_within text program core fine p =
    let are = p.are.exns in
    let a = same_long (IsException p.signatures.types) _ _ are.each in
    let b = exceptions_long program.decls in
    let few : length are.declared ≤ MAX_DECLARED_EXCEPTIONS =
    subst (λ n. n ≤ MAX_DECLARED_EXCEPTIONS) (sym b ∙ a) (within program.decls fine is_exception MAX_DECLARED_EXCEPTIONS full_exception) in
    let three : length (own_exceptions ++ are.declared) ≤ MAX_EXCEPTIONS = omega arith in
    subst (λ (exns : List ExnDef). length exns ≤ MAX_EXCEPTIONS) (sym (p.exns ∙ are.all)) three
