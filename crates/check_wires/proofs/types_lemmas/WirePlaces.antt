-- A wire among the wires is a declaration among the declarations, with as many wires before it.
use Rattle.std.proofs.Common.{◌≡◌, ℕ, zero, suc, ◌+◌, List, [], ◌∷◌, Some, slice_get, take, refl, ap, subst, ◌∙◌, arith}
use Rattle.std.specs.List.{filter_map, cons_option}
use Rattle.hume_ast.specs.declared.tree.Decl.{Decl}
use Rattle.hume_ast.specs.declared.tree.Decl.TheVariants.{Wire}
use Rattle.check_typing.proofs.Maybe.{some-same}
use Rattle.check_rules.specs.Declared.{Decls, Numbered, numbered_from, WireDecl, wire_of}

-- the wires of declarations, the first of which has number n
abbrev pub wires_from : ℕ → Decls → List WireDecl
wires_from n decls = filter_map (λ (d : Numbered). wire_of d d.decl) (numbered_from n decls)

abbrev pub declaration_of : WireDecl → ℕ × Decl
declaration_of w = (w.place, Wire w.from w.to w.depth w.initial)

pub record Stands (n : ℕ) (decls : Decls) (at : ℕ) (w : WireDecl) : Type 0 where
  pub number : ℕ
  pub is : w.number ≡ n + number
  pub there : slice_get decls number ≡ Some (declaration_of w)
  pub before : take at (wires_from n decls) ≡ wires_from n (take number decls)

pub stands : (n : ℕ) (decls : Decls) (at : ℕ) (w : WireDecl) → slice_get (wires_from n decls) at ≡ Some w → Stands n decls at w
stands n [] at w e = cc
stands n (d ∷ decls) at w e = by d.1 at (λ k q. stands (suc n) decls k w q) e
  where
    one : Decl → Numbered
    one decl = record { number = n; place = d.0; decl = decl }

    by : (decl : Decl) (at : ℕ) → ((k : ℕ) → slice_get (wires_from (suc n) decls) k ≡ Some w → Stands (suc n) decls k w)
        → slice_get (cons_option (wire_of (one decl) decl) (wires_from (suc n) decls)) at ≡ Some w → Stands n ((d.0, decl) ∷ decls) at w
    by (Wire source target count value) zero rest e =
        subst (λ w. Stands n ((d.0, Wire source target count value) ∷ decls) 0 w) (some-same _ _ e)
        (record { number = 0; is = let e : n ≡ n + 0 = omega arith in e; there = refl; before = refl })
    by (Wire source target count value) (suc at) rest e =
        let r = rest at e in
        let first : WireDecl = record { number = n; place = d.0; from = source; to = target; depth = count; initial = value } in
        record { number = suc r.number; is = let e = r.is in omega arith; there = r.there; before = ap (λ l. first ∷ l) r.before }
    by _ at rest e =
        let r = rest at e in
        record { number = suc r.number; is = let e = r.is in omega arith; there = r.there; before = r.before }

pub record IsAmong (n : ℕ) (decls : Decls) (number : ℕ) (w : WireDecl) : Type 0 where
  pub at : ℕ
  pub there : slice_get (wires_from n decls) at ≡ Some w
  pub before : take at (wires_from n decls) ≡ wires_from n (take number decls)

pub among : (n : ℕ) (decls : Decls) (number : ℕ) (w : WireDecl) → w.number ≡ n + number → slice_get decls number ≡ Some (declaration_of w) → IsAmong n decls number w
among n [] number w is e = cc
among n (d ∷ decls) zero w is e =
    let same : d ≡ declaration_of w = some-same _ _ e in
    let first : n ≡ w.number = let e = is in omega arith in
    let wires : wires_from n (d ∷ decls) ≡ w ∷ wires_from (suc n) decls =
    ap (λ (d : ℕ × Decl). wires_from n (d ∷ decls)) same
    ∙ ap (λ k. record { number = k; place = w.place; from = w.from; to = w.to; depth = w.depth; initial = w.initial } ∷ wires_from (suc n) decls) first in
    record { at = 0; there = ap (λ ws. slice_get ws 0) wires; before = refl }
among n (d ∷ decls) (suc number) w is e = by d.1 (among (suc n) decls number w (let e = is in omega arith) e)
  where
    by : (decl : Decl) → IsAmong (suc n) decls number w → IsAmong n ((d.0, decl) ∷ decls) (suc number) w
    by (Wire source target count value) r =
        let first : WireDecl = record { number = n; place = d.0; from = source; to = target; depth = count; initial = value } in
        record { at = suc r.at; there = r.there; before = ap (λ l. first ∷ l) r.before }
    by _ r = record { at = r.at; there = r.there; before = r.before }
