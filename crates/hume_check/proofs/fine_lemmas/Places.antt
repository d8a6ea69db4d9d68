-- Lists whose elements belong together, place by place.
use Rattle.std.proofs.Common.{◌≡◌, ℕ, suc, ◌+◌, List, [], ◌∷◌, Option, Some, None, slice_get, refl, ap, sym, subst, Bool, true, false, if◌then◌else◌, bytes_eq}
use Rattle.hume_ast.specs.declared.tree.Decl.{Decl}
use Rattle.hume_ast.specs.declared.tree.Decl.TheVariants.{BoxD, Stream}
use Rattle.check_typing.specs.Signatures.{one_further, first_named}
use Rattle.check_typing.specs.Declarations.{InPlaces}
use Rattle.check_typing.proofs.Maybe.{some-same}
use Rattle.check_rules.specs.Declared.{Decls, Numbered, numbered_from, if_node, nodes_in}
use Rattle.check_rules.proofs.Stands.{source}

-- where each has one that belongs to it all have
pub all_have : {A B : Type 0} (R : A → B → Type 0) (xs : List A) → ((n : ℕ) (x : A) → slice_get xs n ≡ Some x → (y : B) × R x y)
    → (ys : List B) × InPlaces R xs ys
all_have R [] each = ([], tt)
all_have R (x ∷ xs) each =
    let first = each 0 x refl in
    let others = all_have R xs (λ n y e. each (suc n) y e) in
    (first.0 ∷ others.0, (first.1, others.1))

-- what is first of its name on the one side has what is first of it on the other
pub first_belongs : {A B : Type 0} (R : A → B → Type 0) (name_of : A → List ℕ) (title : B → List ℕ)
    → ((x : A) (y : B) → R x y → title y ≡ name_of x) → (name : List ℕ)
    → (xs : List A) (ys : List B) → InPlaces R xs ys → (n : ℕ) (x : A) → first_named name_of name xs ≡ Some (n, x)
    → (y : B) × (first_named title name ys ≡ Some (n, y)) × R x y
first_belongs R name_of title same name [] [] h n x e = cc
first_belongs R name_of title same name [] (z ∷ ys) h n x e = absurd h
first_belongs R name_of title same name (z ∷ xs) [] h n x e = absurd h
first_belongs {A} {B} R name_of title same name (z ∷ xs) (y ∷ ys) h n x e =
    by (bytes_eq (name_of z) name) (bytes_eq (title y) name) (ap (λ t. bytes_eq t name) (sym (same z y h.0))) (first_named name_of name xs)
    (λ m w q. first_belongs R name_of title same name xs ys h.1 m w q) e
  where
    Found : Bool → ℕ → A → Type 0
    Found b n x = (w : B) × ((if b then Some (0, y) else one_further (first_named title name ys)) ≡ Some (n, w)) × R x w

    by : (a b : Bool) → a ≡ b → (o : Option (ℕ × A))
        → ((m : ℕ) (w : A) → o ≡ Some (m, w) → (v : B) × (first_named title name ys ≡ Some (m, v)) × R w v)
        → (if a then Some (0, z) else one_further o) ≡ Some (n, x) → Found b n x
    by true true q o later e =
        let both : (0, z) ≡ (n, x) = some-same _ _ e in
        subst (λ (r : ℕ × A). Found true r.0 r.1) both (y, refl, h.0)
    by true false q o later e = cc
    by false true q o later e = cc
    by false false q None later e = cc
    by false false q (Some found) later e =
        let both : (found.0 + 1, found.1) ≡ (n, x) = some-same _ _ e in
        let r = later found.0 found.1 refl in
        subst (λ (r : ℕ × A). Found false r.0 r.1) both (r.0, ap one_further r.1, r.2)

node_same : (d : Numbered) (decl : Decl) (e : Numbered) → if_node d decl ≡ Some e → d ≡ e
node_same d (BoxD name ins outs fair rules handlers) e h = some-same _ _ h
node_same d (Stream name from port) e h = some-same _ _ h
node_same d _ e h = cc

-- what stands among the nodes is one
pub is_node : (decls : Decls) (n : ℕ) (d : Numbered) → slice_get (nodes_in decls) n ≡ Some d → if_node d d.decl ≡ Some d
is_node decls n d e =
    let r = source (λ (d : Numbered). if_node d d.decl) (numbered_from 0 decls) n d e in
    subst (λ (x : Numbered). if_node x x.decl ≡ Some d) (node_same r.1 r.1.decl d r.3) r.3
