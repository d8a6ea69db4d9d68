-- What stands at a place, and what it comes from.
use Rattle.std.proofs.Common.{◌≡◌, ℕ, zero, suc, ◌+◌, List, [], ◌∷◌, Option, Some, None, slice_get, refl, ap, sym, subst, ◌∙◌, arith}
use Rattle.std.specs.List.{filter_map, cons_option}
use Rattle.hume_ast.specs.declared.tree.Decl.{Decl}
use Rattle.hume_ast.specs.declared.tree.Decl.TheVariants.{Fun, BoxD, Stream}
use Rattle.check_typing.specs.Partial.{given}
use Rattle.check_typing.specs.Declarations.{InPlaces}
use Rattle.check_typing.proofs.Maybe.{some-same, given-inv}
use Rattle.check_rules.specs.Declared.{Decls, FunctionDecl, function_of, in_order, Numbered, numbered_from, if_node, nodes_in}

pub from_right : {A B : Type 0} (R : A → B → Type 0) (xs : List A) (ys : List B) → InPlaces R xs ys → (n : ℕ) (y : B) → slice_get ys n ≡ Some y
    → (x : A) × (slice_get xs n ≡ Some x) × R x y
from_right R [] [] h n y e = cc
from_right R [] (z ∷ ys) h n y e = absurd h
from_right R (x ∷ xs) [] h n y e = absurd h
from_right R (x ∷ xs) (z ∷ ys) h zero y e = (x, refl, subst (R x) (some-same _ _ e) h.0)
from_right R (x ∷ xs) (z ∷ ys) h (suc n) y e = from_right R xs ys h.1 n y e

pub from_left : {A B : Type 0} (R : A → B → Type 0) (xs : List A) (ys : List B) → InPlaces R xs ys → (n : ℕ) (x : A) → slice_get xs n ≡ Some x
    → (y : B) × (slice_get ys n ≡ Some y) × R x y
from_left R [] [] h n x e = cc
from_left R [] (z ∷ ys) h n x e = absurd h
from_left R (z ∷ xs) [] h n x e = absurd h
from_left R (z ∷ xs) (y ∷ ys) h zero x e = (y, refl, subst (λ w. R w y) (some-same _ _ e) h.0)
from_left R (z ∷ xs) (y ∷ ys) h (suc n) x e = from_left R xs ys h.1 n x e

-- what is left by `filter_map` comes from something at a place
pub source : {A B : Type 0} (g : A → Option B) (xs : List A) (n : ℕ) (y : B) → slice_get (filter_map g xs) n ≡ Some y
    → (k : ℕ) × (x : A) × (slice_get xs k ≡ Some x) × (g x ≡ Some y)
source g [] n y e = cc
source {A} {B} g (x ∷ xs) n y e = by (g x) refl (λ m q. source g xs m y q) n e
  where
    Later : ℕ → Type 0
    Later n = slice_get (filter_map g xs) n ≡ Some y → (k : ℕ) × (z : A) × (slice_get xs k ≡ Some z) × (g z ≡ Some y)

    further : (k : ℕ) × (z : A) × (slice_get xs k ≡ Some z) × (g z ≡ Some y) → (k : ℕ) × (z : A) × (slice_get (x ∷ xs) k ≡ Some z) × (g z ≡ Some y)
    further r = (suc r.0, r.1, r.2, r.3)

    by : (o : Option B) → g x ≡ o → ((m : ℕ) → Later m) → (n : ℕ) → slice_get (cons_option o (filter_map g xs)) n ≡ Some y
        → (k : ℕ) × (z : A) × (slice_get (x ∷ xs) k ≡ Some z) × (g z ≡ Some y)
    by None q later n e = further (later n e)
    by (Some w) q later zero e = (0, x, refl, q ∙ e)
    by (Some w) q later (suc n) e = further (later n e)

-- a declaration that is told in its order stands among the declarations
pub declared : {A : Type 0} (of : ℕ × Decl → Option A) (order : List ℕ) (decls : Decls) (n : ℕ) (y : A) → slice_get (in_order of order decls) n ≡ Some y
    → (number : ℕ) × (d : ℕ × Decl) × (slice_get decls number ≡ Some d) × (of d ≡ Some y)
declared of order decls n y e =
    let r = source (λ number. given (slice_get decls number) of) order n y e in
    let g = given-inv (slice_get decls r.1) of y r.3 in
    (r.1, g.0, g.1, g.2)

function_here : (p : ℕ) (decl : Decl) (f : FunctionDecl) → function_of (p, decl) ≡ Some f → decl ≡ Fun f.name f.types f.equations
function_here p (Fun n tys eqs) f h = ap (λ (g : FunctionDecl). Fun g.name g.types g.equations) (some-same (record { place = p; name = n; types = tys; equations = eqs }) f h)
function_here p _ f h = cc

pub function_is : (d : ℕ × Decl) (f : FunctionDecl) → function_of d ≡ Some f → d.1 ≡ Fun f.name f.types f.equations
function_is d f h = function_here d.0 d.1 f h

pub numbered_at : (m : ℕ) (decls : Decls) (k : ℕ) (d : Numbered) → slice_get (numbered_from m decls) k ≡ Some d
    → (d.number ≡ m + k) × (slice_get decls k ≡ Some (d.place, d.decl))
numbered_at m [] k d e = cc
numbered_at m (x ∷ xs) zero d e =
    let same : record { number = m; place = x.0; decl = x.1 } ≡ d = some-same _ _ e in
    (ap (λ (d : Numbered). d.number) (sym same) ∙ omega arith, ap (λ (d : Numbered). Some (d.place, d.decl)) same)
numbered_at m (x ∷ xs) (suc k) d e = let r = numbered_at (suc m) xs k d e in (r.0 ∙ omega arith, r.1)

node_same : (d : Numbered) (decl : Decl) (e : Numbered) → if_node d decl ≡ Some e → d ≡ e
node_same d (BoxD name ins outs fair rules handlers) e h = some-same _ _ h
node_same d (Stream name from port) e h = some-same _ _ h
node_same d _ e h = cc

-- a node stands among the declarations under its number
pub node_stands : (decls : Decls) (n : ℕ) (d : Numbered) → slice_get (nodes_in decls) n ≡ Some d → slice_get decls d.number ≡ Some (d.place, d.decl)
node_stands decls n d e =
    let r = source (λ (d : Numbered). if_node d d.decl) (numbered_from 0 decls) n d e in
    let at = numbered_at 0 decls r.0 r.1 r.2 in
    let same : r.1 ≡ d = node_same r.1 r.1.decl d r.3 in
    let is : r.1.number ≡ r.0 = let e = at.0 in omega arith in
    let here : slice_get decls r.1.number ≡ Some (r.1.place, r.1.decl) = ap (slice_get decls) is ∙ at.1 in
    subst (λ (d : Numbered). slice_get decls d.number ≡ Some (d.place, d.decl)) same here
