-- What follows of something that may be missing and is there.
use Rattle.std.proofs.Common.{◌≡◌, ℕ, List, Option, Some, None, refl, ap, sym, ◌∙◌, Bool, true, false}
use Rattle.hume_base.specs.declared.types.Ty.{Ty, out-Ty, roll-Ty, roll-out-Ty, Tuple, Vector}
use Rattle.hume_base.specs.declared.types.Ty.TheOpen.{Ty-F}
use Rattle.hume_base.specs.declared.types.Ty.TheVariants.{rolls-Tuple, outs-Tuple, rolls-Vector, outs-Vector}
use Rattle.check_typing.specs.Partial.{given, when}
use Rattle.check_typing.specs.inner.Walk.{tuple_layer, tuple_parts, vector_layer, vector_parts}

pub given-at : {A B : Type 0} (o : Option A) (f : A → Option B) (x : A) → o ≡ Some x → given o f ≡ f x
given-at o f x e = ap (λ o. given o f) e

pub given-inv : {A B : Type 0} (o : Option A) (f : A → Option B) (z : B) → given o f ≡ Some z → (y : A) × (o ≡ Some y) × (f y ≡ Some z)
given-inv None f z h = cc
given-inv (Some y) f z h = (y, refl, h)

pub when-inv : {A : Type 0} (b : Bool) (o : Option A) (z : A) → when b o ≡ Some z → (b ≡ true) × (o ≡ Some z)
when-inv true o z h = (refl, h)
when-inv false o z h = cc

pub when-at : {A : Type 0} (b : Bool) (o : Option A) → b ≡ true → when b o ≡ o
when-at b o e = ap (λ b. when b o) e

pub some-same : {A : Type 0} (x y : A) → Some x ≡ Some y → x ≡ y
some-same x y h = cc

pub not_some : {A : Type 0} (x : A) → None ≡ Some x → ⊥
not_some x h = cc

tuple_layer-inv : (layer : Ty-F Ty) (tys : List Ty) → tuple_layer layer ≡ Some tys → layer ≡ Ty-F.Tuple tys
tuple_layer-inv (Ty-F.Tuple us) tys h = ap Ty-F.Tuple (some-same _ _ h)
tuple_layer-inv _ tys h = cc

pub tuple_parts-inv : (ty : Ty) (tys : List Ty) → tuple_parts ty ≡ Some tys → ty ≡ Tuple tys
tuple_parts-inv ty tys h = sym (roll-out-Ty ty) ∙ ap roll-Ty (tuple_layer-inv (out-Ty ty) tys h) ∙ rolls-Tuple tys

pub tuple_parts-at : (ty : Ty) (tys : List Ty) → ty ≡ Tuple tys → tuple_parts ty ≡ Some tys
tuple_parts-at ty tys e = ap tuple_parts e ∙ ap tuple_layer (outs-Tuple tys)

vector_layer-inv : (layer : Ty-F Ty) (count : ℕ) (item : Ty) → vector_layer layer ≡ Some (count, item) → layer ≡ Ty-F.Vector count item
vector_layer-inv (Ty-F.Vector n t) count item h = let e : (n, t) ≡ (count, item) = some-same _ _ h in λ i. Ty-F.Vector ((e i).0) ((e i).1)
vector_layer-inv _ count item h = cc

pub vector_parts-inv : (ty : Ty) (count : ℕ) (item : Ty) → vector_parts ty ≡ Some (count, item) → ty ≡ Vector count item
vector_parts-inv ty count item h = sym (roll-out-Ty ty) ∙ ap roll-Ty (vector_layer-inv (out-Ty ty) count item h) ∙ rolls-Vector count item

pub vector_parts-at : (ty : Ty) (count : ℕ) (item : Ty) → ty ≡ Vector count item → vector_parts ty ≡ Some (count, item)
vector_parts-at ty count item e = ap vector_parts e ∙ ap vector_layer (outs-Vector count item)
