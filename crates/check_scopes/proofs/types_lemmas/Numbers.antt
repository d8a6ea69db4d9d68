-- A table stays one where a new node is added.
use Rattle.std.proofs.Common.{◌≡◌, ℕ, suc, zero, ◌+◌, ◌<◌, ◌≤◌, List, [], ◌∷◌, ◌++◌, map, length, Some, None, refl, ap, sym, subst, ◌∙◌, Bool, true, false, nat_eq, slice_get, get_or, ◌||◌, ◌⊎◌, inl, inr, if◌then◌else◌, arith}
use Rattle.std.specs.List.{list_any}
use Rattle.std.proofs.lemmas.Bool.{false≢true, eqb-true, eq-eqb, and_parts, and_from, cases_lt}
use Rattle.std.proofs.lemmas.List.{get_or_append_left, length-append}
use Rattle.std.proofs.lemmas.Option.{slice_get_cases, slice_get_within}
use Rattle.std.proofs.Math.Seq.{get_or-append_seam}
use Rattle.std.specs.Cmp.Lexicographic.{pointwise, same_text}
use Rattle.indexmap.specs.IndexSet.{insert_key}
use Rattle.hume_base.specs.declared.types.Ty.{Ty, roll-Ty, out-Ty, out-roll-Ty, Bool as BoolTy}
use Rattle.hume_base.specs.declared.types.Ty.TheOpen.{Ty-F}
use Rattle.check_scopes.specs.declared.types.node.Node.{Node}
use Rattle.check_scopes.specs.declared.types.node.Node.TheVariants as of
use Rattle.check_scopes.specs.contracts.types.node.NodePartialEq.TheImpl as node_eq
use Rattle.check_scopes.specs.types.Nodes.{type_at, ty_of, level_of, built, types_of, all_below, IsWithin, Grows, IsTable}

some-same : {A : Type 0} (x y : A) → Some x ≡ Some y → x ≡ y
some-same x y h = cc

not_some : {A : Type 0} (x : A) → None ≡ Some x → ⊥
not_some x h = cc

or_right : (a b : Bool) → (a || b) ≡ false → b ≡ false
or_right true b h = cc
or_right false b h = h

abbrev pub eq : Node → Node → Bool
eq m n = node_eq.ghosts.eq m n

abbrev IsDistinct : List Ty → Type 0
IsDistinct tys = (m n : ℕ) → m < length tys → n < length tys → type_at tys m ≡ type_at tys n → m ≡ n

-- what is added at the end
built-push : (tys : List Ty) (nodes : List Node) (node : Node) → built tys (nodes ++ node ∷ []) ≡ built tys nodes ++ ty_of (built tys nodes) node ∷ []
unfolding built
built-push tys [] node = refl
built-push tys (n ∷ nodes) node = built-push (tys ++ ty_of tys n ∷ []) nodes node

-- equal types have equal parts
parts_same : (tys : List Ty) (ms ns : List ℕ) → IsDistinct tys → all_below (length tys) ms → all_below (length tys) ns → map (type_at tys) ms ≡ map (type_at tys) ns → ms ≡ ns
parts_same tys [] [] d v w h = refl
parts_same tys [] (n ∷ ns) d v w h = cc
parts_same tys (m ∷ ms) [] d v w h = cc
parts_same tys (m ∷ ms) (n ∷ ns) d v w h =
    let first : type_at tys m ≡ type_at tys n = cc in
    let rest : map (type_at tys) ms ≡ map (type_at tys) ns = cc in
    let a : m ≡ n = d m n v.0 w.0 first in
    let b : ms ≡ ns = parts_same tys ms ns d v.1 w.1 rest in
    cc

pointwise-self : (xs : List ℕ) → pointwise nat_eq xs xs ≡ true
pointwise-self [] = refl
pointwise-self (x ∷ xs) = and_from _ _ (eq-eqb x x refl) (pointwise-self xs)

pointwise-same : (xs ys : List ℕ) → xs ≡ ys → pointwise nat_eq xs ys ≡ true
pointwise-same xs ys h = subst (λ ys. pointwise nat_eq xs ys ≡ true) h (pointwise-self xs)

level_same : (tys : List Ty) (m n : Node) → IsDistinct tys → IsWithin (length tys) m → IsWithin (length tys) n → level_of tys m ≡ level_of tys n → eq m n ≡ true
level_same tys of.Bool of.Bool d v w h = refl
level_same tys of.Char of.Char d v w h = refl
level_same tys (of.Int a) (of.Int b) d v w h = eq-eqb a b cc
level_same tys (of.Nat a) (of.Nat b) d v w h = eq-eqb a b cc
level_same tys (of.Tuple a) (of.Tuple b) d v w h = pointwise-same a.items b.items (parts_same tys a.items b.items d v w cc)
level_same tys (of.Vector a x) (of.Vector b y) d v w h =
    let same : type_at tys x ≡ type_at tys y = cc in
    and_from _ _ (eq-eqb a b cc) (eq-eqb x y (d x y v w same))
level_same tys (of.Named a) (of.Named b) d v w h = eq-eqb a b cc
level_same tys _ _ d v w h = cc

-- equal nodes stand for one type
eq_same : (tys : List Ty) (m n : Node) → eq m n ≡ true → level_of tys m ≡ level_of tys n
eq_same tys of.Bool of.Bool h = refl
eq_same tys of.Char of.Char h = refl
eq_same tys (of.Int a) (of.Int b) h = ap Ty-F.Int (eqb-true a b h)
eq_same tys (of.Nat a) (of.Nat b) h = ap Ty-F.Nat (eqb-true a b h)
eq_same tys (of.Tuple a) (of.Tuple b) h = ap (λ ns. Ty-F.Tuple (map (type_at tys) ns)) (same_text a.items b.items (sym h))
eq_same tys (of.Vector a x) (of.Vector b y) h = let p = and_parts _ _ h in λ i. Ty-F.Vector (eqb-true a b p.0 i) (type_at tys (eqb-true x y p.1 i))
eq_same tys (of.Named a) (of.Named b) h = ap Ty-F.Named (eqb-true a b h)
eq_same tys _ _ h = absurd (false≢true h)

-- what is below the length stands for the same over a longer list
type_at-old : (tys : List Ty) (t : Ty) (n : ℕ) → n < length tys → type_at (tys ++ t ∷ []) n ≡ type_at tys n
type_at-old tys t n h = get_or_append_left tys (t ∷ []) BoolTy n h

type_at-new : (tys : List Ty) (t : Ty) → type_at (tys ++ t ∷ []) (length tys) ≡ t
type_at-new tys t = get_or-append_seam tys t [] BoolTy

parts_old : (tys : List Ty) (t : Ty) (ns : List ℕ) → all_below (length tys) ns → map (type_at (tys ++ t ∷ [])) ns ≡ map (type_at tys) ns
parts_old tys t [] w = refl
parts_old tys t (n ∷ ns) w = λ i. type_at-old tys t n w.0 i ∷ parts_old tys t ns w.1 i

level_old : (tys : List Ty) (t : Ty) (m : Node) → IsWithin (length tys) m → level_of (tys ++ t ∷ []) m ≡ level_of tys m
level_old tys t (of.Tuple a) w = ap Ty-F.Tuple (parts_old tys t a.items w)
level_old tys t (of.Vector a x) w = ap (Ty-F.Vector a) (type_at-old tys t x w)
level_old tys t _ w = refl

below_more : (a b : ℕ) (ns : List ℕ) → a ≤ b → all_below a ns → all_below b ns
below_more a b [] h w = tt
below_more a b (n ∷ ns) h w = let lt = w.0 in let first : n < b = omega arith in (first, below_more a b ns h w.1)

within_more : (a b : ℕ) (m : Node) → a ≤ b → IsWithin a m → IsWithin b m
within_more a b (of.Tuple parts) h w = below_more a b parts.items h w
within_more a b (of.Vector c x) h w = omega arith
within_more a b _ h w = tt

-- the last one, or one before it
push_cases : {A : Type 0} (xs : List A) (y z : A) (n : ℕ) → slice_get (xs ++ y ∷ []) n ≡ Some z → (slice_get xs n ≡ Some z) ⊎ ((n ≡ length xs) × (y ≡ z))
push_cases [] y z zero h = inr (refl, some-same _ _ h)
push_cases [] y z (suc n) h = absurd (not_some z h)
push_cases (x ∷ xs) y z zero h = inl h
push_cases (x ∷ xs) y z (suc n) h = more (push_cases xs y z n h)
  where
    more : (slice_get xs n ≡ Some z) ⊎ ((n ≡ length xs) × (y ≡ z)) → (slice_get (x ∷ xs) (suc n) ≡ Some z) ⊎ ((suc n ≡ length (x ∷ xs)) × (y ≡ z))
    more (inl a) = inl a
    more (inr b) = inr (ap suc b.0, b.1)

-- no node before equals it
absent : (test : Node → Bool) (nodes : List Node) (n : ℕ) (m : Node) → list_any test nodes ≡ false → slice_get nodes n ≡ Some m → test m ≡ true → ⊥
absent test [] n m none at h = not_some m at
absent test (x ∷ xs) zero m none at h = let is : x ≡ m = some-same _ _ at in false≢true (sym none ∙ ap (λ b. b || list_any test xs) (ap test is ∙ h))
absent test (x ∷ xs) (suc n) m none at h = absent test xs n m (or_right (test x) (list_any test xs) none) at h

module _ (nodes : List Node) (tys : List Ty) (node : Node) (table : IsTable nodes tys) (inside : IsWithin (length tys) node) (new : list_any (eq node) nodes ≡ false) where
  abbrev more : List Ty
  more = tys ++ ty_of tys node ∷ []

  longer : length more ≡ length tys + 1
  longer = length-append tys (ty_of tys node ∷ [])

  at_least : length tys ≤ length more
  at_least = let l = longer in omega arith

  ty_old : (m : Node) → IsWithin (length tys) m → ty_of more m ≡ ty_of tys m
  ty_old m w = ap roll-Ty (level_old tys (ty_of tys node) m w)

  each : (n : ℕ) (m : Node) → (slice_get nodes n ≡ Some m) ⊎ ((n ≡ length nodes) × (node ≡ m)) → (type_at more n ≡ ty_of more m) × IsWithin (length more) m
  each n m (inl at) =
      let lt : n < length tys = subst (λ k. n < k) (sym table.long) (slice_get_within nodes n m at) in
      let w = table.within n m at in
      (type_at-old tys _ n lt ∙ table.each n m at ∙ sym (ty_old m w), within_more (length tys) (length more) m at_least w)
  each n m (inr at) = (
    ap (type_at more) (at.0 ∙ sym table.long) ∙ type_at-new tys _ ∙ sym (ty_old node inside) ∙ ap (ty_of more) at.1,
    subst (IsWithin (length more)) at.1 (within_more (length tys) (length more) node at_least inside),
  )

  -- no type before is the new one
  other : (n : ℕ) → n < length tys → type_at tys n ≡ ty_of tys node → ⊥
  other n lt h = by (slice_get_cases nodes n)
    where
      by : (slice_get nodes n ≡ slice_get nodes n) × (((x : Node) × (n < length nodes) × (slice_get nodes n ≡ Some x) × (get_or nodes n x ≡ x)) ⊎ ((length nodes ≤ n) × (slice_get nodes n ≡ None))) → ⊥
      by (p, inl q) =
          let same : ty_of tys node ≡ ty_of tys q.0 = sym h ∙ table.each n q.0 q.2 in
          let level : level_of tys node ≡ level_of tys q.0 = sym (out-roll-Ty _) ∙ ap out-Ty same ∙ out-roll-Ty _ in
          absent (eq node) nodes n q.0 new q.2 (level_same tys node q.0 table.distinct inside (table.within n q.0 q.2) level)
      by (p, inr q) = let l = table.long in let a = q.0 in let x : ⊥ = omega arith in x

  split : (n k : ℕ) → n < k + 1 → (n < k) ⊎ (n ≡ k)
  split n k h = by (cases_lt n k)
    where
      by : (n < k) ⊎ (k ≤ n) → (n < k) ⊎ (n ≡ k)
      by (inl a) = inl a
      by (inr a) = inr (omega arith)

  distinct : (m n : ℕ) → (m < length tys) ⊎ (m ≡ length tys) → (n < length tys) ⊎ (n ≡ length tys) → type_at more m ≡ type_at more n → m ≡ n
  distinct m n (inl a) (inl b) h = table.distinct m n a b (sym (type_at-old tys _ m a) ∙ h ∙ type_at-old tys _ n b)
  distinct m n (inl a) (inr b) h = absurd (other m a (sym (type_at-old tys _ m a) ∙ h ∙ ap (type_at more) b ∙ type_at-new tys _))
  distinct m n (inr a) (inl b) h = absurd (other n b (sym (type_at-old tys _ n b) ∙ sym h ∙ ap (type_at more) a ∙ type_at-new tys _))
  distinct m n (inr a) (inr b) h = a ∙ sym b

  pub added : IsTable (nodes ++ node ∷ []) more
  added = record {
    long = longer ∙ ap (λ n. n + 1) table.long ∙ sym (length-append nodes (node ∷ []));
    each = λ n m at. (each n m (push_cases nodes node m n at)).0;
    within = λ n m at. (each n m (push_cases nodes node m n at)).1;
    distinct = λ m n a b h. distinct m n (split m (length tys) (subst (λ k. m < k) longer a)) (split n (length tys) (subst (λ k. n < k) longer b)) h;
  }

  pub grown : Grows tys more
  grown = (at_least, λ n lt. type_at-old tys _ n lt)

pub types_of-push : (nodes : List Node) (node : Node) → types_of (nodes ++ node ∷ []) ≡ types_of nodes ++ ty_of (types_of nodes) node ∷ []
types_of-push nodes node = built-push [] nodes node

abbrev IsNodes : List Node → Type 0
IsNodes nodes = IsTable nodes (types_of nodes)

pub none : IsNodes []
unfolding built
none = record { long = refl; each = λ n m at. absurd (not_some m at); within = λ n m at. absurd (not_some m at); distinct = λ m n a b h. omega arith }

-- after an insertion
pub inserted : (nodes : List Node) (node : Node) → IsNodes nodes → IsWithin (length (types_of nodes)) node → IsNodes (insert_key eq nodes node) × Grows (types_of nodes) (types_of (insert_key eq nodes node))
inserted nodes node table inside = by (list_any (eq node) nodes) refl
  where
    by : (b : Bool) → list_any (eq node) nodes ≡ b → IsNodes (if b then nodes else nodes ++ node ∷ []) × Grows (types_of nodes) (types_of (if b then nodes else nodes ++ node ∷ []))
    by true e = (table, ((omega arith), λ n lt. refl))
    by false e = (
      subst (IsTable (nodes ++ node ∷ [])) (sym (types_of-push nodes node)) (added nodes (types_of nodes) node table inside e),
      subst (Grows (types_of nodes)) (sym (types_of-push nodes node)) (grown nodes (types_of nodes) node table inside e),
    )

-- a node that equals one that is there, over a list that has grown
pub found : (nodes : List Node) (old : List Ty) (node k : Node) (n : ℕ) → IsNodes nodes → IsWithin (length old) node → Grows old (types_of nodes) → slice_get nodes n ≡ Some k → eq node k ≡ true
    → type_at (types_of nodes) n ≡ ty_of old node
found nodes old node k n table inside grows at same =
    table.each n k at ∙ ap roll-Ty (sym (eq_same (types_of nodes) node k same)) ∙ ap roll-Ty (level_grown node inside)
  where
    parts_grown : (ns : List ℕ) → all_below (length old) ns → map (type_at (types_of nodes)) ns ≡ map (type_at old) ns
    parts_grown [] w = refl
    parts_grown (n ∷ ns) w = λ i. grows.1 n w.0 i ∷ parts_grown ns w.1 i

    level_grown : (m : Node) → IsWithin (length old) m → level_of (types_of nodes) m ≡ level_of old m
    level_grown (of.Tuple a) w = ap Ty-F.Tuple (parts_grown a.items w)
    level_grown (of.Vector a x) w = ap (Ty-F.Vector a) (grows.1 x w)
    level_grown _ w = refl

pub built_none : types_of [] ≡ []
unfolding built
built_none = refl
