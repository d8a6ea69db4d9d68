-- Trees of the first types of a table.
use Rattle.std.proofs.Common.{◌≡◌, ℕ, ◌+◌, ◌<◌, ◌≤◌, List, [], ◌∷◌, ◌++◌, map, take, length, get_or, Some, refl, ap, sym, subst, ◌∙◌, nat_lt, true, slice_get, ◌⊎◌, inl, inr, arith}
use Rattle.std.proofs.lemmas.Bool.{cases_lt, ltb-true}
use Rattle.std.proofs.lemmas.List.{get_or_append_left, length-append, map-append, take_more}
use Rattle.std.proofs.lemmas.Option.{slice_get_read, slice_get_within}
use Rattle.std.proofs.Math.Seq.{get_or-append_seam}
use Rattle.hume_base.specs.declared.types.Ty.{Ty, roll-Ty, Bool as BoolTy}
use Rattle.hume_base.specs.declared.types.Ty.TheOpen.{Ty-F}
use Rattle.check_scopes.proofs.types_lemmas.Held.{below_last}
use Rattle.check_scopes.specs.declared.types.node.Node.{Node}
use Rattle.check_scopes.specs.declared.types.node.Node.TheVariants as of
use Rattle.check_scopes.specs.types.Nodes.{type_at, ty_of, level_of, types_of, all_below, IsWithin, Grows, IsTable}

never : (n : ℕ) → n < 0 → ⊥
never n lt = omega arith

-- there is no tree yet
pub no_trees : (tys : List Ty) → Grows [] tys
no_trees tys = ((omega arith), λ n lt. absurd (never n lt))

module _ (trees tys : List Ty) (grows : Grows trees tys) where
  parts_alike : (ns : List ℕ) → all_below (length trees) ns → map (type_at trees) ns ≡ map (type_at tys) ns
  parts_alike [] w = refl
  parts_alike (n ∷ ns) w = λ i. sym (grows.1 n w.0) i ∷ parts_alike ns w.1 i

  level_alike : (node : Node) → IsWithin (length trees) node → level_of trees node ≡ level_of tys node
  level_alike (of.Tuple parts) w = ap Ty-F.Tuple (parts_alike parts.items w)
  level_alike (of.Vector count item) w = ap (Ty-F.Vector count) (sym (grows.1 item w))
  level_alike _ w = refl

-- the tree of the next node
pub tree_added : (nodes : List Node) (trees : List Ty) (node : Node) (tree : Ty) → IsTable nodes (types_of nodes) → Grows trees (types_of nodes)
    → slice_get nodes (length trees) ≡ Some node → tree ≡ ty_of trees node → IsWithin (length trees) node → Grows (trees ++ tree ∷ []) (types_of nodes)
tree_added nodes trees node tree table grows there is within = (longer, λ n lt. by n (cases_lt n (length trees)) lt)
  where
    tys : List Ty
    tys = types_of nodes

    inside : length trees < length tys
    inside = subst (λ k. length trees < k) (sym table.long) (slice_get_within nodes (length trees) node there)

    longer : length (trees ++ tree ∷ []) ≤ length tys
    longer = let l = length-append trees (tree ∷ []) in let i = inside in omega arith

    alike : type_at tys (length trees) ≡ tree
    alike = table.each (length trees) node there ∙ ap roll-Ty (sym (level_alike trees tys grows node within)) ∙ sym is

    by : (n : ℕ) → (n < length trees) ⊎ (length trees ≤ n) → n < length (trees ++ tree ∷ []) → type_at tys n ≡ type_at (trees ++ tree ∷ []) n
    by n (inl lt) _ = grows.1 n lt ∙ sym (get_or_append_left trees (tree ∷ []) BoolTy n lt)
    by n (inr ge) lt =
        let l = length-append trees (tree ∷ []) in
        let at : n ≡ length trees = omega arith in
        ap (type_at tys) at ∙ alike ∙ sym (ap (type_at (trees ++ tree ∷ [])) at ∙ get_or-append_seam trees tree [] BoolTy)

-- the tree of one more part
pub parts_next : (trees : List Ty) (ns : List ℕ) (i d : ℕ) (parts more : List Ty) (part : Ty) → i < length ns → parts ≡ map (type_at trees) (take i ns)
    → more ≡ parts ++ part ∷ [] → part ≡ type_at trees (get_or ns i d) → more ≡ map (type_at trees) (take (i + 1) ns)
parts_next trees ns i d parts more part lt so_far is here =
    is ∙ (λ k. so_far k ++ here k ∷ []) ∙ sym (map-append (type_at trees) (take i ns) (get_or ns i d ∷ []))
    ∙ ap (map (type_at trees)) (sym (take_more ns i d lt))

-- what reading a place tells
pub is_there : (nodes : List Node) (number : ℕ) (n : Node) → true ≡ nat_lt number (length nodes) → n ≡ get_or nodes number n
    → slice_get nodes number ≡ Some n
is_there nodes number n less is = slice_get_read nodes (length nodes) number n refl (ltb-true number (length nodes) (sym less)) is

-- one more number that is below the bound
pub below_next : (b i d : ℕ) (ns : List ℕ) → i < length ns → all_below b (take i ns) → get_or ns i d < b → all_below b (take (i + 1) ns)
below_next b i d ns lt w h = subst (all_below b) (sym (take_more ns i d lt)) (below_last b (get_or ns i d) (take i ns) w h)
