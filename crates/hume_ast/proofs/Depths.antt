-- An expression fits exactly the depths that are not less than its own.
use Rattle.std.proofs.Common.{◌≡◌, ℕ, zero, suc, ◌≤◌, List, [], ◌∷◌, map, sym, ap, ◌∙◌, arith}
use Rattle.std.specs.Prelude.{Some, None}
use Rattle.hume_ast.specs.declared.tree.TyExp.{TyExp}
use Rattle.hume_ast.specs.declared.tree.Pat.{Pat}
use Rattle.hume_ast.specs.declared.tree.Exp.{Exp, out-Exp, map-Exp, fold-roll-Exp, roll-out-Exp}
use Rattle.hume_ast.specs.declared.tree.Exp.TheOpen.{Exp-F}
use Rattle.hume_ast.specs.Fits.{Each, TypeFits, PatFits, ExpFits, ExpParts}
use Rattle.hume_ast.specs.Depth.{deepest_alternative, deepest_part, depth_step, exp_depth, ty_depth, pat_depth, beside_depth, inner_step, inner_depth, greatest}
use Rattle.hume_ast.proofs.Deepest.{each_deep, each_moved}
use Rattle.hume_ast.proofs.SmallDepths.{type_fits_depth, type_refit, pat_fits_depth, pat_refit}

pub depth_out : (e : Exp) → exp_depth e ≡ depth_step (map-Exp Exp ℕ exp_depth (out-Exp e))
depth_out e = ap exp_depth (sym (roll-out-Exp e)) ∙ fold-roll-Exp ℕ depth_step (out-Exp e)

inner_out : (e : Exp) → inner_depth e ≡ inner_step (map-Exp Exp ℕ inner_depth (out-Exp e))
inner_out e = ap inner_depth (sym (roll-out-Exp e)) ∙ fold-roll-Exp ℕ inner_step (out-Exp e)

module _ (Ty : TyExp → Type 0) (Pattern : Pat → Type 0) (P : ℕ → Exp → Type 0) (depth : Exp → ℕ) (m : ℕ) (deep : (l : ℕ) (e : Exp) → P l e → depth e ≤ m) where
  abbrev AlternativeFits : Pat × Exp → Type 0
  AlternativeFits alternative = Pattern alternative.0 × P 1 alternative.1

  alternatives_deep : (alternatives : List (Pat × Exp)) → Each AlternativeFits alternatives
      → deepest_alternative (map (λ (alternative : Pat × Exp). (alternative.0, depth alternative.1)) alternatives) ≤ m
  alternatives_deep [] f = omega arith
  alternatives_deep (a ∷ alternatives) f = omega (arith, deep 1 a.1 f.0.1, alternatives_deep alternatives f.1)

  exps_deep : (l : ℕ) (es : List Exp) → Each (P l) es → greatest depth es ≤ m
  exps_deep l = each_deep (P l) depth m (deep l)

  parts_deep : (x : Exp-F Exp) → ExpParts Ty Pattern P x → deepest_part (map-Exp Exp ℕ depth x) ≤ m
  parts_deep (Exp-F.Let name value body) f = omega (arith, deep 1 value f.0, deep 1 body f.1)
  parts_deep (Exp-F.If test first second) f = omega (arith, deep 1 test f.0, deep 1 first f.1, deep 1 second f.2)
  parts_deep (Exp-F.Case subject alternatives) f = omega (arith, deep 1 subject f.0, alternatives_deep alternatives f.2)
  parts_deep (Exp-F.Raise name None) f = omega arith
  parts_deep (Exp-F.Raise name (Some value)) f = omega (arith, deep 10 value f)
  parts_deep (Exp-F.Binary operator left right) f = omega (arith, deep _ left f.0, deep _ right f.1)
  parts_deep (Exp-F.Neg part) f = omega (arith, deep 7 part f.0)
  parts_deep (Exp-F.Not part) f = omega (arith, deep 7 part f)
  parts_deep (Exp-F.App name arguments) f = omega (arith, exps_deep 10 arguments f)
  parts_deep (Exp-F.Con name arguments) f = omega (arith, exps_deep 10 arguments f)
  parts_deep (Exp-F.Update vector at item) f = omega (arith, deep 10 vector f.0, deep 10 at f.1, deep 10 item f.2)
  parts_deep (Exp-F.Num negative amount) f = omega arith
  parts_deep (Exp-F.Letter byte) f = omega arith
  parts_deep (Exp-F.Truth holds) f = omega arith
  parts_deep (Exp-F.Paren inner) f = omega (arith, deep 1 inner f)
  parts_deep (Exp-F.Tuple parts) f = omega (arith, exps_deep 1 parts f.1)
  parts_deep (Exp-F.Cast inner type) f = omega (arith, deep 1 inner f.0)
  parts_deep (Exp-F.Vect items) f = omega (arith, exps_deep 1 items f.1)
  parts_deep Exp-F.Star f = omega arith

pub fits_depth : (bound room level : ℕ) (e : Exp) → ExpFits bound room level e → exp_depth e ≤ room
fits_depth bound zero level e f = absurd f
fits_depth bound (suc room) level e f = omega (arith, depth_out e, parts_deep (TypeFits bound) (PatFits bound 1) (ExpFits bound room) exp_depth room (fits_depth bound room) (out-Exp e) f.1)

module _ (Ty : TyExp → Type 0) (Pattern : Pat → Type 0) (P : ℕ → Exp → Type 0) (depth : Exp → ℕ) (n : ℕ) (types : (t : TyExp) → Ty t → ty_depth t ≤ n) (patterns : (p : Pat) → Pattern p → pat_depth p ≤ n) where
  patterns_deep : (alternatives : List (Pat × Exp)) → Each (λ (alternative : Pat × Exp). Pattern alternative.0 × P 1 alternative.1) alternatives
      → greatest (λ (alternative : Pat × ℕ). pat_depth alternative.0) (map (λ (alternative : Pat × Exp). (alternative.0, depth alternative.1)) alternatives) ≤ n
  patterns_deep [] f = omega arith
  patterns_deep (a ∷ alternatives) f = omega (arith, patterns a.0 f.0.0, patterns_deep alternatives f.1)

  beside_deep : (x : Exp-F Exp) → ExpParts Ty Pattern P x → beside_depth (map-Exp Exp ℕ depth x) ≤ n
  beside_deep (Exp-F.Case subject alternatives) f = patterns_deep alternatives f.2
  beside_deep (Exp-F.Cast inner type) f = types type f.1
  beside_deep _ f = omega arith

-- the types and patterns in what fits a bound are within it
pub inner_deep : (bound room level : ℕ) (e : Exp) → ExpFits bound room level e → inner_depth e ≤ bound
inner_deep bound zero level e f = absurd f
inner_deep bound (suc room) level e f =
    let own = beside_deep (TypeFits bound) (PatFits bound 1) (ExpFits bound room) inner_depth bound (type_fits_depth bound) (pat_fits_depth bound 1) (out-Exp e) f.1 in
    let parts = parts_deep (TypeFits bound) (PatFits bound 1) (ExpFits bound room) inner_depth bound (inner_deep bound room) (out-Exp e) f.1 in
    omega (arith, inner_out e)

module _ (Ty Ty2 : TyExp → Type 0) (Pattern Pattern2 : Pat → Type 0) (P Q : ℕ → Exp → Type 0) (depth : Exp → ℕ) (m n : ℕ)
    (types : (t : TyExp) → ty_depth t ≤ n → Ty t → Ty2 t) (patterns : (p : Pat) → pat_depth p ≤ n → Pattern p → Pattern2 p) (moved : (l : ℕ) (e : Exp) → depth e ≤ m → P l e → Q l e) where
  exps_moved : (l : ℕ) (es : List Exp) → greatest depth es ≤ m → Each (P l) es → Each (Q l) es
  exps_moved l = each_moved (P l) (Q l) depth m (moved l)

  abbrev measured : List (Pat × Exp) → List (Pat × ℕ)
  measured alternatives = map (λ (alternative : Pat × Exp). (alternative.0, depth alternative.1)) alternatives

  alternatives_moved : (alternatives : List (Pat × Exp)) → greatest (λ (alternative : Pat × ℕ). pat_depth alternative.0) (measured alternatives) ≤ n
      → deepest_alternative (measured alternatives) ≤ m
      → Each (λ (alternative : Pat × Exp). Pattern alternative.0 × P 1 alternative.1) alternatives → Each (λ (alternative : Pat × Exp). Pattern2 alternative.0 × Q 1 alternative.1) alternatives
  alternatives_moved [] own d f = tt
  alternatives_moved (a ∷ alternatives) own d f = ((patterns a.0 (omega arith) f.0.0, moved 1 a.1 (omega arith) f.0.1), alternatives_moved alternatives (omega arith) (omega arith) f.1)

  parts_moved : (x : Exp-F Exp) → beside_depth (map-Exp Exp ℕ depth x) ≤ n → deepest_part (map-Exp Exp ℕ depth x) ≤ m → ExpParts Ty Pattern P x → ExpParts Ty2 Pattern2 Q x
  parts_moved (Exp-F.Let name value body) own d f = (moved 1 value (omega arith) f.0, moved 1 body (omega arith) f.1)
  parts_moved (Exp-F.If test first second) own d f = (moved 1 test (omega arith) f.0, moved 1 first (omega arith) f.1, moved 1 second (omega arith) f.2)
  parts_moved (Exp-F.Case subject alternatives) own d f = (moved 1 subject (omega arith) f.0, f.1, alternatives_moved alternatives own (omega arith) f.2)
  parts_moved (Exp-F.Raise name None) own d f = tt
  parts_moved (Exp-F.Raise name (Some value)) own d f = moved 10 value (omega arith) f
  parts_moved (Exp-F.Binary operator left right) own d f = (moved _ left (omega arith) f.0, moved _ right (omega arith) f.1)
  parts_moved (Exp-F.Neg part) own d f = (moved 7 part (omega arith) f.0, f.1)
  parts_moved (Exp-F.Not part) own d f = moved 7 part (omega arith) f
  parts_moved (Exp-F.App name arguments) own d f = exps_moved 10 arguments (omega arith) f
  parts_moved (Exp-F.Con name arguments) own d f = exps_moved 10 arguments (omega arith) f
  parts_moved (Exp-F.Update vector at item) own d f = (moved 10 vector (omega arith) f.0, moved 10 at (omega arith) f.1, moved 10 item (omega arith) f.2)
  parts_moved (Exp-F.Num negative amount) own d f = tt
  parts_moved (Exp-F.Letter byte) own d f = tt
  parts_moved (Exp-F.Truth holds) own d f = tt
  parts_moved (Exp-F.Paren inner) own d f = moved 1 inner (omega arith) f
  parts_moved (Exp-F.Tuple parts) own d f = (f.0, exps_moved 1 parts (omega arith) f.1)
  parts_moved (Exp-F.Cast inner type) own d f = (moved 1 inner (omega arith) f.0, types type own f.1)
  parts_moved (Exp-F.Vect items) own d f = (f.0, exps_moved 1 items (omega arith) f.1)
  parts_moved Exp-F.Star own d f = tt

pub some_depth : (e : Exp) → 1 ≤ exp_depth e
some_depth e = omega (arith, depth_out e)

-- the same bound for types and patterns, and another depth
module _ (bound m room : ℕ) (moved : (l : ℕ) (e : Exp) → exp_depth e ≤ room → ExpFits bound m l e → ExpFits bound room l e) where
  parts_refit : (x : Exp-F Exp) → deepest_part (map-Exp Exp ℕ exp_depth x) ≤ room → ExpParts (TypeFits bound) (PatFits bound 1) (ExpFits bound m) x → ExpParts (TypeFits bound) (PatFits bound 1) (ExpFits bound room) x
  parts_refit x d f =
      parts_moved (TypeFits bound) (TypeFits bound) (PatFits bound 1) (PatFits bound 1) (ExpFits bound m) (ExpFits bound room) exp_depth room
      (beside_depth (map-Exp Exp ℕ exp_depth x)) (λ t h g. g) (λ p h g. g) moved x (omega arith) d f

pub refit : (bound m room level : ℕ) (e : Exp) → exp_depth e ≤ room → ExpFits bound m level e → ExpFits bound room level e
refit bound zero room level e d f = absurd f
refit bound (suc m) zero level e d f = absurd (omega (arith, d, some_depth e))
refit bound (suc m) (suc room) level e d f = (f.0, parts_refit bound m room (λ l a h g. refit bound m room l a h g) (out-Exp e) (omega (arith, d, depth_out e)) f.1)

-- another bound for types and patterns, and the same depth
pub rebound : (m bound room level : ℕ) (e : Exp) → inner_depth e ≤ bound → ExpFits m room level e → ExpFits bound room level e
rebound m bound zero level e d f = absurd f
rebound m bound (suc room) level e d f = (
  f.0,
  parts_moved (TypeFits m) (TypeFits bound) (PatFits m 1) (PatFits bound 1) (ExpFits m room) (ExpFits bound room) inner_depth bound bound
      (λ t h g. type_refit m bound t h g) (λ p h g. pat_refit m bound 1 p h g) (λ l a h g. rebound m bound room l a h g) (out-Exp e)
      (omega (arith, d, inner_out e)) (omega (arith, d, inner_out e)) f.1,
)

-- the parts of an expression, where there is more room
pub parts_wider : (bound m room : ℕ) (x : Exp-F Exp) → m ≤ room → ExpParts (TypeFits bound) (PatFits bound 1) (ExpFits bound m) x → ExpParts (TypeFits bound) (PatFits bound 1) (ExpFits bound room) x
parts_wider bound m room x h f =
    let d = parts_deep (TypeFits bound) (PatFits bound 1) (ExpFits bound m) exp_depth m (fits_depth bound m) x f in
    parts_refit bound m room (λ l a g w. refit bound m room l a g w) x (omega arith) f
