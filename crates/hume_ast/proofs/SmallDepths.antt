-- A type or a pattern fits exactly the depths that are not less than its own.
use Rattle.std.proofs.Common.{◌≡◌, ℕ, zero, suc, ◌≤◌, ◌↔◌, sym, ap, ◌∙◌, arith}
use Rattle.hume_ast.specs.declared.tree.TyExp.{TyExp, out-TyExp, map-TyExp, fold-roll-TyExp, roll-out-TyExp}
use Rattle.hume_ast.specs.declared.tree.TyExp.TheOpen.{TyExp-F}
use Rattle.hume_ast.specs.declared.tree.Pat.{Pat, out-Pat, map-Pat, fold-roll-Pat, roll-out-Pat}
use Rattle.hume_ast.specs.declared.tree.Pat.TheOpen.{Pat-F}
use Rattle.hume_ast.specs.Fits.{TypeFits, TypeParts, PatFits, PatParts}
use Rattle.hume_ast.specs.Depth.{ty_step, ty_depth, pat_step, pat_depth}
use Rattle.hume_ast.proofs.Deepest.{each_deep, each_moved}

ty_out : (t : TyExp) → ty_depth t ≡ ty_step (map-TyExp TyExp ℕ ty_depth (out-TyExp t))
ty_out t = ap ty_depth (sym (roll-out-TyExp t)) ∙ fold-roll-TyExp ℕ ty_step (out-TyExp t)

module _ (P : TyExp → Type 0) (m : ℕ) (deep : (t : TyExp) → P t → ty_depth t ≤ m) where
  type_parts_deep : (x : TyExp-F TyExp) → TypeParts P x → ty_step (map-TyExp TyExp ℕ ty_depth x) ≤ suc m
  type_parts_deep TyExp-F.Bool f = omega arith
  type_parts_deep TyExp-F.Char f = omega arith
  type_parts_deep (TyExp-F.Int bits) f = omega arith
  type_parts_deep (TyExp-F.Nat bits) f = omega arith
  type_parts_deep (TyExp-F.Vector count item) f = omega (arith, deep item f)
  type_parts_deep (TyExp-F.Named name) f = omega arith
  type_parts_deep (TyExp-F.Tuple parts) f = omega (arith, each_deep P ty_depth m deep parts f.1)

pub type_fits_depth : (room : ℕ) (t : TyExp) → TypeFits room t → ty_depth t ≤ room
type_fits_depth zero t f = absurd f
type_fits_depth (suc room) t f = omega (arith, ty_out t, type_parts_deep (TypeFits room) room (type_fits_depth room) (out-TyExp t) f)

module _ (P Q : TyExp → Type 0) (m : ℕ) (moved : (t : TyExp) → ty_depth t ≤ m → P t → Q t) where
  type_parts_moved : (x : TyExp-F TyExp) → ty_step (map-TyExp TyExp ℕ ty_depth x) ≤ suc m → TypeParts P x → TypeParts Q x
  type_parts_moved TyExp-F.Bool d f = tt
  type_parts_moved TyExp-F.Char d f = tt
  type_parts_moved (TyExp-F.Int bits) d f = tt
  type_parts_moved (TyExp-F.Nat bits) d f = tt
  type_parts_moved (TyExp-F.Vector count item) d f = moved item (omega arith) f
  type_parts_moved (TyExp-F.Named name) d f = tt
  type_parts_moved (TyExp-F.Tuple parts) d f = (f.0, each_moved P Q ty_depth m moved parts (omega arith) f.1)

some_ty_step : (x : TyExp-F ℕ) → 1 ≤ ty_step x
some_ty_step (TyExp-F.Vector count item) = omega arith
some_ty_step (TyExp-F.Tuple parts) = omega arith
some_ty_step _ = omega arith

pub type_refit : (m room : ℕ) (t : TyExp) → ty_depth t ≤ room → TypeFits m t → TypeFits room t
type_refit zero room t d f = absurd f
type_refit (suc m) zero t d f = absurd (omega (arith, d, ty_out t, some_ty_step (map-TyExp TyExp ℕ ty_depth (out-TyExp t))))
type_refit (suc m) (suc room) t d f =
    type_parts_moved (TypeFits m) (TypeFits room) room (λ u h g. type_refit m room u h g) (out-TyExp t) (omega (arith, d, ty_out t)) f

pub type_decided : (m room : ℕ) (t : TyExp) → TypeFits m t → TypeFits room t ↔ (ty_depth t ≤ room)
type_decided m room t f = (type_fits_depth room t, λ d. type_refit m room t d f)

pub pat_out : (p : Pat) → pat_depth p ≡ pat_step (map-Pat Pat ℕ pat_depth (out-Pat p))
pat_out p = ap pat_depth (sym (roll-out-Pat p)) ∙ fold-roll-Pat ℕ pat_step (out-Pat p)

module _ (P : ℕ → Pat → Type 0) (m : ℕ) (deep : (l : ℕ) (p : Pat) → P l p → pat_depth p ≤ m) where
  pat_parts_deep : (x : Pat-F Pat) → PatParts P x → pat_step (map-Pat Pat ℕ pat_depth x) ≤ suc m
  pat_parts_deep (Pat-F.Name name) f = omega arith
  pat_parts_deep Pat-F.Any f = omega arith
  pat_parts_deep (Pat-F.Num negative amount) f = omega arith
  pat_parts_deep (Pat-F.Letter byte) f = omega arith
  pat_parts_deep (Pat-F.Truth holds) f = omega arith
  pat_parts_deep (Pat-F.Con name parts) f = omega (arith, each_deep (P 2) pat_depth m (deep 2) parts f)
  pat_parts_deep (Pat-F.Paren inner) f = omega (arith, deep 1 inner f)
  pat_parts_deep (Pat-F.Tuple parts) f = omega (arith, each_deep (P 1) pat_depth m (deep 1) parts f.1)
  pat_parts_deep Pat-F.Star f = omega arith
  pat_parts_deep Pat-F.AnyStar f = omega arith

pub pat_fits_depth : (room level : ℕ) (p : Pat) → PatFits room level p → pat_depth p ≤ room
pat_fits_depth zero level p f = absurd f
pat_fits_depth (suc room) level p f = omega (arith, pat_out p, pat_parts_deep (PatFits room) room (pat_fits_depth room) (out-Pat p) f.1)

module _ (P Q : ℕ → Pat → Type 0) (m : ℕ) (moved : (l : ℕ) (p : Pat) → pat_depth p ≤ m → P l p → Q l p) where
  pat_parts_moved : (x : Pat-F Pat) → pat_step (map-Pat Pat ℕ pat_depth x) ≤ suc m → PatParts P x → PatParts Q x
  pat_parts_moved (Pat-F.Name name) d f = tt
  pat_parts_moved Pat-F.Any d f = tt
  pat_parts_moved (Pat-F.Num negative amount) d f = tt
  pat_parts_moved (Pat-F.Letter byte) d f = tt
  pat_parts_moved (Pat-F.Truth holds) d f = tt
  pat_parts_moved (Pat-F.Con name parts) d f = each_moved (P 2) (Q 2) pat_depth m (moved 2) parts (omega arith) f
  pat_parts_moved (Pat-F.Paren inner) d f = moved 1 inner (omega arith) f
  pat_parts_moved (Pat-F.Tuple parts) d f = (f.0, each_moved (P 1) (Q 1) pat_depth m (moved 1) parts (omega arith) f.1)
  pat_parts_moved Pat-F.Star d f = tt
  pat_parts_moved Pat-F.AnyStar d f = tt

some_pat_step : (x : Pat-F ℕ) → 1 ≤ pat_step x
some_pat_step (Pat-F.Con name parts) = omega arith
some_pat_step (Pat-F.Paren inner) = omega arith
some_pat_step (Pat-F.Tuple parts) = omega arith
some_pat_step _ = omega arith

pub pat_refit : (m room level : ℕ) (p : Pat) → pat_depth p ≤ room → PatFits m level p → PatFits room level p
pat_refit zero room level p d f = absurd f
pat_refit (suc m) zero level p d f = absurd (omega (arith, d, pat_out p, some_pat_step (map-Pat Pat ℕ pat_depth (out-Pat p))))
pat_refit (suc m) (suc room) level p d f =
    (f.0, pat_parts_moved (PatFits m) (PatFits room) room (λ l q h g. pat_refit m room l q h g) (out-Pat p) (omega (arith, d, pat_out p)) f.1)

pub pat_decided : (m room level : ℕ) (p : Pat) → PatFits m level p → PatFits room level p ↔ (pat_depth p ≤ room)
pat_decided m room level p f = (pat_fits_depth room level p, λ d. pat_refit m room level p d f)
