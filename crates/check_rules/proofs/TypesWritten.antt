-- A type that is written is one that a source may write.
use Rattle.std.proofs.Common.{◌≡◌, ℕ, zero, suc, ◌≤◌, nat_le, nat_lt, inl, inr, List, [], ◌∷◌, map, length, Option, Some, refl, ap, sym, subst, ◌∙◌, arith, Bool, ◌&&◌, true, false}
use Rattle.std.specs.List.{list_all}
use Rattle.std.proofs.lemmas.Bool.{or_parts, cases_lt, le-leb}
use Rattle.std.proofs.lemmas.Bool.Decides.{Decides-ltb}
use Rattle.std.proofs.lemmas.List.{length-map}
use Rattle.std.proofs.lemmas.Option.{slice_get_within}
use Rattle.hume_base.specs.declared.limits.TheConstants.{MAX_PARTS}
use Rattle.hume_base.specs.declared.types.Ty.{Ty, roll-Ty, map-Ty, fold-roll-Ty, Int, Nat, Vector, Named, Tuple}
use Rattle.hume_base.specs.declared.types.Ty.TheOpen.{Ty-F}
use Rattle.hume_base.specs.declared.types.Ty.TheVariants.{rolls-Bool, rolls-Char, rolls-Int, rolls-Nat, rolls-Vector, rolls-Named, rolls-Tuple}
use Rattle.hume_base.specs.declared.types.Types.{Types}
use Rattle.hume_base.specs.declared.types.SumDef.{SumDef}
use Rattle.hume_base.specs.Sizes.{greatest}
use Rattle.hume_ast.specs.declared.tree.TyExp.{TyExp, roll-TyExp, out-roll-TyExp, map-TyExp, fold-roll-TyExp, ind-TyExp}
use Rattle.hume_ast.specs.declared.tree.TyExp.TheOpen.{TyExp-F}
use Rattle.hume_ast.specs.Fits.{Each, TypeParts, TypeFits}
use Rattle.check_names.specs.Twice.{any_true}
use Rattle.check_counts.specs.Miscounts.{has_many, type_miscounts}
use Rattle.check_counts.specs.Miscounts as counted
use Rattle.hume_model.specs.TypeLimits.{type_step, is_type, depth_step, type_depth}
use Rattle.check_typing.specs.Partial.{given}
use Rattle.check_typing.specs.Signatures.{sum_named}
use Rattle.check_typing.specs.WrittenTypes.{is_width, is_length, all_there, written_step, written}
use Rattle.check_typing.proofs.Maybe.{some-same, given-inv, when-inv}
use Rattle.check_typing.proofs.NamesFound.{first_stands}

pub both : (a b : Bool) → a ≡ true → b ≡ true → (a && b) ≡ true
both true b p q = q
both false b p q = cc

module _ (types : Types) where
  -- the type is one of types, and at most so deep
  pub record IsShallow (bound : ℕ) (ty : Ty) : Type 0 where
    pub parts : is_type types ty ≡ true
    pub depth : type_depth ty ≤ bound

  shallow : (bound : ℕ) (x : Ty-F Ty) (ty : Ty) → roll-Ty x ≡ ty → type_step (length types.sums) (map-Ty Ty Bool (is_type types) x) ≡ true
      → depth_step (map-Ty Ty ℕ type_depth x) ≤ bound → IsShallow bound ty
  shallow bound x ty e p d = subst (IsShallow bound) e (record {
    parts = fold-roll-Ty Bool (type_step (length types.sums)) x ∙ p;
    depth = subst (λ n. n ≤ bound) (sym (fold-roll-Ty ℕ depth_step x)) d;
  })

  -- what is said of a type that is written
  abbrev Whole : TyExp → Type 0
  Whole e = (ty : Ty) → written types e ≡ Some ty → (bound : ℕ) → TypeFits bound e → type_miscounts e ≡ false → IsShallow bound ty

  abbrev Known : Type 0
  Known = (e : TyExp) × Whole e

  abbrev alone : Known → TyExp
  alone e = e.0

  abbrev exps : TyExp-F Known → TyExp-F TyExp
  exps y = map-TyExp Known TyExp alone y

  record AllShallow (bound : ℕ) (es : List TyExp) (tys : List Ty) : Type 0 where
    long : length tys ≡ length es
    each : list_all (λ b. b) (map (is_type types) tys) ≡ true
    depth : greatest (map type_depth tys) ≤ bound

  all_shallow : (bound : ℕ) (es : List Known) (tys : List Ty) → all_there (map (written types) (map alone es)) ≡ Some tys → Each (TypeFits bound) (map alone es)
      → any_true (map type_miscounts (map alone es)) ≡ false → AllShallow bound (map alone es) tys
  all_shallow bound [] tys h fits off = subst (AllShallow bound []) (some-same [] tys h) (record { long = refl; each = refl; depth = omega arith })
  all_shallow bound (e ∷ es) tys h fits off =
      let k = given-inv (written types e.0) (λ first. given (all_there (map (written types) (map alone es))) (λ others. Some (first ∷ others))) tys h in
      let m = given-inv (all_there (map (written types) (map alone es))) (λ others. Some (k.0 ∷ others)) tys k.2 in
      let flags = or_parts (type_miscounts e.0) (any_true (map type_miscounts (map alone es))) off in
      let first = e.1 k.0 k.1 bound fits.0 flags.0 in
      let others = all_shallow bound es m.0 m.1 fits.1 flags.1 in
      subst (AllShallow bound (map alone (e ∷ es))) (some-same _ _ m.2) (record {
        long = ap suc others.long;
        each = both _ _ first.parts others.each;
        depth = let a = first.depth in let b = others.depth in omega arith;
      })

  few : (n : ℕ) → nat_lt MAX_PARTS n ≡ false → n ≤ MAX_PARTS
  few n h = elim (cases_lt MAX_PARTS n) [
    | inl lt ↦ absurd (let yes = (Decides-ltb MAX_PARTS n).1 lt in cc)
    | inr le ↦ le
  ]

  at_least : (a b : ℕ) → a ≤ b → nat_le a b ≡ true
  at_least a b le = le-leb a b le

  level : (y : TyExp-F Known) (ty : Ty) → written_step types (map-TyExp TyExp (Option Ty) (written types) (exps y)) ≡ Some ty → (b : ℕ) → TypeParts (TypeFits b) (exps y)
      → counted.type_step (map-TyExp TyExp Bool type_miscounts (exps y)) ≡ false → IsShallow (suc b) ty
  level TyExp-F.Bool ty h b fits off = shallow (suc b) Ty-F.Bool ty (rolls-Bool ∙ some-same _ _ h) refl (omega arith)
  level TyExp-F.Char ty h b fits off = shallow (suc b) Ty-F.Char ty (rolls-Char ∙ some-same _ _ h) refl (omega arith)
  level (TyExp-F.Int bits) ty h b fits off =
      let k = when-inv (is_width bits) (Some (Int bits)) ty h in
      shallow (suc b) (Ty-F.Int bits) ty (rolls-Int bits ∙ some-same _ _ k.1) k.0 (omega arith)
  level (TyExp-F.Nat bits) ty h b fits off =
      let k = when-inv (is_width bits) (Some (Nat bits)) ty h in
      shallow (suc b) (Ty-F.Nat bits) ty (rolls-Nat bits ∙ some-same _ _ k.1) k.0 (omega arith)
  level (TyExp-F.Vector count item) ty h b fits off =
      let k = when-inv (is_length count) (given (written types item.0) (λ ty. Some (Vector count ty))) ty h in
      let m = given-inv (written types item.0) (λ ty. Some (Vector count ty)) ty k.1 in
      let inner = item.1 m.0 m.1 b fits (or_parts _ (type_miscounts item.0) off).1 in
      let d = inner.depth in
      shallow (suc b) (Ty-F.Vector count m.0) ty (rolls-Vector count m.0 ∙ some-same _ _ m.2) (both _ _ k.0 inner.parts) (omega arith)
  level (TyExp-F.Named name) ty h b fits off =
      let k = given-inv (sum_named name types) (λ found. Some (Named found.0)) ty h in
      let there = first_stands (λ (sum : SumDef). sum.name) name types.sums k.0.0 k.0.1 k.1 in
      shallow (suc b) (Ty-F.Named k.0.0) ty (rolls-Named k.0.0 ∙ some-same _ _ k.2)
      ((Decides-ltb k.0.0 (length types.sums)).1 (slice_get_within types.sums k.0.0 k.0.1 there)) (omega arith)
  level (TyExp-F.Tuple es) ty h b fits off =
      let k = given-inv (all_there (map (written types) (map alone es))) (λ tys. Some (Tuple tys)) ty h in
      let flags = or_parts (has_many MAX_PARTS (map type_miscounts (map alone es))) (any_true (map type_miscounts (map alone es))) off in
      let all = all_shallow b es k.0 k.1 fits.1 flags.1 in
      let two : 2 ≤ length (map (is_type types) k.0) = let a = fits.0 in let l = all.long in let m = length-map k.0 (is_type types) in omega arith in
      let most : length (map type_miscounts (map alone es)) ≤ MAX_PARTS = few _ flags.0 in
      let some : length (map (is_type types) k.0) ≤ MAX_PARTS =
      let l = all.long in let m = length-map k.0 (is_type types) in let n = length-map (map alone es) type_miscounts in omega arith in
      let d = all.depth in
      shallow (suc b) (Ty-F.Tuple k.0) ty (rolls-Tuple k.0 ∙ some-same _ _ k.2) (both _ _ (both _ _ (at_least 2 _ two) (at_least _ MAX_PARTS some)) all.each) (omega arith)

  at_roll : (y : TyExp-F Known) → Whole (roll-TyExp (exps y))
  at_roll y ty h zero fits off = absurd fits
  at_roll y ty h (suc b) fits off =
      level y ty (sym (fold-roll-TyExp (Option Ty) (written_step types) (exps y)) ∙ h) b
      (subst (TypeParts (TypeFits b)) (out-roll-TyExp (exps y)) fits)
      (sym (fold-roll-TyExp Bool counted.type_step (exps y)) ∙ off)

  -- a type that is written, of the grammar and without wrong counts, is one of types and no deeper
  pub written_shallow : (e : TyExp) → Whole e
  written_shallow = ind-TyExp Whole (λ x y is. subst (λ x. Whole (roll-TyExp x)) is (at_roll y))
