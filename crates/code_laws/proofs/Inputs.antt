-- The inputs that a rule builds, and its variables.
use Rattle.std.proofs.Common.{◌≡◌, true, List, [], ◌∷◌, ◌++◌, Option, Some, None, refl, ap, sym, ◌∙◌, subst}
use Rattle.std.proofs.lemmas.Bool.{and_parts}
use Rattle.std.specs.Option.{is_some, unwrap_or}
use Rattle.hume_base.specs.declared.types.Ty.{Ty}
use Rattle.hume_base.specs.declared.types.Types.{Types}
use Rattle.hume_base.specs.declared.types.Value.{Value}
use Rattle.hume_model.specs.declared.core_tree.InPat.{InPat}
use Rattle.hume_model.specs.declared.core_tree.InPat.TheVariants.{Star, AnyStar, Any}
use Rattle.hume_model.specs.Patterns.{matches, matches_all, both_match}
use Rattle.hume_model.specs.Matching.{fits, bound}
use Rattle.hume_model.specs.Typing.{AreOf, ArePatterns}
use Rattle.hume_model.specs.ResultTyping.{are_outputs}
use Rattle.hume_model.specs.BoxTyping.{PositionsHave}
use Rattle.hume_model.proofs.PatternTypes.{both_true}
use Rattle.box_costs.specs.Bounds.{built_patterns}
use Rattle.box_costs.specs.ResultSpending.{built_values}

-- the built inputs, with the types of their patterns
pub record AreBuilt (types : Types) (pats : List InPat) (ins : List (Option Value)) (vars : List Ty) : Type 0 where
  pub tys : List Ty
  pub patterns : ArePatterns types tys (built_patterns pats) vars
  pub are : AreOf types tys (built_values pats ins)
  pub bind : matches_all (built_patterns pats) (built_values pats ins) ≡ Some (bound pats ins)

-- a position that builds nothing
skipped : (types : Types) (pat : InPat) (pats : List InPat) (input : Option Value) (ins : List (Option Value)) (vars : List Ty) → built_patterns (pat ∷ pats) ≡ built_patterns pats
    → built_values (pat ∷ pats) (input ∷ ins) ≡ built_values pats ins → bound (pat ∷ pats) (input ∷ ins) ≡ bound pats ins → AreBuilt types pats ins vars
    → AreBuilt types (pat ∷ pats) (input ∷ ins) vars
skipped types pat pats input ins vars e d f k = record {
  tys = k.tys;
  patterns = subst (λ ps. ArePatterns types k.tys ps vars) (sym e) k.patterns;
  are = subst (λ vs. AreOf types k.tys vs) (sym d) k.are;
  bind = (λ i. matches_all (e i) (d i)) ∙ k.bind ∙ ap Some (sym f);
}

both_matched : (m n : Option (List Value)) (vs : List Value) → is_some m ≡ true → n ≡ Some vs → both_match m n ≡ Some (unwrap_or m [] ++ vs)
both_matched None n vs h e = cc
both_matched (Some us) n vs h e = ap (both_match (Some us)) e

pub are_built : (types : Types) {tys vars : List Ty} {pats : List InPat} → PositionsHave types tys pats vars → (ins : List (Option Value)) → are_outputs types tys ins ≡ true → fits pats ins ≡ true
    → AreBuilt types pats ins vars
are_built types PositionsHave.none ins is fit = record { tys = []; patterns = ArePatterns.none; are = refl; bind = refl }
are_built types (PositionsHave.star {vars = vars} {pats = pats} rest) [] is fit = cc
are_built types (PositionsHave.star {vars = vars} {pats = pats} rest) (None ∷ ins) is fit = skipped types Star pats None ins vars refl refl refl (are_built types rest ins is fit)
are_built types (PositionsHave.star {vars = vars} {pats = pats} rest) (Some v ∷ ins) is fit =
    skipped types Star pats (Some v) ins vars refl refl refl (are_built types rest ins (and_parts _ _ is).1 fit)
are_built types (PositionsHave.any_star {vars = vars} {pats = pats} rest) [] is fit = cc
are_built types (PositionsHave.any_star {vars = vars} {pats = pats} rest) (None ∷ ins) is fit = skipped types AnyStar pats None ins vars refl refl refl (are_built types rest ins is fit)
are_built types (PositionsHave.any_star {vars = vars} {pats = pats} rest) (Some v ∷ ins) is fit =
    skipped types AnyStar pats (Some v) ins vars refl refl refl (are_built types rest ins (and_parts _ _ is).1 fit)
are_built types (PositionsHave.any {vars = vars} {pats = pats} rest) [] is fit = cc
are_built types (PositionsHave.any {vars = vars} {pats = pats} rest) (None ∷ ins) is fit = cc
are_built types (PositionsHave.any {vars = vars} {pats = pats} rest) (Some v ∷ ins) is fit =
    skipped types Any pats (Some v) ins vars refl refl refl (are_built types rest ins (and_parts _ _ is).1 fit)
are_built types (PositionsHave.built pattern rest) [] is fit = cc
are_built types (PositionsHave.built pattern rest) (None ∷ ins) is fit = cc
are_built types (PositionsHave.built {ty = t} {p = p} {pats = pats} pattern rest) (Some v ∷ ins) is fit =
    let ps = and_parts _ _ is in
    let fs = and_parts _ _ fit in
    let k = are_built types rest ins ps.1 fs.1 in
    record {
      tys = t ∷ k.tys;
      patterns = ArePatterns.one pattern k.patterns;
      are = both_true _ _ ps.0 k.are;
      bind = both_matched (matches p v) _ (bound pats ins) fs.0 k.bind;
    }
