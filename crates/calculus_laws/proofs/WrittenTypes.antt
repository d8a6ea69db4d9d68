-- The variables of patterns have types that stand in a source, if what the patterns match has.
use Rattle.std.proofs.Common.{◌≡◌, ℕ, suc, ◌+◌, ◌≤◌, Bool, true, All, List, [], ◌∷◌, length, map, sum, Option, Some, None, slice_get, refl, ap, sym, ◌∙◌, subst, arith}
use Rattle.std.specs.List.{list_all}
use Rattle.std.proofs.lemmas.Bool.{and_parts}
use Rattle.std.proofs.lemmas.List.Elements.{All-nil, All-cons, All-append}
use Rattle.std.proofs.lemmas.Option.{get_or_from_slice_get, slice_get_within}
use Rattle.hume_base.proofs.FlatLengths.{sum_more}
use Rattle.hume_base.specs.declared.limits.TheConstants.{MAX_DEPTH, MAX_TYPE_WORDS}
use Rattle.hume_base.specs.declared.types.Ty.{Ty, fold-roll-Ty}
use Rattle.hume_base.specs.declared.types.Ty.TheOpen.{Ty-F}
use Rattle.hume_base.specs.declared.types.Ty.TheVariants as shape
use Rattle.hume_base.specs.declared.types.ConDef.{ConDef}
use Rattle.hume_base.specs.declared.types.SumDef.{SumDef}
use Rattle.hume_base.specs.declared.types.Types.{Types}
use Rattle.hume_base.specs.Sizes.{greatest, named_size, size_of, size_step}
use Rattle.hume_base.specs.Values.{fields_of}
use Rattle.hume_model.specs.declared.core_tree.PatC.{PatC}
use Rattle.hume_model.specs.declared.core_tree.InPat.{InPat}
use Rattle.hume_model.specs.declared.core_tree.Core.{Core}
use Rattle.hume_model.specs.BoxTyping.{PositionsHave}
use Rattle.hume_model.specs.Limits.{IsSmallConstructor, IsSmallData, IsWithinLimits}
use Rattle.hume_model.specs.TypeLimits.{IsWrittenType, depth_step, is_type, type_depth, type_step}
use Rattle.hume_model.specs.Typing.{ArePatterns, IsPattern}

-- what is said of several types together
pub record AreParts (types : Types) (tys : List Ty) : Type 0 where
  pub parts : list_all (λ part. part) (map (is_type types) tys) ≡ true
  pub depth : greatest (map type_depth tys) ≤ MAX_DEPTH
  pub words : sum (map (size_of types) tys) ≤ MAX_TYPE_WORDS

parts_written : (types : Types) (tys : List Ty) → AreParts types tys → All (IsWrittenType types) tys
parts_written types [] are = All-nil (IsWrittenType types)
parts_written types (ty ∷ tys) are =
    let both = and_parts (is_type types ty) _ are.parts in
    let deep = are.depth in
    let wide = are.words in
    let all : sum (map (size_of types) (ty ∷ tys)) ≡ size_of types ty + sum (map (size_of types) tys) = sum_more (size_of types ty) (map (size_of types) tys) in
    All-cons (IsWrittenType types) ty tys
    (record { parts = both.0; depth = omega (arith, deep); words = omega (arith, wide, all) })
    (parts_written types tys (record { parts = both.1; depth = omega (arith, deep); words = omega (arith, wide, all) }))

-- the parts of a tuple that stands in a source
tuple_written : (types : Types) (tys : List Ty) → IsWrittenType types (shape.Tuple tys) → All (IsWrittenType types) tys
tuple_written types tys is =
    let formed : is_type types (shape.Tuple tys) ≡ type_step (length types.sums) (Ty-F.Tuple (map (is_type types) tys)) =
    ap (is_type types) (sym (shape.rolls-Tuple tys)) ∙ fold-roll-Ty Bool (type_step (length types.sums)) (Ty-F.Tuple tys) in
    let deep : type_depth (shape.Tuple tys) ≡ 1 + greatest (map type_depth tys) =
    ap type_depth (sym (shape.rolls-Tuple tys)) ∙ fold-roll-Ty ℕ depth_step (Ty-F.Tuple tys) in
    let wide : size_of types (shape.Tuple tys) ≡ sum (map (size_of types) tys) =
    ap (size_of types) (sym (shape.rolls-Tuple tys)) ∙ fold-roll-Ty ℕ (size_step (named_size types (length types.sums))) (Ty-F.Tuple tys) in
    let depth = is.depth in
    let words = is.words in
    parts_written types tys (record {
      parts = (and_parts _ _ (sym formed ∙ is.parts)).1;
      depth = omega (arith, depth, deep);
      words = omega (arith, words, wide);
    })

module _ (core : Core) (limits : IsWithinLimits core) where
  abbrev Written : List Ty → Type 0
  Written tys = All (IsWrittenType core.types) tys

  constructor_written : (sum_type : SumDef) (number : ℕ) → slice_get core.types.sums number ≡ Some sum_type → (place : ℕ) (o : Option ConDef)
      → slice_get sum_type.cons place ≡ o → Written (fields_of o)
  constructor_written sum_type number found place None at = All-nil (IsWrittenType core.types)
  constructor_written sum_type number found place (Some con) at =
      let small : IsSmallData core number sum_type = limits.each_data_type number sum_type found in
      let is : IsSmallConstructor core.types con =
      subst (IsSmallConstructor core.types) (get_or_from_slice_get sum_type.cons place con con at)
      (small.each_constructor place con (slice_get_within sum_type.cons place con at)) in
      is.each_field

  one_written : (tys : List Ty) (ty : Ty) → Written (ty ∷ tys) → IsWrittenType core.types ty
  one_written tys ty each = each 0 ty (omega arith)

  others_written : (tys : List Ty) (ty : Ty) → Written (ty ∷ tys) → Written tys
  others_written tys ty each = λ k d within. each (suc k) d (omega (arith, within))

  mutual
    pattern_written : {t : Ty} {p : PatC} {vars : List Ty} → IsPattern core.types t p vars → IsWrittenType core.types t → Written vars
    pattern_written (IsPattern.variable {ty = t}) is = All-cons (IsWrittenType core.types) t [] is (All-nil (IsWrittenType core.types))
    pattern_written IsPattern.anything is = All-nil (IsWrittenType core.types)
    pattern_written (IsPattern.word w ok) is = All-nil (IsWrittenType core.types)
    pattern_written (IsPattern.con number place sum_type found within parts) is =
        patterns_written parts (constructor_written sum_type number found place (slice_get sum_type.cons place) refl)
    pattern_written (IsPattern.tuple {tys = ts} parts) is = patterns_written parts (tuple_written core.types ts is)

    patterns_written : {ts : List Ty} {ps : List PatC} {vars : List Ty} → ArePatterns core.types ts ps vars → Written ts → Written vars
    patterns_written ArePatterns.none each = All-nil (IsWrittenType core.types)
    patterns_written (ArePatterns.one {ty = t} {tys = ts} {vars = xs} {more = ys} first rest) each =
        All-append (IsWrittenType core.types) xs ys (pattern_written first (one_written ts t each)) (patterns_written rest (others_written ts t each))

  -- the variables of a rule whose inputs have such types
  pub rule_written : {tys : List Ty} {pats : List InPat} {vars : List Ty} → PositionsHave core.types tys pats vars → Written tys → Written vars
  rule_written PositionsHave.none each = All-nil (IsWrittenType core.types)
  rule_written (PositionsHave.star {ty = t} {tys = ts} rest) each = rule_written rest (others_written ts t each)
  rule_written (PositionsHave.any_star {ty = t} {tys = ts} rest) each = rule_written rest (others_written ts t each)
  rule_written (PositionsHave.any {ty = t} {tys = ts} rest) each = rule_written rest (others_written ts t each)
  rule_written (PositionsHave.built {ty = t} {tys = ts} {vars = xs} {more = ys} pattern rest) each =
      All-append (IsWrittenType core.types) xs ys (pattern_written pattern (one_written ts t each)) (rule_written rest (others_written ts t each))
