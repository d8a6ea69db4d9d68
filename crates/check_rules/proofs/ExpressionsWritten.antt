-- The core of an expression of the grammar without wrong counts is as a source may write it.
use Rattle.std.proofs.Common.{◌≡◌, ℕ, zero, suc, ◌≤◌, List, [], ◌∷◌, map, length, Some, None, sym, subst, ◌∙◌, arith, Bool, ◌||◌, false}
use Rattle.std.specs.List.{list_any}
use Rattle.std.proofs.lemmas.Bool.{or_parts, ltb-false}
use Rattle.std.proofs.lemmas.List.{length-map}
use Rattle.hume_base.specs.declared.limits.TheConstants.{MAX_DEPTH, MAX_PARTS, MAX_LENGTH}
use Rattle.hume_ast.specs.declared.tree.Pat.{Pat}
use Rattle.hume_ast.specs.declared.tree.Exp.{Exp, roll-Exp, map-Exp, out-roll-Exp, fold-roll-Exp, ind-Exp}
use Rattle.hume_ast.specs.declared.tree.Exp.TheOpen.{Exp-F}
use Rattle.hume_ast.specs.Fits.{Each, TypeFits, PatFits, ExpParts, ExpFits}
use Rattle.check_counts.specs.declared.counts.Counts.{Counts}
use Rattle.check_counts.specs.Counted.{is_other}
use Rattle.check_names.specs.Twice.{any_true}
use Rattle.check_counts.specs.Miscounts.{has_many, type_miscounts, pattern_miscounts, arm_miscounts, expression_step, miscounts}
use Rattle.check_typing.specs.Typing.{Judged, arm_with, typing_step, typing}
use Rattle.check_typing.specs.declared.signatures.Signatures.{Signatures}
use Rattle.check_typing.proofs.TypingLevels.{typing_roll}
use Rattle.check_rules.proofs.TypesWritten.{written_shallow}
use Rattle.check_rules.proofs.FormsWritten.{HaveTypes, between, IsGood, AllGood, AllArmsGood, good_literal, good_letter, good_truth, good_star, good_let, good_if, good_binary, good_update, good_not, good_neg, good_cast, good_raise, good_raise_with, good_variable, good_app, good_con, good_tuple, good_vector, good_case}

module _ (s : Signatures) (have : HaveTypes s) (counts : Counts) where
  abbrev Whole : Exp → Type 0
  Whole e = (depth level : ℕ) → ExpFits MAX_DEPTH depth level e → miscounts counts e ≡ false → IsGood s have (typing s e)

  abbrev Known : Type 0
  Known = (e : Exp) × Whole e

  abbrev alone : Known → Exp
  alone e = e.0

  abbrev exps : Exp-F Known → Exp-F Exp
  exps y = map-Exp Known Exp alone y

  all_known : (es : List Known) (depth level : ℕ) → Each (ExpFits MAX_DEPTH depth level) (map alone es)
      → any_true (map (miscounts counts) (map alone es)) ≡ false
      → AllGood s have (map (typing s) (map alone es))
  all_known [] depth level fits off = tt
  all_known (e ∷ es) depth level fits off =
      let flags = or_parts (miscounts counts e.0) (any_true (map (miscounts counts) (map alone es))) off in
      (e.1 depth level fits.0 flags.0, all_known es depth level fits.1 flags.1)

  abbrev expressions : List (Pat × Known) → List (Pat × Exp)
  expressions arms = map (λ arm. (arm.0, arm.1.0)) arms

  abbrev pub counted_arms : List (Pat × Exp) → List (Pat × Bool)
  counted_arms arms = map (λ arm. (arm.0, miscounts counts arm.1)) arms

  arms_known : (arms : List (Pat × Known)) (depth : ℕ)
      → Each (λ (alternative : Pat × Exp). PatFits MAX_DEPTH 1 alternative.0 × ExpFits MAX_DEPTH depth 1 alternative.1) (expressions arms)
      → list_any (arm_miscounts counts) (counted_arms (expressions arms)) ≡ false
      → AllArmsGood s have (map (arm_with Exp (typing s)) (expressions arms))
  arms_known [] depth fits off = tt
  arms_known (arm ∷ arms) depth fits off =
      let flags = or_parts (pattern_miscounts counts arm.0 || miscounts counts arm.1.0) (list_any (arm_miscounts counts) (counted_arms (expressions arms))) off in
      let body = or_parts (pattern_miscounts counts arm.0) (miscounts counts arm.1.0) flags.0 in
      (arm.1.1 depth 1 fits.0.1 body.1, arms_known arms depth fits.1 flags.1)

  abbrev answers : List Known → List Bool
  answers es = map (miscounts counts) (map alone es)

  abbrev judged : List Known → List Judged
  judged es = map (typing s) (map alone es)

  few : (most : ℕ) (es : List Known) → has_many most (answers es) ≡ false → length (judged es) ≤ most
  few most es off =
      let a = ltb-false most (length (answers es)) off in
      let b = length-map (map alone es) (miscounts counts) in let c = length-map (map alone es) (typing s) in omega arith

  some : (least : ℕ) (es : List Known) → least ≤ length (map alone es) → least ≤ length (judged es)
  some least es le = let c = length-map (map alone es) (typing s) in omega arith

  level : (y : Exp-F Known) (depth : ℕ) → ExpParts (TypeFits MAX_DEPTH) (PatFits MAX_DEPTH 1) (ExpFits MAX_DEPTH depth) (exps y)
      → expression_step counts (map-Exp Exp Bool (miscounts counts) (exps y)) ≡ false → IsGood s have (typing_step s Exp (typing s) (exps y))
  level (Exp-F.Let x a b) depth fits off =
      let flags = or_parts (miscounts counts a.0) (miscounts counts b.0) off in
      good_let s have x _ _ (a.1 depth 1 fits.0 flags.0) (b.1 depth 1 fits.1 flags.1)
  level (Exp-F.If a b d) depth fits off =
      let first = or_parts (miscounts counts a.0) (miscounts counts b.0 || miscounts counts d.0) off in
      let flags = or_parts (miscounts counts b.0) (miscounts counts d.0) first.1 in
      good_if s have _ _ (b.1 depth 1 fits.1 flags.0) (d.1 depth 1 fits.2 flags.1) _ (a.1 depth 1 fits.0 first.0)
  level (Exp-F.Case a arms) depth fits off =
      let flags = or_parts (miscounts counts a.0) (list_any (arm_miscounts counts) (counted_arms (expressions arms))) off in
      let one : 1 ≤ length (map (arm_with Exp (typing s)) (expressions arms)) =
      let l = length-map (expressions arms) (arm_with Exp (typing s)) in let f = fits.1 in omega arith in
      good_case s have _ (a.1 depth 1 fits.0 flags.0) _ (arms_known arms depth fits.2 flags.1) one
  level (Exp-F.Raise x None) depth fits off = good_raise s have x
  level (Exp-F.Raise x (Some a)) depth fits off = good_raise_with s have x _ (a.1 depth 10 fits (or_parts (is_other counts.exceptions x 1) (miscounts counts a.0) off).1)
  level (Exp-F.Binary sign a b) depth fits off =
      let flags = or_parts (miscounts counts a.0) (miscounts counts b.0) off in
      good_binary s have _ _ (a.1 depth _ fits.0 flags.0) (b.1 depth _ fits.1 flags.1) sign
  level (Exp-F.Neg a) depth fits off = good_neg s have _ (a.1 depth 7 fits.0 off)
  level (Exp-F.Not a) depth fits off = good_not s have _ (a.1 depth 7 fits off)
  level (Exp-F.App f []) depth fits off = good_variable s have f
  level (Exp-F.App f (e ∷ es)) depth fits off =
      good_app s have f _ _ (all_known (e ∷ es) depth 10 fits (or_parts (is_other counts.functions f (length (answers (e ∷ es)))) (any_true (answers (e ∷ es))) off).1)
  level (Exp-F.Con c es) depth fits off =
      good_con s have _ (all_known es depth 10 fits (or_parts (is_other counts.constructors c (length (answers es))) (any_true (answers es)) off).1) c
  level (Exp-F.Update a b d) depth fits off =
      let first = or_parts (miscounts counts a.0) (miscounts counts b.0 || miscounts counts d.0) off in
      let flags = or_parts (miscounts counts b.0) (miscounts counts d.0) first.1 in
      good_update s have _ _ _ (a.1 depth 10 fits.0 first.0) (b.1 depth 10 fits.1 flags.0) (d.1 depth 10 fits.2 flags.1)
  level (Exp-F.Num negative n) depth fits off = good_literal s have negative n
  level (Exp-F.Letter b) depth fits off = good_letter s have b
  level (Exp-F.Truth b) depth fits off = good_truth s have b
  level (Exp-F.Paren a) depth fits off = a.1 depth 1 fits off
  level (Exp-F.Tuple es) depth fits off =
      let flags = or_parts (has_many MAX_PARTS (answers es)) (any_true (answers es)) off in
      good_tuple s have _ (all_known es depth 1 fits.1 flags.1) (between 2 MAX_PARTS _ (some 2 es fits.0) (few MAX_PARTS es flags.0))
  level (Exp-F.Cast a type) depth fits off =
      let flags = or_parts (miscounts counts a.0) (type_miscounts type) off in
      good_cast s have _ (a.1 depth 1 fits.0 flags.0) type (λ t is. (written_shallow s.types type t is MAX_DEPTH fits.1 flags.1).parts)
  level (Exp-F.Vect es) depth fits off =
      let flags = or_parts (has_many MAX_LENGTH (answers es)) (any_true (answers es)) off in
      good_vector s have _ (all_known es depth 1 fits.1 flags.1) (between 1 MAX_LENGTH _ (some 1 es fits.0) (few MAX_LENGTH es flags.0))
  level Exp-F.Star depth fits off = good_star s have

  at_roll : (y : Exp-F Known) → Whole (roll-Exp (exps y))
  at_roll y zero l fits off = absurd fits
  at_roll y (suc depth) l fits off =
      subst (IsGood s have) (sym (typing_roll s (exps y)))
      (level y depth (subst (ExpParts (TypeFits MAX_DEPTH) (PatFits MAX_DEPTH 1) (ExpFits MAX_DEPTH depth)) (out-roll-Exp (exps y)) fits.1)
      (sym (fold-roll-Exp Bool (expression_step counts) (exps y)) ∙ off))

  pub expression_written : (e : Exp) → Whole e
  expression_written = ind-Exp Whole (λ x y is. subst (λ x. Whole (roll-Exp x)) is (at_roll y))
