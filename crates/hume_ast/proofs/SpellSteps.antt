-- What is spelled, step by step.
use Rattle.std.proofs.Common.{◌≡◌, ℕ, zero, suc, ◌<◌, ◌+◌, List, [], ◌∷◌, ◌++◌, length, map, max, take, get_or, refl, sym, ap, ◌∙◌, arith, append_assoc, append-nil}
use Rattle.std.specs.Prelude.{Option, Some, slice_get}
use Rattle.std.proofs.lemmas.Grind.{common_steps}
use Rattle.std.proofs.lemmas.Option.{slice_get_read}
use denote.Param.Weighed.{most}
use Rattle.hume_base.specs.declared.symbol.Symbol.{Symbol}
use Rattle.hume_base.specs.declared.symbol.Symbol.TheVariants as symbol
use Rattle.hume_base.specs.declared.keyword.Keyword.TheVariants as word
use Rattle.hume_base.specs.declared.token.Kind.{Kind}
use Rattle.hume_base.specs.declared.token.Kind.TheVariants.{Sign, Word}
use Rattle.hume_ast.specs.declared.tree.TyExp.{the_lemmas as ty_lemmas}
use Rattle.hume_ast.specs.declared.tree.Pat.{Pat, the_lemmas as pat_lemmas}
use Rattle.hume_ast.specs.declared.tree.Exp.{Exp, Case, size-Exp, fold-roll-Exp, the_lemmas as exp_lemmas}
use Rattle.hume_ast.specs.declared.tree.Exp.TheOpen.{Exp-F}
use Rattle.hume_ast.specs.declared.tree.Exp.TheVariants.{rolls-Case}
use Rattle.hume_ast.specs.Spelling.{separated, preceded, beside, spell_alternative, spell_exp, spelled_exp, spelled_handler, spelled_handlers}
use Rattle.hume_ast.specs.declared.spell_tokens.Tokens.{Tokens}
use Rattle.hume_ast.specs.inner.Tokens.{Adds}
use Rattle.hume_ast.specs.inner.Parts.{between, spelled_alternative}

-- tokens behind those that were put before
adds_more : (first second third : Tokens) (kinds more : List Kind) → Adds first second kinds → Adds second third more → Adds first third (kinds ++ more)
adds_more first second third kinds more sooner later h =
    let (then, is_behind) = later h in
    let (whole, is_before) = sooner then in
    (whole, is_behind ∙ ap (λ front. front ++ more) is_before ∙ append_assoc first.kinds kinds more)

adds_same : (first second : Tokens) (kinds same : List Kind) → kinds ≡ same → Adds first second kinds → Adds first second same
adds_same first second kinds same is adds h =
    let (whole, are) = adds h in
    (whole, are ∙ ap (λ ks. first.kinds ++ ks) is)

module _ {A : Type 0} (sign : Symbol) (spell : A → List Kind) where
  abbrev after : List A → List Kind
  after xs = preceded sign (map spell xs)

  next_preceded : (xs : List A) (at : ℕ) (x : A) → slice_get xs at ≡ Some x → after (take (suc at) xs) ≡ after (take at xs) ++ Sign sign ∷ spell x
  next_preceded [] at x e = cc
  next_preceded (y ∷ xs) zero x e = let is : y ≡ x = cc in ap (λ z. Sign sign ∷ z) (append-nil (spell y)) ∙ ap (λ z. Sign sign ∷ spell z) is
  next_preceded (y ∷ xs) (suc at) x e =
      ap (λ ks. Sign sign ∷ (spell y ++ ks)) (next_preceded xs at x e)
      ∙ ap (λ ks. Sign sign ∷ ks) (sym (append_assoc (spell y) (after (take at xs)) (Sign sign ∷ spell x)))

  -- one part more
  pub next_separated : (xs : List A) (at : ℕ) (x : A) → slice_get xs at ≡ Some x
      → separated sign (map spell (take (suc at) xs)) ≡ separated sign (map spell (take at xs)) ++ (between sign at ++ spell x)
  next_separated [] at x e = cc
  next_separated (y ∷ xs) zero x e = let is : y ≡ x = cc in append-nil (spell y) ∙ ap spell is
  next_separated (y ∷ xs) (suc at) x e =
      ap (λ ks. spell y ++ ks) (next_preceded xs at x e) ∙ sym (append_assoc (spell y) (after (take at xs)) (Sign sign ∷ spell x))

  pub next_part : (xs : List A) (at : ℕ) (x : A) → at < length xs → x ≡ get_or xs at x
      → separated sign (map spell (take (at + 1) xs)) ≡ separated sign (map spell (take at xs)) ++ (between sign at ++ spell x)
  next_part xs at x h e = let one : at + 1 ≡ suc at = omega arith in ap (λ n. separated sign (map spell (take n xs))) one ∙ next_separated xs at x (slice_get_read xs (length xs) at x refl h e)

  -- a turn of a loop over parts
  pub next_turn : (first before signed after : Tokens) (xs : List A) (at : ℕ) (x : A) → Adds first before (separated sign (map spell (take at xs)))
      → Adds before signed (between sign at) → Adds signed after (spell x) → at < length xs → x ≡ get_or xs at x
      → Adds first after (separated sign (map spell (take (at + 1) xs)))
  next_turn first before signed after xs at x b s a h e =
      adds_same first after _ _ (sym (next_part xs at x h e))
      (adds_more first before after _ _ b (adds_more before signed after (between sign at) (spell x) s a))

module _ {A : Type 0} (spell : A → List Kind) where
  next_beside : (xs : List A) (at : ℕ) (x : A) → slice_get xs at ≡ Some x → beside (map spell (take (suc at) xs)) ≡ beside (map spell (take at xs)) ++ spell x
  next_beside [] at x e = cc
  next_beside (y ∷ xs) zero x e = let is : y ≡ x = cc in append-nil (spell y) ∙ ap spell is
  next_beside (y ∷ xs) (suc at) x e =
      ap (λ ks. spell y ++ ks) (next_beside xs at x e) ∙ sym (append_assoc (spell y) (beside (map spell (take at xs))) (spell x))

  -- a turn of a loop over parts side by side
  pub next_turn_beside : (first before after : Tokens) (xs : List A) (at : ℕ) (x : A) → Adds first before (beside (map spell (take at xs)))
      → Adds before after (spell x) → at < length xs → x ≡ get_or xs at x → Adds first after (beside (map spell (take (at + 1) xs)))
  next_turn_beside first before after xs at x b a h e =
      let one : at + 1 ≡ suc at = omega arith in
      adds_same first after _ _ (sym (next_beside xs at x (slice_get_read xs (length xs) at x refl h e)) ∙ ap (λ n. beside (map spell (take n xs))) (sym one))
      (adds_more first before after (beside (map spell (take at xs))) (spell x) b a)

-- how deep alternatives are, as the prover counts
abbrev pub alternatives_size : List (Pat × Exp) → ℕ
alternatives_size alternatives = most (λ alternative. max 0 (max (size-Exp alternative.1) 0)) alternatives

alternatives_spelled : (alternatives : List (Pat × Exp))
    → map spell_alternative (map (λ (alternative : Pat × Exp). (alternative.0, spelled_exp alternative.1)) alternatives) ≡ map spelled_alternative alternatives
alternatives_spelled [] = refl
alternatives_spelled (alternative ∷ alternatives) = ap (λ parts. spelled_alternative alternative ∷ parts) (alternatives_spelled alternatives)

pub case_spelled : (subject : Exp) (alternatives : List (Pat × Exp)) → spelled_exp (Case subject alternatives)
    ≡ Word word.Case ∷ (spelled_exp subject ++ Word word.Of ∷ (separated symbol.Bar (map spelled_alternative alternatives) ++ Word word.End ∷ []))
case_spelled subject alternatives =
    ap spelled_exp (sym (rolls-Case subject alternatives)) ∙ fold-roll-Exp (List Kind) spell_exp (Exp-F.Case subject alternatives)
    ∙ ap (λ parts. Word word.Case ∷ (spelled_exp subject ++ Word word.Of ∷ (separated symbol.Bar parts ++ Word word.End ∷ []))) (alternatives_spelled alternatives)

pub ruleset type_steps = (common_steps, ty_lemmas, append_assoc)

pub ruleset pattern_steps = (common_steps, pat_lemmas, append_assoc)

pub ruleset exp_steps = (common_steps, exp_lemmas, append_assoc)

pub ruleset case_steps = (common_steps, case_spelled, append_assoc)

pub ruleset part_steps = (common_steps, append_assoc)

pub some_handlers : (handlers : List (List ℕ × Option Pat × Exp)) → 0 < length handlers
    → spelled_handlers handlers ≡ Word word.Handle ∷ separated symbol.Bar (map spelled_handler handlers)
some_handlers [] h = absurd (omega arith)
some_handlers (handler ∷ handlers) h = refl

pub ruleset handler_steps = (common_steps, some_handlers, append_assoc)
