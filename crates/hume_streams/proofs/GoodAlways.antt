-- Each text has its good values.
use Rattle.std.proofs.Common.{◌≡◌, ℕ, ◌+◌, ◌<◌, ◌≤◌, ◌==◌, Bool, true, false, List, [], ◌∷◌, ◌++◌, length, Option, Some, None, refl, ap, sym, ◌∙◌, append_assoc, inl, inr, ◌⊎◌}
use Rattle.std.proofs.lemmas.Bool.{cases_lt}
use Rattle.hume_base.specs.declared.types.Ty.{Ty}
use Rattle.hume_base.specs.declared.types.Types.{Types}
use Rattle.hume_base.specs.declared.types.Value.{Value}
use Rattle.hume_base.specs.Sizes.{HaveTheirSizes, size_of}
use Rattle.hume_text.specs.Bounds.{IsPrintable}
use Rattle.hume_text.specs.Names.{HaveNames}
use Rattle.hume_text.specs.Read.{IsReadable, is_blank, behind}
use Rattle.hume_text.specs.inner.Readers.{Reading}
use Rattle.hume_text.proofs.LinesRead.{reading, line_sound, none_read, blank_read, no_bytes}
use Rattle.hume_streams.specs.Lines.{lines_of, is_empty, without_return}
use Rattle.hume_streams.specs.Good.{IsBad, TooLong, NoText, TooManyEmpty, HoldValues, IsGoodUntil, empty_at_end}
use Rattle.hume_streams.proofs.Judging.{hold-empty, hold-value}

none_some : {X : Type 0} (x : X) → ◌≡◌ {A = Option X} None (Some x) → ⊥
none_some x e = cc

module _ (types : Types) (ty : Ty) (sizes : HaveTheirSizes types) (names : HaveNames types) (printable : IsPrintable types ty) where
  readable : (line : List ℕ) → IsReadable types ty line ⊎ (IsReadable types ty line → ⊥)
  readable line = go (reading types sizes names ty printable (size_of types ty) line) refl
    where
      blank : (more rest : List ℕ) → reading types sizes names ty printable (size_of types ty) line ≡ Some (more, rest) → (b : Bool) → (length (behind is_blank rest) == 0) ≡ b
          → IsReadable types ty line ⊎ (IsReadable types ty line → ⊥)
      blank more rest e true z = inl (line_sound types sizes names ty printable (size_of types ty) line more rest e (no_bytes (behind is_blank rest) z))
      blank more rest e false z = inr (λ is.
          let none : (length (behind is_blank rest) == 0) ≡ true = ap (λ (bs : List ℕ). length bs == 0) (blank_read types sizes names ty printable (size_of types ty) line more rest refl e is) in
          let d : true ≡ false = sym none ∙ z in cc)

      go : (r : Reading) → reading types sizes names ty printable (size_of types ty) line ≡ r → IsReadable types ty line ⊎ (IsReadable types ty line → ⊥)
      go None e = inr (none_read types sizes names ty printable (size_of types ty) line refl e)
      go (Some (more, rest)) e = blank more rest e (length (behind is_blank rest) == 0) refl

  -- a line is bad, or another line more
  judged : (before : List (List ℕ)) (line : List ℕ) (values : List Value) → HoldValues types ty before values
      → IsBad types ty before line ⊎ ((more : List Value) × HoldValues types ty (before ++ line ∷ []) more)
  judged before line values h = by_length (cases_lt 65536 (length line))
    where
      by_row : length line ≤ 65536 → is_empty line ≡ true → (empty_at_end before < 65536 ⊎ 65536 ≤ empty_at_end before)
          → IsBad types ty before line ⊎ ((more : List Value) × HoldValues types ty (before ++ line ∷ []) more)
      by_row short empty (inl few) = inr (values, hold-empty types ty before values line h short empty few)
      by_row short empty (inr many) = inl (TooManyEmpty empty many)

      by_text : length line ≤ 65536 → is_empty line ≡ false → (IsReadable types ty (without_return line) ⊎ (IsReadable types ty (without_return line) → ⊥))
          → IsBad types ty before line ⊎ ((more : List Value) × HoldValues types ty (before ++ line ∷ []) more)
      by_text short full (inl is) = inr (values ++ is.value ∷ [], hold-value types ty before values line is.value h short full (record { typed = is.typed; text = is.text }))
      by_text short full (inr none) = inl (NoText full none)

      by_form : length line ≤ 65536 → (b : Bool) → is_empty line ≡ b → IsBad types ty before line ⊎ ((more : List Value) × HoldValues types ty (before ++ line ∷ []) more)
      by_form short true e = by_row short e (cases_lt (empty_at_end before) 65536)
      by_form short false e = by_text short e (readable (without_return line))

      by_length : (65536 < length line ⊎ length line ≤ 65536) → IsBad types ty before line ⊎ ((more : List Value) × HoldValues types ty (before ++ line ∷ []) more)
      by_length (inl long) = inl (TooLong long)
      by_length (inr short) = by_form short (is_empty line) refl

  -- where the lines before hold these values
  good_on : (text : List ℕ) (before lines : List (List ℕ)) (values : List Value) → lines_of text ≡ before ++ lines → HoldValues types ty before values
      → (good : List Value) × (bad : Option ℕ) × IsGoodUntil types ty text good bad
  good_on text before [] values e h = (values, None, record { before = before; others = []; split = e; values = h; first_bad = refl })
  good_on text before (line ∷ lines) values e h =
      by_line (judged before line values h) (λ more fine. good_on text (before ++ line ∷ []) lines more (e ∙ sym (append_assoc before (line ∷ []) lines)) fine)
    where
      by_line : (IsBad types ty before line ⊎ ((more : List Value) × HoldValues types ty (before ++ line ∷ []) more))
          → ((more : List Value) → HoldValues types ty (before ++ line ∷ []) more → (good : List Value) × (bad : Option ℕ) × IsGoodUntil types ty text good bad)
          → (good : List Value) × (bad : Option ℕ) × IsGoodUntil types ty text good bad
      by_line (inl bad) on = (values, Some (length before + 1), record { before = before; others = line ∷ lines; split = e; values = h; first_bad = (bad, refl) })
      by_line (inr fine) on = on fine.0 fine.1

  pub good_always : (text : List ℕ) → (good : List Value) × (bad : Option ℕ) × IsGoodUntil types ty text good bad
  good_always text = good_on text [] (lines_of text) [] refl (record { none_bad = λ place line e bad. none_some line e; texts = tt })
