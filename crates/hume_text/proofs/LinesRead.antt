-- Which lines are read, and into which words.
use Rattle.std.proofs.Common.{◌≡◌, ℕ, ◌≤◌, ◌==◌, true, List, [], ◌∷◌, length, take, Some, None, refl, ap, sym, ◌∙◌, arith}
use Rattle.std.proofs.lemmas.Bool.{eqb-true}
use Rattle.std.proofs.lemmas.List.{length-take, take_all}
use Rattle.hume_base.specs.declared.types.Ty.{Ty}
use Rattle.hume_base.specs.declared.types.Value.{Value}
use Rattle.hume_base.specs.declared.types.Types.{Types}
use Rattle.hume_base.specs.Sizes.{HaveTheirSizes, size_of}
use Rattle.hume_base.specs.Values.{is_value}
use Rattle.hume_base.specs.Flat.{flat}
use Rattle.hume_text.specs.Bounds.{IsPrintable}
use Rattle.hume_text.specs.Names.{HaveNames}
use Rattle.hume_text.specs.Read.{is_blank, behind, IsTextOf, IsReadable}
use Rattle.hume_text.specs.inner.Readers.{Reading, read_with, read_named}
use Rattle.hume_text.proofs.Inversions.{none_some, same_pair}
use Rattle.hume_text.proofs.NamedReading.{values_read}
use Rattle.hume_base.proofs.FlatLengths.{flat_long}

pub no_bytes : (bytes : List ℕ) → (length bytes == 0) ≡ true → bytes ≡ []
no_bytes [] e = refl
no_bytes (byte ∷ bytes) e = absurd (omega (arith, eqb-true (length (byte ∷ bytes)) 0 e))

module _ (types : Types) (sizes : HaveTheirSizes types) (names : HaveNames types) (ty : Ty) (printable : IsPrintable types ty) (room : ℕ) where
  abbrev pub reading : List ℕ → Reading
  reading line = read_with room (read_named types room (length types.sums)) ty [] line

  pub line_sound : (line more rest : List ℕ) → reading line ≡ Some (more, rest) → behind is_blank rest ≡ [] → IsReadable types ty line
  line_sound line more rest e blank =
      let own = (values_read types sizes printable.sizes names printable.others room ty printable.own.limits).0 [] line more rest e in
      record { value = own.0; typed = own.1; text = record { rest = rest; tokens = own.3; blank = blank } }

  pub line_complete : (line : List ℕ) (v : Value) → room ≡ size_of types ty → is_value types ty v ≡ true → (text : IsTextOf types ty line v)
      → reading line ≡ Some (flat types ty v, text.rest)
  line_complete line v enough typed text =
      (values_read types sizes printable.sizes names printable.others room ty printable.own.limits).1 v [] line text.rest typed
      (omega (arith, enough, flat_long types ty v typed)) text.tokens

  pub none_read : (line : List ℕ) → room ≡ size_of types ty → reading line ≡ None → IsReadable types ty line → ⊥
  none_read line enough e is = none_some (flat types ty is.value, is.text.rest) (sym e ∙ line_complete line is.value enough is.typed is.text)

  pub blank_read : (line more rest : List ℕ) → room ≡ size_of types ty → reading line ≡ Some (more, rest) → IsReadable types ty line → behind is_blank rest ≡ []
  blank_read line more rest enough e is =
      let same = same_pair more (flat types ty is.value) rest is.text.rest (sym e ∙ line_complete line is.value enough is.typed is.text) in
      ap (behind is_blank) same.1 ∙ is.text.blank

  pub words_read : (line rest into : List ℕ) (end : ℕ) (v : Value) → room ≡ size_of types ty → length into ≡ room → reading line ≡ Some (take end into, rest)
      → is_value types ty v ≡ true → IsTextOf types ty line v → into ≡ flat types ty v
  words_read line rest into end v enough long e typed text =
      let same : take end into ≡ flat types ty v = (same_pair (take end into) (flat types ty v) rest text.rest (sym e ∙ line_complete line v enough typed text)).0 in
      let count : length (take end into) ≡ length (flat types ty v) = ap (λ ws. length ws) same in
      let whole : length into ≤ end = omega (arith, count, flat_long types ty v typed, long, enough, length-take end into) in
      sym (take_all end into whole) ∙ same
