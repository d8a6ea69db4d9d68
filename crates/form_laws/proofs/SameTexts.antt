-- Two types with the same values, which are spelled the same, have the same good values in a text.
use Rattle.std.proofs.Common.{◌≡◌, ℕ, Bool, List, [], ◌∷◌, take, Option, ap, sym, ◌∙◌, subst, filter, not}
use Rattle.std.specs.List.{AllZip}
use Rattle.hume_base.specs.declared.types.Ty.{Ty}
use Rattle.hume_base.specs.declared.types.Types.{Types}
use Rattle.hume_base.specs.declared.types.Value.{Value}
use Rattle.hume_base.specs.Values.{is_value}
use Rattle.hume_text.specs.Read.{Cuts, IsReadable, IsTextOf}
use Rattle.hume_text.specs.Spelling.{Piece, spelling}
use Rattle.hume_streams.specs.Good.{HoldsValue, IsBad, IsFirstBad, IsGoodUntil}
use Rattle.hume_streams.specs.Lines.{is_empty, without_return}

-- The types have the same values, spelled the same.
pub record SameValues (types : Types) (ty : Ty) (others : Types) (other : Ty) : Type 0 where
  pub values : is_value types ty ≡ is_value others other
  pub spelled : spelling types ty ≡ spelling others other

pub same_back : {types : Types} {ty : Ty} {others : Types} {other : Ty} → SameValues types ty others other → SameValues others other types ty
same_back same = record { values = sym same.values; spelled = sym same.spelled }

module _ (types : Types) (ty : Ty) (others : Types) (other : Ty) (same : SameValues types ty others other) where
  text_of : (line : List ℕ) (value : Value) → IsTextOf types ty line value → IsTextOf others other line value
  text_of line value is = record {
    rest = is.rest;
    tokens = subst (λ (spelled : Value → List Piece). Cuts line (spelled value) is.rest) same.spelled is.tokens;
    blank = is.blank;
  }

  readable : (line : List ℕ) → IsReadable types ty line → IsReadable others other line
  readable line is = record {
    value = is.value;
    typed = ap (λ (test : Value → Bool). test is.value) (sym same.values) ∙ is.typed;
    text = text_of line is.value is.text;
  }

  holds_value : (line : List ℕ) (value : Value) → HoldsValue types ty line value → HoldsValue others other line value
  holds_value line value is = record {
    typed = ap (λ (test : Value → Bool). test value) (sym same.values) ∙ is.typed;
    text = text_of (without_return line) value is.text;
  }

  hold_each : (lines : List (List ℕ)) (values : List Value) → AllZip (HoldsValue types ty) lines values → AllZip (HoldsValue others other) lines values
  hold_each [] [] all = all
  hold_each [] (value ∷ values) all = absurd all
  hold_each (line ∷ lines) [] all = absurd all
  hold_each (line ∷ lines) (value ∷ values) all = (holds_value line value all.0, hold_each lines values all.1)

module _ (types : Types) (ty : Ty) (others : Types) (other : Ty) (same : SameValues types ty others other) where
  is_bad : (before : List (List ℕ)) (line : List ℕ) → IsBad types ty before line → IsBad others other before line
  is_bad before line (IsBad.TooLong long) = IsBad.TooLong long
  is_bad before line (IsBad.NoText some none) =
      IsBad.NoText some (λ is. none (readable others other types ty (same_back same) (without_return line) is))
  is_bad before line (IsBad.TooManyEmpty empty many) = IsBad.TooManyEmpty empty many

  first_bad : (before lines : List (List ℕ)) (bad : Option ℕ) → IsFirstBad types ty before lines bad → IsFirstBad others other before lines bad
  first_bad before [] bad is = is
  first_bad before (line ∷ lines) bad is = (is_bad before line is.0, is.1)

module _ (types : Types) (ty : Ty) (others : Types) (other : Ty) (same : SameValues types ty others other) where
  -- a text has the same good values, and the same first bad line
  pub same_good : (text : List ℕ) (good : List Value) (bad : Option ℕ) → IsGoodUntil types ty text good bad → IsGoodUntil others other text good bad
  same_good text good bad is = record {
    before = is.before;
    others = is.others;
    split = is.split;
    values = record {
      none_bad = λ place line at broken. is.values.none_bad place line at (is_bad others other types ty (same_back same) (take place is.before) line broken);
      texts = hold_each types ty others other same (filter (λ line. not (is_empty line)) is.before) good is.values.texts;
    };
    first_bad = first_bad types ty others other same is.before is.others bad is.first_bad;
  }
