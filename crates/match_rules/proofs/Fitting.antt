-- A rule's test of the words in cells says whether the rule fits the values there.
use Rattle.std.proofs.Common.{◌≡◌, ℕ, zero, suc, ◌≤◌, ◌&&◌, true, List, [], ◌∷◌, map, Option, Some, None, slice_get, refl, ap, sym, ◌∙◌, subst, append-nil, arith}
use Rattle.std.specs.List.{All, list_all, find}
use Rattle.std.specs.Option.{is_some}
use Rattle.std.proofs.lemmas.Bool.{and_parts}
use Rattle.hume_base.specs.declared.limits.TheConstants.{MAX_TYPE_WORDS}
use Rattle.hume_base.specs.declared.types.Ty.{Ty}
use Rattle.hume_base.specs.declared.types.Types.{Types}
use Rattle.hume_base.specs.declared.types.ConDef.{ConDef}
use Rattle.hume_base.specs.declared.types.Value.{Value}
use Rattle.hume_base.specs.Sizes.{size_of}
use Rattle.hume_base.specs.Values.{is_value, fields_of}
use Rattle.hume_base.specs.Flat.{flat}
use Rattle.hume_model.specs.declared.core_tree.PatC.{PatC}
use Rattle.hume_model.specs.declared.core_tree.InPat.{InPat}
use Rattle.hume_model.specs.declared.core_tree.InPat.TheVariants.{Built}
use Rattle.hume_model.specs.declared.core_tree.RuleC.{RuleC}
use Rattle.hume_model.specs.declared.core_tree.BoxC.{BoxC}
use Rattle.hume_model.specs.declared.core_tree.Core.{Core}
use Rattle.hume_model.specs.BoxTyping.{PositionsHave, BoxHasFrame, port_types}
use Rattle.hume_model.specs.Firing.{rule_fits}
use Rattle.hume_model.specs.Limits.{IsSmallConstructor}
use Rattle.hume_model.specs.Matching.{fits_at, fits}
use Rattle.hume_model.specs.TypeLimits.{IsWrittenType}
use Rattle.hume_model.specs.Typing.{IsPattern}
use Rattle.hume_model.specs.WellFormed.{HasSoundFrame}
use Rattle.hume_net.specs.HalfSteps.{oldest}
use Rattle.wire_cells.specs.Cells.{CellView}
use Rattle.match_rules.specs.Inputs.{IsCellOf, AreCellsOf}
use Rattle.match_rules.specs.inner.WordTests.{word_test, first_passes, positions_test, rule_test}
use Rattle.match_rules.proofs.Testing.{AreSmall, FieldsAreSmall, pattern_tested}
use Rattle.match_rules.proofs.TypedCells.{words_held, typed_held}

all_get : {X : Type 0} (P : X → Type 0) (xs : List X) (i : ℕ) (x : X) → All P xs → slice_get xs i ≡ Some x → P x
all_get P [] i x all found = cc
all_get P (y ∷ ys) zero x all found = let same : y ≡ x = cc in subst P same (all 0 y (omega arith))
all_get P (y ∷ ys) (suc i) x all found = all_get P ys i x (λ k d less. all (suc k) d (omega (arith, less))) found

written_small : (types : Types) (tys : List Ty) → All (IsWrittenType types) tys → AreSmall types tys
written_small types [] all = tt
written_small types (t ∷ ts) all = ((all 0 t (omega arith)).words, written_small types ts (λ k d less. all (suc k) d (omega (arith, less))))

pub fields_small : (core : Core) → HasSoundFrame core → FieldsAreSmall core.types
fields_small core frame number place sum_type found = by (slice_get sum_type.cons place) refl
  where
    by : (o : Option ConDef) → slice_get sum_type.cons place ≡ o → AreSmall core.types (fields_of o)
    by None at = tt
    by (Some con) at = written_small core.types con.fields
        (all_get (IsSmallConstructor core.types) sum_type.cons place con (frame.limits.each_data_type number sum_type found).each_constructor at).each_field

module _ (core : Core) (frame : HasSoundFrame core) where
  pub type_small : (type : Ty) (cell : CellView) (held : List Value) → IsCellOf core type cell held → size_of core.types type ≤ MAX_TYPE_WORDS
  type_small type cell held is = subst (λ t. size_of core.types t ≤ MAX_TYPE_WORDS) is.ty (frame.wires cell.number is.wire is.there).written.words

  any_fits : (cell : CellView) (held : List Value) (type : Ty) → cell.values ≡ map (flat core.types type) held
      → first_passes (λ words. true) cell.values ≡ is_some (oldest held)
  any_fits cell [] type is = ap (first_passes (λ words. true)) is
  any_fits cell (v ∷ held) type is = ap (first_passes (λ words. true)) is

  built_fits : {type : Ty} {p : PatC} {vars : List Ty} → IsPattern core.types type p vars → (cell : CellView) (held : List Value)
      → size_of core.types type ≤ MAX_TYPE_WORDS
      → cell.values ≡ map (flat core.types type) held → list_all (is_value core.types type) held ≡ true
      → first_passes (word_test core.types p type) cell.values ≡ fits_at (Built p) (oldest held)
  built_fits {type = type} {p = p} is cell [] small words typed = ap (first_passes (word_test core.types p type)) words
  built_fits {type = type} {p = p} is cell (v ∷ held) small words typed =
      ap (first_passes (word_test core.types p type)) words
      ∙ ap (word_test core.types p type) (sym (append-nil (flat core.types type v)))
      ∙ pattern_tested core.types frame.holds (fields_small core frame) is v [] (and_parts _ _ typed).0 small

  pub positions_fit : {tys vars : List Ty} {pats : List InPat} → PositionsHave core.types tys pats vars → {cells : List CellView} {values : List (List Value)}
      → AreCellsOf core tys cells values → positions_test core.types pats tys cells ≡ fits pats (map oldest values)
  positions_fit PositionsHave.none cells = refl
  positions_fit (PositionsHave.star rest) (AreCellsOf.more one others) = positions_fit rest others
  positions_fit (PositionsHave.any_star rest) (AreCellsOf.more one others) = positions_fit rest others
  positions_fit (PositionsHave.any {ty = type} {tys = tys} {pats = pats} rest) (AreCellsOf.more {cell = cell} {cells = cells} {held = held} one others) =
      ap (λ b. b && positions_test core.types pats tys cells) (any_fits cell held type (words_held one))
      ∙ ap (λ b. is_some (oldest held) && b) (positions_fit rest others)
  positions_fit (PositionsHave.built {ty = type} {tys = tys} {p = p} {pats = pats} is rest)
      (AreCellsOf.more {cell = cell} {cells = cells} {held = held} one others) =
      ap (λ b. b && positions_test core.types pats tys cells) (built_fits is cell held (type_small type cell held one) (words_held one) (typed_held one))
      ∙ ap (λ b. fits_at (Built p) (oldest held) && b) (positions_fit rest others)

  module _ (b : BoxC) (typed : BoxHasFrame core b) (cells : List CellView) (values : List (List Value))
      (are : AreCellsOf core (port_types b.ins) cells values) where
    rule_fits_by : (number : ℕ) (o : Option RuleC) → slice_get b.rules number ≡ o
        → rule_test core.types (port_types b.ins) cells o ≡ rule_fits (map oldest values) o
    rule_fits_by number None found = refl
    rule_fits_by number (Some rule) found = positions_fit (typed.positions number rule found).have are

    pub first_fits : (order : List ℕ) → find (λ number. rule_test core.types (port_types b.ins) cells (slice_get b.rules number)) order
        ≡ find (λ number. rule_fits (map oldest values) (slice_get b.rules number)) order
    first_fits order = λ i. find (λ number. rule_fits_by number (slice_get b.rules number) refl i) order
