-- What the bare forms of a core and a box keep.
use Rattle.std.proofs.Common.{◌≡◌, ◌≤◌, ◌&&◌, ◌∷◌, [], ℕ, true, List, length, map, get_or, Option, Some, None, slice_get, refl, ap, sym, ◌∙◌, subst}
use Rattle.std.specs.List.{find, list_all}
use Rattle.std.specs.Option.{option_map}
use Rattle.std.proofs.lemmas.Option.{slice_get-map, slice_get-get_or, slice_get_within}
use Rattle.std.proofs.lemmas.List.{length-map}
use Rattle.std.proofs.lemmas.List.Elements.{All-get_or}
use Rattle.hume_base.specs.declared.limits.TheConstants.{MAX_RULES}
use Rattle.hume_base.specs.declared.types.Ty.{Ty}
use Rattle.hume_base.specs.declared.types.Value.{Value}
use Rattle.hume_model.specs.declared.core_tree.RuleC.{RuleC}
use Rattle.hume_model.specs.declared.core_tree.BoxC.{BoxC}
use Rattle.hume_model.specs.declared.core_tree.NodeC.TheVariants.{Rules}
use Rattle.hume_model.specs.declared.core_tree.Core.{Core}
use Rattle.hume_model.specs.BoxTyping.{BoxHasFrame, port_types}
use Rattle.hume_model.specs.Firing.{rule_fits}
use Rattle.hume_model.specs.Limits.{IsSmallBox, IsSmallNode}
use Rattle.hume_model.specs.WellFormed.{HasSoundFrame}
use Rattle.model_bare.specs.Bare.{bare_rule, bare_box, bare_node, bare_of}
use Rattle.model_bare.proofs.Frames.{bare_frame}
use Rattle.wire_cells.specs.Cells.{CellView}
use Rattle.match_rules.specs.Inputs.{IsCellOf, AreCellsOf}
use Rattle.box_step.specs.Boxes.{AreBareForms, IsSoundBox}
use Rattle.match_rules.specs.Choosing.{first_fitting}
use Rattle.match_rules.specs.Plain.{plain_box, plain_rule}
use Rattle.match_rules.proofs.PlainRules.{rule_plain}

pub frame_of : {core : Core} {b : BoxC} {bare : Core} → IsSoundBox core b → bare ≡ bare_of core → HasSoundFrame bare
frame_of {core = core} sound is = subst HasSoundFrame (sym is) (bare_frame core sound.formed.frame)

pub box_frame_of : {core : Core} {b : BoxC} {bare : Core} → IsSoundBox core b → bare ≡ bare_of core → BoxHasFrame bare (bare_box b)
box_frame_of {core = core} {b = b} {bare = bare} sound is =
    (frame_of sound is).boxes sound.node (bare_box b)
    (ap (λ (c : Core). slice_get c.nodes sound.node) is ∙ slice_get-map bare_node core.nodes sound.node ∙ ap (option_map bare_node) sound.there)

one_cell : (core : Core) {ty : Ty} {cell : CellView} {held : List Value} → IsCellOf core ty cell held → IsCellOf (bare_of core) ty cell held
one_cell core is = record { wire = is.wire; there = is.there; ty = is.ty; holds = is.holds }

all_cells : (core : Core) {tys : List Ty} {cells : List CellView} {values : List (List Value)} → AreCellsOf core tys cells values
    → AreCellsOf (bare_of core) tys cells values
all_cells core AreCellsOf.none = AreCellsOf.none
all_cells core (AreCellsOf.more one others) = AreCellsOf.more (one_cell core one) (all_cells core others)

-- cells are those of the bare core too
pub cells_of : {core bare : Core} {tys : List Ty} {cells : List CellView} {values : List (List Value)} → bare ≡ bare_of core → AreCellsOf core tys cells values
    → AreCellsOf bare tys cells values
cells_of {core = core} {tys = tys} {cells = cells} {values = values} is are = subst (λ c. AreCellsOf c tys cells values) (sym is) (all_cells core are)

fits_bare : (ins : List (Option Value)) (o : Option RuleC) → rule_fits ins (option_map bare_rule o) ≡ rule_fits ins o
fits_bare ins None = refl
fits_bare ins (Some rule) = refl

-- the same rule fits first
pub first_same : (b : BoxC) (order : List ℕ) (ins : List (Option Value)) → first_fitting (bare_box b) order ins ≡ first_fitting b order ins
first_same b order ins = λ i. find (λ number. same number i) order
  where
    same : (number : ℕ) → rule_fits ins (slice_get (map bare_rule b.rules) number) ≡ rule_fits ins (slice_get b.rules number)
    same number = ap (rule_fits ins) (slice_get-map bare_rule b.rules number) ∙ fits_bare ins (slice_get b.rules number)

-- which rule of the whole box a rule of the bare one is
pub whole_rule : (b : BoxC) (number : ℕ) (rule : RuleC) → slice_get (bare_box b).rules number ≡ Some rule
    → (whole : RuleC) × (slice_get b.rules number ≡ Some whole) × (rule ≡ bare_rule whole)
whole_rule b number rule found = by (slice_get b.rules number) refl
  where
    by : (o : Option RuleC) → slice_get b.rules number ≡ o → (whole : RuleC) × (slice_get b.rules number ≡ Some whole) × (rule ≡ bare_rule whole)
    by None at = absurd (let both : None ≡ Some rule = ap (option_map bare_rule) (sym at) ∙ sym (slice_get-map bare_rule b.rules number) ∙ found in cc)
    by (Some whole) at =
        let both : Some (bare_rule whole) ≡ Some rule = ap (option_map bare_rule) (sym at) ∙ sym (slice_get-map bare_rule b.rules number) ∙ found in
        (whole, at, cc)

-- where the bare box has no rule, the whole one has none
pub no_rule : (b : BoxC) (number : ℕ) → slice_get (bare_box b).rules number ≡ None → slice_get b.rules number ≡ None
no_rule b number found = by (slice_get b.rules number) refl
  where
    by : (o : Option RuleC) → slice_get b.rules number ≡ o → slice_get b.rules number ≡ None
    by None at = at
    by (Some whole) at =
        let both : Some (bare_rule whole) ≡ None = ap (option_map bare_rule) (sym at) ∙ sym (slice_get-map bare_rule b.rules number) ∙ found in
        absurd cc

-- the box is within the limits
pub small_box : {core : Core} {b : BoxC} → IsSoundBox core b → IsSmallBox core.types b
small_box {core = core} {b = b} sound =
    let inside = slice_get_within core.nodes sound.node (Rules b) sound.there in
    let both = sym (slice_get-get_or core.nodes sound.node (Rules b) inside) ∙ sound.there in
    let same : get_or core.nodes sound.node (Rules b) ≡ Rules b = cc in
    subst (IsSmallNode core.types) same
    (All-get_or (IsSmallNode core.types) core.nodes sound.node (Rules b) inside sound.formed.frame.limits.each_node)

-- so it has no more rules than are allowed
pub few_rules : {core : Core} {b : BoxC} → IsSoundBox core b → length b.rules ≤ MAX_RULES
few_rules sound = (small_box sound).rules

-- the bare box has as many rules
pub few_bare_rules : {core : Core} {b : BoxC} {bare : Core} {bare_b : BoxC} → AreBareForms core b bare bare_b → length bare_b.rules ≡ length b.rules
few_bare_rules {b = b} forms = ap (λ (x : BoxC). length x.rules) forms.box_is ∙ length-map b.rules bare_rule

rules_plain : (types : List Ty) (rules : List RuleC) → list_all (plain_rule types) (map bare_rule rules) ≡ list_all (plain_rule types) rules
rules_plain types [] = refl
rules_plain types (rule ∷ rules) = ap (λ others. plain_rule types rule && others) (rules_plain types rules)

-- the bare box is plain where the whole one is
pub bare_plain : {core : Core} {b : BoxC} {bare : Core} {bare_b : BoxC} → AreBareForms core b bare bare_b → plain_box bare_b ≡ plain_box b
bare_plain {b = b} forms = ap plain_box forms.box_is ∙ rules_plain (port_types b.ins) b.rules

-- a rule of a plain box is plain, and so is its bare form
pub plain_there : (b : BoxC) (number : ℕ) (rule bare : RuleC) → plain_box b ≡ true → slice_get b.rules number ≡ Some rule → bare ≡ bare_rule rule
    → plain_rule (port_types b.ins) bare ≡ true
plain_there b number rule bare all there is =
    ap (plain_rule (port_types b.ins)) is ∙ rule_plain b number rule all there
