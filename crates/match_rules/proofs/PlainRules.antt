-- What a plain rule takes: single words, each of which is its value.
use Rattle.std.proofs.Common.{◌≡◌, ℕ, zero, suc, ◌+◌, ◌<◌, ◌≤◌, ◌==◌, ◌&&◌, nat_lt, Bool, true, false, if◌then◌else◌, List, [], ◌∷◌, ◌++◌, map, length, take, drop, sum, get_or, slice_set, Option, Some, None, slice_get, refl, ap, sym, ◌∙◌, subst, append-nil, arith}
use Rattle.std.specs.List.{list_all, find}
use Rattle.std.specs.Option.{is_some}
use Rattle.std.proofs.lemmas.Bool.{and_parts, eqb-true, lt-ltb, le-ltb}
use Rattle.std.proofs.lemmas.Option.{slice_get_within, get_or_from_slice_get}
use Rattle.hume_base.specs.declared.types.Ty.{Ty, out-Ty, roll-Ty, roll-out-Ty, map-Ty, fold-roll-Ty}
use Rattle.hume_base.specs.declared.types.Ty.TheOpen.{Ty-F}
use Rattle.hume_base.specs.declared.types.Types.{Types}
use Rattle.hume_base.specs.declared.types.Value.{Value, out-Value, roll-Value, roll-out-Value}
use Rattle.hume_base.specs.declared.types.Value.TheOpen.{Value-F}
use Rattle.hume_base.specs.declared.types.Value.TheVariants as value
use Rattle.hume_base.specs.Values.{is_value, is_value_with, value_step, is_word_of, is_named_value}
use Rattle.hume_base.specs.Flat.{flat, flat_with, flat_step, named_words, word_in}
use Rattle.hume_model.specs.declared.core_tree.PatC.{PatC, out-PatC, roll-PatC, roll-out-PatC}
use Rattle.hume_model.specs.declared.core_tree.PatC.TheOpen.{PatC-F}
use Rattle.hume_model.specs.declared.core_tree.PatC.TheVariants as pat
use Rattle.hume_model.specs.declared.core_tree.InPat.{InPat}
use Rattle.hume_model.specs.declared.core_tree.InPat.TheVariants.{Star, AnyStar, Any, Built}
use Rattle.hume_model.specs.declared.core_tree.RuleC.{RuleC}
use Rattle.hume_model.specs.declared.core_tree.BoxC.{BoxC}
use Rattle.hume_model.specs.declared.core_tree.Core.{Core}
use Rattle.hume_model.specs.BoxTyping.{port_types}
use Rattle.hume_model.specs.Firing.{rule_fits}
use Rattle.hume_model.specs.Matching.{fits_at, fits, taken_at}
use Rattle.hume_model.specs.Patterns.{matches}
use Rattle.hume_model.specs.Typing.{is_scalar_layer}
use Rattle.hume_model.proofs.Layers.{variable-match}
use Rattle.hume_net.specs.HalfSteps.{oldest}
use Rattle.box_costs.specs.Building.{built_of}
use Rattle.box_costs.specs.Bounds.{built_patterns}
use Rattle.box_costs.specs.ResultSpending.{built_values}
use Rattle.box_costs.proofs.CostSteps.{sum_more}
use Rattle.box_heap.specs.Heaps.{HeapView, HasObjects, Object}
use Rattle.box_heap.specs.Stacks.{StackView, with_word, with_words}
use Rattle.box_heap.specs.Standing.{Stands, AllStand}
use Rattle.wire_cells.specs.Cells.{CellView, without_values}
use Rattle.wire_cells.specs.Homes.{AreApart, AreAtHome}
use Rattle.wire_cells.proofs.AtHome.{one_set}
use Rattle.match_rules.specs.Choosing.{first_fitting}
use Rattle.match_rules.specs.Inputs.{IsCellOf, AreCellsOf, AreBuilt, left_in}
use Rattle.match_rules.specs.Plain.{is_variable, plain_pattern, scalar, plain_rule, plain_box, ArePlainInputs}
use Rattle.match_rules.specs.inner.Words.{is_full, first_word, word_in_cell, without_first}
use Rattle.match_rules.proofs.TypedCells.{words_held, typed_held}
use Rattle.match_rules.proofs.ValuesBuilt.{word_takes}

-- a value of a type of single words

in_word : (test : ℕ → Bool) (l : Value-F Value) → is_word_of test l ≡ true → l ≡ Value-F.Word (word_in l)
in_word test (Value-F.Word w) is = refl
in_word test (Value-F.Tuple vs) is = cc
in_word test (Value-F.Vector vs) is = cc
in_word test (Value-F.Con c vs) is = cc

module _ (types : Types) (v : Value) where
  abbrev named : ℕ → Value → Bool
  named = is_named_value types (length types.sums)

  abbrev words_of : ℕ → Value → List ℕ
  words_of = named_words types (length types.sums)

  layer_word : (x : Ty-F Ty) → is_scalar_layer x ≡ true → value_step named (map-Ty Ty (Value → Bool) (is_value_with named) x) v ≡ true
      → out-Value v ≡ Value-F.Word (word_in (out-Value v))
  layer_word Ty-F.Bool s is = in_word _ (out-Value v) is
  layer_word Ty-F.Char s is = in_word _ (out-Value v) is
  layer_word (Ty-F.Int bits) s is = in_word _ (out-Value v) is
  layer_word (Ty-F.Nat bits) s is = in_word _ (out-Value v) is
  layer_word (Ty-F.Tuple ts) s is = cc
  layer_word (Ty-F.Vector count item) s is = cc
  layer_word (Ty-F.Named number) s is = cc

  layer_flat : (x : Ty-F Ty) → is_scalar_layer x ≡ true
      → flat_step words_of (map-Ty Ty (Value → List ℕ) (flat_with words_of) x) v ≡ word_in (out-Value v) ∷ []
  layer_flat Ty-F.Bool s = refl
  layer_flat Ty-F.Char s = refl
  layer_flat (Ty-F.Int bits) s = refl
  layer_flat (Ty-F.Nat bits) s = refl
  layer_flat (Ty-F.Tuple ts) s = cc
  layer_flat (Ty-F.Vector count item) s = cc
  layer_flat (Ty-F.Named number) s = cc

  -- it is its word
  pub own_word : (t : Ty) → scalar t ≡ true → is_value types t v ≡ true → value.Word (word_in (out-Value v)) ≡ v
  own_word t s is =
      let layer = out-Ty t in
      let again : t ≡ roll-Ty layer = sym (roll-out-Ty t) in
      let test = fold-roll-Ty (Value → Bool) (value_step named) layer in
      let word = layer_word layer s (ap (λ (f : Value → Bool). f v) (sym test ∙ ap (is_value_with named) (sym again)) ∙ is) in
      sym (value.rolls-Word (word_in (out-Value v))) ∙ ap roll-Value (sym word) ∙ roll-out-Value v

  -- and has that word alone
  pub own_words : (t : Ty) → scalar t ≡ true → flat types t v ≡ word_in (out-Value v) ∷ []
  own_words t s =
      let layer = out-Ty t in
      let again : t ≡ roll-Ty layer = sym (roll-out-Ty t) in
      let words = fold-roll-Ty (Value → List ℕ) (flat_step words_of) layer in
      ap (λ (f : Value → List ℕ). f v) (ap (flat_with words_of) again ∙ words) ∙ layer_flat layer s

-- each position has a pattern, and its cell holds a value of one word
pub data AreWords : List InPat → List CellView → List (List Value) → Type 0 where
  none : AreWords [] [] []
  more : {pats : List InPat} {cells : List CellView} {values : List (List Value)} {cell : CellView} (pattern : PatC) (word : ℕ) (later : List Value)
      (others : List (List ℕ)) → cell.values ≡ (word ∷ []) ∷ others → AreWords pats cells values
      → AreWords (Built pattern ∷ pats) (cell ∷ cells) ((value.Word word ∷ later) ∷ values)

module _ (core : Core) where
  one_more : (type : Ty) (p : InPat) (cell : CellView) (held : List Value) (pats : List InPat) (cells : List CellView) (values : List (List Value))
      → IsCellOf core type cell held → plain_pattern p ≡ true → scalar type ≡ true → fits_at p (oldest held) ≡ true → AreWords pats cells values
      → AreWords (p ∷ pats) (cell ∷ cells) (held ∷ values)
  one_more type Star cell held pats cells values is plain s fit rest = cc
  one_more type AnyStar cell held pats cells values is plain s fit rest = cc
  one_more type Any cell held pats cells values is plain s fit rest = cc
  one_more type (Built p) cell [] pats cells values is plain s fit rest = cc
  one_more type (Built p) cell (v ∷ later) pats cells values is plain s fit rest =
      let typed = (and_parts _ _ (typed_held is)).0 in
      let others = map (flat core.types type) later in
      subst (λ u. AreWords (Built p ∷ pats) (cell ∷ cells) ((u ∷ later) ∷ values)) (own_word core.types v type s typed)
      (AreWords.more p (word_in (out-Value v)) later others (words_held is ∙ ap (λ ws. ws ∷ others) (own_words core.types v type s)) rest)

  all_words : {types : List Ty} {cells : List CellView} {values : List (List Value)} (pats : List InPat) → AreCellsOf core types cells values
      → list_all plain_pattern pats ≡ true → length pats ≡ length types → list_all scalar types ≡ true → fits pats (map oldest values) ≡ true
      → AreWords pats cells values
  all_words [] AreCellsOf.none plain long s fit = AreWords.none
  all_words [] (AreCellsOf.more one rest) plain long s fit = absurd (omega (arith, long))
  all_words (p ∷ pats) AreCellsOf.none plain long s fit = absurd (omega (arith, long))
  all_words (p ∷ pats) (AreCellsOf.more {type = type} {types = types} {cell = cell} {cells = cells} {held = held} {others = others} one rest) plain long s fit =
      let plains = and_parts (plain_pattern p) (list_all plain_pattern pats) plain in
      let scalars = and_parts (scalar type) (list_all scalar types) s in
      let fitting = and_parts (fits_at p (oldest held)) (fits pats (map oldest others)) fit in
      one_more type p cell held pats cells others one plains.0 scalars.0 fitting.0
      (all_words pats rest plains.1 (omega (arith, long)) scalars.1 fitting.1)

  pub plain_words : (types : List Ty) (rule : RuleC) (cells : List CellView) (values : List (List Value)) → ArePlainInputs core types rule cells values
      → AreWords rule.pats cells values
  plain_words types rule cells values are =
      let parts = and_parts (list_all plain_pattern rule.pats && (length rule.pats == length types)) (list_all scalar types) are.plain in
      let more = and_parts (list_all plain_pattern rule.pats) (length rule.pats == length types) parts.0 in
      all_words rule.pats are.cells more.0 (eqb-true (length rule.pats) (length types) more.1) parts.1 are.fit

-- what is read of them

pub as_many_patterns : {pats : List InPat} {cells : List CellView} {values : List (List Value)} → AreWords pats cells values
    → length (built_patterns pats) ≡ length cells
as_many_patterns AreWords.none = refl
as_many_patterns (AreWords.more p w later others is rest) = ap (λ n. suc n) (as_many_patterns rest)

words_many : {pats : List InPat} {cells : List CellView} {values : List (List Value)} → AreWords pats cells values
    → length (map word_in_cell cells) ≡ length (built_values pats (map oldest values))
words_many AreWords.none = refl
words_many (AreWords.more p w later others is rest) = ap (λ n. suc n) (words_many rest)

words_stand : {pats : List InPat} {cells : List CellView} {values : List (List Value)} (objects : List Object) → AreWords pats cells values
    → AllStand objects (built_values pats (map oldest values)) (map word_in_cell cells)
words_stand objects AreWords.none = AllStand.none
words_stand objects (AreWords.more {pats = pats} {cells = cells} {values = values} {cell = cell} p w later others is rest) =
    subst (λ u. AllStand objects (value.Word w ∷ built_values pats (map oldest values)) (u ∷ map word_in_cell cells)) (sym (ap first_word is))
    (AllStand.more (Stands.word w) (words_stand objects rest))

nothing_put : {pats : List InPat} {cells : List CellView} {values : List (List Value)} → AreWords pats cells values
    → sum (map built_of (built_values pats (map oldest values))) ≡ 0
nothing_put AreWords.none = refl
nothing_put (AreWords.more {pats = pats} {values = values} p w later others is rest) =
    let all = sum_more (built_of (value.Word w)) (map built_of (built_values pats (map oldest values))) in
    let own = word_takes w in
    let more = nothing_put rest in
    omega (arith, all, own, more)

pub words_built : {pats : List InPat} {cells : List CellView} {values : List (List Value)} → AreWords pats cells values
    → (heap : HeapView) (stack top : StackView) → top ≡ with_words stack (map word_in_cell cells)
    → AreBuilt (built_values pats (map oldest values)) heap heap stack top
words_built {pats = pats} {cells = cells} {values = values} are heap stack top pushed = record {
  objects = [];
  words = map word_in_cell cells;
  put = refl;
  pushed = pushed;
  each = words_many are;
  takes = sym (nothing_put are);
  has = λ before has. subst (HasObjects heap) (sym (append-nil before)) has;
  stand = λ before has. words_stand (before ++ []) are;
}

pub words_left : {pats : List InPat} {cells : List CellView} {values : List (List Value)} → AreWords pats cells values
    → map without_first cells ≡ left_in (taken_at pats (map oldest values)) cells
words_left AreWords.none = refl
words_left (AreWords.more {cell = cell} p w later others is rest) = ap (λ cs. without_first cell ∷ cs) (words_left rest)

pub firsts_kept : (cells : List CellView) → map without_values (map without_first cells) ≡ map without_values cells
firsts_kept [] = refl
firsts_kept (cell ∷ cells) = ap (λ cs. without_values cell ∷ cs) (firsts_kept cells)

-- the cell at a place holds a value of one word
abbrev pub HasWord : CellView → Type 0
HasWord cell = (word : ℕ) × (later : List (List ℕ)) × (cell.values ≡ (word ∷ []) ∷ later)

pub word_at : {pats : List InPat} {cells : List CellView} {values : List (List Value)} → AreWords pats cells values → (i : ℕ) (d : CellView) → i < length cells
    → HasWord (get_or cells i d)
word_at AreWords.none i d less = absurd (omega (arith, less))
word_at (AreWords.more p w later others is rest) zero d less = (w, others, is)
word_at (AreWords.more p w later others is rest) (suc i) d less = word_at rest i d (omega (arith, less))

-- cell by cell

-- the cells once so many have lost their first values
abbrev pub first_less : ℕ → List CellView → List CellView
first_less i cells = map without_first (take i cells) ++ drop i cells

still_first : (cells : List CellView) (i : ℕ) (d : CellView) → i < length cells → get_or (first_less i cells) i d ≡ get_or cells i d
still_first [] i d less = absurd (omega (arith, less))
still_first (cell ∷ cells) zero d less = refl
still_first (cell ∷ cells) (suc i) d less = still_first cells i d (omega (arith, less))

next_less : (cells : List CellView) (i : ℕ) (d : CellView) → i < length cells
    → slice_set (first_less i cells) i (without_first (get_or cells i d)) ≡ first_less (suc i) cells
next_less [] i d less = absurd (omega (arith, less))
next_less (cell ∷ cells) zero d less = refl
next_less (cell ∷ cells) (suc i) d less = ap (λ cs. without_first cell ∷ cs) (next_less cells i d (omega (arith, less)))

pub all_less : (cells : List CellView) (i : ℕ) → i ≡ length cells → first_less i cells ≡ map without_first cells
all_less [] i is = ap (λ k. first_less k []) (let e : i ≡ 0 = omega (arith, is) in e)
all_less (cell ∷ cells) zero is = absurd (omega (arith, is))
all_less (cell ∷ cells) (suc i) is = ap (λ cs. without_first cell ∷ cs) (all_less cells i (omega (arith, is)))

-- the cell that is at home at a number whose turn is still to come
pub first_here : (side : List ℕ) (home : List (Option CellView)) (cells : List CellView) (i w : ℕ) (cell : CellView) → AreAtHome side home (first_less i cells)
    → slice_get side i ≡ Some w → slice_get home w ≡ Some (Some cell) → i < length cells → cell ≡ get_or cells i cell
first_here side home cells i w cell at here there less =
    let done = first_less i cells in
    let found : slice_get done i ≡ Some cell = (let both : Some (slice_get done i) ≡ Some (Some cell) = sym (at.each i w here) ∙ there in cc) in
    sym (get_or_from_slice_get done i cell cell found) ∙ still_first cells i cell less

-- one cell more
pub next_first : (side : List ℕ) → AreApart side → (home : List (Option CellView)) (cells : List CellView) (i w : ℕ) (cell new : CellView)
    → AreAtHome side home (first_less i cells) → slice_get side i ≡ Some w → slice_get home w ≡ Some (Some cell) → i < length cells
    → new ≡ without_first cell → AreAtHome side (slice_set home w (Some new)) (first_less (suc i) cells)
next_first side apart home cells i w cell new at here there less left =
    let next : new ≡ without_first (get_or cells i cell) = left ∙ ap without_first (first_here side home cells i w cell at here there less) in
    subst (AreAtHome side (slice_set home w (Some new))) (ap (slice_set (first_less i cells) i) next ∙ next_less cells i cell less)
    (one_set side apart i w here home new (first_less i cells) at)

-- the words of the cells before a place
abbrev pub words_before : ℕ → List CellView → List ℕ
words_before i cells = map word_in_cell (take i cells)

pub next_word : (stack : StackView) (cells : List CellView) (i : ℕ) (d : CellView) → i < length cells
    → with_word (with_words stack (words_before i cells)) (word_in_cell (get_or cells i d)) ≡ with_words stack (words_before (suc i) cells)
next_word stack [] i d less = absurd (omega (arith, less))
next_word stack (cell ∷ cells) zero d less = refl
next_word stack (cell ∷ cells) (suc i) d less = next_word (with_word stack (word_in_cell cell)) cells i d (omega (arith, less))

pub pushed_many : (stack : StackView) (cells : List CellView) (i : ℕ) → i ≤ length cells
    → length (with_words stack (words_before i cells)).words ≡ length stack.words + i
pushed_many stack cells zero less = omega arith
pushed_many stack [] (suc i) less = absurd (omega (arith, less))
pushed_many stack (cell ∷ cells) (suc i) less =
    let more = pushed_many (with_word stack (word_in_cell cell)) cells i (omega (arith, less)) in
    let one = length_one stack.words (word_in_cell cell) in
    omega (arith, more, one)
  where
    length_one : (words : List ℕ) (word : ℕ) → length (words ++ word ∷ []) ≡ length words + 1
    length_one [] word = omega arith
    length_one (w ∷ words) word = let e = length_one words word in omega (arith, e)

-- which rules fit

pub next_full : (cells : List CellView) (i : ℕ) (cell : CellView) → slice_get cells i ≡ Some cell
    → list_all is_full (drop i cells) ≡ (is_full cell && list_all is_full (drop (suc i) cells))
next_full [] i cell is = cc
next_full (x ∷ cells) zero cell is = let same : x ≡ cell = cc in ap (λ c. is_full c && list_all is_full cells) same
next_full (x ∷ cells) (suc i) cell is = next_full cells i cell is

variable_layer : (l : PatC-F PatC) → is_variable l ≡ true → l ≡ PatC-F.Var
variable_layer PatC-F.Var is = refl
variable_layer PatC-F.Any is = cc
variable_layer (PatC-F.Word w) is = cc
variable_layer (PatC-F.Con place ps) is = cc
variable_layer (PatC-F.Tuple ps) is = cc

variable_fits : (p : PatC) (v : Value) → is_variable (out-PatC p) ≡ true → is_some (matches p v) ≡ true
variable_fits p v is =
    let same : p ≡ pat.Var = sym (roll-out-PatC p) ∙ ap roll-PatC (variable_layer (out-PatC p) is) ∙ pat.rolls-Var in
    ap (λ q. is_some (matches q v)) same ∙ ap (λ (m : Option (List Value)). is_some m) (variable-match v)

each_passes : {X : Type 0} (test : X → Bool) (xs : List X) (i : ℕ) (x : X) → list_all test xs ≡ true → slice_get xs i ≡ Some x → test x ≡ true
each_passes test [] i x all found = cc
each_passes test (y ∷ ys) zero x all found = let same : y ≡ x = cc in ap test (sym same) ∙ (and_parts _ _ all).0
each_passes test (y ∷ ys) (suc i) x all found = each_passes test ys i x (and_parts _ _ all).1 found

past_end : {X : Type 0} (xs : List X) (i : ℕ) → slice_get xs i ≡ None → length xs ≤ i
past_end [] i missing = omega arith
past_end (x ∷ xs) zero missing = cc
past_end (x ∷ xs) (suc i) missing = let more = past_end xs i missing in omega (arith, more)

no_rule : (b : Bool) → false ≡ (b && false)
no_rule true = refl
no_rule false = refl

only : (b : Bool) → b ≡ (b && true)
only true = refl
only false = refl

-- each rule of a plain box is plain
pub rule_plain : (b : BoxC) (number : ℕ) (rule : RuleC) → plain_box b ≡ true → slice_get b.rules number ≡ Some rule
    → plain_rule (port_types b.ins) rule ≡ true
rule_plain b number rule plain found = each_passes (plain_rule (port_types b.ins)) b.rules number rule plain found

module _ (core : Core) where
  position_full : (type : Ty) (p : InPat) (cell : CellView) (held : List Value) → IsCellOf core type cell held → plain_pattern p ≡ true
      → fits_at p (oldest held) ≡ is_full cell
  position_full type Star cell held is plain = cc
  position_full type AnyStar cell held is plain = cc
  position_full type Any cell held is plain = cc
  position_full type (Built p) cell [] is plain = sym (ap (λ (vs : List (List ℕ)). nat_lt 0 (length vs)) (words_held is))
  position_full type (Built p) cell (v ∷ later) is plain =
      let some : nat_lt 0 (length (map (flat core.types type) (v ∷ later))) ≡ true = lt-ltb _ _ (omega arith) in
      variable_fits p v plain ∙ sym (ap (λ (vs : List (List ℕ)). nat_lt 0 (length vs)) (words_held is) ∙ some)

  fits_full : {types : List Ty} {cells : List CellView} {values : List (List Value)} (pats : List InPat) → AreCellsOf core types cells values
      → list_all plain_pattern pats ≡ true → length pats ≡ length types → fits pats (map oldest values) ≡ list_all is_full cells
  fits_full [] AreCellsOf.none plain long = refl
  fits_full [] (AreCellsOf.more one rest) plain long = absurd (omega (arith, long))
  fits_full (p ∷ pats) AreCellsOf.none plain long = absurd (omega (arith, long))
  fits_full (p ∷ pats) (AreCellsOf.more {type = type} {cell = cell} {cells = cells} {held = held} {others = others} one rest) plain long =
      let plains = and_parts (plain_pattern p) (list_all plain_pattern pats) plain in
      ap (λ b. b && fits pats (map oldest others)) (position_full type p cell held one plains.0)
      ∙ ap (λ b. is_full cell && b) (fits_full pats rest plains.1 (omega (arith, long)))

  module _ (b : BoxC) (plain : plain_box b ≡ true) (cells : List CellView) (values : List (List Value))
      (are : AreCellsOf core (port_types b.ins) cells values) where
    rule_full : (number : ℕ) (o : Option RuleC) → slice_get b.rules number ≡ o
        → rule_fits (map oldest values) o ≡ (list_all is_full cells && nat_lt number (length b.rules))
    rule_full number None found =
        no_rule (list_all is_full cells)
        ∙ ap (λ t. list_all is_full cells && t) (sym (le-ltb number (length b.rules) (past_end b.rules number found)))
    rule_full number (Some rule) found =
        let types = port_types b.ins in
        let own = rule_plain b number rule plain found in
        let parts = and_parts (list_all plain_pattern rule.pats && (length rule.pats == length types)) (list_all scalar types) own in
        let more = and_parts (list_all plain_pattern rule.pats) (length rule.pats == length types) parts.0 in
        fits_full rule.pats are more.0 (eqb-true (length rule.pats) (length types) more.1) ∙ only (list_all is_full cells)
        ∙ ap (λ t. list_all is_full cells && t) (sym (lt-ltb number (length b.rules) (slice_get_within b.rules number rule found)))

    none_found : (k : ℕ) (full : Bool) (order : List ℕ) → find (λ number. full && nat_lt number k) order
        ≡ (if full then find (λ number. nat_lt number k) order else None)
    none_found k true order = refl
    none_found k false [] = refl
    none_found k false (number ∷ order) = none_found k false order

    pub first_when : (order : List ℕ) → first_fitting b order (map oldest values)
        ≡ (if list_all is_full cells then find (λ number. nat_lt number (length b.rules)) order else None)
    first_when order = (λ i. find (λ number. rule_full number (slice_get b.rules number) refl i) order)
        ∙ none_found (length b.rules) (list_all is_full cells) order
