-- The parts of declarations that are read.
use Rattle.std.proofs.Common.{◌≡◌, ℕ, List, [], ◌∷◌, ◌++◌, map, Bool, true, false, refl, sym, ap, ◌∙◌, subst, arith, append_assoc}
use Rattle.std.specs.Prelude.{Ok, Option, Some, None}
use Rattle.hume_base.specs.declared.keyword.Keyword.TheVariants as word
use Rattle.hume_base.specs.declared.symbol.Symbol.TheVariants as symbol
use Rattle.hume_base.specs.declared.token.Kind.{Kind}
use Rattle.hume_base.specs.declared.token.Kind.TheVariants.{Lower, Upper, Number, Word, Sign}
use Rattle.hume_ast.specs.declared.tree.TyExp.{TyExp, out-TyExp, map-TyExp, fold-roll-TyExp, roll-out-TyExp}
use Rattle.hume_ast.specs.declared.tree.TyExp.TheOpen.{TyExp-F}
use Rattle.hume_ast.specs.declared.tree.Pat.{Pat, roll-Pat, out-Pat, map-Pat, roll-out-Pat, out-roll-Pat}
use Rattle.hume_ast.specs.declared.tree.Pat.TheOpen.{Pat-F}
use Rattle.hume_ast.specs.declared.tree.Exp.{Exp}
use Rattle.hume_ast.specs.Spelling.{spell_ty, spelled_ty, spell_pat, spelled_pat, spelled_exp, separated, in_parens, spelled_constructor, spelled_typed_name, spelled_side, spelled_rule, spelled_carried, spelled_handler, spelled_handlers, order_word, way_word, spelled_end, spelled_wire_depth, spelled_initial, spelled_carries}
use Rattle.hume_ast.specs.Fits.{Each, OneOrMore, IfThere, TypeFits, ExpFits, IsCarried, CarriedFits, TypedNameFits, RuleFits, HandlerFits}
use Rattle.parse_readers.specs.inner.Readers.{Reader, led, give, next, listed, maybe, pick, is_word, is_sign}
use Rattle.parse_readers.specs.inner.Types.{types}
use Rattle.parse_readers.specs.inner.Declarations.{starts_type, expression, in_commas, constructor, typed_name, side, rule, carried_pat, is_carried, handler_of, handler, handlers, order_ways, order, way_ways, way, wire_end, wire_depth, first_value}
use Rattle.parse_readers.proofs.Local.{local_choice, local_give}
use Rattle.parse_readers.proofs.TokensApart.{some_same}
use Rattle.parse_readers.proofs.TypesRead.{number_reads, upper_reads, lower_reads, types_read}
use Rattle.parse_readers.proofs.PatternsRead.{pat_spelled, inputs_read}
use Rattle.parse_readers.proofs.Levels.{EndsAt}
use Rattle.parse_readers.proofs.ExpressionsRead.{expressions_read}
use Rattle.parse_readers.proofs.Forms.{Reads, Anything, All, Sound, along, led_reads, closed_reads, both_reads, many_reads, listed_reads, maybe_reads, maybe_spell, made_reads, pick_reads, leaf_sound, leaf_local, ending, beside_map, alternatives_sound, alternatives_local, choice_sound, respelled, restated, restated_sound}

first_by : (x : TyExp-F TyExp) (rest : List Kind) → next starts_type (spell_ty (map-TyExp TyExp (List Kind) spelled_ty x) ++ rest) ≡ true
first_by TyExp-F.Bool rest = refl
first_by TyExp-F.Char rest = refl
first_by (TyExp-F.Int bits) rest = refl
first_by (TyExp-F.Nat bits) rest = refl
first_by (TyExp-F.Vector count item) rest = refl
first_by (TyExp-F.Named name) rest = refl
first_by (TyExp-F.Tuple parts) rest = refl

pub first_type : (t : TyExp) (rest : List Kind) → next starts_type (spelled_ty t ++ rest) ≡ true
first_type t rest =
    ap (λ u. next starts_type (spelled_ty u ++ rest)) (sym (roll-out-TyExp t))
    ∙ ap (λ m. next starts_type (m ++ rest)) (fold-roll-TyExp (List Kind) spell_ty (out-TyExp t))
    ∙ first_by (out-TyExp t) rest

-- no type beside goes on
abbrev pub TypesEnd : List Kind → Type 0
TypesEnd rest = next starts_type rest ≡ false

-- in parentheses, with commas between them
pub in_commas_reads : {A : Type 0} {spell : A → List Kind} {Fit : A → Type 0} {Ends : List Kind → Type 0} {p : Reader A} → Reads spell Fit Ends p
    → ((rest : List Kind) → Ends (Sign symbol.Comma ∷ rest)) → ((rest : List Kind) → Ends (Sign symbol.CloseParen ∷ rest))
    → Reads (λ xs. in_parens (separated symbol.Comma (map spell xs))) (OneOrMore Fit) Anything (in_commas p)
in_commas_reads reads comma close = led_reads (closed_reads (listed_reads reads symbol.Comma comma) (Sign symbol.CloseParen) tt (λ rest. (refl, close rest))) (Sign symbol.OpenParen) tt

-- what a handler takes
abbrev pub carried_token : Pat-F Pat → Kind
carried_token (Pat-F.Name name) = Lower name
carried_token _ = Sign symbol.Underscore

carried_some : (x : Pat-F Pat) (k : Kind) (p : Pat) → k ≡ carried_token x → IsCarried x → Some (roll-Pat x) ≡ Some p → (k ≡ carried_token (out-Pat p)) × IsCarried (out-Pat p)
carried_some x k p e f g =
    subst (λ q. (k ≡ carried_token (out-Pat q)) × IsCarried (out-Pat q)) (some_same (roll-Pat x) p g)
    (subst (λ y. (k ≡ carried_token y) × IsCarried y) (sym (out-roll-Pat x)) (e, f))

carried_is : (k : Kind) (p : Pat) → carried_pat k ≡ Some p → (k ≡ carried_token (out-Pat p)) × IsCarried (out-Pat p)
carried_is (Lower name) p e = carried_some (Pat-F.Name name) (Lower name) p refl tt e
carried_is (Sign symbol.Underscore) p e = carried_some Pat-F.Any (Sign symbol.Underscore) p refl tt e
carried_is _ p e = cc

carried_rolled : (x : Pat-F Pat) → IsCarried x → carried_pat (carried_token x) ≡ Some (roll-Pat x)
carried_rolled (Pat-F.Name name) f = refl
carried_rolled Pat-F.Any f = refl
carried_rolled _ f = absurd f

carried_reads : Reads (λ p. carried_token (out-Pat p) ∷ []) (λ p. IsCarried (out-Pat p)) Anything (pick carried_pat)
carried_reads = pick_reads carried_pat (λ p. carried_token (out-Pat p)) (λ p. IsCarried (out-Pat p)) carried_is (λ p f. carried_rolled (out-Pat p) f ∙ ap Some (roll-out-Pat p))

carried_first : (x : Pat-F Pat) (rest : List Kind) → next is_carried (carried_token x ∷ rest) ≡ true
carried_first (Pat-F.Name name) rest = refl
carried_first _ rest = refl

token_spelled : (x : Pat-F Pat) → IsCarried x → spell_pat (map-Pat Pat (List Kind) spelled_pat x) ≡ carried_token x ∷ []
token_spelled (Pat-F.Name name) f = refl
token_spelled Pat-F.Any f = refl
token_spelled _ f = absurd f

abbrev NoneCarried : List Kind → Type 0
NoneCarried rest = next is_carried rest ≡ false

pub carried_there : (o : Option Pat) → IfThere (λ p. IsCarried (out-Pat p)) o → CarriedFits o × (spelled_carried o ≡ maybe_spell (λ p. carried_token (out-Pat p) ∷ []) o)
carried_there None f = (tt, refl)
carried_there (Some p) f = (f, ap spelled_pat (sym (roll-out-Pat p)) ∙ pat_spelled (out-Pat p) ∙ token_spelled (out-Pat p) f)

carried_back : (o : Option Pat) → CarriedFits o → IfThere (λ p. IsCarried (out-Pat p)) o
carried_back None f = tt
carried_back (Some p) f = f

pub maybe_carried : Reads spelled_carried CarriedFits NoneCarried (maybe is_carried (pick carried_pat))
maybe_carried = restated (ending (maybe_reads carried_reads is_carried (λ p rest f. carried_first (out-Pat p) rest)) NoneCarried (λ rest e. (e, tt))) spelled_carried CarriedFits carried_there carried_back

-- words that say which of two
abbrev pub order_spell : Bool → List Kind
order_spell fair = Word (order_word fair) ∷ []

pub order_reads : Reads order_spell All Anything order
order_reads = record {
  sound = alternatives_sound order_spell All order_ways (leaf_sound order_spell All (Word word.Fair) true tt refl tt, (leaf_sound order_spell All (Word word.Match) false tt refl tt, tt));
  complete = said;
  local = alternatives_local order_ways (leaf_local (Word word.Fair) true, (leaf_local (Word word.Match) false, tt));
} where
  said : (fair : Bool) (rest : List Kind) → Unit {0} → Unit {0} → order (Word (order_word fair) ∷ rest) ≡ Ok (fair, rest)
  said true rest f e = refl
  said false rest f e = refl

abbrev pub way_spell : Bool → List Kind
way_spell from = Word (way_word from) ∷ []

pub way_reads : Reads way_spell All Anything way
way_reads = record {
  sound = alternatives_sound way_spell All way_ways (leaf_sound way_spell All (Word word.From) true tt refl tt, (leaf_sound way_spell All (Word word.To) false tt refl tt, tt));
  complete = said;
  local = alternatives_local way_ways (leaf_local (Word word.From) true, (leaf_local (Word word.To) false, tt));
} where
  said : (from : Bool) (rest : List Kind) → Unit {0} → Unit {0} → way (Word (way_word from) ∷ rest) ≡ Ok (from, rest)
  said true rest f e = refl
  said false rest f e = refl

-- the ends of a wire
pub end_there : (a : List ℕ × Option (List ℕ)) → Unit {0} × IfThere All a.1 → Unit {0} × (spelled_end a ≡ Lower a.0 ∷ maybe_spell (λ name. Sign symbol.Dot ∷ Lower name ∷ []) a.1)
end_there (name, None) f = (tt, refl)
end_there (name, Some input) f = (tt, refl)

pub wire_end_reads : Reads spelled_end All (λ rest. next (is_sign symbol.Dot) rest ≡ false) wire_end
wire_end_reads = restated (both_reads lower_reads (ending (maybe_reads (led_reads lower_reads (Sign symbol.Dot) tt) (is_sign symbol.Dot) (λ a rest f. refl)) (λ rest. next (is_sign symbol.Dot) rest ≡ false) (λ rest e. (e, tt))) (λ b rest f e. tt)) spelled_end All end_there back where
  back : (a : List ℕ × Option (List ℕ)) → Unit {0} → Unit {0} × IfThere All a.1
  back (name, None) f = (tt, tt)
  back (name, Some input) f = (tt, tt)

pub depth_there : (o : Option ℕ) → IfThere All o → Unit {0} × (spelled_wire_depth o ≡ maybe_spell (λ n. Sign symbol.At ∷ Number n ∷ []) o)
depth_there None f = (tt, refl)
depth_there (Some depth) f = (tt, refl)

pub wire_depth_reads : Reads spelled_wire_depth All (λ rest. next (is_sign symbol.At) rest ≡ false) wire_depth
wire_depth_reads = restated (ending (maybe_reads (led_reads number_reads (Sign symbol.At) tt) (is_sign symbol.At) (λ a rest f. refl)) (λ rest. next (is_sign symbol.At) rest ≡ false) (λ rest e. (e, tt))) spelled_wire_depth All depth_there back where
  back : (o : Option ℕ) → Unit {0} → IfThere All o
  back None f = tt
  back (Some depth) f = tt

pub carries_same : (o : Option TyExp) → spelled_carries o ≡ maybe_spell spelled_ty o
carries_same None = refl
carries_same (Some t) = refl

pub initial_same : (o : Option Exp) → spelled_initial o ≡ maybe_spell (λ e. Word word.Initial ∷ spelled_exp e) o
initial_same None = refl
initial_same (Some e) = refl

module _ (bound : ℕ) where
  pub exp_reads : Reads spelled_exp (ExpFits bound bound 1) (EndsAt 1) (expression bound)
  exp_reads = (expressions_read bound bound).whole

  pub constructor_reads : Reads spelled_constructor (λ (c : List ℕ × List TyExp). Each (TypeFits bound) c.1) TypesEnd (constructor bound)
  constructor_reads = restated (both_reads upper_reads (ending (many_reads (types_read bound) starts_type (λ t rest f. first_type t rest) (λ t rest f. tt)) TypesEnd (λ rest e. (e, tt))) (λ b rest f e. tt))
      spelled_constructor (λ (c : List ℕ × List TyExp). Each (TypeFits bound) c.1) (λ c f. (f.1, ap (λ m. Upper c.0 ∷ m) (beside_map spelled_ty c.1))) (λ c f. (tt, f))

  pub carries_reads : Reads spelled_carries (IfThere (TypeFits bound)) TypesEnd (maybe starts_type (types bound))
  carries_reads = respelled (ending (maybe_reads (types_read bound) starts_type (λ t rest f. first_type t rest)) TypesEnd (λ rest e. (e, tt))) spelled_carries carries_same

  pub typed_name_reads : Reads spelled_typed_name (TypedNameFits bound) Anything (typed_name bound)
  typed_name_reads = restated (both_reads (closed_reads lower_reads (Sign symbol.DoubleColon) tt (λ rest. tt)) (types_read bound) (λ b rest f e. tt)) spelled_typed_name (TypedNameFits bound) (λ p f. (f.1, refl)) (λ p f. (tt, f))

  pub side_reads : Reads spelled_side (OneOrMore (TypedNameFits bound)) Anything (side bound)
  side_reads = in_commas_reads typed_name_reads (λ rest. tt) (λ rest. tt)

  pub rule_reads : Reads spelled_rule (RuleFits bound) (EndsAt 1) (rule bound)
  rule_reads = respelled (both_reads (closed_reads (in_commas_reads (inputs_read bound) (λ rest. refl) (λ rest. refl)) (Sign symbol.Arrow) tt (λ rest. tt)) exp_reads (λ b rest f e. tt))
      spelled_rule (λ r. sym (append_assoc (in_parens (separated symbol.Comma (map spelled_pat r.0))) (Sign symbol.Arrow ∷ []) (spelled_exp r.1)))

  pub handler_reads : Reads spelled_handler (HandlerFits bound) (EndsAt 1) (handler bound)
  handler_reads = made_reads (both_reads upper_reads (both_reads (closed_reads maybe_carried (Sign symbol.Arrow) tt (λ rest. refl)) exp_reads (λ b rest f e. tt)) (λ b rest f e. tt))
      handler_of spelled_handler (HandlerFits bound) (λ a f. f.1)
      (λ a f. ap (λ m. Upper a.0 ∷ m) (sym (append_assoc (spelled_carried a.1.0) (Sign symbol.Arrow ∷ []) (spelled_exp a.1.1))))
      (λ h f. ((h.0, (h.1, h.2)), refl, (tt, f)))

  abbrev pub HandlersEnd : List Kind → Type 0
  HandlersEnd rest = (next (is_word word.Handle) rest ≡ false) × (next (is_sign symbol.Bar) rest ≡ false) × EndsAt 1 rest

  abbrev pub some_handlers : Reader (List (List ℕ × Option Pat × Exp))
  some_handlers = led (Word word.Handle) (listed symbol.Bar (handler bound))

  some_handlers_read : Reads (λ hs. Word word.Handle ∷ separated symbol.Bar (map spelled_handler hs)) (OneOrMore (HandlerFits bound)) (λ rest. (next (is_sign symbol.Bar) rest ≡ false) × EndsAt 1 rest) some_handlers
  some_handlers_read = led_reads (listed_reads handler_reads symbol.Bar (λ rest. omega arith)) (Word word.Handle) tt

  pub some_fit : (hs : List (List ℕ × Option Pat × Exp)) → OneOrMore (HandlerFits bound) hs → Each (HandlerFits bound) hs × (spelled_handlers hs ≡ Word word.Handle ∷ separated symbol.Bar (map spelled_handler hs))
  some_fit [] f = absurd (omega (arith, f.0))
  some_fit (h ∷ hs) f = (f.1, refl)

  handlers_sound : Sound spelled_handlers (Each (HandlerFits bound)) (handlers bound)
  handlers_sound = choice_sound spelled_handlers (Each (HandlerFits bound)) (is_word word.Handle) some_handlers (give [])
      (restated_sound _ (OneOrMore (HandlerFits bound)) some_handlers some_handlers_read.sound spelled_handlers (Each (HandlerFits bound)) some_fit)
      (λ ks x e. along spelled_handlers (Each (HandlerFits bound)) ks ([], ks) x (cc) (tt, refl))

  handlers_complete : (hs : List (List ℕ × Option Pat × Exp)) (rest : List Kind) → Each (HandlerFits bound) hs → HandlersEnd rest → handlers bound (spelled_handlers hs ++ rest) ≡ Ok (hs, rest)
  handlers_complete [] rest f e = rw e.0
  handlers_complete (h ∷ hs) rest f e = some_handlers_read.complete (h ∷ hs) rest (omega arith, f) (e.1, e.2)

  pub handlers_reads : Reads spelled_handlers (Each (HandlerFits bound)) HandlersEnd (handlers bound)
  handlers_reads = record { sound = handlers_sound; complete = handlers_complete; local = local_choice (is_word word.Handle) some_handlers (give []) some_handlers_read.local (local_give []) }

  pub first_value_reads : Reads spelled_initial (IfThere (ExpFits bound bound 1)) (λ rest. (next (is_word word.Initial) rest ≡ false) × EndsAt 1 rest) (first_value bound)
  first_value_reads = respelled (maybe_reads (led_reads exp_reads (Word word.Initial) tt) (is_word word.Initial) (λ a rest f. refl)) spelled_initial initial_same
