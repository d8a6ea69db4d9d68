-- Where the readers of declarations, and of the parts of functions, stop, the tokens in front of the wrong one begin one.
use Rattle.std.proofs.Common.{ℕ, ◌<◌, ◌≤◌, List, [], ◌∷◌, ◌++◌, map, length, Bool, true, false, refl, sym, ap, arith, append_assoc}
use Rattle.std.specs.Prelude.{Option, None}
use Rattle.hume_base.specs.declared.keyword.Keyword.TheVariants as word
use Rattle.hume_base.specs.declared.symbol.Symbol.TheVariants as symbol
use Rattle.hume_base.specs.declared.token.Kind.{Kind}
use Rattle.hume_base.specs.declared.token.Kind.TheVariants.{Upper, Quoted, Word, Sign}
use Rattle.hume_ast.specs.declared.tree.TyExp.{TyExp}
use Rattle.hume_ast.specs.declared.tree.Pat.{Pat, out-Pat}
use Rattle.hume_ast.specs.declared.tree.Exp.{Exp}
use Rattle.hume_ast.specs.declared.tree.Decl.{Decl}
use Rattle.hume_ast.specs.Spelling.{spelled_ty, spelled_pat, spelled_exp, separated, beside, in_parens, spelled_constructor, spelled_typed_name, spelled_side, spelled_rule, spelled_carried, spelled_handler, spelled_handlers, order_word, spelled_end, spelled_wire_depth, spelled_initial, spelled_carries, ended, spelled_decl}
use Rattle.hume_ast.specs.Fits.{Each, OneOrMore, IfThere, TypeFits, PatFits, ExpFits, IsCarried, CarriedFits, TypedNameFits, RuleFits, HandlerFits}
use Rattle.parse_readers.specs.inner.Readers.{Reader, give, maybe, pick, is_word, is_sign, port_name}
use Rattle.parse_readers.specs.inner.Types.{types}
use Rattle.parse_readers.specs.inner.Patterns.{starts_pat}
use Rattle.parse_readers.specs.inner.Declarations.{starts_type, expression, in_commas, constructor, typed_name, side, rule, carried_pat, is_carried, handler_of, handler, handlers, order_ways, order, way_ways, way, wire_end, wire_depth, first_value, sum_of, data_decl, exn_of, exception_decl, Rules, rules, Sides, sides, box_of, box_decl, stream_of, stream_decl, wire_of, wire_decl, decl_ways, whole_decl, signature, some_patterns, equation}
use Rattle.parse_readers.proofs.Forms.{Reads, All, closed_reads, listed_reads, several_reads, beside_map, shrinks}
use Rattle.parse_readers.proofs.TypesRead.{upper_reads, lower_reads, port_reads, types_read}
use Rattle.parse_readers.proofs.PatternsRead.{patterns_read, atoms_shrink, inputs_read}
use Rattle.parse_readers.proofs.DeclarationParts.{first_type, in_commas_reads, carried_token, carried_there, maybe_carried, order_spell, order_reads, way_spell, way_reads, end_there, wire_end_reads, depth_there, wire_depth_reads, carries_same, initial_same, exp_reads, constructor_reads, carries_reads, typed_name_reads, side_reads, rule_reads, handler_reads, some_handlers, some_fit, handlers_reads, first_value_reads}
use Rattle.parse_readers.proofs.DeclarationsRead.{ConstructorFits, sides_reads, box_same, wire_same, WholeFits, beside_reads}
use Rattle.parse_readers.proofs.Begins.{Begins, give_begins, choice_begins, alternatives_begins, pick_begins, restated_begins, maybe_begins, led_begins, made_begins, closed_begins, both_begins, many_begins, listed_begins, several_begins, leaf_begins}
use Rattle.parse_readers.proofs.TypesBegin.{number_begins, lower_begins, upper_begins, some_type, some_type_fits, types_begin}
use Rattle.parse_readers.proofs.PatternsBegin.{some_pattern, some_pattern_fits, patterns_begin, inputs_begin}
use Rattle.parse_readers.proofs.AtomsBegin.{some_exp, some_exp_fits}
use Rattle.parse_readers.proofs.ExpressionsBegin.{expressions_begin}

-- in parentheses, with commas between them
in_commas_begins : {A : Type 0} {spell : A → List Kind} {Fit : A → Type 0} {Ends : List Kind → Type 0} {p : Reader A} → Reads spell Fit Ends p → Begins spell Fit p → (a : A) → Fit a
    → ((rest : List Kind) → Ends (Sign symbol.Comma ∷ rest)) → Begins (λ xs. in_parens (separated symbol.Comma (map spell xs))) (OneOrMore Fit) (in_commas p)
in_commas_begins reads begins a fit comma = led_begins (closed_begins (listed_reads reads symbol.Comma comma) (listed_begins reads begins a fit symbol.Comma comma) (Sign symbol.CloseParen)) (Sign symbol.OpenParen) (a ∷ []) (omega arith, (fit, tt))

maybe_carried_begins : Begins spelled_carried CarriedFits (maybe is_carried (pick carried_pat))
maybe_carried_begins = restated_begins (maybe_begins (pick_begins (λ p. carried_token (out-Pat p) ∷ []) (λ p. IsCarried (out-Pat p)) carried_pat) is_carried) spelled_carried CarriedFits carried_there

order_begins : Begins order_spell All order
order_begins = alternatives_begins order_spell All order_ways (leaf_begins order_spell All (Word word.Fair) true, (leaf_begins order_spell All (Word word.Match) false, tt))

way_begins : Begins way_spell All way
way_begins = alternatives_begins way_spell All way_ways (leaf_begins way_spell All (Word word.From) true, (leaf_begins way_spell All (Word word.To) false, tt))

wire_end_begins : Begins spelled_end All wire_end
wire_end_begins = restated_begins (both_begins lower_reads lower_begins (maybe_begins (led_begins lower_begins (Sign symbol.Dot) [] tt) (is_sign symbol.Dot)) None tt) spelled_end All end_there

wire_depth_begins : Begins spelled_wire_depth All wire_depth
wire_depth_begins = restated_begins (maybe_begins (led_begins number_begins (Sign symbol.At) 0 tt) (is_sign symbol.At)) spelled_wire_depth All depth_there

port_begins : Begins (λ x. Quoted x ∷ []) All (pick port_name)
port_begins = pick_begins (λ x. Quoted x ∷ []) All port_name

module _ (bound : ℕ) (some : 0 < bound) where
  type_fits : TypeFits bound some_type
  type_fits = some_type_fits bound some

  exp_fits : ExpFits bound bound 1 some_exp
  exp_fits = some_exp_fits bound bound 1 (omega arith) some

  exp_begins : Begins spelled_exp (ExpFits bound bound 1) (expression bound)
  exp_begins = (expressions_begin bound bound some).whole

  constructor_begins : Begins spelled_constructor (ConstructorFits bound) (constructor bound)
  constructor_begins = restated_begins (both_begins upper_reads upper_begins (many_begins (types_read bound) (types_begin bound) starts_type (shrinks (types_read bound) starts_type (λ t rest f. first_type t rest) (λ t rest f. tt))) [] tt)
      spelled_constructor (ConstructorFits bound) (λ c f. (f.1, ap (λ m. Upper c.0 ∷ m) (beside_map spelled_ty c.1)))

  carries_begins : Begins spelled_carries (IfThere (TypeFits bound)) (maybe starts_type (types bound))
  carries_begins = restated_begins (maybe_begins (types_begin bound) starts_type) spelled_carries (IfThere (TypeFits bound)) (λ o f. (f, carries_same o))

  typed_name_begins : Begins spelled_typed_name (TypedNameFits bound) (typed_name bound)
  typed_name_begins = restated_begins (both_begins (closed_reads lower_reads (Sign symbol.DoubleColon) tt (λ rest. tt)) (closed_begins lower_reads lower_begins (Sign symbol.DoubleColon)) (types_begin bound) some_type type_fits)
      spelled_typed_name (TypedNameFits bound) (λ p f. (f.1, refl))

  side_begins : Begins spelled_side (OneOrMore (TypedNameFits bound)) (side bound)
  side_begins = in_commas_begins (typed_name_reads bound) typed_name_begins ([], some_type) type_fits (λ rest. tt)

  input_fits : PatFits bound 0 some_pattern
  input_fits = some_pattern_fits bound 0 (omega arith) some

  rule_begins : Begins spelled_rule (RuleFits bound) (rule bound)
  rule_begins =
      let inputs = in_commas_reads (inputs_read bound) (λ rest. refl) (λ rest. refl) in
      restated_begins (both_begins (closed_reads inputs (Sign symbol.Arrow) tt (λ rest. tt)) (closed_begins inputs (in_commas_begins (inputs_read bound) (inputs_begin bound) some_pattern input_fits (λ rest. refl)) (Sign symbol.Arrow)) exp_begins some_exp exp_fits)
      spelled_rule (RuleFits bound) (λ r f. (f, sym (append_assoc (in_parens (separated symbol.Comma (map spelled_pat r.0))) (Sign symbol.Arrow ∷ []) (spelled_exp r.1))))

  handler_begins : Begins spelled_handler (HandlerFits bound) (handler bound)
  handler_begins = made_begins (both_begins upper_reads upper_begins (both_begins (closed_reads maybe_carried (Sign symbol.Arrow) tt (λ rest. refl)) (closed_begins maybe_carried maybe_carried_begins (Sign symbol.Arrow)) exp_begins some_exp exp_fits) (None, some_exp) (tt, exp_fits))
      handler_of spelled_handler (HandlerFits bound) (λ a f. f.1)
      (λ a f. ap (λ m. Upper a.0 ∷ m) (sym (append_assoc (spelled_carried a.1.0) (Sign symbol.Arrow ∷ []) (spelled_exp a.1.1))))

  abbrev some_handler : List ℕ × Option Pat × Exp
  some_handler = ([], None, some_exp)

  handlers_begin : Begins spelled_handlers (Each (HandlerFits bound)) (handlers bound)
  handlers_begin = choice_begins spelled_handlers (Each (HandlerFits bound)) (is_word word.Handle) (some_handlers bound) (give [])
      (restated_begins (led_begins (listed_begins (handler_reads bound) handler_begins some_handler (tt, exp_fits) symbol.Bar (λ rest. omega arith)) (Word word.Handle) (some_handler ∷ []) (omega arith, ((tt, exp_fits), tt)))
      spelled_handlers (Each (HandlerFits bound)) (some_fit bound))
      (give_begins spelled_handlers (Each (HandlerFits bound)) [])

  first_value_begins : Begins spelled_initial (IfThere (ExpFits bound bound 1)) (first_value bound)
  first_value_begins = restated_begins (maybe_begins (led_begins exp_begins (Word word.Initial) some_exp exp_fits) (is_word word.Initial)) spelled_initial (IfThere (ExpFits bound bound 1)) (λ o f. (f, initial_same o))

  abbrev Whole : Decl → Type 0
  Whole = WholeFits bound

  data_begins : Begins spelled_decl Whole (data_decl bound)
  data_begins = made_begins
      (led_begins (both_begins (closed_reads upper_reads (Sign symbol.Equals) tt (λ rest. tt)) (closed_begins upper_reads upper_begins (Sign symbol.Equals))
      (closed_begins (listed_reads (constructor_reads bound) symbol.Bar (λ rest. refl)) (listed_begins (constructor_reads bound) constructor_begins ([], []) tt symbol.Bar (λ rest. refl)) (Sign symbol.Semicolon)) (([], []) ∷ []) (omega arith, (tt, tt))) (Word word.Data) ([], ([], []) ∷ []) (tt, (omega arith, (tt, tt))))
      sum_of spelled_decl Whole (λ a f. (tt, f.1)) (λ a f. refl)

  exception_begins : Begins spelled_decl Whole (exception_decl bound)
  exception_begins = made_begins (led_begins (both_begins upper_reads upper_begins (closed_begins (carries_reads bound) carries_begins (Sign symbol.Semicolon)) None tt) (Word word.Exception) ([], None) (tt, tt))
      exn_of spelled_decl Whole (λ a f. (tt, f.1)) (λ a f. refl)

  abbrev some_side : List (List ℕ × TyExp)
  some_side = ([], some_type) ∷ []

  side_fits : OneOrMore (TypedNameFits bound) some_side
  side_fits = (omega arith, (type_fits, tt))

  sides_begin : Begins (λ (a : Sides). (spelled_side a.0 ++ Word word.Out ∷ []) ++ spelled_side a.1) (λ (a : Sides). OneOrMore (TypedNameFits bound) a.0 × OneOrMore (TypedNameFits bound) a.1) (sides bound)
  sides_begin = both_begins (closed_reads (side_reads bound) (Word word.Out) tt (λ rest. tt)) (closed_begins (side_reads bound) side_begins (Word word.Out)) side_begins some_side side_fits

  abbrev some_rule : List Pat × Exp
  some_rule = (some_pattern ∷ [], some_exp)

  rule_fits : RuleFits bound some_rule
  rule_fits = ((omega arith, (input_fits, tt)), exp_fits)

  rules_begin : Begins (λ (a : Bool × Rules). Word (order_word a.0) ∷ (separated symbol.Bar (map spelled_rule a.1.0) ++ ended (spelled_handlers a.1.1))) (λ (a : Bool × Rules). Unit {0} × (OneOrMore (RuleFits bound) a.1.0 × Each (HandlerFits bound) a.1.1)) (rules bound)
  rules_begin = both_begins order_reads order_begins (both_begins (listed_reads (rule_reads bound) symbol.Bar (λ rest. omega arith)) (listed_begins (rule_reads bound) rule_begins some_rule rule_fits symbol.Bar (λ rest. omega arith)) (closed_begins (handlers_reads bound) handlers_begin (Sign symbol.Semicolon)) [] tt)
      (some_rule ∷ [], []) ((omega arith, (rule_fits, tt)), tt)

  box_begins : Begins spelled_decl Whole (box_decl bound)
  box_begins =
      let some_rules : Bool × Rules = (true, (some_rule ∷ [], [])) in
      made_begins
      (led_begins (both_begins (closed_reads lower_reads (Word word.In) tt (λ rest. tt)) (closed_begins lower_reads lower_begins (Word word.In))
      (both_begins (sides_reads bound) sides_begin rules_begin some_rules (tt, ((omega arith, (rule_fits, tt)), tt))) ((some_side, some_side), some_rules) ((side_fits, side_fits), (tt, ((omega arith, (rule_fits, tt)), tt)))) (Word word.Box)
      ([], ((some_side, some_side), some_rules)) (tt, ((side_fits, side_fits), (tt, ((omega arith, (rule_fits, tt)), tt)))))
      box_of spelled_decl Whole (λ a f. (tt, (f.1.0.0, f.1.0.1, f.1.1.1.0, f.1.1.1.1))) (λ a f. box_same bound a)

  stream_begins : Begins spelled_decl Whole stream_decl
  stream_begins = made_begins (led_begins (both_begins lower_reads lower_begins (both_begins way_reads way_begins (closed_begins port_reads port_begins (Sign symbol.Semicolon)) [] tt) (true, []) (tt, tt)) (Word word.Stream) ([], (true, [])) (tt, (tt, tt)))
      stream_of spelled_decl Whole (λ a f. (tt, tt)) (λ a f. refl)

  wire_begins : Begins spelled_decl Whole (wire_decl bound)
  wire_begins = made_begins
      (led_begins (both_begins (closed_reads wire_end_reads (Word word.To) tt (λ rest. refl)) (closed_begins wire_end_reads wire_end_begins (Word word.To))
      (both_begins wire_end_reads wire_end_begins (both_begins wire_depth_reads wire_depth_begins (closed_begins (first_value_reads bound) first_value_begins (Sign symbol.Semicolon)) None tt) (None, None) (tt, tt)) (([], None), (None, None)) (tt, (tt, tt))) (Word word.Wire)
      (([], None), (([], None), (None, None))) (tt, (tt, (tt, tt))))
      wire_of spelled_decl Whole (λ a f. (tt, f.1.1.1)) (λ a f. wire_same bound a)

  pub whole_decl_begins : Begins spelled_decl (WholeFits bound) (whole_decl bound)
  whole_decl_begins = alternatives_begins spelled_decl Whole (decl_ways bound) (
    data_begins,
    (
      exception_begins,
      (
        box_begins,
        (
          stream_begins,
          (
            wire_begins,
            tt,
          ),
        ),
      ),
    ),
  )

  pub signature_begins : Begins (λ (ts : List TyExp). Sign symbol.DoubleColon ∷ ended (separated symbol.Arrow (map spelled_ty ts))) (λ (ts : List TyExp). (2 ≤ length ts) × Each (TypeFits bound) ts) (signature bound)
  signature_begins = led_begins (closed_begins (several_reads (types_read bound) symbol.Arrow (λ rest. tt)) (several_begins (types_read bound) (types_begin bound) some_type type_fits symbol.Arrow (λ rest. tt)) (Sign symbol.Semicolon)) (Sign symbol.DoubleColon)
      (some_type ∷ some_type ∷ []) (omega arith, (type_fits, (type_fits, tt)))

  beside_begins : Begins (λ (ps : List Pat). beside (map spelled_pat ps)) (OneOrMore (PatFits bound 2)) (some_patterns bound)
  beside_begins =
      let atoms = (patterns_read bound).atom in
      let atom_begins = (patterns_begin bound).atom in
      made_begins (both_begins atoms atom_begins (many_begins atoms atom_begins starts_pat (atoms_shrink bound)) [] tt) _ (λ (ps : List Pat). beside (map spelled_pat ps)) (OneOrMore (PatFits bound 2))
      (λ a f. (omega arith, f)) (λ a f. beside_map spelled_pat (a.0 ∷ a.1))

  pub equation_begins : Begins (λ (a : List Pat × Exp). beside (map spelled_pat a.0) ++ Sign symbol.Equals ∷ ended (spelled_exp a.1)) (λ (a : List Pat × Exp). OneOrMore (PatFits bound 2) a.0 × ExpFits bound bound 1 a.1) (equation bound)
  equation_begins = restated_begins
      (both_begins (closed_reads (beside_reads bound) (Sign symbol.Equals) tt (λ rest. refl)) (closed_begins (beside_reads bound) beside_begins (Sign symbol.Equals)) (closed_begins (exp_reads bound) exp_begins (Sign symbol.Semicolon)) some_exp exp_fits)
      (λ (a : List Pat × Exp). beside (map spelled_pat a.0) ++ Sign symbol.Equals ∷ ended (spelled_exp a.1)) (λ (a : List Pat × Exp). OneOrMore (PatFits bound 2) a.0 × ExpFits bound bound 1 a.1)
      (λ a f. (f, sym (append_assoc (beside (map spelled_pat a.0)) (Sign symbol.Equals ∷ []) (ended (spelled_exp a.1)))))
