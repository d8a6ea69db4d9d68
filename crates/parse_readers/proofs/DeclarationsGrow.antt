-- Declarations, and the parts of functions, with more room.
use Rattle.std.proofs.Common.{◌≡◌, ℕ, ◌+◌, ◌<◌, ◌≤◌, List, [], length, true, false, arith}
use Rattle.std.specs.Prelude.{Ok, Option, Some, None}
use Rattle.hume_base.specs.declared.keyword.Keyword.TheVariants as word
use Rattle.hume_base.specs.declared.symbol.Symbol.TheVariants as symbol
use Rattle.hume_base.specs.declared.token.Kind.{Kind}
use Rattle.hume_base.specs.declared.token.Kind.TheVariants.{Word, Sign}
use Rattle.hume_ast.specs.declared.tree.TyExp.{TyExp}
use Rattle.hume_ast.specs.declared.tree.Pat.{Pat, roll-Pat}
use Rattle.hume_ast.specs.declared.tree.Pat.TheOpen.{Pat-F}
use Rattle.parse_readers.specs.inner.Readers.{Reader, led, closed, give, both, made, any_token, alternatives, pick, cons, listed, maybe, is_word, is_sign, lower_name, upper_name, number_of, port_name}
use Rattle.parse_readers.specs.inner.Types.{types}
use Rattle.parse_readers.specs.inner.Patterns.{starts_pat, patterns, input_ways, input_pattern}
use Rattle.parse_readers.specs.inner.Declarations.{starts_type, expression, in_commas, constructor, typed_name, side, rule, carried_pat, is_carried, handler_of, handler, handlers, order, way, wire_end, wire_depth, first_value, sum_of, data_decl, exn_of, exception_decl, rules, sides, box_of, box_decl, stream_of, stream_decl, wire_of, wire_decl, whole_decl, signature, some_patterns, equation}
use Rattle.parse_readers.proofs.Local.{local_choice, local_made, local_led, local_give, Local, local_closed, local_both, local_pick, local_many}
use Rattle.parse_readers.proofs.Forms.{shrinks}
use Rattle.parse_readers.proofs.TypesRead.{types_read}
use Rattle.parse_readers.proofs.PatternsRead.{patterns_read, atoms_shrink, inputs_read}
use Rattle.parse_readers.proofs.DeclarationParts.{first_type, maybe_carried, way_reads, wire_end_reads, wire_depth_reads, exp_reads, constructor_reads, carries_reads, typed_name_reads, side_reads, rule_reads, handler_reads, handlers_reads, first_value_reads}
use Rattle.parse_readers.proofs.DeclarationsRead.{sides_reads, rules_reads}
use Rattle.parse_readers.proofs.Grows.{Grows, grows_stop, grows_give, grows_pick, grows_choice, grows_led, grows_leaf, grows_closed, grows_made, grows_both, grows_many, grows_maybe, grows_opens, listed_local, listed_grow, several_grow}
use Rattle.parse_readers.proofs.TypesGrow.{types_grow}
use Rattle.parse_readers.proofs.PatternsGrow.{patterns_grow}
use Rattle.parse_readers.proofs.ExpressionsGrow.{expressions_grow}

-- in parentheses, with commas between them
in_commas_grow : {A : Type 0} (p q : Reader A) → Local p → Local q → Grows p q → Grows (in_commas p) (in_commas q)
in_commas_grow p q lp lq h = grows_led (Sign symbol.OpenParen) _ _ (grows_closed (Sign symbol.CloseParen) _ _ (listed_grow symbol.Comma q lq p lp h))

-- what has no bound
order_grows : Grows order order
order_grows = grows_choice (is_word word.Fair) _ _ _ _ (grows_leaf (Word word.Fair) true) (grows_choice any_token _ _ _ _ (grows_leaf (Word word.Match) false) grows_stop)

way_grows : Grows way way
way_grows = grows_choice (is_word word.From) _ _ _ _ (grows_leaf (Word word.From) true) (grows_choice any_token _ _ _ _ (grows_leaf (Word word.To) false) grows_stop)

port_local : Local (closed (pick port_name) (Sign symbol.Semicolon))
port_local = local_closed (pick port_name) (Sign symbol.Semicolon) (local_pick port_name)

stream_grows : Grows stream_decl stream_decl
stream_grows = grows_made stream_of _ _ (grows_led (Word word.Stream) _ _ (grows_both (pick lower_name) (pick lower_name) _ _ (grows_pick lower_name)
    (grows_both way way _ _ way_grows (grows_closed (Sign symbol.Semicolon) (pick port_name) (pick port_name) (grows_pick port_name)) port_local)
    (local_both way _ way_reads.local port_local)))

dot_local : Local (maybe (is_sign symbol.Dot) (led (Sign symbol.Dot) (pick lower_name)))
dot_local = local_choice (is_sign symbol.Dot) (made Some (led (Sign symbol.Dot) (pick lower_name))) (give None) (local_made Some (led (Sign symbol.Dot) (pick lower_name)) (local_led (Sign symbol.Dot) (pick lower_name) (local_pick lower_name))) (local_give None)

wire_end_grows : Grows wire_end wire_end
wire_end_grows = grows_both (pick lower_name) (pick lower_name) _ _ (grows_pick lower_name) (grows_maybe (is_sign symbol.Dot) _ _ (grows_led (Sign symbol.Dot) (pick lower_name) (pick lower_name) (grows_pick lower_name))) dot_local

wire_depth_grows : Grows wire_depth wire_depth
wire_depth_grows = grows_maybe (is_sign symbol.At) _ _ (grows_led (Sign symbol.At) (pick number_of) (pick number_of) (grows_pick number_of))

-- a name and a token behind it
named_grow : (token : Kind) → Grows (closed (pick lower_name) token) (closed (pick lower_name) token)
named_grow token = grows_closed token (pick lower_name) (pick lower_name) (grows_pick lower_name)

module _ (bound bound2 : ℕ) (some : 0 < bound) (more : bound + 2 ≤ bound2) where
  type_grows : Grows (types bound) (types bound2)
  type_grows = types_grow bound bound2 some (omega (arith, more))

  exp_grows : Grows (expression bound) (expression bound2)
  exp_grows = (expressions_grow bound bound2 bound bound2 some more more).whole some

  exp_local : Local (expression bound2)
  exp_local = (exp_reads bound2).local

  input_grows : Grows (input_pattern bound) (input_pattern bound2)
  input_grows = grows_opens bound bound2 (alternatives (input_ways (patterns bound))) (alternatives (input_ways (patterns bound2))) some (omega (arith, more))
      (grows_choice (is_sign symbol.Star) _ _ _ _ (grows_leaf (Sign symbol.Star) (roll-Pat Pat-F.Star))
      (grows_choice (is_sign symbol.UnderscoreStar) _ _ _ _ (grows_leaf (Sign symbol.UnderscoreStar) (roll-Pat Pat-F.AnyStar))
      (grows_choice any_token _ _ _ _ ((patterns_grow bound bound2 more).whole some) grows_stop)))

  types_less : (b : ℕ) (ks : List Kind) (x : TyExp × List Kind) → types b ks ≡ Ok x → length x.1 < length ks
  types_less b = shrinks (types_read b) starts_type (λ t rest f. first_type t rest) (λ t rest f. tt)

  constructor_grows : Grows (constructor bound) (constructor bound2)
  constructor_grows = grows_both (pick upper_name) (pick upper_name) _ _ (grows_pick upper_name)
      (grows_many starts_type (types bound) (types bound2) (types_read bound2).local type_grows (types_less bound) (types_less bound2))
      (local_many starts_type (types bound2) (types_less bound2) (types_read bound2).local)

  data_grows : Grows (data_decl bound) (data_decl bound2)
  data_grows = grows_made sum_of _ _ (grows_led (Word word.Data) _ _ (grows_both (closed (pick upper_name) (Sign symbol.Equals)) (closed (pick upper_name) (Sign symbol.Equals)) _ _ (grows_closed (Sign symbol.Equals) (pick upper_name) (pick upper_name) (grows_pick upper_name))
      (grows_closed (Sign symbol.Semicolon) _ _ (listed_grow symbol.Bar (constructor bound2) (constructor_reads bound2).local (constructor bound) (constructor_reads bound).local constructor_grows))
      (local_closed (listed symbol.Bar (constructor bound2)) (Sign symbol.Semicolon) (listed_local symbol.Bar (constructor bound2) (constructor_reads bound2).local))))

  exception_grows : Grows (exception_decl bound) (exception_decl bound2)
  exception_grows = grows_made exn_of _ _ (grows_led (Word word.Exception) _ _ (grows_both (pick upper_name) (pick upper_name) _ _ (grows_pick upper_name)
      (grows_closed (Sign symbol.Semicolon) _ _ (grows_maybe starts_type (types bound) (types bound2) type_grows))
      (local_closed (maybe starts_type (types bound2)) (Sign symbol.Semicolon) (carries_reads bound2).local)))

  typed_name_grows : Grows (typed_name bound) (typed_name bound2)
  typed_name_grows = grows_both _ _ (types bound) (types bound2) (named_grow (Sign symbol.DoubleColon)) type_grows (types_read bound2).local

  side_grows : Grows (side bound) (side bound2)
  side_grows = in_commas_grow (typed_name bound) (typed_name bound2) (typed_name_reads bound).local (typed_name_reads bound2).local typed_name_grows

  rule_grows : Grows (rule bound) (rule bound2)
  rule_grows = grows_both _ _ (expression bound) (expression bound2) (grows_closed (Sign symbol.Arrow) _ _ (in_commas_grow (input_pattern bound) (input_pattern bound2) (inputs_read bound).local (inputs_read bound2).local input_grows)) exp_grows exp_local

  abbrev carried : Reader (Option Pat)
  carried = closed (maybe is_carried (pick carried_pat)) (Sign symbol.Arrow)

  handler_grows : Grows (handler bound) (handler bound2)
  handler_grows = grows_made handler_of _ _ (grows_both (pick upper_name) (pick upper_name) _ _ (grows_pick upper_name)
      (grows_both carried carried (expression bound) (expression bound2) (grows_closed (Sign symbol.Arrow) _ _ (grows_maybe is_carried (pick carried_pat) (pick carried_pat) (grows_pick carried_pat))) exp_grows exp_local)
      (local_both carried (expression bound2) (local_closed (maybe is_carried (pick carried_pat)) (Sign symbol.Arrow) maybe_carried.local) exp_local))

  handlers_grow : Grows (handlers bound) (handlers bound2)
  handlers_grow = grows_choice (is_word word.Handle) _ _ _ _ (grows_led (Word word.Handle) _ _ (listed_grow symbol.Bar (handler bound2) (handler_reads bound2).local (handler bound) (handler_reads bound).local handler_grows)) (grows_give [])

  rules_grow : Grows (rules bound) (rules bound2)
  rules_grow =
      let last = local_closed (handlers bound2) (Sign symbol.Semicolon) (handlers_reads bound2).local in
      grows_both order order _ _ order_grows
      (grows_both (listed symbol.Bar (rule bound)) (listed symbol.Bar (rule bound2)) _ _ (listed_grow symbol.Bar (rule bound2) (rule_reads bound2).local (rule bound) (rule_reads bound).local rule_grows) (grows_closed (Sign symbol.Semicolon) _ _ handlers_grow) last)
      (local_both (listed symbol.Bar (rule bound2)) (closed (handlers bound2) (Sign symbol.Semicolon)) (listed_local symbol.Bar (rule bound2) (rule_reads bound2).local) last)

  sides_grow : Grows (sides bound) (sides bound2)
  sides_grow = grows_both _ _ (side bound) (side bound2) (grows_closed (Word word.Out) (side bound) (side bound2) side_grows) side_grows (side_reads bound2).local

  box_grows : Grows (box_decl bound) (box_decl bound2)
  box_grows = grows_made box_of _ _ (grows_led (Word word.Box) _ _ (grows_both _ _ _ _ (named_grow (Word word.In))
      (grows_both (sides bound) (sides bound2) (rules bound) (rules bound2) sides_grow rules_grow (rules_reads bound2).local)
      (local_both (sides bound2) (rules bound2) (sides_reads bound2).local (rules_reads bound2).local)))

  first_value_grows : Grows (first_value bound) (first_value bound2)
  first_value_grows = grows_maybe (is_word word.Initial) _ _ (grows_led (Word word.Initial) (expression bound) (expression bound2) exp_grows)

  wire_grows : Grows (wire_decl bound) (wire_decl bound2)
  wire_grows =
      let last = local_closed (first_value bound2) (Sign symbol.Semicolon) (first_value_reads bound2).local in
      let behind_end = local_both wire_depth (closed (first_value bound2) (Sign symbol.Semicolon)) wire_depth_reads.local last in
      grows_made wire_of _ _ (grows_led (Word word.Wire) _ _ (grows_both (closed wire_end (Word word.To)) (closed wire_end (Word word.To)) _ _ (grows_closed (Word word.To) wire_end wire_end wire_end_grows)
      (grows_both wire_end wire_end _ _ wire_end_grows (grows_both wire_depth wire_depth _ _ wire_depth_grows (grows_closed (Sign symbol.Semicolon) _ _ first_value_grows) last) behind_end)
      (local_both wire_end (both wire_depth (closed (first_value bound2) (Sign symbol.Semicolon))) wire_end_reads.local behind_end)))

  pub whole_decl_grows : Grows (whole_decl bound) (whole_decl bound2)
  whole_decl_grows =
      grows_choice (is_word word.Data) _ _ _ _ data_grows
      (grows_choice (is_word word.Exception) _ _ _ _ exception_grows
      (grows_choice (is_word word.Box) _ _ _ _ box_grows
      (grows_choice (is_word word.Stream) _ _ _ _ stream_grows
      (grows_choice (is_word word.Wire) _ _ _ _ wire_grows grows_stop))))

  pub signature_grows : Grows (signature bound) (signature bound2)
  signature_grows = grows_led (Sign symbol.DoubleColon) _ _ (grows_closed (Sign symbol.Semicolon) _ _ (several_grow symbol.Arrow (types bound2) (types_read bound2).local (types bound) (types_read bound).local type_grows))

  some_patterns_grow : Grows (some_patterns bound) (some_patterns bound2)
  some_patterns_grow =
      let h = (patterns_grow bound bound2 more).atom in
      let local = (patterns_read bound2).atom.local in
      grows_made cons _ _ (grows_both (patterns bound).atom (patterns bound2).atom _ _ h
      (grows_many starts_pat (patterns bound).atom (patterns bound2).atom local h (atoms_shrink bound) (atoms_shrink bound2))
      (local_many starts_pat (patterns bound2).atom (atoms_shrink bound2) local))

  pub equation_grows : Grows (equation bound) (equation bound2)
  equation_grows = grows_both _ _ _ _ (grows_closed (Sign symbol.Equals) (some_patterns bound) (some_patterns bound2) some_patterns_grow)
      (grows_closed (Sign symbol.Semicolon) (expression bound) (expression bound2) exp_grows)
      (local_closed (expression bound2) (Sign symbol.Semicolon) exp_local)
