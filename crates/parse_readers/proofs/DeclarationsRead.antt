-- The declarations that are read, and the parts of functions.
use Rattle.std.proofs.Common.{◌≡◌, ℕ, ◌≤◌, List, [], ◌∷◌, ◌++◌, map, length, false, refl, sym, ap, ◌∙◌, arith, append_assoc}
use Rattle.std.specs.Prelude.{Ok, Bool, Option, Some, None}
use Rattle.hume_base.specs.declared.keyword.Keyword.TheVariants as word
use Rattle.hume_base.specs.declared.symbol.Symbol.TheVariants as symbol
use Rattle.hume_base.specs.declared.token.Kind.{Kind}
use Rattle.hume_base.specs.declared.token.Kind.TheVariants.{Lower, Upper, Quoted, Word, Sign}
use Rattle.hume_ast.specs.declared.tree.TyExp.{TyExp}
use Rattle.hume_ast.specs.declared.tree.Pat.{Pat}
use Rattle.hume_ast.specs.declared.tree.Exp.{Exp}
use Rattle.hume_ast.specs.declared.tree.Decl.{Decl}
use Rattle.hume_ast.specs.declared.tree.Decl.TheVariants.{Sum, Exn, Fun, BoxD, Stream, Wire}
use Rattle.hume_ast.specs.Spelling.{spelled_ty, spelled_pat, spelled_exp, separated, beside, spelled_constructor, spelled_side, spelled_rule, spelled_handlers, order_word, way_word, spelled_end, spelled_wire_depth, spelled_initial, spelled_carries, ended, spelled_decl}
use Rattle.hume_ast.specs.Fits.{Each, OneOrMore, IfThere, TypeFits, PatFits, ExpFits, TypedNameFits, RuleFits, HandlerFits, DeclFits}
use Rattle.parse_readers.specs.inner.Readers.{led, closed, both, listed, maybe, cons, next, pick, is_sign, lower_name, upper_name, port_name}
use Rattle.parse_readers.specs.inner.Types.{types}
use Rattle.parse_readers.specs.inner.Patterns.{starts_pat, patterns}
use Rattle.parse_readers.specs.inner.Declarations.{starts_type, constructor, sum_of, exn_of, Rules, rules, Sides, sides, box_of, way, stream_of, wire_end, wire_depth, first_value, wire_of, decl_ways, whole_decl, signature, some_patterns, equation}
use Rattle.parse_readers.proofs.Local.{local_made}
use Rattle.parse_readers.proofs.TypesRead.{upper_reads, lower_reads, port_reads, types_read}
use Rattle.parse_readers.proofs.PatternsRead.{PatEnds, patterns_read, first_pat}
use Rattle.parse_readers.proofs.Levels.{EndsAt}
use Rattle.parse_readers.proofs.DeclarationParts.{order_reads, way_reads, wire_end_reads, wire_depth_reads, exp_reads, constructor_reads, carries_reads, side_reads, rule_reads, handlers_reads, first_value_reads}
use Rattle.parse_readers.proofs.Forms.{Reads, Anything, Sound, led_reads, closed_reads, both_reads, many_reads, listed_reads, several_reads, made_reads, made_sound, made_complete, ending, beside_map, alternatives_sound, alternatives_local, respelled}

-- a declaration of anything but a function
abbrev pub StandsAlone : Decl → Type 0
StandsAlone (Fun name types equations) = ⊥
StandsAlone _ = Unit {0}

stream_reads : Reads (λ (a : List ℕ × (Bool × List ℕ)). Word word.Stream ∷ Lower a.0 ∷ Word (way_word a.1.0) ∷ Quoted a.1.1 ∷ Sign symbol.Semicolon ∷ []) (λ (a : List ℕ × (Bool × List ℕ)). Unit {0} × (Unit {0} × Unit {0})) Anything
    (led (Word word.Stream) (both (pick lower_name) (both way (closed (pick port_name) (Sign symbol.Semicolon)))))
stream_reads = led_reads (both_reads lower_reads (both_reads way_reads (closed_reads port_reads (Sign symbol.Semicolon) tt (λ rest. tt)) (λ b rest f e. tt)) (λ b rest f e. tt)) (Word word.Stream) tt

module _ (bound : ℕ) where
  abbrev pub ConstructorFits : List ℕ × List TyExp → Type 0
  ConstructorFits c = Each (TypeFits bound) c.1

  data_reads : Reads (λ (a : List ℕ × List (List ℕ × List TyExp)). Word word.Data ∷ Upper a.0 ∷ Sign symbol.Equals ∷ ended (separated symbol.Bar (map spelled_constructor a.1))) (λ (a : List ℕ × List (List ℕ × List TyExp)). Unit {0} × OneOrMore ConstructorFits a.1) Anything
      (led (Word word.Data) (both (closed (pick upper_name) (Sign symbol.Equals)) (closed (listed symbol.Bar (constructor bound)) (Sign symbol.Semicolon))))
  data_reads = led_reads (both_reads (closed_reads upper_reads (Sign symbol.Equals) tt (λ rest. tt)) (closed_reads (listed_reads (constructor_reads bound) symbol.Bar (λ rest. refl)) (Sign symbol.Semicolon) tt (λ rest. (refl, refl))) (λ b rest f e. tt)) (Word word.Data) tt

  exception_reads : Reads (λ (a : List ℕ × Option TyExp). Word word.Exception ∷ Upper a.0 ∷ ended (spelled_carries a.1)) (λ (a : List ℕ × Option TyExp). Unit {0} × IfThere (TypeFits bound) a.1) Anything
      (led (Word word.Exception) (both (pick upper_name) (closed (maybe starts_type (types bound)) (Sign symbol.Semicolon))))
  exception_reads = led_reads (both_reads upper_reads (closed_reads (carries_reads bound) (Sign symbol.Semicolon) tt (λ rest. refl)) (λ b rest f e. tt)) (Word word.Exception) tt

  pub sides_reads : Reads (λ (a : Sides). (spelled_side a.0 ++ Word word.Out ∷ []) ++ spelled_side a.1) (λ (a : Sides). OneOrMore (TypedNameFits bound) a.0 × OneOrMore (TypedNameFits bound) a.1) Anything (sides bound)
  sides_reads = both_reads (closed_reads (side_reads bound) (Word word.Out) tt (λ rest. tt)) (side_reads bound) (λ b rest f e. tt)

  pub rules_reads : Reads (λ (a : Bool × Rules). Word (order_word a.0) ∷ (separated symbol.Bar (map spelled_rule a.1.0) ++ ended (spelled_handlers a.1.1))) (λ (a : Bool × Rules). Unit {0} × (OneOrMore (RuleFits bound) a.1.0 × Each (HandlerFits bound) a.1.1)) Anything (rules bound)
  rules_reads = both_reads order_reads (both_reads (listed_reads (rule_reads bound) symbol.Bar (λ rest. omega arith)) (closed_reads (handlers_reads bound) (Sign symbol.Semicolon) tt (λ rest. (refl, refl, omega arith))) rules_end) (λ b rest f e. tt) where
    rules_end : (hs : List (List ℕ × Option Pat × Exp)) (rest : List Kind) → Each (HandlerFits bound) hs → Unit {0} → (next (is_sign symbol.Bar) ((spelled_handlers hs ++ Sign symbol.Semicolon ∷ []) ++ rest) ≡ false) × EndsAt 1 ((spelled_handlers hs ++ Sign symbol.Semicolon ∷ []) ++ rest)
    rules_end [] rest f e = (refl, omega arith)
    rules_end (h ∷ hs) rest f e = (refl, omega arith)

  box_reads : Reads (λ (a : List ℕ × (Sides × (Bool × Rules))). Word word.Box ∷ Lower a.0 ∷ Word word.In ∷ (((spelled_side a.1.0.0 ++ Word word.Out ∷ []) ++ spelled_side a.1.0.1) ++ Word (order_word a.1.1.0) ∷ (separated symbol.Bar (map spelled_rule a.1.1.1.0) ++ ended (spelled_handlers a.1.1.1.1))))
      (λ (a : List ℕ × (Sides × (Bool × Rules))). Unit {0} × ((OneOrMore (TypedNameFits bound) a.1.0.0 × OneOrMore (TypedNameFits bound) a.1.0.1) × (Unit {0} × (OneOrMore (RuleFits bound) a.1.1.1.0 × Each (HandlerFits bound) a.1.1.1.1)))) Anything
      (led (Word word.Box) (both (closed (pick lower_name) (Word word.In)) (both (sides bound) (rules bound))))
  box_reads = led_reads (both_reads (closed_reads lower_reads (Word word.In) tt (λ rest. tt)) (both_reads sides_reads rules_reads (λ b rest f e. tt)) (λ b rest f e. tt)) (Word word.Box) tt

  pub box_same : (a : List ℕ × (Sides × (Bool × Rules))) → spelled_decl (box_of a) ≡ Word word.Box ∷ Lower a.0 ∷ Word word.In ∷ (((spelled_side a.1.0.0 ++ Word word.Out ∷ []) ++ spelled_side a.1.0.1) ++ Word (order_word a.1.1.0) ∷ (separated symbol.Bar (map spelled_rule a.1.1.1.0) ++ ended (spelled_handlers a.1.1.1.1)))
  box_same a =
      let inputs = spelled_side a.1.0.0 in
      let outputs = spelled_side a.1.0.1 in
      let body = Word (order_word a.1.1.0) ∷ (separated symbol.Bar (map spelled_rule a.1.1.1.0) ++ ended (spelled_handlers a.1.1.1.1)) in
      ap (λ m. Word word.Box ∷ Lower a.0 ∷ Word word.In ∷ m) (sym (append_assoc (inputs ++ Word word.Out ∷ []) outputs body ∙ append_assoc inputs (Word word.Out ∷ []) (outputs ++ body)))

  abbrev End : Type 0
  End = List ℕ × Option (List ℕ)

  abbrev pub WireParts : Type 0
  WireParts = End × (End × (Option ℕ × Option Exp))

  abbrev pub wire_spelled : WireParts → List Kind
  wire_spelled a = Word word.Wire ∷ ((spelled_end a.0 ++ Word word.To ∷ []) ++ (spelled_end a.1.0 ++ (spelled_wire_depth a.1.1.0 ++ ended (spelled_initial a.1.1.1))))

  wire_reads : Reads wire_spelled (λ (a : WireParts). Unit {0} × (Unit {0} × (Unit {0} × IfThere (ExpFits bound bound 1) a.1.1.1))) Anything
      (led (Word word.Wire) (both (closed wire_end (Word word.To)) (both wire_end (both wire_depth (closed (first_value bound) (Sign symbol.Semicolon))))))
  wire_reads = led_reads (both_reads (closed_reads wire_end_reads (Word word.To) tt (λ rest. refl)) (both_reads wire_end_reads (both_reads wire_depth_reads (closed_reads (first_value_reads bound) (Sign symbol.Semicolon) tt (λ rest. (refl, omega arith))) no_at) no_dot) (λ b rest f e. tt)) (Word word.Wire) tt where
    no_at : (o : Option Exp) (rest : List Kind) → IfThere (ExpFits bound bound 1) o → Unit {0} → next (is_sign symbol.At) (ended (spelled_initial o) ++ rest) ≡ false
    no_at None rest f e = refl
    no_at (Some value) rest f e = refl

    no_dot : (o : Option ℕ × Option Exp) (rest : List Kind) → Unit {0} × IfThere (ExpFits bound bound 1) o.1 → Unit {0} → next (is_sign symbol.Dot) ((spelled_wire_depth o.0 ++ ended (spelled_initial o.1)) ++ rest) ≡ false
    no_dot (None, None) rest f e = refl
    no_dot (None, Some value) rest f e = refl
    no_dot (Some depth, o) rest f e = refl

  pub wire_same : (a : WireParts) → spelled_decl (wire_of a) ≡ wire_spelled a
  wire_same a = ap (λ m. Word word.Wire ∷ m) (sym (append_assoc (spelled_end a.0) (Word word.To ∷ []) (spelled_end a.1.0 ++ (spelled_wire_depth a.1.1.0 ++ ended (spelled_initial a.1.1.1)))))

  abbrev pub WholeFits : Decl → Type 0
  WholeFits decl = StandsAlone decl × DeclFits bound decl

  whole_sound : Sound spelled_decl WholeFits (whole_decl bound)
  whole_sound = alternatives_sound spelled_decl WholeFits (decl_ways bound) (
    made_sound data_reads sum_of spelled_decl WholeFits (λ a f. (tt, f.1)) (λ a f. refl),
    (
      made_sound exception_reads exn_of spelled_decl WholeFits (λ a f. (tt, f.1)) (λ a f. refl),
      (
        made_sound box_reads box_of spelled_decl WholeFits (λ a f. (tt, (f.1.0.0, f.1.0.1, f.1.1.1.0, f.1.1.1.1))) (λ a f. box_same a),
        (
          made_sound stream_reads stream_of spelled_decl WholeFits (λ a f. (tt, tt)) (λ a f. refl),
          (
            made_sound wire_reads wire_of spelled_decl WholeFits (λ a f. (tt, f.1.1.1)) (λ a f. wire_same a),
            tt,
          ),
        ),
      ),
    ),
  )

  whole_complete : (decl : Decl) (rest : List Kind) → WholeFits decl → Unit {0} → whole_decl bound (spelled_decl decl ++ rest) ≡ Ok (decl, rest)
  whole_complete (Sum name constructors) rest f e = made_complete data_reads sum_of (name, constructors) rest (tt, f.1) tt
  whole_complete (Exn name carries) rest f e = made_complete exception_reads exn_of (name, carries) rest (tt, f.1) tt
  whole_complete (Fun name tys equations) rest f e = absurd f.0
  whole_complete (BoxD name inputs outputs fair rs hs) rest f e =
      let a : List ℕ × (Sides × (Bool × Rules)) = (name, ((inputs, outputs), (fair, (rs, hs)))) in
      ap (λ m. whole_decl bound (m ++ rest)) (box_same a) ∙ made_complete box_reads box_of a rest (tt, ((f.1.0, f.1.1), (tt, (f.1.2, f.1.3)))) tt
  whole_complete (Stream name from port) rest f e = made_complete stream_reads stream_of (name, (from, port)) rest (tt, (tt, tt)) tt
  whole_complete (Wire source target depth initial) rest f e =
      let a : WireParts = (source, (target, (depth, initial))) in
      ap (λ m. whole_decl bound (m ++ rest)) (wire_same a) ∙ made_complete wire_reads wire_of a rest (tt, (tt, (tt, f.1))) tt

  pub whole_decl_reads : Reads spelled_decl WholeFits Anything (whole_decl bound)
  whole_decl_reads = record {
    sound = whole_sound;
    complete = whole_complete;
    local = alternatives_local (decl_ways bound) (
      local_made sum_of _ data_reads.local,
      (
        local_made exn_of _ exception_reads.local,
        (
          local_made box_of _ box_reads.local,
          (
            local_made stream_of _ stream_reads.local,
            (
              local_made wire_of _ wire_reads.local,
              tt,
            ),
          ),
        ),
      ),
    );
  }

  pub signature_reads : Reads (λ (ts : List TyExp). Sign symbol.DoubleColon ∷ ended (separated symbol.Arrow (map spelled_ty ts))) (λ (ts : List TyExp). (2 ≤ length ts) × Each (TypeFits bound) ts) Anything (signature bound)
  signature_reads = led_reads (closed_reads (several_reads (types_read bound) symbol.Arrow (λ rest. tt)) (Sign symbol.Semicolon) tt (λ rest. (refl, tt))) (Sign symbol.DoubleColon) tt

  pub beside_reads : Reads (λ (ps : List Pat). beside (map spelled_pat ps)) (OneOrMore (PatFits bound 2)) PatEnds (some_patterns bound)
  beside_reads = made_reads (both_reads atoms (ending (many_reads atoms starts_pat (λ p rest f. first_pat bound p rest f) (λ p rest f. tt)) PatEnds (λ rest e. (e, tt))) (λ b rest f e. tt)) cons (λ (ps : List Pat). beside (map spelled_pat ps)) (OneOrMore (PatFits bound 2))
      (λ a f. (omega arith, f)) (λ a f. beside_map spelled_pat (cons a)) apart where
        atoms : Reads spelled_pat (PatFits bound 2) Anything (patterns bound).atom
        atoms = (patterns_read bound).atom

        apart : (ps : List Pat) → OneOrMore (PatFits bound 2) ps → (a : Pat × List Pat) × (cons a ≡ ps) × (PatFits bound 2 a.0 × Each (PatFits bound 2) a.1)
        apart [] f = absurd (omega (arith, f.0))
        apart (p ∷ ps) f = ((p, ps), refl, f.1)

  pub equation_reads : Reads (λ (a : List Pat × Exp). beside (map spelled_pat a.0) ++ Sign symbol.Equals ∷ ended (spelled_exp a.1)) (λ (a : List Pat × Exp). OneOrMore (PatFits bound 2) a.0 × ExpFits bound bound 1 a.1) Anything (equation bound)
  equation_reads = respelled (both_reads (closed_reads beside_reads (Sign symbol.Equals) tt (λ rest. refl)) (closed_reads (exp_reads bound) (Sign symbol.Semicolon) tt (λ rest. omega arith)) (λ b rest f e. tt))
      (λ (a : List Pat × Exp). beside (map spelled_pat a.0) ++ Sign symbol.Equals ∷ ended (spelled_exp a.1)) (λ a. sym (append_assoc (beside (map spelled_pat a.0)) (Sign symbol.Equals ∷ []) (ended (spelled_exp a.1))))
