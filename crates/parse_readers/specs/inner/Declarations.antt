-- Reading the declarations that stand alone, and the parts of functions. The bound is how deep types, patterns and
-- expressions may be.
use Rattle.std.specs.Prelude.{ℕ, List, [], ◌∷◌, Bool, true, false, Option, Some, None}
use Rattle.hume_base.specs.declared.keyword.Keyword.TheVariants as word
use Rattle.hume_base.specs.declared.symbol.Symbol.TheVariants as symbol
use Rattle.hume_base.specs.declared.token.Kind.{Kind}
use Rattle.hume_base.specs.declared.token.Kind.TheVariants.{Lower, Upper, Word, Sign}
use Rattle.hume_ast.specs.declared.tree.TyExp.{TyExp}
use Rattle.hume_ast.specs.declared.tree.Pat.{Pat, roll-Pat}
use Rattle.hume_ast.specs.declared.tree.Pat.TheOpen.{Pat-F}
use Rattle.hume_ast.specs.declared.tree.Exp.{Exp}
use Rattle.hume_ast.specs.declared.tree.Decl.{Decl}
use Rattle.hume_ast.specs.declared.tree.Decl.TheVariants.{Sum, Exn, BoxD, Stream, Wire}
use Rattle.parse_readers.specs.inner.Readers.{Reader, is_word, is_sign, led, closed, give, both, made, choice, alternatives, any_token, pick, many, cons, listed, several, maybe, lower_name, upper_name, number_of, port_name}
use Rattle.parse_readers.specs.inner.Types.{types}
use Rattle.parse_readers.specs.inner.Patterns.{starts_pat, patterns, input_pattern}
use Rattle.parse_readers.specs.inner.Expressions.{expressions}

-- whether a type begins so
abbrev pub starts_type : Kind → Bool
starts_type (Word word.Bool) = true
starts_type (Word word.Char) = true
starts_type (Word word.Int) = true
starts_type (Word word.Nat) = true
starts_type (Word word.Vector) = true
starts_type (Sign symbol.OpenParen) = true
starts_type (Upper name) = true
starts_type _ = false

abbrev pub expression : ℕ → Reader Exp
expression bound = (expressions bound bound).whole

-- in parentheses, one or more with commas between them
abbrev pub in_commas : {A : Type 0} → Reader A → Reader (List A)
in_commas item = led (Sign symbol.OpenParen) (closed (listed symbol.Comma item) (Sign symbol.CloseParen))

-- a constructor of a data type with the types of its parts
abbrev pub constructor : ℕ → Reader (List ℕ × List TyExp)
constructor bound = both (pick upper_name) (many starts_type (types bound))

abbrev pub sum_of : List ℕ × List (List ℕ × List TyExp) → Decl
sum_of parts = Sum parts.0 parts.1

abbrev pub data_decl : ℕ → Reader Decl
data_decl bound = made sum_of (led (Word word.Data) (both
    (closed (pick upper_name) (Sign symbol.Equals))
    (closed (listed symbol.Bar (constructor bound)) (Sign symbol.Semicolon))))

abbrev pub exn_of : List ℕ × Option TyExp → Decl
exn_of parts = Exn parts.0 parts.1

abbrev pub exception_decl : ℕ → Reader Decl
exception_decl bound = made exn_of (led (Word word.Exception) (both
    (pick upper_name)
    (closed (maybe starts_type (types bound)) (Sign symbol.Semicolon))))

-- an input or an output of a box, with its type
abbrev pub typed_name : ℕ → Reader (List ℕ × TyExp)
typed_name bound = both (closed (pick lower_name) (Sign symbol.DoubleColon)) (types bound)

-- the inputs or the outputs of a box
abbrev pub side : ℕ → Reader (List (List ℕ × TyExp))
side bound = in_commas (typed_name bound)

-- a rule of a box
abbrev pub rule : ℕ → Reader (List Pat × Exp)
rule bound = both (closed (in_commas (input_pattern bound)) (Sign symbol.Arrow)) (expression bound)

-- what a handler takes of an exception, if the token says it
abbrev pub carried_pat : Kind → Option Pat
carried_pat (Lower name) = Some (roll-Pat (Pat-F.Name name))
carried_pat (Sign symbol.Underscore) = Some (roll-Pat Pat-F.Any)
carried_pat _ = None

abbrev pub is_carried : Kind → Bool
is_carried (Lower name) = true
is_carried (Sign symbol.Underscore) = true
is_carried _ = false

abbrev pub handler_of : List ℕ × (Option Pat × Exp) → List ℕ × Option Pat × Exp
handler_of parts = (parts.0, parts.1.0, parts.1.1)

abbrev pub handler : ℕ → Reader (List ℕ × Option Pat × Exp)
handler bound = made handler_of (both
    (pick upper_name)
    (both (closed (maybe is_carried (pick carried_pat)) (Sign symbol.Arrow)) (expression bound)))

-- the handlers of a box, if it has any
abbrev pub handlers : ℕ → Reader (List (List ℕ × Option Pat × Exp))
handlers bound = choice (is_word word.Handle) (led (Word word.Handle) (listed symbol.Bar (handler bound))) (give [])

abbrev pub order_ways : List ((Kind → Bool) × Reader Bool)
order_ways =
    (is_word word.Fair, led (Word word.Fair) (give true))
    ∷ (any_token, led (Word word.Match) (give false))
    ∷ []

-- whether the rules of a box are fair
abbrev pub order : Reader Bool
order = alternatives order_ways

abbrev pub Rules : Type 0
Rules = List (List Pat × Exp) × List (List ℕ × Option Pat × Exp)

abbrev pub rules : ℕ → Reader (Bool × Rules)
rules bound = both order (both (listed symbol.Bar (rule bound)) (closed (handlers bound) (Sign symbol.Semicolon)))

abbrev pub Sides : Type 0
Sides = List (List ℕ × TyExp) × List (List ℕ × TyExp)

-- the inputs and the outputs of a box
abbrev pub sides : ℕ → Reader Sides
sides bound = both (closed (side bound) (Word word.Out)) (side bound)

abbrev pub box_of : List ℕ × (Sides × (Bool × Rules)) → Decl
box_of parts = BoxD parts.0 parts.1.0.0 parts.1.0.1 parts.1.1.0 parts.1.1.1.0 parts.1.1.1.1

abbrev pub box_decl : ℕ → Reader Decl
box_decl bound = made box_of (led (Word word.Box) (both
    (closed (pick lower_name) (Word word.In))
    (both (sides bound) (rules bound))))

abbrev pub way_ways : List ((Kind → Bool) × Reader Bool)
way_ways =
    (is_word word.From, led (Word word.From) (give true))
    ∷ (any_token, led (Word word.To) (give false))
    ∷ []

-- whether a stream comes in
abbrev pub way : Reader Bool
way = alternatives way_ways

abbrev pub stream_of : List ℕ × (Bool × List ℕ) → Decl
stream_of parts = Stream parts.0 parts.1.0 parts.1.1

abbrev pub stream_decl : Reader Decl
stream_decl = made stream_of (led (Word word.Stream) (both
    (pick lower_name)
    (both way (closed (pick port_name) (Sign symbol.Semicolon)))))

-- an end of a wire
abbrev pub wire_end : Reader (List ℕ × Option (List ℕ))
wire_end = both (pick lower_name) (maybe (is_sign symbol.Dot) (led (Sign symbol.Dot) (pick lower_name)))

-- how many values a wire holds
abbrev pub wire_depth : Reader (Option ℕ)
wire_depth = maybe (is_sign symbol.At) (led (Sign symbol.At) (pick number_of))

abbrev pub first_value : ℕ → Reader (Option Exp)
first_value bound = maybe (is_word word.Initial) (led (Word word.Initial) (expression bound))

abbrev pub wire_of : (List ℕ × Option (List ℕ)) × ((List ℕ × Option (List ℕ)) × (Option ℕ × Option Exp)) → Decl
wire_of parts = Wire parts.0 parts.1.0 parts.1.1.0 parts.1.1.1

abbrev pub wire_decl : ℕ → Reader Decl
wire_decl bound = made wire_of (led (Word word.Wire) (both
    (closed wire_end (Word word.To))
    (both wire_end (both wire_depth (closed (first_value bound) (Sign symbol.Semicolon))))))

-- a declaration of anything but a function
abbrev pub decl_ways : ℕ → List ((Kind → Bool) × Reader Decl)
decl_ways bound =
    (is_word word.Data, data_decl bound)
    ∷ (is_word word.Exception, exception_decl bound)
    ∷ (is_word word.Box, box_decl bound)
    ∷ (is_word word.Stream, stream_decl)
    ∷ (is_word word.Wire, wire_decl bound)
    ∷ []

abbrev pub whole_decl : ℕ → Reader Decl
whole_decl bound = alternatives (decl_ways bound)

-- the types of a function, behind its name
abbrev pub signature : ℕ → Reader (List TyExp)
signature bound = led (Sign symbol.DoubleColon) (closed (several symbol.Arrow (types bound)) (Sign symbol.Semicolon))

-- one or more patterns that stand beside each other
abbrev pub some_patterns : ℕ → Reader (List Pat)
some_patterns bound = made cons (both (patterns bound).atom (many starts_pat (patterns bound).atom))

-- an equation, behind the name of its function
abbrev pub equation : ℕ → Reader (List Pat × Exp)
equation bound = both
    (closed (some_patterns bound) (Sign symbol.Equals))
    (closed (expression bound) (Sign symbol.Semicolon))
