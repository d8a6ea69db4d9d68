-- Each place that is told is one of the source, and each refusal a rule that it breaks.
use Rattle.std.proofs.Common.{◌≡◌, ◌⊎◌, ℕ, suc, ◌≤◌, ◌<◌, List, [], ◌∷◌, ◌++◌, length, sym, ap, ◌∙◌, subst, arith, inl, inr}
use Rattle.std.specs.List.{All}
use Rattle.hume_base.specs.declared.limits.TheConstants.{MAX_SOURCE_BYTES}
use Rattle.hume_base.specs.declared.rule.Rule.TheVariants.{C70}
use Rattle.hume_base.specs.declared.rule.Refusal.{Refusal}
use Rattle.hume_base.specs.declared.token.Kind.{Kind}
use Rattle.hume_base.specs.declared.token.Token.{Token}
use Rattle.hume_base.specs.Places.{line_at}
use Rattle.hume_base.specs.Rules.{phase_of}
use Rattle.hume_ast.specs.Fits.{IsProper}
use Rattle.hume_lex.specs.declared.lexer.LexError.{LexError}
use Rattle.hume_lex.specs.declared.lexer.LexError.TheVariants as lexical
use Rattle.hume_lex.specs.BadPlaces.{IsRead, IsBadPlace, bad_place}
use Rattle.hume_lex.proofs.Places.{token_within}
use Rattle.parse_errors.specs.declared.parse_error.ParseError.{ParseError}
use Rattle.parse_errors.specs.declared.parse_error.ParseError.TheVariants as syntactic
use Rattle.parse_errors.specs.WrongTokens.{BeginsSome, BeginsNone, IsWrongToken, IsWrongPlace}
use Rattle.hume_front.specs.declared.error.FrontError.{FrontError}
use Rattle.hume_front.specs.declared.error.FrontError.TheVariants.{Refused}
use Rattle.hume_front.specs.Accepted.{Breaks, too_long, bad_token, no_program, bounds_phase, IsUnsound}
use Rattle.hume_front.proofs.Reported.{rule_of_lexer, rule_of_parser, wrong_place, lexer_breaks, parser_breaks}

-- places

all_middle : {A : Type 0} (P : A → Type 0) (front : List A) (x : A) (rest : List A) → All P (front ++ x ∷ rest) → P x
all_middle P [] x rest all = all 0 x (omega arith)
all_middle P (y ∷ front) x rest all = all_middle P front x rest (λ k d h. all (suc k) d (omega (arith, h)))

token_place : (Why : List Kind → Type 0) (text : List ℕ) (tokens : List Token) (place : ℕ) → IsRead text tokens → IsWrongToken Why tokens place → place < length text
token_place Why text tokens place read wrong =
    let Within : Token → Type 0 = λ token. token.place < length text in
    let all : All Within (wrong.front ++ wrong.token ∷ wrong.rest) = subst (All Within) wrong.cut (token_within text tokens read.0) in
    subst (λ p. p < length text) wrong.here (all_middle Within wrong.front wrong.token wrong.rest all)

fault_place : (text : List ℕ) (tokens : List Token) (error : ParseError) → IsRead text tokens → IsWrongPlace tokens (length text) error → wrong_place error ≤ length text
fault_place text tokens (syntactic.Syntax place) read (inl wrong) = omega (arith, token_place (BeginsNone IsProper) text tokens place read wrong)
fault_place text tokens (syntactic.Syntax place) read (inr short) = omega (arith, short.1)
fault_place text tokens (syntactic.Deep place) read wrong = omega (arith, token_place (BeginsSome IsProper) text tokens place read wrong)
fault_place text tokens syntactic.NoMemory read wrong = absurd wrong

pub told_within : (text : List ℕ) (tokens : List Token) (given told : ParseError) → IsRead text tokens → (given ≡ syntactic.NoMemory) ⊎ IsWrongPlace tokens (length text) given
    → given ≡ told → wrong_place told ≤ length text
told_within text tokens given told read (inl none) same = subst (λ e. wrong_place e ≤ length text) (sym none ∙ same) (omega arith)
told_within text tokens given told read (inr wrong) same = fault_place text tokens told read (subst (IsWrongPlace tokens (length text)) same wrong)

-- refusals

unsound : (text : List ℕ) (refusal : Refusal) (result : FrontError) → Breaks text refusal → phase_of refusal.rule < bounds_phase → result ≡ Refused refusal
    → IsUnsound text result
unsound text refusal result breaks early is = subst (IsUnsound text) (sym is) (record { breaks = breaks; early = early })

-- rules on tokens and on the grammar come before those on what boxes may take
pub early_lexer : (told : LexError) → phase_of (rule_of_lexer told) < bounds_phase
early_lexer (lexical.BadChar place) = omega arith
early_lexer (lexical.BadNumber place) = omega arith
early_lexer (lexical.LongName place) = omega arith
early_lexer (lexical.TooManyTokens place) = omega arith
early_lexer lexical.NoMemory = omega arith

pub early_parser : (told : ParseError) → phase_of (rule_of_parser told) < bounds_phase
early_parser (syntactic.Syntax place) = omega arith
early_parser (syntactic.Deep place) = omega arith
early_parser syntactic.NoMemory = omega arith

pub too_long_told : (text : List ℕ) (result : FrontError) → MAX_SOURCE_BYTES < length text → result ≡ Refused (record { rule = C70; line = 1 }) → IsUnsound text result
too_long_told text result long is = unsound text (record { rule = C70; line = 1 }) result (too_long long) (omega arith) is

pub bad_token_told : (text : List ℕ) (given told : LexError) (line : ℕ) (result : FrontError) → length text ≤ MAX_SOURCE_BYTES
    → (given ≡ lexical.NoMemory) ⊎ IsBadPlace text given → given ≡ told → (told ≡ lexical.NoMemory → ⊥) → line ≡ line_at text (bad_place told)
    → result ≡ Refused (record { rule = rule_of_lexer told; line = line }) → IsUnsound text result
bad_token_told text given told line result short (inl none) same other line_is is = absurd (other (sym same ∙ none))
bad_token_told text given told line result short (inr bad) same other line_is is =
    let told_bad : IsBadPlace text told = subst (IsBadPlace text) same bad in
    unsound text (record { rule = rule_of_lexer told; line = line_at text (bad_place told) }) result
    (bad_token short (rule_of_lexer told) (bad_place told) (lexer_breaks text told told_bad)) (early_lexer told)
    (is ∙ ap (λ l. Refused (record { rule = rule_of_lexer told; line = l })) line_is)

pub no_program_told : (text : List ℕ) (tokens : List Token) (given told : ParseError) (line : ℕ) (result : FrontError) → length text ≤ MAX_SOURCE_BYTES → IsRead text tokens
    → (given ≡ syntactic.NoMemory) ⊎ IsWrongPlace tokens (length text) given → given ≡ told → (told ≡ syntactic.NoMemory → ⊥) → line ≡ line_at text (wrong_place told)
    → result ≡ Refused (record { rule = rule_of_parser told; line = line }) → IsUnsound text result
no_program_told text tokens given told line result short read (inl none) same other line_is is = absurd (other (sym same ∙ none))
no_program_told text tokens given told line result short read (inr wrong) same other line_is is =
    let told_wrong : IsWrongPlace tokens (length text) told = subst (IsWrongPlace tokens (length text)) same wrong in
    unsound text (record { rule = rule_of_parser told; line = line_at text (wrong_place told) }) result
    (no_program short tokens read (rule_of_parser told) (wrong_place told) (parser_breaks tokens (length text) told told_wrong)) (early_parser told)
    (is ∙ ap (λ l. Refused (record { rule = rule_of_parser told; line = l })) line_is)
