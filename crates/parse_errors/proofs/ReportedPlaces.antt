-- What is reported of a stop is the one wrong token, and why it is wrong.
use Rattle.std.proofs.Common.{◌≡◌, ◌⊎◌, inl, inr, ℕ, suc, ◌-◌, List, [], ◌∷◌, ◌++◌, length, drop, Bool, true, false, refl, sym, ap, ◌∙◌, subst, arith, length-append, append_assoc, append-nil}
use Rattle.std.specs.Prelude.{Some, None}
use Rattle.std.proofs.lemmas.List.{drop_at, drop_all, map-append}
use Rattle.hume_base.specs.declared.limits.TheConstants.{MAX_DEPTH}
use Rattle.hume_base.specs.declared.token.Kind.{Kind}
use Rattle.hume_base.specs.declared.token.Token.{Token}
use Rattle.hume_ast.specs.declared.tree.Program.{Program}
use Rattle.hume_ast.specs.Fits.{IsProper, IsFit}
use Rattle.hume_ast.specs.Spelling.{spelled}
use Rattle.hume_ast.specs.Places.{kinds}
use Rattle.parse_errors.specs.declared.parse_error.ParseError.{ParseError}
use Rattle.parse_errors.specs.declared.parse_error.ParseError.TheVariants.{Syntax, Deep}
use Rattle.parse_errors.specs.declared.stop.Stop.{Stop}
use Rattle.parse_errors.specs.declared.stop.Stop.TheVariants as stop
use Rattle.parse_errors.specs.WrongTokens.{BeginsSome, BeginsNone, IsWrongToken, IsWrongPlace}
use Rattle.parse_errors.specs.inner.Gives.{Fails}
use Rattle.parse_errors.specs.inner.Reported.{place_of, place_left, reported_syntax, reported_deep, reported}
use Rattle.parse_readers.specs.inner.Programs.{program}
use Rattle.parse_readers.proofs.StandingFor.{NoneGoesOn}
use Rattle.parse_readers.proofs.ExactPlace.{IsByDepth, IsExact, program_exact}

pub kinds_length : (tokens : List Token) → length (kinds tokens) ≡ length tokens
kinds_length [] = refl
kinds_length (token ∷ tokens) = ap suc (kinds_length tokens)

-- the token behind those of the kinds in front
pub record CutAt (tokens : List Token) (before behind : List Kind) (kind : Kind) : Type 0 where
  pub front : List Token
  pub token : Token
  pub rest : List Token
  pub cut : tokens ≡ front ++ token ∷ rest
  pub same_front : kinds front ≡ before
  pub same_kind : token.kind ≡ kind
  pub same_rest : kinds rest ≡ behind

cut_at : (tokens : List Token) (before behind : List Kind) (kind : Kind) → kinds tokens ≡ before ++ kind ∷ behind → CutAt tokens before behind kind
cut_at [] [] behind kind e = absurd (let f = e in cc)
cut_at [] (k ∷ before) behind kind e = absurd (let f = e in cc)
cut_at (token ∷ tokens) [] behind kind e = record {
  front = [];
  token = token;
  rest = tokens;
  cut = refl;
  same_front = refl;
  same_kind = (let f = e in cc);
  same_rest = (let f = e in cc);
}
cut_at (token ∷ tokens) (k ∷ before) behind kind e =
    let later : kinds tokens ≡ before ++ kind ∷ behind = (let f = e in cc) in
    let first : token.kind ≡ k = (let f = e in cc) in
    let s = cut_at tokens before behind kind later in record {
      front = token ∷ s.front;
      token = s.token;
      rest = s.rest;
      cut = ap (λ ts. token ∷ ts) {y = s.front ++ s.token ∷ s.rest} s.cut;
      same_front = (let here = s.same_front in cc);
      same_kind = s.same_kind;
      same_rest = s.same_rest;
    }

-- the kinds of the tokens through one
pub through : (front : List Token) (token : Token) → kinds (front ++ token ∷ []) ≡ kinds front ++ token.kind ∷ []
through front token = map-append (λ (token : Token). token.kind) front (token ∷ [])

-- where the token stands that has so many behind it
pub place_there : (tokens front rest : List Token) (token : Token) (left : ℕ) → tokens ≡ front ++ token ∷ rest → left ≡ suc (length rest) → place_left tokens left ≡ Some token.place
place_there tokens front rest token left cut many =
    let long : length front ≡ length tokens - left = omega (arith, ap length cut, length-append front (token ∷ rest), many) in
    ap (λ (ts : List Token). place_of (drop (length tokens - left) ts)) cut ∙ ap place_of (drop_at front (token ∷ rest) (length tokens - left) long)

pub none_left : (tokens : List Token) → place_left tokens 0 ≡ None
none_left tokens = ap place_of (drop_all (length tokens - 0) tokens (omega arith))

-- the stop that says so of the readers' wrong token
abbrev pub stop_by : Bool → ℕ → Stop
stop_by true left = stop.Deep left
stop_by false left = stop.Syntax left

abbrev pub by_depth : Bool → ℕ → ParseError
by_depth true place = Deep place
by_depth false place = Syntax place

-- what is reported where no token is left, and where one is
pub reported_none : (left : ℕ) (tokens : List Token) (end : ℕ) → place_left tokens left ≡ None → reported (stop_by false left) tokens end ≡ Syntax end
reported_none left tokens end e = ap (reported_syntax end) e

pub reported_some : (deep : Bool) (left : ℕ) (tokens : List Token) (end place : ℕ) → place_left tokens left ≡ Some place → reported (stop_by deep left) tokens end ≡ by_depth deep place
reported_some true left tokens end place e = ap (reported_deep end) e
reported_some false left tokens end place e = ap (reported_syntax end) e

module _ (tokens : List Token) (end : ℕ) where
  -- the token behind those in front is wrong
  module _ (front rest : List Kind) (kind : Kind) (c : CutAt tokens front rest kind) (begun : BeginsSome IsFit front) (none : NoneGoesOn MAX_DEPTH front (kind ∷ rest)) where
    through_it : kinds (c.front ++ c.token ∷ []) ≡ front ++ kind ∷ []
    through_it = through c.front c.token ∙ ap (λ l. l ++ c.token.kind ∷ []) c.same_front ∙ ap (λ k. front ++ k ∷ []) c.same_kind

    on_with : (program : Program) (more : List Kind) → spelled program ≡ kinds (c.front ++ c.token ∷ []) ++ more → spelled program ≡ front ++ kind ∷ more
    on_with program more is = is ∙ ap (λ l. l ++ more) through_it ∙ append_assoc front (kind ∷ []) more

    token_with : (Why : List Kind → Type 0) → Why (kinds (c.front ++ c.token ∷ [])) → IsWrongToken Why tokens c.token.place
    token_with Why why = record {
      front = c.front;
      token = c.token;
      rest = c.rest;
      cut = c.cut;
      here = refl;
      begun = subst (BeginsSome IsFit) (sym c.same_front) begun;
      wrong = λ program more fit is. none program.decls (kind ∷ more) fit refl (on_with program more is);
      why = why;
    }

    wrong_by : (deep : Bool) → IsByDepth deep front (kind ∷ rest) → IsWrongPlace tokens end (by_depth deep c.token.place)
    wrong_by true depth = token_with (BeginsSome IsProper) (subst (BeginsSome IsProper) (sym through_it) depth)
    wrong_by false depth = inl (token_with (BeginsNone IsProper) (λ program more proper is. depth program (kind ∷ more) proper refl (on_with program more is)))

  right_by : (deep : Bool) (left : ℕ) (front rest : List Kind) → kinds tokens ≡ front ++ rest → left ≡ length rest → BeginsSome IsFit front → NoneGoesOn MAX_DEPTH front rest → IsByDepth deep front rest
      → IsWrongPlace tokens end (reported (stop_by deep left) tokens end)
  right_by true left front [] cut many begun none depth = absurd depth
  right_by false left front [] cut many begun none depth =
      let all : kinds tokens ≡ front = cut ∙ append-nil front in
      subst (IsWrongPlace tokens end) (sym (reported_none left tokens end (ap (place_left tokens) many ∙ none_left tokens)))
      (inr (record { begun = subst (BeginsSome IsFit) (sym all) begun; none = λ program fit is. none program.decls [] fit tt (is ∙ cut) }, refl))
  right_by deep left front (kind ∷ rest) cut many begun none depth =
      let c = cut_at tokens front rest kind cut in
      let there = place_there tokens c.front c.rest c.token left c.cut (many ∙ ap suc (ap length (sym c.same_rest) ∙ kinds_length c.rest)) in
      subst (IsWrongPlace tokens end) (sym (reported_some deep left tokens end c.token.place there)) (wrong_by front rest kind c begun none deep depth)

  -- exactly one token is wrong, and it is reported
  pub exact_reported : (deep : Bool) (left : ℕ) → IsExact (kinds tokens) (deep, left) → IsWrongPlace tokens end (reported (stop_by deep left) tokens end)
  exact_reported deep left x = right_by deep left x.front x.rest x.cut x.left x.begun x.none x.depth

-- of tokens that stand for no program the one wrong place is reported, unless memory ran out
pub reported_right : (why : Stop) (tokens : List Token) (end : ℕ) → Fails why (program MAX_DEPTH (kinds tokens)) → (why ≡ stop.Memory) ⊎ IsWrongPlace tokens end (reported why tokens end)
reported_right stop.Memory tokens end f = inl refl
reported_right (stop.Syntax left) tokens end f = inr (exact_reported tokens end false left (program_exact (kinds tokens) (false, left) f))
reported_right (stop.Deep left) tokens end f = inr (exact_reported tokens end true left (program_exact (kinds tokens) (true, left) f))
