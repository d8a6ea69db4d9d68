-- Tokens have one answer: they stand for a program, or one place of them is wrong.
use Rattle.std.proofs.Common.{◌≡◌, ◌⊎◌, inl, inr, ℕ, suc, List, [], ◌∷◌, ◌++◌, length, Bool, true, false, refl, sym, ap, ◌∙◌, subst, append_assoc}
use Rattle.std.proofs.lemmas.List.{map-append}
use Rattle.hume_base.specs.declared.token.Kind.{Kind}
use Rattle.hume_base.specs.declared.token.Token.{Token}
use Rattle.hume_ast.specs.declared.tree.Program.{Program}
use Rattle.hume_ast.specs.Fits.{IsProper}
use Rattle.hume_ast.specs.Spelling.{spelled, spelled_decls}
use Rattle.hume_ast.specs.Places.{kinds, StandsFor}
use Rattle.hume_base.specs.declared.limits.TheConstants.{MAX_DEPTH}
use Rattle.parse_errors.specs.declared.parse_error.ParseError.{ParseError}
use Rattle.parse_errors.specs.declared.parse_error.ParseError.TheVariants.{Syntax, Deep, NoMemory}
use Rattle.parse_errors.specs.WrongTokens.{BeginsSome, BeginsNone, IsWrongToken, IsCutShort, IsWrongPlace}
use Rattle.parse_errors.specs.inner.Reported.{place_left, reported}
use Rattle.parse_readers.specs.inner.Readers.{Wrong}
use Rattle.parse_readers.proofs.Local.{SameNext}
use Rattle.parse_readers.proofs.StandingFor.{NoneGoesOn}
use Rattle.parse_readers.proofs.ExactPlace.{IsByDepth, IsExact}
use Rattle.parse_readers.proofs.OneExactPlace.{one_exact, exact_no_program, exact_or_program}
use Rattle.parse_errors.proofs.ReportedPlaces.{kinds_length}
use Rattle.parse_errors.proofs.ReportedPlaces.{through, place_there, none_left, stop_by, by_depth, reported_none, reported_some, exact_reported}

-- it is what is reported of the readers' wrong token
record IsReport (tokens : List Token) (end : ℕ) (error : ParseError) : Type 0 where
  pub deep : Bool
  pub left : ℕ
  pub exact : IsExact (kinds tokens) (deep, left)
  pub same : error ≡ reported (stop_by deep left) tokens end

abbrev Reason : Bool → List Kind → Type 0
Reason true = BeginsSome IsProper
Reason false = BeginsNone IsProper

module _ (tokens : List Token) (end : ℕ) where
  module _ (deep : Bool) (place : ℕ) (w : IsWrongToken (Reason deep) tokens place) where
    abbrev front : List Kind
    front = kinds w.front

    -- a spelling that goes on with the token
    on : (whole others : List Kind) (k : Kind) → whole ≡ front ++ k ∷ others → w.token.kind ≡ k → whole ≡ kinds (w.front ++ w.token ∷ []) ++ others
    on whole others k is same =
        is ∙ ap (λ j. front ++ j ∷ others) (sym same) ∙ sym (append_assoc front (w.token.kind ∷ []) others) ∙ ap (λ l. l ++ others) (sym (through w.front w.token))

    none : NoneGoesOn MAX_DEPTH front (kinds (w.token ∷ w.rest))
    none decls [] fit same is = absurd same
    none decls (k ∷ others) fit same is = w.wrong (record { decls = decls }) others fit (on (spelled_decls decls) others k is same)

    unless : BeginsNone IsProper (kinds (w.front ++ w.token ∷ [])) → (program : Program) (others : List Kind) → IsProper program
        → SameNext (kinds (w.token ∷ w.rest)) others → spelled program ≡ front ++ others → ⊥
    unless why program [] proper same is = absurd same
    unless why program (k ∷ others) proper same is = why program others proper (on (spelled program) others k is same)

    depth : (d : Bool) → Reason d (kinds (w.front ++ w.token ∷ [])) → IsByDepth d front (kinds (w.token ∷ w.rest))
    depth true why = subst (BeginsSome IsProper) (through w.front w.token) why
    depth false why = unless why

    of_token : IsReport tokens end (by_depth deep place)
    of_token = record {
      deep = deep;
      left = suc (length w.rest);
      exact = record {
        front = front;
        rest = kinds (w.token ∷ w.rest);
        cut = ap kinds w.cut ∙ map-append (λ (token : Token). token.kind) w.front (w.token ∷ w.rest);
        left = sym (kinds_length (w.token ∷ w.rest));
        begun = w.begun;
        none = none;
        depth = depth deep w.why;
      };
      same = ap (by_depth deep) (sym w.here)
          ∙ sym (reported_some deep (suc (length w.rest)) tokens end w.token.place (place_there tokens w.front w.rest w.token (suc (length w.rest)) w.cut refl));
    }

  module _ (c : IsCutShort tokens) where
    short_by : (deep : Bool) (left : ℕ) (x : IsExact (kinds tokens) (deep, left)) (rest : List Kind) → x.rest ≡ rest → IsReport tokens end (Syntax end)
    short_by true left x [] over = absurd (subst (λ l. IsByDepth true x.front l) over x.depth)
    short_by false left x [] over = record {
      deep = false;
      left = left;
      exact = x;
      same = sym (reported_none left tokens end (ap (place_left tokens) (x.left ∙ ap length over) ∙ none_left tokens));
    }
    short_by deep left x (k ∷ rest) over =
        let p = c.begun in
        absurd (x.none p.0.decls (k ∷ (rest ++ p.1)) p.2 (subst (λ l. SameNext l (k ∷ (rest ++ p.1))) (sym over) refl)
        (p.3 ∙ ap (λ l. l ++ p.1) (x.cut ∙ ap (λ l. x.front ++ l) over) ∙ append_assoc x.front (k ∷ rest) p.1))

    of_short : IsReport tokens end (Syntax end)
    of_short = elim (exact_or_program tokens) [
      | inl standing ↦ let stands = standing.1 in absurd (c.none standing.0 stands.0 stands.1)
      | inr found ↦ short_by found.0.0 found.0.1 found.1 found.1.rest refl
    ]

  report_of : (error : ParseError) → IsWrongPlace tokens end error → IsReport tokens end error
  report_of (Syntax place) (inl w) = of_token false place w
  report_of (Syntax place) (inr short) = subst (λ p. IsReport tokens end (Syntax p)) (sym short.1) (of_short short.0)
  report_of (Deep place) w = of_token true place w
  report_of NoMemory w = absurd w

  pub one_place : (e f : ParseError) → IsWrongPlace tokens end e → IsWrongPlace tokens end f → e ≡ f
  one_place e f v w =
      let a = report_of e v in
      let b = report_of f w in
      a.same ∙ ap (λ (x : Wrong). reported (stop_by x.0 x.1) tokens end) (one_exact (kinds tokens) (a.deep, a.left) (b.deep, b.left) a.exact b.exact) ∙ sym b.same

  pub none_stands : (error : ParseError) (program : Program) → IsWrongPlace tokens end error → StandsFor tokens program → ⊥
  none_stands error program w stands = let a = report_of error w in exact_no_program (kinds tokens) (a.deep, a.left) a.exact program stands.0 stands.1

  pub answered : ((program : Program) × StandsFor tokens program) ⊎ ((error : ParseError) × IsWrongPlace tokens end error)
  answered = elim (exact_or_program tokens) [
    | inl standing ↦ inl standing
    | inr found ↦ inr (reported (stop_by found.0.0 found.0.1) tokens end, exact_reported tokens end found.0.0 found.0.1 found.1)
  ]

  -- where the tokens stand for a program, nothing but memory can be wanting
  pub only_memory : (error : ParseError) (program : Program) → StandsFor tokens program → (error ≡ NoMemory) ⊎ IsWrongPlace tokens end error → error ≡ NoMemory
  only_memory error program stands (inl memory) = memory
  only_memory error program stands (inr w) = absurd (none_stands error program w stands)
