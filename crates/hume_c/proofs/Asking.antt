-- What words ask for, and when they ask for nothing.
use Rattle.std.proofs.Common.{◌≡◌, ◌≤◌, ◌<◌, ◌⊎◌, ◌↔◌, ℕ, Bool, true, false, List, [], ◌∷◌, Option, None, Some, IfSome, MatchOption, if◌then◌else◌, slice_index_or, map, length, refl, sym, ap, subst, ◌∙◌, inl, inr, arith}
use Rattle.std.specs.Bool.{⊤}
use Rattle.hume_ports.specs.Port.{PortView}
use Rattle.hume_ports.specs.Ports.{place_of}
use Rattle.run_rounds.specs.Streams.{std_out}
use Rattle.hume_calls.specs.declared.status.Status.{Status}
use Rattle.hume_calls.specs.declared.status.Status.TheVariants.{Usage}
use Rattle.hume_c.specs.declared.words.Kind.{Kind}
use Rattle.hume_c.specs.Words.{Request, is_name, kind_of, request_by, request_of}
use Rattle.hume_c.specs.Headline.{Answers, Headline, IsUsage}

module _ {A : Type 0} (f : A → List ℕ) where
  -- three words
  pub three_words : (words : List A) (first second third : A) (kind name source : List ℕ) → 3 ≤ length words → length words < 4
      → first ≡ slice_index_or words 0 first → second ≡ slice_index_or words 1 second → third ≡ slice_index_or words 2 third
      → kind ≡ f first → name ≡ f second → source ≡ f third → map f words ≡ kind ∷ name ∷ source ∷ []
  three_words [] first second third kind name source least less is_first is_second is_third kind_is name_is source_is = absurd (omega (arith, least))
  three_words (a ∷ []) first second third kind name source least less is_first is_second is_third kind_is name_is source_is = absurd (omega (arith, least))
  three_words (a ∷ b ∷ []) first second third kind name source least less is_first is_second is_third kind_is name_is source_is = absurd (omega (arith, least))
  three_words (a ∷ b ∷ c ∷ []) first second third kind name source least less is_first is_second is_third kind_is name_is source_is =
      let of_first : f a ≡ kind = ap f (sym is_first) ∙ sym kind_is in
      let of_second : f b ≡ name = ap f (sym is_second) ∙ sym name_is in
      let of_third : f c ≡ source = ap f (sym is_third) ∙ sym source_is in
      ap (λ (it : List ℕ). it ∷ f b ∷ f c ∷ []) of_first
      ∙ (ap (λ (it : List ℕ). kind ∷ it ∷ f c ∷ []) of_second ∙ ap (λ (it : List ℕ). kind ∷ name ∷ it ∷ []) of_third)
  three_words (a ∷ b ∷ c ∷ d ∷ words) first second third kind name source least less is_first is_second is_third kind_is name_is source_is =
      absurd (omega (arith, less))

  -- fewer or more words have no form
  pub other_words : (words : List A) → (length words ≡ 3 → ⊥) → request_of (map f words) ≡ None
  other_words [] other = refl
  other_words (a ∷ []) other = refl
  other_words (a ∷ b ∷ []) other = refl
  other_words (a ∷ b ∷ c ∷ []) other = absurd (other refl)
  other_words (a ∷ b ∷ c ∷ d ∷ words) other = refl

-- words without a form
pub formless : (words ports : List (List ℕ)) → request_of words ≡ None → (Usage ≡ Usage) ↔ IsUsage words ports
formless words ports is = (
  λ same. subst (λ (o : Option Request). MatchOption o ⊤ (λ request. (place_of std_out ports ≡ None) ⊎ (place_of request.source ports ≡ None))) (sym is) tt,
  λ usage. refl,
)

-- the same words by another text
pub same_usage : (words others ports : List (List ℕ)) (status : Status) → words ≡ others → (status ≡ Usage) ↔ IsUsage others ports
    → (status ≡ Usage) ↔ IsUsage words ports
same_usage words others ports status same usage = subst (λ (it : List (List ℕ)). (status ≡ Usage) ↔ IsUsage it ports) (sym same) usage

pub same_headline : (words others : List (List ℕ)) (olds news : List PortView) (status : Status) → words ≡ others → Headline others olds news status
    → Headline words olds news status
same_headline words others olds news status same headline = subst (λ (it : List (List ℕ)). Headline it olds news status) (sym same) headline

there_or_not : (o : Option ℕ) (at : ℕ) → o ≡ Some at → o ≡ None → ⊥
there_or_not o at there none = some_or_none at (sym there ∙ none)
  where
    some_or_none : (at : ℕ) → ◌≡◌ {A = Option ℕ} (Some at) None → ⊥
    some_or_none at is = cc

module _ (kind name source : List ℕ) where
  abbrev words : List (List ℕ)
  words = kind ∷ name ∷ source ∷ []

  -- the first word is none of the three
  pub unknown_kind : kind_of kind ≡ None → request_of words ≡ None
  unknown_kind is = ap (λ (o : Option Kind). request_by o name source) is

  nameless : (o : Option Kind) → is_name name ≡ false → request_by o name source ≡ None
  nameless None is = refl
  nameless (Some it) is =
      let asked : Request = record { kind = it; name = name; source = source } in
      ap (λ (named : Bool). if named then Some asked else None) is

  -- the second is no name of a program
  pub unnamed : is_name name ≡ false → request_of words ≡ None
  unnamed is = nameless (kind_of kind) is

  module _ (it : Kind) (is_kind : kind_of kind ≡ Some it) (named : is_name name ≡ true) where
    abbrev asked : Request
    asked = record { kind = it; name = name; source = source }

    asked_for : request_of words ≡ Some asked
    asked_for =
        ap (λ (o : Option Kind). request_by o name source) is_kind ∙ ap (λ (b : Bool). if b then Some asked else None) named

    -- a port is missing
    pub portless : (ports : List (List ℕ)) → (place_of std_out ports ≡ None) ⊎ (place_of source ports ≡ None) → (Usage ≡ Usage) ↔ IsUsage words ports
    portless ports lacks = (
      λ same. subst (λ (o : Option Request). MatchOption o ⊤ (λ request. (place_of std_out ports ≡ None) ⊎ (place_of request.source ports ≡ None)))
          (sym asked_for) lacks,
      λ usage. refl,
    )

    -- both ports are there
    pub ported : (ports : List (List ℕ)) (out at : ℕ) (status : Status) → place_of std_out ports ≡ Some out → place_of source ports ≡ Some at
        → (status ≡ Usage → ⊥) → (status ≡ Usage) ↔ IsUsage words ports
    ported ports out at status has_out has_source never = (
      λ is. absurd (never is),
      λ usage. absurd (elim (subst (λ (o : Option Request). MatchOption o ⊤ (λ request. (place_of std_out ports ≡ None) ⊎ (place_of request.source ports ≡ None)))
          asked_for usage) [
            | inl none ↦ there_or_not (place_of std_out ports) out has_out none
            | inr none ↦ there_or_not (place_of source ports) at has_source none
          ]),
    )

    pub asked_headline : (olds news : List PortView) (status : Status) → Answers asked olds news status → Headline words olds news status
    asked_headline olds news status answers =
        subst (λ (o : Option Request). IfSome o (λ request. (status ≡ Usage → ⊥) → Answers request olds news status)) (sym asked_for) (λ never. answers)
