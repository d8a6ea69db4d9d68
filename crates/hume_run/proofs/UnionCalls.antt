-- A call of a union, from its words: when it is a usage, and how it ends.
use Rattle.std.proofs.Common.{◌≡◌, ◌⊎◌, ◌||◌, ℕ, true, false, List, [], ◌∷◌, drop, take, map, Option, Some, None, IfSome, slice_index_or, refl, ap, sym, ◌∙◌, subst, inl, inr, arith}
use Rattle.std.specs.Prelude.{⊤}
use Rattle.std.specs.List.{list_any}
use Rattle.std.specs.Option.{MatchOption, IsSomeAnd, is_none}
use Rattle.std.proofs.lemmas.Bool.{or_parts, true≢false}
use Rattle.std.proofs.lemmas.List.{drop-map, take-map}
use Rattle.hume_ports.specs.Port.{PortView}
use Rattle.hume_ports.specs.Ports.{names, place_of}
use Rattle.port_acts.specs.Early.{after_reads}
use Rattle.port_acts.specs.Ends.{EndsAs, Owed}
use Rattle.run_rounds.specs.Streams.{std_out}
use Rattle.hume_calls.specs.declared.status.Status.{Status}
use Rattle.hume_calls.specs.declared.status.Status.TheVariants.{Fault, Usage}
use Rattle.hume_calls.specs.declared.order.Order.{Order}
use Rattle.hume_calls.specs.declared.order.Order.TheVariants.{Union}
use Rattle.hume_calls.specs.Few.{call_few}
use Rattle.hume_calls.specs.Headline.{Answers, Headline, IsUsage, LacksPort}
use Rattle.hume_calls.specs.Owed.{IsOwed, run_status}
use Rattle.hume_calls.specs.Reading.{source_reads}
use Rattle.hume_calls.specs.Words.{Named, all_differ, named_by, order_of, source_with}
use Rattle.hume_calls.proofs.Answering.{Ended}
use Rattle.hume_calls.proofs.UnionForms.{NamesSources, first_named, names_sources}

-- the sources that the words name
abbrev pub named_sources : List (List ℕ) → ℕ → ℕ → Named
named_sources words count sources = source_with (slice_index_or words sources []) (drop 1 (take count (drop sources words)))

-- as the code takes them from its words
module _ {A : Type 0} (bytes_of : A → List ℕ) (words : List A) (steps workers count sources : ℕ)
    (is : order_of (map bytes_of words) ≡ Some (Union steps workers count sources)) (len : ℕ) (all : len ≡ count) where
  found : NamesSources (map bytes_of words) count sources
  found = names_sources steps workers count sources (map bytes_of words) is

  taken : map bytes_of (take len (drop sources words)) ≡ take count (drop sources (map bytes_of words))
  taken =
      ap (λ n. map bytes_of (take n (drop sources words))) all ∙ sym (take-map bytes_of count (drop sources words))
      ∙ ap (take count) (sym (drop-map bytes_of sources words))

  pub slice_named : map bytes_of (take len (drop sources words))
      ≡ slice_index_or (map bytes_of words) sources [] ∷ drop 1 (take count (drop sources (map bytes_of words)))
  slice_named =
      let least = found.least in let place = found.place in let enough = found.enough in
      taken ∙ first_named (map bytes_of words) sources count (omega (arith, least)) (omega (arith, place, enough, least))

  pub slice_differs : all_differ (map bytes_of (take len (drop sources words))) ≡ true
  slice_differs =
      ap all_differ taken ∙ ap (λ n. all_differ (take count (drop n (map bytes_of words)))) found.place ∙ found.differ

-- usage

module _ (words ns : List (List ℕ)) (steps workers count sources : ℕ) (is : order_of words ≡ Some (Union steps workers count sources))
    (sliced : List (List ℕ)) (are : sliced ≡ slice_index_or words sources [] ∷ drop 1 (take count (drop sources words))) where
  abbrev source : List ℕ
  source = slice_index_or words sources []

  abbrev others : List (List ℕ)
  others = drop 1 (take count (drop sources words))

  abbrev IsUsageOf : Option Order → Type 0
  IsUsageOf order = MatchOption order ⊤ (λ o. (place_of std_out ns ≡ None) ⊎ IsSomeAnd (named_by words o) (LacksPort ns))

  lacks : (o : Option ℕ) → place_of source ns ≡ o → (is_none o || list_any (λ name. is_none (place_of name ns)) others) ≡ true
      → LacksPort ns (named_sources words count sources)
  lacks None none any = inl none
  lacks (Some at) there any = inr any

  pub lacking : list_any (λ name. is_none (place_of name ns)) sliced ≡ true → IsUsage words ns
  lacking any =
      let here = ap (list_any (λ name. is_none (place_of name ns))) (sym are) ∙ any in
      subst IsUsageOf (sym is) (inr (lacks (place_of source ns) refl here))

  pub not_lacking : (out : ℕ) → place_of std_out ns ≡ Some out → list_any (λ name. is_none (place_of name ns)) sliced ≡ false → IsUsage words ns → ⊥
  not_lacking out found any usage = by (subst IsUsageOf is usage)
    where
      parts : (is_none (place_of source ns) ≡ false) × (list_any (λ name. is_none (place_of name ns)) others ≡ false)
      parts = or_parts (is_none (place_of source ns)) (list_any (λ name. is_none (place_of name ns)) others)
          (ap (list_any (λ name. is_none (place_of name ns))) (sym are) ∙ any)

      by : IsUsageOf (Some (Union steps workers count sources)) → ⊥
      by (inl none) = cc
      by (inr (inl none)) = true≢false (sym (ap is_none none) ∙ parts.0)
      by (inr (inr some)) = true≢false (sym some ∙ parts.1)

-- how it ends

module _ (steps workers count sources : ℕ) (olds news : List PortView) (status : Status) where
  abbrev order : Order
  order = Union steps workers count sources

  answer_isnt : (o : Option ℕ) → run_status o ≡ Usage → ⊥
  answer_isnt None is = cc
  answer_isnt (Some round) is = cc

  owed_isnt : (named : Named) (text : List ℕ) (ns : List (List ℕ)) (texts : List ℕ → List ℕ) (owed : Owed Status) → IsOwed order named text ns texts owed
      → owed.answer ≡ Usage → ⊥
  owed_isnt named text ns texts owed (inl p) is = let refused = ap (λ (o : Owed Status). o.answer) p.2 in cc
  owed_isnt named text ns texts owed (inr p) is = answer_isnt _ (sym (ap (λ (o : Owed Status). o.answer) p.4) ∙ is)

  pub not_usage : (named : Named) → Ended order named olds news status → status ≡ Usage → ⊥
  not_usage named (inl (inl p)) is = let out = p.0 in cc
  not_usage named (inl (inr p)) is = let fault = p.0 in cc
  not_usage named (inr a) is = by a.ends
    where
      by : EndsAs (call_few order named a.text a.texts) (after_reads (source_reads named.source) a.owed) Fault olds news status → ⊥
      by (inl p) = owed_isnt named a.text (names olds) a.texts a.owed a.owes (sym p.0 ∙ is)
      by (inr p) = let fault = p.0 in cc

  pub union_headline : (words : List (List ℕ)) → order_of words ≡ Some order → Ended order (named_sources words count sources) olds news status
      → Headline words olds news status
  union_headline words is ends =
      subst (λ (o : Option Order). IfSome o (λ asked. (status ≡ Usage → ⊥) → Answers asked (named_by words asked) olds news status)) (sym is) (λ other. ends)
