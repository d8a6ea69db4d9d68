-- Sources that are accepted one after another.
use Rattle.std.proofs.Common.{◌≡◌, ℕ, suc, List, [], ◌∷◌, map, length, ap, sym, ◌∙◌, refl, arith}
use Rattle.std.specs.List.{All}
use Rattle.std.proofs.lemmas.List.{length-map}
use Rattle.std.proofs.lemmas.List.Elements.{All-cons}
use Rattle.hume_front.specs.declared.acceptance.Accepted.{Accepted}
use Rattle.hume_front.specs.Accepted.{IsAccepted}
use Rattle.hume_front.proofs.Sources.{one_accepted_core}
use Rattle.union_front.specs.Unions.{core_of}
use Rattle.hume_calls.specs.Unions.{AreAccepted, text_of, union_texts}
use Rattle.hume_calls.specs.Words.{Named}

-- as many programs as sources
pub as_many : (texts : List (List ℕ)) (programs : List Accepted) → AreAccepted texts programs → length programs ≡ length texts
as_many [] [] are = refl
as_many [] (program ∷ programs) are = absurd are
as_many (text ∷ texts) [] are = absurd are
as_many (text ∷ texts) (program ∷ programs) are = ap suc (as_many texts programs are.1)

-- the programs of a union are as many as its sources
pub many_programs : (named : Named) (text : List ℕ) (texts : List ℕ → List ℕ) (programs : List Accepted) → AreAccepted (union_texts text named texts) programs
    → suc (length named.others) ≡ length programs
many_programs named text texts programs are =
    ap suc (sym (length-map named.others (text_of named.source text texts))) ∙ sym (as_many (union_texts text named texts) programs are)

-- what every accepted program has, each of these has
pub each_accepted : (P : Accepted → Type 0) → ((text : List ℕ) (program : Accepted) → IsAccepted text program → P program)
    → (texts : List (List ℕ)) (programs : List Accepted) → AreAccepted texts programs → All P programs
each_accepted P has [] [] are = λ k x less. absurd (omega (arith, less))
each_accepted P has [] (program ∷ programs) are = absurd are
each_accepted P has (text ∷ texts) [] are = absurd are
each_accepted P has (text ∷ texts) (program ∷ programs) are =
    All-cons P program programs (has text program are.0) (each_accepted P has texts programs are.1)

-- the same sources have the same cores

pub cores_same : (texts : List (List ℕ)) (programs others : List Accepted) → AreAccepted texts programs → AreAccepted texts others
    → map core_of programs ≡ map core_of others
cores_same [] [] [] are also = refl
cores_same [] [] (other ∷ others) are also = absurd also
cores_same [] (program ∷ programs) others are also = absurd are
cores_same (text ∷ texts) [] others are also = absurd are
cores_same (text ∷ texts) (program ∷ programs) [] are also = absurd also
cores_same (text ∷ texts) (program ∷ programs) (other ∷ others) are also =
    λ i. one_accepted_core text program other are.0 also.0 i ∷ cores_same texts programs others are.1 also.1 i
