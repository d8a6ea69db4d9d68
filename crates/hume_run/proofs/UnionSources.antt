-- The names of a union's sources, as the code has them in its words: the first one, and the others.
use Rattle.std.proofs.Common.{◌≡◌, ◌≤◌, ℕ, suc, Vec, Global, List, [], ◌∷◌, drop, map, length, slice_index_or, refl, sym, ap, ◌∙◌, subst, arith}
use Rattle.std.proofs.lemmas.List.{length-map}
use Rattle.hume_ports.specs.Port.{PortView}
use Rattle.hume_front.specs.declared.acceptance.Accepted.{Accepted}
use Rattle.hume_calls.specs.declared.status.Status.{Status}
use Rattle.hume_calls.specs.declared.program_refusal.ProgramRefusal.{ProgramRefusal}
use Rattle.hume_calls.specs.Unions.{AreAccepted, BreaksFirst}
use Rattle.hume_run.specs.inner.Texts.{texts_of}
use Rattle.hume_run.specs.inner.UnionEnds.{EndsUnion}
use Rattle.hume_run.specs.inner.UnionReads.{AreRead, ReadFails, ReadsStop}
use Rattle.hume_calls.proofs.Programs.{as_many}

-- as many texts are read as there are sources
read_count : (sources reads : List (List ℕ)) (olds news : List PortView) → AreRead sources reads olds news → length reads ≡ length sources
read_count [] [] olds news are = refl
read_count [] (text ∷ reads) olds news are = absurd are
read_count (source ∷ sources) [] olds news are = absurd are
read_count (source ∷ sources) (text ∷ reads) olds news are = ap suc (read_count sources reads are.0 news are.2)

module _ {A : Type 0} (bytes_of : A → List ℕ) where
  -- the first name
  pub named_first : (words : List A) (first : A) (bytes : List ℕ) → 1 ≤ length words → first ≡ slice_index_or words 0 first → bytes ≡ bytes_of first
      → bytes ≡ slice_index_or (map bytes_of words) 0 []
  named_first [] first bytes least is same = absurd (omega (arith, least))
  named_first (word ∷ words) first bytes least is same = same ∙ ap bytes_of is

  pub named_source : (words : List A) (first : A) (bytes source : List ℕ) (others : List (List ℕ)) → map bytes_of words ≡ source ∷ others
      → first ≡ slice_index_or words 0 first → bytes ≡ bytes_of first → bytes ≡ source
  named_source [] first bytes source others are is same = cc
  named_source (word ∷ words) first bytes source others are is same = let head : bytes_of word ≡ source = cc in same ∙ ap bytes_of is ∙ head

  -- the others
  pub named_others : (words later : List A) (source : List ℕ) (others : List (List ℕ)) → later ≡ drop 1 words → map bytes_of words ≡ source ∷ others
      → map bytes_of later ≡ others
  named_others [] later source others is are = cc
  named_others (word ∷ words) later source others is are = let rest : map bytes_of words ≡ others = cc in ap (map bytes_of) is ∙ rest

  -- all texts are as many as all names
  pub texts_many : (words later : List A) (texts : List (Vec ℕ Global)) (text : List ℕ) (reads : List (List ℕ)) (olds news : List PortView)
      → later ≡ drop 1 words
      → 1 ≤ length words → texts_of texts ≡ text ∷ reads → AreRead (map bytes_of later) reads olds news → length texts ≡ length words
  texts_many [] later texts text reads olds news is least are read = absurd (omega (arith, least))
  texts_many (word ∷ words) later texts text reads olds news is least are read =
      sym (length-map texts (λ (t : Vec ℕ Global). t.items)) ∙ ap (λ (ts : List (List ℕ)). length ts) are
      ∙ ap suc (read_count (map bytes_of later) reads olds news read ∙ length-map later bytes_of ∙ ap (λ (ws : List A). length ws) is)

  -- and so are their programs
  pub programs_many : (words later : List A) (texts copies : List (Vec ℕ Global)) (text : List ℕ) (reads : List (List ℕ)) (olds news : List PortView)
      (programs : List Accepted) → later ≡ drop 1 words → 1 ≤ length words → texts_of texts ≡ text ∷ reads → AreRead (map bytes_of later) reads olds news
      → copies ≡ texts → AreAccepted (texts_of copies) programs → length words ≡ length programs
  programs_many words later texts copies text reads olds news programs is least are read same accepted =
      sym (as_many (texts_of copies) programs accepted ∙ length-map copies (λ (t : Vec ℕ Global). t.items)
      ∙ ap (λ (ts : List (Vec ℕ Global)). length ts) same ∙ texts_many words later texts text reads olds news is least are read)

-- of the same names, and of the same texts

module _ (names others : List (List ℕ)) (olds news : List PortView) (same : names ≡ others) where
  pub read_by : (reads : List (List ℕ)) → AreRead names reads olds news → AreRead others reads olds news
  read_by reads are = subst (λ (ns : List (List ℕ)). AreRead ns reads olds news) same are

  pub fails_by : ReadFails names olds news → ReadFails others olds news
  fails_by fails = subst (λ (ns : List (List ℕ)). ReadFails ns olds news) same fails

  pub stops_by : ReadsStop names olds news → ReadsStop others olds news
  stops_by stops = subst (λ (ns : List (List ℕ)). ReadsStop ns olds news) same stops

  pub ends_by : (steps : ℕ) (texts : List (List ℕ)) (status : Status) → EndsUnion steps names texts olds news status
      → EndsUnion steps others texts olds news status
  ends_by steps texts status ends = subst (λ (ns : List (List ℕ)). EndsUnion steps ns texts olds news status) same ends

pub accepted_by : (copies texts : List (Vec ℕ Global)) (all : List (List ℕ)) (programs : List Accepted) → copies ≡ texts → texts_of texts ≡ all
    → AreAccepted (texts_of copies) programs → AreAccepted all programs
accepted_by copies texts all programs same are accepted =
    subst (λ (ts : List (List ℕ)). AreAccepted ts programs) (ap (λ (ts : List (Vec ℕ Global)). texts_of ts) same ∙ are) accepted

pub broken_by : (copies texts : List (Vec ℕ Global)) (all : List (List ℕ)) (refusal : ProgramRefusal) → copies ≡ texts → texts_of texts ≡ all
    → BreaksFirst (texts_of copies) 1 refusal → BreaksFirst all 1 refusal
broken_by copies texts all refusal same are broken =
    subst (λ (ts : List (List ℕ)). BreaksFirst ts 1 refusal) (ap (λ (ts : List (Vec ℕ Global)). texts_of ts) same ∙ are) broken
