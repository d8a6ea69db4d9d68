-- What the acts of a union read and finish.
use Rattle.std.proofs.Common.{◌≡◌, ℕ, suc, Bool, false, List, [], ◌∷◌, ◌++◌, length, inl, inr, refl, sym, ap, ◌∙◌, subst, append_assoc, append-nil}
use Rattle.std.proofs.lemmas.Grind.{flat_map-append}
use Rattle.hume_model.specs.declared.core_tree.Core.{Core}
use Rattle.hume_ports.specs.Ports.{is_among}
use Rattle.port_acts.specs.Acts.{Act, wants, written, finished, finished_by, write_each}
use Rattle.port_acts.specs.Early.{Reads, names_read, read_each}
use Rattle.port_acts.proofs.ActLists.{written-append}
use Rattle.port_acts.proofs.Each.{writes_finish_nothing}
use Rattle.hume_front.specs.declared.acceptance.Accepted.{Accepted}
use Rattle.run_rounds.specs.Inputs.{Inputs}
use Rattle.run_rounds.specs.Members.{MemberView, members_acts, members_writes}
use Rattle.run_rounds.specs.RunActs.{ReadsForRound, made_acts, run_acts}
use Rattle.run_rounds.specs.Writes.{told}
use Rattle.run_rounds.proofs.Reports.{ending_writes, run_in_turn}
use Rattle.hume_calls.specs.Owed.{owed_union, run_finishes}
use Rattle.hume_calls.specs.Reading.{reads_whole}
use Rattle.hume_calls.specs.Unions.{MayUnite, program_members, union_core, union_table}
use Rattle.hume_calls.proofs.Answering.{WantsTell, reads_write_nothing}
use Rattle.hume_calls.proofs.PortsApart.{union_apart}
use Rattle.hume_calls.proofs.Wanting.{no_want_of_writes, split, want_of_run}

pub nothing_before : {X : Type 0} (xs ys : List X) → xs ++ ys ≡ [] → xs ≡ []
nothing_before [] ys e = refl
nothing_before (x ∷ xs) ys e = cc

module _ (core : Core) (members : List MemberView) (coming : Inputs) (traced : Bool) (steps : ℕ) where
  abbrev made : List Act
  made = made_acts core coming traced steps

  -- the wants of a union stand before rounds, as those of a run do
  pub members_tell : WantsTell core coming traced steps → (before later : List Act) (name : List ℕ) (count : ℕ)
      → members_acts core members coming traced steps ≡ before ++ wants name count ∷ later → ReadsForRound core coming.good traced steps before name count
  members_tell tell before later name count e = elim (split made (write_each (members_writes core members coming traced steps)) before (wants name count) later e) [
    | inl here ↦ tell before (here.0 ++ write_each (ending_writes core coming traced steps)) name count
        (sym (run_in_turn core coming traced steps) ∙ ap (λ (acts : List Act). acts ++ write_each (ending_writes core coming traced steps)) here.1
        ∙ append_assoc before (wants name count ∷ here.0) (write_each (ending_writes core coming traced steps)))
    | inr last ↦ absurd (no_want_of_writes (members_writes core members coming traced steps) [] last.0 later name count
        (append-nil (write_each (members_writes core members coming traced steps)) ∙ last.2))
  ]

  -- and it finishes nothing before its end
  pub members_finish_nothing : finished (run_acts core coming traced steps) ≡ [] → finished (members_acts core members coming traced steps) ≡ []
  members_finish_nothing none =
      let first : finished made ≡ [] = nothing_before (finished made) (finished (write_each (ending_writes core coming traced steps)))
      (sym (flat_map-append finished_by made (write_each (ending_writes core coming traced steps))) ∙ ap finished (run_in_turn core coming traced steps) ∙ none) in
      flat_map-append finished_by made (write_each (members_writes core members coming traced steps))
      ∙ rw (first, writes_finish_nothing (members_writes core members coming traced steps)) refl

-- the names that are read whole
pub whole_names : (sources : List (List ℕ)) → names_read (reads_whole sources) ≡ sources
whole_names [] = refl
whole_names (source ∷ sources) = ap (λ (names : List (List ℕ)). source ∷ names) (whole_names sources)

-- nothing is written before the last of the reads
pub unwritten_before : (reads : Reads) (before later : List Act) (act : Act) → read_each reads ≡ before ++ act ∷ later → written before ≡ []
unwritten_before reads before later act e =
    nothing_before (written before) (written (act ∷ later)) (sym (written-append before (act ∷ later)) ∙ ap written (sym e) ∙ reads_write_nothing reads)

-- a want of a union that runs is of no source's port
module _ (names : List (List ℕ)) (source : List ℕ) (sources : List (List ℕ)) (programs : List Accepted) (many : suc (length sources) ≡ length programs)
    (texts : List (List ℕ)) (may : MayUnite names (source ∷ sources) texts programs) (steps : ℕ) (coming : Inputs)
    (tell : WantsTell (union_core programs) coming false steps) where
  pub union_wants_apart : (before later : List Act) (name : List ℕ) (count : ℕ)
      → (owed_union steps (source ∷ sources) programs coming).acts ≡ before ++ wants name count ∷ later → is_among name (source ∷ sources) ≡ false
  union_wants_apart before later name count e =
      let core : Core = union_core programs in
      let members : List MemberView = program_members (source ∷ sources) programs 1 in
      let inside = want_of_run (told (union_table (source ∷ sources) programs)) (members_acts core members coming false steps) (run_finishes core) before later name count e in
      let reads = members_tell core members coming false steps tell inside.0 inside.1 name count inside.3 in
      subst (λ (n : List ℕ). is_among n (source ∷ sources) ≡ false) (sym reads.is_port)
      (union_apart names source sources programs many may.fit may.apart reads.node reads.stream reads.at)
