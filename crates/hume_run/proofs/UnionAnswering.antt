-- From the parts of a union's call to the whole.
use Rattle.std.proofs.Common.{◌≡◌, ℕ, suc, ◌<◌, true, false, List, [], ◌∷◌, ◌++◌, length, map, Option, Some, None, slice_get, refl, ap, sym, ◌∙◌, subst, inl, inr, arith}
use Rattle.std.specs.Str.{bytes_eq}
use Rattle.std.proofs.lemmas.Bool.{or_parts, true≢false}
use Rattle.hume_base.specs.declared.types.Value.{Value}
use Rattle.hume_model.specs.declared.core_tree.Core.{Core}
use Rattle.hume_model.specs.declared.core_tree.NodeC.{NodeC}
use Rattle.hume_model.specs.declared.core_tree.NodeC.TheVariants.{Rules, From, To}
use Rattle.hume_net.specs.rounds.Pieces.{listed}
use Rattle.hume_ports.specs.Port.{PortView}
use Rattle.hume_ports.specs.Ports.{is_among, names}
use Rattle.hume_ports.specs.Delivery.{Pairs, bytes_for}
use Rattle.hume_ports.proofs.Names.{bytes_for-append}
use Rattle.hume_streams.specs.Good.{IsGoodUntil}
use Rattle.port_acts.specs.Acts.{Act, finishes, name_of, wants, writes}
use Rattle.port_acts.specs.Early.{after_reads, read_each}
use Rattle.port_acts.specs.Ends.{Fails, Few, IsFew, Made, Owed, never}
use Rattle.port_acts.proofs.Failing.{Fails-any, Fails-few, Fails-on, Fails-stop}
use Rattle.port_acts.proofs.Making.{Made-on}
use Rattle.hume_front.specs.declared.acceptance.Accepted.{Accepted}
use Rattle.phase_workers.specs.StreamTypes.{type_at}
use Rattle.run_rounds.specs.Inputs.{AreInputs, ComesTo, Inputs}
use Rattle.run_rounds.specs.RunActs.{run_few}
use Rattle.hume_calls.specs.declared.status.Status.{Status}
use Rattle.hume_calls.specs.declared.status.Status.TheVariants.{Fault, NoMemory}
use Rattle.hume_calls.specs.declared.order.Order.{Order}
use Rattle.hume_calls.specs.declared.order.Order.TheVariants.{Union}
use Rattle.hume_calls.specs.declared.program_refusal.ProgramRefusal.{ProgramRefusal}
use Rattle.hume_calls.specs.Few.{call_few}
use Rattle.hume_calls.specs.Owed.{IsOwed, owed_program_refused, owed_union}
use Rattle.hume_calls.specs.Reading.{reads_whole}
use Rattle.hume_calls.specs.Unions.{AreAccepted, IsUnionRefusal, MayUnite, text_of, union_core, union_texts}
use Rattle.hume_calls.specs.Words.{Named, all_differ}
use Rattle.hume_calls.specs.Ended.{EndsAfter, EndsText}
use Rattle.hume_run.specs.inner.UnionEnds.{EndsUnion, RunsUnion}
use Rattle.hume_run.specs.inner.UnionReads.{AreRead, ReadFails, ReadsStop}
use Rattle.hume_calls.proofs.Answering.{WantsTell}
use Rattle.hume_calls.proofs.OneOwed.{some_union}
use Rattle.hume_calls.proofs.OneScript.{SomeInputs}
use Rattle.hume_calls.proofs.PortsApart.{union_apart}
use Rattle.hume_calls.proofs.Programs.{cores_same, many_programs}
use Rattle.hume_calls.proofs.Texts.{told_by_all, told_texts}
use Rattle.hume_calls.proofs.UnionOwed.{union_same}
use Rattle.hume_run.proofs.UnionReading.{all_read_stops, are_texts, not_read, nothing_taken, pairs_of, read_texts, reads_fail, reads_made, stops_between, values_short, were_read}
use Rattle.hume_calls.proofs.UnionWants.{union_wants_apart, whole_names}

module _ (steps workers count place : ℕ) (named : Named) (text : List ℕ) where
  abbrev order : Order
  order = Union steps workers count place

  abbrev sources : List (List ℕ)
  sources = named.source ∷ named.others

  abbrev few_of : (List ℕ → List ℕ) → Few
  few_of texts = call_few order named text texts

  -- memory ran out between the reads
  pub union_stops : (olds news : List PortView) → ReadsStop named.others olds news → EndsText order named text olds news NoMemory
  union_stops olds news stops = inl (refl, stops_between named.others olds news stops)

  -- a read failed

  enough_bytes : (texts : List ℕ → List ℕ) → all_differ sources ≡ true → (source : List ℕ) → is_among source named.others ≡ true → (bytes : List ℕ)
      → length bytes < 262145 → few_of texts source 262145 bytes
  enough_bytes texts differ source among bytes less = record {
    of_source = λ here. less;
    of_further = λ here. less;
    of_log = λ among. absurd (true≢false (sym among));
    of_streams = λ apart core run node stream at is good bad until.
        let short = values_short core.types (type_at core node) bytes good bad until in omega (arith, less, short);
  }

  pub union_read_fails : SomeInputs → all_differ sources ≡ true → (olds news : List PortView) → ReadFails named.others olds news
      → EndsText order named text olds news Fault
  union_read_fails has_inputs differ olds news fails =
      let texts : List ℕ → List ℕ = told_texts olds in
      let some =
      some_union (reads_whole named.others) steps (named.source ∷ named.others) text (map (text_of named.source text texts) named.others) (names olds) texts has_inputs in
      let failed = reads_fail (few_of texts) named.source text named.others (enough_bytes texts differ) differ olds news fails in
      inr (record {
        texts = texts;
        told = λ name apart. told_by_all olds name;
        owed = some.0;
        owes = some.1;
        ends = inr (refl, by some.0 some.1 failed);
      })
    where
      by : (owed : Owed Status) → IsOwed order named text (names olds) (told_texts olds) owed
          → Fails (few_of (told_texts olds)) ((named.source, text) ∷ []) (read_each (reads_whole named.others)) olds news
          → Fails (few_of (told_texts olds)) ((named.source, text) ∷ []) owed.acts olds news
      by owed (inl p) failed =
          subst (λ (o : Owed Status). Fails (few_of (told_texts olds)) ((named.source, text) ∷ []) o.acts olds news) (sym p.2)
          (Fails-stop (few_of (told_texts olds)) ((named.source, text) ∷ []) (read_each (reads_whole named.others)) (owed_program_refused p.0).acts olds news failed)
      by owed (inr p) failed =
          subst (λ (o : Owed Status). Fails (few_of (told_texts olds)) ((named.source, text) ∷ []) o.acts olds news) (sym p.4)
          (Fails-stop (few_of (told_texts olds)) ((named.source, text) ∷ []) (read_each (reads_whole named.others)) (owed_union steps sources p.0 p.2).acts olds news failed)

  -- all sources were read

  module _ (reads : List (List ℕ)) (olds mids : List PortView) (differ : all_differ sources ≡ true) (are : AreRead named.others reads olds mids) where
    abbrev taken_before : Pairs
    taken_before = (named.source, text) ∷ pairs_of named.others reads

    abbrev texts_by : (List ℕ → List ℕ) → List ℕ → List ℕ
    texts_by each = read_texts named.others reads olds each

    all_texts : (each : List ℕ → List ℕ) → union_texts text named (texts_by each) ≡ text ∷ reads
    all_texts each = ap (λ (ts : List (List ℕ)). text ∷ ts) (were_read named.source text named.others reads olds mids each differ are)

    made_before : Made (read_each (reads_whole named.others)) (pairs_of named.others reads) olds mids
    made_before = reads_made named.others reads olds mids are

    same_names : names mids ≡ names olds
    same_names = made_before.progress.same_names

    -- what ends behind the reads ends as a whole
    ends_whole : (few : Few) (owed : Owed Status) (news : List PortView) (status : Status) → EndsAfter few taken_before owed mids news status
        → EndsAfter few ((named.source, text) ∷ []) (after_reads (reads_whole named.others) owed) olds news status
    ends_whole few owed news status (inl made) = inl (
      made.0,
      pairs_of named.others reads ++ made.1,
      Made-on (read_each (reads_whole named.others)) owed.acts (pairs_of named.others reads) made.1 olds mids news made_before made.2,
    )
    ends_whole few owed news status (inr failed) = inr (
      failed.0,
      Fails-on few ((named.source, text) ∷ []) (pairs_of named.others reads) (read_each (reads_whole named.others)) owed.acts olds mids news made_before failed.1,
    )

    any_measure : (few : Few) (owed : Owed Status) (news : List PortView) (status : Status) → EndsAfter never [] owed mids news status
        → EndsAfter few taken_before owed mids news status
    any_measure few owed news status (inl made) = inl made
    any_measure few owed news status (inr failed) = inr (failed.0, Fails-any few taken_before owed.acts mids news failed.1)

    union_refused : (news : List PortView) (status : Status) (refusal : ProgramRefusal) → IsUnionRefusal (names mids) sources (text ∷ reads) refusal
        → EndsAfter never [] (owed_program_refused refusal) mids news status → EndsText order named text olds news status
    union_refused news status refusal is ends =
        let each : List ℕ → List ℕ = told_texts mids in
        let texts : List ℕ → List ℕ = texts_by each in
        let owed : Owed Status = owed_program_refused refusal in
        inr (record {
          texts = texts;
          told = are_texts named.source named.others reads olds mids each differ are (told_by_all mids);
          owed = after_reads (reads_whole named.others) owed;
          owes = inl (
            refusal,
            subst (λ (ns : List (List ℕ)). IsUnionRefusal ns sources (union_texts text named texts) refusal) same_names
                (subst (λ (ts : List (List ℕ)). IsUnionRefusal (names mids) sources ts refusal) (sym (all_texts each)) is),
            refl,
          );
          ends = ends_whole (few_of texts) owed news status (any_measure (few_of texts) owed news status ends);
        })

    -- the run of all

    module _ (programs : List Accepted) (may : MayUnite (names mids) sources (text ∷ reads) programs) (each : List ℕ → List ℕ) where
      abbrev core : Core
      core = union_core programs

      abbrev texts : List ℕ → List ℕ
      texts = texts_by each

      accepted : AreAccepted (union_texts text named texts) programs
      accepted = subst (λ (ts : List (List ℕ)). AreAccepted ts programs) (sym (all_texts each)) may.accepted

      many : suc (length named.others) ≡ length programs
      many = many_programs named text texts programs accepted

      comes_still : (n : ℕ) (node : Option NodeC) → slice_get core.nodes n ≡ node → (good : List Value) (bad : Option ℕ) → ComesTo core each n node good bad
          → ComesTo core texts n node good bad
      comes_still n None at good bad c = c
      comes_still n (Some (Rules b)) at good bad c = c
      comes_still n (Some (To stream)) at good bad c = c
      comes_still n (Some (From stream)) at good bad c =
          let out = union_apart (names mids) named.source named.others programs many may.fit may.apart n stream at in
          let apart = or_parts (bytes_eq stream.port named.source) (is_among stream.port named.others) out in
          subst (λ (bytes : List ℕ). IsGoodUntil core.types (type_at core n) bytes good bad)
          (sym (not_read stream.port named.others reads olds each apart.1)) c

      inputs_still : (coming : Inputs) → AreInputs core each coming → AreInputs core texts coming
      inputs_still coming come = record {
        count = come.count;
        each = λ n. comes_still n (slice_get core.nodes n) refl (listed coming.good n) (coming.bad n) (come.each n);
      }

      few_of_union : (act : Act) (taken : Pairs) → ((name : List ℕ) (wanted : ℕ) → act ≡ wants name wanted → is_among name sources ≡ false)
          → IsFew (run_few core) act (bytes_for (name_of act) taken) → IsFew (few_of texts) act (bytes_for (name_of act) (taken_before ++ taken))
      few_of_union (wants name wanted) taken apart is =
          let out = apart name wanted refl in
          let parts = or_parts (bytes_eq name named.source) (is_among name named.others) out in
          let none : bytes_for name taken_before ≡ [] = nothing_taken name sources (text ∷ reads) out in
          let same : bytes_for name taken ≡ bytes_for name (taken_before ++ taken) =
          sym (bytes_for-append name taken_before taken ∙ ap (λ (bytes : List ℕ). bytes ++ bytes_for name taken) none) in
          record {
            of_source = λ here. absurd (true≢false (sym here ∙ parts.0));
            of_further = λ among. absurd (true≢false (sym among ∙ ap (is_among name) (whole_names named.others) ∙ parts.1));
            of_log = λ among. absurd (true≢false (sym among));
            of_streams = λ apart other run.
                let one : core ≡ other = union_same programs run.0 (cores_same (union_texts text named texts) programs run.0 accepted run.1) ∙ sym run.2 in
                subst (λ (c : Core). run_few c name wanted (bytes_for name (taken_before ++ taken))) one
                (subst (λ (bytes : List ℕ). run_few core name wanted bytes) same is);
          }
      few_of_union (writes name bytes) taken apart is = tt
      few_of_union (finishes name) taken apart is = tt

      call_fails : (coming : Inputs) → WantsTell core coming false steps → (news : List PortView)
          → Fails (run_few core) [] (owed_union steps sources programs coming).acts mids news
          → Fails (few_of texts) taken_before (owed_union steps sources programs coming).acts mids news
      call_fails coming tell news f =
          Fails-few (run_few core) (few_of texts) [] taken_before (owed_union steps sources programs coming).acts mids news f
          (few_of_union f.act (f.taken ++ f.read)
          (λ name wanted is. union_wants_apart (names mids) named.source named.others programs many (text ∷ reads) may steps coming tell f.before f.later name wanted
          (f.in_order ∙ ap (λ (act : Act). f.before ++ act ∷ f.later) is))
          f.is_few)

      call_ends : (coming : Inputs) → WantsTell core coming false steps → (news : List PortView) (status : Status)
          → EndsAfter (run_few core) [] (owed_union steps sources programs coming) mids news status
          → EndsAfter (few_of texts) taken_before (owed_union steps sources programs coming) mids news status
      call_ends coming tell news status (inl made) = inl made
      call_ends coming tell news status (inr failed) = inr (failed.0, call_fails coming tell news failed.1)

    union_runs : ((core : Core) (coming : Inputs) → WantsTell core coming false steps) → (news : List PortView) (status : Status) (programs : List Accepted)
        → MayUnite (names mids) sources (text ∷ reads) programs → RunsUnion steps sources programs mids news status → EndsText order named text olds news status
    union_runs tell news status programs may runs =
        let each : List ℕ → List ℕ = runs.comes.texts in
        let texts : List ℕ → List ℕ = texts_by each in
        let owed : Owed Status = owed_union steps sources programs runs.comes.inputs in
        inr (record {
          texts = texts;
          told = are_texts named.source named.others reads olds mids each differ are runs.comes.told;
          owed = after_reads (reads_whole named.others) owed;
          owes = inr (
            programs,
            subst (λ (ns : List (List ℕ)). MayUnite ns sources (union_texts text named texts) programs) same_names
                (subst (λ (ts : List (List ℕ)). MayUnite (names mids) sources ts programs) (sym (all_texts each)) may),
            runs.comes.inputs,
            inputs_still programs may each runs.comes.inputs runs.comes.are,
            refl,
          );
          ends = ends_whole (few_of texts) owed news status
              (call_ends programs may each runs.comes.inputs (tell (union_core programs) runs.comes.inputs) news status runs.ends);
        })

    -- all ends
    pub union_ends : ((core : Core) (coming : Inputs) → WantsTell core coming false steps) → (news : List PortView) (status : Status)
        → EndsUnion steps sources (text ∷ reads) mids news status → EndsText order named text olds news status
    union_ends tell news status (inl out) = inl (out.0, all_read_stops named.others reads olds mids news are out.1)
    union_ends tell news status (inr (inl refused)) = union_refused news status refused.0 refused.1 refused.2
    union_ends tell news status (inr (inr runs)) = union_runs tell news status runs.0 runs.1 runs.2
