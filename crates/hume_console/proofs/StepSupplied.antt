-- What came to the streams for a step is what the session's definition says.
use Rattle.std.proofs.Common.{◌≡◌, ℕ, zero, suc, ◌+◌, ◌-◌, ◌*◌, ◌<◌, ◌≤◌, min, nat_lt, Bool, true, false, cond, ◌&&◌, if◌then◌else◌, List, [], ◌∷◌, ◌++◌, length, map, take, drop, refl, ap, sym, ◌∙◌, subst, inl, inr, append-nil, append_assoc, length-append, arith, Option, None, Some}
use Rattle.std.specs.Prelude.{slice_get}
use Rattle.std.specs.List.{find, range_with_len}
use Rattle.std.specs.Option.{is_some}
use Rattle.std.proofs.Math.Seq.{drop-append_seam, take-append_seam}
use Rattle.std.proofs.lemmas.Bool.{cases_Bool, cases_lt, lt-ltb, ltb-true, true≢false}
use Rattle.std.proofs.lemmas.List.{take_all}
use Rattle.hume_base.specs.declared.types.Ty.{Ty}
use Rattle.hume_base.specs.declared.types.Types.{Types}
use Rattle.hume_base.specs.declared.types.Value.{Value}
use Rattle.hume_base.specs.Flat.{flat}
use Rattle.hume_model.specs.declared.core_tree.NodeC.{NodeC}
use Rattle.hume_model.specs.declared.core_tree.NodeC.TheVariants.{Rules, From, To}
use Rattle.hume_model.specs.declared.core_tree.StreamC.{StreamC}
use Rattle.hume_model.specs.declared.core_tree.Core.{Core}
use Rattle.hume_net.specs.Nodes.{IsInput, IsInputStream}
use Rattle.hume_ports.specs.Port.{PortView, last_count}
use Rattle.hume_ports.specs.Delivery.{Pairs, bytes_for}
use Rattle.hume_streams.specs.Good.{IsGoodUntil}
use Rattle.hume_streams.specs.Queues.{IsQueueOf}
use Rattle.hume_streams.proofs.FewLines.{small_number}
use Rattle.hume_streams.proofs.GoodOnce.{good_once, queue_front}
use Rattle.phase_workers.specs.Engines.{EngineView as Engine}
use Rattle.phase_workers.specs.Engines.{coming_at, core_of, queue_at}
use Rattle.phase_workers.specs.NodeFills.{HasReadAll, StandsBefore as StandsBeforeBad}
use Rattle.phase_workers.specs.StreamTypes.{type_at}
use Rattle.hume_console.specs.Session.{Session, Offer, Supply, coming_in, is_blocked, is_input, lacking, supply_of, text_of}
use Rattle.hume_console.specs.inner.Standing.{AreRead, Bindings, Call, IsServing, MayHave, session_of}
use Rattle.hume_console.specs.inner.Stepping.{filled_bindings}

-- the first number of which a test holds

pub find_none : (test : ℕ → Bool) (from count : ℕ) → ((n : ℕ) → from ≤ n → n < from + count → test n ≡ false) → find test (range_with_len from count) ≡ None
find_none test from zero none = refl
find_none test from (suc count) none =
    ap (λ b. cond b (Some from) (find test (range_with_len (from + 1) count))) (none from (omega arith) (omega arith))
    ∙ find_none test (from + 1) count (λ n least most. none n (omega (arith, least)) (omega (arith, most)))

pub find_first : (test : ℕ → Bool) (from count n : ℕ) → from ≤ n → n < from + count → ((m : ℕ) → from ≤ m → m < n → test m ≡ false) → test n ≡ true
    → find test (range_with_len from count) ≡ Some n
find_first test from zero n least most none here = absurd (omega (arith, least, most))
find_first test from (suc count) n least most none here = elim (cases_Bool (test from)) [
  | inl passes ↦
      let same : n ≡ from = elim (cases_lt from n) [
        | inl less ↦ absurd (true≢false (sym passes ∙ none from (omega arith) less))
        | inr more ↦ omega (arith, least, more)
      ] in
      ap (λ b. cond b (Some from) (find test (range_with_len (from + 1) count))) passes ∙ ap (λ k. Some k) (sym same)
  | inr fails ↦
      let later : from < n = elim (cases_lt from n) [
        | inl less ↦ less
        | inr more ↦ (let same : n ≡ from = omega (arith, least, more) in absurd (true≢false (sym here ∙ ap test same ∙ fails)))
      ] in
      ap (λ b. cond b (Some from) (find test (range_with_len (from + 1) count))) fails
      ∙ find_first test (from + 1) count n (omega (arith, later)) (omega (arith, most)) (λ m low high. none m (omega (arith, low)) high) here
]

no_rows : (types : Types) (ty : Ty) (held : List Value) → map (flat types ty) held ≡ [] → held ≡ []
no_rows types ty [] none = refl
no_rows types ty (value ∷ held) none = cc

not_less : (a b : ℕ) → b ≤ a → nat_lt a b ≡ false
not_less a b le = elim (cases_Bool (nat_lt a b)) [ inl less ↦ (let l = ltb-true a b less in absurd (omega (arith, l, le))) | inr more ↦ more ]

and_no : (b : Bool) → (b && false) ≡ false
and_no true = refl
and_no false = refl

module _ (call : Call) (serving : IsServing call) (steps : ℕ) (first engine : Engine) (over : Bool) (ports : List PortView) (b : Bindings) (fed : ℕ → List Value)
    (ts : Pairs) (read : AreRead call.core call.source engine over ports (filled_bindings b fed ts)) (count : (n : ℕ) → b.brought n ≡ length (b.came n))
    (same_core : core_of engine ≡ call.core) (few : (n : ℕ) → length (fed n) ≤ steps - length (coming_at first n))
    (offers : List Offer) (rest : List ℕ) (may : MayHave call.core engine over (filled_bindings b fed ts) offers rest) where
  abbrev core : Core
  core = call.core

  abbrev pub its_session : Session
  its_session = session_of first b offers

  module _ (n : ℕ) (stream : StreamC) (is : slice_get core.nodes n ≡ Some (From stream)) where
    abbrev text : List ℕ
    text = text_of (b.port n) offers

    abbrev supply : Supply
    supply = call.supplies n text

    until : IsGoodUntil core.types (type_at core n) text supply.good supply.bad
    until = serving.supplies n stream text is

    abbrev more : List ℕ
    more = (may.streams n stream is).0

    pub queue : IsQueueOf core.types (type_at core n) (queue_at engine n) text (b.came n ++ fed n) more
    queue =
        let its = may.streams n stream is in
        subst (λ t. IsQueueOf core.types (type_at core n) (queue_at engine n) t (b.came n ++ fed n) more) (sym its.2)
        (subst (λ (c : Core). IsQueueOf c.types (type_at c n) (queue_at engine n) (bytes_for (b.port n) (b.taken ++ ts) ++ more) (b.came n ++ fed n) more) same_core
        ((read.right n stream is).right more its.1))

    begins : (later : List Value) × (supply.good ≡ b.came n ++ (fed n ++ later))
    begins =
        let front = queue_front core.types (type_at core n) (queue_at engine n) text more (b.came n ++ fed n) supply.good supply.bad serving.runnable.names queue until in
        let none : front.0 ≡ [] = no_rows core.types (type_at core n) front.0 (sym front.2) in
        (front.1, front.3 ∙ ap (λ (held : List Value). (b.came n ++ fed n) ++ (held ++ front.1)) none ∙ append_assoc (b.came n) (fed n) front.1)

    next : (later : List Value) → supply.good ≡ b.came n ++ (fed n ++ later) → drop (b.brought n) supply.good ≡ fed n ++ later
    next later same = ap (λ k. drop k supply.good) (count n) ∙ ap (drop (length (b.came n))) same ∙ drop-append_seam (b.came n) (fed n ++ later)

    coming_is : (later : List Value) → supply.good ≡ b.came n ++ (fed n ++ later)
        → coming_in core call.supplies its_session steps n ≡ take (lacking its_session steps n) (fed n ++ later)
    coming_is later same =
        ap (λ o. if is_input o then take (lacking its_session steps n) (drop (b.brought n) supply.good) else []) is
        ∙ ap (take (lacking its_session steps n)) (next later same)

    coming_all : supply.good ≡ b.came n ++ fed n → coming_in core call.supplies its_session steps n ≡ fed n
    coming_all same = coming_is [] (same ∙ ap (λ (vs : List Value). b.came n ++ vs) (sym (append-nil (fed n))))
        ∙ ap (take (lacking its_session steps n)) (append-nil (fed n)) ∙ take_all (lacking its_session steps n) (fed n) (few n)

    blocked_is : is_blocked core call.supplies its_session steps n
        ≡ (is_some supply.bad && nat_lt (length (coming_in core call.supplies its_session steps n)) (lacking its_session steps n))
    blocked_is = ap (λ o. is_input o && is_some supply.bad && nat_lt (length (coming_in core call.supplies its_session steps n)) (lacking its_session steps n)) is

    -- there are as many as the stream lacked
    module _ (enough : steps ≤ length (coming_at first n ++ fed n)) where
      lacked : lacking its_session steps n ≡ length (fed n)
      lacked = (let least = few n in omega (arith, enough, length-append (coming_at first n) (fed n), least))

      pub enough_came : coming_in core call.supplies its_session steps n ≡ fed n
      enough_came = coming_is begins.0 begins.1 ∙ ap (λ k. take k (fed n ++ begins.0)) lacked ∙ take-append_seam (fed n) begins.0

      pub enough_goes_on : is_blocked core call.supplies its_session steps n ≡ false
      enough_goes_on =
          blocked_is ∙ ap (λ c. is_some supply.bad && c)
          (not_less (length (coming_in core call.supplies its_session steps n)) (lacking its_session steps n) (omega (arith, lacked, ap length enough_came)))
          ∙ and_no (is_some supply.bad)

    -- or all that there are
    module _ (all : HasReadAll engine n) where
      once : (supply.good ≡ b.came n ++ fed n) × (supply.bad ≡ None)
      once =
          let its = may.streams n stream is in
          let none : more ≡ [] = its.1 all.ended in
          let read_none : IsQueueOf core.types (type_at core n) (queue_at engine n) text (b.came n ++ fed n) [] =
          subst (λ m. IsQueueOf core.types (type_at core n) (queue_at engine n) text (b.came n ++ fed n) m) none queue in
          let good : IsGoodUntil core.types (type_at core n) text (b.came n ++ fed n) None =
          subst (λ (c : Core). IsGoodUntil c.types (type_at c n) text (b.came n ++ fed n) None) same_core
          (all.all text (b.came n ++ fed n)
          (subst (λ (c : Core). IsQueueOf c.types (type_at c n) (queue_at engine n) text (b.came n ++ fed n) []) (sym same_core) read_none)) in
          good_once core.types (type_at core n) text supply.good (b.came n ++ fed n) supply.bad None serving.runnable.names until good

      pub all_came : coming_in core call.supplies its_session steps n ≡ fed n
      all_came = coming_all once.0

      pub all_goes_on : is_blocked core call.supplies its_session steps n ≡ false
      all_goes_on = blocked_is ∙ ap (λ bad. is_some bad && nat_lt (length (coming_in core call.supplies its_session steps n)) (lacking its_session steps n)) once.1

    -- or the next line is bad
    module _ (line : ℕ) (bad : StandsBeforeBad engine n line) (lacks : length (fed n) < steps - length (coming_at first n)) where
      pub its_bad : (number : ℕ) × (line ≡ min number last_count) × (supply.good ≡ b.came n ++ fed n) × (supply.bad ≡ Some number)
      its_bad =
          let it = bad text (b.came n ++ fed n) more
          (subst (λ (c : Core). IsQueueOf c.types (type_at c n) (queue_at engine n) text (b.came n ++ fed n) more) (sym same_core) queue) in
          let good : IsGoodUntil core.types (type_at core n) text (b.came n ++ fed n) (Some it.0) =
          subst (λ (c : Core). IsGoodUntil c.types (type_at c n) text (b.came n ++ fed n) (Some it.0)) same_core it.2 in
          let once = good_once core.types (type_at core n) text supply.good (b.came n ++ fed n) supply.bad (Some it.0) serving.runnable.names until good in
          (it.0, it.1, once.0, once.1)

      pub bad_blocks : is_blocked core call.supplies its_session steps n ≡ true
      bad_blocks =
          blocked_is ∙ ap (λ o. is_some o && nat_lt (length (coming_in core call.supplies its_session steps n)) (lacking its_session steps n)) its_bad.3
          ∙ ap (λ (vs : List Value). nat_lt (length vs) (lacking its_session steps n)) (coming_all its_bad.2)
          ∙ lt-ltb (length (fed n)) (lacking its_session steps n) lacks

      pub bad_number : its_bad.0 ≤ (length (b.came n ++ fed n) + 1) * 65537
      bad_number = small_number core.types (type_at core n) text (b.came n ++ fed n) its_bad.0
          (subst (λ o. IsGoodUntil core.types (type_at core n) text (b.came n ++ fed n) o) its_bad.3
          (subst (λ (vs : List Value). IsGoodUntil core.types (type_at core n) text vs supply.bad) its_bad.2 until))

  -- what is no input stream
  pub none_came : (n : ℕ) → (IsInputStream core n → ⊥) → coming_in core call.supplies its_session steps n ≡ []
  none_came n other = by (slice_get core.nodes n) other
    where
      by : (o : Option NodeC) → (IsInput o → ⊥) → (if is_input o then take (lacking its_session steps n) (drop (b.brought n) (supply_of call.supplies its_session n).good) else []) ≡ []
      by None other = refl
      by (Some (Rules r)) other = refl
      by (Some (To stream)) other = refl
      by (Some (From stream)) other = absurd (other tt)

  pub other_goes_on : (n : ℕ) → (IsInputStream core n → ⊥) → is_blocked core call.supplies its_session steps n ≡ false
  other_goes_on n other = by (slice_get core.nodes n) other
    where
      by : (o : Option NodeC) → (IsInput o → ⊥) → (is_input o && is_some (supply_of call.supplies its_session n).bad
          && nat_lt (length (coming_in core call.supplies its_session steps n)) (lacking its_session steps n)) ≡ false
      by None other = refl
      by (Some (Rules r)) other = refl
      by (Some (To stream)) other = refl
      by (Some (From stream)) other = absurd (other tt)
