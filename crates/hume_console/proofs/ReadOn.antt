-- Reading on from the port of one name.
use Rattle.std.proofs.Common.{◌≡◌, ◌⊎◌, ℕ, ◌+◌, Bool, true, false, if◌then◌else◌, List, [], ◌∷◌, ◌++◌, length, refl, ap, sym, ◌∙◌, subst, inl, inr, append-nil, append_assoc, length-append, Option, None, Some, Result}
use Rattle.std.specs.Prelude.{IfSome, slice_get}
use Rattle.std.specs.Io.KnownBytes.{Consumes, IsAtEnd}
use Rattle.std.proofs.lemmas.Bool.{eq-eqb, ne_eqb}
use Rattle.std.proofs.lemmas.Bool.Decides.{eqb_tells}
use Rattle.hume_base.specs.declared.types.Value.{Value}
use Rattle.hume_model.specs.declared.core_tree.NodeC.TheVariants.{From}
use Rattle.hume_model.specs.declared.core_tree.StreamC.{StreamC}
use Rattle.hume_model.specs.declared.core_tree.Core.{Core}
use Rattle.hume_net.specs.rounds.Pieces.{only}
use Rattle.hume_ports.specs.Port.{PortView}
use Rattle.hume_ports.specs.Ports.{names, left_of}
use Rattle.hume_ports.specs.Delivery.{Pairs, Drawn, bytes_for}
use Rattle.hume_ports.proofs.Names.{bytes_for-append, bytes_for-one}
use Rattle.hume_ports.proofs.Progress.{Drawn-first, Drawn-on}
use Rattle.hume_streams.specs.declared.queue.FillError.{FillError}
use Rattle.hume_streams.specs.Queues.{QueueView}
use Rattle.phase_workers.specs.Engines.{EngineView as Engine}
use Rattle.phase_workers.specs.Engines.{core_of, queue_at, IsRight}
use Rattle.phase_workers.specs.NodeFills.{FillsNode}
use Rattle.phase_workers.specs.RightQueues.{IsRightBehind}
use Rattle.phase_workers.specs.StreamTypes.{type_at}
use Rattle.phase_workers.proofs.NodeFilled.{stays_right}
use Rattle.hume_console.specs.Words.{std_in}
use Rattle.hume_console.specs.Session.{Offer, text_of}
use Rattle.hume_console.specs.inner.Standing.{Bindings, AreRead, MayHave}
use Rattle.hume_console.proofs.PortsLeft.{differ_eq}

-- where nothing that a port told is left, all of it was taken
all_taken : (first now : Option (List ℕ)) (bytes : List ℕ) → Consumes first now bytes → IsAtEnd now → IfSome first (λ left. left ≡ bytes)
all_taken None now bytes consumes at_end = tt
all_taken (Some all) None bytes consumes at_end = absurd consumes
all_taken (Some all) (Some left) bytes consumes at_end = consumes ∙ ap (λ rest. bytes ++ rest) at_end ∙ append-nil bytes

-- only the name has bytes among these pairs
abbrev pub AreOnlyOf : List ℕ → Pairs → Type 0
AreOnlyOf name ts = (other : List ℕ) → (other ≡ name → ⊥) → bytes_for other ts ≡ []

pub only_one : (name bytes : List ℕ) → AreOnlyOf name ((name, bytes) ∷ [])
only_one name bytes other differ = ap (λ b. if b then bytes ++ [] else []) (differ_eq other name differ)

pub same_or_other : (a b : ℕ) → (a ≡ b) ⊎ (a ≡ b → ⊥)
same_or_other a b = elim (eqb_tells a b) [ inl same ↦ inl same.1 | inr other ↦ inr other.1 ]

pub only_here : (n m : ℕ) (values : List Value) → m ≡ n → only n values m ≡ values
only_here n m values same = ap (λ b. if b then values else []) (eq-eqb m n same)

pub none_elsewhere : (n m : ℕ) (values : List Value) → (m ≡ n → ⊥) → only n values m ≡ []
none_elsewhere n m values other = ap (λ b. if b then values else []) (ne_eqb m n other)

module _ (taken : Pairs) (name : List ℕ) (ts : Pairs) (of_name : AreOnlyOf name ts) where
  pub others_same : (other : List ℕ) → (other ≡ name → ⊥) → bytes_for other (taken ++ ts) ≡ bytes_for other taken
  others_same other differ =
      bytes_for-append other taken ts ∙ ap (λ (bs : List ℕ). bytes_for other taken ++ bs) (of_name other differ) ∙ append-nil (bytes_for other taken)

  -- a port that told its bytes at first has given all, once its end was read
  pub end_told : (firsts news : List PortView) → names news ≡ names firsts → Drawn firsts news (taken ++ ts) → (was now : Bool)
      → (was ≡ true → bytes_for name ts ≡ []) → (was ≡ true → IfSome (left_of name firsts) (λ left. left ≡ bytes_for name taken))
      → (was ≡ false → now ≡ true → IsAtEnd (left_of name news)) → now ≡ true → IfSome (left_of name firsts) (λ left. left ≡ bytes_for name (taken ++ ts))
  end_told firsts news same drawn true now stays told ended over =
      let all : bytes_for name (taken ++ ts) ≡ bytes_for name taken =
      bytes_for-append name taken ts ∙ ap (λ (bs : List ℕ). bytes_for name taken ++ bs) (stays refl) ∙ append-nil (bytes_for name taken) in
      subst (λ bytes. IfSome (left_of name firsts) (λ left. left ≡ bytes)) (sym all) (told refl)
  end_told firsts news same drawn false now stays told ended over =
      all_taken (left_of name firsts) (left_of name news) (bytes_for name (taken ++ ts)) (Drawn-first firsts news name (taken ++ ts) same drawn) (ended refl over)

  pub rest_told : (text rest : List ℕ) → text ≡ bytes_for name (taken ++ ts) ++ rest → text ≡ bytes_for name taken ++ (bytes_for name ts ++ rest)
  rest_told text rest is =
      is ∙ ap (λ (bs : List ℕ). bs ++ rest) (bytes_for-append name taken ts) ∙ append_assoc (bytes_for name taken) (bytes_for name ts) rest

pub rest_none : (was now : Bool) (bytes rest : List ℕ) → (was ≡ true → (bytes ≡ []) × (now ≡ true)) → (now ≡ true → rest ≡ []) → was ≡ true → bytes ++ rest ≡ []
rest_none was now bytes rest stays over ended = let s = stays ended in ap (λ (bs : List ℕ). bs ++ rest) s.0 ∙ over s.1

-- no stream of the core has the port of that name
abbrev pub NoStreamHas : Core → (ℕ → List ℕ) → List ℕ → Type 0
NoStreamHas core port name = (n : ℕ) (stream : StreamC) → slice_get core.nodes n ≡ Some (From stream) → port n ≡ name → ⊥

-- the port of the commands

module _ (core : Core) (source : List ℕ) (engine : Engine) (was now : Bool) (mids news : List PortView) (b : Bindings) (ts : Pairs)
    (read : AreRead core source engine was mids b) (apart : NoStreamHas core b.port std_in) (of_name : AreOnlyOf std_in ts)
    (stays : was ≡ true → (bytes_for std_in ts ≡ []) × (now ≡ true)) where
  abbrev pub commands_bindings : Bindings
  commands_bindings = record b { taken = b.taken ++ ts }

  pub commands_before : (offers : List Offer) (rest : List ℕ) → MayHave core engine now commands_bindings offers rest
      → MayHave core engine was b offers (bytes_for std_in ts ++ rest)
  commands_before offers rest may = record {
    told = may.told;
    commands = rest_told b.taken std_in ts of_name (text_of std_in offers) rest may.commands;
    over = rest_none was now (bytes_for std_in ts) rest stays may.over;
    streams = λ n stream is. (
        let m = may.streams n stream is in
        (m.0, m.1, m.2 ∙ ap (λ (bs : List ℕ). bs ++ m.0) (others_same b.taken std_in ts of_name (b.port n) (apart n stream is))));
  }

  pub commands_read : names news ≡ names mids → Drawn mids news ts → (was ≡ false → now ≡ true → IsAtEnd (left_of std_in news))
      → AreRead core source engine now news commands_bindings
  commands_read same drawn ended = record {
    same_names = same ∙ read.same_names;
    drawn = Drawn-on b.firsts mids news b.taken ts read.drawn read.same_names drawn;
    right = λ n stream is. subst (λ bytes. IsRight engine n bytes (b.came n)) (sym (others_same b.taken std_in ts of_name (b.port n) (apart n stream is)))
        (read.right n stream is);
    count = read.count;
    told = λ n stream is over. subst (λ bytes. IfSome (left_of (b.port n) b.firsts) (λ left. left ≡ bytes))
        (sym (others_same b.taken std_in ts of_name (b.port n) (apart n stream is))) (read.told n stream is over);
    commands_told = end_told b.taken std_in ts of_name b.firsts news (same ∙ read.same_names)
        (Drawn-on b.firsts mids news b.taken ts read.drawn read.same_names drawn) was now (λ w. (stays w).0) read.commands_told ended;
    others = λ name no_source no_commands no_stream. others_same b.taken std_in ts of_name name no_commands ∙ read.others name no_source no_commands no_stream;
  }

-- the port of a stream

module _ (core : Core) (source : List ℕ) (old new : Engine) (over : Bool) (mids news : List PortView) (b : Bindings) (n : ℕ) (stream : StreamC)
    (is : slice_get core.nodes n ≡ Some (From stream)) (read : AreRead core source old over mids b)
    (apart : (m : ℕ) (other : StreamC) → slice_get core.nodes m ≡ Some (From other) → b.port m ≡ b.port n → m ≡ n) (no_commands : b.port n ≡ std_in → ⊥)
    (want : ℕ) (result : Result (Unit {0}) FillError) (fill : FillsNode want old new n (b.port n) mids news result) where
  abbrev its : Pairs
  its = (b.port n, fill.bytes) ∷ []

  abbrev pub stream_bindings : Bindings
  stream_bindings = record b {
    taken = b.taken ++ its;
    came = λ m. b.came m ++ only n fill.values m;
    brought = λ m. b.brought m + length (only n fill.values m);
  }

  own_bytes : bytes_for (b.port n) its ≡ fill.bytes
  own_bytes = bytes_for-one (b.port n) fill.bytes

  other_bytes : (other : List ℕ) → (other ≡ b.port n → ⊥) → bytes_for other (b.taken ++ its) ≡ bytes_for other b.taken
  other_bytes other differ = others_same b.taken (b.port n) its (only_one (b.port n) fill.bytes) other differ

  module _ (m : ℕ) (other : StreamC) (there : slice_get core.nodes m ≡ Some (From other)) (differ : m ≡ n → ⊥) where
    elsewhere : bytes_for (b.port m) (b.taken ++ its) ≡ bytes_for (b.port m) b.taken
    elsewhere = other_bytes (b.port m) (λ same. differ (apart m other there same))

    same_ended : (queue_at new m).ended ≡ (queue_at old m).ended
    same_ended = ap (λ (q : QueueView). q.ended) (fill.others m differ)

  abbrev MoreOf : (taken : Pairs) (engine : Engine) (offers : List Offer) (m : ℕ) → Type 0
  MoreOf taken engine offers m = (more : List ℕ) × ((queue_at engine m).ended ≡ true → more ≡ []) × (text_of (b.port m) offers ≡ bytes_for (b.port m) taken ++ more)

  more_before : (offers : List Offer) (m : ℕ) (other : StreamC) → slice_get core.nodes m ≡ Some (From other) → (m ≡ n) ⊎ (m ≡ n → ⊥)
      → MoreOf (b.taken ++ its) new offers m → MoreOf b.taken old offers m
  more_before offers m other there (inl same) more =
      let here : MoreOf (b.taken ++ its) new offers n = subst (MoreOf (b.taken ++ its) new offers) same more in
      let before : MoreOf b.taken old offers n = (
        fill.bytes ++ here.0,
        rest_none (queue_at old n).ended (queue_at new n).ended fill.bytes here.0 fill.stays here.1,
        rest_told b.taken (b.port n) its (only_one (b.port n) fill.bytes) (text_of (b.port n) offers) here.0 here.2
            ∙ ap (λ (bs : List ℕ). bytes_for (b.port n) b.taken ++ (bs ++ here.0)) own_bytes,
      ) in
      subst (MoreOf b.taken old offers) (sym same) before
  more_before offers m other there (inr differ) more = (
    more.0,
    (λ ended. more.1 (same_ended m other there differ ∙ ended)),
    more.2 ∙ ap (λ (bs : List ℕ). bs ++ more.0) (elsewhere m other there differ),
  )

  pub stream_before : (offers : List Offer) (rest : List ℕ) → MayHave core new over stream_bindings offers rest → MayHave core old over b offers rest
  stream_before offers rest may = record {
    told = may.told;
    commands = may.commands ∙ ap (λ (bs : List ℕ). bs ++ rest) (other_bytes std_in (λ same. no_commands (sym same)));
    over = may.over;
    streams = λ m other there. more_before offers m other there (same_or_other m n) (may.streams m other there);
  }

  module _ (same_core : core_of new ≡ core_of old) (same : names news ≡ names mids) (drawn : Drawn mids news its) where
    right_at : (m : ℕ) (other : StreamC) → slice_get core.nodes m ≡ Some (From other) → (m ≡ n) ⊎ (m ≡ n → ⊥)
        → IsRight old m (bytes_for (b.port m) b.taken) (b.came m) → IsRight new m (bytes_for (b.port m) (b.taken ++ its)) (b.came m ++ only n fill.values m)
    right_at m other there (inl here) right =
        let P : ℕ → Type 0 = λ k. IsRight old k (bytes_for (b.port k) b.taken) (b.came k)
        → IsRight new k (bytes_for (b.port k) (b.taken ++ its)) (b.came k ++ only n fill.values k) in
        let own : P n = λ r.
        subst (λ bytes. IsRight new n bytes (b.came n ++ only n fill.values n))
        (sym (bytes_for-append (b.port n) b.taken its ∙ ap (λ (bs : List ℕ). bytes_for (b.port n) b.taken ++ bs) own_bytes))
        (subst (λ values. IsRight new n (bytes_for (b.port n) b.taken ++ fill.bytes) (b.came n ++ values)) (sym (only_here n n fill.values refl))
        (stays_right want old new n (b.port n) mids news result fill same_core (bytes_for (b.port n) b.taken) (b.came n) r)) in
        subst P (sym here) own right
    right_at m other there (inr differ) right =
        let none : b.came m ≡ b.came m ++ only n fill.values m =
        sym (append-nil (b.came m)) ∙ ap (λ values. b.came m ++ values) (sym (none_elsewhere n m fill.values differ)) in
        subst (λ values. IsRight new m (bytes_for (b.port m) (b.taken ++ its)) values) none
        (subst (λ bytes. IsRight new m bytes (b.came m)) (sym (elsewhere m other there differ))
        (subst (λ (c : Core). IsRightBehind c.types (type_at c m) (queue_at new m) (bytes_for (b.port m) b.taken) (b.came m)) (sym same_core)
        (subst (λ q. IsRightBehind (core_of old).types (type_at (core_of old) m) q (bytes_for (b.port m) b.taken) (b.came m)) (sym (fill.others m differ)) right)))

    abbrev Told : Pairs → Engine → ℕ → Type 0
    Told taken engine m = (queue_at engine m).ended ≡ true → IfSome (left_of (b.port m) b.firsts) (λ left. left ≡ bytes_for (b.port m) taken)

    all_drawn : Drawn b.firsts news (b.taken ++ its)
    all_drawn = Drawn-on b.firsts mids news b.taken its read.drawn read.same_names drawn

    told_at : (m : ℕ) (other : StreamC) → slice_get core.nodes m ≡ Some (From other) → (m ≡ n) ⊎ (m ≡ n → ⊥) → Told b.taken old m → Told (b.taken ++ its) new m
    told_at m other there (inl here) told =
        let P : ℕ → Type 0 = λ k. Told b.taken old k → Told (b.taken ++ its) new k in
        let own : P n = λ was. end_told b.taken (b.port n) its (only_one (b.port n) fill.bytes) b.firsts news (same ∙ read.same_names) all_drawn
        (queue_at old n).ended (queue_at new n).ended (λ w. own_bytes ∙ (fill.stays w).0) was fill.ended in
        subst P (sym here) own told
    told_at m other there (inr differ) told = λ ended.
        subst (λ bytes. IfSome (left_of (b.port m) b.firsts) (λ left. left ≡ bytes)) (sym (elsewhere m other there differ))
        (told (sym (same_ended m other there differ) ∙ ended))

    pub stream_read : AreRead core source new over news stream_bindings
    stream_read = record {
      same_names = same ∙ read.same_names;
      drawn = all_drawn;
      right = λ m other there. right_at m other there (same_or_other m n) (read.right m other there);
      count = λ m. ap (λ count. count + length (only n fill.values m)) (read.count m) ∙ sym (length-append (b.came m) (only n fill.values m));
      told = λ m other there. told_at m other there (same_or_other m n) (read.told m other there);
      commands_told = λ ended. subst (λ bytes. IfSome (left_of std_in b.firsts) (λ left. left ≡ bytes))
          (sym (other_bytes std_in (λ at. no_commands (sym at)))) (read.commands_told ended);
      others = λ name no_source no_std_in no_stream.
          other_bytes name (λ at. no_stream n stream is (sym at)) ∙ read.others name no_source no_std_in no_stream;
    }
