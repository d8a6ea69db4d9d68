-- Where wants are among the acts of a call.
use Rattle.std.proofs.Common.{◌≡◌, ◌⊎◌, ℕ, Bool, true, false, cond, ◌||◌, zero, suc, List, [], ◌∷◌, ◌++◌, Option, Some, None, slice_get, refl, sym, ap, ◌∙◌, inl, inr, subst}
use Rattle.std.specs.List.{filter_map}
use Rattle.std.specs.Option.{is_none}
use Rattle.std.specs.Str.{bytes_eq}
use Rattle.std.proofs.lemmas.Bool.{or_parts}
use Rattle.std.proofs.lemmas.Grind.{flat_map-append}
use Rattle.std.proofs.lemmas.List.Folds.{list_any-append}
use Rattle.hume_model.specs.declared.core_tree.BoxC.{BoxC}
use Rattle.hume_model.specs.declared.core_tree.NodeC.{NodeC}
use Rattle.hume_model.specs.declared.core_tree.NodeC.TheVariants.{Rules, From, To}
use Rattle.hume_model.specs.declared.core_tree.StreamC.{StreamC}
use Rattle.hume_ports.specs.Delivery.{Pairs}
use Rattle.hume_ports.specs.Ports.{is_among, place_of}
use Rattle.port_acts.specs.Acts.{Act, wants, wanted, wanted_by, write_each, finish_each}
use Rattle.run_rounds.specs.Streams.{stream_of}
use Rattle.hume_calls.specs.Streams.{is_unfit, unfit_line}

-- An act of two lists in turn is one of the first, or one of the second and behind all of the first.
abbrev pub InFirst : List Act → List Act → Act → Type 0
InFirst ps before act = (rest : List Act) × (ps ≡ before ++ act ∷ rest)

abbrev pub InSecond : List Act → List Act → List Act → Act → List Act → Type 0
InSecond ps qs before act later = (first : List Act) × (before ≡ ps ++ first) × (qs ≡ first ++ act ∷ later)

pub split : (ps qs before : List Act) (act : Act) (later : List Act) → ps ++ qs ≡ before ++ act ∷ later
    → InFirst ps before act ⊎ InSecond ps qs before act later
split [] qs before act later e = inr (before, refl, e)
split (other ∷ ps) qs [] act later e =
    let same : other ≡ act = cc in
    inl (ps, rw same refl)
split (other ∷ ps) qs (first ∷ before) act later e =
    let same : other ≡ first = cc in
    let tails : ps ++ qs ≡ before ++ act ∷ later = cc in
    elim (split ps qs before act later tails) [
      | inl f ↦ inl (f.0, rw (same, f.1) refl)
      | inr s ↦ inr (s.0, rw (same, s.1) refl, s.2)
    ]

nothing_behind : {X : Type 0} (xs ys : List X) → xs ++ ys ≡ [] → ys ≡ []
nothing_behind [] ys e = e
nothing_behind (x ∷ xs) ys e = cc

-- acts that read nothing have no want
no_want : (acts before later : List Act) (name : List ℕ) (count : ℕ) → wanted acts ≡ [] → acts ≡ before ++ wants name count ∷ later → ⊥
no_want acts before later name count none e =
    let all : wanted before ++ wanted (wants name count ∷ later) ≡ [] =
    sym (flat_map-append wanted_by before (wants name count ∷ later)) ∙ ap wanted (sym e) ∙ none in
    let behind : name ∷ wanted later ≡ [] = nothing_behind (wanted before) (wanted (wants name count ∷ later)) all in
    cc

writes_read_nothing : (pairs : Pairs) → wanted (write_each pairs) ≡ []
writes_read_nothing [] = refl
writes_read_nothing (pair ∷ pairs) = writes_read_nothing pairs

finishes_read_nothing : (names : List (List ℕ)) → wanted (finish_each names) ≡ []
finishes_read_nothing [] = refl
finishes_read_nothing (name ∷ names) = finishes_read_nothing names

-- a want of a call that writes, runs and finishes is one of the run, and behind the writes
pub want_of_run : (pairs : Pairs) (run : List Act) (names : List (List ℕ)) (before later : List Act) (name : List ℕ) (count : ℕ)
    → write_each pairs ++ (run ++ finish_each names) ≡ before ++ wants name count ∷ later
    → (first : List Act) × (rest : List Act) × (before ≡ write_each pairs ++ first) × (run ≡ first ++ wants name count ∷ rest)
want_of_run pairs run names before later name count e = elim (split (write_each pairs) (run ++ finish_each names) before (wants name count) later e) [
  | inl here ↦ absurd (no_want (write_each pairs) before here.0 name count (writes_read_nothing pairs) here.1)
  | inr there ↦ elim (split run (finish_each names) there.0 (wants name count) later there.2) [
    | inl mid ↦ (there.0, mid.0, there.1, mid.1)
    | inr last ↦ absurd (no_want (finish_each names) last.0 later name count (finishes_read_nothing names) last.2)
  ]
]

-- acts that write and finish have no want
pub no_want_of_writes : (pairs : Pairs) (names : List (List ℕ)) (before later : List Act) (name : List ℕ) (count : ℕ)
    → write_each pairs ++ finish_each names ≡ before ++ wants name count ∷ later → ⊥
no_want_of_writes pairs names before later name count e = elim (split (write_each pairs) (finish_each names) before (wants name count) later e) [
  | inl here ↦ no_want (write_each pairs) before here.0 name count (writes_read_nothing pairs) here.1
  | inr last ↦ no_want (finish_each names) last.0 later name count (finishes_read_nothing names) last.2
]

-- ports of streams that are fit

fit_first : (unfit : Bool) (line : ℕ) (later : Option ℕ) → cond unfit (Some line) later ≡ None → (unfit ≡ false) × (later ≡ None)
fit_first true line later none = cc
fit_first false line later none = (refl, none)

module _ (names : List (List ℕ)) (source : List ℕ) where
  -- a fit port is there, and isn't the source's
  abbrev pub IsFit : List ℕ → Type 0
  IsFit port = (is_none (place_of port names) ≡ false) × (bytes_eq port source ≡ false)

  is_fit : (earlier : List (List ℕ)) (port : List ℕ) → is_unfit names source earlier port ≡ false → IsFit port
  is_fit earlier port fit =
      let parts = or_parts (is_none (place_of port names)) (bytes_eq port source || is_among port earlier) fit in
      (parts.0, (or_parts (bytes_eq port source) (is_among port earlier) parts.1).0)

  abbrev AllFit : List NodeC → ℕ → Type 0
  AllFit nodes n = (stream : StreamC) → slice_get nodes n ≡ Some (From stream) → IsFit stream.port

  same_stream : (first second : StreamC) → ◌≡◌ {A = Option NodeC} (Some (From first)) (Some (From second)) → first ≡ second
  same_stream first second e = cc

  -- where no port is unfit, those of the input streams are fit
  pub fit_inputs : (nodes : List NodeC) (earlier : List (List ℕ)) → unfit_line names source earlier (filter_map stream_of nodes) ≡ None → (n : ℕ)
      → AllFit nodes n
  fit_inputs [] earlier fit n stream at = cc
  fit_inputs (Rules b ∷ nodes) earlier fit zero stream at = cc
  fit_inputs (Rules b ∷ nodes) earlier fit (suc n) stream at = fit_inputs nodes earlier fit n stream at
  fit_inputs (To other ∷ nodes) earlier fit zero stream at = cc
  fit_inputs (To other ∷ nodes) earlier fit (suc n) stream at =
      let f = fit_first (is_unfit names source earlier other.port) other.line
      (unfit_line names source (earlier ++ other.port ∷ []) (filter_map stream_of nodes)) fit in
      fit_inputs nodes (earlier ++ other.port ∷ []) f.1 n stream at
  fit_inputs (From other ∷ nodes) earlier fit zero stream at =
      let f = fit_first (is_unfit names source earlier other.port) other.line
      (unfit_line names source (earlier ++ other.port ∷ []) (filter_map stream_of nodes)) fit in
      subst (λ (s : StreamC). IsFit s.port) (same_stream other stream at) (is_fit earlier other.port f.0)
  fit_inputs (From other ∷ nodes) earlier fit (suc n) stream at =
      let f = fit_first (is_unfit names source earlier other.port) other.line
      (unfit_line names source (earlier ++ other.port ∷ []) (filter_map stream_of nodes)) fit in
      fit_inputs nodes (earlier ++ other.port ∷ []) f.1 n stream at

  -- a name that isn't among more isn't among fewer
  fewer : (name : List ℕ) (earlier more : List (List ℕ)) → is_among name (earlier ++ more) ≡ false → is_among name earlier ≡ false
  fewer name earlier more none = (or_parts (is_among name earlier) (is_among name more) (sym (list_any-append (bytes_eq name) earlier more) ∙ none)).0

  not_earlier : (earlier : List (List ℕ)) (port : List ℕ) → is_unfit names source earlier port ≡ false → is_among port earlier ≡ false
  not_earlier earlier port fit =
      let parts = or_parts (is_none (place_of port names)) (bytes_eq port source || is_among port earlier) fit in
      (or_parts (bytes_eq port source) (is_among port earlier) parts.1).1

  -- and none of an input stream is among the earlier ones
  pub apart_from_earlier : (nodes : List NodeC) (earlier : List (List ℕ)) → unfit_line names source earlier (filter_map stream_of nodes) ≡ None → (n : ℕ)
      (stream : StreamC) → slice_get nodes n ≡ Some (From stream) → is_among stream.port earlier ≡ false
  apart_from_earlier [] earlier fit n stream at = cc
  apart_from_earlier (Rules b ∷ nodes) earlier fit zero stream at = cc
  apart_from_earlier (Rules b ∷ nodes) earlier fit (suc n) stream at = apart_from_earlier nodes earlier fit n stream at
  apart_from_earlier (To other ∷ nodes) earlier fit zero stream at = cc
  apart_from_earlier (To other ∷ nodes) earlier fit (suc n) stream at =
      let f = fit_first (is_unfit names source earlier other.port) other.line
      (unfit_line names source (earlier ++ other.port ∷ []) (filter_map stream_of nodes)) fit in
      fewer stream.port earlier (other.port ∷ []) (apart_from_earlier nodes (earlier ++ other.port ∷ []) f.1 n stream at)
  apart_from_earlier (From other ∷ nodes) earlier fit zero stream at =
      let f = fit_first (is_unfit names source earlier other.port) other.line
      (unfit_line names source (earlier ++ other.port ∷ []) (filter_map stream_of nodes)) fit in
      subst (λ (s : StreamC). is_among s.port earlier ≡ false) (same_stream other stream at) (not_earlier earlier other.port f.0)
  apart_from_earlier (From other ∷ nodes) earlier fit (suc n) stream at =
      let f = fit_first (is_unfit names source earlier other.port) other.line
      (unfit_line names source (earlier ++ other.port ∷ []) (filter_map stream_of nodes)) fit in
      fewer stream.port earlier (other.port ∷ []) (apart_from_earlier nodes (earlier ++ other.port ∷ []) f.1 n stream at)

  -- and none of any stream is
  no_stream : (b : BoxC) (node : NodeC) (stream : StreamC) → Rules b ≡ node → stream_of node ≡ Some stream → ⊥
  no_stream b node stream same is = let none : ◌≡◌ {A = Option StreamC} None (Some stream) = ap stream_of same ∙ is in cc

  its_stream : (node other : NodeC) (stream first : StreamC) → node ≡ other → stream_of node ≡ Some first → stream_of other ≡ Some stream → first ≡ stream
  its_stream node other stream first same has is =
      let both : ◌≡◌ {A = Option StreamC} (Some first) (Some stream) = sym has ∙ ap stream_of same ∙ is in cc

  pub stream_apart : (nodes : List NodeC) (earlier : List (List ℕ)) → unfit_line names source earlier (filter_map stream_of nodes) ≡ None → (n : ℕ)
      (node : NodeC) (stream : StreamC) → slice_get nodes n ≡ Some node → stream_of node ≡ Some stream → is_among stream.port earlier ≡ false
  stream_apart [] earlier fit n node stream at is = cc
  stream_apart (Rules b ∷ nodes) earlier fit zero node stream at is = let same : Rules b ≡ node = cc in absurd (no_stream b node stream same is)
  stream_apart (Rules b ∷ nodes) earlier fit (suc n) node stream at is = stream_apart nodes earlier fit n node stream at is
  stream_apart (To other ∷ nodes) earlier fit zero node stream at is =
      let f = fit_first (is_unfit names source earlier other.port) other.line
      (unfit_line names source (earlier ++ other.port ∷ []) (filter_map stream_of nodes)) fit in
      let same : To other ≡ node = cc in
      subst (λ (s : StreamC). is_among s.port earlier ≡ false) (its_stream (To other) node stream other same refl is) (not_earlier earlier other.port f.0)
  stream_apart (To other ∷ nodes) earlier fit (suc n) node stream at is =
      let f = fit_first (is_unfit names source earlier other.port) other.line
      (unfit_line names source (earlier ++ other.port ∷ []) (filter_map stream_of nodes)) fit in
      fewer stream.port earlier (other.port ∷ []) (stream_apart nodes (earlier ++ other.port ∷ []) f.1 n node stream at is)
  stream_apart (From other ∷ nodes) earlier fit zero node stream at is =
      let f = fit_first (is_unfit names source earlier other.port) other.line
      (unfit_line names source (earlier ++ other.port ∷ []) (filter_map stream_of nodes)) fit in
      let same : From other ≡ node = cc in
      subst (λ (s : StreamC). is_among s.port earlier ≡ false) (its_stream (From other) node stream other same refl is) (not_earlier earlier other.port f.0)
  stream_apart (From other ∷ nodes) earlier fit (suc n) node stream at is =
      let f = fit_first (is_unfit names source earlier other.port) other.line
      (unfit_line names source (earlier ++ other.port ∷ []) (filter_map stream_of nodes)) fit in
      fewer stream.port earlier (other.port ∷ []) (stream_apart nodes (earlier ++ other.port ∷ []) f.1 n node stream at is)

  -- so no input stream's is the source's
  pub apart_from_source : (nodes : List NodeC) (earlier : List (List ℕ)) → unfit_line names source earlier (filter_map stream_of nodes) ≡ None → (n : ℕ)
      (stream : StreamC) → slice_get nodes n ≡ Some (From stream) → bytes_eq stream.port source ≡ false
  apart_from_source nodes earlier fit n stream at = (fit_inputs nodes earlier fit n stream at).1
