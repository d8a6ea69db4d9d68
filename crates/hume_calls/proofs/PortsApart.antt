-- Streams of several programs whose ports are apart have fit ports in their union.
use Rattle.std.proofs.Common.{◌≡◌, ℕ, suc, ◌+◌, Bool, true, false, ◌||◌, if◌then◌else◌, List, [], ◌∷◌, ◌++◌, map, length, Option, Some, None, slice_get, refl, ap, sym, ◌∙◌, arith, append_assoc, append-nil}
use Rattle.std.specs.List.{filter_map}
use Rattle.std.specs.Option.{is_none}
use Rattle.std.specs.Str.{bytes_eq}
use Rattle.std.proofs.lemmas.Bool.{or_parts}
use Rattle.std.proofs.lemmas.List.{map-append}
use Rattle.std.proofs.lemmas.List.Elements.{filter_map-append}
use Rattle.hume_base.specs.declared.rule.Rule.{Rule}
use Rattle.hume_base.specs.declared.rule.Rule.TheVariants.{C55, C57}
use Rattle.hume_model.specs.declared.core_tree.NodeC.{NodeC}
use Rattle.hume_model.specs.declared.core_tree.NodeC.TheVariants.{Rules, From, To}
use Rattle.hume_model.specs.declared.core_tree.StreamC.{StreamC}
use Rattle.hume_model.specs.declared.core_tree.Core.{Core}
use Rattle.hume_ports.specs.Ports.{is_among, place_of}
use Rattle.hume_front.specs.declared.acceptance.Accepted.{Accepted}
use Rattle.run_rounds.specs.Streams.{ports_of, stream_of, streams}
use Rattle.union_laws.specs.Moving.{moved_node}
use Rattle.union_laws.specs.Union.{behind, followed_by, united}
use Rattle.union_laws.specs.declared.moves.Moves.{Moves}
use Rattle.union_front.specs.Unions.{core_of}
use Rattle.hume_calls.specs.declared.program_refusal.ProgramRefusal.{ProgramRefusal}
use Rattle.hume_calls.specs.Streams.{is_unfit, unfit_line}
use Rattle.hume_calls.proofs.Wanting.{apart_from_source}
use Rattle.hume_calls.specs.Unions.{line_or, shared_program, taken_line, unfit_program, union_core}

-- a stream keeps its port in a union

moved_streams : (moves : Moves) (nodes : List NodeC) → filter_map stream_of (map (moved_node moves) nodes) ≡ filter_map stream_of nodes
moved_streams moves [] = refl
moved_streams moves (Rules b ∷ nodes) = moved_streams moves nodes
moved_streams moves (From stream ∷ nodes) = ap (λ (all : List StreamC). stream ∷ all) (moved_streams moves nodes)
moved_streams moves (To stream ∷ nodes) = ap (λ (all : List StreamC). stream ∷ all) (moved_streams moves nodes)

both_streams : (a b : Core) → streams (united a b) ≡ streams a ++ streams b
both_streams a b =
    filter_map-append stream_of a.nodes (map (moved_node (behind a)) b.nodes)
    ∙ ap (λ (all : List StreamC). streams a ++ all) (moved_streams (behind a) b.nodes)

-- names among two lists

among_neither : (port : List ℕ) (xs ys : List (List ℕ)) → is_among port xs ≡ false → is_among port ys ≡ false → is_among port (xs ++ ys) ≡ false
among_neither port [] ys out too = too
among_neither port (x ∷ xs) ys out too =
    let parts = or_parts (bytes_eq port x) (is_among port xs) out in
    ap (λ t. t || is_among port (xs ++ ys)) parts.0 ∙ among_neither port xs ys parts.1 too

among_apart : (port : List ℕ) (xs ys : List (List ℕ)) → is_among port (xs ++ ys) ≡ false → (is_among port xs ≡ false) × (is_among port ys ≡ false)
among_apart port [] ys out = (refl, out)
among_apart port (x ∷ xs) ys out =
    let parts = or_parts (bytes_eq port x) (is_among port (xs ++ ys)) out in
    let later = among_apart port xs ys parts.1 in
    (ap (λ t. t || is_among port xs) parts.0 ∙ later.0, later.1)

if_none : (b : Bool) (line : ℕ) (later : Option ℕ) → (if b then Some line else later) ≡ None → (b ≡ false) × (later ≡ None)
if_none true line later is = cc
if_none false line later is = (refl, is)

neither : (rule : Rule) (number : ℕ) (line : Option ℕ) (later : Option ProgramRefusal) → line_or rule number line later ≡ None → (line ≡ None) × (later ≡ None)
neither rule number None later is = (refl, is)
neither rule number (Some line) later is = cc

module _ (names sources : List (List ℕ)) (first : List ℕ) (one : (port : List ℕ) → is_among port sources ≡ false → bytes_eq port first ≡ false) where
  -- the streams of one program behind those with these ports
  one_program : (own : List ℕ) (earlier before : List (List ℕ)) (all : List StreamC) → unfit_line names own before all ≡ None
      → taken_line (sources ++ earlier) all ≡ None → unfit_line names first (earlier ++ before) all ≡ None
  one_program own earlier before [] fit apart = refl
  one_program own earlier before (stream ∷ all) fit apart =
      let f = if_none (is_unfit names own before stream.port) stream.line (unfit_line names own (before ++ stream.port ∷ []) all) fit in
      let a = if_none (is_among stream.port (sources ++ earlier)) stream.line (taken_line (sources ++ earlier) all) apart in
      let there = or_parts (is_none (place_of stream.port names)) (bytes_eq stream.port own || is_among stream.port before) f.0 in
      let other = or_parts (bytes_eq stream.port own) (is_among stream.port before) there.1 in
      let out = among_apart stream.port sources earlier a.0 in
      let here : is_unfit names first (earlier ++ before) stream.port ≡ false =
      ap (λ t. t || (bytes_eq stream.port first || is_among stream.port (earlier ++ before))) there.0
      ∙ ap (λ t. t || is_among stream.port (earlier ++ before)) (one stream.port out.0)
      ∙ among_neither stream.port earlier before out.1 other.1 in
      ap (λ t. if t then Some stream.line else unfit_line names first ((earlier ++ before) ++ stream.port ∷ []) all) here
      ∙ ap (λ (e : List (List ℕ)). unfit_line names first e all) (append_assoc earlier before (stream.port ∷ []))
      ∙ one_program own earlier (before ++ stream.port ∷ []) all f.1 a.1

  -- streams and then others
  fit_append : (earlier : List (List ℕ)) (xs ys : List StreamC) → unfit_line names first earlier xs ≡ None
      → unfit_line names first (earlier ++ ports_of xs) ys ≡ None → unfit_line names first earlier (xs ++ ys) ≡ None
  fit_append earlier [] ys fit later = ap (λ (e : List (List ℕ)). unfit_line names first e ys) (sym (append-nil earlier)) ∙ later
  fit_append earlier (x ∷ xs) ys fit later =
      let f = if_none (is_unfit names first earlier x.port) x.line (unfit_line names first (earlier ++ x.port ∷ []) xs) fit in
      ap (λ t. if t then Some x.line else unfit_line names first (earlier ++ x.port ∷ []) (xs ++ ys)) f.0
      ∙ fit_append (earlier ++ x.port ∷ []) xs ys f.1
      (ap (λ (e : List (List ℕ)). unfit_line names first e ys) (append_assoc earlier (x.port ∷ []) (ports_of xs)) ∙ later)

  -- the programs behind a core
  programs_fit : (core : Core) (owns : List (List ℕ)) (programs : List Accepted) (from : ℕ) → length owns ≡ length programs
      → unfit_line names first [] (streams core) ≡ None → unfit_program names owns programs from ≡ None
      → shared_program sources (ports_of (streams core)) programs from ≡ None
      → unfit_line names first [] (streams (followed_by core (map core_of programs))) ≡ None
  programs_fit core owns [] from many fit all apart = fit
  programs_fit core [] (program ∷ programs) from many fit all apart = absurd (omega arith)
  programs_fit core (own ∷ owns) (program ∷ programs) from many fit all apart =
      let f = neither C55 from (unfit_line names own [] (streams program.core)) (unfit_program names owns programs (from + 1)) all in
      let a = neither C57 from (taken_line (sources ++ ports_of (streams core)) (streams program.core))
      (shared_program sources (ports_of (streams core) ++ ports_of (streams program.core)) programs (from + 1)) apart in
      let behind_core : unfit_line names first (ports_of (streams core)) (streams program.core) ≡ None =
      ap (λ (e : List (List ℕ)). unfit_line names first e (streams program.core)) (sym (append-nil (ports_of (streams core))))
      ∙ one_program own (ports_of (streams core)) [] (streams program.core) f.0 a.0 in
      let both : unfit_line names first [] (streams (united core program.core)) ≡ None =
      ap (unfit_line names first []) (both_streams core program.core) ∙ fit_append [] (streams core) (streams program.core) fit behind_core in
      let ports : ports_of (streams (united core program.core)) ≡ ports_of (streams core) ++ ports_of (streams program.core) =
      ap ports_of (both_streams core program.core) ∙ map-append (λ (stream : StreamC). stream.port) (streams core) (streams program.core) in
      programs_fit (united core program.core) owns programs (from + 1) (omega (arith, many)) both f.1
      (ap (λ (e : List (List ℕ)). shared_program sources e programs (from + 1)) ports ∙ a.1)

module _ (names : List (List ℕ)) (source : List ℕ) (sources : List (List ℕ)) where
  -- the ports of a union's streams are fit for each of its sources
  fit_for : (own : List ℕ) → ((port : List ℕ) → is_among port (source ∷ sources) ≡ false → bytes_eq port own ≡ false)
      → (programs : List Accepted) → suc (length sources) ≡ length programs
      → unfit_program names (source ∷ sources) programs 1 ≡ None → shared_program (source ∷ sources) [] programs 1 ≡ None
      → unfit_line names own [] (streams (union_core programs)) ≡ None
  fit_for own one [] many fit apart = absurd (omega arith)
  fit_for own one (program ∷ programs) many fit apart =
      let f = neither C55 1 (unfit_line names source [] (streams program.core)) (unfit_program names sources programs 2) fit in
      let a = neither C57 1 (taken_line ((source ∷ sources) ++ []) (streams program.core)) (shared_program (source ∷ sources) (ports_of (streams program.core)) programs 2) apart in
      programs_fit names (source ∷ sources) own one program.core sources programs 2 (omega (arith, many))
      (one_program names (source ∷ sources) own one source [] [] (streams program.core) f.0 a.0) f.1 a.1

  -- and so for the first
  pub union_fit : (programs : List Accepted) → suc (length sources) ≡ length programs
      → unfit_program names (source ∷ sources) programs 1 ≡ None → shared_program (source ∷ sources) [] programs 1 ≡ None
      → unfit_line names source [] (streams (union_core programs)) ≡ None
  union_fit = fit_for source (λ port out. (or_parts (bytes_eq port source) (is_among port sources) out).0)

  module _ (programs : List Accepted) (many : suc (length sources) ≡ length programs) (fit : unfit_program names (source ∷ sources) programs 1 ≡ None)
      (apart : shared_program (source ∷ sources) [] programs 1 ≡ None) (n : ℕ) (stream : StreamC)
      (at : slice_get (union_core programs).nodes n ≡ Some (From stream)) where
    apart_from : (owns : List (List ℕ)) → ((port : List ℕ) → is_among port (source ∷ sources) ≡ false → is_among port owns ≡ false)
        → is_among stream.port owns ≡ false
    apart_from [] out = refl
    apart_from (own ∷ owns) out =
        let here : bytes_eq stream.port own ≡ false =
        apart_from_source names own (union_core programs).nodes []
        (fit_for own (λ port none. (or_parts (bytes_eq port own) (is_among port owns) (out port none)).0) programs many fit apart) n stream at in
        ap (λ t. t || is_among stream.port owns) here ∙ apart_from owns (λ port none. (or_parts (bytes_eq port own) (is_among port owns) (out port none)).1)

    -- no input stream's port is a source's
    pub union_apart : is_among stream.port (source ∷ sources) ≡ false
    union_apart = apart_from (source ∷ sources) (λ port none. none)
