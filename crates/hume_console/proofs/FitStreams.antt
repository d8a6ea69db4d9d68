-- Streams of which none is unfit have ports that are there, and no two have one.
use Rattle.std.proofs.Common.{◌≡◌, ℕ, zero, suc, cond, Bool, true, false, ◌||◌, List, [], ◌∷◌, ◌++◌, Option, None, Some, refl, ap, sym, ◌∙◌, subst}
use Rattle.std.specs.Prelude.{slice_get}
use Rattle.std.specs.List.{filter_map}
use Rattle.std.specs.Option.{is_none}
use Rattle.std.specs.Str.{bytes_eq}
use Rattle.std.proofs.lemmas.Bool.{or_parts, true≢false}
use Rattle.std.proofs.lemmas.List.Folds.{list_any-append}
use Rattle.hume_model.specs.declared.core_tree.BoxC.{BoxC}
use Rattle.hume_model.specs.declared.core_tree.NodeC.{NodeC}
use Rattle.hume_model.specs.declared.core_tree.NodeC.TheVariants.{Rules, From, To}
use Rattle.hume_model.specs.declared.core_tree.StreamC.{StreamC}
use Rattle.hume_ports.specs.Ports.{is_among, place_of}
use Rattle.hume_ports.proofs.Names.{bytes_eq-self}
use Rattle.run_rounds.specs.Streams.{stream_of}
use Rattle.hume_calls.specs.Streams.{is_unfit, unfit_line}
use Rattle.hume_calls.proofs.Wanting.{stream_apart}

some_of : (o : Option ℕ) → is_none o ≡ false → (p : ℕ) × (o ≡ Some p)
some_of None e = cc
some_of (Some p) e = (p, refl)

fit_first : (unfit : Bool) (line : ℕ) (later : Option ℕ) → cond unfit (Some line) later ≡ None → (unfit ≡ false) × (later ≡ None)
fit_first true line later none = cc
fit_first false line later none = (refl, none)

or_last : (a : Bool) → (a || true) ≡ true
or_last true = refl
or_last false = refl

last_among : (name : List ℕ) (earlier : List (List ℕ)) → is_among name (earlier ++ name ∷ []) ≡ true
last_among name earlier =
    list_any-append (bytes_eq name) earlier (name ∷ [])
    ∙ ap (λ b. is_among name earlier || (b || false)) (bytes_eq-self name) ∙ or_last (is_among name earlier)

no_rules : (b : BoxC) (node : NodeC) (stream : StreamC) → Rules b ≡ node → stream_of node ≡ Some stream → ⊥
no_rules b node stream same is = let none : ◌≡◌ {A = Option StreamC} None (Some stream) = ap stream_of same ∙ is in cc

its_own : (first node : NodeC) (stream other : StreamC) → first ≡ node → stream_of first ≡ Some other → stream_of node ≡ Some stream → other ≡ stream
its_own first node stream other same has is =
    let both : ◌≡◌ {A = Option StreamC} (Some other) (Some stream) = sym has ∙ ap stream_of same ∙ is in cc

module _ (names : List (List ℕ)) (source : List ℕ) where
  -- no stream of these nodes is unfit
  abbrev AreFit : List (List ℕ) → List NodeC → Type 0
  AreFit earlier nodes = unfit_line names source earlier (filter_map stream_of nodes) ≡ None

  -- the first stream is fit, and those behind it
  split : (other : StreamC) (nodes : List NodeC) (earlier : List (List ℕ)) → unfit_line names source earlier (other ∷ filter_map stream_of nodes) ≡ None
      → (is_unfit names source earlier other.port ≡ false) × AreFit (earlier ++ other.port ∷ []) nodes
  split other nodes earlier fit =
      fit_first (is_unfit names source earlier other.port) other.line (unfit_line names source (earlier ++ other.port ∷ []) (filter_map stream_of nodes)) fit

  behind : (first : NodeC) (nodes : List NodeC) (earlier : List (List ℕ)) (one : StreamC) → stream_of first ≡ Some one → AreFit earlier (first ∷ nodes)
      → (is_unfit names source earlier one.port ≡ false) × AreFit (earlier ++ one.port ∷ []) nodes
  behind (Rules b) nodes earlier one is fit = cc
  behind (From other) nodes earlier one is fit =
      let same : other ≡ one = cc in
      subst (λ (s : StreamC). (is_unfit names source earlier s.port ≡ false) × AreFit (earlier ++ s.port ∷ []) nodes) same (split other nodes earlier fit)
  behind (To other) nodes earlier one is fit =
      let same : other ≡ one = cc in
      subst (λ (s : StreamC). (is_unfit names source earlier s.port ≡ false) × AreFit (earlier ++ s.port ∷ []) nodes) same (split other nodes earlier fit)

  -- the streams behind the first node are fit
  rest_fit : (first : NodeC) (nodes : List NodeC) (earlier : List (List ℕ)) → AreFit earlier (first ∷ nodes) → (later : List (List ℕ)) × AreFit later nodes
  rest_fit (Rules b) nodes earlier fit = (earlier, fit)
  rest_fit (From other) nodes earlier fit = (earlier ++ other.port ∷ [], (split other nodes earlier fit).1)
  rest_fit (To other) nodes earlier fit = (earlier ++ other.port ∷ [], (split other nodes earlier fit).1)

  pub fit_there : (nodes : List NodeC) (earlier : List (List ℕ)) → AreFit earlier nodes → (n : ℕ) (node : NodeC) (stream : StreamC)
      → slice_get nodes n ≡ Some node → stream_of node ≡ Some stream → (p : ℕ) × (place_of stream.port names ≡ Some p)
  fit_there [] earlier fit n node stream at is = cc
  fit_there (first ∷ nodes) earlier fit zero node stream at is =
      let same : first ≡ node = cc in
      let own : stream_of first ≡ Some stream = ap stream_of same ∙ is in
      let fits = (behind first nodes earlier stream own fit).0 in
      some_of (place_of stream.port names) (or_parts (is_none (place_of stream.port names)) (bytes_eq stream.port source || is_among stream.port earlier) fits).0
  fit_there (first ∷ nodes) earlier fit (suc n) node stream at is =
      let rest = rest_fit first nodes earlier fit in fit_there nodes rest.0 rest.1 n node stream at is

  -- no stream behind the first one has its port
  no_twin : (first : NodeC) (nodes : List NodeC) (earlier : List (List ℕ)) (m : ℕ) (node other : NodeC) (one two : StreamC) → AreFit earlier (first ∷ nodes)
      → first ≡ node → slice_get nodes m ≡ Some other → stream_of node ≡ Some one → stream_of other ≡ Some two → one.port ≡ two.port → ⊥
  no_twin first nodes earlier m node other one two fit same over is are equal =
      let later = (behind first nodes earlier one (ap stream_of same ∙ is) fit).1 in
      let none = stream_apart names source nodes (earlier ++ one.port ∷ []) later m other two over are in
      let here : is_among two.port (earlier ++ one.port ∷ []) ≡ true = ap (λ port. is_among two.port (earlier ++ port ∷ [])) equal ∙ last_among two.port earlier in
      true≢false (sym here ∙ none)

  pub fit_apart : (nodes : List NodeC) (earlier : List (List ℕ)) → AreFit earlier nodes → (n m : ℕ) (node other : NodeC) (one two : StreamC)
      → slice_get nodes n ≡ Some node → slice_get nodes m ≡ Some other → stream_of node ≡ Some one → stream_of other ≡ Some two → one.port ≡ two.port → n ≡ m
  fit_apart [] earlier fit n m node other one two at over is are equal = cc
  fit_apart (first ∷ nodes) earlier fit zero zero node other one two at over is are equal = refl
  fit_apart (first ∷ nodes) earlier fit zero (suc m) node other one two at over is are equal =
      let same : first ≡ node = cc in absurd (no_twin first nodes earlier m node other one two fit same over is are equal)
  fit_apart (first ∷ nodes) earlier fit (suc n) zero node other one two at over is are equal =
      let same : first ≡ other = cc in absurd (no_twin first nodes earlier n other node two one fit same at are is (sym equal))
  fit_apart (first ∷ nodes) earlier fit (suc n) (suc m) node other one two at over is are equal =
      let rest = rest_fit first nodes earlier fit in ap suc (fit_apart nodes rest.0 rest.1 n m node other one two at over is are equal)
