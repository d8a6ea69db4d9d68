-- Ports stand at their places after an exchange too.
use Rattle.std.proofs.Common.{◌≡◌, ◌⊎◌, ℕ, zero, suc, ◌<◌, ◌-◌, eqb, not, nat_lt, cond, Bool, true, false, ◌||◌, List, [], ◌∷◌, length, map, take, drop, if◌then◌else◌, refl, ap, sym, ◌∙◌, arith, inl, inr, Some}
use Rattle.std.specs.Prelude.{◌==◌, slice_get, slice_index_or, slice_set}
use Rattle.std.specs.List.{remove}
use Rattle.std.specs.Option.{unwrap_or}
use Rattle.std.specs.Str.{bytes_eq}
use Rattle.std.proofs.lemmas.Bool.{true≢false, eq-eqb, ne_eqb}
use Rattle.std.proofs.lemmas.List.{length-map, map-append, take-map, drop-map}
use Rattle.std.proofs.lemmas.Option.{slice_get_within}
use Rattle.hume_model.specs.declared.core_tree.NodeC.{NodeC}
use Rattle.hume_model.specs.declared.core_tree.NodeC.TheVariants.{Rules, From, To}
use Rattle.hume_model.specs.declared.core_tree.StreamC.{StreamC}
use Rattle.hume_model.specs.declared.core_tree.Core.{Core}
use Rattle.hume_ports.specs.Ports.{is_among, place_of}
use Rattle.hume_ports.proofs.Names.{bytes_eq-self, same_name}
use Rattle.run_rounds.specs.Streams.{std_out, stream_of}
use Rattle.hume_console.specs.declared.places.Places.{Places}
use Rattle.hume_console.specs.Words.{std_in}
use Rattle.hume_console.specs.Session.{Session, Offer, exchanged, has_port, is_taken, may_exchange, names_of, place_at}
use Rattle.hume_console.specs.Hands.{place_without}
use Rattle.hume_console.specs.inner.Placed.{ArePlaced}
use Rattle.hume_console.proofs.Leaving.{place_removed}
use Rattle.hume_console.proofs.Placing.{one_passes, same_place}
use Rattle.hume_console.proofs.PortsLeft.{eq_differ}
use Rattle.hume_console.proofs.ReadOn.{same_or_other}

-- the names of the ports that are left
pub names_left : (ports : List Offer) (at : ℕ) → names_of (remove ports at) ≡ remove (names_of ports) at
names_left ports at =
    map-append (λ (port : Offer). port.name) (take at ports) (drop (suc at) ports)
    ∙ rw (take-map (λ (port : Offer). port.name) at ports, drop-map (λ (port : Offer). port.name) (suc at) ports) refl

-- what a port is that a stream may be given

or_false : (a b : Bool) → (a || b) ≡ false → (a ≡ false) × (b ≡ false)
or_false true b e = absurd (true≢false e)
or_false false b e = (refl, e)

not_true : (b : Bool) → not b ≡ true → b ≡ false
not_true true e = absurd (true≢false (sym e))
not_true false e = refl

-- The port of a stream isn't the standard output, and the other port is none that is taken.
pub record IsFree (core : Core) (source : List ℕ) (session : Session) (n : ℕ) (port : List ℕ) : Type 0 where
  pub no_std_out : session.port n ≡ std_out → ⊥
  pub no_source : port ≡ source → ⊥
  pub no_std_in : port ≡ std_in → ⊥
  pub no_stream : (m : ℕ) (node : NodeC) (stream : StreamC) → slice_get core.nodes m ≡ Some node → stream_of node ≡ Some stream → session.port m ≡ port → ⊥

has_it : (port : List ℕ) (session : Session) (m : ℕ) (node : NodeC) (stream : StreamC) → stream_of node ≡ Some stream → session.port m ≡ port
    → has_port port session m (Some node) ≡ true
has_it port session m (Rules b) stream is same = cc
has_it port session m (From one) stream is same = ap (λ n. bytes_eq n port) same ∙ bytes_eq-self port
has_it port session m (To one) stream is same = ap (λ n. bytes_eq n port) same ∙ bytes_eq-self port

pub is_free : (core : Core) (source : List ℕ) (session : Session) (n : ℕ) (port : List ℕ) → may_exchange core source session n port ≡ true
    → IsFree core source session n port
is_free core source session n port may =
    let both = or_false (bytes_eq (session.port n) std_out) _ (not_true _ may) in
    let taken = (or_false _ (is_taken core source session port) both.1).1 in
    let apart = or_false (is_among port (source ∷ std_in ∷ std_out ∷ [])) _ taken in
    let first = or_false (bytes_eq port source) _ apart.0 in
    let second = or_false (bytes_eq port std_in) _ first.1 in
    record {
      no_std_out = eq_differ (session.port n) std_out both.0;
      no_source = eq_differ port source first.0;
      no_std_in = eq_differ port std_in second.0;
      no_stream = λ m node stream there is same. (
          let passes : has_port port session m (slice_get core.nodes m) ≡ true =
          ap (has_port port session m) there ∙ has_it port session m node stream is same in
          true≢false (sym (one_passes (λ k. has_port port session k (slice_get core.nodes k)) (length core.nodes) m
          (slice_get_within core.nodes m node there) passes) ∙ apart.1));
    }

-- places

moved_zero : (gone : ℕ) → place_without gone 0 ≡ 0
moved_zero gone = by (nat_lt gone 0)
  where
    by : (b : Bool) → cond b (0 - 1) 0 ≡ 0
    by true = refl
    by false = refl

set_length : (xs : List ℕ) (n to : ℕ) → length (slice_set xs n to) ≡ length xs
set_length [] n to = refl
set_length (x ∷ xs) zero to = refl
set_length (x ∷ xs) (suc n) to = ap suc (set_length xs n to)

set_there : (f : ℕ → ℕ) (xs : List ℕ) (n to : ℕ) → n < length xs → slice_index_or (map f (slice_set xs n to)) n 0 ≡ f to
set_there f [] n to within = absurd (omega (arith, within))
set_there f (x ∷ xs) zero to within = refl
set_there f (x ∷ xs) (suc n) to within = set_there f xs n to (omega (arith, within))

set_other : (f : ℕ → ℕ) (none : f 0 ≡ 0) (xs : List ℕ) (n to m : ℕ) → (m ≡ n → ⊥) → slice_index_or (map f (slice_set xs n to)) m 0 ≡ f (slice_index_or xs m 0)
set_other f none [] n to m differ = sym none
set_other f none (x ∷ xs) zero to zero differ = absurd (differ refl)
set_other f none (x ∷ xs) zero to (suc m) differ = mapped xs m
  where
    mapped : (ys : List ℕ) (k : ℕ) → slice_index_or (map f ys) k 0 ≡ f (slice_index_or ys k 0)
    mapped [] k = sym none
    mapped (y ∷ ys) zero = refl
    mapped (y ∷ ys) (suc k) = mapped ys k
set_other f none (x ∷ xs) (suc n) to zero differ = refl
set_other f none (x ∷ xs) (suc n) to (suc m) differ = set_other f none xs n to m (λ same. differ (ap suc same))

module _ (core : Core) (source : List ℕ) (session : Session) (names : List (List ℕ)) (places after : Places) (n to : ℕ) (port : List ℕ) (item : NodeC) (stream : StreamC)
    (placed : ArePlaced core source session names places) (there : slice_get core.nodes n ≡ Some item) (is : stream_of item ≡ Some stream)
    (free : IsFree core source session n port) (found : place_of port names ≡ Some to) where
  abbrev at : ℕ
  at = slice_index_or places.streams.items n 0

  own : place_of (session.port n) names ≡ Some at
  own = placed.streams n item stream there is

  -- the place of the stream's port
  pub at_place : place_at session n ≡ at
  at_place = ap (λ o. unwrap_or o 0) (ap (place_of (session.port n)) placed.same_names ∙ own)

  -- the place of another name's port
  other_place : (name : List ℕ) (there : ℕ) → place_of name names ≡ Some there → (session.port n ≡ name → ⊥)
      → place_of name (remove names at) ≡ Some (place_without at there)
  other_place name there e differ =
      place_removed name names at there e (λ same. differ (by (bytes_eq (session.port n) name) refl (same_place (session.port n) name names at there own e) same))
    where
      by : (b : Bool) → bytes_eq (session.port n) name ≡ b → eqb at there ≡ bytes_eq (session.port n) name → there ≡ at → session.port n ≡ name
      by true same places here = same_name (session.port n) name same
      by false apart places here = absurd (true≢false (sym (eq-eqb at there (sym here)) ∙ places ∙ apart))

  pub named : names_of (exchanged session n port).ports ≡ remove names at
  named = names_left session.ports (place_at session n) ∙ ap (remove (names_of session.ports)) at_place ∙ ap (λ (ns : List (List ℕ)). remove ns at) placed.same_names

  abbrev now : ℕ → List ℕ
  now m = if m == n then port else session.port m

  here_now : (m : ℕ) → m ≡ n → now m ≡ port
  here_now m same = ap (λ b. if b then port else session.port m) (eq-eqb m n same)

  else_now : (m : ℕ) → (m ≡ n → ⊥) → now m ≡ session.port m
  else_now m differ = ap (λ b. if b then port else session.port m) (ne_eqb m n differ)

  within : n < length places.streams.items
  within = (let less = slice_get_within core.nodes n item there in let count = placed.count in omega (arith, less, count))

  module _ (at_source : after.source ≡ place_without at places.source) (at_std_in : after.std_in ≡ place_without at places.std_in)
      (at_std_out : after.std_out ≡ place_without at places.std_out) (at_streams : after.streams.items ≡ map (place_without at) (slice_set places.streams.items n to)) where
    stream_place : (m : ℕ) (node : NodeC) (other : StreamC) → slice_get core.nodes m ≡ Some node → stream_of node ≡ Some other
        → (m ≡ n) ⊎ (m ≡ n → ⊥) → place_of (now m) (remove names at) ≡ Some (slice_index_or after.streams.items m 0)
    stream_place m node other here its (inl same) =
        ap (λ name. place_of name (remove names at)) (here_now m same)
        ∙ other_place port to found (free.no_stream n item stream there is)
        ∙ ap (λ k. Some k) (sym (ap (λ (xs : List ℕ). slice_index_or xs m 0) at_streams ∙ ap (λ k. slice_index_or (map (place_without at) (slice_set places.streams.items n to)) k 0) same
        ∙ set_there (place_without at) places.streams.items n to within))
    stream_place m node other here its (inr differ) =
        ap (λ name. place_of name (remove names at)) (else_now m differ)
        ∙ other_place (session.port m) (slice_index_or places.streams.items m 0) (placed.streams m node other here its)
        (λ same. differ (sym (placed.apart n m item node stream other there here is its same)))
        ∙ ap (λ k. Some k) (sym (ap (λ (xs : List ℕ). slice_index_or xs m 0) at_streams
        ∙ set_other (place_without at) (moved_zero at) places.streams.items n to m differ))

    free_at : (m : ℕ) (node : NodeC) (other : StreamC) → slice_get core.nodes m ≡ Some node → stream_of node ≡ Some other
        → (m ≡ n) ⊎ (m ≡ n → ⊥) → (now m ≡ source → ⊥) × (now m ≡ std_in → ⊥)
    free_at m node other here its (inl same) = (
      (λ e. free.no_source (sym (here_now m same) ∙ e)),
      (λ e. free.no_std_in (sym (here_now m same) ∙ e)),
    )
    free_at m node other here its (inr differ) = (
      (λ e. (placed.free m node other here its).0 (sym (else_now m differ) ∙ e)),
      (λ e. (placed.free m node other here its).1 (sym (else_now m differ) ∙ e)),
    )

    apart_at : (m k : ℕ) (node second : NodeC) (first last : StreamC) → slice_get core.nodes m ≡ Some node → slice_get core.nodes k ≡ Some second
        → stream_of node ≡ Some first → stream_of second ≡ Some last → (m ≡ n) ⊎ (m ≡ n → ⊥) → (k ≡ n) ⊎ (k ≡ n → ⊥) → now m ≡ now k → m ≡ k
    apart_at m k node second first last here over its are (inl same) (inl also) e = same ∙ sym also
    apart_at m k node second first last here over its are (inl same) (inr differ) e =
        absurd (free.no_stream k second last over are (sym (else_now k differ) ∙ sym e ∙ here_now m same))
    apart_at m k node second first last here over its are (inr differ) (inl also) e =
        absurd (free.no_stream m node first here its (sym (else_now m differ) ∙ e ∙ here_now k also))
    apart_at m k node second first last here over its are (inr differ) (inr apart) e =
        placed.apart m k node second first last here over its are (sym (else_now m differ) ∙ e ∙ else_now k apart)

    pub placed_now : ArePlaced core source (exchanged session n port) (remove names at) after
    placed_now = record {
      same_names = named;
      count = ap length at_streams ∙ length-map (slice_set places.streams.items n to) (place_without at) ∙ set_length places.streams.items n to ∙ placed.count;
      at_source = other_place source places.source placed.at_source (placed.free n item stream there is).0 ∙ ap (λ k. Some k) (sym at_source);
      at_std_in = other_place std_in places.std_in placed.at_std_in (placed.free n item stream there is).1 ∙ ap (λ k. Some k) (sym at_std_in);
      at_std_out = other_place std_out places.std_out placed.at_std_out free.no_std_out ∙ ap (λ k. Some k) (sym at_std_out);
      streams = λ m node other here its. stream_place m node other here its (same_or_other m n);
      free = λ m node other here its. free_at m node other here its (same_or_other m n);
      apart = λ m k node second first last here over its are. apart_at m k node second first last here over its are (same_or_other m n) (same_or_other k n);
    }
