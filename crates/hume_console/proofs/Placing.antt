-- Places of ports and their names.
use Rattle.std.proofs.Common.{◌≡◌, ℕ, zero, suc, not, nat_lt, cond, ◌+◌, ◌<◌, eqb, Bool, true, false, ◌&&◌, ◌||◌, List, [], ◌∷◌, ◌++◌, ◌≤◌, length, map, take, drop, get_or, append-nil, refl, ap, sym, ◌∙◌, arith, inl, inr, Option, None, Some}
use Rattle.std.specs.Prelude.{slice_get, slice_index_or}
use Rattle.std.specs.List.{list_any, position, position_or_len, range_with_len}
use Rattle.std.specs.Str.{bytes_eq}
use Rattle.std.proofs.lemmas.Bool.{true≢false, cases_Bool, eqb-true, eq-eqb, ltb-true}
use Rattle.std.proofs.Math.ListN.{set}
use Rattle.std.proofs.lemmas.List.{take_all, drop_all}
use Rattle.std.proofs.lemmas.List.Folds.{list_any-append, list_any_at}
use Rattle.std.proofs.lemmas.List.FromFn.{length-range_with_len, get_or-range_with_len}
use Rattle.hume_model.specs.declared.core_tree.NodeC.{NodeC}
use Rattle.hume_model.specs.declared.core_tree.NodeC.TheVariants.{Rules, From, To}
use Rattle.hume_model.specs.declared.core_tree.StreamC.{StreamC}
use Rattle.hume_model.specs.declared.core_tree.Core.{Core}
use Rattle.hume_ports.specs.Ports.{place_of}
use Rattle.hume_ports.proofs.Names.{same_name, bytes_eq-self}
use Rattle.hume_calls.proofs.FitPorts.{found_place}
use Rattle.run_rounds.specs.Streams.{std_out, stream_of}
use Rattle.hume_console.specs.declared.places.Places.{Places}
use Rattle.hume_console.specs.Words.{std_in}
use Rattle.hume_console.specs.Session.{Session, has_port, is_taken, may_exchange, names_of}
use Rattle.hume_console.specs.inner.Placed.{ArePlaced, is_stream_at, stands_at, stands_own}

-- two names mean one place if and only if they are one name
pub same_place : (a b : List ℕ) (names : List (List ℕ)) (at to : ℕ) → place_of a names ≡ Some at → place_of b names ≡ Some to
    → eqb at to ≡ bytes_eq a b
same_place a b names at to e f = elim (cases_Bool (bytes_eq a b)) [
  | inl is ↦
      let same : at ≡ to = let joined : Some at ≡ Some to = sym e ∙ ap (λ n. place_of n names) (same_name a b is) ∙ f in cc in
      eq-eqb at to same ∙ sym is
  | inr isnt ↦ elim (cases_Bool (eqb at to)) [
    | inl there ↦
        let same : at ≡ to = eqb-true at to there in
        let named : a ≡ b = sym (found_place a names at e).named ∙ rw same ((found_place b names to f).named) in
        absurd (true≢false (sym (bytes_eq-self b) ∙ ap (λ n. bytes_eq n b) (sym named) ∙ isnt))
    | inr apart ↦ apart ∙ sym isnt
  ]
]

-- one number more
range_more : (from count number : ℕ) → from + count ≡ number → range_with_len from (suc count) ≡ range_with_len from count ++ number ∷ []
range_more from zero number is = let same : from ≡ number = omega (arith, is) in ap (λ n. n ∷ []) same
range_more from (suc count) number is = ap (λ later. from ∷ later) (range_more (from + 1) count number (omega (arith, is)))

-- none of the numbers passes, and neither does the next
pub none_more : (test : ℕ → Bool) (count : ℕ) → list_any test (range_with_len 0 count) ≡ false → test count ≡ false
    → list_any test (range_with_len 0 (count + 1)) ≡ false
none_more test count none next =
    let more : count + 1 ≡ suc count = omega arith in
    ap (λ k. list_any test (range_with_len 0 k)) more
    ∙ ap (list_any test) (range_more 0 count count (omega arith)) ∙ list_any-append test (range_with_len 0 count) (count ∷ []) ∙ rw (none, next) refl

-- one of the numbers passes
pub one_passes : (test : ℕ → Bool) (count n : ℕ) → n < count → test n ≡ true → list_any test (range_with_len 0 count) ≡ true
one_passes test count n within passes =
    let there : get_or (range_with_len 0 count) n 0 ≡ n = get_or-range_with_len 0 count n 0 within ∙ omega arith in
    list_any_at test (range_with_len 0 count) n 0 (omega (arith, within, length-range_with_len 0 count)) (ap test there ∙ passes)

-- tests that agree on each number agree on all
any_same : (test other : ℕ → Bool) (numbers : List ℕ) → ((n : ℕ) → test n ≡ other n) → list_any test numbers ≡ list_any other numbers
any_same test other [] same = refl
any_same test other (n ∷ numbers) same = rw (same n, any_same test other numbers same) refl

and_false : (b : Bool) → (b && false) ≡ false
and_false true = refl
and_false false = refl

and_true : (b : Bool) → (b && true) ≡ b
and_true true = refl
and_true false = refl

-- three tests in turn, and something more
own_same : (a b c x y z d : Bool) → a ≡ x → b ≡ y → c ≡ z → ((a || (b || c)) || d) ≡ ((x || (y || (z || false))) || d)
own_same a b c x y z d one two three = rw (one, two, three) (joined x y z d)
  where
    joined : (x y z d : Bool) → ((x || (y || z)) || d) ≡ ((x || (y || (z || false))) || d)
    joined true y z d = refl
    joined false true z d = refl
    joined false false true d = refl
    joined false false false d = refl

-- a node is a stream with the port if and only if its port stands there
node_same : (core : Core) (source : List ℕ) (session : Session) (names : List (List ℕ)) (places : Places) (port : List ℕ) (at : ℕ)
    → ArePlaced core source session names places → place_of port names ≡ Some at → (n : ℕ) (found : Option NodeC) → slice_get core.nodes n ≡ found
    → (eqb (slice_index_or places.streams.items n 0) at && is_stream_at found) ≡ has_port port session n found
node_same core source session names places port at placed e n None is = and_false (eqb (slice_index_or places.streams.items n 0) at)
node_same core source session names places port at placed e n (Some (Rules b)) is = and_false (eqb (slice_index_or places.streams.items n 0) at)
node_same core source session names places port at placed e n (Some (From stream)) is =
    and_true (eqb (slice_index_or places.streams.items n 0) at)
    ∙ same_place (session.port n) port names (slice_index_or places.streams.items n 0) at (placed.streams n (From stream) stream is refl) e
node_same core source session names places port at placed e n (Some (To stream)) is =
    and_true (eqb (slice_index_or places.streams.items n 0) at)
    ∙ same_place (session.port n) port names (slice_index_or places.streams.items n 0) at (placed.streams n (To stream) stream is refl) e

-- a port is taken if and only if one of those ports, or a stream's, stands at its place
pub stands_taken : (core : Core) (source : List ℕ) (session : Session) (names : List (List ℕ)) (places : Places) (port : List ℕ) (at : ℕ)
    → ArePlaced core source session names places → place_of port names ≡ Some at
    → (stands_own places at || list_any (stands_at core places.streams.items at) (range_with_len 0 (length places.streams.items)))
    ≡ is_taken core source session port
stands_taken core source session names places port at placed e =
    let streams = any_same (stands_at core places.streams.items at) (λ n. has_port port session n (slice_get core.nodes n))
    (range_with_len 0 (length places.streams.items)) (λ n. node_same core source session names places port at placed e n (slice_get core.nodes n) refl) in
    let numbers : range_with_len 0 (length places.streams.items) ≡ range_with_len 0 (length core.nodes) = ap (range_with_len 0) placed.count in
    let all : list_any (stands_at core places.streams.items at) (range_with_len 0 (length places.streams.items))
    ≡ list_any (λ n. has_port port session n (slice_get core.nodes n)) (range_with_len 0 (length core.nodes)) =
    streams ∙ ap (list_any (λ n. has_port port session n (slice_get core.nodes n))) numbers in
    let one = same_place port source names at places.source e placed.at_source in
    let two = same_place port std_in names at places.std_in e placed.at_std_in in
    let three = same_place port std_out names at places.std_out e placed.at_std_out in
    ap (λ b. stands_own places at || b) all
    ∙ own_same (eqb at places.source) (eqb at places.std_in) (eqb at places.std_out) (bytes_eq port source) (bytes_eq port std_in) (bytes_eq port std_out)
    (list_any (λ n. has_port port session n (slice_get core.nodes n)) (range_with_len 0 (length core.nodes))) one two three

-- the answer where one of those ports stands there, and where none does
pub own_taken : (core : Core) (source : List ℕ) (session : Session) (names : List (List ℕ)) (places : Places) (port : List ℕ) (at : ℕ)
    → stands_own places at ≡ true → ArePlaced core source session names places → place_of port names ≡ Some at → true ≡ is_taken core source session port
own_taken core source session names places port at own placed e =
    let streams = list_any (stands_at core places.streams.items at) (range_with_len 0 (length places.streams.items)) in
    sym (ap (λ b. b || streams) own) ∙ stands_taken core source session names places port at placed e

pub others_taken : (core : Core) (source : List ℕ) (session : Session) (names : List (List ℕ)) (places : Places) (port : List ℕ) (at : ℕ) (answer : Bool)
    → stands_own places at ≡ false → answer ≡ list_any (stands_at core places.streams.items at) (range_with_len 0 (length places.streams.items))
    → ArePlaced core source session names places → place_of port names ≡ Some at → answer ≡ is_taken core source session port
others_taken core source session names places port at answer own is placed e =
    let streams = list_any (stands_at core places.streams.items at) (range_with_len 0 (length places.streams.items)) in
    is ∙ sym (ap (λ b. b || streams) own) ∙ stands_taken core source session names places port at placed e

-- whether a stream may give up its port for another, by the places
pub may_by : (core : Core) (source : List ℕ) (session : Session) (names : List (List ℕ)) (places : Places) (port : List ℕ) (node to : ℕ) (item : NodeC) (stream : StreamC)
    → ArePlaced core source session names places → slice_get core.nodes node ≡ Some item → stream_of item ≡ Some stream → place_of port names ≡ Some to
    → may_exchange core source session node port ≡ not (eqb (slice_index_or places.streams.items node 0) places.std_out || is_taken core source session port)
may_by core source session names places port node to item stream placed there is e =
    let out = same_place (session.port node) std_out names (slice_index_or places.streams.items node 0) places.std_out (placed.streams node item stream there is) placed.at_std_out in
    let found : place_of port (names_of session.ports) ≡ Some to = ap (place_of port) placed.same_names ∙ e in
    rw (out, found) refl

-- the first of a list that passes

pub some_within : (n count at : ℕ) → cond (nat_lt n count) (Some n) None ≡ Some at → (n ≡ at) × (n < count)
some_within n count at is = by (nat_lt n count) refl is
  where
    by : (b : Bool) → nat_lt n count ≡ b → cond b (Some n) None ≡ Some at → (n ≡ at) × (n < count)
    by true below some = ((let same : n ≡ at = cc in same), ltb-true n count below)
    by false below some = cc

pub position_within : {X : Type 0} (test : X → Bool) (xs : List X) (at : ℕ) → position test xs ≡ Some at → at < length xs
position_within test xs at is = let both = some_within (position_or_len test xs) (length xs) at is in rw (← both.0) both.1

pub ruleset any_steps = (none_more, one_passes)

-- places of which the first ones are moved

abbrev pub IsMoved : (ℕ → ℕ) → ℕ → List ℕ → List ℕ → Type 0
IsMoved f count old now = now ≡ map f (take count old) ++ drop count old

next_moved : (f : ℕ → ℕ) (i : ℕ) (old : List ℕ) (d : ℕ) → i < length old
    → set (map f (take i old) ++ drop i old) i (f (get_or (map f (take i old) ++ drop i old) i d)) ≡ map f (take (suc i) old) ++ drop (suc i) old
next_moved f zero [] d less = absurd (omega (arith, less))
next_moved f zero (x ∷ old) d less = refl
next_moved f (suc i) [] d less = absurd (omega (arith, less))
next_moved f (suc i) (x ∷ old) d less = ap (λ (later : List ℕ). f x ∷ later) (next_moved f i old d (omega (arith, less)))

moved_long : (f : ℕ → ℕ) (i : ℕ) (old : List ℕ) → length (map f (take i old) ++ drop i old) ≡ length old
moved_long f zero old = refl
moved_long f (suc i) [] = refl
moved_long f (suc i) (x ∷ old) = ap suc (moved_long f i old)

pub one_moved : (f : ℕ → ℕ) (i : ℕ) (old now : List ℕ) (d new : ℕ) → IsMoved f i old now → i < length now → new ≡ f (get_or now i d)
    → IsMoved f (i + 1) old (set now i new)
one_moved f i old now d new is less is_new =
    let long : length now ≡ length old = ap length is ∙ moved_long f i old in
    let more : suc i ≡ i + 1 = omega arith in
    ap (set now i) is_new ∙ ap (λ (xs : List ℕ). set xs i (f (get_or xs i d))) is ∙ next_moved f i old d (omega (arith, less, long))
    ∙ ap (λ k. map f (take k old) ++ drop k old) more

pub every_moved : (f : ℕ → ℕ) (i : ℕ) (old now : List ℕ) → IsMoved f i old now → length now ≤ i → now ≡ map f old
every_moved f i old now is past =
    let long : length now ≡ length old = ap length is ∙ moved_long f i old in
    is ∙ ap (λ (front : List ℕ). map f front ++ drop i old) (take_all i old (omega (arith, past, long)))
    ∙ ap (λ (rest : List ℕ). map f old ++ rest) (drop_all i old (omega (arith, past, long))) ∙ append-nil (map f old)
