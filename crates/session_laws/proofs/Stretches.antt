-- Ports by their places, over acts that were made, when a port has left, and when an act failed.
use Rattle.std.proofs.Common.{◌≡◌, ◌⊎◌, ℕ, zero, suc, ◌+◌, ◌-◌, eqb, nat_lt, Bool, true, false, cond, List, [], ◌∷◌, ◌++◌, length, Option, None, Some, refl, ap, sym, ◌∙◌, subst, arith, inl, inr, append-nil, length-append}
use Rattle.std.specs.Prelude.{slice_get, if◌then◌else◌, map}
use Rattle.std.specs.List.{remove}
use Rattle.std.specs.Option.{option_map}
use Rattle.std.specs.Str.{bytes_eq}
use Rattle.std.specs.Io.KnownBytes.{Appends}
use Rattle.std.proofs.lemmas.Bool.{eqb-true, lt-ltb}
use Rattle.std.proofs.lemmas.Option.{slice_get-map}
use Rattle.hume_ports.specs.Port.{PortView}
use Rattle.hume_ports.specs.Ports.{names}
use Rattle.hume_ports.specs.Delivery.{Delivered, EachPort, Pairs, bytes_for, without}
use Rattle.hume_ports.proofs.Names.{bytes_for-append, without-append}
use Rattle.port_acts.specs.Acts.{Act}
use Rattle.hume_console.specs.Courses.{Course, ends, leaves, first_do}
use Rattle.hume_console.specs.EachPort.{Stand, there, gone, behind_one, StandsAs, bytes_at}
use Rattle.hume_console.specs.Hands.{Hands, place_without}
use Rattle.hume_console.proofs.Leaving.{first_stays, shifted}
use Rattle.session_laws.specs.Faults.{left_since, stand_behind}

pub some_is : {X : Type 0} {x y : X} → Some x ≡ Some y → x ≡ y
some_is e = cc

-- what holds of each of two lists at a place

there_of : {X : Type 0} (f : PortView → X) (o : Option PortView) (x : X) → option_map f o ≡ Some x → (port : PortView) × (o ≡ Some port) × (f port ≡ x)
there_of f None x is = cc
there_of f (Some port) x is = (port, refl, some_is is)

pub same_at : {X : Type 0} (f : PortView → X) (olds news : List PortView) → map f news ≡ map f olds → (at : ℕ) (new : PortView) → slice_get news at ≡ Some new
    → (old : PortView) × (slice_get olds at ≡ Some old) × (f old ≡ f new)
same_at f olds news same at new is =
    there_of f (slice_get olds at) (f new)
    (sym (slice_get-map f olds at) ∙ ap (λ xs. slice_get xs at) (sym same) ∙ slice_get-map f news at ∙ ap (option_map f) is)

pub same_fact : {X : Type 0} (f : PortView → X) (olds news : List PortView) → map f news ≡ map f olds → (at : ℕ) (old new : PortView)
    → slice_get olds at ≡ Some old → slice_get news at ≡ Some new → f new ≡ f old
same_fact f olds news same at old new was is =
    some_is (sym (slice_get-map f news at ∙ ap (option_map f) is) ∙ ap (λ xs. slice_get xs at) same ∙ slice_get-map f olds at ∙ ap (option_map f) was)

-- a port that is left when another one is taken out

pub record IsLeft {X : Type 0} (xs : List X) (leaving at : ℕ) (x : X) : Type 0 where
  pub before : ℕ
  pub was : slice_get xs before ≡ Some x
  pub differs : leaving ≡ before → ⊥
  pub place : at ≡ place_without leaving before

pub left_from : {X : Type 0} (xs : List X) (leaving at : ℕ) (x : X) → slice_get (remove xs leaving) at ≡ Some x → IsLeft xs leaving at x
left_from [] zero at x is = cc
left_from [] (suc leaving) at x is = cc
left_from (y ∷ xs) zero at x is =
    let less : nat_lt 0 (suc at) ≡ true = lt-ltb 0 (suc at) (omega arith) in
    let one : at ≡ suc at - 1 = omega arith in
    record { before = suc at; was = is; differs = λ same. cc; place = one ∙ sym (ap (λ b. cond b (suc at - 1) (suc at)) less) }
left_from (y ∷ xs) (suc leaving) zero x is =
    record { before = 0; was = is; differs = λ same. cc; place = first_stays (nat_lt (suc leaving) 0) }
left_from (y ∷ xs) (suc leaving) (suc at) x is =
    let rest = left_from xs leaving at x is in
    record {
      before = suc rest.before;
      was = rest.was;
      differs = λ same. rest.differs (let less : leaving ≡ rest.before = cc in less);
      place = ap suc rest.place ∙ sym (shifted leaving rest.before);
    }

-- and the other way round
pub stays_there : {X : Type 0} (xs : List X) (leaving at : ℕ) (x : X) → (leaving ≡ at → ⊥) → slice_get xs at ≡ Some x
    → slice_get (remove xs leaving) (place_without leaving at) ≡ Some x
stays_there [] leaving at x differ e = cc
stays_there (y ∷ xs) zero zero x differ e = absurd (differ refl)
stays_there (y ∷ xs) zero (suc at) x differ e =
    let less : nat_lt 0 (suc at) ≡ true = lt-ltb 0 (suc at) (omega arith) in
    let place : at ≡ suc at - 1 = omega arith in
    ap (slice_get xs) (sym (place ∙ sym (ap (λ b. cond b (suc at - 1) (suc at)) less))) ∙ e
stays_there (y ∷ xs) (suc leaving) zero x differ e =
    ap (slice_get (y ∷ remove xs leaving)) (sym (first_stays (nat_lt (suc leaving) 0))) ∙ e
stays_there (y ∷ xs) (suc leaving) (suc at) x differ e =
    ap (slice_get (y ∷ remove xs leaving)) (shifted leaving at) ∙ stays_there xs leaving at x (λ same. differ (ap suc same)) e

names_removed : (ports : List PortView) (leaving : ℕ) → names (remove ports leaving) ≡ remove (names ports) leaving
names_removed [] zero = refl
names_removed [] (suc leaving) = refl
names_removed (port ∷ ports) zero = refl
names_removed (port ∷ ports) (suc leaving) = ap (λ ns. port.name ∷ ns) (names_removed ports leaving)

pub names_without : (ports left : List PortView) (leaving : ℕ) → left ≡ remove ports leaving → names left ≡ remove (names ports) leaving
names_without ports left leaving e = ap names e ∙ names_removed ports leaving

-- the last of several
pub last_there : {X : Type 0} (xs : List X) (x : X) → slice_get (xs ++ x ∷ []) (length xs) ≡ Some x
last_there [] x = refl
last_there (y ∷ xs) x = last_there xs x

pub more_there : {X : Type 0} (xs ys : List X) (at : ℕ) (x : X) → slice_get xs at ≡ Some x → slice_get (xs ++ ys) at ≡ Some x
more_there [] ys at x is = cc
more_there (y ∷ xs) ys zero x is = is
more_there (y ∷ xs) ys (suc at) x is = more_there xs ys at x is

-- the bytes that go to a port

pub bytes_append : (at : ℕ) (ns : List (List ℕ)) (ps qs : Pairs) → bytes_at at ns (ps ++ qs) ≡ bytes_at at ns ps ++ bytes_at at ns qs
bytes_append at [] ps qs = refl
bytes_append zero (name ∷ ns) ps qs = bytes_for-append name ps qs
bytes_append (suc at) (name ∷ ns) ps qs = ap (bytes_at at ns) (without-append name ps qs) ∙ bytes_append at ns (without name ps) (without name qs)

pub none_at : (at : ℕ) (ns : List (List ℕ)) → bytes_at at ns [] ≡ []
none_at at [] = refl
none_at zero (name ∷ ns) = refl
none_at (suc at) (name ∷ ns) = none_at at ns

-- of one pair the port at a place has all bytes, or none
abbrev pub HasAllOrNone : ℕ → List (List ℕ) → List ℕ → Type 0
HasAllOrNone at ns name =
    ((bytes : List ℕ) → bytes_at at ns ((name, bytes) ∷ []) ≡ bytes) ⊎ ((bytes : List ℕ) → bytes_at at ns ((name, bytes) ∷ []) ≡ [])

pub all_or_none : (at : ℕ) (ns : List (List ℕ)) (name : List ℕ) → HasAllOrNone at ns name
all_or_none at [] name = inr (λ bytes. refl)
all_or_none zero (first ∷ ns) name = by (bytes_eq first name) refl
  where
    by : (b : Bool) → bytes_eq first name ≡ b → HasAllOrNone zero (first ∷ ns) name
    by true is = inl (λ bytes. ap (λ b. if b then bytes ++ [] else []) is ∙ append-nil bytes)
    by false is = inr (λ bytes. ap (λ b. if b then bytes ++ [] else []) is)
all_or_none (suc at) (first ∷ ns) name = by (bytes_eq first name) refl (all_or_none at ns name)
  where
    by : (b : Bool) → bytes_eq first name ≡ b → HasAllOrNone at ns name → HasAllOrNone (suc at) (first ∷ ns) name
    by true is rest = inr (λ bytes. ap (λ b. bytes_at at ns (if b then [] else (name, bytes) ∷ [])) is ∙ none_at at ns)
    by false is (inl own) = inl (λ bytes. ap (λ b. bytes_at at ns (if b then [] else (name, bytes) ∷ [])) is ∙ own bytes)
    by false is (inr other) = inr (λ bytes. ap (λ b. bytes_at at ns (if b then [] else (name, bytes) ∷ [])) is ∙ other bytes)

-- each port has moved by the bytes that go to it
pub moved_at : (moves : PortView → PortView → List ℕ → Type 0) (olds news : List PortView) (pairs : Pairs) (at : ℕ) (old : PortView)
    → EachPort moves olds news pairs → slice_get olds at ≡ Some old
    → (new : PortView) × (slice_get news at ≡ Some new) × moves old new (bytes_at at (names olds) pairs)
moved_at moves [] news pairs at old d e = cc
moved_at moves (first ∷ olds) [] pairs at old d e = absurd d
moved_at moves (first ∷ olds) (new ∷ news) pairs zero old d e =
    let same : first ≡ old = cc in
    (new, refl, subst (λ (port : PortView). moves port new (bytes_for first.name pairs)) same d.0)
moved_at moves (first ∷ olds) (new ∷ news) pairs (suc at) old d e = moved_at moves olds news (without first.name pairs) at old d.1 e

pub delivered_at : (olds news : List PortView) (pairs : Pairs) (at : ℕ) (old : PortView) → Delivered olds news pairs → slice_get olds at ≡ Some old
    → (new : PortView) × (slice_get news at ≡ Some new) × Appends old.bytes new.bytes (bytes_at at (names olds) pairs)
delivered_at olds news pairs at old d e = moved_at (λ old new bytes. Appends old.bytes new.bytes bytes) olds news pairs at old d e

-- where a port stands

pub not_it : (leaving at : ℕ) → (leaving ≡ at → ⊥) → (b : Bool) → eqb leaving at ≡ b → b ≡ false
not_it leaving at differs true it = absurd (differs (eqb-true leaving at it))
not_it leaving at differs false it = refl

-- one more port has left
pub one_more : (old mid left new : Hands) (port : PortView) (more : List PortView) → mid.gone ≡ old.gone → left.gone ≡ mid.gone ++ port ∷ []
    → new.gone ≡ left.gone ++ more → left_since old new ≡ suc (left_since left new)
one_more old mid left new port more stay goes on =
    let first = ap (λ (ports : List PortView). length ports) stay in
    let second = ap (λ (ports : List PortView). length ports) goes ∙ length-append mid.gone (port ∷ []) in
    let third = ap (λ (ports : List PortView). length ports) on ∙ length-append left.gone more in
    omega (arith, first, second, third)

pub none_left : (old new : Hands) → new.gone ≡ old.gone → left_since old new ≡ 0
none_left old new stay = let same = ap (λ (ports : List PortView). length ports) stay in omega (arith, same)

pub stands_on : (stand : Stand) (old left new : Hands) (port : PortView) → length left.gone ≡ length old.gone + 1 → StandsAs stand left new port
    → StandsAs (behind_one stand) old new port
stands_on (there at) old left new port many is = is
stands_on (gone at) old left new port many is =
    let place : length left.gone + at ≡ length old.gone + (at + 1) = omega (arith, many) in
    subst (λ (k : ℕ). slice_get new.gone k ≡ Some port) place is

-- reads that come first change no place
pub stand_first : (acts : List Act) (course : Course) (left at : ℕ) → stand_behind (first_do acts course) left at ≡ stand_behind course left at
stand_first acts (ends bound others answer) left at = refl
stand_first acts (leaves bound others leaving later) zero at = refl
stand_first acts (leaves bound others leaving later) (suc left) at = refl
