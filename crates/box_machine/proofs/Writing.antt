-- How words that are written one behind another come to the flat words of what stands in a heap.
use Rattle.std.proofs.Common.{◌≡◌, ℕ, zero, suc, ◌+◌, ◌-◌, ◌<◌, ◌≤◌, List, [], ◌∷◌, ◌++◌, map, take, length, get_or, replicate, Option, Some, None, if◌then◌else◌, slice_get, append_assoc, append-nil, length-append, refl, ap, sym, ◌∙◌, subst, arith, inl, inr}
use Rattle.std.specs.Option.{option_map, option_and_then}
use Rattle.std.proofs.lemmas.Bool.{cases_eq, eq-eqb, ne_eqb}
use Rattle.std.proofs.lemmas.List.{length-replicate, take_all}
use Rattle.std.proofs.lemmas.Option.{slice_get_within}
use Rattle.hume_base.specs.declared.types.Ty.{Ty, roll-Ty, map-Ty, fold-roll-Ty}
use Rattle.hume_base.specs.declared.types.Ty.TheOpen.{Ty-F}
use Rattle.hume_base.specs.declared.types.Ty.TheVariants as shape
use Rattle.hume_base.specs.declared.types.Types.{Types}
use Rattle.hume_base.specs.declared.types.SumDef.{SumDef}
use Rattle.hume_base.specs.Sizes.{size_of_sum, named_size, HaveTheirSizes}
use Rattle.hume_base.specs.Values.{fields_at}
use Rattle.hume_base.specs.Flat.{padded}
use Rattle.hume_model.specs.Reading.{HaveReadableSizes}
use Rattle.box_heap.specs.Heaps.{Object, object_at}
use Rattle.box_code.specs.FlatObjects.{Flattening, both_words, joined_words, item_words, flat_at_with, flat_at_step, object_words, flat_at_sum, named_at}
use Rattle.box_machine.specs.inner.Written.{AreWritten, HaveExactSizes, HaveRoomAt, IsWritten, con_at, flat_below}

-- words behind words

pub written_more : (old mid new : List ℕ) (at place end : ℕ) (first second : List ℕ) → IsWritten old at first mid place → IsWritten mid place second new end
    → IsWritten old at (first ++ second) new end
written_more old mid new at place end first second one two = record {
  front = two.front ∙ ap (λ words. words ++ second) one.front ∙ append_assoc (take at old) first second;
  place = omega (arith, one.place, two.place, length-append first second);
  room = two.room ∙ one.room;
}

-- the words up to a part, those of the part, and those with them, where all the words are these
pub record Piece (front own next : Option (List ℕ)) (ws : List ℕ) : Type 0 where
  pub before : List ℕ
  pub mid : List ℕ
  pub after : List ℕ
  pub front_is : front ≡ Some before
  pub own_is : own ≡ Some mid
  pub next_is : next ≡ Some (before ++ mid)
  pub all : ws ≡ before ++ (mid ++ after)

module _ (front own next : Option (List ℕ)) (ws : List ℕ) (piece : Piece front own next ws) (old into : List ℕ) (at end : ℕ)
    (written : AreWritten front old at into end) where
  pub piece_room : at + length ws ≤ length old → HaveRoomAt own end (length into)
  piece_room room =
      let so_far = written piece.before piece.front_is in
      let long : length ws ≡ length piece.before + (length piece.mid + length piece.after) =
      ap (λ words. length words) piece.all ∙ length-append piece.before (piece.mid ++ piece.after)
      ∙ ap (λ n. length piece.before + n) (length-append piece.mid piece.after) in
      record { words = piece.mid; is = piece.own_is; fits = omega (arith, so_far.place, so_far.room, room, long) }

  pub piece_written : (into' : List ℕ) (end' : ℕ) → AreWritten own into end into' end' → AreWritten next old at into' end'
  piece_written into' end' then_written words is =
      let same : piece.before ++ piece.mid ≡ words = let e : ◌≡◌ {A = Option (List ℕ)} (Some (piece.before ++ piece.mid)) (Some words) = sym piece.next_is
      ∙ is in cc in
      subst (λ ws. IsWritten old at ws into' end') same
      (written_more old into into' at end end' piece.before piece.mid (written piece.before piece.front_is) (then_written piece.mid piece.own_is))

both_there : (a b : Option (List ℕ)) (ws : List ℕ) → both_words a b ≡ Some ws → (u : List ℕ) × (v : List ℕ) × (a ≡ Some u) × (b ≡ Some v) × (ws ≡ u ++ v)
both_there None b ws is = cc
both_there (Some u) None ws is = cc
both_there (Some u) (Some v) ws is = (
  u,
  v,
  refl,
  refl,
  let e : ◌≡◌ {A = Option (List ℕ)} (Some (u ++ v))
      (Some ws) = is in let same : u ++ v ≡ ws = cc in sym same,
)

both_are : (a b : Option (List ℕ)) (u v : List ℕ) → a ≡ Some u → b ≡ Some v → both_words a b ≡ Some (u ++ v)
both_are a b u v one two = (λ i. both_words (one i) (two i))

-- of the first part
first_piece : (own rest : Option (List ℕ)) (ws u v : List ℕ) → own ≡ Some u → rest ≡ Some v → ws ≡ u ++ v → Piece (Some []) own (both_words own (Some [])) ws
first_piece own rest ws u v one two all = record {
  before = [];
  mid = u;
  after = v;
  front_is = refl;
  own_is = one;
  next_is = both_are own (Some []) u [] one refl ∙ ap Some (append-nil u);
  all = all;
}

-- of a part behind the first one
later_piece : (head front own next : Option (List ℕ)) (ws u v : List ℕ) → head ≡ Some u → ws ≡ u ++ v → Piece front own next v
    → Piece (both_words head front) own (both_words head next) ws
later_piece head front own next ws u v one all piece = record {
  before = u ++ piece.before;
  mid = piece.mid;
  after = piece.after;
  front_is = both_are head front u piece.before one piece.front_is;
  own_is = piece.own_is;
  next_is = both_are head next u (piece.before ++ piece.mid) one piece.next_is ∙ ap Some (sym (append_assoc u piece.before piece.mid));
  all = all ∙ ap (λ ws. u ++ ws) piece.all ∙ sym (append_assoc u piece.before (piece.mid ++ piece.after));
}

pub part_field : (f : Ty → Flattening) (tys : List Ty) (fields ws : List ℕ) (i : ℕ) → joined_words (map f tys) fields ≡ Some ws → i < length tys
    → (field : ℕ) × (slice_get fields i ≡ Some field)
part_field f [] fields ws i is less = absurd (omega arith)
part_field f (ty ∷ tys) [] ws i is less = cc
part_field f (ty ∷ tys) (x ∷ xs) ws zero is less = (x, refl)
part_field f (ty ∷ tys) (x ∷ xs) ws (suc i) is less =
    let both = both_there (f ty x) (joined_words (map f tys) xs) ws is in
    part_field f tys xs both.1 i both.3 (omega (arith, less))

pub part_piece : (f : Ty → Flattening) (tys : List Ty) (fields ws : List ℕ) (i : ℕ) (d : Ty) (field : ℕ) → joined_words (map f tys) fields ≡ Some ws
    → i < length tys
    → slice_get fields i ≡ Some field
    → Piece (joined_words (map f (take i tys)) (take i fields)) (f (get_or tys i d) field) (joined_words (map f (take (suc i) tys)) (take (suc i) fields)) ws
part_piece f [] fields ws i d field is less there = absurd (omega arith)
part_piece f (ty ∷ tys) [] ws i d field is less there = cc
part_piece f (ty ∷ tys) (x ∷ xs) ws zero d field is less there =
    let both = both_there (f ty x) (joined_words (map f tys) xs) ws is in
    let same : x ≡ field = cc in
    subst (λ k. Piece (Some []) (f ty k) (both_words (f ty x) (Some [])) ws) same (first_piece (f ty x) (joined_words
    (map f tys) xs) ws both.0 both.1 both.2 both.3 both.4)
part_piece f (ty ∷ tys) (x ∷ xs) ws (suc i) d field is less there =
    let both = both_there (f ty x) (joined_words (map f tys) xs) ws is in
    later_piece (f ty x) (joined_words (map f (take i tys)) (take i xs)) (f (get_or tys i d) field) (joined_words (map f (take (suc i) tys)) (take
    (suc i) xs)) ws both.0 both.1 both.2 both.4
    (part_piece f tys xs both.1 i d field both.3 (omega (arith, less)) there)

pub item_piece : (f : Flattening) (fields ws : List ℕ) (i field : ℕ) → item_words f fields ≡ Some ws → slice_get fields i ≡ Some field
    → Piece (item_words f (take i fields)) (f field) (item_words f (take (suc i) fields)) ws
item_piece f [] ws i field is there = cc
item_piece f (x ∷ xs) ws zero field is there =
    let both = both_there (f x) (item_words f xs) ws is in
    let same : x ≡ field = cc in
    subst (λ k. Piece (Some []) (f k) (both_words (f x) (Some [])) ws) same (first_piece (f x) (item_words f xs) ws both.0 both.1 both.2 both.3 both.4)
item_piece f (x ∷ xs) ws (suc i) field is there =
    let both = both_there (f x) (item_words f xs) ws is in
    later_piece (f x) (item_words f (take i xs)) (f field) (item_words f (take (suc i) xs)) ws both.0 both.1 both.2 both.4
    (item_piece f xs both.1 i field both.3 there)

-- all parts are the first ones up to as many

pub parts_whole : (f : Ty → Flattening) (tys : List Ty) (fields ws : List ℕ) (i : ℕ) → length tys ≤ i → joined_words (map f tys) fields ≡ Some ws
    → joined_words (map f (take i tys)) (take i fields) ≡ Some ws
parts_whole f [] fields ws zero done is = is
parts_whole f [] fields ws (suc i) done is = is
parts_whole f (ty ∷ tys) fields ws zero done is = absurd (omega arith)
parts_whole f (ty ∷ tys) [] ws (suc i) done is = cc
parts_whole f (ty ∷ tys) (x ∷ xs) ws (suc i) done is =
    let both = both_there (f ty x) (joined_words (map f tys) xs) ws is in
    both_are (f ty x) (joined_words (map f (take i tys)) (take i xs)) both.0 both.1 both.2 (parts_whole f tys xs both.1 i (omega (arith, done)) both.3)
    ∙ ap Some (sym both.4)

-- what stands at a place

pub object_there : (o : Option Object) (go : Object → Option (List ℕ)) (ws : List ℕ) → option_and_then go o ≡ Some ws
    → (object : Object) × (o ≡ Some object) × (go object ≡ Some ws)
object_there None go ws is = cc
object_there (Some object) go ws is = (object, refl, is)

-- by one level of a type

pub form : (objects : List Object) (named : ℕ → Flattening) (ty : Ty) (x : Ty-F Ty) (word : ℕ) → roll-Ty x ≡ ty
    → flat_at_with objects named ty word ≡ flat_at_step objects named (map-Ty Ty Flattening (flat_at_with objects named) x) word
form objects named ty x word rolls =
    ap (λ (t : Ty). flat_at_with objects named t word) (sym rolls) ∙ ap (λ (f : Flattening). f word) (fold-roll-Ty Flattening (flat_at_step objects named) x)

module _ (objects : List Object) (named : ℕ → Flattening) (word : ℕ) where
  pub flat_bool : flat_at_with objects named shape.Bool word ≡ Some (word ∷ [])
  flat_bool = form objects named shape.Bool Ty-F.Bool word shape.rolls-Bool

  pub flat_char : flat_at_with objects named shape.Char word ≡ Some (word ∷ [])
  flat_char = form objects named shape.Char Ty-F.Char word shape.rolls-Char

  pub flat_int : (bits : ℕ) → flat_at_with objects named (shape.Int bits) word ≡ Some (word ∷ [])
  flat_int bits = form objects named (shape.Int bits) (Ty-F.Int bits) word (shape.rolls-Int bits)

  pub flat_nat : (bits : ℕ) → flat_at_with objects named (shape.Nat bits) word ≡ Some (word ∷ [])
  flat_nat bits = form objects named (shape.Nat bits) (Ty-F.Nat bits) word (shape.rolls-Nat bits)

-- of data

pub named_there : (types : Types) (objects : List Object) (bound number place : ℕ) (ws : List ℕ) → named_at types objects bound number place ≡ Some ws
    → number < bound
unfolding named_at
named_there types objects zero number place ws is = cc
named_there types objects (suc bound) number place ws is = elim (cases_eq number bound) [
  | inl same ↦ omega (arith, same)
  | inr other ↦ (
      let later : named_at types objects bound number place ≡ Some ws = subst (λ b. (if b then flat_at_sum (flat_below types bound objects) (size_of_sum
      (named_size types bound) (slice_get types.sums bound)) (slice_get types.sums bound)
      (object_at objects place) else named_at types objects bound number place) ≡ Some ws) (ne_eqb number bound other) is in
      let less = named_there types objects bound number place ws later in omega (arith, less))
]

-- the words of a data type's values, if there is such a data type
abbrev own_words : Types → List Object → ℕ → ℕ → Option SumDef → Option (List ℕ)
own_words types objects number place sum = flat_at_sum (flat_below types number objects) (size_of_sum (named_size types number) sum) sum
    (object_at objects place)

named_own : (types : Types) (objects : List Object) (bound number place : ℕ) → number < bound
    → named_at types objects bound number place ≡ own_words types objects number place (slice_get types.sums number)
unfolding named_at
named_own types objects zero number place below = absurd (omega arith)
named_own types objects (suc bound) number place below = elim (cases_eq number bound) [
  | inl same ↦ rw (eq-eqb number bound same) (ap (λ k. own_words types objects k place (slice_get types.sums k)) (sym same))
  | inr other ↦ rw (ne_eqb number bound other) (named_own types objects bound number place (omega arith))
]

padded_con : (words : Ty → Flattening) (size : ℕ) (sum : SumDef) (o : Option Object)
    → option_and_then (object_words words size sum) o
    ≡ option_map (padded size) (option_and_then (λ (object : Object). option_map (λ fields. object.0 ∷ fields) (joined_words (map words
    (fields_at sum object.0)) object.1)) o)
padded_con words size sum None = refl
padded_con words size sum (Some object) = go (joined_words (map words (fields_at sum object.0)) object.1)
  where
    go : (o : Option (List ℕ)) → option_map (λ fields. padded size (object.0 ∷ fields)) o ≡ option_map (padded size) (option_map
        (λ fields. object.0 ∷ fields) o)
    go None = refl
    go (Some fields) = refl

size-at : (types : Types) (bound number : ℕ) → number < bound
    → named_size types bound number ≡ size_of_sum (named_size types number) (slice_get types.sums number)
unfolding named_size
size-at types zero number below = absurd (omega arith)
size-at types (suc bound) number below = elim (cases_eq number bound) [
  | inl same ↦ rw (eq-eqb number bound same) (ap (λ k. size_of_sum (named_size types k) (slice_get types.sums k)) (sym same))
  | inr other ↦ rw (ne_eqb number bound other) (size-at types bound number (omega arith))
]

pub named_none : (types : Types) (objects : List Object) (bound number place : ℕ) (ws : List ℕ) → slice_get types.sums number ≡ None
    → named_at types objects bound number place ≡ Some ws → ⊥
named_none types objects bound number place ws none is =
    let e : ◌≡◌ {A = Option (List ℕ)} None (Some ws) = sym (named_own types objects bound number place (named_there types objects bound number place ws is)
    ∙ ap (own_words types objects number place) none) ∙ is in
    cc

pub named_some : (types : Types) (objects : List Object) (bound number place : ℕ) (sum : SumDef) (ws : List ℕ) → HaveExactSizes types
    → slice_get types.sums number ≡ Some sum
    → named_at types objects bound number place ≡ Some ws
    → option_map (padded sum.words) (con_at objects (flat_below types number objects) sum place) ≡ Some ws
named_some types objects bound number place sum ws exact found is =
    let within : number < length types.sums = slice_get_within types.sums number sum found in
    let size : sum.words ≡ size_of_sum (named_size types number) (Some sum) =
    exact number sum found ∙ size-at types (length types.sums) number within ∙ ap (size_of_sum (named_size types number)) found in
    ap (λ n. option_map (padded n) (con_at objects (flat_below types number objects) sum place)) size
    ∙ sym (padded_con (flat_below types number objects) (size_of_sum (named_size types number) (Some sum)) sum (object_at objects place))
    ∙ sym (named_own types objects bound number place (named_there types objects bound number place ws is)
    ∙ ap (own_words types objects number place) found) ∙ is

some_padded : (size : ℕ) (o : Option (List ℕ)) (ws : List ℕ) → option_map (padded size) o ≡ Some ws
    → (words : List ℕ) × (o ≡ Some words) × (ws ≡ padded size words)
some_padded size None ws is = cc
some_padded size (Some words) ws is = (
  words,
  refl,
  let e : ◌≡◌ {A = Option (List ℕ)} (Some (padded size words))
      (Some ws) = is in let same : padded size words ≡ ws = cc in sym same,
)

-- the words of a constructor, and zeros up to so many behind a place
module _ (size : ℕ) (con : Option (List ℕ)) (ws : List ℕ) (is : option_map (padded size) con ≡ Some ws) (old : List ℕ) (at : ℕ) where
  padded_long : (words : List ℕ) → ws ≡ padded size words → length ws ≡ length words + (size - length words)
  padded_long words whole = ap (λ w. length w) whole ∙ length-append words (replicate (size - length words) 0)
      ∙ ap (λ n. length words + n) (length-replicate (size - length words) 0)

  pub con_room : at + length ws ≤ length old → HaveRoomAt con at (length old)
  con_room room =
      let some = some_padded size con ws is in
      record { words = some.0; is = some.1; fits = omega (arith, padded_long some.0 some.2, room) }

  module _ (mid : List ℕ) (place : ℕ) (written : AreWritten con old at mid place) where
    pub zeros_room : at + length ws ≤ length old → place + (at + size - place) ≤ length mid
    zeros_room room =
        let some = some_padded size con ws is in
        let one = written some.0 some.1 in
        omega (arith, padded_long some.0 some.2, room, one.place, one.room)

    pub padded_written : (new : List ℕ) (end : ℕ) → IsWritten mid place (replicate (at + size - place) 0) new end → IsWritten old at ws new end
    padded_written new end zeros =
        let some = some_padded size con ws is in
        let one = written some.0 some.1 in
        let count : at + size - place ≡ size - length some.0 = omega (arith, one.place) in
        subst (λ w. IsWritten old at w new end) (sym some.2)
        (written_more old mid new at place end some.0 (replicate (size - length some.0) 0) one (subst (λ n. IsWritten mid place
        (replicate n 0) new end) count zeros))

-- where the words fill the row, nothing else stands in it
pub written_whole : (old new words : List ℕ) (end : ℕ) → IsWritten old 0 words new end → length words ≡ length old → new ≡ words
written_whole old new words end written whole =
    sym (take_all end new (omega (arith, written.place, written.room, whole))) ∙ written.front

pub exact_sizes : (types : Types) → HaveTheirSizes types → HaveReadableSizes types → HaveExactSizes types
exact_sizes types sizes readable number sum found = omega (arith, sizes number sum found, (readable number sum found).words)
