-- How an object is built field by field.
use Rattle.std.proofs.Common.{◌≡◌, ℕ, zero, suc, ◌+◌, ◌-◌, ◌*◌, ◌<◌, ◌≤◌, max, List, [], ◌∷◌, ◌++◌, length, map, drop, get_or, replicate, Some, slice_get, slice_set, refl, ap, sym, ◌∙◌, subst, append_assoc, append-nil, length-append, arith, inl, inr}
use Rattle.std.proofs.lemmas.Bool.{cases_eq, eq-eqb, ne_eqb}
use Rattle.std.proofs.lemmas.Grind.{common_steps}
use Rattle.std.proofs.lemmas.List.{drop_all, drop_min, length-replicate, set-append_left, set-append_right}
use Rattle.std.proofs.Math.Seq.{set-append_seam}
use Rattle.hume_base.specs.declared.types.Ty.{Ty, the_lemmas}
use Rattle.hume_base.specs.declared.types.SumDef.{SumDef}
use Rattle.hume_base.specs.declared.types.Types.{Types}
use Rattle.hume_model.proofs.WordReading.{rank-falls, some_size}
use Rattle.box_heap.specs.Heaps.{HeapView}
use Rattle.match_rules.specs.inner.Builders.{Built, BuiltParts, Builder, plain, before_parts, build_several, object_of, build_object, build_con, build_sum, build_with, build_named, grown}

pub named-past : (types : Types) (bound number place : ℕ) (words : List ℕ) → bound ≤ number → build_named types bound number place words ≡ plain 0 words
unfolding build_named
named-past types zero number place words past = refl
named-past types (suc bound) number place words past =
    let other : number ≡ bound → ⊥ = λ e. omega arith in
    rw (ne_eqb number bound other) (named-past types bound number place words (omega arith))

pub named-at : (types : Types) (bound number place : ℕ) (words : List ℕ) → number < bound
    → build_named types bound number place words ≡ build_sum (build_with (build_named types number)) (slice_get types.sums number) place words
unfolding build_named
named-at types zero number place words below = absurd (omega arith)
named-at types (suc bound) number place words below = elim (cases_eq number bound) [
  | inl same ↦ rw (eq-eqb number bound same) (ap (λ k. build_sum (build_with (build_named types k)) (slice_get types.sums k) place words) (sym same))
  | inr other ↦ rw (ne_eqb number bound other) (named-at types bound number place words (omega arith))
]

pub grown_some : (heap : HeapView) (word : ℕ) (words more : List ℕ) → grown (grown heap (word ∷ words)) more ≡ grown heap (word ∷ (words ++ more))
grown_some heap word words [] = ap (λ ws. grown heap (word ∷ ws)) (sym (append-nil words))
grown_some heap word words (other ∷ others) =
    let all = append_assoc heap.words (word ∷ words) (other ∷ others) in
    let long : length (heap.words ++ word ∷ words) + length (other ∷ others) ≡ length heap.words + length (word ∷ (words ++ other ∷ others)) = (
    let a = length-append heap.words (word ∷ words) in
    let b = length-append (word ∷ words) (other ∷ others) in
    omega (arith, a, b)) in
    let most : max (max heap.peak (length heap.words + length (word ∷ words))) (length (heap.words ++ word ∷ words) + length (other ∷ others))
    ≡ max heap.peak (length heap.words + length (word ∷ (words ++ other ∷ others))) =
    (let b = length-append (word ∷ words) (other ∷ others) in omega (arith, long, b)) in
    ap (λ ws. record heap {
      words = ws;
      peak = max (max heap.peak (length heap.words + length (word ∷ words)))
          (length (heap.words ++ word ∷ words) + length (other ∷ others));
    }) all
    ∙ ap (λ n. record heap { words = heap.words ++ word ∷ (words ++ other ∷ others); peak = n }) most

pub ruleset building_steps = (common_steps, the_lemmas, named-past, named-at, rank-falls, some_size, drop_min)

pub grown_words : (heap : HeapView) (words : List ℕ) → (grown heap words).words ≡ heap.words ++ words
grown_words heap [] = sym (append-nil heap.words)
grown_words heap (word ∷ words) = refl

-- each builder gives one field
pub several_many : (builders : List Builder) (place : ℕ) (words : List ℕ) → length (build_several builders place words).fields ≡ length builders
several_many [] place words = refl
several_many (builder ∷ builders) place words = ap (λ n. suc n) (several_many builders (place + length (builder place words).put) (builder place words).rest)

-- An object with so many fields is under way: those of the first builders stand in it, the others are still 0, and the objects of these
-- parts stand behind it. The builders from there on build the rest.
pub record IsUnderway (old : HeapView) (tag count : ℕ) (builders : List Builder) (words : List ℕ) (i : ℕ) (heap : HeapView) (rest : List ℕ) : Type 0 where
  pub fields : List ℕ
  pub put : List ℕ
  pub many : length fields ≡ i
  pub now : heap ≡ grown old ((tag + 4294967296 * count) ∷ ((fields ++ replicate {A = ℕ} (count - i) 0) ++ put))
  pub parts : before_parts fields put (build_several (drop i builders) (length old.words + (1 + count) + length put) rest)
      ≡ build_several builders (length old.words + (1 + count)) words

drop_next : {X : Type 0} (xs : List X) (i : ℕ) (x : X) → slice_get xs i ≡ Some x → drop i xs ≡ x ∷ drop (i + 1) xs
drop_next [] i x found = cc
drop_next (y ∷ ys) zero x found = let same : y ≡ x = cc in ap (λ z. z ∷ ys) same
drop_next (y ∷ ys) (suc i) x found =
    let step : suc i + 1 ≡ suc (i + 1) = omega arith in
    drop_next ys i x found ∙ ap (λ n. x ∷ drop n (y ∷ ys)) (sym step)

one_zero : (count i : ℕ) → i < count → replicate {A = ℕ} (count - i) 0 ≡ 0 ∷ replicate {A = ℕ} (count - (i + 1)) 0
one_zero count i less = let step : count - i ≡ suc (count - (i + 1)) = omega (arith, less) in ap (λ n. replicate {A = ℕ} n 0) step

-- the next field takes the place of a zero
field_set : (before fields zeros put : List ℕ) (header i word place : ℕ) → length fields ≡ i → place ≡ length before + 1 + i
    → slice_set (before ++ header ∷ ((fields ++ 0 ∷ zeros) ++ put)) place word ≡ before ++ header ∷ (((fields ++ word ∷ []) ++ zeros) ++ put)
field_set before fields zeros put header i word place many at =
    let inner : place - length before ≡ suc (length fields) = omega (arith, many, at) in
    let first : slice_set ((fields ++ 0 ∷ zeros) ++ put) (length fields) word ≡ ((fields ++ word ∷ []) ++ zeros) ++ put =
    set-append_left (fields ++ 0 ∷ zeros) put (length fields) word (let long = length-append fields (0 ∷ zeros) in omega (arith, long))
    ∙ ap (λ ws. ws ++ put) (set-append_seam fields 0 zeros word ∙ sym (append_assoc fields (word ∷ []) zeros)) in
    set-append_right before (header ∷ ((fields ++ 0 ∷ zeros) ++ put)) (length before) place word refl (omega (arith, at))
    ∙ ap (λ n. before ++ slice_set (header ∷ ((fields ++ 0 ∷ zeros) ++ put)) n word) inner
    ∙ ap (λ ws. before ++ header ∷ ws) first

module _ (old : HeapView) (tag count : ℕ) (builders : List Builder) (words : List ℕ) (i : ℕ) (heap : HeapView) (rest : List ℕ)
    (under : IsUnderway old tag count builders words i heap rest) (less : i < count) (all : length builders ≡ count) (builder : Builder)
    (found : slice_get builders i ≡ Some builder) where
  abbrev start : ℕ
  start = length old.words + (1 + count)

  abbrev one : Built
  one = builder (length heap.words) rest

  abbrev header : ℕ
  header = tag + 4294967296 * count

  abbrev zeros : List ℕ
  zeros = replicate {A = ℕ} (count - (i + 1)) 0

  pub heap_long : length heap.words ≡ start + length under.put
  heap_long =
      let now = ap (λ (h : HeapView). length h.words) under.now in
      let a = length-append old.words (header ∷ ((under.fields ++ replicate {A = ℕ} (count - i) 0) ++ under.put)) in
      let b = length-append (under.fields ++ replicate {A = ℕ} (count - i) 0) under.put in
      let c = length-append under.fields (replicate {A = ℕ} (count - i) 0) in
      let d : length (replicate {A = ℕ} (count - i) 0) ≡ count - i = length-replicate (count - i) 0 in
      omega (arith, now, a, b, c, d, under.many, less)

  abbrev later : BuiltParts
  later = build_several (drop (i + 1) builders) (length heap.words + length one.put) one.rest

  -- what is left to build is this part and the later ones
  next_parts : before_parts under.fields under.put (before_parts (one.word ∷ []) one.put later) ≡ build_several builders start words
  next_parts =
      let next : build_several (drop i builders) (length heap.words) rest
      ≡ before_parts (one.word ∷ []) one.put later = ap (λ bs. build_several bs (length heap.words) rest) (drop_next builders i builder found) in
      sym (ap (before_parts under.fields under.put) (ap (λ n. build_several (drop i builders) n rest) (sym heap_long) ∙ next)) ∙ under.parts

  pub part_fits : length old.words + length (object_of tag count (length old.words) (build_several builders start words)).put ≤ old.room
      → length heap.words + length one.put ≤ heap.room
  part_fits fits =
      let put = ap (λ (p : BuiltParts). length p.put) next_parts in
      let fields = several_many builders start words in
      let a = length-append under.put (one.put ++ later.put) in
      let b = length-append one.put later.put in
      let c = length-append (build_several builders start words).fields (build_several builders start words).put in
      let room : heap.room ≡ old.room = ap (λ (h : HeapView). h.room) under.now in
      let long = heap_long in
      omega (arith, fits, put, fields, a, b, c, room, long, all)

  pub goes_on : (built set : HeapView) → built ≡ grown heap one.put → set ≡ record built { words = slice_set built.words (length old.words + 1 + i) one.word }
      → IsUnderway old tag count builders words (i + 1) set one.rest
  goes_on built set is changed =
      let before = (under.fields ++ 0 ∷ zeros) ++ (under.put ++ one.put) in
      let after = ((under.fields ++ one.word ∷ []) ++ zeros) ++ (under.put ++ one.put) in
      let grown_now : built ≡ grown old (header ∷ before) =
      is ∙ ap (λ h. grown h one.put) (under.now ∙ ap (λ zs. grown old (header ∷ ((under.fields ++ zs) ++ under.put))) (one_zero count i less))
      ∙ grown_some old header ((under.fields ++ 0 ∷ zeros) ++ under.put) one.put
      ∙ ap (λ ws. grown old (header ∷ ws)) (append_assoc (under.fields ++ 0 ∷ zeros) under.put one.put) in
      let words_now : slice_set (old.words ++ header ∷ before) (length old.words + 1 + i) one.word ≡ old.words ++ header ∷ after =
      field_set old.words under.fields zeros (under.put ++ one.put) header i one.word (length old.words + 1 + i) under.many refl in
      let same_length : length (header ∷ before) ≡ length (header ∷ after) = (
      let a = length-append (under.fields ++ 0 ∷ zeros) (under.put ++ one.put) in
      let b = length-append under.fields (0 ∷ zeros) in
      let c = length-append ((under.fields ++ one.word ∷ []) ++ zeros) (under.put ++ one.put) in
      let d = length-append (under.fields ++ one.word ∷ []) zeros in
      let e = length-append under.fields (one.word ∷ []) in
      omega (arith, a, b, c, d, e)) in
      let place : start + length (under.put ++ one.put) ≡ length heap.words + length one.put =
      (let a = length-append under.put one.put in let long = heap_long in omega (arith, a, long)) in
      record {
        fields = under.fields ++ one.word ∷ [];
        put = under.put ++ one.put;
        many = (let a = length-append under.fields (one.word ∷ []) in omega (arith, a, under.many));
        now = changed ∙ ap (λ (h : HeapView). record h { words = slice_set h.words (length old.words + 1 + i) one.word }) grown_now
            ∙ ap (λ ws. record old { words = ws; peak = max old.peak (length old.words + length (header ∷ before)) }) words_now
            ∙ ap (λ n. record old { words = old.words ++ header ∷ after; peak = max old.peak (length old.words + n) }) same_length;
        parts = ap (λ n. before_parts (under.fields ++ one.word ∷ []) (under.put ++ one.put) (build_several (drop (i + 1) builders) n one.rest)) place
            ∙ (λ j. record { fields = append_assoc under.fields (one.word ∷ []) later.fields j; put = append_assoc under.put one.put later.put j; rest = later.rest })
            ∙ next_parts;
      }

-- the same with what a call gave
pub next_underway : (old : HeapView) (tag count : ℕ) (builders : List Builder) (words : List ℕ) (i : ℕ) (heap : HeapView) (rest : List ℕ)
    (under : IsUnderway old tag count builders words i heap rest) (less : i < count) (all : length builders ≡ count) (builder : Builder)
    (found : slice_get builders i ≡ Some builder) (place word : ℕ) (behind : List ℕ) (built set : HeapView) → place ≡ length old.words
    → built ≡ grown heap (builder (length heap.words) rest).put → word ≡ (builder (length heap.words) rest).word
    → behind ≡ (builder (length heap.words) rest).rest
    → set ≡ record built { words = slice_set built.words (place + 1 + i) word } → IsUnderway old tag count builders words (i + 1) set behind
next_underway old tag count builders words i heap rest under less all builder found place word behind built set at is one left changed =
    subst (λ ws. IsUnderway old tag count builders words (i + 1) set ws) (sym left)
    (goes_on old tag count builders words i heap rest under less all builder found built set is
    (changed ∙ ap (λ n. record built { words = slice_set built.words (n + 1 + i) word }) at
    ∙ ap (λ w. record built { words = slice_set built.words (length old.words + 1 + i) w }) one))

pub object_by : (tag count place : ℕ) (builders : List Builder) (words : List ℕ) → length builders ≡ count
    → build_object tag builders place words ≡ object_of tag count place (build_several builders (place + (1 + count)) words)
object_by tag count place builders words all = ap (λ n. object_of tag n place (build_several builders (place + (1 + n)) words)) all

-- the room for an object and its parts
pub whole_fits : (heap : HeapView) (tag count : ℕ) (builders : List Builder) (words : List ℕ) → length builders ≡ count
    → length heap.words + length (build_object tag builders (length heap.words) words).put ≤ heap.room
    → length heap.words + length (object_of tag count (length heap.words) (build_several builders (length heap.words + (1 + count)) words)).put ≤ heap.room
whole_fits heap tag count builders words all fits = subst (λ (b : Built). length heap.words + length b.put ≤ heap.room)
    (object_by tag count (length heap.words) builders words all) fits

pub fields_fit : (heap : HeapView) (tag count : ℕ) (builders : List Builder) (words : List ℕ) → length builders ≡ count
    → length heap.words + length (build_object tag builders (length heap.words) words).put ≤ heap.room → length heap.words + (1 + count) ≤ heap.room
fields_fit heap tag count builders words all fits =
    let total = build_several builders (length heap.words + (1 + count)) words in
    let whole = whole_fits heap tag count builders words all fits in
    let many = several_many builders (length heap.words + (1 + count)) words in
    let both = length-append total.fields total.put in
    omega (arith, whole, many, both, all)

pub data_put : (types : Types) (bound number place : ℕ) (words : List ℕ) (sum_type : SumDef) → number < bound → slice_get types.sums number ≡ Some sum_type
    → (build_named types bound number place words).put ≡ (build_con (build_with (build_named types number)) sum_type place words).put
data_put types bound number place words sum_type below found =
    ap (λ (b : Built). b.put) (named-at types bound number place words below ∙ ap (λ o. build_sum (build_with (build_named types number)) o place words) found)

repeated_at : {X : Type 0} (count i : ℕ) (x : X) → i < count → slice_get (replicate {A = X} count x) i ≡ Some x
repeated_at zero i x less = absurd (omega (arith, less))
repeated_at (suc count) zero x less = refl
repeated_at (suc count) (suc i) x less = repeated_at count i x (omega (arith, less))

-- a vector's part, and that of a tuple or a constructor
pub item_at : (count i : ℕ) (builder : Builder) → i < count → slice_get (replicate {A = Builder} count builder) i ≡ Some builder
item_at count i builder less = repeated_at count i builder less

pub part_at : (builder : Ty → Builder) (tys : List Ty) (i : ℕ) (ty : Ty) → i < length tys → ty ≡ get_or tys i ty
    → slice_get (map builder tys) i ≡ Some (builder ty)
part_at builder [] i ty less is = absurd (omega (arith, less))
part_at builder (t ∷ ts) zero ty less is = ap (λ x. Some (builder x)) (sym is)
part_at builder (t ∷ ts) (suc i) ty less is = part_at builder ts i ty (omega (arith, less)) is

-- an item that is seen through a pointer
pub seen_at : (tys : List Ty) (i : ℕ) (ty seen : Ty) → seen ≡ ty → ty ≡ get_or tys i ty → seen ≡ get_or tys i seen
seen_at tys i ty seen same is = subst (λ t. t ≡ get_or tys i t) (sym same) is
