-- What a ring holds once one is taken from it or put into it.
use Rattle.std.proofs.Common.{◌≡◌, ℕ, zero, suc, ◌+◌, ◌-◌, ◌*◌, ◌<◌, ◌≤◌, nat_lt, Bool, true, false, cond, List, [], ◌∷◌, ◌++◌, length, map, take, drop, Option, Some, None, slice_get, slice_set, refl, ap, sym, ◌∙◌, append_assoc, append-nil, length-append, arith}
use Rattle.std.specs.Option.{option_to_list}
use Rattle.std.proofs.lemmas.Bool.{ltb-true, ltb-false, lt-ltb, le-ltb}
use Rattle.std.proofs.lemmas.List.{drop-drop, drop-set-lt, drop-set-add, drop-take, drop-append-le, length-drop, length-take-le, set-append_left, set-append_right, take-append-le, take-set-le, take-take, take_more_set}
use Rattle.std.proofs.Math.Nat.{add-mul, suc-mul, mul-le-mul_right}
use Rattle.std.proofs.Math.Seq.{drop-append_seam, take-add, take-append_seam, take-set-lt}
use Rattle.wire_cells.specs.inner.Rings.{rows, from_first, wrapped, on_from}

get_front : {X : Type 0} (xs ys : List X) (i : ℕ) → i < length xs → slice_get (xs ++ ys) i ≡ slice_get xs i
get_front [] ys i less = absurd (omega (arith, less))
get_front (x ∷ xs) ys zero less = refl
get_front (x ∷ xs) ys (suc i) less = get_front xs ys i (omega (arith, less))

get_behind : {X : Type 0} (xs ys : List X) (i j : ℕ) → j ≡ length xs + i → slice_get (xs ++ ys) j ≡ slice_get ys i
get_behind [] ys i j same = ap (slice_get ys) (let e : j ≡ i = omega (arith, same) in e)
get_behind (x ∷ xs) ys i zero same = absurd (omega (arith, same))
get_behind (x ∷ xs) ys i (suc j) same = get_behind xs ys i j (omega (arith, same))

get_drop : {X : Type 0} (xs : List X) (n i j : ℕ) → j ≡ n + i → slice_get (drop n xs) i ≡ slice_get xs j
get_drop xs zero i j same = ap (slice_get xs) (let e : i ≡ j = omega (arith, same) in e)
get_drop [] (suc n) i j same = refl
get_drop (x ∷ xs) (suc n) i zero same = absurd (omega (arith, same))
get_drop (x ∷ xs) (suc n) i (suc j) same = get_drop xs n i j (omega (arith, same))

get_take : {X : Type 0} (xs : List X) (n i : ℕ) → i < n → slice_get (take n xs) i ≡ slice_get xs i
get_take xs zero i less = absurd (omega (arith, less))
get_take [] (suc n) i less = refl
get_take (x ∷ xs) (suc n) zero less = refl
get_take (x ∷ xs) (suc n) (suc i) less = get_take xs n i (omega (arith, less))

wrapped_by : (place depth : ℕ) (straight : Bool) → nat_lt place depth ≡ straight → place < depth + depth → cond straight place (place - depth) < depth
wrapped_by place depth true is less = ltb-true place depth is
wrapped_by place depth false is less = let past = ltb-false place depth is in omega (arith, past, less)

-- it is a place of the ring
pub wrapped_within : (place depth : ℕ) → place < depth + depth → wrapped place depth < depth
wrapped_within place depth less = wrapped_by place depth (nat_lt place depth) refl less

-- the row at a place is within all of them
row_within : (place depth size : ℕ) → place < depth → place * size + size ≤ depth * size
row_within place depth size less =
    let next = suc-mul place size in
    let steps : suc place * size ≤ depth * size = mul-le-mul_right size (omega (arith, less)) in
    omega (arith, next, steps)

module _ {X : Type 0} (ring : List X) (first depth : ℕ) (long : length ring ≡ depth) (within : first < depth) where
  behind_long : length (drop first ring) ≡ depth - first
  behind_long = length-drop first ring ∙ ap (λ n. n - first) long

  before_long : length (take first ring) ≡ first
  before_long = length-take-le first ring (omega (arith, long, within))

  get_by : (k : ℕ) (straight : Bool) → nat_lt (first + k) depth ≡ straight → k < depth
      → slice_get (from_first first ring) k ≡ slice_get ring (cond straight (first + k) (first + k - depth))
  get_by k true is less =
      let below = ltb-true (first + k) depth is in
      get_front (drop first ring) (take first ring) k (omega (arith, behind_long, below)) ∙ get_drop ring first k (first + k) refl
  get_by k false is less =
      let past = ltb-false (first + k) depth is in
      get_behind (drop first ring) (take first ring) (first + k - depth) k (omega (arith, behind_long, past, within, less))
      ∙ get_take ring first (first + k - depth) (omega (arith, past, less))

  -- the one at a place
  get_wrapped : (count k : ℕ) → k < count → count ≤ depth → slice_get (take count (from_first first ring)) k ≡ slice_get ring (wrapped (first + k) depth)
  get_wrapped count k less fits = get_take (from_first first ring) count k less ∙ get_by k (nat_lt (first + k) depth) refl (omega (arith, less, fits))

  set_by : (k : ℕ) (x : X) (straight : Bool) → nat_lt (first + k) depth ≡ straight → k < depth
      → from_first first (slice_set ring (cond straight (first + k) (first + k - depth)) x) ≡ slice_set (from_first first ring) k x
  set_by k x true is less =
      let below = ltb-true (first + k) depth is in
      ap (λ ys. ys ++ take first (slice_set ring (first + k) x)) (drop-set-add first ring k x)
      ∙ ap (λ ys. slice_set (drop first ring) k x ++ ys) (take-set-le first ring (first + k) x (omega arith))
      ∙ sym (set-append_left (drop first ring) (take first ring) k x (omega (arith, behind_long, below)))
  set_by k x false is less =
      let past = ltb-false (first + k) depth is in
      let place : k - length (drop first ring) ≡ first + k - depth = omega (arith, behind_long, past, within, less) in
      ap (λ ys. ys ++ take first (slice_set ring (first + k - depth) x)) (drop-set-lt first ring (first + k - depth) x (omega (arith, past, less)))
      ∙ ap (λ ys. drop first ring ++ ys) (take-set-lt first ring (first + k - depth) x (omega (arith, past, less)))
      ∙ sym (set-append_right (drop first ring) (take first ring) (length (drop first ring)) k x refl (omega (arith, behind_long, past, within))
      ∙ ap (λ n. drop first ring ++ slice_set (take first ring) n x) place)

  all_long : length (from_first first ring) ≡ depth
  all_long = length-append (drop first ring) (take first ring) ∙ (let sum : length (drop first ring) + length (take first ring)
      ≡ depth = omega (arith, behind_long, before_long, within) in sum)

  -- one more
  put_wrapped : (count : ℕ) (x : X) → count < depth
      → take (count + 1) (from_first first (slice_set ring (wrapped (first + count) depth) x)) ≡ take count (from_first first ring) ++ x ∷ []
  put_wrapped count x less =
      ap (take (count + 1)) (set_by count x (nat_lt (first + count) depth) refl less)
      ∙ take_more_set (from_first first ring) count x (omega (arith, all_long, less))

  next_by : (straight : Bool) → nat_lt (first + 1) depth ≡ straight → (count : ℕ) → count < depth
      → take count (from_first (cond straight (first + 1) (first + 1 - depth)) ring) ≡ take count (drop 1 (from_first first ring))
  next_by true is count less =
      let below = ltb-true (first + 1) depth is in
      let rest : drop 1 (from_first first ring) ≡ drop (first + 1) ring ++ take first ring =
      drop-append-le 1 (drop first ring) (take first ring) (omega (arith, behind_long, below)) ∙ ap (λ ys. ys ++ take first ring) (drop-drop 1 first ring) in
      let more : from_first (first + 1) ring ≡ (drop (first + 1) ring ++ take first ring) ++ take 1 (drop first ring) =
      ap (λ ys. drop (first + 1) ring ++ ys) (take-add first 1 ring) ∙ sym
      (append_assoc (drop (first + 1) ring) (take first ring) (take 1 (drop first ring))) in
      let front_long : length (drop (first + 1) ring) ≡ depth - (first + 1) = length-drop (first + 1) ring ∙ ap (λ n. n - (first + 1)) long in
      let enough : count ≤ length (drop (first + 1) ring ++ take first ring) = let both = length-append (drop (first + 1) ring) (take first ring) in omega
      (arith, both, front_long, before_long, less, below) in
      ap (take count) more ∙ take-append-le count (drop (first + 1) ring ++ take first ring) (take 1 (drop first ring)) enough ∙ ap (take count) (sym rest)
  next_by false is count less =
      let past = ltb-false (first + 1) depth is in
      let start : first + 1 - depth ≡ 0 = omega (arith, past, within) in
      let one : 1 ≡ length (drop first ring) = omega (arith, behind_long, past, within) in
      ap (λ n. take count (from_first n ring)) start ∙ ap (take count) (append-nil ring)
      ∙ sym (take-take count first ring (omega (arith, less, past)))
      ∙ ap (take count) (sym (ap (λ n. drop n (from_first first ring)) one ∙ drop-append_seam (drop first ring) (take first ring)))

  -- one less
  take_wrapped : (count : ℕ) → 1 ≤ count → count ≤ depth
      → take (count - 1) (from_first (wrapped (first + 1) depth) ring) ≡ drop 1 (take count (from_first first ring))
  take_wrapped count some fits =
      let split : count ≡ 1 + (count - 1) = omega (arith, some) in
      next_by (nat_lt (first + 1) depth) refl (count - 1) (omega (arith, some, fits))
      ∙ sym (ap (λ n. drop 1 (take n (from_first first ring))) split ∙ drop-take 1 (count - 1) (from_first first ring))

pub rows_long : (count size : ℕ) (words : List ℕ) → length (rows count size words) ≡ count
unfolding rows
rows_long zero size words = refl
rows_long (suc count) size words = ap (λ n. suc n) (rows_long count size (drop size words))

-- the row at a place
rows_get : (count size : ℕ) (words : List ℕ) (place : ℕ) → place < count
    → slice_get (rows count size words) place ≡ Some (take size (drop (place * size) words))
unfolding rows
rows_get zero size words place less = absurd (omega (arith, less))
rows_get (suc count) size words zero less = ap (λ n. Some (take size (drop n words))) (let e : 0 ≡ 0 * size = omega arith in e)
rows_get (suc count) size words (suc place) less =
    rows_get count size (drop size words) place (omega (arith, less))
    ∙ ap (λ ws. Some (take size ws)) (drop-drop (place * size) size words)
    ∙ ap (λ n. Some (take size (drop n words))) (let e : size + place * size ≡ suc place * size = (let m = suc-mul place size in omega (arith, m)) in e)

-- words with others in the place of those of a row
rows_set : (count size : ℕ) (words row : List ℕ) (place : ℕ) → place < count → length row ≡ size → count * size ≤ length words
    → rows count size (take (place * size) words ++ row ++ drop (place * size + size) words) ≡ slice_set (rows count size words) place row
unfolding rows
rows_set zero size words row place less whole fits = absurd (omega (arith, less))
rows_set (suc count) size words row zero less whole fits =
    let start : 0 * size ≡ 0 = omega arith in
    let behind : 0 * size + size ≡ size = omega arith in
    let front : take size (row ++ drop size words) ≡ row = ap (λ n. take n (row ++ drop size words)) (sym whole) ∙ take-append_seam row (drop size words) in
    let rest : drop size (row ++ drop size words) ≡ drop size words = ap (λ n. drop n (row ++ drop size words)) (sym whole)
    ∙ drop-append_seam row (drop size words) in
    ap (λ n. rows (suc count) size (take n words ++ row ++ drop (0 * size + size) words)) start
    ∙ ap (λ n. rows (suc count) size (row ++ drop n words)) behind
    ∙ ap (λ r. r ∷ rows count size (drop size (row ++ drop size words))) front ∙ ap (λ ws. row ∷ rows count size ws) rest
rows_set (suc count) size words row (suc place) less whole fits =
    let room : size + count * size ≤ length words = (let m = suc-mul count size in omega (arith, m, fits)) in
    let later = drop size words in
    let changed = take (place * size) later ++ row ++ drop (place * size + size) later in
    let size_place : suc place * size ≡ size + place * size = (let m = suc-mul place size in omega (arith, m)) in
    let size_behind : suc place * size + size ≡ size + (place * size + size) = omega (arith, size_place) in
    let front_long : length (take size words) ≡ size = length-take-le size words (omega (arith, room)) in
    let later_long : length later ≡ length words - size = length-drop size words in
    let behind = drop (size + (place * size + size)) words in
    let all : take (suc place * size) words ++ row ++ drop (suc place * size + size) words ≡ take size words ++ changed =
    ap (λ n. take n words ++ row ++ drop (suc place * size + size) words) size_place
    ∙ ap (λ n. take (size + place * size) words ++ row ++ drop n words) size_behind
    ∙ ap (λ ws. (ws ++ row) ++ behind) (take-add size (place * size) words)
    ∙ ap (λ ws. ws ++ behind) (append_assoc (take size words) (take (place * size) later) row)
    ∙ append_assoc (take size words) (take (place * size) later ++ row) behind
    ∙ ap (λ ws. take size words ++ ((take (place * size) later ++ row) ++ ws)) (sym (drop-drop (place * size + size) size words)) in
    let front : take size (take size words ++ changed) ≡ take size words = ap (λ n. take n (take size words ++ changed)) (sym front_long)
    ∙ take-append_seam (take size words) changed in
    let rest : drop size (take size words ++ changed) ≡ changed = ap (λ n. drop n (take size words ++ changed)) (sym front_long)
    ∙ drop-append_seam (take size words) changed in
    ap (rows (suc count) size) all
    ∙ ap (λ r. r ∷ rows count size (drop size (take size words ++ changed))) front
    ∙ ap (λ ws. take size words ∷ rows count size ws) rest
    ∙ ap (λ rs. take size words ∷ rs) (rows_set count size later row place (omega (arith, less)) whole (omega (arith, later_long, room)))

-- the first rows of more
rows_take : (few count size : ℕ) (words : List ℕ) → few ≤ count → take few (rows count size words) ≡ rows few size words
unfolding rows
rows_take zero count size words less = refl
rows_take (suc few) zero size words less = absurd (omega (arith, less))
rows_take (suc few) (suc count) size words less = ap (λ rs. take size words ∷ rs) (rows_take few count size (drop size words) (omega (arith, less)))

-- the rows behind others
rows_drop : (few rest size : ℕ) (words : List ℕ) → drop few (rows (few + rest) size words) ≡ rows rest size (drop (few * size) words)
unfolding rows
rows_drop zero rest size words =
    ap (λ n. rows n size words) (let e : zero + rest ≡ rest = omega arith in e)
    ∙ ap (λ n. rows rest size (drop n words)) (let e : 0 ≡ zero * size = omega arith in e)
rows_drop (suc few) rest size words =
    ap (λ n. drop (suc few) (rows n size words)) (let e : suc few + rest ≡ suc (few + rest) = omega arith in e)
    ∙ rows_drop few rest size (drop size words)
    ∙ ap (λ ws. rows rest size ws) (drop-drop (few * size) size words)
    ∙ ap (λ n. rows rest size (drop n words)) (let e : size + few * size ≡ suc few * size = (let m = suc-mul few size in omega (arith, m)) in e)

-- rows take no words behind their own
rows_front : (count size : ℕ) (words : List ℕ) → rows count size (take (count * size) words) ≡ rows count size words
unfolding rows
rows_front zero size words = refl
rows_front (suc count) size words =
    let more : suc count * size ≡ size + count * size = (let m = suc-mul count size in omega (arith, m)) in
    ap (λ n. rows (suc count) size (take n words)) more
    ∙ ap (λ r. r ∷ rows count size (drop size (take (size + count * size) words))) (take-take size (size + count * size) words (omega arith))
    ∙ ap (λ ws. take size words ∷ rows count size ws) (drop-take size (count * size) words)
    ∙ ap (λ rs. take size words ∷ rs) (rows_front count size (drop size words))

-- rows of words and of others behind them
rows_append : (few rest size : ℕ) (words others : List ℕ) → length words ≡ few * size
    → rows (few + rest) size (words ++ others) ≡ rows few size words ++ rows rest size others
unfolding rows
rows_append zero rest size [] others long = ap (λ n. rows n size others) (let e : zero + rest ≡ rest = omega arith in e)
rows_append zero rest size (w ∷ words) others long = absurd (let none : zero * size ≡ 0 = omega arith in omega (arith, long, none))
rows_append (suc few) rest size words others long =
    let more = suc-mul few size in
    let enough : size ≤ length words = omega (arith, long, more) in
    let left : length (drop size words) ≡ few * size = (let less = length-drop size words in omega (arith, less, long, more)) in
    ap (λ n. rows n size (words ++ others)) (let e : suc few + rest ≡ suc (few + rest) = omega arith in e)
    ∙ ap (λ r. r ∷ rows (few + rest) size (drop size (words ++ others))) (take-append-le size words others enough)
    ∙ ap (λ ws. take size words ∷ rows (few + rest) size ws) (drop-append-le size words others enough)
    ∙ ap (λ rs. take size words ∷ rs) (rows_append few rest size (drop size words) others left)

-- words that begin at a row and go round, as rows
turned : (row rest size : ℕ) (words : List ℕ) → length words ≡ (row + rest) * size
    → rows (row + rest) size (from_first (row * size) words) ≡ from_first row (rows (row + rest) size words)
turned row rest size words long =
    let back = drop (row * size) words in
    let front = take (row * size) words in
    let both = add-mul row rest size in
    let back_long : length back ≡ rest * size = (let less = length-drop (row * size) words in omega (arith, less, long, both)) in
    ap (λ n. rows n size (back ++ front)) (let e : row + rest ≡ rest + row = omega arith in e)
    ∙ rows_append rest row size back front back_long
    ∙ ap (λ rs. rows rest size back ++ rs) (rows_front row size words ∙ sym (rows_take row (row + rest) size words (omega arith)))
    ∙ ap (λ rs. rs ++ take row (rows (row + rest) size words)) (sym (rows_drop row rest size words))

-- the values from a row on, by the rows
held : (row count depth size : ℕ) (words : List ℕ) → row < depth → count ≤ depth → length words ≡ depth * size
    → rows count size (from_first (row * size) words) ≡ take count (from_first row (rows depth size words))
held row count depth size words within fits long =
    let rest = depth - row in
    let all : row + rest ≡ depth = omega (arith, within) in
    sym (rows_take count depth size (from_first (row * size) words) fits)
    ∙ ap (λ n. take count (rows n size (from_first (row * size) words))) (sym all)
    ∙ ap (take count) (turned row rest size words (long ∙ ap (λ n. n * size) (sym all)))
    ∙ ap (λ n. take count (from_first row (rows n size words))) all

on_from_by : (row depth size : ℕ) (straight below : Bool) → nat_lt row depth ≡ straight → nat_lt (row * size) (depth * size) ≡ below → row ≤ depth
    → cond below (row * size) 0 ≡ cond straight row (row - depth) * size
on_from_by row depth size true true is lower fits = refl
on_from_by row depth size true false is lower fits =
    let less = ltb-true row depth is in
    let past = ltb-false (row * size) (depth * size) lower in
    let inside = row_within row depth size less in
    let none : size ≡ 0 = omega (arith, past, inside) in
    sym (ap (λ n. row * n) none ∙ (let e : row * 0 ≡ 0 = omega arith in e))
on_from_by row depth size false true is lower fits =
    let past = ltb-false row depth is in
    let less = ltb-true (row * size) (depth * size) lower in
    let same : row ≡ depth = omega (arith, past, fits) in
    let equal = ap (λ n. n * size) same in
    absurd (omega (arith, less, equal))
on_from_by row depth size false false is lower fits =
    let past = ltb-false row depth is in
    let none : row - depth ≡ 0 = omega (arith, fits) in
    sym (ap (λ n. n * size) none ∙ (let e : 0 * size ≡ 0 = omega arith in e))

-- the place of a row, where the end of the ring is its beginning
pub on_from_row : (row depth size : ℕ) → row ≤ depth → on_from (row * size) (depth * size) ≡ wrapped row depth * size
on_from_row row depth size fits = on_from_by row depth size (nat_lt row depth) (nat_lt (row * size) (depth * size)) refl refl fits

wrapped_row_by : (row depth size : ℕ) (straight below : Bool) → nat_lt row depth ≡ straight → nat_lt (row * size) (depth * size) ≡ below
    → cond below (row * size) (row * size - depth * size) ≡ cond straight row (row - depth) * size
wrapped_row_by row depth size true true is lower = refl
wrapped_row_by row depth size true false is lower =
    let less = ltb-true row depth is in
    let past = ltb-false (row * size) (depth * size) lower in
    let inside = row_within row depth size less in
    let none : size ≡ 0 = omega (arith, past, inside) in
    ap (λ n. row * n - depth * n) none ∙ (let e : row * 0 - depth * 0 ≡ row * 0 = omega arith in e) ∙ sym (ap (λ n. row * n) none)
wrapped_row_by row depth size false true is lower =
    let past = ltb-false row depth is in
    let less = ltb-true (row * size) (depth * size) lower in
    let more : depth * size ≤ row * size = mul-le-mul_right size past in
    absurd (omega (arith, less, more))
wrapped_row_by row depth size false false is lower =
    let past = ltb-false row depth is in
    let split : depth + (row - depth) ≡ row = omega (arith, past) in
    let both = add-mul depth (row - depth) size in
    let whole = ap (λ n. n * size) split in
    let same : row * size - depth * size ≡ (row - depth) * size = omega (arith, both, whole) in
    same

-- the place of a row, once round the ring or not
wrapped_row : (row depth size : ℕ) → wrapped (row * size) (depth * size) ≡ wrapped row depth * size
wrapped_row row depth size = wrapped_row_by row depth size (nat_lt row depth) (nat_lt (row * size) (depth * size)) refl refl

wrapped_is : (place depth : ℕ) → place < depth → wrapped place depth ≡ place
wrapped_is place depth less = ap (λ b. cond b place (place - depth)) (lt-ltb place depth less)

wrapped_past : (place depth : ℕ) → depth ≤ place → wrapped place depth ≡ place - depth
wrapped_past place depth past = ap (λ b. cond b place (place - depth)) (le-ltb place depth past)

module _ (row depth count : ℕ) (within : row < depth) (fits : count ≤ depth) where
  less_by : (straight : Bool) → nat_lt (row + 1) depth ≡ straight → 1 ≤ count
      → wrapped (cond straight (row + 1) (row + 1 - depth) + (count - 1)) depth ≡ wrapped (row + count) depth
  less_by true is some = ap (λ n. wrapped n depth) (let e : row + 1 + (count - 1) ≡ row + count = omega (arith, some) in e)
  less_by false is some =
      let past = ltb-false (row + 1) depth is in
      wrapped_is (row + 1 - depth + (count - 1)) depth (omega (arith, past, within, fits, some))
      ∙ (let e : row + 1 - depth + (count - 1) ≡ row + count - depth = omega (arith, past, within, some) in e)
      ∙ sym (wrapped_past (row + count) depth (omega (arith, past, within, some)))

  -- the row of the next value stays where the oldest one is taken
  pub wrapped_less : 1 ≤ count → wrapped (wrapped (row + 1) depth + (count - 1)) depth ≡ wrapped (row + count) depth
  wrapped_less some = less_by (nat_lt (row + 1) depth) refl some

  more_by : (straight : Bool) → nat_lt (row + count) depth ≡ straight → count < depth
      → wrapped (cond straight (row + count) (row + count - depth) + 1) depth ≡ wrapped (row + (count + 1)) depth
  more_by true is less = ap (λ n. wrapped n depth) (let e : row + count + 1 ≡ row + (count + 1) = omega arith in e)
  more_by false is less =
      let past = ltb-false (row + count) depth is in
      wrapped_is (row + count - depth + 1) depth (omega (arith, past, within, less))
      ∙ (let e : row + count - depth + 1 ≡ row + (count + 1) - depth = omega (arith, past) in e)
      ∙ sym (wrapped_past (row + (count + 1)) depth (omega (arith, past)))

  -- the row of the next value goes on by one where a value is put
  wrapped_more : count < depth → wrapped (wrapped (row + count) depth + 1) depth ≡ wrapped (row + (count + 1)) depth
  wrapped_more less = more_by (nat_lt (row + count) depth) refl less

-- the places of a ring in its words: the oldest value begins at `first`, in the row of the number `row`
module _ (row first next count depth size : ℕ) (words : List ℕ) (within : row < depth) (starts : first ≡ row * size)
    (goes_on : next ≡ wrapped (row + count) depth * size) (fits : count ≤ depth) (long : length words ≡ depth * size) where
  held_by_rows : rows count size (from_first first words) ≡ take count (from_first row (rows depth size words))
  held_by_rows = ap (λ n. rows count size (from_first n words)) starts ∙ held row count depth size words within fits long

  -- the row of the next value is within the words
  pub next_within : count < depth → next + size ≤ length words
  next_within less =
      let place = wrapped_within (row + count) depth (omega (arith, within, less)) in
      let inside = row_within (wrapped (row + count) depth) depth size place in
      omega (arith, inside, goes_on, long)

  -- the row of a value, once round the words or not
  place_of : (i : ℕ) → wrapped (first + i * size) (length words) ≡ wrapped (row + i) depth * size
  place_of i =
      let both = add-mul row i size in
      ap (λ n. wrapped (first + i * size) n) long
      ∙ ap (λ n. wrapped n (depth * size)) (let e : first + i * size ≡ (row + i) * size = omega (arith, both, starts) in e)
      ∙ wrapped_row (row + i) depth size

  -- the row of a value is within the words
  pub place_within : (i : ℕ) → i < count → wrapped (first + i * size) (length words) + size ≤ length words
  place_within i less =
      let same = place_of i in
      let place = wrapped_within (row + i) depth (omega (arith, within, fits, less)) in
      let inside = row_within (wrapped (row + i) depth) depth size place in
      omega (arith, inside, same, long)

  -- the value at a place
  pub held_at : (i : ℕ) → i < count → slice_get (rows count size (from_first first words)) i
      ≡ Some (take size (drop (wrapped (first + i * size) (length words)) words))
  held_at i less =
      ap (λ vs. slice_get vs i) held_by_rows
      ∙ get_wrapped (rows depth size words) row depth (rows_long depth size words) within count i less fits
      ∙ rows_get depth size words (wrapped (row + i) depth) (wrapped_within (row + i) depth (omega (arith, within, less, fits)))
      ∙ ap (λ n. Some (take size (drop n words))) (sym (place_of i))

  -- the oldest value
  pub held_first : 1 ≤ count → slice_get (rows count size (from_first first words)) 0 ≡ Some (take size (drop first words))
  held_first some =
      let none : 0 * size ≡ 0 = omega arith in
      held_at 0 some ∙ ap (λ n. Some (take size (drop n words))) (place_of 0
      ∙ ap (λ n. n * size) (wrapped_is (row + 0) depth (omega (arith, within)))
      ∙ (let e : (row + 0) * size ≡ first = (let m = add-mul row 0 size in omega (arith, m, none, starts)) in e))

  -- where the oldest value begins once one is taken
  pub first_later : on_from (first + size) (length words) ≡ wrapped (row + 1) depth * size
  first_later =
      let more = suc-mul row size in
      ap (λ n. on_from (first + size) n) long
      ∙ ap (λ n. on_from n (depth * size)) (let e : first + size ≡ (row + 1) * size =
      (let one : suc row ≡ row + 1 = omega arith in let m = ap (λ n. n * size) one in omega (arith, more, m, starts)) in e)
      ∙ on_from_row (row + 1) depth size (omega (arith, within))

  -- where the next value goes once one is put
  pub next_later : count < depth → on_from (next + size) (length words) ≡ wrapped (row + (count + 1)) depth * size
  next_later less =
      let place = wrapped (row + count) depth in
      let there = wrapped_within (row + count) depth (omega (arith, within, less)) in
      let more = suc-mul place size in
      ap (λ n. on_from (next + size) n) long
      ∙ ap (λ n. on_from n (depth * size)) (let e : next + size ≡ (place + 1) * size =
      (let one : suc place ≡ place + 1 = omega arith in let m = ap (λ n. n * size) one in omega (arith, more, m, goes_on)) in e)
      ∙ on_from_row (place + 1) depth size (omega (arith, there))
      ∙ ap (λ n. n * size) (wrapped_more row depth count within fits less)

  -- one less
  pub held_less : 1 ≤ count → rows (count - 1) size (from_first (on_from (first + size) (length words)) words)
      ≡ drop 1 (rows count size (from_first first words))
  held_less some =
      ap (λ n. rows (count - 1) size (from_first n words)) first_later
      ∙ held (wrapped (row + 1) depth) (count - 1) depth size words (wrapped_within (row + 1) depth (omega (arith, within))) (omega (arith, fits)) long
      ∙ take_wrapped (rows depth size words) row depth (rows_long depth size words) within count some fits
      ∙ ap (drop 1) (sym held_by_rows)

  -- one more
  pub held_more : (added new : List ℕ) → count < depth → length added ≡ size → new ≡ take next words ++ added ++ drop (next + size) words
      → length new ≡ length words → rows (count + 1) size (from_first first new) ≡ rows count size (from_first first words) ++ added ∷ []
  held_more added new less whole is same =
      let place = wrapped (row + count) depth in
      let there = wrapped_within (row + count) depth (omega (arith, within, less)) in
      ap (λ n. rows (count + 1) size (from_first n new)) starts
      ∙ held row (count + 1) depth size new within (omega (arith, less)) (same ∙ long)
      ∙ ap (λ ws. take (count + 1) (from_first row (rows depth size ws))) is
      ∙ ap (λ n. take (count + 1) (from_first row (rows depth size (take n words ++ added ++ drop (n + size) words)))) goes_on
      ∙ ap (λ rs. take (count + 1) (from_first row rs)) (rows_set depth size words added place there whole (omega (arith, long)))
      ∙ put_wrapped (rows depth size words) row depth (rows_long depth size words) within count added less
      ∙ ap (λ vs. vs ++ added ∷ []) (sym held_by_rows)

-- words in the place of as many others
pub refilled : (items new : List ℕ) (count : ℕ) → count ≡ length items → length new ≡ length items → take count (new ++ drop (length new) items) ≡ new
refilled items new count many whole =
    let same : count ≡ length new = omega (arith, many, whole) in
    ap (λ n. take n (new ++ drop (length new) items)) same ∙ take-append_seam new (drop (length new) items)

pub one_at_most : {X : Type 0} (o : Option X) → length (option_to_list o) ≤ 1
one_at_most None = omega arith
one_at_most (Some x) = omega arith

-- the words of the one value, if there is one, in the first row
pub first_values : {X : Type 0} (words_of : X → List ℕ) (o : Option X) (size count : ℕ) (words : List ℕ) → count ≡ length (option_to_list o)
    → ((x : X) → o ≡ Some x → take size words ≡ words_of x) → rows count size (from_first 0 words) ≡ map words_of (option_to_list o)
unfolding rows
first_values words_of None size count words one is = ap (λ n. rows n size (from_first 0 words)) one
first_values words_of (Some x) size count words one is =
    ap (λ n. rows n size (from_first 0 words)) one
    ∙ ap (λ ws. take size ws ∷ []) (append-nil words)
    ∙ ap (λ ws. ws ∷ []) (is x refl)
