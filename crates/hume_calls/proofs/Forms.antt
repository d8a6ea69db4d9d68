-- What words ask for, by how many there are.
use Rattle.std.proofs.Common.{◌≡◌, ◌≤◌, ◌<◌, ℕ, Bool, true, ◌&&◌, List, [], ◌∷◌, drop, take, map, length, Option, None, Some, if◌then◌else◌, slice_index_or, codes, refl, sym, ap, ◌∙◌, arith}
use Rattle.std.specs.Str.{bytes_eq}
use Rattle.std.proofs.Math.Dec.{leb}
use Rattle.std.proofs.lemmas.Bool.{le-leb}
use Rattle.std.proofs.lemmas.List.{length-map, take-map}
use Rattle.hume_calls.specs.declared.order.Order.{Order}
use Rattle.hume_calls.specs.declared.order.Order.TheVariants.{Check}
use Rattle.hume_calls.specs.Words.{all_differ, four_of, is_union, more_of, order_of}

-- a check, if so
abbrev pub check_if : Bool → Option Order
check_if is = if is then Some (Check 1) else None

module _ {A : Type 0} (bytes_of : A → List ℕ) where
  -- two words
  pub two_words : (words : List A) (command : A) (text : List ℕ) (test : Bool) → 2 ≤ length words → length words < 3
      → command ≡ slice_index_or words 0 command → text ≡ bytes_of command → test ≡ bytes_eq text (codes "check")
      → order_of (map bytes_of words) ≡ check_if test
  two_words [] command text test least less is named tested = absurd (omega arith)
  two_words (first ∷ []) command text test least less is named tested = absurd (omega arith)
  two_words (first ∷ second ∷ []) command text test least less is named tested =
      ap (λ (word : A). check_if (bytes_eq (bytes_of word) (codes "check"))) (sym is)
      ∙ ap (λ (bytes : List ℕ). check_if (bytes_eq bytes (codes "check"))) (sym named) ∙ ap check_if (sym tested)
  two_words (first ∷ second ∷ third ∷ words) command text test least less is named tested = absurd (omega arith)

  -- three words have no form
  pub three_words : (words : List A) → 3 ≤ length words → length words < 4 → order_of (map bytes_of words) ≡ None
  three_words [] least less = absurd (omega arith)
  three_words (first ∷ []) least less = absurd (omega arith)
  three_words (first ∷ second ∷ []) least less = absurd (omega arith)
  three_words (first ∷ second ∷ third ∷ []) least less = refl
  three_words (first ∷ second ∷ third ∷ fourth ∷ words) least less = absurd (omega arith)

  -- four words
  pub four_words : (words : List A) (one two three four : A) → 4 ≤ length words → length words < 5 → one ≡ slice_index_or words 0 one
      → two ≡ slice_index_or words 1 two → three ≡ slice_index_or words 2 three → four ≡ slice_index_or words 3 four
      → order_of (map bytes_of words) ≡ four_of (bytes_of one) (bytes_of two) (bytes_of three) (bytes_of four)
  four_words [] one two three four least less a b c d = absurd (omega arith)
  four_words (p ∷ []) one two three four least less a b c d = absurd (omega arith)
  four_words (p ∷ q ∷ []) one two three four least less a b c d = absurd (omega arith)
  four_words (p ∷ q ∷ r ∷ []) one two three four least less a b c d = absurd (omega arith)
  four_words (p ∷ q ∷ r ∷ s ∷ []) one two three four least less a b c d = rw (a, b, c, d) refl
  four_words (p ∷ q ∷ r ∷ s ∷ t ∷ words) one two three four least less a b c d = absurd (omega arith)

  -- five words or more
  pub more_words : (words : List A) (command steps workers third : A) (more : List A) → 5 ≤ length words → command ≡ slice_index_or words 0 command
      → steps ≡ slice_index_or words 1 steps → workers ≡ slice_index_or words 2 workers → third ≡ slice_index_or words 3 third → more ≡ drop 4 words
      → order_of (map bytes_of words) ≡ more_of (bytes_of command) (bytes_of steps) (bytes_of workers) (bytes_of third) (map bytes_of more)
  more_words [] command steps workers third more least is at by count rest = absurd (omega arith)
  more_words (one ∷ []) command steps workers third more least is at by count rest = absurd (omega arith)
  more_words (one ∷ two ∷ []) command steps workers third more least is at by count rest = absurd (omega arith)
  more_words (one ∷ two ∷ three ∷ []) command steps workers third more least is at by count rest = absurd (omega arith)
  more_words (one ∷ two ∷ three ∷ four ∷ []) command steps workers third more least is at by count rest = absurd (omega arith)
  more_words (one ∷ two ∷ three ∷ four ∷ five ∷ words) command steps workers third more least is at by count rest = rw (is, at, by, count, rest) refl

-- several sources, of which as many are named as are counted
pub counted_words : {A : Type 0} (bytes_of : A → List ℕ) (words named : List A) (count : ℕ) (test : Bool) → 2 ≤ count → count ≤ 8 → count ≤ length words
    → named ≡ take count words → test ≡ all_differ (map bytes_of named) → test ≡ is_union count (map bytes_of words)
counted_words {A} bytes_of words named count test least most enough is tested =
    let some : leb 2 count ≡ true = le-leb 2 count least in
    let few : leb count 8 ≡ true = le-leb count 8 most in
    let there : leb count (length (map bytes_of words)) ≡ true = le-leb count (length (map bytes_of words)) (let n = length-map words bytes_of in omega (arith, n, enough)) in
    let differ : test ≡ all_differ (take count (map bytes_of words)) =
    tested ∙ ap (λ (ws : List A). all_differ (map bytes_of ws)) is ∙ ap all_differ (sym (take-map bytes_of count words)) in
    differ ∙ ap (λ (b : Bool). b && all_differ (take count (map bytes_of words))) (sym there)
    ∙ ap (λ (b : Bool). b && (leb count (length (map bytes_of words)) && all_differ (take count (map bytes_of words)))) (sym few)
    ∙ ap (λ (b : Bool). b && (leb count 8 && (leb count (length (map bytes_of words)) && all_differ (take count (map bytes_of words))))) (sym some)
