-- What is read of a source or a script.
use Rattle.std.proofs.Common.{◌≡◌, ℕ, ◌<◌, ◌≤◌, List, [], ◌∷◌, ◌++◌, length, take, Option, Some, None, IfSome, ap, sym, ◌∙◌, subst, arith}
use Rattle.std.proofs.lemmas.List.{length-take, take_all}
use Rattle.std.proofs.Math.Seq.{take-append_seam}
use Rattle.hume_ports.specs.Port.{PortView}
use Rattle.hume_ports.specs.Ports.{left_of, ForNameAt, Untouched}
use Rattle.hume_ports.specs.Delivery.{Progress, ReadFailure, Roomy, bytes_for}
use Rattle.hume_ports.proofs.Names.{bytes_for-one}
use Rattle.port_acts.specs.Early.{read_each}
use Rattle.port_acts.specs.Ends.{Made, Fails}
use Rattle.port_acts.proofs.Single.{want_made, want_fails, only_of}
use Rattle.hume_calls.specs.Few.{source_few}

-- what is kept of a buffer of the length of the whole that was filled so far
pub kept : (count len : ℕ) (buf rest text : List ℕ) → text ≡ take count (take len (buf ++ rest)) → len ≡ length buf → text ≡ take count buf
kept count len buf rest text is whole =
    let all : take len (buf ++ rest) ≡ buf = rw whole (take-append_seam buf rest) in
    is ∙ ap (take count) all

-- no more is kept than the buffer holds
pub source_short : (most : ℕ) (olds : List PortView) (at count : ℕ) (buf text : List ℕ) → text ≡ take count buf → length buf ≡ most
    → ForNameAt at olds (λ name. IfSome (left_of name olds) (λ bytes. take count buf ≡ take (length buf) bytes)) → length text ≤ most
source_short most olds at count buf text is long front = let n = length-take count buf in let same = ap length is in omega (arith, n, same, long)

pub kept_whole : (most : ℕ) (olds : List PortView) (at count : ℕ) (buf text : List ℕ) → text ≡ take count buf → length buf ≡ most
    → ForNameAt at olds (λ name. IfSome (left_of name olds) (λ bytes. take count buf ≡ take (length buf) bytes)) → take most text ≡ text
kept_whole most olds at count buf text is long front = take_all most text (source_short most olds at count buf text is long front)

pub source_made : (most : ℕ) (olds news : List PortView) (at count : ℕ) (buf text : List ℕ) → text ≡ take count buf
    → ForNameAt at olds (λ name. Progress olds news ((name, take count buf) ∷ []) []) → ForNameAt at olds (λ name. Untouched (name ∷ []) olds news)
    → ForNameAt at olds (λ name. Made (read_each ((name, most) ∷ [])) ((name, text) ∷ []) olds news)
source_made most olds news at count buf text is taken untouched name place =
    let P : List ℕ → Type 0 = λ bytes. Progress olds news ((name, bytes) ∷ []) [] in
    want_made name most text olds news (subst P (sym is) (taken name place)) (untouched name place)

text_of_left : (most : ℕ) (left : Option (List ℕ)) (count : ℕ) (buf text : List ℕ) → text ≡ take count buf → length buf ≡ most
    → IfSome left (λ bytes. take count buf ≡ take (length buf) bytes) → IfSome left (λ bytes. text ≡ take most bytes)
text_of_left most None count buf text is long front = tt
text_of_left most (Some bytes) count buf text is long front = is ∙ front ∙ ap (λ n. take n bytes) long

pub source_is : (most : ℕ) (olds : List PortView) (at count : ℕ) (buf text : List ℕ) → text ≡ take count buf → length buf ≡ most
    → ForNameAt at olds (λ name. IfSome (left_of name olds) (λ bytes. take count buf ≡ take (length buf) bytes))
    → ForNameAt at olds (λ name. IfSome (left_of name olds) (λ bytes. text ≡ take most bytes))
source_is most olds at count buf text is long front name place = text_of_left most (left_of name olds) count buf text is long (front name place)

pub source_failed : (most : ℕ) (olds news : List PortView) (at : ℕ) (buf : List ℕ) → length buf ≡ most
    → ForNameAt at olds (λ name. (count : ℕ) × (count < length buf) × ReadFailure name olds news ((name, take count buf) ∷ []) [])
    → (Roomy olds [] → ⊥) → ForNameAt at olds (λ name. Untouched (name ∷ []) olds news)
    → ForNameAt at olds (λ name. Fails (source_few name) [] (read_each ((name, most) ∷ [])) olds news)
source_failed most olds news at buf long failed no_room untouched name place =
    let f = failed name place in
    let few : length (take f.0 buf) < most = let n = length-take f.0 buf in let less = f.1 in omega (arith, n, less, long) in
    let bytes : bytes_for name ((name, take f.0 buf) ∷ []) ≡ take f.0 buf = bytes_for-one name (take f.0 buf) in
    want_fails (source_few name) [] name most ((name, take f.0 buf) ∷ []) olds news f.2 (only_of name most (take f.0 buf))
    (λ same. subst (λ (all : List ℕ). length all < most) (sym bytes) few) no_room (untouched name place)
