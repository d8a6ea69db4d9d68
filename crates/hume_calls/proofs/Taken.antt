-- What is taken of the words of a call.
use Rattle.std.proofs.Common.{◌≡◌, ◌≤◌, ◌+◌, ℕ, List, drop, take, length, arith}
use Rattle.std.proofs.lemmas.List.{length-drop, take_all}

-- what is taken behind the first words, if it reaches to the last one
pub take_rest : {A : Type 0} (n count : ℕ) (words : List A) → length words ≤ n + count → take count (drop n words) ≡ drop n words
take_rest n count words enough = take_all count (drop n words) (let left = length-drop n words in omega (arith, left, enough))
