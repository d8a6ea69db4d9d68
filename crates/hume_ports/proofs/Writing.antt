-- A write in parts, each of which takes as much as it likes.
use Rattle.std.proofs.Common.{◌≡◌, ℕ, ◌+◌, ◌-◌, ◌≤◌, List, ◌++◌, length, take, drop, length-drop, arith, ap, sym, ◌∙◌, subst, Option}
use Rattle.std.proofs.Math.Seq.{take-add}
use Rattle.std.proofs.lemmas.List.{drop-drop, take_rest}
use Rattle.std.specs.Io.KnownBytes.{Appends}
use Rattle.std.proofs.KnownBytes.{Appends-trans}

-- so many of the bytes were taken, and these are left
pub record HasWritten (before now : Option (List ℕ)) (bytes rest : List ℕ) : Type 0 where
  pub count : ℕ
  pub within : count ≤ length bytes
  pub left : rest ≡ drop count bytes
  pub taken : Appends before now (take count bytes)

pub HasWritten-on : (before mid now : Option (List ℕ)) (bytes rest : List ℕ) (more : ℕ) → HasWritten before mid bytes rest → more ≤ length rest → Appends mid now (take more rest) → HasWritten before now bytes (take (length rest - more) (drop more rest))
HasWritten-on before mid now bytes rest more h fits t =
    let P : List ℕ → Type 0 = λ front. Appends before now front in
    let Q : List ℕ → Type 0 = λ left. Appends mid now (take more left) in
    let front : take (h.count + more) bytes ≡ take h.count bytes ++ take more (drop h.count bytes) = take-add h.count more bytes in
    record {
      count = h.count + more;
      within = omega (arith, h.within, fits, ap length h.left, length-drop h.count bytes);
      left = take_rest rest more ∙ ap (drop more) h.left ∙ drop-drop more h.count bytes;
      taken = subst P (sym front) (Appends-trans before mid now (take h.count bytes) (take more (drop h.count bytes)) h.taken (subst Q h.left t));
    }
