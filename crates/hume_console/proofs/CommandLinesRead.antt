-- How many lines of commands were read.
use Rattle.std.proofs.Common.{◌≡◌, ℕ, suc, ◌+◌, ◌<◌, Bool, true, false, cond, eqb, List, [], ◌∷◌, ◌++◌, length, refl, ap, sym, ◌∙◌, arith, length-append, append_assoc}
use Rattle.hume_streams.specs.Lines.{in_front, lines_of, in_front_of_whole, whole_lines}
use Rattle.hume_console.specs.inner.Answering.{HasTaken}

in_front-some : (byte first : ℕ) (bytes : List ℕ) → length (in_front byte (lines_of (first ∷ bytes))) ≡ length (lines_of (first ∷ bytes))
in_front-some byte first bytes = by (eqb first 10) (lines_of bytes)
  where
    by : (b : Bool) (lines : List (List ℕ))
        → length (in_front byte (cond b ([] ∷ lines) (in_front first lines))) ≡ length (cond b ([] ∷ lines) (in_front first lines))
    by true lines = refl
    by false [] = refl
    by false (line ∷ lines) = refl

-- a begun line is one more than the whole ones
one_begun : (bytes : List ℕ) → length (lines_of (bytes ++ 0 ∷ [])) ≡ suc (length (lines_of (whole_lines bytes)))
one_begun [] = refl
one_begun (byte ∷ bytes) = by (eqb byte 10) refl (one_begun bytes)
  where
    front : (lines : List (List ℕ)) (whole : List ℕ) → length lines ≡ suc (length (lines_of whole)) → eqb byte 10 ≡ false
        → length (in_front byte lines) ≡ suc (length (lines_of (in_front_of_whole byte whole)))
    front [] whole same other = absurd (omega (arith, same))
    front (line ∷ lines) [] same other = same
    front (line ∷ lines) (first ∷ whole) same other =
        same ∙ ap suc (sym (ap (λ b. length (cond b ([] ∷ lines_of (first ∷ whole)) (in_front byte (lines_of (first ∷ whole))))) other ∙ in_front-some byte first whole))

    by : (b : Bool) → eqb byte 10 ≡ b → length (lines_of (bytes ++ 0 ∷ [])) ≡ suc (length (lines_of (whole_lines bytes)))
        → length (cond b ([] ∷ lines_of (bytes ++ 0 ∷ [])) (in_front byte (lines_of (bytes ++ 0 ∷ []))))
        ≡ suc (length (lines_of (cond b (byte ∷ whole_lines bytes) (in_front_of_whole byte (whole_lines bytes)))))
    by true here same = ap suc same ∙ ap suc (sym (ap (λ b. length (cond b ([] ∷ lines_of (whole_lines bytes)) (in_front byte (lines_of (whole_lines bytes))))) here))
    by false other same = front (lines_of (bytes ++ 0 ∷ [])) (whole_lines bytes) same other

pub taken_none : (ended : Bool) → HasTaken [] ended [] 1
taken_none ended = record { gone = []; count = refl; split = λ rest end. refl }

-- more was read
pub taken_more : (bytes more unread : List ℕ) (was now : Bool) (number : ℕ) → (was ≡ true → (more ≡ []) × (now ≡ true)) → HasTaken bytes was unread number
    → HasTaken (bytes ++ more) now (unread ++ more) number
taken_more bytes more unread was now number stays it = record {
  gone = it.gone;
  count = it.count;
  split = λ rest end.
      ap lines_of (append_assoc bytes more rest)
      ∙ it.split (more ++ rest) (λ over. (let s = stays over in ap (λ (bs : List ℕ). bs ++ rest) s.0 ∙ end s.1))
      ∙ ap (λ (bs : List ℕ). it.gone ++ lines_of bs) (sym (append_assoc unread more rest));
}

-- a line was taken
pub taken_line : (bytes unread line later : List ℕ) (ended : Bool) (number : ℕ)
    → ((rest : List ℕ) → (ended ≡ true → rest ≡ []) → lines_of (unread ++ rest) ≡ line ∷ lines_of (later ++ rest)) → HasTaken bytes ended unread number
    → HasTaken bytes ended later (number + 1)
taken_line bytes unread line later ended number next it = record {
  gone = it.gone ++ line ∷ [];
  count = (let was = it.count in omega (arith, length-append it.gone (line ∷ []), was));
  split = λ rest end.
      it.split rest end ∙ ap (λ (lines : List (List ℕ)). it.gone ++ lines) (next rest end)
      ∙ sym (append_assoc it.gone (line ∷ []) (lines_of (later ++ rest)));
}

-- where no whole line is unread, there are fewer whole lines than the next line's number
pub few_taken : (bytes unread : List ℕ) (ended : Bool) (number : ℕ) → ended ≡ false → whole_lines unread ≡ [] → HasTaken bytes ended unread number
    → length (lines_of (whole_lines bytes)) < number
few_taken bytes unread ended number going begun it =
    let all : length (lines_of (bytes ++ 0 ∷ [])) ≡ length it.gone + length (lines_of (unread ++ 0 ∷ [])) =
    ap length (it.split (0 ∷ []) (λ over. (let never : true ≡ false = sym over ∙ going in cc))) ∙ length-append it.gone (lines_of (unread ++ 0 ∷ [])) in
    let one : length (lines_of (unread ++ 0 ∷ [])) ≡ 1 = one_begun unread ∙ ap (λ bs. suc (length (lines_of bs))) begun in
    let count = it.count in
    omega (arith, all, one, one_begun bytes, count)
