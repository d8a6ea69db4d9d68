-- Whole lines, and the begun line behind them.
use Rattle.std.proofs.Common.{◌≡◌, ℕ, ◌+◌, ◌<◌, Bool, true, false, List, [], ◌∷◌, ◌++◌, map, length, take, None, refl, ap, sym, ◌∙◌, subst, arith, cond, eqb, append_assoc, append-nil, length-append}
use Rattle.std.proofs.Math.Seq.{take-append_seam}
use Rattle.hume_base.specs.declared.types.Ty.{Ty}
use Rattle.hume_base.specs.declared.types.Types.{Types}
use Rattle.hume_base.specs.declared.types.Value.{Value}
use Rattle.hume_base.specs.Flat.{flat}
use Rattle.hume_streams.specs.Lines.{in_front, lines_of, in_front_of_whole, whole_lines}
use Rattle.hume_streams.specs.Good.{HoldValues, IsGoodUntil}
use Rattle.hume_streams.specs.Queues.{QueueView, IsQueueOf}
use Rattle.hume_streams.specs.Fills.{HasReadWholeLines}
use Rattle.hume_streams.specs.inner.Newlines.{HasNoNewline}
use Rattle.hume_streams.proofs.Newlines.{lines_of-all, lines_of-front, no_newline-push}

-- Bytes are their whole lines and those of a begun line. What follows them begins a line of its own behind the whole ones.
record IsSplit (bytes whole : List ℕ) : Type 0 where
  begun : List ℕ
  split : bytes ≡ whole ++ begun
  no_newline : HasNoNewline begun
  ends : (rest : List ℕ) → lines_of (whole ++ rest) ≡ lines_of whole ++ lines_of rest

lines_of-newline_first : (byte : ℕ) (bytes : List ℕ) → eqb byte 10 ≡ true → lines_of (byte ∷ bytes) ≡ [] ∷ lines_of bytes
lines_of-newline_first byte bytes e = ap (λ b. cond b ([] ∷ lines_of bytes) (in_front byte (lines_of bytes))) e

-- a line begins where there is a byte
lines_of-some : (byte : ℕ) (bytes : List ℕ) → (line : List ℕ) × (others : List (List ℕ)) × (lines_of (byte ∷ bytes) ≡ line ∷ others)
lines_of-some byte bytes = by_byte (eqb byte 10) refl
  where
    by_lines : (lines : List (List ℕ)) → (line : List ℕ) × (others : List (List ℕ)) × (in_front byte lines ≡ line ∷ others)
    by_lines [] = (byte ∷ [], [], refl)
    by_lines (line ∷ lines) = (byte ∷ line, lines, refl)

    by_byte : (b : Bool) → eqb byte 10 ≡ b → (line : List ℕ) × (others : List (List ℕ)) × (lines_of (byte ∷ bytes) ≡ line ∷ others)
    by_byte true e = ([], lines_of bytes, lines_of-newline_first byte bytes e)
    by_byte false e = let some = by_lines (lines_of bytes) in (some.0, some.1, lines_of-front byte bytes e ∙ some.2)

in_front-append : (byte first : ℕ) (bytes rest : List ℕ) → in_front byte (lines_of (first ∷ bytes) ++ lines_of rest) ≡ in_front byte (lines_of (first ∷ bytes)) ++ lines_of rest
in_front-append byte first bytes rest =
    let some = lines_of-some first bytes in
    ap (λ ls. in_front byte (ls ++ lines_of rest)) some.2 ∙ sym (ap (λ ls. in_front byte ls ++ lines_of rest) some.2)

split_newline : (byte : ℕ) (bytes : List ℕ) → eqb byte 10 ≡ true → IsSplit bytes (whole_lines bytes) → IsSplit (byte ∷ bytes) (byte ∷ whole_lines bytes)
split_newline byte bytes e s = record {
  begun = s.begun;
  split = ap (λ bs. byte ∷ bs) s.split;
  no_newline = s.no_newline;
  ends = λ rest.
      lines_of-newline_first byte (whole_lines bytes ++ rest) e ∙ ap (λ ls. [] ∷ ls) (s.ends rest)
      ∙ sym (ap (λ ls. ls ++ lines_of rest) (lines_of-newline_first byte (whole_lines bytes) e));
}

split_other : (byte : ℕ) (bytes whole : List ℕ) → eqb byte 10 ≡ false → IsSplit bytes whole → IsSplit (byte ∷ bytes) (in_front_of_whole byte whole)
split_other byte bytes [] e s = record {
  begun = byte ∷ s.begun;
  split = ap (λ bs. byte ∷ bs) s.split;
  no_newline = (e, s.no_newline);
  ends = λ rest. refl;
}
split_other byte bytes (first ∷ whole) e s = record {
  begun = s.begun;
  split = ap (λ bs. byte ∷ bs) s.split;
  no_newline = s.no_newline;
  ends = λ rest.
      lines_of-front byte (first ∷ whole ++ rest) e ∙ ap (in_front byte) (s.ends rest) ∙ in_front-append byte first whole rest
      ∙ sym (ap (λ ls. ls ++ lines_of rest) (lines_of-front byte (first ∷ whole) e));
}

split_by : (byte : ℕ) (bytes : List ℕ) (b : Bool) → eqb byte 10 ≡ b → IsSplit bytes (whole_lines bytes)
    → IsSplit (byte ∷ bytes) (cond b (byte ∷ whole_lines bytes) (in_front_of_whole byte (whole_lines bytes)))
split_by byte bytes true e s = split_newline byte bytes e s
split_by byte bytes false e s = split_other byte bytes (whole_lines bytes) e s

split_of : (bytes : List ℕ) → IsSplit bytes (whole_lines bytes)
split_of [] = record { begun = []; split = refl; no_newline = tt; ends = λ rest. refl }
split_of (byte ∷ bytes) = split_by byte bytes (eqb byte 10) refl (split_of bytes)

last_same : {X : Type 0} (xs ys : List X) (x y : X) → xs ++ x ∷ [] ≡ ys ++ y ∷ [] → xs ≡ ys
last_same xs ys x y e =
    let same : length xs ≡ length ys = omega (arith, length-append xs (x ∷ []), length-append ys (y ∷ []), ap length e) in
    sym (take-append_seam xs (x ∷ [])) ∙ ap (take (length xs)) e ∙ ap (λ n. take n (ys ++ y ∷ [])) same ∙ take-append_seam ys (y ∷ [])

-- a begun line goes on with a byte that is no newline
begun_line : (begun : List ℕ) → HasNoNewline begun → lines_of (begun ++ 0 ∷ []) ≡ (begun ++ 0 ∷ []) ∷ []
begun_line begun h = lines_of-all (begun ++ 0 ∷ []) (no_newline-push begun 0 h refl) (omega (arith, length-append begun (0 ∷ [])))

-- the lines that a queue has read of what was taken are the whole ones
pub taken_given : (types : Types) (ty : Ty) (queue : QueueView) (taken : List ℕ) (given : List Value) → HasReadWholeLines queue
    → ((rest : List ℕ) → IsQueueOf types ty queue (taken ++ rest) given rest)
    → (held : List Value) × (queue.values ≡ map (flat types ty) held) × IsGoodUntil types ty (whole_lines taken) (given ++ held) None
taken_given types ty queue taken given read right =
    let q = right (0 ∷ []) in
    let s = split_of taken in
    let u = split_of queue.unread in
    let unread : queue.unread ≡ u.begun = u.split ∙ ap (λ w. w ++ u.begun) read.begun in
    let all : lines_of (taken ++ 0 ∷ []) ≡ lines_of (whole_lines taken) ++ (s.begun ++ 0 ∷ []) ∷ [] =
    ap (λ bs. lines_of (bs ++ 0 ∷ [])) s.split ∙ ap lines_of (append_assoc (whole_lines taken) s.begun (0 ∷ [])) ∙ s.ends (s.begun ++ 0 ∷ [])
    ∙ ap (λ ls. lines_of (whole_lines taken) ++ ls) (begun_line s.begun s.no_newline) in
    let others : lines_of (taken ++ 0 ∷ []) ≡ q.read ++ (u.begun ++ 0 ∷ []) ∷ [] =
    q.split ∙ ap (λ bs. q.read ++ lines_of (bs ++ 0 ∷ [])) unread ∙ ap (λ ls. q.read ++ ls) (begun_line u.begun u.no_newline) in
    let same : lines_of (whole_lines taken) ≡ q.read = last_same (lines_of (whole_lines taken)) q.read (s.begun ++ 0 ∷ []) (u.begun ++ 0 ∷ []) (sym all ∙ others) in
    (q.held, q.words, record { before = q.read; others = []; split = same ∙ sym (append-nil q.read); values = q.values; first_bad = refl })
