-- What stands at the front of unread bytes of commands.
use Rattle.std.proofs.Common.{◌≡◌, ℕ, ◌+◌, ◌<◌, ◌≤◌, Bool, true, List, [], ◌∷◌, ◌++◌, length, take, drop, ap, sym, ◌∙◌, arith, append-nil, append_assoc, length-append}
use Rattle.std.specs.List.{slice_index}
use Rattle.std.proofs.lemmas.List.{take_all, drop_all, length-take-le}
use Rattle.hume_streams.specs.Lines.{lines_of}
use Rattle.hume_streams.specs.inner.Newlines.{HasNoNewline}
use Rattle.hume_streams.proofs.Newlines.{lines_of-newline, lines_of-begun, lines_of-all, split_at_newline}
use Rattle.hume_console.specs.declared.command_lines.Next.TheVariants.{Line, TooLong}
use Rattle.hume_console.specs.inner.CommandBuffers.{IsNext}

pub next_at_newline : (unread : List ℕ) (ended : Bool) (count : ℕ) → length unread ≤ 256 → count < length unread → slice_index unread count ≡ 10
    → HasNoNewline (take count unread) → IsNext unread ended (Line count)
next_at_newline unread ended count short within is none =
    let split : unread ≡ take count unread ++ (10 ∷ drop (count + 1) unread) = split_at_newline unread count within is in (
      omega (arith, within),
      omega (arith, within, short, length-take-le count unread (omega (arith, within))),
      λ rest end.
          ap (λ u. lines_of (u ++ rest)) split ∙ ap lines_of (append_assoc (take count unread) (10 ∷ drop (count + 1) unread) rest)
          ∙ lines_of-newline (take count unread) (drop (count + 1) unread ++ rest) none,
    )

pub next_too_long : (unread : List ℕ) (ended : Bool) → 255 < length unread → HasNoNewline unread → IsNext unread ended TooLong
next_too_long unread ended long none rest =
    let begun = lines_of-begun unread rest none (omega (arith, long)) in
    (begun.0, begun.1, omega (arith, long, length-append unread begun.0), begun.2)

pub next_last : (unread : List ℕ) (ended : Bool) → length unread ≤ 255 → 0 < length unread → HasNoNewline unread → ended ≡ true
    → IsNext unread ended (Line (length unread))
next_last unread ended short some none end =
    let all : take (length unread) unread ≡ unread = take_all (length unread) unread (omega arith) in (
      omega arith,
      omega (arith, short, ap length all),
      λ rest nothing.
          ap (λ r. lines_of (unread ++ r)) (nothing end) ∙ ap lines_of (append-nil unread) ∙ lines_of-all unread none some
          ∙ ap (λ (line : List ℕ). line ∷ lines_of []) (sym all)
          ∙ ap (λ (bs : List ℕ). take (length unread) unread ∷ lines_of bs) (sym (ap (λ r. drop (length unread + 1) unread ++ r) (nothing end)
          ∙ append-nil (drop (length unread + 1) unread) ∙ drop_all (length unread + 1) unread (omega arith))),
    )
