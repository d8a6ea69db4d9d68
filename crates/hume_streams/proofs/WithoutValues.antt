-- A queue with the values that it holds, and the same queue without them.
use Rattle.std.proofs.Common.{◌≡◌, ℕ, true, List, [], ◌∷◌, ◌++◌, map, length, min, refl, ap, sym, ◌∙◌, subst, append-nil}
use Rattle.hume_base.specs.declared.types.Ty.{Ty}
use Rattle.hume_base.specs.declared.types.Types.{Types}
use Rattle.hume_base.specs.declared.types.Value.{Value}
use Rattle.hume_base.specs.Flat.{flat}
use Rattle.hume_ports.specs.Port.{last_count}
use Rattle.hume_streams.specs.Lines.{lines_of}
use Rattle.hume_streams.specs.Good.{HoldValues, empty_at_end}
use Rattle.hume_streams.specs.Queues.{QueueView, IsQueueOf, without_values}

no_words : {X Y : Type 0} (f : X → Y) (xs : List X) → ◌≡◌ {A = List Y} [] (map f xs) → xs ≡ []
no_words f [] e = refl
no_words f (x ∷ xs) e = cc

module _ (types : Types) (ty : Ty) (queue : QueueView) (text : List ℕ) where
  -- the lines that were read hold the values that were read
  pub values_read : (values : List Value) (rest : List ℕ) (q : IsQueueOf types ty (without_values queue) text values rest) → HoldValues types ty q.read values
  values_read values rest q =
      let none = no_words (flat types ty) q.held q.words in
      subst (λ vs. HoldValues types ty q.read vs) (ap (λ vs. values ++ vs) none ∙ append-nil values) q.values

  pub right_without : (values : List Value) (rest : List ℕ) (read : List (List ℕ)) → lines_of text ≡ read ++ lines_of (queue.unread ++ rest)
      → HoldValues types ty read values → queue.lines ≡ min (length read) last_count → queue.empty ≡ empty_at_end read
      → (queue.ended ≡ true → rest ≡ []) → IsQueueOf types ty (without_values queue) text values rest
  right_without values rest read split hold lines empty ended = record {
    read = read;
    held = [];
    split = split;
    values = subst (λ vs. HoldValues types ty read vs) (sym (append-nil values)) hold;
    words = refl;
    lines = lines;
    empty = empty;
    ended = ended;
  }

  -- what is right with the values that it holds is right without them
  pub leave_values : (given : List Value) (rest : List ℕ) → IsQueueOf types ty queue text given rest
      → (held : List Value) × (queue.values ≡ map (flat types ty) held) × IsQueueOf types ty (without_values queue) text (given ++ held) rest
  leave_values given rest q = (q.held, q.words, right_without (given ++ q.held) rest q.read q.split q.values q.lines q.empty q.ended)

  -- and the other way round
  pub hold_values : (given held : List Value) (rest : List ℕ) → queue.values ≡ map (flat types ty) held
      → IsQueueOf types ty (without_values queue) text (given ++ held) rest → IsQueueOf types ty queue text given rest
  hold_values given held rest words q = record {
    read = q.read;
    held = held;
    split = q.split;
    values = values_read (given ++ held) rest q;
    words = words;
    lines = q.lines;
    empty = q.empty;
    ended = q.ended;
  }
