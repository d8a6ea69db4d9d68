-- A fill, line by line.
use Rattle.std.proofs.Common.{◌≡◌, ℕ, ◌+◌, ◌<◌, ◌≤◌, min, Bool, true, false, List, [], ◌∷◌, ◌++◌, map, length, take, drop, Option, Some, None, refl, ap, sym, ◌∙◌, subst, arith, append_assoc, append-nil, length-append, inl, inr, cond, ◌⊎◌, Ok, Err, ◌*◌, ◌-◌}
use Rattle.std.proofs.lemmas.List.{take_all, take-append-le, map-append}
use Rattle.std.proofs.lemmas.List.Folds.{list_all-append}
use Rattle.std.specs.List.{list_all}
use Rattle.std.specs.Io.KnownBytes.{Consumes, IsAtEnd}
use Rattle.hume_base.specs.declared.types.Ty.{Ty}
use Rattle.hume_base.specs.declared.types.Types.{Types}
use Rattle.hume_base.specs.declared.types.Value.{Value}
use Rattle.hume_base.specs.Flat.{flat}
use Rattle.hume_base.specs.Values.{is_value}
use Rattle.std.specs.Option.{is_some}
use Rattle.hume_ports.specs.Port.{PortView, Rose, last_count, next_count}
use Rattle.hume_streams.specs.declared.queue.FillError.{FillError}
use Rattle.hume_streams.specs.declared.queue.FillError.TheVariants.{BadValue, Failed}
use Rattle.hume_streams.specs.declared.buffer.LineBuffer.{LineBuffer}
use Rattle.hume_streams.specs.declared.buffer.Next.TheVariants.{Line, TooLong as TooLongNext, End}
use Rattle.hume_streams.specs.Lines.{lines_of}
use Rattle.hume_streams.specs.Good.{IsBad, TooLong, NoText, TooManyEmpty, HoldValues, IsGoodUntil, empty_at_end}
use Rattle.hume_streams.specs.Contents.{unread_in}
use Rattle.hume_streams.specs.Queues.{QueueView, IsQueueOf, without_values}
use Rattle.hume_streams.specs.Fills.{Drawn, KnowsEnd, Gains, StandsBefore, EndsFill, Fills}
use Rattle.hume_streams.specs.inner.Buffers.{Draws, IsNext, FailsAfter}
use Rattle.hume_streams.specs.inner.Steps.{IsStep, IsEmptyStep, IsValueStep, IsRefused}
use Rattle.hume_streams.proofs.Drawing.{drawn_none, drawn_on}
use Rattle.hume_streams.proofs.Judging.{empty_at_end-push, hold-empty, hold-value}
use Rattle.hume_streams.proofs.WithoutValues.{right_without, values_read}

-- what a read does to a queue
pub record IsReadStep (bytes : List ℕ) (old new : QueueView) : Type 0 where
  pub unread : new.unread ≡ old.unread ++ bytes
  pub values : new.values ≡ old.values
  pub width : new.width ≡ old.width
  pub span : new.span ≡ old.span
  pub lines : new.lines ≡ old.lines
  pub empty : new.empty ≡ old.empty

pub queue_read : (types : Types) (ty : Ty) (old new : QueueView) (bytes text : List ℕ) (values : List Value) (rest : List ℕ) → IsReadStep bytes old new
    → (new.ended ≡ true → rest ≡ []) → IsQueueOf types ty (without_values old) text values (bytes ++ rest) → IsQueueOf types ty (without_values new) text values rest
queue_read types ty old new bytes text values rest step end h =
    right_without types ty new text values rest h.read
    (h.split ∙ ap (λ bs. h.read ++ lines_of bs) (sym (append_assoc old.unread bytes rest) ∙ ap (λ bs. bs ++ rest) (sym step.unread)))
    (values_read types ty old text values (bytes ++ rest) h) (step.lines ∙ h.lines) (step.empty ∙ h.empty) end

counted : (n m last : ℕ) → m ≡ n + 1 → min (min n last + 1) last ≡ min m last
counted n m last e = omega (arith, e)

-- the values of a line that was read: one, or none of an empty line
abbrev line_values : {types : Types} {ty : Ty} {line : List ℕ} {old new : QueueView} → (IsEmptyStep line old new ⊎ IsValueStep types ty line old new) → List Value
line_values (inl s) = []
line_values (inr s) = s.value ∷ []

pub queue_step : (types : Types) (ty : Ty) (old new : QueueView) (count : ℕ) (text : List ℕ) (values : List Value) (rest : List ℕ) → IsNext old.unread old.ended (Line count)
    → (step : IsStep types ty count (take count old.unread) old new) → IsQueueOf types ty (without_values old) text values rest
    → IsQueueOf types ty (without_values new) text (values ++ line_values step.step) rest
queue_step types ty old new count text values rest next step h = by_step step.step
  where
    line : List ℕ
    line = take count old.unread

    more : List (List ℕ)
    more = h.read ++ line ∷ []

    split_is : lines_of text ≡ more ++ lines_of (new.unread ++ rest)
    split_is =
        h.split ∙ ap (λ ls. h.read ++ ls) (next.1 rest h.ended)
        ∙ sym (append_assoc h.read (line ∷ []) (lines_of (drop (count + 1) old.unread ++ rest)))
        ∙ ap (λ bs. more ++ lines_of (bs ++ rest)) (sym step.unread)

    lines_are : new.lines ≡ min (length more) last_count
    lines_are = step.lines ∙ ap next_count h.lines ∙ counted (length h.read) (length more) last_count (length-append h.read (line ∷ []))

    held : HoldValues types ty h.read values
    held = values_read types ty old text values rest h

    ended_is : new.ended ≡ true → rest ≡ []
    ended_is e = h.ended (sym step.ended ∙ e)

    by_step : (s : IsEmptyStep line old new ⊎ IsValueStep types ty line old new) → IsQueueOf types ty (without_values new) text (values ++ line_values s) rest
    by_step (inl s) =
        right_without types ty new text (values ++ []) rest more split_is
        (subst (λ vs. HoldValues types ty more vs) (sym (append-nil values))
        (hold-empty types ty h.read values line held next.2 s.empty (omega (arith, s.few, h.empty)))) lines_are
        (s.row ∙ omega (arith, h.empty, empty_at_end-push h.read line ∙ ap (λ b. cond b (1 + empty_at_end h.read) 0) s.empty)) ended_is
    by_step (inr s) =
        right_without types ty new text (values ++ s.value ∷ []) rest more split_is
        (hold-value types ty h.read values line s.value held next.2 s.filled s.holds) lines_are
        (s.row ∙ sym (empty_at_end-push h.read line ∙ ap (λ b. cond b (1 + empty_at_end h.read) 0) s.filled)) ended_is

bad_at : (types : Types) (ty : Ty) (queue : QueueView) (text : List ℕ) (values : List Value) (rest : List ℕ)
    (h : IsQueueOf types ty (without_values queue) text values rest)
    (line : List ℕ) (others : List (List ℕ)) → lines_of (queue.unread ++ rest) ≡ line ∷ others → IsBad types ty h.read line
    → (number : ℕ) × (next_count queue.lines ≡ min number last_count) × IsGoodUntil types ty text values (Some number)
bad_at types ty queue text values rest h line others e bad = (
  length h.read + 1,
  ap next_count h.lines ∙ counted (length h.read) (length h.read + 1) last_count refl,
  record {
    before = h.read;
    others = line ∷ others;
    split = h.split ∙ ap (λ ls. h.read ++ ls) e;
    values = values_read types ty queue text values rest h;
    first_bad = (bad, refl);
  },
)

pub tells_long : (types : Types) (ty : Ty) (queue : QueueView) → IsNext queue.unread queue.ended TooLongNext → StandsBefore types ty queue (next_count queue.lines)
tells_long types ty queue next text values rest h =
    let n = next rest in
    bad_at types ty queue text values rest h (queue.unread ++ n.0) n.1 n.3 (TooLong n.2)

pub tells_refused : (types : Types) (ty : Ty) (queue : QueueView) (count : ℕ) → IsNext queue.unread queue.ended (Line count)
    → IsRefused types ty (take count queue.unread) queue → StandsBefore types ty queue (next_count queue.lines)
tells_refused types ty queue count next refused text values rest h =
    bad_at types ty queue text values rest h (take count queue.unread) _ (next.1 rest h.ended) (why refused)
  where
    why : IsRefused types ty (take count queue.unread) queue → IsBad types ty h.read (take count queue.unread)
    why (inl r) = TooManyEmpty r.0 (omega (arith, r.1, h.empty))
    why (inr r) = NoText r.0 r.1

-- nothing is left
pub all_read : (types : Types) (ty : Ty) (queue : QueueView) (text : List ℕ) (values : List Value) → queue.unread ≡ []
    → IsQueueOf types ty (without_values queue) text values [] → IsGoodUntil types ty text values None
all_read types ty queue text values none h = record {
  before = h.read;
  others = [];
  split = h.split ∙ ap (λ bs. h.read ++ lines_of (bs ++ [])) none;
  values = values_read types ty queue text values [] h;
  first_bad = refl;
}

-- what was done so far
pub record HasFilled (types : Types) (ty : Ty) (want : ℕ) (old new : QueueView) (before after : PortView) : Type 0 where
  pub bytes : List ℕ
  pub gained : List Value
  pub drawn : Drawn before after bytes
  pub end : KnowsEnd old new after bytes
  pub gains : Gains want old new
  pub words : new.values ≡ old.values ++ map (flat types ty) gained
  pub typed : list_all (is_value types ty) gained ≡ true
  pub goes_on : (text : List ℕ) (values : List Value) (rest : List ℕ) → (new.ended ≡ true → rest ≡ [])
      → IsQueueOf types ty (without_values old) text values (bytes ++ rest)
      → IsQueueOf types ty (without_values new) text (values ++ gained) rest
  pub quiet : after.read_faults ≡ before.read_faults
  pub idle : want ≤ length old.values → (new ≡ old) × (after ≡ before)

pub filled_start : (types : Types) (ty : Ty) (want : ℕ) (queue : QueueView) (port : PortView) → HasFilled types ty want queue queue port port
filled_start types ty want queue port = record {
  bytes = [];
  gained = [];
  drawn = drawn_none port;
  end = record { before = λ e. (refl, e); now = λ going ended. absurd (let d : true ≡ false = sym ended ∙ going in cc) };
  gains = record { kept = take_all (length queue.values) queue.values (omega arith); more = omega arith; bound = omega arith; width = refl; span = refl };
  words = sym (append-nil queue.values);
  typed = refl;
  goes_on = λ text values rest end h. subst (λ vs. IsQueueOf types ty (without_values queue) text vs rest) (sym (append-nil values)) h;
  quiet = refl;
  idle = λ enough. (refl, refl);
}

end_stays : (a b : Option (List ℕ)) (bytes : List ℕ) → IsAtEnd a → bytes ≡ [] → Consumes a b bytes → is_some b ≡ is_some a → IsAtEnd b
end_stays None None bytes end none c told = tt
end_stays None (Some ys) bytes end none c told = absurd (let d : true ≡ false = told in cc)
end_stays (Some xs) None bytes end none c told = absurd c
end_stays (Some xs) (Some ys) bytes end none c told = sym (sym end ∙ c ∙ ap (λ b. b ++ ys) none)

end_on : (old mid new : QueueView) (b c : PortView) (x y : List ℕ) → KnowsEnd old mid b x → Drawn b c y → (mid.ended ≡ true → (y ≡ []) × (new.ended ≡ true))
    → (mid.ended ≡ false → new.ended ≡ true → IsAtEnd c.left) → KnowsEnd old new c (x ++ y)
end_on old mid new b c x y h d before now = record {
  before = λ e. let m = h.before e in let n = before m.1 in (ap (λ bs. bs ++ y) m.0 ∙ n.0, n.1);
  now = λ going ended. by_mid mid.ended refl going ended;
}
  where
    by_mid : (e : Bool) → mid.ended ≡ e → old.ended ≡ false → new.ended ≡ true → IsAtEnd c.left
    by_mid true e going ended = end_stays b.left c.left y (h.now going e) (before e).0 d.left d.told
    by_mid false e going ended = now e ended

-- a read of the port more
abbrev pub with_buffer : QueueView → LineBuffer → QueueView
with_buffer queue buffer = record queue { unread = unread_in buffer; ended = buffer.ended }

pub read_step : (queue : QueueView) (old new : LineBuffer) (bytes : List ℕ) → queue.unread ≡ unread_in old → unread_in new ≡ unread_in old ++ bytes → IsReadStep bytes queue (with_buffer queue new)
read_step queue old new bytes same unread = record {
  unread = unread ∙ ap (λ bs. bs ++ bytes) (sym same);
  values = refl;
  width = refl;
  span = refl;
  lines = refl;
  empty = refl;
}

too_few : {X : Type 0} (want n m : ℕ) → n ≤ m → m < want → want ≤ n → X
too_few want n m a b c = absurd (omega (arith, a, b, c))

read_on : (types : Types) (ty : Ty) (want : ℕ) (old mid : QueueView) (new : QueueView) (a b : PortView) (x text : List ℕ) (values : List Value) (rest : List ℕ)
    → (h : HasFilled types ty want old mid a b) → IsReadStep x mid new → (new.ended ≡ true → rest ≡ []) → (mid.ended ≡ true → (x ≡ []) × (new.ended ≡ true))
    → IsQueueOf types ty (without_values old) text values ((h.bytes ++ x) ++ rest) → IsQueueOf types ty (without_values new) text (values ++ h.gained) rest
read_on types ty want old mid new a b x text values rest h step end kept q =
    queue_read types ty mid new x text (values ++ h.gained) rest step end
    (h.goes_on text values (x ++ rest)
    (λ e. let k = kept e in ap (λ bs. bs ++ rest) k.0 ∙ end k.1)
    (subst (λ bs. IsQueueOf types ty (without_values old) text values bs) (append_assoc h.bytes x rest) q))

pub filled_read : (types : Types) (ty : Ty) (want : ℕ) (old mid : QueueView) (a b c : PortView) (was now : LineBuffer) → HasFilled types ty want old mid a b
    → length mid.values < want → Draws was now b c → mid.unread ≡ unread_in was → mid.ended ≡ was.ended → HasFilled types ty want old (with_buffer mid now) a c
filled_read types ty want old mid a b c was now h few d unread was_ended = record {
  bytes = h.bytes ++ d.bytes;
  gained = h.gained;
  drawn = drawn_on a b c h.bytes d.bytes h.drawn d.drawn;
  end = end_on old mid (with_buffer mid now) b c h.bytes d.bytes h.end d.drawn (λ e. d.ended (sym was_ended ∙ e)) (λ going ended. d.end (sym was_ended ∙ going) ended);
  gains = record { kept = h.gains.kept; more = h.gains.more; bound = h.gains.bound; width = h.gains.width; span = h.gains.span };
  words = h.words;
  typed = h.typed;
  goes_on = λ text values rest end q.
      read_on types ty want old mid (with_buffer mid now) a b d.bytes text values rest h (read_step mid was now d.bytes unread d.unread) end (λ e. d.ended (sym was_ended ∙ e)) q;
  quiet = d.quiet ∙ h.quiet;
  idle = λ enough. too_few want (length old.values) (length mid.values) h.gains.more few enough;
}

-- a line more

one_more : (old mid new : List (List ℕ)) (row : List ℕ) → new ≡ mid ++ row ∷ [] → take (length old) mid ≡ old → length old ≤ length mid → take (length old) new ≡ old
one_more old mid new row e kept more = ap (take (length old)) e ∙ take-append-le (length old) mid (row ∷ []) more ∙ kept

gains_line : (types : Types) (ty : Ty) (want : ℕ) (old mid new : QueueView) (count : ℕ) (line : List ℕ) → Gains want old mid → length mid.values < want
    → IsStep types ty count line mid new → Gains want old new
gains_line types ty want old mid new count line g few step = by_step step.step
  where
    by_step : (IsEmptyStep line mid new ⊎ IsValueStep types ty line mid new) → Gains want old new
    by_step (inl s) = record {
      kept = ap (take (length old.values)) s.values ∙ g.kept;
      more = omega (arith, g.more, ap length s.values);
      bound = omega (arith, g.bound, ap length s.values);
      width = step.width ∙ g.width;
      span = step.span ∙ g.span;
    }
    by_step (inr s) =
        let longer : length new.values ≡ length mid.values + 1 = ap length s.values ∙ length-append mid.values (flat types ty s.value ∷ []) in record {
          kept = one_more old.values mid.values new.values (flat types ty s.value) s.values g.kept g.more;
          more = omega (arith, g.more, longer);
          bound = omega (arith, few, longer);
          width = step.width ∙ g.width;
          span = step.span ∙ g.span;
        }

-- what a line brings

line_words : (types : Types) (ty : Ty) (line : List ℕ) (old new : QueueView) → (s : IsEmptyStep line old new ⊎ IsValueStep types ty line old new)
    → new.values ≡ old.values ++ map (flat types ty) (line_values s)
line_words types ty line old new (inl s) = s.values ∙ sym (append-nil old.values)
line_words types ty line old new (inr s) = s.values

line_typed : (types : Types) (ty : Ty) (line : List ℕ) (old new : QueueView) → (s : IsEmptyStep line old new ⊎ IsValueStep types ty line old new)
    → list_all (is_value types ty) (line_values s) ≡ true
line_typed types ty line old new (inl s) = refl
line_typed types ty line old new (inr s) = rw s.holds.typed refl

all_both : (types : Types) (ty : Ty) (values more : List Value) → list_all (is_value types ty) values ≡ true → list_all (is_value types ty) more ≡ true
    → list_all (is_value types ty) (values ++ more) ≡ true
all_both types ty values more all also = list_all-append (is_value types ty) values more ∙ rw all also

pub filled_line : (types : Types) (ty : Ty) (want : ℕ) (old mid new : QueueView) (a b : PortView) (count : ℕ) → HasFilled types ty want old mid a b
    → length mid.values < want → IsNext mid.unread mid.ended (Line count) → IsStep types ty count (take count mid.unread) mid new → HasFilled types ty want old new a b
filled_line types ty want old mid new a b count h few next step =
    let line = take count mid.unread in
    let more = line_values step.step in
    record {
      bytes = h.bytes;
      gained = h.gained ++ more;
      drawn = h.drawn;
      end = record { before = λ e. let m = h.end.before e in (m.0, step.ended ∙ m.1); now = λ going ended. h.end.now going (sym step.ended ∙ ended) };
      gains = gains_line types ty want old mid new count line h.gains few step;
      words = line_words types ty line mid new step.step ∙ ap (λ rows. rows ++ map (flat types ty) more) h.words
          ∙ append_assoc old.values (map (flat types ty) h.gained) (map (flat types ty) more)
          ∙ ap (λ rows. old.values ++ rows) (sym (map-append (flat types ty) h.gained more));
      typed = all_both types ty h.gained more h.typed (line_typed types ty line mid new step.step);
      goes_on = λ text values rest end q.
          subst (λ vs. IsQueueOf types ty (without_values new) text vs rest) (append_assoc values h.gained more)
          (queue_step types ty mid new count text (values ++ h.gained) rest next step (h.goes_on text values rest (λ e. end (step.ended ∙ e)) q));
      quiet = h.quiet;
      idle = λ enough. too_few want (length old.values) (length mid.values) h.gains.more few enough;
    }

-- how it ends

pub fills_end : (types : Types) (ty : Ty) (want : ℕ) (old new : QueueView) (a b : PortView) → HasFilled types ty want old new a b → IsNext new.unread new.ended End
    → Fills types ty want old new a b (Ok tt)
fills_end types ty want old new a b h next = record {
  bytes = h.bytes;
  gained = h.gained;
  drawn = h.drawn;
  end = h.end;
  gains = h.gains;
  words = h.words;
  typed = h.typed;
  goes_on = h.goes_on;
  ends = (h.quiet, λ few. (next.1, λ text values q. all_read types ty new text values next.0 q));
}

pub fills_bad : (types : Types) (ty : Ty) (want : ℕ) (old new : QueueView) (a b : PortView) (line : ℕ) (error : FillError) → HasFilled types ty want old new a b
    → length new.values < want → StandsBefore types ty new line → error ≡ BadValue line → Fills types ty want old new a b (Err error)
fills_bad types ty want old new a b line error h few bad e = record {
  bytes = h.bytes;
  gained = h.gained;
  drawn = h.drawn;
  end = h.end;
  gains = h.gains;
  words = h.words;
  typed = h.typed;
  goes_on = h.goes_on;
  ends = subst (λ er. EndsFill types ty want new a b (Err er)) (sym e) (h.quiet, few, bad);
}

pub fills_refused : (types : Types) (ty : Ty) (want : ℕ) (old mid new : QueueView) (a b : PortView) (count : ℕ) (error : FillError) → HasFilled types ty want old mid a b
    → length mid.values < want → IsNext mid.unread mid.ended (Line count) → IsRefused types ty (take count mid.unread) mid → new ≡ mid
    → error ≡ BadValue (next_count new.lines) → Fills types ty want old new a b (Err error)
fills_refused types ty want old mid new a b count error h few next refused same e =
    subst (λ q. Fills types ty want old q a b (Err error)) (sym same)
    (fills_bad types ty want old mid a b (next_count mid.lines) error h few (tells_refused types ty mid count next refused) (e ∙ ap (λ (q : QueueView). BadValue (next_count q.lines)) same))

pub fills_failed : (types : Types) (ty : Ty) (want : ℕ) (old mid : QueueView) (a b c : PortView) (was now : LineBuffer) → HasFilled types ty want old mid a b
    → length mid.values < want → FailsAfter was now b c → mid.unread ≡ unread_in was → mid.ended ≡ was.ended
    → Fills types ty want old (with_buffer mid now) a c (Err Failed)
fills_failed types ty want old mid a b c was now h few d unread ended =
    let going : mid.ended ≡ false = ended ∙ d.ended.0 in
    let never : (e : Bool) → e ≡ true → e ≡ false → ⊥ = λ e t f. (let z : true ≡ false = sym t ∙ f in cc) in record {
      bytes = h.bytes ++ d.bytes;
      gained = h.gained;
      drawn = drawn_on a b c h.bytes d.bytes h.drawn d.drawn;
      end = end_on old mid (with_buffer mid now) b c h.bytes d.bytes h.end d.drawn (λ e. absurd (never mid.ended e going)) (λ running stopped. absurd (never now.ended stopped d.ended.1));
      gains = record { kept = h.gains.kept; more = h.gains.more; bound = h.gains.bound; width = h.gains.width; span = h.gains.span };
      words = h.words;
      typed = h.typed;
      goes_on = λ text values rest end q.
          read_on types ty want old mid (with_buffer mid now) a b d.bytes text values rest h (read_step mid was now d.bytes unread d.unread) end (λ e. absurd (never mid.ended e going)) q;
      ends = (subst (λ n. Rose n c.read_faults) h.quiet d.rose, few, sym (ap (λ (p : PortView). p.room) h.drawn.keeps) ∙ d.room, record { begun = d.begun; goes_on = d.ended.1 });
    }

-- each line brings a fill nearer to its end
pub line_smaller : (types : Types) (ty : Ty) (want : ℕ) (mid new : QueueView) (count : ℕ) (line : List ℕ) → length mid.values < want → IsStep types ty count line mid new
    → (want - length new.values) * 65537 + (65536 - new.empty) < (want - length mid.values) * 65537 + (65536 - mid.empty)
line_smaller types ty want mid new count line few step = by_step step.step
  where
    by_step : (IsEmptyStep line mid new ⊎ IsValueStep types ty line mid new) → (want - length new.values) * 65537 + (65536 - new.empty) < (want - length mid.values) * 65537 + (65536 - mid.empty)
    by_step (inl s) = omega (arith, s.few, s.row, ap length s.values)
    by_step (inr s) =
        let longer : length new.values ≡ length mid.values + 1 = ap length s.values ∙ length-append mid.values (flat types ty s.value ∷ []) in
        omega (arith, few, longer)
