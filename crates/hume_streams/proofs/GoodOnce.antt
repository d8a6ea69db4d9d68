-- A text has its good values once.
use Rattle.std.proofs.Common.{◌≡◌, ℕ, ◌+◌, ◌<◌, ◌≤◌, not, List, [], ◌∷◌, ◌++◌, map, length, take, drop, Option, Some, refl, ap, sym, ◌∙◌, subst, arith, append_assoc, append-nil, length-append, inl, inr, ◌⊎◌}
use Rattle.std.specs.Prelude.{slice_get, filter}
use Rattle.std.specs.List.{AllZip}
use Rattle.std.proofs.Math.Seq.{take-append_seam, drop-append_seam}
use Rattle.std.proofs.lemmas.Bool.{cases_lt}
use Rattle.std.proofs.lemmas.List.Elements.{filter-append}
use Rattle.hume_base.specs.declared.types.Ty.{Ty}
use Rattle.hume_base.specs.declared.types.Types.{Types}
use Rattle.hume_base.specs.declared.types.Value.{Value}
use Rattle.hume_base.specs.Flat.{flat}
use Rattle.hume_text.specs.Names.{HaveNames}
use Rattle.hume_text.proofs.OneValue.{one_value}
use Rattle.hume_streams.specs.Lines.{lines_of, is_empty, without_return}
use Rattle.hume_streams.specs.Good.{IsBad, NoneBad, HoldsValue, IsFirstBad, IsGoodUntil}
use Rattle.hume_streams.specs.Queues.{QueueView, IsQueueOf}

tail_same : {X : Type 0} (x y : X) (xs ys : List X) → x ∷ xs ≡ y ∷ ys → xs ≡ ys
tail_same x y xs ys e = ap (drop 1) e

head_same : {X : Type 0} (x y : X) (xs ys : List X) → x ∷ xs ≡ y ∷ ys → x ≡ y
head_same x y xs ys e = let some : ◌≡◌ {A = Option _} (slice_get (x ∷ xs) 0) (slice_get (y ∷ ys) 0) = ap (λ l. slice_get l 0) e in cc

-- what stands behind a shorter front is in the longer one
front_get : {X : Type 0} (xs ys zs ws : List X) (line : X) → xs ++ line ∷ ys ≡ zs ++ ws → length xs < length zs → (slice_get zs (length xs) ≡ Some line) × (take (length xs) zs ≡ xs)
front_get xs ys [] ws line e l = absurd (omega (arith, l))
front_get [] ys (z ∷ zs) ws line e l = (ap Some (sym (head_same line z ys (zs ++ ws) e)), refl)
front_get (x ∷ xs) ys (z ∷ zs) ws line e l =
    let more = front_get xs ys zs ws line (tail_same x z (xs ++ line ∷ ys) (zs ++ ws) e) (omega (arith, l)) in
    (more.0, ap (λ y. y ∷ take (length xs) zs) (sym (head_same x z (xs ++ line ∷ ys) (zs ++ ws) e)) ∙ ap (λ l. x ∷ l) more.1)

longer_front : {X : Type 0} (xs ys zs ws : List X) → xs ++ ys ≡ zs ++ ws → length xs ≤ length zs → (more : List X) × (zs ≡ xs ++ more)
longer_front [] ys zs ws e l = (zs, refl)
longer_front (x ∷ xs) ys [] ws e l = absurd (omega (arith, l))
longer_front (x ∷ xs) ys (z ∷ zs) ws e l =
    let more = longer_front xs ys zs ws (tail_same x z (xs ++ ys) (zs ++ ws) e) (omega (arith, l)) in
    (more.0, ap (λ y. y ∷ zs) (sym (head_same x z (xs ++ ys) (zs ++ ws) e)) ∙ ap (λ l. x ∷ l) more.1)

-- lines of which none is bad don't reach past the first bad one
no_longer : (types : Types) (ty : Ty) (before others none later : List (List ℕ)) (bad : Option ℕ) → before ++ others ≡ none ++ later → IsFirstBad types ty before others bad
    → NoneBad types ty none → length none ≤ length before
no_longer types ty before [] none later bad e first all =
    let same : length before ≡ length none + length later = sym (ap length (append-nil before)) ∙ ap length e ∙ length-append none later in
    omega (arith, same)
no_longer types ty before (line ∷ others) none later bad e first all = by_length (cases_lt (length before) (length none))
  where
    by_length : (length before < length none ⊎ length none ≤ length before) → length none ≤ length before
    by_length (inr l) = l
    by_length (inl l) =
        let at = front_get before others none later line e l in
        absurd (all (length before) line at.0 (subst (λ ls. IsBad types ty ls line) (sym at.1) first.0))

zip_front : {A B : Type 0} (R : A → B → Type 0) → ((x : A) (v w : B) → R x v → R x w → v ≡ w) → (xs ys : List A) (vs ws : List B) → AllZip R xs vs → AllZip R (xs ++ ys) ws
    → (later : List B) × (ws ≡ vs ++ later)
zip_front R one [] ys [] ws z q = (ws, refl)
zip_front R one [] ys (v ∷ vs) ws z q = absurd z
zip_front R one (x ∷ xs) ys [] ws z q = absurd z
zip_front R one (x ∷ xs) ys (v ∷ vs) [] z q = absurd q
zip_front R one (x ∷ xs) ys (v ∷ vs) (w ∷ ws) z q =
    let more = zip_front R one xs ys vs ws z.1 q.1 in
    (more.0, ap (λ u. u ∷ ws) (one x w v q.0 z.0) ∙ ap (λ us. v ∷ us) more.1)

zip_once : {A B : Type 0} (R : A → B → Type 0) → ((x : A) (v w : B) → R x v → R x w → v ≡ w) → (xs : List A) (vs ws : List B) → AllZip R xs vs → AllZip R xs ws → vs ≡ ws
zip_once R one [] [] [] z q = refl
zip_once R one [] [] (w ∷ ws) z q = absurd q
zip_once R one [] (v ∷ vs) ws z q = absurd z
zip_once R one (x ∷ xs) [] ws z q = absurd z
zip_once R one (x ∷ xs) (v ∷ vs) [] z q = absurd q
zip_once R one (x ∷ xs) (v ∷ vs) (w ∷ ws) z q = ap (λ u. u ∷ vs) (one x v w z.0 q.0) ∙ ap (λ us. w ∷ us) (zip_once R one xs vs ws z.1 q.1)

one_held : (types : Types) (ty : Ty) → HaveNames types → (line : List ℕ) (v w : Value) → HoldsValue types ty line v → HoldsValue types ty line w → v ≡ w
one_held types ty names line v w h g = one_value types names ty (without_return line) v w h.typed g.typed h.text g.text

same_bad : (types : Types) (ty : Ty) (before others : List (List ℕ)) (bad other : Option ℕ) → IsFirstBad types ty before others bad → IsFirstBad types ty before others other → bad ≡ other
same_bad types ty before [] bad other h g = h ∙ sym g
same_bad types ty before (line ∷ others) bad other h g = h.1 ∙ sym g.1

pub good_once : (types : Types) (ty : Ty) (text : List ℕ) (good values : List Value) (bad other : Option ℕ) → HaveNames types → IsGoodUntil types ty text good bad → IsGoodUntil types ty text values other
    → (good ≡ values) × (bad ≡ other)
good_once types ty text good values bad other names h g =
    let both : h.before ++ h.others ≡ g.before ++ g.others = sym h.split ∙ g.split in
    let less = no_longer types ty h.before h.others g.before g.others bad both h.first_bad g.values.none_bad in
    let more = no_longer types ty g.before g.others h.before h.others other (sym both) g.first_bad h.values.none_bad in
    let long : length h.before ≡ length g.before = omega (arith, less, more) in
    let before : h.before ≡ g.before =
    sym (take-append_seam h.before h.others) ∙ ap (take (length h.before)) both ∙ ap (λ n. take n (g.before ++ g.others)) long ∙ take-append_seam g.before g.others in
    let others : h.others ≡ g.others =
    sym (drop-append_seam h.before h.others) ∙ ap (drop (length h.before)) both ∙ ap (λ n. drop n (g.before ++ g.others)) long ∙ drop-append_seam g.before g.others in (
      zip_once (HoldsValue types ty) (one_held types ty names) _ good values
          (subst (λ ls. AllZip (HoldsValue types ty) (filter (λ line. not (is_empty line)) ls) good) before h.values.texts) g.values.texts,
      same_bad types ty g.before g.others bad other
          (subst (λ os. IsFirstBad types ty g.before os bad) others (subst (λ bs. IsFirstBad types ty bs h.others bad) before h.first_bad)) g.first_bad,
    )

pub queue_front : (types : Types) (ty : Ty) (queue : QueueView) (text rest : List ℕ) (given good : List Value) (bad : Option ℕ) → HaveNames types → IsQueueOf types ty queue text given rest
    → IsGoodUntil types ty text good bad → (held later : List Value) × (queue.values ≡ map (flat types ty) held) × (good ≡ given ++ (held ++ later))
queue_front types ty queue text rest given good bad names q g =
    let both : g.before ++ g.others ≡ q.read ++ lines_of (queue.unread ++ rest) = sym g.split ∙ q.split in
    let less = no_longer types ty g.before g.others q.read (lines_of (queue.unread ++ rest)) bad both g.first_bad q.values.none_bad in
    let more = longer_front q.read (lines_of (queue.unread ++ rest)) g.before g.others (sym both) less in
    let filled = λ (ls : List (List ℕ)). filter (λ line. not (is_empty line)) ls in
    let texts : AllZip (HoldsValue types ty) (filled q.read ++ filled more.0) good =
    subst (λ ls. AllZip (HoldsValue types ty) ls good) (ap filled more.1 ∙ filter-append (λ line. not (is_empty line)) q.read more.0) g.values.texts in
    let front = zip_front (HoldsValue types ty) (one_held types ty names) (filled q.read) (filled more.0) (given ++ q.held) good q.values.texts texts in
    (q.held, front.0, q.words, front.1 ∙ append_assoc given q.held front.0)
