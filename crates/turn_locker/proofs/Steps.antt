-- A load, a claim and a put back keep the rule.
use Rattle.std.proofs.Common.{◌≡◌, ◌≢◌, ℕ, false, eqb, ◌+◌, ◌<◌, List, [], ◌∷◌, length, get_or, set, sym, refl, ap, ◌∙◌, subst, arith, length-set, get_or-set_same, eq-eqb, ne_eqb}
use mathlib.Core.Option.{none, some, some-injective, some-ne-none}
use lib.ListN.{get_elem?}
use lib.Seq.{set-get_or}
use prog.Atomic.{either}
use Rattle.std.specs.Prelude.{Option, Some, None}
use Rattle.atomic_table.specs.Table.{State, Me, Act, step, keeps, takes, gives, Valid, carried_after, stepped, Allows}
use Rattle.atomic_table.specs.Table as table
use Rattle.atomic_table.proofs.Lists.{set_here, set_else, exchanged}
use Rattle.hume_net.specs.declared.plan.Plan.{Plan}
use Rattle.turn_locker.specs.declared.view.View.{View}
use Rattle.turn_locker.specs.Asking.{MayPutBack}
use Rattle.turn_locker.specs.Held.{items_of, held_at, without, has_pair}
use Rattle.turn_locker.specs.Rule.{home_word, held_word, is_out, held_slot, Whereabouts, home, held, clock_of, IsThere, KeepsTurns, AreUnderWay}
use Rattle.turn_locker.specs.Seats.{outs_of}
use Rattle.turn_locker.specs.Views.{looks, claims, puts_back}
use Rattle.turn_locker.specs.Plays.{with_slot, looked, grasped, claimed, released}
use Rattle.turn_locker.proofs.Moved.{moved, after, times_stay, looked_at}
use Rattle.turn_locker.proofs.Updates.{set_mine, held_here, held_else, without_here, without_else, true_not_false}

pub not_out_else : (k j : ℕ) → j ≢ k → is_out (Some k) j ≡ false
not_out_else k j other = ne_eqb k j (λ e. other (sym e))

-- a seat that holds one item more has its half steps under way still
under_way_more : (plan : Plan) (i t : ℕ) (hs qs : List (ℕ × ℕ)) → ((u : ℕ) → held_at i hs ≡ some u → ⊥) → AreUnderWay plan hs qs
    → AreUnderWay plan ((i, t) ∷ hs) qs
under_way_more plan i t hs qs free ok n w pair =
    let k = ok n w pair in let more : (j : ℕ) (u : ℕ) → held_at j hs ≡ some u
    → held_at j ((i, t) ∷ hs) ≡ some u = λ j u h. held_else i t j hs (λ e. absurd (free u (ap (λ q. held_at q hs) (sym e) ∙ h))) ∙ h in
    record {
      time = k.time;
      is_node = k.is_node;
      node_held = more n k.time k.node_held;
      of_side = k.of_side;
      others_held = λ x side un. more (plan.nodes + x) k.time (k.others_held x side un);
    }

-- so has one that puts back an item that none of them needs
under_way_less : (plan : Plan) (i t : ℕ) (v : View) → MayPutBack plan i t v → AreUnderWay plan v.held v.passed → AreUnderWay plan (without i v.held) v.passed
under_way_less plan i t v may ok n y pair =
    let k = ok n y pair in
    let node_stays : n ≢ i = λ e. true_not_false (has_pair n y v.passed) pair (ap (λ z. has_pair z y v.passed) e ∙ may.no_node y) in record {
      time = k.time;
      is_node = k.is_node;
      node_held = without_else i n v.held node_stays ∙ k.node_held;
      of_side = k.of_side;
      others_held = λ x side un. without_else i (plan.nodes + x) v.held (λ e. may.no_wire n y k.time x pair k.node_held side un (sym e))
          ∙ k.others_held x side un;
    }

-- where nothing is passed each held item may be put back
pub may_put_back : (plan : Plan) (i t : ℕ) (v : View) → held_at i v.held ≡ some t → v.passed ≡ [] → MayPutBack plan i t v
may_put_back plan i t v h empty = record {
  is_held = h;
  no_node = λ w. ap (has_pair i w) empty;
  no_wire = λ node other u w pair _ _ _ _. true_not_false (has_pair node other v.passed) pair (ap (has_pair node other) empty);
}

-- the slot of an item may be out
pub slot_put_back : (plan : Plan) (i t : ℕ) (v : View) → MayPutBack plan i t v → MayPutBack plan i t (with_slot i v)
slot_put_back plan i t v may = record { is_held = may.is_held; no_node = may.no_node; no_wire = may.no_wire }

module _ {T : Type 0} (number_of time_of : T → ℕ) (right : T → Type 0) (plan : Plan) where
  abbrev St : Type 0
  St = State (Option T) View

  abbrev K : St → Type 0
  K = KeepsTurns number_of time_of right plan

  abbrev M : Type 0
  M = Me (Option T) View

  -- an item that a seat holds is in no other seat's hands
  pub held_once : (s : St) (r : K s) (id : ℕ) (v : View) → get_elem? s.views id ≡ some v → (i t : ℕ) → held_at i v.held ≡ some t → (j u : ℕ)
      → r.where_is i ≡ held j u → j ≡ id
  held_once s r id v at i t h j u e = let same : held id t ≡ held j u = sym ((r.each_seat id v at).holds i t h).1 ∙ e in cc same

  -- an item that a seat holds is there
  there_held : (s : St) (r : K s) (id : ℕ) (v : View) → get_elem? s.views id ≡ some v → (i t : ℕ) → held_at i v.held ≡ some t
      → IsThere number_of time_of right s i (held id t)
  there_held s r id v at i t h = let k = (r.each_seat id v at).holds i t h in subst (IsThere number_of time_of right s i) k.1 (r.each_item i k.0)

  -- what a step of the seat needs, where the word i becomes n
  abbrev Goes : St → ℕ → ℕ → M → (M → Type 0) → ℕ → Type 0
  Goes s i id me told n = (w : View) × (a : Act (Option T)) × Valid s.homes me.1 a × K (stepped s i n id me.1 w a) × told (w, carried_after me.1 a)

  looks_from : (s : St) (r : K s) (i id : ℕ) (v : View) (cs : List (ℕ × Option T)) → get_elem? s.views id ≡ some v → 0 < v.share
      → ((j : ℕ) → v.out ≡ Some j → (t : ℕ) × (held_at j v.held ≡ some t)) → (o : Option ℕ) → v.out ≡ o → cs ≡ outs_of o
      → Goes s i id (v, cs) (λ m. m ≡ (looks i (get_or s.words i 0) v, [])) (get_or s.words i 0)
  looks_from s r i id v cs at pos outs None is has = (
    looks i (get_or s.words i 0) v,
    keeps,
    tt,
    looked_at number_of time_of right plan s r i id i (get_or s.words i 0) v at is,
    λ k. (looks i (get_or s.words i 0) v, has k),
  )
  looks_from s r i id v cs at pos outs (Some j) is has =
      let sits = r.each_seat id v at in let out = outs j is in let t : ℕ = out.0 in let mine = sits.holds j t out.1 in
      let l = there_held s r id v at j t out.1 in
      let n : ℕ = get_or s.words j 0 in let long : length s.words ≡ items_of plan = r.words_are in let wide : length s.homes ≡ items_of plan = r.homes_are in
      let near : j < items_of plan = mine.0 in
      let homes = set s.homes j (some None) in let w : View = looks i (get_or s.words i 0) v in
      let kept = moved number_of time_of right plan s r j n id (held id t) homes v w at (length-set s.homes j (some None))
      (λ k other. set_else s.homes j k (some None) other)
      (λ k other. (refl, sym (ap (λ o. is_out o k) is ∙ not_out_else j k other))) (held_once s r id v at j t out.1)
      (get_or-set_same s.words j n 0 (omega arith) ∙ l.0, (w, set_mine s.views id w v at, out.1, set_here s.homes j (some None) (omega arith)))
      (λ u h. (near, λ k. held id (some-injective t u (sym out.1 ∙ h) k))) refl refl pos sits.pairs sits.distinct
      (times_stay number_of time_of right plan s r j id (held id t) v w at (ap (clock_of time_of) (sym mine.1)) refl) in (
        w,
        gives,
        tt,
        subst K (λ k. record {
          words = (set-get_or s.words j 0 ∙ sym (set-get_or s.words i 0)) k;
          homes = ap (λ c. table.put_back s.homes c) (sym has) k;
          views = set s.views id w;
        }) kept,
        λ k. (w, ap table.rest has k),
      )

  pub looks_step : (slots i id : ℕ) (me : M) → 0 < me.0.share → ((j : ℕ) → me.0.out ≡ Some j → (t : ℕ) × (held_at j me.0.held ≡ some t))
      → me.1 ≡ outs_of me.0.out
      → Allows K slots id me i (λ n. n) (λ n m. looked (step slots i 0 0 none) me n m)
  looks_step slots i id me pos outs has s r _ at _ = looks_from s r i id me.0 me.1 at pos outs me.0.out refl has

  pub grasps_step : (slots i id t : ℕ) (me : M) → 0 < me.0.share → me.1 ≡ [] → me.0.out ≡ None → held_at i me.0.held ≡ some t
      → Allows K slots id me i (λ n. n) (λ n m. grasped (step slots i 0 0 none) me n m)
  grasps_step slots i id t me pos none_out is h s r _ at _ =
      let v : View = me.0 in let mine = (r.each_seat id v at).holds i t h in let l = there_held s r id v at i t h in
      let n : ℕ = get_or s.words i 0 in let long : length s.words ≡ items_of plan = r.words_are in let near : i < items_of plan = mine.0 in let lying = l.1 in
      let u : View = lying.0 in
      let same : u ≡ v = some-injective u v (sym lying.1 ∙ at) in
      let w : View = with_slot i v in (
        w,
        takes i None,
        lying.3 ∙ ap (λ (z : View). some (held_slot (is_out z.out i))) same ∙ ap (λ o. some (held_slot (is_out o i))) is,
        moved number_of time_of right plan s r i n id (held id t) (set s.homes i none) v w at (length-set s.homes i none)
            (λ k other. set_else s.homes i k none other)
            (λ k other. (refl, not_out_else i k other ∙ sym (ap (λ o. is_out o k) is))) (held_once s r id v at i t h) (
              get_or-set_same s.words i n 0 (omega arith) ∙ l.0,
              (
                w,
                set_mine s.views id w v at,
                h,
                set_here s.homes i none (let wide : length s.homes ≡ items_of plan = r.homes_are in omega arith)
                    ∙ ap (λ b. some (held_slot b)) (sym (eq-eqb i i refl)),
              ),
            )
            (λ u' h'. (near, λ k. held id (some-injective t u' (sym h ∙ h') k))) refl refl pos (r.each_seat id v at).pairs (r.each_seat id v at).distinct
            (times_stay number_of time_of right plan s r i id (held id t) v w at (ap (clock_of time_of) (sym mine.1)) refl),
        ((λ k. (w, (i, None) ∷ none_out k)), λ u h'. l.0 ∙ ap held_word (some-injective t u (sym h ∙ h'))),
      )

  pub releases_step : (slots i id t new : ℕ) (x : T) (me : M) → 0 < me.0.share → me.1 ≡ (i, Some x) ∷ [] → me.0.out ≡ Some i
      → number_of x ≡ i → time_of x ≡ t → right x → new ≡ home_word (time_of x) → MayPutBack plan i t me.0
      → Allows K slots id me i (λ _. new) (λ _ m. released (step slots i new 0 none) me new m)
  releases_step slots i id t new x me pos has is numbered clocked ok timed may s r _ at _ =
      let v : View = me.0 in let h = may.is_held in let mine = (r.each_seat id v at).holds i t h in
      let long : length s.words ≡ items_of plan = r.words_are in let wide : length s.homes ≡ items_of plan = r.homes_are in
      let near : i < items_of plan = mine.0 in
      let w : View = puts_back i v in let homes = set s.homes i (some (Some x)) in (
        w,
        gives,
        tt,
        subst (λ hs. K (after number_of time_of right s i new hs id w)) (ap (λ c. table.put_back s.homes c) (sym has))
            (moved number_of time_of right plan s r i new id (home x) homes v w at (length-set s.homes i (some (Some x)))
            (λ k other. set_else s.homes i k (some (Some x)) other)
            (λ k other. (without_else i k v.held other, sym (ap (λ o. is_out o k) is ∙ not_out_else i k other))) (held_once s r id v at i t h)
            (get_or-set_same s.words i new 0 (omega arith) ∙ timed, set_here s.homes i (some (Some x)) (omega arith), numbered, ok)
            (λ u h'. absurd (some-ne-none u (sym h' ∙ without_here i v.held))) refl refl pos
            (under_way_less plan i t v may (r.each_seat id v at).pairs) (r.each_seat id v at).distinct
            (times_stay number_of time_of right plan s r i id (home x) v w at (clocked ∙ ap (clock_of time_of) (sym mine.1)) refl)),
        λ k. (w, ap table.rest has k),
      )

  claims_at : (s : St) (r : K s) (i id t : ℕ) (me : M) → i < items_of plan → get_elem? s.views id ≡ some me.0 → 0 < me.0.share → me.1 ≡ [] → me.0.out ≡ None
      → get_or s.words i 0 ≡ home_word t
      → (c : Whereabouts T) → r.where_is i ≡ c → IsThere number_of time_of right s i c
      → Goes s i id me (λ m. (x : T) × (m ≡ (claims i (time_of x) me.0, (i, Some x) ∷ [])) × (home_word (time_of x) ≡ home_word t) ×
      (number_of x ≡ i) × right x) (home_word t + 1)
  claims_at s r i id t me near at pos none_out is word (held j u) cell l = let odd = l.0 in absurd (omega arith)
  claims_at s r i id t me near at pos none_out is word (home x) cell l =
      let v : View = me.0 in let w : View = claims i (time_of x) v in let even = l.0 in let time : home_word t ≡ home_word (time_of x) = sym word ∙ even in
      let long : length s.words ≡ items_of plan = r.words_are in let wide : length s.homes ≡ items_of plan = r.homes_are in (
        w,
        takes i (Some x),
        l.1,
        moved number_of time_of right plan s r i (home_word t + 1) id (held id (time_of x)) (set s.homes i none) v w at (length-set s.homes i none)
            (λ k other. set_else s.homes i k none other)
            (λ k other. (held_else i (time_of x) k v.held other, not_out_else i k other ∙ sym (ap (λ o. is_out o k) is)))
            (λ j u e. absurd (let no : home x ≡ held j u = sym cell ∙ e in cc no)) (
              get_or-set_same s.words i (home_word t + 1) 0 (omega arith) ∙ ap (λ (n : ℕ). n + 1) time,
              (
                w,
                set_mine s.views id w v at,
                held_here i (time_of x) v.held,
                set_here s.homes i none (omega arith) ∙ ap (λ b. some (held_slot b)) (sym (eq-eqb i i refl)),
              ),
            )
            (λ u h. (near, λ k. held id (some-injective (time_of x) u (sym (held_here i (time_of x) v.held) ∙ h) k))) refl refl pos
            (under_way_more plan i (time_of x) v.held v.passed
            (λ u h. let no : home x ≡ held id u = sym cell ∙ ((r.each_seat id v at).holds i u h).1 in cc no) (r.each_seat id v at).pairs)
            (r.each_seat id v at).distinct
            (times_stay number_of time_of right plan s r i id (held id (time_of x)) v w at (ap (clock_of time_of) (sym cell)) refl),
        (x, (λ k. (w, (i, Some x) ∷ none_out k)), sym time, l.2, l.3),
      )

  pub claims_step : (slots i id t word : ℕ) (me : M) → word ≡ home_word t → i < items_of plan → 0 < me.0.share → me.1 ≡ [] → me.0.out ≡ None
      → Allows K slots id me i (λ n. either (eqb n word) (word + 1) n) (λ n m. claimed number_of time_of right (step slots i word (word + 1) none) me n m)
  claims_step slots i id t word me timed near pos none_out is s r _ at _ =
      let y : ℕ = get_or s.words i 0 in
      exchanged y word (word + 1) (Goes s i id me (claimed number_of time_of right (step slots i word (word + 1) none) me y))
      (λ hit. let g = claims_at s r i id t me near at pos none_out is (hit ∙ timed) (r.where_is i) refl (r.each_item i near) in (
        g.0,
        g.1,
        g.2,
        subst (λ n. K (stepped s i (n + 1) id me.1 g.0 g.1)) (sym timed) g.3,
        (λ _. (g.4.0, g.4.1, g.4.2 ∙ sym timed, g.4.3, g.4.4), λ miss. absurd (miss hit)),
      ))
      (λ miss. (looks i y me.0, keeps, tt, looked_at number_of time_of right plan s r i id i y me.0 at is, (λ hit. absurd (miss hit), λ _. refl)))
