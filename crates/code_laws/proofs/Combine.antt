-- How what runs is made up, as what is spent is.
use Rattle.std.proofs.Common.{◌≡◌, ℕ, ◌+◌, max, List, [], ◌∷◌, ◌++◌, Option, Some, refl, subst, arith, append_assoc}
use Rattle.hume_base.specs.declared.types.Value.{Value}
use Rattle.hume_model.specs.declared.outcome.Outcome.{Outcome}
use Rattle.hume_model.specs.declared.outcome.Outcome.TheVariants.{Gives, Raises}
use Rattle.hume_model.specs.declared.outcome.Several.{Several}
use Rattle.hume_model.specs.declared.outcome.Several.TheVariants.{All, Raised}
use Rattle.box_costs.specs.declared.cost.Cost.{Cost}
use Rattle.box_costs.specs.Costs.{nothing, above, both}
use Rattle.box_costs.specs.Spending.{Spent, spends, after, go_on, ended, go_on_all, rest_after}
use Rattle.box_heap.specs.Heaps.{Object}
use Rattle.box_heap.specs.Standing.{Stands, AllStand}
use Rattle.box_code.specs.Machine.{Setting, Machine, used}
use Rattle.code_laws.specs.Running.{Comes, later, Gave, StandsFor, Threw, Runs, RunsSpent}
use Rattle.code_laws.proofs.AllParts.{GaveAll, RunAll}
use Rattle.code_laws.proofs.Heaps.{used-append, still_stands}
use Rattle.code_laws.proofs.Steps.{moved, alike, goes_on, becomes}

module _ (s : Setting) where
  -- the machine after a value
  abbrev pub reached : (m : Machine) (base : List ℕ) (high to : ℕ) (v : Value) (c : Cost) → Gave s m base high to v c → Machine
  reached m base high to v c g = later m to (base ++ g.word ∷ []) g.more (high + c.stack)

  abbrev pub reached_all : (m : Machine) (base : List ℕ) (high to : ℕ) (vs : List Value) (c : Cost) → GaveAll s m base high to vs c → Machine
  reached_all m base high to vs c g = later m to (base ++ g.words) g.more (high + c.stack)

  module _ (m : Machine) (high : ℕ) where
    -- a stretch, and then a raise
    pub after_threw : (a : ℕ) (t : List ℕ) (more : List Object) (c : Cost) (exn : ℕ) (carried : Option Value) (k : Cost)
        → Comes s m (later m a t more (high + c.stack)) c.work → used more ≡ c.heap
        → Threw s (later m a t more (high + c.stack)) high exn carried k → Threw s m high exn carried (both c k)
    after_threw a t more c exn carried k f size g = record {
      word = g.word;
      more = more ++ g.more;
      size = (let u = used-append more g.more in let z = g.size in omega (arith, u, size, z));
      top = (let t = g.top in omega (arith, t));
      stands = subst (λ x. StandsFor x carried g.word) (append_assoc m.objects more g.more) g.stands;
      comes = becomes s (goes_on s m _ _ c.work k.work f g.comes)
          (let p : max (max m.peak (high + c.stack)) (high + k.stack) ≡ max m.peak (high + max c.stack k.stack) = omega arith in
          (λ i. record { at = s.handlers exn; stack = g.word ∷ []; peak = p i; objects = append_assoc m.objects more g.more i; outs = m.outs; raised = Some exn })) refl;
    }

    -- a stretch, and then the rest
    pub after_runs : (a : ℕ) (t : List ℕ) (more : List Object) (c : Cost) (base : List ℕ) (to : ℕ) (o : Outcome) (k : Cost)
        → Comes s m (later m a t more (high + c.stack)) c.work → used more ≡ c.heap
        → Runs s (later m a t more (high + c.stack)) base high to o k → Runs s m base high to o (both c k)
    after_runs a t more c base to (Gives v) k f size g = record {
      word = g.word;
      more = more ++ g.more;
      size = (let u = used-append more g.more in let z = g.size in omega (arith, u, size, z));
      top = (let t = g.top in omega (arith, t));
      stands = subst (λ x. Stands x v g.word) (append_assoc m.objects more g.more) g.stands;
      comes = becomes s (goes_on s m _ _ c.work k.work f g.comes)
          (alike m refl refl (let p : max (max m.peak (high + c.stack)) (high + k.stack) ≡ max m.peak (high + max c.stack k.stack) = omega arith in p)
          (append_assoc m.objects more g.more)) refl;
    }
    after_runs a t more c base to (Raises exn carried) k f size g = after_threw a t more c exn carried k f size g

    pub over_threw : (words : ℕ) (exn : ℕ) (carried : Option Value) (k : Cost) → Threw s m (high + words) exn carried k → Threw s m high exn carried (above words k)
    over_threw words exn carried k g = record {
      word = g.word;
      more = g.more;
      size = g.size;
      top = (let t = g.top in omega (arith, t));
      stands = g.stands;
      comes = becomes s g.comes
          (let p : max m.peak (high + words + k.stack) ≡ max m.peak (high + (words + k.stack)) = omega arith in
          (λ i. record { at = s.handlers exn; stack = g.word ∷ []; peak = p i; objects = m.objects ++ g.more; outs = m.outs; raised = Some exn })) refl;
    }

    -- with more words below
    pub over_runs : (words : ℕ) (base : List ℕ) (to : ℕ) (o : Outcome) (k : Cost) → Runs s m base (high + words) to o k → Runs s m base high to o (above words k)
    over_runs words base to (Gives v) k g = record {
      word = g.word;
      more = g.more;
      size = g.size;
      top = (let t = g.top in omega (arith, t));
      stands = g.stands;
      comes = becomes s g.comes (alike m refl refl (let p : max m.peak (high + words + k.stack) ≡ max m.peak (high + (words + k.stack)) = omega arith in p) refl) refl;
    }
    over_runs words base to (Raises exn carried) k g = over_threw words exn carried k g

    -- nothing follows a raise
    pub no_more : (exn : ℕ) (carried : Option Value) (c : Cost) → Threw s m high exn carried c → Threw s m high exn carried (both c nothing)
    no_more exn carried c g = record {
      word = g.word;
      more = g.more;
      size = (let z = g.size in omega (arith, z));
      top = (let t = g.top in omega (arith, t));
      stands = g.stands;
      comes = becomes s g.comes
          (let p : max m.peak (high + c.stack) ≡ max m.peak (high + max c.stack 0) = omega arith in
          (λ i. record { at = s.handlers exn; stack = g.word ∷ []; peak = p i; objects = m.objects ++ g.more; outs = m.outs; raised = Some exn }))
          (let w : c.work ≡ c.work + 0 = omega arith in w);
    }

    -- goes on with a value
    pub then_runs : (low : List ℕ) (mid : ℕ) (x : Outcome) (c : Cost) (base : List ℕ) (to : ℕ) (go : Value → Spent Outcome) → Runs s m low high mid x c
        → ((v : Value) → x ≡ Gives v → (g : Gave s m low high mid v c) → RunsSpent s (reached m low high mid v c g) base high to (go v))
        → RunsSpent s m base high to (after c (go_on x go))
    then_runs low mid (Gives v) c base to go g next =
        after_runs mid (low ++ g.word ∷ []) g.more c base to (go v).outcome (go v).cost g.comes g.size (next v refl g)
    then_runs low mid (Raises exn carried) c base to go g next = no_more exn carried c g

    -- ends with instructions that leave the value alone
    pub ended_runs : (low : List ℕ) (mid : ℕ) (x : Outcome) (c : Cost) (base : List ℕ) (to count : ℕ) → Runs s m low high mid x c
        → ((v : Value) → x ≡ Gives v → (g : Gave s m low high mid v c) → Comes s (reached m low high mid v c g) (moved (reached m low high mid v c g) to (base ++ g.word ∷ [])) count)
        → RunsSpent s m base high to (ended count (spends c x))
    ended_runs low mid (Gives v) c base to count g next = record {
      word = g.word;
      more = g.more;
      size = (let z = g.size in omega (arith, z));
      top = (let t = g.top in omega (arith, t));
      stands = g.stands;
      comes = becomes s (goes_on s m _ _ c.work count g.comes (next v refl g))
          (alike m refl refl (let p : max m.peak (high + c.stack) ≡ max m.peak (high + max c.stack 0) = omega arith in p) refl) refl;
    }
    ended_runs low mid (Raises exn carried) c base to count g next = no_more exn carried c g

    -- one part, and then the others
    pub parts_next : (base : List ℕ) (mid to : ℕ) (x : Outcome) (c : Cost) (rest : Several) (k : Cost) → Runs s m base high mid x c
        → ((v : Value) → x ≡ Gives v → (g : Gave s m base high mid v c) → RunAll s (reached m base high mid v c g) (base ++ g.word ∷ []) (high + 1) to rest k)
        → (let y = after c (rest_after x (spends k rest)) in RunAll s m base high to y.outcome y.cost)
    parts_next base mid to (Gives v) c (All vs) k g next =
        let n = next v refl g in
        record {
          words = g.word ∷ n.words;
          more = g.more ++ n.more;
          size = (let u = used-append g.more n.more in let y = g.size in let z = n.size in omega (arith, u, y, z));
          top = (let t = n.top in omega (arith, t));
          stands = subst (λ x. AllStand x (v ∷ vs) (g.word ∷ n.words)) (append_assoc m.objects g.more n.more) (AllStand.more (still_stands g.stands n.more) n.stands);
          comes = becomes s (goes_on s m _ _ c.work k.work g.comes n.comes)
              (alike m refl (append_assoc base (g.word ∷ []) n.words)
              (let p : max (max m.peak (high + c.stack)) (high + 1 + k.stack) ≡ max m.peak (high + max c.stack (1 + k.stack)) = omega arith in p)
              (append_assoc m.objects g.more n.more)) refl;
        }
    parts_next base mid to (Gives v) c (Raised exn carried) k g next =
        after_threw mid (base ++ g.word ∷ []) g.more c exn carried (above 1 k) g.comes g.size (over_one v g exn carried k (next v refl g))
      where
        over_one : (v : Value) (g : Gave s m base high mid v c) (exn : ℕ) (carried : Option Value) (k : Cost) → Threw s (reached m base high mid v c g) (high + 1) exn carried k
            → Threw s (reached m base high mid v c g) high exn carried (above 1 k)
        over_one v g exn carried k n = record {
          word = n.word;
          more = n.more;
          size = n.size;
          top = (let t = n.top in omega (arith, t));
          stands = n.stands;
          comes = becomes s n.comes
              (let p : max (max m.peak (high + c.stack)) (high + 1 + k.stack) ≡ max (max m.peak (high + c.stack)) (high + (1 + k.stack)) = omega arith in
              (λ i. record { at = s.handlers exn; stack = n.word ∷ []; peak = p i; objects = (m.objects ++ g.more) ++ n.more; outs = m.outs; raised = Some exn })) refl;
        }
    parts_next base mid to (Raises exn carried) c rest k g next = no_more exn carried c g

    -- goes on with all values
    pub all_then : (low : List ℕ) (mid : ℕ) (x : Several) (c : Cost) (base : List ℕ) (to : ℕ) (go : List Value → Spent Outcome) → RunAll s m low high mid x c
        → ((vs : List Value) → x ≡ All vs → (g : GaveAll s m low high mid vs c) → RunsSpent s (reached_all m low high mid vs c g) base high to (go vs))
        → RunsSpent s m base high to (after c (go_on_all x go))
    all_then low mid (All vs) c base to go g next =
        after_runs mid (low ++ g.words) g.more c base to (go vs).outcome (go vs).cost g.comes g.size (next vs refl g)
    all_then low mid (Raised exn carried) c base to go g next = no_more exn carried c g
