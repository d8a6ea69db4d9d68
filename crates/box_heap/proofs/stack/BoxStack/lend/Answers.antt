use Rattle.std.proofs.Common.{◌≡◌, ℕ, List, length, take, drop, ◌++◌, refl, ap, sym, ◌∙◌, arith}
use Rattle.std.specs.List.{refill, length_refill}
use Rattle.std.proofs.lemmas.List.{length-take-le, take-take}
use Rattle.box_heap.specs.Stacks.{StackView}
use Rattle.box_heap.proofs.stack.BoxStack.lend.Goals as goal

-- the view of a stack of all words of its room, once these are written into them
whole_view : (words written : List ℕ) (top size peak : ℕ) → top ≡ size → size ≡ length words
    → ◌≡◌ {A = StackView} (record { words = take top (refill size words written); peak = peak; room = length (refill size words written) })
    (record { words = refill size words written; peak = peak; room = length words })
whole_view words written top size peak all long =
    let same : take top (refill size words written) ≡ refill size words written = ap (λ n. take n (refill size words written)) all ∙ take-take size size (written ++ drop (length written) words) (omega arith) in
    let room : length (refill size words written) ≡ length words = sym (length_refill size words written long) ∙ long in
    (λ i. record { words = same i; peak = peak; room = room i })

pub returns : goal.returns
returns c =
    let items : List ℕ = c.self.inside.words.items in
    let size : ℕ = c.self.inside.words.len in
    let long : size ≡ length items = c.self.inside.words.ok.0 in
    let room : length items ≡ c.args.self.now.room = ap (λ (view : StackView). view.room) c.self.view_is in
    let peak : c.self.inside.peak ≡ c.args.self.now.peak = ap (λ (view : StackView). view.peak) c.self.view_is in
    let words : take c.self.inside.top items ≡ c.args.self.now.words = ap (λ (view : StackView). view.words) c.self.view_is in
    let height : length c.args.self.now.words ≡ c.self.inside.top = sym (ap (λ (ws : List ℕ). length ws) words) ∙ length-take-le c.self.inside.top items c.self.invariant.0 in
    let value : c.as_mut_slice.result.now ≡ items = c.as_mut_slice.ensures.value in (
      (
        refl,
        λ w. whole_view items w c.len-self-inside.result size c.self.inside.peak c.len-self-inside.ensures long
            ∙ (λ i. record { words = refill ((long ∙ room) i) (sym value i) w; peak = peak i; room = room i }),
      ),
      record { writes_back = tt; front = (λ i. take (height i) (value i)) ∙ words; whole = ap (λ (ws : List ℕ). length ws) value ∙ room },
    )
