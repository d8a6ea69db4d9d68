-- What instructions do, by the registers and words that hold the machine.
use Rattle.std.proofs.Common.{◌≡◌, ℕ, ◌+◌, ◌-◌, ◌<◌, ◌≤◌, nat_le, max, Bool, true, false, if◌then◌else◌, List, [], ◌∷◌, ◌++◌, length, take, drop, get_or, Option, Some, None, suc, refl, ap, sym, ◌∙◌, subst, arith}
use Rattle.std.proofs.lemmas.Bool.{le-leb, leb-true}
use Rattle.std.proofs.lemmas.List.{length-take-le, take-take, drop-take}
use Rattle.std.proofs.lemmas.List.{drop_all}
use Rattle.std.proofs.lemmas.Option.{slice_get-get_or}
use Rattle.std.proofs.Math.Seq.{drop-cons}
use Rattle.box_heap.specs.Heaps.{HeapView, Object, with_object}
use Rattle.box_heap.specs.Stacks.{at_depth, under, last}
use Rattle.box_code.specs.declared.instr.Instr.{Instr}
use Rattle.box_code.specs.declared.instr.Instr.TheVariants as instr
use Rattle.box_code.specs.Machine.{Setting, Next, Goes, Broken, with_last, with_word, word_at, lowered, put, used}
use Rattle.box_machine.specs.declared.registers.Registers.{Registers}
use Rattle.box_machine.specs.inner.Stepping.{CanDo, CanDoOn, Does, DoesOn, HasRoom, IsHeap, Keeps, Stacked, machine_in, objects_in}
use Rattle.box_machine.proofs.Held.{used_is, put_objects, put_keeps, same_keeps}

-- the stack is the front of the row

pub under_front : (words : List ℕ) (top count : ℕ) → top ≤ length words → under count (take top words) ≡ take (top - count) words
under_front words top count le =
    let e : length (take top words) - count ≡ top - count = omega (arith, length-take-le top words le) in
    ap (λ k. take k (take top words)) e ∙ take-take (top - count) top words (omega arith)

pub last_front : (words : List ℕ) (top count : ℕ) → top ≤ length words → count ≤ top
    → last count (take top words) ≡ take (top - (top - count)) (drop (top - count) words)
last_front words top count le few =
    let e : length (take top words) - count ≡ top - count = omega (arith, length-take-le top words le) in
    let split : top ≡ (top - count) + (top - (top - count)) = omega arith in
    ap (λ k. drop k (take top words)) e ∙ ap (λ k. drop (top - count) (take k words)) split ∙ drop-take (top - count) (top - (top - count)) words

-- there are so many words

pub last_there : (count : ℕ) (stack : List ℕ) (go : List ℕ → List ℕ → Next) (row room : ℕ) → HasRoom (with_last count stack go) row room → count ≤ length stack
last_there count stack go row room h = leb-true count (length stack) (there (nat_le count (length stack)) h)
  where
    there : (b : Bool) → HasRoom (if b then go (under count stack) (last count stack) else Broken) row room → b ≡ true
    there true h = refl
    there false h = absurd h

pub last_goes : (count : ℕ) (stack : List ℕ) (go : List ℕ → List ℕ → Next) → count ≤ length stack
    → with_last count stack go ≡ go (under count stack) (last count stack)
last_goes count stack go few = ap (λ b. if b then go (under count stack) (last count stack) else Broken) (le-leb count (length stack) few)

-- machines that are held the same way

pub goes_same : (at at' : ℕ) (stack stack' : List ℕ) (peak peak' : ℕ) (objects objects' : List Object) (raised raised' : Option ℕ)
    → at ≡ at' → stack ≡ stack' → peak ≡ peak' → objects ≡ objects' → raised ≡ raised'
    → ◌≡◌ {A = Next} (Goes (record { at = at; stack = stack; peak = peak; objects = objects; outs = []; raised = raised }))
    (Goes (record { at = at'; stack = stack'; peak = peak'; objects = objects'; outs = []; raised = raised' }))
goes_same at at' stack stack' peak peak' objects objects' raised raised' a s p o r =
    (λ i. Goes (record { at = a i; stack = s i; peak = p i; objects = o i; outs = []; raised = r i }))

-- an object is made, of the last words or in other ways

pub put_does : (r result : Registers) (words words' : List ℕ) (heap heap' : HeapView) (stack fields : List ℕ) (tag place : ℕ) → IsHeap heap → tag < 4294967296
    → heap' ≡ with_object heap (tag, fields) → place ≡ length heap.words
    → Stacked result words' r.at (stack ++ place ∷ []) (max r.peak (length stack + 1)) r.raised
    → put (machine_in r words heap) r.at stack (tag, fields) ≡ Goes (machine_in result words' heap')
put_does r result words words' heap heap' stack fields tag place h small new is s =
    let grown : objects_in heap ++ (tag, fields) ∷ [] ≡ objects_in heap' = sym (put_objects heap h tag fields small) ∙ ap (λ x. objects_in x) (sym new) in
    let top : stack ++ used (objects_in heap) ∷ [] ≡ take result.top words' = ap (λ n. stack ++ n ∷ []) (used_is heap h ∙ sym is) ∙ sym s.on_stack in
    goes_same r.at result.at _ _ _ _ _ _ _ _ (sym s.at_place) top (sym s.most) grown (sym s.same_raised)

pub make_does : (able setting : Setting) (tag count : ℕ) (r result : Registers) (words words' : List ℕ) (heap heap' : HeapView) (place : ℕ)
    → CanDoOn able (instr.Make tag count) r words heap → r.top ≤ length words → IsHeap heap → tag < 4294967296
    → heap' ≡ with_object heap (tag, take (r.top - (r.top - count)) (drop (r.top - count) words)) → place ≡ length heap.words
    → Stacked result words' r.at (take (r.top - count) words ++ place ∷ []) (max r.peak (r.top - count + 1)) r.raised
    → DoesOn setting (instr.Make tag count) r words heap result words' heap'
make_does able setting tag count r result words words' heap heap' place can top h small new is s =
    let stack : List ℕ = take r.top words in
    let made : List ℕ → List ℕ → Next = λ under fields. put (machine_in r words heap) r.at under (tag, fields) in
    let there : count ≤ length stack = last_there count stack made (length words) heap.room can.fits in
    let long : length stack ≡ r.top = length-take-le r.top words top in
    let front : under count stack ≡ take (r.top - count) words = under_front words r.top count top in
    let behind : last count stack ≡ take (r.top - (r.top - count)) (drop (r.top - count) words) = last_front words r.top count top (omega
    (arith, there, long)) in
    let low : length (take (r.top - count) words) ≡ r.top - count = length-take-le (r.top - count) words (omega (arith, top)) in
    let held : Stacked result words' r.at (take (r.top - count) words ++ place ∷ []) (max r.peak (length (take (r.top - count) words) + 1)) r.raised =
    subst (λ n. Stacked result words' r.at (take (r.top - count) words ++ place ∷ []) (max r.peak (n + 1)) r.raised) (sym low) s in
    record {
      step = last_goes count stack made there ∙ (λ i. made (front i) (behind i))
          ∙ put_does r result words words' heap heap' (take (r.top - count) words) (take (r.top - (r.top - count)) (drop
          (r.top - count) words)) tag place h small new is held;
      top = s.within;
      kept = subst (λ x. Keeps heap x) (sym new) (put_keeps heap h tag (take (r.top - (r.top - count)) (drop (r.top - count) words)) small);
    }

-- words by their depth

pub last_none : (stack : List ℕ) → last 0 stack ≡ []
last_none stack = drop_all (length stack - 0) stack (omega arith)

pub last_more : (stack : List ℕ) (count word : ℕ) → count < length stack → at_depth count stack ≡ Some word → last (1 + count) stack ≡ word ∷ last count stack
last_more stack count word less is =
    let at : ℕ = length stack - (1 + count) in
    let within : at < length stack = omega (arith, less) in
    let next : suc at ≡ length stack - count = omega (arith, less) in
    let same : get_or stack at 0 ≡ word = let e : ◌≡◌ {A = Option ℕ} (Some (get_or stack at 0)) (Some word) = sym (slice_get-get_or stack at 0 within)
    ∙ is in cc in
    drop-cons stack at 0 within ∙ (λ i. same i ∷ drop (next i) stack)

pub last_one : (stack : List ℕ) (word : ℕ) → 1 ≤ length stack → at_depth 0 stack ≡ Some word → last 1 stack ≡ word ∷ []
last_one stack word some is = last_more stack 0 word (omega (arith, some)) is ∙ ap (λ ws. word ∷ ws) (last_none stack)

pub last_two : (stack : List ℕ) (left right : ℕ) → 2 ≤ length stack → at_depth 1 stack ≡ Some left → at_depth 0 stack ≡ Some right
    → last 2 stack ≡ left ∷ right ∷ []
last_two stack left right some l r = last_more stack 1 left (omega (arith, some)) l ∙ ap (λ ws. left ∷ ws) (last_one stack right (omega (arith, some)) r)

pub last_three : (stack : List ℕ) (first second third : ℕ) → 3 ≤ length stack → at_depth 2 stack ≡ Some first → at_depth 1 stack ≡ Some second
    → at_depth 0 stack ≡ Some third
    → last 3 stack ≡ first ∷ second ∷ third ∷ []
last_three stack first second third some f s t = last_more stack 2 first (omega (arith, some)) f
    ∙ ap (λ ws. first ∷ ws) (last_two stack second third (omega (arith, some)) s t)

-- a word that is asked for is there

pub word_there : (o : Option ℕ) (go : ℕ → Next) (row room : ℕ) → HasRoom (with_word o go) row room → (word : ℕ) × (o ≡ Some word) × HasRoom (go word) row room
word_there None go row room h = absurd h
word_there (Some word) go row room h = (word, refl, h)

-- what an instruction does whatever the heap has, it does with this heap

pub does_on : (setting : Setting) (instr : Instr) (r result : Registers) (words words' : List ℕ) (heap : HeapView) → IsHeap heap
    → Does setting instr r words result words' → DoesOn setting instr r words heap result words' heap
does_on setting instr r result words words' heap h does = record { step = does.step (objects_in heap); top = does.top; kept = same_keeps heap h }

-- where an instruction goes back to hangs on the code alone
pub return_can : (able setting : Setting) (count variables : ℕ) (r : Registers) (words : List ℕ) (heap : HeapView) → able.code ≡ setting.code
    → CanDoOn able (instr.Return count variables) r words heap → CanDo setting (instr.Return count variables) r words
return_can able setting count variables r words heap same can =
    let stack : List ℕ = take r.top words in
    let leads : List ℕ → Next = λ code. with_word (word_at 0 stack) (λ word. with_word (word_at (2 + variables) stack) (λ back.
    with_last (1 + (variables + (2 + count))) stack (λ under words'.
    if nat_le back (length code) then lowered (machine_in r words heap) back (under ++ word ∷ []) else Broken))) in
    record {
      objects = objects_in heap;
      room = heap.room;
      fits = subst (λ code. HasRoom (leads code) (length words) heap.room) same can.fits;
      short = subst (λ (code : List ℕ). length code ≤ 4294967295) same can.short;
    }
