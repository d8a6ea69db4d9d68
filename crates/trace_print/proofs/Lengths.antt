-- How long the lines of bounds are at most.
use Rattle.std.proofs.Common.{◌≡◌, ℕ, ◌≤◌, ◌<◌, ◌+◌, ◌^◌, List, [], ◌∷◌, ◌++◌, length, length-append, arith, decimal, codes}
use Rattle.std.proofs.lemmas.Fmt.{length-decimal-le}
use Rattle.hume_base.specs.declared.limits.TheConstants.{MAX_NAME_BYTES}
use Rattle.box_costs.specs.declared.cost.Cost.{Cost}
use Rattle.trace_print.specs.SpaceLines.{counted, space_line, total_line, AreNumbers}
use Rattle.trace_print.specs.TraceLines.{peak_line, step_line}
use Rattle.trace_print.specs.declared.space_lines.TheConstants.{LINE_BYTES}

-- a number of 32 bits takes ten digits at most
ten_digits : (n : ℕ) → n < 2 ^ 32 → length (decimal n) ≤ 10
ten_digits n small =
    let fits : n < 10 ^ 10 = omega (arith, small) in
    let wide : n < 2 ^ 64 = omega (arith, small) in
    length-decimal-le 10 n (omega arith) fits wide

-- a label and a number behind what there is
counted_length : (held label : List ℕ) (n most : ℕ) → length label + 10 ≤ most → n < 2 ^ 32 → length (held ++ counted label n) ≤ length held + most
counted_length held label n most long small = omega (arith, ten_digits n small, long, length-append held (label ++ decimal n), length-append label (decimal n))

module _ (name : List ℕ) (bound : Cost) where
  abbrev named : List ℕ
  named = codes "box " ++ name

  abbrev with_heap : List ℕ
  with_heap = named ++ counted (codes " heap ") bound.heap

  abbrev with_stack : List ℕ
  with_stack = with_heap ++ counted (codes " stack ") bound.stack

  abbrev with_work : List ℕ
  with_work = with_stack ++ counted (codes " work ") bound.work

  pub box_line_short : length name ≤ MAX_NAME_BYTES → AreNumbers bound → length (space_line name bound) ≤ LINE_BYTES
  box_line_short short are =
      let heap : length with_heap ≤ length named + 16 = counted_length named (codes " heap ") bound.heap 16 (omega arith) are.heap in
      let stack : length with_stack ≤ length with_heap + 17 = counted_length with_heap (codes " stack ") bound.stack 17 (omega arith) are.stack in
      let work : length with_work ≤ length with_stack + 16 = counted_length with_stack (codes " work ") bound.work 16 (omega arith) are.work in
      let all : length (space_line name bound) ≡ length with_work + 1 = length-append with_work (10 ∷ []) in
      let first : length named ≡ 4 + length name = length-append (codes "box ") name in
      within (length name) (length named) (length with_heap) (length with_stack) (length with_work) (length (space_line name bound)) short first heap stack work all
    where
      within : (name named heap stack work all : ℕ) → name ≤ MAX_NAME_BYTES → named ≡ 4 + name → heap ≤ named + 16 → stack ≤ heap + 17 → work ≤ stack + 16 → all ≡ work + 1
          → all ≤ LINE_BYTES
      within name named heap stack work all a b c d e f = omega arith

pub total_short : (heap stack : ℕ) → heap < 2 ^ 32 → stack < 2 ^ 32 → length (total_line heap stack) ≤ LINE_BYTES
total_short heap stack small few =
    let first = counted (codes "total heap ") heap in
    let later : length (first ++ counted (codes " stack ") stack) ≤ length first + 17 = counted_length first (codes " stack ") stack 17 (omega arith) few in
    let front : length first ≤ 0 + 21 = counted_length [] (codes "total heap ") heap 21 (omega arith) small in
    let all : length (total_line heap stack) ≡ length (first ++ counted (codes " stack ") stack) + 1 = length-append (first ++ counted (codes " stack ") stack) (10 ∷ []) in
    within (length first) (length (first ++ counted (codes " stack ") stack)) (length (total_line heap stack)) front later all
  where
    within : (front later all : ℕ) → front ≤ 0 + 21 → later ≤ front + 17 → all ≡ later + 1 → all ≤ LINE_BYTES
    within front later all a b c = omega arith

module _ (name : List ℕ) (heap stack : ℕ) where
  abbrev peaked : List ℕ
  peaked = codes "peak " ++ name

  abbrev peak_heap : List ℕ
  peak_heap = peaked ++ counted (codes " heap ") heap

  abbrev peak_stack : List ℕ
  peak_stack = peak_heap ++ counted (codes " stack ") stack

  pub peak_short : length name ≤ MAX_NAME_BYTES → heap < 2 ^ 32 → stack < 2 ^ 32 → length (peak_line name heap stack) ≤ LINE_BYTES
  peak_short short small few =
      let a : length peak_heap ≤ length peaked + 16 = counted_length peaked (codes " heap ") heap 16 (omega arith) small in
      let b : length peak_stack ≤ length peak_heap + 17 = counted_length peak_heap (codes " stack ") stack 17 (omega arith) few in
      let all : length (peak_line name heap stack) ≡ length peak_stack + 1 = length-append peak_stack (10 ∷ []) in
      let first : length peaked ≡ 5 + length name = length-append (codes "peak ") name in
      within (length name) (length peaked) (length peak_heap) (length peak_stack) (length (peak_line name heap stack)) short first a b all
    where
      within : (name named heap stack all : ℕ) → name ≤ MAX_NAME_BYTES → named ≡ 5 + name → heap ≤ named + 16 → stack ≤ heap + 17 → all ≡ stack + 1 → all ≤ LINE_BYTES
      within name named heap stack all a b c d e = omega arith

pub step_short : (step : ℕ) → step < 2 ^ 32 → length (step_line step) ≤ LINE_BYTES
step_short step small =
    let front : length (counted (codes "step ") step) ≤ 0 + 15 = counted_length [] (codes "step ") step 15 (omega arith) small in
    let all : length (step_line step) ≡ length (counted (codes "step ") step) + 1 = length-append (counted (codes "step ") step) (10 ∷ []) in
    omega (arith, front, all)
