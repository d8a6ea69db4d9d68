-- A function gives its value back, and takes its frame away.
use Rattle.std.proofs.Common.{◌≡◌, ℕ, ◌+◌, ◌≤◌, nat_le, true, if◌then◌else◌, List, [], ◌∷◌, ◌++◌, length, Some, ap, sym, ◌∙◌, arith, append_assoc}
use Rattle.std.proofs.lemmas.Bool.{le-leb}
use Rattle.std.proofs.lemmas.List.{length-append}
use Rattle.box_code.specs.declared.instr.Instr.TheVariants.{Return}
use Rattle.box_code.specs.Words.{StandsAt}
use Rattle.box_code.specs.Machine.{Setting, Machine, Next, Broken, lowered, with_word, with_last, word_at}
use Rattle.code_laws.specs.Running.{Comes}
use Rattle.code_laws.proofs.Heaps.{get_new, get_at}
use Rattle.code_laws.proofs.Steps.{with_last_all, word_there, top_word, moved, acts}

-- the frame's words, one after another
flat_frame : (base args front rest : List ℕ) → (base ++ (args ++ front)) ++ rest ≡ base ++ (args ++ (front ++ rest))
flat_frame base args front rest = append_assoc base (args ++ front) rest ∙ ap (λ x. base ++ x) (append_assoc args front rest)

pub return_runs : (s : Setting) (m : Machine) (base args variables : List ℕ) (back low w count many next : ℕ) → m.stack ≡ ((base ++ (args ++ back ∷ low ∷ [])) ++ variables) ++ w ∷ []
    → count ≡ length args → many ≡ length variables → back ≤ length s.code → StandsAt s.code m.at (Return count many) next → Comes s m (moved m back (base ++ w ∷ [])) 1
return_runs s m base args variables back low w count many next is e d within found =
    let rest = variables ++ w ∷ [] in
    let front = base ++ (args ++ back ∷ low ∷ []) in
    let frame = args ++ (back ∷ (low ∷ rest)) in
    let flat : m.stack ≡ base ++ frame = is ∙ append_assoc front variables (w ∷ []) ∙ flat_frame base args (back ∷ low ∷ []) rest in
    let top : word_at 0 m.stack ≡ Some w = ap (word_at 0) is ∙ top_word (front ++ variables) w in
    let a = length-append args (back ∷ (low ∷ rest)) in
    let b = length-append variables (w ∷ []) in
    let c = length-append base frame in
    let long : length frame ≡ 1 + (many + (2 + count)) = omega (arith, a, b, d, e) in
    let place : length base + length args + (1 + (2 + many)) ≡ length (base ++ frame) = omega (arith, c, long, e) in
    let there : word_at (2 + many) m.stack ≡ Some back =
    ap (word_at (2 + many)) flat ∙ word_there (base ++ frame) (2 + many) (length base + length args) back place (get_at base frame (length args) back (get_new args back (low ∷ rest))) in
    let fits : nat_le back (length s.code) ≡ true = le-leb back (length s.code) within in
    let go : ℕ → ℕ → List ℕ → List ℕ → Next = (λ word back stack words. if nat_le back (length s.code) then lowered m back (stack ++ word ∷ []) else Broken) in
    acts s m _ (Return count many) next found
    (ap (λ o. with_word o (λ word. with_word (word_at (2 + many) m.stack) (λ back. with_last (1 + (many + (2 + count))) m.stack (go word back)))) top
    ∙ ap (λ o. with_word o (λ back. with_last (1 + (many + (2 + count))) m.stack (go w back))) there
    ∙ ap (λ stack. with_last (1 + (many + (2 + count))) stack (go w back)) flat
    ∙ with_last_all base frame (1 + (many + (2 + count))) (go w back) (sym long)
    ∙ ap (λ b. if b then lowered m back (base ++ w ∷ []) else Broken) fits)
