-- Words that are appended stand there.
use Rattle.std.proofs.Common.{◌≡◌, ℕ, ◌+◌, ◌≤◌, List, [], ◌∷◌, ◌++◌, length, take, drop, Some, None, Result, Ok, Err, OnOk, refl, ap, sym, ◌∙◌, subst, append_assoc, arith}
use Rattle.std.proofs.lemmas.List.{length-append}
use Rattle.box_code.specs.declared.instr.Path.{Path}
use Rattle.box_code.specs.declared.instr.Instr.{Instr}
use Rattle.box_code.specs.declared.instr.Instr.TheVariants.{Push, Load, Make, Add, Sub, Mul, Div, Mod, Neg, Not, Convert, Compare, Index, Update, Jump, JumpFalse, MatchWord, MatchTag, Field, Slide, Call, Return, Raise, Finish}
use Rattle.box_code.specs.Words.{words_of, path_of, PathStands, OperandsFit, StandsAt}
use Rattle.box_compile.proofs.Lists.{append_nil}
use Rattle.box_compile.specs.inner.Emitted.{Grows, Emitted}
use Rattle.box_compile.specs.inner.Parts.{StandsWithPath}

-- no instruction has more words before its path
pub few_words : (instr : Instr) → length (words_of instr) ≤ 3
few_words (Push word) = omega arith
few_words (Load depth) = omega arith
few_words (Make tag count) = omega arith
few_words (Add ty) = omega arith
few_words (Sub ty) = omega arith
few_words (Mul ty) = omega arith
few_words (Div ty) = omega arith
few_words (Mod ty) = omega arith
few_words (Neg ty) = omega arith
few_words Not = omega arith
few_words (Convert ty) = omega arith
few_words (Compare comparison ty) = omega arith
few_words (Index count) = omega arith
few_words (Update count) = omega arith
few_words (Jump to) = omega arith
few_words (JumpFalse to) = omega arith
few_words (MatchWord depth path word to) = omega arith
few_words (MatchTag depth path tag to) = omega arith
few_words (Field depth path) = omega arith
few_words (Slide count) = omega arith
few_words (Call to count) = omega arith
few_words (Return count variables) = omega arith
few_words (Raise exn carried) = omega arith
few_words (Finish mask) = omega arith

pub grows_not : {a : List ℕ} → Grows a a
grows_not {a = a} = record { more = []; same = sym (append_nil a) }

pub grows_more : {a b c : List ℕ} → Grows a b → Grows b c → Grows a c
grows_more {a = a} g h = record { more = g.more ++ h.more; same = h.same ∙ ap (λ x. x ++ h.more) g.same ∙ append_assoc a g.more h.more }

-- something else that stands there too
pub changed : {a b : List ℕ} {S T : List ℕ → ℕ → ℕ → Type 0} → ((code : List ℕ) → S code (length a) (length b) → T code (length a) (length b))
    → Emitted a b S → Emitted a b T
changed f e = record { grown = e.grown; stands = λ code grows. f code (e.stands code grows) }

pub on_ok : {X Y : Type 0} {P Q : Type 0} (result : Result X Y) → (P → Q) → OnOk result P → OnOk result Q
on_ok (Ok x) f p = f p
on_ok (Err e) f p = p

-- what was emitted before more words came
pub still : {a b c : List ℕ} {S : List ℕ → ℕ → ℕ → Type 0} → Emitted a b S → Grows b c → (code : List ℕ) → Grows c code → S code (length a) (length b)
still e g code h = e.stands code (grows_more g h)

-- an instruction without a path
pub instr_emitted : {a b : List ℕ} (instr : Instr) → path_of instr ≡ None → OperandsFit instr → b ≡ a ++ words_of instr
    → Emitted a b (λ code from to. StandsAt code from instr to)
instr_emitted {a = a} {b = b} instr none fits is = record {
  grown = record { more = words_of instr; same = is };
  stands = λ code grows. record {
    before = a;
    after = grows.more;
    words = grows.same ∙ ap (λ x. x ++ grows.more) is ∙ append_assoc a (words_of instr) grows.more;
    begins = refl;
    path = subst (λ path. PathStands path (length a + length (words_of instr)) (length b)) (sym none) (ap length is ∙ length-append a (words_of instr));
    ends = (let e : length code ≡ length b + length grows.more = ap length grows.same ∙ length-append b grows.more in omega (arith, e));
    fits = fits;
  };
}

take_all : (xs ys : List ℕ) → take (length xs) (xs ++ ys) ≡ xs
take_all [] ys = refl
take_all (x ∷ xs) ys = ap (λ zs. x ∷ zs) (take_all xs ys)

drop_all : (xs ys : List ℕ) → drop (length xs) (xs ++ ys) ≡ ys
drop_all [] ys = refl
drop_all (x ∷ xs) ys = drop_all xs ys

-- an instruction with a path
pub path_emitted : {a b c : List ℕ} (instr : Instr) (path : Path) (numbers : List ℕ) → path_of instr ≡ Some path → OperandsFit instr
    → path.at ≡ length a + length (words_of instr) → path.length ≡ length numbers → b ≡ a ++ words_of instr → c ≡ b ++ numbers
    → Emitted a c (λ code from to. StandsWithPath code instr path numbers from to)
path_emitted {a = a} {b = b} {c = c} instr path numbers some fits at long first last = record {
  grown = record { more = words_of instr ++ numbers; same = last ∙ ap (λ x. x ++ numbers) first ∙ append_assoc a (words_of instr) numbers };
  stands = λ code grows.
      let front : code ≡ (a ++ words_of instr) ++ (numbers ++ grows.more) =
      grows.same ∙ ap (λ x. x ++ grows.more) (last ∙ ap (λ x. x ++ numbers) first) ∙ append_assoc (a ++ words_of instr) numbers grows.more in
      let high : length b ≡ length a + length (words_of instr) = ap length first ∙ length-append a (words_of instr) in
      let top : length c ≡ length b + length numbers = ap length last ∙ length-append b numbers in
      let all : length code ≡ length c + length grows.more = ap length grows.same ∙ length-append c grows.more in
      let behind : path.at ≡ length (a ++ words_of instr) = at ∙ sym (length-append a (words_of instr)) in
      record {
        instr_stands = record {
          before = a;
          after = numbers ++ grows.more;
          words = front ∙ append_assoc a (words_of instr) (numbers ++ grows.more);
          begins = refl;
          path = subst (λ path. PathStands path (length a + length (words_of instr)) (length c)) (sym some) (at, omega (arith, high, top, long));
          ends = omega (arith, all);
          fits = fits;
        };
        same = ap (λ x. take path.length (drop path.at x)) front ∙ ap (λ k. take path.length (drop k ((a ++ words_of instr) ++ (numbers ++ grows.more)))) behind
            ∙ ap (take path.length) (drop_all (a ++ words_of instr) (numbers ++ grows.more)) ∙ ap (λ k. take k (numbers ++ grows.more)) long
            ∙ take_all numbers grows.more;
      };
}
