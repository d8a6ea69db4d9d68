-- What stands at a place is read there.
use Rattle.std.proofs.Common.{◌≡◌, ℕ, zero, suc, ◌+◌, ◌*◌, ◌/◌, ◌%◌, ◌<◌, ◌≤◌, nat_le, true, false, if◌then◌else◌, List, [], ◌∷◌, ◌++◌, length, Some, None, slice_get, refl, ap, sym, ◌∙◌, arith}
use Rattle.std.proofs.lemmas.Bool.{le-leb}
use Rattle.std.proofs.Math.Nat.{mod-eq_of_lt}
use Rattle.box_code.specs.declared.instr.Path.{Path}
use Rattle.box_code.specs.declared.instr.Scalar.{Scalar}
use Rattle.box_code.specs.declared.instr.Scalar.TheVariants as scalar
use Rattle.box_code.specs.declared.instr.Comparison.{Comparison}
use Rattle.box_code.specs.declared.instr.Comparison.TheVariants as comparison
use Rattle.box_code.specs.declared.instr.Instr.{Instr}
use Rattle.box_code.specs.declared.instr.Instr.TheVariants.{Push, Load, Make, Add, Sub, Mul, Div, Mod, Neg, Not, Convert, Compare, Index, Update, Jump, JumpFalse, MatchWord, MatchTag, Field, Slide, Call, Return, Raise, Finish}
use Rattle.box_code.specs.Words.{head_of, word_of_head, number_of_scalar, bits_of_scalar, number_of_comparison, operands_of, words_of, path_of, PathStands, OperandsFit, StandsAt}
use Rattle.box_code.specs.Reading.{Read, scalar_of, comparison_of, instr_of, instr_at, at_head, with_path, path_at}

get_behind : (xs ys : List ℕ) (i j : ℕ) → j ≡ length xs + i → slice_get (xs ++ ys) j ≡ slice_get ys i
get_behind [] ys i j same = ap (slice_get ys) (let e : j ≡ i = omega (arith, same) in e)
get_behind (x ∷ xs) ys i zero same = absurd (omega (arith, same))
get_behind (x ∷ xs) ys i (suc j) same = get_behind xs ys i j (omega (arith, same))

read_scalar : (ty : Scalar) → bits_of_scalar ty < 256 → scalar_of (number_of_scalar ty) (bits_of_scalar ty) ≡ ty
read_scalar scalar.Bool fits = refl
read_scalar scalar.Char fits = refl
read_scalar (scalar.Int bits) fits = ap scalar.Int (mod-eq_of_lt fits)
read_scalar (scalar.Nat bits) fits = ap scalar.Nat (mod-eq_of_lt fits)

small_number : (ty : Scalar) → number_of_scalar ty < 4
small_number scalar.Bool = omega arith
small_number scalar.Char = omega arith
small_number (scalar.Int bits) = omega arith
small_number (scalar.Nat bits) = omega arith

read_number : (c : Comparison) → comparison_of (number_of_comparison c) ≡ c
read_number comparison.Eq = refl
read_number comparison.Ne = refl
read_number comparison.Lt = refl
read_number comparison.Le = refl
read_number comparison.Gt = refl
read_number comparison.Ge = refl

read_comparison : (c : Comparison) (ty : Scalar) → comparison_of ((number_of_scalar ty + 4 * number_of_comparison c) / 4) ≡ c
read_comparison c ty =
    let small = small_number ty in
    let e : (number_of_scalar ty + 4 * number_of_comparison c) / 4 ≡ number_of_comparison c = omega (arith, small) in
    ap comparison_of e ∙ read_number c

read_compared : (c : Comparison) (ty : Scalar) → bits_of_scalar ty < 256 → scalar_of ((number_of_scalar ty + 4 * number_of_comparison c) % 4) (bits_of_scalar ty) ≡ ty
read_compared c ty fits =
    let small = small_number ty in
    let e : (number_of_scalar ty + 4 * number_of_comparison c) % 4 ≡ number_of_scalar ty = omega (arith, small) in
    ap (λ number. scalar_of number (bits_of_scalar ty)) e ∙ read_scalar ty fits

read_path : (room at size : ℕ) (path : Path) (next : ℕ) (make : Path → Instr) → path.at ≡ at → next ≡ at + path.length → next ≤ room → size ≡ path.length
    → with_path room at size make ≡ Some (make path, next)
read_path room at size path next make begins ends within same =
    let fits : nat_le (at + size) room ≡ true = le-leb (at + size) room (omega (arith, ends, within, same)) in
    let e : at + size ≡ next = omega (arith, ends, same) in
    let p : path_at at size ≡ path = (λ i. record { at = sym begins i; length = same i }) in
    ap (λ b. if b then Some (make (path_at at size), at + size) else None) fits ∙ (λ i. Some (make (p i), e i))

-- what is read where the instruction's words are these
abbrev Reads : ℕ → ℕ → List ℕ → Instr → ℕ → Type 0
Reads room at behind instr next =
    instr_of (head_of instr).kind (head_of instr).low (head_of instr).high (slice_get behind 0) (slice_get behind 1) room at ≡ Some (instr, next)

typed : (make : Scalar → Instr) (ty : Scalar) (at next : ℕ) → bits_of_scalar ty < 256 → next ≡ at + 1
    → ◌≡◌ {A = Read} (Some (make (scalar_of (number_of_scalar ty) (bits_of_scalar ty)), at + 1)) (Some (make ty, next))
typed make ty at next fits ends = (λ i. Some (make (read_scalar ty fits i), sym ends i))

plain : (instr : Instr) (at next : ℕ) → next ≡ at + 1 → ◌≡◌ {A = Read} (Some (instr, at + 1)) (Some (instr, next))
plain instr at next ends = (λ i. Some (instr, sym ends i))

read_form : (room at : ℕ) (after : List ℕ) (instr : Instr) (next : ℕ) → PathStands (path_of instr) (at + length (words_of instr)) next → next ≤ room
    → OperandsFit instr → Reads room at (operands_of instr ++ after) instr next
read_form room at after (Push word) next path within fits = (λ i. Some (Push word, sym path i))
read_form room at after (Load depth) next path within fits = plain (Load depth) at next path
read_form room at after (Make tag count) next path within fits = plain (Make tag count) at next path
read_form room at after (Add ty) next path within fits = typed (λ ty. Add ty) ty at next fits.bits path
read_form room at after (Sub ty) next path within fits = typed (λ ty. Sub ty) ty at next fits.bits path
read_form room at after (Mul ty) next path within fits = typed (λ ty. Mul ty) ty at next fits.bits path
read_form room at after (Div ty) next path within fits = typed (λ ty. Div ty) ty at next fits.bits path
read_form room at after (Mod ty) next path within fits = typed (λ ty. Mod ty) ty at next fits.bits path
read_form room at after (Neg ty) next path within fits = typed (λ ty. Neg ty) ty at next fits.bits path
read_form room at after Not next path within fits = plain Not at next path
read_form room at after (Convert ty) next path within fits = typed (λ ty. Convert ty) ty at next fits.bits path
read_form room at after (Compare comparison ty) next path within fits =
    (λ i. Some (Compare (read_comparison comparison ty i) (read_compared comparison ty fits.bits i), sym path i))
read_form room at after (Index count) next path within fits = plain (Index count) at next path
read_form room at after (Update count) next path within fits = plain (Update count) at next path
read_form room at after (Jump to) next path within fits = plain (Jump to) at next path
read_form room at after (JumpFalse to) next path within fits = plain (JumpFalse to) at next path
read_form room at after (MatchWord depth path word to) next stands within fits =
    read_path room (at + 3) (path.length % 4294967296) path next (λ path. MatchWord depth path word to) stands.0 stands.1 within (mod-eq_of_lt fits.length)
read_form room at after (MatchTag depth path tag to) next stands within fits =
    (λ i. with_path room (at + 3) (path.length % 4294967296) (λ path. MatchTag depth path (mod-eq_of_lt fits.tag i) to))
    ∙ read_path room (at + 3) (path.length % 4294967296) path next (λ path. MatchTag depth path tag to) stands.0 stands.1 within (mod-eq_of_lt fits.length)
read_form room at after (Field depth path) next stands within fits =
    read_path room (at + 1) path.length path next (λ path. Field depth path) stands.0 stands.1 within refl
read_form room at after (Slide count) next path within fits = plain (Slide count) at next path
read_form room at after (Call to count) next path within fits = plain (Call to count) at next path
read_form room at after (Return count variables) next path within fits = plain (Return count variables) at next path
read_form room at after (Raise exn true) next path within fits = plain (Raise exn true) at next path
read_form room at after (Raise exn false) next path within fits = plain (Raise exn false) at next path
read_form room at after (Finish mask) next path within fits = plain (Finish mask) at next path

small_kind : (instr : Instr) → (head_of instr).kind < 256
small_kind (Push word) = omega arith
small_kind (Load depth) = omega arith
small_kind (Make tag count) = omega arith
small_kind (Add ty) = omega arith
small_kind (Sub ty) = omega arith
small_kind (Mul ty) = omega arith
small_kind (Div ty) = omega arith
small_kind (Mod ty) = omega arith
small_kind (Neg ty) = omega arith
small_kind Not = omega arith
small_kind (Convert ty) = omega arith
small_kind (Compare comparison ty) = omega arith
small_kind (Index count) = omega arith
small_kind (Update count) = omega arith
small_kind (Jump to) = omega arith
small_kind (JumpFalse to) = omega arith
small_kind (MatchWord depth path word to) = omega arith
small_kind (MatchTag depth path tag to) = omega arith
small_kind (Field depth path) = omega arith
small_kind (Slide count) = omega arith
small_kind (Call to count) = omega arith
small_kind (Return count variables) = omega arith
small_kind (Raise exn carried) = omega arith
small_kind (Finish mask) = omega arith

-- the parts of a first word
kind_in : (k l h : ℕ) → k < 256 → (k + 256 * l + 4294967296 * h) % 256 ≡ k
kind_in k l h small = omega (arith, small)

low_in : (k l h : ℕ) → k < 256 → l < 16777216 → (k + 256 * l + 4294967296 * h) / 256 % 16777216 ≡ l
low_in k l h small less = omega (arith, small, less)

high_in : (k l h : ℕ) → k < 256 → l < 16777216 → (k + 256 * l + 4294967296 * h) / 4294967296 ≡ h
high_in k l h small less = omega (arith, small, less)

pub read_there : (code : List ℕ) (at : ℕ) (instr : Instr) (next : ℕ) → StandsAt code at instr next → instr_at code at ≡ Some (instr, next)
read_there code at instr next s =
    let word = word_of_head (head_of instr) in
    let rest = operands_of instr ++ s.after in
    let k = (head_of instr).kind in
    let l = (head_of instr).low in
    let h = (head_of instr).high in
    let begins = s.begins in
    let first : slice_get code at ≡ Some word = ap (λ c. slice_get c at) s.words ∙ get_behind s.before (words_of instr ++ s.after) 0 at (omega (arith, begins)) in
    let second : slice_get code (at + 1) ≡ slice_get rest 0 =
    ap (λ c. slice_get c (at + 1)) s.words ∙ get_behind s.before (words_of instr ++ s.after) 1 (at + 1) (omega (arith, begins)) in
    let third : slice_get code (at + 2) ≡ slice_get rest 1 =
    ap (λ c. slice_get c (at + 2)) s.words ∙ get_behind s.before (words_of instr ++ s.after) 2 (at + 2) (omega (arith, begins)) in
    let small = small_kind instr in
    (λ i. at_head (first i) (second i) (third i) (length code) at)
    ∙ (λ i. instr_of (kind_in k l h small i) (low_in k l h small s.fits.low i) (high_in k l h small s.fits.low i) (slice_get rest 0) (slice_get rest 1) (length code) at)
    ∙ read_form (length code) at s.after instr next s.path s.ends s.fits

pub read_parts : (instr other : Instr) (next after : ℕ) → ◌≡◌ {A = Read} (Some (instr, next)) (Some (other, after)) → ((other ≡ instr) × (after ≡ next))
read_parts instr other next after same =
    let pairs : ◌≡◌ {A = Instr × ℕ} (instr, next) (other, after) = cc in
    (λ i. (sym pairs i).0, λ i. (sym pairs i).1)
