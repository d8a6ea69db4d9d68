-- A core has no more functions than are allowed.
use Rattle.std.proofs.Common.{◌≡◌, ℕ, zero, suc, ◌+◌, ◌<◌, ◌≤◌, List, [], ◌∷◌, length, take, get_or, Option, Some, None, slice_get, refl, ap, ◌∙◌, arith, true, false}
use Rattle.std.specs.List.{filter_map, cons_option}
use Rattle.std.proofs.lemmas.Bool.{le-leb}
use Rattle.std.proofs.lemmas.List.{length-take, get_or-take, get_or_default}
use Rattle.hume_base.specs.declared.limits.TheConstants.{MAX_FUNCTIONS}
use Rattle.hume_ast.specs.declared.tree.Decl.{Decl}
use Rattle.hume_ast.specs.declared.tree.Decl.TheVariants.{Fun}
use Rattle.hume_ast.specs.declared.tree.Program.{Program}
use Rattle.check_counts.specs.Limits.{is_function, how_many, tally_of, is_full_for}
use Rattle.check_tables.specs.graph.Orders.{IsOrder}
use Rattle.hume_model.specs.declared.core_tree.Core.{Core}
use Rattle.check_typing.specs.Partial.{given}
use Rattle.check_rules.specs.Declared.{Decls, FunctionDecl, function_of, in_order}
use Rattle.check_rules.specs.CheckRules.{IsFine}
use Rattle.check_rules.specs.CoreOf.{IsFunctionOf, IsCoreOf}
use Rattle.check_rules.proofs.CountsWithin.{same_long, one_if, one_more, within, cons_long}

-- the number isn't among these
abbrev Lacks : ℕ → List ℕ → Type 0
Lacks x [] = Unit {0}
Lacks x (y ∷ ys) = (x ≡ y → ⊥) × Lacks x ys

-- no number stands twice
abbrev Apart : List ℕ → Type 0
Apart [] = Unit {0}
Apart (x ∷ xs) = Lacks x xs × Apart xs

lacks_all : (x : ℕ) (xs : List ℕ) → ((j : ℕ) → j < length xs → x ≡ get_or xs j 0 → ⊥) → Lacks x xs
lacks_all x [] h = tt
lacks_all x (y ∷ ys) h = (λ e. h 0 (omega arith) e, lacks_all x ys (λ j lt e. h (suc j) (omega arith) e))

all_apart : (xs : List ℕ) → ((i j : ℕ) → i < j → j < length xs → get_or xs i 0 ≡ get_or xs j 0 → ⊥) → Apart xs
all_apart [] h = tt
all_apart (x ∷ xs) h = (lacks_all x xs (λ j lt e. h 0 (suc j) (omega arith) (omega arith) e), all_apart xs (λ i j lt within e. h (suc i) (suc j) (omega arith) (omega arith) e))

-- an order has each number once
pub order_once : (graph : List (List ℕ)) (order : List ℕ) → IsOrder graph order → (i j : ℕ) → i < j → j < length order
    → get_or order i 0 ≡ get_or order j 0 → ⊥
order_once graph order is i j lt within e =
    let here = get_or order j 0 in
    let below : i < length (take j order) = omega (arith, length-take j order) in
    let same : get_or (take j order) i here ≡ here = get_or-take j order i here lt ∙ get_or_default order i here 0 (omega arith) ∙ e in
    (is.numbering j within).0.new' (i, below, same)

order_apart : (graph : List (List ℕ)) (order : List ℕ) → IsOrder graph order → Apart order
order_apart graph order is = all_apart order (order_once graph order is)

-- the numbers but 0, each one smaller
abbrev before : ℕ → Option ℕ
before zero = None
before (suc n) = Some n

abbrev lowered : List ℕ → List ℕ
lowered xs = filter_map before xs

lacks_lowered : (x : ℕ) (xs : List ℕ) → Lacks (suc x) xs → Lacks x (lowered xs)
lacks_lowered x [] h = tt
lacks_lowered x (zero ∷ ys) h = lacks_lowered x ys h.1
lacks_lowered x (suc y ∷ ys) h = (λ e. h.0 (ap suc e), lacks_lowered x ys h.1)

apart_lowered : (xs : List ℕ) → Apart xs → Apart (lowered xs)
apart_lowered [] h = tt
apart_lowered (zero ∷ xs) h = apart_lowered xs h.1
apart_lowered (suc x ∷ xs) h = (lacks_lowered x xs h.0, apart_lowered xs h.1)

function_none : (place : ℕ) (decl : Decl) → function_of (place, decl) ≡ None → is_function decl ≡ false
function_none place (Fun name tys equations) h = cc
function_none place _ h = refl

function_some : (place : ℕ) (decl : Decl) (f : FunctionDecl) → function_of (place, decl) ≡ Some f → is_function decl ≡ true
function_some place (Fun name tys equations) f h = refl
function_some place _ f h = cc

abbrev told : List ℕ → Decls → List FunctionDecl
told xs decls = in_order function_of xs decls

none_first : (xs : List ℕ) (d : ℕ × Decl) (decls : Decls) → Lacks 0 xs → told xs (d ∷ decls) ≡ told (lowered xs) decls
none_first [] d decls h = refl
none_first (zero ∷ xs) d decls h = absurd (h.0 refl)
none_first (suc x ∷ xs) d decls h = ap (cons_option (given (slice_get decls x) function_of)) (none_first xs d decls h.1)

same_more : (o : Option FunctionDecl) (xs ys : List FunctionDecl) (n : ℕ) → length xs ≤ n + length ys
    → length (cons_option o xs) ≤ n + length (cons_option o ys)
same_more None xs ys n le = le
same_more (Some f) xs ys n le = omega arith

first_more : (xs : List ℕ) (d : ℕ × Decl) (decls : Decls) → Apart xs
    → length (told xs (d ∷ decls)) ≤ one_if (is_function d.1) + length (told (lowered xs) decls)
first_more [] d decls h = omega arith
first_more (zero ∷ xs) d decls h =
    let e : length (told (zero ∷ xs) (d ∷ decls)) ≡ one_if (is_function d.1) + length (told xs (d ∷ decls)) =
    cons_long (function_of d) (is_function d.1) (told xs (d ∷ decls)) (function_none d.0 d.1) (function_some d.0 d.1) in
    let f : length (told xs (d ∷ decls)) ≡ length (told (lowered xs) decls) =
    ap (λ (fs : List FunctionDecl). length fs) (none_first xs d decls h.0) in
    omega arith
first_more (suc x ∷ xs) d decls h =
    same_more (given (slice_get decls x) function_of) (told xs (d ∷ decls)) (told (lowered xs) decls) (one_if (is_function d.1)) (first_more xs d decls h.1)

none_told : (xs : List ℕ) → length (told xs []) ≤ 0
none_told [] = omega arith
none_told (x ∷ xs) = none_told xs

-- in an order no more functions are told than are declared
told_within : (xs : List ℕ) (decls : Decls) → Apart xs → length (told xs decls) ≤ how_many is_function decls
told_within xs [] h = let n = none_told xs in omega arith
told_within xs (d ∷ decls) h =
    let first = first_more xs d decls h in
    let others : length (told (lowered xs) decls) ≤ how_many is_function decls = told_within (lowered xs) decls (apart_lowered xs h) in
    let e : how_many is_function (d ∷ decls) ≡ one_if (is_function d.1) + how_many is_function decls =
    one_more is_function d decls (is_function d.1) refl in
    omega arith

full_function : (before : Decls) (decl : Decl) → is_function decl ≡ true → MAX_FUNCTIONS ≤ how_many is_function before
    → is_full_for (tally_of before) decl ≡ true
full_function before (Fun name tys equations) is le = le-leb _ _ le
full_function before _ is le = cc

pub functions_within : (text : List ℕ) (program : Program) (core : Core) → IsFine program.decls → IsCoreOf text program core
    → length core.funs ≤ MAX_FUNCTIONS
functions_within text program core fine p =
    let order = p.are.funs.order in
    let a : length (told order program.decls) ≡ length core.funs = same_long (IsFunctionOf text p.signatures) _ _ p.funs in
    let b = told_within order program.decls (order_apart _ order p.are.funs.numbered) in
    let c : how_many is_function program.decls ≤ MAX_FUNCTIONS = within program.decls fine is_function MAX_FUNCTIONS full_function in
    omega arith
