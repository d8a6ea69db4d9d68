-- Numbers that stay below the length of a table that grows.
use Rattle.std.proofs.Common.{◌≡◌, ℕ, suc, zero, ◌+◌, ◌<◌, ◌≤◌, List, [], ◌∷◌, ◌++◌, map, take, drop, reverse, length, get_or, Option, Some, None, Result, Ok, Err, OnOk, OnErr, refl, ap, sym, subst, ◌∙◌, Bool, true, false, if◌then◌else◌, arith}
use Rattle.std.specs.Str.{bytes_eq}
use Rattle.std.proofs.lemmas.List.{reverse-append, length-reverse, reverse-reverse}
use Rattle.std.proofs.Math.Seq.{take-append_seam, drop-append_seam}
use Rattle.indexmap.proofs.ReorderLemmas.{map-reverse}
use Rattle.std.proofs.lemmas.List.{map-append, take-map, take_more}
use Rattle.hume_base.specs.declared.types.Ty.{Ty, roll-Ty, out-Ty, out-roll-Ty}
use Rattle.hume_base.specs.declared.types.Ty.TheOpen.{Ty-F}
use Rattle.check_scopes.specs.declared.types.node.Node.{Node}
use Rattle.check_scopes.specs.declared.types.node.Node.TheVariants as of
use Rattle.check_scopes.specs.types.Nodes.{type_at, ty_of, level_of, all_below, IsWithin, Grows}
use Rattle.check_scopes.specs.types.Contexts.{Known, last_of, last_type, type_or_bool, with_found, top}
use Rattle.check_typing.specs.Signatures.{variable_named, inner_or_this}

-- the types of numbers, and those of variables
abbrev pub shown : List Ty → List ℕ → List Ty
shown tys ns = map (type_at tys) ns

abbrev pub shown_vars : List Ty → List (List ℕ × ℕ) → List (List ℕ × Ty)
shown_vars tys vs = map (λ v. (v.0, type_at tys v.1)) vs

abbrev pub numbers : List (List ℕ × ℕ) → List ℕ
numbers vs = map (λ v. v.1) vs

pub shown_grown : (old new : List Ty) → Grows old new → (ns : List ℕ) → all_below (length old) ns → shown new ns ≡ shown old ns
shown_grown old new g [] w = refl
shown_grown old new g (n ∷ ns) w = λ i. g.1 n w.0 i ∷ shown_grown old new g ns w.1 i

pub kept_shown : (old new : List Ty) → Grows old new → (ns : List ℕ) → all_below (length old) ns → {tys : List Ty}
    → shown old ns ≡ tys → shown new ns ≡ tys
kept_shown old new g ns w is = shown_grown old new g ns w ∙ is

pub vars_grown : (old new : List Ty) → Grows old new → (vs : List (List ℕ × ℕ)) → all_below (length old) (numbers vs) → shown_vars new vs ≡ shown_vars old vs
vars_grown old new g [] w = refl
vars_grown old new g (v ∷ vs) w = λ i. (v.0, g.1 v.1 w.0 i) ∷ vars_grown old new g vs w.1 i

pub below_more : (a b : ℕ) (ns : List ℕ) → a ≤ b → all_below a ns → all_below b ns
below_more a b [] h w = tt
below_more a b (n ∷ ns) h w = let lt = w.0 in let first : n < b = omega arith in (first, below_more a b ns h w.1)

pub grows_then : (a b c : List Ty) → Grows a b → Grows b c → Grows a c
grows_then a b c first next = (let p = first.0 in let q = next.0 in let r : length a ≤ length c = omega arith in r, λ n lt. by n lt)
  where
    by : (n : ℕ) → n < length a → type_at c n ≡ type_at a n
    by n lt = let p = first.0 in let within : n < length b = omega arith in next.1 n within ∙ first.1 n lt

-- one more of a list of types has its number
pub one_more : (old new : List Ty) → Grows old new → (tys : List Ty) (i : ℕ) (ty : Ty) (ns more : List ℕ) (n : ℕ) → i < length tys → get_or tys i ty ≡ ty
    → all_below (length old) ns → map (type_at old) ns ≡ take i tys → more ≡ ns ++ n ∷ [] → type_at new n ≡ ty → map (type_at new) more ≡ take (i + 1) tys
one_more old new g tys i ty ns more n lt at below_old so_far is new_one =
    ap (map (type_at new)) is ∙ map-append (type_at new) ns (n ∷ [])
    ∙ (λ j. (shown_grown old new g ns below_old ∙ so_far) j ++ (new_one ∙ sym at) j ∷ []) ∙ sym (take_more tys i ty lt)

-- what holds of numbers below the length of a table holds over a longer one
pub all_more : (old new : List Ty) → Grows old new → (vs : List (List ℕ × ℕ)) (held kept : List ℕ)
    → all_below (length old) (numbers vs) × all_below (length old) held × all_below (length old) kept
    → all_below (length new) (numbers vs) × all_below (length new) held × all_below (length new) kept
all_more old new g vs held kept w = (below_more _ _ (numbers vs) g.0 w.0, below_more _ _ held g.0 w.1, below_more _ _ kept g.0 w.2)

pub below_push : (b : ℕ) (vs : List (List ℕ × ℕ)) (v : List ℕ × ℕ) → all_below b (numbers vs) → v.1 < b → all_below b (numbers (vs ++ v ∷ []))
below_push b [] v w h = (h, tt)
below_push b (u ∷ vs) v w h = (w.0, below_push b vs v w.1 h)

-- numbers after one more was pushed, or after memory ran out
pub below_pushed : {A E : Type 0} (b n : ℕ) (held after : List ℕ) (r : Result A E) → OnOk r (after ≡ n ∷ held) → OnErr r (after ≡ held)
    → n < b → all_below b held → all_below b after
below_pushed b n held after (Ok x) ok err within below = subst (all_below b) (sym ok) (within, below)
below_pushed b n held after (Err e) ok err within below = subst (all_below b) (sym err) below

-- what follows of a success that was handed on
pub on_ok : {A E P Q : Type 0} (r : Result A E) → (P → Q) → OnOk r P → OnOk r Q
on_ok (Ok x) f ok = f ok
on_ok (Err e) f ok = ok

pub below_take : (b k : ℕ) (vs : List (List ℕ × ℕ)) → all_below b (numbers vs) → all_below b (numbers (take k vs))
below_take b zero vs w = tt
below_take b (suc k) [] w = tt
below_take b (suc k) (v ∷ vs) w = (w.0, below_take b k vs w.1)

-- nodes without parts
none_below : (n : ℕ) → n < 0 → ⊥
none_below n h = omega arith

no_parts : (tys us : List Ty) (ns : List ℕ) → all_below 0 ns → map (type_at tys) ns ≡ map (type_at us) ns
no_parts tys us [] w = refl
no_parts tys us (n ∷ ns) w = absurd (none_below n w.0)

pub plain : (tys : List Ty) (node : Node) → IsWithin 0 node → ty_of tys node ≡ ty_of [] node
plain tys (of.Tuple parts) w = ap (λ ts. roll-Ty (Ty-F.Tuple ts)) (no_parts tys [] parts.items w)
plain tys (of.Vector c n) w = absurd (none_below n w)
plain tys _ w = refl

pub plain_within : (b : ℕ) (node : Node) → IsWithin 0 node → IsWithin b node
plain_within b (of.Tuple parts) w = below_more 0 b parts.items (omega arith) w
plain_within b (of.Vector c n) w = absurd (none_below n w)
plain_within b _ w = tt

-- looking up a name among shown variables
abbrev found_shown : List Ty → Option (ℕ × ℕ) → Option (ℕ × Ty)
found_shown tys None = None
found_shown tys (Some p) = Some (p.0, type_at tys p.1)

last_shown : (tys : List Ty) (x : List ℕ) (vs : List (List ℕ × ℕ)) → variable_named x (shown_vars tys vs) ≡ found_shown tys (variable_named x vs)
last_shown tys x [] = refl
last_shown tys x (v ∷ vs) = ap (inner_or_this x (v.0, type_at tys v.1)) (last_shown tys x vs) ∙ by (variable_named x vs)
  where
    test : (b : Bool) → (if b then Some (0, type_at tys v.1) else None) ≡ found_shown tys (if b then Some (0, v.1) else None)
    test true = refl
    test false = refl

    by : (o : Option (ℕ × ℕ)) → inner_or_this x (v.0, type_at tys v.1) (found_shown tys o) ≡ found_shown tys (inner_or_this x v o)
    by None = test (bytes_eq v.0 x)
    by (Some p) = refl

pub found_below : (b : ℕ) (x : List ℕ) (vs : List (List ℕ × ℕ)) (p : ℕ × ℕ) → all_below b (numbers vs) → variable_named x vs ≡ Some p → p.1 < b
found_below b x [] p w h = cc
found_below b x (v ∷ vs) p w h = by (variable_named x vs) (λ r q. found_below b x vs r w.1 q) refl h
  where
    test : (c : Bool) → (if c then Some (0, v.1) else None) ≡ Some p → p.1 < b
    test true e = subst (λ q. q.1 < b) (let s : (0, v.1) ≡ p = cc in s) w.0
    test false e = cc

    by : (o : Option (ℕ × ℕ)) → ((r : ℕ × ℕ) → o ≡ Some r → r.1 < b) → o ≡ o → inner_or_this x v o ≡ Some p → p.1 < b
    by None rest q e = test (bytes_eq v.0 x) e
    by (Some r) rest q e = subst (λ q. q.1 < b) (let s : (r.0 + 1, r.1) ≡ p = cc in s) (rest r refl)

pub finds_none : (tys : List Ty) (x : List ℕ) (vs : List (List ℕ × ℕ)) (k : Known) → shown_vars tys vs ≡ k.0 → variable_named x vs ≡ None → (None, k) ≡ with_found (variable_named x k.0) k
finds_none tys x vs k is h = sym (ap (λ o. with_found o k) (ap (variable_named x) (sym is) ∙ last_shown tys x vs ∙ ap (found_shown tys) h))

pub finds_some : (tys : List Ty) (x : List ℕ) (vs : List (List ℕ × ℕ)) (k : Known) (p : ℕ × ℕ) → shown_vars tys vs ≡ k.0 → variable_named x vs ≡ Some p
    → (Some p.0, (k.0, type_at tys p.1 ∷ k.1, k.2)) ≡ with_found (variable_named x k.0) k
finds_some tys x vs k p is h = sym (ap (λ o. with_found o k) (ap (variable_named x) (sym is) ∙ last_shown tys x vs ∙ ap (found_shown tys) h))

-- the number beside the last variable
pub last_below : (b : ℕ) (vs : List (List ℕ × ℕ)) (n : ℕ) → all_below b (numbers vs) → last_of vs ≡ Some n → n < b
last_below b [] n w h = cc
last_below b (v ∷ []) n w h = subst (λ k. k < b) (let same : v.1 ≡ n = cc in same) w.0
last_below b (v ∷ next ∷ vs) n w h = last_below b (next ∷ vs) n w.1 h

pub last_seen : (tys : List Ty) (vs : List (List ℕ × ℕ)) (n : ℕ) (known : List (List ℕ × Ty)) → shown_vars tys vs ≡ known → last_of vs ≡ Some n
    → type_at tys n ≡ last_type known
last_seen tys vs n known is h = sym (ap last_type (sym is) ∙ ap type_or_bool (by vs h))
  where
    by : (vs : List (List ℕ × ℕ)) → last_of vs ≡ Some n → last_of (shown_vars tys vs) ≡ Some (type_at tys n)
    by [] e = cc
    by (v ∷ []) e = let same : v.1 ≡ n = cc in ap (λ k. Some (type_at tys k)) same
    by (v ∷ next ∷ vs) e = by (next ∷ vs) e

-- the node of the last number tells the level of the last type
pub top_level : (tys : List Ty) (held ns : List ℕ) (n : ℕ) (node : Node) (ts : List Ty) → shown tys held ≡ ts → held ≡ n ∷ ns → type_at tys n ≡ ty_of tys node → out-Ty (top ts) ≡ level_of tys node
top_level tys held ns n node ts is h at = ap (λ ts. out-Ty (top ts)) (sym is ∙ ap (shown tys) h) ∙ ap out-Ty at ∙ out-roll-Ty (level_of tys node)

-- the last numbers, in the order in which they were pushed
pub last_taken : (a b : List ℕ) (count : ℕ) → length b ≡ count → b ≡ reverse (take count (reverse (a ++ b)))
last_taken a b count h =
    sym (ap reverse (ap (take count) (reverse-append a b) ∙ ap (λ n. take n (reverse b ++ reverse a)) (sym h ∙ sym (length-reverse b)) ∙ take-append_seam (reverse b) (reverse a)) ∙ reverse-reverse b)

pub last_left : (a b : List ℕ) (count : ℕ) → length b ≡ count → reverse a ≡ drop count (reverse (a ++ b))
last_left a b count h =
    sym (ap (drop count) (reverse-append a b) ∙ ap (λ n. drop n (reverse b ++ reverse a)) (sym h ∙ sym (length-reverse b)) ∙ drop-append_seam (reverse b) (reverse a))

pub below_last : (b n : ℕ) (ns : List ℕ) → all_below b ns → n < b → all_below b (ns ++ n ∷ [])
below_last b n [] w h = (h, tt)
below_last b n (m ∷ ms) w h = (w.0, below_last b n ms w.1 h)

pub below_append : (b : ℕ) (ms ns : List ℕ) → all_below b ms → all_below b ns → all_below b (ms ++ ns)
below_append b [] ns v w = w
below_append b (m ∷ ms) ns v w = (v.0, below_append b ms ns v.1 w)

pub below_reverse : (b : ℕ) (ns : List ℕ) → all_below b ns → all_below b (reverse ns)
below_reverse b [] w = tt
below_reverse b (n ∷ ns) w = subst (all_below b) (sym (reverse-append (n ∷ []) ns)) (below_append b (reverse ns) (n ∷ []) (below_reverse b ns w.1) (w.0, tt))

pub below_first : (b k : ℕ) (ns : List ℕ) → all_below b ns → all_below b (take k ns)
below_first b zero ns w = tt
below_first b (suc k) [] w = tt
below_first b (suc k) (n ∷ ns) w = (w.0, below_first b k ns w.1)

pub below_rest : (b k : ℕ) (ns : List ℕ) → all_below b ns → all_below b (drop k ns)
below_rest b zero ns w = w
below_rest b (suc k) [] w = tt
below_rest b (suc k) (n ∷ ns) w = below_rest b k ns w.1

pub below_at : (b k d : ℕ) (ns : List ℕ) → all_below b ns → k < length ns → get_or ns k d < b
below_at b k d [] w h = omega arith
below_at b zero d (m ∷ ms) w h = w.0
below_at b (suc k) d (m ∷ ms) w h = below_at b k d ms w.1 (let e : k < length ms = omega arith in e)

pub shown_last : (tys : List Ty) (count : ℕ) (ns : List ℕ) → shown tys (reverse (take count ns)) ≡ reverse (take count (shown tys ns))
shown_last tys count ns = map-reverse (type_at tys) (take count ns) ∙ ap reverse (sym (take-map (type_at tys) count ns))

pub shown_rest : (tys : List Ty) (count : ℕ) (ns : List ℕ) → shown tys (drop count ns) ≡ drop count (shown tys ns)
shown_rest tys zero ns = refl
shown_rest tys (suc k) [] = refl
shown_rest tys (suc k) (n ∷ ns) = shown_rest tys k ns
