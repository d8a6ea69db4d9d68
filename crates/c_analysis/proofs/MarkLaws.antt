-- The marks that go from part to part of an expression become those of the variables that it uses.
use Rattle.std.proofs.Common.{◌≡◌, ℕ, zero, suc, ◌+◌, ◌≤◌, ◌<◌, Bool, true, false, not, ◌&&◌, ◌||◌, List, [], ◌∷◌, ◌++◌, map, length, take, drop, replicate, slice_set, slice_get, Option, Some, None, refl, ap, sym, ◌∙◌, subst, arith, ◌==◌, if◌then◌else◌}
use Rattle.std.specs.List.{list_any, range_with_len, filter_map}
use Rattle.std.proofs.lemmas.Grind.{common_steps}
use Rattle.std.proofs.lemmas.Bool.{eq-eqb, ne_eqb}
use Rattle.std.proofs.lemmas.List.{drop_at, take_at, length-append, length-replicate}
use Rattle.hume_base.specs.declared.types.Ty.{Ty}
use Rattle.hume_model.specs.declared.core_tree.PatC.{PatC}
use Rattle.hume_model.specs.Completeness.{are_complete}
use Rattle.hume_model.specs.Forms.{forms_of}
use Rattle.typed_core.specs.declared.typed_tree.TypedExpr.{TypedExpr, roll-TypedExpr, map-TypedExpr, ind-TypedExpr}
use Rattle.typed_core.specs.declared.typed_tree.TypedExpr.TheOpen.{TypedExpr-F}
use Rattle.c_analysis.specs.declared.setting.Called.{Called}
use Rattle.c_analysis.specs.Needs.{needs_test, variables}
use Rattle.c_analysis.specs.Raises.{arms_complete, may_raise, pattern_of}
use Rattle.c_analysis.specs.Seen.{Seen, seen}
use Rattle.c_analysis.specs.Targets.{Target}
use Rattle.c_analysis.specs.Uses.{Uses, arguments_use, arms_use, call_uses, looked_at, marked, marked_from, some_use, uses, uses_bound, uses_step}
use Rattle.c_analysis.specs.inner.Marks.{Looked, Marks, arguments_mark, arm_marks, arms_mark, case_marks, is_last, let_marks, looked, arm_seen, mark_if, mark_step, marks_of, parts_mark, some_set, with_others}
use Rattle.c_analysis.proofs.Forms.{by_form, patterns_seen}

or_assoc : (a b c : Bool) → ((a || b) || c) ≡ (a || (b || c))
or_assoc true b c = refl
or_assoc false b c = refl

or_false : (a : Bool) → (a || false) ≡ a
or_false true = refl
or_false false = refl

and_true : (a : Bool) → (a && true) ≡ a
and_true true = refl
and_true false = refl

twice_from : (f g : ℕ → Bool) (n : ℕ) (xs : List Bool) → marked_from n g (marked_from n f xs) ≡ marked_from n (λ k. f k || g k) xs
twice_from f g n [] = refl
twice_from f g n (x ∷ xs) = λ i. or_assoc x (f n) (g n) i ∷ twice_from f g (n + 1) xs i

length_from : (f : ℕ → Bool) (n : ℕ) (xs : List Bool) → length (marked_from n f xs) ≡ length xs
length_from f n [] = refl
length_from f n (x ∷ xs) = ap suc (length_from f (n + 1) xs)

pub length_marked : (f : ℕ → Bool) (xs : List Bool) → length (marked f xs) ≡ length xs
length_marked f xs = length_from f 0 xs

none_from : (n : ℕ) (xs : List Bool) → marked_from n (λ k. false) xs ≡ xs
none_from n [] = refl
none_from n (x ∷ xs) = λ i. or_false x i ∷ none_from (n + 1) xs i

append_from : (f : ℕ → Bool) (n : ℕ) (xs ys : List Bool) → marked_from n f (xs ++ ys) ≡ marked_from n f xs ++ marked_from (n + length xs) f ys
append_from f n [] ys = ap (λ k. marked_from k f ys) (omega arith)
append_from f n (x ∷ xs) ys =
    ap (λ zs. (x || f n) ∷ zs) (append_from f (n + 1) xs ys ∙ ap (λ k. marked_from (n + 1) f xs ++ marked_from k f ys) (omega arith))

any_new : (f : ℕ → Bool) (n m : ℕ) → list_any (λ (mark : Bool). mark) (marked_from n f (replicate m false)) ≡ list_any f (range_with_len n m)
any_new f n zero = refl
any_new f n (suc m) = ap (λ b. f n || b) (any_new f (n + 1) m)

then_from : (f g : ℕ → Bool) (n : ℕ) (xs : List Bool) → ((k : ℕ) → n ≤ k → f k ≡ g k) → marked_from n f xs ≡ marked_from n g xs
then_from f g n [] same = refl
then_from f g n (x ∷ xs) same = λ i. (x || same n (omega arith) i) ∷ then_from f g (n + 1) xs (λ k le. same k (omega (arith, le))) i

same_number : (n : ℕ) → (n == n) ≡ true
same_number n = eq-eqb n n refl

other_number : (n k : ℕ) → (n ≡ k → ⊥) → (n == k) ≡ false
other_number n k other = ne_eqb n k other

or_true : (a : Bool) → (a || true) ≡ true
or_true true = refl
or_true false = refl

-- a mark that is set
set_from : (n k : ℕ) (xs : List Bool) → slice_set xs k true ≡ marked_from n (λ m. n + k == m) xs
set_from n k [] = refl
set_from n zero (x ∷ xs) = sym (ap (λ b. b ∷ marked_from (n + 1) (λ m. n + 0 == m) xs) head ∙ ap (λ ys. true ∷ ys) tail)
  where
    head : (x || (n + 0 == n)) ≡ true
    head = ap (λ m. x || (m == n)) (omega arith) ∙ ap (λ b. x || b) (same_number n) ∙ or_true x

    tail : marked_from (n + 1) (λ m. n + 0 == m) xs ≡ xs
    tail = then_from (λ m. n + 0 == m) (λ m. false) (n + 1) xs (λ m le. other_number (n + 0) m (λ is. omega (arith, le, is))) ∙ none_from (n + 1) xs
set_from n (suc k) (x ∷ xs) = sym (ap (λ b. b ∷ marked_from (n + 1) (λ m. n + suc k == m) xs) head ∙ ap (λ ys. x ∷ ys) (tail (set_from (n + 1) k xs)))
  where
    head : (x || (n + suc k == n)) ≡ x
    head = ap (λ b. x || b) (other_number (n + suc k) n (λ is. omega (arith, is))) ∙ or_false x

    tail : slice_set xs k true ≡ marked_from (n + 1) (λ m. n + 1 + k == m) xs → marked_from (n + 1) (λ m. n + suc k == m) xs ≡ slice_set xs k true
    tail is = ap (λ j. marked_from (n + 1) (λ m. j == m) xs) (omega arith) ∙ sym is

set_marked : (k : ℕ) (xs : List Bool) → slice_set xs k true ≡ marked (λ m. k == m) xs
set_marked k xs = set_from 0 k xs ∙ ap (λ j. marked (λ m. j == m) xs) (omega arith)

record Fits (marks : Marks) (used : Uses) : Type 0 where
  at : (xs : List Bool) → marks xs ≡ marked (used (length xs)) xs

then_marked : (f : ℕ → Bool) {marks : Marks} {used : Uses} → Fits marks used → (xs : List Bool)
    → marks (marked f xs) ≡ marked (λ k. f k || used (length xs) k) xs
then_marked f {used = used} fits xs =
    fits.at (marked f xs) ∙ ap (λ n. marked (used n) (marked f xs)) (length_marked f xs) ∙ twice_from f (used (length xs)) 0 xs

fits_then : {first second : Marks} {used others : Uses} → Fits first used → Fits second others
    → Fits (λ xs. second (first xs)) (λ count number. used count number || others count number)
fits_then {second = second} {used = used} one two = record { at = λ xs. ap second (one.at xs) ∙ then_marked (used (length xs)) two xs }

fits_none : Fits (λ xs. xs) (λ count number. false)
fits_none = record { at = λ xs. sym (none_from 0 xs) }

fits_if : (needed : Bool) {marks : Marks} {used : Uses} → Fits marks used
    → Fits (λ xs. if needed then marks xs else xs) (λ count number. needed && used count number)
fits_if true fits = record { at = λ xs. fits.at xs }
fits_if false fits = record { at = λ xs. fits_none.at xs }

none_more : (f : ℕ → Bool) (xs : List Bool) → marked f xs ≡ marked (λ k. f k || false) xs
none_more f xs = then_from f (λ k. f k || false) 0 xs (λ k le. sym (or_false (f k)))

if_marked : (needed : Bool) (f : ℕ → Bool) {marks : Marks} {used : Uses} → Fits marks used → (xs : List Bool)
    → (if needed then marks (marked f xs) else marked f xs) ≡ marked (λ k. f k || (needed && used (length xs) k)) xs
if_marked true f fits xs = then_marked f fits xs
if_marked false f fits xs = none_more f xs

-- behind the scope of new variables
behind_scope : {marks : Marks} {used : Uses} → Fits marks used → (m : ℕ) (xs : List Bool)
    → arm_marks (length xs) (marks (xs ++ replicate m false)) ≡ looked (marked (used (length xs + m)) xs) (uses_bound used (length xs) m)
behind_scope {marks = marks} {used = used} fits m xs = λ i. looked (marks_are i) (object_is i)
  where
    new : List Bool
    new = replicate m false

    f : ℕ → Bool
    f = used (length xs + m)

    length_is : length (xs ++ new) ≡ length xs + m
    length_is = length-append xs new ∙ ap (λ k. length xs + k) (length-replicate m false)

    all_is : marks (xs ++ new) ≡ marked f xs ++ marked_from (length xs) f new
    all_is = fits.at (xs ++ new) ∙ ap (λ n. marked (used n) (xs ++ new)) length_is ∙ append_from f 0 xs new
        ∙ ap (λ k. marked f xs ++ marked_from k f new) (omega arith)

    marks_are : take (length xs) (marks (xs ++ new)) ≡ marked f xs
    marks_are = ap (take (length xs)) all_is ∙ take_at (marked f xs) _ (length xs) (length_marked f xs)

    object_is : some_set (length xs) (marks (xs ++ new)) ≡ uses_bound used (length xs) m
    object_is = ap (some_set (length xs)) all_is
        ∙ ap (list_any (λ (mark : Bool). mark)) (drop_at (marked f xs) _ (length xs) (length_marked f xs)) ∙ any_new f (length xs) m

module _ (t : Target) where
  abbrev Same : TypedExpr → Type 0
  Same e = Fits (marks_of t e) (uses t e)

  abbrev Part : Type 0
  Part = (e : TypedExpr) × Same e

  abbrev of_part : Part → TypedExpr
  of_part p = p.0

  abbrev arm_of : PatC × Part → PatC × TypedExpr
  arm_of arm = (arm.0, of_part arm.1)

  abbrev by_marks : TypedExpr → Seen Marks
  by_marks e = seen (mark_step t) e

  abbrev by_uses : TypedExpr → Seen Uses
  by_uses e = seen (uses_step t) e

  abbrev arm_by_marks : PatC × TypedExpr → PatC × Seen Marks
  arm_by_marks arm = (arm.0, by_marks arm.1)

  abbrev arm_by_uses : PatC × TypedExpr → PatC × Seen Uses
  arm_by_uses arm = (arm.0, by_uses arm.1)

  abbrev marks_in : List Part → List (Seen Marks)
  marks_in ps = map by_marks (map of_part ps)

  abbrev uses_in : List Part → List (Seen Uses)
  uses_in ps = map by_uses (map of_part ps)

  abbrev arm_marks_in : List (PatC × Part) → List (PatC × Seen Marks)
  arm_marks_in arms = map arm_by_marks (map arm_of arms)

  abbrev arm_uses_in : List (PatC × Part) → List (PatC × Seen Uses)
  arm_uses_in arms = map arm_by_uses (map arm_of arms)

  parts_fit : (ps : List Part) → Fits (parts_mark (marks_in ps)) (λ count number. some_use count number (uses_in ps))
  parts_fit [] = fits_none
  parts_fit (p ∷ ps) = fits_then p.1 (parts_fit ps)

  arguments_fit : (called : Option Called) (place : ℕ) (ps : List Part)
      → Fits (arguments_mark t called place (marks_in ps)) (λ count number. arguments_use t called place count number (uses_in ps))
  arguments_fit called place [] = fits_none
  arguments_fit called place (p ∷ ps) = fits_then (fits_if (call_uses called place || may_raise t p.0) p.1) (arguments_fit called (place + 1) ps)

  let_fits : (a b : Part) → Fits (λ xs. let_marks t (by_marks a.0) (length xs) (marks_of t b.0 (xs ++ false ∷ [])))
      (λ count number. uses t b.0 (count + 1) number || ((uses t b.0 (count + 1) count || may_raise t a.0) && uses t a.0 count number))
  let_fits a b = record {
    at = λ xs.
        ap (λ (it : Looked). mark_if (it.object || may_raise t a.0) (by_marks a.0) it.marks) (behind_scope b.1 1 xs)
        ∙ if_marked (uses_bound (uses t b.0) (length xs) 1 || may_raise t a.0) (uses t b.0 (length xs + 1)) a.1 xs
        ∙ ap (λ c. marked (λ k. uses t b.0 (length xs + 1) k || ((c || may_raise t a.0) && uses t a.0 (length xs) k)) xs)
        (or_false (uses t b.0 (length xs + 1) (length xs)));
  }

  goes_on : (of : Ty) (complete : Bool) (count : ℕ) (arms : List (PatC × Part))
      → ((not (is_last (arm_marks_in arms)) || not complete) || looked_at t of complete count (arm_uses_in arms))
      ≡ (not (is_last (arm_marks_in arms)) || not complete)
  goes_on of complete count [] = or_false (not complete)
  goes_on of complete count (arm ∷ arms) = refl

  first_looks : (of : Ty) (complete : Bool) (count : ℕ) (arm : PatC × Part) (arms : List (PatC × Part))
      → (uses_bound (uses t arm.1.0) count (variables arm.0) || (needs_test t of arm.0 && (not (is_last (arm_marks_in arms)) || not complete)))
      ≡ looked_at t of complete count (arm_uses_in (arm ∷ arms))
  first_looks of complete count arm [] = refl
  first_looks of complete count arm (other ∷ arms) = ap (λ b. uses_bound (uses t arm.1.0) count (variables arm.0) || b) (and_true (needs_test t of arm.0))

  chosen : (tests goes : Bool) (first : Bool) (others object : Bool) (f g : ℕ → Bool) (xs rest : List Bool) → (goes || object) ≡ goes
      → rest ≡ marked (λ k. f k || g k) xs
      → with_others tests goes (looked (marked f xs) first) (looked rest object)
      ≡ looked (marked (λ k. f k || (tests && g k)) xs) (first || (tests && goes))
  chosen true goes first others object f g xs rest same is = λ i. looked (is i) (first || same i)
  chosen false goes first others object f g xs rest same is = λ i. looked (none_more f xs i) (sym (or_false first) i)

  arms_fit : (of : Ty) (complete : Bool) (arms : List (PatC × Part)) (xs : List Bool)
      → arms_mark t of complete (arm_marks_in arms) xs
      ≡ looked (marked (λ k. arms_use t of (length xs) k (arm_uses_in arms)) xs) (looked_at t of complete (length xs) (arm_uses_in arms))
  arms_fit of complete [] xs = ap (λ ys. looked ys false) (sym (none_from 0 xs))
  arms_fit of complete (arm ∷ arms) xs =
      ap (λ it. with_others (needs_test t of arm.0) goes it (arms_mark t of complete (arm_marks_in arms) it.marks)) (behind_scope arm.1.1 (variables arm.0) xs)
      ∙ ap (with_others (needs_test t of arm.0) goes here) (arms_fit of complete arms (marked f xs))
      ∙ ap (λ n. with_others (needs_test t of arm.0) goes here
      (looked (marked (λ k. arms_use t of n k (arm_uses_in arms)) (marked f xs)) (looked_at t of complete n (arm_uses_in arms)))) (length_marked f xs)
      ∙ chosen (needs_test t of arm.0) goes (uses_bound (uses t arm.1.0) (length xs) (variables arm.0)) false _ f (λ k. arms_use t of (length xs) k (arm_uses_in arms)) xs _
      (goes_on of complete (length xs) arms) (twice_from f (λ k. arms_use t of (length xs) k (arm_uses_in arms)) 0 xs)
      ∙ ap (looked (marked (λ k. arms_use t of (length xs) k (arm_uses_in (arm ∷ arms))) xs)) (first_looks of complete (length xs) arm arms)
    where
      goes : Bool
      goes = not (is_last (arm_marks_in arms)) || not complete

      f : ℕ → Bool
      f = uses t arm.1.0 (length xs + variables arm.0)

      here : Looked
      here = looked (marked f xs) (uses_bound (uses t arm.1.0) (length xs) (variables arm.0))

  pub complete_marks : (of : Ty) (arms : List (PatC × TypedExpr)) → arms_complete t of (map arm_by_marks arms) ≡ arms_complete t of arms
  complete_marks of arms = ap (are_complete t.file.types (forms_of of)) (patterns_seen (mark_step t) arms)

  complete_uses : (of : Ty) (arms : List (PatC × TypedExpr)) → arms_complete t of (map arm_by_uses arms) ≡ arms_complete t of arms
  complete_uses of arms = ap (are_complete t.file.types (forms_of of)) (patterns_seen (uses_step t) arms)

  case_fits : (of : Ty) (e : Part) (arms : List (PatC × Part)) (complete : Bool)
      → Fits (λ xs. case_marks t (by_marks e.0) (arms_mark t of complete (arm_marks_in arms) xs))
      (λ count number. arms_use t of count number (arm_uses_in arms)
      || ((looked_at t of complete count (arm_uses_in arms) || may_raise t e.0) && uses t e.0 count number))
  case_fits of e arms complete = record {
    at = λ xs.
        ap (case_marks t (by_marks e.0)) (arms_fit of complete arms xs)
        ∙ if_marked (looked_at t of complete (length xs) (arm_uses_in arms) || may_raise t e.0) (λ k. arms_use t of (length xs) k (arm_uses_in arms)) e.1 xs;
  }

  abbrev layer : TypedExpr-F Part → TypedExpr-F TypedExpr
  layer y = map-TypedExpr Part TypedExpr of_part y

  step_fits : (y : TypedExpr-F Part) → Fits (mark_step t (map-TypedExpr TypedExpr (Seen Marks) by_marks (layer y)))
      (uses_step t (map-TypedExpr TypedExpr (Seen Uses) by_uses (layer y)))
  step_fits (TypedExpr-F.Word w) = fits_none
  step_fits (TypedExpr-F.Var n) = record { at = λ xs. set_marked n xs }
  step_fits (TypedExpr-F.Con c ps) = parts_fit ps
  step_fits (TypedExpr-F.Tuple ps) = parts_fit ps
  step_fits (TypedExpr-F.Vect ps) = parts_fit ps
  step_fits (TypedExpr-F.Prim op of ps) = parts_fit ps
  step_fits (TypedExpr-F.Convert a b p) = p.1
  step_fits (TypedExpr-F.Index of s v k) = fits_then v.1 k.1
  step_fits (TypedExpr-F.Update of s v k e) = fits_then (fits_then v.1 k.1) e.1
  step_fits (TypedExpr-F.If c a b) = fits_then (fits_then c.1 a.1) b.1
  step_fits (TypedExpr-F.Case of e arms) = record {
    at = λ xs.
        ap (λ complete. case_marks t (by_marks e.0) (arms_mark t of complete (arm_marks_in arms) xs)) (complete_marks of (map arm_of arms))
        ∙ (case_fits of e arms (arms_complete t of (map arm_of arms))).at xs
        ∙ ap (λ complete. marked (λ k. arms_use t of (length xs) k (arm_uses_in arms)
        || ((looked_at t of complete (length xs) (arm_uses_in arms) || may_raise t e.0) && uses t e.0 (length xs) k)) xs) (sym (complete_uses of (map arm_of arms)));
  }
  step_fits (TypedExpr-F.Let of a b) = let_fits a b
  step_fits (TypedExpr-F.Call f ps) = arguments_fit (slice_get t.called f) 0 ps
  step_fits (TypedExpr-F.Raise x None) = fits_none
  step_fits (TypedExpr-F.Raise x (Some p)) = p.1

  same : (e : TypedExpr) → Same e
  same = ind-TypedExpr Same (λ x y is. subst (λ z. Same (roll-TypedExpr z)) is (record {
    at = λ xs.
        ap (λ (marks : Marks). marks xs) (by_form (mark_step t) (layer y) _ refl)
        ∙ (step_fits y).at xs
        ∙ ap (λ (used : Uses). marked (used (length xs)) xs) (sym (by_form (uses_step t) (layer y) _ refl));
  }))

  pub marks_fit : (e : TypedExpr) (xs : List Bool) → marks_of t e xs ≡ marked (uses t e (length xs)) xs
  marks_fit e xs = (same e).at xs

  abbrev with_same : PatC × TypedExpr → PatC × Part
  with_same arm = (arm.0, (arm.1, same arm.1))

  again : (arms : List (PatC × TypedExpr)) → map arm_of (map with_same arms) ≡ arms
  again [] = refl
  again (arm ∷ arms) = ap (λ others. arm ∷ others) (again arms)

  pub object_looked_at : (of : Ty) (complete : Bool) (count : ℕ) (arms : List (PatC × TypedExpr))
      → (arms_mark t of complete (map (arm_seen t) arms) (replicate count false)).object
      ≡ looked_at t of complete count (map (λ (arm : PatC × TypedExpr). (arm.0, seen (uses_step t) arm.1)) arms)
  object_looked_at of complete count arms =
      ap (λ them. (arms_mark t of complete (map (arm_seen t) them) (replicate count false)).object) (sym (again arms))
      ∙ ap (λ (it : Looked). it.object) (arms_fit of complete (map with_same arms) (replicate count false))
      ∙ ap (λ n. looked_at t of complete n (arm_uses_in (map with_same arms))) (length-replicate count false)
      ∙ ap (λ them. looked_at t of complete count (map arm_by_uses them)) (again arms)

-- the next variable behind some
pub next_used : (used : Uses) (count : ℕ)
    → some_set count (marked (used (length (replicate count false ++ false ∷ []))) (replicate count false ++ false ∷ [])) ≡ used (count + 1) count
next_used used count =
    ap (λ n. some_set n (marked (used (length (new ++ false ∷ []))) (new ++ false ∷ []))) (sym (length-replicate count false))
    ∙ ap (λ (it : Looked). it.object) (behind_scope {marks = λ xs. marked (used (length xs)) xs} {used = used} (record { at = λ xs. refl }) 1 new)
    ∙ or_false (used (length new + 1) (length new)) ∙ ap (λ n. used (n + 1) n) (length-replicate count false)
  where
    new : List Bool
    new = replicate count false

pub ruleset mark_laws = (common_steps, marks_fit, object_looked_at, next_used)
