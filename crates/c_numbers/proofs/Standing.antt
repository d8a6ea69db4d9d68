-- Where the functions for numbers are declared one after another, each stands behind those that it calls.
use Rattle.std.proofs.Common.{◌≡◌, ℕ, ◌++◌, Bool, true, false, List, [], ◌∷◌, map, Some, if◌then◌else◌, refl, sym, ◌∙◌, subst, eq-eqb}
use Rattle.std.proofs.lemmas.Bool.{false≢true}
use Rattle.std.specs.Prelude.{⊤}
use Rattle.std.specs.Str.{bytes_eq}
use Rattle.std.proofs.lemmas.Slice.Eq.{bytes_eq-Decides}
use Rattle.c_tree.specs.declared.tree.CItem.{CItem}
use Rattle.c_tree.specs.declared.tree.CItem.TheVariants as item
use Rattle.c_names.specs.declared.names.Names.{Names}
use Rattle.c_arithmetic.specs.declared.functions.Helper.{Helper}
use Rattle.c_arithmetic.specs.declared.functions.Helper.TheVariants as helper
use Rattle.c_arithmetic.specs.declared.functions.Numbers.{Numbers}
use Rattle.c_arithmetic.specs.Bodies.{helper_name, word_of, type_word}
use Rattle.c_arithmetic.specs.Helpers.{helper_function, signed_helpers, unsigned_helpers, helpers_of, helpers_for}
use Rattle.c_meaning.specs.Expressions.{Context}
use Rattle.c_meaning.specs.Calls.{function_of}
use Rattle.c_meaning.specs.Programs.{with_function, with_items, defines}
use Rattle.c_meaning.proofs.Options.{some_same}
use Rattle.c_meaning.proofs.Counts.{items_stay}
use Rattle.c_numbers.specs.Declared.{IsFile, StandsBehind, nothing, ToStands, NegStands, IsDeclared, is_there, AreDeclared}

-- ---- names
same_front : (front xs ys : List ℕ) → bytes_eq (front ++ xs) (front ++ ys) ≡ bytes_eq xs ys
same_front [] xs ys = refl
same_front (n ∷ front) xs ys = rw (eq-eqb n n refl) (same_front front xs ys)

module _ (names : Names) (numbers : Numbers) where
  abbrev called : Helper → List ℕ
  called which = helper_name names which numbers

  differ : (which other : Helper) → bytes_eq (word_of which ++ type_word numbers) (word_of other ++ type_word numbers) ≡ false
      → bytes_eq (called which) (called other) ≡ false
  differ which other e = same_front names.mark (word_of which ++ type_word numbers) (word_of other ++ type_word numbers) ∙ e

  abbrev first_five : List Helper
  first_five = helper.To ∷ helper.Neg ∷ helper.Add ∷ helper.Sub ∷ helper.Mul ∷ []

  abbrev from_less : List Helper
  from_less = helper.Less ∷ helper.LessEqual ∷ helper.Equal ∷ []

  -- ---- contexts
  abbrev step : Helper → Context → Context
  step which context = with_function (called which) (function_of context (helper_function names which numbers)) context

  abbrev after : List Helper → Context → Context
  after [] context = context
  after (which ∷ others) context = after others (step which context)

  goes_through : (all : List Helper) (context : Context)
      → with_items (map (λ which. item.Function (helper_function names which numbers)) all) context ≡ Some (after all context)
  goes_through [] context = refl
  goes_through (which ∷ others) context = goes_through others (step which context)

  still_file : (all : List Helper) (context : Context) → IsFile context → IsFile (after all context)
  still_file [] context fine = fine
  still_file (which ∷ others) context fine = still_file others (step which context) (record { target = fine.target; free = fine.free })

  -- none of them has the name
  abbrev Others : Helper → List Helper → Type 0
  Others which [] = ⊤
  Others which (other ∷ others) = (bytes_eq (word_of which ++ type_word numbers) (word_of other ++ type_word numbers) ≡ false) × Others which others

  new_stands : (which : Helper) (before : Context → Type 0) (context : Context) → IsFile context → before context
      → StandsBehind names numbers which before (step which context)
  new_stands which before context fine first = record {
    file = context;
    fine = fine;
    first = first;
    is = rw ((bytes_eq-Decides (called which) (called which)).1 refl) refl;
  }

  old_stands : (which : Helper) (before : Context → Type 0) (all : List Helper) (context : Context) → Others which all
      → StandsBehind names numbers which before context
      → StandsBehind names numbers which before (after all context)
  old_stands which before [] context others d = d
  old_stands which before (other ∷ all) context (first, others) d = old_stands which before all (step other context) others (record {
    file = d.file;
    fine = d.fine;
    first = d.first;
    is = rw (differ which other first) d.is;
  })

  -- a function whose first ones have been declared, and those that are declared behind it
  stands : (which : Helper) (before : Context → Type 0) (ahead behind : List Helper) (file : Context) → IsFile file → before (after ahead file)
      → Others which behind → StandsBehind names numbers which before (after behind (step which (after ahead file)))
  stands which before ahead behind file fine first others =
      old_stands which before behind (step which (after ahead file)) others
      (new_stands which before (after ahead file) (still_file ahead file fine) first)

  module _ (file : Context) (fine : IsFile file) where
    abbrev to_there : Context
    to_there = after (helper.To ∷ []) file

    to_stands : (behind : List Helper) → Others helper.To behind → ToStands names numbers (after behind to_there)
    to_stands behind others = stands helper.To nothing [] behind file fine tt others

    neg_stands : (behind : List Helper) → Others helper.Neg behind → NegStands names numbers (after behind (step helper.Neg to_there))
    neg_stands behind others = stands helper.Neg (ToStands names numbers) (helper.To ∷ []) behind file fine (to_stands [] tt) others

    -- numbers with a sign
    signed_stand : (which : Helper) → IsDeclared names numbers which (after signed_helpers file)
    signed_stand helper.To = to_stands (helper.Neg ∷ helper.Add ∷ helper.Sub ∷ helper.Mul ∷ helper.Div ∷ helper.Mod ∷ from_less)
        (refl, (refl, (refl, (refl, (refl, (refl, (refl, (refl, (refl, tt)))))))))
    signed_stand helper.Neg = neg_stands (helper.Add ∷ helper.Sub ∷ helper.Mul ∷ helper.Div ∷ helper.Mod ∷ from_less)
        (refl, (refl, (refl, (refl, (refl, (refl, (refl, (refl, tt))))))))
    signed_stand helper.Add = stands helper.Add (ToStands names numbers) (helper.To ∷ helper.Neg ∷ [])
        (helper.Sub ∷ helper.Mul ∷ helper.Div ∷ helper.Mod ∷ from_less) file fine
        (to_stands (helper.Neg ∷ []) (refl, tt)) (refl, (refl, (refl, (refl, (refl, (refl, (refl, tt)))))))
    signed_stand helper.Sub = stands helper.Sub (ToStands names numbers) (helper.To ∷ helper.Neg ∷ helper.Add ∷ [])
        (helper.Mul ∷ helper.Div ∷ helper.Mod ∷ from_less) file fine
        (to_stands (helper.Neg ∷ helper.Add ∷ []) (refl, (refl, tt))) (refl, (refl, (refl, (refl, (refl, (refl, tt))))))
    signed_stand helper.Mul = stands helper.Mul (ToStands names numbers) (helper.To ∷ helper.Neg ∷ helper.Add ∷ helper.Sub ∷ [])
        (helper.Div ∷ helper.Mod ∷ from_less) file fine
        (to_stands (helper.Neg ∷ helper.Add ∷ helper.Sub ∷ []) (refl, (refl, (refl, tt)))) (refl, (refl, (refl, (refl, (refl, tt)))))
    signed_stand helper.Div = stands helper.Div (NegStands names numbers) first_five (helper.Mod ∷ from_less) file fine
        (neg_stands (helper.Add ∷ helper.Sub ∷ helper.Mul ∷ []) (refl, (refl, (refl, tt)))) (refl, (refl, (refl, (refl, tt))))
    signed_stand helper.Mod = stands helper.Mod nothing (helper.To ∷ helper.Neg ∷ helper.Add ∷ helper.Sub ∷ helper.Mul ∷ helper.Div ∷ [])
        from_less file fine tt (refl, (refl, (refl, tt)))
    signed_stand helper.Less = stands helper.Less nothing (helper.To ∷ helper.Neg ∷ helper.Add ∷ helper.Sub ∷ helper.Mul ∷ helper.Div ∷ helper.Mod ∷ [])
        (helper.LessEqual ∷ helper.Equal ∷ []) file fine tt (refl, (refl, tt))
    signed_stand helper.LessEqual =
        stands helper.LessEqual nothing (helper.To ∷ helper.Neg ∷ helper.Add ∷ helper.Sub ∷ helper.Mul ∷ helper.Div ∷ helper.Mod ∷ helper.Less ∷ [])
        (helper.Equal ∷ []) file fine tt (refl, tt)
    signed_stand helper.Equal =
        stands helper.Equal nothing (helper.To ∷ helper.Neg ∷ helper.Add ∷ helper.Sub ∷ helper.Mul ∷ helper.Div ∷ helper.Mod ∷ helper.Less
        ∷ helper.LessEqual ∷ [])
        [] file fine tt tt

    -- numbers without a sign
    unsigned_stand : (which : Helper) → numbers.signed ≡ false → is_there numbers which ≡ true → IsDeclared names numbers which (after unsigned_helpers file)
    unsigned_stand helper.To none there =
        to_stands (helper.Neg ∷ helper.Add ∷ helper.Sub ∷ helper.Mul ∷ from_less) (refl, (refl, (refl, (refl, (refl, (refl, (refl, tt)))))))
    unsigned_stand helper.Neg none there =
        neg_stands (helper.Add ∷ helper.Sub ∷ helper.Mul ∷ from_less) (refl, (refl, (refl, (refl, (refl, (refl, tt))))))
    unsigned_stand helper.Add none there = stands helper.Add (ToStands names numbers) (helper.To ∷ helper.Neg ∷ [])
        (helper.Sub ∷ helper.Mul ∷ from_less) file fine (to_stands (helper.Neg ∷ []) (refl, tt)) (refl, (refl, (refl, (refl, (refl, tt)))))
    unsigned_stand helper.Sub none there = stands helper.Sub (ToStands names numbers) (helper.To ∷ helper.Neg ∷ helper.Add ∷ [])
        (helper.Mul ∷ from_less) file fine (to_stands (helper.Neg ∷ helper.Add ∷ []) (refl, (refl, tt))) (refl, (refl, (refl, (refl, tt))))
    unsigned_stand helper.Mul none there = stands helper.Mul (ToStands names numbers) (helper.To ∷ helper.Neg ∷ helper.Add ∷ helper.Sub ∷ [])
        from_less file fine (to_stands (helper.Neg ∷ helper.Add ∷ helper.Sub ∷ []) (refl, (refl, (refl, tt)))) (refl, (refl, (refl, tt)))
    unsigned_stand helper.Div none there = absurd (false≢true (sym none ∙ there))
    unsigned_stand helper.Mod none there = absurd (false≢true (sym none ∙ there))
    unsigned_stand helper.Less none there = stands helper.Less nothing first_five (helper.LessEqual ∷ helper.Equal ∷ []) file fine tt (refl, (refl, tt))
    unsigned_stand helper.LessEqual none there = stands helper.LessEqual nothing (helper.To ∷ helper.Neg ∷ helper.Add ∷ helper.Sub ∷ helper.Mul
        ∷ helper.Less ∷ [])
        (helper.Equal ∷ []) file fine tt (refl, tt)
    unsigned_stand helper.Equal none there = stands helper.Equal nothing (helper.To ∷ helper.Neg ∷ helper.Add ∷ helper.Sub ∷ helper.Mul
        ∷ helper.Less ∷ helper.LessEqual ∷ [])
        [] file fine tt tt

    pub all_stand : (which : Helper) → is_there numbers which ≡ true → IsDeclared names numbers which (after (helpers_of numbers) file)
    all_stand which there = by numbers.signed refl
      where
        by : (signed : Bool) → numbers.signed ≡ signed
            → IsDeclared names numbers which (after (if signed then signed_helpers else unsigned_helpers) file)
        by true e = signed_stand which
        by false e = unsigned_stand which e there

pub all_are_declared : (names : Names) (numbers : Numbers) (file after : Context) → IsFile file → with_items (helpers_for names numbers) file ≡ Some after
    → AreDeclared names numbers after
unfolding helpers_for
all_are_declared names numbers file after fine e which there =
    subst (IsDeclared names numbers which) (some_same (sym (goes_through names numbers (helpers_of numbers) file) ∙ e))
    (all_stand names numbers file fine which there)

-- ---- what is declared later
stays_behind : (names : Names) (numbers : Numbers) (which : Helper) (before : Context → Type 0) (items : List CItem) (context after : Context)
    → with_items items context ≡ Some after → defines (helper_name names which numbers) items ≡ false → StandsBehind names numbers which before context
    → StandsBehind names numbers which before after
stays_behind names numbers which before items context after e none d = record {
  file = d.file;
  fine = d.fine;
  first = d.first;
  is = items_stay items context after (helper_name names which numbers) (function_of d.file (helper_function names which numbers)) e d.is none;
}

pub declared_stays : (names : Names) (numbers : Numbers) (which : Helper) (items : List CItem) (context after : Context) → with_items items context ≡ Some after
    → defines (helper_name names which numbers) items ≡ false → IsDeclared names numbers which context → IsDeclared names numbers which after
declared_stays names numbers helper.To = stays_behind names numbers helper.To nothing
declared_stays names numbers helper.Neg = stays_behind names numbers helper.Neg (ToStands names numbers)
declared_stays names numbers helper.Add = stays_behind names numbers helper.Add (ToStands names numbers)
declared_stays names numbers helper.Sub = stays_behind names numbers helper.Sub (ToStands names numbers)
declared_stays names numbers helper.Mul = stays_behind names numbers helper.Mul (ToStands names numbers)
declared_stays names numbers helper.Div = stays_behind names numbers helper.Div (NegStands names numbers)
declared_stays names numbers helper.Mod = stays_behind names numbers helper.Mod nothing
declared_stays names numbers helper.Less = stays_behind names numbers helper.Less nothing
declared_stays names numbers helper.LessEqual = stays_behind names numbers helper.LessEqual nothing
declared_stays names numbers helper.Equal = stays_behind names numbers helper.Equal nothing
