-- Declarations and their items: each goes over into the other.
use Rattle.std.proofs.Common.{◌≡◌, ℕ, ◌≤◌, List, [], ◌∷◌, ◌++◌, map, length, refl, sym, ap, ◌∙◌, arith, append_assoc, append-nil}
use Rattle.std.specs.List.{flat_map}
use Rattle.hume_base.specs.declared.symbol.Symbol.TheVariants as symbol
use Rattle.hume_base.specs.declared.token.Kind.TheVariants.{Lower, Sign}
use Rattle.hume_ast.specs.declared.tree.Pat.{Pat}
use Rattle.hume_ast.specs.declared.tree.Exp.{Exp}
use Rattle.hume_ast.specs.declared.tree.Decl.{Decl}
use Rattle.hume_ast.specs.declared.tree.Decl.TheVariants.{Sum, Exn, Fun, BoxD, Stream, Wire}
use Rattle.hume_ast.specs.Spelling.{spelled_ty, separated, beside, spelled_equation, spelled_decl}
use Rattle.hume_ast.specs.Fits.{Each, EquationFits, DeclFits}
use Rattle.parse_readers.specs.inner.Items.{Item, Whole, Signature, Equation, Expecting, Outside, Wanting, Within}
use Rattle.parse_readers.specs.inner.Programs.{Gathered, gathered, grouped}
use Rattle.parse_readers.proofs.DeclarationsRead.{StandsAlone}
use Rattle.parse_readers.proofs.ItemsRead.{spelled_item}
use Rattle.parse_readers.proofs.AllItemsRead.{ItemsFit, MayEnd}

abbrev Equations : Type 0
Equations = List (List ℕ × List Pat × Exp)

-- the items of a declaration
abbrev pub items_of : Decl → List Item
items_of (Sum name constructors) = Whole (Sum name constructors) ∷ []
items_of (Exn name carries) = Whole (Exn name carries) ∷ []
items_of (Fun name types equations) = Signature name types ∷ map Equation equations
items_of (BoxD name inputs outputs fair rules handlers) = Whole (BoxD name inputs outputs fair rules handlers) ∷ []
items_of (Stream name from port) = Whole (Stream name from port) ∷ []
items_of (Wire source target depth initial) = Whole (Wire source target depth initial) ∷ []

abbrev pub all_items : List Decl → List Item
all_items = flat_map items_of

equations_spelled : (equations : Equations) → flat_map spelled_item (map Equation equations) ≡ beside (map spelled_equation equations)
equations_spelled [] = refl
equations_spelled (e ∷ equations) = ap (λ m. spelled_equation e ++ m) (equations_spelled equations)

items_spelled : (decl : Decl) → flat_map spelled_item (items_of decl) ≡ spelled_decl decl
items_spelled (Sum name constructors) = append-nil (spelled_decl (Sum name constructors))
items_spelled (Exn name carries) = append-nil (spelled_decl (Exn name carries))
items_spelled (Fun name types equations) =
    ap (λ m. Lower name ∷ Sign symbol.DoubleColon ∷ m)
    (append_assoc (separated symbol.Arrow (map spelled_ty types)) (Sign symbol.Semicolon ∷ []) (flat_map spelled_item (map Equation equations))
    ∙ ap (λ m. separated symbol.Arrow (map spelled_ty types) ++ Sign symbol.Semicolon ∷ m) (equations_spelled equations))
items_spelled (BoxD name inputs outputs fair rules handlers) = append-nil (spelled_decl (BoxD name inputs outputs fair rules handlers))
items_spelled (Stream name from port) = append-nil (spelled_decl (Stream name from port))
items_spelled (Wire source target depth initial) = append-nil (spelled_decl (Wire source target depth initial))

flat_append : (ls ms : List Item) → flat_map spelled_item (ls ++ ms) ≡ flat_map spelled_item ls ++ flat_map spelled_item ms
flat_append [] ms = refl
flat_append (l ∷ ls) ms = ap (λ m. spelled_item l ++ m) (flat_append ls ms) ∙ sym (append_assoc (spelled_item l) (flat_map spelled_item ls) (flat_map spelled_item ms))

-- a program is spelled as its items are
pub all_spelled : (decls : List Decl) → beside (map spelled_decl decls) ≡ flat_map spelled_item (all_items decls)
all_spelled [] = refl
all_spelled (d ∷ decls) =
    ap (λ m. m ++ beside (map spelled_decl decls)) (sym (items_spelled d))
    ∙ ap (λ m. flat_map spelled_item (items_of d) ++ m) (all_spelled decls)
    ∙ sym (flat_append (items_of d) (all_items decls))

equations_gathered : (equations : Equations) (more : List Item) (decls : List Decl) → gathered more ≡ ([], decls) → gathered (map Equation equations ++ more) ≡ (equations, decls)
equations_gathered [] more decls e = e
equations_gathered (x ∷ equations) more decls e = ap (λ (g : Gathered). (x ∷ g.0, g.1)) (equations_gathered equations more decls e)

one_gathered : (decl : Decl) (more : List Item) (decls : List Decl) → gathered more ≡ ([], decls) → gathered (items_of decl ++ more) ≡ ([], decl ∷ decls)
one_gathered (Sum name constructors) more decls e = ap (λ (g : Gathered). ([], Sum name constructors ∷ g.1)) e
one_gathered (Exn name carries) more decls e = ap (λ (g : Gathered). ([], Exn name carries ∷ g.1)) e
one_gathered (Fun name types equations) more decls e = ap (λ (g : Gathered). ([], Fun name types g.0 ∷ g.1)) (equations_gathered equations more decls e)
one_gathered (BoxD name inputs outputs fair rules handlers) more decls e = ap (λ (g : Gathered). ([], BoxD name inputs outputs fair rules handlers ∷ g.1)) e
one_gathered (Stream name from port) more decls e = ap (λ (g : Gathered). ([], Stream name from port ∷ g.1)) e
one_gathered (Wire source target depth initial) more decls e = ap (λ (g : Gathered). ([], Wire source target depth initial ∷ g.1)) e

all_gathered : (decls : List Decl) → gathered (all_items decls) ≡ ([], decls)
all_gathered [] = refl
all_gathered (d ∷ decls) = one_gathered d (all_items decls) decls (all_gathered decls)

-- the items of declarations make these declarations
pub regrouped : (decls : List Decl) → grouped (all_items decls) ≡ decls
regrouped decls = ap (λ (g : Gathered). g.1) (all_gathered decls)

module _ (bound : ℕ) where
  equations_fit : (equations : Equations) (more : List Item) → Each (EquationFits bound) equations → ItemsFit bound Within more → ItemsFit bound Within (map Equation equations ++ more)
  equations_fit [] more f h = h
  equations_fit (e ∷ equations) more f h = ((tt, f.0), equations_fit equations more f.1 h)

  some_fit : (equations : Equations) (more : List Item) → 1 ≤ length equations → Each (EquationFits bound) equations → ItemsFit bound Within more → ItemsFit bound Wanting (map Equation equations ++ more)
  some_fit [] more n f h = absurd (omega (arith, n))
  some_fit (e ∷ equations) more n f h = ((tt, f.0), equations_fit equations more f.1 h)

  decl_fit : (expecting : Expecting) (decl : Decl) (more : List Item) → MayEnd expecting → DeclFits bound decl → ItemsFit bound Outside more → ItemsFit bound Within more → ItemsFit bound expecting (items_of decl ++ more)
  decl_fit Wanting decl more p f o w = absurd p
  decl_fit Outside (Sum name constructors) more p f o w = ((tt, (tt, f)), o)
  decl_fit Outside (Exn name carries) more p f o w = ((tt, (tt, f)), o)
  decl_fit Outside (Fun name types equations) more p f o w = ((tt, (f.0, f.1)), some_fit equations more f.2.0 f.2.1 w)
  decl_fit Outside (BoxD name inputs outputs fair rules handlers) more p f o w = ((tt, (tt, f)), o)
  decl_fit Outside (Stream name from port) more p f o w = ((tt, (tt, f)), o)
  decl_fit Outside (Wire source target depth initial) more p f o w = ((tt, (tt, f)), o)
  decl_fit Within (Sum name constructors) more p f o w = ((tt, (tt, f)), o)
  decl_fit Within (Exn name carries) more p f o w = ((tt, (tt, f)), o)
  decl_fit Within (Fun name types equations) more p f o w = ((tt, (f.0, f.1)), some_fit equations more f.2.0 f.2.1 w)
  decl_fit Within (BoxD name inputs outputs fair rules handlers) more p f o w = ((tt, (tt, f)), o)
  decl_fit Within (Stream name from port) more p f o w = ((tt, (tt, f)), o)
  decl_fit Within (Wire source target depth initial) more p f o w = ((tt, (tt, f)), o)

  -- the items of fit declarations may stand wherever a program may end
  pub all_fit : (expecting : Expecting) (decls : List Decl) → MayEnd expecting → Each (DeclFits bound) decls → ItemsFit bound expecting (all_items decls)
  all_fit expecting [] p f = p
  all_fit expecting (d ∷ decls) p f = decl_fit expecting d (all_items decls) p f.0 (all_fit Outside decls tt f.1) (all_fit Within decls tt f.1)

  -- the equations that may come first there
  abbrev Starts : Expecting → Equations → Type 0
  Starts Outside equations = equations ≡ []
  Starts Wanting equations = 1 ≤ length equations
  Starts Within equations = Unit {0}

  record IsGathered (expecting : Expecting) (ls : List Item) (g : Gathered) : Type 0 where
    starts : Starts expecting g.0
    equations : Each (EquationFits bound) g.0
    decls : Each (DeclFits bound) g.1
    same : ls ≡ map Equation g.0 ++ all_items g.1

  alone : (decl : Decl) (more : List Item) → StandsAlone decl → items_of decl ++ more ≡ Whole decl ∷ more
  alone (Sum name constructors) more f = refl
  alone (Exn name carries) more f = refl
  alone (Fun name types equations) more f = absurd f
  alone (BoxD name inputs outputs fair rules handlers) more f = refl
  alone (Stream name from port) more f = refl
  alone (Wire source target depth initial) more f = refl

  outside : (g : Gathered) (ls : List Item) → IsGathered Outside ls g → ls ≡ all_items g.1
  outside g ls h = h.same ∙ ap (λ (es : Equations). map Equation es ++ all_items g.1) h.starts

  whole_gathered : (decl : Decl) (g : Gathered) (ls : List Item) → StandsAlone decl → IsGathered Outside ls g → Whole decl ∷ ls ≡ all_items (decl ∷ g.1)
  whole_gathered decl g ls f h = ap (λ m. Whole decl ∷ m) (outside g ls h) ∙ sym (alone decl (all_items g.1) f)

  is_gathered : (expecting : Expecting) (ls : List Item) → ItemsFit bound expecting ls → IsGathered expecting ls (gathered ls)
  is_gathered Outside [] f = record { starts = refl; equations = tt; decls = tt; same = refl }
  is_gathered Wanting [] f = absurd f
  is_gathered Within [] f = record { starts = tt; equations = tt; decls = tt; same = refl }
  is_gathered Outside (Whole decl ∷ ls) f = let h = is_gathered Outside ls f.1 in record { starts = refl; equations = tt; decls = (f.0.1.1, h.decls); same = whole_gathered decl (gathered ls) ls f.0.1.0 h }
  is_gathered Wanting (Whole decl ∷ ls) f = absurd f.0.0
  is_gathered Within (Whole decl ∷ ls) f = let h = is_gathered Outside ls f.1 in record { starts = tt; equations = tt; decls = (f.0.1.1, h.decls); same = whole_gathered decl (gathered ls) ls f.0.1.0 h }
  is_gathered Outside (Signature name types ∷ ls) f = let h = is_gathered Wanting ls f.1 in record { starts = refl; equations = tt; decls = ((f.0.1.0, f.0.1.1, (h.starts, h.equations)), h.decls); same = ap (λ m. Signature name types ∷ m) h.same }
  is_gathered Wanting (Signature name types ∷ ls) f = absurd f.0.0
  is_gathered Within (Signature name types ∷ ls) f = let h = is_gathered Wanting ls f.1 in record { starts = tt; equations = tt; decls = ((f.0.1.0, f.0.1.1, (h.starts, h.equations)), h.decls); same = ap (λ m. Signature name types ∷ m) h.same }
  is_gathered Outside (Equation parts ∷ ls) f = absurd f.0.0
  is_gathered Wanting (Equation parts ∷ ls) f = let h = is_gathered Within ls f.1 in record { starts = omega arith; equations = (f.0.1, h.equations); decls = h.decls; same = ap (λ m. Equation parts ∷ m) h.same }
  is_gathered Within (Equation parts ∷ ls) f = let h = is_gathered Within ls f.1 in record { starts = tt; equations = (f.0.1, h.equations); decls = h.decls; same = ap (λ m. Equation parts ∷ m) h.same }

  -- items that may stand in a program make fit declarations, whose items they are
  pub grouped_fit : (ls : List Item) → ItemsFit bound Outside ls → Each (DeclFits bound) (grouped ls) × (ls ≡ all_items (grouped ls))
  grouped_fit ls f = let h = is_gathered Outside ls f in (h.decls, outside (gathered ls) ls h)
