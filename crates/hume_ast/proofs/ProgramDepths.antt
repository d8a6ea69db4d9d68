-- A declaration of the grammar fits exactly the bounds that are not less than its depth.
use Rattle.std.proofs.Common.{ℕ, ◌≤◌, ◌↔◌, List, arith}
use Rattle.std.specs.Prelude.{Option, Some, None}
use Rattle.hume_base.specs.declared.limits.TheConstants.{MAX_DEPTH}
use Rattle.hume_ast.specs.declared.tree.TyExp.{TyExp}
use Rattle.hume_ast.specs.declared.tree.Pat.{Pat, out-Pat, map-Pat}
use Rattle.hume_ast.specs.declared.tree.Pat.TheOpen.{Pat-F}
use Rattle.hume_ast.specs.declared.tree.Exp.{Exp}
use Rattle.hume_ast.specs.declared.tree.Decl.{Decl}
use Rattle.hume_ast.specs.declared.tree.Decl.TheVariants.{Sum, Exn, Fun, BoxD, Stream, Wire}
use Rattle.hume_ast.specs.declared.tree.Program.{Program}
use Rattle.hume_ast.specs.Fits.{Each, TypeFits, PatFits, ExpFits, IsCarried, CarriedFits, TypedNameFits, EquationFits, RuleFits, HandlerFits, DeclFits, DeclsFit, IsProper, IsFit}
use Rattle.hume_ast.specs.Depth.{ty_depth, pat_step, pat_depth, whole_depth, greatest, if_there, constructor_depth, equation_depth, typed_name_depth, rule_depth, handler_depth, decl_depth, program_depth}
use Rattle.hume_ast.proofs.Deepest.{each_deep, there_deep, each_moved, some_moved, there_moved}
use Rattle.hume_ast.proofs.SmallDepths.{pat_out, type_fits_depth, type_refit, pat_fits_depth, pat_refit}
use Rattle.hume_ast.proofs.Depths.{fits_depth, some_depth, inner_deep, refit, rebound}

-- what a handler takes is 1 deep
carried_step : (x : Pat-F Pat) → IsCarried x → pat_step (map-Pat Pat ℕ pat_depth x) ≤ 1
carried_step (Pat-F.Name name) f = omega arith
carried_step Pat-F.Any f = omega arith
carried_step _ f = absurd f

carried_deep : (carried : Option Pat) → CarriedFits carried → if_there pat_depth carried ≤ 1
carried_deep None f = omega arith
carried_deep (Some p) f = omega (arith, pat_out p, carried_step (out-Pat p) f)

module _ (bound : ℕ) where
  whole_deep : (e : Exp) → ExpFits bound bound 1 e → whole_depth e ≤ bound
  whole_deep e f = omega (arith, fits_depth bound bound 1 e f, inner_deep bound bound 1 e f)

  types_deep : (ts : List TyExp) → Each (TypeFits bound) ts → greatest ty_depth ts ≤ bound
  types_deep = each_deep (TypeFits bound) ty_depth bound (type_fits_depth bound)

  patterns_deep : (level : ℕ) (ps : List Pat) → Each (PatFits bound level) ps → greatest pat_depth ps ≤ bound
  patterns_deep level = each_deep (PatFits bound level) pat_depth bound (pat_fits_depth bound level)

  equation_deep : (e : List ℕ × List Pat × Exp) → EquationFits bound e → equation_depth e ≤ bound
  equation_deep e f = omega (arith, patterns_deep 2 e.1 f.0.1, whole_deep e.2 f.1)

  rule_deep : (r : List Pat × Exp) → RuleFits bound r → rule_depth r ≤ bound
  rule_deep r f = omega (arith, patterns_deep 0 r.0 f.0.1, whole_deep r.1 f.1)

  handler_deep : (h : List ℕ × Option Pat × Exp) → HandlerFits bound h → handler_depth h ≤ bound
  handler_deep h f = omega (arith, carried_deep h.1 f.0, some_depth h.2, whole_deep h.2 f.1)

  side_deep : (typed_names : List (List ℕ × TyExp)) → Each (TypedNameFits bound) typed_names → greatest typed_name_depth typed_names ≤ bound
  side_deep = each_deep (TypedNameFits bound) typed_name_depth bound (λ n f. type_fits_depth bound n.1 f)

  decl_deep : (decl : Decl) → DeclFits bound decl → decl_depth decl ≤ bound
  decl_deep (Sum name constructors) f = each_deep (λ (c : List ℕ × List TyExp). Each (TypeFits bound) c.1) constructor_depth bound (λ c g. types_deep c.1 g) constructors f.1
  decl_deep (Exn name carries) f = there_deep (TypeFits bound) ty_depth bound (type_fits_depth bound) carries f
  decl_deep (Fun name types equations) f = omega (arith, types_deep types f.1, each_deep (EquationFits bound) equation_depth bound equation_deep equations f.2.1)
  decl_deep (BoxD name inputs outputs fair rules handlers) f =
      let rs = each_deep (RuleFits bound) rule_depth bound rule_deep rules f.2.1 in
      let hs = each_deep (HandlerFits bound) handler_depth bound handler_deep handlers f.3 in
      omega (arith, side_deep inputs f.0.1, side_deep outputs f.1.1)
  decl_deep (Stream name from port) f = omega arith
  decl_deep (Wire source target depth initial) f = there_deep (ExpFits bound bound 1) whole_depth bound whole_deep initial f

  decls_deep : (decls : List (ℕ × Decl)) → DeclsFit bound decls → greatest (λ (decl : ℕ × Decl). decl_depth decl.1) decls ≤ bound
  decls_deep = each_deep (λ (decl : ℕ × Decl). DeclFits bound decl.1) (λ (decl : ℕ × Decl). decl_depth decl.1) bound (λ decl f. decl_deep decl.1 f)

module _ (m bound : ℕ) where
  whole_refit : (e : Exp) → whole_depth e ≤ bound → ExpFits m m 1 e → ExpFits bound bound 1 e
  whole_refit e d f = refit bound m bound 1 e (omega arith) (rebound m bound m 1 e (omega arith) f)

  types_refit : (ts : List TyExp) → greatest ty_depth ts ≤ bound → Each (TypeFits m) ts → Each (TypeFits bound) ts
  types_refit = each_moved (TypeFits m) (TypeFits bound) ty_depth bound (type_refit m bound)

  equation_refit : (e : List ℕ × List Pat × Exp) → equation_depth e ≤ bound → EquationFits m e → EquationFits bound e
  equation_refit e d f = (some_moved (PatFits m 2) (PatFits bound 2) pat_depth bound (pat_refit m bound 2) e.1 (omega arith) f.0, whole_refit e.2 (omega arith) f.1)

  rule_refit : (r : List Pat × Exp) → rule_depth r ≤ bound → RuleFits m r → RuleFits bound r
  rule_refit r d f = (some_moved (PatFits m 0) (PatFits bound 0) pat_depth bound (pat_refit m bound 0) r.0 (omega arith) f.0, whole_refit r.1 (omega arith) f.1)

  handler_refit : (h : List ℕ × Option Pat × Exp) → handler_depth h ≤ bound → HandlerFits m h → HandlerFits bound h
  handler_refit h d f = (f.0, whole_refit h.2 (omega arith) f.1)

  decl_refit : (decl : Decl) → decl_depth decl ≤ bound → DeclFits m decl → DeclFits bound decl
  decl_refit (Sum name constructors) d f =
      some_moved (λ (c : List ℕ × List TyExp). Each (TypeFits m) c.1) (λ (c : List ℕ × List TyExp). Each (TypeFits bound) c.1) constructor_depth bound (λ c h g. types_refit c.1 h g) constructors d f
  decl_refit (Exn name carries) d f = there_moved (TypeFits m) (TypeFits bound) ty_depth bound (type_refit m bound) carries d f
  decl_refit (Fun name types equations) d f = (f.0, types_refit types (omega arith) f.1, some_moved (EquationFits m) (EquationFits bound) equation_depth bound equation_refit equations (omega arith) f.2)
  decl_refit (BoxD name inputs outputs fair rules handlers) d f = (
    some_moved (TypedNameFits m) (TypedNameFits bound) typed_name_depth bound (λ n h g. type_refit m bound n.1 h g) inputs (omega arith) f.0,
    some_moved (TypedNameFits m) (TypedNameFits bound) typed_name_depth bound (λ n h g. type_refit m bound n.1 h g) outputs (omega arith) f.1,
    some_moved (RuleFits m) (RuleFits bound) rule_depth bound rule_refit rules (omega arith) f.2,
    each_moved (HandlerFits m) (HandlerFits bound) handler_depth bound handler_refit handlers (omega arith) f.3,
  )
  decl_refit (Stream name from port) d f = tt
  decl_refit (Wire source target depth initial) d f = there_moved (ExpFits m m 1) (ExpFits bound bound 1) whole_depth bound whole_refit initial d f

  decls_refit : (decls : List (ℕ × Decl)) → greatest (λ (decl : ℕ × Decl). decl_depth decl.1) decls ≤ bound → DeclsFit m decls → DeclsFit bound decls
  decls_refit = each_moved (λ (decl : ℕ × Decl). DeclFits m decl.1) (λ (decl : ℕ × Decl). DeclFits bound decl.1) (λ (decl : ℕ × Decl). decl_depth decl.1) bound (λ decl h f. decl_refit decl.1 h f)

-- what fits a bound fits each greater one
pub decls_wider : (m bound : ℕ) → m ≤ bound → (decls : List (ℕ × Decl)) → DeclsFit m decls → DeclsFit bound decls
decls_wider m bound h decls f = let d = decls_deep m decls f in decls_refit m bound decls (omega arith) f

pub bound_decided : (bound : ℕ) (program : Program) → DeclsFit bound program.decls ↔ (IsProper program × (program_depth program ≤ bound))
bound_decided bound program = (λ f. ((bound, f), decls_deep bound program.decls f), λ w. decls_refit w.0.0 bound program.decls w.1 w.0.1)

pub program_decided : (program : Program) → IsFit program ↔ (IsProper program × (program_depth program ≤ MAX_DEPTH))
program_decided = bound_decided MAX_DEPTH
