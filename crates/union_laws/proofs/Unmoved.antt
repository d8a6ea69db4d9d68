-- What moves up by nothing stays as it is.
use Rattle.std.proofs.Common.{◌≡◌, ℕ, ◌+◌, nat_le, Bool, true, false, if◌then◌else◌, List, [], ◌∷◌, map, Option, Some, None, refl, ap, ◌∙◌, subst, arith}
use Rattle.std.specs.Option.{option_map}
use Rattle.hume_base.specs.declared.types.Ty.{Ty, roll-Ty, map-Ty, fold-roll-Ty, ind-Ty}
use Rattle.hume_base.specs.declared.types.Ty.TheOpen.{Ty-F}
use Rattle.hume_base.specs.declared.types.ConDef.{ConDef}
use Rattle.hume_base.specs.declared.types.SumDef.{SumDef}
use Rattle.hume_model.specs.declared.core_tree.Forms.{Forms}
use Rattle.hume_model.specs.declared.core_tree.Forms.TheVariants.{Truths, Constructors, Others}
use Rattle.hume_model.specs.declared.core_tree.PatC.{PatC}
use Rattle.hume_model.specs.declared.core_tree.Expr.{Expr, roll-Expr, map-Expr, fold-roll-Expr, ind-Expr}
use Rattle.hume_model.specs.declared.core_tree.Expr.TheOpen.{Expr-F}
use Rattle.hume_model.specs.declared.core_tree.Res.{Res, roll-Res, map-Res, fold-roll-Res, ind-Res}
use Rattle.hume_model.specs.declared.core_tree.Res.TheOpen.{Res-F}
use Rattle.hume_model.specs.declared.core_tree.EqC.{EqC}
use Rattle.hume_model.specs.declared.core_tree.FunC.{FunC}
use Rattle.hume_model.specs.declared.core_tree.ExnDef.{ExnDef}
use Rattle.hume_model.specs.declared.core_tree.RuleC.{RuleC}
use Rattle.hume_model.specs.declared.core_tree.HandC.{HandC}
use Rattle.hume_model.specs.declared.core_tree.PortC.{PortC}
use Rattle.hume_model.specs.declared.core_tree.BoxC.{BoxC}
use Rattle.hume_model.specs.declared.core_tree.NodeC.{NodeC}
use Rattle.hume_model.specs.declared.core_tree.NodeC.TheVariants.{Rules, From, To}
use Rattle.hume_model.specs.declared.core_tree.WireC.{WireC}
use Rattle.hume_model.specs.declared.exceptions.TheConstants.{NO_CASE}
use Rattle.union_laws.specs.declared.moves.Moves.{Moves}
use Rattle.union_laws.specs.Moving.{moved, moved_box, moved_con, moved_data, moved_equation, moved_exception, moved_exn, moved_forms, moved_function, moved_handler, moved_layer, moved_node, moved_port, moved_result, moved_result_layer, moved_rule, moved_type, moved_type_layer, moved_wire}

-- up by nothing
abbrev pub unmoved : Moves
unmoved = record { types = 0; exns = 0; funs = 0; nodes = 0 }

plus_none : (n : ℕ) → 0 + n ≡ n
plus_none n = omega arith

same_list : {X : Type 0} (f : X → X) → ((x : X) → f x ≡ x) → (xs : List X) → map f xs ≡ xs
same_list f same [] = refl
same_list f same (x ∷ xs) = λ i. same x i ∷ same_list f same xs i

same_option : {X : Type 0} (f : X → X) → ((x : X) → f x ≡ x) → (o : Option X) → option_map f o ≡ o
same_option f same None = refl
same_option f same (Some x) = ap Some (same x)

-- types

module _ where
  abbrev SameType : Ty → Type 0
  SameType ty = moved_type unmoved ty ≡ ty

  abbrev TypePart : Type 0
  TypePart = (ty : Ty) × SameType ty

  abbrev of_type : TypePart → Ty
  of_type p = p.0

  types_same : (ps : List TypePart) → map (moved_type unmoved) (map of_type ps) ≡ map of_type ps
  types_same [] = refl
  types_same (p ∷ ps) = λ i. p.1 i ∷ types_same ps i

  type_layer : (y : Ty-F TypePart) → moved_type_layer unmoved (map-Ty Ty Ty (moved_type unmoved) (map-Ty TypePart Ty of_type y)) ≡ map-Ty TypePart Ty of_type y
  type_layer Ty-F.Bool = refl
  type_layer Ty-F.Char = refl
  type_layer (Ty-F.Int bits) = refl
  type_layer (Ty-F.Nat bits) = refl
  type_layer (Ty-F.Tuple ps) = ap (λ tys. Ty-F.Tuple tys) (types_same ps)
  type_layer (Ty-F.Vector count p) = ap (λ ty. Ty-F.Vector count ty) p.1
  type_layer (Ty-F.Named number) = ap (λ n. Ty-F.Named n) (plus_none number)

  pub type_same : (ty : Ty) → SameType ty
  type_same = ind-Ty SameType (λ x y is. subst (λ z. SameType (roll-Ty z)) is
      (fold-roll-Ty Ty (λ z. roll-Ty (moved_type_layer unmoved z)) (map-Ty TypePart Ty of_type y) ∙ ap roll-Ty (type_layer y)))

pub forms_same : (forms : Forms) → moved_forms unmoved forms ≡ forms
forms_same Truths = refl
forms_same (Constructors number) = ap Constructors (plus_none number)
forms_same Others = refl

-- exceptions

pub exn_unmoved : (exn : ℕ) → moved_exn unmoved exn ≡ exn
exn_unmoved exn = by (nat_le exn NO_CASE)
  where
    by : (b : Bool) → (if b then exn else 0 + exn) ≡ exn
    by true = refl
    by false = plus_none exn

-- expressions

module _ where
  abbrev SameExpr : Expr → Type 0
  SameExpr e = moved unmoved e ≡ e

  abbrev ExprPart : Type 0
  ExprPart = (e : Expr) × SameExpr e

  abbrev of_expr : ExprPart → Expr
  of_expr p = p.0

  exprs_same : (ps : List ExprPart) → map (moved unmoved) (map of_expr ps) ≡ map of_expr ps
  exprs_same [] = refl
  exprs_same (p ∷ ps) = λ i. p.1 i ∷ exprs_same ps i

  abbrev arm_of : PatC × ExprPart → PatC × Expr
  arm_of arm = (arm.0, of_expr arm.1)

  abbrev arm_moved : PatC × Expr → PatC × Expr
  arm_moved arm = (arm.0, moved unmoved arm.1)

  ways_same : (arms : List (PatC × ExprPart)) → map arm_moved (map arm_of arms) ≡ map arm_of arms
  ways_same [] = refl
  ways_same (arm ∷ arms) = λ i. (arm.0, arm.1.1 i) ∷ ways_same arms i

  expr_layer : (y : Expr-F ExprPart) → moved_layer unmoved (map-Expr Expr Expr (moved unmoved) (map-Expr ExprPart Expr of_expr y)) ≡ map-Expr ExprPart Expr of_expr y
  expr_layer (Expr-F.Word w) = refl
  expr_layer (Expr-F.Var n) = refl
  expr_layer (Expr-F.Con c ps) = ap (λ es. Expr-F.Con c es) (exprs_same ps)
  expr_layer (Expr-F.Tuple ps) = ap (λ es. Expr-F.Tuple es) (exprs_same ps)
  expr_layer (Expr-F.Vect ps) = ap (λ es. Expr-F.Vect es) (exprs_same ps)
  expr_layer (Expr-F.Prim op ty ps) = λ i. Expr-F.Prim op (type_same ty i) (exprs_same ps i)
  expr_layer (Expr-F.Index n v k) = λ i. Expr-F.Index n (v.1 i) (k.1 i)
  expr_layer (Expr-F.Update n v k e) = λ i. Expr-F.Update n (v.1 i) (k.1 i) (e.1 i)
  expr_layer (Expr-F.If t a b) = λ i. Expr-F.If (t.1 i) (a.1 i) (b.1 i)
  expr_layer (Expr-F.Case e forms arms) = λ i. Expr-F.Case (e.1 i) (forms_same forms i) (ways_same arms i)
  expr_layer (Expr-F.Let a b) = λ i. Expr-F.Let (a.1 i) (b.1 i)
  expr_layer (Expr-F.Call f ps) = λ i. Expr-F.Call (plus_none f i) (exprs_same ps i)
  expr_layer (Expr-F.Raise x None) = ap (λ n. Expr-F.Raise n None) (exn_unmoved x)
  expr_layer (Expr-F.Raise x (Some p)) = λ i. Expr-F.Raise (exn_unmoved x i) (Some (p.1 i))

  pub expr_same : (e : Expr) → SameExpr e
  expr_same = ind-Expr SameExpr (λ x y is. subst (λ z. SameExpr (roll-Expr z)) is
      (fold-roll-Expr Expr (λ z. roll-Expr (moved_layer unmoved z)) (map-Expr ExprPart Expr of_expr y) ∙ ap roll-Expr (expr_layer y)))

-- results

module _ where
  abbrev SameResult : Res → Type 0
  SameResult r = moved_result unmoved r ≡ r

  abbrev ResultPart : Type 0
  ResultPart = (r : Res) × SameResult r

  abbrev of_result : ResultPart → Res
  of_result p = p.0

  abbrev result_arm_of : PatC × ResultPart → PatC × Res
  result_arm_of arm = (arm.0, of_result arm.1)

  abbrev result_arm_moved : PatC × Res → PatC × Res
  result_arm_moved arm = (arm.0, moved_result unmoved arm.1)

  result_ways_same : (arms : List (PatC × ResultPart)) → map result_arm_moved (map result_arm_of arms) ≡ map result_arm_of arms
  result_ways_same [] = refl
  result_ways_same (arm ∷ arms) = λ i. (arm.0, arm.1.1 i) ∷ result_ways_same arms i

  result_layer : (y : Res-F ResultPart)
      → moved_result_layer unmoved (map-Res Res Res (moved_result unmoved) (map-Res ResultPart Res of_result y)) ≡ map-Res ResultPart Res of_result y
  result_layer (Res-F.Outs outs) = ap (λ os. Res-F.Outs os) (same_list (option_map (moved unmoved)) (same_option (moved unmoved) expr_same) outs)
  result_layer (Res-F.If t a b) = λ i. Res-F.If (expr_same t i) (a.1 i) (b.1 i)
  result_layer (Res-F.Case e forms arms) = λ i. Res-F.Case (expr_same e i) (forms_same forms i) (result_ways_same arms i)
  result_layer (Res-F.Let e b) = λ i. Res-F.Let (expr_same e i) (b.1 i)
  result_layer (Res-F.Raise x e) = λ i. Res-F.Raise (exn_unmoved x i) (same_option (moved unmoved) expr_same e i)

  pub result_same : (r : Res) → SameResult r
  result_same = ind-Res SameResult (λ x y is. subst (λ z. SameResult (roll-Res z)) is
      (fold-roll-Res Res (λ z. roll-Res (moved_result_layer unmoved z)) (map-Res ResultPart Res of_result y) ∙ ap roll-Res (result_layer y)))

-- the parts of a program

pub con_same : (con : ConDef) → moved_con unmoved con ≡ con
con_same con = λ i. record con { fields = same_list (moved_type unmoved) type_same con.fields i }

pub data_same : (sum : SumDef) → moved_data unmoved sum ≡ sum
data_same sum = λ i. record sum { cons = same_list (moved_con unmoved) con_same sum.cons i }

pub exception_same : (exn : ExnDef) → moved_exception unmoved exn ≡ exn
exception_same exn = λ i. record exn { carries = same_option (moved_type unmoved) type_same exn.carries i }

equation_same : (equation : EqC) → moved_equation unmoved equation ≡ equation
equation_same equation = λ i. record equation { body = expr_same equation.body i }

pub function_same : (function : FunC) → moved_function unmoved function ≡ function
function_same function = λ i. record function {
  params = same_list (moved_type unmoved) type_same function.params i;
  gives = type_same function.gives i;
  equations = same_list (moved_equation unmoved) equation_same function.equations i;
}

rule_same : (rule : RuleC) → moved_rule unmoved rule ≡ rule
rule_same rule = λ i. record rule { result = result_same rule.result i }

handler_same : (handler : HandC) → moved_handler unmoved handler ≡ handler
handler_same handler = λ i. record handler { exn = exn_unmoved handler.exn i; result = result_same handler.result i }

port_same : (port : PortC) → moved_port unmoved port ≡ port
port_same port = λ i. record port { ty = type_same port.ty i }

pub box_same : (b : BoxC) → moved_box unmoved b ≡ b
box_same b = λ i. record b {
  ins = same_list (moved_port unmoved) port_same b.ins i;
  outs = same_list (moved_port unmoved) port_same b.outs i;
  rules = same_list (moved_rule unmoved) rule_same b.rules i;
  handlers = same_list (moved_handler unmoved) handler_same b.handlers i;
}

pub node_same : (node : NodeC) → moved_node unmoved node ≡ node
node_same (Rules b) = ap (λ c. Rules c) (box_same b)
node_same (From stream) = refl
node_same (To stream) = refl

pub wire_same : (wire : WireC) → moved_wire unmoved wire ≡ wire
wire_same wire = λ i. record wire { from = plus_none wire.from i; to = plus_none wire.to i; ty = type_same wire.ty i }
