-- A program whose numbers move up: those of its data types, of the exceptions that it declares, of its functions and of its
-- nodes. The exceptions that every program has keep theirs, and so do variables, constructors and places.
use Rattle.std.specs.Prelude.{ℕ, ◌+◌, nat_le, map, if◌then◌else◌}
use Rattle.std.specs.Option.{option_map}
use Rattle.hume_base.specs.declared.types.Ty.{Ty, fold-Ty, roll-Ty}
use Rattle.hume_base.specs.declared.types.Ty.TheOpen.{Ty-F}
use Rattle.hume_base.specs.declared.types.ConDef.{ConDef}
use Rattle.hume_base.specs.declared.types.SumDef.{SumDef}
use Rattle.hume_model.specs.declared.core_tree.Forms.{Forms}
use Rattle.hume_model.specs.declared.core_tree.Forms.TheVariants.{Truths, Constructors, Others}
use Rattle.hume_model.specs.declared.core_tree.Expr.{Expr, fold-Expr, roll-Expr}
use Rattle.hume_model.specs.declared.core_tree.Expr.TheOpen.{Expr-F}
use Rattle.hume_model.specs.declared.core_tree.Res.{Res, fold-Res, roll-Res}
use Rattle.hume_model.specs.declared.core_tree.Res.TheOpen.{Res-F}
use Rattle.hume_model.specs.declared.core_tree.EqC.{EqC}
use Rattle.hume_model.specs.declared.core_tree.FunC.{FunC}
use Rattle.hume_model.specs.declared.core_tree.ExnDef.{ExnDef}
use Rattle.hume_model.specs.declared.core_tree.RuleC.{RuleC}
use Rattle.hume_model.specs.declared.core_tree.HandC.{HandC}
use Rattle.hume_model.specs.declared.core_tree.PortC.{PortC}
use Rattle.hume_model.specs.declared.core_tree.BoxC.{BoxC}
use Rattle.hume_model.specs.declared.core_tree.NodeC.{NodeC}
use Rattle.hume_model.specs.declared.core_tree.NodeC.TheVariants.{Rules, From, To}
use Rattle.hume_model.specs.declared.core_tree.WireC.{WireC}
use Rattle.hume_model.specs.declared.exceptions.TheConstants.{NO_CASE}
use Rattle.union_laws.specs.declared.moves.Moves.{Moves}

-- one level of a type
abbrev pub moved_type_layer : {X : Type 0} → Moves → Ty-F X → Ty-F X
moved_type_layer moves (Ty-F.Named number) = Ty-F.Named (moves.types + number)
moved_type_layer moves layer = layer

-- the type with its data types moved up
abbrev pub moved_type : Moves → Ty → Ty
moved_type moves = fold-Ty Ty (λ layer. roll-Ty (moved_type_layer moves layer))

-- the forms of values, with their data type moved up
abbrev pub moved_forms : Moves → Forms → Forms
moved_forms moves Truths = Truths
moved_forms moves (Constructors number) = Constructors (moves.types + number)
moved_forms moves Others = Others

-- the number of an exception; NO_CASE is the last of those that every program has
abbrev pub moved_exn : Moves → ℕ → ℕ
moved_exn moves exn = if nat_le exn NO_CASE then exn else moves.exns + exn

-- one level of an expression
abbrev pub moved_layer : {X : Type 0} → Moves → Expr-F X → Expr-F X
moved_layer moves (Expr-F.Prim op ty parts) = Expr-F.Prim op (moved_type moves ty) parts
moved_layer moves (Expr-F.Case part forms arms) = Expr-F.Case part (moved_forms moves forms) arms
moved_layer moves (Expr-F.Call function parts) = Expr-F.Call (moves.funs + function) parts
moved_layer moves (Expr-F.Raise exn part) = Expr-F.Raise (moved_exn moves exn) part
moved_layer moves layer = layer

-- the expression with its types, calls and exceptions moved up
abbrev pub moved : Moves → Expr → Expr
moved moves = fold-Expr Expr (λ layer. roll-Expr (moved_layer moves layer))

-- one level of a result
abbrev pub moved_result_layer : {X : Type 0} → Moves → Res-F X → Res-F X
moved_result_layer moves (Res-F.Outs outs) = Res-F.Outs (map (option_map (moved moves)) outs)
moved_result_layer moves (Res-F.If test when_true when_false) = Res-F.If (moved moves test) when_true when_false
moved_result_layer moves (Res-F.Case part forms arms) = Res-F.Case (moved moves part) (moved_forms moves forms) arms
moved_result_layer moves (Res-F.Let part body) = Res-F.Let (moved moves part) body
moved_result_layer moves (Res-F.Raise exn part) = Res-F.Raise (moved_exn moves exn) (option_map (moved moves) part)

-- the result of a rule or a handler
abbrev pub moved_result : Moves → Res → Res
moved_result moves = fold-Res Res (λ layer. roll-Res (moved_result_layer moves layer))

-- a constructor
abbrev pub moved_con : Moves → ConDef → ConDef
moved_con moves con = record con { fields = map (moved_type moves) con.fields }

-- a data type
abbrev pub moved_data : Moves → SumDef → SumDef
moved_data moves sum = record sum { cons = map (moved_con moves) sum.cons }

-- an exception
abbrev pub moved_exception : Moves → ExnDef → ExnDef
moved_exception moves exn = record exn { carries = option_map (moved_type moves) exn.carries }

-- an equation of a function
abbrev pub moved_equation : Moves → EqC → EqC
moved_equation moves equation = record equation { body = moved moves equation.body }

-- a function
abbrev pub moved_function : Moves → FunC → FunC
moved_function moves function = record function {
  params = map (moved_type moves) function.params;
  gives = moved_type moves function.gives;
  equations = map (moved_equation moves) function.equations;
}

-- a rule
abbrev pub moved_rule : Moves → RuleC → RuleC
moved_rule moves rule = record rule { result = moved_result moves rule.result }

-- a handler
abbrev pub moved_handler : Moves → HandC → HandC
moved_handler moves handler = record handler { exn = moved_exn moves handler.exn; result = moved_result moves handler.result }

-- an input or an output of a box
abbrev pub moved_port : Moves → PortC → PortC
moved_port moves port = record port { ty = moved_type moves port.ty }

-- a box
abbrev pub moved_box : Moves → BoxC → BoxC
moved_box moves b = record b {
  ins = map (moved_port moves) b.ins;
  outs = map (moved_port moves) b.outs;
  rules = map (moved_rule moves) b.rules;
  handlers = map (moved_handler moves) b.handlers;
}

-- a box or a stream
abbrev pub moved_node : Moves → NodeC → NodeC
moved_node moves (Rules b) = Rules (moved_box moves b)
moved_node moves (From stream) = From stream
moved_node moves (To stream) = To stream

-- a wire
abbrev pub moved_wire : Moves → WireC → WireC
moved_wire moves wire = record wire { from = moves.nodes + wire.from; to = moves.nodes + wire.to; ty = moved_type moves wire.ty }
