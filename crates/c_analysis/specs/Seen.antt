-- Functions of expressions by their forms, each step of which sees the parts themselves beside what the function gives for them.
use Rattle.typed_core.specs.declared.typed_tree.TypedExpr.{TypedExpr, roll-TypedExpr, map-TypedExpr, fold-TypedExpr}
use Rattle.typed_core.specs.declared.typed_tree.TypedExpr.TheOpen.{TypedExpr-F}

-- an expression, and what a function gives for it
pub record Seen (A : Type 0) : Type 0 where
  pub tree : TypedExpr
  pub value : A

abbrev pub tree_of : {A : Type 0} → Seen A → TypedExpr
tree_of part = part.tree

abbrev pub seen_layer : {A : Type 0} → (TypedExpr-F (Seen A) → A) → TypedExpr-F (Seen A) → Seen A
seen_layer {A} step layer = record { tree = roll-TypedExpr (map-TypedExpr (Seen A) TypedExpr tree_of layer); value = step layer }

abbrev pub seen_by : {A : Type 0} → (TypedExpr-F (Seen A) → A) → TypedExpr → Seen A
seen_by {A} step = fold-TypedExpr (Seen A) (seen_layer step)

-- what the step gives for an expression
abbrev pub by_forms : {A : Type 0} → (TypedExpr-F (Seen A) → A) → TypedExpr → A
by_forms step e = (seen_by step e).value

-- an expression beside what the step gives for it
abbrev pub seen : {A : Type 0} → (TypedExpr-F (Seen A) → A) → TypedExpr → Seen A
seen step e = record { tree = e; value = by_forms step e }
