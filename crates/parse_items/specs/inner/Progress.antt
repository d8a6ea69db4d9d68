-- What is read of a program so far, and what one more line makes of it.
use Rattle.std.specs.Prelude.{ℕ, List, [], ◌∷◌, ◌++◌, Option, Some, None}
use Rattle.hume_ast.specs.declared.tree.Pat.{Pat}
use Rattle.hume_ast.specs.declared.tree.Exp.{Exp}
use Rattle.hume_ast.specs.declared.tree.Decl.{Decl}
use Rattle.hume_ast.specs.declared.tree.Decl.TheVariants.{Fun}
use Rattle.parse_items.specs.declared.progress.OpenFunction.{OpenFunction}
use Rattle.parse_items.specs.declared.progress.Progress.{Progress}
use Rattle.parse_readers.specs.inner.Items.{Item as Line, Whole, Signature, Equation, Expecting as Place, Outside, Wanting, Within}

abbrev pub place_with : List (List ℕ × List Pat × Exp) → Place
place_with [] = Wanting
place_with (first ∷ equations) = Within

-- where the next line stands
abbrev pub place_behind : Option OpenFunction → Place
place_behind None = Outside
place_behind (Some function) = place_with function.equations

-- the function, where no more equations come
abbrev pub as_decl : Option OpenFunction → List (ℕ × Decl)
as_decl None = []
as_decl (Some function) = (function.place, Fun function.name function.types function.equations) ∷ []

-- all that is declared, where no more equations come
abbrev pub closed : Progress → List (ℕ × Decl)
closed progress = progress.decls ++ as_decl progress.function

-- one more equation of the function; without a function none is read
abbrev pub with_equation : List ℕ × List Pat × Exp → Option OpenFunction → Option OpenFunction
with_equation equation None = None
with_equation equation (Some function) = Some (record {
  place = function.place;
  name = function.name;
  types = function.types;
  equations = function.equations ++ equation ∷ [];
})

-- behind one more line, which begins at the place
abbrev pub took : ℕ → Line → Progress → Progress
took place (Whole decl) progress = record { decls = closed progress ++ (place, decl) ∷ []; function = None }
took place (Signature name types) progress = record {
  decls = closed progress;
  function = Some (record { place = place; name = name; types = types; equations = [] });
}
took place (Equation parts) progress = record {
  decls = progress.decls;
  function = with_equation parts progress.function;
}
