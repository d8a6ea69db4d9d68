-- Known names, as tables have them.
use Rattle.std.specs.Prelude.{◌++◌}
use Rattle.hume_ast.specs.declared.tree.Decl.{Decl}
use Rattle.check_names.specs.declared.known.KnownNames.{KnownNames}
use Rattle.check_tables.specs.names.Names.{names_of}
use Rattle.check_names.specs.DeclaredNames.{types_of, constructors_of, exceptions_of, functions_of}
use Rattle.check_names.specs.Unknown.{Known}
use Rattle.check_names.specs.inner.Spaces.{SameNames}

pub record SameKnown (a b : Known) : Type 0 where
  pub types : SameNames a.types b.types
  pub constructors : SameNames a.constructors b.constructors
  pub exceptions : SameNames a.exceptions b.exceptions
  pub functions : SameNames a.functions b.functions

abbrev pub known_of : KnownNames → Known
known_of known = record {
  types = names_of known.types;
  constructors = names_of known.constructors;
  exceptions = names_of known.exceptions;
  functions = names_of known.functions;
}

-- with the names that a declaration declares
abbrev pub known_with : Known → Decl → Known
known_with known decl = record {
  types = known.types ++ types_of decl;
  constructors = known.constructors ++ constructors_of decl;
  exceptions = known.exceptions ++ exceptions_of decl;
  functions = known.functions ++ functions_of decl;
}
