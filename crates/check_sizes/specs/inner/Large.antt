-- Whether a declaration has a type that is too large, by the sizes of data types.
use Rattle.std.specs.Prelude.{ℕ, ◌+◌, ◌||◌, nat_lt, Bool, false, List, Option, Some, None, option_map}
use Rattle.std.specs.List.{list_any}
use Rattle.hume_base.specs.declared.limits.TheConstants.{MAX_TYPE_WORDS}
use Rattle.hume_base.specs.declared.types.Ty.{Ty}
use Rattle.hume_base.specs.declared.types.Types.{Types}
use Rattle.hume_base.specs.Sizes.{sizes_with}
use Rattle.hume_ast.specs.declared.tree.TyExp.{TyExp}
use Rattle.hume_ast.specs.declared.tree.Exp.{Exp}
use Rattle.hume_ast.specs.declared.tree.Decl.{Decl}
use Rattle.hume_ast.specs.declared.tree.Decl.TheVariants.{Sum}
use Rattle.check_typing.specs.Partial.{given}
use Rattle.check_typing.specs.Signatures.{sum_named}
use Rattle.check_typing.specs.WrittenTypes.{written}
use Rattle.check_rules.specs.SizeRules.{types_in, written_in}
use Rattle.check_sizes.specs.inner.Capped.{capped, named_in, words_by}

-- the words of the type that is written, if it is one
abbrev pub words_written : Types → List ℕ → TyExp → Option ℕ
words_written types sizes e = option_map (words_by sizes) (written types e)

abbrev pub is_large_size : Option ℕ → Bool
is_large_size None = false
is_large_size (Some words) = nat_lt MAX_TYPE_WORDS words

abbrev pub is_large : Types → List ℕ → TyExp → Bool
is_large types sizes e = is_large_size (words_written types sizes e)

-- one of the types that are written in the expression is too large
abbrev pub has_large_cast : Types → List ℕ → Exp → Bool
has_large_cast types sizes e = list_any (is_large types sizes) (written_in e)

-- the data type of the name is too large
abbrev pub is_large_data : Types → List ℕ → List ℕ → Bool
is_large_data types sizes name = is_large_size (given (sum_named name types) (λ found. Some (capped (named_in sizes found.0))))

abbrev pub own_is_large : Types → List ℕ → Decl → Bool
own_is_large types sizes (Sum name cons) = is_large_data types sizes name
own_is_large types sizes _ = false

-- a type of the declaration is too large
abbrev pub has_large_type : Types → List ℕ → Decl → Bool
has_large_type types sizes decl = list_any (is_large types sizes) (types_in decl) || own_is_large types sizes decl

-- the words of a tuple that begins with so many and goes on with the types
abbrev pub rest_words : List ℕ → ℕ → Option (List Ty) → Option ℕ
rest_words sizes total None = None
rest_words sizes total (Some tys) = Some (capped (total + sizes_with (named_in sizes) tys))

abbrev pub rest_after : List ℕ → ℕ → Option ℕ → Option (List Ty) → Option ℕ
rest_after sizes total None tys = None
rest_after sizes total (Some words) tys = rest_words sizes (capped (total + words)) tys
