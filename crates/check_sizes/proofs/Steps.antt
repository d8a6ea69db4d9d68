-- One level of a type, and one type more.
use Rattle.std.proofs.lemmas.Grind.{common_steps}
use Rattle.std.proofs.lemmas.List.Folds.{list_any-append}
use Rattle.hume_base.specs.declared.types.Ty.{the_lemmas as ty_lemmas}
use Rattle.hume_ast.specs.declared.tree.TyExp.{the_lemmas as written_lemmas}
use Rattle.hume_ast.specs.declared.tree.Exp.{the_lemmas as exp_lemmas}
use Rattle.check_sizes.proofs.CaseCasts.{case_casts}
use Rattle.check_sizes.proofs.TypeLevels.{number_named, product_capped, int_words, nat_words, vector_words, named_words, tuple_words, rest_more}

pub ruleset size_steps = (common_steps, ty_lemmas, product_capped)

pub ruleset cast_steps = (common_steps, exp_lemmas, list_any-append, case_casts)

pub ruleset data_steps = (common_steps, number_named)

pub ruleset written_steps = (common_steps, written_lemmas, ty_lemmas, int_words, nat_words, vector_words, named_words, tuple_words, rest_more)
