-- Whether the words of a wire pass the limit, with those of all wires before it.
use Rattle.std.specs.Prelude.{ℕ, ◌+◌, ◌*◌, ◌&&◌, nat_lt, nat_le, Bool, List, take, Option, Some, None}
use Rattle.std.specs.List.{sum_by}
use Rattle.hume_base.specs.declared.limits.TheConstants.{MAX_WIRE_WORDS}
use Rattle.hume_base.specs.declared.types.Ty.{Ty}
use Rattle.hume_ast.specs.declared.tree.Decl.{Decl}
use Rattle.hume_ast.specs.declared.tree.Decl.TheVariants.{Wire}
use Rattle.check_rules.specs.Declared.{Decls}
use Rattle.check_rules.specs.CoreOf.{depth_or_one}
use Rattle.check_wires.specs.declared.types.wires.WireTypes.{WireTypes}
use Rattle.check_wires.specs.types.NodeTypes.{type_between}
use Rattle.check_sizes.specs.inner.Capped.{capped, words_by}

abbrev pub words_between : List ℕ → Option Ty → ℕ → ℕ
words_between sizes None depth = 0
words_between sizes (Some ty) depth = capped (depth * words_by sizes ty)

-- the words of a declaration, which has some if it is a wire
abbrev pub words_at : WireTypes → List ℕ → Decl → ℕ
words_at types sizes (Wire source target depth initial) = words_between sizes (type_between types source target) (depth_or_one depth)
words_at types sizes _ = 0

abbrev pub all_words : WireTypes → List ℕ → Decls → ℕ
all_words types sizes decls = sum_by (λ (d : ℕ × Decl). words_at types sizes d.1) decls

-- the words up to this declaration are too many, and without it they are not
abbrev pub passes : WireTypes → List ℕ → Decls → ℕ → Decl → Bool
passes types sizes decls i decl =
    nat_le (all_words types sizes (take i decls)) MAX_WIRE_WORDS
    && nat_lt MAX_WIRE_WORDS (all_words types sizes (take i decls) + words_at types sizes decl)
