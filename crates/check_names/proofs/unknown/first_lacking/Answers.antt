use Rattle.std.proofs.Common.{◌≡◌, ℕ, ◌||◌, Bool, Some, slice_get, refl, ap, ◌∙◌, List}
use Rattle.std.proofs.lemmas.Option.{slice_get_read}
use Rattle.hume_ast.specs.declared.tree.Decl.{Decl}
use Rattle.check_names.specs.Mentions.{mentions_of}
use Rattle.check_names.specs.Unknown.{known_in, mentions_unknown, names_otherwise, misses_end}
use Rattle.check_names.specs.inner.KnownTables.{known_of}
use Rattle.check_names.proofs.Steps.{mentions_unknown_same}
use Rattle.check_names.proofs.Search.{search_more, search_here, search_none}
use Rattle.check_names.proofs.unknown.first_lacking.Goals as goal

abbrev test : List (ℕ × Decl) → ℕ → Decl → Bool
test decls i decl = mentions_unknown (known_in decls) (mentions_of decl) || (names_otherwise decl || misses_end decls decl)

pub returns-then-branch : goal.returns-then-branch
returns-then-branch c =
    let decls = c.args.decls.now in
    let d = c.index-decls-i.result in
    let at : slice_get decls c.loop-i.i ≡ Some d = slice_get_read decls _ c.loop-i.i d refl c.loop-i-test.true c.index-decls-i.is in
    search_here decls (test decls) c.loop-i.i d c.in_ok-has_unknown.field-0 at
    (c.in_ok-has_unknown.ensures ∙ ap (λ b. b || (names_otherwise d.1 || misses_end decls d.1)) (mentions_unknown_same (known_of c.args.known.now) (known_in decls) c.requires.known (mentions_of d.1)))
    c.if-branch.true c.loop-i.invariant

pub loop-i-preserved : goal.loop-i-preserved
loop-i-preserved c =
    let decls = c.args.decls.now in
    let d = c.index-decls-i.result in
    let at : slice_get decls c.loop-i.i ≡ Some d = slice_get_read decls _ c.loop-i.i d refl c.loop-i-test.true c.index-decls-i.is in
    search_more decls (test decls) c.loop-i.i d c.in_ok-has_unknown.field-0 at
    (c.in_ok-has_unknown.ensures ∙ ap (λ b. b || (names_otherwise d.1 || misses_end decls d.1)) (mentions_unknown_same (known_of c.args.known.now) (known_in decls) c.requires.known (mentions_of d.1)))
    c.if-branch.false c.loop-i.invariant

pub returns : goal.returns
returns c = search_none c.args.decls.now (test c.args.decls.now) c.loop-i.i c.loop-i-test.false c.loop-i.invariant
