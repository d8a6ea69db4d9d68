use Rattle.std.proofs.Common.{◌≡◌, ℕ, ◌||◌, Bool, Some, slice_get, refl, ap, take, ◌∙◌, List}
use Rattle.std.proofs.lemmas.Option.{slice_get_read}
use Rattle.hume_ast.specs.declared.tree.Decl.{Decl}
use Rattle.check_names.specs.Repeated.{spaces_in, repeats_shared, repeats_own}
use Rattle.check_names.specs.inner.Spaces.{spaces_of}
use Rattle.check_names.proofs.Spaces.{spaces_more, repeats_shared_same}
use Rattle.check_names.proofs.Search.{search_more, search_here, search_none}
use Rattle.check_names.proofs.repeated.first_repeated_in.Goals as goal

abbrev test : List (ℕ × Decl) → ℕ → Decl → Bool
test decls i decl = repeats_shared (spaces_in (take i decls)) decl || repeats_own decl

pub returns-then-branch : goal.returns-then-branch
returns-then-branch c =
    let decls = c.args.decls.now in
    let d = c.index-decls-i.result in
    let at : slice_get decls c.loop-i.i ≡ Some d = slice_get_read decls _ c.loop-i.i d refl c.loop-i-test.true c.index-decls-i.is in
    search_here decls (test decls) c.loop-i.i d c.in_ok-add_declared.field-0 at
    (c.in_ok-add_declared.ensures.again ∙ ap (λ b. b || repeats_own d.1) (repeats_shared_same (spaces_of c.loop-i.tables) (spaces_in (take c.loop-i.i decls)) d.1 c.loop-i.invariant.spaces))
    c.if-branch.true c.loop-i.invariant.none

pub loop-i-preserved : goal.loop-i-preserved
loop-i-preserved c =
    let decls = c.args.decls.now in
    let d = c.index-decls-i.result in
    let at : slice_get decls c.loop-i.i ≡ Some d = slice_get_read decls _ c.loop-i.i d refl c.loop-i-test.true c.index-decls-i.is in
    record {
      spaces = spaces_more decls c.loop-i.i d (spaces_of c.loop-i.tables) (spaces_of c.add_declared.new.tables) at c.loop-i.invariant.spaces c.in_ok-add_declared.ensures.added;
      none = search_more decls (test decls) c.loop-i.i d c.in_ok-add_declared.field-0 at
          (c.in_ok-add_declared.ensures.again ∙ ap (λ b. b || repeats_own d.1) (repeats_shared_same (spaces_of c.loop-i.tables) (spaces_in (take c.loop-i.i decls)) d.1 c.loop-i.invariant.spaces))
          c.if-branch.false c.loop-i.invariant.none;
    }

pub returns : goal.returns
returns c = search_none c.args.decls.now (test c.args.decls.now) c.loop-i.i c.loop-i-test.false c.loop-i.invariant.none
