use Rattle.std.proofs.Common.{◌≡◌, ◌+◌, ◌∙◌, Some, slice_get, refl, sym}
use Rattle.std.proofs.lemmas.Bool.{ltb-false}
use Rattle.std.proofs.lemmas.Option.{slice_get_read}
use Rattle.hume_base.specs.declared.limits.TheConstants.{MAX_WIRE_WORDS}
use Rattle.check_names.proofs.Search.{search_more, search_here, search_none}
use Rattle.check_sizes.specs.inner.Passing.{passes}
use Rattle.check_sizes.proofs.PassedWords.{goes_past, one_more}
use Rattle.check_sizes.proofs.wire_words.first_past.Goals as goal

pub loop-i-preserved : goal.loop-i-preserved
loop-i-preserved c =
    let decls = c.args.decls.now in
    let types = c.args.types.now in
    let sizes = c.args.sizes.now in
    let d = c.index-decls-i.result in
    let at : slice_get decls c.loop-i.i ≡ Some d = slice_get_read decls _ c.loop-i.i d refl c.loop-i-test.true c.index-decls-i.is in
    let more = c.wire_words-more.ensures in
    record {
      few = ltb-false MAX_WIRE_WORDS (c.loop-i.total + c.wire_words-more.result) (sym c.goes_past.ensures ∙ c.if-goes_past.false);
      so_far = one_more types sizes decls c.loop-i.i d c.loop-i.total c.wire_words-more.result c.loop-i-test.true (sym c.index-decls-i.is) c.loop-i.invariant.so_far more;
      none = search_more decls (passes types sizes decls) c.loop-i.i d c.goes_past.result at
          (c.goes_past.ensures ∙ goes_past types sizes decls c.loop-i.i d.1 c.loop-i.total c.wire_words-more.result c.loop-i.invariant.few c.loop-i.invariant.so_far more)
          c.if-goes_past.false c.loop-i.invariant.none;
    }

pub returns-then-goes_past : goal.returns-then-goes_past
returns-then-goes_past c =
    let decls = c.args.decls.now in
    let types = c.args.types.now in
    let sizes = c.args.sizes.now in
    let d = c.index-decls-i.result in
    let at : slice_get decls c.loop-i.i ≡ Some d = slice_get_read decls _ c.loop-i.i d refl c.loop-i-test.true c.index-decls-i.is in
    search_here decls (passes types sizes decls) c.loop-i.i d c.goes_past.result at
    (c.goes_past.ensures ∙ goes_past types sizes decls c.loop-i.i d.1 c.loop-i.total c.wire_words-more.result c.loop-i.invariant.few c.loop-i.invariant.so_far c.wire_words-more.ensures)
    c.if-goes_past.true c.loop-i.invariant.none

pub returns : goal.returns
returns c = search_none c.args.decls.now (passes c.args.types.now c.args.sizes.now c.args.decls.now) c.loop-i.i c.loop-i-test.false c.loop-i.invariant.none
