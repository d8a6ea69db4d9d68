use Rattle.std.proofs.Common.{◌≡◌, ◌<◌, List, length, take, get_or, sym, ap, ◌∙◌, subst, arith}
use Rattle.std.specs.List.{filter_map}
use Rattle.hume_model.specs.declared.core_tree.BoxC.{BoxC}
use Rattle.hume_model.specs.declared.core_tree.NodeC.{NodeC}
use Rattle.box_compile.specs.Programs.{AreProgramsFor, box_in}
use Rattle.box_compile.proofs.Taken.{taken_more}
use Rattle.box_compile.proofs.BoxCode.{filter_last}
use Rattle.box_compile.proofs.program_list.compile.Goals as goal

pub loop-i-preserved : goal.loop-i-preserved
loop-i-preserved c =
    let nodes : List NodeC = c.args.core.now.nodes in
    let node = c.index-deref-i.result in
    let low : c.loop-i.i < length nodes = omega (arith, c.loop-i-test.true, c.loop-i.invariant.count) in
    let at : node ≡ get_or nodes c.loop-i.i node = c.index-deref-i.is ∙ ap (λ l. get_or l c.loop-i.i node) c.deref.ensures in
    let last = ap (filter_map box_in) (taken_more nodes c.loop-i.i node low at) ∙ filter_last box_in (take c.loop-i.i nodes) node in
    record {
      count = c.loop-i.invariant.count;
      programs = subst (λ (boxes : List BoxC). AreProgramsFor c.args.core.now boxes c.add_program.new.programs) (sym last) (c.in_ok-add_program.ensures
          (filter_map box_in (take c.loop-i.i nodes)) c.loop-i.invariant.programs);
    }
