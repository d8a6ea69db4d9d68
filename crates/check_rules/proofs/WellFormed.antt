-- The core of a program that breaks no rule is well-formed.
use Rattle.std.proofs.Common.{ℕ, List, sym, subst}
use Rattle.hume_base.specs.Holding.{HoldSmaller}
use Rattle.hume_base.specs.Sizes.{HaveTheirSizes}
use Rattle.hume_ast.specs.declared.tree.Program.{Program}
use Rattle.hume_ast.specs.Fits.{IsFit}
use Rattle.hume_model.specs.declared.core_tree.Core.{Core}
use Rattle.hume_model.specs.Limits.{IsWithinLimits}
use Rattle.hume_model.specs.WellFormed.{HasSoundFrame, IsWellFormed}
use Rattle.check_rules.specs.CheckRules.{IsFine}
use Rattle.check_rules.specs.OfTokens.{IsOfTokens}
use Rattle.check_rules.specs.CoreOf.{IsCoreOf}
use Rattle.check_rules.proofs.CoreTyped.{own_first, functions_typed, boxes_typed}
use Rattle.check_rules.proofs.BoxFrames.{box_has_frame}
use Rattle.check_rules.proofs.TypesOrdered.{hold_smaller}
use Rattle.check_rules.proofs.FunctionsOrdered.{calls_go_down}
use Rattle.check_rules.proofs.CountsWithin.{nodes_within, wires_within, exceptions_within}
use Rattle.check_rules.proofs.FunctionsWithin.{functions_within}
use Rattle.check_rules.proofs.WordsWithin.{words_within}
use Rattle.check_rules.proofs.WiresEnd.{wire_ends}
use Rattle.check_rules.proofs.SmallParts.{small_data, small_exceptions, small_functions}
use Rattle.check_rules.proofs.SmallNodes.{small_nodes}
use Rattle.check_rules.proofs.DeclarationsWritten.{function_written, results_written}

module _ (text : List ℕ) (program : Program) (core : Core) (fine : IsFine program.decls) (fit : IsFit program) (tokens : IsOfTokens program) (p : IsCoreOf text program core) where
  pub within_limits : IsWithinLimits core
  within_limits = record {
    functions = functions_within text program core fine p;
    exceptions = exceptions_within text program core fine p;
    nodes = nodes_within text program core fine p;
    wires = wires_within text program core fine p;
    words = words_within text program core fine p;
    each_data_type = small_data text program core fine fit tokens p;
    each_exception = small_exceptions text program core fine fit tokens p;
    each_function = small_functions text program core fine fit tokens p (function_written text program core fine fit tokens p);
    each_node = small_nodes text program core fine fit tokens p (results_written text program core fine fit tokens p);
  }

  sound_frame : HasSoundFrame core
  sound_frame = record {
    holds = subst HoldSmaller (sym p.types) (hold_smaller program.decls p.signatures.types p.are.types);
    sizes = subst HaveTheirSizes (sym p.types) p.are.types.sizes;
    exceptions = own_first text program core p;
    boxes = box_has_frame text program core fine p;
    wires = wire_ends text program core fine fit p;
    limits = within_limits;
  }

  pub well_formed : IsWellFormed core
  well_formed = record {
    frame = sound_frame;
    calls = calls_go_down text program core p;
    functions = functions_typed text program core fine p;
    boxes = boxes_typed text program core fine p;
  }
