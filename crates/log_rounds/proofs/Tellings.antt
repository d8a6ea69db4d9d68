-- The line that is told of a log.
use Rattle.std.proofs.Common.{◌≡◌, ◌≤◌, ℕ, List, [], ◌∷◌, ◌++◌, length, codes, decimal, Option, None, Some, slice_get, Result, refl, ap, sym, ◌∙◌, subst, arith}
use Rattle.hume_base.specs.declared.limits.TheConstants.{MAX_NAME_BYTES}
use Rattle.hume_model.specs.declared.core_tree.NodeC.{NodeC}
use Rattle.hume_model.specs.declared.core_tree.NodeC.TheVariants.{Rules, From, To}
use Rattle.hume_model.specs.declared.core_tree.Core.{Core}
use Rattle.hume_ports.specs.declared.port.Failed.{Failed}
use Rattle.hume_ports.specs.Port.{PortView}
use Rattle.hume_ports.specs.Ports.{names, ForNameAt}
use Rattle.port_acts.specs.Acts.{writes}
use Rattle.port_acts.specs.Ends.{Ends, never}
use Rattle.port_acts.specs.Places.{IsPlaceOf}
use Rattle.phase_workers.specs.Runnable.{IsRunnable}
use Rattle.run_log.specs.declared.fault.LogFault.{LogFault}
use Rattle.run_rounds.specs.Streams.{std_out}
use Rattle.run_rounds.proofs.Tellings.{for_name}
use Rattle.trace_print.proofs.WireNames.{box_named, input_stream_named, output_stream_named}
use Rattle.log_rounds.specs.declared.verifying.Stop.{Stop}
use Rattle.log_rounds.specs.inner.Stops.{stop_line}
use Rattle.log_rounds.specs.VerifyActs.{blame, fault_line, node_name}

-- the names of nodes are short
pub short_name : (core : Core) → IsRunnable core → (n : ℕ) → length (node_name (slice_get core.nodes n)) ≤ MAX_NAME_BYTES
short_name core run n = by_node (slice_get core.nodes n) refl
  where
    by_node : (o : Option NodeC) → slice_get core.nodes n ≡ o → length (node_name o) ≤ MAX_NAME_BYTES
    by_node None is = omega arith
    by_node (Some (Rules b)) is = box_named core run.formed.frame n b is
    by_node (Some (From stream)) is = input_stream_named core run.formed.frame n stream is
    by_node (Some (To stream)) is = output_stream_named core run.formed.frame n stream is

-- bytes that are written to the port of what is told
pub written_out : (bytes line : List ℕ) (at : ℕ) (olds news : List PortView) (result : Result (Unit {0}) Failed) → bytes ≡ line → IsPlaceOf std_out (names olds) at
    → ForNameAt at olds (λ name. Ends never [] (writes name bytes ∷ []) [] olds news result) → Ends never [] (writes std_out line ∷ []) [] olds news result
written_out bytes line at olds news result is place ends =
    subst (λ all. Ends never [] (writes std_out all ∷ []) [] olds news result) is
    (for_name (λ name. Ends never [] (writes name bytes ∷ []) [] olds news result) std_out olds at place ends)

-- a line that was put piece by piece
pub put_in_turn : (clear first second third last digits : List ℕ) (core : Core) (fault : LogFault) → clear ≡ [] → first ≡ clear ++ codes "log fails line "
    → second ≡ first ++ digits → digits ≡ decimal fault.line → third ≡ second ++ blame core fault.node → last ≡ third ++ 10 ∷ [] → last ≡ fault_line core fault
put_in_turn clear first second third last digits core fault none one two number three four =
    let label : List ℕ = codes "log fails line " in
    four ∙ ap (λ all. all ++ 10 ∷ []) (three ∙ ap (λ all. all ++ blame core fault.node) (two ∙ ap (λ all. all ++ digits) (one ∙ ap (λ all. all ++ label) none)
    ∙ ap (λ all. label ++ all) number))

-- why a log was verified no further
pub reason_as : (core : Core) (stop other : Stop) (olds news : List PortView) (result : Result (Unit {0}) Failed) → stop ≡ other
    → Ends never [] (writes std_out (stop_line core (Some other)) ∷ []) [] olds news result → Ends never [] (writes std_out (stop_line core (Some stop)) ∷ []) [] olds news result
reason_as core stop other olds news result same ends =
    subst (λ its. Ends never [] (writes std_out (stop_line core (Some its)) ∷ []) [] olds news result) (sym same) ends
