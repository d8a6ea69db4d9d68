-- An open run.
use Rattle.std.proofs.Common.{◌≡◌, ℕ, ◌<◌, Bool, List, length, sym, ◌∙◌, subst}
use Rattle.std.specs.List.{All}
use Rattle.hume_model.specs.declared.core_tree.Core.{Core}
use Rattle.hume_ports.specs.Port.{PortView}
use Rattle.hume_ports.specs.Ports.{names}
use Rattle.hume_text.specs.Chunks.{room_of}
use Rattle.trace_print.specs.declared.space_lines.TheConstants.{LINE_BYTES}
use Rattle.port_acts.specs.Acts.{AreNamed}
use Rattle.port_acts.specs.Places.{IsPlaceOf}
use Rattle.phase_workers.specs.Runnable.{IsRunnable}
use Rattle.run_rounds.specs.Streams.{ArePlacesOf, ArePortsApart, std_out}
use Rattle.run_rounds.specs.Opened.{core_in, traced_in, IsOpened}
use Rattle.run_rounds.specs.declared.run.Running.{Running}
use Rattle.hume_calls.specs.declared.status.Status.{Status}
use Rattle.hume_calls.specs.declared.run.opening.Opened.{Opened}
use Rattle.hume_calls.specs.Owed.{run_finishes}
use Rattle.hume_calls.specs.Bounds.{KeepsBounds}
use Rattle.hume_calls.specs.Ended.{RunsCore}
use Rattle.hume_calls.specs.Opening.{IsOpen}

-- it is open as what it is
itself_opened : (core : Core) (traced : Bool) (running : Running) → IsOpened core traced running → IsOpened (core_in running) (traced_in running) running
itself_opened core traced running is =
    subst (λ (c : Core). IsOpened c (traced_in running) running) (sym is.fresh.is_core)
    (subst (λ (t : Bool). IsOpened core t running) (sym is.is_traced) is)

-- The places at which a run of the core finishes are those of its ports.
abbrev pub Finishes : Core → List ℕ → ℕ → List ℕ → Type 0
Finishes core places out finishes = (names : List (List ℕ)) → ArePlacesOf core names places → IsPlaceOf std_out names out
    → AreNamed names finishes (run_finishes core) × All (λ at. at < length names) finishes

pub is_open : (core : Core) (traced : Bool) (out : ℕ) (opened : Opened) (places : List ℕ) → IsRunnable core → KeepsBounds core opened.costs
    → IsOpened core traced opened.running → room_of opened.chunk ≡ LINE_BYTES → places ≡ opened.places.items
    → Finishes core places out opened.finishes.items → IsOpen out opened
is_open core traced out opened places runnable bounds running room same finishes =
    let is_core : core ≡ core_in opened.running = sym running.fresh.is_core in
    record {
      runnable = subst IsRunnable is_core runnable;
      running = itself_opened core traced opened.running running;
      bounds = subst (λ (c : Core). KeepsBounds c opened.costs) is_core bounds;
      room = room;
      finishes = subst (λ (c : Core). Finishes c opened.places.items out opened.finishes.items) is_core
          (subst (λ (ps : List ℕ). Finishes core ps out opened.finishes.items) same finishes);
    }

-- the finishes are those of the ports as they were named at first
pub finishes_named : (core : Core) (places : List ℕ) (out : ℕ) (finishes given : List ℕ) (olds mids lates : List PortView) → Finishes core places out finishes
    → ArePlacesOf core (names olds) places → IsPlaceOf std_out (names olds) out → names mids ≡ names olds → names lates ≡ names mids → given ≡ finishes
    → AreNamed (names lates) given (run_finishes core)
finishes_named core places out finishes given olds mids lates all are place mid late is =
    subst (λ (ns : List (List ℕ)). AreNamed ns given (run_finishes core)) (sym (late ∙ mid))
    (subst (λ (ps : List ℕ). AreNamed (names olds) ps (run_finishes core)) (sym is) (all (names olds) are place).0)

-- and there are ports at their places
pub finishes_within : (core : Core) (places : List ℕ) (out : ℕ) (finishes given : List ℕ) (olds mids lates : List PortView) → Finishes core places out finishes
    → ArePlacesOf core (names olds) places → IsPlaceOf std_out (names olds) out → names mids ≡ names olds → names lates ≡ names mids → given ≡ finishes
    → All (λ at. at < length (names lates)) given
finishes_within core places out finishes given olds mids lates all are place mid late is =
    subst (λ (ns : List (List ℕ)). All (λ at. at < length ns) given) (sym (late ∙ mid))
    (subst (λ (ps : List ℕ). All (λ at. at < length (names olds)) ps) (sym is) (all (names olds) are place).1)

-- the run of the core that was opened
pub runs_opened : (traced other : Bool) (steps : ℕ) (core opened : Core) (olds news : List PortView) (status : Status) → opened ≡ core → other ≡ traced
    → RunsCore other steps opened olds news status → RunsCore traced steps core olds news status
runs_opened traced other steps core opened olds news status same also runs =
    subst (λ (c : Core). RunsCore traced steps c olds news status) same (subst (λ (t : Bool). RunsCore t steps opened olds news status) also runs)

-- the places of the ports of a core are those of a core that is the same
pub places_in : (core other : Core) (ns : List (List ℕ)) (places : List ℕ) → core ≡ other → ArePlacesOf other ns places → ArePlacesOf core ns places
places_in core other ns places same = subst (λ (c : Core). ArePlacesOf c ns places) (sym same)

pub apart_in : (core other : Core) → core ≡ other → ArePortsApart other → ArePortsApart core
apart_in core other same = subst ArePortsApart (sym same)

-- and those of the core that was opened, with its copy of the places
pub places_opened : (opened core : Core) (ns : List (List ℕ)) (places given : List ℕ) → opened ≡ core → places ≡ given → ArePlacesOf core ns given
    → ArePlacesOf opened ns places
places_opened opened core ns places given same is are = places_in opened core ns places same (subst (ArePlacesOf core ns) (sym is) are)

-- and those of ports that are named so later
pub places_later : (core : Core) (ns later : List (List ℕ)) (places given : List ℕ) → later ≡ ns → given ≡ places → ArePlacesOf core ns places
    → ArePlacesOf core later given
places_later core ns later places given same is are =
    subst (λ (names : List (List ℕ)). ArePlacesOf core names given) (sym same) (subst (ArePlacesOf core ns) (sym is) are)

pub out_later : (name : List ℕ) (ns later : List (List ℕ)) (at : ℕ) → later ≡ ns → IsPlaceOf name ns at → IsPlaceOf name later at
out_later name ns later at same is = subst (λ (names : List (List ℕ)). IsPlaceOf name names at) (sym same) is
