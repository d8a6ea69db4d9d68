-- The words of a call: `check SOURCE`, or `run STEPS WORKERS SOURCE PORT..`, or `trace` in place of `run`, or
-- `calc STEPS WORKERS SOURCE SCRIPT PORT..`, or `union STEPS WORKERS COUNT SOURCE.. PORT..`, or `record STEPS SOURCE LOG PORT..`, or
-- `verify` in place of `record`, or `demo NUMBER STEPS WORKERS`.
use Rattle.std.specs.Prelude.{ℕ, Bool, true, false, not, ◌&&◌, List, [], ◌∷◌, drop, length, take, Option, None, Some, if◌then◌else◌, nat_le, codes}
use Rattle.std.specs.List.{slice_index_or}
use Rattle.std.specs.Str.{bytes_eq, all_ascii_digits}
use Rattle.std.specs.Str.Parse.{digits_value}
use Rattle.hume_base.specs.declared.limits.TheConstants.{MAX_SUPERSTEPS, MAX_WORKERS}
use Rattle.demo_net.specs.declared.source.TheConstants.{MAX_NUMBER}
use Rattle.hume_ports.specs.Ports.{is_among}
use Rattle.hume_calls.specs.declared.order.Order.{Order}
use Rattle.hume_calls.specs.declared.order.Order.TheVariants.{Run, Calc, Log, Check, Union, Demo}

-- one to nine decimal digits
abbrev pub is_number : List ℕ → Bool
is_number word = nat_le 1 (length word) && nat_le (length word) 9 && all_ascii_digits word

-- the number that a word writes, if it is one
abbrev pub number_of : List ℕ → Option ℕ
number_of word = if is_number word then Some (digits_value 10 word) else None

-- whether a command that runs a source traces the run: `run` doesn't, and `trace` does
abbrev pub traced_of : List ℕ → Option Bool
traced_of command = if bytes_eq command (codes "run") then Some false else if bytes_eq command (codes "trace") then Some true else None

-- no more supersteps than are allowed, and one or more workers
abbrev pub is_run : ℕ → ℕ → Bool
is_run steps workers = nat_le steps MAX_SUPERSTEPS && (nat_le 1 workers && nat_le workers MAX_WORKERS)

-- a run of a source
abbrev pub run_of : Option Bool → Option ℕ → Option ℕ → Option Order
run_of (Some traced) (Some steps) (Some workers) = if is_run steps workers then Some (Run steps workers 3 traced) else None
run_of _ _ _ = None

-- a demo of the net of a number that isn't too great
abbrev pub demo_of : Option ℕ → Option ℕ → Option ℕ → Option Order
demo_of (Some number) (Some steps) (Some workers) = if nat_le number MAX_NUMBER && is_run steps workers then Some (Demo number steps workers) else None
demo_of _ _ _ = None

-- whether a command of logs compares one: `record` doesn't, and `verify` does
abbrev pub verify_of : List ℕ → Option Bool
verify_of command = if bytes_eq command (codes "record") then Some false else if bytes_eq command (codes "verify") then Some true else None

-- a port of its own, that of a script or of a log: neither the source's nor one of the standard ones
abbrev pub is_own : List ℕ → List ℕ → Bool
is_own source port = not (is_among port (source ∷ codes "std_in" ∷ codes "std_out" ∷ []))

-- a run that is logged, of no more supersteps than are allowed
abbrev pub log_order : Bool → Option ℕ → List ℕ → List ℕ → Option Order
log_order verify (Some steps) source log = if nat_le steps MAX_SUPERSTEPS && is_own source log then Some (Log steps 2 3 verify) else None
log_order verify None source log = None

-- what a command and three words ask for, whatever ports follow: a run that is logged, or one that isn't
abbrev pub runs_of : Option Bool → List ℕ → List ℕ → List ℕ → List ℕ → Option Order
runs_of (Some verify) command first second third = log_order verify (number_of first) second third
runs_of None command first second third = run_of (traced_of command) (number_of first) (number_of second)

-- what four words ask for: a demo, or a run without ports
abbrev pub four_of : List ℕ → List ℕ → List ℕ → List ℕ → Option Order
four_of command first second third =
    if bytes_eq command (codes "demo") then demo_of (number_of first) (number_of second) (number_of third)
    else runs_of (verify_of command) command first second third

-- a run of what a script makes of a source; the script's name comes first among the further ones
abbrev pub calc_of : Option ℕ → Option ℕ → List ℕ → List (List ℕ) → Option Order
calc_of (Some steps) (Some workers) source (script ∷ ports) = if is_run steps workers && is_own source script then Some (Calc steps workers 3 4) else None
calc_of _ _ source names = None

-- how many programs may be run as one net
abbrev pub MAX_PROGRAMS : ℕ
MAX_PROGRAMS = 8

-- no word comes again
abbrev pub all_differ : List (List ℕ) → Bool
all_differ [] = true
all_differ (word ∷ words) = not (is_among word words) && all_differ words

-- there may be so many programs, and the first words are as many and all different
abbrev pub is_union : ℕ → List (List ℕ) → Bool
is_union count words = nat_le 2 count && (nat_le count MAX_PROGRAMS && (nat_le count (length words) && all_differ (take count words)))

-- a run of several sources, which the first words name
abbrev pub union_of : Option ℕ → Option ℕ → Option ℕ → List (List ℕ) → Option Order
union_of (Some steps) (Some workers) (Some count) words =
    if is_run steps workers && is_union count words then Some (Union steps workers count 4) else None
union_of _ _ _ words = None

-- what five words or more ask for: a run of what a script makes, of several sources, or of one
abbrev pub more_of : List ℕ → List ℕ → List ℕ → List ℕ → List (List ℕ) → Option Order
more_of command first second third names =
    if bytes_eq command (codes "calc") then calc_of (number_of first) (number_of second) third names
    else if bytes_eq command (codes "union") then union_of (number_of first) (number_of second) (number_of third) names
    else runs_of (verify_of command) command first second third

-- what the words ask for, if they have a form
abbrev pub order_of : List (List ℕ) → Option Order
order_of (command ∷ source ∷ []) = if bytes_eq command (codes "check") then Some (Check 1) else None
order_of (command ∷ first ∷ second ∷ third ∷ []) = four_of command first second third
order_of (command ∷ first ∷ second ∷ third ∷ next ∷ words) = more_of command first second third (next ∷ words)
order_of _ = None

-- supersteps; none of a check
abbrev pub steps_of : Order → ℕ
steps_of (Run steps workers source traced) = steps
steps_of (Calc steps workers source script) = steps
steps_of (Log steps source log verify) = steps
steps_of (Check source) = 0
steps_of (Union steps workers count sources) = steps
steps_of (Demo number steps workers) = steps

-- workers; none of a check or of a run that is logged
abbrev pub workers_of : Order → ℕ
workers_of (Run steps workers source traced) = workers
workers_of (Calc steps workers source script) = workers
workers_of (Log steps source log verify) = 0
workers_of (Check source) = 0
workers_of (Union steps workers count sources) = workers
workers_of (Demo number steps workers) = workers

-- the number of the net of a demo; 0 of a source
abbrev pub net_of : Order → ℕ
net_of (Run steps workers source traced) = 0
net_of (Calc steps workers source script) = 0
net_of (Log steps source log verify) = 0
net_of (Check source) = 0
net_of (Union steps workers count sources) = 0
net_of (Demo number steps workers) = number

-- The ports that words name beside those of streams: that of the source, and further ones.
pub record Named : Type 0 where
  pub source : List ℕ
  pub others : List (List ℕ)

-- the first further port: that of a script or of a log
abbrev pub further_of : Named → List ℕ
further_of named = slice_index_or named.others 0 []

-- a source alone
abbrev pub source_alone : List ℕ → Named
source_alone source = record { source = source; others = [] }

-- a source, and what further words name
abbrev pub source_with : List ℕ → List (List ℕ) → Named
source_with source others = record { source = source; others = others }

-- the ports that the words of a call name; a demo names none
abbrev pub named_by : List (List ℕ) → Order → Option Named
named_by words (Run steps workers source traced) = Some (source_alone (slice_index_or words source []))
named_by words (Calc steps workers source script) = Some (source_with (slice_index_or words source []) (slice_index_or words script [] ∷ []))
named_by words (Log steps source log verify) = Some (source_with (slice_index_or words source []) (slice_index_or words log [] ∷ []))
named_by words (Check source) = Some (source_alone (slice_index_or words source []))
named_by words (Union steps workers count sources) =
    Some (source_with (slice_index_or words sources []) (drop 1 (take count (drop sources words))))
named_by words (Demo number steps workers) = None
