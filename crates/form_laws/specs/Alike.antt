-- Two calls that give the streams of one source the same.
use Rattle.std.specs.Prelude.{◌≡◌, ◌⊎◌, ℕ, false, List, [], Some}
use Rattle.std.specs.List.{slice_index_or}
use Rattle.std.specs.Str.{bytes_eq}
use Rattle.hume_ports.specs.Delivery.{bytes_for}
use Rattle.hume_ports.specs.Port.{PortView}
use Rattle.port_acts.specs.Acts.{written}
use Rattle.port_acts.specs.Ends.{Owed, bytes_of}
use Rattle.run_rounds.specs.Streams.{std_out}
use Rattle.hume_calls.specs.declared.order.Order.TheVariants.{Calc, Run}
use Rattle.hume_calls.specs.declared.status.Status.{Status}
use Rattle.hume_calls.specs.declared.status.Status.TheVariants.{BadValue, Done}
use Rattle.hume_calls.specs.Words.{order_of}

-- Both owe the same answer, and to each port but `std_out` the same bytes.
pub record OweAlike (first second : Owed Status) : Type 0 where
  pub answer : first.answer ≡ second.answer
  pub bytes : (name : List ℕ) → bytes_eq name std_out ≡ false → bytes_for name (written first.acts) ≡ bytes_for name (written second.acts)

-- The words ask for a run of so many steps of what a script makes of the source of that port.
pub record AsksForCalc (words : List (List ℕ)) (steps : ℕ) (source : List ℕ) : Type 0 where
  pub workers : ℕ
  pub place : ℕ
  pub script : ℕ
  pub order : order_of words ≡ Some (Calc steps workers place script)
  pub names : slice_index_or words place [] ≡ source

-- The words ask for a run of so many steps of the source of that port.
pub record AsksForRun (words : List (List ℕ)) (steps : ℕ) (source : List ℕ) : Type 0 where
  pub workers : ℕ
  pub place : ℕ
  pub order : order_of words ≡ Some (Run steps workers place false)
  pub names : slice_index_or words place [] ≡ source

-- the answers of a run that came to its end, or to a bad line
abbrev pub HasRun : Status → Type 0
HasRun status = (status ≡ Done) ⊎ (status ≡ BadValue)

-- Both calls gave the same answer, and the same bytes to each port but `std_out` that had told the same.
pub record EndAlike (old new others later : List PortView) (first second : Status) : Type 0 where
  pub answer : first ≡ second
  pub bytes : (name had : List ℕ) → bytes_eq name std_out ≡ false → bytes_of name old ≡ Some had → bytes_of name others ≡ Some had
      → bytes_of name new ≡ bytes_of name later
