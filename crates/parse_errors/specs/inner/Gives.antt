-- What a function gives, beside what a reader gives.
use Rattle.std.specs.Prelude.{◌≡◌, true, false, Result, Ok, Err}
use Rattle.parse_readers.specs.inner.Readers.{Wrong}
use Rattle.parse_errors.specs.declared.stop.Stop.{Stop}
use Rattle.parse_errors.specs.declared.stop.Stop.TheVariants.{Memory, Syntax, Deep}

-- the stop is the reader's
abbrev pub Fails : {Y : Type 0} → Stop → Result Y Wrong → Type 0
Fails Memory read = Unit {0}
Fails (Syntax left) read = read ≡ Err (false, left)
Fails (Deep left) read = read ≡ Err (true, left)

-- what a function returned is what reading gives, unless memory ran out
abbrev pub Gives : {X Y : Type 0} → (X → Y) → Result X Stop → Result Y Wrong → Type 0
Gives seen (Ok x) read = read ≡ Ok (seen x)
Gives seen (Err stop) read = Fails stop read
