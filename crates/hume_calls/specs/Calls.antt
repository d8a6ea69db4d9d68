-- Calls whose ports have room, and calls over ports with the same texts.
use Rattle.std.specs.Prelude.{◌≡◌, ℕ, List, Option, None, Some, IfSome}
use Rattle.hume_ports.specs.Port.{PortView}
use Rattle.hume_ports.specs.Ports.{names, left_of, place_of}
use Rattle.hume_ports.specs.Delivery.{Delivered, Roomy}
use Rattle.port_acts.specs.Acts.{written}
use Rattle.port_acts.specs.Ends.{Owed}
use Rattle.hume_calls.specs.declared.status.Status.{Status}
use Rattle.hume_calls.specs.declared.status.Status.TheVariants.{Usage, Fault, NoMemory}
use Rattle.hume_calls.specs.declared.order.Order.{Order}
use Rattle.hume_calls.specs.Owed.{IsOwed}
use Rattle.hume_calls.specs.Words.{Named}
use Rattle.hume_calls.specs.Reading.{source_text}
use Rattle.hume_calls.specs.Headline.{IsText, OwesAlone}

-- What a call with a source owes over these ports, as the source and the other texts say: those that the ports tell.
pub record OwesOver (order : Order) (named : Named) (ports : List PortView) (owed : Owed Status) : Type 0 where
  pub text : List ℕ
  pub told : IfSome (left_of named.source ports) (λ left. text ≡ source_text left)
  pub texts : List ℕ → List ℕ
  pub texts_told : IsText named.source ports texts
  pub owes : IsOwed order named text (names ports) texts owed

-- What a call owes over these ports, with a source or with none.
abbrev pub Owes : Order → Option Named → List PortView → Owed Status → Type 0
Owes order None ports owed = OwesAlone order ports owed
Owes order (Some named) ports owed = OwesOver order named ports owed

-- Each port has room for what the call owes to it.
abbrev pub HaveRoom : Order → Option Named → List PortView → Type 0
HaveRoom order named ports = (owed : Owed Status) → Owes order named ports owed → Roomy ports (written owed.acts)

-- The call gave the answer that it owes, and wrote just what it owes.
pub record GivesOwed (order : Order) (named : Option Named) (old new : List PortView) (status : Status) : Type 0 where
  pub owed : Owed Status
  pub owes : Owes order named old owed
  pub answer : status ≡ owed.answer
  pub delivered : Delivered old new (written owed.acts)

-- The ports have the same names, and each tells the same text that is left to read.
pub record HaveSameTexts (ports others : List PortView) : Type 0 where
  pub same_names : names ports ≡ names others
  pub tell : (name : List ℕ) → (place_of name (names ports) ≡ None → ⊥)
      → (left : List ℕ) × (left_of name ports ≡ Some left) × (left_of name others ≡ Some left)

-- the call came to its end
abbrev pub IsThrough : Status → Type 0
IsThrough status = (status ≡ Usage → ⊥) × (status ≡ Fault → ⊥) × (status ≡ NoMemory → ⊥)
