-- What each step on the table tells the seat that makes it.
use Rattle.std.specs.Prelude.{◌≡◌, ◌≢◌, ℕ, ◌-◌, ◌/◌, [], ◌∷◌, Option, None, Some}
use mathlib.Core.Option.{some}
use Rattle.atomic_table.specs.Table.{Me, Step}
use Rattle.turn_locker.specs.declared.view.View.{View}
use Rattle.turn_locker.specs.Held.{held_at}
use Rattle.turn_locker.specs.Rule.{home_word, held_word}
use Rattle.turn_locker.specs.Views.{looks, claims, puts_back, passes}

-- the slot of a held item is out
abbrev pub with_slot : ℕ → View → View
with_slot item v = record v { out = Some item; seen = None }

module _ {T : Type 0} where
  -- a load: the slot that was out is at home again
  abbrev pub looked : Step (Option T) → Me (Option T) View → ℕ → Me (Option T) View → Type 0
  looked st m word m' = m' ≡ (looks st.word word m.0, [])

  -- a load of the word of an item that the seat holds, whose slot it takes
  abbrev pub grasped : Step (Option T) → Me (Option T) View → ℕ → Me (Option T) View → Type 0
  grasped st m word m' = (m' ≡ (with_slot st.word m.0, (st.word, None) ∷ [])) × ((time : ℕ) → held_at st.word m.0.held ≡ some time → word ≡ held_word time)

  -- a compare-exchange: where it found the word, the seat holds the item and has its value
  abbrev pub claimed : (T → ℕ) → (T → ℕ) → (T → Type 0) → Step (Option T) → Me (Option T) View → ℕ → Me (Option T) View → Type 0
  claimed number_of time_of right st m word m' =
      (word ≡ st.first → (value : T) × (m' ≡ (claims st.word (time_of value) m.0, (st.word, Some value) ∷ []))
      × (home_word (time_of value) ≡ st.first) × (number_of value ≡ st.word) × right value)
      × (word ≢ st.first → m' ≡ (looks st.word word m.0, m.1))

  abbrev pub released : Step (Option T) → Me (Option T) View → ℕ → Me (Option T) View → Type 0
  released st m word m' = m' ≡ (puts_back st.word m.0, [])

  -- the word that is stored is that of the time after the pass
  abbrev pub passed_on : Step (Option T) → Me (Option T) View → ℕ → Me (Option T) View → Type 0
  passed_on st m word m' = m' ≡ (passes m.0.plan st.word (st.first / 2 - 1) m.0, [])
