-- What is known of an instruction that was read, and of a machine that stands behind it.
use Rattle.std.proofs.Common.{◌≡◌, ℕ, ◌+◌, ◌/◌, ◌%◌, ◌≤◌, ◌==◌, nat_le, Bool, true, false, if◌then◌else◌, List, [], length, Option, Some, None, slice_get, refl, subst}
use Rattle.std.proofs.lemmas.Bool.{leb-true}
use Rattle.box_heap.specs.Heaps.{Object}
use Rattle.box_heap.specs.Stacks.{under, last}
use Rattle.box_code.specs.declared.instr.Path.{Path}
use Rattle.box_code.specs.declared.instr.Instr.{Instr}
use Rattle.box_code.specs.declared.instr.Instr.TheVariants as instr
use Rattle.box_code.specs.Reading.{Read, comparison_of, scalar_of, instr_at, instr_of, other_instr, at_head, path_at, with_path, with_word}
use Rattle.box_code.specs.Machine.{Setting, Machine, Goes, Broken, act, ended as ended_with, flat_outs, outs_in, with_last}
use Rattle.box_machine.specs.inner.Stepping.{HasRoom, PathWithin}

-- the path of what was read is within the code

abbrev OfRead : ℕ → Read → Type 0
OfRead room None = Unit {0}
OfRead room (Some read) = PathWithin room read.0

record ReadFits (room : ℕ) (read : Read) : Type 0 where
  fits : OfRead room read

either : {room : ℕ} {x y : Read} (b : Bool) → ReadFits room x → ReadFits room y → ReadFits room (if b then x else y)
either true one two = one
either false one two = two

plain : {room next : ℕ} (i : Instr) → PathWithin room i → ReadFits room (Some (i, next))
plain i within = record { fits = within }

by_word : {room : ℕ} {go : ℕ → Read} (o : Option ℕ) → ((word : ℕ) → ReadFits room (go word)) → ReadFits room (with_word o go)
by_word None h = record { fits = tt }
by_word (Some word) h = h word

by_path : (room at size : ℕ) (make : Path → Instr) → (at + size ≤ room → PathWithin room (make (path_at at size))) → ReadFits room (with_path room at size make)
by_path room at size make h = go (nat_le (at + size) room) refl
  where
    go : (b : Bool) → nat_le (at + size) room ≡ b → ReadFits room (if b then Some (make (path_at at size), at + size) else None)
    go true is = record { fits = h (leb-true (at + size) room is) }
    go false is = record { fits = tt }

other_fits : (kind low high : ℕ) (second third : Option ℕ) (room at : ℕ) → ReadFits room (other_instr kind low high second third room at)
other_fits kind low high second third room at =
    either (kind == 12) (plain (instr.Index high) tt)
    (either (kind == 13) (plain (instr.Update high) tt)
    (either (kind == 14) (plain (instr.Jump high) tt)
    (either (kind == 15) (plain (instr.JumpFalse high) tt)
    (either (kind == 16) (by_word second (λ size. by_word third (λ word. by_path room (at + 3) (size % 4294967296)
    (λ path. instr.MatchWord low path word high) (λ less. less))))
    (either (kind == 17) (by_word second (λ size. by_word third (λ tag. by_path room (at + 3) (size % 4294967296) (λ path. instr.MatchTag low path
    (tag % 4294967296) high) (λ less. less))))
    (either (kind == 18) (by_path room (at + 1) high (λ path. instr.Field low path) (λ less. less))
    (either (kind == 19) (plain (instr.Slide high) tt)
    (either (kind == 20) (plain (instr.Call high low) tt)
    (either (kind == 21) (plain (instr.Return low high) tt)
    (either (kind == 22) (plain (instr.Raise high (low == 1)) tt)
    (either (kind == 23) (plain (instr.Finish high) tt) (record { fits = tt }))))))))))))

instr_fits : (kind low high : ℕ) (second third : Option ℕ) (room at : ℕ) → ReadFits room (instr_of kind low high second third room at)
instr_fits kind low high second third room at =
    either (kind == 0) (by_word second (λ word. plain (instr.Push word) tt))
    (either (kind == 1) (plain (instr.Load high) tt)
    (either (kind == 2) (plain (instr.Make high low) tt)
    (either (kind == 3) (plain (instr.Add (scalar_of low high)) tt)
    (either (kind == 4) (plain (instr.Sub (scalar_of low high)) tt)
    (either (kind == 5) (plain (instr.Mul (scalar_of low high)) tt)
    (either (kind == 6) (plain (instr.Div (scalar_of low high)) tt)
    (either (kind == 7) (plain (instr.Mod (scalar_of low high)) tt)
    (either (kind == 8) (plain (instr.Neg (scalar_of low high)) tt)
    (either (kind == 9) (plain instr.Not tt)
    (either (kind == 10) (plain (instr.Convert (scalar_of low high)) tt)
    (either (kind == 11) (plain (instr.Compare (comparison_of (low / 4)) (scalar_of (low % 4) high)) tt)
    (other_fits kind low high second third room at))))))))))))

head_fits : (head second third : Option ℕ) (room at : ℕ) → ReadFits room (at_head head second third room at)
head_fits None second third room at = record { fits = tt }
head_fits (Some word) second third room at = instr_fits (word % 256) (word / 256 % 16777216) (word / 4294967296) second third room at

pub path_within : (code : List ℕ) (at : ℕ) (i : Instr) (next : ℕ) → instr_at code at ≡ Some (i, next) → PathWithin (length code) i
path_within code at i next is =
    (subst (λ read. ReadFits (length code) read) is (head_fits (slice_get code at) (slice_get code (at + 1)) (slice_get code (at + 2)) (length code) at)).fits

-- no instruction but the last one asks where it stands

abbrev mk : ℕ → List ℕ → ℕ → List Object → Option ℕ → Machine
mk at stack peak objects raised = record { at = at; stack = stack; peak = peak; objects = objects; outs = []; raised = raised }

never_goes : (m k : Machine) (count : ℕ) (words : List ℕ) (out : List ℕ → Option (List (Option (List ℕ))))
    → with_last count words (λ stack ws. ended_with m stack (out ws)) ≡ Goes k → ⊥
never_goes m k count words out = go (nat_le count (length words))
  where
    one : (o : Option (List (Option (List ℕ)))) → ended_with m (under count words) o ≡ Goes k → ⊥
    one None is = cc
    one (Some outs) is = cc

    go : (b : Bool) → (if b then ended_with m (under count words) (out (last count words)) else Broken) ≡ Goes k → ⊥
    go true is = one (out (last count words)) is
    go false is = cc

module _ (s : Setting) (next from to : ℕ) (stack : List ℕ) (peak : ℕ) (objects : List Object) (raised : Option ℕ) where
  pub goes_there : (i : Instr) (k : Machine) → act s i next (mk from stack peak objects raised) ≡ Goes k
      → act s i next (mk to stack peak objects raised) ≡ Goes k
  goes_there (instr.Push word) k is = is
  goes_there (instr.Load depth) k is = is
  goes_there (instr.Make tag count) k is = is
  goes_there (instr.Add ty) k is = is
  goes_there (instr.Sub ty) k is = is
  goes_there (instr.Mul ty) k is = is
  goes_there (instr.Div ty) k is = is
  goes_there (instr.Mod ty) k is = is
  goes_there (instr.Neg ty) k is = is
  goes_there instr.Not k is = is
  goes_there (instr.Convert ty) k is = is
  goes_there (instr.Compare comparison ty) k is = is
  goes_there (instr.Index count) k is = is
  goes_there (instr.Update count) k is = is
  goes_there (instr.Jump place) k is = is
  goes_there (instr.JumpFalse place) k is = is
  goes_there (instr.MatchWord depth path word place) k is = is
  goes_there (instr.MatchTag depth path tag place) k is = is
  goes_there (instr.Field depth path) k is = is
  goes_there (instr.Slide count) k is = is
  goes_there (instr.Call place count) k is = is
  goes_there (instr.Return count variables) k is = is
  goes_there (instr.Raise exn true) k is = is
  goes_there (instr.Raise exn false) k is = is
  goes_there (instr.Finish mask) k is =
      absurd (never_goes (mk from stack peak objects raised) k (outs_in mask s.outs) stack (λ ws. flat_outs s.types objects s.outs mask ws) is)

  finish_room : (row room count : ℕ) (out : List ℕ → Option (List (Option (List ℕ))))
      → HasRoom (with_last count stack (λ under ws. ended_with (mk from stack peak objects raised) under (out ws))) row room
      → HasRoom (with_last count stack (λ under ws. ended_with (mk to stack peak objects raised) under (out ws))) row room
  finish_room row room count out = go (nat_le count (length stack))
    where
      one : (o : Option (List (Option (List ℕ)))) → HasRoom (ended_with (mk from stack peak objects raised) (under count stack) o) row room
          → HasRoom (ended_with (mk to stack peak objects raised) (under count stack) o) row room
      one None h = absurd h
      one (Some outs) h = tt

      go : (b : Bool) → HasRoom (if b then ended_with (mk from stack peak objects raised) (under count stack) (out (last count stack)) else Broken) row room
          → HasRoom (if b then ended_with (mk to stack peak objects raised) (under count stack) (out (last count stack)) else Broken) row room
      go true h = one (out (last count stack)) h
      go false h = absurd h

  pub room_there : (i : Instr) (row room : ℕ) → HasRoom (act s i next (mk from stack peak objects raised)) row room
      → HasRoom (act s i next (mk to stack peak objects raised)) row room
  room_there (instr.Push word) row room h = h
  room_there (instr.Load depth) row room h = h
  room_there (instr.Make tag count) row room h = h
  room_there (instr.Add ty) row room h = h
  room_there (instr.Sub ty) row room h = h
  room_there (instr.Mul ty) row room h = h
  room_there (instr.Div ty) row room h = h
  room_there (instr.Mod ty) row room h = h
  room_there (instr.Neg ty) row room h = h
  room_there instr.Not row room h = h
  room_there (instr.Convert ty) row room h = h
  room_there (instr.Compare comparison ty) row room h = h
  room_there (instr.Index count) row room h = h
  room_there (instr.Update count) row room h = h
  room_there (instr.Jump place) row room h = h
  room_there (instr.JumpFalse place) row room h = h
  room_there (instr.MatchWord depth path word place) row room h = h
  room_there (instr.MatchTag depth path tag place) row room h = h
  room_there (instr.Field depth path) row room h = h
  room_there (instr.Slide count) row room h = h
  room_there (instr.Call place count) row room h = h
  room_there (instr.Return count variables) row room h = h
  room_there (instr.Raise exn true) row room h = h
  room_there (instr.Raise exn false) row room h = h
  room_there (instr.Finish mask) row room h = finish_room row room (outs_in mask s.outs) (λ ws. flat_outs s.types objects s.outs mask ws) h
