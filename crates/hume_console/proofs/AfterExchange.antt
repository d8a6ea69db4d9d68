-- Where a call stands after an exchange.
use Rattle.std.proofs.Common.{◌≡◌, ◌⊎◌, ℕ, zero, suc, Bool, true, false, cond, if◌then◌else◌, List, [], ◌∷◌, ◌++◌, length, take, drop, refl, ap, sym, ◌∙◌, subst, inl, inr, Option, None, Some}
use Rattle.std.specs.Prelude.{◌==◌, IfSome, slice_get}
use Rattle.std.specs.List.{remove}
use Rattle.std.specs.Option.{unwrap_or}
use Rattle.std.specs.Str.{bytes_eq}
use Rattle.std.proofs.lemmas.Bool.{true≢false, eq-eqb, ne_eqb}
use Rattle.std.proofs.lemmas.List.{map-append, take-map, drop-map}
use Rattle.hume_base.specs.declared.types.Value.{Value}
use Rattle.hume_model.specs.declared.core_tree.NodeC.TheVariants.{From}
use Rattle.hume_model.specs.declared.core_tree.StreamC.{StreamC}
use Rattle.hume_model.specs.declared.core_tree.Core.{Core}
use Rattle.hume_ports.specs.Port.{PortView}
use Rattle.hume_ports.specs.Ports.{names, left_of, place_of}
use Rattle.hume_ports.specs.Delivery.{Pairs, bytes_for, without}
use Rattle.hume_ports.proofs.Names.{place-suc, place-zero, same_name}
use Rattle.hume_ports.proofs.Progress.{Drawn-first}
use Rattle.std.specs.Io.KnownBytes.{Consumes}
use Rattle.hume_streams.specs.Queues.{QueueView}
use Rattle.phase_workers.specs.Engines.{EngineView as Engine}
use Rattle.phase_workers.specs.Engines.{core_of, queue_at, IsRight}
use Rattle.phase_workers.specs.RightQueues.{IsRightBehind}
use Rattle.phase_workers.specs.StreamTypes.{type_at}
use Rattle.hume_console.specs.Words.{std_in}
use Rattle.hume_console.specs.Session.{Session, Offer, exchanged, place_at, text_of}
use Rattle.hume_console.specs.inner.Exchanging.{IsRebound}
use Rattle.hume_console.specs.inner.Standing.{Bindings, AreRead, MayHave, session_of}
use Rattle.hume_console.proofs.Offers.{offers_put, other_text, own_text, put_at, put_removed, text_rest}
use Rattle.hume_console.proofs.PortsLeft.{each_left, eq_differ, first_left, others_kept, own_gone}
use Rattle.hume_console.proofs.ReadOn.{same_or_other}

-- the names of the ports that are left
pub names_removed : (ports : List PortView) (at : ℕ) → names (remove ports at) ≡ remove (names ports) at
names_removed ports at =
    map-append (λ (port : PortView). port.name) (take at ports) (drop (suc at) ports)
    ∙ rw (take-map (λ (port : PortView). port.name) at ports, drop-map (λ (port : PortView). port.name) (suc at) ports) refl

-- the first port of a name
pub first_there : (name : List ℕ) (ports : List PortView) (at : ℕ) → place_of name (names ports) ≡ Some at
    → (port : PortView) × (slice_get ports at ≡ Some port) × (port.name ≡ name) × (port.left ≡ left_of name ports)
first_there name [] at e = cc
first_there name (port ∷ ports) zero e =
    let here = place-zero (bytes_eq port.name name) (place_of name (names ports)) e in
    (port, refl, same_name port.name name here, sym (ap (λ b. cond b port.left (left_of name ports)) here))
first_there name (port ∷ ports) (suc at) e =
    let behind = place-suc (bytes_eq port.name name) (place_of name (names ports)) at e in
    let later = first_there name ports at behind.1 in
    (later.0, later.1, later.2, later.3 ∙ sym (ap (λ b. cond b port.left (left_of name ports)) behind.0))

module _ (core : Core) (source : List ℕ) (old new : Engine) (over : Bool) (ports : List PortView) (b : Bindings) (n : ℕ) (port : List ℕ) (at : ℕ)
    (read : AreRead core source old over ports b)
    (apart : (m : ℕ) (other : StreamC) → slice_get core.nodes m ≡ Some (From other) → b.port m ≡ b.port n → m ≡ n)
    (no_std_in : b.port n ≡ std_in → ⊥) (place : place_of (b.port n) (names ports) ≡ Some at)
    (new_source : port ≡ source → ⊥) (new_std_in : port ≡ std_in → ⊥)
    (new_stream : (m : ℕ) (other : StreamC) → slice_get core.nodes m ≡ Some (From other) → b.port m ≡ port → ⊥) (old_new : b.port n ≡ port → ⊥)
    (bound : IsRebound core old new n) where
  abbrev pub exchanged_bindings : Bindings
  exchanged_bindings = record {
    port = λ m. if m == n then port else b.port m;
    brought = λ m. if m == n then 0 else b.brought m;
    came = λ m. if m == n then [] else b.came m;
    peaks = b.peaks;
    taken = without (b.port n) b.taken;
    firsts = remove b.firsts at;
  }

  abbrev after : Pairs
  after = without (b.port n) b.taken

  abbrev now : ℕ → List ℕ
  now m = if m == n then port else b.port m

  abbrev came : ℕ → List Value
  came m = if m == n then [] else b.came m

  here_is : {X : Type 0} (m : ℕ) (x y : X) → m ≡ n → (if m == n then x else y) ≡ x
  here_is m x y same = ap (λ t. if t then x else y) (eq-eqb m n same)

  else_is : {X : Type 0} (m : ℕ) (x y : X) → (m ≡ n → ⊥) → (if m == n then x else y) ≡ y
  else_is m x y differ = ap (λ t. if t then x else y) (ne_eqb m n differ)

  first_place : place_of (b.port n) (names b.firsts) ≡ Some at
  first_place = ap (place_of (b.port n)) (sym read.same_names) ∙ place

  gone : (port : PortView) × (slice_get b.firsts at ≡ Some port) × (port.name ≡ b.port n) × (port.left ≡ left_of (b.port n) b.firsts)
  gone = first_there (b.port n) b.firsts at first_place

  -- nothing was read of the new port
  unread : bytes_for port after ≡ []
  unread = others_kept port (b.port n) b.taken (λ same. old_new (sym same)) ∙ read.others port new_source new_std_in new_stream

  kept_bytes : (name : List ℕ) → (name ≡ b.port n → ⊥) → bytes_for name after ≡ bytes_for name b.taken
  kept_bytes name differ = others_kept name (b.port n) b.taken differ

  kept_left : (name : List ℕ) → (name ≡ b.port n → ⊥) → left_of name (remove b.firsts at) ≡ left_of name b.firsts
  kept_left name differ = first_left None (λ port. port.left) (b.port n) name b.firsts at first_place differ

  in_differs : std_in ≡ b.port n → ⊥
  in_differs same = no_std_in (sym same)

  module _ (m : ℕ) (other : StreamC) (there : slice_get core.nodes m ≡ Some (From other)) where
    name_differs : (m ≡ n → ⊥) → b.port m ≡ b.port n → ⊥
    name_differs differ same = differ (apart m other there same)

    right_at : (m ≡ n) ⊎ (m ≡ n → ⊥) → IsRight new m (bytes_for (now m) after) (came m)
    right_at (inl same) =
        let at_n : slice_get core.nodes n ≡ Some (From other) = subst (λ k. slice_get core.nodes k ≡ Some (From other)) same there in
        let own : IsRightBehind (core_of old).types (type_at (core_of old) n) (queue_at new n) [] [] = record { right = λ rest end. bound.right other at_n rest } in
        let P : ℕ → Type 0 = λ k. IsRight new k [] [] in
        subst (λ bytes. IsRight new m bytes (came m)) (sym (ap (λ name. bytes_for name after) (here_is m port (b.port m) same) ∙ unread))
        (subst (λ values. IsRight new m [] values) (sym (here_is m [] (b.came m) same))
        (subst P (sym same)
        (subst (λ (c : Core). IsRightBehind c.types (type_at c n) (queue_at new n) [] []) (sym bound.same_core) own)))
    right_at (inr differ) =
        subst (λ name. IsRight new m (bytes_for name after) (came m)) (sym (else_is m port (b.port m) differ))
        (subst (λ values. IsRight new m (bytes_for (b.port m) after) values) (sym (else_is m [] (b.came m) differ))
        (subst (λ bytes. IsRight new m bytes (b.came m)) (sym (kept_bytes (b.port m) (name_differs differ)))
        (subst (λ (c : Core). IsRightBehind c.types (type_at c m) (queue_at new m) (bytes_for (b.port m) b.taken) (b.came m)) (sym bound.same_core)
        (subst (λ q. IsRightBehind (core_of old).types (type_at (core_of old) m) q (bytes_for (b.port m) b.taken) (b.came m))
        (sym (bound.others m other there differ)) (read.right m other there)))))

    told_at : (m ≡ n) ⊎ (m ≡ n → ⊥) → (queue_at new m).ended ≡ true → IfSome (left_of (now m) (remove b.firsts at)) (λ left. left ≡ bytes_for (now m) after)
    told_at (inl same) ended =
        let at_n : slice_get core.nodes n ≡ Some (From other) = subst (λ k. slice_get core.nodes k ≡ Some (From other)) same there in
        absurd (true≢false (sym ended ∙ ap (λ k. (queue_at new k).ended) same ∙ bound.fresh other at_n))
    told_at (inr differ) ended =
        subst (λ name. IfSome (left_of name (remove b.firsts at)) (λ left. left ≡ bytes_for name after)) (sym (else_is m port (b.port m) differ))
        (subst (λ (told : Option (List ℕ)). IfSome told (λ left. left ≡ bytes_for (b.port m) after)) (sym (kept_left (b.port m) (name_differs differ)))
        (subst (λ bytes. IfSome (left_of (b.port m) b.firsts) (λ left. left ≡ bytes)) (sym (kept_bytes (b.port m) (name_differs differ)))
        (read.told m other there (ap (λ (q : QueueView). q.ended) (sym (bound.others m other there differ)) ∙ ended))))

  counted : (m : ℕ) → (m ≡ n) ⊎ (m ≡ n → ⊥) → (if m == n then 0 else b.brought m) ≡ length (came m)
  counted m (inl same) = here_is m 0 (b.brought m) same ∙ sym (ap length (here_is m [] (b.came m) same))
  counted m (inr differ) = else_is m 0 (b.brought m) differ ∙ read.count m ∙ sym (ap length (else_is m [] (b.came m) differ))

  others_at : (name : List ℕ) → (name ≡ source → ⊥) → (name ≡ std_in → ⊥)
      → ((m : ℕ) (stream : StreamC) → slice_get core.nodes m ≡ Some (From stream) → now m ≡ name → ⊥) → (same : Bool)
      → bytes_eq name (b.port n) ≡ same → bytes_for name after ≡ []
  others_at name no_source no_in no_stream true same =
      ap (λ other. bytes_for other after) (same_name name (b.port n) same) ∙ own_gone (b.port n) b.taken
  others_at name no_source no_in no_stream false isnt =
      let differ : name ≡ b.port n → ⊥ = eq_differ name (b.port n) isnt in
      kept_bytes name differ ∙ read.others name no_source no_in (λ m stream there same. elim (same_or_other m n) [
        | inl here ↦ differ (sym same ∙ ap b.port here)
        | inr apart ↦ no_stream m stream there (else_is m port (b.port m) apart ∙ same)
      ])

  pub exchanged_read : AreRead core source new over (remove ports at) exchanged_bindings
  exchanged_read = record {
    same_names = names_removed ports at ∙ ap (λ (ns : List (List ℕ)). remove ns at) read.same_names ∙ sym (names_removed b.firsts at);
    drawn = each_left (λ old new bytes. Consumes old.left new.left bytes) (b.port n) b.firsts ports b.taken at read.same_names first_place read.drawn;
    right = λ m other there. right_at m other there (same_or_other m n);
    count = λ m. counted m (same_or_other m n);
    told = λ m other there. told_at m other there (same_or_other m n);
    commands_told = λ ended.
        subst (λ (told : Option (List ℕ)). IfSome told (λ left. left ≡ bytes_for std_in after)) (sym (kept_left std_in in_differs))
        (subst (λ bytes. IfSome (left_of std_in b.firsts) (λ left. left ≡ bytes)) (sym (kept_bytes std_in in_differs)) (read.commands_told ended));
    others = λ name no_source no_in no_stream. others_at name no_source no_in no_stream (bytes_eq name (b.port n)) refl;
  }

  -- the text of the port that has gone: what it told at first, or else what was read of it
  abbrev pub its_offer : Offer
  its_offer = record { name = b.port n; text = unwrap_or (left_of (b.port n) b.firsts) (bytes_for (b.port n) b.taken) }

  module _ (offers : List Offer) (rest : List ℕ) (may : MayHave core new over exchanged_bindings offers rest) where
    more_at : (m : ℕ) (other : StreamC) → slice_get core.nodes m ≡ Some (From other) → (m ≡ n) ⊎ (m ≡ n → ⊥)
        → (more : List ℕ) × ((queue_at old m).ended ≡ true → more ≡ []) × (text_of (b.port m) (put_at at its_offer offers) ≡ bytes_for (b.port m) b.taken ++ more)
    more_at m other there (inl same) =
        let at_n : slice_get core.nodes n ≡ Some (From other) = subst (λ k. slice_get core.nodes k ≡ Some (From other)) same there in
        let rest = text_rest (left_of (b.port n) b.firsts) (left_of (b.port n) ports) (bytes_for (b.port n) b.taken) (queue_at old n).ended
        (Drawn-first b.firsts ports (b.port n) b.taken read.same_names read.drawn) (read.told n other at_n) in
        let P : ℕ → Type 0 = λ k. (more : List ℕ) × ((queue_at old k).ended ≡ true → more ≡ [])
        × (text_of (b.port k) (put_at at its_offer offers) ≡ bytes_for (b.port k) b.taken ++ more) in
        let here : P n = (rest.0, rest.1, own_text b.firsts offers at its_offer first_place may.told ∙ rest.2) in
        subst P (sym same) here
    more_at m other there (inr differ) =
        let was = may.streams m other there in
        let name : now m ≡ b.port m = else_is m port (b.port m) differ in (
          was.0,
          (λ ended. was.1 (ap (λ (q : QueueView). q.ended) (bound.others m other there differ) ∙ ended)),
          other_text b.firsts offers at its_offer (b.port m) may.told (name_differs m other there differ)
              ∙ ap (λ k. text_of k offers) (sym name) ∙ was.2 ∙ ap (λ k. bytes_for k after ++ was.0) name
              ∙ ap (λ (bs : List ℕ). bs ++ was.0) (kept_bytes (b.port m) (name_differs m other there differ)),
        )

    pub exchanged_before : MayHave core old over b (put_at at its_offer offers) rest
    exchanged_before = record {
      told = offers_put b.firsts offers at gone.0 its_offer gone.1 gone.2
          (subst (λ (told : Option (List ℕ)). IfSome told (λ left. its_offer.text ≡ left)) (sym gone.3) (told_self (left_of (b.port n) b.firsts))) may.told;
      commands = other_text b.firsts offers at its_offer std_in may.told in_differs ∙ may.commands ∙ ap (λ (bs : List ℕ). bs ++ rest) (kept_bytes std_in in_differs);
      over = may.over;
      streams = λ m other there. more_at m other there (same_or_other m n);
    }
      where
        told_self : (left : Option (List ℕ)) → IfSome left (λ known. unwrap_or left (bytes_for (b.port n) b.taken) ≡ known)
        told_self None = tt
        told_self (Some known) = refl

    -- the session is that of the definition
    pub exchanged_session : (session : Session) → session ≡ session_of old b (put_at at its_offer offers) → place_at session n ≡ at
        → (exchanged session n port).ports ≡ offers
    exchanged_session session is place =
        ap (remove session.ports) place ∙ ap (λ (s : Session). remove s.ports at) is ∙ put_removed b.firsts offers at gone.0 its_offer gone.1 may.told
