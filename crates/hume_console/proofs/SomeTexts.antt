-- Texts that go on as was read.
use Rattle.std.proofs.Common.{◌≡◌, ℕ, Bool, true, List, [], ◌++◌, ap, sym, ◌∙◌, Some}
use Rattle.std.specs.Prelude.{IfSome, slice_get}
use Rattle.hume_model.specs.declared.core_tree.NodeC.TheVariants.{From}
use Rattle.hume_model.specs.declared.core_tree.StreamC.{StreamC}
use Rattle.hume_model.specs.declared.core_tree.Core.{Core}
use Rattle.hume_ports.specs.Port.{PortView}
use Rattle.hume_ports.specs.Ports.{names, left_of, place_of}
use Rattle.hume_ports.specs.Delivery.{bytes_for}
use Rattle.hume_ports.proofs.Progress.{Drawn-first}
use Rattle.phase_workers.specs.Engines.{EngineView as Engine}
use Rattle.phase_workers.specs.Engines.{queue_at}
use Rattle.hume_console.specs.Words.{std_in}
use Rattle.hume_console.specs.Session.{text_of}
use Rattle.hume_console.specs.inner.Standing.{Bindings, AreRead, MayHave}
use Rattle.hume_console.proofs.Offers.{are_read, offers_read, text_read, text_rest}

module _ (core : Core) (source : List ℕ) (engine : Engine) (over : Bool) (ports : List PortView) (b : Bindings) (read : AreRead core source engine over ports b) where
  text_at : (name : List ℕ) (at : ℕ) (ended : Bool) → place_of name (names ports) ≡ Some at
      → (ended ≡ true → IfSome (left_of name b.firsts) (λ left. left ≡ bytes_for name b.taken))
      → (rest : List ℕ) × (ended ≡ true → rest ≡ []) × (text_of name (offers_read b.taken b.firsts) ≡ bytes_for name b.taken ++ rest)
  text_at name at ended e told =
      let found : place_of name (names b.firsts) ≡ Some at = ap (place_of name) (sym read.same_names) ∙ e in
      let rest = text_rest (left_of name b.firsts) (left_of name ports) (bytes_for name b.taken) ended
      (Drawn-first b.firsts ports name b.taken read.same_names read.drawn) told in
      (rest.0, rest.1, text_read b.taken b.firsts name at found ∙ rest.2)

  pub some_texts : (at : ℕ) → place_of std_in (names ports) ≡ Some at
      → ((n : ℕ) (stream : StreamC) → slice_get core.nodes n ≡ Some (From stream) → (place : ℕ) × (place_of (b.port n) (names ports) ≡ Some place))
      → (rest : List ℕ) × MayHave core engine over b (offers_read b.taken b.firsts) rest
  some_texts at there places =
      let rest = text_at std_in at over there read.commands_told in (
        rest.0,
        record {
          told = are_read b.taken b.firsts;
          commands = rest.2;
          over = rest.1;
          streams = λ n stream is. text_at (b.port n) (places n stream is).0 (queue_at engine n).ended (places n stream is).1 (read.told n stream is);
        },
      )
