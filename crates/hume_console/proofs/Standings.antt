-- How a call that serves a session goes on: acts are made, or one of them fails.
use Rattle.std.proofs.Common.{◌≡◌, ℕ, Bool, true, false, List, [], ◌∷◌, ◌++◌, refl, ap, sym, ◌∙◌, subst, append-nil}
use Rattle.std.specs.Prelude.{slice_index_or}
use Rattle.std.specs.Io.KnownBytes.{IsAtEnd}
use Rattle.hume_model.specs.declared.core_tree.NodeC.TheVariants.{From}
use Rattle.hume_model.specs.declared.core_tree.Core.{Core}
use Rattle.hume_ports.specs.Port.{PortView}
use Rattle.hume_ports.specs.Ports.{names, left_of, place_of}
use Rattle.hume_ports.specs.Delivery.{Pairs, Drawn, bytes_for}
use Rattle.hume_ports.proofs.Names.{bytes_for-append}
use Rattle.hume_ports.proofs.Progress.{Drawn-on}
use Rattle.port_acts.specs.Acts.{Act, wants}
use Rattle.port_acts.specs.Ends.{Few, Fails, Made, never, nothing}
use Rattle.port_acts.proofs.Single.{read_is_few, want_stops}
use Rattle.phase_workers.specs.Engines.{EngineView as Engine}
use Rattle.hume_console.specs.declared.ending.Ending.TheVariants.{Fault}
use Rattle.hume_console.specs.declared.places.Places.{Places}
use Rattle.hume_console.specs.Words.{std_in}
use Rattle.hume_console.specs.Courses.{Bound, Course, first_do, EndsCourse}
use Rattle.hume_console.specs.inner.Bounds.{bound_of}
use Rattle.hume_console.specs.Hands.{Hands}
use Rattle.hume_console.specs.Headline.{session_few}
use Rattle.hume_console.specs.Session.{Session, Offer, names_of}
use Rattle.hume_console.specs.inner.Placed.{ArePlaced}
use Rattle.hume_console.specs.inner.Standing.{Bindings, Call, Commands, EndsCall, MayHave, Stands, session_of}
use Rattle.hume_console.proofs.CourseSteps.{bound_first, fails_first, made_first, never_first}
use Rattle.hume_console.proofs.Offers.{are_read, offers_named, offers_read}
use Rattle.hume_console.proofs.SomeTexts.{some_texts}
use Rattle.hume_console.proofs.ReadOn.{AreOnlyOf, NoStreamHas, commands_before, commands_bindings, commands_read}

-- the ports, with the same ones gone
abbrev pub hands_with : Hands → List PortView → Hands
hands_with now news = record { ports = news; gone = now.gone }

-- the places of the ports that the session knows, by names that may be of later ports
pub placed_as : (core : Core) (source : List ℕ) (session other : Session) (names : List (List ℕ)) (places : Places) → other.port ≡ session.port
    → names_of other.ports ≡ names → ArePlaced core source session names places → ArePlaced core source other names places
placed_as core source session other names places port ports placed = record {
  same_names = ports;
  count = placed.count;
  at_source = placed.at_source;
  at_std_in = placed.at_std_in;
  at_std_out = placed.at_std_out;
  streams = λ n node stream there is. ap (λ (p : ℕ → List ℕ). place_of (p n) names) port ∙ placed.streams n node stream there is;
  free = λ n node stream there is. (let f = placed.free n node stream there is in
      (λ same. f.0 (ap (λ (p : ℕ → List ℕ). p n) (sym port) ∙ same), λ same. f.1 (ap (λ (p : ℕ → List ℕ). p n) (sym port) ∙ same)));
  apart = λ n m node second first last there at is are same.
      placed.apart n m node second first last there at is are (ap (λ (p : ℕ → List ℕ). p n) (sym port) ∙ same ∙ ap (λ (p : ℕ → List ℕ). p m) port);
}

module _ (call : Call) (limit : ℕ) (whole : Session → List ℕ → Course) (engine : Engine) (commands : Commands) (places : Places) (now : Hands) (b : Bindings)
    (stands : Stands call limit whole engine commands places now b) where
  abbrev few : Bound → Few
  few = session_few call.source call.text

  -- texts that the ports may have
  abbrev pub own_offers : List Offer
  own_offers = offers_read b.taken b.firsts

  own_named : names_of own_offers ≡ names now.ports
  own_named = offers_named b.firsts own_offers (are_read b.taken b.firsts) ∙ sym stands.read.same_names

  pub own_placed : ArePlaced call.core call.source (session_of engine b own_offers) (names now.ports) places
  own_placed = stands.placed own_offers own_named

  pub no_stream_in : NoStreamHas call.core b.port std_in
  no_stream_in n stream is = (own_placed.free n (From stream) stream is refl).1

  pub no_stream_source : NoStreamHas call.core b.port call.source
  no_stream_source n stream is = (own_placed.free n (From stream) stream is refl).0

  pub own_rest : (rest : List ℕ) × MayHave call.core engine commands.ended b own_offers rest
  own_rest = some_texts call.core call.source engine commands.ended now.ports b stands.read places.std_in own_placed.at_std_in
      (λ n stream is. (slice_index_or places.streams.items n 0, own_placed.streams n (From stream) stream is refl))

  -- Acts without wants were made.
  module _ (acts : List Act) (news : List PortView) (left : Session → List ℕ → Course)
      (same : (offers : List Offer) (rest : List ℕ) → whole (session_of engine b offers) rest ≡ first_do acts (left (session_of engine b offers) rest)) where
    pub written : Made acts [] now.ports news → ((session : Session) (rest : List ℕ) → bound_of (left session rest) ≡ session.port)
        → Stands call limit left engine commands places (hands_with now news) b
    written made bounds = record {
      serving = stands.serving;
      rests = stands.rests;
      read = record {
        same_names = made.progress.same_names ∙ stands.read.same_names;
        drawn = subst (Drawn b.firsts news) (append-nil b.taken)
            (Drawn-on b.firsts now.ports news b.taken [] stands.read.drawn stands.read.same_names made.progress.drawn);
        right = stands.read.right;
        count = stands.read.count;
        told = stands.read.told;
        commands_told = stands.read.commands_told;
        others = stands.read.others;
      };
      are = stands.are;
      placed = λ offers named. subst (λ ns. ArePlaced call.core call.source (session_of engine b offers) ns places) (sym made.progress.same_names)
          (stands.placed offers (named ∙ made.progress.same_names));
      few = stands.few;
      bounds = bounds;
      goes_on = λ offers rest may new ending ends. stands.goes_on offers rest may new ending
          (subst (λ (course : Course). EndsCourse few b.taken course now new ending) (sym (same offers rest))
          (made_first few b.taken [] acts now (hands_with now news) (record { made = made; stay = refl }) (left (session_of engine b offers) rest) new ending
          (subst (λ (pairs : Pairs). EndsCourse few pairs (left (session_of engine b offers) rest) (hands_with now news) new ending) (sym (append-nil b.taken)) ends)));
    }

    -- or one of them failed
    pub unwritten : Fails never [] acts now.ports news → EndsCall call (hands_with now news) Fault
    unwritten fails =
        let rest = own_rest in
        stands.goes_on own_offers rest.0 rest.1 (hands_with now news) Fault
        (subst (λ (course : Course). EndsCourse few b.taken course now (hands_with now news) Fault) (sym (same own_offers rest.0))
        (never_first few b.taken acts (left (session_of engine b own_offers) rest.0) now (hands_with now news) fails refl))

  -- Commands were read on.
  module _ (number : ℕ) (over : Bool) (ts : Pairs) (news : List PortView) (of_name : AreOnlyOf std_in ts)
      (stays : commands.ended ≡ true → (bytes_for std_in ts ≡ []) × (over ≡ true)) (made : Made (wants std_in number ∷ []) ts now.ports news) where
    abbrev bytes : List ℕ
    bytes = bytes_for std_in ts

    abbrev pub read_on : Commands
    read_on = record { bytes = commands.bytes ++ bytes; ended = over }

    abbrev pub read_bindings : Bindings
    read_bindings = commands_bindings call.core call.source engine commands.ended over now.ports news b ts stands.read no_stream_in of_name stays

    pub lines_read : (left : Session → List ℕ → Course) → (commands.ended ≡ false → over ≡ true → IsAtEnd (left_of std_in news))
        → ((offers : List Offer) (rest : List ℕ) → (over ≡ true → rest ≡ [])
        → whole (session_of engine b offers) (bytes ++ rest) ≡ first_do (wants std_in number ∷ []) (left (session_of engine b offers) rest))
        → ((session : Session) (rest : List ℕ) → bound_of (left session rest) ≡ session.port)
        → Stands call limit left engine read_on places (hands_with now news) read_bindings
    lines_read left ended same bounds = record {
      serving = stands.serving;
      rests = stands.rests;
      read = commands_read call.core call.source engine commands.ended over now.ports news b ts stands.read no_stream_in of_name stays made.progress.same_names
          made.progress.drawn ended;
      are = bytes_for-append std_in b.taken ts ∙ ap (λ (bs : List ℕ). bs ++ bytes) stands.are;
      placed = λ offers named. placed_as call.core call.source (session_of engine b offers) (session_of engine read_bindings offers) (names news) places refl named
          (subst (λ ns. ArePlaced call.core call.source (session_of engine b offers) ns places) (sym made.progress.same_names)
          (stands.placed offers (named ∙ made.progress.same_names)));
      few = stands.few;
      bounds = bounds;
      goes_on = λ offers rest may new ending ends. stands.goes_on offers (bytes ++ rest)
          (commands_before call.core call.source engine commands.ended over now.ports news b ts stands.read no_stream_in of_name stays offers rest may) new ending
          (subst (λ (course : Course). EndsCourse few b.taken course now new ending) (sym (same offers rest may.over))
          (made_first few b.taken ts (wants std_in number ∷ []) now (hands_with now news) (record { made = made; stay = refl })
          (left (session_of engine b offers) rest) new ending ends));
    }

  -- or a read failed, once these bytes were read
  module _ (number : ℕ) (ts : Pairs) (mids news : List PortView) (of_name : AreOnlyOf std_in ts) (going : commands.ended ≡ false)
      (made : Made (wants std_in number ∷ []) ts now.ports mids) (fails : Fails nothing [] (wants std_in number ∷ []) mids news) where
    few_read : (bound : Bound) → few bound std_in number (bytes_for std_in (b.taken ++ ts)) → Fails (few bound) b.taken (wants std_in number ∷ []) now.ports news
    few_read bound is = want_stops (few bound) b.taken ts std_in number now.ports mids news made
        (read_is_few (few bound) (b.taken ++ ts) std_in number mids news is fails)

    pub lines_fail : ((session : Session) (rest : List ℕ) → (later : Course) × (whole session rest ≡ first_do (wants std_in number ∷ []) later))
        → ((offers : List Offer) (rest : List ℕ) → few (session_of engine b offers).port std_in number (bytes_for std_in (b.taken ++ ts)))
        → EndsCall call (hands_with now news) Fault
    lines_fail begins is_few =
        let rest = own_rest in
        let session : Session = session_of engine b own_offers in
        let begun = begins session rest.0 in
        let bound : bound_of begun.0 ≡ session.port =
        sym (bound_first (wants std_in number ∷ []) begun.0) ∙ ap bound_of (sym begun.1) ∙ stands.bounds session rest.0 in
        stands.goes_on own_offers rest.0 rest.1 (hands_with now news) Fault
        (subst (λ (course : Course). EndsCourse few b.taken course now (hands_with now news) Fault) (sym begun.1)
        (fails_first few b.taken (wants std_in number ∷ []) begun.0 now (hands_with now news)
        (record {
          fails = few_read (bound_of begun.0)
              (subst (λ (bd : Bound). few bd std_in number (bytes_for std_in (b.taken ++ ts))) (sym bound) (is_few own_offers rest.0));
          stay = refl;
        })))
