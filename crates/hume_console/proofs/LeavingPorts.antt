-- A port that goes from one list to another, seen as lists of views.
use Rattle.std.proofs.Common.{◌≡◌, ℕ, suc, ◌<◌, List, [], ◌∷◌, ◌++◌, length, map, take, drop, get_or, refl, ap, sym, ◌∙◌, subst}
use Rattle.std.specs.Prelude.{Some, slice_get}
use Rattle.std.specs.List.{remove}
use Rattle.std.specs.Option.{option_map}
use Rattle.std.proofs.lemmas.List.{map-append, take-map, drop-map}
use Rattle.std.proofs.lemmas.Option.{slice_get-map, slice_get-get_or}
use Rattle.hume_ports.specs.Port.{PortView}
use Rattle.hume_console.specs.Hands.{Leaves}

map-remove : {D : Type 0} (view : D → PortView) (ports : List D) (at : ℕ) → map view (remove ports at) ≡ remove (map view ports) at
map-remove view ports at = map-append view (take at ports) (drop (suc at) ports) ∙ rw (take-map view at ports, drop-map view (suc at) ports) refl

pub retired : {D : Type 0} (view : D → PortView) (ports news gone gone_news : List D) (at : ℕ) (port : D) → at < length ports → port ≡ get_or ports at port
    → news ≡ remove ports at → gone_news ≡ gone ++ port ∷ []
    → Leaves at (record { ports = map view ports; gone = map view gone }) (record { ports = map view news; gone = map view gone_news })
retired {D} view ports news gone gone_news at port within is stay went =
    let P : D → Type 0 = λ x. slice_get ports at ≡ Some x in
    let there : slice_get ports at ≡ Some port = subst P (sym is) (slice_get-get_or ports at port within) in
    record {
      port = view port;
      was = slice_get-map view ports at ∙ ap (option_map view) there;
      others = ap (map view) stay ∙ map-remove view ports at;
      gone = ap (map view) went ∙ map-append view gone (port ∷ []);
    }
