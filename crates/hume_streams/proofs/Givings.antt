-- A queue before the first byte, and one that gives its first value away.
use Rattle.std.proofs.Common.{◌≡◌, ℕ, ◌<◌, Bool, true, false, List, [], ◌∷◌, ◌++◌, map, length, drop, Option, Some, None, Result, refl, ap, sym, ◌∙◌, subst, arith, append_assoc}
use Rattle.std.proofs.lemmas.List.{map-append}
use Rattle.std.specs.List.{AllZip}
use Rattle.std.specs.Io.KnownBytes.{Consumes, IsAtEnd}
use Rattle.hume_base.specs.declared.types.Ty.{Ty}
use Rattle.hume_base.specs.declared.types.Types.{Types}
use Rattle.hume_base.specs.declared.types.Value.{Value}
use Rattle.hume_base.specs.Flat.{flat}
use Rattle.hume_base.specs.Values.{is_value}
use Rattle.hume_ports.specs.Port.{PortView}
use Rattle.hume_streams.specs.declared.queue.FillError.{FillError}
use Rattle.hume_streams.specs.Good.{HoldsValue, HoldValues}
use Rattle.hume_streams.specs.Queues.{QueueView, first_view, IsQueueOf, GivesFirst, without_values}
use Rattle.hume_streams.specs.Fills.{Fills}
use Rattle.hume_streams.proofs.WithoutValues.{hold_values, leave_values}

none_some : {X : Type 0} (x : X) → ◌≡◌ {A = Option X} None (Some x) → ⊥
none_some x e = cc

pub first_right : (types : Types) (ty : Ty) (width span : ℕ) (text : List ℕ) → IsQueueOf types ty (first_view width span) text [] text
first_right types ty width span text = record {
  read = [];
  held = [];
  split = refl;
  values = record { none_bad = λ place line e bad. none_some line e; texts = tt };
  words = refl;
  lines = refl;
  empty = refl;
  ended = λ e. absurd (let d : false ≡ true = e in cc);
}

pub first_right_as : (types : Types) (ty : Ty) (queue : QueueView) (width span : ℕ) (text : List ℕ) → queue ≡ first_view width span → IsQueueOf types ty queue text [] text
first_right_as types ty queue width span text e = subst (λ q. IsQueueOf types ty q text [] text) (sym e) (first_right types ty width span text)

value_within : (types : Types) (ty : Ty) (lines : List (List ℕ)) (given held : List Value) (value : Value) → AllZip (HoldsValue types ty) lines (given ++ value ∷ held) → is_value types ty value ≡ true
value_within types ty [] [] held value z = absurd z
value_within types ty [] (v ∷ given) held value z = absurd z
value_within types ty (line ∷ lines) [] held value z = z.0.typed
value_within types ty (line ∷ lines) (v ∷ given) held value z = value_within types ty lines given held value z.1

pub gives_first : (types : Types) (ty : Ty) (old new : QueueView) (text : List ℕ) (given : List Value) (rest : List ℕ) → 0 < length old.values → new ≡ record old { values = drop 1 old.values }
    → IsQueueOf types ty old text given rest → GivesFirst types ty old new text given rest
gives_first types ty old new text given rest some e h = by_held h.held refl
  where
    by_held : (held : List Value) → h.held ≡ held → GivesFirst types ty old new text given rest
    by_held [] same = absurd (omega (arith, some, ap length (h.words ∙ ap (map (flat types ty)) same)))
    by_held (value ∷ held) same =
        let words : old.values ≡ flat types ty value ∷ map (flat types ty) held = h.words ∙ ap (map (flat types ty)) same in
        let fewer : drop 1 old.values ≡ map (flat types ty) held = ap (drop 1) words in
        let values : HoldValues types ty h.read (given ++ value ∷ held) = subst (λ vs. HoldValues types ty h.read (given ++ vs)) same h.values in
        let right : IsQueueOf types ty (record old { values = drop 1 old.values }) text (given ++ value ∷ []) rest = record {
          read = h.read;
          held = held;
          split = h.split;
          values = subst (λ vs. HoldValues types ty h.read vs) (sym (append_assoc given (value ∷ []) held)) values;
          words = fewer;
          lines = h.lines;
          empty = h.empty;
          ended = h.ended;
        } in record {
          value = value;
          words = flat types ty value;
          first = words ∙ ap (λ vs. flat types ty value ∷ vs) (sym (ap (λ (q : QueueView). q.values) e ∙ fewer));
          same = record { typed = value_within types ty _ given held value values.texts; same = refl };
          right = subst (λ q. IsQueueOf types ty q text (given ++ value ∷ []) rest) (sym e) right;
        }

-- ports that tell

none_left : (before after : Option (List ℕ)) (left rest bytes : List ℕ) → Consumes before after bytes → before ≡ Some left → after ≡ Some rest → left ≡ bytes ++ rest
none_left before after left rest bytes c b a = subst (λ x. Consumes x (Some rest) bytes) b (subst (λ y. Consumes before y bytes) a c)

pub fill_follows : (types : Types) (ty : Ty) (want : ℕ) (old new : QueueView) (before after : PortView) (result : Result (Unit {0}) FillError) (text left rest : List ℕ) (given : List Value)
    → Fills types ty want old new before after result → before.left ≡ Some left → after.left ≡ Some rest → IsQueueOf types ty old text given left → IsQueueOf types ty new text given rest
fill_follows types ty want old new before after result text left rest given f b a q =
    let split : left ≡ f.bytes ++ rest = none_left before.left after.left left rest f.bytes f.drawn.left b a in
    let was = leave_values types ty old text given left q in
    let held : List Value = was.0 in
    let words : new.values ≡ map (flat types ty) (held ++ f.gained) =
    f.words ∙ ap (λ rows. rows ++ map (flat types ty) f.gained) was.1 ∙ sym (map-append (flat types ty) held f.gained) in
    hold_values types ty new text given (held ++ f.gained) rest words
    (subst (λ vs. IsQueueOf types ty (without_values new) text vs rest) (append_assoc given held f.gained)
    (f.goes_on text (given ++ held) rest (λ e. by_old split old.ended refl e)
    (subst (λ bs. IsQueueOf types ty (without_values old) text (given ++ held) bs) split was.2)))
  where
    by_old : left ≡ f.bytes ++ rest → (was : Bool) → old.ended ≡ was → new.ended ≡ true → rest ≡ []
    by_old split true w e = ap (λ bs. bs ++ rest) (sym (f.end.before w).0) ∙ (sym split ∙ q.ended w)
    by_old split false w e = subst IsAtEnd a (f.end.now w e)
