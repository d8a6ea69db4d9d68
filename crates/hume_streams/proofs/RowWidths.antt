-- Each row of a queue and of a log has the width that all have, which is the size of the type of its values.
use Rattle.std.proofs.Common.{◌≡◌, ◌≤◌, ◌+◌, ◌*◌, ℕ, zero, suc, true, List, [], ◌∷◌, ◌++◌, length, map, take, drop, Option, Some, None, slice_get, refl, ap, sym, ◌∙◌, subst, length-drop, arith}
use Rattle.std.specs.List.{AllZip, list_all}
use Rattle.std.specs.Option.{option_map}
use Rattle.std.proofs.Math.Nat.{suc-mul}
use Rattle.std.proofs.lemmas.Bool.{and_parts}
use Rattle.std.proofs.lemmas.List.{length-take-le}
use Rattle.std.proofs.lemmas.Option.{slice_get-map}
use Rattle.hume_base.specs.declared.types.Ty.{Ty}
use Rattle.hume_base.specs.declared.types.Types.{Types}
use Rattle.hume_base.specs.declared.types.Value.{Value}
use Rattle.hume_base.specs.Flat.{flat}
use Rattle.hume_base.specs.Sizes.{size_of}
use Rattle.hume_base.specs.Values.{is_value}
use Rattle.hume_base.proofs.FlatLengths.{flat_long}
use Rattle.hume_text.specs.Printed.{AreWordsOf}
use Rattle.hume_streams.specs.declared.log.OutLog.{OutLog}
use Rattle.hume_streams.specs.declared.queue.InQueue.{InQueue}
use Rattle.hume_streams.specs.declared.rows.Rows.{Rows}
use Rattle.hume_streams.specs.Contents.{cut_rows, rows_in}
use Rattle.hume_streams.specs.Good.{HoldsValue}
use Rattle.hume_streams.specs.Logs.{log_view}
use Rattle.hume_streams.specs.Queues.{QueueView, IsQueueOf, queue_view}

cut_width : (width count : ℕ) (words : List ℕ) → count * width ≤ length words → (place : ℕ) (row : List ℕ) → slice_get (cut_rows width count words) place ≡ Some row
    → length row ≡ width
cut_width width zero words long place row at = cc
cut_width width (suc count) words long zero row at =
    let all : suc count * width ≡ count * width + width = suc-mul count width in
    let same : take width words ≡ row = cc in
    ap length (sym same) ∙ length-take-le width words (omega (arith, long, all))
cut_width width (suc count) words long (suc place) row at =
    let all : suc count * width ≡ count * width + width = suc-mul count width in
    let left = length-drop width words in
    cut_width width count (drop width words) (omega (arith, long, all, left)) place row at

row_width : (rows : Rows) (place : ℕ) (row : List ℕ) → slice_get (rows_in rows) place ≡ Some row → length row ≡ rows.width
row_width rows place row at =
    let left = length-drop rows.start rows.words.items in
    cut_width rows.width rows.count (drop rows.start rows.words.items) (omega (arith, left, rows.filled)) place row at

pub queue_width : (queue : InQueue) (place : ℕ) (words : List ℕ) → slice_get (queue_view queue).values place ≡ Some words → length words ≡ (queue_view queue).width
queue_width queue place words at = row_width queue.rows place words at

pub log_width : (log : OutLog) (place : ℕ) (words : List ℕ) → slice_get (log_view log).values place ≡ Some words → length words ≡ (log_view log).width
log_width log place words at = row_width log.rows place words at

module _ (types : Types) (ty : Ty) where
  -- the values after those that were given are of the type
  typed_at : (lines : List (List ℕ)) (given held : List Value) → AllZip (HoldsValue types ty) lines (given ++ held)
      → (place : ℕ) (value : Value) → slice_get held place ≡ Some value → is_value types ty value ≡ true
  typed_at [] [] [] all place value at = cc
  typed_at [] [] (v ∷ held) all place value at = absurd all
  typed_at [] (v ∷ given) held all place value at = absurd all
  typed_at (line ∷ lines) [] [] all place value at = cc
  typed_at (line ∷ lines) [] (v ∷ held) all zero value at =
      let same : v ≡ value = cc in
      subst (λ x. is_value types ty x ≡ true) same all.0.typed
  typed_at (line ∷ lines) [] (v ∷ held) all (suc place) value at = typed_at lines [] held all.1 place value at
  typed_at (line ∷ lines) (v ∷ given) held all place value at = typed_at lines given held all.1 place value at

  module _ (queue : QueueView) (text : List ℕ) (given : List Value) (rest : List ℕ) (is : IsQueueOf types ty queue text given rest) where
    pub words_held : (place : ℕ) (words : List ℕ) → slice_get queue.values place ≡ Some words → (value : Value) × AreWordsOf types ty words value
    words_held place words at = by (slice_get is.held place) refl
      where
        by : (held : Option Value) → slice_get is.held place ≡ held → (value : Value) × AreWordsOf types ty words value
        by None none =
            let both : None ≡ Some words =
            ap (option_map (flat types ty)) (sym none) ∙ sym (slice_get-map (flat types ty) is.held place) ∙ ap (λ rows. slice_get rows place) (sym is.words) ∙ at in
            cc
        by (Some value) here =
            let both : Some (flat types ty value) ≡ Some words =
            ap (option_map (flat types ty)) (sym here) ∙ sym (slice_get-map (flat types ty) is.held place) ∙ ap (λ rows. slice_get rows place) (sym is.words) ∙ at in
            (value, record { typed = typed_at _ given is.held is.values.texts place value here; same = cc })

    pub words_wide : (place : ℕ) (words : List ℕ) → slice_get queue.values place ≡ Some words → length words ≡ size_of types ty
    words_wide place words at =
        let held = words_held place words at in
        ap length (sym held.1.same) ∙ flat_long types ty held.0 held.1.typed

-- values of the type, and a row of their words
typed_there : (types : Types) (ty : Ty) (values : List Value) → list_all (is_value types ty) values ≡ true
    → (place : ℕ) (value : Value) → slice_get values place ≡ Some value → is_value types ty value ≡ true
typed_there types ty [] all place value at = cc
typed_there types ty (v ∷ values) all zero value at =
    let same : v ≡ value = cc in
    subst (λ x. is_value types ty x ≡ true) same (and_parts (is_value types ty v) (list_all (is_value types ty) values) all).0
typed_there types ty (v ∷ values) all (suc place) value at =
    typed_there types ty values (and_parts (is_value types ty v) (list_all (is_value types ty) values) all).1 place value at

pub row_of_typed : (types : Types) (ty : Ty) (values : List Value) → list_all (is_value types ty) values ≡ true
    → (place : ℕ) (words : List ℕ) → slice_get (map (flat types ty) values) place ≡ Some words → (value : Value) × AreWordsOf types ty words value
row_of_typed types ty values all place words at = by (slice_get values place) refl
  where
    by : (held : Option Value) → slice_get values place ≡ held → (value : Value) × AreWordsOf types ty words value
    by None none =
        let both : None ≡ Some words = ap (option_map (flat types ty)) (sym none) ∙ sym (slice_get-map (flat types ty) values place) ∙ at in
        cc
    by (Some value) here =
        let both : Some (flat types ty value) ≡ Some words =
        ap (option_map (flat types ty)) (sym here) ∙ sym (slice_get-map (flat types ty) values place) ∙ at in
        (value, record { typed = typed_there types ty values all place value here; same = cc })

pub width_of_typed : (types : Types) (ty : Ty) (values : List Value) → list_all (is_value types ty) values ≡ true
    → (place : ℕ) (words : List ℕ) → slice_get (map (flat types ty) values) place ≡ Some words → length words ≡ size_of types ty
width_of_typed types ty values all place words at =
    let held = row_of_typed types ty values all place words at in
    ap length (sym held.1.same) ∙ flat_long types ty held.0 held.1.typed
