-- Lines that are written one by one.
use Rattle.std.proofs.Common.{◌≡◌, ℕ, zero, suc, ◌+◌, ◌≤◌, List, [], ◌∷◌, ◌++◌, length, take, Option, Some, None, Ok, Err, Result, refl, ap, sym, ◌∙◌, subst, arith, append_assoc, length-append}
use Rattle.std.specs.Prelude.{slice_get}
use Rattle.std.specs.List.{AllZip, flat_map}
use Rattle.std.specs.Io.KnownBytes.{Appends}
use Rattle.std.proofs.KnownBytes.{Appends-nil, Appends-trans}
use Rattle.std.proofs.Math.Seq.{take-append-add}
use Rattle.std.proofs.lemmas.List.{take-append-le, take_all}
use Rattle.hume_base.specs.declared.types.Ty.{Ty}
use Rattle.hume_base.specs.declared.types.Types.{Types}
use Rattle.hume_base.specs.declared.types.Value.{Value}
use Rattle.hume_text.specs.Printed.{AreWordsOf}
use Rattle.hume_ports.specs.declared.port.Failed.{Failed}
use Rattle.hume_ports.specs.Port.{PortView, IsWrite, WriteAppends, CountsFault}
use Rattle.hume_streams.specs.Logs.{line_of, IsLineOf, WritesEach, FailsAmong, DrainsTo}

-- the bytes of lines
abbrev pub joined : List (List ℕ) → List ℕ
joined lines = flat_map (λ line. line) lines

pub writes_push : (before mid after : PortView) (lines : List (List ℕ)) (line : List ℕ) → WritesEach before mid lines → IsWrite mid after (Ok tt) line → WritesEach before after (lines ++ line ∷ [])
writes_push before mid after [] line w i = (after, subst (λ p. IsWrite p after (Ok tt) line) w i, refl)
writes_push before mid after (first ∷ lines) line w i = (w.0, w.1, writes_push w.0 mid after lines line w.2 i)

write_appends : (before after : PortView) (line : List ℕ) → IsWrite before after (Ok tt) line → Appends before.bytes after.bytes line
write_appends before after line w =
    subst (λ bytes. Appends before.bytes after.bytes bytes) (take_all w.bytes.0 line (omega (arith, w.bytes.3))) w.bytes.2

pub writes_bytes : (before after : PortView) (lines : List (List ℕ)) → WritesEach before after lines → Appends before.bytes after.bytes (joined lines)
writes_bytes before after [] w = subst (λ (p : PortView). Appends before.bytes p.bytes []) (sym w) (Appends-nil before.bytes)
writes_bytes before after (line ∷ lines) w =
    Appends-trans before.bytes w.0.bytes after.bytes line (joined lines) (write_appends before w.0 line w.1) (writes_bytes w.0 after lines w.2)

pub writes_quiet : (before after : PortView) (lines : List (List ℕ)) → WritesEach before after lines → after.write_faults ≡ before.write_faults
writes_quiet before after [] w = ap (λ (p : PortView). p.write_faults) w
writes_quiet before after (line ∷ lines) w = writes_quiet w.0 after lines w.2 ∙ w.1.count.ok

-- the lines of values
pub lines_joined : (types : Types) (ty : Ty) (words lines : List (List ℕ)) (values : List Value) → AllZip (IsLineOf types ty) words lines → AllZip (AreWordsOf types ty) words values
    → joined lines ≡ flat_map (line_of types ty) values
lines_joined types ty [] [] [] z a = refl
lines_joined types ty [] [] (value ∷ values) z a = absurd a
lines_joined types ty [] (line ∷ lines) values z a = absurd z
lines_joined types ty (w ∷ words) [] values z a = absurd z
lines_joined types ty (w ∷ words) (line ∷ lines) [] z a = absurd a
lines_joined types ty (w ∷ words) (line ∷ lines) (value ∷ values) z a =
    ap (λ l. l ++ joined lines) (z.0 value a.0) ∙ ap (λ ls. line_of types ty value ++ ls) (lines_joined types ty words lines values z.1 a.1)

none_some : {X : Type 0} (x : X) → ◌≡◌ {A = Option X} None (Some x) → ⊥
none_some x e = cc

same_some : {X : Type 0} (x y : X) → ◌≡◌ {A = Option X} (Some x) (Some y) → x ≡ y
same_some x y e = cc

-- the lines of the first values, and that of the next one, are at the front of all
lines_front : (types : Types) (ty : Ty) (words lines : List (List ℕ)) (values : List Value) (count : ℕ) (next line : List ℕ) → AllZip (IsLineOf types ty) (take count words) lines
    → slice_get words count ≡ Some next → IsLineOf types ty next line → AllZip (AreWordsOf types ty) words values
    → (rest : List ℕ) × (flat_map (line_of types ty) values ≡ joined lines ++ (line ++ rest))
lines_front types ty [] lines values count next line z e is a = absurd (none_some next e)
lines_front types ty (w ∷ words) lines [] count next line z e is a = absurd a
lines_front types ty (w ∷ words) [] (value ∷ values) zero next line z e is a =
    (flat_map (line_of types ty) values, ap (λ l. l ++ flat_map (line_of types ty) values) (sym (is value (subst (λ x. AreWordsOf types ty x value) (same_some w next e) a.0))))
lines_front types ty (w ∷ words) (l ∷ lines) (value ∷ values) zero next line z e is a = absurd z
lines_front types ty (w ∷ words) [] (value ∷ values) (suc count) next line z e is a = absurd z
lines_front types ty (w ∷ words) (l ∷ lines) (value ∷ values) (suc count) next line z e is a =
    let more = lines_front types ty words lines values count next line z.1 e is a.1 in
    (more.0, ap (λ x. x ++ flat_map (line_of types ty) values) (sym (z.0 value a.0)) ∙ ap (λ x. l ++ x) more.1 ∙ sym (append_assoc l (joined lines) (line ++ more.0)))

-- what draining does to the bytes
pub drain_bytes : (types : Types) (ty : Ty) (words : List (List ℕ)) (before after : PortView) (result : Result (Unit {0}) Failed) (values : List Value) → DrainsTo types ty words before after result
    → AllZip (AreWordsOf types ty) words values → WriteAppends before.bytes after.bytes result (flat_map (line_of types ty) values)
drain_bytes types ty words before after (Ok done) values d a =
    let all = flat_map (line_of types ty) values in (
      length all,
      omega arith,
      subst (λ bytes. Appends before.bytes after.bytes bytes) (lines_joined types ty words d.0 values d.1 a ∙ sym (take_all (length all) all (omega arith))) (writes_bytes before after d.0 d.2),
      refl,
    )
drain_bytes types ty words before after (Err failed) values d a =
    let all = flat_map (line_of types ty) values in
    let front = lines_front types ty words d.lines values d.count d.words d.line d.each d.next d.is_line a in
    let n = d.failed.bytes.0 in
    let within : n ≤ length d.line = d.failed.bytes.1 in
    let whole : length all ≡ length (joined d.lines) + (length d.line + length front.0) =
    ap length front.1 ∙ length-append (joined d.lines) (d.line ++ front.0) ∙ ap (λ m. length (joined d.lines) + m) (length-append d.line front.0) in
    let taken : take (length (joined d.lines) + n) all ≡ joined d.lines ++ take n d.line =
    ap (take (length (joined d.lines) + n)) front.1 ∙ take-append-add (joined d.lines) (d.line ++ front.0) n ∙ ap (λ bs. joined d.lines ++ bs) (take-append-le n d.line front.0 within) in (
      length (joined d.lines) + n,
      omega (arith, whole, within),
      subst (λ bytes. Appends before.bytes after.bytes bytes) (sym taken)
          (Appends-trans before.bytes d.mid.bytes after.bytes (joined d.lines) (take n d.line) (writes_bytes before d.mid d.lines d.written) d.failed.bytes.2),
      tt,
    )

pub drain_counts : (types : Types) (ty : Ty) (words : List (List ℕ)) (before after : PortView) (result : Result (Unit {0}) Failed) → DrainsTo types ty words before after result
    → CountsFault before.write_faults after.write_faults result
drain_counts types ty words before after (Ok done) d =
    let same = writes_quiet before after d.0 d.2 in
    record { never_falls = omega (arith, same); stays_last = λ h. same; ok = same; failed = tt }
drain_counts types ty words before after (Err failed) d =
    let same = writes_quiet before d.mid d.lines d.written in
    subst (λ n. CountsFault {T = Unit {0}} n after.write_faults (Err failed)) same (let c = d.failed.count in record { never_falls = c.never_falls; stays_last = c.stays_last; ok = tt; failed = c.failed })

-- so many values were written
pub record HasDrained (types : Types) (ty : Ty) (values : List (List ℕ)) (count : ℕ) (before now : PortView) : Type 0 where
  pub lines : List (List ℕ)
  pub each : AllZip (IsLineOf types ty) (take count values) lines
  pub written : WritesEach before now lines

pub drained_start : (types : Types) (ty : Ty) (values : List (List ℕ)) (port : PortView) → HasDrained types ty values 0 port port
drained_start types ty values port = record { lines = []; each = tt; written = refl }

zip_push : {A B : Type 0} (R : A → B → Type 0) (xs : List A) (ys : List B) (x : A) (y : B) → AllZip R xs ys → R x y → AllZip R (xs ++ x ∷ []) (ys ++ y ∷ [])
zip_push R [] [] x y z r = (r, tt)
zip_push R [] (b ∷ ys) x y z r = absurd z
zip_push R (a ∷ xs) [] x y z r = absurd z
zip_push R (a ∷ xs) (b ∷ ys) x y z r = (z.0, zip_push R xs ys x y z.1 r)

take_next : (values : List (List ℕ)) (count : ℕ) (words : List ℕ) → slice_get values count ≡ Some words → take (suc count) values ≡ take count values ++ words ∷ []
take_next [] count words e = absurd (none_some words e)
take_next (v ∷ values) zero words e = ap (λ w. w ∷ []) (same_some v words e)
take_next (v ∷ values) (suc count) words e = ap (λ ws. v ∷ ws) (take_next values count words e)

pub drained_more : (types : Types) (ty : Ty) (values : List (List ℕ)) (count : ℕ) (before mid after : PortView) (words line : List ℕ) → HasDrained types ty values count before mid
    → slice_get values count ≡ Some words → IsLineOf types ty words line → IsWrite mid after (Ok tt) line → HasDrained types ty values (count + 1) before after
drained_more types ty values count before mid after words line h e is w =
    let n : suc count ≡ count + 1 = omega arith in record {
      lines = h.lines ++ line ∷ [];
      each = subst (λ ws. AllZip (IsLineOf types ty) ws (h.lines ++ line ∷ [])) (sym (take_next values count words e) ∙ ap (λ m. take m values) n)
          (zip_push (IsLineOf types ty) (take count values) h.lines words line h.each is);
      written = writes_push before mid after h.lines line h.written w;
    }

pub drained_failed : (types : Types) (ty : Ty) (values : List (List ℕ)) (count : ℕ) (before mid after : PortView) (words line : List ℕ) (error : Failed) → HasDrained types ty values count before mid
    → slice_get values count ≡ Some words → IsLineOf types ty words line → IsWrite mid after (Err error) line → FailsAmong types ty values before after
drained_failed types ty values count before mid after words line error h e is w = record {
  count = count;
  lines = h.lines;
  each = h.each;
  mid = mid;
  written = h.written;
  words = words;
  next = e;
  line = line;
  is_line = is;
  error = error;
  failed = w;
}

pub drained_all : (types : Types) (ty : Ty) (values : List (List ℕ)) (count : ℕ) (before after : PortView) → HasDrained types ty values count before after → length values ≤ count
    → DrainsTo types ty values before after (Ok tt)
drained_all types ty values count before after h all = (h.lines, subst (λ ws. AllZip (IsLineOf types ty) ws h.lines) (take_all count values all) h.each, h.written)
