-- Reads of a port in turn.
use Rattle.std.proofs.Common.{◌≡◌, ℕ, ◌<◌, ◌==◌, Bool, true, false, List, [], ◌++◌, length, take, Option, Some, None, Ok, refl, ap, sym, ◌∙◌, subst, append_assoc, append-nil}
use Rattle.std.proofs.lemmas.Bool.{eqb-true}
use Rattle.std.specs.Io.KnownBytes.{Consumes}
use Rattle.hume_ports.specs.Port.{PortView, IsRead, Rose}
use Rattle.hume_streams.specs.declared.buffer.LineBuffer.{LineBuffer}
use Rattle.hume_streams.specs.Contents.{unread_in}
use Rattle.hume_streams.specs.Fills.{Drawn}
use Rattle.hume_streams.specs.inner.Buffers.{Draws, FailsAfter}

consumes_none : (left : Option (List ℕ)) → Consumes left left []
consumes_none None = tt
consumes_none (Some bytes) = refl

consumes_on : (a b c : Option (List ℕ)) (x y : List ℕ) → Consumes a b x → Consumes b c y → Consumes a c (x ++ y)
consumes_on None b c x y h g = tt
consumes_on (Some s) None c x y h g = absurd h
consumes_on (Some s) (Some t) None x y h g = absurd g
consumes_on (Some s) (Some t) (Some u) x y h g = h ∙ ap (λ bytes. x ++ bytes) g ∙ sym (append_assoc x y u)

pub drawn_none : (port : PortView) → Drawn port port []
drawn_none port = record { left = consumes_none port.left; told = refl; keeps = refl }

pub drawn_on : (a b c : PortView) (x y : List ℕ) → Drawn a b x → Drawn b c y → Drawn a c (x ++ y)
drawn_on a b c x y h g = record {
  left = consumes_on a.left b.left c.left x y h.left g.left;
  told = g.told ∙ h.told;
  keeps = g.keeps ∙ ap (λ (p : PortView). record p { left = c.left; read_faults = c.read_faults }) h.keeps;
}

-- a read that went well
pub draws_read : (old new : LineBuffer) (before after : PortView) (count : ℕ) (buf : List ℕ) → IsRead before after (Ok count) buf → 0 < length buf
    → unread_in new ≡ unread_in old ++ take count buf → old.ended ≡ false → new.ended ≡ (count == 0) → Draws old new before after
draws_read old new before after count buf read some unread going ended = record {
  bytes = take count buf;
  drawn = record { left = read.bytes.0; told = read.told; keeps = read.keeps };
  unread = unread;
  quiet = read.count.ok;
  ended = λ yes. absurd (let e : true ≡ false = sym yes ∙ going in cc);
  end = λ no yes. read.bytes.1 (eqb-true count 0 (sym ended ∙ yes)) some;
}

pub draws_none : (buffer : LineBuffer) (port : PortView) → Draws buffer buffer port port
draws_none buffer port = record {
  bytes = [];
  drawn = drawn_none port;
  unread = sym (append-nil (unread_in buffer));
  quiet = refl;
  ended = λ yes. (refl, yes);
  end = λ no yes. absurd (let e : true ≡ false = sym yes ∙ no in cc);
}

-- a read more, after which the port is not known to be at its end before
pub draws_on : (old mid new : LineBuffer) (a b c : PortView) → Draws old mid a b → Draws mid new b c → mid.ended ≡ false → Draws old new a c
draws_on old mid new a b c h g going = record {
  bytes = h.bytes ++ g.bytes;
  drawn = drawn_on a b c h.bytes g.bytes h.drawn g.drawn;
  unread = g.unread ∙ ap (λ bytes. bytes ++ g.bytes) h.unread ∙ append_assoc (unread_in old) h.bytes g.bytes;
  quiet = g.quiet ∙ h.quiet;
  ended = λ yes. absurd (let e : true ≡ false = sym (h.ended yes).1 ∙ going in cc);
  end = λ no yes. g.end going yes;
}
