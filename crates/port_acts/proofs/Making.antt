-- Acts that were made, in turn.
use Rattle.std.proofs.Common.{◌≡◌, ℕ, List, [], ◌++◌, refl, sym, ◌∙◌, false, subst, inl, inr, Option, Some, None}
use Rattle.std.specs.Io.KnownBytes.{Appends}
use Rattle.std.proofs.lemmas.Bool.{true≢false}
use Rattle.hume_ports.specs.Port.{PortView}
use Rattle.hume_ports.specs.Ports.{names, Untouched}
use Rattle.hume_ports.specs.Delivery.{Pairs, Progress, Delivered, bytes_for}
use Rattle.hume_ports.proofs.EachPort.{EachPort-first}
use Rattle.hume_ports.proofs.Progress.{Progress-start, Progress-on}
use Rattle.hume_ports.proofs.Untouched.{Untouched-start, Untouched-on, Untouched-more}
use Rattle.port_acts.specs.Acts.{Act, names_of, written, is_out_after}
use Rattle.port_acts.specs.Ends.{Made, bytes_of}
use Rattle.port_acts.proofs.ActLists.{written-append, within_first, within_last, OnlyWanted-on, is_out_after-append, out_by}

pub Made-start : (ports : List PortView) → Made [] [] ports ports
Made-start ports = record {
  progress = Progress-start ports;
  only_wanted = λ name out. refl;
  flushed = λ name out. absurd (true≢false (sym out));
  untouched = Untouched-start [] ports;
}

-- names that acts in turn don't name stay untouched
pub both_untouched : (ps qs : List Act) (olds mids news : List PortView) → Untouched (names_of ps) olds mids → names mids ≡ names olds
    → Untouched (names_of qs) mids news → Untouched (names_of (ps ++ qs)) olds news
both_untouched ps qs olds mids news u same v =
    Untouched-on (names_of (ps ++ qs)) olds mids news
    (Untouched-more (names_of ps) (names_of (ps ++ qs)) olds mids (within_first ps qs) u) same
    (Untouched-more (names_of qs) (names_of (ps ++ qs)) mids news (within_last ps qs) v)

pub Made-on : (ps qs : List Act) (ts us : Pairs) (olds mids news : List PortView) → Made ps ts olds mids → Made qs us mids news
    → Made (ps ++ qs) (ts ++ us) olds news
Made-on ps qs ts us olds mids news m n =
    let P : Pairs → Type 0 = λ pairs. Progress olds news (ts ++ us) pairs in
    record {
      progress = subst P (sym (written-append ps qs)) (Progress-on olds mids news ts us (written ps) (written qs) m.progress n.progress);
      only_wanted = OnlyWanted-on ps qs ts us m.only_wanted n.only_wanted;
      flushed = λ name out. elim (out_by name (is_out_after name false ps) qs (sym (is_out_after-append name false ps qs) ∙ out)) [
        | inl last ↦ n.flushed name last
        | inr first ↦ n.progress.flushed name first.1 (m.flushed name first.0)
      ];
      untouched = both_untouched ps qs olds mids news m.untouched m.progress.same_names n.untouched;
    }

grown : (before after : Option (List ℕ)) (had more : List ℕ) → before ≡ Some had → Appends before after more → after ≡ Some (had ++ more)
grown None after had more e h = cc
grown (Some bytes) None had more e h = absurd h
grown (Some bytes) (Some now) had more e h =
    let same : bytes ≡ had = cc in
    rw (h, same) refl

-- the bytes of a port after pairs were delivered
pub delivered_bytes : (olds news : List PortView) (pairs : Pairs) (name had : List ℕ) → names news ≡ names olds → Delivered olds news pairs
    → bytes_of name olds ≡ Some had → bytes_of name news ≡ Some (had ++ bytes_for name pairs)
delivered_bytes olds news pairs name had same d e =
    grown (bytes_of name olds) (bytes_of name news) had (bytes_for name pairs) e
    (EachPort-first None (λ port. port.bytes) Appends (λ bytes. tt) olds news name pairs same d)
