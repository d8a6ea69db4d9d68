-- Reading on for the lines of commands.
use Rattle.std.proofs.Common.{◌≡◌, ℕ, List, [], ◌∷◌, ◌++◌, true, false, refl, sym, ◌∙◌, ap, append-nil, append_assoc}
use Rattle.std.proofs.lemmas.Bool.{false_from_ne_true, true≢false}
use Rattle.std.specs.Io.KnownBytes.{IsAtEnd}
use Rattle.hume_ports.specs.Port.{PortView}
use Rattle.hume_ports.specs.Delivery.{bytes_for}
use Rattle.hume_ports.specs.Ports.{names, left_of, place_of, ForNameAt}
use Rattle.hume_ports.proofs.Names.{bytes_for-append, bytes_for-one}
use Rattle.hume_streams.specs.Lines.{whole_lines}
use Rattle.port_acts.specs.Acts.{wants}
use Rattle.port_acts.specs.Ends.{Made, Fails, nothing}
use Rattle.port_acts.proofs.Single.{want_unread, want_goes_on}
use Rattle.hume_console.specs.declared.command_lines.CommandLines.{CommandLines}
use Rattle.hume_console.specs.inner.CommandBuffers.{unread_in, ReadsOn, FailsReading}

-- nothing was read yet
pub reads_none : (lines : CommandLines) (name : List ℕ) (ports : List PortView) → ReadsOn lines lines name ports ports
reads_none lines name ports = record {
  taken = [];
  made = λ wanted. want_unread name wanted ports;
  unread = sym (append-nil (unread_in lines));
  stays = λ over. (refl, over);
  ended = λ going over. absurd (true≢false (sym over ∙ going));
}

-- the bytes of two reads stand behind the unread ones in turn
in_turn : (a b c first second : List ℕ) → b ≡ a ++ first → c ≡ b ++ second → c ≡ a ++ (first ++ second)
in_turn a b c first second e f = f ∙ ap (λ (u : List ℕ). u ++ second) e ∙ append_assoc a first second

pub reads_then : (a b c : CommandLines) (name : List ℕ) (olds mids news : List PortView) → ReadsOn a b name olds mids → b.ended ≡ false
    → ReadsOn b c name mids news → ReadsOn a c name olds news
reads_then a b c name olds mids news one going two = record {
  taken = one.taken ++ two.taken;
  made = λ wanted. want_goes_on name wanted one.taken two.taken olds mids news (one.made wanted) (two.made wanted);
  unread = in_turn (unread_in a) (unread_in b) (unread_in c) (bytes_for name one.taken) (bytes_for name two.taken) one.unread two.unread
      ∙ ap (λ (u : List ℕ). unread_in a ++ u) (sym (bytes_for-append name one.taken two.taken));
  stays = λ over. absurd (true≢false (sym (one.stays over).1 ∙ going));
  ended = λ was over. two.ended going over;
}

pub fails_then : (a b : CommandLines) (name : List ℕ) (olds mids news : List PortView) → ReadsOn a b name olds mids → FailsReading b name mids news
    → FailsReading a name olds news
fails_then a b name olds mids news one fails = record {
  taken = one.taken ++ fails.taken;
  mid = fails.mid;
  going = false_from_ne_true a.ended (λ over. true≢false (sym (one.stays over).1 ∙ fails.going));
  made = λ wanted. want_goes_on name wanted one.taken fails.taken olds mids fails.mid (one.made wanted) (fails.made wanted);
  fails = fails.fails;
  begun = ap whole_lines (ap (λ (u : List ℕ). unread_in a ++ u) (bytes_for-append name one.taken fails.taken)
      ∙ sym (append_assoc (unread_in a) (bytes_for name one.taken) (bytes_for name fails.taken))
      ∙ ap (λ (u : List ℕ). u ++ bytes_for name fails.taken) (sym one.unread)) ∙ fails.begun;
}

-- one read

pub reads_once : (old new : CommandLines) (name bytes : List ℕ) (olds news : List PortView)
    → ((wanted : ℕ) → Made (wants name wanted ∷ []) ((name, bytes) ∷ []) olds news) → unread_in new ≡ unread_in old ++ bytes → old.ended ≡ false
    → (new.ended ≡ true → IsAtEnd (left_of name news)) → ReadsOn old new name olds news
reads_once old new name bytes olds news made unread going end = record {
  taken = (name, bytes) ∷ [];
  made = made;
  unread = unread ∙ ap (λ (u : List ℕ). unread_in old ++ u) (sym (bytes_for-one name bytes));
  stays = λ over. absurd (true≢false (sym over ∙ going));
  ended = λ was over. end over;
}

pub fails_once : (old : CommandLines) (name : List ℕ) (olds news : List PortView)
    → ((wanted : ℕ) → Fails nothing [] (wants name wanted ∷ []) olds news) → whole_lines (unread_in old) ≡ [] → old.ended ≡ false → FailsReading old name olds news
fails_once old name olds news fails begun going = record {
  taken = [];
  mid = olds;
  going = going;
  made = λ wanted. want_unread name wanted olds;
  fails = fails;
  begun = ap whole_lines (append-nil (unread_in old)) ∙ begun;
}

-- reads in turn, whatever the name is

-- what the loop has read so far
pub record Reading (first now : CommandLines) (at : ℕ) (olds news : List PortView) : Type 0 where
  pub reads : ForNameAt at olds (λ name. ReadsOn first now name olds news)
  pub same_names : names news ≡ names olds

pub reading_none : (lines : CommandLines) (at : ℕ) (ports : List PortView) → Reading lines lines at ports ports
reading_none lines at ports = record { reads = λ name e. reads_none lines name ports; same_names = refl }

pub reading_on : (a b c : CommandLines) (at : ℕ) (olds mids news : List PortView) → Reading a b at olds mids → b.ended ≡ false
    → ForNameAt at mids (λ name. ReadsOn b c name mids news) → names news ≡ names mids → Reading a c at olds news
reading_on a b c at olds mids news one going two same = record {
  reads = λ name e. reads_then a b c name olds mids news (one.reads name e) going (two name (ap (place_of name) one.same_names ∙ e));
  same_names = same ∙ one.same_names;
}

pub reading_fails : (a b : CommandLines) (at : ℕ) (olds mids news : List PortView) → Reading a b at olds mids
    → ForNameAt at mids (λ name. FailsReading b name mids news) → ForNameAt at olds (λ name. FailsReading a name olds news)
reading_fails a b at olds mids news one fails = λ name e.
    fails_then a b name olds mids news (one.reads name e) (fails name (ap (place_of name) one.same_names ∙ e))
