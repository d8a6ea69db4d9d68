-- What is read of the sources of a union.
use Rattle.std.proofs.Common.{◌≡◌, ℕ, suc, ◌+◌, ◌<◌, ◌≤◌, ◌==◌, not, Bool, true, false, ◌&&◌, ◌||◌, if◌then◌else◌, List, [], ◌∷◌, ◌++◌, map, length, Option, Some, None, IfSome, refl, ap, sym, ◌∙◌, subst, inl, inr, arith, append-nil, length-append}
use Rattle.std.specs.Io.KnownBytes.{Consumes}
use Rattle.std.specs.List.{filter}
use Rattle.std.specs.Option.{unwrap_or}
use Rattle.std.specs.Str.{bytes_eq}
use Rattle.std.proofs.lemmas.Bool.{cases_Bool, or_parts, true≢false}
use Rattle.std.proofs.lemmas.List.{take_all}
use Rattle.std.proofs.lemmas.List.Filters.{length-filter_both}
use Rattle.std.proofs.lemmas.Slice.Zip.{AllZip-long}
use Rattle.hume_base.specs.declared.types.Ty.{Ty}
use Rattle.hume_base.specs.declared.types.Types.{Types}
use Rattle.hume_base.specs.declared.types.Value.{Value}
use Rattle.hume_ports.specs.Port.{PortView}
use Rattle.hume_ports.specs.Ports.{ForNameAt, is_among, left_of, names, place_of}
use Rattle.hume_ports.specs.Delivery.{Pairs, bytes_for}
use Rattle.hume_ports.proofs.Names.{bytes_eq-self, bytes_eq-swap, bytes_for-append, same_name}
use Rattle.hume_ports.proofs.Progress.{Drawn-first}
use Rattle.hume_streams.specs.Good.{HoldsValue, IsGoodUntil}
use Rattle.hume_streams.specs.Lines.{in_front, in_front_of_whole, is_empty, lines_of, whole_lines}
use Rattle.port_acts.specs.Acts.{Act, name_of, wants}
use Rattle.port_acts.specs.Early.{Stops, read_each}
use Rattle.port_acts.specs.Ends.{Fails, Few, IsFew, Made}
use Rattle.port_acts.proofs.Failing.{Fails-few, Fails-on, Fails-stop}
use Rattle.port_acts.proofs.Making.{Made-on, Made-start}
use Rattle.port_acts.proofs.Stopping.{Stops-on}
use Rattle.hume_calls.specs.Few.{source_few}
use Rattle.hume_calls.specs.Headline.{IsText}
use Rattle.hume_calls.specs.Reading.{reads_whole, source_reads, source_text}
use Rattle.hume_calls.specs.Unions.{text_of}
use Rattle.hume_calls.specs.Words.{all_differ}
use Rattle.hume_run.specs.inner.UnionReads.{AreRead, IsReadWhole, ReadFails, ReadsStop}
use Rattle.hume_calls.proofs.Answering.{reads_write_nothing}
use Rattle.hume_calls.proofs.Texts.{text_before}

-- one source

pub is_read : (source text : List ℕ) (olds mids : List PortView) (at : ℕ) → place_of source (names olds) ≡ Some at
    → ForNameAt at olds (λ name. Made (read_each (source_reads name)) ((name, text) ∷ []) olds mids)
    → ForNameAt at olds (λ name. IfSome (left_of name olds) (λ left. text ≡ source_text left)) → length text ≤ 262145 → IsReadWhole source text olds mids
is_read source text olds mids at place made told short = record { made = made source place; told = told source place; short = short }

pub stops_now : (sources : List (List ℕ)) (olds news : List PortView) → news ≡ olds → ReadsStop sources olds news
stops_now [] olds news same = same
stops_now (source ∷ sources) olds news same = inl same

pub stop_behind : (all : List (List ℕ)) (name source : List ℕ) (later : List (List ℕ)) (text : List ℕ) (at : ℕ) (olds mids : List PortView)
    → all ≡ source ∷ later → name ≡ source → Some at ≡ place_of name (names olds)
    → ForNameAt at olds (λ name. Made (read_each (source_reads name)) ((name, text) ∷ []) olds mids)
    → ForNameAt at olds (λ name. IfSome (left_of name olds) (λ left. text ≡ source_text left)) → length text ≤ 262145 → ReadsStop all olds mids
stop_behind all name source later text at olds mids are same place made told short =
    let there : place_of source (names olds) ≡ Some at = subst (λ (n : List ℕ). place_of n (names olds) ≡ Some at) same (sym place) in
    subst (λ (names : List (List ℕ)). ReadsStop names olds mids) (sym are)
    (inr (text, mids, is_read source text olds mids at there made told short, stops_now later mids mids refl))

-- names that differ

differ_parts : (source : List ℕ) (sources : List (List ℕ)) → all_differ (source ∷ sources) ≡ true → (is_among source sources ≡ false) × (all_differ sources ≡ true)
differ_parts source sources differ = by (is_among source sources) (all_differ sources) differ
  where
    by : (b c : Bool) → (not b && c) ≡ true → (b ≡ false) × (c ≡ true)
    by true c is = absurd (true≢false (sym is))
    by false c is = (refl, is)

pub first_differs : (source : List ℕ) (sources : List (List ℕ)) → all_differ (source ∷ sources) ≡ true → is_among source sources ≡ false
first_differs source sources differ = (differ_parts source sources differ).0

-- a name among these isn't one that is not
apart_from : (name source : List ℕ) (sources : List (List ℕ)) → is_among name sources ≡ true → is_among source sources ≡ false → bytes_eq name source ≡ false
apart_from name source sources among out = elim (cases_Bool (bytes_eq name source)) [
  | inl is ↦ absurd (true≢false (sym among ∙ ap (λ (n : List ℕ). is_among n sources) (same_name name source is) ∙ out))
  | inr isnt ↦ isnt
]

-- what was taken of the ports

abbrev pub pairs_of : List (List ℕ) → List (List ℕ) → Pairs
pairs_of (source ∷ sources) (text ∷ texts) = (source, text) ∷ pairs_of sources texts
pairs_of _ _ = []

pub reads_made : (sources texts : List (List ℕ)) (olds mids : List PortView) → AreRead sources texts olds mids
    → Made (read_each (reads_whole sources)) (pairs_of sources texts) olds mids
reads_made [] [] olds mids same = subst (λ (ports : List PortView). Made [] [] olds ports) (sym same) (Made-start olds)
reads_made [] (text ∷ texts) olds mids are = absurd are
reads_made (source ∷ sources) [] olds mids are = absurd are
reads_made (source ∷ sources) (text ∷ texts) olds mids are =
    Made-on (read_each (source_reads source)) (read_each (reads_whole sources)) ((source, text) ∷ []) (pairs_of sources texts) olds are.0 mids
    are.1.made (reads_made sources texts are.0 mids are.2)

pub nothing_taken : (name : List ℕ) (sources texts : List (List ℕ)) → is_among name sources ≡ false → bytes_for name (pairs_of sources texts) ≡ []
nothing_taken name [] texts out = refl
nothing_taken name (source ∷ sources) [] out = refl
nothing_taken name (source ∷ sources) (text ∷ texts) out =
    let parts = or_parts (bytes_eq name source) (is_among name sources) out in
    ap (λ (b : Bool). if b then text ++ bytes_for name (pairs_of sources texts) else bytes_for name (pairs_of sources texts)) parts.0
    ∙ nothing_taken name sources texts parts.1

-- what is told of a port of which nothing was taken was told before
told_before : (P : List ℕ → Type 0) (before after : Option (List ℕ)) (taken : List ℕ) → taken ≡ [] → Consumes before after taken → IfSome after P → IfSome before P
told_before P None after taken none c told = tt
told_before P (Some xs) None taken none c told = absurd c
told_before P (Some xs) (Some ys) taken none c told =
    let same : xs ≡ ys = subst (λ (front : List ℕ). Consumes (Some xs) (Some ys) front) none c in subst P (sym same) told

-- Each of these sources has that text, where its port tells what it has left.
abbrev AreTold : List (List ℕ) → List (List ℕ) → List PortView → Type 0
AreTold [] [] ports = Unit {0}
AreTold (source ∷ sources) (text ∷ texts) ports =
    IfSome (left_of source ports) (λ left. text ≡ source_text left) × (length text ≤ 262145) × AreTold sources texts ports
AreTold _ _ ports = ⊥

told_earlier : (source text : List ℕ) (olds mids : List PortView) → Made (read_each (source_reads source)) ((source, text) ∷ []) olds mids
    → (sources texts : List (List ℕ)) → is_among source sources ≡ false → AreTold sources texts mids → AreTold sources texts olds
told_earlier source text olds mids m [] [] out are = tt
told_earlier source text olds mids m [] (first ∷ texts) out are = absurd are
told_earlier source text olds mids m (name ∷ sources) [] out are = absurd are
told_earlier source text olds mids m (name ∷ sources) (first ∷ texts) out are =
    let parts = or_parts (bytes_eq source name) (is_among source sources) out in
    let none : bytes_for name ((source, text) ∷ []) ≡ [] = rw (bytes_eq-swap source name parts.0) refl in (
      told_before (λ left. first ≡ source_text left) (left_of name olds) (left_of name mids) (bytes_for name ((source, text) ∷ [])) none
          (Drawn-first olds mids name ((source, text) ∷ []) m.progress.same_names m.progress.drawn) are.0,
      are.1,
      told_earlier source text olds mids m sources texts parts.1 are.2,
    )

all_told : (sources texts : List (List ℕ)) → all_differ sources ≡ true → (olds mids : List PortView) → AreRead sources texts olds mids → AreTold sources texts olds
all_told [] [] differ olds mids are = tt
all_told [] (text ∷ texts) differ olds mids are = absurd are
all_told (source ∷ sources) [] differ olds mids are = absurd are
all_told (source ∷ sources) (text ∷ texts) differ olds mids are =
    let parts = differ_parts source sources differ in (
      are.1.told,
      are.1.short,
      told_earlier source text olds are.0 are.1.made sources texts parts.0 (all_told sources texts parts.1 are.0 mids are.2),
    )

-- the text of each port: of a source what it tells, or else what was read of it
abbrev pub read_texts : List (List ℕ) → List (List ℕ) → List PortView → (List ℕ → List ℕ) → List ℕ → List ℕ
read_texts (source ∷ sources) (text ∷ texts) ports each name =
    if bytes_eq name source then unwrap_or (left_of source ports) text else read_texts sources texts ports each name
read_texts _ _ ports each name = each name

pub not_read : (name : List ℕ) (sources texts : List (List ℕ)) (ports : List PortView) (each : List ℕ → List ℕ) → is_among name sources ≡ false
    → read_texts sources texts ports each name ≡ each name
not_read name [] texts ports each out = refl
not_read name (source ∷ sources) [] ports each out = refl
not_read name (source ∷ sources) (text ∷ texts) ports each out =
    let parts = or_parts (bytes_eq name source) (is_among name sources) out in
    ap (λ (b : Bool). if b then unwrap_or (left_of source ports) text else read_texts sources texts ports each name) parts.0
    ∙ not_read name sources texts ports each parts.1

whole_text : (left : Option (List ℕ)) (text : List ℕ) → IfSome left (λ bytes. text ≡ source_text bytes) → length text ≤ 262145
    → source_text (unwrap_or left text) ≡ text
whole_text None text told short = take_all 262145 text short
whole_text (Some bytes) text told short = sym told

texts_are : (first text : List ℕ) (ports : List PortView) (each T : List ℕ → List ℕ) (sources texts : List (List ℕ)) → all_differ sources ≡ true
    → is_among first sources ≡ false → AreTold sources texts ports
    → ((name : List ℕ) → is_among name sources ≡ true → T name ≡ read_texts sources texts ports each name)
    → map (text_of first text T) sources ≡ texts
texts_are first text ports each T [] [] differ out told agree = refl
texts_are first text ports each T [] (one ∷ texts) differ out told agree = absurd told
texts_are first text ports each T (source ∷ sources) [] differ out told agree = absurd told
texts_are first text ports each T (source ∷ sources) (one ∷ texts) differ out told agree =
    let parts = differ_parts source sources differ in
    let apart = or_parts (bytes_eq first source) (is_among first sources) out in
    let itself : bytes_eq source source ≡ true = bytes_eq-self source in
    let here : T source ≡ unwrap_or (left_of source ports) one =
    agree source (ap (λ (b : Bool). b || is_among source sources) itself)
    ∙ ap (λ (b : Bool). if b then unwrap_or (left_of source ports) one else read_texts sources texts ports each source) itself in
    let head : text_of first text T source ≡ one =
    ap (λ (b : Bool). if b then text else source_text (T source)) (bytes_eq-swap first source apart.0)
    ∙ ap source_text here ∙ whole_text (left_of source ports) one told.0 told.1 in
    let later : (name : List ℕ) → is_among name sources ≡ true → T name ≡ read_texts sources texts ports each name =
    λ name among. agree name (or-true (bytes_eq name source) (is_among name sources) among)
    ∙ ap (λ (b : Bool). if b then unwrap_or (left_of source ports) one else read_texts sources texts ports each name) (apart_from name source sources among parts.0) in
    λ i. head i ∷ texts_are first text ports each T sources texts parts.1 apart.1 told.2 later i
  where
    or-true : (b c : Bool) → c ≡ true → (b || c) ≡ true
    or-true true c is = refl
    or-true false c is = is

-- the texts of all sources are those that were read
pub were_read : (first text : List ℕ) (sources texts : List (List ℕ)) (olds mids : List PortView) (each : List ℕ → List ℕ) → all_differ (first ∷ sources) ≡ true
    → AreRead sources texts olds mids → map (text_of first text (read_texts sources texts olds each)) sources ≡ texts
were_read first text sources texts olds mids each differ are =
    let parts = differ_parts first sources differ in
    texts_are first text olds each (read_texts sources texts olds each) sources texts parts.1 parts.0 (all_told sources texts parts.1 olds mids are) (λ name among. refl)

told_itself : (left : Option (List ℕ)) (text : List ℕ) → IfSome left (λ bytes. unwrap_or left text ≡ bytes)
told_itself None text = tt
told_itself (Some bytes) text = refl

each_told : (name : List ℕ) (ports : List PortView) (each : List ℕ → List ℕ) (sources texts : List (List ℕ)) → AreTold sources texts ports
    → (is_among name sources ≡ false → IfSome (left_of name ports) (λ left. each name ≡ left))
    → IfSome (left_of name ports) (λ left. read_texts sources texts ports each name ≡ left)
each_told name ports each [] [] told others = others refl
each_told name ports each [] (text ∷ texts) told others = absurd told
each_told name ports each (source ∷ sources) [] told others = absurd told
each_told name ports each (source ∷ sources) (text ∷ texts) told others = elim (cases_Bool (bytes_eq name source)) [
  | inl is ↦
      let P : Bool → Type 0 = λ b. IfSome (left_of name ports) (λ left. (if b then unwrap_or (left_of source ports) text else read_texts sources texts ports each name) ≡ left) in
      let Q : List ℕ → Type 0 = λ n. IfSome (left_of n ports) (λ left. unwrap_or (left_of source ports) text ≡ left) in
      subst P (sym is) (subst Q (sym (same_name name source is)) (told_itself (left_of source ports) text))
  | inr isnt ↦
      let P : Bool → Type 0 = λ b. IfSome (left_of name ports) (λ left. (if b then unwrap_or (left_of source ports) text else read_texts sources texts ports each name) ≡ left) in
      subst P (sym isnt) (each_told name ports each sources texts told.2
      (λ out. others (ap (λ (b : Bool). b || is_among name sources) isnt ∙ out)))
]

-- and each port has its text
pub are_texts : (first : List ℕ) (sources texts : List (List ℕ)) (olds mids : List PortView) (each : List ℕ → List ℕ) → all_differ (first ∷ sources) ≡ true
    → AreRead sources texts olds mids → ((name : List ℕ) → IfSome (left_of name mids) (λ left. each name ≡ left))
    → IsText first olds (read_texts sources texts olds each)
are_texts first sources texts olds mids each differ are told name apart =
    let parts = differ_parts first sources differ in
    let m = reads_made sources texts olds mids are in
    each_told name olds each sources texts (all_told sources texts parts.1 olds mids are)
    (λ out. text_before olds mids (pairs_of sources texts) _ m.progress name (each name) (nothing_taken name sources texts out) (told name))

-- memory ran out

pub stops_between : (sources : List (List ℕ)) (olds news : List PortView) → ReadsStop sources olds news → Stops (read_each (reads_whole sources)) olds news
stops_between [] olds news same = none_read [] olds news same
  where
    none_read : (acts : List Act) (olds news : List PortView) → news ≡ olds → Stops acts olds news
    none_read acts olds news same = record {
      before = [];
      later = acts;
      in_order = refl;
      unwritten = refl;
      taken = [];
      made = subst (λ (ports : List PortView). Made [] [] olds ports) (sym same) (Made-start olds);
    }
stops_between (source ∷ sources) olds news (inl same) = none_read (read_each (reads_whole (source ∷ sources))) olds news same
  where
    none_read : (acts : List Act) (olds news : List PortView) → news ≡ olds → Stops acts olds news
    none_read acts olds news same = record {
      before = [];
      later = acts;
      in_order = refl;
      unwritten = refl;
      taken = [];
      made = subst (λ (ports : List PortView). Made [] [] olds ports) (sym same) (Made-start olds);
    }
stops_between (source ∷ sources) olds news (inr (text, mid, is, later)) =
    Stops-on ((source, text) ∷ []) (read_each (source_reads source)) (read_each (reads_whole sources)) olds mid news is.made refl
    (stops_between sources mid news later)

pub all_read_stops : (sources texts : List (List ℕ)) (olds mids news : List PortView) → AreRead sources texts olds mids → news ≡ mids
    → Stops (read_each (reads_whole sources)) olds news
all_read_stops sources texts olds mids news are same = record {
  before = read_each (reads_whole sources);
  later = [];
  in_order = sym (append-nil (read_each (reads_whole sources)));
  unwritten = reads_write_nothing (reads_whole sources);
  taken = pairs_of sources texts;
  made = subst (λ (ports : List PortView). Made (read_each (reads_whole sources)) (pairs_of sources texts) olds ports) (sym same) (reads_made sources texts olds mids are);
}

-- a read failed

-- How few is enough for a source is enough for the call.
abbrev pub FewOf : Few → List (List ℕ) → Type 0
FewOf few sources = (source : List ℕ) → is_among source sources ≡ true → (bytes : List ℕ) → length bytes < 262145 → few source 262145 bytes

one_act : (act found : Act) (before later : List Act) → act ∷ [] ≡ before ++ found ∷ later → found ≡ act
one_act act found [] later e = let same : act ≡ found = cc in sym same
one_act act found (first ∷ before) later e = absurd (none before later (let tails : [] ≡ before ++ found ∷ later = cc in tails))
  where
    none : (before later : List Act) → [] ≡ before ++ found ∷ later → ⊥
    none [] later e = cc
    none (first ∷ before) later e = cc

read_fails : (few : Few) (sources : List (List ℕ)) → FewOf few sources → all_differ sources ≡ true → (earlier : Pairs)
    → ((name : List ℕ) → is_among name sources ≡ true → bytes_for name earlier ≡ []) → (olds news : List PortView) → ReadFails sources olds news
    → Fails few earlier (read_each (reads_whole sources)) olds news
read_fails few [] enough differ earlier apart olds news fails = absurd fails
read_fails few (source ∷ sources) enough differ earlier apart olds news (inl f) =
    let itself : bytes_eq source source ≡ true = bytes_eq-self source in
    let here : is_among source (source ∷ sources) ≡ true = ap (λ (b : Bool). b || is_among source sources) itself in
    let is : f.act ≡ wants source 262145 = one_act (wants source 262145) f.act f.before f.later f.in_order in
    let P : Act → Type 0 = λ act. IsFew (source_few source) act (bytes_for (name_of act) (f.taken ++ f.read)) in
    let Q : Act → Type 0 = λ act. IsFew few act (bytes_for (name_of act) (earlier ++ (f.taken ++ f.read))) in
    let less : length (bytes_for source (f.taken ++ f.read)) < 262145 = (subst P is f.is_few) itself in
    let same : bytes_for source (f.taken ++ f.read) ≡ bytes_for source (earlier ++ (f.taken ++ f.read)) =
    sym (bytes_for-append source earlier (f.taken ++ f.read) ∙ ap (λ (bytes : List ℕ). bytes ++ bytes_for source (f.taken ++ f.read)) (apart source here)) in
    let short : length (bytes_for source (earlier ++ (f.taken ++ f.read))) < 262145 = subst (λ (bytes : List ℕ). length bytes < 262145) same less in
    Fails-first (Fails-few (source_few source) few [] earlier (read_each (source_reads source)) olds news f (subst Q (sym is) (enough source here _ short)))
  where
    Fails-first : Fails few earlier (read_each (source_reads source)) olds news → Fails few earlier (read_each (reads_whole (source ∷ sources))) olds news
    Fails-first g = Fails-stop few earlier (read_each (source_reads source)) (read_each (reads_whole sources)) olds news g
read_fails few (source ∷ sources) enough differ earlier apart olds news (inr (text, mid, is, later)) =
    let parts = differ_parts source sources differ in
    let apart_still : (name : List ℕ) → is_among name sources ≡ true → bytes_for name (earlier ++ (source, text) ∷ []) ≡ [] =
    λ name among.
    let none : bytes_for name ((source, text) ∷ []) ≡ [] = rw (apart_from name source sources among parts.0) refl in
    bytes_for-append name earlier ((source, text) ∷ []) ∙ rw (apart name (or-true (bytes_eq name source) (is_among name sources) among), none) refl in
    Fails-on few earlier ((source, text) ∷ []) (read_each (source_reads source)) (read_each (reads_whole sources)) olds mid news is.made
    (read_fails few sources (λ name among. enough name (or-true (bytes_eq name source) (is_among name sources) among)) parts.1
    (earlier ++ (source, text) ∷ []) apart_still mid news later)
  where
    or-true : (b c : Bool) → c ≡ true → (b || c) ≡ true
    or-true true c is = refl
    or-true false c is = is

pub reads_fail : (few : Few) (first text : List ℕ) (sources : List (List ℕ)) → FewOf few sources → all_differ (first ∷ sources) ≡ true
    → (olds news : List PortView) → ReadFails sources olds news → Fails few ((first, text) ∷ []) (read_each (reads_whole sources)) olds news
reads_fail few first text sources enough differ olds news fails =
    let parts = differ_parts first sources differ in
    read_fails few sources enough parts.1 ((first, text) ∷ []) (λ name among. rw (apart_from name first sources among parts.0) refl) olds news fails

-- fewer bytes have fewer values

in_front_short : (byte : ℕ) (lines : List (List ℕ)) → length (in_front byte lines) ≤ suc (length lines)
in_front_short byte [] = omega arith
in_front_short byte (line ∷ lines) = omega arith

lines_short : (bytes : List ℕ) → length (lines_of bytes) ≤ length bytes
lines_short [] = omega arith
lines_short (byte ∷ bytes) = by (byte == 10) (lines_short bytes)
  where
    by : (b : Bool) → length (lines_of bytes) ≤ length bytes → length (if b then [] ∷ lines_of bytes else in_front byte (lines_of bytes)) ≤ suc (length bytes)
    by true short = omega (arith, short)
    by false short = let front = in_front_short byte (lines_of bytes) in omega (arith, short, front)

whole_front_short : (byte : ℕ) (bytes : List ℕ) → length (in_front_of_whole byte bytes) ≤ suc (length bytes)
whole_front_short byte [] = omega arith
whole_front_short byte (first ∷ bytes) = omega arith

whole_short : (bytes : List ℕ) → length (whole_lines bytes) ≤ length bytes
whole_short [] = omega arith
whole_short (byte ∷ bytes) = by (byte == 10) (whole_short bytes)
  where
    by : (b : Bool) → length (whole_lines bytes) ≤ length bytes → length (if b then byte ∷ whole_lines bytes else in_front_of_whole byte (whole_lines bytes)) ≤ suc (length bytes)
    by true short = omega (arith, short)
    by false short = let front = whole_front_short byte (whole_lines bytes) in omega (arith, short, front)

pub values_short : (types : Types) (ty : Ty) (bytes : List ℕ) (good : List Value) (bad : Option ℕ) → IsGoodUntil types ty (whole_lines bytes) good bad
    → length good ≤ length bytes
values_short types ty bytes good bad is =
    let held = AllZip-long (HoldsValue types ty) (filter (λ line. not (is_empty line)) is.before) good is.values.texts in
    let kept = length-filter_both (λ line. not (is_empty line)) (λ line. not (not (is_empty line))) (λ line. refl) is.before in
    let all : length (lines_of (whole_lines bytes)) ≡ length is.before + length is.others = ap length is.split ∙ length-append is.before is.others in
    let lines = lines_short (whole_lines bytes) in
    let whole = whole_short bytes in
    omega (arith, held, kept, all, lines, whole)
