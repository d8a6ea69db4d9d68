-- What is read after a write.
use Rattle.std.proofs.Common.{◌≡◌, ℕ, ◌==◌, nat_lt, Bool, true, false, List, [], ◌∷◌, Option, Some, None, if◌then◌else◌, refl, sym, ◌∙◌, subst, eq-eqb}
use Rattle.std.specs.Str.{bytes_eq}
use Rattle.std.proofs.lemmas.Bool.{eqb-true}
use Rattle.std.proofs.lemmas.Slice.Eq.{bytes_eq-Decides}
use Rattle.c_meaning.specs.Numbers.{CNumber, and_then, converted}
use Rattle.c_meaning.specs.Objects.{Object, Scalar, Struct, Array, Union, Step, Member, Element, is_among, unset, declared_step, at_path}
use Rattle.c_meaning.specs.Objects.{in_force, with_member, with_element, changed, with_number, holds_of, lie_apart}
use Rattle.c_meaning.specs.Reads.{IsAssigned, IsChanged}
use Rattle.c_meaning.proofs.Options.{some_same, comes, if_first, if_holds}

pub bytes_same : (name : List ℕ) → bytes_eq name name ≡ true
bytes_same name = (bytes_eq-Decides name name).1 refl

pub same_bytes : (a b : List ℕ) → bytes_eq a b ≡ true → a ≡ b
same_bytes a b e = (bytes_eq-Decides a b).0 e

-- tests of what is equal don't turn on the order
pub bytes_turned : (a b : List ℕ) → bytes_eq a b ≡ false → bytes_eq b a ≡ false
bytes_turned a b e = by (bytes_eq b a) refl
  where
    by : (t : Bool) → bytes_eq b a ≡ t → bytes_eq b a ≡ false
    by true h = absurd (let same = sym (same_bytes b a h) in differ (sym e ∙ (bytes_eq-Decides a b).1 same))
      where
        differ : false ≡ true → ⊥
        differ d = cc
    by false h = h

pub numbers_turned : (a b : ℕ) → (a == b) ≡ false → (b == a) ≡ false
numbers_turned a b e = by (b == a) refl
  where
    by : (t : Bool) → (b == a) ≡ t → (b == a) ≡ false
    by true h = absurd (let same = sym (eqb-true b a h) in differ (sym e ∙ eq-eqb a b same))
      where
        differ : false ≡ true → ⊥
        differ d = cc
    by false h = h

-- ---- what is written is read

member_read : (name : List ℕ) (path : List Step) (type : List ℕ) (names : List (List ℕ)) (part : List ℕ → Object) (new found : Object)
    → is_among name names ≡ true → at_path path new ≡ Some found → at_path (Member name ∷ path) (Struct type names (with_member part name new)) ≡ Some found
member_read name path type names part new found among r = rw (among, bytes_same name) r

force_read : (name : List ℕ) (path : List Step) (names : List (List ℕ)) (part : List ℕ → Object) (new found : Object)
    → is_among name names ≡ true → at_path path new ≡ Some found
    → at_path (Member name ∷ path) (Union names (Some name) (with_member part name new)) ≡ Some found
force_read name path names part new found among r = rw (among, bytes_same name) r

element_read : (i : ℕ) (path : List Step) (count : ℕ) (element : ℕ → Object) (new found : Object) → nat_lt i count ≡ true → at_path path new ≡ Some found
    → at_path (Element i ∷ path) (Array count (with_element element i new)) ≡ Some found
element_read i path count element new found less r = rw (less, eq-eqb i i refl) r

pub written : (path : List Step) (change : Object → Option Object) (object after : Object) → changed path change object ≡ Some after
    → IsChanged path change after
written [] change object after e = record { old = object; new = after; makes = e; reads = refl }
written (Member name ∷ path) change (Struct type names part) after e =
    let among = if_holds (is_among name names) _ after e in
    let it = comes (changed path change (part name)) (λ new. Some (Struct type names (with_member part name new))) after
    (if_first (is_among name names) _ after e) in
    let inner = written path change (part name) it.value it.is in
    subst (IsChanged (Member name ∷ path) change) (some_same it.gives)
    (record { old = inner.old; new = inner.new; makes = inner.makes; reads = member_read name path type names part it.value inner.new among inner.reads })
written (Member name ∷ path) change (Union names force part) after e =
    let among = if_holds (is_among name names) _ after e in
    let it = comes (changed path change (in_force name force (part name))) (λ new. Some (Union names (Some name) (with_member part name new))) after
    (if_first (is_among name names) _ after e) in
    let inner = written path change (in_force name force (part name)) it.value it.is in
    subst (IsChanged (Member name ∷ path) change) (some_same it.gives)
    (record { old = inner.old; new = inner.new; makes = inner.makes; reads = force_read name path names part it.value inner.new among inner.reads })
written (Element i ∷ path) change (Array count element) after e =
    let less = if_holds (nat_lt i count) _ after e in
    let it = comes (changed path change (element i)) (λ new. Some (Array count (with_element element i new))) after
    (if_first (nat_lt i count) _ after e) in
    let inner = written path change (element i) it.value it.is in
    subst (IsChanged (Element i ∷ path) change) (some_same it.gives)
    (record { old = inner.old; new = inner.new; makes = inner.makes; reads = element_read i path count element it.value inner.new less inner.reads })
written (Member name ∷ path) change (Scalar ty number) after e = cc
written (Member name ∷ path) change (Array count element) after e = cc
written (Element i ∷ path) change (Scalar ty number) after e = cc
written (Element i ∷ path) change (Struct type names part) after e = cc
written (Element i ∷ path) change (Union names force part) after e = cc

pub assigned : (x : CNumber) (path : List Step) (object after : Object) → changed path (with_number x) object ≡ Some after → IsAssigned x path after
assigned x path object after e = let it = written path (with_number x) object after e in at it.old it.new it.makes it.reads
  where
    at : (old new : Object) → with_number x old ≡ Some new → at_path path after ≡ Some new → IsAssigned x path after
    at (Scalar ty old) new m r =
        let it = comes (converted ty x.number) (λ (n : CNumber). Some (Scalar ty (Some n.number))) new m in
        record { ty = ty; number = it.value; converts = it.is; reads = r ∙ sym it.gives }
    at (Struct type names part) new m r = cc
    at (Array count element) new m r = cc
    at (Union names force part) new m r = cc

-- another member of the union isn't read
pub others_fall : (name other : List ℕ) (path : List Step) (change : Object → Option Object) (names : List (List ℕ)) (force : Option (List ℕ))
    (part : List ℕ → Object) (after : Object) (later : List Step) → changed (Member name ∷ path) change (Union names force part) ≡ Some after
    → bytes_eq other name ≡ false → at_path (Member other ∷ later) after ≡ None
others_fall name other path change names force part after later e d =
    let it = comes (changed path change (in_force name force (part name))) (λ new. Some (Union names (Some name) (with_member part name new))) after
    (if_first (is_among name names) _ after e) in
    subst (λ o. at_path (Member other ∷ later) o ≡ None) (some_same it.gives) (rw d refl)

-- ---- what lies apart stays

-- one part that changes among others, by whether it is the one that is read
struct_apart : (name other : List ℕ) (path rest : List Step) (type : List ℕ) (names : List (List ℕ)) (part : List ℕ → Object) (new found : Object)
    → is_among name names ≡ true
    → (lie_apart path rest (part name) ≡ true → at_path rest (part name) ≡ Some found → at_path rest new ≡ Some found) → (same : Bool)
    → bytes_eq name other ≡ same → (if same then holds_of (declared_step (Member name) (Struct type names part)) (lie_apart path rest) else true) ≡ true
    → at_path (Member other ∷ rest) (Struct type names part) ≡ Some found
    → at_path (Member other ∷ rest) (Struct type names (with_member part name new)) ≡ Some found
struct_apart name other path rest type names part new found among inner true s apart reads =
    let is = same_bytes name other s in
    let there : at_path (Member name ∷ rest) (Struct type names part) ≡ Some found
    = subst (λ (n : List ℕ). at_path (Member n ∷ rest) (Struct type names part) ≡ Some found) (sym is) reads in
    subst (λ (n : List ℕ). at_path (Member n ∷ rest) (Struct type names (with_member part name new)) ≡ Some found) is
    (member_read name rest type names part new found among (inner
    (subst (λ (b : Bool). holds_of (if b then Some (part name) else None) (lie_apart path rest) ≡ true) among apart)
    (subst (λ (b : Bool). and_then (if b then Some (part name) else None) (at_path rest) ≡ Some found) among there)))
struct_apart name other path rest type names part new found among inner false s apart reads = rw (bytes_turned name other s) reads

array_apart : (i j : ℕ) (path rest : List Step) (count : ℕ) (element : ℕ → Object) (new found : Object) → nat_lt i count ≡ true
    → (lie_apart path rest (element i) ≡ true → at_path rest (element i) ≡ Some found → at_path rest new ≡ Some found) → (same : Bool)
    → (i == j) ≡ same → (if same then holds_of (declared_step (Element i) (Array count element)) (lie_apart path rest) else true) ≡ true
    → at_path (Element j ∷ rest) (Array count element) ≡ Some found
    → at_path (Element j ∷ rest) (Array count (with_element element i new)) ≡ Some found
array_apart i j path rest count element new found less inner true s apart reads =
    let is = eqb-true i j s in
    let there : at_path (Element i ∷ rest) (Array count element) ≡ Some found
    = subst (λ (n : ℕ). at_path (Element n ∷ rest) (Array count element) ≡ Some found) (sym is) reads in
    subst (λ (n : ℕ). at_path (Element n ∷ rest) (Array count (with_element element i new)) ≡ Some found) is
    (element_read i rest count element new found less (inner
    (subst (λ (b : Bool). holds_of (if b then Some (element i) else None) (lie_apart path rest) ≡ true) less apart)
    (subst (λ (b : Bool). and_then (if b then Some (element i) else None) (at_path rest) ≡ Some found) less there)))
array_apart i j path rest count element new found less inner false s apart reads = rw (numbers_turned i j s) reads

union_apart : (name other : List ℕ) (path rest : List Step) (names : List (List ℕ)) (force : List ℕ) (part : List ℕ → Object) (new found : Object)
    → is_among name names ≡ true
    → (lie_apart path rest (in_force name (Some force) (part name)) ≡ true → at_path rest (in_force name (Some force) (part name)) ≡ Some found
    → at_path rest new ≡ Some found)
    → (same : Bool) → bytes_eq name other ≡ same
    → (if same then holds_of (declared_step (Member name) (Union names (Some force) part)) (lie_apart path rest) else false) ≡ true
    → at_path (Member other ∷ rest) (Union names (Some force) part) ≡ Some found
    → at_path (Member other ∷ rest) (Union names (Some name) (with_member part name new)) ≡ Some found
union_apart name other path rest names force part new found among inner true s apart reads =
    let is = same_bytes name other s in
    let there : at_path (Member name ∷ rest) (Union names (Some force) part) ≡ Some found
    = subst (λ (n : List ℕ). at_path (Member n ∷ rest) (Union names (Some force) part) ≡ Some found) (sym is) reads in
    subst (λ (n : List ℕ). at_path (Member n ∷ rest) (Union names (Some name) (with_member part name new)) ≡ Some found) is
    (let both = by (bytes_eq name force)
    (subst (λ (b : Bool). holds_of (if b then Some (part name) else None) (lie_apart path rest) ≡ true) among apart)
    (subst (λ (b : Bool). and_then (if bytes_eq name force then (if b then Some (part name) else None) else None) (at_path rest) ≡ Some found) among there) in
    force_read name rest names part new found among (inner both.0 both.1))
  where
    by : (b : Bool) → lie_apart path rest (part name) ≡ true → and_then (if b then Some (part name) else None) (at_path rest) ≡ Some found
        → (lie_apart path rest (if b then part name else unset (part name)) ≡ true) × (at_path rest (if b then part name else unset (part name)) ≡ Some found)
    by true a h = (a, h)
    by false a h = cc
union_apart name other path rest names force part new found among inner false s apart reads = cc

pub apart_stays : (path other : List Step) (change : Object → Option Object) (object after found : Object) → changed path change object ≡ Some after
    → lie_apart path other object ≡ true → at_path other object ≡ Some found → at_path other after ≡ Some found
apart_stays [] other change object after found e apart reads = cc
apart_stays (Member name ∷ path) [] change object after found e apart reads = cc
apart_stays (Element i ∷ path) [] change object after found e apart reads = cc
apart_stays (Member name ∷ path) (Member other ∷ rest) change (Struct type names part) after found e apart reads =
    let among = if_holds (is_among name names) _ after e in
    let it = comes (changed path change (part name)) (λ new. Some (Struct type names (with_member part name new))) after
    (if_first (is_among name names) _ after e) in
    subst (λ o. at_path (Member other ∷ rest) o ≡ Some found) (some_same it.gives)
    (struct_apart name other path rest type names part it.value found among
    (apart_stays path rest change (part name) it.value found it.is) (bytes_eq name other) refl apart reads)
apart_stays (Element i ∷ path) (Element j ∷ rest) change (Array count element) after found e apart reads =
    let less = if_holds (nat_lt i count) _ after e in
    let it = comes (changed path change (element i)) (λ new. Some (Array count (with_element element i new))) after
    (if_first (nat_lt i count) _ after e) in
    subst (λ o. at_path (Element j ∷ rest) o ≡ Some found) (some_same it.gives)
    (array_apart i j path rest count element it.value found less
    (apart_stays path rest change (element i) it.value found it.is) (i == j) refl apart reads)
apart_stays (Member name ∷ path) (Member other ∷ rest) change (Union names None part) after found e apart reads = cc
apart_stays (Member name ∷ path) (Member other ∷ rest) change (Union names (Some force) part) after found e apart reads =
    let among = if_holds (is_among name names) _ after e in
    let it = comes (changed path change (in_force name (Some force) (part name))) (λ new. Some (Union names (Some name) (with_member part name new))) after
    (if_first (is_among name names) _ after e) in
    subst (λ o. at_path (Member other ∷ rest) o ≡ Some found) (some_same it.gives)
    (union_apart name other path rest names force part it.value found among
    (apart_stays path rest change (in_force name (Some force) (part name)) it.value found it.is) (bytes_eq name other) refl apart reads)
apart_stays (Member name ∷ path) (Member other ∷ rest) change (Scalar ty number) after found e apart reads = cc
apart_stays (Member name ∷ path) (Member other ∷ rest) change (Array count element) after found e apart reads = cc
apart_stays (Element i ∷ path) (Element j ∷ rest) change (Scalar ty number) after found e apart reads = cc
apart_stays (Element i ∷ path) (Element j ∷ rest) change (Struct type names part) after found e apart reads = cc
apart_stays (Element i ∷ path) (Element j ∷ rest) change (Union names force part) after found e apart reads = cc
apart_stays (Member name ∷ path) (Element j ∷ rest) change (Scalar ty number) after found e apart reads = cc
apart_stays (Member name ∷ path) (Element j ∷ rest) change (Struct type names part) after found e apart reads = cc
apart_stays (Member name ∷ path) (Element j ∷ rest) change (Array count element) after found e apart reads = cc
apart_stays (Member name ∷ path) (Element j ∷ rest) change (Union names force part) after found e apart reads = cc
apart_stays (Element i ∷ path) (Member other ∷ rest) change (Scalar ty number) after found e apart reads = cc
apart_stays (Element i ∷ path) (Member other ∷ rest) change (Struct type names part) after found e apart reads = cc
apart_stays (Element i ∷ path) (Member other ∷ rest) change (Array count element) after found e apart reads = cc
apart_stays (Element i ∷ path) (Member other ∷ rest) change (Union names force part) after found e apart reads = cc
