-- How the outputs of a mask are written from the last one to the first.
use Rattle.std.proofs.Common.{◌≡◌, ℕ, zero, suc, ◌+◌, ◌-◌, ◌/◌, ◌%◌, ◌<◌, ◌≤◌, List, [], ◌∷◌, ◌++◌, length, take, drop, get_or, Option, Some, None, slice_get, slice_set, refl, ap, sym, ◌∙◌, subst, arith}
use Rattle.std.specs.Int.{bit_at}
use Rattle.std.proofs.lemmas.List.{get_or-drop, get_or-take, length-drop, take_all}
use Rattle.std.proofs.lemmas.Nat.Bits.{bit_at_lowest, bit_at-suc}
use Rattle.hume_base.specs.declared.types.Ty.{Ty}
use Rattle.hume_base.specs.declared.types.Types.{Types}
use Rattle.box_heap.specs.Heaps.{Object}
use Rattle.box_heap.specs.Outputs.{OutputView, absent}
use Rattle.box_code.specs.FlatObjects.{flat_at}
use Rattle.box_code.specs.Machine.{flat_outs, outs_in}
use Rattle.box_machine.specs.Running.{HaveRoom, with_outputs}
use Rattle.box_machine.specs.inner.PutOutputs.{HasSize, OutsFit, on_top, put_from, put_out}
use Rattle.box_machine.proofs.Finishing.{none_step, some_step}

abbrev Outs : Type 0
Outs = List (Option (List ℕ))

-- nothing is put yet

module _ (types : Types) (objects : List Object) where
  long_by : (ty : Ty) (tys : List Ty) → ((mask : ℕ) (words : List ℕ) (flat : Outs) → flat_outs types objects tys mask words ≡ Some flat → length flat ≡ length tys)
      → (mask : ℕ) (words : List ℕ) (flat : Outs) → flat_outs types objects (ty ∷ tys) mask words ≡ Some flat → (bit : ℕ) → mask % 2 ≡ bit
      → length flat ≡ suc (length tys)
  long_by ty tys others mask words flat is zero even =
      let s = none_step types objects ty tys mask words flat is even in
      ap (λ (f : Outs). length f) s.2 ∙ ap suc (others (mask / 2) words s.0 s.1)
  long_by ty tys others mask words flat is (suc bit) odd =
      let s = some_step types objects ty tys mask words flat is (λ even. omega (arith, odd, even)) in
      ap (λ (f : Outs). length f) s.both ∙ ap suc (others (mask / 2) (take (length words - 1) (drop 1 words)) s.rest s.others_are)

  flat_long : (tys : List Ty) (mask : ℕ) (words : List ℕ) (flat : Outs) → flat_outs types objects tys mask words ≡ Some flat → length flat ≡ length tys
  flat_long [] mask words flat is = (let e : ◌≡◌ {A = Outs} [] flat = cc in ap (λ (f : Outs). length f) (sym e))
  flat_long (ty ∷ tys) mask words flat is = long_by ty tys (flat_long tys) mask words flat is (mask % 2) refl

room_long : (outputs : List OutputView) (flat : Outs) → HaveRoom outputs flat → length outputs ≡ length flat
room_long [] [] room = refl
room_long [] (out ∷ outs) room = absurd room
room_long (output ∷ outputs) [] room = absurd room
room_long (output ∷ outputs) (None ∷ outs) room = ap suc (room_long outputs outs room)
room_long (output ∷ outputs) (Some words ∷ outs) room = ap suc (room_long outputs outs room.1)

none_put : (outputs : List OutputView) (rest : Outs) (n : ℕ) → length outputs ≡ n → take n outputs ++ with_outputs (drop n outputs) rest ≡ outputs
none_put [] rest zero long = refl
none_put [] rest (suc n) long = absurd (omega (arith, long))
none_put (output ∷ outputs) rest zero long = absurd (omega (arith, long))
none_put (output ∷ outputs) rest (suc n) long = ap (λ os. output ∷ os) (none_put outputs rest n (omega (arith, long)))

module _ (types : Types) (objects : List Object) (tys : List Ty) (mask : ℕ) (words : List ℕ) (outputs : List OutputView) (flat : Outs)
    (fit : OutsFit (flat_outs types objects tys mask words) outputs flat) where
  pub outputs_long : length outputs ≡ length tys
  outputs_long = room_long outputs flat fit.room ∙ flat_long types objects tys mask words flat fit.is

  pub nothing_put : outputs ≡ put_from (length tys) outputs flat
  nothing_put = sym (none_put outputs (drop (length tys) flat) (length tys) outputs_long)

-- the first output, and the others

record Parts (types : Types) (objects : List Object) (ty : Ty) (tys : List Ty) (mask : ℕ) (words : List ℕ) (output : OutputView) (outputs : List OutputView)
    (flat : Outs) : Type 0 where
  out : Option (List ℕ)
  rest : Outs
  both : flat ≡ out ∷ rest
  fit : OutsFit (flat_outs types objects tys (mask / 2) (drop (mask % 2) words)) outputs rest
  none : mask % 2 ≡ 0 → out ≡ None
  some : mask % 2 ≡ 1 → (own : List ℕ) × (out ≡ Some own) × (flat_at types objects ty (get_or words 0 0) ≡ Some own) × (length own ≡ output.size)

module _ (types : Types) (objects : List Object) where
  parts : (ty : Ty) (tys : List Ty) (mask : ℕ) (words : List ℕ) (output : OutputView) (outputs : List OutputView) (flat : Outs)
      → OutsFit (flat_outs types objects (ty ∷ tys) mask words) (output ∷ outputs) flat → Parts types objects ty tys mask words output outputs flat
  parts ty tys mask words output outputs flat fit = by (mask % 2) refl
    where
      by : (bit : ℕ) → mask % 2 ≡ bit → Parts types objects ty tys mask words output outputs flat
      by zero even =
          let s = none_step types objects ty tys mask words flat fit.is even in
          record {
            out = None;
            rest = s.0;
            both = s.2;
            fit = record {
              is = ap (λ n. flat_outs types objects tys (mask / 2) (drop n words)) even ∙ s.1;
              room = subst (HaveRoom (output ∷ outputs)) s.2 fit.room;
            };
            none = λ e. refl;
            some = λ e. absurd (omega (arith, even, e));
          }
      by (suc zero) odd =
          let s = some_step types objects ty tys mask words flat fit.is (λ even. omega (arith, odd, even)) in
          let room : HaveRoom (output ∷ outputs) (Some s.words ∷ s.rest) = subst (HaveRoom (output ∷ outputs)) s.both fit.room in
          let few = length-drop 1 words in
          let behind : drop (mask % 2) words ≡ take (length words - 1) (drop 1 words) =
          ap (λ n. drop n words) odd ∙ sym (take_all (length words - 1) (drop 1 words) (omega (arith, few))) in
          record {
            out = Some s.words;
            rest = s.rest;
            both = s.both;
            fit = record {
              is = ap (flat_outs types objects tys (mask / 2)) behind ∙ s.others_are;
              room = room.1;
            };
            none = λ e. absurd (omega (arith, odd, e));
            some = λ e. (s.words, refl, s.own_is, room.0);
          }
      by (suc (suc bit)) odd = absurd (omega (arith, odd))

-- The output of that number is in the mask: its word stands behind those of the outputs before it.
pub record Placed (types : Types) (objects : List Object) (tys : List Ty) (mask : ℕ) (words : List ℕ) (outputs : List OutputView) (flat : Outs) (k : ℕ)
    (own_ty : Ty) : Type 0 where
  pub own : List ℕ
  pub is : flat_at types objects own_ty (get_or words (outs_in mask (take k tys)) 0) ≡ Some own
  pub size : HasSize (put_from (suc k) outputs flat) k (length own)
  pub same : put_out (put_from (suc k) outputs flat) k own ≡ put_from k outputs flat

-- The output of that number isn't in the mask: the next outputs are these with it absent.
pub record Skipped (outputs : List OutputView) (flat : Outs) (k : ℕ) : Type 0 where
  pub output : OutputView
  pub there : slice_get (put_from (suc k) outputs flat) k ≡ Some output
  pub same : slice_set (put_from (suc k) outputs flat) k (absent output.size) ≡ put_from k outputs flat

module _ (types : Types) (objects : List Object) where
  pub skipped : (k : ℕ) (tys : List Ty) (mask : ℕ) (words : List ℕ) (outputs : List OutputView) (flat : Outs)
      → OutsFit (flat_outs types objects tys mask words) outputs flat → k < length tys → k < length outputs → bit_at mask k ≡ 0 → Skipped outputs flat k
  skipped k [] mask words outputs flat fit less inside bit = absurd (omega (arith, less))
  skipped k (ty ∷ tys) mask words [] flat fit less inside bit = absurd (omega (arith, inside))
  skipped zero (ty ∷ tys) mask words (output ∷ outputs) flat fit less inside bit =
      let even : mask % 2 ≡ 0 = sym (bit_at_lowest mask) ∙ bit in
      let p = parts types objects ty tys mask words output outputs flat fit in
      let whole : flat ≡ None ∷ p.rest = p.both ∙ ap (λ out. out ∷ p.rest) (p.none even) in
      subst (λ (f : Outs). Skipped (output ∷ outputs) f 0) (sym whole) (record { output = output; there = refl; same = refl })
  skipped (suc k) (ty ∷ tys) mask words (output ∷ outputs) flat fit less inside bit =
      let p = parts types objects ty tys mask words output outputs flat fit in
      let s = skipped k tys (mask / 2) (drop (mask % 2) words) outputs p.rest p.fit (omega (arith, less)) (omega (arith, inside))
      (sym (bit_at-suc mask k) ∙ bit) in
      subst (λ (f : Outs). Skipped (output ∷ outputs) f (suc k)) (sym p.both)
      (record { output = s.output; there = s.there; same = ap (λ os. output ∷ os) s.same })

  pub placed : (k : ℕ) (tys : List Ty) (mask : ℕ) (words : List ℕ) (outputs : List OutputView) (flat : Outs) (own_ty : Ty)
      → OutsFit (flat_outs types objects tys mask words) outputs flat → k < length tys → k < length outputs → own_ty ≡ get_or tys k own_ty → bit_at mask k ≡ 1
      → Placed types objects tys mask words outputs flat k own_ty
  placed k [] mask words outputs flat own_ty fit less inside found bit = absurd (omega (arith, less))
  placed k (ty ∷ tys) mask words [] flat own_ty fit less inside found bit = absurd (omega (arith, inside))
  placed zero (ty ∷ tys) mask words (output ∷ outputs) flat own_ty fit less inside found bit =
      let odd : mask % 2 ≡ 1 = sym (bit_at_lowest mask) ∙ bit in
      let p = parts types objects ty tys mask words output outputs flat fit in
      let s = p.some odd in
      let whole : flat ≡ Some s.0 ∷ p.rest = p.both ∙ ap (λ out. out ∷ p.rest) s.1 in
      record {
        own = s.0;
        is = ap (λ (t : Ty). flat_at types objects t (get_or words 0 0)) found ∙ s.2;
        size = record { output = output; there = refl; size = s.3 };
        same = subst (λ (f : Outs). put_out (put_from 1 (output ∷ outputs) f) 0 s.0 ≡ put_from 0 (output ∷ outputs) f) (sym whole)
            (λ i. record { size = s.3 i; words = Some s.0 } ∷ with_outputs outputs p.rest);
      }
  placed (suc k) (ty ∷ tys) mask words (output ∷ outputs) flat own_ty fit less inside found bit =
      let p = parts types objects ty tys mask words output outputs flat fit in
      let s = placed k tys (mask / 2) (drop (mask % 2) words) outputs p.rest own_ty p.fit (omega (arith, less)) (omega (arith, inside)) found
      (sym (bit_at-suc mask k) ∙ bit) in
      record {
        own = s.own;
        is = ap (λ word. flat_at types objects own_ty word) (sym (get_or-drop (mask % 2) words (outs_in (mask / 2) (take k tys)) 0)) ∙ s.is;
        size = record {
          output = s.size.output;
          there = subst (λ (f : Outs). slice_get (put_from (suc (suc k)) (output ∷ outputs) f) (suc k) ≡ Some s.size.output) (sym p.both) s.size.there;
          size = s.size.size;
        };
        same = subst (λ (f : Outs). put_out (put_from (suc (suc k)) (output ∷ outputs) f) (suc k) s.own ≡ put_from (suc k) (output ∷ outputs) f) (sym p.both)
            (ap (λ os. output ∷ os) s.same);
      }

-- how many words are written

outs_before : (tys : List Ty) (mask k : ℕ) → outs_in mask (take k tys) ≤ outs_in mask tys
outs_before [] mask zero = omega arith
outs_before [] mask (suc k) = omega arith
outs_before (ty ∷ tys) mask zero = omega arith
outs_before (ty ∷ tys) mask (suc k) = (let fewer = outs_before tys (mask / 2) k in omega (arith, fewer))

in_a_row : (a b c : ℕ) → a + (b + c) ≡ (a + b) + c
in_a_row a b c = omega arith

one_more : (tys : List Ty) (mask k : ℕ) → k < length tys → outs_in mask (take (suc k) tys) ≡ outs_in mask (take k tys) + bit_at mask k
one_more [] mask k less = absurd (omega (arith, less))
one_more (ty ∷ tys) mask zero less = (let none : mask % 2 + 0 ≡ 0 + mask % 2 = omega arith in none ∙ ap (λ bit. 0 + bit) (sym (bit_at_lowest mask)))
one_more (ty ∷ tys) mask (suc k) less =
    ap (λ n. mask % 2 + n) (one_more tys (mask / 2) k (omega (arith, less)))
    ∙ in_a_row (mask % 2) (outs_in (mask / 2) (take k tys)) (bit_at (mask / 2) k)
    ∙ ap (λ bit. (mask % 2 + outs_in (mask / 2) (take k tys)) + bit) (sym (bit_at-suc mask k))

word_on_top : (words : List ℕ) (top count j : ℕ) → count ≤ top → j < count → get_or (on_top count words top) j 0 ≡ get_or words ((top - count) + j) 0
word_on_top words top count j few less =
    get_or-take (top - (top - count)) (drop (top - count) words) j 0 (omega (arith, few, less)) ∙ get_or-drop (top - count) words j 0

-- one step of the loop: the output before those that are written

module _ (outs : List Ty) (mask top number base : ℕ) (enough : outs_in mask outs ≤ top) (few : number ≤ length outs) (more : 0 < number)
    (base_is : base ≡ (top - outs_in mask outs) + outs_in mask (take number outs)) where
  next : suc (number - 1) ≡ number
  next = omega (arith, more)

  count : outs_in mask (take number outs) ≡ outs_in mask (take (number - 1) outs) + bit_at mask (number - 1)
  count = ap (λ n. outs_in mask (take n outs)) (sym next) ∙ one_more outs mask (number - 1) (omega (arith, few, more))

  module _ (none : bit_at mask (number - 1) ≡ 0) where
    pub stays : base ≡ (top - outs_in mask outs) + outs_in mask (take (number - 1) outs)
    stays =
        let same : outs_in mask (take number outs) ≡ outs_in mask (take (number - 1) outs) + 0 = count ∙ ap (λ bit. outs_in mask (take (number - 1) outs) + bit) none in
        omega (arith, base_is, same)

    module _ (types : Types) (objects : List Object) (words : List ℕ) (outputs : List OutputView) (flat : Outs)
        (fit : OutsFit (flat_outs types objects outs mask words) outputs flat) where
      abbrev gap : Skipped outputs flat (number - 1)
      gap =
          let long = outputs_long types objects outs mask words outputs flat fit in
          skipped types objects (number - 1) outs mask words outputs flat fit (omega (arith, few, more)) (omega (arith, few, more, long)) none

      abbrev pub found_there : OutputView
      found_there = gap.output

      pub is_there : slice_get (put_from number outputs flat) (number - 1) ≡ Some found_there
      is_there = subst (λ n. slice_get (put_from n outputs flat) (number - 1) ≡ Some found_there) next gap.there

      pub absent_put : slice_set (put_from number outputs flat) (number - 1) (absent found_there.size) ≡ put_from (number - 1) outputs flat
      absent_put = ap (λ n. slice_set (put_from n outputs flat) (number - 1) (absent found_there.size)) (sym next) ∙ gap.same

  module _ (one : bit_at mask (number - 1) ≡ 1) where
    counted : outs_in mask (take number outs) ≡ outs_in mask (take (number - 1) outs) + 1
    counted = count ∙ ap (λ bit. outs_in mask (take (number - 1) outs) + bit) one

    pub positive : 1 ≤ base
    positive = omega (arith, base_is, counted)

    pub below : base ≤ top
    below = (let fewer = outs_before outs mask number in omega (arith, base_is, enough, fewer))

    pub before : base - 1 ≡ (top - outs_in mask outs) + outs_in mask (take (number - 1) outs)
    before = omega (arith, base_is, counted)

    module _ (types : Types) (objects : List Object) (words : List ℕ) (outputs : List OutputView) (flat : Outs)
        (fit : OutsFit (flat_outs types objects outs mask (on_top (outs_in mask outs) words top)) outputs flat) (ty : Ty)
        (found : ty ≡ get_or outs (number - 1) ty) where
      abbrev place : Placed types objects outs mask (on_top (outs_in mask outs) words top) outputs flat (number - 1) ty
      place =
          let long = outputs_long types objects outs mask (on_top (outs_in mask outs) words top) outputs flat fit in
          placed types objects (number - 1) outs mask (on_top (outs_in mask outs) words top) outputs flat ty fit (omega (arith, few, more))
          (omega (arith, few, more, long)) found one

      abbrev pub own : List ℕ
      own = place.own

      pub own_is : flat_at types objects ty (get_or words (base - 1) 0) ≡ Some own
      own_is =
          let fewer = outs_before outs mask number in
          ap (λ n. flat_at types objects ty (get_or words n 0)) before
          ∙ ap (λ word. flat_at types objects ty word) (sym (word_on_top words top (outs_in mask outs) (outs_in mask (take (number - 1) outs)) enough
          (omega (arith, counted, fewer))))
          ∙ place.is

      pub own_size : HasSize (put_from number outputs flat) (number - 1) (length own)
      own_size = subst (λ n. HasSize (put_from n outputs flat) (number - 1) (length own)) next place.size

      pub own_put : put_out (put_from number outputs flat) (number - 1) own ≡ put_from (number - 1) outputs flat
      own_put = ap (λ n. put_out (put_from n outputs flat) (number - 1) own) (sym next) ∙ place.same

pub zero_bit : (bit : ℕ) → bit < 2 → (bit ≡ 1 → ⊥) → bit ≡ 0
zero_bit bit less other = omega (arith, less, other)
