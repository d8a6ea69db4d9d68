-- The tests of a pattern come to what trying the value comes to, and its variables' words are at their spots.
use Rattle.std.proofs.Common.{◌≡◌, ℕ, zero, suc, ◌+◌, ◌≤◌, ◌==◌, ◌⊎◌, Bool, true, false, if◌then◌else◌, List, [], ◌∷◌, ◌++◌, map, length, Option, Some, None, slice_get, refl, ap, sym, ◌∙◌, subst, append_assoc, arith, inl, inr}
use Rattle.std.proofs.lemmas.Bool.{and_parts, ne_eqb, eqb-true}
use Rattle.std.proofs.lemmas.List.{length-append}
use Rattle.std.specs.Option.{option_map, option_and_then}
use Rattle.hume_base.specs.declared.types.Ty.{Ty, roll-Ty, map-Ty, out-Ty, roll-out-Ty, fold-roll-Ty}
use Rattle.hume_base.specs.declared.types.Ty.TheOpen.{Ty-F}
use Rattle.hume_base.specs.declared.types.Ty.TheVariants as shape
use Rattle.hume_base.specs.declared.types.SumDef.{SumDef}
use Rattle.hume_base.specs.declared.types.Types.{Types}
use Rattle.hume_base.specs.declared.types.Value.{Value, out-Value}
use Rattle.hume_base.specs.declared.types.Value.TheOpen.{Value-F}
use Rattle.hume_base.specs.declared.types.Value.TheVariants as value
use Rattle.hume_base.specs.Holding.{HoldSmaller}
use Rattle.hume_base.specs.Values.{is_value, value_step, is_named_value, is_con_of, is_tuple_of, is_vector_of, is_word_of, fields_at}
use Rattle.hume_model.specs.declared.core_tree.PatC.{PatC, roll-PatC, map-PatC, fold-roll-PatC}
use Rattle.hume_model.specs.declared.core_tree.PatC.TheOpen.{PatC-F}
use Rattle.hume_model.specs.declared.core_tree.PatC.TheVariants as pat
use Rattle.hume_model.specs.Patterns.{Match, match_step, matches, matches_all, both_match, match_con, match_word, match_tuple}
use Rattle.hume_model.specs.Typing.{IsPattern, ArePatterns, AreOf}
use Rattle.hume_model.proofs.Layers as layer
use Rattle.hume_model.proofs.Fields.{data-value}
use Rattle.box_costs.specs.PatternTests.{Tried, tried, then_tried, word_tried, con_tried, tuple_tried, tried_step, tries, tries_all}
use Rattle.box_heap.specs.Heaps.{Object, object_at}
use Rattle.box_heap.specs.Standing.{Stands, AllStand}
use Rattle.box_code.specs.Paths.{Spot, root, field_of_spot, Test, TagIs, of_fields, of_words, tests_at_step, tests_at, spots_at_step, spots_at}
use Rattle.box_code.specs.Machine.{field_of, tag_of, at_path}
use Rattle.code_laws.proofs.Heaps.{get_new, word_stands}
use Rattle.code_laws.proofs.Trying.{go_on_test, word_of_spot, try_test, try_all, AllAt, all_at_both, try_both}

-- one level of a pattern
tests_form : (p : PatC) (x : PatC-F PatC) → roll-PatC x ≡ p → (spot : Spot) → tests_at p spot ≡ tests_at_step (map-PatC PatC (Spot → List Test) tests_at x) spot
tests_form p x is spot = ap (λ q. tests_at q spot) (sym is) ∙ ap (λ (t : Spot → List Test). t spot) (fold-roll-PatC (Spot → List Test) tests_at_step x)

spots_form : (p : PatC) (x : PatC-F PatC) → roll-PatC x ≡ p → (spot : Spot) → spots_at p spot ≡ spots_at_step (map-PatC PatC (Spot → List Spot) spots_at x) spot
spots_form p x is spot = ap (λ q. spots_at q spot) (sym is) ∙ ap (λ (t : Spot → List Spot). t spot) (fold-roll-PatC (Spot → List Spot) spots_at_step x)

matches_form : (p : PatC) (x : PatC-F PatC) → roll-PatC x ≡ p → (v : Value) → matches p v ≡ match_step (map-PatC PatC Match matches x) v
matches_form p x is v = ap (λ q. matches q v) (sym is) ∙ ap (λ (m : Match). m v) (fold-roll-PatC Match match_step x)

tries_form : (p : PatC) (x : PatC-F PatC) → roll-PatC x ≡ p → (v : Value) → tries p v ≡ tried_step (map-PatC PatC (Value → Tried) tries x) v
tries_form p x is v = ap (λ q. tries q v) (sym is) ∙ ap (λ (m : Value → Tried). m v) (fold-roll-PatC (Value → Tried) tried_step x)

con_tag : (c d : ℕ) (us vs : List Value) → Value-F.Con c us ≡ Value-F.Con d vs → c ≡ d
con_tag c d us vs e = cc

con_parts : (c d : ℕ) (us vs : List Value) → Value-F.Con c us ≡ Value-F.Con d vs → us ≡ vs
con_parts c d us vs e = cc

tuple_parts : (us vs : List Value) → Value-F.Tuple us ≡ Value-F.Tuple vs → us ≡ vs
tuple_parts us vs e = cc

unwrap : {X : Type 0} (x y : X) → Some x ≡ Some y → x ≡ y
unwrap x y e = cc

-- values with their parts
pub con_stands : {heap : List Object} {v : Value} {u : ℕ} → Stands heap v u → (c : ℕ) (us : List Value) → out-Value v ≡ Value-F.Con c us
    → (ws : List ℕ) × (object_at heap u ≡ Some (c, ws)) × AllStand heap us ws
con_stands (Stands.word w) c us e = let x = sym (layer.out-word w) ∙ e in cc
con_stands (Stands.tuple {values = vs} place found parts) c us e = let x = sym (layer.out-tuple vs) ∙ e in cc
con_stands (Stands.vector {values = vs} place found parts) c us e = let x = sym (layer.out-vector vs) ∙ e in cc
con_stands {heap = heap} (Stands.con {values = vs} {fields = ws} d place found parts) c us e =
    let x = sym (layer.out-con d vs) ∙ e in
    let tag : d ≡ c = con_tag _ _ _ _ x in
    let same : vs ≡ us = con_parts _ _ _ _ x in
    (ws, subst (λ k. object_at heap place ≡ Some (k, ws)) tag found, subst (λ k. AllStand heap k ws) same parts)

pub tuple_stands : {heap : List Object} {v : Value} {u : ℕ} → Stands heap v u → (us : List Value) → out-Value v ≡ Value-F.Tuple us
    → (ws : List ℕ) × (object_at heap u ≡ Some (0, ws)) × AllStand heap us ws
tuple_stands (Stands.word w) us e = let x = sym (layer.out-word w) ∙ e in cc
tuple_stands (Stands.vector {values = vs} place found parts) us e = let x = sym (layer.out-vector vs) ∙ e in cc
tuple_stands (Stands.con {values = vs} d place found parts) us e = let x = sym (layer.out-con d vs) ∙ e in cc
tuple_stands {heap = heap} (Stands.tuple {values = vs} {fields = ws} place found parts) us e =
    let same : vs ≡ us = tuple_parts _ _ (sym (layer.out-tuple vs) ∙ e) in
    (ws, found, subst (λ k. AllStand heap k ws) same parts)

further : (o : Option ℕ) (go more : ℕ → Option ℕ) (u x : ℕ) → ((w : ℕ) → go w ≡ Some u → more w ≡ Some x) → option_and_then go o ≡ Some u → option_and_then more o ≡ Some x
further None go more u x p h = cc
further (Some w) go more u x p h = p w h

-- a path goes on by a field
path_more : (heap : List Object) (path : List ℕ) (from u tag : ℕ) (ws : List ℕ) (i x : ℕ) → at_path heap path from ≡ Some u → object_at heap u ≡ Some (tag, ws) → slice_get ws i ≡ Some x
    → at_path heap (path ++ i ∷ []) from ≡ Some x
path_more heap [] from u tag ws i x at object field =
    let same : from ≡ u = unwrap _ _ at in
    ap (λ k. option_and_then (at_path heap []) (field_of (object_at heap k) i)) same ∙ ap (λ o. option_and_then (at_path heap []) (field_of o i)) object
    ∙ ap (λ o. option_and_then (at_path heap []) o) field
path_more heap (j ∷ path) from u tag ws i x at object field =
    further (field_of (object_at heap from) j) (at_path heap path) (at_path heap (path ++ i ∷ [])) u x (λ w h. path_more heap path w u tag ws i x h object field) at

-- a type with one value of one word has such values alone
found_or_past : {X : Type 0} (xs : List X) (k : ℕ) → ((x : X) × (slice_get xs k ≡ Some x)) ⊎ (length xs ≤ k)
found_or_past [] k = inr (omega arith)
found_or_past (x ∷ xs) zero = inl (x, refl)
found_or_past (x ∷ xs) (suc k) = elim (found_or_past xs k) [
  | inl f ↦ inl (f.0, f.1)
  | inr past ↦ inr (omega (arith, past))
]

named_past : (types : Types) (bound k : ℕ) (v : Value) → bound ≤ k → is_named_value types bound k v ≡ false
unfolding is_named_value
named_past types zero k v past = refl
named_past types (suc bound) k v past = rw (ne_eqb k bound (λ e. omega (arith, e, past))) (named_past types bound k v (omega (arith, past)))

pub in_word : (test : ℕ → Bool) (l : Value-F Value) → is_word_of test l ≡ true → (x : ℕ) × (l ≡ Value-F.Word x)
in_word test (Value-F.Word x) is = (x, refl)
in_word test (Value-F.Tuple vs) is = cc
in_word test (Value-F.Vector vs) is = cc
in_word test (Value-F.Con c vs) is = cc

module _ (types : Types) (down : HoldSmaller types) (w : ℕ) (v : Value) where
  abbrev Alike : Ty-F Ty → Type 0
  Alike x = is_value types (roll-Ty x) (value.Word w) ≡ true → is_value types (roll-Ty x) v ≡ true → (u : ℕ) × (out-Value v ≡ Value-F.Word u)

  level : (x : Ty-F Ty) (v : Value) → is_value types (roll-Ty x) v ≡ value_step (is_named_value types (length types.sums)) (map-Ty Ty (Value → Bool) (is_value types) x) v
  level x v = ap (λ (t : Value → Bool). t v) (fold-roll-Ty (Value → Bool) (value_step (is_named_value types (length types.sums))) x)

  alike : (x : Ty-F Ty) → Alike x
  alike Ty-F.Bool ok is = in_word _ (out-Value v) (sym (level Ty-F.Bool v) ∙ is)
  alike Ty-F.Char ok is = in_word _ (out-Value v) (sym (level Ty-F.Char v) ∙ is)
  alike (Ty-F.Int bits) ok is = in_word _ (out-Value v) (sym (level (Ty-F.Int bits) v) ∙ is)
  alike (Ty-F.Nat bits) ok is = in_word _ (out-Value v) (sym (level (Ty-F.Nat bits) v) ∙ is)
  alike (Ty-F.Tuple ts) ok is = let e = sym (ap (is_tuple_of (map (is_value types) ts)) (layer.out-word w)) ∙ sym (level (Ty-F.Tuple ts) (value.Word w)) ∙ ok in cc
  alike (Ty-F.Vector count item) ok is = let e = sym (ap (is_vector_of count (is_value types item)) (layer.out-word w)) ∙ sym (level (Ty-F.Vector count item) (value.Word w)) ∙ ok in cc
  alike (Ty-F.Named k) ok is = elim (found_or_past types.sums k) [
    | inl f ↦ (let e = sym (ap (is_con_of (is_value types) f.0) (layer.out-word w)) ∙ sym (data-value types down k f.0 f.1 (value.Word w)) ∙ subst (λ t. is_value types t (value.Word w) ≡ true) (shape.rolls-Named k) ok in cc)
    | inr past ↦ (let e = sym (named_past types (length types.sums) k (value.Word w) past) ∙ sym (level (Ty-F.Named k) (value.Word w)) ∙ ok in cc)
  ]

words_alike : (types : Types) (down : HoldSmaller types) (t : Ty) (w : ℕ) (v : Value) → is_value types t (value.Word w) ≡ true → is_value types t v ≡ true → (u : ℕ) × (out-Value v ≡ Value-F.Word u)
words_alike types down t w v ok is =
    alike types down w v (out-Ty t) (subst (λ u. is_value types u (value.Word w) ≡ true) (sym (roll-out-Ty t)) ok) (subst (λ u. is_value types u v ≡ true) (sym (roll-out-Ty t)) is)

both_some : (a b : Option (List Value)) (vs : List Value) → both_match a b ≡ Some vs → (x : List Value) × (y : List Value) × (a ≡ Some x) × (b ≡ Some y) × (x ++ y ≡ vs)
both_some None b vs h = cc
both_some (Some x) None vs h = cc
both_some (Some x) (Some y) vs h = (x, y, refl, refl, unwrap _ _ h)

pick_some : (b : Bool) (m : Option (List Value)) (vs : List Value) → (if b then m else None) ≡ Some vs → (b ≡ true) × (m ≡ Some vs)
pick_some true m vs h = (refl, h)
pick_some false m vs h = cc

pub in_con : (types : Types) (sum : SumDef) (l : Value-F Value) → is_con_of (is_value types) sum l ≡ true → (d : ℕ) × (us : List Value) × (l ≡ Value-F.Con d us) × AreOf types (fields_at sum d) us
in_con types sum (Value-F.Con d us) is = (d, us, refl, (and_parts _ _ is).1)
in_con types sum (Value-F.Word w) is = cc
in_con types sum (Value-F.Tuple us) is = cc
in_con types sum (Value-F.Vector us) is = cc

in_tuple : (types : Types) (ts : List Ty) (l : Value-F Value) → is_tuple_of (map (is_value types) ts) l ≡ true → (us : List Value) × (l ≡ Value-F.Tuple us) × AreOf types ts us
in_tuple types ts (Value-F.Tuple us) is = (us, refl, is)
in_tuple types ts (Value-F.Word w) is = cc
in_tuple types ts (Value-F.Vector us) is = cc
in_tuple types ts (Value-F.Con c us) is = cc

one_test : (b : Bool) → go_on_test (Some b) (Some (tried true 0)) ≡ Some (tried b 1)
one_test true = refl
one_test false = refl

-- a test, and then the others if it passed
tag_first : (b : Bool) (rest : Option Tried) (t : Tried) → (b ≡ true → rest ≡ Some t) → go_on_test (Some b) rest ≡ Some (then_tried (tried b 1) t)
tag_first true rest t h = ap (option_map (λ t. then_tried (tried true 1) t)) (h refl)
tag_first false rest t h = refl

module _ (types : Types) (down : HoldSmaller types) (heap : List Object) (below : ℕ) (stack : List ℕ) where
  abbrev at_spot : Spot → Option ℕ
  at_spot = word_of_spot heap below stack

  -- the tests and the variables of a pattern, whose value is found there
  pub record Right (p : PatC) (v : Value) (spot : Spot) : Type 0 where
    pub same : try_all heap below stack (tests_at p spot) ≡ Some (tries p v)
    pub there : (vs : List Value) → matches p v ≡ Some vs → AllAt heap below stack (spots_at p spot) vs

  -- the same for several, by the lists of their tests and spots
  pub record AllRight (ps : List PatC) (us : List Value) (tests : List Test) (spots : List Spot) : Type 0 where
    pub same : try_all heap below stack tests ≡ Some (tries_all ps us)
    pub there : (vs : List Value) → matches_all ps us ≡ Some vs → AllAt heap below stack spots vs

  by_form : (p : PatC) (x : PatC-F PatC) → roll-PatC x ≡ p → (v : Value) (spot : Spot)
      → try_all heap below stack (tests_at_step (map-PatC PatC (Spot → List Test) tests_at x) spot) ≡ Some (tried_step (map-PatC PatC (Value → Tried) tries x) v)
      → ((vs : List Value) → match_step (map-PatC PatC Match matches x) v ≡ Some vs → AllAt heap below stack (spots_at_step (map-PatC PatC (Spot → List Spot) spots_at x) spot) vs)
      → Right p v spot
  by_form p x is v spot a b = record {
    same = ap (try_all heap below stack) (tests_form p x is spot) ∙ a ∙ ap Some (sym (tries_form p x is v));
    there = λ vs h. subst (λ k. AllAt heap below stack k vs) (sym (spots_form p x is spot)) (b vs (sym (matches_form p x is v) ∙ h));
  }

  field_there : (spot : Spot) (u tag : ℕ) (ws : List ℕ) (i x : ℕ) → at_spot spot ≡ Some u → object_at heap u ≡ Some (tag, ws) → slice_get ws i ≡ Some x → at_spot (field_of_spot spot i) ≡ Some x
  field_there spot u tag ws i x at object field =
      further (slice_get stack (below + spot.place)) (at_path heap spot.path) (at_path heap (spot.path ++ i ∷ [])) u x (λ w h. path_more heap spot.path w u tag ws i x h object field) at

  -- the parts are looked at only where the constructor is the pattern's
  con_right : (c : ℕ) (ps : List PatC) (v : Value) (spot : Spot) (d u : ℕ) (us : List Value) (ws : List ℕ) → out-Value v ≡ Value-F.Con d us → at_spot spot ≡ Some u → object_at heap u ≡ Some (d, ws)
      → ((d == c) ≡ true → AllRight ps us (of_fields (map tests_at ps) spot 0) (of_fields (map spots_at ps) spot 0)) → Right (pat.Con c ps) v spot
  con_right c ps v spot d u us ws out at object r =
      by_form (pat.Con c ps) (PatC-F.Con c ps) (pat.rolls-Con c ps) v spot
      (let tag : try_test heap below stack (TagIs spot c) ≡ Some (d == c) =
      ap (λ o. option_map (λ found. found == c) (option_and_then (λ place. tag_of (object_at heap place)) o)) at ∙ ap (λ o. option_map (λ found. found == c) (tag_of o)) object in
      ap (λ o. go_on_test o (try_all heap below stack (of_fields (map tests_at ps) spot 0))) tag
      ∙ tag_first (d == c) _ (tries_all ps us) (λ same. (r same).same) ∙ ap (λ l. Some (con_tried c (map tries ps) l)) (sym out))
      (λ vs h. let k = pick_some (d == c) (matches_all ps us) vs (ap (match_con c (map matches ps)) (sym out) ∙ h) in (r k.0).there vs k.1)

  tuple_right : (ps : List PatC) (v : Value) (spot : Spot) (us : List Value) → out-Value v ≡ Value-F.Tuple us → AllRight ps us (of_fields (map tests_at ps) spot 0) (of_fields (map spots_at ps) spot 0)
      → Right (pat.Tuple ps) v spot
  tuple_right ps v spot us out r =
      by_form (pat.Tuple ps) (PatC-F.Tuple ps) (pat.rolls-Tuple ps) v spot
      (r.same ∙ ap (λ l. Some (tuple_tried (map tries ps) l)) (sym out)) (λ vs h. r.there vs (ap (match_tuple (map matches ps)) (sym out) ∙ h))

  word_right : (w : ℕ) (v : Value) (spot : Spot) (u x : ℕ) → out-Value v ≡ Value-F.Word x → u ≡ x → at_spot spot ≡ Some u → Right (pat.Word w) v spot
  word_right w v spot u x out is at =
      by_form (pat.Word w) (PatC-F.Word w) (pat.rolls-Word w) v spot
      (ap (λ o. go_on_test (option_map (λ found. found == w) o) (Some (tried true 0))) at ∙ one_test (u == w) ∙ ap (λ k. Some (tried (k == w) 1)) is ∙ ap (λ l. Some (word_tried w l)) (sym out))
      (λ vs h. let k = pick_some (x == w) (Some []) vs (ap (match_word w) (sym out) ∙ h) in subst (λ us. AllAt heap below stack [] us) (unwrap _ _ k.1) AllAt.no_spot)

  -- one pattern more
  one_more : (p : PatC) (ps : List PatC) (v : Value) (us : List Value) (spot : Spot) (tests : List Test) (spots : List Spot) → Right p v spot → AllRight ps us tests spots
      → AllRight (p ∷ ps) (v ∷ us) (tests_at p spot ++ tests) (spots_at p spot ++ spots)
  one_more p ps v us spot tests spots a b = record {
    same = try_both heap below stack (tests_at p spot) tests (tries p v) (tries_all ps us) a.same (λ passed. b.same);
    there = λ vs h. (let k = both_some (matches p v) (matches_all ps us) vs h in
        subst (λ us. AllAt heap below stack (spots_at p spot ++ spots) us) k.4 (all_at_both heap below stack (a.there k.0 k.2) (b.there k.1 k.3)));
  }

  none_right : AllRight [] [] [] []
  none_right = record { same = refl; there = λ vs h. subst (λ us. AllAt heap below stack [] us) (unwrap _ _ h) AllAt.no_spot }

  mutual
    pub pattern_right : {t : Ty} {p : PatC} {vars : List Ty} → IsPattern types t p vars → (v : Value) → is_value types t v ≡ true → (spot : Spot) (u : ℕ) → at_spot spot ≡ Some u → Stands heap v u
        → Right p v spot
    pattern_right IsPattern.variable v is spot u at stands =
        by_form pat.Var PatC-F.Var pat.rolls-Var v spot refl (λ vs h. subst (λ us. AllAt heap below stack (spot ∷ []) us) (unwrap _ _ h) (AllAt.at_spot u at stands AllAt.no_spot))
    pattern_right IsPattern.anything v is spot u at stands =
        by_form pat.Any PatC-F.Any pat.rolls-Any v spot refl (λ vs h. subst (λ us. AllAt heap below stack [] us) (unwrap _ _ h) AllAt.no_spot)
    pattern_right (IsPattern.word {ty = t} w ok) v is spot u at stands =
        let x = words_alike types down t w v ok is in word_right w v spot u x.0 x.1 (word_stands stands x.0 x.1) at
    pattern_right (IsPattern.con number c sum {pats = ps} found within parts) v is spot u at stands =
        let k = in_con types sum (out-Value v) (sym (data-value types down number sum found v) ∙ is) in
        let o = con_stands stands k.0 k.1 k.2 in
        con_right c ps v spot k.0 u k.1 o.0 k.2 at o.1
        (λ e. fields_right parts k.1 (subst (λ d. AreOf types (fields_at sum d) k.1) (eqb-true k.0 c e) k.3) o.0 o.2 spot u k.0 [] o.0 at o.1 refl 0 refl)
    pattern_right (IsPattern.tuple {tys = ts} {pats = ps} parts) v is spot u at stands =
        let k = in_tuple types ts (out-Value v) (sym (layer.tuple-value (is_named_value types (length types.sums)) v ts) ∙ is) in
        let o = tuple_stands stands k.0 k.1 in
        tuple_right ps v spot k.0 k.1 (fields_right parts k.0 k.2 o.0 o.2 spot u 0 [] o.0 at o.1 refl 0 refl)

    pub fields_right : {ts : List Ty} {ps : List PatC} {vars : List Ty} → ArePatterns types ts ps vars → (us : List Value) → AreOf types ts us → (ws : List ℕ) → AllStand heap us ws
        → (spot : Spot) (u tag : ℕ) (front all : List ℕ) → at_spot spot ≡ Some u → object_at heap u ≡ Some (tag, all) → all ≡ front ++ ws → (i : ℕ) → length front ≡ i
        → AllRight ps us (of_fields (map tests_at ps) spot i) (of_fields (map spots_at ps) spot i)
    fields_right ArePatterns.none [] is ws stand spot u tag front all at object e i l = none_right
    fields_right ArePatterns.none (v ∷ us) is ws stand spot u tag front all at object e i l = cc
    fields_right (ArePatterns.one first rest) [] is ws stand spot u tag front all at object e i l = cc
    fields_right (ArePatterns.one first rest) (v ∷ us) is [] stand spot u tag front all at object e i l = elim stand [ ]
    fields_right (ArePatterns.one {p = p} {pats = ps} first rest) (v ∷ us) is (w ∷ ws) (AllStand.more one others) spot u tag front all at object e i l =
        let qs = and_parts _ _ is in
        let field : slice_get all i ≡ Some w = ap (λ xs. slice_get xs i) e ∙ ap (slice_get (front ++ w ∷ ws)) (sym l) ∙ get_new front w ws in
        let long : length (front ++ w ∷ []) ≡ suc i = omega (arith, l, length-append front (w ∷ [])) in
        one_more p ps v us (field_of_spot spot i) (of_fields (map tests_at ps) spot (suc i)) (of_fields (map spots_at ps) spot (suc i))
        (pattern_right first v qs.0 (field_of_spot spot i) w (field_there spot u tag all i w at object field) one)
        (fields_right rest us qs.1 ws others spot u tag (front ++ w ∷ []) all at object (e ∙ sym (append_assoc front (w ∷ []) ws)) (suc i) long)

  -- patterns over words of the stack
  pub words_right : {ts : List Ty} {ps : List PatC} {vars : List Ty} → ArePatterns types ts ps vars → (us : List Value) → AreOf types ts us → (ws : List ℕ) → AllStand heap us ws
      → (place : ℕ) → ((i w : ℕ) → slice_get ws i ≡ Some w → slice_get stack (below + (place + i)) ≡ Some w)
      → AllRight ps us (of_words (map tests_at ps) place) (of_words (map spots_at ps) place)
  words_right ArePatterns.none [] is ws stand place there = none_right
  words_right ArePatterns.none (v ∷ us) is ws stand place there = cc
  words_right (ArePatterns.one first rest) [] is ws stand place there = cc
  words_right (ArePatterns.one first rest) (v ∷ us) is [] stand place there = elim stand [ ]
  words_right (ArePatterns.one {p = p} {pats = ps} first rest) (v ∷ us) is (w ∷ ws) (AllStand.more one others) place there =
      let qs = and_parts _ _ is in
      let here : below + (place + 0) ≡ below + place = omega arith in
      let at : slice_get stack (below + place) ≡ Some w = ap (slice_get stack) (sym here) ∙ there 0 w refl in
      one_more p ps v us (root place) (of_words (map tests_at ps) (suc place)) (of_words (map spots_at ps) (suc place))
      (pattern_right first v qs.0 (root place) w (ap (option_and_then (at_path heap [])) at) one)
      (words_right rest us qs.1 ws others (suc place)
      (λ i x found. let e : below + (suc place + i) ≡ below + (place + suc i) = omega arith in ap (slice_get stack) e ∙ there (suc i) x found))
