-- The declarations that are found are those with which all wires have too many words.
use Rattle.std.proofs.Common.{◌≡◌, ℕ, suc, ◌+◌, ◌*◌, ◌<◌, ◌≤◌, ◌&&◌, nat_lt, nat_le, Bool, true, IsTrue, List, [], ◌∷◌, map, sum, take, length, get_or, Option, Some, None, slice_get, refl, ap, sym, subst, ◌∙◌, arith}
use Rattle.std.specs.List.{cons_option}
use Rattle.std.proofs.Math.Nat.{mul_comm}
use Rattle.std.proofs.lemmas.Bool.{and_parts, lt-ltb, ltb-true, le-leb, leb-true}
use Rattle.std.proofs.lemmas.List.Sums.{sum_by_more, sum_by-cons}
use Rattle.hume_base.specs.Least.{IsFirst}
use Rattle.hume_base.specs.declared.limits.TheConstants.{MAX_WIRE_WORDS}
use Rattle.hume_base.specs.declared.types.Ty.{Ty}
use Rattle.hume_base.specs.Sizes.{size_of}
use Rattle.hume_ast.specs.declared.tree.Decl.{Decl}
use Rattle.hume_ast.specs.declared.tree.Decl.TheVariants.{Wire}
use Rattle.check_names.specs.Names.{OfDecl}
use Rattle.check_typing.specs.declared.signatures.Signatures.{Signatures}
use Rattle.check_rules.specs.CoreOf.{depth_or_one}
use Rattle.check_rules.specs.Declared.{Decls, WireDecl, Numbered, wire_of, wires_in}
use Rattle.check_rules.specs.SignaturesOf.{AreSignatures}
use Rattle.check_rules.specs.SizeRules.{words_of, words_on, PassesWords}
use Rattle.check_wires.specs.declared.types.wires.WireTypes.{WireTypes}
use Rattle.check_wires.specs.types.NodeTypes.{node_types, type_between}
use Rattle.check_wires.proofs.types_lemmas.Found.{found_between}
use Rattle.check_wires.proofs.types_lemmas.WirePlaces.{wires_from, declaration_of, stands, among}
use Rattle.check_sizes.specs.inner.Capped.{capped, words_by, sizes_of}
use Rattle.check_sizes.specs.inner.Passing.{words_between, words_at, all_words, passes}
use Rattle.check_sizes.proofs.SizesAre.{words_are}
use Rattle.check_sizes.proofs.TypeLevels.{sum_more, sum_same, product_capped, twice_capped}

-- one declaration more in the sum
pub one_more : (types : WireTypes) (sizes : List ℕ) (decls : Decls) (i : ℕ) (d : ℕ × Decl) (total more : ℕ) → i < length decls → get_or decls i d ≡ d
    → total ≡ all_words types sizes (take i decls) → more ≡ words_at types sizes d.1 → total + more ≡ all_words types sizes (take (i + 1) decls)
one_more types sizes decls i d total more less at so_far is =
    (λ k. so_far k + is k) ∙ ap (λ (x : ℕ × Decl). all_words types sizes (take i decls) + words_at types sizes x.1) (sym at)
    ∙ sym (sum_by_more (λ (d : ℕ × Decl). words_at types sizes d.1) decls i d less)

-- where the sum so far is within the limit
pub goes_past : (types : WireTypes) (sizes : List ℕ) (decls : Decls) (i : ℕ) (decl : Decl) (total more : ℕ) → total ≤ MAX_WIRE_WORDS
    → total ≡ all_words types sizes (take i decls) → more ≡ words_at types sizes decl → nat_lt MAX_WIRE_WORDS (total + more) ≡ passes types sizes decls i decl
goes_past types sizes decls i decl total more few so_far is =
    ap (λ b. b && nat_lt MAX_WIRE_WORDS (total + more)) (sym (le-leb total MAX_WIRE_WORDS few))
    ∙ (λ k. nat_le (so_far k) MAX_WIRE_WORDS && nat_lt MAX_WIRE_WORDS (so_far k + is k))

module _ (decls : Decls) (s : Signatures) where
  abbrev found : WireTypes
  found = node_types s.types decls

  abbrev sizes : List ℕ
  sizes = sizes_of s.types.sums

  abbrev words : Decl → ℕ
  words decl = words_at found sizes decl

  exact : (type : Option Ty) (depth : ℕ) → capped (words_between sizes type depth) ≡ capped (words_of s.types type depth)
  exact None depth = refl
  exact (Some ty) depth =
      sym (twice_capped (depth * words_by sizes ty)) ∙ ap (λ n. capped (depth * n)) (words_are s.types ty)
      ∙ sym (product_capped depth (size_of s.types ty)) ∙ ap capped (mul_comm depth (size_of s.types ty))

  wire_words : (w : WireDecl) → capped (words_between sizes (type_between found w.from w.to) (depth_or_one w.depth)) ≡ capped (words_on s.types decls w)
  wire_words w =
      exact (type_between found w.from w.to) (depth_or_one w.depth)
      ∙ ap (λ type. capped (words_of s.types type (depth_or_one w.depth))) (found_between s.types decls w)

  abbrev on_wires : List WireDecl → ℕ
  on_wires ws = sum (map (words_on s.types decls) ws)

  -- the words of declarations are those of the wires among them, up to the limit
  words_exact : (n : ℕ) (ds : Decls) → capped (all_words found sizes ds) ≡ capped (on_wires (wires_from n ds))
  words_exact n [] = refl
  words_exact n (d ∷ ds) = ap capped (sum_by-cons (λ (d : ℕ × Decl). words d.1) d ds) ∙ by d.1 (words_exact (suc n) ds)
    where
      one : Decl → Numbered
      one decl = record { number = n; place = d.0; decl = decl }

      by : (decl : Decl) → capped (all_words found sizes ds) ≡ capped (on_wires (wires_from (suc n) ds))
          → capped (words decl + all_words found sizes ds) ≡ capped (on_wires (cons_option (wire_of (one decl) decl) (wires_from (suc n) ds)))
      by (Wire source target count value) rest =
          let w : WireDecl = record { number = n; place = d.0; from = source; to = target; depth = count; initial = value } in
          sum_same _ _ _ _ (wire_words w) rest ∙ ap capped (sym (sum_more (words_on s.types decls) w (wires_from (suc n) ds)))
      by _ rest = ap capped (let e : 0 + all_words found sizes ds ≡ all_words found sizes ds = omega arith in e) ∙ rest

  same_front : (at n : ℕ) → take at (wires_in decls) ≡ wires_from 0 (take n decls)
      → capped (all_words found sizes (take n decls)) ≡ capped (on_wires (take at (wires_in decls)))
  same_front at n e = words_exact 0 (take n decls) ∙ ap (λ ws. capped (on_wires ws)) (sym e)

  and_yes : (a b : Bool) → a ≡ true → b ≡ true → (a && b) ≡ true
  and_yes a b p q = (λ i. p i && q i)

  passes_there : (b e x y : ℕ) → capped b ≡ capped e → capped x ≡ capped y → e ≤ MAX_WIRE_WORDS → MAX_WIRE_WORDS < e + y
      → (nat_le b MAX_WIRE_WORDS && nat_lt MAX_WIRE_WORDS (b + x)) ≡ true
  passes_there b e x y p q before passed =
      and_yes _ _ (le-leb b MAX_WIRE_WORDS (omega arith)) (lt-ltb MAX_WIRE_WORDS (b + x) (omega arith))

  passed_there : (b e x y : ℕ) → capped b ≡ capped e → capped x ≡ capped y → (nat_le b MAX_WIRE_WORDS && nat_lt MAX_WIRE_WORDS (b + x)) ≡ true
      → (e ≤ MAX_WIRE_WORDS) × (MAX_WIRE_WORDS < e + y)
  passed_there b e x y p q h =
      let hs = and_parts (nat_le b MAX_WIRE_WORDS) (nat_lt MAX_WIRE_WORDS (b + x)) h in
      let few = leb-true b MAX_WIRE_WORDS hs.0 in
      let many = ltb-true MAX_WIRE_WORDS (b + x) hs.1 in
      (omega arith, omega arith)

  module _ (are : AreSignatures decls s) (once : (t : Signatures) → AreSignatures decls t → t ≡ s) where
    abbrev IsFound : ℕ → Type 0
    IsFound n = OfDecl decls n (λ decl. IsTrue (passes found sizes decls n decl))

    to_found : (n : ℕ) → PassesWords decls n → IsFound n
    to_found n h =
        let same = once h.signatures h.are in
        let r = stands 0 decls h.at h.wire h.there in
        let number : r.number ≡ n = let e = r.is in let f = h.declared in omega arith in
        let before = subst (λ (t : Signatures). sum (map (words_on t.types decls) (take h.at (wires_in decls))) ≤ MAX_WIRE_WORDS) same h.before in
        let passed = subst (λ (t : Signatures). MAX_WIRE_WORDS < sum (map (words_on t.types decls) (take h.at (wires_in decls))) + words_on t.types decls h.wire) same h.passed in
        record {
          decl = declaration_of h.wire;
          at = ap (slice_get decls) (sym number) ∙ r.there;
          holds = passes_there _ _ _ _ (same_front h.at n (r.before ∙ ap (λ k. wires_from 0 (take k decls)) number)) (wire_words h.wire) before passed;
        }

    of_wire : (n : ℕ) (w : WireDecl) → w.number ≡ n → slice_get decls n ≡ Some (declaration_of w)
        → passes found sizes decls n (declaration_of w).1 ≡ true → PassesWords decls n
    of_wire n w number at h =
        let r = among 0 decls n w (number ∙ omega arith) at in
        let both = passed_there _ _ _ _ (same_front r.at n r.before) (wire_words w) h in
        record { signatures = s; are = are; at = r.at; wire = w; there = r.there; declared = number; before = both.0; passed = both.1 }

    nothing_more : (b : ℕ) → (nat_le b MAX_WIRE_WORDS && nat_lt MAX_WIRE_WORDS (b + 0)) ≡ true → ⊥
    nothing_more b h =
        let hs = and_parts (nat_le b MAX_WIRE_WORDS) (nat_lt MAX_WIRE_WORDS (b + 0)) h in
        let few = leb-true b MAX_WIRE_WORDS hs.0 in
        let many = ltb-true MAX_WIRE_WORDS (b + 0) hs.1 in
        omega arith

    from_found : (n : ℕ) → IsFound n → PassesWords decls n
    from_found n h = by h.decl.1 h.at h.holds
      where
        by : (decl : Decl) → slice_get decls n ≡ Some (h.decl.0, decl) → passes found sizes decls n decl ≡ true → PassesWords decls n
        by (Wire source target count value) at holds =
            of_wire n (record { number = n; place = h.decl.0; from = source; to = target; depth = count; initial = value }) refl at holds
        by _ at holds = absurd (nothing_more (all_words found sizes (take n decls)) holds)

    pub first_passes : (o : Option ℕ) → IsFirst IsFound o → IsFirst (PassesWords decls) o
    first_passes None h = λ i p. h i (to_found i p)
    first_passes (Some i) h = (from_found i h.0, λ j p. h.1 j (to_found j p))
