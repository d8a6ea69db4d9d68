-- The least rule of names, counts, types and limits that a program breaks, or none, can be found out.
use Rattle.std.proofs.Common.{◌≡◌, ℕ, ◌+◌, ◌<◌, ◌≤◌, ◌⊎◌, inl, inr, Bool, true, false, IsTrue, ◌||◌, List, Option, Some, None, length, take, map, sum, slice_get, refl, sym, ap, subst, ◌∙◌, arith}
use Rattle.std.proofs.lemmas.Bool.{cases_eq}
use Rattle.std.proofs.lemmas.Option.{slice_get_within, get_or_from_slice_get, slice_get-get_or}
use Rattle.hume_base.specs.declared.limits.TheConstants.{MAX_DEPTH, MAX_TYPE_WORDS, MAX_WIRE_WORDS}
use Rattle.hume_base.specs.declared.rule.Rule.TheVariants.{C30, C31, C32, C33, C40, C41, C42, C43, C44, C45, C72, C73, C74}
use Rattle.hume_base.specs.declared.finding.Finding.{Finding}
use Rattle.hume_base.specs.declared.types.Ty.{Ty}
use Rattle.hume_base.specs.declared.types.Value.{Value}
use Rattle.hume_base.specs.Rules.{phase_of}
use Rattle.hume_base.specs.Sizes.{size_of}
use Rattle.hume_base.specs.Least.{OfRule}
use Rattle.hume_ast.specs.declared.tree.TyExp.{TyExp}
use Rattle.hume_ast.specs.declared.tree.Exp.{Exp}
use Rattle.hume_ast.specs.declared.tree.Decl.{Decl}
use Rattle.hume_ast.specs.declared.tree.Program.{Program}
use Rattle.hume_ast.specs.Fits.{IsFit}
use Rattle.check_tables.proofs.graph_lemmas.Chains.{cycle_within}
use Rattle.check_names.specs.declared.mention_list.NameKind.TheVariants.{DataType, Function}
use Rattle.check_names.specs.Names.{OfDecl}
use Rattle.check_names.specs.Mentions.{mentions_of}
use Rattle.check_names.specs.Repeated.{RepeatsName, repeats_shared, spaces_in, repeats_own}
use Rattle.check_names.specs.Unknown.{HasUnknownName, mentions_unknown, known_in, names_otherwise, misses_end}
use Rattle.check_names.specs.Leading.{CallsItself, HoldsItself, graph_of}
use Rattle.check_names.specs.Misnamed as names
use Rattle.check_names.specs.Misnamed.{BreaksNames}
use Rattle.check_names.specs.Twice.{BindsTwice, decl_binds_twice}
use Rattle.check_counts.specs.Counted.{counted}
use Rattle.check_counts.specs.CountRules.{Miscounts, declaration_miscounts, HasStrayStar, declaration_has_stray_star}
use Rattle.check_counts.specs.Limits.{PassesLimits, is_full_for, tally_of, has_many_parts}
use Rattle.check_typing.specs.WrittenTypes.{written}
use Rattle.typed_core.specs.declared.typed_tree.TypedDeclaration.{TypedDeclaration}
use Rattle.check_typing.specs.Declarations.{CoredDeclaration, HasNoType, HasWideLiteral}
use Rattle.check_typing.specs.inner.DeclarationWalk.{declaration_walk}
use Rattle.check_typing.specs.declared.signatures.Signatures.{Signatures}
use Rattle.check_typing.proofs.Maybe.{some-same}
use Rattle.check_typing.proofs.DeclarationsAgree.{finds_declaration, finds_none}
use Rattle.check_rules.specs.Declared.{Decls, WireDecl, wires_in}
use Rattle.check_rules.specs.SignaturesOf.{AreSignatures}
use Rattle.check_rules.specs.Constants.{is_built, constant}
use Rattle.check_rules.specs.TypeRules.{IsUntyped, HasLiteralOutOfRange, HasNoInitial, IsNoValue, unbuilt, unfit, wire_type}
use Rattle.check_rules.specs.SizeRules.{HasLargeType, IsTypeOf, one_written, its_own, types_in, own_type, PassesWords, words_on}
use Rattle.check_rules.specs.CheckRules as rules
use Rattle.check_rules.specs.CheckRules.{BreaksCounts, BreaksTypes, BreaksLimits, BreaksCheck}
use Rattle.check_rules.proofs.SignaturesOnce.{the_signatures}
use Rattle.check_rules.proofs.WiresJoin.{wire_stands}
use Rattle.hume_check.proofs.fine_lemmas.Signatures.{some_signatures}
use Rattle.hume_check.proofs.fine_lemmas.Decided.{Decided, decided_true, decided_as, decided_both, decided_le, decided_lt, decided_some, HasLeast, least_of_rule, least_of_two, least_as, least_of_phases}
use Rattle.hume_check.proofs.fine_lemmas.Cycles.{decided_cycle}

none_or : {A : Type 0} (o : Option A) → Decided (o ≡ None)
none_or None = inl refl
none_or (Some x) = inr (λ e. cc)

is_wide : (o : Option CoredDeclaration) → Decided ((trees : TypedDeclaration) × (o ≡ Some (trees, true)))
is_wide None = inr (λ h. let e = h.1 in cc)
is_wide (Some (trees, true)) = inl (trees, refl)
is_wide (Some (trees, false)) = inr (λ h. (let e : false ≡ true = ap (λ (c : CoredDeclaration). c.1) (some-same _ _ h.1) in cc))

-- each rule of a phase is one of it
module _ (decls : Decls) where
  names_phase : (f : Finding) → BreaksNames decls f → phase_of f.rule ≡ 4
  names_phase _ (names.repeats f x) = ap phase_of x.0
  names_phase _ (names.unknown f x) = ap phase_of x.0
  names_phase _ (names.calls_itself f x) = ap phase_of x.0
  names_phase _ (names.holds_itself f x) = ap phase_of x.0

  counts_phase : (f : Finding) → BreaksCounts decls f → phase_of f.rule ≡ 5
  counts_phase f (rules.miscounts x) = ap phase_of x.0
  counts_phase f (rules.binds_twice x) = ap phase_of x.0
  counts_phase f (rules.stray_star x) = ap phase_of x.0

  types_phase : (f : Finding) → BreaksTypes decls f → phase_of f.rule ≡ 6
  types_phase f (rules.untyped x) = ap phase_of x.0
  types_phase f (rules.out_of_range x) = ap phase_of x.0
  types_phase f (rules.no_initial x) = ap phase_of x.0

  limits_phase : (f : Finding) → BreaksLimits decls f → phase_of f.rule ≡ 7
  limits_phase f (rules.passes_limits x) = ap phase_of x.0
  limits_phase f (rules.large_type x) = ap phase_of x.0
  limits_phase f (rules.passes_words x) = ap phase_of x.0

module _ (decls : Decls) where
  -- a test of a declaration
  of_decl : (test : ℕ → Decl → Bool) (i : ℕ) → Decided (OfDecl decls i (λ decl. IsTrue (test i decl)))
  of_decl test i = by (slice_get decls i) refl
    where
      by : (o : Option (ℕ × Decl)) → slice_get decls i ≡ o → Decided (OfDecl decls i (λ decl. IsTrue (test i decl)))
      by None e = inr (λ h. let there = h.at in cc)
      by (Some d) e = decided_as (λ p. record { decl = d; at = e; holds = p })
          (λ h. (let there = h.at in let same : h.decl ≡ d = cc in subst (λ (x : ℕ × Decl). IsTrue (test i x.1)) same h.holds)) (decided_true (test i d.1))

  within : (P : Decl → Type 0) (i : ℕ) → OfDecl decls i P → i < length decls
  within P i h = slice_get_within decls i h.decl h.at

  -- names

  repeats : HasLeast (OfRule C30 (RepeatsName decls))
  repeats = least_of_rule C30 (RepeatsName decls) (length decls) (of_decl (λ i decl. repeats_shared (spaces_in (take i decls)) decl || repeats_own decl)) (λ i h. within _ i h)

  unknown : HasLeast (OfRule C31 (HasUnknownName decls))
  unknown = least_of_rule C31 (HasUnknownName decls) (length decls)
      (of_decl (λ i decl. mentions_unknown (known_in decls) (mentions_of decl) || (names_otherwise decl || misses_end decls decl))) (λ i h. within _ i h)

  calls_itself : HasLeast (OfRule C32 (CallsItself decls))
  calls_itself = let graph : List (List ℕ) = graph_of Function decls in least_of_rule C32 (CallsItself decls) (length graph) (decided_cycle graph) (cycle_within graph)

  holds_itself : HasLeast (OfRule C33 (HoldsItself decls))
  holds_itself = let graph : List (List ℕ) = graph_of DataType decls in least_of_rule C33 (HoldsItself decls) (length graph) (decided_cycle graph) (cycle_within graph)

  abbrev Names : Finding → Type 0
  Names f = OfRule C30 (RepeatsName decls) f ⊎ (OfRule C31 (HasUnknownName decls) f ⊎ (OfRule C32 (CallsItself decls) f ⊎ OfRule C33 (HoldsItself decls) f))

  to_names : (f : Finding) → Names f → BreaksNames decls f
  to_names f p = elim p [
    | inl x ↦ names.repeats f x
    | inr q ↦ elim q [ inl x ↦ names.unknown f x | inr r ↦ elim r [ inl x ↦ names.calls_itself f x | inr x ↦ names.holds_itself f x ] ]
  ]

  from_names : (f : Finding) → BreaksNames decls f → Names f
  from_names _ (names.repeats f x) = inl x
  from_names _ (names.unknown f x) = inr (inl x)
  from_names _ (names.calls_itself f x) = inr (inr (inl x))
  from_names _ (names.holds_itself f x) = inr (inr (inr x))

  least_name : HasLeast (BreaksNames decls)
  least_name = least_as to_names from_names (least_of_two repeats (least_of_two unknown (least_of_two calls_itself holds_itself)))

  -- counts

  miscounts : HasLeast (OfRule C42 (Miscounts decls))
  miscounts = least_of_rule C42 (Miscounts decls) (length decls) (of_decl (λ i decl. declaration_miscounts (counted decls) decl)) (λ i h. within _ i h)

  binds_twice : HasLeast (OfRule C43 (BindsTwice decls))
  binds_twice = least_of_rule C43 (BindsTwice decls) (length decls) (of_decl (λ i decl. decl_binds_twice decl)) (λ i h. within _ i h)

  stray_star : HasLeast (OfRule C44 (HasStrayStar decls))
  stray_star = least_of_rule C44 (HasStrayStar decls) (length decls) (of_decl (λ i decl. declaration_has_stray_star decl)) (λ i h. within _ i h)

  abbrev Counts : Finding → Type 0
  Counts f = OfRule C42 (Miscounts decls) f ⊎ (OfRule C43 (BindsTwice decls) f ⊎ OfRule C44 (HasStrayStar decls) f)

  to_counts : (f : Finding) → Counts f → BreaksCounts decls f
  to_counts f p = elim p [ inl x ↦ rules.miscounts x | inr q ↦ elim q [ inl x ↦ rules.binds_twice x | inr x ↦ rules.stray_star x ] ]

  from_counts : (f : Finding) → BreaksCounts decls f → Counts f
  from_counts f (rules.miscounts x) = inl x
  from_counts f (rules.binds_twice x) = inr (inl x)
  from_counts f (rules.stray_star x) = inr (inr x)

  least_count : HasLeast (BreaksCounts decls)
  least_count = least_as to_counts from_counts (least_of_two miscounts (least_of_two binds_twice stray_star))

  -- types and limits, by the program's signatures

  passes_limits : HasLeast (OfRule C72 (PassesLimits decls))
  passes_limits = least_of_rule C72 (PassesLimits decls) (length decls) (of_decl (λ i decl. is_full_for (tally_of (take i decls)) decl || has_many_parts decl)) (λ i h. within _ i h)

  module _ (s : Signatures) (are : AreSignatures decls s) where
    -- a fact of the signatures and of a declaration
    by_decl : (P : Decl → Type 0) → ((decl : Decl) → Decided (P decl)) → (i : ℕ) → Decided ((d : ℕ × Decl) × (slice_get decls i ≡ Some d) × P d.1)
    by_decl P decided i = by (slice_get decls i) refl
      where
        by : (o : Option (ℕ × Decl)) → slice_get decls i ≡ o → Decided ((d : ℕ × Decl) × (slice_get decls i ≡ Some d) × P d.1)
        by None e = inr (λ h. let there = h.1 in cc)
        by (Some d) e = decided_as (λ p. (d, e, p)) (λ h. (let there = h.1 in let same : h.0 ≡ d = cc in subst (λ (x : ℕ × Decl). P x.1) same h.2)) (decided d.1)

    untyped : HasLeast (OfRule C40 (IsUntyped decls))
    untyped = least_of_rule C40 (IsUntyped decls) (length decls)
        (λ i. decided_as (λ h. record { signatures = s; are = are; decl = h.0; there = h.1; none = h.2 })
        (λ h. (h.decl, h.there, subst (λ t. HasNoType t h.decl.1) (the_signatures decls h.signatures s h.are are) h.none))
        (by_decl (HasNoType s) (λ decl. decided_as (finds_none s decl).1 (finds_none s decl).0 (none_or (declaration_walk s decl))) i))
        (λ i h. slice_get_within decls i h.decl h.there)

    out_of_range : HasLeast (OfRule C41 (HasLiteralOutOfRange decls))
    out_of_range = least_of_rule C41 (HasLiteralOutOfRange decls) (length decls)
        (λ i. decided_as (λ h. record { signatures = s; are = are; decl = h.0; there = h.1; wide = h.2 })
        (λ h. (h.decl, h.there, subst (λ t. HasWideLiteral t h.decl.1) (the_signatures decls h.signatures s h.are are) h.wide))
        (by_decl (HasWideLiteral s) (λ decl. decided_as (λ h. (h.0, (finds_declaration s decl (h.0, true)).1 h.1)) (λ h. (h.0, (finds_declaration s decl (h.0, true)).0 h.1))
        (is_wide (declaration_walk s decl))) i))
        (λ i h. slice_get_within decls i h.decl h.there)

    -- a first value that is none
    no_value : (type : Option Ty) (e : Exp) → Decided (IsNoValue s type e)
    no_value type e = by (is_built e) refl type refl
      where
        fits : (ty : Ty) → type ≡ Some ty → is_built e ≡ true → (o : Option Value) → constant s e ty ≡ o → Decided (IsNoValue s type e)
        fits ty at built None none = inl (unfit ty at none)
        fits ty at built (Some v) is = inr (other ty v at built is)
          where
            other : (ty : Ty) (v : Value) → type ≡ Some ty → is_built e ≡ true → constant s e ty ≡ Some v → IsNoValue s type e → ⊥
            other ty v at built is (unbuilt off) = cc
            other ty v at built is (unfit u there none) =
                let same : u ≡ ty = (let x = sym there ∙ at in cc) in
                let none : constant s e ty ≡ None = subst (λ t. constant s e t ≡ None) same none in cc

        untyped_end : type ≡ None → is_built e ≡ true → IsNoValue s type e → ⊥
        untyped_end at built (unbuilt off) = cc
        untyped_end at built (unfit u there none) = cc

        by : (b : Bool) → is_built e ≡ b → (o : Option Ty) → type ≡ o → Decided (IsNoValue s type e)
        by false off o at = inl (unbuilt off)
        by true built None at = inr (untyped_end at built)
        by true built (Some ty) at = fits ty at built (constant s e ty) refl

    no_initial_of : (w : WireDecl) → Decided ((value : Exp) × (w.initial ≡ Some value) × IsNoValue s (wire_type s.types decls w) value)
    no_initial_of w = by w.initial refl
      where
        by : (o : Option Exp) → w.initial ≡ o → Decided ((value : Exp) × (w.initial ≡ Some value) × IsNoValue s (wire_type s.types decls w) value)
        by None e = inr (λ h. let there = h.1 in cc)
        by (Some value) e = decided_as (λ p. (value, e, p))
            (λ h. (let there = h.1 in let same : h.0 ≡ value = cc in subst (IsNoValue s (wire_type s.types decls w)) same h.2)) (no_value (wire_type s.types decls w) value)

    no_initial : HasLeast (OfRule C45 (HasNoInitial decls))
    no_initial = least_of_rule C45 (HasNoInitial decls) (length decls)
        (λ i. decided_as
        (λ h. record { signatures = s; are = are; at = h.0; wire = h.1; there = h.2; declared = h.3.0; value = h.3.1.0; written_value = h.3.1.1; none = h.3.1.2 })
        (λ h. (h.at, h.wire, h.there, (h.declared, (h.value, h.written_value, subst (λ (t : Signatures). IsNoValue t (wire_type t.types decls h.wire) h.value) (the_signatures decls h.signatures s h.are are) h.none))))
        (decided_some (λ at (w : WireDecl). (w.number ≡ i) × ((value : Exp) × (w.initial ≡ Some value) × IsNoValue s (wire_type s.types decls w) value)) (wires_in decls)
        (λ at w. decided_both (cases_eq w.number i) (no_initial_of w))))
        (λ i h. subst (λ n. n < length decls) h.declared (slice_get_within decls h.wire.number _ (wire_stands decls h.at h.wire h.there)))

    abbrev Typed : Finding → Type 0
    Typed f = OfRule C40 (IsUntyped decls) f ⊎ (OfRule C41 (HasLiteralOutOfRange decls) f ⊎ OfRule C45 (HasNoInitial decls) f)

    to_types : (f : Finding) → Typed f → BreaksTypes decls f
    to_types f p = elim p [ inl x ↦ rules.untyped x | inr q ↦ elim q [ inl x ↦ rules.out_of_range x | inr x ↦ rules.no_initial x ] ]

    from_types : (f : Finding) → BreaksTypes decls f → Typed f
    from_types f (rules.untyped x) = inl x
    from_types f (rules.out_of_range x) = inr (inl x)
    from_types f (rules.no_initial x) = inr (inr x)

    least_type : HasLeast (BreaksTypes decls)
    least_type = least_as to_types from_types (least_of_two untyped (least_of_two out_of_range no_initial))

    -- a type that is too large
    abbrev Large : Option Ty → Type 0
    Large o = (ty : Ty) × (o ≡ Some ty) × (MAX_TYPE_WORDS < size_of s.types ty)

    large : (o : Option Ty) → Decided (Large o)
    large None = inr (λ h. let there = h.1 in cc)
    large (Some ty) = decided_as (λ p. (ty, refl, p)) (λ h. (let there = h.1 in let same : h.0 ≡ ty = cc in subst (λ t. MAX_TYPE_WORDS < size_of s.types t) same h.2))
        (decided_lt MAX_TYPE_WORDS (size_of s.types ty))

    large_of : (decl : Decl) → Decided ((ty : Ty) × IsTypeOf s.types decl ty × (MAX_TYPE_WORDS < size_of s.types ty))
    large_of decl = elim (large (own_type s.types decl)) [
      | inl h ↦ inl (h.0, its_own h.1, h.2)
      | inr not_own ↦ elim (decided_some (λ i e. Large (written s.types e)) (types_in decl) (λ i e. large (written s.types e))) [
        | inl h ↦ inl (h.3.0, one_written h.1 (h.0, slice_get_within (types_in decl) h.0 h.1 h.2, get_or_from_slice_get (types_in decl) h.0 h.1 h.1 h.2) h.3.1, h.3.2)
        | inr none ↦ inr (λ h. neither not_own none h.0 h.1 h.2)
      ]
    ]
      where
        neither : (Large (own_type s.types decl) → ⊥) → (((i : ℕ) × (e : TyExp) × (slice_get (types_in decl) i ≡ Some e) × Large (written s.types e)) → ⊥)
            → (ty : Ty) → IsTypeOf s.types decl ty → MAX_TYPE_WORDS < size_of s.types ty → ⊥
        neither not_own none ty (one_written e among is) lt =
            none (among.0, e, slice_get-get_or (types_in decl) among.0 e among.1 ∙ ap (λ x. Some x) among.2, (ty, is, lt))
        neither not_own none ty (its_own is) lt = not_own (ty, is, lt)

    large_type : HasLeast (OfRule C73 (HasLargeType decls))
    large_type = least_of_rule C73 (HasLargeType decls) (length decls)
        (λ i. decided_as (λ h. record { signatures = s; are = are; decl = h.0; there = h.1; ty = h.2.0; of = h.2.1; large = h.2.2 })
        (λ h. (let same : h.signatures ≡ s = the_signatures decls h.signatures s h.are are in
        (h.decl, h.there, (h.ty, subst (λ (t : Signatures). IsTypeOf t.types h.decl.1 h.ty) same h.of, subst (λ (t : Signatures). MAX_TYPE_WORDS < size_of t.types h.ty) same h.large))))
        (by_decl (λ decl. (ty : Ty) × IsTypeOf s.types decl ty × (MAX_TYPE_WORDS < size_of s.types ty)) large_of i))
        (λ i h. slice_get_within decls i h.decl h.there)

    -- the words on the wires before this one
    abbrev before : Signatures → ℕ → ℕ
    before t at = sum (map (words_on t.types decls) (take at (wires_in decls)))

    passes_words : HasLeast (OfRule C74 (PassesWords decls))
    passes_words = least_of_rule C74 (PassesWords decls) (length decls)
        (λ i. decided_as (λ h. record { signatures = s; are = are; at = h.0; wire = h.1; there = h.2; declared = h.3.0; before = h.3.1.0; passed = h.3.1.1 })
        (λ h. (let same : h.signatures ≡ s = the_signatures decls h.signatures s h.are are in (
          h.at,
          h.wire,
          h.there,
          (
            h.declared,
            (
              subst (λ t. before t h.at ≤ MAX_WIRE_WORDS) same h.before,
              subst (λ (t : Signatures). MAX_WIRE_WORDS < before t h.at + words_on t.types decls h.wire) same h.passed,
            ),
          ),
        )))
        (decided_some (λ at (w : WireDecl). (w.number ≡ i) × ((before s at ≤ MAX_WIRE_WORDS) × (MAX_WIRE_WORDS < before s at + words_on s.types decls w))) (wires_in decls)
        (λ at w. decided_both (cases_eq w.number i) (decided_both (decided_le (before s at) MAX_WIRE_WORDS) (decided_lt MAX_WIRE_WORDS (before s at + words_on s.types decls w))))))
        (λ i h. subst (λ n. n < length decls) h.declared (slice_get_within decls h.wire.number _ (wire_stands decls h.at h.wire h.there)))

    abbrev Limited : Finding → Type 0
    Limited f = OfRule C72 (PassesLimits decls) f ⊎ (OfRule C73 (HasLargeType decls) f ⊎ OfRule C74 (PassesWords decls) f)

    to_limits : (f : Finding) → Limited f → BreaksLimits decls f
    to_limits f p = elim p [ inl x ↦ rules.passes_limits x | inr q ↦ elim q [ inl x ↦ rules.large_type x | inr x ↦ rules.passes_words x ] ]

    from_limits : (f : Finding) → BreaksLimits decls f → Limited f
    from_limits f (rules.passes_limits x) = inl x
    from_limits f (rules.large_type x) = inr (inl x)
    from_limits f (rules.passes_words x) = inr (inr x)

    least_limit : HasLeast (BreaksLimits decls)
    least_limit = least_as to_limits from_limits (least_of_two passes_limits (least_of_two large_type passes_words))

  -- the phases one after another

  earlier : (a b m n : ℕ) → a ≡ m → b ≡ n → m < n → a < b
  earlier a b m n p q r = omega (arith, p, q, r)

  abbrev Late : Finding → Type 0
  Late f = BreaksTypes decls f ⊎ BreaksLimits decls f

  abbrev Early : Finding → Type 0
  Early f = BreaksNames decls f ⊎ BreaksCounts decls f

  to_check : (f : Finding) → Early f ⊎ Late f → BreaksCheck decls f
  to_check f p = elim p [
    | inl q ↦ elim q [ inl x ↦ rules.names x | inr x ↦ rules.counts x ]
    | inr q ↦ elim q [ inl x ↦ rules.types x | inr x ↦ rules.limits x ]
  ]

  from_check : (f : Finding) → BreaksCheck decls f → Early f ⊎ Late f
  from_check f (rules.names x) = inl (inl x)
  from_check f (rules.counts x) = inl (inr x)
  from_check f (rules.types x) = inr (inl x)
  from_check f (rules.limits x) = inr (inr x)

  least_early : HasLeast Early
  least_early = least_of_phases least_name (λ none. least_count)
      (λ x f p q. earlier (phase_of x.rule) (phase_of f.rule) 4 5 (names_phase decls x p) (counts_phase decls f q) (omega arith))

  least_late : (s : Signatures) → AreSignatures decls s → HasLeast Late
  least_late s are = least_of_phases (least_type s are) (λ none. least_limit s are)
      (λ x f p q. earlier (phase_of x.rule) (phase_of f.rule) 6 7 (types_phase decls x p) (limits_phase decls f q) (omega arith))

  early_first : (x f : Finding) → Early x → Late f → phase_of x.rule < phase_of f.rule
  early_first x f p q = omega (arith, early_phase p, late_phase q)
    where
      early_phase : Early x → phase_of x.rule < 6
      early_phase p = elim p [ inl h ↦ omega (arith, names_phase decls x h) | inr h ↦ omega (arith, counts_phase decls x h) ]

      late_phase : Late f → 5 < phase_of f.rule
      late_phase q = elim q [ inl h ↦ omega (arith, types_phase decls f h) | inr h ↦ omega (arith, limits_phase decls f h) ]

-- each program breaks a least rule, or none
pub least_broken : (program : Program) → IsFit program → HasLeast (BreaksCheck program.decls)
least_broken program fit = least_as (to_check program.decls) (from_check program.decls) (least_of_phases (least_early program.decls)
    (λ fine. (let has = some_signatures program.decls MAX_DEPTH fit (λ f h. fine f (inl h)) (λ f h. fine f (inr h)) in least_late program.decls has.0 has.1))
    (early_first program.decls))
