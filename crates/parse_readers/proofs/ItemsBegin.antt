-- Where the readers of items stop, the tokens in front of the wrong one begin items.
use Rattle.std.proofs.Common.{◌≡◌, ℕ, zero, suc, ◌<◌, ◌≤◌, List, [], ◌∷◌, ◌++◌, length, false, refl, sym, ap, ◌∙◌, inl, inr, arith, append_assoc}
use Rattle.std.specs.Prelude.{Ok, Err}
use Rattle.std.specs.List.{flat_map}
use Rattle.hume_base.specs.declared.symbol.Symbol.TheVariants as symbol
use Rattle.hume_base.specs.declared.token.Kind.{Kind}
use Rattle.hume_base.specs.declared.token.Kind.TheVariants.{Lower}
use Rattle.hume_ast.specs.declared.tree.TyExp.{TyExp}
use Rattle.hume_ast.specs.declared.tree.Pat.{Pat}
use Rattle.hume_ast.specs.declared.tree.Exp.{Exp}
use Rattle.hume_ast.specs.declared.tree.Decl.{Decl}
use Rattle.parse_readers.specs.inner.Readers.{Wrong, ◌>>=◌, made, pick, is_sign, lower_name}
use Rattle.parse_readers.specs.inner.Expressions.{is_lower}
use Rattle.parse_readers.specs.inner.Declarations.{whole_decl}
use Rattle.parse_readers.specs.inner.Items.{Item, Whole, Signature, Equation, Expecting, Outside, Wanting, Within, expecting_after, signature_item, equation_of, equation_item, behind_name, named_item, any_item, item, no_items, items}
use Rattle.parse_readers.proofs.TypesRead.{lower_reads}
use Rattle.parse_readers.proofs.ItemsRead.{spelled_item, MayStand, ItemFits, BehindFits, behind_spell, item_reads, item_shrinks}
use Rattle.parse_readers.proofs.AllItemsRead.{ItemsFit, items_end, items_turn}
use Rattle.parse_readers.proofs.Begins.{Begun, Begins, bind_err, err_same, pick_err, choice_begins, made_begins}
use Rattle.parse_readers.proofs.TypesBegin.{some_type, some_type_fits}
use Rattle.parse_readers.proofs.PatternsBegin.{some_pattern, some_pattern_fits}
use Rattle.parse_readers.proofs.AtomsBegin.{some_exp, some_exp_fits}
use Rattle.parse_readers.proofs.DeclarationsBegin.{whole_decl_begins, signature_begins, equation_begins}

-- an equation of a name
abbrev some_equation : List ℕ → Item
some_equation name = Equation (name, some_pattern ∷ [], some_exp)

-- an item that begins with the name, and may stand there
abbrev some_named : Expecting → List ℕ → Item
some_named Outside name = Signature name (some_type ∷ some_type ∷ [])
some_named Wanting name = some_equation name
some_named Within name = some_equation name

-- what has to stand there before a program may end
abbrev some_items : Expecting → List Item
some_items Outside = []
some_items Wanting = some_equation [] ∷ []
some_items Within = []

module _ (bound : ℕ) (some : 0 < bound) where
  signature_begin : (expecting : Expecting) (name : List ℕ) → ((types : List TyExp) → MayStand expecting (Signature name types)) → Begins (behind_spell bound) (BehindFits bound expecting name) (signature_item bound name)
  signature_begin expecting name h = made_begins (signature_begins bound some) (Signature name) (behind_spell bound) (BehindFits bound expecting name) (λ types f. ((h types, f), refl)) (λ types f. refl)

  equation_begin : (expecting : Expecting) (name : List ℕ) → ((parts : List ℕ × List Pat × Exp) → MayStand expecting (Equation parts)) → Begins (behind_spell bound) (BehindFits bound expecting name) (equation_item bound name)
  equation_begin expecting name h = made_begins (equation_begins bound some) (equation_of name) (behind_spell bound) (BehindFits bound expecting name) (λ a f. ((h (name, a.0, a.1), f), refl)) (λ a f. refl)

  behind_begins : (expecting : Expecting) (name : List ℕ) → Begins (behind_spell bound) (BehindFits bound expecting name) (behind_name bound expecting name)
  behind_begins Outside name = signature_begin Outside name (λ types. tt)
  behind_begins Wanting name = equation_begin Wanting name (λ parts. tt)
  behind_begins Within name = choice_begins (behind_spell bound) (BehindFits bound Within name) (is_sign symbol.DoubleColon) (signature_item bound name) (equation_item bound name) (signature_begin Within name (λ types. tt)) (equation_begin Within name (λ parts. tt))

  named_fits : (expecting : Expecting) (name : List ℕ) → BehindFits bound expecting name (some_named expecting name)
  named_fits Outside name = ((tt, (omega arith, (some_type_fits bound some, (some_type_fits bound some, tt)))), refl)
  named_fits Wanting name = ((tt, ((omega arith, (some_pattern_fits bound 2 (omega arith) some, tt)), some_exp_fits bound bound 1 (omega arith) some)), refl)
  named_fits Within name = ((tt, ((omega arith, (some_pattern_fits bound 2 (omega arith) some, tt)), some_exp_fits bound bound 1 (omega arith) some)), refl)

  named_by : (expecting : Expecting) (name : List ℕ) (ks rest : List Kind) (n : ℕ) → ks ≡ Lower name ∷ rest → Begun (behind_spell bound) (BehindFits bound expecting name) rest n → Begun spelled_item (ItemFits bound expecting) ks n
  named_by expecting name ks rest n is (inl w) = let f = named_fits expecting name in inr (Lower name ∷ [], rest, is, w, some_named expecting name, behind_spell bound (some_named expecting name), f.0, f.1)
  named_by expecting name ks rest n is (inr s) = inr (Lower name ∷ s.0, s.1, is ∙ ap (λ m. Lower name ∷ m) s.2, s.3, s.4, s.5, s.6.0, s.6.1 ∙ ap (λ m. Lower name ∷ m) s.7)

  named_begins : (expecting : Expecting) → Begins spelled_item (ItemFits bound expecting) (named_item bound expecting)
  named_begins expecting ks n e = elim (bind_err (pick lower_name ks) (λ name. behind_name bound expecting name.0 name.1) n e) [
    | inl w ↦ inl (pick_err lower_name ks n w)
    | inr w ↦ named_by expecting w.0.0 ks w.0.1 n.1 (lower_reads.sound ks w.0 w.1).1 (behind_begins expecting w.0.0 w.0.1 n w.2)
  ]

  any_begins : (expecting : Expecting) → ((decl : Decl) → MayStand expecting (Whole decl)) → Begins spelled_item (ItemFits bound expecting) (any_item bound expecting)
  any_begins expecting h = choice_begins spelled_item (ItemFits bound expecting) is_lower (named_item bound expecting) (made Whole (whole_decl bound)) (named_begins expecting)
      (made_begins (whole_decl_begins bound some) Whole spelled_item (ItemFits bound expecting) (λ decl f. (h decl, f)) (λ decl f. refl))

  pub item_begins : (expecting : Expecting) → Begins spelled_item (ItemFits bound expecting) (item bound expecting)
  item_begins Outside = any_begins Outside (λ decl. tt)
  item_begins Wanting = named_begins Wanting
  item_begins Within = any_begins Within (λ decl. tt)

  items_fit : (expecting : Expecting) → ItemsFit bound expecting (some_items expecting)
  items_fit Outside = tt
  items_fit Wanting = ((named_fits Wanting []).0, tt)
  items_fit Within = tt

  abbrev ItemsBegun : Expecting → List Kind → ℕ → Type 0
  ItemsBegun expecting = Begun (flat_map spelled_item) (ItemsFit bound expecting)

  one_by : (expecting : Expecting) (ks : List Kind) (n : ℕ) → Begun spelled_item (ItemFits bound expecting) ks n → ItemsBegun expecting ks n
  one_by expecting ks n (inl w) = inl w
  one_by expecting ks n (inr s) =
      let others = some_items (expecting_after s.4) in
      inr (s.0, s.1, s.2, s.3, s.4 ∷ others, s.5 ++ flat_map spelled_item others, (s.6, items_fit (expecting_after s.4)), ap (λ m. m ++ flat_map spelled_item others) s.7 ∙ append_assoc s.0 s.5 (flat_map spelled_item others))

  more_by : (expecting : Expecting) (ks : List Kind) (n : ℕ) (x : Item × List Kind) → ItemFits bound expecting x.0 → ks ≡ spelled_item x.0 ++ x.1 → ItemsBegun (expecting_after x.0) x.1 n → ItemsBegun expecting ks n
  more_by expecting ks n x f is (inl w) =
      let others = some_items (expecting_after x.0) in
      inr (spelled_item x.0, x.1, is, w, x.0 ∷ others, flat_map spelled_item others, (f, items_fit (expecting_after x.0)), refl)
  more_by expecting ks n x f is (inr s) = inr (
    spelled_item x.0 ++ s.0,
    s.1,
    is ∙ ap (λ m. spelled_item x.0 ++ m) s.2 ∙ sym (append_assoc (spelled_item x.0) s.0 s.1),
    s.3,
    x.0 ∷ s.4,
    s.5,
    (f, s.6),
    ap (λ m. spelled_item x.0 ++ m) s.7 ∙ sym (append_assoc (spelled_item x.0) s.0 s.5),
  )

  over_begins : (expecting : Expecting) (n : Wrong) → no_items expecting [] ≡ Err n → ItemsBegun expecting [] n.1
  over_begins Outside n e = absurd (let g = e in cc)
  over_begins Wanting n e = inl (err_same false 0 n e)
  over_begins Within n e = absurd (let g = e in cc)

  items_by_begin : (most : ℕ) (expecting : Expecting) (ks : List Kind) (n : Wrong) → length ks ≤ most → items bound expecting ks ≡ Err n → ItemsBegun expecting ks n.1
  items_by_begin most expecting [] n h e = over_begins expecting n (sym (items_end bound expecting) ∙ e)
  items_by_begin zero expecting (k ∷ ks) n h e = absurd (omega arith)
  items_by_begin (suc most) expecting (k ∷ ks) n h e =
      elim (bind_err (item bound expecting (k ∷ ks)) (λ x. items bound (expecting_after x.0) x.1 >>= λ others. Ok (x.0 ∷ others.0, others.1)) n (sym (items_turn bound expecting (k ∷ ks) (omega arith)) ∙ e)) [
        | inl w ↦ one_by expecting (k ∷ ks) n.1 (item_begins expecting (k ∷ ks) n w)
        | inr w ↦ elim (bind_err (items bound (expecting_after w.0.0) w.0.1) (λ others. Ok (w.0.0 ∷ others.0, others.1)) n w.2) [
          | inl v ↦
              let s = (item_reads bound expecting).sound (k ∷ ks) w.0 w.1 in
              let less = item_shrinks bound expecting (k ∷ ks) w.0 w.1 in
              more_by expecting (k ∷ ks) n.1 w.0 s.0 s.1 (items_by_begin most (expecting_after w.0.0) w.0.1 n (omega arith) v)
          | inr v ↦ absurd (let g = v.2 in cc)
        ]
      ]

  pub items_begin : (expecting : Expecting) → Begins (flat_map spelled_item) (ItemsFit bound expecting) (items bound expecting)
  items_begin expecting ks n e = items_by_begin (length ks) expecting ks n (omega arith) e
