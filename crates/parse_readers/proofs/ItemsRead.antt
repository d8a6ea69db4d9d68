-- The items that are read.
use Rattle.std.proofs.Common.{◌≡◌, ℕ, ◌<◌, ◌≤◌, List, [], ◌∷◌, ◌++◌, map, length, true, false, refl, sym, ap, ◌∙◌, inl, inr, arith, length-append, append_assoc}
use Rattle.std.specs.Prelude.{Ok}
use Rattle.std.proofs.lemmas.Bool.{cases_Bool}
use Rattle.hume_base.specs.declared.symbol.Symbol.TheVariants as symbol
use Rattle.hume_base.specs.declared.token.Kind.{Kind}
use Rattle.hume_base.specs.declared.token.Kind.TheVariants.{Lower, Sign}
use Rattle.hume_ast.specs.declared.tree.TyExp.{TyExp}
use Rattle.hume_ast.specs.declared.tree.Pat.{Pat}
use Rattle.hume_ast.specs.declared.tree.Exp.{Exp}
use Rattle.hume_ast.specs.declared.tree.Decl.{Decl}
use Rattle.hume_ast.specs.declared.tree.Decl.TheVariants.{Sum, Exn, Fun, BoxD, Stream, Wire}
use Rattle.hume_ast.specs.Spelling.{spelled_ty, spelled_pat, separated, beside, ended, spelled_equation, spelled_decl}
use Rattle.hume_ast.specs.Fits.{Each, OneOrMore, TypeFits, PatFits, EquationFits}
use Rattle.parse_readers.specs.inner.Readers.{behind, next, made, pick, is_sign, lower_name}
use Rattle.parse_readers.specs.inner.Patterns.{starts_pat}
use Rattle.parse_readers.specs.inner.Expressions.{is_lower}
use Rattle.parse_readers.specs.inner.Declarations.{whole_decl}
use Rattle.parse_readers.specs.inner.Items.{Item, Whole, Signature, Equation, Expecting, Outside, Wanting, Within, signature_item, equation_of, equation_item, behind_name, named_item, any_item, item}
use Rattle.parse_readers.proofs.Local.{Local, bind_ok, local_bind, local_choice, local_made}
use Rattle.parse_readers.proofs.TokensApart.{next_token}
use Rattle.parse_readers.proofs.TypesRead.{lower_reads}
use Rattle.parse_readers.proofs.PatternsRead.{first_pat}
use Rattle.parse_readers.proofs.DeclarationsRead.{StandsAlone, WholeFits, whole_decl_reads, signature_reads, equation_reads}
use Rattle.parse_readers.proofs.Forms.{Reads, Anything, Sound, made_sound, made_complete, choice_sound}

-- the tokens of an item
abbrev pub spelled_item : Item → List Kind
spelled_item (Whole decl) = spelled_decl decl
spelled_item (Signature name types) = Lower name ∷ Sign symbol.DoubleColon ∷ ended (separated symbol.Arrow (map spelled_ty types))
spelled_item (Equation parts) = spelled_equation parts

abbrev pub PartsFit : ℕ → Item → Type 0
PartsFit bound (Whole decl) = WholeFits bound decl
PartsFit bound (Signature name types) = (2 ≤ length types) × Each (TypeFits bound) types
PartsFit bound (Equation parts) = EquationFits bound parts

abbrev pub MayStand : Expecting → Item → Type 0
MayStand Outside (Whole decl) = Unit {0}
MayStand Outside (Signature name types) = Unit {0}
MayStand Outside (Equation parts) = ⊥
MayStand Wanting (Whole decl) = ⊥
MayStand Wanting (Signature name types) = ⊥
MayStand Wanting (Equation parts) = Unit {0}
MayStand Within item = Unit {0}

-- an item that may stand there
abbrev pub ItemFits : ℕ → Expecting → Item → Type 0
ItemFits bound expecting item = MayStand expecting item × PartsFit bound item

whole_first : (decl : Decl) (rest : List Kind) → StandsAlone decl → next is_lower (spelled_decl decl ++ rest) ≡ false
whole_first (Sum name constructors) rest f = refl
whole_first (Exn name carries) rest f = refl
whole_first (Fun name types equations) rest f = absurd f
whole_first (BoxD name inputs outputs fair rules handlers) rest f = refl
whole_first (Stream name from port) rest f = refl
whole_first (Wire source target depth initial) rest f = refl

-- what begins a pattern begins no signature
no_colon : (ks : List Kind) → next starts_pat ks ≡ true → next (is_sign symbol.DoubleColon) ks ≡ false
no_colon ks h = elim (cases_Bool (next (is_sign symbol.DoubleColon) ks)) [
  | inl e ↦ absurd (let f : false ≡ true = ap (next starts_pat) (sym (next_token (Sign symbol.DoubleColon) ks e)) ∙ h in cc)
  | inr e ↦ e
]

module _ (bound : ℕ) where
  -- the item begins with this name
  abbrev pub Named : List ℕ → Item → Type 0
  Named name item = spelled_item item ≡ Lower name ∷ behind (spelled_item item)

  abbrev pub BehindFits : Expecting → List ℕ → Item → Type 0
  BehindFits expecting name item = ItemFits bound expecting item × Named name item

  abbrev pub behind_spell : Item → List Kind
  behind_spell item = behind (spelled_item item)

  signature_sound : (expecting : Expecting) (name : List ℕ) → ((types : List TyExp) → MayStand expecting (Signature name types)) → Sound behind_spell (BehindFits expecting name) (signature_item bound name)
  signature_sound expecting name h = made_sound (signature_reads bound) (Signature name) behind_spell (BehindFits expecting name) (λ types f. ((h types, f), refl)) (λ types f. refl)

  equation_sound : (expecting : Expecting) (name : List ℕ) → ((parts : List ℕ × List Pat × Exp) → MayStand expecting (Equation parts)) → Sound behind_spell (BehindFits expecting name) (equation_item bound name)
  equation_sound expecting name h = made_sound (equation_reads bound) (equation_of name) behind_spell (BehindFits expecting name) (λ a f. ((h (name, a.0, a.1), f), refl)) (λ a f. refl)

  behind_sound : (expecting : Expecting) (name : List ℕ) → Sound behind_spell (BehindFits expecting name) (behind_name bound expecting name)
  behind_sound Outside name = signature_sound Outside name (λ types. tt)
  behind_sound Wanting name = equation_sound Wanting name (λ parts. tt)
  behind_sound Within name = choice_sound behind_spell (BehindFits Within name) (is_sign symbol.DoubleColon) (signature_item bound name) (equation_item bound name) (signature_sound Within name (λ types. tt)) (equation_sound Within name (λ parts. tt))

  named_sound : (expecting : Expecting) → Sound spelled_item (ItemFits bound expecting) (named_item bound expecting)
  named_sound expecting ks x e =
      let a = bind_ok (pick lower_name ks) (λ name. behind_name bound expecting name.0 name.1) x e in
      let s = lower_reads.sound ks a.0 a.1 in
      let t = behind_sound expecting a.0.0 a.0.1 x a.2 in
      (t.0.0, s.1 ∙ ap (λ m. Lower a.0.0 ∷ m) t.1 ∙ ap (λ m. m ++ x.1) (sym t.0.1))

  any_sound : (expecting : Expecting) → ((decl : Decl) → MayStand expecting (Whole decl)) → Sound spelled_item (ItemFits bound expecting) (any_item bound expecting)
  any_sound expecting h = choice_sound spelled_item (ItemFits bound expecting) is_lower (named_item bound expecting) (made Whole (whole_decl bound)) (named_sound expecting)
      (made_sound (whole_decl_reads bound) Whole spelled_item (ItemFits bound expecting) (λ decl f. (h decl, f)) (λ decl f. refl))

  item_sound : (expecting : Expecting) → Sound spelled_item (ItemFits bound expecting) (item bound expecting)
  item_sound Outside = any_sound Outside (λ decl. tt)
  item_sound Wanting = named_sound Wanting
  item_sound Within = any_sound Within (λ decl. tt)

  whole_complete : (expecting : Expecting) (decl : Decl) (rest : List Kind) → WholeFits bound decl → any_item bound expecting (spelled_decl decl ++ rest) ≡ Ok (Whole decl, rest)
  whole_complete expecting decl rest f = rw (whole_first decl rest f.0) (made_complete (whole_decl_reads bound) Whole decl rest f tt)

  signature_complete : (name : List ℕ) (types : List TyExp) (rest : List Kind) → PartsFit bound (Signature name types) → signature_item bound name (behind_spell (Signature name types) ++ rest) ≡ Ok (Signature name types, rest)
  signature_complete name types rest f = made_complete (signature_reads bound) (Signature name) types rest f tt

  equation_complete : (parts : List ℕ × List Pat × Exp) (rest : List Kind) → EquationFits bound parts → equation_item bound parts.0 (behind_spell (Equation parts) ++ rest) ≡ Ok (Equation parts, rest)
  equation_complete parts rest f = made_complete (equation_reads bound) (equation_of parts.0) (parts.1, parts.2) rest f tt

  patterns_first : (ps : List Pat) (ks rest : List Kind) → OneOrMore (PatFits bound 2) ps → next starts_pat ((beside (map spelled_pat ps) ++ ks) ++ rest) ≡ true
  patterns_first [] ks rest f = absurd (omega (arith, f.0))
  patterns_first (p ∷ ps) ks rest f = ap (next starts_pat) (simp append_assoc) ∙ first_pat bound p (beside (map spelled_pat ps) ++ (ks ++ rest)) f.1.0

  item_complete : (expecting : Expecting) (l : Item) (rest : List Kind) → ItemFits bound expecting l → Unit {0} → item bound expecting (spelled_item l ++ rest) ≡ Ok (l, rest)
  item_complete Outside (Whole decl) rest f e = whole_complete Outside decl rest f.1
  item_complete Outside (Signature name types) rest f e = signature_complete name types rest f.1
  item_complete Outside (Equation parts) rest f e = absurd f.0
  item_complete Wanting (Whole decl) rest f e = absurd f.0
  item_complete Wanting (Signature name types) rest f e = absurd f.0
  item_complete Wanting (Equation parts) rest f e = equation_complete parts rest f.1
  item_complete Within (Whole decl) rest f e = whole_complete Within decl rest f.1
  item_complete Within (Signature name types) rest f e = signature_complete name types rest f.1
  item_complete Within (Equation parts) rest f e = rw (no_colon (behind_spell (Equation parts) ++ rest) (patterns_first parts.1 _ rest f.1.0)) (equation_complete parts rest f.1)

  signature_local : (name : List ℕ) → Local (signature_item bound name)
  signature_local name = local_made (Signature name) _ (signature_reads bound).local

  equation_local : (name : List ℕ) → Local (equation_item bound name)
  equation_local name = local_made (equation_of name) _ (equation_reads bound).local

  pub behind_local : (expecting : Expecting) (name : List ℕ) → Local (behind_name bound expecting name)
  behind_local Outside name = signature_local name
  behind_local Wanting name = equation_local name
  behind_local Within name = local_choice (is_sign symbol.DoubleColon) (signature_item bound name) (equation_item bound name) (signature_local name) (equation_local name)

  named_local : (expecting : Expecting) → Local (named_item bound expecting)
  named_local expecting = local_bind (pick lower_name) (behind_name bound expecting) lower_reads.local (behind_local expecting)

  any_local : (expecting : Expecting) → Local (any_item bound expecting)
  any_local expecting = local_choice is_lower (named_item bound expecting) (made Whole (whole_decl bound)) (named_local expecting) (local_made Whole _ (whole_decl_reads bound).local)

  item_local : (expecting : Expecting) → Local (item bound expecting)
  item_local Outside = any_local Outside
  item_local Wanting = named_local Wanting
  item_local Within = any_local Within

  pub item_reads : (expecting : Expecting) → Reads spelled_item (ItemFits bound expecting) Anything (item bound expecting)
  item_reads expecting = record { sound = item_sound expecting; complete = item_complete expecting; local = item_local expecting }

some_decl : (decl : Decl) → 0 < length (spelled_decl decl)
some_decl (Sum name constructors) = omega arith
some_decl (Exn name carries) = omega arith
some_decl (Fun name types equations) = omega arith
some_decl (BoxD name inputs outputs fair rules handlers) = omega arith
some_decl (Stream name from port) = omega arith
some_decl (Wire source target depth initial) = omega arith

pub some_item : (l : Item) → 0 < length (spelled_item l)
some_item (Whole decl) = some_decl decl
some_item (Signature name types) = omega arith
some_item (Equation parts) = omega arith

-- an item takes a token at least
pub item_shrinks : (bound : ℕ) (expecting : Expecting) (ks : List Kind) (x : Item × List Kind) → item bound expecting ks ≡ Ok x → length x.1 < length ks
item_shrinks bound expecting ks x e = let s = (item_reads bound expecting).sound ks x e in omega (arith, some_item x.0, ap length s.1, length-append (spelled_item x.0) x.1)
