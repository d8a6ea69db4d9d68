-- A box of a core has one handler at most for an exception.
use Rattle.std.proofs.Common.{◌≡◌, ℕ, zero, suc, ◌<◌, inl, inr, List, [], ◌∷◌, ◌++◌, map, Some, slice_get, refl, ap, sym, subst, ◌∙◌, arith, Bool, ◌||◌, true, false, bytes_eq}
use Rattle.std.proofs.lemmas.Bool.{cases_lt}
use Rattle.std.proofs.lemmas.Option.{slice_get-map}
use Rattle.std.proofs.lemmas.Slice.Eq.{bytes_eq-Decides}
use Rattle.std.specs.Option.{option_map}
use Rattle.hume_base.specs.declared.rule.Rule.TheVariants.{C30}
use Rattle.hume_ast.specs.declared.tree.Decl.{Decl}
use Rattle.hume_ast.specs.declared.tree.Program.{Program}
use Rattle.check_tables.specs.names.Names.{among}
use Rattle.check_names.specs.Names.{repeats}
use Rattle.check_names.specs.DeclaredNames.{handled_of, ports_of}
use Rattle.check_names.specs.Repeated.{repeats_own}
use Rattle.check_names.specs.Misnamed.{BreaksNames}
use Rattle.hume_model.specs.declared.core_tree.ExnDef.{ExnDef}
use Rattle.hume_model.specs.declared.core_tree.HandC.{HandC}
use Rattle.hume_model.specs.declared.core_tree.BoxC.{BoxC}
use Rattle.hume_model.specs.declared.core_tree.NodeC.TheVariants.{Rules}
use Rattle.hume_model.specs.declared.core_tree.Core.{Core}
use Rattle.hume_model.specs.BoxTyping.{BoxHasFrame}
use Rattle.typed_core.specs.Erasing.{erased_handler}
use Rattle.check_typing.specs.Declarations.{CoredHandler, WrittenHandler, IsHandler, cores_alone}
use Rattle.check_typing.specs.declared.signatures.Signatures.{Signatures}
use Rattle.check_typing.proofs.Maybe.{some-same}
use Rattle.check_typing.proofs.NamesFound.{first_stands}
use Rattle.check_rules.specs.CheckRules.{IsFine, BreaksCheck}
use Rattle.check_rules.specs.CoreOf.{IsCoreOf}
use Rattle.check_rules.proofs.Stands.{from_right}
use Rattle.check_rules.proofs.OrderedPlaces.{first_has_name}
use Rattle.check_rules.proofs.CoreTyped.{box_declared, boxes_typed}

pub or_left : (a b : Bool) → a ≡ true → (a || b) ≡ true
or_left true b h = refl
or_left false b h = cc

pub or_right : (a b : Bool) → b ≡ true → (a || b) ≡ true
or_right true b h = refl
or_right false b h = h

among_more : (x : List ℕ) (xs ys : List (List ℕ)) → among x xs ≡ true → among x (xs ++ ys) ≡ true
among_more x [] ys h = cc
among_more x (z ∷ zs) ys h = by (bytes_eq x z) (among_more x zs ys) h
  where
    by : (b : Bool) → (among x zs ≡ true → among x (zs ++ ys) ≡ true) → (b || among x zs) ≡ true → (b || among x (zs ++ ys)) ≡ true
    by true rest h = refl
    by false rest h = rest h

among_last : (x : List ℕ) (xs : List (List ℕ)) → among x (xs ++ x ∷ []) ≡ true
among_last x [] = or_left _ false ((bytes_eq-Decides x x).1 refl)
among_last x (z ∷ zs) = or_right _ _ (among_last x zs)

repeats_known : (earlier names : List (List ℕ)) (j : ℕ) (x : List ℕ) → among x earlier ≡ true → slice_get names j ≡ Some x → repeats earlier names ≡ true
repeats_known earlier [] j x h e = cc
repeats_known earlier (n ∷ ns) zero x h e = or_left (among n earlier) _ (ap (λ n. among n earlier) (some-same _ _ e) ∙ h)
repeats_known earlier (n ∷ ns) (suc j) x h e = or_right (among n earlier) _ (repeats_known (earlier ++ n ∷ []) ns j x (among_more x earlier (n ∷ []) h) e)

-- a name that stands at two places is declared again
pub repeated : (earlier names : List (List ℕ)) (i j : ℕ) (x : List ℕ) → i < j → slice_get names i ≡ Some x → slice_get names j ≡ Some x → repeats earlier names ≡ true
repeated earlier [] i j x lt e f = cc
repeated earlier (n ∷ ns) i zero x lt e f = absurd (omega arith)
repeated earlier (n ∷ ns) zero (suc j) x lt e f =
    or_right (among n earlier) _ (repeats_known (earlier ++ n ∷ []) ns j x
    (subst (λ n. among x (earlier ++ n ∷ []) ≡ true) (sym (some-same n x e)) (among_last x earlier)) f)
repeated earlier (n ∷ ns) (suc i) (suc j) x lt e f = or_right (among n earlier) _ (repeated (earlier ++ n ∷ []) ns i j x (omega arith) e f)

once : (names : List (List ℕ)) → (repeats [] names ≡ true → ⊥) → (i j : ℕ) (x : List ℕ) → slice_get names i ≡ Some x → slice_get names j ≡ Some x → i ≡ j
once names never i j x e f = elim (cases_lt i j) [
  | inl lt ↦ absurd (never (repeated [] names i j x lt e f))
  | inr le ↦ elim (cases_lt j i) [
    | inl lt ↦ absurd (never (repeated [] names j i x lt f e))
    | inr other ↦ (omega arith)
  ]
]

cored_at : {A B : Type 0} (erase : A → B) (cs : List (A × Bool)) (n : ℕ) (y : B) → slice_get (map erase (cores_alone cs)) n ≡ Some y
    → (c : A × Bool) × (slice_get cs n ≡ Some c) × (erase c.0 ≡ y)
cored_at erase [] n y e = cc
cored_at erase (c ∷ cs) zero y e = (c, refl, some-same _ _ e)
cored_at erase (c ∷ cs) (suc n) y e = cored_at erase cs n y e

module _ (text : List ℕ) (program : Program) (core : Core) (fine : IsFine program.decls) (p : IsCoreOf text program core) where
  abbrev of_name : ExnDef → List ℕ
  of_name exn = exn.name

  name_once : (s : Signatures) (number other : ℕ) (a b : ExnDef) → slice_get s.exns number ≡ Some a → slice_get s.exns other ≡ Some b → number ≡ other → a.name ≡ b.name
  name_once s number other a b e f same = ap of_name (some-same a b (sym e ∙ ap (slice_get s.exns) same ∙ f))

  not_again : (n : ℕ) (d : ℕ × Decl) → slice_get program.decls n ≡ Some d → repeats [] (handled_of d.1) ≡ true → ⊥
  not_again n d there again =
      fine (record { rule = C30; declaration = n })
      (BreaksCheck.names (BreaksNames.repeats (record { rule = C30; declaration = n })
      (refl, record { decl = d; at = there; holds = or_right _ (repeats_own d.1) (or_right (repeats [] (ports_of d.1)) _ again) })))

  pub box_has_frame : (n : ℕ) (b : BoxC) → slice_get core.nodes n ≡ Some (Rules b) → BoxHasFrame core b
  box_has_frame n b there =
      let typed = boxes_typed text program core fine p n b there in
      let c = box_declared text program core fine p n b there in
      let box = c.2 in
      let have = box.is.typed in
      record {
        positions = λ number rule at. (typed.rules number rule at).positions;
        handlers = λ number handler at. (typed.handlers number handler at).is;
        apart = λ first second handler other at_first at_second same.
            let x = cored_at erased_handler box.is.handler_cores first handler (ap (λ (hs : List HandC). slice_get hs first) (sym box.is.handlers_are) ∙ at_first) in
            let y = cored_at erased_handler box.is.handler_cores second other (ap (λ (hs : List HandC). slice_get hs second) (sym box.is.handlers_are) ∙ at_second) in
            let v = from_right (IsHandler p.signatures have.outs) box.handlers box.is.handler_cores have.handlers_have first x.0 x.1 in
            let w = from_right (IsHandler p.signatures have.outs) box.handlers box.is.handler_cores have.handlers_have second y.0 y.1 in
            let exns : v.2.number ≡ w.2.number = ap (λ (c : CoredHandler). c.0.exn) (sym v.2.is) ∙ ap (λ (h : HandC). h.exn) x.2 ∙ same
            ∙ sym (ap (λ (h : HandC). h.exn) y.2) ∙ ap (λ (c : CoredHandler). c.0.exn) w.2.is in
            let names : w.0.0 ≡ v.0.0 =
            sym (first_has_name of_name w.0.0 p.signatures.exns w.2.number w.2.exn w.2.known)
            ∙ sym (name_once p.signatures v.2.number w.2.number v.2.exn w.2.exn
            (first_stands of_name v.0.0 p.signatures.exns v.2.number v.2.exn v.2.known) (first_stands of_name w.0.0 p.signatures.exns w.2.number w.2.exn w.2.known) exns)
            ∙ first_has_name of_name v.0.0 p.signatures.exns v.2.number v.2.exn v.2.known in
            once (map (λ (handler : WrittenHandler). handler.0) box.handlers)
            (λ again. not_again c.0.number (c.0.place, c.0.decl) c.1 (subst (λ decl. repeats [] (handled_of decl) ≡ true) (sym box.decl) again))
            first second v.0.0
            (slice_get-map (λ (handler : WrittenHandler). handler.0) box.handlers first ∙ ap (option_map (λ (handler : WrittenHandler). handler.0)) v.1)
            (slice_get-map (λ (handler : WrittenHandler). handler.0) box.handlers second ∙ ap (option_map (λ (handler : WrittenHandler). handler.0)) w.1 ∙ ap Some names);
      }
