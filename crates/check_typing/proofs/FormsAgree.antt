-- The walk finds exactly what is said of an expression, form by form.
use Rattle.std.proofs.Common.{◌≡◌, ℕ, List, [], ◌∷◌, ◌++◌, Option, Some, None, refl, ap, sym, subst, ◌∙◌, Bool, true, false, ◌&&◌}
use Rattle.hume_base.specs.declared.types.Ty.{Ty, Bool as BoolTy, Char as CharTy}
use Rattle.hume_ast.specs.declared.tree.BinOp.{BinOp}
use Rattle.hume_ast.specs.declared.tree.BinOp.TheVariants as sign
use Rattle.hume_ast.specs.declared.tree.TyExp.{TyExp}
use Rattle.hume_model.specs.declared.core_tree.Op.{Op}
use Rattle.hume_model.specs.declared.core_tree.Op.TheVariants as op
use Rattle.hume_model.specs.declared.core_tree.ExnDef.{ExnDef}
use Rattle.hume_model.specs.Typing.{is_number_type, is_comparison}
use Rattle.check_typing.specs.Partial.{given, when}
use Rattle.check_typing.specs.Signatures.{Scope, exn_named}
use Rattle.check_typing.specs.WrittenTypes.{written}
use Rattle.check_typing.specs.Cores.{Cored, letter_core, truth_core, literal_core, let_core, if_core, and_core, or_core, operation_core, neg_core, not_core, convert_core, index_core, update_core, raise_core, raise_with_core}
use Rattle.check_typing.specs.Typing.{Judged, int32, closed, opened, FirstType, either_type, literal_typing, letter_typing, truth_typing, let_typing, Branches, if_typing, RaisedAlone, RaisedWith, raise_typing, raise_with_typing, Arithmetic, arithmetic_typing, comparison_typing, logic_typing, not_typing, neg_typing, index_typing, Updated, update_typing, cast_typing, star_typing, binary_typing}
use Rattle.check_typing.specs.inner.SameTypes.{is_same}
use Rattle.check_typing.specs.inner.Walk.{Typed, Walk, expected, closed_walk, of_type, opened_walk, vector_parts, literal_walk, letter_walk, truth_walk, let_walk, two_against, two_own, if_walk, carries_none, raised_alone, raise_walk, raised_with, raise_with_walk, arithmetic_walk, comparison_walk, logic_walk, not_walk, neg_walk, index_walk, updated, update_walk, cast_walk, star_walk, binary_walk}
use Rattle.check_typing.specs.declared.signatures.Signatures.{Signatures}
use Rattle.check_typing.proofs.Maybe.{given-at, given-inv, when-at, when-inv, some-same, vector_parts-at, vector_parts-inv}
use Rattle.check_typing.proofs.SameTypes.{is_same-Decides}

pub record Agrees (j : Judged) (w : Walk) : Type 0 where
  pub is_open : j.is_open ≡ w.is_open
  pub has_own : (scope : Scope) (t : Ty) (c : Cored) → j.has scope t c → w.own scope ≡ Some (t, c)
  pub own_has : (scope : Scope) (t : Ty) (c : Cored) → w.own scope ≡ Some (t, c) → j.has scope t c
  pub checked_against : (scope : Scope) (t : Ty) (c : Cored) → j.checked scope t c → w.against scope t ≡ Some c
  pub against_checked : (scope : Scope) (t : Ty) (c : Cored) → w.against scope t ≡ Some c → j.checked scope t c
  -- what an expression has by itself it may be checked against, with the same core
  pub own_against : (scope : Scope) (t : Ty) (c : Cored) → w.own scope ≡ Some (t, c) → w.against scope t ≡ Some c

pub agrees_closed : (has : Scope → Ty → Cored → Type 0) (own : Scope → Option Typed)
    → ((scope : Scope) (t : Ty) (c : Cored) → has scope t c → own scope ≡ Some (t, c)) → ((scope : Scope) (t : Ty) (c : Cored) → own scope ≡ Some (t, c) → has scope t c)
    → Agrees (closed has) (closed_walk own)
agrees_closed has own to from = record {
  is_open = refl;
  has_own = to;
  own_has = from;
  checked_against = λ scope t c h. against scope t c (to scope t c h);
  against_checked = λ scope t c h.
      let a = given-inv (own scope) (λ p. when (is_same p.0 t) (Some p.1)) c h in
      let b = when-inv (is_same a.0.0 t) (Some a.0.1) c a.2 in
      let same : a.0.0 ≡ t = (is_same-Decides a.0.0 t).0 b.0 in
      let core : a.0.1 ≡ c = some-same _ _ b.1 in
      from scope t c (a.1 ∙ (λ i. Some (same i, core i)));
  own_against = against;
}
  where
    against : (scope : Scope) (t : Ty) (c : Cored) → own scope ≡ Some (t, c) → expected (own scope) t ≡ Some c
    against scope t c e = given-at (own scope) (λ p. when (is_same p.0 t) (Some p.1)) (t, c) e
        ∙ when-at (is_same t t) (Some c) ((is_same-Decides t t).1 refl)

pub agrees_opened : (checked : Scope → Ty → Cored → Type 0) (against : Scope → Ty → Option Cored)
    → ((scope : Scope) (t : Ty) (c : Cored) → checked scope t c → against scope t ≡ Some c) → ((scope : Scope) (t : Ty) (c : Cored) → against scope t ≡ Some c → checked scope t c)
    → Agrees (opened checked) (opened_walk against)
agrees_opened checked against to from = record {
  is_open = refl;
  has_own = λ scope t c h. given-at (against scope int32) (λ c. Some (int32, c)) c (to scope int32 c (subst (λ u. checked scope u c) h.0 h.1))
      ∙ (λ i. Some (sym h.0 i, c));
  own_has = λ scope t c h. let p = both scope t c h in (p.0, from scope t c p.1);
  checked_against = to;
  against_checked = from;
  own_against = λ scope t c h. (both scope t c h).1;
}
  where
    both : (scope : Scope) (t : Ty) (c : Cored) → of_type int32 (against scope int32) ≡ Some (t, c) → (t ≡ int32) × (against scope t ≡ Some c)
    both scope t c h =
        let a = given-inv (against scope int32) (λ c. Some (int32, c)) (t, c) h in
        let e : (int32, a.0) ≡ (t, c) = some-same _ _ a.2 in
        let is : int32 ≡ t = ap (λ p. p.0) e in
        (sym is, ap (against scope) (sym is) ∙ a.1 ∙ ap (λ p. Some p.1) e)

pub agrees_literal : (negative : Bool) (amount : ℕ) → Agrees (literal_typing negative amount) (literal_walk negative amount)
agrees_literal negative amount = agrees_opened _ _
    (λ scope t c h. when-at _ _ h.0 ∙ ap Some (sym h.1))
    (λ scope t c h. let a = when-inv (is_number_type t) (Some (literal_core negative amount t)) c h in (a.0, sym (some-same _ _ a.1)))

pub agrees_truth : (b : Bool) → Agrees (truth_typing b) (truth_walk b)
agrees_truth b = agrees_closed _ _
    (λ scope t c h. λ i. Some (sym h.0 i, sym h.1 i))
    (λ scope t c h. let e : (BoolTy, truth_core b) ≡ (t, c) = some-same _ _ h in (sym (ap (λ p. p.0) e), sym (ap (λ p. p.1) e)))

pub agrees_letter : (b : ℕ) → Agrees (letter_typing b) (letter_walk b)
agrees_letter b = agrees_closed _ _
    (λ scope t c h. λ i. Some (sym h.0 i, sym h.1 i))
    (λ scope t c h. let e : (CharTy, letter_core b) ≡ (t, c) = some-same _ _ h in (sym (ap (λ p. p.0) e), sym (ap (λ p. p.1) e)))

pub agrees_star : Agrees star_typing star_walk
agrees_star = agrees_closed _ _ (λ scope t c h. absurd h) (λ scope t c h. cc)

pub agrees_let : (x : List ℕ) (ja jb : Judged) (a b : Walk) → Agrees ja a → Agrees jb b → Agrees (let_typing x ja jb) (let_walk x a b)
agrees_let x ja jb a b p q = record {
  is_open = q.is_open;
  has_own = λ scope t c h. given-at _ _ (h.0, h.1) (p.has_own scope h.0 h.1 h.3) ∙ given-at _ _ (t, h.2) (q.has_own _ t h.2 h.4)
      ∙ (λ i. Some (t, sym h.5 i));
  own_has = λ scope t c h.
      let k = own scope t c h in
      (k.0, k.1, k.2, p.own_has scope k.0 k.1 k.3, q.own_has _ t k.2 k.4, k.5);
  checked_against = λ scope t c h. given-at _ _ (h.0, h.1) (p.has_own scope h.0 h.1 h.3) ∙ given-at _ _ h.2 (q.checked_against _ t h.2 h.4)
      ∙ ap Some (sym h.5);
  against_checked = λ scope t c h.
      let k = given-inv (a.own scope) (λ p. given (b.against (scope ++ (x, p.0) ∷ []) t) (λ d. Some (let_core p.0 p.1 d))) c h in
      let m = given-inv (b.against (scope ++ (x, k.0.0) ∷ []) t) (λ d. Some (let_core k.0.0 k.0.1 d)) c k.2 in
      (k.0.0, k.0.1, m.0, p.own_has scope k.0.0 k.0.1 k.1, q.against_checked _ t m.0 m.1, sym (some-same _ _ m.2));
  own_against = λ scope t c h.
      let k = own scope t c h in
      given-at _ _ (k.0, k.1) k.3 ∙ given-at _ _ k.2 (q.own_against _ t k.2 k.4) ∙ ap Some (sym k.5);
}
  where
    own : (scope : Scope) (t : Ty) (c : Cored) → (let_walk x a b).own scope ≡ Some (t, c)
        → (u : Ty) × (first : Cored) × (second : Cored) × (a.own scope ≡ Some (u, first)) × (b.own (scope ++ (x, u) ∷ []) ≡ Some (t, second))
        × (c ≡ let_core u first second)
    own scope t c h =
        let k = given-inv (a.own scope) (λ p. given (b.own (scope ++ (x, p.0) ∷ [])) (λ q. Some (q.0, let_core p.0 p.1 q.1))) (t, c) h in
        let m = given-inv (b.own (scope ++ (x, k.0.0) ∷ [])) (λ q. Some (q.0, let_core k.0.0 k.0.1 q.1)) (t, c) k.2 in
        let e : (m.0.0, let_core k.0.0 k.0.1 m.0.1) ≡ (t, c) = some-same _ _ m.2 in
        (k.0.0, k.0.1, m.0.1, k.1, m.1 ∙ (λ i. Some ((e i).0, m.0.1)), sym (ap (λ r. r.1) e))

-- two parts of one type
module _ (ja jb : Judged) (a b : Walk) (p : Agrees ja a) (q : Agrees jb b) where
  abbrev First : Bool → Bool → Scope → Ty → Type 0
  First a_open b_open scope t = either_type a_open (either_type b_open (t ≡ int32) ((c : Cored) × jb.has scope t c)) ((c : Cored) × ja.has scope t c)

  two_to : (oa ob : Bool) (scope : Scope) (t : Ty) (c d : Cored) → First oa ob scope t → ja.checked scope t c → jb.checked scope t d
      → two_own oa ob a b scope ≡ Some (t, c, d)
  two_to false ob scope t c d f x y =
      let same : f.0 ≡ c = some-same _ _ (sym (p.own_against scope t f.0 (p.has_own scope t f.0 f.1)) ∙ p.checked_against scope t c x) in
      given-at _ _ (t, f.0) (p.has_own scope t f.0 f.1) ∙ given-at _ _ d (q.checked_against scope t d y) ∙ (λ i. Some (t, same i, d))
  two_to true false scope t c d f x y =
      let same : f.0 ≡ d = some-same _ _ (sym (q.own_against scope t f.0 (q.has_own scope t f.0 f.1)) ∙ q.checked_against scope t d y) in
      given-at _ _ (t, f.0) (q.has_own scope t f.0 f.1) ∙ given-at _ _ c (p.checked_against scope t c x) ∙ (λ i. Some (t, c, same i))
  two_to true true scope t c d f x y =
      given-at _ _ c (ap (a.against scope) (sym f) ∙ p.checked_against scope t c x) ∙ given-at _ _ d (ap (b.against scope) (sym f)
      ∙ q.checked_against scope t d y) ∙ (λ i. Some (sym f i, c, d))

  two_from : (oa ob : Bool) (scope : Scope) (t : Ty) (c d : Cored) → two_own oa ob a b scope ≡ Some (t, c, d)
      → First oa ob scope t × ja.checked scope t c × jb.checked scope t d
  two_from false ob scope t c d h =
      let k = given-inv (a.own scope) (λ p. given (b.against scope p.0) (λ d. Some (p.0, p.1, d))) (t, c, d) h in
      let m = given-inv (b.against scope k.0.0) (λ d. Some (k.0.0, k.0.1, d)) (t, c, d) k.2 in
      let e : (k.0.0, k.0.1, m.0) ≡ (t, c, d) = some-same _ _ m.2 in
      let own : a.own scope ≡ Some (t, c) = k.1 ∙ (λ i. Some ((e i).0, (e i).1)) in
      let against : b.against scope t ≡ Some d = subst (λ r. b.against scope r.0 ≡ Some r.2) e m.1 in
      ((c, p.own_has scope t c own), p.against_checked scope t c (p.own_against scope t c own), q.against_checked scope t d against)
  two_from true false scope t c d h =
      let k = given-inv (b.own scope) (λ p. given (a.against scope p.0) (λ c. Some (p.0, c, p.1))) (t, c, d) h in
      let m = given-inv (a.against scope k.0.0) (λ c. Some (k.0.0, c, k.0.1)) (t, c, d) k.2 in
      let e : (k.0.0, m.0, k.0.1) ≡ (t, c, d) = some-same _ _ m.2 in
      let own : b.own scope ≡ Some (t, d) = k.1 ∙ (λ i. Some ((e i).0, (e i).2)) in
      let against : a.against scope t ≡ Some c = subst (λ r. a.against scope r.0 ≡ Some r.1) e m.1 in
      ((d, q.own_has scope t d own), p.against_checked scope t c against, q.against_checked scope t d (q.own_against scope t d own))
  two_from true true scope t c d h =
      let k = given-inv (a.against scope int32) (λ c. given (b.against scope int32) (λ d. Some (int32, c, d))) (t, c, d) h in
      let m = given-inv (b.against scope int32) (λ d. Some (int32, k.0, d)) (t, c, d) k.2 in
      let e : (int32, k.0, m.0) ≡ (t, c, d) = some-same _ _ m.2 in
      let left : a.against scope t ≡ Some c = subst (λ r. a.against scope r.0 ≡ Some r.1) e k.1 in
      let right : b.against scope t ≡ Some d = subst (λ r. b.against scope r.0 ≡ Some r.2) e m.1 in
      (sym (ap (λ r. r.0) e), p.against_checked scope t c left, q.against_checked scope t d right)

  -- with what the walk says of which is open
  two_own_to : (scope : Scope) (t : Ty) (c d : Cored) → FirstType (ja ∷ jb ∷ []) scope t → ja.checked scope t c → jb.checked scope t d
      → two_own a.is_open b.is_open a b scope ≡ Some (t, c, d)
  two_own_to scope t c d f x y = (λ i. two_own (sym p.is_open i) (sym q.is_open i) a b scope) ∙ two_to ja.is_open jb.is_open scope t c d f x y

  two_own_from : (scope : Scope) (t : Ty) (c d : Cored) → two_own a.is_open b.is_open a b scope ≡ Some (t, c, d)
      → FirstType (ja ∷ jb ∷ []) scope t × ja.checked scope t c × jb.checked scope t d
  two_own_from scope t c d h = two_from ja.is_open jb.is_open scope t c d ((λ i. two_own (p.is_open i) (q.is_open i) a b scope) ∙ h)

  two_against_to : (scope : Scope) (t : Ty) (c d : Cored) → ja.checked scope t c → jb.checked scope t d → two_against a b scope t ≡ Some (c, d)
  two_against_to scope t c d x y = given-at _ _ c (p.checked_against scope t c x) ∙ given-at _ _ d (q.checked_against scope t d y)

  two_against_from : (scope : Scope) (t : Ty) (c d : Cored) → two_against a b scope t ≡ Some (c, d) → ja.checked scope t c × jb.checked scope t d
  two_against_from scope t c d h =
      let k = given-inv (a.against scope t) (λ c. given (b.against scope t) (λ d. Some (c, d))) (c, d) h in
      let m = given-inv (b.against scope t) (λ d. Some (k.0, d)) (c, d) k.2 in
      let e : (k.0, m.0) ≡ (c, d) = some-same _ _ m.2 in
      (p.against_checked scope t c (k.1 ∙ (λ i. Some ((e i).0))), q.against_checked scope t d (m.1 ∙ (λ i. Some ((e i).1))))

  pub agrees_arithmetic : (operation : Op) → Agrees (arithmetic_typing operation ja jb) (arithmetic_walk operation a b)
  agrees_arithmetic operation = record {
    is_open = λ i. p.is_open i && q.is_open i;
    has_own = λ scope t c h. given-at _ _ (t, h.1.0, h.1.1) (two_own_to scope t h.1.0 h.1.1 h.0 h.1.3 h.1.4) ∙ when-at _ _ h.1.2
        ∙ (λ i. Some (t, sym h.1.5 i));
    own_has = λ scope t c h. let k = own scope t c h in (k.2.0, (k.0, k.1, k.3, k.2.1, k.2.2, k.4));
    checked_against = to;
    against_checked = λ scope t c h.
        let k = when-inv (is_number_type t) (given (two_against a b scope t) (λ p. Some (operation_core operation t p.0 p.1))) c h in
        let m = given-inv (two_against a b scope t) (λ p. Some (operation_core operation t p.0 p.1)) c k.1 in
        let f = two_against_from scope t m.0.0 m.0.1 m.1 in
        (m.0.0, m.0.1, k.0, f.0, f.1, sym (some-same _ _ m.2));
    own_against = λ scope t c h. let k = own scope t c h in to scope t c (k.0, k.1, k.3, k.2.1, k.2.2, k.4);
  }
    where
      own : (scope : Scope) (t : Ty) (c : Cored) → (arithmetic_walk operation a b).own scope ≡ Some (t, c)
          → (left : Cored) × (right : Cored) × (FirstType (ja ∷ jb ∷ []) scope t × ja.checked scope t left × jb.checked scope t right)
          × (is_number_type t ≡ true) × (c ≡ operation_core operation t left right)
      own scope t c h =
          let k = given-inv (two_own a.is_open b.is_open a b scope)
          (λ p. when (is_number_type p.0) (Some (p.0, operation_core operation p.0 p.1 p.2))) (t, c) h in
          let m = when-inv (is_number_type k.0.0) (Some (k.0.0, operation_core operation k.0.0 k.0.1 k.0.2)) (t, c) k.2 in
          let e : (k.0.0, operation_core operation k.0.0 k.0.1 k.0.2) ≡ (t, c) = some-same _ _ m.1 in
          let is : k.0.0 ≡ t = ap (λ r. r.0) e in
          let f = two_own_from scope t k.0.1 k.0.2 (k.1 ∙ (λ i. Some (is i, k.0.1, k.0.2))) in
          (k.0.1, k.0.2, f, subst (λ u. is_number_type u ≡ true) is m.0, sym (ap (λ r. r.1) e) ∙ (λ i. operation_core operation (is i) k.0.1 k.0.2))

      to : (scope : Scope) (t : Ty) (c : Cored) → Arithmetic operation ja jb scope t c → (arithmetic_walk operation a b).against scope t ≡ Some c
      to scope t c h = when-at _ _ h.2 ∙ given-at _ _ (h.0, h.1) (two_against_to scope t h.0 h.1 h.3 h.4) ∙ ap Some (sym h.5)

  pub agrees_comparison : (operation : Op) → Agrees (comparison_typing operation ja jb) (comparison_walk operation a b)
  agrees_comparison operation = agrees_closed _ _
      (λ scope t c h. given-at _ _ (h.0, h.1, h.2) (two_own_to scope h.0 h.1 h.2 h.4 h.6 h.7) ∙ when-at _ _ h.5 ∙ (λ i. Some (sym h.3 i, sym h.8 i)))
      (λ scope t c h.
      let k = given-inv (two_own a.is_open b.is_open a b scope)
      (λ p. when (is_comparison operation p.0) (Some (BoolTy, operation_core operation p.0 p.1 p.2))) (t, c) h in
      let m = when-inv (is_comparison operation k.0.0) (Some (BoolTy, operation_core operation k.0.0 k.0.1 k.0.2)) (t, c) k.2 in
      let e : (BoolTy, operation_core operation k.0.0 k.0.1 k.0.2) ≡ (t, c) = some-same _ _ m.1 in
      let f = two_own_from scope k.0.0 k.0.1 k.0.2 k.1 in
      (k.0.0, k.0.1, k.0.2, sym (ap (λ r. r.0) e), f.0, m.0, f.1, f.2, sym (ap (λ r. r.1) e)))

  pub agrees_logic : (core : Cored → Cored → Cored) → Agrees (logic_typing core ja jb) (logic_walk core a b)
  agrees_logic core = agrees_closed _ _
      (λ scope t c h. given-at _ _ (h.0, h.1) (two_against_to scope BoolTy h.0 h.1 h.3 h.4) ∙ (λ i. Some (sym h.2 i, sym h.5 i)))
      (λ scope t c h.
      let k = given-inv (two_against a b scope BoolTy) (λ two. Some (BoolTy, core two.0 two.1)) (t, c) h in
      let e : (BoolTy, core k.0.0 k.0.1) ≡ (t, c) = some-same _ _ k.2 in
      let f = two_against_from scope BoolTy k.0.0 k.0.1 k.1 in
      (k.0.0, k.0.1, sym (ap (λ r. r.0) e), f.0, f.1, sym (ap (λ r. r.1) e)))

  pub agrees_index : Agrees (index_typing ja jb) (index_walk a b)
  agrees_index = agrees_closed _ _
      (λ scope t c h.
      given-at _ _ (_, h.2) (p.has_own scope _ h.2 h.4) ∙ given-at _ _ (h.0, t) (vector_parts-at _ h.0 t refl)
      ∙ given-at _ _ (h.1, h.3) (q.has_own scope h.1 h.3 h.5) ∙ when-at _ _ h.6
      ∙ (λ i. Some (t, sym h.7 i)))
      (λ scope t c h.
      let k = given-inv (a.own scope) (λ vector. given (vector_parts vector.0) (λ parts. given (b.own scope) (λ place.
      when (is_number_type place.0) (Some (parts.1, index_core vector.0 place.0 vector.1 place.1))))) (t, c) h in
      let l = given-inv (vector_parts k.0.0) (λ parts. given (b.own scope) (λ place.
      when (is_number_type place.0) (Some (parts.1, index_core k.0.0 place.0 k.0.1 place.1)))) (t, c) k.2 in
      let m = given-inv (b.own scope) (λ place. when (is_number_type place.0) (Some (l.0.1, index_core k.0.0 place.0 k.0.1 place.1))) (t, c) l.2 in
      let n = when-inv (is_number_type m.0.0) (Some (l.0.1, index_core k.0.0 m.0.0 k.0.1 m.0.1)) (t, c) m.2 in
      let e : (l.0.1, index_core k.0.0 m.0.0 k.0.1 m.0.1) ≡ (t, c) = some-same _ _ n.1 in
      let is = vector_parts-inv k.0.0 l.0.0 t (l.1 ∙ (λ i. Some (l.0.0, (e i).0))) in (
        l.0.0,
        m.0.0,
        k.0.1,
        m.0.1,
        p.own_has scope _ k.0.1 (k.1
            ∙ (λ i. Some (is i, k.0.1))),
        q.own_has scope m.0.0 m.0.1 m.1,
        n.0,
        sym (ap (λ r. r.1) e)
            ∙ ap (λ u. index_core u m.0.0 k.0.1 m.0.1) is,
      ))

  pub agrees_if : (jt : Judged) (test : Walk) → Agrees jt test → Agrees (if_typing jt ja jb) (if_walk test a b)
  agrees_if jt test r = record {
    is_open = λ i. p.is_open i && q.is_open i;
    has_own = λ scope t c h.
        given-at _ _ h.1.0 (r.checked_against scope BoolTy h.1.0 h.1.3)
        ∙ given-at _ _ (t, h.1.1, h.1.2) (two_own_to scope t h.1.1 h.1.2 h.0 h.1.4 h.1.5) ∙ (λ i. Some (t, sym h.1.6 i));
    own_has = λ scope t c h. let k = own scope t c h in (k.0, k.1);
    checked_against = to;
    against_checked = λ scope t c h.
        let k = given-inv (test.against scope BoolTy) (λ x. given (two_against a b scope t) (λ p. Some (if_core x p.0 p.1))) c h in
        let m = given-inv (two_against a b scope t) (λ p. Some (if_core k.0 p.0 p.1)) c k.2 in
        let f = two_against_from scope t m.0.0 m.0.1 m.1 in
        (k.0, m.0.0, m.0.1, r.against_checked scope BoolTy k.0 k.1, f.0, f.1, sym (some-same _ _ m.2));
    own_against = λ scope t c h. to scope t c (own scope t c h).1;
  }
    where
      own : (scope : Scope) (t : Ty) (c : Cored) → (if_walk test a b).own scope ≡ Some (t, c)
          → FirstType (ja ∷ jb ∷ []) scope t × Branches jt ja jb scope t c
      own scope t c h =
          let k = given-inv (test.against scope BoolTy) (λ x. given (two_own a.is_open b.is_open a b scope)
          (λ p. Some (p.0, if_core x p.1 p.2))) (t, c) h in
          let m = given-inv (two_own a.is_open b.is_open a b scope) (λ p. Some (p.0, if_core k.0 p.1 p.2)) (t, c) k.2 in
          let e : (m.0.0, if_core k.0 m.0.1 m.0.2) ≡ (t, c) = some-same _ _ m.2 in
          let f = two_own_from scope t m.0.1 m.0.2 (m.1 ∙ (λ i. Some ((e i).0, m.0.1, m.0.2))) in
          (f.0, (k.0, m.0.1, m.0.2, r.against_checked scope BoolTy k.0 k.1, f.1, f.2, sym (ap (λ r. r.1) e)))

      to : (scope : Scope) (t : Ty) (c : Cored) → Branches jt ja jb scope t c → (if_walk test a b).against scope t ≡ Some c
      to scope t c h =
          given-at _ _ h.0 (r.checked_against scope BoolTy h.0 h.3) ∙ given-at _ _ (h.1, h.2) (two_against_to scope t h.1 h.2 h.4 h.5)
          ∙ ap Some (sym h.6)

pub agrees_binary : (sign : BinOp) (ja jb : Judged) (a b : Walk) → Agrees ja a → Agrees jb b
    → Agrees (binary_typing sign ja jb) (binary_walk sign a b)
agrees_binary sign.Or ja jb a b p q = agrees_logic ja jb a b p q or_core
agrees_binary sign.And ja jb a b p q = agrees_logic ja jb a b p q and_core
agrees_binary sign.Eq ja jb a b p q = agrees_comparison ja jb a b p q op.Eq
agrees_binary sign.Ne ja jb a b p q = agrees_comparison ja jb a b p q op.Ne
agrees_binary sign.Lt ja jb a b p q = agrees_comparison ja jb a b p q op.Lt
agrees_binary sign.Le ja jb a b p q = agrees_comparison ja jb a b p q op.Le
agrees_binary sign.Gt ja jb a b p q = agrees_comparison ja jb a b p q op.Gt
agrees_binary sign.Ge ja jb a b p q = agrees_comparison ja jb a b p q op.Ge
agrees_binary sign.Add ja jb a b p q = agrees_arithmetic ja jb a b p q op.Add
agrees_binary sign.Sub ja jb a b p q = agrees_arithmetic ja jb a b p q op.Sub
agrees_binary sign.Mul ja jb a b p q = agrees_arithmetic ja jb a b p q op.Mul
agrees_binary sign.Div ja jb a b p q = agrees_arithmetic ja jb a b p q op.Div
agrees_binary sign.Mod ja jb a b p q = agrees_arithmetic ja jb a b p q op.Mod
agrees_binary sign.At ja jb a b p q = agrees_index ja jb a b p q

module _ (j : Judged) (a : Walk) (p : Agrees j a) where
  pub agrees_not : Agrees (not_typing j) (not_walk a)
  agrees_not = agrees_closed _ _
      (λ scope t c h. given-at _ _ h.0 (p.checked_against scope BoolTy h.0 h.2) ∙ (λ i. Some (sym h.1 i, sym h.3 i)))
      (λ scope t c h.
      let k = given-inv (a.against scope BoolTy) (λ part. Some (BoolTy, not_core part)) (t, c) h in
      let e : (BoolTy, not_core k.0) ≡ (t, c) = some-same _ _ k.2 in
      (k.0, sym (ap (λ r. r.0) e), p.against_checked scope BoolTy k.0 k.1, sym (ap (λ r. r.1) e)))

  pub agrees_neg : Agrees (neg_typing j) (neg_walk a)
  agrees_neg = record {
    is_open = p.is_open;
    has_own = λ scope t c h. given-at _ _ (t, h.0) (p.has_own scope t h.0 h.2) ∙ when-at _ _ h.1 ∙ (λ i. Some (t, sym h.3 i));
    own_has = λ scope t c h. let k = own scope t c h in (k.0, k.1, p.own_has scope t k.0 k.2, k.3);
    checked_against = to;
    against_checked = λ scope t c h.
        let k = when-inv (is_number_type t) (given (a.against scope t) (λ part. Some (neg_core t part))) c h in
        let m = given-inv (a.against scope t) (λ part. Some (neg_core t part)) c k.1 in
        (m.0, k.0, p.against_checked scope t m.0 m.1, sym (some-same _ _ m.2));
    own_against =
        λ scope t c h. let k = own scope t c h in to scope t c (k.0, k.1, p.against_checked scope t k.0 (p.own_against scope t k.0 k.2), k.3);
  }
    where
      own : (scope : Scope) (t : Ty) (c : Cored) → (neg_walk a).own scope ≡ Some (t, c)
          → (part : Cored) × (is_number_type t ≡ true) × (a.own scope ≡ Some (t, part)) × (c ≡ neg_core t part)
      own scope t c h =
          let k = given-inv (a.own scope) (λ part. when (is_number_type part.0) (Some (part.0, neg_core part.0 part.1))) (t, c) h in
          let m = when-inv (is_number_type k.0.0) (Some (k.0.0, neg_core k.0.0 k.0.1)) (t, c) k.2 in
          let e : (k.0.0, neg_core k.0.0 k.0.1) ≡ (t, c) = some-same _ _ m.1 in
          let is : k.0.0 ≡ t = ap (λ r. r.0) e in
          (k.0.1, subst (λ u. is_number_type u ≡ true) is m.0, k.1 ∙ (λ i. Some (is i, k.0.1)), sym (ap (λ r. r.1) e) ∙ (λ i. neg_core (is i) k.0.1))

      to : (scope : Scope) (t : Ty) (c : Cored) → (neg_typing j).checked scope t c → (neg_walk a).against scope t ≡ Some c
      to scope t c h = when-at _ _ h.1 ∙ given-at _ _ h.0 (p.checked_against scope t h.0 h.2) ∙ ap Some (sym h.3)

  pub agrees_cast : (s : Signatures) (type : TyExp) → Agrees (cast_typing s j type) (cast_walk s a type)
  agrees_cast s type = agrees_closed _ _
      (λ scope t c h. given-at _ _ t h.2 ∙ when-at _ _ h.3 ∙ given-at _ _ (h.0, h.1) (p.has_own scope h.0 h.1 h.4) ∙ when-at _ _ h.5
      ∙ (λ i. Some (t, sym h.6 i)))
      (λ scope t c h.
      let k = given-inv (written s.types type) (λ ty. when (is_number_type ty) (given (a.own scope)
      (λ part. when (is_number_type part.0) (Some (ty, convert_core part.0 ty part.1))))) (t, c) h in
      let l = when-inv (is_number_type k.0) (given (a.own scope)
      (λ part. when (is_number_type part.0) (Some (k.0, convert_core part.0 k.0 part.1)))) (t, c) k.2 in
      let m = given-inv (a.own scope) (λ part. when (is_number_type part.0) (Some (k.0, convert_core part.0 k.0 part.1))) (t, c) l.1 in
      let n = when-inv (is_number_type m.0.0) (Some (k.0, convert_core m.0.0 k.0 m.0.1)) (t, c) m.2 in
      let e : (k.0, convert_core m.0.0 k.0 m.0.1) ≡ (t, c) = some-same _ _ n.1 in
      let is : k.0 ≡ t = ap (λ r. r.0) e in (
        m.0.0,
        m.0.1,
        k.1 ∙ ap Some is,
        subst (λ u. is_number_type u ≡ true) is l.0,
        p.own_has scope m.0.0 m.0.1 m.1,
        n.0,
        sym (ap (λ r. r.1) e) ∙ (λ i. convert_core m.0.0 (is i) m.0.1),
      ))

-- exceptions
carries_none-inv : (number : ℕ) (carries : Option Ty) (n : ℕ) → carries_none number carries ≡ Some n → (number ≡ n) × (carries ≡ None)
carries_none-inv number None n h = (some-same _ _ h, refl)
carries_none-inv number (Some t) n h = cc

pub raised_alone-to : (s : Signatures) (name : List ℕ) (n : ℕ) → RaisedAlone s name n → raised_alone (exn_named name s) ≡ Some n
raised_alone-to s name n h = given-at (exn_named name s) (λ found. carries_none found.0 found.1.carries) (n, h.0) h.1 ∙ ap (carries_none n) h.2

pub raised_alone-from : (s : Signatures) (name : List ℕ) (n : ℕ) → raised_alone (exn_named name s) ≡ Some n → RaisedAlone s name n
raised_alone-from s name n h =
    let k = given-inv (exn_named name s) (λ found. carries_none found.0 found.1.carries) n h in
    let m = carries_none-inv k.0.0 k.0.1.carries n k.2 in
    (k.0.1, k.1 ∙ (λ i. Some (m.0 i, k.0.1)), m.1)

pub agrees_raise : (s : Signatures) (name : List ℕ) → Agrees (raise_typing s name) (raise_walk s name)
agrees_raise s name = agrees_opened _ _
    (λ scope t c h. given-at _ _ h.0 (raised_alone-to s name h.0 h.1) ∙ ap Some (sym h.2))
    (λ scope t c h. let k =
    given-inv (raised_alone (exn_named name s))
    (λ number. Some (raise_core number)) c h in (k.0, raised_alone-from s name k.0 k.1, sym (some-same _ _ k.2)))

module _ (s : Signatures) (name : List ℕ) (j : Judged) (a : Walk) (p : Agrees j a) where
  pub raised_with-to : (scope : Scope) (n : ℕ) (part : Cored) → RaisedWith s name j scope n part
      → raised_with (exn_named name s) a scope ≡ Some (n, part)
  raised_with-to scope n part h = given-at _ _ (n, h.0) h.2 ∙ given-at _ _ h.1 h.3 ∙ given-at _ _ part (p.checked_against scope h.1 part h.4)

  pub raised_with-from : (scope : Scope) (n : ℕ) (part : Cored) → raised_with (exn_named name s) a scope ≡ Some (n, part)
      → RaisedWith s name j scope n part
  raised_with-from scope n part h =
      let k = given-inv (exn_named name s) (λ (found : ℕ
      × ExnDef). given found.1.carries (λ carried. given (a.against scope carried) (λ part. Some (found.0, part)))) (n, part) h in
      let l = given-inv k.0.1.carries (λ carried. given (a.against scope carried) (λ part. Some (k.0.0, part))) (n, part) k.2 in
      let m = given-inv (a.against scope l.0) (λ part. Some (k.0.0, part)) (n, part) l.2 in
      let e : (k.0.0, m.0) ≡ (n, part) = some-same _ _ m.2 in
      (k.0.1, l.0, k.1 ∙ (λ i. Some ((e i).0, k.0.1)), l.1, p.against_checked scope l.0 part (m.1 ∙ (λ i. Some ((e i).1))))

  pub agrees_raise_with : Agrees (raise_with_typing s name j) (raise_with_walk s name a)
  agrees_raise_with = agrees_opened _ _
      (λ scope t c h. given-at _ _ (h.0, h.1) (raised_with-to scope h.0 h.1 h.2) ∙ ap Some (sym h.3))
      (λ scope t c h.
      let k = given-inv (raised_with (exn_named name s) a scope) (λ raised. Some (raise_with_core raised.0 raised.1)) c h in
      (k.0.0, k.0.1, raised_with-from scope k.0.0 k.0.1 k.1, sym (some-same _ _ k.2)))

module _ (ja jb jd : Judged) (a b d : Walk) (p : Agrees ja a) (q : Agrees jb b) (r : Agrees jd d) where
  -- what an update says of all but the vector's core
  abbrev Rest : Scope → Ty → Cored → Cored → Type 0
  Rest scope t vector c =
      (count : ℕ) × (item : Ty) × (of : Ty) × (place : Cored) × (new_item : Cored) × (vector_parts t ≡ Some (count, item)) × jb.has scope of place
      × (is_number_type of ≡ true)
      × jd.checked scope item new_item × (c ≡ update_core t of vector place new_item)

  rest_to : (scope : Scope) (t : Ty) (vector c : Cored) → Rest scope t vector c → updated b d scope t vector ≡ Some c
  rest_to scope t vector c h =
      given-at _ _ (h.0, h.1) h.5 ∙ given-at _ _ (h.2, h.3) (q.has_own scope h.2 h.3 h.6) ∙ when-at _ _ h.7
      ∙ given-at _ _ h.4 (r.checked_against scope h.1 h.4 h.8) ∙ ap Some (sym h.9)

  rest_from : (scope : Scope) (t : Ty) (vector c : Cored) → updated b d scope t vector ≡ Some c → Rest scope t vector c
  rest_from scope t vector c h =
      let k = given-inv (vector_parts t) (λ parts. given (b.own scope) (λ place. when (is_number_type place.0)
      (given (d.against scope parts.1) (λ new_item. Some (update_core t place.0 vector place.1 new_item))))) c h in
      let l = given-inv (b.own scope) (λ place. when (is_number_type place.0) (given (d.against scope k.0.1)
      (λ new_item. Some (update_core t place.0 vector place.1 new_item)))) c k.2 in
      let m = when-inv (is_number_type l.0.0) (given (d.against scope k.0.1) (λ new_item. Some (update_core t l.0.0 vector l.0.1 new_item))) c l.2 in
      let n = given-inv (d.against scope k.0.1) (λ new_item. Some (update_core t l.0.0 vector l.0.1 new_item)) c m.1 in
      (k.0.0, k.0.1, l.0.0, l.0.1, n.0, k.1, q.own_has scope l.0.0 l.0.1 l.1, m.0, r.against_checked scope k.0.1 n.0 n.1, sym (some-same _ _ n.2))

  joined : (Vector : Scope → Ty → Cored → Type 0) (scope : Scope) (t : Ty) (vector c : Cored) → Vector scope t vector → Rest scope t vector c
      → Updated Vector jb jd scope t c
  joined Vector scope t vector c v h = (h.0, h.1, h.2, vector, h.3, h.4, vector_parts-inv t h.0 h.1 h.5, v, h.6, h.7, h.8, h.9)

  rest_of : (Vector : Scope → Ty → Cored → Type 0) (scope : Scope) (t : Ty) (c : Cored) (h : Updated Vector jb jd scope t c) → Rest scope t h.3 c
  rest_of Vector scope t c h = (h.0, h.1, h.2, h.4, h.5, vector_parts-at t h.0 h.1 h.6, h.8, h.9, h.10, h.11)

  pub agrees_update : Agrees (update_typing ja jb jd) (update_walk a b d)
  agrees_update = record {
    is_open = refl;
    has_own = λ scope t c h. given-at _ _ (t, h.3) (p.has_own scope t h.3 h.7) ∙ ap (of_type t) (rest_to scope t h.3 c (rest_of ja.has scope t c h));
    own_has = λ scope t c h. let k = own scope t c h in joined ja.has scope t k.0 c (p.own_has scope t k.0 k.1) k.2;
    checked_against = λ scope t c h. given-at _ _ h.3 (p.checked_against scope t h.3 h.7) ∙ rest_to scope t h.3 c (rest_of ja.checked scope t c h);
    against_checked = λ scope t c h.
        let k = given-inv (a.against scope t) (λ vector. updated b d scope t vector) c h in
        joined ja.checked scope t k.0 c (p.against_checked scope t k.0 k.1) (rest_from scope t k.0 c k.2);
    own_against = λ scope t c h. let k = own scope t c h in given-at _ _ k.0 (p.own_against scope t k.0 k.1) ∙ rest_to scope t k.0 c k.2;
  }
    where
      own : (scope : Scope) (t : Ty) (c : Cored) → (update_walk a b d).own scope ≡ Some (t, c)
          → (vector : Cored) × (a.own scope ≡ Some (t, vector)) × Rest scope t vector c
      own scope t c h =
          let k = given-inv (a.own scope) (λ vector. of_type vector.0 (updated b d scope vector.0 vector.1)) (t, c) h in
          let m = given-inv (updated b d scope k.0.0 k.0.1) (λ c. Some (k.0.0, c)) (t, c) k.2 in
          let e : (k.0.0, m.0) ≡ (t, c) = some-same _ _ m.2 in
          (k.0.1, k.1 ∙ (λ i. Some ((e i).0, k.0.1)), rest_from scope t k.0.1 c (subst (λ r. updated b d scope r.0 k.0.1 ≡ Some r.1) e m.1))
