-- A program has one list of data types.
use Rattle.std.proofs.Common.{◌≡◌, ℕ, zero, suc, ◌+◌, ◌==◌, List, [], ◌∷◌, Option, Some, None, slice_get, map, length, if◌then◌else◌, refl, ap, sym, ◌∙◌, Bool, true, false, bytes_eq}
use Rattle.hume_base.specs.declared.types.Ty.{Ty, Named}
use Rattle.hume_base.specs.declared.types.ConDef.{ConDef}
use Rattle.hume_base.specs.declared.types.SumDef.{SumDef}
use Rattle.hume_base.specs.declared.types.Types.{Types}
use Rattle.hume_base.specs.Sizes.{size_of_sum, named_size, written_size, HaveTheirSizes}
use Rattle.hume_ast.specs.declared.tree.TyExp.{TyExp, fold-TyExp}
use Rattle.hume_ast.specs.declared.tree.TyExp.TheOpen.{TyExp-F}
use Rattle.check_typing.specs.Partial.{given}
use Rattle.check_typing.specs.Signatures.{first_named, one_further, sum_named}
use Rattle.check_typing.specs.WrittenTypes.{written, written_step, all_written, all_there}
use Rattle.check_typing.specs.Declarations.{InPlaces}
use Rattle.check_rules.specs.Declared.{DataDecl}
use Rattle.check_rules.specs.SignaturesOf.{IsConstructor, IsDataType}
use Rattle.check_rules.proofs.InPlace.{seen_once}

abbrev sum_name : SumDef → List ℕ
sum_name sum = sum.name

abbrev sum_cons : SumDef → List ConDef
sum_cons sum = sum.cons

-- the number of a name goes by the names alone
abbrev number : Option (ℕ × SumDef) → Option ℕ
number found = given found (λ f. Some f.0)

number_further : (a b : Option (ℕ × SumDef)) → number a ≡ number b → number (one_further a) ≡ number (one_further b)
number_further None None e = refl
number_further None (Some b) e = cc
number_further (Some a) None e = cc
number_further (Some a) (Some b) e = let same : a.0 ≡ b.0 = cc in ap (λ n. Some (n + 1)) same

same_number : (name : List ℕ) (xs ys : List SumDef) → map sum_name xs ≡ map sum_name ys → number (first_named sum_name name xs) ≡ number (first_named sum_name name ys)
same_number name [] [] e = refl
same_number name [] (y ∷ ys) e = cc
same_number name (x ∷ xs) [] e = cc
same_number name (x ∷ xs) (y ∷ ys) e =
    let first : x.name ≡ y.name = cc in
    let others : map sum_name xs ≡ map sum_name ys = cc in
    by (bytes_eq x.name name) (bytes_eq y.name name) (ap (λ n. bytes_eq n name) first) (number_further _ _ (same_number name xs ys others))
  where
    by : (a b : Bool) → a ≡ b → number (one_further (first_named sum_name name xs)) ≡ number (one_further (first_named sum_name name ys))
        → number (if a then Some (0, x) else one_further (first_named sum_name name xs)) ≡ number (if b then Some (0, y) else one_further (first_named sum_name name ys))
    by true true q h = refl
    by true false q h = cc
    by false true q h = cc
    by false false q h = h

as_type : (o : Option (ℕ × SumDef)) → given o (λ found. Some (Named found.0)) ≡ given (number o) (λ n. Some (Named n))
as_type None = refl
as_type (Some found) = refl

same_level : (t u : Types) → map sum_name t.sums ≡ map sum_name u.sums → (x : TyExp-F (Option Ty)) → written_step t x ≡ written_step u x
same_level t u e TyExp-F.Bool = refl
same_level t u e TyExp-F.Char = refl
same_level t u e (TyExp-F.Int bits) = refl
same_level t u e (TyExp-F.Nat bits) = refl
same_level t u e (TyExp-F.Vector count item) = refl
same_level t u e (TyExp-F.Named name) =
    as_type (sum_named name t) ∙ ap (λ n. given n (λ k. Some (Named k))) (same_number name t.sums u.sums e) ∙ sym (as_type (sum_named name u))
same_level t u e (TyExp-F.Tuple parts) = refl

-- types that are written go by the names alone
pub same_written : (t u : Types) → map sum_name t.sums ≡ map sum_name u.sums → (e : TyExp) → written t e ≡ written u e
same_written t u names e = λ i. fold-TyExp (Option Ty) (λ x. same_level t u names x i) e

pub same_all_written : (t u : Types) → map sum_name t.sums ≡ map sum_name u.sums → (es : List TyExp) → all_written t es ≡ all_written u es
same_all_written t u names es = λ i. all_there (map (λ e. same_written t u names e i) es)

module _ (t u : Types) (names : map sum_name t.sums ≡ map sum_name u.sums) where
  con_once : (d : List ℕ × List TyExp) (c e : ConDef) → IsConstructor t d c → IsConstructor u d e → c ≡ e
  con_once d c e p q =
      let name : c.name ≡ e.name = p.name ∙ sym q.name in
      let fields : c.fields ≡ e.fields = let w = sym p.fields ∙ same_all_written t u names d.1 ∙ q.fields in cc in
      λ i. record { name = name i; fields = fields i }

  cons_once : (d : DataDecl) (a b : SumDef) → IsDataType t d a → IsDataType u d b → a.cons ≡ b.cons
  cons_once d a b p q = by d.1 a.cons b.cons p.constructors q.constructors
    where
      by : (ds : List (List ℕ × List TyExp)) (cs es : List ConDef) → InPlaces (IsConstructor t) ds cs → InPlaces (IsConstructor u) ds es → cs ≡ es
      by [] [] [] p q = refl
      by [] [] (e ∷ es) p q = absurd q
      by [] (c ∷ cs) es p q = absurd p
      by (d ∷ ds) [] es p q = absurd p
      by (d ∷ ds) (c ∷ cs) [] p q = absurd q
      by (d ∷ ds) (c ∷ cs) (e ∷ es) p q = λ i. con_once d c e p.0 q.0 i ∷ by ds cs es p.1 q.1 i

name_once : (t u : Types) (d : DataDecl) (a b : SumDef) → IsDataType t d a → IsDataType u d b → sum_name a ≡ sum_name b
name_once t u d a b p q = p.name ∙ sym q.name

-- sizes go by the constructors alone
same_sum_size : (named : ℕ → ℕ) (a b : Option SumDef) → given a (λ s. Some s.cons) ≡ given b (λ s. Some s.cons) → size_of_sum named a ≡ size_of_sum named b
same_sum_size named None None e = refl
same_sum_size named None (Some b) e = cc
same_sum_size named (Some a) None e = cc
same_sum_size named (Some a) (Some b) e = let same : a.cons ≡ b.cons = cc in ap (λ cons. size_of_sum named (Some (record { name = []; cons = cons; words = 0 }))) same

cons_at : (xs ys : List SumDef) → map sum_cons xs ≡ map sum_cons ys → (n : ℕ) → given (slice_get xs n) (λ s. Some s.cons) ≡ given (slice_get ys n) (λ s. Some s.cons)
cons_at [] [] e n = refl
cons_at [] (y ∷ ys) e n = cc
cons_at (x ∷ xs) [] e n = cc
cons_at (x ∷ xs) (y ∷ ys) e zero = let same : x.cons ≡ y.cons = cc in ap Some same
cons_at (x ∷ xs) (y ∷ ys) e (suc n) = cons_at xs ys (let rest : map sum_cons xs ≡ map sum_cons ys = cc in rest) n

same_sizes : (t u : Types) → map sum_cons t.sums ≡ map sum_cons u.sums → (bound n : ℕ) → named_size t bound n ≡ named_size u bound n
unfolding named_size
same_sizes t u e zero n = refl
same_sizes t u e (suc bound) n =
    let below : named_size t bound ≡ named_size u bound = λ i k. same_sizes t u e bound k i in
    let here : size_of_sum (named_size t bound) (slice_get t.sums bound) ≡ size_of_sum (named_size u bound) (slice_get u.sums bound) =
    ap (λ f. size_of_sum f (slice_get t.sums bound)) below ∙ same_sum_size (named_size u bound) _ _ (cons_at t.sums u.sums e bound) in
    λ i. if n == bound then here i else below i n

same_lengths : (xs ys : List SumDef) → map sum_name xs ≡ map sum_name ys → length xs ≡ length ys
same_lengths [] [] e = refl
same_lengths [] (y ∷ ys) e = cc
same_lengths (x ∷ xs) [] e = cc
same_lengths (x ∷ xs) (y ∷ ys) e = ap suc (same_lengths xs ys (let rest : map sum_name xs ≡ map sum_name ys = cc in rest))

same_sums : (xs ys : List SumDef) (sizes : ℕ → ℕ) → map sum_name xs ≡ map sum_name ys → map sum_cons xs ≡ map sum_cons ys
    → ((n : ℕ) (s : SumDef) → slice_get xs n ≡ Some s → s.words ≡ sizes n) → ((n : ℕ) (s : SumDef) → slice_get ys n ≡ Some s → s.words ≡ sizes n) → xs ≡ ys
same_sums [] [] sizes a b p q = refl
same_sums [] (y ∷ ys) sizes a b p q = cc
same_sums (x ∷ xs) [] sizes a b p q = cc
same_sums (x ∷ xs) (y ∷ ys) sizes a b p q =
    let name : x.name ≡ y.name = cc in
    let cons : x.cons ≡ y.cons = cc in
    let words : x.words ≡ y.words = p 0 x refl ∙ sym (q 0 y refl) in
    let others = same_sums xs ys (λ n. sizes (suc n)) (let r : map sum_name xs ≡ map sum_name ys = cc in r) (let r : map sum_cons xs ≡ map sum_cons ys = cc in r)
    (λ n s at. p (suc n) s at) (λ n s at. q (suc n) s at) in
    λ i. record { name = name i; cons = cons i; words = words i } ∷ others i

pub types_once : (ds : List DataDecl) (t u : Types) → InPlaces (IsDataType t) ds t.sums → InPlaces (IsDataType u) ds u.sums → HaveTheirSizes t → HaveTheirSizes u → t ≡ u
types_once ds t u p q a b =
    let names = seen_once (IsDataType t) (IsDataType u) sum_name (name_once t u) ds t.sums u.sums p q in
    let cons = seen_once (IsDataType t) (IsDataType u) sum_cons (cons_once t u names) ds t.sums u.sums p q in
    let long = same_lengths t.sums u.sums names in
    let sums = same_sums t.sums u.sums (λ n. written_size (named_size t (length t.sums) n)) names cons a
    (λ n s at. b n s at ∙ ap written_size (sym (same_sizes t u cons (length u.sums) n) ∙ ap (λ k. named_size t k n) (sym long))) in
    λ i. record { sums = sums i }
