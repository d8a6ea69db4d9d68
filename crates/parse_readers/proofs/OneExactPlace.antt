-- Tokens are those of a fit program, or exactly one token of them is wrong.
use Rattle.std.proofs.Common.{◌≡◌, ◌⊎◌, inl, inr, ℕ, ◌<◌, List, [], ◌∷◌, ◌++◌, length, Bool, true, false, refl, sym, ap, ◌∙◌, subst, arith, append_assoc}
use Rattle.std.specs.Prelude.{Result, Ok, Err}
use Rattle.std.proofs.lemmas.Bool.{cases_order}
use Rattle.hume_base.specs.declared.limits.TheConstants.{MAX_DEPTH}
use Rattle.hume_base.specs.declared.token.Kind.{Kind}
use Rattle.hume_base.specs.declared.token.Token.{Token}
use Rattle.hume_ast.specs.declared.tree.Decl.{Decl}
use Rattle.hume_ast.specs.declared.tree.Program.{Program}
use Rattle.hume_ast.specs.Spelling.{spelled}
use Rattle.hume_ast.specs.Fits.{IsFit}
use Rattle.hume_ast.specs.Places.{kinds, placed, StandsFor}
use Rattle.parse_readers.specs.inner.Readers.{Wrong}
use Rattle.parse_readers.specs.inner.Programs.{program}
use Rattle.parse_readers.proofs.Local.{SameNext}
use Rattle.parse_readers.proofs.StandingFor.{read_stands}
use Rattle.parse_readers.proofs.ExactPlace.{IsByDepth, IsExact, cut_behind, one_cut, program_exact}

-- with the first of the rest no fit program goes on, so none begins further
goes_no_further : (ks : List Kind) (v w : Wrong) → IsExact ks v → IsExact ks w → w.1 < v.1 → ⊥
goes_no_further ks v w e f less =
    let c = cut_behind e.front e.rest f.front f.rest (sym e.cut ∙ f.cut) (omega (arith, less, e.left, f.left)) in
    by c.0 c.1 c.2 where
      by : (middle : List Kind) → f.front ≡ e.front ++ middle → e.rest ≡ middle ++ f.rest → ⊥
      by [] before behind = omega (arith, less, e.left, f.left, ap length behind)
      by (kind ∷ middle) before behind =
          let p = f.begun in
          e.none p.0.decls (kind ∷ (middle ++ p.1)) p.2 (subst (λ l. SameNext l (kind ∷ (middle ++ p.1))) (sym behind) refl)
          (p.3 ∙ ap (λ l. l ++ p.1) before ∙ append_assoc e.front (kind ∷ middle) p.1)

-- one and the same token isn't wrong for want of depth and for another reason
not_both_ways : (front rest : List Kind) → IsByDepth true front rest → IsByDepth false front rest → ⊥
not_both_ways front [] d s = absurd d
not_both_ways front (kind ∷ rest) d s = s d.0 (kind ∷ d.1) d.2 refl (d.3 ∙ append_assoc front (kind ∷ []) d.1)

one_depth : (a b : Bool) (front rest : List Kind) → IsByDepth a front rest → IsByDepth b front rest → a ≡ b
one_depth true true front rest d s = refl
one_depth false false front rest d s = refl
one_depth true false front rest d s = absurd (not_both_ways front rest d s)
one_depth false true front rest d s = absurd (not_both_ways front rest s d)

same_place : (ks : List Kind) (v w : Wrong) → IsExact ks v → IsExact ks w → v.1 ≡ w.1
same_place ks v w e f = elim (cases_order v.1 w.1) [
  | inl same ↦ same
  | inr apart ↦ elim apart [
    | inl less ↦ absurd (goes_no_further ks w v f e less)
    | inr more ↦ absurd (goes_no_further ks v w e f more)
  ]
]

pair_same : (a b : Bool) (m n : ℕ) → a ≡ b → m ≡ n → ◌≡◌ {A = Wrong} (a, m) (b, n)
pair_same a b m n e f = cc

-- exactly one token is wrong
pub one_exact : (ks : List Kind) (v w : Wrong) → IsExact ks v → IsExact ks w → v ≡ w
one_exact ks v w e f =
    let same = same_place ks v w e f in
    let c = one_cut f.front f.rest e.front e.rest (sym f.cut ∙ e.cut) (sym f.left ∙ sym same ∙ e.left) in
    let there = subst (λ l. IsByDepth w.0 l e.rest) c.0 (subst (λ l. IsByDepth w.0 f.front l) c.1 f.depth) in
    pair_same v.0 w.0 v.1 w.1 (one_depth v.0 w.0 e.front e.rest e.depth there) same

same_next : (ks : List Kind) → SameNext ks ks
same_next [] = tt
same_next (k ∷ ks) = refl

-- none is, where the tokens are those of a fit program
pub exact_no_program : (ks : List Kind) (wrong : Wrong) → IsExact ks wrong → (program : Program) → IsFit program → spelled program ≡ ks → ⊥
exact_no_program ks wrong e p fit is = e.none p.decls e.rest fit (same_next e.rest) (is ∙ e.cut)

-- and one of both is so
pub exact_or_program : (tokens : List Token) → ((program : Program) × StandsFor tokens program) ⊎ ((wrong : Wrong) × IsExact (kinds tokens) wrong)
exact_or_program tokens = by (program MAX_DEPTH (kinds tokens)) refl where
  by : (r : Result (List Decl × List Kind) Wrong) → program MAX_DEPTH (kinds tokens) ≡ r → ((program : Program) × StandsFor tokens program) ⊎ ((wrong : Wrong) × IsExact (kinds tokens) wrong)
  by (Ok read) e = inl (record { decls = placed tokens read.0 }, read_stands tokens read.0 read.1 e)
  by (Err wrong) e = inr (wrong, program_exact (kinds tokens) wrong e)
