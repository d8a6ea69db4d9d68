-- What is spelled the same is the same.
use Rattle.std.proofs.Common.{◌≡◌, ℕ, max, List, [], ◌++◌, refl, sym, ap, ◌∙◌, arith}
use Rattle.std.specs.Prelude.{Result, Ok}
use Rattle.hume_base.specs.declared.limits.TheConstants.{MAX_DEPTH}
use Rattle.hume_base.specs.declared.token.Kind.{Kind}
use Rattle.hume_base.specs.declared.token.Token.{Token}
use Rattle.hume_ast.specs.declared.tree.TyExp.{TyExp}
use Rattle.hume_ast.specs.declared.tree.Pat.{Pat}
use Rattle.hume_ast.specs.declared.tree.Exp.{Exp}
use Rattle.hume_ast.specs.declared.tree.Program.{Program}
use Rattle.hume_ast.specs.Spelling.{spelled_ty, spelled_pat, spelled_exp, spelled}
use Rattle.hume_ast.specs.Fits.{TypeFits, PatFits, ExpFits, IsProper}
use Rattle.hume_ast.specs.Places.{unplaced, placed, StandsFor}
use Rattle.hume_ast.proofs.Depths.{fits_depth, refit}
use Rattle.hume_ast.proofs.ProgramDepths.{decls_wider}
use Rattle.parse_readers.specs.inner.Readers.{Wrong, Reader}
use Rattle.parse_readers.proofs.Forms.{Reads}
use Rattle.parse_readers.proofs.TypesRead.{types_read}
use Rattle.parse_readers.proofs.PatternsRead.{patterns_read}
use Rattle.parse_readers.proofs.ExpressionsRead.{expressions_read}
use Rattle.parse_readers.proofs.ProgramsRead.{program_reads}
use Rattle.parse_readers.proofs.StandingFor.{tokens_of, unplaced_fit}

pair_same : {A : Type 0} (a b : A) (rest : List Kind) → ◌≡◌ {A = Result (A × List Kind) Wrong} (Ok (a, rest)) (Ok (b, rest)) → a ≡ b
pair_same {A = A} a b rest e = let pairs : (a, rest) ≡ (b, rest) = cc in ap (λ (y : A × List Kind). y.0) pairs

module _ {A : Type 0} {spell : A → List Kind} {Fit : A → Type 0} {Ends : List Kind → Type 0} {p : Reader A} (reads : Reads spell Fit Ends p) (ends : Ends []) where
  same : (a b : A) → Fit a → Fit b → spell a ≡ spell b → a ≡ b
  same a b f g e = pair_same a b [] (sym (reads.complete a [] f ends) ∙ ap (λ ks. p (ks ++ [])) e ∙ reads.complete b [] g ends)

pub one_type : (room : ℕ) (t u : TyExp) → TypeFits room t → TypeFits room u → spelled_ty t ≡ spelled_ty u → t ≡ u
one_type room t u = same (types_read room) tt t u

pub one_pattern : (room : ℕ) (p q : Pat) → PatFits room 1 p → PatFits room 1 q → spelled_pat p ≡ spelled_pat q → p ≡ q
one_pattern room p q = same (patterns_read room).whole refl p q

pub one_expression : (bound m n : ℕ) (e f : Exp) → ExpFits bound m 1 e → ExpFits bound n 1 f → spelled_exp e ≡ spelled_exp f → e ≡ f
one_expression bound m n e f fe ff is =
    let room = max m n in
    same (expressions_read bound room).whole tt e f
    (refit bound m room 1 e (omega (arith, fits_depth bound m 1 e fe)) fe)
    (refit bound n room 1 f (omega (arith, fits_depth bound n 1 f ff)) ff) is

pub one_program : (p q : Program) → IsProper p → IsProper q → spelled p ≡ spelled q → unplaced p.decls ≡ unplaced q.decls
one_program p q fp fq is =
    let bound = max fp.0 fq.0 in
    same (program_reads bound) refl (unplaced p.decls) (unplaced q.decls)
    (unplaced_fit bound p.decls (decls_wider fp.0 bound (omega arith) p.decls fp.1))
    (unplaced_fit bound q.decls (decls_wider fq.0 bound (omega arith) q.decls fq.1))
    (sym (tokens_of p.decls) ∙ is ∙ tokens_of q.decls)

pub one_placed : (tokens : List Token) (p q : Program) → StandsFor tokens p → StandsFor tokens q → p ≡ q
one_placed tokens p q fp fq =
    let is = one_program p q (MAX_DEPTH, fp.0) (MAX_DEPTH, fq.0) (fp.1 ∙ sym fq.1) in
    let decls : p.decls ≡ q.decls = fp.2 ∙ ap (placed tokens) is ∙ sym fq.2 in
    ap (λ ds. record { decls = ds }) decls
