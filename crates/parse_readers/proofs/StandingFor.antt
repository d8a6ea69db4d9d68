-- For which programs tokens with their places stand: those that are read.
use Rattle.std.proofs.Common.{◌≡◌, ℕ, Bool, List, [], ◌∷◌, ◌++◌, length, refl, sym, ap, ◌∙◌, subst}
use Rattle.std.specs.Prelude.{Result, Ok, Err, drop}
use Rattle.hume_base.specs.declared.limits.TheConstants.{MAX_DEPTH}
use Rattle.hume_base.specs.declared.token.Kind.{Kind}
use Rattle.hume_base.specs.declared.token.Token.{Token}
use Rattle.hume_ast.specs.declared.tree.Decl.{Decl}
use Rattle.hume_ast.specs.declared.tree.Program.{Program}
use Rattle.hume_ast.specs.Spelling.{spelled_decl, spelled_decls}
use Rattle.hume_ast.specs.Fits.{Each, DeclFits, DeclsFit}
use Rattle.hume_ast.specs.Places.{kinds, unplaced, placed, StandsFor}
use Rattle.parse_readers.specs.inner.Readers.{Wrong}
use Rattle.parse_readers.specs.inner.Programs.{program}
use Rattle.parse_readers.proofs.Local.{SameNext}
use Rattle.parse_readers.proofs.ProgramsRead.{all_tokens, program_sound, program_complete, program_stop}

pub tokens_of : (decls : List (ℕ × Decl)) → spelled_decls decls ≡ all_tokens (unplaced decls)
tokens_of [] = refl
tokens_of (d ∷ decls) = ap (λ m. spelled_decl d.1 ++ m) (tokens_of decls)

pub unplaced_fit : (bound : ℕ) (decls : List (ℕ × Decl)) → DeclsFit bound decls → Each (DeclFits bound) (unplaced decls)
unplaced_fit bound [] f = tt
unplaced_fit bound (d ∷ decls) f = (f.0, unplaced_fit bound decls f.1)

pub placed_fit : (bound : ℕ) (decls : List (ℕ × Decl)) → Each (DeclFits bound) (unplaced decls) → DeclsFit bound decls
placed_fit bound [] f = tt
placed_fit bound (d ∷ decls) f = (f.0, placed_fit bound decls f.1)

pub unplaced_placed : (tokens : List Token) (decls : List Decl) → unplaced (placed tokens decls) ≡ decls
unplaced_placed tokens [] = refl
unplaced_placed tokens (d ∷ decls) = ap (λ ds. d ∷ ds) (unplaced_placed (drop (length (spelled_decl d)) tokens) decls)

-- tokens that are read stand for what is read, with the places of the declarations
pub read_stands : (tokens : List Token) (decls : List Decl) (rest : List Kind) → program MAX_DEPTH (kinds tokens) ≡ Ok (decls, rest) → StandsFor tokens (record { decls = placed tokens decls })
read_stands tokens decls rest e =
    let s = program_sound MAX_DEPTH (kinds tokens) decls rest e in
    let same = unplaced_placed tokens decls in (
      placed_fit MAX_DEPTH (placed tokens decls) (subst (Each (DeclFits MAX_DEPTH)) (sym same) s.0),
      tokens_of (placed tokens decls) ∙ ap all_tokens same ∙ sym s.1,
      ap (placed tokens) (sym same),
    )

-- a program with its tokens is what is read of them
pub standing_read : (tokens : List Token) (p : Program) → StandsFor tokens p → program MAX_DEPTH (kinds tokens) ≡ Ok (unplaced p.decls, [])
standing_read tokens p f = ap (program MAX_DEPTH) (sym f.1 ∙ tokens_of p.decls) ∙ program_complete MAX_DEPTH (unplaced p.decls) (unplaced_fit MAX_DEPTH p.decls f.0)

-- behind those in front, no fit declarations go on with the first of the rest, or end where there is none
abbrev pub NoneGoesOn : ℕ → List Kind → List Kind → Type 0
NoneGoesOn bound front rest = (decls : List (ℕ × Decl)) (others : List Kind) → DeclsFit bound decls → SameNext rest others → spelled_decls decls ≡ front ++ others → ⊥

pub no_both : {A : Type 0} (r : Result A Wrong) (a : A) (n : Wrong) → r ≡ Ok a → r ≡ Err n → ⊥
no_both r a n e f = let clash : ◌≡◌ {A = Result _ Wrong} (Ok a) (Err n) = sym e ∙ f in cc

none_goes_on : (bound : ℕ) (deep : Bool) (front rest : List Kind) → ((others : List Kind) → SameNext rest others → program bound (front ++ others) ≡ Err (deep, length others)) → NoneGoesOn bound front rest
none_goes_on bound deep front rest h decls others f same e =
    no_both (program bound (spelled_decls decls)) (unplaced decls, []) (deep, length others)
    (ap (program bound) (tokens_of decls) ∙ program_complete bound (unplaced decls) (unplaced_fit bound decls f))
    (ap (program bound) e ∙ h others same)

-- where it stops, no fit program goes on
pub program_refused : (bound : ℕ) (ks : List Kind) (n : Wrong) → program bound ks ≡ Err n → (front : List Kind) × (rest : List Kind) × (ks ≡ front ++ rest) × (n.1 ≡ length rest) × NoneGoesOn bound front rest
program_refused bound ks n e = let s = program_stop bound ks n e in (s.0, s.1, s.2, s.3, none_goes_on bound n.0 s.0 s.1 s.4)
