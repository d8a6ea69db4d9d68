-- What is known of a wrong token of a program: where it stands, and whether it is wrong only for want of depth.
use Rattle.std.proofs.Common.{◌≡◌, ℕ, suc, ◌+◌, ◌<◌, ◌≤◌, List, [], ◌∷◌, ◌++◌, length, Bool, true, false, refl, sym, ap, ◌∙◌, subst, arith, length-append, append_assoc, append-nil}
use Rattle.std.specs.Prelude.{Result, Ok, Err}
use Rattle.hume_base.specs.declared.limits.TheConstants.{MAX_DEPTH}
use Rattle.hume_base.specs.declared.token.Kind.{Kind}
use Rattle.hume_ast.specs.declared.tree.Decl.{Decl}
use Rattle.hume_ast.specs.declared.tree.Program.{Program}
use Rattle.hume_ast.specs.Spelling.{spelled}
use Rattle.hume_ast.specs.Fits.{Each, DeclFits, DeclsFit, IsProper, IsFit}
use Rattle.hume_ast.specs.Places.{placed}
use Rattle.hume_ast.proofs.ProgramDepths.{decls_wider}
use Rattle.parse_readers.specs.inner.Readers.{Wrong}
use Rattle.parse_readers.specs.inner.Programs.{program}
use Rattle.parse_readers.proofs.Local.{SameNext}
use Rattle.parse_readers.proofs.ProgramsRead.{all_tokens, program_sound}
use Rattle.parse_readers.proofs.StandingFor.{NoneGoesOn, program_refused, tokens_of, placed_fit, unplaced_placed}
use Rattle.parse_readers.proofs.ProgramsBegin.{SomeGoOn, program_begun}
use Rattle.parse_readers.proofs.Grows.{Same, Past}
use Rattle.parse_readers.proofs.ItemsGrow.{program_grows}

-- one of these programs is spelled so at its front
abbrev pub BeginsSome : (Program → Type 0) → List Kind → Type 0
BeginsSome Fits front = (program : Program) × (more : List Kind) × Fits program × (spelled program ≡ front ++ more)

-- Behind those in front, a program without a limit on depth goes on with the first of the rest; or none does, and none
-- ends where there is no rest.
abbrev pub IsByDepth : Bool → List Kind → List Kind → Type 0
IsByDepth true front [] = ⊥
IsByDepth true front (kind ∷ rest) = BeginsSome IsProper (front ++ kind ∷ [])
IsByDepth false front rest = (program : Program) (others : List Kind) → IsProper program → SameNext rest others → spelled program ≡ front ++ others → ⊥

-- The token is the first with which no fit program goes on.
pub record IsExact (ks : List Kind) (wrong : Wrong) : Type 0 where
  pub front : List Kind
  pub rest : List Kind
  pub cut : ks ≡ front ++ rest
  pub left : wrong.1 ≡ length rest
  pub begun : BeginsSome IsFit front
  pub none : NoneGoesOn MAX_DEPTH front rest
  pub depth : IsByDepth wrong.0 front rest

-- of two cuts of one list, the second not before the first
pub cut_behind : (a b c d : List Kind) → a ++ b ≡ c ++ d → length d ≤ length b → (middle : List Kind) × (c ≡ a ++ middle) × (b ≡ middle ++ d)
cut_behind [] b c d e h = (c, refl, e)
cut_behind (x ∷ a) b [] d e h = absurd (omega (arith, ap length e, length-append a b, h))
cut_behind (x ∷ a) b (y ∷ c) d e h =
    let later : a ++ b ≡ c ++ d = (let f = e in cc) in
    let first : x ≡ y = (let f = e in cc) in
    let s = cut_behind a b c d later h in
    (s.0, (let same = s.1 in cc), s.2)

none_between : (a b : List Kind) → length b ≡ length a + length b → a ≡ []
none_between [] b h = refl
none_between (x ∷ a) b h = absurd (omega (arith, h))

-- of two cuts of one list that leave as many, both are the same
pub one_cut : (a b c d : List Kind) → a ++ b ≡ c ++ d → length b ≡ length d → (a ≡ c) × (b ≡ d)
one_cut a b c d e h =
    let s = cut_behind a b c d e (omega (arith, h)) in
    let none = none_between s.0 d (sym h ∙ ap length s.2 ∙ length-append s.0 d) in
    (sym (s.1 ∙ ap (λ m. a ++ m) none ∙ append-nil a), s.2 ∙ ap (λ m. m ++ d) none)

begins_placed : (bound : ℕ) (front : List Kind) → SomeGoOn bound front → BeginsSome (λ program. DeclsFit bound program.decls) front
begins_placed bound front s =
    let same = unplaced_placed [] s.0 in (
      record { decls = placed [] s.0 },
      s.1,
      placed_fit bound (placed [] s.0) (subst (λ ds. Each (DeclFits bound) ds) (sym same) s.2),
      tokens_of (placed [] s.0) ∙ ap all_tokens same ∙ s.3,
    )

-- what goes on through the token, at a greater bound
through : (bound : ℕ) → 0 < bound → (front : List Kind) (kind : Kind) (rest : List Kind) (r : Result (List Decl × List Kind) Wrong) → program bound (front ++ kind ∷ rest) ≡ r → Past (suc (length rest)) r → SomeGoOn bound (front ++ kind ∷ [])
through bound some front kind rest (Ok x) e h =
    let s = program_sound bound (front ++ kind ∷ rest) x.0 x.1 e in
    (x.0, rest, s.0, sym s.1 ∙ sym (append_assoc front (kind ∷ []) rest))
through bound some front kind rest (Err w) e h =
    let s = program_begun bound some (front ++ kind ∷ rest) w e in
    let c = cut_behind (front ++ kind ∷ []) rest s.0 s.1 (append_assoc front (kind ∷ []) rest ∙ s.2) (omega (arith, h, s.3)) in
    let g = s.4 in
    (g.0, c.0 ++ g.1, g.2, g.3 ∙ ap (λ m. m ++ g.1) c.1 ∙ append_assoc (front ++ kind ∷ []) c.0 g.1)

module _ (bound : ℕ) (some : 0 < bound) (front rest : List Kind) where
  abbrev tokens : List Kind
  tokens = front ++ rest

  deep_through : (left : List Kind) → rest ≡ left → program bound tokens ≡ Err (true, length left) → IsByDepth true front left
  deep_through [] is e =
      let bound2 = bound + 2 in
      absurd (past_none (program bound2 tokens) (subst (λ r. Same r (program bound2 tokens)) e (program_grows bound bound2 some (omega arith) tokens))) where
        past_none : (r : Result (List Decl × List Kind) Wrong) → Past 0 r → ⊥
        past_none (Ok x) h = omega (arith, h)
        past_none (Err w) h = omega (arith, h)
  deep_through (kind ∷ left) is e =
      let bound2 = bound + 2 in
      let past = subst (λ r. Same r (program bound2 tokens)) e (program_grows bound bound2 some (omega arith) tokens) in
      let on = through bound2 (omega (arith, some)) front kind left (program bound2 (front ++ kind ∷ left)) refl (subst (λ l. Past (suc (length left)) (program bound2 (front ++ l))) is past) in
      let s = begins_placed bound2 (front ++ kind ∷ []) on in
      (s.0, s.1, (bound2, s.2), s.3)

  none_proper : program bound tokens ≡ Err (false, length rest) → IsByDepth false front rest
  none_proper e p others f same is =
      let bound2 = f.0 + (bound + 2) in
      let stays = subst (λ r. Same r (program bound2 tokens)) e (program_grows bound bound2 some (omega arith) tokens) in
      let s = program_refused bound2 tokens (false, length rest) stays in
      let c = one_cut front rest s.0 s.1 s.2 s.3 in
      let none = subst (λ l. NoneGoesOn bound2 l rest) (sym c.0) (subst (λ l. NoneGoesOn bound2 s.0 l) (sym c.1) s.4) in
      none p.decls others (decls_wider f.0 bound2 (omega arith) p.decls f.1) same is

  by_depth : (deep : Bool) → program bound tokens ≡ Err (deep, length rest) → IsByDepth deep front rest
  by_depth true e = deep_through rest refl e
  by_depth false e = none_proper e

-- where the reader of programs stops, exactly that token is wrong
pub program_exact : (ks : List Kind) (wrong : Wrong) → program MAX_DEPTH ks ≡ Err wrong → IsExact ks wrong
program_exact ks wrong e =
    let some : 0 < MAX_DEPTH = omega arith in
    let s = program_refused MAX_DEPTH ks wrong e in
    let b = program_begun MAX_DEPTH some ks wrong e in
    let c = one_cut b.0 b.1 s.0 s.1 (sym b.2 ∙ s.2) (sym b.3 ∙ s.3) in
    let here : program MAX_DEPTH (s.0 ++ s.1) ≡ Err (wrong.0, length s.1) = ap (program MAX_DEPTH) (sym s.2) ∙ e ∙ ap (λ n. Err (wrong.0, n)) s.3 in record {
      front = s.0;
      rest = s.1;
      cut = s.2;
      left = s.3;
      begun = subst (BeginsSome IsFit) c.0 (begins_placed MAX_DEPTH b.0 b.4);
      none = s.4;
      depth = by_depth MAX_DEPTH some s.0 s.1 wrong.0 here;
    }
