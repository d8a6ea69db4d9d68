-- Where the reader of programs stops, the tokens in front of the wrong one begin a program.
use Rattle.std.proofs.Common.{◌≡◌, ℕ, ◌<◌, List, [], ◌++◌, length, refl, sym, ap, ◌∙◌, inl, inr}
use Rattle.std.specs.Prelude.{Err}
use Rattle.std.specs.List.{flat_map}
use Rattle.hume_base.specs.declared.token.Kind.{Kind}
use Rattle.hume_ast.specs.declared.tree.Decl.{Decl}
use Rattle.hume_ast.specs.Fits.{Each, DeclFits}
use Rattle.parse_readers.specs.inner.Readers.{Wrong}
use Rattle.parse_readers.specs.inner.Items.{Outside}
use Rattle.parse_readers.specs.inner.Programs.{grouped, program}
use Rattle.parse_readers.proofs.ItemsRead.{spelled_item}
use Rattle.parse_readers.proofs.Grouping.{all_spelled, grouped_fit}
use Rattle.parse_readers.proofs.ProgramsRead.{all_tokens}
use Rattle.parse_readers.proofs.Begins.{Begun, Begins, made_begins}
use Rattle.parse_readers.proofs.ItemsBegin.{items_begin}

program_begins : (bound : ℕ) → 0 < bound → Begins all_tokens (Each (DeclFits bound)) (program bound)
program_begins bound some = made_begins (items_begin bound some Outside) grouped all_tokens (Each (DeclFits bound))
    (λ ls f. (grouped_fit bound ls f).0)
    (λ ls f. all_spelled (grouped ls) ∙ ap (flat_map spelled_item) (sym (grouped_fit bound ls f).1))

-- behind these tokens, fit declarations go on with some others
abbrev pub SomeGoOn : ℕ → List Kind → Type 0
SomeGoOn bound front = (decls : List Decl) × (more : List Kind) × Each (DeclFits bound) decls × (all_tokens decls ≡ front ++ more)

-- the tokens in front of the wrong one begin fit declarations
pub program_begun : (bound : ℕ) → 0 < bound → (ks : List Kind) (n : Wrong) → program bound ks ≡ Err n → (front : List Kind) × (rest : List Kind) × (ks ≡ front ++ rest) × (n.1 ≡ length rest) × SomeGoOn bound front
program_begun bound some ks n e = by (program_begins bound some ks n e) where
  by : Begun all_tokens (Each (DeclFits bound)) ks n.1 → (front : List Kind) × (rest : List Kind) × (ks ≡ front ++ rest) × (n.1 ≡ length rest) × SomeGoOn bound front
  by (inl w) = ([], ks, refl, w, ([], [], tt, refl))
  by (inr s) = (s.0, s.1, s.2, s.3, (s.4, s.5, s.6, s.7))
