-- The programs that are read.
use Rattle.std.proofs.Common.{◌≡◌, ℕ, List, [], ◌++◌, map, length, refl, sym, ap, ◌∙◌, subst, append-nil}
use Rattle.std.specs.Prelude.{Ok, Err}
use Rattle.std.specs.List.{flat_map}
use Rattle.hume_base.specs.declared.token.Kind.{Kind}
use Rattle.hume_ast.specs.declared.tree.Decl.{Decl}
use Rattle.hume_ast.specs.Spelling.{beside, spelled_decl}
use Rattle.hume_ast.specs.Fits.{Each, DeclFits}
use Rattle.parse_readers.specs.inner.Readers.{Wrong}
use Rattle.parse_readers.specs.inner.Items.{Outside, items}
use Rattle.parse_readers.specs.inner.Programs.{grouped, program}
use Rattle.parse_readers.proofs.Local.{Splits, SameNext, bind_ok}
use Rattle.parse_readers.proofs.ItemsRead.{spelled_item}
use Rattle.parse_readers.proofs.AllItemsRead.{Over, items_over, items_read}
use Rattle.parse_readers.proofs.Grouping.{all_items, all_spelled, regrouped, all_fit, grouped_fit}
use Rattle.parse_readers.proofs.Forms.{Reads, made_reads}

-- the tokens of declarations
abbrev pub all_tokens : List Decl → List Kind
all_tokens decls = beside (map spelled_decl decls)

pub program_reads : (bound : ℕ) → Reads all_tokens (Each (DeclFits bound)) Over (program bound)
program_reads bound = made_reads (items_read bound Outside) grouped all_tokens (Each (DeclFits bound))
    (λ ls f. (grouped_fit bound ls f).0)
    (λ ls f. all_spelled (grouped ls) ∙ ap (flat_map spelled_item) (sym (grouped_fit bound ls f).1))
    (λ decls f. (all_items decls, regrouped decls, all_fit bound Outside decls tt f))

-- what is read is fit, and spelled by all the tokens
pub program_sound : (bound : ℕ) (ks : List Kind) (decls : List Decl) (rest : List Kind) → program bound ks ≡ Ok (decls, rest) → Each (DeclFits bound) decls × (ks ≡ all_tokens decls) × (rest ≡ [])
program_sound bound ks decls rest e =
    let a = bind_ok (items bound Outside ks) (λ a. Ok (grouped a.0, a.1)) (decls, rest) e in
    let is : (grouped a.0.0, a.0.1) ≡ (decls, rest) = (let g = a.2 in cc) in
    let over : rest ≡ [] = ap (λ (x : List Decl × List Kind). x.1) (sym is) ∙ items_over bound Outside ks a.0 a.1 in
    let s = (program_reads bound).sound ks (decls, rest) e in
    (s.0, s.1 ∙ ap (λ m. all_tokens decls ++ m) over ∙ append-nil (all_tokens decls), over)

-- the tokens of fit declarations are read as them
pub program_complete : (bound : ℕ) (decls : List Decl) → Each (DeclFits bound) decls → program bound (all_tokens decls) ≡ Ok (decls, [])
program_complete bound decls f = ap (program bound) (sym (append-nil (all_tokens decls))) ∙ (program_reads bound).complete decls [] f refl

-- a stop stays where it is, whatever stands behind the wrong token
abbrev pub IsLocalStop : ℕ → List Kind → Wrong → Type 0
IsLocalStop bound ks n = (front : List Kind) × (rest : List Kind) × (ks ≡ front ++ rest) × (n.1 ≡ length rest) × ((others : List Kind) → SameNext rest others → program bound (front ++ others) ≡ Err (n.0, length others))

pub program_stop : (bound : ℕ) (ks : List Kind) (n : Wrong) → program bound ks ≡ Err n → IsLocalStop bound ks n
program_stop bound ks n e = subst (Splits (program bound) ks) e ((program_reads bound).local.at ks)
