-- Reading an item, step by step, as the code goes.
use Rattle.std.proofs.Common.{◌≡◌, ℕ, ◌-◌, List, length, drop, true, false, refl, sym, ap, ◌∙◌, arith, length-append}
use Rattle.hume_base.specs.declared.limits.TheConstants.{MAX_DEPTH}
use Rattle.std.specs.Prelude.{Ok}
use Rattle.std.proofs.lemmas.List.{drop_at, drop-map}
use Rattle.hume_base.specs.declared.token.Kind.{Kind}
use Rattle.hume_base.specs.declared.token.Token.{Token}
use Rattle.hume_ast.specs.Places.{kinds}
use Rattle.hume_parse.specs.inner.Items.{named, signed}
use Rattle.parse_readers.specs.inner.Readers.{made}
use Rattle.parse_readers.specs.inner.Declarations.{whole_decl}
use Rattle.parse_readers.specs.inner.Items.{Item as Line, Whole, Expecting as Place, Outside, Wanting, Within, signature_item as signature_line, equation_item as equation_line, behind_name, named_item as named_line, item as line}
use Rattle.parse_readers.proofs.ItemsRead.{spelled_item as spelled_line, item_reads as line_reads}
use Rattle.parse_errors.proofs.ReportedPlaces.{kinds_length}

pub line_named : (place : Place) (ks : List Kind) → named place ks ≡ true → line MAX_DEPTH place ks ≡ named_line MAX_DEPTH place ks
line_named Outside ks t = rw t
line_named Wanting ks t = refl
line_named Within ks t = rw t

pub line_whole : (place : Place) (ks : List Kind) → named place ks ≡ false → line MAX_DEPTH place ks ≡ made Whole (whole_decl MAX_DEPTH) ks
line_whole Outside ks t = rw t
line_whole Wanting ks t = cc
line_whole Within ks t = rw t

pub behind_signature : (place : Place) (name : List ℕ) (ks : List Kind) → signed place ks ≡ true → behind_name MAX_DEPTH place name ks ≡ signature_line MAX_DEPTH name ks
behind_signature Outside name ks t = refl
behind_signature Wanting name ks t = cc
behind_signature Within name ks t = rw t

pub behind_equation : (place : Place) (name : List ℕ) (ks : List Kind) → signed place ks ≡ false → behind_name MAX_DEPTH place name ks ≡ equation_line MAX_DEPTH name ks
behind_equation Outside name ks t = cc
behind_equation Wanting name ks t = refl
behind_equation Within name ks t = rw t

-- the end of the tokens that is as long as what is behind the item has the same kinds
pub same_end : (place : Place) (all after : List Token) (l : Line) (n : ℕ) → line MAX_DEPTH place (kinds all) ≡ Ok (l, kinds after) → n ≡ length all - length after → kinds (drop n all) ≡ kinds after
same_end place all after l n e is =
    let s = ((line_reads MAX_DEPTH place).sound (kinds all) (l, kinds after) e).1 in
    let long : length (spelled_line l) ≡ n = omega (arith, is, ap length s, length-append (spelled_line l) (kinds after), kinds_length all, kinds_length after) in
    sym (drop-map (λ (token : Token). token.kind) n all) ∙ ap (drop n) s ∙ drop_at (spelled_line l) (kinds after) n long

pub ruleset item_steps = (line_named, line_whole)

pub ruleset named_steps = (behind_signature, behind_equation)
