-- What is said of patterns, form by form.
use Rattle.std.proofs.Common.{◌≡◌, ℕ, Bool, true, false, List, [], ◌∷◌, map, refl, ap, sym, ◌∙◌, ◌&&◌}
use Rattle.std.proofs.lemmas.Grind.{common_steps}
use Rattle.std.specs.List.{list_all}
use Rattle.hume_base.specs.declared.types.Ty.{out-Ty, out-roll-Ty}
use Rattle.hume_base.specs.declared.types.Ty.TheOpen.{Ty-F}
use Rattle.hume_base.specs.declared.types.Ty.TheVariants as shape
use Rattle.hume_model.specs.declared.core_tree.PatC.{PatC, out-PatC, out-roll-PatC, fold-roll-PatC}
use Rattle.hume_model.specs.declared.core_tree.PatC.TheOpen.{PatC-F}
use Rattle.hume_model.specs.declared.core_tree.PatC.TheVariants as pat
use Rattle.hume_model.specs.Completeness.{irrefutable_step, is_irrefutable}

pub irrefutable-var : is_irrefutable pat.Var ≡ true
irrefutable-var = ap is_irrefutable (sym pat.rolls-Var) ∙ fold-roll-PatC Bool irrefutable_step PatC-F.Var

pub irrefutable-any : is_irrefutable pat.Any ≡ true
irrefutable-any = ap is_irrefutable (sym pat.rolls-Any) ∙ fold-roll-PatC Bool irrefutable_step PatC-F.Any

pub irrefutable-word : (w : ℕ) → is_irrefutable (pat.Word w) ≡ false
irrefutable-word w = ap is_irrefutable (sym (pat.rolls-Word w)) ∙ fold-roll-PatC Bool irrefutable_step (PatC-F.Word w)

pub irrefutable-con : (c : ℕ) (ps : List PatC) → is_irrefutable (pat.Con c ps) ≡ false
irrefutable-con c ps = ap is_irrefutable (sym (pat.rolls-Con c ps)) ∙ fold-roll-PatC Bool irrefutable_step (PatC-F.Con c ps)

all_parts : (ps : List PatC) → list_all (λ part. part) (map is_irrefutable ps) ≡ list_all is_irrefutable ps
all_parts [] = refl
all_parts (p ∷ ps) = ap (λ b. is_irrefutable p && b) (all_parts ps)

pub irrefutable-tuple : (ps : List PatC) → is_irrefutable (pat.Tuple ps) ≡ list_all is_irrefutable ps
irrefutable-tuple ps = ap is_irrefutable (sym (pat.rolls-Tuple ps)) ∙ fold-roll-PatC Bool irrefutable_step (PatC-F.Tuple ps) ∙ all_parts ps

pub out-var : out-PatC pat.Var ≡ PatC-F.Var
out-var = ap out-PatC (sym pat.rolls-Var) ∙ out-roll-PatC PatC-F.Var

pub out-any : out-PatC pat.Any ≡ PatC-F.Any
out-any = ap out-PatC (sym pat.rolls-Any) ∙ out-roll-PatC PatC-F.Any

pub out-word : (w : ℕ) → out-PatC (pat.Word w) ≡ PatC-F.Word w
out-word w = ap out-PatC (sym (pat.rolls-Word w)) ∙ out-roll-PatC (PatC-F.Word w)

pub out-con : (c : ℕ) (ps : List PatC) → out-PatC (pat.Con c ps) ≡ PatC-F.Con c ps
out-con c ps = ap out-PatC (sym (pat.rolls-Con c ps)) ∙ out-roll-PatC (PatC-F.Con c ps)

pub out-tuple : (ps : List PatC) → out-PatC (pat.Tuple ps) ≡ PatC-F.Tuple ps
out-tuple ps = ap out-PatC (sym (pat.rolls-Tuple ps)) ∙ out-roll-PatC (PatC-F.Tuple ps)

pub out-bool : out-Ty shape.Bool ≡ Ty-F.Bool
out-bool = ap out-Ty (sym shape.rolls-Bool) ∙ out-roll-Ty Ty-F.Bool

pub out-named : (number : ℕ) → out-Ty (shape.Named number) ≡ Ty-F.Named number
out-named number = ap out-Ty (sym (shape.rolls-Named number)) ∙ out-roll-Ty (Ty-F.Named number)

pub out-char : out-Ty shape.Char ≡ Ty-F.Char
out-char = ap out-Ty (sym shape.rolls-Char) ∙ out-roll-Ty Ty-F.Char

pub ruleset pattern_forms = (common_steps, irrefutable-var, irrefutable-any, irrefutable-word, irrefutable-con, irrefutable-tuple, out-var, out-any, out-word, out-con, out-tuple, out-bool, out-named, out-char)
