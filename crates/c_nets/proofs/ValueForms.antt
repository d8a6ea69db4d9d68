-- What writes a value, form by form.
use Rattle.std.proofs.Common.{◌≡◌, ℕ, List, [], ◌∷◌, map, ap, sym, ◌∙◌, append_assoc}
use Rattle.std.proofs.lemmas.Grind.{common_steps}
use Rattle.hume_base.specs.declared.types.Ty.{Ty, out-Ty}
use Rattle.hume_base.specs.declared.types.Value.{Value, fold-roll-Value, map-Value, roll-Value}
use Rattle.hume_base.specs.declared.types.Value.TheOpen.{Value-F}
use Rattle.hume_base.specs.declared.types.Value.TheVariants as value
use Rattle.c_tree.specs.declared.tree.CExp.{CExp}
use Rattle.c_types.specs.Shapes.{form_of}
use Rattle.c_types.specs.Gathered.{Gathered}
use Rattle.c_nets.specs.Values.{Writes, constructor_written, tuple_written, vector_written, word_written, write_step, writes}

form : (all : Gathered) (object : CExp) (ty : Ty) (v : Value) (x : Value-F Value) → roll-Value x ≡ v
    → writes all v object ty ≡ write_step all.types all.names (map-Value Value Writes (writes all) x) object ty
form all object ty v x is = ap (λ w. writes all w object ty) (sym is)
    ∙ ap (λ (f : Writes). f object ty) (fold-roll-Value Writes (write_step all.types all.names) x)

pub writes_word : (all : Gathered) (object : CExp) (ty : Ty) (word : ℕ)
    → writes all (value.Word word) object ty ≡ word_written object ty word
writes_word all object ty word = form all object ty _ (Value-F.Word word) (value.rolls-Word word)

pub writes_tuple : (all : Gathered) (object : CExp) (ty : Ty) (parts : List Value)
    → writes all (value.Tuple parts) object ty ≡ tuple_written object (map (writes all) parts) (out-Ty ty)
writes_tuple all object ty parts = form all object ty _ (Value-F.Tuple parts) (value.rolls-Tuple parts)

pub writes_vector : (all : Gathered) (object : CExp) (ty : Ty) (parts : List Value)
    → writes all (value.Vector parts) object ty ≡ vector_written object (map (writes all) parts) (out-Ty ty)
writes_vector all object ty parts = form all object ty _ (Value-F.Vector parts) (value.rolls-Vector parts)

pub writes_constructor : (all : Gathered) (object : CExp) (ty : Ty) (place : ℕ) (parts : List Value)
    → writes all (value.Con place parts) object ty
    ≡ constructor_written all.names object place (map (writes all) parts) (form_of all.types ty)
writes_constructor all object ty place parts = form all object ty _ (Value-F.Con place parts) (value.rolls-Con place parts)

pub ruleset value_forms = (common_steps, append_assoc, writes_word, writes_tuple, writes_vector, writes_constructor)
