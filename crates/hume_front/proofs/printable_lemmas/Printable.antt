-- Types that a source may write, and types whose texts have a bound.
use Rattle.std.proofs.Common.{◌≡◌, ℕ, ◌&&◌, nat_le, Bool, true, List, [], ◌∷◌, map, length, Some, slice_get, refl, ◌∙◌, sym, subst, arith}
use Rattle.std.specs.List.{list_all, AllByRecursion}
use Rattle.std.proofs.lemmas.Bool.{and_parts, leb-true, le-leb}
use Rattle.std.proofs.lemmas.List.{length-map}
use Rattle.std.proofs.lemmas.List.Elements.{recursion_from_All}
use Rattle.hume_base.specs.declared.types.Ty.{Ty, roll-Ty, map-Ty, fold-roll-Ty, ind-Ty}
use Rattle.hume_base.specs.declared.types.Ty.TheOpen.{Ty-F}
use Rattle.hume_base.specs.declared.types.Types.{Types}
use Rattle.hume_base.specs.declared.types.ConDef.{ConDef}
use Rattle.hume_model.specs.declared.core_tree.Core.{Core}
use Rattle.hume_model.specs.declared.core_tree.WireC.{WireC}
use Rattle.hume_model.specs.TypeLimits.{type_step, is_type, IsWrittenType}
use Rattle.hume_model.specs.Limits.{IsSmallConstructor}
use Rattle.hume_model.specs.WellFormed.{IsWellFormed}
use Rattle.hume_model.proofs.WellFormedCores.{readable_sizes}
use Rattle.hume_text.specs.Bounds.{limits_step, keeps_limits, IsWritable, IsWritableCon, AreWritable, HaveWrittenSizes, IsPrintable}

both : (a b : Bool) → a ≡ true → b ≡ true → (a && b) ≡ true
both a b p q = rw (p, q) refl

module _ (types : Types) where
  abbrev Keeps : Ty → Type 0
  Keeps ty = is_type types ty ≡ true → keeps_limits ty ≡ true

  abbrev Part : Type 0
  Part = (ty : Ty) × Keeps ty

  abbrev of_part : Part → Ty
  of_part p = p.0

  parts_keep : (ps : List Part) → list_all (λ part. part) (map (is_type types) (map of_part ps)) ≡ true
      → list_all (λ part. part) (map keeps_limits (map of_part ps)) ≡ true
  parts_keep [] h = refl
  parts_keep (p ∷ ps) h = let hs = and_parts _ _ h in both _ _ (p.1 hs.0) (parts_keep ps hs.1)

  -- a tuple has a part
  some_part : (ps : List Part) → nat_le 2 (length (map (is_type types) (map of_part ps))) ≡ true → nat_le 1 (length (map keeps_limits (map of_part ps))) ≡ true
  some_part ps h = le-leb 1 _ (omega (arith, leb-true 2 _ h, length-map (map of_part ps) (is_type types), length-map (map of_part ps) keeps_limits))

  level : (y : Ty-F Part) → type_step (length types.sums) (map-Ty Ty Bool (is_type types) (map-Ty Part Ty of_part y)) ≡ true
      → limits_step (map-Ty Ty Bool keeps_limits (map-Ty Part Ty of_part y)) ≡ true
  level Ty-F.Bool h = refl
  level Ty-F.Char h = refl
  level (Ty-F.Int bits) h = (and_parts _ _ h).1
  level (Ty-F.Nat bits) h = (and_parts _ _ h).1
  level (Ty-F.Tuple ps) h =
      let hs = and_parts _ _ h in
      both _ _ (some_part ps (and_parts _ _ hs.0).0) (parts_keep ps hs.1)
  level (Ty-F.Vector count p) h =
      let hs = and_parts _ _ h in
      both _ _ (and_parts _ _ hs.0).0 (p.1 hs.1)
  level (Ty-F.Named number) h = refl

  at_roll : (y : Ty-F Part) → Keeps (roll-Ty (map-Ty Part Ty of_part y))
  at_roll y h =
      let there = map-Ty Part Ty of_part y in
      fold-roll-Ty Bool limits_step there ∙ level y (sym (fold-roll-Ty Bool (type_step (length types.sums)) there) ∙ h)

  keeps : (ty : Ty) → Keeps ty
  keeps = ind-Ty Keeps (λ x y is. subst (λ z. Keeps (roll-Ty z)) is (at_roll y))

  -- a type that stands in a source has texts of a bounded length
  pub writable : (ty : Ty) → IsWrittenType types ty → IsWritable ty
  writable ty h = record { depth = h.depth; limits = keeps ty h.parts }

  all_writable : (tys : List Ty) → AllByRecursion (IsWrittenType types) tys → AllByRecursion IsWritable tys
  all_writable [] h = tt
  all_writable (ty ∷ tys) h = (writable ty h.0, all_writable tys h.1)

  writable_con : (con : ConDef) → IsSmallConstructor types con → IsWritableCon con
  writable_con con h = record {
    name = h.name.bytes;
    fields = all_writable con.fields (recursion_from_All (IsWrittenType types) con.fields h.each_field);
  }

  pub writable_cons : (cons : List ConDef) → AllByRecursion (IsSmallConstructor types) cons → AllByRecursion IsWritableCon cons
  writable_cons [] h = tt
  writable_cons (con ∷ cons) h = (writable_con con h.0, writable_cons cons h.1)

module _ (core : Core) (formed : IsWellFormed core) where
  others_writable : AreWritable core.types
  others_writable number sum there =
      writable_cons core.types sum.cons
      (recursion_from_All (IsSmallConstructor core.types) sum.cons (formed.frame.limits.each_data_type number sum there).each_constructor)

  sizes_written : HaveWrittenSizes core.types
  sizes_written number sum there = (readable_sizes core formed number sum there).words

  pub printable : (w : ℕ) (wire : WireC) → slice_get core.wires w ≡ Some wire → IsPrintable core.types wire.ty
  printable w wire there = record {
    own = writable core.types wire.ty (formed.frame.wires w wire there).written;
    others = others_writable;
    sizes = sizes_written;
  }
