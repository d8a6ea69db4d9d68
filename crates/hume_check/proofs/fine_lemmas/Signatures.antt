-- A program that breaks no rule on names and counts has signatures.
use Rattle.std.proofs.Common.{◌≡◌, ℕ, ◌+◌, List, [], ◌∷◌, ◌++◌, map, length, Option, Some, None, refl, ap, sym, ◌∙◌, append_assoc}
use Rattle.std.proofs.lemmas.List.{append-nil, map-append}
use Rattle.hume_base.specs.declared.finding.Finding.{Finding}
use Rattle.hume_base.specs.declared.types.ConDef.{ConDef}
use Rattle.hume_base.specs.declared.types.SumDef.{SumDef}
use Rattle.hume_base.specs.declared.types.Types.{Types}
use Rattle.hume_base.specs.Sizes.{named_size, sizes_with, greatest, written_size, HaveTheirSizes}
use Rattle.hume_ast.specs.Fits.{DeclsFit}
use Rattle.check_tables.specs.graph.Orders.{IsOrder}
use Rattle.check_names.specs.declared.mention_list.NameKind.TheVariants as kind
use Rattle.check_names.specs.Leading.{graph_of}
use Rattle.check_names.specs.Misnamed.{BreaksNames}
use Rattle.hume_model.specs.OwnExceptions.{own_exceptions}
use Rattle.check_typing.specs.declared.signatures.Signatures.{Signatures}
use Rattle.check_rules.specs.Declared.{Decls}
use Rattle.check_rules.specs.SignaturesOf.{AreSignatures}
use Rattle.check_rules.specs.CheckRules.{BreaksCounts}
use Rattle.check_signatures.specs.inner.Named.{Numbers, DataType, data_types_in, exceptions_in, functions_in, numbers_in, without_size, AreWritten, IsUnwritten}
use Rattle.check_signatures.proofs.Existing.{all_is_written}
use Rattle.check_signatures.proofs.Meant.{are_signatures}
use Rattle.check_signatures.proofs.Words.{grown}
use Rattle.hume_check.proofs.fine_lemmas.Orders.{an_order}

-- data types with their sizes
record AreSized (sums : List DataType) : Type 0 where
  types : Types
  sizes : HaveTheirSizes types
  same : map without_size types.sums ≡ sums

-- more data types, of which each holds only earlier ones
more_sized : (types : Types) → HaveTheirSizes types → (others : List DataType) → AreSized (map without_size types.sums ++ others)
more_sized types sizes [] = record { types = types; sizes = sizes; same = sym (append-nil (map without_size types.sums)) }
more_sized types sizes (d ∷ others) =
    let sum : SumDef = record {
      name = d.0;
      cons = d.1;
      words = written_size (1 + greatest (map (λ (con : ConDef). sizes_with (named_size types (length types.sums)) con.fields) d.1));
    } in
    let r = more_sized (record { sums = types.sums ++ sum ∷ [] }) (grown types sum sizes refl) others in
    record {
      types = r.types;
      sizes = r.sizes;
      same = r.same ∙ ap (λ l. l ++ others) (map-append without_size types.sums (sum ∷ [])) ∙ append_assoc (map without_size types.sums) (d ∷ []) others;
    }

sized : (ds : List DataType) → AreSized ds
sized ds = more_sized (record { sums = [] }) (λ number sum e. cc) ds

-- what cannot be missing is there
there : {A : Type 0} (o : Option A) → (o ≡ None → ⊥) → (x : A) × (o ≡ Some x)
there None h = absurd (h refl)
there (Some x) h = (x, refl)

module _ (decls : Decls) (bound : ℕ) (fit : DeclsFit bound decls) (named : (f : Finding) → BreaksNames decls f → ⊥)
    (counts : (f : Finding) → BreaksCounts decls f → ⊥) where
  data_order : (order : List ℕ) × IsOrder (graph_of kind.DataType decls) order
  data_order = an_order (graph_of kind.DataType decls)

  function_order : (order : List ℕ) × IsOrder (graph_of kind.Function decls) order
  function_order = an_order (graph_of kind.Function decls)

  abbrev numbers : Numbers
  numbers = numbers_in decls data_order.0

  written : IsUnwritten numbers decls data_order.0 function_order.0 → ⊥
  written un = all_is_written decls data_order.0 data_order.1 named counts bound fit function_order.0 un

  are_written : (s : Signatures) × AreWritten numbers decls data_order.0 function_order.0 s
  are_written =
      let data_types = there (data_types_in numbers decls data_order.0) (λ e. written (IsUnwritten.no_data_types e)) in
      let exceptions = there (exceptions_in numbers decls) (λ e. written (IsUnwritten.no_exceptions e)) in
      let functions = there (functions_in numbers decls function_order.0) (λ e. written (IsUnwritten.no_functions e)) in
      let whole = sized data_types.0 in (
        record { types = whole.types; exns = own_exceptions ++ exceptions.0; funs = functions.0 },
        record {
          data_types = data_types.1 ∙ ap Some (sym whole.same);
          sizes = whole.sizes;
          declared = exceptions.0;
          exceptions = exceptions.1;
          all_exceptions = refl;
          functions = functions.1;
        },
      )

  -- the program has signatures
  pub some_signatures : (signatures : Signatures) × AreSignatures decls signatures
  some_signatures =
      let w = are_written in
      (w.0, (are_signatures decls data_order.0 function_order.0 data_order.1 function_order.1 w.0 w.1).0)
