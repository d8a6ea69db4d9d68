-- The wires that are found.
use Rattle.std.specs.Prelude.{ℕ, ◌&&◌, List, Bool, true, false, Option, Some, None}
use Rattle.hume_base.specs.Places.{line_at}
use Rattle.hume_base.specs.declared.types.Ty.{Ty}
use Rattle.hume_base.specs.declared.types.Value.{Value}
use Rattle.hume_ast.specs.declared.tree.Exp.{Exp}
use Rattle.hume_ast.specs.declared.tree.Decl.{Decl}
use Rattle.hume_model.specs.declared.core_tree.NodeC.{NodeC}
use Rattle.hume_model.specs.declared.core_tree.WireC.{WireC}
use Rattle.hume_model.specs.WireEnds.{is_stream, output_type, input_type, type_of_ends}
use Rattle.check_typing.specs.Partial.{given}
use Rattle.check_typing.specs.inner.DeclarationWalk.{found_of_all}
use Rattle.check_typing.specs.declared.signatures.Signatures.{Signatures}
use Rattle.check_rules.specs.Declared.{Decls, Numbered, WireDecl, wires_in}
use Rattle.check_rules.specs.Constants.{constant}
use Rattle.check_rules.specs.CoreOf.{output_place, input_place, depth_or_one}
use Rattle.check_wires.specs.declared.cores.joined.Declared.{Declared}
use Rattle.check_wires.specs.cores.inner.FoundEnds.{FoundEnd, end_of}

-- a wire that is declared, without where its ends and its first value lie
abbrev pub declared : Declared → WireDecl
declared w = record { number = w.number; place = w.place; from = w.from.now; to = w.to.now; depth = w.depth; initial = w.initial.now }

abbrev pub numbered : ℕ → ℕ × Decl → Numbered
numbered n d = record { number = n; place = d.0; decl = d.1 }

abbrev pub type_between : FoundEnd → FoundEnd → Ty
type_between from to = type_of_ends (output_type from.node from.place) (input_type to.node to.place)

-- the first value, or none; missing where what is written is no value of the type
abbrev pub first_value : Bool → Signatures → Ty → Option Exp → Option (Option Value)
first_value true signatures ty e = Some None
first_value false signatures ty None = Some None
first_value false signatures ty (Some e) = given (constant signatures e ty) (λ v. Some (Some v))

abbrev pub wire_between : Signatures → ℕ → WireDecl → FoundEnd → FoundEnd → Option WireC
wire_between signatures at w source target =
    given (first_value (is_stream source.node && is_stream target.node) signatures (type_between source target) w.initial) (λ first. Some (record {
      line = at;
      declaration = w.number;
      from = source.number;
      from_port = source.place;
      to = target.number;
      to_port = target.place;
      ty = type_between source target;
      depth = depth_or_one w.depth;
      initial = first;
    }))

-- the core of a wire, missing where an end is nowhere or the first value is none of its type
abbrev pub core_of : List ℕ → Signatures → List NodeC → WireDecl → Option WireC
core_of text signatures nodes w =
    given (end_of output_place nodes w.from) (λ source.
    given (end_of input_place nodes w.to) (λ target.
    wire_between signatures (line_at text w.place) w source target))

abbrev pub cores_of : List ℕ → Signatures → List NodeC → Decls → Option (List WireC)
cores_of text signatures nodes decls = found_of_all (core_of text signatures nodes) (wires_in decls)
